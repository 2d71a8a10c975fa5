-- The journal after an input, by what the code does with it; and what a valid state says of its shared state.
use mathlib.Core.Path.{◌≡◌, sym, ap, ◌∙◌}
use mathlib.Core.Bool.{true}
use mathlib.Core.List.{List, ◌++◌}
use Prim.Native.Nat.{ℕ, ◌+◌, ◌-◌, ◌≤◌}
use native.Mathlib.Omega.{arith}
use borrow.Author.Tests.{leb-true}
use lib.Dec.{leb}
use lib.ListN.{length, take, drop, length-take, length-drop}
use lib.Seq.{paste}
use Rattle.hazards.specs.Lists.{all}
use Rattle.hazards.specs.Draws.{stream_length}
use Rattle.hazards.proofs.Cases.{both_true}
use Rattle.engine.specs.State.{SharedState, EngineState}
use Rattle.engine.specs.Validation.{valid_slot, valid_queue, valid_shared, valid_state}
use Rattle.engine.specs.Engine.{Bytes, Engine, carry_out, code, cut, classify}
use Rattle.engine.specs.Replay.{cleared}
use Rattle.engine.specs.Execute.{act, execute}
use Rattle.engine.specs.Instance.{engine_of}
use Rattle.engine.specs.Journal.{copied_into, cleared_front}
use Rattle.engine.proofs.JournalBytes.{rest_of, zeroed_part, pasted_part}
use Rattle.engine.proofs.PartLaws.{copied_whole, cleared_whole}

-- ---- a valid state

pub record Within (n : ℕ) (p : SharedState) : Type 0 where
  pub queued : p.queued ≤ 16
  pub applied : p.applied_length ≤ n
  pub requests : p.request_count ≤ p.applied_length

pub valid_within : (stream : List ℕ) (n : ℕ) (s : EngineState) → valid_state stream n s ≡ true → Within n s.shared
unfolding valid_state valid_queue valid_shared
valid_within stream n s v =
    let p = s.shared in
    let q = both_true (all valid_slot s.slots) _ v in
    let r = both_true (valid_queue s) (valid_shared stream n p) q.1 in
    let t = both_true (leb p.position (stream_length stream)) _ r.1 in
    let u = both_true (leb p.applied_length n) _ t.1 in
    record {
      queued = leb-true p.queued 16 (both_true (leb p.queued 16) _ r.0).0;
      applied = leb-true p.applied_length n u.0;
      requests = leb-true p.request_count p.applied_length u.1;
    }

-- ---- the journal

-- the last command reverted, and its bytes cleared in the part of the journal from its place on
module _ (stream : List ℕ) (j z : Bytes) (last k : ℕ) where
  pub cleared_journal : last ≤ k → k ≤ length j → z ≡ cleared_front (take (length j - last) (drop last j)) (k - last)
      → take last j ++ (z ++ drop (length j - last) (drop last j)) ≡ cleared (engine_of stream (length j)) j last k
  cleared_journal h₁ h₂ q =
      let l : k - last ≤ length (take (length j - last) (drop last j)) = simp (length-take, length-drop) (omega arith) in
      zeroed_part j z last k h₁ h₂ (q ∙ cleared_whole (take (length j - last) (drop last j)) (k - last) l)

-- copied into the part of the journal from k on
pub copied_journal : (j y c : Bytes) (k : ℕ) → k + length c ≤ length j → y ≡ copied_into (rest_of j k) c
    → take k j ++ (y ++ drop (length j - k) (drop k j)) ≡ paste j k c (length c)
copied_journal j y c k room q =
    let l : length c ≤ length (rest_of j k) = simp (length-take, length-drop) (omega arith) in
    pasted_part j y c k (omega arith) (q ∙ copied_whole (rest_of j k) c l)

-- ---- a command

-- a command of which its own bytes are asked for
pub executes : (E : Engine) (s : E.State) (j i : Bytes) (w : ℕ) → w ≡ E.width (code i) → classify E s i ≡ carry_out (cut E i)
    → execute E s j i ≡ act E s j (carry_out (take w i))
unfolding execute
executes E s j i w e u = ap (act E s j) (u ∙ ap (λ (k : ℕ). carry_out (take k i)) (sym e))
