-- What the bytes given to an engine ask for, the replay by one command, UNDO and the execution of one command: a law for each case.
use Prim.Native.Nat.{ℕ, zero, suc, ◌+◌, ◌-◌, ◌<◌, ◌≤◌}
use mathlib.Core.Path.{◌≡◌, refl, sym, ap, ◌∙◌}
use mathlib.Core.List.{[], ◌∷◌}
use mathlib.Core.Option.{Option, none, some}
use mathlib.Core.Bool.{true, false}
use native.Mathlib.Omega.{arith}
use borrow.Author.Tests.{le-ltb, lt-ltb, le-leb, lt-leb, eq-eqb, ne_eqb}
use lib.ListN.{length, take, drop, length-drop}
use lib.Seq.{length-take-le, drop-drop, paste}
use Rattle.hazards.specs.Refusals.{invalid_state}
use Rattle.engine.specs.Commands as commands
use Rattle.engine.specs.Refusals.{cut_short, no_command, nothing_applied, replay_fails}
use Rattle.engine.specs.Engine.{Bytes, Engine, Asked, reject, undo_last, carry_out, code, cut, classify, Performed, rejected, performed}
use Rattle.engine.specs.Engine.{unchanged, reverted, completed}
use Rattle.engine.specs.Replay.{undo, cleared}
use Rattle.engine.specs.Execute.{execute, act, write}
use Rattle.engine.specs.ReplayInternals.{command_at, width_after, fails, ends, replay_from, replay_all}
use Rattle.engine.proofs.Replays.{Asks, asks, replay_end}
use Rattle.engine.proofs.Splits.{undo_scans}

module _ (E : Engine) (s : E.State) (i : Bytes) where
  pub asks_invalid : E.valid s ≡ false → classify E s i ≡ reject invalid_state
  unfolding classify
  asks_invalid v = simp v

  module _ (v : E.valid s ≡ true) where
    pub asks_nothing : length i ≤ 0 → classify E s i ≡ reject cut_short
    unfolding classify
    asks_nothing h = simp (v, le-ltb 0 (length i) h)

    module _ (h : 0 < length i) where
      pub asks_no_command : E.width (code i) ≤ 0 → classify E s i ≡ reject no_command
      unfolding classify
      asks_no_command w = simp (v, lt-ltb 0 (length i) h, le-ltb 0 (E.width (code i)) w)

      pub asks_part : 0 < E.width (code i) → length i < E.width (code i) → classify E s i ≡ reject cut_short
      unfolding classify
      asks_part w l = simp (v, lt-ltb 0 (length i) h, lt-ltb 0 (E.width (code i)) w, lt-leb (E.width (code i)) (length i) l)

      pub asks_undo : 0 < E.width (code i) → E.width (code i) ≤ length i → code i ≡ commands.undo → classify E s i ≡ undo_last
      unfolding classify
      asks_undo w l e =
          simp (
            v,
            lt-ltb 0 (length i) h,
            lt-ltb 0 (E.width (code i)) w,
            le-leb (E.width (code i)) (length i) l,
            eq-eqb (code i) commands.undo e,
          )

      pub asks_command : 0 < E.width (code i) → E.width (code i) ≤ length i → (code i ≡ commands.undo → ⊥)
          → classify E s i ≡ carry_out (cut E i)
      unfolding classify
      asks_command w l e =
          simp (
            v,
            lt-ltb 0 (length i) h,
            lt-ltb 0 (E.width (code i)) w,
            le-leb (E.width (code i)) (length i) l,
            ne_eqb (code i) commands.undo e,
          )

abbrev width_or : {A : Type 0} → Option (A × ℕ) → ℕ
width_or none = 0
width_or (some p) = p.1

-- a command at the front of the bytes takes some of them
pub one_fits : (E : Engine) (s : E.State) (i : Bytes) (p : E.State × ℕ) → command_at E s (classify E s i) ≡ some p
    → (0 < p.1) × (p.1 ≤ length i)
one_fits E s i p = by_ask (classify E s i) refl
  where
    never : none ≡ some p → ⊥
    never e = let z : ◌≡◌ {A = ℕ} 0 1 = cc in omega arith

    by_did : (c : Bytes) (d : Performed E.State E.Answer) → classify E s i ≡ carry_out c → width_after E c d ≡ some p
        → (0 < p.1) × (p.1 ≤ length i)
    by_did c (rejected n) q e = absurd (never e)
    by_did c (performed t a) q e =
        let k : Asks E s i c = asks E s i c q in
        let ec : cut E i ≡ c = cc k.cutting in
        let l : length c ≡ E.width (code i) = ap length (sym ec) ∙ length-take-le (E.width (code i)) i k.long in
        let ep : length c ≡ p.1 = ap (λ (o : Option (E.State × ℕ)). width_or o) e in
        (omega (arith, k.wide), omega (arith, k.long))

    by_ask : (k : Asked) → classify E s i ≡ k → command_at E s k ≡ some p → (0 < p.1) × (p.1 ≤ length i)
    by_ask (reject n) q e = absurd (never e)
    by_ask undo_last q e = absurd (never e)
    by_ask (carry_out c) q e = by_did c (E.perform s c) q e

module _ (E : Engine) where
  -- the replay by what its first command gives
  pub replay-fails : (k : ℕ) (s before : E.State) (last at : ℕ) (i : Bytes) → 0 < length i → command_at E s (classify E s i) ≡ none
      → replay_from E k s before last at i ≡ fails
  unfolding replay_from
  replay-fails k s before last at [] h e = absurd (omega arith)
  replay-fails zero s before last at (b ∷ bs) h e = refl
  replay-fails (suc k) s before last at (b ∷ bs) h e = rw (e, replay_from)

  pub replay_next : (k : ℕ) (s before : E.State) (last at : ℕ) (i : Bytes) (p : E.State × ℕ) → 0 < length i
      → command_at E s (classify E s i) ≡ some p
      → replay_from E (suc k) s before last at i ≡ replay_from E k p.0 s at (at + p.1) (drop p.1 i)
  unfolding replay_from
  replay_next k s before last at [] p h e = absurd (omega arith)
  replay_next k s before last at (b ∷ bs) p h e = rw (e, replay_from)

  -- more fuel than bytes changes nothing
  pub replay_fuel : (k m : ℕ) (s before : E.State) (last at : ℕ) (i : Bytes) → length i ≤ k → length i ≤ m
      → replay_from E k s before last at i ≡ replay_from E m s before last at i
  replay_fuel zero m s before last at [] hk hm = replay_end E zero s before last at ∙ sym (replay_end E m s before last at)
  replay_fuel zero m s before last at (b ∷ bs) hk hm = absurd (omega arith)
  replay_fuel (suc k) m s before last at [] hk hm = replay_end E (suc k) s before last at ∙ sym (replay_end E m s before last at)
  replay_fuel (suc k) zero s before last at (b ∷ bs) hk hm = absurd (omega arith)
  replay_fuel (suc k) (suc m) s before last at (b ∷ bs) hk hm = go (command_at E s (classify E s (b ∷ bs))) refl
      (λ t f a j h₁ h₂. replay_fuel k m t s f a j h₁ h₂)
    where
      i : Bytes
      i = b ∷ bs

      go : (o : Option (E.State × ℕ)) → command_at E s (classify E s i) ≡ o
          → ((t : E.State) (f a : ℕ) (j : Bytes) → length j ≤ k → length j ≤ m → replay_from E k t s f a j ≡ replay_from E m t s f a j)
          → replay_from E (suc k) s before last at i ≡ replay_from E (suc m) s before last at i
      go none e ih = replay-fails (suc k) s before last at i (omega arith) e ∙ sym (replay-fails (suc m) s before last at i (omega arith) e)
      go (some p) e ih =
          let f : (0 < p.1) × (p.1 ≤ length i) = one_fits E s i p e in
          let l : length (drop p.1 i) ≡ length i - p.1 = length-drop p.1 i in
          replay_next k s before last at i p (omega arith) e
          ∙ ih p.0 at (at + p.1) (drop p.1 i) (omega arith) (omega arith)
          ∙ sym (replay_next m s before last at i p (omega arith) e)

  -- one turn of the loop that replays
  pub replay_turn : (bytes : Bytes) (s before : E.State) (last at : ℕ) (p : E.State × ℕ) → at < length bytes
      → command_at E s (classify E s (drop at bytes)) ≡ some p
      → replay_from E (length bytes - at) s before last at (drop at bytes)
      ≡ replay_from E (length bytes - (at + p.1)) p.0 s at (at + p.1) (drop (at + p.1) bytes)
  replay_turn bytes s before last at p h e =
      let l : length (drop at bytes) ≡ length bytes - at = length-drop at bytes in
      let f : (0 < p.1) × (p.1 ≤ length (drop at bytes)) = one_fits E s (drop at bytes) p e in
      let k : length bytes - at ≡ suc (length bytes - at - 1) = omega arith in
      let m : length (drop (at + p.1) bytes) ≡ length bytes - (at + p.1) = length-drop (at + p.1) bytes in
      ap (λ (x : ℕ). replay_from E x s before last at (drop at bytes)) k
      ∙ replay_next (length bytes - at - 1) s before last at (drop at bytes) p (omega arith) e
      ∙ ap (replay_from E (length bytes - at - 1) p.0 s at (at + p.1)) (drop-drop p.1 at bytes)
      ∙ replay_fuel (length bytes - at - 1) (length bytes - (at + p.1)) p.0 s at (at + p.1) (drop (at + p.1) bytes) (omega arith)
      (omega arith)

-- UNDO
module _ (E : Engine) (s : E.State) (j : Bytes) where
  pub undo_nothing : E.applied_length s ≤ 0 → undo E s j ≡ unchanged E s j nothing_applied
  unfolding undo
  undo_nothing h = simp (le-ltb 0 (E.applied_length s) h)

  module _ (h : 0 < E.applied_length s) where
    pub undo_fails : replay_all E (take (E.applied_length s) j) ≡ fails → undo E s j ≡ unchanged E s j replay_fails
    undo_fails e = undo_scans E s j ∙ simp (lt-ltb 0 (E.applied_length s) h, e)

    pub undo_other : (t before : E.State) (last : ℕ) → replay_all E (take (E.applied_length s) j) ≡ ends t before last → E.same t s ≡ false
        → undo E s j ≡ unchanged E s j replay_fails
    undo_other t before last e d = undo_scans E s j ∙ simp (lt-ltb 0 (E.applied_length s) h, e, d)

    pub undo_reverts : (t before : E.State) (last : ℕ) → replay_all E (take (E.applied_length s) j) ≡ ends t before last
        → E.same t s ≡ true
        → undo E s j ≡ record { reply = reverted; state = before; journal = cleared E j last (E.applied_length s) }
    undo_reverts t before last e d = undo_scans E s j ∙ simp (lt-ltb 0 (E.applied_length s) h, e, d)

-- execution
module _ (E : Engine) (s : E.State) (j i : Bytes) where
  pub execute_rejects : (n : ℕ) → classify E s i ≡ reject n → execute E s j i ≡ unchanged E s j n
  unfolding execute
  execute_rejects n e = ap (act E s j) e

  pub execute_undo : classify E s i ≡ undo_last → execute E s j i ≡ undo E s j
  unfolding execute
  execute_undo e = ap (act E s j) e

  pub execute_refused : (c : Bytes) (n : ℕ) → classify E s i ≡ carry_out c → E.perform s c ≡ rejected n → execute E s j i ≡ unchanged E s j n
  unfolding execute
  execute_refused c n e d = ap (act E s j) e ∙ ap (write E s j c) d

  pub execute_performs : (c : Bytes) (t : E.State) (a : E.Answer) → classify E s i ≡ carry_out c → E.perform s c ≡ performed t a
      → execute E s j i ≡ record { reply = completed a; state = t; journal = paste j (E.applied_length s) c (length c) }
  unfolding execute
  execute_performs c t a e d = ap (act E s j) e ∙ ap (write E s j c) d
