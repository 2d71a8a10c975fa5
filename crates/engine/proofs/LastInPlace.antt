-- The replay in lent memory that keeps what its last command changes: the commands before the last, then the last.
use mathlib.Core.Path.{◌≡◌, refl, sym, ap, ◌∙◌, subst}
use mathlib.Core.List.{List}
use mathlib.Core.Option.{none, some}
use Prim.Native.Nat.{ℕ, ◌-◌, ◌<◌, ◌≤◌, ◌^◌}
use native.Mathlib.Omega.{arith}
use borrow.Author.Tests.{ltb-true, ltb-false}
use lib.Dec.{ltb}
use lib.ListN.{length, take, drop, length-drop}
use lib.Seq.{take_all}
use Rattle.hazards.specs.declared.answers.Answer.{Answer}
use Rattle.hazards.proofs.Cases.{by_test}
use Rattle.clocks.specs.Layout.{WordRows, FloatRows}
use Rattle.engine.specs.Commands.{width_of}
use Rattle.engine.specs.Engine.{Bytes, Engine, code}
use Rattle.engine.specs.State.{slot_at, with_slot, ClockSlot, SharedState, EngineState}
use Rattle.engine.specs.Execution.{target, perform}
use Rattle.engine.specs.Instance.{engine_of}
use Rattle.engine.specs.ReplayInternals.{whole_width, ReplayEnd, fails, ends, replay_all, end_state}
use Rattle.engine.specs.StateRows.{shared_from, state_from, SizedState, CodedState, Performs}
use Rattle.engine.specs.KeptRows.{kept_slot, kept_shared}
use Rattle.engine.specs.ExecutionInternals.{Ready}
use Rattle.engine.proofs.SoundKept.{engine_sound}
use Rattle.engine.proofs.CommandLists.{Whole}
use Rattle.engine.proofs.JournalBytes.{rest_of, part_of, part-all, part-of}
use Rattle.engine.proofs.ReplayLaws.{width_whole}
use Rattle.engine.proofs.ReplayParts.{none_some, all_sound, all-front, LastOf, all-last}
use Rattle.engine.proofs.ReplayInPlace.{Replaying, command_whole, command_ready, refused_fails, ends_here}
use Rattle.engine.proofs.SlotLaws.{put_back}
use Rattle.engine.proofs.RevertedInPlace.{ChangesOne, changes_one}

module _ (stream : List ℕ) (n : ℕ) where
  abbrev E : Engine
  E = engine_of stream n

  -- a replay that can't end fails
  only_fails : (x : ReplayEnd E) → ((t prior : EngineState) (l : ℕ) → x ≡ ends t prior l → ⊥) → x ≡ fails
  only_fails fails h = refl
  only_fails (ends t prior l) h = absurd (h t prior l refl)

  -- one that ends in s
  record EndsIn (s : EngineState) (x : ReplayEnd E) : Type 0 where
    pub prior : EngineState
    pub last : ℕ
    pub is : x ≡ ends s prior last

  ends-in : (s : EngineState) (x : ReplayEnd E) → some s ≡ end_state stream n x → EndsIn s x
  ends-in s fails e = absurd (none_some s (sym e))
  ends-in s (ends t prior l) e =
      let same : t ≡ s = cc in
      record { prior = prior; last = l; is = ap (λ (u : EngineState). ends u prior l) same }

  -- the place of the last command, where the replay ends
  pub record LastPlace (bytes : Bytes) (place : ℕ) : Type 0 where
    pub some_bytes : 0 < length bytes
    pub within : place ≤ length bytes
    pub found : (t prior : EngineState) (l : ℕ) → replay_all E bytes ≡ ends t prior l → place ≡ l

  module _ (bytes : Bytes) (place : ℕ) (p : LastPlace bytes place) where
    last_of : (t prior : EngineState) (l : ℕ) → replay_all E bytes ≡ ends t prior l → LastOf E bytes t prior place
    last_of t prior l e =
        subst (LastOf E bytes t prior) (sym (p.found t prior l e)) (all-last E bytes t prior l p.some_bytes e)

    -- the commands before it fail
    pub front_fails : none ≡ end_state stream n (replay_all E (take place bytes)) → replay_all E bytes ≡ fails
    front_fails h =
        only_fails (replay_all E bytes) (λ t prior l e. none_some prior (h ∙ ap (end_state stream n) (last_of t prior l e).front))

    -- the rest is not one command
    pub rest_fails : (whole_width (rest_of bytes place) ≡ length (rest_of bytes place) → ⊥) → replay_all E bytes ≡ fails
    rest_fails h =
        only_fails (replay_all E bytes)
        (λ t prior l e.
        let g = (last_of t prior l e).turn in
        let rest = part-all bytes place in
        let whole : whole_width (drop place bytes) ≡ width_of (code (drop place bytes)) =
        width_whole (drop place bytes) (omega (arith, g.wide, g.long)) g.other (omega (arith, g.width, g.long)) in
        h (ap whole_width rest ∙ (whole ∙ (sym g.width ∙ (sym (length-drop place bytes) ∙ ap length (sym rest))))))

    -- no command is there
    pub none_fails : 0 ≡ whole_width (rest_of bytes place) → replay_all E bytes ≡ fails
    none_fails h =
        only_fails (replay_all E bytes)
        (λ t prior l e.
        let g = (last_of t prior l e).turn in
        let whole : whole_width (drop place bytes) ≡ width_of (code (drop place bytes)) =
        width_whole (drop place bytes) (omega (arith, g.wide, g.long)) g.other (omega (arith, g.width, g.long)) in
        absurd (omega (arith, h, ap whole_width (part-all bytes place), whole, g.wide, g.width, g.long)))

  -- the rows hold the state before the last command, and the rest is that command
  pub record BeforeLast (bytes : Bytes) (place : ℕ) (w : WordRows) (f : FloatRows) : Type 0 where
    pub last : LastPlace bytes place
    pub state : some (state_from w f) ≡ end_state stream n (replay_all E (take place bytes))
    pub coded : CodedState w f
    pub sized : SizedState w f
    pub whole : whole_width (rest_of bytes place) ≡ length (rest_of bytes place)

  module _ (bytes : Bytes) (place : ℕ) (w : WordRows) (f : FloatRows) (b : BeforeLast bytes place w f) where
    abbrev command : Bytes
    command = rest_of bytes place

    abbrev k : ℕ
    k = whole_width command

    front_ends : EndsIn (state_from w f) (replay_all E (take place bytes))
    front_ends = ends-in (state_from w f) (replay_all E (take place bytes)) b.state

    more : place < length bytes
    more =
        by_test (ltb place (length bytes)) (λ h. ltb-true place (length bytes) h)
        (λ h.
        let past : length bytes ≤ place = ltb-false place (length bytes) h in
        let all = ap (replay_all E) (sym (take_all place bytes past)) ∙ front_ends.is in
        absurd
        (omega (arith, (last_of bytes place b.last (state_from w f) front_ends.prior front_ends.last all).turn.wide)))

    replaying : Replaying stream n bytes w f place
    replaying = record {
      prior = front_ends.prior;
      last = front_ends.last;
      goes = sym (all-front E bytes (state_from w f) front_ends.prior front_ends.last place b.last.within front_ends.is);
      within = b.last.within;
      sound = all_sound E (take place bytes) (state_from w f) front_ends.prior front_ends.last (engine_sound stream n) front_ends.is;
      coded = b.coded;
      sized = b.sized;
    }

    to_end : k ≡ length bytes - place
    to_end = b.whole ∙ (ap length (part-all bytes place) ∙ length-drop place bytes)

    wide : 0 < k
    wide = omega (arith, more, to_end)

    is_part : part_of bytes place k ≡ command
    is_part = part-of bytes place k ∙ ap (λ (x : ℕ). take x (drop place bytes)) to_end

    pub last_whole : Whole E command
    last_whole = subst (Whole E) is_part (command_whole stream n bytes w f place replaying more k refl wide)

    pub last_ready : n < 2 ^ 63 → Ready w f
    last_ready = command_ready stream n bytes w f place replaying more k refl wide

    -- by its answer
    module _ (w' : WordRows) (f' : FloatRows) (a : Answer) (did : Performs w f (perform stream n (state_from w f) command) w' f' a) where
      part_did : Performs w f (perform stream n (state_from w f) (part_of bytes place k)) w' f' a
      part_did = subst (λ (c : Bytes). Performs w f (perform stream n (state_from w f) c) w' f' a) (sym is_part) did

      pub last_refused : (a.number ≡ 0 → ⊥) → replay_all E bytes ≡ fails
      last_refused = refused_fails stream n bytes w f place replaying more k refl wide w' f' a part_did

      pub last_accepted : a.number ≡ 0 → replay_all E bytes ≡ ends (state_from w' f') (state_from w f) place
      last_accepted z = ends_here stream n bytes w f place replaying more k refl wide w' f' a part_did z (omega (arith, to_end))

      -- the state before it, from the clock and the shared state that are kept
      pub kept_before : n < 2 ^ 63 → a.number ≡ 0 → (t : ℕ) → (target (shared_from w) command < 16 → t ≡ target (shared_from w) command)
          → (kept : WordRows) (y : FloatRows) → kept_slot kept y ≡ slot_at (state_from w f) t → kept_shared kept ≡ shared_from w
          → with_slot (state_from w' f') t (kept_slot kept y) (kept_shared kept) ≡ state_from w f
      unfolding state_from
      kept_before small z t near kept y Slot-kept shared_kept =
          let s = state_from w f in
          let s' = state_from w' f' in
          let i = target (shared_from w) command in
          let change : ChangesOne s i s' =
          changes_one stream n s command (last_ready small).next (omega (arith, last_whole.len, last_whole.pos)) last_whole.other s' a z
          did.does in
          ap (λ (x : ClockSlot). with_slot s' t x (kept_shared kept)) Slot-kept
          ∙ (ap (λ (x : SharedState). with_slot s' t (slot_at s t) x) shared_kept
          ∙ (ap (λ (j : ℕ). with_slot s' j (slot_at s j) (shared_from w)) (near change.below)
          ∙ (ap (λ (x : EngineState). with_slot x i (slot_at s i) (shared_from w)) change.state
          ∙ put_back s i change.slot change.shared)))
