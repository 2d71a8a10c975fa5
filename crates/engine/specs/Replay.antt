-- Document 01, "Journal and undo": the commands in the journal, the state that they give from opening, and UNDO, over any engine.
use Rattle.std.specs.Prelude.{ℕ, zero, suc, ◌-◌, true, false, cond, List, [], ◌∷◌, ◌++◌, length, take, drop, replicate, ltb}
use Rattle.std.proofs.Math.Option.{Option, none, some}
use Rattle.engine.specs.Refusals.{nothing_applied, replay_fails}
use Rattle.engine.specs.Engine.{Bytes, Performed, rejected, performed, Engine, Asked, reject, undo_last, carry_out, is_whole, reverted}
use Rattle.engine.specs.Engine.{concat, init, Outcome, cut, classify, unchanged}

module _ (E : Engine) where
  -- zero over the journal's bytes from k up to e
  abbrev pub cleared : Bytes → ℕ → ℕ → Bytes
  cleared j k e = take k j ++ replicate (e - k) 0 ++ drop e j

  -- the state after one command; none where it is refused or is an UNDO
  abbrev pub state_of : Performed E.State E.Answer → Option E.State
  state_of (rejected n) = none
  state_of (performed s a) = some s

  abbrev pub after_one : E.State → Asked → Option E.State
  after_one s (reject n) = none
  after_one s undo_last = none
  after_one s (carry_out c) = state_of (E.perform s c)

  abbrev pub then_one : Option E.State → Bytes → Option E.State
  then_one none c = none
  then_one (some s) c = after_one s (classify E s c)

  -- the state after the commands, one after another; none where one is refused or is an UNDO
  unfoldable pub replay : Option E.State → List Bytes → Option E.State
  replay o [] = o
  replay o (c ∷ cs) = replay (then_one o c) cs

  abbrev pub from_opening : List Bytes → Option E.State
  from_opening cs = replay (some E.opened) cs

  -- the command before the others, where these are commands
  abbrev pub prepend : Bytes → Option (List Bytes) → Option (List Bytes)
  prepend c none = none
  prepend c (some cs) = some (c ∷ cs)

  -- the commands that the bytes hold, one after another, each cut to its width; none where the bytes do not split wholly. The first number
  -- bounds the commands: each takes a byte or more, so more than the bytes' length makes no difference (proofs/Splits.antt: split_turns)
  unfoldable pub split_from : ℕ → Bytes → Option (List Bytes)
  split_from zero [] = some []
  split_from zero (b ∷ bs) = none
  split_from (suc k) [] = some []
  split_from (suc k) (b ∷ bs) =
      elim (is_whole E.width (b ∷ bs)) [ true ↦ prepend (cut E (b ∷ bs)) (split_from k (drop (E.width b) (b ∷ bs))) | false ↦ none ]

  abbrev pub commands_in : Bytes → Option (List Bytes)
  commands_in bytes = split_from (length bytes) bytes

  -- UNDO of the applied commands cs, by the state that all of them give from opening and the one that the rest gives: the last is reverted
  -- (document 01: UNDO strikes the last standing command) and zero is written over its bytes. 13 where one is refused or is an UNDO, or
  -- they end in another state than s. The rest gives a state wherever all do (proofs/Replays.antt: replay_init)
  abbrev pub revert_last : E.State → Bytes → List Bytes → Option E.State → Option E.State → Outcome E
  revert_last s j cs none rest = unchanged E s j replay_fails
  revert_last s j cs (some all) none = unchanged E s j replay_fails
  revert_last s j cs (some all) (some rest) =
      cond (E.same all s)
      (record { reply = reverted; state = rest; journal = cleared j (length (concat (init cs))) (E.applied_length s) })
      (unchanged E s j replay_fails)

  -- 13 too where the applied bytes do not split into commands
  abbrev pub undo_in : E.State → Bytes → Option (List Bytes) → Outcome E
  undo_in s j none = unchanged E s j replay_fails
  undo_in s j (some cs) = revert_last s j cs (from_opening cs) (from_opening (init cs))

  -- 12 where nothing is applied
  unfoldable pub undo : E.State → Bytes → Outcome E
  undo s j =
      cond (ltb 0 (E.applied_length s)) (undo_in s j (commands_in (take (E.applied_length s) j))) (unchanged E s j nothing_applied)
