-- What the code's answers mean: the width of the whole command at the front of some bytes, and where a replay ends.
use Rattle.std.specs.Prelude.{cond, List, [], ◌∷◌, ℕ, zero, suc, ◌+◌, eqb, ltb, leb, length, take, drop}
use Rattle.std.proofs.Math.Option.{Option, none, some}
use Rattle.std.specs.Prelude as std
use Rattle.std.specs.Prelude.{Some, None}
use Rattle.engine.specs.Commands.{code_of, width_of}
use Rattle.engine.specs.declared.commands.Command.{Command}
use Rattle.engine.specs.Commands as commands
use Rattle.engine.specs.State.{with_slot, EngineState}
use Rattle.engine.specs.Refusals.{nothing_applied, replay_fails}
use Rattle.engine.specs.Engine.{Bytes, Engine, Performed, rejected, performed, Asked, reject, undo_last, carry_out, code, reverted}
use Rattle.engine.specs.Engine.{Outcome, classify, unchanged}
use Rattle.engine.specs.Replay.{cleared}
use Rattle.engine.specs.Instance.{engine_of}
use Rattle.clocks.specs.Layout.{WordRows, FloatRows}
use Rattle.engine.specs.StateRows.{state_from}
use Rattle.engine.specs.KeptRows.{kept_slot, kept_shared}
use Rattle.engine.specs.declared.replay.LastCommand.{LastCommand}

-- ---- the replay of applied bytes by one scan, over any engine: what UNDO needs of them

module _ (E : Engine) where
  -- what one command at the front of the bytes gives: the state after it and its width
  abbrev pub width_after : Bytes → Performed E.State E.Answer → Option (E.State × ℕ)
  width_after c (rejected n) = none
  width_after c (performed t a) = some (t, length c)

  abbrev pub command_at : E.State → Asked → Option (E.State × ℕ)
  command_at s (reject n) = none
  command_at s undo_last = none
  command_at s (carry_out c) = width_after c (E.perform s c)

  -- it fails where the bytes hold an UNDO or one is refused; else the state after all, the state before the last command and its place
  pub data ReplayEnd : Type 0 where
    fails : ReplayEnd
    ends : E.State → E.State → ℕ → ReplayEnd

  -- the bytes run as commands, one after another, from s at the place `at`; `before` and `last` are the state before the last command run
  -- and its place. The first number bounds the commands: more than the bytes' length makes no difference (proofs/Asking.antt: replay_fuel)
  unfoldable pub replay_from : ℕ → E.State → E.State → ℕ → ℕ → Bytes → ReplayEnd
  replay_from zero s before last at [] = ends s before last
  replay_from zero s before last at (b ∷ bs) = fails
  replay_from (suc k) s before last at [] = ends s before last
  replay_from (suc k) s before last at (b ∷ bs) =
      elim (command_at s (classify E s (b ∷ bs))) [ none ↦ fails | some p ↦ replay_from k p.0 s at (at + p.1) (drop p.1 (b ∷ bs)) ]

  -- from opening
  unfoldable pub replay_all : Bytes → ReplayEnd
  replay_all bytes = replay_from (length bytes) E.opened E.opened 0 0 bytes

  -- UNDO after the scan
  abbrev pub revert_to : E.State → Bytes → ReplayEnd → Outcome E
  revert_to s j fails = unchanged E s j replay_fails
  revert_to s j (ends t before last) =
      cond (E.same t s) (record { reply = reverted; state = before; journal = cleared E j last (E.applied_length s) })
      (unchanged E s j replay_fails)

  -- it is `undo` (proofs/Splits.antt: undo_scans)
  abbrev pub undo_by_scan : E.State → Bytes → Outcome E
  undo_by_scan s j =
      cond (ltb 0 (E.applied_length s)) (revert_to s j (replay_all (take (E.applied_length s) j))) (unchanged E s j nothing_applied)

-- ---- in the code's own parts

-- the width of the whole command at the front; 0 where there is none, or it is an UNDO
unfoldable pub whole_width : Bytes → ℕ
whole_width bytes =
    cond (ltb 0 (length bytes))
    (cond (eqb (code bytes) commands.undo) 0 (cond (leb (width_of (code bytes)) (length bytes)) (width_of (code bytes)) 0)) 0

-- the width of a command, where there is one
abbrev pub width_in : std.Option Command → ℕ
width_in (Some command) = width_of (code_of command)
width_in None = 0

-- the state after all commands, if the replay does not fail
abbrev pub end_state : (stream : List ℕ) (n : ℕ) → ReplayEnd (engine_of stream n) → Option EngineState
end_state stream n fails = none
end_state stream n (ends s before last) = some s

-- the state that a replay has left, if it did not fail
abbrev pub state_if : std.Option Unit → EngineState → Option EngineState
state_if (Some _) s = some s
state_if None s = none

-- where a replay that keeps what the last command changes has ended: the rows are read as the state after all commands, and with what is
-- kept as the state before the last
abbrev pub kept_end : (stream : List ℕ) (n : ℕ) → std.Option LastCommand → WordRows → FloatRows → WordRows → FloatRows
    → ReplayEnd (engine_of stream n)
kept_end stream n None w f kw kf = fails
kept_end stream n (Some r) w f kw kf =
    ends (state_from w f) (with_slot (state_from w f) r.clock (kept_slot kw kf) (kept_shared kw)) r.place
