-- `replay::replay_to_last` meets its contract.
use mathlib.Core.Path.{sym, ap, ◌∙◌}
use native.Mathlib.Omega.{arith}
use lib.Seq.{length-take-le}
use Rattle.engine.specs.ReplayInternals.{ends}
use Rattle.engine.specs.StateRows.{state_from}
use Rattle.engine.specs.State.{EngineState}
use Rattle.engine.proofs.LastInPlace.{LastPlace, front_fails, rest_fails, none_fails, BeforeLast, last_whole, last_ready}
use Rattle.engine.proofs.LastInPlace.{last_refused, last_accepted, kept_before}
use Rattle.engine.proofs.TriedInPlace.{accepted, refused}
use Rattle.engine.proofs.replay.replay_to_last.Goals as goal

pub slice_bounds-replay-end : goal.slice_bounds-replay-end
slice_bounds-replay-end c = sym (length-take-le _ c.args.bytes.now c.last_command-place.ensures.0)

-- ---- the commands before the last

pub returns-in_err-replay : goal.returns-in_err-replay
returns-in_err-replay c =
    let last-place : LastPlace c.args.stream.now c.args.journal_length c.args.bytes.now c.last_command-place.result =
    let a = c.args in
    let l = c.last_command-place in
    record { some_bytes = c.requires.1; within = l.ensures.0; found = l.ensures.1 a.stream.now a.journal_length } in
    rw c.from_residual.ensures (sym (front_fails _ _ _ _ last-place c.in_err-replay.ensures.0), tt)

pub returns-in_err-whole_command : goal.returns-in_err-whole_command
returns-in_err-whole_command c =
    let last-place : LastPlace c.args.stream.now c.args.journal_length c.args.bytes.now c.last_command-place.result =
    let a = c.args in
    let l = c.last_command-place in
    record { some_bytes = c.requires.1; within = l.ensures.0; found = l.ensures.1 a.stream.now a.journal_length } in
    rw c.from_residual-in_err-whole_command.ensures (sym (none_fails _ _ _ _ last-place c.in_err-whole_command.ensures), tt)

pub returns-then-width-command : goal.returns-then-width-command
returns-then-width-command c =
    let last-place : LastPlace c.args.stream.now c.args.journal_length c.args.bytes.now c.last_command-place.result =
    let a = c.args in
    let l = c.last_command-place in
    record { some_bytes = c.requires.1; within = l.ensures.0; found = l.ensures.1 a.stream.now a.journal_length } in
    let wide = c.width.ensures.0 ∙ c.in_ok-whole_command.ensures in
    (sym (rest_fails _ _ _ _ last-place (λ e. c.if-width-command.true (wide ∙ e))), tt)

-- ---- the last command

pub perform-requires : goal.perform-requires
perform-requires c =
    let last-place : LastPlace c.args.stream.now c.args.journal_length c.args.bytes.now c.last_command-place.result =
    let a = c.args in
    let l = c.last_command-place in
    record { some_bytes = c.requires.1; within = l.ensures.0; found = l.ensures.1 a.stream.now a.journal_length } in
    let before_last : BeforeLast c.args.stream.now c.args.journal_length
    c.args.bytes.now c.last_command-place.result
    c.replay.new.words c.replay.new.floats =
    record {
      last = last-place;
      state = c.in_ok-replay.ensures.0;
      coded = c.in_ok-replay.ensures.1;
      sized = record { words = omega arith; floats = omega arith };
      whole = sym c.in_ok-whole_command.ensures ∙ (sym c.width.ensures.0 ∙ c.if-width-command.false);
    } in
    let b = before_last in
    let k = last_whole _ _ _ _ _ _ b in
    (last_ready _ _ _ _ _ _ b c.requires.0, (omega (arith, k.len, k.pos), k.other))

pub returns-in_err-ok : goal.returns-in_err-ok
returns-in_err-ok c =
    let last-place : LastPlace c.args.stream.now c.args.journal_length c.args.bytes.now c.last_command-place.result =
    let a = c.args in
    let l = c.last_command-place in
    record { some_bytes = c.requires.1; within = l.ensures.0; found = l.ensures.1 a.stream.now a.journal_length } in
    let before_last : BeforeLast c.args.stream.now c.args.journal_length
    c.args.bytes.now c.last_command-place.result
    c.replay.new.words c.replay.new.floats =
    record {
      last = last-place;
      state = c.in_ok-replay.ensures.0;
      coded = c.in_ok-replay.ensures.1;
      sized = record { words = omega arith; floats = omega arith };
      whole = sym c.in_ok-whole_command.ensures ∙ (sym c.width.ensures.0 ∙ c.if-width-command.false);
    } in
    let did = refused c.perform.result c.perform.ensures c.in_err-ok.ensures.value in
    rw c.from_residual-in_err-ok.ensures (sym (last_refused _ _ _ _ _ _ before_last _ _ _ did.0 did.1), tt)

pub returns : goal.returns
returns c =
    let last-place : LastPlace c.args.stream.now c.args.journal_length c.args.bytes.now c.last_command-place.result =
    let a = c.args in
    let l = c.last_command-place in
    record { some_bytes = c.requires.1; within = l.ensures.0; found = l.ensures.1 a.stream.now a.journal_length } in
    let before_last : BeforeLast c.args.stream.now c.args.journal_length
    c.args.bytes.now c.last_command-place.result
    c.replay.new.words c.replay.new.floats =
    record {
      last = last-place;
      state = c.in_ok-replay.ensures.0;
      coded = c.in_ok-replay.ensures.1;
      sized = record { words = omega arith; floats = omega arith };
      whole = sym c.in_ok-whole_command.ensures ∙ (sym c.width.ensures.0 ∙ c.if-width-command.false);
    } in
    let did = accepted c.perform.result c.perform.ensures c.in_ok-ok.ensures.value in
    let new = c.perform.new in
    let keep = c.keep in
    let near = c.near_target-clock in
    let b = before_last in
    let end = last_accepted _ _ _ _ _ _ b _ _ _ did.0 did.1 in
    let before =
    kept_before _ _ _ _ _ _ b _ _ _ did.0 c.requires.0 did.1 near.result near.ensures.1
    keep.new.kept keep.new.kept_floats keep.ensures.0 keep.ensures.1 in (
      ap (λ (s : EngineState). ends (state_from new.words new.floats) s c.last_command-place.result) before ∙ sym end,
      (b.last.within, near.ensures.0, did.0.coded b.coded, keep.ensures.2 b.coded),
    )
