-- `run::run_commands` meets its contract: at each turn, what is left of the run gives what the whole run gives.
use mathlib.Core.Path.{refl, ap, ◌∙◌}
use Prim.Native.Nat.{◌<◌, ◌^◌}
use native.Mathlib.Omega.{arith}
use lib.ListN.{length}
use Rattle.hazards.proofs.RefusalLaws.{number_not_zero}
use Rattle.engine.specs.Run.{ran}
use Rattle.engine.specs.RunInternals.{Ongoing, opened_run}
use Rattle.engine.proofs.Outcomes.{refused_as}
use Rattle.engine.proofs.RunTurns.{Input, running_ends, run_stops, run_goes_on}
use Rattle.engine.proofs.RunUndos.{deferred_begins}
use Rattle.engine.proofs.OngoingRuns.{deferred_ongoing, goes_on_answered}
use Rattle.engine.proofs.run.run_commands.Goals as goal

pub loop-p-init : goal.loop-p-init
loop-p-init c =
    let opened = c.open_state in
    let a = c.args in
    let bound : length a.journal.now < 2 ^ 63 = omega arith in (
      deferred_begins a.commands.now a.stream.now (length a.journal.now) a.answers.now opened.ensures.0 c.requires.0
          bound,
      record { words = omega arith; floats = omega arith },
      c.requires.1,
    )

pub end_run-requires : goal.end_run-requires
end_run-requires c = let l = c.loop-p.invariant in (l.0.running.room, l.2)

-- ---- the run ends before the input

pub shape_of-journal-in_err-end_run : goal.shape_of-journal-in_err-end_run
shape_of-journal-in_err-end_run c = c.loop-p.invariant.0.running.same_journal

pub returns-in_err-end_run : goal.returns-in_err-end_run
returns-in_err-end_run c =
    let more : c.loop-p.p.read < length c.args.commands.now =
    c.loop-p-test.true in
    rw (refused_as c.from_residual.result c.from_residual.ensures.1)
    (run_stops _ _ _ _ _ c.loop-p.invariant.0.running more c.loop-p.res c.in_err-end_run.ensures (number_not_zero _))

-- ---- the input is answered

pub answer_input-p-requires : goal.answer_input-p-requires
answer_input-p-requires c =
    let more : c.loop-p.p.read < length c.args.commands.now =
    c.loop-p-test.true in
    let input : Input c.args.commands.now c.args.stream.now (length c.args.journal.now)
    (length c.args.answers.now)
    (opened_run c.args.commands.now c.args.stream.now (length c.args.journal.now)
    c.args.answers.now)
    c.loop-p.journal c.end_run.new.answers c.loop-p.invariant.0.current
    c.loop-p.p.answered c.loop-p.p.read =
    let l = c.loop-p in
    run_goes_on _ _ _ _ _ l.invariant.0.running more l.res c.in_ok-end_run.ensures refl in
    let standing : Ongoing c.args.commands.now c.args.stream.now c.loop-p.words c.loop-p.floats
    c.loop-p.journal c.end_run.new.answers c.loop-p.p =
    let d = c.loop-p.invariant.0 in
    deferred_ongoing _ _ (record { current = d.current; running = input.running; fresh = d.fresh; counted = d.counted }) in
    let x = input in
    (standing, record { wide = x.wide; long = x.long; space = x.space })

pub loop-p-smaller : goal.loop-p-smaller
loop-p-smaller c =
    let more : c.loop-p.p.read < length c.args.commands.now =
    c.loop-p-test.true in
    let input : Input c.args.commands.now c.args.stream.now (length c.args.journal.now)
    (length c.args.answers.now)
    (opened_run c.args.commands.now c.args.stream.now (length c.args.journal.now)
    c.args.answers.now)
    c.loop-p.journal c.end_run.new.answers c.loop-p.invariant.0.current
    c.loop-p.p.answered c.loop-p.p.read =
    let l = c.loop-p in
    run_goes_on _ _ _ _ _ l.invariant.0.running more l.res c.in_ok-end_run.ensures refl in
    let standing : Ongoing c.args.commands.now c.args.stream.now c.loop-p.words c.loop-p.floats
    c.loop-p.journal c.end_run.new.answers c.loop-p.p =
    let d = c.loop-p.invariant.0 in
    deferred_ongoing _ _ (record { current = d.current; running = input.running; fresh = d.fresh; counted = d.counted }) in
    let after = c.answer_input-p.ensures standing in
    omega (arith, after.further, after.ongoing.within)

pub loop-p-preserved : goal.loop-p-preserved
loop-p-preserved c =
    let more : c.loop-p.p.read < length c.args.commands.now =
    c.loop-p-test.true in
    let input : Input c.args.commands.now c.args.stream.now (length c.args.journal.now)
    (length c.args.answers.now)
    (opened_run c.args.commands.now c.args.stream.now (length c.args.journal.now)
    c.args.answers.now)
    c.loop-p.journal c.end_run.new.answers c.loop-p.invariant.0.current
    c.loop-p.p.answered c.loop-p.p.read =
    let l = c.loop-p in
    run_goes_on _ _ _ _ _ l.invariant.0.running more l.res c.in_ok-end_run.ensures refl in
    let standing : Ongoing c.args.commands.now c.args.stream.now c.loop-p.words c.loop-p.floats
    c.loop-p.journal c.end_run.new.answers c.loop-p.p =
    let d = c.loop-p.invariant.0 in
    deferred_ongoing _ _ (record { current = d.current; running = input.running; fresh = d.fresh; counted = d.counted }) in
    let l = c.loop-p in (
      goes_on_answered _ _ standing.state input (c.answer_input-p.ensures standing)
          (omega (arith, l.invariant.0.running.same_journal)) (omega (arith, l.invariant.0.running.same_answers)),
      record { words = omega arith; floats = omega arith },
      omega (arith, l.invariant.2),
    )

-- ---- the end of the list

pub finish-requires : goal.finish-requires
finish-requires c = c.loop-p.invariant.2

pub returns : goal.returns
returns c =
    let l = c.loop-p in
    ap (ran 0 l.journal l.answers) c.finish.ensures ∙ running_ends _ _ _ _ _ l.invariant.0.running (omega arith)
