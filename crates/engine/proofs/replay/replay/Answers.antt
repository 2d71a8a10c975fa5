-- `replay::replay` meets its contract: at each turn, what is left to replay ends as the whole.
use mathlib.Core.Path.{refl, sym, ap, ◌∙◌}
use Prim.Native.Nat.{◌<◌}
use native.Mathlib.Omega.{arith}
use lib.ListN.{length}
use Rattle.engine.specs.StateRows.{SizedState}
use Rattle.engine.specs.ReplayInternals.{end_state}
use Rattle.engine.proofs.ReplayInPlace.{begins, ended, nothing_whole, command_within, command_whole, command_ready}
use Rattle.engine.proofs.ReplayInPlace.{refused_fails, goes_on}
use Rattle.engine.proofs.TriedInPlace.{accepted, refused}
use Rattle.engine.proofs.replay.replay.Goals as goal

pub loop-at-init : goal.loop-at-init
loop-at-init c =
    let opened = c.open_state in
    begins c.args.stream.now c.args.journal_length c.args.bytes.now opened.new.words opened.new.floats opened.ensures.0
    opened.ensures.1
    (record { words = omega arith; floats = omega arith })

-- ---- the turn and the function's start, from the place at which the command is known

pub returns-in_err-command : goal.returns-in_err-command
returns-in_err-command c =
    let more : c.loop-at.at < length c.args.bytes.now =
    c.loop-at-test.true in
    let l = c.loop-at in
    rw c.from_residual.ensures
    (ap (end_state _ _) (sym (nothing_whole _ _ _ _ _ _ l.invariant more 0 c.in_err-command.ensures refl)), l.invariant.coded)

-- ---- there is a command

pub overflow_add-end : goal.overflow_add-end
overflow_add-end c =
    let more : c.loop-at.at < length c.args.bytes.now =
    c.loop-at-test.true in
    let width = c.width.ensures.0 ∙ c.in_ok-command.ensures in
    let f = command_within _ _ _ _ _ _ c.loop-at.invariant more c.width.result width c.width.ensures.1 in
    omega arith

pub slice_bounds-perform-end : goal.slice_bounds-perform-end
slice_bounds-perform-end c =
    let more : c.loop-at.at < length c.args.bytes.now =
    c.loop-at-test.true in
    let width = c.width.ensures.0 ∙ c.in_ok-command.ensures in
    let f = command_within _ _ _ _ _ _ c.loop-at.invariant more c.width.result width c.width.ensures.1 in
    omega arith

pub perform-requires : goal.perform-requires
perform-requires c =
    let more : c.loop-at.at < length c.args.bytes.now =
    c.loop-at-test.true in
    let width = c.width.ensures.0 ∙ c.in_ok-command.ensures in
    let l = c.loop-at in
    let k = command_whole _ _ _ _ _ _ l.invariant more c.width.result width c.width.ensures.1 in
    let ready = command_ready _ _ _ _ _ _ l.invariant more c.width.result width c.width.ensures.1 c.requires in
    (ready, (omega (arith, k.len, k.pos), k.other))

-- ---- by its outcome

pub returns-in_err-ok : goal.returns-in_err-ok
returns-in_err-ok c =
    let more : c.loop-at.at < length c.args.bytes.now =
    c.loop-at-test.true in
    let width = c.width.ensures.0 ∙ c.in_ok-command.ensures in
    let l = c.loop-at in
    let did = refused c.perform.result c.perform.ensures c.in_err-ok.ensures.value in
    let failed = refused_fails _ _ _ _ _ _ l.invariant more c.width.result width c.width.ensures.1 _ _ _ did.0 did.1 in
    rw c.from_residual-in_err-ok.ensures (ap (end_state _ _) (sym failed), did.0.coded l.invariant.coded)

pub loop-at-smaller : goal.loop-at-smaller
loop-at-smaller c =
    let more : c.loop-at.at < length c.args.bytes.now =
    c.loop-at-test.true in
    let width = c.width.ensures.0 ∙ c.in_ok-command.ensures in
    let f = command_within _ _ _ _ _ _ c.loop-at.invariant more c.width.result width c.width.ensures.1 in
    let h = c.width.ensures.1 in
    omega arith

pub loop-at-preserved : goal.loop-at-preserved
loop-at-preserved c =
    let more : c.loop-at.at < length c.args.bytes.now =
    c.loop-at-test.true in
    let width = c.width.ensures.0 ∙ c.in_ok-command.ensures in
    let left-sized : SizedState c.perform.new.words c.perform.new.floats =
    record { words = omega arith; floats = omega arith } in
    let did = accepted c.perform.result c.perform.ensures c.in_ok-ok.ensures.value in
    goes_on _ _ _ _ _ _ c.loop-at.invariant more c.width.result width c.width.ensures.1 _ _ _ did.0 did.1 left-sized

pub returns : goal.returns
returns c = (ap (end_state _ _) (sym (ended _ _ _ _ _ _ c.loop-at.invariant (omega arith))), c.loop-at.invariant.coded)
