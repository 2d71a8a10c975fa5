-- `validation::distinct_indices` meets its contract: at each turn no index is twice among the first i.
use mathlib.Core.Path.{◌≡◌, sym, ◌∙◌}
use Rattle.engine.specs.State.{empty_request}
use Rattle.engine.specs.StateRows.{queue_from}
use Rattle.engine.proofs.IndexLaws.{distinct_none, distinct_next, repeated}
use Rattle.engine.proofs.ValidStates.{queue-length, queue_index, queued_of, queued_in}
use native.Mathlib.Omega.{arith}
use Rattle.engine.proofs.validation.distinct_indices.Goals as goal

pub loop-i-init : goal.loop-i-init
loop-i-init c = distinct_none

pub returns-then-is_among : goal.returns-then-is_among
returns-then-is_among c =
    let w = c.args.words.now in
    let i = c.loop-i.i in
    rw (queued_in w)
    (sym (repeated (queue_from w) i empty_request (queued_of w) (omega arith) (omega (arith, queue-length w))
    (rw (queue_index w i empty_request (omega arith)) (sym c.is_among.ensures ∙ c.if-is_among.true))))

pub loop-i-preserved : goal.loop-i-preserved
loop-i-preserved c =
    let w = c.args.words.now in
    let i = c.loop-i.i in
    distinct_next (queue_from w) i empty_request (omega (arith, queue-length w)) c.loop-i.invariant
    (rw (queue_index w i empty_request (omega arith)) (sym c.is_among.ensures ∙ c.if-is_among.false))

pub returns : goal.returns
returns c =
    let w = c.args.words.now in
    let e : c.loop-i.i ≡ queued_of w = omega arith in
    rw (queued_in w) (sym (rw e at c.loop-i.invariant))
