-- `queue::next_request` meets its contract: at each turn `best` is the earliest of the requests from `i` on.
use mathlib.Core.Path.{◌≡◌, sym, ◌∙◌, ap₂}
use mathlib.Core.Option.{Option, some}
use native.Mathlib.Omega.{arith}
use Rattle.engine.specs.Queue.{earlier_of}
use Rattle.engine.specs.declared.state.Request.{Request}
use Rattle.engine.proofs.QueueLaws.{next_more, next_none}
use Rattle.engine.proofs.RequestRows.{row_back, row_end}
use Rattle.engine.proofs.queue.next_request.Goals as goal

pub loop-i-init : goal.loop-i-init
loop-i-init c =
    let w = c.args.words.now in
    sym (next_none (row_end w c.used_places-used.result (omega (arith, c.used_places-used.ensures))))

pub loop-i-preserved : goal.loop-i-preserved
loop-i-preserved c =
    let w = c.args.words.now in
    let i = c.loop-i.i in
    c.earlier_of-best.ensures
    ∙ ap₂ (λ (r : Request) (o : Option Request). earlier_of (some r) o) c.request_at.ensures c.loop-i.invariant
    ∙ sym (next_more (row_back w i (omega arith) (omega (arith, c.used_places-used.ensures))))

pub returns : goal.returns
returns c =
    let e : c.loop-i.i ≡ 0 = omega arith in
    rw e at c.loop-i.invariant
