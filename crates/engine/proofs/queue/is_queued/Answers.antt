-- `queue::is_queued` meets its contract: the requests queued are the first at their places, at most sixteen.
use mathlib.Core.Path.{◌∙◌, ap, sym}
use mathlib.Core.List.{List}
use Prim.Native.Nat.{ℕ}
use lib.ListN.{take}
use Rattle.hazards.proofs.ListLaws.{take-most}
use Rattle.engine.specs.Queue.{is_queued}
use Rattle.engine.specs.StateRows.{queue_from}
use Rattle.engine.specs.declared.state.Request.{Request}
use Rattle.engine.proofs.RequestRows.{queue_sixteen}
use Rattle.engine.proofs.ValidStates.{queued_of, queued_in}
use Rattle.engine.proofs.queue.is_queued.Goals as goal

pub returns : goal.returns
returns c =
    let w = c.args.words.now in
    let i = c.args.index in
    let used = c.used_places-used.ensures in
    c.is_among.ensures
    ∙ ap (λ (rs : List Request). is_queued i rs)
    (ap (λ (n : ℕ). take n (queue_from w)) used ∙ take-most (queue_from w) 16 (queued_of w) (queue_sixteen w) ∙ sym (queued_in w))
