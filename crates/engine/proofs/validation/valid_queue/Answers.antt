-- `validation::valid_queue` meets its contract: more than sixteen are queued, or the two tests decide.
use mathlib.Core.Path.{sym}
use Rattle.engine.proofs.ValidStates.{queue_over, queue_is}
use Rattle.engine.proofs.validation.valid_queue.Goals as goal

pub returns-then-words : goal.returns-then-words
returns-then-words c = let w = c.args.words.now in λ f. sym (queue_over w f c.if-words.true)

pub returns : goal.returns
returns c =
    let w = c.args.words.now in
    λ f. rw (c.valid_requests-requests.ensures f, c.distinct_indices-distinct.ensures) (sym (queue_is w f c.if-words.false))
