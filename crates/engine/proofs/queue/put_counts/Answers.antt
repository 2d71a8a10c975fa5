-- `queue::put_counts` meets its contract: the row of the counts is stored, with the spare places as they were.
use native.Mathlib.Omega.{arith}
use Rattle.engine.proofs.RequestRows.{counts_stored}
use Rattle.engine.proofs.queue.put_counts.Goals as goal

pub returns : goal.returns
returns c =
    let a = c.args in
    counts_stored a.words.now (omega arith) a.counts.queued a.counts.request_count a.counts.position a.counts.applied_length
