-- `queue::take_out` meets its contract: requests moved up, the places after them emptied, and then the counts.
use Rattle.engine.specs.StateRows.{shared_of, shared_from}
use Rattle.engine.proofs.QueueRowLaws.{taken_out}
use Rattle.engine.proofs.queue.take_out.Goals as goal

pub returns : goal.returns
unfolding shared_from shared_of
returns c =
    let w = c.args.words.now in
    taken_out w c.move_up-kept.new.words c.clear_from.new.words c.put_counts.new.words _ c.move_up-kept.result
    c.move_up-kept.ensures c.clear_from.ensures (rw c.counts_in.ensures at c.put_counts.ensures)
