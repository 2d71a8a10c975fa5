-- `validation::valid_state` meets its contract: the rows are coded, and the slots, the queue and the counts pass.
use Rattle.engine.specs.StateRows.{queue_from}
use Rattle.engine.proofs.ValidStates.{state_is}
use Rattle.engine.proofs.validation.valid_state.Goals as goal

pub returns : goal.returns
returns c =
    let a = c.args in
    let w = a.words.now in
    let f = a.floats.now in
    rw (
      c.coded_state-coded.ensures,
      c.valid_slots-slots.ensures,
      c.valid_queue-queue.ensures f,
      c.valid_counts-counts.ensures (queue_from w),
      state_is a.stream.now a.journal_length w f,
    )
