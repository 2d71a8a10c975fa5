-- `clock_calls::pause_rows` meets its contract: the arrays are the slices.
use Rattle.engine.proofs.clock_calls.pause_rows.Goals as goal

pub returns : goal.returns
returns c =
    let words = rw c.unwrap-rows.ensures at c.as_mut_array.ensures.cases in
    let floats = rw c.unwrap-numbers.ensures at c.as_mut_array-2.ensures.cases in
    rw (words.same, floats.same) at c.pause.ensures
