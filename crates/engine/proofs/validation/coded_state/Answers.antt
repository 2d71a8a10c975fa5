-- `validation::coded_state` meets its contract.
use Rattle.engine.specs.StateRows.{coded_state}
use Rattle.engine.proofs.validation.coded_state.Goals as goal

pub returns : goal.returns
unfolding coded_state
returns c = rw (c.clocks_coded-clocks.ensures, c.counts_coded-counts.ensures, c.requests_coded-requests.ensures)
