-- `checks::unused_are_zero` meets its contract.
use mathlib.Core.Path.{sym, ◌∙◌}
use native.Mathlib.Omega.{arith}
use Rattle.hazards.specs.Checks.{zero_pair}
use Rattle.hazards.specs.Rates.{lent_pairs, pair_at}
use Rattle.hazards.proofs.ListLaws.{all-so-far, all_done}
use Rattle.hazards.proofs.Pieces.{pieces_next, pieces_end}
use Rattle.hazards.proofs.checks.unused_are_zero.Goals as goal

pub loop-i-preserved : goal.loop-i-preserved
loop-i-preserved c =
    let next = pieces_next (pair_at (lent_pairs c.args.pairs)) 8 c.loop-i.i (omega arith) in
    all-so-far zero_pair c.loop-i.zero next c.zero_pair-zero.ensures ∙ c.loop-i.invariant

pub returns : goal.returns
returns c =
    let end = pieces_end (pair_at (lent_pairs c.args.pairs)) 8 c.loop-i.i (omega arith) in
    sym (all_done zero_pair c.loop-i.zero end) ∙ c.loop-i.invariant
