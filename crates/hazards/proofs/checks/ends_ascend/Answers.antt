-- `checks::ends_ascend` meets its contract.
use mathlib.Core.Path.{sym, ◌∙◌}
use native.Mathlib.Omega.{arith}
use borrow.Author.Tests.{not-true, not-false}
use lib.Ieee.{of_bits}
use Rattle.hazards.specs.Rates.{lent_pairs, pair_at}
use Rattle.hazards.proofs.CheckLaws.{ascending_next, ascending_fails, ascending_none}
use Rattle.hazards.proofs.Pieces.{used_start, pieces_next, pieces_end}
use Rattle.hazards.proofs.checks.ends_ascend.Goals as goal

pub loop-i-init : goal.loop-i-init
unfolding of_bits
loop-i-init c = rw (used_start (lent_pairs c.args.pairs) c.used-used.ensures)

pub returns-then-not-ascends : goal.returns-then-not-ascends
returns-then-not-ascends c =
    let next = pieces_next (pair_at (lent_pairs c.args.pairs)) c.used-used.result c.loop-i.i (omega arith) in
    sym (ascending_fails c.loop-i.before next (sym c.ascends.ensures ∙ not-true _ c.if-not-ascends.true-raw)) ∙ c.loop-i.invariant

pub loop-i-preserved : goal.loop-i-preserved
loop-i-preserved c =
    let next = pieces_next (pair_at (lent_pairs c.args.pairs)) c.used-used.result c.loop-i.i (omega arith) in
    sym (ascending_next c.loop-i.before next (sym c.ascends.ensures ∙ not-false _ c.if-not-ascends.false-raw)) ∙ c.loop-i.invariant

pub returns : goal.returns
returns c =
    let end = pieces_end (pair_at (lent_pairs c.args.pairs)) c.used-used.result c.loop-i.i (omega arith) in
    sym (ascending_none c.loop-i.before end) ∙ c.loop-i.invariant
