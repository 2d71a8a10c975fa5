-- `roots::nearest_root` meets its contract, in the three cases of `nearest_root`.
use mathlib.Core.Path.{sym, ap, ◌∙◌}
use lib.Ieee.{of_bits, binary64}
use denote.Floats.{passes}
use Rattle.hazards.proofs.PatternOrder.{pattern_finite, pattern_above_zero}
use Rattle.hazards.proofs.FloatRoots.{finite_number, root_of_other, root_of_infinity, other_positive, root_of_positive}
use Rattle.hazards.proofs.roots.nearest_root.Goals as goal

pub returns-then-pattern-eq-INFINITY_PATTERN : goal.returns-then-pattern-eq-INFINITY_PATTERN
unfolding of_bits
returns-then-pattern-eq-INFINITY_PATTERN c = root_of_infinity c.args.x c.if-x.true (passes _ c.well_formed.0.1) c.if-pattern-eq-INFINITY_PATTERN.true

pub root_pattern-requires : goal.root_pattern-requires
unfolding of_bits
root_pattern-requires c =
    let x = c.args.x in
    let p = other_positive x c.if-x.true c.if-pattern-eq-INFINITY_PATTERN.false in
    let f = passes _ c.well_formed.0.1 in
    (pattern_above_zero x f p, pattern_finite x f p)

pub float_from_bits-result : goal.float_from_bits-result
float_from_bits-result c = finite_number c.root_pattern.result c.root_pattern.ensures.1

pub returns-then-x : goal.returns-then-x
unfolding of_bits
returns-then-x c =
    let x = c.args.x in
    let l = c.if-x.true in
    ap (of_bits binary64) c.root_pattern.ensures.0 ∙ sym (root_of_positive x l (other_positive x l c.if-pattern-eq-INFINITY_PATTERN.false))

pub returns : goal.returns
unfolding of_bits
returns c = root_of_other c.args.x c.if-x.false
