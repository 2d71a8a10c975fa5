-- `rates::Pairs::hazard` meets its contract: at each turn the hazard over the pieces from i on is the hazard over all used pairs.
use mathlib.Core.Path.{sym, ◌∙◌}
use native.Mathlib.Omega.{arith}
use Rattle.hazards.specs.Rates.{lent_pairs, pair_at}
use Rattle.hazards.proofs.Pieces.{used_start, pieces_next, pieces_end}
use Rattle.hazards.proofs.Turns.{hazard_here, hazard_later, hazard_trailing}
use Rattle.hazards.proofs.rates.Pairs.hazard.Goals as goal

pub loop-i-init : goal.loop-i-init
loop-i-init c =
    let a = c.args in
    rw (used_start (lent_pairs a.self) c.used-used.ensures)

pub returns-then-t-self : goal.returns-then-t-self
returns-then-t-self c =
    let a = c.args in
    let p = lent_pairs a.self in
    let next = pieces_next (pair_at p) c.used-used.result c.loop-i.i (omega arith) in
    c.not_below_zero.ensures ∙ sym (hazard_here a.trailing a.t next c.if-t-self.true) ∙ c.loop-i.invariant

pub loop-i-preserved : goal.loop-i-preserved
loop-i-preserved c =
    let a = c.args in
    let p = lent_pairs a.self in
    let next = pieces_next (pair_at p) c.used-used.result c.loop-i.i (omega arith) in
    sym (hazard_later a.trailing a.t next c.if-t-self.false) ∙ c.loop-i.invariant

pub returns : goal.returns
returns c =
    let a = c.args in
    let p = lent_pairs a.self in
    let end = pieces_end (pair_at p) c.used-used.result c.loop-i.i (omega arith) in
    c.not_below_zero-2.ensures ∙ sym (hazard_trailing a.trailing a.t end) ∙ c.loop-i.invariant
