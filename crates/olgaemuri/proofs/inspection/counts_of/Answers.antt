-- `inspection::counts_of` meets its contract.
use Rattle.std.proofs.Common.{◌≡◌, ℕ, ◌∙◌, eq-eqb}
use Rattle.engine.specs.StateRows.{shared_of, shared_from}
use Rattle.olgaemuri.specs.Inspection.{counts_of, no_counts}
use Rattle.olgaemuri.proofs.Inspected.{no-counts}
use Rattle.olgaemuri.proofs.inspection.counts_of.Goals as goal

counts-zero : (a b c d : ℕ) → a ≡ 0 → b ≡ 0 → c ≡ 0 → d ≡ 0
    → record { queued = a; requests_made = b; draw_position = c; applied_length = d } ≡ no_counts
counts-zero a b c d p q r s = cc

pub returns-in_default : goal.returns-in_default
returns-in_default c =
    let r = c.default.result in
    let h = c.default.ensures in
    counts-zero r.queued r.requests_made r.draw_position r.applied_length h.0 h.1.0 h.1.1.0 h.1.1.1
    ∙ no-counts c.args.words.now c.in_default.ensures.cases

pub returns : goal.returns
unfolding counts_of shared_from shared_of
returns c = rw (c.in-Some.ensures.cases.same, eq-eqb _ 177 c.in-Some.ensures.cases.long)
