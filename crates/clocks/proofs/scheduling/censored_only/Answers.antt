-- `scheduling::censored_only` meets its contract: the three cases without a candidate.
use mathlib.Core.Path.{refl, sym, ◌∙◌}
use Rattle.clocks.proofs.SchedulingCases.{no_candidate_no_censor, no_candidate_late, no_candidate_censored}
use Rattle.clocks.proofs.scheduling.censored_only.Goals as goal

pub returns-in_default : goal.returns-in_default
returns-in_default c = sym (no_candidate_no_censor _ _ (rw c.in_default.is))

pub returns-then-end-now : goal.returns-then-end-now
returns-then-end-now c = c.realized.ensures ∙ rw c.in-Some.is (sym (no_candidate_censored _ _ refl c.if-end-now.true))

pub returns : goal.returns
returns c = rw c.in-Some.is (sym (no_candidate_late _ _ refl c.if-end-now.false))
