-- `scheduling::final_event` meets its contract: no candidate, one after the censor time, and one that is not.
use mathlib.Core.Path.{◌≡◌, refl, sym, ◌∙◌}
use borrow.Author.Tests.{not-true, not-false}
use Rattle.std.specs.Prelude.{None}
use Rattle.clocks.proofs.SchedulingCases.{found_no_censor, found_in_time, found_censored}
use Rattle.clocks.proofs.scheduling.final_event.Goals as goal
use Rattle.clocks.proofs.scheduling.final_event.Goals.{in_default-via-in-None-1, in_default-via-in-Some-censor+else-not-c-end}

pub returns : goal.returns
returns c =
    c.realized.ensures
    ∙ rw (c.not_below_zero-delta.ensures, c.in-Some.is, c.in-Some-censor.is)
    (sym (found_censored _ _ _ refl (not-true _ c.if-not-c-end.true-raw)))

pub returns-2 : goal.returns-2
returns-2 c =
    c.realized-2.ensures
    ∙ rw (c.not_below_zero-delta-2.ensures, c.in-Some.is)
    (elim c.in_default.branch [
      | in_default-via-in-None-1 w ↦
          let none : c.args.censor ≡ None = search in rw none (sym (found_no_censor _ _ _ refl))
      | in_default-via-in-Some-censor+else-not-c-end w ↦
          rw w.in-Some-censor.is (sym (found_in_time _ _ _ refl (not-false _ w.if-not-c-end.false-raw)))
    ])
