-- `run::end_run` meets its contract, by the three ways of a run at an input.
use mathlib.Core.Path.{refl, ◌∙◌, ap}
use mathlib.Core.List.{List, ◌++◌}
use Prim.Native.Nat.{ℕ, ◌+◌, ◌*◌, ◌≤◌}
use native.Mathlib.Omega.{arith}
use lib.ListN.{length}
use Rattle.hazards.specs.Fields.{bytes_of}
use Rattle.hazards.specs.Answers.{answer_width, no_event, with_answer}
use Rattle.hazards.specs.Refusals.{number}
use Rattle.hazards.proofs.RefusalLaws.{number_not_zero}
use Rattle.engine.specs.RunInternals.{stop}
use Rattle.engine.proofs.RunStops.{stop_full, stop_not, stop_number}
use Rattle.engine.proofs.run.end_run.Goals as goal

pub returns-then-answers-place-lt-ANSWER_WIDTH : goal.returns-then-answers-place-lt-ANSWER_WIDTH
returns-then-answers-place-lt-ANSWER_WIDTH c =
    let a = c.args in
    ap (stop 17 a.answers.now) c.finish.ensures
    ∙ stop_full a.input.now a.answers.now a.res.now a.answered a.read (omega arith)

pub returns-in-Err : goal.returns-in-Err
returns-in-Err c =
    let room : answer_width * c.args.answered + answer_width ≤ length c.args.answers.now =
    omega arith in
    let a = c.args in
    let given : ℕ = number c.in-Err.refusal in
    ap (stop given c.put_answer.new.bytes) c.finish-in-Err.ensures
    ∙ ap (λ (x : List ℕ). stop given x (bytes_of 8 (a.answered + 1) ++ bytes_of 8 a.read))
    (c.put_answer.ensures ∙ ap (with_answer a.answers.now (answer_width * a.answered)) (c.no_event.ensures ∙ ap no_event c.number.ensures))
    ∙ stop_number a.input.now a.answers.now a.res.now a.answered a.read room given c.in-Err.ensures.0 (number_not_zero _)

pub returns : goal.returns
returns c =
    let room : answer_width * c.args.answered + answer_width ≤ length c.args.answers.now =
    omega arith in
    let a = c.args in
    stop_not a.input.now a.answers.now a.res.now a.answered a.read room 0 c.in_default.ensures.0 refl
