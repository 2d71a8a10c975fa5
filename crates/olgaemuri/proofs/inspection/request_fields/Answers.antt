-- `inspection::request_fields` meets its contract.
use Rattle.std.proofs.Common.{◌≤◌, ◌+◌, min, get_or, []}
use native.Mathlib.Omega.{arith}
use mathlib.Core.Path.{◌∙◌, ap}
use Rattle.engine.specs.StateRows.{shared_of, shared_from, request_from}
use Rattle.olgaemuri.specs.Inspection.{request_fields}
use Rattle.engine.proofs.QueueLaws.{reads_back}
use Rattle.olgaemuri.proofs.Inspected.{no_words, past_queue, request_there}
use Rattle.olgaemuri.proofs.inspection.request_fields.Goals as goal
use Rattle.olgaemuri.proofs.inspection.request_fields.Goals.{then-place-ge-PLACES-via-then-place-ge-PLACES, then-place-ge-PLACES-via-else-place-ge-PLACES+then-place-words}

pub returns-in_default : goal.returns-in_default
returns-in_default c = c.no_request.ensures ∙ no_words c.args.words.now c.args.place c.in_default.ensures.cases

pub returns-then-place-ge-PLACES : goal.returns-then-place-ge-PLACES
unfolding shared_from shared_of
returns-then-place-ge-PLACES c =
    let a = c.args in
    let past : min (shared_from a.words.now).queued 16 ≤ a.place =
    elim c.then-place-ge-PLACES.branch [
      | then-place-ge-PLACES-via-then-place-ge-PLACES w ↦ omega (arith, w.if-place-ge-PLACES.true)
      | then-place-ge-PLACES-via-else-place-ge-PLACES+then-place-words w ↦
          let past = rw c.in-Some.ensures.cases.same at w.if-place-words.true in
          omega (arith, past)
    ] in
    c.no_request-then-place-ge-PLACES.ensures ∙ past_queue a.words.now a.place past

pub returns : goal.returns
unfolding shared_from shared_of
returns c =
    let a = c.args in
    let whole = c.in-Some.ensures.cases in
    let r = c.request_at-request in
    let within = rw whole.same at c.if-place-words.false in
    rw (← reads_back r.result.priority r.type_inv.1.1.1.1.0.1)
    (ap request_fields (r.ensures ∙ ap (λ w. request_from (get_or w (161 + a.place) [])) whole.same)
    ∙ request_there a.words.now a.place whole.long (omega (arith, c.if-place-ge-PLACES.false)) within)
