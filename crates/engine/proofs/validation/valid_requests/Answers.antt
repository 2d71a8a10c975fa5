-- `validation::valid_requests` meets its contract: at each turn the requests from i on pass where all pass.
use mathlib.Core.Path.{refl, sym, ◌∙◌}
use borrow.Author.Tests.{not-true, not-false}
use Rattle.hazards.proofs.ListLaws.{slice_none, all-next, all-fails, all_none}
use Rattle.engine.specs.StateRows.{queue_from, state_from}
use Rattle.engine.specs.Validation.{valid_request}
use Rattle.engine.proofs.ValidStates.{queue_next, queued_of, queued_in}
use native.Mathlib.Omega.{arith}
use Rattle.engine.proofs.validation.valid_requests.Goals as goal

pub loop-i-init : goal.loop-i-init
loop-i-init c = λ f. refl

pub returns-then-not-valid_request : goal.returns-then-not-valid_request
returns-then-not-valid_request c =
    let w = c.args.words.now in
    let next = queue_next w (queued_of w) c.loop-i.i (omega arith) (omega arith) in
    λ f.
    let fails = sym (c.valid_request.ensures f) ∙ not-true _ c.if-not-valid_request.true-raw in
    rw (queued_in w) (sym (all-fails (valid_request (state_from w f)) next fails) ∙ c.loop-i.invariant f)

pub loop-i-preserved : goal.loop-i-preserved
loop-i-preserved c =
    let w = c.args.words.now in
    let next = queue_next w (queued_of w) c.loop-i.i (omega arith) (omega arith) in
    λ f.
    let passes = sym (c.valid_request.ensures f) ∙ not-false _ c.if-not-valid_request.false-raw in
    sym (all-next (valid_request (state_from w f)) next passes) ∙ c.loop-i.invariant f

pub returns : goal.returns
returns c =
    let w = c.args.words.now in
    let none = slice_none (queue_from w) (queued_of w) c.loop-i.i (omega arith) in
    λ f. rw (queued_in w) (sym (all_none (valid_request (state_from w f)) none) ∙ c.loop-i.invariant f)
