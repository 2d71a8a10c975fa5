-- `validation::valid_slots` meets its contract: at each turn the slots from k on pass where all pass.
use mathlib.Core.Path.{◌≡◌, refl, sym, ◌∙◌}
use mathlib.Core.Bool.{true}
use Prim.Native.Nat.{◌*◌}
use borrow.Author.Tests.{not-true, not-false}
use Rattle.hazards.proofs.ListLaws.{all-next, all-fails, all_none}
use Rattle.engine.specs.StateRows.{slot_from}
use Rattle.engine.specs.Validation.{valid_slot}
use Rattle.engine.proofs.ValidStates.{cut, part_sized, slots_next, slots_end, slot_present, slot_absent}
use native.Mathlib.Omega.{arith}
use Rattle.engine.proofs.validation.valid_slots.Goals as goal
use Rattle.engine.proofs.validation.valid_slots.Goals.{then-is_present+else-not-valid_clock, else-is_present}

pub loop-k-init : goal.loop-k-init
loop-k-init c = refl

pub returns-then-not-valid_clock : goal.returns-then-not-valid_clock
returns-then-not-valid_clock c =
    let k = c.loop-k.k in
    let w = c.args.words.now in
    let f = c.args.floats.now in
    let rows = rw c.unwrap-rows.ensures at c.as_array.ensures.cases in
    let numbers = rw c.unwrap-numbers.ensures at c.as_array-then-is_present.ensures.cases in
    let refused = rw (rows.same, numbers.same, cut (10 * k) 10, cut (25 * k) 25) at (sym c.valid_clock.ensures ∙ not-true _ c.if-not-valid_clock.true-raw) in
    let fails = slot_present w f k (sym c.is_present.ensures ∙ c.if-is_present.true) ∙ refused in
    sym (all-fails valid_slot (slots_next w f k (omega arith)) fails) ∙ c.loop-k.invariant

pub loop-k-preserved : goal.loop-k-preserved
loop-k-preserved c =
    let k = c.loop-k.k in
    let w = c.args.words.now in
    let f = c.args.floats.now in
    let there = sym c.is_present.ensures in
    let passes : valid_slot (slot_from w f k) ≡ true =
    elim c.if-is_present.branch [
      | then-is_present+else-not-valid_clock v ↦
          let rows = rw v.unwrap-rows.ensures at v.as_array.ensures.cases in
          let numbers = rw v.unwrap-numbers.ensures at v.as_array-then-is_present.ensures.cases in
          slot_present w f k (there ∙ v.if-is_present.true)
          ∙ rw (rows.same, numbers.same, cut (10 * k) 10, cut (25 * k) 25) at (sym v.valid_clock.ensures ∙ not-false _ v.if-not-valid_clock.false-raw)
      | else-is_present v ↦ slot_absent w f k (there ∙ v.if-is_present.false)
    ] in
    sym (all-next valid_slot (slots_next w f k (omega arith)) passes) ∙ c.loop-k.invariant

pub returns : goal.returns
returns c =
    let a = c.args in
    sym (all_none valid_slot (slots_end a.words.now a.floats.now c.loop-k.k (omega arith))) ∙ c.loop-k.invariant
