-- `inspection::clock_rows` gives the rows of a clock that is there.
use Rattle.std.proofs.Common.{◌≡◌, ℕ, ◌+◌, ◌*◌, ◌-◌, ◌≤◌, List, length, take, drop, length-drop, take_all, ◌∙◌, ap, eq-eqb, arith}
use Rattle.olgaemuri.proofs.inspection.clock_rows.Goals as goal

-- the front of what is left behind a place, as far as it goes
front_there : {A : Type 0} (n a k : ℕ) (xs ys : List A) → ys ≡ xs → length xs ≤ a + k → take n (take k (drop a ys)) ≡ take n (drop a xs)
front_there n a k xs ys same long =
    let left : length (drop a xs) ≤ k = rw (length-drop a xs) (omega arith) in
    rw (same) (ap (take n) (take_all k (drop a xs) left))

pub returns : goal.returns
returns c =
    let words = c.in_ok-words.ensures.cases in
    let floats = c.in_ok-floats.ensures.cases in
    let clock : 10 * c.args.clock ≤ 177 = omega (arith, c.if-clock-ge-CLOCKS.false) in
    let own = c.in_ok-first_chunk.ensures.cases in
    let own_floats = c.in_ok-first_chunk-2.ensures.cases in
    record {
      sizes = rw (eq-eqb _ 177 words.long, eq-eqb _ 400 floats.long);
      within = omega (arith, c.if-clock-ge-CLOCKS.false);
      words = own.same ∙ front_there 10 (10 * c.args.clock) (177 - 10 * c.args.clock) c.args.words.now c.in_ok-words.words.now words.same (omega (arith, words.long));
      floats = own_floats.same ∙ front_there 25 (25 * c.args.clock) (400 - 25 * c.args.clock) c.args.floats.now c.in_ok-floats.floats.now floats.same (omega (arith, floats.long));
    }
