-- What ends a batch run before an input is executed: 17, or the 2 or 3 that the input is refused by; and the result that it writes.
use mathlib.Core.Path.{◌≡◌, refl, sym, ◌∙◌, ap, subst}
use mathlib.Core.Bool.{Bool, true, cond}
use mathlib.Core.List.{◌++◌, append-nil}
use Prim.Native.Nat.{ℕ, ◌+◌, ◌*◌, ◌<◌, ◌≤◌}
use native.Mathlib.Omega.{arith}
use borrow.Author.Tests.{eqb-true, eqb-false, leb-true, leb-false, le-ltb, lt-ltb, le-leb, lt-leb, ne_eqb}
use lib.Dec.{eqb, ltb, leb}
use lib.ListN.{length, length-append, drop_of_length-le}
use Rattle.hazards.specs.Fields.{bytes_of, with_field}
use Rattle.hazards.specs.Answers.{answer_width, no_event, with_answer}
use Rattle.hazards.proofs.Bytes.{bytes_of-length}
use Rattle.hazards.proofs.Overwrite.{over, over-length, over_next, field_over}
use Rattle.hazards.proofs.Cases.{by_test}
use Rattle.engine.specs.Commands.{width_of, front_refusal}
use Rattle.engine.specs.Refusals.{no_command, cut_short, answers_full}
use Rattle.engine.specs.Engine.{Bytes, code}
use Rattle.engine.specs.RunInternals.{Stop, stop, stop_at}

-- ---- the refusal of an input that ends a run, by the tests on the input

abbrev pub numbered : Bool → Bool → ℕ
numbered wide long = cond wide (cond long 0 cut_short) no_command

module _ (i : Bytes) where
  pub end_empty : length i ≡ 0 → cut_short ≡ front_refusal i
  unfolding front_refusal
  end_empty h = rw (le-ltb 0 (length i) (omega arith)) refl

  module _ (h : 0 < length i) where
    pub end_number : front_refusal i ≡ numbered (ltb 0 (width_of (code i))) (leb (width_of (code i)) (length i))
    unfolding front_refusal
    end_number = rw (lt-ltb 0 (length i) h) refl

    pub end_none : width_of (code i) ≤ 0 → no_command ≡ front_refusal i
    end_none w =
        sym (end_number ∙ ap (λ (b : Bool). numbered b (leb (width_of (code i)) (length i))) (le-ltb 0 (width_of (code i)) w))

    module _ (w : 0 < width_of (code i)) where
      by_length : front_refusal i ≡ numbered true (leb (width_of (code i)) (length i))
      by_length =
          end_number ∙ ap (λ (b : Bool). numbered b (leb (width_of (code i)) (length i))) (lt-ltb 0 (width_of (code i)) w)

      pub end_part : length i < width_of (code i) → cut_short ≡ front_refusal i
      end_part l = sym (by_length ∙ ap (numbered true) (lt-leb (width_of (code i)) (length i) l))

      pub end_whole : width_of (code i) ≤ length i → 0 ≡ front_refusal i
      end_whole l = sym (by_length ∙ ap (numbered true) (le-leb (width_of (code i)) (length i) l))

-- ---- the three ways

module _ (i answers result : Bytes) (answered read : ℕ) where
  pub stop_full : length answers < answer_width * answered + answer_width
      → stop answers_full answers (bytes_of 8 answered ++ bytes_of 8 read) ≡ stop_at i answers result answered read
  unfolding stop_at
  stop_full l = rw (lt-leb (answer_width * answered + answer_width) (length answers) l)

  module _ (l : answer_width * answered + answer_width ≤ length answers) (number : ℕ) (e : number ≡ front_refusal i) where
    pub stop_not : number ≡ 0 → stop number answers result ≡ stop_at i answers result answered read
    unfolding stop_at
    stop_not z = rw (le-leb (answer_width * answered + answer_width) (length answers) l, ← e, z)

    pub stop_number : (number ≡ 0 → ⊥)
        → stop number (with_answer answers (answer_width * answered) (no_event number)) (bytes_of 8 (answered + 1) ++ bytes_of 8 read)
        ≡ stop_at i answers result answered read
    unfolding stop_at
    stop_number z = rw (le-leb (answer_width * answered + answer_width) (length answers) l, ← e, ne_eqb number 0 z)

  pub stop_way : (P : Stop → Type 0)
      → (length answers < answer_width * answered + answer_width → P (stop answers_full answers (bytes_of 8 answered ++ bytes_of 8 read)))
      → (answer_width * answered + answer_width ≤ length answers → front_refusal i ≡ 0 → P (stop 0 answers result))
      → (answer_width * answered + answer_width ≤ length answers → (front_refusal i ≡ 0 → ⊥)
      → P
      (stop (front_refusal i) (with_answer answers (answer_width * answered) (no_event (front_refusal i)))
      (bytes_of 8 (answered + 1) ++ bytes_of 8 read)))
      → P (stop_at i answers result answered read)
  stop_way P full whole part =
      by_test (leb (answer_width * answered + answer_width) (length answers))
      (λ l.
      let room : answer_width * answered + answer_width ≤ length answers = leb-true _ _ l in
      by_test (eqb (front_refusal i) 0)
      (λ z. subst P (stop_not room 0 (sym (eqb-true _ _ z)) refl) (whole room (eqb-true _ _ z)))
      (λ z. subst P (stop_number room (front_refusal i) refl (eqb-false _ _ z)) (part room (eqb-false _ _ z))))
      (λ l. subst P (stop_full (leb-false _ _ l)) (full (leb-false _ _ l)))

-- ---- the result's two fields

pub result_written : (r : Bytes) (a b : ℕ) → length r ≡ 16 → with_field 8 (with_field 8 r 0 a) 8 b ≡ bytes_of 8 a ++ bytes_of 8 b
result_written r a b h =
    let xs : Bytes = bytes_of 8 a in
    let ys : Bytes = bytes_of 8 b in
    let lx : length xs ≡ 8 = bytes_of-length 8 a in
    let ly : length ys ≡ 8 = bytes_of-length 8 b in
    let f : 0 + length xs ≤ length r = omega arith in
    let lo : length (over 0 xs r) ≡ length r = over-length r 0 xs f in
    let k : 8 ≡ 0 + length xs = omega arith in
    let past : length r ≤ 0 + length (xs ++ ys) = omega (arith, length-append xs ys) in
    ap (λ (x : Bytes). with_field 8 x 8 b) (field_over 8 r 0 a (omega arith))
    ∙ field_over 8 (over 0 xs r) 8 b (omega arith)
    ∙ ap (λ (x : ℕ). over x ys (over 0 xs r)) k
    ∙ over_next r 0 xs f ys
    ∙ ap (λ (x : Bytes). (xs ++ ys) ++ x) (drop_of_length-le r past)
    ∙ append-nil (xs ++ ys)
