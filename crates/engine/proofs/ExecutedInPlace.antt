-- What one input leaves in lent memory, by what the code does: a refusal changes nothing, an accepted command is copied into the journal.
use mathlib.Core.Path.{◌≡◌, refl, sym, ap, ◌∙◌}
use mathlib.Core.Bool.{Bool, true, false, ◌&&◌, true≢false}
use mathlib.Core.List.{List}
use lib.ListN.{length}
use lib.Seq.{paste}
use Prim.Native.Nat.{ℕ}
use Rattle.hazards.specs.Answers.{no_event}
use Rattle.hazards.specs.Refusals.{invalid_state}
use Rattle.hazards.specs.declared.answers.Answer.{Answer}
use Rattle.hazards.proofs.Cases.{both_true}
use Rattle.clocks.specs.Layout.{WordRows, FloatRows}
use Rattle.engine.specs.Engine.{Bytes, Performed, reject, carry_out, classify, unchanged}
use Rattle.engine.specs.Execute.{act, write}
use Rattle.engine.specs.Execution.{perform}
use Rattle.engine.specs.Instance.{engine_of}
use Rattle.engine.specs.Answers.{AfterInput, after}
use Rattle.engine.specs.State.{EngineState}
use Rattle.engine.specs.StateRows.{shared_from, state_from, coded_state, SizedState, CodedState, Performs}
use Rattle.engine.specs.InPlace.{has_sizes, is_state, left_by, Executes, input_on, ExecutesInput}
use Rattle.engine.specs.Validation.{valid_state}
use Rattle.engine.proofs.Asking.{asks_invalid, execute_rejects}
use Rattle.engine.proofs.CodedStates.{state_facts}
use Rattle.engine.proofs.PerformedInPlace.{is_performed, is_rejected, shared_read}
use Rattle.engine.proofs.SizedRows.{sizes_facts}

module _ (stream : List ℕ) (w : WordRows) (f : FloatRows) (j : Bytes) where
  -- refused by the number, with every row and the journal as they were
  pub refused_in_place : {o : AfterInput} (number : ℕ) (w' : WordRows) (f' : FloatRows) (a : Answer)
      → o ≡ after stream (length j) (unchanged (engine_of stream (length j)) (state_from w f) j number)
      → w' ≡ w → f' ≡ f → a ≡ no_event number → Executes w f o w' f' j a
  refused_in_place number w' f' a e p q r =
      let d : left_by a w' f' j ≡ left_by (no_event number) w f j = rw (p, q, r) in
      record {
        does = d ∙ sym e;
        keeps = λ _. (p, q);
        coded = λ h. rw (p, q) h;
      }

  module _ (c : Bytes) (w' : WordRows) (f' : FloatRows) (a : Answer)
      (did : Performs w f (perform stream (length j) (state_from w f) c) w' f' a) where
    -- what is left, by what performing the command gives
    abbrev written : Performed EngineState Answer → AfterInput
    written o = after stream (length j) (write (engine_of stream (length j)) (state_from w f) j c o)

    abbrev left : AfterInput
    left = after stream (length j) (act (engine_of stream (length j)) (state_from w f) j (carry_out c))

    pub command_refused : (a.number ≡ 0 → ⊥) → Executes w f left w' f' j a
    command_refused z =
        let kept = did.keeps z in
        refused_in_place a.number w' f' a (ap written (is_rejected (state_from w' f') a did.does z)) kept.0 kept.1 kept.2

    pub command_applied : (j' : Bytes) → a.number ≡ 0 → j' ≡ paste j (shared_from w).applied_length c (length c)
        → Executes w f left w' f' j' a
    command_applied j' z e =
        let p : paste j (shared_from w).applied_length c (length c) ≡ paste j (state_from w f).shared.applied_length c (length c) =
        rw (shared_read w f) refl in
        record {
          does = ap (left_by a w' f') (e ∙ p) ∙ sym (ap written (is_performed (state_from w' f') a did.does z));
          keeps = λ other. absurd (other z);
          coded = did.coded;
        }

-- ---- an input

-- rows that are a valid state
pub record ValidRows (stream : List ℕ) (n : ℕ) (w : WordRows) (f : FloatRows) : Type 0 where
  pub here : is_state w f ≡ true
  pub sized : SizedState w f
  pub coded : CodedState w f
  pub valid : valid_state stream n (state_from w f) ≡ true

pub valid_rows : (stream : List ℕ) (n : ℕ) (w : WordRows) (f : FloatRows) {passes : Bool}
    → passes ≡ (is_state w f && valid_state stream n (state_from w f)) → passes ≡ true → ValidRows stream n w f
valid_rows stream n w f e t =
    let both = both_true (is_state w f) (valid_state stream n (state_from w f)) (sym e ∙ t) in
    let rows = both_true (has_sizes w f) (coded_state w f) both.0 in
    record { here = both.0; sized = sizes_facts w f rows.0; coded = state_facts w f rows.1; valid = both.1 }

module _ (stream : List ℕ) (w : WordRows) (f : FloatRows) (j input : Bytes) where
  -- on a state
  pub on_state : {w' : WordRows} {f' : FloatRows} {j' : Bytes} {a : Answer} → is_state w f ≡ true
      → Executes w f (input_on stream w f j input) w' f' j' a → ExecutesInput stream w f j input w' f' j' a
  on_state here e = ((λ _. e), (λ other. absurd (true≢false (sym here ∙ other))))

  -- refused by the number before anything is done
  pub rejected_in_place : (number : ℕ) (a : Answer) → a ≡ no_event number
      → classify (engine_of stream (length j)) (state_from w f) input ≡ reject number → Executes w f (input_on stream w f j input) w f j a
  rejected_in_place number a e k =
      refused_in_place stream w f j number w f a
      (ap (after stream (length j)) (execute_rejects (engine_of stream (length j)) (state_from w f) j input number k)) refl refl e

  -- rows that are no valid state are refused by 1
  pub invalid_in_place : {passes : Bool} (a : Answer) → a ≡ no_event invalid_state
      → passes ≡ (is_state w f && valid_state stream (length j) (state_from w f)) → passes ≡ false → ExecutesInput stream w f j input w f j a
  invalid_in_place a r e t =
      let E = engine_of stream (length j) in
      let valid = valid_state stream (length j) (state_from w f) in (
        (λ here.
            rejected_in_place invalid_state a r
            (asks_invalid E (state_from w f) input (sym (ap (λ (b : Bool). b && valid) here) ∙ (sym e ∙ t)))),
        (λ _. (r, record { words = refl; floats = refl; journal = refl })),
      )
