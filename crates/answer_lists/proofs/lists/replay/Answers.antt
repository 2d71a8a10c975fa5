-- A case more is read, tried and counted.
use Rattle.std.proofs.Common.{◌≡◌, ℕ, zero, suc, List, [], ◌∷◌, ◌++◌, rules, of_calls, arith, length, refl, sym, ap, ◌∙◌, subst, append-nil}
use Rattle.std.proofs.lemmas.Grind.{common_steps}
use Rattle.std.specs.Io.KnownBytes.{Consumes}
use Rattle.std.specs.List.{FoldsTo, concat, All}
use Rattle.std.proofs.KnownBytes.{Consumes-trans}
use Rattle.std.proofs.lemmas.List.Folds.{concat-append}
use Rattle.std.proofs.lemmas.List.Elements.{All-append}
use Rattle.answer_lists.proofs.lists.replay.Goals as goal

FoldsTo-push : {P A : Type 0} (R : P → A → P → Type 0) (p : P) (xs : List A) (q : P) (x : A) (u : P) → FoldsTo R p xs q → R q x u → FoldsTo R p (xs ++ x ∷ []) u
FoldsTo-push R p [] q x u before last = (u, subst (λ s. R s x u) (sym before) last, refl)
FoldsTo-push R p (y ∷ ys) q x u before last = (before.0, before.1, FoldsTo-push R before.0 ys q x u before.2 last)

All-one : {X : Type 0} (P : X → Type 0) (x : X) → P x → All P (x ∷ [])
All-one P x h zero d l = h
All-one P x h (suc k) d l = absurd (omega arith)

concat-push : (xs : List (List ℕ)) (x : List ℕ) → concat xs ++ x ≡ concat (xs ++ x ∷ [])
concat-push xs x = ap (λ l. concat xs ++ l) (sym (append-nil x)) ∙ sym (concat-append xs (x ∷ []))

pub loop-preserved : goal.loop-preserved
loop-preserved g c =
    let before = c.loop.invariant.1 in (
      search of_calls,
      (
        before.0 ++ c.in-Some.case ∷ [],
        FoldsTo-push _ _ before.0 _ c.in-Some.case _ before.1
            (c.agrees.result, record { shown = _; shows = refl; called = c.agrees.ensures }, c.with-count.ensures),
        subst (Consumes _ _) (concat-push before.0 c.in-Some.case) (Consumes-trans _ _ _ _ _ before.2 (rw c.in-Some.is at c.in_ok-case.ensures.case)),
        All-append (λ case. length case ≡ g.row.N) before.0 (c.in-Some.case ∷ []) before.3 (All-one (λ case. length case ≡ g.row.N) c.in-Some.case (search rules)),
        grind (arith, common_steps),
      ),
    )
