-- A table of f 0, .., f (n - 1): its places, and one place changed.
use mathlib.Core.Path.{◌≡◌, refl, sym, ◌∙◌, ap}
use Prim.Native.Nat.{ℕ, zero, suc, ◌<◌}
use native.Mathlib.Omega.{arith}
use borrow.Author.Tests.{eqb-true, eqb-false}
use lib.Dec.{eqb}
use lib.ListN.{length, get_or, set, length-set}
use lib.Seq.{ext_get_or, get_or-set_same, get_or-set_other}
use Rattle.hazards.proofs.Cases.{by_test}
use Rattle.clocks.specs.Layout.{table}

module _ {A : Type 0} where
  pub length-table : (n : ℕ) (f : ℕ → A) → length (table n f) ≡ n
  unfolding table
  length-table zero f = refl
  length-table (suc n) f = ap suc (length-table n (λ i. f (suc i)))

  pub get_d_table : (n : ℕ) (f : ℕ → A) (i : ℕ) (d : A) → i < n → get_or (table n f) i d ≡ f i
  unfolding table
  get_d_table zero f i d h = absurd (omega arith)
  get_d_table (suc n) f zero d h = refl
  get_d_table (suc n) f (suc i) d h = get_d_table n (λ j. f (suc j)) i d (omega arith)

  -- two tables that agree at every place but one
  pub table-set : (n : ℕ) (f g : ℕ → A) (i : ℕ) → i < n → ((j : ℕ) → j < n → (j ≡ i → ⊥) → g j ≡ f j) → table n g ≡ set (table n f) i (g i)
  table-set n f g i h other =
      ext_get_or (g i) (table n g) (set (table n f) i (g i))
      (length-table n g ∙ sym (length-set (table n f) i (g i) ∙ length-table n f)) (λ j l.
      let b : j < n = omega (arith, length-table n g) in
      get_d_table n g j (g i) b
      ∙ by_test (eqb j i)
      (λ e. let same : j ≡ i = eqb-true j i e in rw same (sym (get_or-set_same (table n f) i (g i) (g i) (omega (arith, length-table n f)))))
      (λ e.
      let apart : j ≡ i → ⊥ = eqb-false j i e in
      other j b apart ∙ sym (get_or-set_other (table n f) i j (g i) (g i) apart ∙ get_d_table n f j (g i) b)))

  -- two that agree at every place
  pub table_same : (n : ℕ) (f g : ℕ → A) → ((j : ℕ) → j < n → g j ≡ f j) → table n g ≡ table n f
  unfolding table
  table_same zero f g h = refl
  table_same (suc n) f g h = rw (h 0 (omega arith), table_same n (λ i. f (suc i)) (λ i. g (suc i)) (λ j l. h (suc j) (omega arith)))
