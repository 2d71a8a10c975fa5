-- The comparison of two states in lent memory, number by number. Coded rows are the same so exactly where what they are read as is the
-- same in every field (proofs/SameRows.antt).
use Rattle.std.specs.Prelude.{Bool, List, [], eqb, Float, length, get_or, ℕ}
use Rattle.std.specs.Float.{nan}
use Rattle.clocks.specs.Layout.{WordRows, FloatRows, every_below}
use Rattle.engine.specs.Comparison.{same_float}

unfoldable pub same_word_row : List ℕ → List ℕ → Bool
same_word_row a b = every_below 8 (λ i. eqb (get_or a i 0) (get_or b i 0))

unfoldable pub same_float_row : List Float → List Float → Bool
same_float_row a b = every_below 8 (λ i. same_float (get_or a i nan) (get_or b i nan))

unfoldable pub same_word_rows : WordRows → WordRows → Bool
same_word_rows a b = every_below (length a) (λ i. same_word_row (get_or a i []) (get_or b i []))

unfoldable pub same_float_rows : FloatRows → FloatRows → Bool
same_float_rows a b = every_below (length a) (λ i. same_float_row (get_or a i []) (get_or b i []))
