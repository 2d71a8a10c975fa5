-- Words joined bit by bit: what is joined is below a power of two where each word is, and zero where each is; of a clock's channels, that
-- they are coded.
use mathlib.Core.Path.{◌≡◌, refl}
use mathlib.Core.Bool.{Bool, true, false, ◌&&◌}
use mathlib.Core.List.{List}
use Prim.Native.Nat.{ℕ, ◌≤◌, ◌^◌}
use native.Mathlib.Omega.{arith}
use borrow.Author.Tests.{ltb-true, ltb-false, lt-ltb, le-ltb, eqb-true, eqb-false, ne_eqb}
use lib.Bits.{bit_or, or_lt, or_add_and, and_le_l, and_le_r}
use lib.Dec.{eqb, ltb}
use lib.Ieee.{Float}
use lib.ListN.{get_or}
use Rattle.hazards.proofs.Cases.{by_test}
use Rattle.hazards.specs.Rates.{kinds}
use Rattle.clocks.specs.Layout.{coded_words, coded_numbers, coded_channel}
use Rattle.clocks.proofs.EveryBelow.{and_false}

at_least_first : (a b : ℕ) → a ≤ bit_or a b
at_least_first a b = omega (arith, or_add_and a b, and_le_r a b)

at_least_second : (a b : ℕ) → b ≤ bit_or a b
at_least_second a b = omega (arith, or_add_and a b, and_le_l a b)

pub below_joined : (k a b : ℕ) → ltb (bit_or a b) (2 ^ k) ≡ (ltb a (2 ^ k) && ltb b (2 ^ k))
below_joined k a b =
    by_test (ltb a (2 ^ k))
    (λ p. by_test (ltb b (2 ^ k))
    (λ q. rw (p, q, lt-ltb (bit_or a b) (2 ^ k) (or_lt k a b (ltb-true a (2 ^ k) p) (ltb-true b (2 ^ k) q))))
    (λ q. rw (p, q, le-ltb (bit_or a b) (2 ^ k) (omega (arith, at_least_second a b, ltb-false b (2 ^ k) q)))))
    (λ p. rw (p, le-ltb (bit_or a b) (2 ^ k) (omega (arith, at_least_first a b, ltb-false a (2 ^ k) p))))

pub zero_joined : (a b : ℕ) → eqb (bit_or a b) 0 ≡ (eqb a 0 && eqb b 0)
zero_joined a b =
    by_test (eqb a 0)
    (λ p. rw (p, eqb-true a 0 p))
    (λ p. rw (p, ne_eqb (bit_or a b) 0 (λ e. eqb-false a 0 p (omega (arith, at_least_first a b, e)))))

-- five tests in another order
regrouped : (i s a b c : Bool) → ((i && s) && (a && (b && c))) ≡ ((i && (a && b)) && (s && c))
regrouped false s a b c = refl
regrouped true true true b c = refl
regrouped true true false b c = refl
regrouped true false true b c = rw (and_false b)
regrouped true false false b c = refl

in_pairs : (a b c d : Bool) → (a && (b && (c && d))) ≡ ((a && b) && (c && d))
in_pairs true b c d = refl
in_pairs false b c d = refl

-- one channel more, of a kind that is on the list
pub joined_more :
    (ids spare : ℕ) (ws : List ℕ) → ltb (get_or ws 2 0) kinds ≡ true
    → ((ltb ids 4294967296 && eqb spare 0) && coded_words ws)
    ≡ (ltb (bit_or ids (bit_or (get_or ws 0 0) (get_or ws 1 0))) 4294967296
    && eqb (bit_or spare (bit_or (bit_or (get_or ws 4 0) (get_or ws 5 0)) (bit_or (get_or ws 6 0) (get_or ws 7 0)))) 0)
unfolding coded_words
joined_more ids spare ws h =
    rw (
      h,
      below_joined 32 ids (bit_or (get_or ws 0 0) (get_or ws 1 0)),
      below_joined 32 (get_or ws 0 0) (get_or ws 1 0),
      zero_joined spare (bit_or (bit_or (get_or ws 4 0) (get_or ws 5 0)) (bit_or (get_or ws 6 0) (get_or ws 7 0))),
      zero_joined (bit_or (get_or ws 4 0) (get_or ws 5 0)) (bit_or (get_or ws 6 0) (get_or ws 7 0)),
      zero_joined (get_or ws 4 0) (get_or ws 5 0),
      zero_joined (get_or ws 6 0) (get_or ws 7 0),
      in_pairs (eqb (get_or ws 4 0) 0) (eqb (get_or ws 5 0) 0) (eqb (get_or ws 6 0) 0) (eqb (get_or ws 7 0) 0),
    )
    (regrouped (ltb ids 4294967296) (eqb spare 0) (ltb (get_or ws 0 0) 4294967296) (ltb (get_or ws 1 0) 4294967296)
    ((eqb (get_or ws 4 0) 0 && eqb (get_or ws 5 0) 0) && (eqb (get_or ws 6 0) 0 && eqb (get_or ws 7 0) 0)))

-- a kind off the list, or numbers that are not its own
pub not_coded :
    (ws : List ℕ) (ns : List Float) → (ltb (get_or ws 2 0) kinds && coded_numbers (get_or ws 2 0) ns) ≡ false → coded_channel ws ns ≡ false
unfolding coded_words
not_coded ws ns h =
    by_test (ltb (get_or ws 2 0) kinds)
    (λ p. rw (rw p at h, and_false (coded_words ws)))
    (λ p. rw (p, and_false (ltb (get_or ws 1 0) 4294967296), and_false (ltb (get_or ws 0 0) 4294967296)))
