-- A channel's rows stored: what they are read as, and what is left of its clock.
use mathlib.Core.Path.{◌≡◌, refl, ◌∙◌, ap}
use mathlib.Core.Bool.{true}
use mathlib.Core.List.{List, [], ◌∷◌}
use Prim.Native.Nat.{ℕ, ◌+◌, ◌*◌, ◌<◌}
use native.Mathlib.Nat.{mod-eq_of_lt}
use native.Mathlib.Omega.{arith}
use borrow.Author.Tests.{lt-ltb}
use lib.Ieee.{Float, to_bits}
use lib.ListN.{length, get_or, set, length-set}
use lib.Seq.{get_or-set_same, get_or-set_other}
use Rattle.hazards.specs.Floats.{z, zero_bits}
use Rattle.hazards.specs.Rates.{rate_of_kind, kind_number, own_rate}
use Rattle.hazards.specs.declared.rates.HazardRate.{HazardRate}
use Rattle.hazards.specs.declared.rates.HazardRate.TheVariants.{Zero, Constant, Gompertz, Piecewise, Weibull}
use Rattle.hazards.proofs.Cases.{both_true}
use Rattle.clocks.specs.Layout.{WordRows, FloatRows, byte_from, channel_from, channel_at, clock_from, Sized, Leaves, Coded}
use Rattle.clocks.specs.Layout.{coded_words, coded_numbers, coded_channel}
use Rattle.clocks.specs.declared.channels.HazardChannelState.{HazardChannelState}
use Rattle.clocks.proofs.RowLaws.{with_channel_at, channel_changed, leaves_as}

-- ---- the rows of a channel

abbrev pub words_of : HazardChannelState → List ℕ
words_of c = c.cause_id ∷ c.priority ∷ kind_number c.hazard ∷ c.intervals.count ∷ 0 ∷ 0 ∷ 0 ∷ 0 ∷ []

abbrev pub numbers_of : HazardChannelState → List Float
numbers_of c =
    c.accumulated_hazard ∷ c.target_threshold ∷ c.interval_start_time ∷ own_rate c.hazard ∷ z ∷ z ∷ z ∷ z ∷ []

hazard_back : (h : HazardRate) → rate_of_kind (byte_from (kind_number h)) (own_rate h) ≡ h
unfolding own_rate
hazard_back Zero = refl
hazard_back (Constant rate) = refl
hazard_back (Gompertz eta) = refl
hazard_back (Piecewise trailing) = refl
hazard_back (Weibull scale) = refl

module _ (c : HazardChannelState) (hc : c.cause_id < 4294967296) (hp : c.priority < 4294967296) where
  pub channel_back : channel_from (words_of c) (numbers_of c) c.intervals.ends c.intervals.rates ≡ c
  unfolding channel_from
  channel_back = rw (mod-eq_of_lt hc, mod-eq_of_lt hp, hazard_back c.hazard)

  kind_coded : (h : HazardRate) → coded_numbers (kind_number h) (numbers_of (record {
    cause_id = c.cause_id;
    priority = c.priority;
    hazard = h;
    intervals = c.intervals;
    accumulated_hazard = c.accumulated_hazard;
    target_threshold = c.target_threshold;
    interval_start_time = c.interval_start_time;
  })) ≡ true
  unfolding coded_numbers zero_bits own_rate to_bits
  kind_coded Zero = refl
  kind_coded (Constant rate) = refl
  kind_coded (Gompertz eta) = refl
  kind_coded (Piecewise trailing) = refl
  kind_coded (Weibull scale) = refl

  words_coded : (h : HazardRate) → h ≡ c.hazard → coded_words (words_of c) ≡ true
  unfolding coded_words
  words_coded Zero e = rw (← e, lt-ltb _ _ hc, lt-ltb _ _ hp)
  words_coded (Constant rate) e = rw (← e, lt-ltb _ _ hc, lt-ltb _ _ hp)
  words_coded (Gompertz eta) e = rw (← e, lt-ltb _ _ hc, lt-ltb _ _ hp)
  words_coded (Piecewise trailing) e = rw (← e, lt-ltb _ _ hc, lt-ltb _ _ hp)
  words_coded (Weibull scale) e = rw (← e, lt-ltb _ _ hc, lt-ltb _ _ hp)

  pub stored_coded : coded_channel (words_of c) (numbers_of c) ≡ true
  stored_coded = rw (words_coded c.hazard refl, kind_coded c.hazard)

-- ---- stored in the clock's rows

words_kept : (w : WordRows) (f : FloatRows) (j : ℕ) → j < 8 → Coded w f → (ns : List Float)
    → coded_numbers (get_or (get_or w (2 + j) []) 2 0) ns ≡ true → coded_channel (get_or w (2 + j) []) ns ≡ true
words_kept w f j hj h ns e =
    let kept : coded_words (get_or w (2 + j) []) ≡ true = (both_true _ _ (h.channels j hj)).0 in
    rw (kept, e)

module _ (w : WordRows) (f : FloatRows) (j : ℕ) (hj : j < 8) (sized : Sized w f) where
  -- all four rows of a channel
  module _ (ws : List ℕ) (ns ends rates : List Float) where
    abbrev f₁ : FloatRows
    f₁ = set f (1 + 3 * j) ns

    abbrev f₂ : FloatRows
    f₂ = set f₁ (2 + 3 * j) ends

    abbrev pub four_rows : FloatRows
    four_rows = set f₂ (3 + 3 * j) rates

    words_there : get_or (set w (2 + j) ws) (2 + j) [] ≡ ws
    words_there = get_or-set_same w (2 + j) ws [] (omega (arith, sized.words))

    numbers_there : get_or four_rows (1 + 3 * j) [] ≡ ns
    numbers_there =
        get_or-set_other f₂ (3 + 3 * j) (1 + 3 * j) rates [] (λ q. omega arith)
        ∙ (get_or-set_other f₁ (2 + 3 * j) (1 + 3 * j) ends [] (λ q. omega arith)
        ∙ get_or-set_same f (1 + 3 * j) ns [] (omega (arith, sized.floats)))

    channel_there : channel_at (set w (2 + j) ws) four_rows j ≡ channel_from ws ns ends rates
    channel_there =
        let n₁ = length-set f (1 + 3 * j) ns in
        let n₂ = length-set f₁ (2 + 3 * j) ends in
        rw (
          words_there,
          numbers_there,
          get_or-set_other f₂ (3 + 3 * j) (2 + 3 * j) rates [] (λ q. omega arith),
          get_or-set_same f₁ (2 + 3 * j) ends [] (omega (arith, sized.floats)),
          get_or-set_same f₂ (3 + 3 * j) rates [] (omega (arith, sized.floats)),
        )

    pub rows_stored : (Coded w f → coded_channel ws ns ≡ true)
        → Leaves w f (set w (2 + j) ws) four_rows (with_channel_at (clock_from w f) j (channel_from ws ns ends rates))
    rows_stored coded =
        leaves_as
        (channel_changed w (set w (2 + j) ws) f four_rows j hj
        (λ r n. get_or-set_other w (2 + j) r ws [] n)
        (λ r n.
        get_or-set_other f₂ (3 + 3 * j) r rates [] (λ q. n (omega arith) (omega arith))
        ∙ (get_or-set_other f₁ (2 + 3 * j) r ends [] (λ q. n (omega arith) (omega arith))
        ∙ get_or-set_other f (1 + 3 * j) r ns [] (λ q. n (omega arith) (omega arith))))
        (λ h. rw (words_there, numbers_there) (coded h)))
        (ap (with_channel_at (clock_from w f) j) channel_there)

-- the row of its numbers alone
pub numbers_stored : (w : WordRows) (f : FloatRows) (j : ℕ) → j < 8 → length f ≡ 25 → (ns : List Float) → (Coded w f → coded_numbers (get_or (get_or w (2 + j) []) 2 0) ns ≡ true)
    → Leaves w f w (set f (1 + 3 * j) ns)
    (with_channel_at (clock_from w f) j (channel_from (get_or w (2 + j) []) ns (get_or f (2 + 3 * j) []) (get_or f (3 + 3 * j) [])))
numbers_stored w f j hj rows ns coded =
    let there : get_or (set f (1 + 3 * j) ns) (1 + 3 * j) [] ≡ ns = get_or-set_same f (1 + 3 * j) ns [] (omega arith) in
    leaves_as
    (channel_changed w w f (set f (1 + 3 * j) ns) j hj (λ r n. refl)
    (λ r n. get_or-set_other f (1 + 3 * j) r ns [] (λ q. n (omega arith) (omega arith)))
    (λ h. rw there (words_kept w f j hj h ns (coded h))))
    (rw (
      there,
      get_or-set_other f (1 + 3 * j) (2 + 3 * j) ns [] (λ q. omega arith),
      get_or-set_other f (1 + 3 * j) (3 + 3 * j) ns [] (λ q. omega arith),
    ))
