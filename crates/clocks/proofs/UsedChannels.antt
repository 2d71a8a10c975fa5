-- The used channels of a clock that has eight places, one after another, and the places of a cause among them.
use mathlib.Core.Path.{◌≡◌, refl, sym, ◌∙◌, ap}
use mathlib.Core.List.{List, [], ◌∷◌}
use Prim.Native.Nat.{ℕ, zero, suc, ◌+◌, ◌<◌, ◌≤◌, min}
use native.Mathlib.Numerals.{add-one}
use native.Mathlib.Omega.{arith}
use borrow.Author.Tests.{lt-ltb, le-ltb, eq-eqb, ne_eqb}
use lib.Ieee.{nan}
use lib.ListN.{length, get_or, take, drop, length-take, drop_of_length-le}
use lib.Seq.{drop-cons, get_or-take}
use Rattle.hazards.specs.declared.rates.HazardRate.TheVariants.{Zero}
use Rattle.std.specs.Prelude.{Option, Some, None}
use Rattle.clocks.specs.Channels.{further, place_of_cause, place_for_new}
use Rattle.clocks.specs.declared.channels.HazardChannelState.{HazardChannelState}

-- what a read past the last place is taken to give; no code reads there
abbrev pub past_end : HazardChannelState
past_end = record {
  cause_id = 0;
  priority = 0;
  hazard = Zero;
  intervals = record { ends = []; rates = []; count = 0 };
  accumulated_hazard = nan;
  target_threshold = nan;
  interval_start_time = nan;
}

-- a read that is not past the last place gives what is there
pub get_d_any : (cs : List HazardChannelState) (i : ℕ) (d e : HazardChannelState) → i < length cs → get_or cs i d ≡ get_or cs i e
get_d_any [] i d e h = absurd (omega arith)
get_d_any (c ∷ cs) zero d e h = refl
get_d_any (c ∷ cs) (suc i) d e h = get_d_any cs i d e (omega arith)

module _ (cs : List HazardChannelState) (count : ℕ) (eight : length cs ≡ 8) where
  pub used-length : length (take count cs) ≡ min count 8
  used-length = rw (length-take, eight)

  used_at : (i : ℕ) (d : HazardChannelState) → i < min count 8 → get_or (take count cs) i d ≡ get_or cs i d
  used_at i d h = get_or-take count cs i d (omega arith)

  pub used_next : (i : ℕ) (d : HazardChannelState) → i < min count 8 → drop i (take count cs) ≡ get_or cs i d ∷ drop (i + 1) (take count cs)
  used_next i d h = rw (add-one, ← used_at i d h) (drop-cons (take count cs) i d (rw used-length h))

  pub used_end : (i : ℕ) → min count 8 ≤ i → drop i (take count cs) ≡ []
  used_end i h = drop_of_length-le (take count cs) {i = i} (rw used-length h)

-- ---- the search for a cause: `at` channels do not have it, and the next has it, or not, or there is none
none_further : (p : Option ℕ) → further 0 p ≡ p
none_further (Some at) = ap Some (omega arith)
none_further None = refl

one_further : (n : ℕ) (p : Option ℕ) → further n (further 1 p) ≡ further (n + 1) p
one_further n (Some at) = ap Some (omega arith)
one_further n None = refl

module _ (us : List HazardChannelState) (cause : ℕ) where
  abbrev pub Searched : ℕ → Type 0
  Searched at = further at (place_of_cause cause (drop at us)) ≡ place_of_cause cause us

  pub search_start : Searched 0
  search_start = none_further (place_of_cause cause us)

  module _ (at : ℕ) (searched : Searched at) where
    module _ {c : HazardChannelState} (first : drop at us ≡ c ∷ drop (at + 1) us) where
      pub search_here : c.cause_id ≡ cause → Some at ≡ place_of_cause cause us
      search_here h =
          let e : place_of_cause cause (drop at us) ≡ Some 0 = unfold place_of_cause in rw (first, eq-eqb _ _ h) in
          ap Some (omega arith) ∙ rw e at searched

      pub search_later : (c.cause_id ≡ cause → ⊥) → Searched (at + 1)
      search_later h =
          let rest = place_of_cause cause (drop (at + 1) us) in
          let e : place_of_cause cause (drop at us) ≡ further 1 rest = unfold place_of_cause in rw (first, ne_eqb _ _ h) in
          sym (one_further at rest) ∙ rw e at searched

    pub search_end : drop at us ≡ [] → None ≡ place_of_cause cause us
    search_end end =
        let e : place_of_cause cause (drop at us) ≡ None = unfold place_of_cause in rw end in
        rw e at searched

-- ---- the place of a new cause: the first of these has a higher one, or not, or there is none
module _ {us vs : List HazardChannelState} {c : HazardChannelState} (cause : ℕ) (first : us ≡ c ∷ vs) where
  pub new_here : cause < c.cause_id → place_for_new cause us ≡ 0
  unfolding place_for_new
  new_here h = rw (first, lt-ltb _ _ h)

  pub new_later : c.cause_id ≤ cause → place_for_new cause us ≡ place_for_new cause vs + 1
  unfolding place_for_new
  new_later h = rw (first, le-ltb _ _ h, add-one)

pub new_none : {us : List HazardChannelState} (cause : ℕ) → us ≡ [] → place_for_new cause us ≡ 0
unfolding place_for_new
new_none cause none = rw none
