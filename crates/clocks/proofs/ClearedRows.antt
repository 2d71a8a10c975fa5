-- The rows of a new clock: its channels cleared, then its own rows.
use mathlib.Core.Path.{◌≡◌, refl, ◌∙◌, ap}
use mathlib.Core.Bool.{true, cond}
use mathlib.Core.List.{List, [], ◌∷◌, ◌++◌}
use Prim.Native.Nat.{ℕ, ◌+◌, ◌-◌, ◌*◌, ◌<◌, ◌≤◌}
use native.Mathlib.Nat.{mod-eq_of_lt}
use native.Mathlib.Omega.{arith}
use borrow.Author.Tests.{lt-ltb}
use lib.Dec.{ltb}
use lib.Ieee.{Float, le, to_bits}
use lib.ListN.{length, get_or, set, take, drop, replicate, length-replicate, get_or-append}
use lib.Seq.{length-take-le, get_or-take}
use Rattle.std.proofs.lemmas.List.{get_or-append_right, get_or-replicate}
use Rattle.std.specs.Prelude.{Option, Some, None, is_some, unwrap_or}
use Rattle.std.specs.Int.{from_bool}
use Rattle.hazards.specs.Floats.{z, zero_bits}
use Rattle.hazards.specs.Ties.{tie_breaker_of, tie_number}
use Rattle.hazards.specs.declared.ties.TieBreaker.{TieBreaker}
use Rattle.hazards.specs.declared.ties.TieBreaker.TheVariants.{LowestCauseId, HighestCauseId, ExplicitPriority}
use Rattle.clocks.specs.Channels.{empty_channel}
use Rattle.clocks.specs.Clocks.{policy_number, policy_of, no_entity, one, new_clock, with_channels}
use Rattle.clocks.specs.Layout.{WordRows, FloatRows, table, byte_from, channel_from, channel_at, clock_of, clock_from, present_in}
use Rattle.clocks.specs.Layout.{coded_settings, coded_schedule, coded_times, coded_words, coded_numbers, coded_channel}
use Rattle.clocks.specs.Layout.{Coded, Sized, Leaves}
use Rattle.clocks.specs.declared.clocks.EntityId.{EntityId}
use Rattle.clocks.specs.declared.clocks.HazardInterruptionPolicy.{HazardInterruptionPolicy}
use Rattle.clocks.specs.declared.clocks.HazardInterruptionPolicy.TheVariants.{Restart, RetainResidual}
use Rattle.clocks.proofs.OwnRows.{own_words, own_stored, own_present, own_stored_coded}
use Rattle.clocks.proofs.RowLaws.{flag_back, flag_coded}
use Rattle.clocks.proofs.Tables.{table_same}

abbrev pub zero_words : List ℕ
zero_words = replicate 8 0

abbrev pub zero_floats : List Float
zero_floats = replicate 8 z

cleared_channel : channel_from zero_words zero_floats zero_floats zero_floats ≡ empty_channel
unfolding channel_from
cleared_channel = refl

cleared_coded : coded_channel zero_words zero_floats ≡ true
unfolding coded_words coded_numbers zero_bits to_bits
cleared_coded = refl

-- ---- rows that are filled from one on

module _ {A : Type 0} (row : List A) (a k : ℕ) (xs ys : List (List A)) (h : a ≤ length xs) (filled : ys ≡ replicate k row) where
  abbrev with_filled : List (List A)
  with_filled = take a xs ++ (ys ++ drop k (drop a xs))

  before_filled : (r : ℕ) → r < a → get_or with_filled r [] ≡ get_or xs r []
  before_filled r l =
      get_or-append (take a xs) (ys ++ drop k (drop a xs)) [] r (omega (arith, length-take-le a xs h)) ∙ get_or-take a xs r [] l

  there_filled : (r : ℕ) → a ≤ r → r < a + k → get_or with_filled r [] ≡ row
  there_filled r l u =
      let long = ap length filled ∙ length-replicate k row in
      get_or-append_right (take a xs) (ys ++ drop k (drop a xs)) a r [] (length-take-le a xs h) l
      ∙ (get_or-append ys (drop k (drop a xs)) [] (r - a) (omega (arith, long)) ∙ rw filled (get_or-replicate k (r - a) row [] (omega arith)))

-- ---- every channel is cleared, and the rows that are no channel's are as before

pub record Cleared (w₀ : WordRows) (f₀ : FloatRows) (w : WordRows) (f : FloatRows) : Type 0 where
  pub settings : get_or w 0 [] ≡ get_or w₀ 0 []
  pub schedule : get_or w 1 [] ≡ get_or w₀ 1 []
  pub times : get_or f 0 [] ≡ get_or f₀ 0 []
  pub words : (r : ℕ) → 2 ≤ r → r < 10 → get_or w r [] ≡ zero_words
  pub floats : (r : ℕ) → 1 ≤ r → r < 25 → get_or f r [] ≡ zero_floats

module _ (w : WordRows) (f : FloatRows) (sized : Sized w f) {ws : WordRows} {ns : FloatRows} (words : ws ≡ replicate 8 zero_words)
    (floats : ns ≡ replicate 24 zero_floats) where
  pub cleared_filled : Cleared w f (with_filled zero_words 2 8 w ws (omega (arith, sized.words)) words)
      (with_filled zero_floats 1 24 f ns (omega (arith, sized.floats)) floats)
  cleared_filled =
      let w' : 2 ≤ length w = omega (arith, sized.words) in
      let f' : 1 ≤ length f = omega (arith, sized.floats) in
      record {
        settings = before_filled zero_words 2 8 w ws w' words 0 (omega arith);
        schedule = before_filled zero_words 2 8 w ws w' words 1 (omega arith);
        times = before_filled zero_floats 1 24 f ns f' floats 0 (omega arith);
        words = λ r a b. there_filled zero_words 2 8 w ws w' words r a (omega arith);
        floats = λ r a b. there_filled zero_floats 1 24 f ns f' floats r a (omega arith);
      }

module _ (w₀ w : WordRows) (f₀ f : FloatRows) (e : Cleared w₀ f₀ w f) where
  empty_there : (j : ℕ) → j < 8 → channel_at w f j ≡ empty_channel
  empty_there j h =
      rw (
        e.words (2 + j) (omega arith) (omega arith),
        e.floats (1 + 3 * j) (omega arith) (omega arith),
        e.floats (2 + 3 * j) (omega arith) (omega arith),
        e.floats (3 + 3 * j) (omega arith) (omega arith),
        cleared_channel,
      )

  pub coded_there : (j : ℕ) → j < 8 → coded_channel (get_or w (2 + j) []) (get_or f (1 + 3 * j) []) ≡ true
  coded_there j h = rw (e.words (2 + j) (omega arith) (omega arith), e.floats (1 + 3 * j) (omega arith) (omega arith)) cleared_coded

  cleared_clock : clock_from w f ≡ with_channels (clock_from w₀ f₀) (replicate 8 empty_channel) (clock_from w₀ f₀).channel_count
  unfolding clock_from clock_of table
  cleared_clock =
      rw (e.settings, e.schedule, e.times, table_same 8 (λ (j : ℕ). empty_channel) (λ (j : ℕ). channel_at w f j) empty_there)

  pub cleared-all : Leaves w₀ f₀ w f (with_channels (clock_from w₀ f₀) (replicate 8 empty_channel) (clock_from w₀ f₀).channel_count)
  cleared-all = record {
    clock = cleared_clock;
    present = rw e.settings;
    coded = λ h. record {
      settings = rw e.settings h.settings;
      schedule = rw e.schedule h.schedule;
      times = rw e.times h.times;
      channels = coded_there;
    };
  }

-- ---- a new clock's own rows

policy_back : (p : HazardInterruptionPolicy) → policy_of (byte_from (policy_number p)) ≡ p
policy_back Restart = refl
policy_back RetainResidual = refl

tie_back : (t : TieBreaker) → tie_breaker_of (byte_from (tie_number t)) ≡ t
tie_back LowestCauseId = refl
tie_back HighestCauseId = refl
tie_back ExplicitPriority = refl

policy_coded : (p : HazardInterruptionPolicy) → ltb (policy_number p) 2 ≡ true
policy_coded Restart = refl
policy_coded RetainResidual = refl

tie_coded : (t : TieBreaker) → ltb (tie_number t) 3 ≡ true
tie_coded LowestCauseId = refl
tie_coded HighestCauseId = refl
tie_coded ExplicitPriority = refl

-- without an entity none is kept
entity_kept : (entity : Option EntityId) → unwrap_or entity no_entity ≡ cond (is_some entity) (unwrap_or entity no_entity) no_entity
entity_kept (Some e) = refl
entity_kept None = refl

module _ (process : ℕ) (entity : Option EntityId) (named : EntityId) (policy : HazardInterruptionPolicy) (tie : TieBreaker) (tick scale : Float)
    (e : named ≡ unwrap_or entity no_entity) (s : scale ≡ cond (le tick z) one tick) (h : named.generation < 4294967296) where
  abbrev new_settings : List ℕ
  new_settings =
      1 ∷ process ∷ from_bool (is_some entity) ∷ named.index ∷ named.generation ∷ policy_number policy ∷ tie_number tie ∷ 0 ∷ []

  abbrev new_times : List Float
  new_times = scale ∷ z ∷ z ∷ z ∷ z ∷ z ∷ z ∷ z ∷ []

  new-clock : clock_of new_settings zero_words new_times (replicate 8 empty_channel) ≡ new_clock process (is_some entity) (unwrap_or entity no_entity) policy tie tick
  unfolding clock_of new_clock
  new-clock = rw (flag_back (is_some entity), mod-eq_of_lt h, policy_back policy, tie_back tie, ← entity_kept entity, e, s)

  settings_coded : coded_settings new_settings ≡ true
  unfolding coded_settings
  settings_coded = rw (flag_coded (is_some entity), lt-ltb _ _ h, policy_coded policy, tie_coded tie)

  schedule_coded : coded_schedule zero_words ≡ true
  unfolding coded_schedule
  schedule_coded = refl

  times_coded : coded_times new_times ≡ true
  unfolding coded_times zero_bits to_bits
  times_coded = refl

  pub new_stored : (w : WordRows) (f : FloatRows) → Sized w f → (clock_from w f).channels ≡ replicate 8 empty_channel
      → ((j : ℕ) → j < 8 → coded_channel (get_or w (2 + j) []) (get_or f (1 + 3 * j) []) ≡ true)
      → (clock_from (own_words w new_settings zero_words) (set f 0 new_times) ≡ new_clock process (is_some entity) (unwrap_or entity no_entity) policy tie tick)
      × (present_in (own_words w new_settings zero_words) ≡ true) × Coded (own_words w new_settings zero_words) (set f 0 new_times)
  new_stored w f sized empty coded = (
    own_stored w f sized new_settings zero_words new_times ∙ rw empty new-clock,
    own_present w f sized new_settings zero_words new_times,
    own_stored_coded w f sized new_settings zero_words new_times settings_coded schedule_coded times_coded coded,
  )
