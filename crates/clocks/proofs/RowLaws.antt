-- What a change of rows leaves of a clock in lent memory, and one call in place after another.
use mathlib.Core.Path.{◌≡◌, refl, ◌∙◌}
use mathlib.Core.Bool.{Bool, true, false}
use mathlib.Core.List.{[]}
use Prim.Native.Nat.{ℕ, ◌+◌, ◌*◌, ◌<◌, ◌≤◌}
use native.Mathlib.Omega.{arith}
use borrow.Author.Tests.{eqb-true, eqb-false}
use lib.Dec.{eqb}
use lib.ListN.{length, get_or, set}
use Rattle.std.specs.Int.{from_bool}
use Rattle.hazards.proofs.Cases.{by_test}
use Rattle.clocks.specs.Clocks.{SurvivalClock, with_channels}
use Rattle.clocks.specs.Layout.{WordRows, FloatRows, flag_from, is_flag, channel_at, clock_of, clock_from, coded_channel, Coded, Leaves}
use Rattle.clocks.specs.declared.channels.HazardChannelState.{HazardChannelState}
use Rattle.clocks.proofs.Tables.{length-table, get_d_table, table-set}

pub channels_eight : (w : WordRows) (f : FloatRows) → length (clock_from w f).channels ≡ 8
unfolding clock_from clock_of
channels_eight w f = length-table 8 (λ j. channel_at w f j)

pub channel-in : (w : WordRows) (f : FloatRows) (j : ℕ) (d : HazardChannelState) → j < 8
    → get_or (clock_from w f).channels j d ≡ channel_at w f j
unfolding clock_from clock_of
channel-in w f j d h = get_d_table 8 (λ i. channel_at w f i) j d h

-- the clock with another channel at j
abbrev pub with_channel_at : SurvivalClock → ℕ → HazardChannelState → SurvivalClock
with_channel_at k j c = with_channels k (set k.channels j c) k.channel_count

-- no row of channel j
abbrev pub NoWords : ℕ → ℕ → Type 0
NoWords j r = r ≡ 2 + j → ⊥

abbrev pub NoFloats : ℕ → ℕ → Type 0
NoFloats j r = 1 + 3 * j ≤ r → r ≤ 3 + 3 * j → ⊥

-- where only rows of channel j are changed, only channel j is
module _ (w w' : WordRows) (f f' : FloatRows) (j : ℕ) (hj : j < 8)
    (words : (r : ℕ) → NoWords j r → get_or w' r [] ≡ get_or w r [])
    (floats : (r : ℕ) → NoFloats j r → get_or f' r [] ≡ get_or f r []) where
  channel_beside : (i : ℕ) → i < 8 → (i ≡ j → ⊥) → channel_at w' f' i ≡ channel_at w f i
  channel_beside i hi apart =
      rw (
        words (2 + i) (λ e. apart (omega arith)),
        floats (1 + 3 * i) (λ a b. apart (omega arith)),
        floats (2 + 3 * i) (λ a b. apart (omega arith)),
        floats (3 + 3 * i) (λ a b. apart (omega arith)),
      )

  channel_clock : clock_from w' f' ≡ with_channel_at (clock_from w f) j (channel_at w' f' j)
  unfolding clock_from clock_of
  channel_clock =
      rw (
        words 0 (λ e. omega arith),
        words 1 (λ e. omega arith),
        floats 0 (λ a b. omega arith),
        table-set 8 (λ i. channel_at w f i) (λ i. channel_at w' f' i) j hj channel_beside,
      )

  channel_coded : Coded w f → coded_channel (get_or w' (2 + j) []) (get_or f' (1 + 3 * j) []) ≡ true → Coded w' f'
  channel_coded h c = record {
    settings = rw (words 0 (λ e. omega arith)) h.settings;
    schedule = rw (words 1 (λ e. omega arith)) h.schedule;
    times = rw (floats 0 (λ a b. omega arith)) h.times;
    channels =
        λ i hi.
        by_test (eqb i j)
        (λ e. let same : i ≡ j = eqb-true i j e in rw same c)
        (λ e.
        let apart : i ≡ j → ⊥ = eqb-false i j e in
        rw (words (2 + i) (λ q. apart (omega arith)), floats (1 + 3 * i) (λ a b. apart (omega arith))) (h.channels i hi));
  }

  pub channel_changed : (Coded w f → coded_channel (get_or w' (2 + j) []) (get_or f' (1 + 3 * j) []) ≡ true)
      → Leaves w f w' f' (with_channel_at (clock_from w f) j (channel_at w' f' j))
  channel_changed c = record {
    clock = channel_clock;
    present = rw (words 0 (λ e. omega arith));
    coded = λ h. channel_coded h (c h);
  }

-- ---- a flag as it is stored

pub flag_back : (b : Bool) → flag_from (from_bool b) ≡ b
flag_back true = refl
flag_back false = refl

pub flag_coded : (b : Bool) → is_flag (from_bool b) ≡ true
flag_coded true = refl
flag_coded false = refl

-- ---- one call after another

module _ {w w' w'' : WordRows} {f f' f'' : FloatRows} {a b : SurvivalClock} where
  pub leaves_then : Leaves w f w' f' a → Leaves w' f' w'' f'' b → Leaves w f w'' f'' b
  leaves_then p q = record {
    clock = q.clock;
    present = q.present ∙ p.present;
    coded = λ h. q.coded (p.coded h);
  }

pub leaves_none : (w : WordRows) (f : FloatRows) → Leaves w f w f (clock_from w f)
leaves_none w f = record { clock = refl; present = refl; coded = λ h. h }

pub leaves_as : {w w' : WordRows} {f f' : FloatRows} {a b : SurvivalClock} → Leaves w f w' f' a → a ≡ b → Leaves w f w' f' b
leaves_as p e = record { clock = p.clock ∙ e; present = p.present; coded = p.coded }
