-- A change made to each used channel in turn.
use mathlib.Core.Path.{◌≡◌, refl, sym}
use mathlib.Core.List.{List, map, map-append}
use Prim.Native.Nat.{ℕ, suc, ◌+◌, ◌<◌, min}
use mathlib.Core.Logic.{⊎_elim}
use native.Mathlib.Nat.{eq-or-lt_of_le}
use native.Mathlib.Numerals.{add-one}
use native.Mathlib.Omega.{arith}
use lib.ListN.{length, get_or, set, take, drop, length-map, drop_of_length-le}
use lib.Seq.{drop-cons, take-suc, take_all, append_snoc, length_front, length-take-le, get_or_at, set_at}
use Rattle.clocks.specs.Channels.{on_used}
use Rattle.clocks.specs.Clocks.{SurvivalClock, with_channels}
use Rattle.clocks.specs.declared.channels.HazardChannelState.{HazardChannelState}

pub each_none : (f : HazardChannelState → HazardChannelState) (cs : List HazardChannelState) → on_used f 0 cs ≡ cs
unfolding on_used
each_none f cs = refl

module _ (f : HazardChannelState → HazardChannelState) (cs : List HazardChannelState) (i : ℕ) (d : HazardChannelState)
    (lt : i < length cs) where
  before-length : length (map f (take i cs)) ≡ i
  before-length = rw length-map (length-take-le i cs (omega arith))

  pub each_at : get_or (on_used f i cs) i d ≡ get_or cs i d
  unfolding on_used
  each_at = rw (drop-cons cs i d lt) (get_or_at (map f (take i cs)) (get_or cs i d) (drop (suc i) cs) d i before-length)

  each_more : set (on_used f i cs) i (f (get_or cs i d)) ≡ on_used f (i + 1) cs
  unfolding on_used
  each_more =
      rw (
        drop-cons cs i d lt,
        set_at (map f (take i cs)) (get_or cs i d) (drop (suc i) cs) (f (get_or cs i d)) i before-length,
        add-one,
        take-suc cs i d lt,
        map-append,
      )
      (sym (append_snoc (map f (take i cs)) (f (get_or cs i d)) (drop (suc i) cs)))

-- all eight, where more are counted
pub each_all : (f : HazardChannelState → HazardChannelState) (count : ℕ) (cs : List HazardChannelState) → length cs ≡ 8
    → on_used f (min count 8) cs ≡ on_used f count cs
unfolding on_used
each_all f count cs eight =
    ⊎_elim
    (λ (e : min count 8 ≡ 8).
    rw (
      e,
      take_all 8 cs (omega arith),
      take_all count cs (omega arith),
      drop_of_length-le cs {i = 8} (omega arith),
      drop_of_length-le cs {i = count} (omega arith),
    ))
    (λ (h : min count 8 < 8). let e : min count 8 ≡ count = omega arith in rw e)
    (eq-or-lt_of_le (omega arith))

pub each-length : (f : HazardChannelState → HazardChannelState) (i : ℕ) (cs : List HazardChannelState) → length (on_used f i cs) ≡ length cs
unfolding on_used
each-length f i cs = length_front cs (map f (take i cs)) i (simp length-map)

-- a clock in whose channels the first i are changed
module _ (f : HazardChannelState → HazardChannelState) (k clock : SurvivalClock) (i : ℕ) (d : HazardChannelState)
    (eight : length k.channels ≡ 8) where
  pub each_turn : i < 8 → clock ≡ with_channels k (on_used f i k.channels) k.channel_count
      → with_channels clock (set clock.channels i (f (get_or clock.channels i d))) clock.channel_count
      ≡ with_channels k (on_used f (i + 1) k.channels) k.channel_count
  each_turn h e =
      let lt : i < length k.channels = rw eight h in
      rw (e, each_at f k.channels i d lt, each_more f k.channels i d lt)
