-- A sound clock with the channel of a used place replaced or taken out, or with a new one put in at its cause's place.
use mathlib.Core.Path.{◌≡◌, sym, ◌∙◌}
use Prim.Native.Nat.{ℕ, ◌+◌, ◌<◌, ◌≤◌, zero-le, suc, ◌-◌}
use native.Mathlib.Omega.{arith}
use lib.ListN.{get_or, set, length-take, length-set}
use lib.Seq.{take-set-lt, drop-set-lt, get_or-take}
use Rattle.std.specs.Prelude.{Some, None}
use Rattle.clocks.specs.Channels.{empty_channel, place_of_cause, place_for_new, insert_at, remove_at}
use Rattle.clocks.specs.Clocks.{SurvivalClock, used_channels, with_channels}
use Rattle.clocks.specs.declared.channels.HazardChannelState.{HazardChannelState}
use Rattle.clocks.proofs.Sound.{next, SoundChannel, SoundClock}
use Rattle.clocks.proofs.AscendingCauses.{inserted_ascend, set-ascend, removed_ascend}
use Rattle.clocks.proofs.ChangedPlaces.{inserted_places, inserted_used, inserted_unused}
use Rattle.clocks.proofs.ChangedPlaces.{removed_places, removed_used, removed_unused}
use Rattle.clocks.proofs.EachLaws.{each_append, each_take, each-drop, each_set, each_at}
use Rattle.clocks.proofs.Places.{place_below, place_cause, cause_lacks, new_most}
use Rattle.clocks.proofs.SoundClocks.{channels_sound}

module _ (k : SurvivalClock) (sk : SoundClock k) where
  -- ---- the place of a cause is used, and its channel is sound
  module _ (at cause : ℕ) (h : place_of_cause cause (used_channels k) ≡ Some at) where
    used_place : at < k.channel_count
    used_place =
        let below = place_below cause (used_channels k) h in
        omega (arith, length-take k.channel_count k.channels)

    pub held_sound : SoundChannel (get_or k.channels at empty_channel)
    held_sound =
        rw (get_or-take k.channel_count k.channels at empty_channel used_place)
        at (each_at at empty_channel (place_below cause (used_channels k) h) sk.used)

    -- another channel of that cause
    pub replaced_sound : (c : HazardChannelState) → c.cause_id ≡ cause → SoundChannel c
        → SoundClock (with_channels k (set k.channels at c) k.channel_count)
    replaced_sound c q sc =
        let cs = k.channels in
        let n = k.channel_count in
        let e = take-set-lt n cs at c used_place in
        channels_sound k sk (set cs at c) n (length-set cs at c ∙ sk.places) sk.count (rw e (each_set at c sc sk.used))
        (drop-set-lt n cs at c used_place ∙ sk.unused)
        (rw (e, set-ascend 0 at c empty_channel (used_channels k) (place_cause cause (used_channels k) h ∙ sym q)) sk.causes)

    -- without it
    pub removed_sound : SoundClock (with_channels k (remove_at at k.channels) (k.channel_count - 1))
    removed_sound =
        let cs = k.channels in
        let n = k.channel_count in
        let few = sk.count in
        let r = removed_used cs sk.places at n used_place few in
        channels_sound k sk (remove_at at cs) (n - 1) (removed_places cs sk.places at n used_place few) (omega arith)
        (rw r (each_append (each_take at sk.used) (each-drop (suc at) sk.used)))
        (removed_unused cs sk.places at n used_place few sk.unused) (rw r (removed_ascend 0 at (used_channels k) sk.causes))

  -- ---- a channel of a new cause put in at its place
  pub added_sound : (c : HazardChannelState) → k.channel_count < 8 → place_of_cause c.cause_id (used_channels k) ≡ None
      → SoundChannel c
      → SoundClock (with_channels k (insert_at (place_for_new c.cause_id (used_channels k)) c k.channels) (k.channel_count + 1))
  added_sound c room h sc =
      let cs = k.channels in
      let n = k.channel_count in
      let at = place_for_new c.cause_id (used_channels k) in
      let most = new_most c.cause_id (used_channels k) in
      let l : at ≤ n = omega (arith, length-take n cs) in
      let r : n ≤ 7 = omega arith in
      let e = inserted_used cs sk.places at n c l r in
      channels_sound k sk (insert_at at c cs) (n + 1) (inserted_places cs sk.places at n c l r) (omega arith)
      (rw e (each_append (each_take at sk.used) (next sc (each-drop at sk.used))))
      (inserted_unused cs sk.places at n c l r sk.unused)
      (rw e (inserted_ascend c 0 (used_channels k) zero-le (cause_lacks c.cause_id (used_channels k) h) sk.causes))
