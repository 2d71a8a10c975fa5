-- SET on a clock in lent memory by its cases: the clock that it leaves in the rows, and its answer.
use mathlib.Core.Path.{◌≡◌, refl, sym, ◌∙◌, ap}
use mathlib.Core.Bool.{Bool, true, false}
use mathlib.Core.List.{List, []}
use Prim.Native.Nat.{ℕ, ◌<◌}
use native.Mathlib.Omega.{arith}
use lib.Dec.{ltb}
use lib.Ieee.{Float}
use lib.ListN.{get_or}
use Rattle.hazards.specs.Floats.{z}
use Rattle.hazards.specs.Draws.{draw_at, draw_and_position}
use Rattle.hazards.specs.Refusals.{number}
use Rattle.hazards.specs.declared.draws.Drawn.{Drawn}
use Rattle.hazards.specs.declared.refusals.Refusal.{Refusal}
use Rattle.hazards.proofs.RefusalLaws.{number_not_zero}
use Rattle.std.specs.Prelude.{Some, None, Result, Ok, Err, OnErr}
use Rattle.clocks.specs.Channels.{settled_hazard, place_of_cause}
use Rattle.clocks.specs.Clocks.{SurvivalClock, policy_of, used_channels}
use Rattle.clocks.specs.Layout.{WordRows, FloatRows, byte_from, channel_at, clock_from, Leaves}
use Rattle.clocks.specs.Setting.{ChannelSet, not_set, channel_of, draws_again, set_again}
use Rattle.clocks.specs.RowsInternals.{takes_cause, channel_draw, channel_drawn}
use Rattle.clocks.specs.declared.channels.HazardChannelState.{HazardChannelState}
use Rattle.clocks.specs.declared.clocks.HazardInterruptionPolicy.{HazardInterruptionPolicy}
use Rattle.clocks.specs.declared.setting.CauseSetting.{CauseSetting}
use Rattle.clocks.proofs.OwnRows.{policy_in}
use Rattle.clocks.proofs.RowLaws.{with_channel_at, channels_eight, channel-in, leaves_none, leaves_as}
use Rattle.clocks.proofs.SettingCases.{again_kept, again_refused, again_drawn}

-- whether the clock takes a cause: it has it, or it lacks it
module _ (k : SurvivalClock) (cause : ℕ) where
  pub takes_held : {at : ℕ} → Some at ≡ place_of_cause cause (used_channels k) → true ≡ takes_cause k cause
  unfolding takes_cause
  takes_held h = rw (takes_cause, ← h)

  pub takes_absent : None ≡ place_of_cause cause (used_channels k) → ltb k.channel_count 8 ≡ takes_cause k cause
  unfolding takes_cause
  takes_absent h = rw (takes_cause, ← h)

-- an outcome, as it lies in the rows; a refusal leaves every word and float as it was
abbrev pub SetLeaves : WordRows → FloatRows → WordRows → FloatRows → ChannelSet → ℕ → Result ℕ Refusal → Type 0
SetLeaves w f w' f' o position r =
    Leaves w f w' f' o.clock × (channel_drawn position r ≡ channel_draw o) × OnErr r ((w' ≡ w) × (f' ≡ f))

pub set-leaves : {w w' : WordRows} {f f' : FloatRows} {o p : ChannelSet} (position next : ℕ) → o ≡ p
    → channel_drawn position (Ok next) ≡ channel_draw o → Leaves w f w' f' o.clock → SetLeaves w f w' f' p position (Ok next)
set-leaves position next e d l = (leaves_as l (ap (λ (x : ChannelSet). x.clock) e), d ∙ ap channel_draw e, tt)

pub refused-leaves : (w : WordRows) (f : FloatRows) {p : ChannelSet} (position : ℕ) (refusal : Refusal)
    → not_set (clock_from w f) position (number refusal) ≡ p → SetLeaves w f w f p position (Err refusal)
refused-leaves w f position refusal e =
    (leaves_as (leaves_none w f) (ap (λ (x : ChannelSet). x.clock) e), ap channel_draw e, (refl, refl))

-- a cause that the clock has, at its place
module _ (w : WordRows) (f : FloatRows) (s : CauseSetting) (stream : List ℕ) (position at : ℕ) (h : at < 8)
    {old : HazardChannelState} {policy : HazardInterruptionPolicy} {accumulated : Float} {draws : Bool}
    (o : old ≡ channel_at w f at) (p : policy ≡ policy_of (byte_from (get_or (get_or w 0 []) 5 0)))
    (a : accumulated ≡ settled_hazard old s.now) (b : draws ≡ draws_again policy accumulated old.target_threshold) where
  abbrev k : SurvivalClock
  k = clock_from w f

  there : get_or k.channels at old ≡ old
  there = channel-in w f at old h ∙ sym o

  settled_there : accumulated ≡ settled_hazard (get_or k.channels at old) s.now
  settled_there = rw there a

  drawn_there : draws ≡ draws_again k.policy accumulated (get_or k.channels at old).target_threshold
  drawn_there = rw (there, policy_in w f, ← p) b

  module _ (w' : WordRows) (f' : FloatRows) (c : HazardChannelState) (stored : Leaves w f w' f' (with_channel_at k at c)) where
    pub kept_in_place : draws ≡ false → c ≡ channel_of s accumulated old.target_threshold
        → SetLeaves w f w' f' (set_again k s stream position at) position (Ok position)
    kept_in_place d q =
        set-leaves position position
        (again_kept k s stream position at old (omega (arith, channels_eight w f)) settled_there drawn_there d (rw there q))
        refl stored

    pub drawn_in_place : (d : Drawn) → draws ≡ true → draw_and_position position (Ok d) ≡ draw_at stream position
        → c ≡ channel_of s z d.threshold
        → SetLeaves w f w' f' (set_again k s stream position at) position (Ok d.position.next)
    drawn_in_place d t e q =
        set-leaves position d.position.next
        (again_drawn k s stream position at old (omega (arith, channels_eight w f)) settled_there drawn_there t e refl q)
        refl stored

  pub refused_in_place : (refusal : Refusal) → draws ≡ true → draw_and_position position (Err refusal) ≡ draw_at stream position
      → SetLeaves w f w f (set_again k s stream position at) position (Err refusal)
  refused_in_place refusal t e =
      refused-leaves w f position refusal
      (again_refused k s stream position at old (omega (arith, channels_eight w f)) settled_there drawn_there t e
      (number_not_zero refusal))
