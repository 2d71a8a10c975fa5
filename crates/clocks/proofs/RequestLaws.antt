-- What each method of a clock leaves alone, and what it does to its scheduled event, winner and active flag. The engine's queue rests on
-- those that it cites; docs/DEMANDS.md names the others for readers.
use mathlib.Core.Path.{◌≡◌, refl, ap, sym}
use mathlib.Core.Bool.{Bool, true, false, true≢false}
use mathlib.Core.List.{List}
use Prim.Native.Nat.{ℕ}
use lib.Ieee.{Float}
use Rattle.hazards.specs.declared.ties.TieBreaker.{TieBreaker}
use Rattle.clocks.specs.Channels.{settled, restarted, on_used, place_of_cause}
use Rattle.clocks.specs.Clocks.{not_scheduled, no_winner, new_clock, used_channels, with_channels, with_schedule, remove_channel}
use Rattle.clocks.specs.Clocks.{SurvivalClock}
use Rattle.clocks.specs.Setting.{set_channel}
use Rattle.clocks.specs.Scheduling.{Censor, RealizedEvent, Rescheduled, scheduled_for, reschedule, pause, resume, on_event_dispatched}
use Rattle.clocks.specs.declared.channels.HazardChannelState.{HazardChannelState}
use Rattle.clocks.specs.declared.clocks.EntityId.{EntityId}
use Rattle.clocks.specs.declared.clocks.HazardInterruptionPolicy.{HazardInterruptionPolicy}
use Rattle.clocks.specs.declared.setting.CauseSetting.{CauseSetting}
use Rattle.hazards.proofs.Cases.{by_test}
use Rattle.clocks.proofs.Places.{by_place}
use Rattle.clocks.proofs.SchedulingCases.{pause_inactive, pause_active}
use Rattle.clocks.proofs.SettingOutcomes.{set-way}

-- a clock that differs from k in its channels alone
abbrev pub OnlyChannels : SurvivalClock → SurvivalClock → Type 0
OnlyChannels k clock = clock ≡ with_channels k clock.channels clock.channel_count

-- a clock that differs from k in its scheduled event, winner, active flag and last update alone: its channels are k's
abbrev pub OnlySchedule : SurvivalClock → SurvivalClock → Type 0
OnlySchedule k clock =
    clock
    ≡ with_schedule k clock.scheduled_event_id clock.current_winner clock.is_active clock.last_update_time

-- k with f on each used channel; by definition `settled` gives a channel another accumulated hazard and interval start, `restarted` another
-- interval start
abbrev pub changed : (HazardChannelState → HazardChannelState) → SurvivalClock → SurvivalClock
changed f k = with_channels k (on_used f k.channel_count k.channels) k.channel_count

-- process id, entity, policy, tie and scale are k's
abbrev pub SameSettings : SurvivalClock → SurvivalClock → Type 0
SameSettings k clock =
    (clock.process_id ≡ k.process_id) × (clock.has_entity ≡ k.has_entity) × (clock.entity ≡ k.entity)
    × (clock.policy ≡ k.policy) × (clock.tie_breaker ≡ k.tie_breaker) × (clock.tick_scale ≡ k.tick_scale)

schedule_settings : (k clock : SurvivalClock) → OnlySchedule k clock → SameSettings k clock
schedule_settings k clock e = (
  ap (λ (c : SurvivalClock). c.process_id) e,
  ap (λ (c : SurvivalClock). c.has_entity) e,
  ap (λ (c : SurvivalClock). c.entity) e,
  ap (λ (c : SurvivalClock). c.policy) e,
  ap (λ (c : SurvivalClock). c.tie_breaker) e,
  ap (λ (c : SurvivalClock). c.tick_scale) e,
)

-- ---- new
module _ (process : ℕ) (has_entity : Bool) (entity : EntityId) (policy : HazardInterruptionPolicy) (tie : TieBreaker) (scale : Float) where
  pub new_scheduled : (new_clock process has_entity entity policy tie scale).scheduled_event_id ≡ not_scheduled
  unfolding new_clock
  new_scheduled = refl

  pub new_winner : (new_clock process has_entity entity policy tie scale).current_winner ≡ no_winner
  unfolding new_clock
  new_winner = refl

  pub new_active : (new_clock process has_entity entity policy tie scale).is_active ≡ false
  unfolding new_clock
  new_active = refl

-- ---- set_channel
module _ (k : SurvivalClock) (s : CauseSetting) (stream : List ℕ) (position : ℕ) where
  pub set_rest : OnlyChannels k (set_channel k s stream position).clock
  set_rest = set-way k s stream position (λ r. OnlyChannels k r.clock) (λ cs n. refl) (λ cs n d. refl) (λ d. refl) refl

  pub set-scheduled : (set_channel k s stream position).clock.scheduled_event_id ≡ k.scheduled_event_id
  set-scheduled = ap (λ (c : SurvivalClock). c.scheduled_event_id) set_rest

  pub set-winner : (set_channel k s stream position).clock.current_winner ≡ k.current_winner
  set-winner = ap (λ (c : SurvivalClock). c.current_winner) set_rest

  pub set-active : (set_channel k s stream position).clock.is_active ≡ k.is_active
  set-active = ap (λ (c : SurvivalClock). c.is_active) set_rest

-- ---- remove_channel
module _ (k : SurvivalClock) (cause : ℕ) where
  pub remove_rest : OnlyChannels k (remove_channel k cause)
  unfolding remove_channel
  remove_rest = by_place (place_of_cause cause (used_channels k)) (λ at e. rw (remove_channel, e)) (λ e. rw (remove_channel, e))

  pub remove_scheduled : (remove_channel k cause).scheduled_event_id ≡ k.scheduled_event_id
  remove_scheduled = ap (λ (c : SurvivalClock). c.scheduled_event_id) remove_rest

  pub remove_winner : (remove_channel k cause).current_winner ≡ k.current_winner
  remove_winner = ap (λ (c : SurvivalClock). c.current_winner) remove_rest

  pub remove_active : (remove_channel k cause).is_active ≡ k.is_active
  remove_active = ap (λ (c : SurvivalClock). c.is_active) remove_rest

-- ---- reschedule and resume

-- k rescheduled: its old event is withdrawn. With a new event it names the given index, holds a winner and is active; without one it names
-- nothing, and winner and active flag stay
pub record AskedOfQueue (k : SurvivalClock) (index : ℕ) (r : Rescheduled) : Type 0 where
  pub withdraws : r.withdrawn ≡ k.scheduled_event_id
  pub names : r.event.present ≡ true → r.clock.scheduled_event_id ≡ record { present = true; index = index }
  pub wins : r.event.present ≡ true → r.clock.current_winner.present ≡ true
  pub active : r.event.present ≡ true → r.clock.is_active ≡ true
  pub names_nothing : r.event.present ≡ false → r.clock.scheduled_event_id ≡ not_scheduled
  pub winner_stays : r.event.present ≡ false → r.clock.current_winner ≡ k.current_winner
  pub active_stays : r.event.present ≡ false → r.clock.is_active ≡ k.is_active

for_requests : (k : SurvivalClock) (now : Float) (event : RealizedEvent) (index : ℕ) → AskedOfQueue k index (scheduled_for k now event index)
unfolding scheduled_for
for_requests k now event index =
    by_test event.present
    (λ e. rw e (record {
      withdraws = refl;
      names = λ p. refl;
      wins = λ p. refl;
      active = λ p. refl;
      names_nothing = λ p. absurd (true≢false p);
      winner_stays = λ p. absurd (true≢false p);
      active_stays = λ p. absurd (true≢false p);
    }))
    (λ e. rw e (record {
      withdraws = refl;
      names = λ p. absurd (true≢false (sym p));
      wins = λ p. absurd (true≢false (sym p));
      active = λ p. absurd (true≢false (sym p));
      names_nothing = λ p. refl;
      winner_stays = λ p. refl;
      active_stays = λ p. refl;
    }))

for_rest : (k : SurvivalClock) (now : Float) (event : RealizedEvent) (index : ℕ) → OnlySchedule k (scheduled_for k now event index).clock
unfolding scheduled_for
for_rest k now event index = by_test event.present (λ e. rw e) (λ e. rw e)

module _ (k : SurvivalClock) (now : Float) (censor : Censor) (index : ℕ) where
  pub reschedule_requests : AskedOfQueue k index (reschedule k now censor index)
  unfolding reschedule
  reschedule_requests = for_requests k now _ index

  pub resume_requests : AskedOfQueue k index (resume k now censor index)
  unfolding resume reschedule
  resume_requests =
      let r = for_requests (with_channels k _ _) now _ index in
      record {
        withdraws = r.withdraws;
        names = r.names;
        wins = r.wins;
        active = r.active;
        names_nothing = r.names_nothing;
        winner_stays = r.winner_stays;
        active_stays = r.active_stays;
      }

  -- reschedule leaves the channels alone: nothing is settled
  pub reschedule_rest : OnlySchedule k (reschedule k now censor index).clock
  unfolding reschedule
  reschedule_rest = for_rest k now _ index

  pub reschedule_settings : SameSettings k (reschedule k now censor index).clock
  reschedule_settings = schedule_settings k _ reschedule_rest

-- resume changes the interval starts of the channels and nothing else of them
module _ (k : SurvivalClock) (now : Float) (censor : Censor) (index : ℕ) where
  pub resume_rest : OnlySchedule (changed (restarted now) k) (resume k now censor index).clock
  unfolding resume
  resume_rest = reschedule_rest (changed (restarted now) k) now censor index

  pub resume_settings : SameSettings k (resume k now censor index).clock
  resume_settings = schedule_settings (changed (restarted now) k) _ resume_rest

-- ---- pause
module _ (k : SurvivalClock) (now : Float) where
  pub pause_withdraws : k.is_active ≡ true → (pause k now).withdrawn ≡ k.scheduled_event_id
  pause_withdraws p = rw (pause_active k now p)

  pub pause_names_nothing : k.is_active ≡ true → (pause k now).clock.scheduled_event_id ≡ not_scheduled
  pause_names_nothing p = rw (pause_active k now p)

  pub pause_deactivates : k.is_active ≡ true → (pause k now).clock.is_active ≡ false
  pause_deactivates p = rw (pause_active k now p)

  pub pause_winner : k.is_active ≡ true → (pause k now).clock.current_winner ≡ k.current_winner
  pause_winner p = rw (pause_active k now p)

  pub pause_leaves : k.is_active ≡ false → (pause k now).clock ≡ k
  pause_leaves p = rw (pause_inactive k now p)

  pub pause_withdraws_nothing : k.is_active ≡ false → (pause k now).withdrawn ≡ not_scheduled
  pause_withdraws_nothing p = rw (pause_inactive k now p)

  -- pause changes accumulated hazard and interval starts of the channels and nothing else of them
  pub pause_rest : k.is_active ≡ true → OnlySchedule (changed (settled now) k) (pause k now).clock
  pause_rest p = rw (pause_active k now p)

  pub pause_settings : SameSettings k (pause k now).clock
  pause_settings =
      by_test k.is_active (λ e. schedule_settings (changed (settled now) k) _ (pause_rest e))
      (λ e. rw (pause_leaves e) (refl, refl, refl, refl, refl, refl))

-- ---- on_event_dispatched
module _ (k : SurvivalClock) where
  pub dispatched_scheduled : (on_event_dispatched k).clock.scheduled_event_id ≡ not_scheduled
  unfolding on_event_dispatched
  dispatched_scheduled = refl

  pub dispatched_winner : (on_event_dispatched k).clock.current_winner ≡ no_winner
  unfolding on_event_dispatched
  dispatched_winner = refl

  pub dispatched_active : (on_event_dispatched k).clock.is_active ≡ false
  unfolding on_event_dispatched
  dispatched_active = refl

  -- the channels are left alone: nothing is settled
  pub dispatched_rest : OnlySchedule k (on_event_dispatched k).clock
  unfolding on_event_dispatched
  dispatched_rest = refl

  pub dispatched_settings : SameSettings k (on_event_dispatched k).clock
  dispatched_settings = schedule_settings k _ dispatched_rest
