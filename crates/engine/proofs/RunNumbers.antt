-- The numbers that inputs are answered by. 0 is that of accepted ones alone. No command that is executed is answered by 2 or 3, which end a
-- batch run: those are the numbers of bytes that are no whole command.
use mathlib.Core.Logic.{◌↔◌}
use mathlib.Core.Path.{◌≡◌, refl, ap, ◌∙◌}
use mathlib.Core.Bool.{Bool, true, false, cond, ◌||◌, true≢false}
use mathlib.Core.List.{List}
use mathlib.Core.Option.{Option, none, some}
use Prim.Native.Nat.{ℕ, ◌+◌}
use borrow.Author.Tests.{eqb-false}
use lib.Dec.{eqb, ltb, leb}
use lib.ListN.{length, take}
use Rattle.hazards.specs.Refusals.{too_many_causes, number_of, invalid_state}
use Rattle.hazards.specs.declared.refusals.Faults.{Faults}
use Rattle.hazards.specs.declared.answers.Answer.{Answer}
use Rattle.hazards.proofs.DrawLaws.{draw_number, each_way}
use Rattle.clocks.specs.Setting.{set_channel, ChannelSet}
use Rattle.clocks.specs.declared.setting.CauseSetting.{CauseSetting}
use Rattle.clocks.specs.Clocks.{SurvivalClock}
use Rattle.clocks.proofs.SettingOutcomes.{set-way}
use Rattle.engine.specs.Commands as commands
use Rattle.engine.specs.Commands.{width_of, byte_at, setting_of, create_faults, set_faults, cause_faults, reschedule_faults, pause_faults}
use Rattle.engine.specs.Queue.{next_request}
use Rattle.engine.specs.Comparison.{same_state}
use Rattle.engine.specs.State.{slot_at, queued_requests, ClockSlot, SharedState, EngineState}
use Rattle.engine.specs.Opening.{opened_state}
use Rattle.engine.specs.Validation.{valid_state}
use Rattle.engine.specs.Refusals.{cut_short, no_command, nothing_applied, replay_fails, journal_full}
use Rattle.engine.specs.Engine.{Bytes, Engine, Performed, rejected, performed, Asked, reject, undo_last, carry_out, code, Reply}
use Rattle.engine.specs.Engine.{refusal, reverted, completed, concat, init, cut, classify, unchanged}
use Rattle.engine.specs.Replay.{cleared, replay, commands_in, revert_last, undo_in, undo}
use Rattle.engine.specs.Execute.{write, act, execute}
use Rattle.engine.specs.Sessions.{Accepted}
use Rattle.engine.specs.Instance.{engine_of}
use Rattle.engine.specs.Execution.{OnSlot, refused, done, unless_full, unless_faulty, after_set, perform_create, perform_set}
use Rattle.engine.specs.Execution.{perform_remove, perform_reschedule, perform_pause, perform_resume, delivered, perform_deliver}
use Rattle.engine.specs.Execution.{perform_on, target, stored, perform}
use Rattle.engine.specs.Run.{ends_run}
use Rattle.engine.specs.Answers.{answer_of}
use Rattle.engine.specs.declared.state.Request.{Request}

abbrev Goes : ℕ → Type 0
Goes number = ends_run number ≡ false

-- a refusal of a command: neither 0 nor a number that ends a run
abbrev Refuses : ℕ → Type 0
Refuses number = (eqb number 0 || ends_run number) ≡ false

-- a command is refused by such a number, or its answer has number 0
abbrev GoesOn : OnSlot → Type 0
GoesOn (refused number) = Refuses number
GoesOn (done slot p a) = a.number ≡ 0

either : (b : Bool) (d e : OnSlot) → GoesOn d → GoesOn e → GoesOn (cond b d e)
either true d e h k = h
either false d e h k = k

-- d where the number is 0, else the refusal by it
zero_or : (number : ℕ) (d : OnSlot) → GoesOn d → Goes number → GoesOn (cond (eqb number 0) d (refused number))
zero_or number d h g = go (eqb number 0) refl
  where
    go : (b : Bool) → eqb number 0 ≡ b → GoesOn (cond b d (refused number))
    go true e = h
    go false e = ap (λ (b : Bool). b || ends_run number) e ∙ g

faults_go : (f : Faults) → Goes (number_of f)
faults_go f = go f.choice f.range f.intervals f.identifier
  where
    go : (a b c d : Bool) → Goes (cond a 4 (cond b 5 (cond c 6 (cond d 7 0))))
    go true b c d = refl
    go false true c d = refl
    go false false true d = refl
    go false false false true = refl
    go false false false false = refl

faulty_goes : (f : Faults) (d : OnSlot) → GoesOn d → GoesOn (unless_faulty f d)
faulty_goes f d h = zero_or (number_of f) d h (faults_go f)

clock_goes : (slot : ClockSlot) (d : OnSlot) → GoesOn d → GoesOn (cond slot.present d (refused 9))
clock_goes slot d h = either slot.present d (refused 9) h refl

-- a draw, and a channel that is set
draw_goes : (stream : List ℕ) (position : ℕ) → Goes (draw_number stream position)
draw_goes stream position =
    each_way stream position (λ d. Goes d.number) (λ h. refl) (λ h. refl) (λ h e. refl) (λ h e. refl)

set-goes : (k : SurvivalClock) (s : CauseSetting) (stream : List ℕ) (position : ℕ) → Goes (set_channel k s stream position).number
set-goes k s stream position =
    set-way k s stream position (λ r. Goes r.number) (λ cs n. refl) (λ cs n d. refl) (λ d. draw_goes stream position) refl

module _ (stream : List ℕ) (n : ℕ) (slot : ClockSlot) (p : SharedState) (c : List ℕ) where
  full_goes : (d : OnSlot) → GoesOn d → GoesOn (unless_full n p c d)
  full_goes d h = either (leb (p.applied_length + length c) n) d (refused journal_full) h refl

  after-set-goes : (r : ChannelSet) → Goes r.number → GoesOn (after_set n p c r)
  after-set-goes r h =
      either (eqb r.number too_many_causes) _ _ refl (full_goes _ (zero_or r.number _ refl h))

  deliver_goes : (o : Option Request) → GoesOn (delivered n slot p c o)
  deliver_goes none = refl
  deliver_goes (some r) = full_goes _ refl

  create_goes : GoesOn (perform_create n slot p c)
  unfolding perform_create
  create_goes = faulty_goes (create_faults c) _ (either slot.present _ _ refl (full_goes _ refl))

  set-on-goes : GoesOn (perform_set stream n slot p c)
  unfolding perform_set
  set-on-goes =
      faulty_goes (set_faults c) _
      (clock_goes slot _
      (after-set-goes (set_channel slot.clock (setting_of c) stream p.position)
      (set-goes slot.clock (setting_of c) stream p.position)))

  remove_goes : GoesOn (perform_remove n slot p c)
  unfolding perform_remove
  remove_goes = faulty_goes (cause_faults c) _ (clock_goes slot _ (full_goes _ refl))

  reschedule_goes : GoesOn (perform_reschedule n slot p c)
  unfolding perform_reschedule
  reschedule_goes = faulty_goes (reschedule_faults c) _ (clock_goes slot _ (full_goes _ refl))

  pause_goes : GoesOn (perform_pause n slot p c)
  unfolding perform_pause
  pause_goes = faulty_goes (pause_faults c) _ (clock_goes slot _ (full_goes _ refl))

  resume_goes : GoesOn (perform_resume n slot p c)
  unfolding perform_resume
  resume_goes = faulty_goes (reschedule_faults c) _ (clock_goes slot _ (full_goes _ refl))

  deliver_on_goes : GoesOn (perform_deliver n slot p c)
  unfolding perform_deliver
  deliver_on_goes = deliver_goes (next_request (queued_requests p))

  pub on_goes : GoesOn (perform_on stream n slot p c)
  unfolding perform_on
  on_goes =
      let code = byte_at c 0 in
      either (eqb code commands.create) _ _ create_goes
      (either (eqb code commands.set) _ _ set-on-goes
      (either (eqb code commands.remove) _ _ remove_goes
      (either (eqb code commands.reschedule) _ _ reschedule_goes
      (either (eqb code commands.pause) _ _ pause_goes (either (eqb code commands.resume) _ _ resume_goes deliver_on_goes)))))

-- ---- what a reply says: an accepted input is answered by 0, a refused command by another number that ends no run

abbrev pub ReplyGoes : Reply Answer → Type 0
ReplyGoes (refusal number) = Refuses number
ReplyGoes reverted = Unit {0}
ReplyGoes (completed a) = a.number ≡ 0

refusal_goes : (number : ℕ) → Refuses number → (eqb number 0 ≡ false) × (ends_run number ≡ false)
refusal_goes number = go (eqb number 0) (ends_run number)
  where
    go : (a b : Bool) → (a || b) ≡ false → (a ≡ false) × (b ≡ false)
    go true b e = absurd (true≢false e)
    go false b e = (refl, e)

pub reply_goes : (r : Reply Answer) → ReplyGoes r → ends_run (answer_of r).number ≡ false
reply_goes (refusal number) h = (refusal_goes number h).1
reply_goes reverted h = refl
reply_goes (completed a) h = ap ends_run h

-- the reply to a performed command
abbrev pub performed_reply : Performed EngineState Answer → Reply Answer
performed_reply (rejected number) = refusal number
performed_reply (performed t a) = completed a

pub perform_goes : (stream : List ℕ) (n : ℕ) (s : EngineState) (c : List ℕ) → ReplyGoes (performed_reply (perform stream n s c))
unfolding perform
perform_goes stream n s c =
    go (perform_on stream n (slot_at s (target s.shared c)) s.shared c)
    (on_goes stream n (slot_at s (target s.shared c)) s.shared c)
  where
    go : (d : OnSlot) → GoesOn d → ReplyGoes (performed_reply (stored s (target s.shared c) d))
    go (refused number) h = h
    go (done slot p a) h = h

module _ (stream : List ℕ) (n : ℕ) (s : EngineState) (j : Bytes) where
  abbrev E : Engine
  E = engine_of stream n

  -- UNDO
  pub undo_goes : ReplyGoes (undo E s j).reply
  unfolding undo
  undo_goes = by_length (ltb 0 s.shared.applied_length) (commands_in E (take s.shared.applied_length j))
    where
      by_same : (b : Bool) (rest : EngineState) (k : Bytes)
          → ReplyGoes (cond b (record { reply = reverted; state = rest; journal = k }) (unchanged E s j replay_fails)).reply
      by_same true rest k = tt
      by_same false rest k = refl

      by-states : (cs : List Bytes) (all rest : Option EngineState) → ReplyGoes (revert_last E s j cs all rest).reply
      by-states cs none rest = refl
      by-states cs (some all) none = refl
      by-states cs (some all) (some rest) =
          by_same (same_state all s) rest (cleared E j (length (concat (init cs))) s.shared.applied_length)

      by_commands : (o : Option (List Bytes)) → ReplyGoes (undo_in E s j o).reply
      by_commands none = refl
      by_commands (some cs) = by-states cs (replay E (some opened_state) cs) (replay E (some opened_state) (init cs))

      by_length : (b : Bool) (o : Option (List Bytes)) → ReplyGoes (cond b (undo_in E s j o) (unchanged E s j nothing_applied)).reply
      by_length true o = by_commands o
      by_length false o = refl

  -- a command but UNDO
  pub write_goes : (c : Bytes) → ReplyGoes (act E s j (carry_out c)).reply
  write_goes c = go (perform stream n s c) (perform_goes stream n s c)
    where
      go : (d : Performed EngineState Answer) → ReplyGoes (performed_reply d) → ReplyGoes (write E s j c d).reply
      go (rejected number) h = h
      go (performed t a) h = h

  -- ---- the answer's number is 0 exactly where the input is accepted

  abbrev Zero : Reply Answer → Type 0
  Zero r = ((answer_of r).number ≡ 0) ↔ Accepted E r

  refused_not_zero : (number : ℕ) → eqb number 0 ≡ false → Zero (refusal number)
  refused_not_zero number e = (eqb-false number 0 e, (λ x. absurd x))

  goes_zero : (r : Reply Answer) → ReplyGoes r → Zero r
  goes_zero (refusal number) h = refused_not_zero number (refusal_goes number h).0
  goes_zero reverted h = ((λ e. tt), (λ x. refl))
  goes_zero (completed a) h = ((λ e. tt), (λ x. h))

  abbrev ZeroAsked : Asked → Type 0
  ZeroAsked (reject number) = eqb number 0 ≡ false
  ZeroAsked undo_last = Unit {0}
  ZeroAsked (carry_out c) = Unit {0}

  classified : (i : Bytes) → ZeroAsked (classify E s i)
  unfolding classify
  classified i =
      go (valid_state stream n s) (ltb 0 (length i)) (ltb 0 (width_of (code i))) (leb (width_of (code i)) (length i))
      (eqb (code i) commands.undo)
    where
      go : (v l w f u : Bool)
          → ZeroAsked (cond v
          (cond l (cond w (cond f (cond u undo_last (carry_out (cut E i))) (reject cut_short)) (reject no_command)) (reject cut_short))
          (reject invalid_state))
      go false l w f u = refl
      go true false w f u = refl
      go true true false f u = refl
      go true true true false u = refl
      go true true true true true = tt
      go true true true true false = tt

  pub zero_accepted : (i : Bytes) → ((answer_of (execute E s j i).reply).number ≡ 0) ↔ Accepted E (execute E s j i).reply
  unfolding execute
  zero_accepted i = go (classify E s i) (classified i)
    where
      go : (k : Asked) → ZeroAsked k → Zero (act E s j k).reply
      go (reject number) h = refused_not_zero number h
      go undo_last h = goes_zero (undo E s j).reply undo_goes
      go (carry_out c) h = goes_zero (act E s j (carry_out c)).reply (write_goes c)
