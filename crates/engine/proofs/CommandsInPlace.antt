-- A command in place, by its cases: refused before the first store, or done to one clock's rows and then to the shared state.
use mathlib.Core.Path.{◌≡◌, refl, sym, ◌∙◌, ap}
use mathlib.Core.Bool.{Bool, true}
use mathlib.Core.List.{List, []}
use Prim.Native.Nat.{ℕ, ◌+◌, ◌*◌, ◌-◌, ◌<◌}
use native.Mathlib.Omega.{arith}
use borrow.Author.Tests.{eq-eqb, ne_eqb}
use lib.Dec.{eqb}
use lib.ListN.{length, get_or, take, drop, length-take, length-drop}
use lib.Seq.{get_or-take, get_or-drop}
use Rattle.hazards.specs.Answers.{no_event}
use Rattle.hazards.specs.declared.answers.Answer.{Answer}
use Rattle.clocks.specs.Layout.{WordRows, FloatRows, present_in, clock_from, Coded, Leaves}
use Rattle.clocks.specs.Clocks.{SurvivalClock}
use Rattle.hazards.specs.declared.refusals.Faults.{Faults}
use Rattle.engine.specs.Commands as commands
use Rattle.engine.specs.Commands.{width_of, byte_at, clock_of}
use Rattle.engine.specs.Engine.{Performed}
use Rattle.engine.specs.Queue.{next_request}
use Rattle.engine.specs.State.{slot_at, with_slot, queued_requests, ClockSlot, SharedState, EngineState}
use Rattle.engine.specs.Execution.{OnSlot, refused, done, holding, stored, unless_faulty, on_clock, clock_of_request}
use Rattle.engine.specs.Execution.{target, perform_on, perform}
use Rattle.engine.specs.StateRows.{slot_of, shared_from, state_from, CodedState, SizedState, LeavesShared, LeavesClock, Performs}
use Rattle.engine.proofs.ExecutionCases.{refusal_of, not_done, there, there_present, target_named, target_deliver}
use Rattle.engine.proofs.ListParts.{put}
use Rattle.engine.proofs.StateParts.{slot-at, shared_same, rest_same, clock_put, clock_coded, shared_put, shared_coded}

-- ---- refused, and done

module _ (w : WordRows) (f : FloatRows) (k : ℕ) (o : OnSlot) where
  pub refused_there : {number : ℕ} {r : Answer} → refused number ≡ o → (number ≡ 0 → ⊥) → r ≡ no_event number
      → Performs w f (stored (state_from w f) k o) w f r
  refused_there {number} {r} e h a = record {
    does = rw (a, ← e, ne_eqb number 0 h);
    keeps = λ _. (refl, refl, rw a);
    coded = λ c. c;
  }

  pub done_there : {w' : WordRows} {f' : FloatRows} {slot : ClockSlot} {p : SharedState} {r : Answer} → done slot p r ≡ o → r.number ≡ 0
      → state_from w' f' ≡ with_slot (state_from w f) k slot p → (CodedState w f → CodedState w' f')
      → Performs w f (stored (state_from w f) k o) w' f' r
  done_there {w'} {f'} {slot} {p} {r} e h s c = record {
    does = rw (← e, s, eq-eqb r.number 0 h);
    keeps = λ n. absurd (n h);
    coded = c;
  }

-- ---- one clock's rows

-- how many rows are lent, as the code counts them: from the clock's first to the next clock's
abbrev pub words_lent : ℕ → ℕ
words_lent k = 10 * k + 10 - 10 * k

abbrev pub floats_lent : ℕ → ℕ
floats_lent k = 25 * k + 25 - 25 * k

pub words-lent : (k : ℕ) → words_lent k ≡ 10
words-lent k = omega arith

pub floats-lent : (k : ℕ) → floats_lent k ≡ 25
floats-lent k = omega arith

-- the rows of clock k were lent, and z and y came back
module _ (w : WordRows) (f : FloatRows) (k : ℕ) (hk : k < 16) (sized : SizedState w f) (z : WordRows) (y : FloatRows)
    (lz : length z ≡ length (take (words_lent k) (drop (10 * k) w))) (ly : length y ≡ length (take (floats_lent k) (drop (25 * k) f))) where
  abbrev m : ℕ
  m = words_lent k

  abbrev n : ℕ
  n = floats_lent k

  em : m ≡ 10
  em = words-lent k

  en : n ≡ 25
  en = floats-lent k

  ten : length z ≡ 10
  ten =
      lz
      ∙ (ap (λ (i : ℕ). length (take i (drop (10 * k) w))) em
      ∙ (length-take 10 (drop (10 * k) w) ∙ omega (arith, length-drop (10 * k) w, sized.words)))

  many : length y ≡ 25
  many =
      ly
      ∙ (ap (λ (i : ℕ). length (take i (drop (25 * k) f))) en
      ∙ (length-take 25 (drop (25 * k) f) ∙ omega (arith, length-drop (25 * k) f, sized.floats)))

  pub shared_kept : shared_from (put w z (10 * k) m) ≡ shared_from w
  shared_kept = rw em (shared_same w (put w z (10 * k) 10) (rest_same w z f y k hk sized ten many))

  pub slot_left : state_from (put w z (10 * k) m) (put f y (25 * k) n) ≡ with_slot (state_from w f) k (slot_of z y) (shared_from w)
  slot_left = rw (em, en) (clock_put w z f y k hk sized ten many)

  pub slot_left_coded : CodedState w f → Coded z y → CodedState (put w z (10 * k) m) (put f y (25 * k) n)
  slot_left_coded h c = rw (em, en) (clock_coded w z f y k hk sized ten many h c)

  pub clock_left : (c : SurvivalClock) → Leaves (take m (drop (10 * k) w)) (take n (drop (25 * k) f)) z y c
      → LeavesClock w f k (put w z (10 * k) m) (put f y (25 * k) n) c
  unfolding slot_of
  clock_left c left =
      let was : present_in (take m (drop (10 * k) w)) ≡ (slot_at (state_from w f) k).present = rw (em, slot-at w f k hk) in
      let here : slot_of z y ≡ record { present = (slot_at (state_from w f) k).present; clock = c } =
      (λ i. record { present = (left.present ∙ was) i; clock = left.clock i }) in
      record {
        state = slot_left ∙ ap (λ (x : ClockSlot). with_slot (state_from w f) k x (shared_from w)) here;
        shared = shared_kept;
        coded = λ h. slot_left_coded h (left.coded (rw (em, en) (h.clocks k hk)));
      }

-- the clock that a call finds there
pub clock_there : (w : WordRows) (f : FloatRows) (k : ℕ) → k < 16
    → clock_from (take (words_lent k) (drop (10 * k) w)) (take (floats_lent k) (drop (25 * k) f)) ≡ (slot_at (state_from w f) k).clock
unfolding slot_of
clock_there w f k hk = rw (words-lent k, floats-lent k, slot-at w f k hk)

-- ---- then the shared state

module _ (w : WordRows) (f : FloatRows) (k : ℕ) (w' : WordRows) (f' : FloatRows) (c : SurvivalClock) (left : LeavesClock w f k w' f' c)
    (w'' : WordRows) (l : length w' ≡ 177) (l'' : length w'' ≡ 177) (p : SharedState) (then : LeavesShared w' w'' p) where
  pub held_state : (slot_at (state_from w f) k).present ≡ true → state_from w'' f' ≡ with_slot (state_from w f) k (holding c) p
  held_state here =
      shared_put w' w'' f' l l'' p then
      ∙ (ap (λ (s : EngineState). record { slots = s.slots; shared = p }) left.state
      ∙ ap (λ (b : Bool). with_slot (state_from w f) k (record { present = b; clock = c }) p) here)

  pub held_coded : CodedState w f → CodedState w'' f'
  held_coded h = shared_coded w' w'' f' l l'' p then (left.coded h)

-- whether it is there, by the first word of its rows
pub present_there : (w : WordRows) (f : FloatRows) (k : ℕ) → k < 16
    → eqb (get_or (get_or w (10 * k) []) 0 0) 1 ≡ (slot_at (state_from w f) k).present
unfolding slot_of
present_there w f k hk =
    let e : 10 * k ≡ 10 * k + 0 = omega arith in
    let row : get_or (take 10 (drop (10 * k) w)) 0 [] ≡ get_or w (10 * k) [] =
    get_or-take 10 (drop (10 * k) w) 0 [] (omega arith) ∙ (get_or-drop (10 * k) w 0 [] ∙ ap (λ (i : ℕ). get_or w i []) (sym e)) in
    rw (slot-at w f k hk, row)

-- ---- a command that names a clock which is there: 4 to 7 and 9 first, then what it does to the clock

module _ (w : WordRows) (f : FloatRows) (c : List ℕ) (faults : Faults) (d : SurvivalClock → OnSlot) where
  abbrev s : EngineState
  s = state_from w f

  abbrev k : ℕ
  k = clock_of c

  abbrev pub asked : OnSlot
  asked = unless_faulty faults (on_clock (slot_at s k) d)

  module _ {number : ℕ} (e : number ≡ refusal_of (slot_at s k).present faults) where
    pub turned_away : {r : Answer} → (number ≡ 0 → ⊥) → r ≡ no_event number → Performs w f (stored s k asked) w f r
    turned_away h a = refused_there w f k asked (not_done faults (slot_at s k) d e h) h a

    module _ (h : number ≡ 0) where
      pub refused_later : {r : Answer} (m : ℕ) → (m ≡ 0 → ⊥) → refused m ≡ d (slot_at s k).clock → r ≡ no_event m
          → Performs w f (stored s k asked) w f r
      refused_later m z q a = refused_there w f k asked (q ∙ there faults (slot_at s k) d e h) z a

      pub carried_out : {w' w'' : WordRows} {f' : FloatRows} {x : SurvivalClock} {p : SharedState} {r : Answer}
          → done (holding x) p r ≡ d (slot_at s k).clock → r.number ≡ 0 → LeavesClock w f k w' f' x → length w' ≡ 177
          → LeavesShared w' w'' p → length w'' ≡ 177 → Performs w f (stored s k asked) w'' f' r
      carried_out {w'} {w''} {f'} {x} {p} q z left l then l'' =
          done_there w f k asked (q ∙ there faults (slot_at s k) d e h) z
          (held_state w f k w' f' x left w'' l l'' p then (there_present faults (slot_at s k) d e h))
          (held_coded w f k w' f' x left w'' l l'' p then)

-- the shared state that a call left where another had changed a clock alone
pub shared_as : {w' w'' : WordRows} {p q : SharedState} → LeavesShared w' w'' p → p ≡ q → LeavesShared w' w'' q
shared_as left e = record { shared = left.shared ∙ e; clocks = left.clocks; coded = left.coded }

-- ---- by its code: the clock that the command names, or that of the next request

pub performs_as : {w w' : WordRows} {f f' : FloatRows} {o o' : Performed EngineState Answer} {r : Answer} → Performs w f o w' f' r → o ≡ o'
    → Performs w f o' w' f' r
performs_as h e = record { does = h.does ∙ e; keeps = h.keeps; coded = h.coded }

module _ (w : WordRows) (f : FloatRows) (stream : List ℕ) (n : ℕ) (b : List ℕ) where
  abbrev state : EngineState
  state = state_from w f

  at_target : {k : ℕ} {d : OnSlot} → k ≡ target (shared_from w) b → d ≡ perform_on stream n (slot_at state k) (shared_from w) b
      → stored state k d ≡ perform stream n state b
  unfolding perform state_from
  at_target {k} e q =
      ap (stored state k) q ∙ ap (λ (i : ℕ). stored state i (perform_on stream n (slot_at state i) (shared_from w) b)) e

  pub by_name : {d : OnSlot} → (byte_at b 0 ≡ commands.deliver → ⊥)
      → d ≡ perform_on stream n (slot_at state (clock_of b)) (shared_from w) b → stored state (clock_of b) d ≡ perform stream n state b
  by_name h q = at_target (target_named (shared_from w) b h) q

  pub by_delivery : {d : OnSlot} → byte_at b 0 ≡ commands.deliver
      → d ≡ perform_on stream n (slot_at state (clock_of_request (next_request (queued_requests (shared_from w))))) (shared_from w) b
      → stored state (clock_of_request (next_request (queued_requests (shared_from w)))) d ≡ perform stream n state b
  by_delivery h q = at_target (sym (target_deliver (shared_from w) b h)) q
