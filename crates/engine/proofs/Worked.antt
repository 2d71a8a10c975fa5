-- Demand 3 on four lists worked through, computed from the definitions: bytes that are no command, commands accepted, refused and undone;
-- then two events at one tick; then a cause of kind 4; then a curve in pieces.
use mathlib.Core.Path.{◌≡◌, refl}
use mathlib.Core.List.{List, [], ◌∷◌, ◌++◌}
use Prim.Native.Nat.{ℕ}
use mathlib.Core.Bool.{Bool, true, false}
use lib.IntN.{pos, negsuc}
use lib.ListN.{replicate}
use lib.Ieee.{Float, fin, binary64, of_bits}
use Rattle.hazards.specs.Floats.{z}
use Rattle.hazards.specs.Fields.{bytes_of}
use Rattle.hazards.specs.declared.answers.Answer.{Answer}
use Rattle.clocks.specs.Clocks.{one}
use Rattle.engine.specs.Commands as commands
use Rattle.engine.specs.State.{slot_at}
use Rattle.engine.specs.Engine.{Bytes, Engine, Reply, refusal, reverted, completed}
use Rattle.engine.specs.Execute.{execute}
use Rattle.engine.specs.Sessions.{Session, feed, new_session}
use Rattle.engine.specs.Instance.{engine_of}
use Rattle.engine.specs.Demand3 as demand
use Rattle.engine.specs.Rows as rows
use Rattle.engine.specs.Rows.{half, two, three, stream, f64, set_bytes, censor_at, undo_bytes, channel_in}
use Rattle.engine.proofs.Computed.{computed}

abbrev seven : Float
seven = fin false 7 (pos 0)

-- CREATE of a clock, Restart, scale 1.0
abbrev create : ℕ → Bytes
create clock = rows.create_bytes clock 0 one

-- RESCHEDULE of clock 0 at 0, censored at 1.0
abbrev reschedule : Bytes
reschedule = rows.reschedule_bytes z (censor_at one)

abbrev deliver : Bytes
deliver = commands.deliver ∷ []

-- SET is undone and comes again; RESCHEDULE comes cut short, then with a byte past its width, then again; the journal of 236 bytes is full
-- after DELIVER
abbrev inputs : List Bytes
inputs =
    undo_bytes
    ∷ []
    ∷ (0x09 ∷ [])
    ∷ create 0
    ∷ create 0
    ∷ set_bytes z
    ∷ undo_bytes
    ∷ set_bytes z
    ∷ reschedule
    ∷ undo_bytes
    ∷ (0x04 ∷ 0 ∷ [])
    ∷ (reschedule ++ (0xff ∷ []))
    ∷ reschedule
    ∷ deliver
    ∷ deliver
    ∷ create 1
    ∷ []

-- the number of each reply, 0 where it is no refusal
abbrev number_in : Reply Answer → ℕ
number_in (refusal n) = n
number_in reverted = 0
number_in (completed a) = a.number

abbrev engine : Engine
engine = engine_of stream 236

abbrev numbers : Session engine → List Bytes → List ℕ
numbers u [] = []
numbers u (i ∷ is) = number_in (execute engine u.state u.journal i).reply ∷ numbers (feed engine u i) is

abbrev end : Session engine
end = demand.session_after stream 236 inputs

-- the numbers, what is applied, the threshold 2.0 drawn again by the second SET, and the ledger
pub worked : (numbers (new_session engine 236) inputs ≡ 12 ∷ 3 ∷ 2 ∷ 0 ∷ 8 ∷ 0 ∷ 0 ∷ 0 ∷ 0 ∷ 0 ∷ 3 ∷ 0 ∷ 0 ∷ 0 ∷ 11 ∷ 14 ∷ [])
    × (end.applied ≡ create 0 ∷ set_bytes z ∷ reschedule ∷ reschedule ∷ deliver ∷ [])
    × (end.journal ≡ create 0 ++ (set_bytes z ++ (reschedule ++ (reschedule ++ deliver))))
    × ((channel_in end.state).target_threshold ≡ two) × (end.state.shared.position ≡ 1)
    × (end.state.shared.request_count ≡ 2)
    × (((demand.ledger stream 236 inputs).rows 0).made ≡ 2) × (((demand.ledger stream 236 inputs).rows 0).withdrawn ≡ 1)
    × (((demand.ledger stream 236 inputs).rows 0).delivered ≡ 1) × (demand.queued stream 236 inputs 0 ≡ 0)
unfolding computed
worked = (refl, refl, refl, refl, refl, refl, refl, refl, refl, refl)

-- ---- two events at one tick, of clock 0 with priority -1 and of clock 1 with priority 0

-- RESCHEDULE at 0, censored at 1.0, with a priority's four bytes
abbrev reschedule_with : ℕ → Bytes → Bytes
reschedule_with clock priority = (commands.reschedule ∷ clock ∷ f64 z) ++ (censor_at one ++ priority)

abbrev minus_one : Bytes
minus_one = bytes_of 4 0xffff_ffff

-- the delivery is undone and comes again
abbrev equal_ticks : List Bytes
equal_ticks =
    create 0
    ∷ create 1
    ∷ reschedule_with 0 minus_one
    ∷ reschedule_with 1 (replicate 4 0)
    ∷ deliver
    ∷ undo_bytes
    ∷ deliver
    ∷ []

-- that of clock 1 is delivered, in the engine and in the ledger; that of clock 0 stays queued
pub worked_ticks : (numbers (new_session engine 236) equal_ticks ≡ replicate 7 0)
    × (demand.queued stream 236 equal_ticks 0 ≡ 1) × (demand.queued stream 236 equal_ticks 1 ≡ 0)
    × (((demand.ledger stream 236 equal_ticks).rows 0).delivered ≡ 0) × (((demand.ledger stream 236 equal_ticks).rows 1).delivered ≡ 1)
unfolding computed
worked_ticks = (refl, refl, refl, refl, refl)

-- ---- guide rails that wear: cause 1 of kind 4

-- SET of cause 1 of clock 0 at 0
abbrev set_wear : Float → Bytes
set_wear scale = (commands.set ∷ 0 ∷ bytes_of 4 1) ++ (replicate 4 0 ++ ((4 ∷ f64 scale) ++ (f64 z ++ replicate 129 0)))

abbrev next : Bytes
next = rows.reschedule_bytes z rows.no_censor

-- a scale of 2^-41 is refused by 5; RESCHEDULE is undone and comes again
abbrev wear : List Bytes
wear =
    create 0
    ∷ set_wear (fin false 1 (negsuc 40))
    ∷ set_wear three
    ∷ next
    ∷ undo_bytes
    ∷ next
    ∷ deliver
    ∷ []

-- scale 3.0 and threshold 2.0: the event comes after 3 times the root of 2
pub worked_wear : (numbers (new_session engine 236) wear ≡ 0 ∷ 5 ∷ 0 ∷ 0 ∷ 0 ∷ 0 ∷ 0 ∷ [])
    × ((rows.answer_to (create 0 ∷ set_wear three ∷ []) next).delta ≡ of_bits binary64 0x4010_f876_ccdf_6cda)
    × (((demand.ledger stream 236 wear).rows 0).delivered ≡ 1) × (demand.queued stream 236 wear 0 ≡ 0)
unfolding computed
worked_wear = (refl, refl, refl, refl)

-- ---- a curve in pieces: cause 1 of clock 0 has the table's P, and the threshold 2.5, which is reached at the trailing rate

-- SET of cause 1 of clock 0 at 0
abbrev set_curve : Bytes
set_curve =
    (commands.set ∷ 0 ∷ bytes_of 4 1)
    ++ (replicate 4 0
    ++ ((3 ∷ f64 half) ++ (f64 z ++ ((2 ∷ f64 two) ++ (f64 one ++ (f64 rows.five ++ replicate 104 0))))))

abbrev remove : Bytes
remove = commands.remove ∷ 0 ∷ bytes_of 4 1

abbrev curve_stream : Bytes
curve_stream = f64 rows.two_and_half

abbrev curve_engine : Engine
curve_engine = engine_of curve_stream 400

-- an event is queued, censored, queued again, delivered, which is undone; the clock is paused at 2, resumed with 0.5 of its threshold left,
-- and that undone; it is paused at 7 with none left and resumed, which is undone; then no cause is left, and nothing is queued
abbrev curve : List Bytes
curve =
    rows.create_bytes 0 1 one
    ∷ set_curve
    ∷ next
    ∷ rows.reschedule_bytes z (censor_at three)
    ∷ next
    ∷ deliver
    ∷ undo_bytes
    ∷ rows.pause_bytes two
    ∷ rows.resume_bytes two
    ∷ undo_bytes
    ∷ undo_bytes
    ∷ rows.pause_bytes seven
    ∷ rows.resume_bytes seven
    ∷ undo_bytes
    ∷ remove
    ∷ rows.reschedule_bytes seven rows.no_censor
    ∷ []

-- of each reply: whether there is an event, and its piece
abbrev event_in : Reply Answer → Bool × ℕ
event_in (refusal n) = (false, 0)
event_in reverted = (false, 0)
event_in (completed a) = (a.event, a.piece)

abbrev events : Session curve_engine → List Bytes → List (Bool × ℕ)
events u [] = []
events u (i ∷ is) = event_in (execute curve_engine u.state u.journal i).reply ∷ events (feed curve_engine u i) is

-- the piece of the winner that clock 0 holds after each command
abbrev held : Session curve_engine → List Bytes → List ℕ
held u [] = []
held u (i ∷ is) =
    let v = feed curve_engine u i in
    (slot_at v.state 0).clock.current_winner.piece ∷ held v is

-- DELIVER repeats the piece that was queued and clears it; a censored event has none, nor has a threshold that is reached already; what
-- queues no event leaves the winner's piece
pub worked_curve : (events (new_session curve_engine 400) curve
    ≡ (false, 0) ∷ (false, 0) ∷ (true, 2) ∷ (true, 0) ∷ (true, 2) ∷ (true, 2) ∷ (false, 0) ∷ (false, 0) ∷ (true, 0) ∷ (false, 0)
    ∷ (false, 0) ∷ (false, 0) ∷ (true, 0) ∷ (false, 0) ∷ (false, 0) ∷ (false, 0) ∷ [])
    × (held (new_session curve_engine 400) curve ≡ 0 ∷ 0 ∷ 2 ∷ 0 ∷ 2 ∷ 0 ∷ 2 ∷ 2 ∷ 0 ∷ 2 ∷ 2 ∷ 2 ∷ 0 ∷ 2 ∷ 2 ∷ 2 ∷ [])
    × (((demand.ledger curve_stream 400 curve).rows 0).made ≡ 3) × (demand.queued curve_stream 400 curve 0 ≡ 0)
unfolding computed
worked_curve = (refl, refl, refl, refl)
