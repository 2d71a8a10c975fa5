-- Document 01, "A command comes in": the commands' codes and widths, their fields, and what refusals 4 to 7 say of them. A command is its
-- own bytes, cut to its width.
use Rattle.std.specs.Prelude.{◌≡◌, ◌≤◌, Result, MatchResult, cond, false, not, ◌&&◌, ◌||◌, ℕ, ◌+◌, eqb, ltb, leb, List, [], ◌∷◌, length, get_or, ℤ, Float}
use Rattle.hazards.specs.Floats.{in_range, is_time, zero_bits}
use Rattle.hazards.specs.Fields.{field_at, f64_at, i32_at}
use Rattle.hazards.specs.Refusals.{no_faults, range_fault_unless, identifier_fault_if, is_reserved, joined}
use Rattle.hazards.specs.Checks.{hazard_faults, hazard_of, intervals_of}
use Rattle.hazards.specs.Ties.{tie_breaker_of}
use Rattle.hazards.specs.declared.refusals.Faults.{Faults}
use Rattle.hazards.specs.declared.checks.HazardFields.{HazardFields}
use Rattle.clocks.specs.Clocks.{policy_of, new_clock, SurvivalClock}
use Rattle.engine.specs.Refusals.{cut_short, no_command}
use Rattle.hazards.specs.declared.refusals.Refusal.{Refusal}
use Rattle.hazards.specs.declared.refusals.Refusal.TheVariants.{NoCommand}
use Rattle.engine.specs.declared.commands.Command.{Command}
use Rattle.engine.specs.declared.commands.Command.TheVariants.{Create, Set, Remove, Reschedule, Pause, Resume, Deliver, Undo}
use Rattle.clocks.specs.declared.setting.CauseSetting.{CauseSetting}
use Rattle.clocks.specs.Scheduling.{Censor}

abbrev pub create : ℕ
create = 0x01

abbrev pub set : ℕ
set = 0x02

abbrev pub remove : ℕ
remove = 0x03

abbrev pub reschedule : ℕ
reschedule = 0x04

abbrev pub pause : ℕ
pause = 0x05

abbrev pub resume : ℕ
resume = 0x06

abbrev pub deliver : ℕ
deliver = 0x07

abbrev pub undo : ℕ
undo = 0x08

abbrev pub code_of : Command → ℕ
code_of Create = create
code_of Set = set
code_of Remove = remove
code_of Reschedule = reschedule
code_of Pause = pause
code_of Resume = resume
code_of Deliver = deliver
code_of Undo = undo

-- the bytes of a command by its code, its code byte among them; 0 where it is no code
unfoldable pub width_of : ℕ → ℕ
width_of code =
    cond (eqb code create) 33
    (cond (eqb code set) 156
    (cond (eqb code remove) 6
    (cond (eqb code reschedule) 23
    (cond (eqb code pause) 10 (cond (eqb code resume) 23 (cond (eqb code deliver) 1 (cond (eqb code undo) 1 0)))))))

-- the 2 or 3 that bytes are refused by which do not begin with a whole command; 0 where they do
unfoldable pub front_refusal : List ℕ → ℕ
front_refusal i =
    let width = width_of (get_or i 0 0) in
    cond (ltb 0 (length i)) (cond (ltb 0 width) (cond (leb width (length i)) 0 cut_short) no_command) cut_short

-- the command with this code, or refusal 2 of a code that none has
abbrev pub Decodes : ℕ → Result Command Refusal → Type 0
Decodes code r = MatchResult r (λ command. code_of command ≡ code) (λ e. (e ≡ NoCommand) × (width_of code ≡ 0))

-- the bytes begin with a whole command
abbrev pub Begins : List ℕ → Command → Type 0
Begins i command = (code_of command ≡ get_or i 0 0) × (width_of (code_of command) ≤ length i)

-- ---- the places of the fields

-- of every command but DELIVER and UNDO
abbrev pub clock_field : ℕ
clock_field = 1

-- CREATE clock u8, process u64, policy, tie, scale f64, has-entity, entity index u64, generation u32
abbrev pub process_field : ℕ
process_field = 2

abbrev pub policy_field : ℕ
policy_field = 10

abbrev pub tie_field : ℕ
tie_field = 11

abbrev pub scale_field : ℕ
scale_field = 12

abbrev pub has_entity_field : ℕ
has_entity_field = 20

abbrev pub entity_index_field : ℕ
entity_index_field = 21

abbrev pub generation_field : ℕ
generation_field = 29

-- SET clock u8, cause u32, priority u32, kind, first f64, now f64, count u8, 8 pairs (end f64, rate f64); REMOVE clock u8, cause u32
abbrev pub cause_field : ℕ
cause_field = 2

abbrev pub set_priority_field : ℕ
set_priority_field = 6

abbrev pub kind_field : ℕ
kind_field = 10

abbrev pub first_field : ℕ
first_field = 11

abbrev pub set_now_field : ℕ
set_now_field = 19

abbrev pub count_field : ℕ
count_field = 27

abbrev pub pairs_field : ℕ
pairs_field = 28

-- RESCHEDULE and RESUME clock u8, now f64, has-censor, censor f64, priority i32; PAUSE clock u8, now f64
abbrev pub now_field : ℕ
now_field = 2

abbrev pub has_censor_field : ℕ
has_censor_field = 10

abbrev pub censor_field : ℕ
censor_field = 11

abbrev pub priority_field : ℕ
priority_field = 19

-- ---- fields

abbrev pub byte_at : List ℕ → ℕ → ℕ
byte_at c at = get_or c at 0

abbrev pub clock_of : List ℕ → ℕ
clock_of c = byte_at c clock_field

-- the eight floats from a place on, 16 bytes apart
abbrev pub floats_at : List ℕ → ℕ → List Float
floats_at c at =
    f64_at c at
    ∷ f64_at c (at + 16)
    ∷ f64_at c (at + 32)
    ∷ f64_at c (at + 48)
    ∷ f64_at c (at + 64)
    ∷ f64_at c (at + 80)
    ∷ f64_at c (at + 96)
    ∷ f64_at c (at + 112)
    ∷ []

abbrev pub hazard_fields : List ℕ → HazardFields
hazard_fields c = record {
  kind = byte_at c kind_field;
  first = f64_at c first_field;
  count = byte_at c count_field;
  ends = floats_at c pairs_field;
  rates = floats_at c (pairs_field + 8);
}

abbrev pub setting_of : List ℕ → CauseSetting
setting_of c = record {
  cause_id = field_at 4 c cause_field;
  priority = field_at 4 c set_priority_field;
  hazard = hazard_of (hazard_fields c);
  intervals = intervals_of (hazard_fields c);
  now = f64_at c set_now_field;
}

abbrev pub created_clock : List ℕ → SurvivalClock
created_clock c =
    new_clock (field_at 8 c process_field) (eqb (byte_at c has_entity_field) 1)
    (record { index = field_at 8 c entity_index_field; generation = field_at 4 c generation_field })
    (policy_of (byte_at c policy_field)) (tie_breaker_of (byte_at c tie_field)) (f64_at c scale_field)

abbrev pub now_of : List ℕ → Float
now_of c = f64_at c now_field

abbrev pub censor_of : List ℕ → Censor
censor_of c = record { present = eqb (byte_at c has_censor_field) 1; time = f64_at c censor_field }

abbrev pub priority_of : List ℕ → ℤ
priority_of c = i32_at c priority_field

-- ---- refusals 4 to 7

-- 7: a clock above 15
abbrev pub clock_faults : List ℕ → Faults
clock_faults c = identifier_fault_if (ltb 15 (clock_of c))

-- 4: policy, tie or has-byte off its list, or an unused entity not zero bits; 5: scale
unfoldable pub create_faults : List ℕ → Faults
create_faults c =
    let has = byte_at c has_entity_field in
    let unused = eqb (field_at 8 c entity_index_field) 0 && eqb (field_at 4 c generation_field) 0 in
    joined
    (record {
      choice =
          ltb 1 (byte_at c policy_field)
          || (ltb 2 (byte_at c tie_field) || (ltb 1 has || (eqb has 0 && not unused)));
      range = not (in_range (f64_at c scale_field));
      intervals = false;
      identifier = false;
    })
    (clock_faults c)

-- 7: a cause that stands for none
abbrev pub cause_faults : List ℕ → Faults
cause_faults c = joined (identifier_fault_if (is_reserved (field_at 4 c cause_field))) (clock_faults c)

-- 4, 5 and 6 of the hazard, 5 of now
unfoldable pub set_faults : List ℕ → Faults
set_faults c =
    joined (hazard_faults (hazard_fields c))
    (joined (range_fault_unless (is_time (f64_at c set_now_field))) (cause_faults c))

-- 4: has-byte off its list, or an unused censor not zero bits; 5: now and censor (an unused censor that passes 4 is +0.0, so it passes 5)
unfoldable pub reschedule_faults : List ℕ → Faults
reschedule_faults c =
    let has = byte_at c has_censor_field in
    joined
    (record {
      choice = ltb 1 has || (eqb has 0 && not (zero_bits (f64_at c censor_field)));
      range = not (is_time (now_of c) && is_time (f64_at c censor_field));
      intervals = false;
      identifier = false;
    })
    (clock_faults c)

unfoldable pub pause_faults : List ℕ → Faults
pause_faults c = joined (range_fault_unless (is_time (now_of c))) (clock_faults c)

-- of any command, by its code: RESUME has RESCHEDULE's operands, DELIVER and UNDO have none. Every command meets these before all that
-- follows in the table (proofs/ExecutionCases.antt: faulty_refused).
unfoldable pub faults_of : List ℕ → Faults
faults_of c =
    let code = byte_at c 0 in
    cond (eqb code create) (create_faults c)
    (cond (eqb code set) (set_faults c)
    (cond (eqb code remove) (cause_faults c)
    (cond (eqb code reschedule) (reschedule_faults c)
    (cond (eqb code pause) (pause_faults c) (cond (eqb code resume) (reschedule_faults c) no_faults)))))
