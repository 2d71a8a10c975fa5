-- What is asked of a state in lent memory, by cases: rows of other sizes, a place past the end, a clock or cause that is there or not.
use mathlib.Core.Path.{◌≡◌, refl}
use mathlib.Core.Bool.{Bool, true, false, cond, ◌&&◌}
use mathlib.Core.List.{[]}
use Prim.Native.Nat.{ℕ, ◌+◌, ◌<◌, ◌≤◌, min}
use native.Mathlib.Omega.{arith}
use Rattle.std.proofs.lemmas.Bool.{ltb-false}
use borrow.Author.Tests.{eq-eqb, ne_eqb, lt-ltb, le-ltb}
use lib.Dec.{eqb, ltb}
use lib.ListN.{length, get_or, get_or-eq_default}
use Rattle.hazards.specs.Refusals.{invalid_state}
use Rattle.clocks.specs.Channels.{empty_channel}
use Rattle.hazards.specs.Ties.{tie_number, tie_breaker_of}
use Rattle.clocks.specs.Clocks.{policy_number, policy_of}
use Rattle.clocks.specs.Layout.{WordRows, FloatRows, u32_from, byte_from, clock_of, clock_from, present_in, channel_at}
use lib.Ieee.{nan}
use Rattle.clocks.proofs.Tables.{get_d_table}
use Rattle.engine.specs.InPlace.{has_sizes}
use Rattle.engine.specs.State.{empty_slot, empty_request, slot_at}
use Rattle.engine.specs.StateRows.{slot_of, request_from, shared_of, shared_from, state_from}
use Rattle.engine.proofs.StateParts.{slot-at, slots_sixteen}
use Rattle.olgaemuri.specs.Inspection.{counts_of, no_counts, applied_of, applied, no_request, request_fields, queued_request, OwnRows}
use Rattle.olgaemuri.specs.Inspection.{no_clock, clock_where, clock_fields, no_cause, cause_of, cause_in, cause_fields}

-- ---- the words alone

module _ (w : WordRows) where
  pub no-counts : (length w ≡ 177 → ⊥) → no_counts ≡ counts_of w
  unfolding counts_of
  no-counts h = rw (ne_eqb (length w) 177 h)

  pub no_length : (n : ℕ) → (length w ≡ 177 → ⊥) → applied invalid_state 0 ≡ applied_of w n
  unfolding applied_of
  no_length n h = rw (ne_eqb (length w) 177 h)

  pub no_words : (i : ℕ) → (length w ≡ 177 → ⊥) → no_request ≡ queued_request w i
  unfolding queued_request
  no_words i h = rw (ne_eqb (length w) 177 h)

  -- a place past those of the queue, or past the queued ones
  pub past_queue : (i : ℕ) → min (shared_from w).queued 16 ≤ i → no_request ≡ queued_request w i
  unfolding queued_request
  past_queue i h = go (eqb (length w) 177)
    where
      go : (b : Bool) → no_request ≡ cond (b && ltb i (min (shared_from w).queued 16)) (request_fields (get_or (shared_from w).queue i empty_request)) no_request
      go true = rw (le-ltb i (min (shared_from w).queued 16) h)
      go false = refl

  pub request_there : (i : ℕ) → length w ≡ 177 → i < 16 → i < (shared_from w).queued
      → request_fields (request_from (get_or w (161 + i) [])) ≡ queued_request w i
  unfolding queued_request shared_from shared_of
  request_there i e h l =
      let fewer : i < min (get_or (get_or w 160 []) 0 0) 16 = omega arith in
      rw (
        eq-eqb (length w) 177 e,
        lt-ltb i (min (get_or (get_or w 160 []) 0 0) 16) fewer,
        get_d_table 16 (λ k. request_from (get_or w (161 + k) [])) i empty_request h,
      )

-- ---- a clock

module _ (w : WordRows) (f : FloatRows) (k : ℕ) where
  -- past the places is the empty slot
  slot_past : 16 ≤ k → slot_at (state_from w f) k ≡ empty_slot
  slot_past h = get_or-eq_default (state_from w f).slots empty_slot (omega (arith, slots_sixteen w f))

  -- rows of other sizes, or a place past the clocks'
  pub no_place : (has_sizes w f && ltb k 16) ≡ false → no_clock ≡ clock_fields w f k
  unfolding clock_fields clock_where
  no_place h = go (has_sizes w f) refl h
    where
      go : (b : Bool) → has_sizes w f ≡ b → (b && ltb k 16) ≡ false → no_clock ≡ clock_fields w f k
      go false e h = rw e
      go true e h = rw (e, slot_past (ltb-false k 16 h))

  -- the clock of the rows that are its own, as they are lent
  pub clock_there : (own : WordRows) (own_floats : FloatRows) → OwnRows w f k own own_floats
      → clock_where (present_in own) (clock_from own own_floats) ≡ clock_fields w f k
  unfolding clock_fields slot_of
  clock_there own own_floats o = rw (o.words, o.floats, o.sizes, slot-at w f k o.within)

  pub no_cause_place : (j : ℕ) → (has_sizes w f && ltb k 16) ≡ false → no_cause ≡ cause_fields w f k j
  unfolding cause_fields cause_in
  no_cause_place j h = go (has_sizes w f) refl h
    where
      go : (b : Bool) → has_sizes w f ≡ b → (b && ltb k 16) ≡ false → no_cause ≡ cause_fields w f k j
      go false e h = rw e
      go true e h = rw (e, slot_past (ltb-false k 16 h))

  pub cause_there : (j : ℕ) (own : WordRows) (own_floats : FloatRows) → OwnRows w f k own own_floats
      → cause_in (present_in own) (clock_from own own_floats) j ≡ cause_fields w f k j
  unfolding cause_fields slot_of
  cause_there j own own_floats o = rw (o.words, o.floats, o.sizes, slot-at w f k o.within)

-- ---- in a clock's own rows

module _ (w : WordRows) (f : FloatRows) (j : ℕ) where
  pub absent_cause : (get_or (get_or w 0 []) 0 0 ≡ 1 → ⊥) → no_cause ≡ cause_in (present_in w) (clock_from w f) j
  unfolding cause_in
  absent_cause h = rw (ne_eqb _ 1 h)

  pub past_used : get_or (get_or w 0 []) 0 0 ≡ 1 → min (get_or (get_or w 0 []) 7 0) 8 ≤ j → no_cause ≡ cause_in (present_in w) (clock_from w f) j
  unfolding cause_in clock_from clock_of
  past_used one h = rw (eq-eqb _ 1 one, le-ltb j (min (get_or (get_or w 0 []) 7 0) 8) h)

  pub used_there : get_or (get_or w 0 []) 0 0 ≡ 1 → j < min (get_or (get_or w 0 []) 7 0) 8
      → cause_of (channel_at w f j) ≡ cause_in (present_in w) (clock_from w f) j
  unfolding cause_in clock_from clock_of
  used_there one h =
      rw (eq-eqb _ 1 one, lt-ltb j (min (get_or (get_or w 0 []) 7 0) 8) h, get_d_table 8 (λ i. channel_at w f i) j empty_channel (omega arith))

-- a clock's own rows, by the numbers that the code gives for the fields that are coded
pub own_there : (w : WordRows) (f : FloatRows) (policy tie piece generation cause : ℕ)
    → policy ≡ policy_number (policy_of (byte_from (get_or (get_or w 0 []) 5 0))) → tie ≡ tie_number (tie_breaker_of (byte_from (get_or (get_or w 0 []) 6 0)))
    → piece ≡ byte_from (get_or (get_or w 1 []) 5 0) → generation ≡ u32_from (get_or (get_or w 0 []) 4 0)
    → cause ≡ u32_from (get_or (get_or w 1 []) 3 0) → get_or (get_or w 0 []) 0 0 ≡ 1
    → record {
      found = true;
      has_entity = eqb (get_or (get_or w 0 []) 2 0) 1;
      is_active = eqb (get_or (get_or w 1 []) 4 0) 1;
      has_event = eqb (get_or (get_or w 1 []) 0 0) 1;
      has_winner = eqb (get_or (get_or w 1 []) 2 0) 1;
      policy = policy;
      tie = tie;
      winner_piece = piece;
      generation = generation;
      winner_cause = cause;
      process = get_or (get_or w 0 []) 1 0;
      entity_index = get_or (get_or w 0 []) 3 0;
      causes = get_or (get_or w 0 []) 7 0;
      event_index = get_or (get_or w 1 []) 1 0;
      scale = get_or (get_or f 0 []) 0 nan;
      winner_time = get_or (get_or f 0 []) 1 nan;
      last_update = get_or (get_or f 0 []) 2 nan;
    } ≡ clock_where (present_in w) (clock_from w f)
unfolding clock_where clock_from clock_of
own_there w f policy tie piece generation cause ep et ei eg ec one = rw (ep, et, ei, eg, ec, eq-eqb _ 1 one)
