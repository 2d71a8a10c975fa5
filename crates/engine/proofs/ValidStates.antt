-- Refusal 1's test of a state in rows, by its parts: the clocks' parts and rows, a slot, a request, the queue, the whole.
use mathlib.Core.Path.{◌≡◌, refl, ◌∙◌, ap}
use mathlib.Core.Bool.{Bool, true, false, ◌&&◌}
use mathlib.Core.List.{List, [], ◌∷◌}
use Prim.Native.Nat.{ℕ, ◌+◌, ◌-◌, ◌*◌, ◌<◌, ◌≤◌}
use native.Mathlib.Numerals.{add-one}
use native.Mathlib.Omega.{arith}
use borrow.Author.Tests.{lt-ltb, le-ltb, le-leb, lt-leb}
use lib.Dec.{eqb, ltb}
use lib.ListN.{length, get_or, take, drop, length-drop, drop_of_length-le}
use lib.Seq.{drop-cons, length-take-le, get_or-take, get_or-drop}
use Rattle.hazards.specs.Lists.{all}
use Rattle.hazards.proofs.ListLaws.{slice_next}
use Rattle.clocks.specs.Layout.{WordRows, FloatRows, table, flag_from, clock_of, clock_from, present_in, Sized}
use Rattle.clocks.specs.Validation.{valid_clock}
use Rattle.clocks.proofs.Tables.{length-table, get_d_table}
use Rattle.engine.specs.State.{empty_slot, queued_requests, EngineState}
use Rattle.engine.specs.StateRows.{part_at, slot_of, slot_from, request_from, queue_from, shared_of, shared_from, state_from, SizedState}
use Rattle.engine.specs.Validation.{valid_slot, valid_request, distinct, valid_queue, valid_shared, valid_state}
use Rattle.engine.specs.declared.state.Request.{Request}

-- ---- a clock's part of the rows

-- a part's length as the code has it
pub cut : (n m : ℕ) → n + m - n ≡ m
cut n m = omega arith

-- row r of part k
pub part_row : {A : Type 0} (n k r : ℕ) (rows : List (List A)) → r < n → get_or (part_at n k rows) r [] ≡ get_or rows (n * k + r) []
part_row n k r rows h = get_or-take n (drop (n * k) rows) r [] h ∙ get_or-drop (n * k) rows r []

part_length : {A : Type 0} (n k : ℕ) (rows : List A) → n * k + n ≤ length rows → length (part_at n k rows) ≡ n
part_length n k rows h = length-take-le n (drop (n * k) rows) (omega (arith, length-drop (n * k) rows))

pub part_sized : (w : WordRows) (f : FloatRows) → SizedState w f → (k : ℕ) → k < 16 → Sized (part_at 10 k w) (part_at 25 k f)
part_sized w f s k h = record {
  words = part_length 10 k w (omega (arith, s.words));
  floats = part_length 25 k f (omega (arith, s.floats));
}

-- ---- the slots

table_next : {A : Type 0} (n : ℕ) (g : ℕ → A) (i : ℕ) → i < n → drop i (table n g) ≡ g i ∷ drop (i + 1) (table n g)
table_next n g i h =
    rw (add-one i, ← get_d_table n g i (g i) h) (drop-cons (table n g) i (g i) (omega (arith, length-table n g)))

module _ (w : WordRows) (f : FloatRows) where
  abbrev s : EngineState
  s = state_from w f

  pub slots_next : (k : ℕ) → k < 16 → drop k s.slots ≡ slot_from w f k ∷ drop (k + 1) s.slots
  unfolding state_from
  slots_next k h = table_next 16 (λ i. slot_from w f i) k h

  pub slots_end : (k : ℕ) → 16 ≤ k → drop k s.slots ≡ []
  unfolding state_from
  slots_end k h =
      let slots = table 16 (λ i. slot_from w f i) in
      let past : length slots ≤ k = omega (arith, length-table 16 (λ i. slot_from w f i)) in
      drop_of_length-le slots past

  module _ (k : ℕ) where
    pub slot_present : present_in (part_at 10 k w) ≡ true
        → valid_slot (slot_from w f k) ≡ valid_clock (clock_from (part_at 10 k w) (part_at 25 k f))
    unfolding valid_slot slot_of
    slot_present h = rw h

    pub slot_absent : present_in (part_at 10 k w) ≡ false → valid_slot (slot_from w f k) ≡ true
    unfolding valid_slot slot_of
    slot_absent h = rw h

  -- ---- a request

  -- what is asked of the clock that a request's row names
  abbrev pub clock_names : List ℕ → Bool
  clock_names row =
      present_in (part_at 10 (get_or row 0 0) w)
      && (flag_from (get_or (get_or w (10 * get_or row 0 0 + 1) []) 0 0)
      && (eqb (get_or (get_or w (10 * get_or row 0 0 + 1) []) 1 0) (get_or row 4 0)
      && (flag_from (get_or (get_or w (10 * get_or row 0 0 + 1) []) 2 0) && ltb (get_or row 4 0) (get_or (get_or w 160 []) 1 0))))

  module _ (row : List ℕ) where
    pub request_past : 16 ≤ get_or row 0 0 → valid_request s (request_from row) ≡ false
    unfolding valid_request request_from
    request_past h = rw (le-ltb (get_or row 0 0) 16 h)

    pub request_within : get_or row 0 0 < 16 → valid_request s (request_from row) ≡ clock_names row
    unfolding valid_request request_from state_from slot_of clock_from clock_of shared_from shared_of
    request_within h =
        rw (
          lt-ltb (get_or row 0 0) 16 h,
          get_d_table 16 (λ i. slot_from w f i) (get_or row 0 0) empty_slot h,
          ← part_row 10 (get_or row 0 0) 1 w (omega arith),
        )

-- ---- the queue

module _ (w : WordRows) where
  abbrev request_at : ℕ → Request
  request_at i = request_from (get_or w (161 + i) [])

  pub queue-length : length (queue_from w) ≡ 16
  queue-length = length-table 16 request_at

  queue_at : (i : ℕ) (d : Request) → i < 16 → get_or (queue_from w) i d ≡ request_from (get_or w (161 + i) [])
  queue_at i d h = get_d_table 16 request_at i d h

  pub queue_index : (i : ℕ) (d : Request) → i < 16 → (get_or (queue_from w) i d).index ≡ get_or (get_or w (161 + i) []) 4 0
  unfolding request_from
  queue_index i d h = ap (λ (r : Request). r.index) (queue_at i d h)

  -- the first n from i on begin with request i
  pub queue_next : (n i : ℕ) → i < n → n ≤ 16 → drop i (take n (queue_from w)) ≡ request_at i ∷ drop (i + 1) (take n (queue_from w))
  queue_next n i h k =
      let l : i < 16 = omega arith in
      rw (← queue_at i (request_at i) l) (slice_next (queue_from w) n i (request_at i) h (omega (arith, queue-length)))

  -- how many are queued
  abbrev pub queued_of : ℕ
  queued_of = get_or (get_or w 160 []) 0 0

  pub queued_in : queued_requests (shared_from w) ≡ take queued_of (queue_from w)
  unfolding shared_from shared_of
  queued_in = refl

  module _ (f : FloatRows) where
    pub queue_over : 16 < queued_of → valid_queue (state_from w f) ≡ false
    unfolding valid_queue state_from shared_from shared_of
    queue_over h = rw (lt-leb queued_of 16 h)

    pub queue_is : queued_of ≤ 16
        → valid_queue (state_from w f)
        ≡ (all (valid_request (state_from w f)) (queued_requests (shared_from w)) && distinct (queued_requests (shared_from w)))
    unfolding valid_queue state_from shared_from shared_of
    queue_is h = rw (le-leb queued_of 16 h)

-- ---- the state

pub state_is : (stream : List ℕ) (n : ℕ) (w : WordRows) (f : FloatRows)
    → valid_state stream n (state_from w f)
    ≡ (all valid_slot (state_from w f).slots
    && (valid_queue (state_from w f) && valid_shared stream n (shared_of (get_or w 160 []) (queue_from w))))
unfolding valid_state state_from shared_from
state_is stream n w f = refl
