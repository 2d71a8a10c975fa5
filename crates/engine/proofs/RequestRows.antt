-- The rows of requests and of the counts in lent memory: the queued requests one after another, and one row stored.
use mathlib.Core.Path.{◌≡◌, refl, ◌∙◌, ap}
use mathlib.Core.Bool.{true}
use mathlib.Core.List.{List, [], ◌∷◌, ◌++◌}
use Prim.Native.Nat.{ℕ, ◌+◌, ◌-◌, ◌<◌, ◌≤◌, min}
use native.Mathlib.Nat.{mod-eq_of_lt}
use native.Mathlib.Omega.{arith}
use borrow.Author.Tests.{eqb-true, eqb-false, lt-ltb}
use lib.Dec.{eqb}
use lib.ListN.{length, get_or, set, take, drop}
use lib.Seq.{get_or-set_same, get_or-set_other, take-set-le}
use mir.Syntax.{w32}
use mir.Val.{to_z}
use Rattle.hazards.proofs.Cases.{by_test}
use Rattle.clocks.specs.Layout.{WordRows}
use Rattle.clocks.proofs.Tables.{length-table, get_d_table, table-set, table_same}
use Rattle.engine.specs.State.{empty_request, queued_requests, SharedState}
use Rattle.engine.specs.StateRows.{request_from, queue_from, shared_of, shared_from, coded_counts, coded_request, CodedShared, LeavesShared}
use Rattle.engine.specs.QueueInternals.{KeepsRest}
use Rattle.engine.specs.declared.state.Request.{Request}
use Rattle.engine.proofs.QueueLaws.{queued_next, queued_back, queued_end, queued_first, queued-all}

-- ---- one row

-- the row in which a request is stored, its priority in two's complement
pub row_of : (r : Request) (b : ℕ) → to_z w32 b ≡ r.priority → b < 4294967296
    → (request_from (r.clock ∷ r.ticks.low ∷ r.ticks.high ∷ b ∷ r.index ∷ 0 ∷ 0 ∷ 0 ∷ []) ≡ r)
    × (coded_request (r.clock ∷ r.ticks.low ∷ r.ticks.high ∷ b ∷ r.index ∷ 0 ∷ 0 ∷ 0 ∷ []) ≡ true)
unfolding request_from coded_request
row_of r b e l = (rw (mod-eq_of_lt l, e), rw (lt-ltb b 4294967296 l))

pub index_in : (row : List ℕ) → (request_from row).index ≡ get_or row 4 0
unfolding request_from
index_in row = refl

module _ (w : WordRows) where
  abbrev pub count_at : ℕ → ℕ
  count_at i = get_or (get_or w 160 []) i 0

  abbrev pub request_in : ℕ → Request
  request_in i = request_from (get_or w (161 + i) [])

  pub queued_in : (shared_from w).queued ≡ count_at 0
  unfolding shared_from shared_of
  queued_in = refl

  pub made_in : (shared_from w).request_count ≡ count_at 1
  unfolding shared_from shared_of
  made_in = refl

  pub queue_sixteen : length (queue_from w) ≡ 16
  queue_sixteen = length-table 16 (λ i. request_in i)

  pub request-in : (i : ℕ) (d : Request) → i < 16 → get_or (queue_from w) i d ≡ request_in i
  request-in i d h = get_d_table 16 (λ j. request_in j) i d h

  -- ---- the queued requests, by their rows

  pub row_next : (i : ℕ) → i < min (count_at 0) 16
      → drop i (queued_requests (shared_from w)) ≡ request_in i ∷ drop (i + 1) (queued_requests (shared_from w))
  unfolding shared_from shared_of
  row_next i h =
      rw (← request-in i empty_request (omega arith)) (queued_next (queue_from w) (count_at 0) queue_sixteen i h)

  pub row_back : (i : ℕ) → 0 < i → i ≤ min (count_at 0) 16
      → drop (i - 1) (queued_requests (shared_from w)) ≡ request_in (i - 1) ∷ drop i (queued_requests (shared_from w))
  unfolding shared_from shared_of
  row_back i p h =
      rw (← request-in (i - 1) empty_request (omega arith)) (queued_back (queue_from w) (count_at 0) queue_sixteen i p h)

  pub row_end : (i : ℕ) → min (count_at 0) 16 ≤ i → drop i (queued_requests (shared_from w)) ≡ []
  unfolding shared_from shared_of
  row_end i h = queued_end (queue_from w) (count_at 0) queue_sixteen i h

  pub row_first : (i : ℕ) → i < min (count_at 0) 16
      → take (i + 1) (queued_requests (shared_from w)) ≡ take i (queued_requests (shared_from w)) ++ (request_in i ∷ [])
  unfolding shared_from shared_of
  row_first i h =
      rw (← request-in i empty_request (omega arith)) (queued_first (queue_from w) (count_at 0) queue_sixteen i h)

  pub row-all : (i : ℕ) → min (count_at 0) 16 ≤ i → take i (queued_requests (shared_from w)) ≡ queued_requests (shared_from w)
  unfolding shared_from shared_of
  row-all i h = queued-all (queue_from w) (count_at 0) queue_sixteen i h

-- ---- a request's row stored

module _ (w : WordRows) (sized : length w ≡ 177) (i : ℕ) (h : i < 16) (row : List ℕ) where
  abbrev w' : WordRows
  w' = set w (161 + i) row

  there : get_or w' (161 + i) [] ≡ row
  there = get_or-set_same w (161 + i) row [] (omega arith)

  beside : (r : ℕ) → (r ≡ 161 + i → ⊥) → get_or w' r [] ≡ get_or w r []
  beside r n = get_or-set_other w (161 + i) r row [] n

  pub request_stored : queue_from w' ≡ set (queue_from w) i (request_from row)
  request_stored =
      table-set 16 (λ j. request_in w j) (λ j. request_in w' j) i h (λ j l n. ap request_from (beside (161 + j) (λ e. n (omega arith))))
      ∙ ap (λ (r : List ℕ). set (queue_from w) i (request_from r)) there

  request_coded : CodedShared w → coded_request row ≡ true → CodedShared w'
  request_coded k c = record {
    counts = rw (beside 160 (λ e. omega arith)) k.counts;
    requests =
        λ j l.
        by_test (eqb j i)
        (λ e. let same : j ≡ i = eqb-true j i e in rw (same, there) c)
        (λ e. let apart : j ≡ i → ⊥ = eqb-false j i e in rw (beside (161 + j) (λ q. apart (omega arith))) (k.requests j l));
  }

  pub rest_stored : (CodedShared w → coded_request row ≡ true) → KeepsRest w w'
  rest_stored c = record {
    counts = beside 160 (λ e. omega arith);
    clocks = take-set-le 160 w (161 + i) row (omega arith);
    coded = λ k. request_coded k (c k);
  }

pub rest_none : (w : WordRows) → KeepsRest w w
rest_none w = record { counts = refl; clocks = refl; coded = λ k. k }

pub rest_then : {w w' w'' : WordRows} → KeepsRest w w' → KeepsRest w' w'' → KeepsRest w w''
rest_then p q = record { counts = q.counts ∙ p.counts; clocks = q.clocks ∙ p.clocks; coded = λ k. q.coded (p.coded k) }

-- ---- the row of the counts stored

abbrev pub counted_as : List Request → ℕ → ℕ → ℕ → ℕ → SharedState
counted_as queue queued made position applied = record {
  queue = queue;
  queued = queued;
  request_count = made;
  position = position;
  applied_length = applied;
}

module _ (w : WordRows) (sized : length w ≡ 177) (queued made position applied : ℕ) where
  abbrev row : List ℕ
  row = queued ∷ made ∷ position ∷ applied ∷ count_at w 4 ∷ count_at w 5 ∷ count_at w 6 ∷ count_at w 7 ∷ []

  counts_there : get_or (set w 160 row) 160 [] ≡ row
  counts_there = get_or-set_same w 160 row [] (omega arith)

  counts_beside : (i : ℕ) → get_or (set w 160 row) (161 + i) [] ≡ get_or w (161 + i) []
  counts_beside i = get_or-set_other w 160 (161 + i) row [] (λ e. omega arith)

  queue_same : queue_from (set w 160 row) ≡ queue_from w
  queue_same =
      table_same 16 (λ i. request_in w i) (λ i. request_in (set w 160 row) i) (λ i h. ap request_from (counts_beside i))

  counts_coded : CodedShared w → CodedShared (set w 160 row)
  unfolding coded_counts
  counts_coded k = record {
    counts = rw counts_there k.counts;
    requests = λ i h. rw (counts_beside i) (k.requests i h);
  }

  pub counts_stored : LeavesShared w (set w 160 row) (counted_as (shared_from w).queue queued made position applied)
  unfolding shared_from shared_of
  counts_stored = record {
    shared = rw (counts_there, queue_same);
    clocks = take-set-le 160 w 160 row (omega arith);
    coded = counts_coded;
  }

-- the requests' rows changed, and then the counts
module _ {w w' w'' : WordRows} {p q : SharedState} where
  pub counted : KeepsRest w w' → LeavesShared w' w'' p → p ≡ q → LeavesShared w w'' q
  counted k s e = record { shared = s.shared ∙ e; clocks = s.clocks ∙ k.clocks; coded = λ c. s.coded (k.coded c) }
