-- Document 01, "Queue and ticks", with change 2 of document 02: the order of requests, the one that is delivered next, and taking one out.
-- What `schedule` puts in is request_of in Execution and with_request in State; ticks are in clocks' Ticks.
use Rattle.std.specs.Prelude.{Bool, true, false, not, cond, List, [], ◌∷◌, ℕ, ◌+◌, ◌*◌, ◌^◌, eqb, ltb, length}
use Rattle.std.proofs.Math.Option.{Option, none, some}
use Rattle.std.specs.Int.Signed.{lt_z}
use Rattle.engine.specs.declared.state.Request.{Request}

abbrev pub request_ticks : Request → ℕ
request_ticks r = r.ticks.low + 2 ^ 64 * r.ticks.high

-- fewest ticks, then higher priority number, then lower index
unfoldable pub comes_first : Request → Request → Bool
comes_first a b =
    cond (ltb (request_ticks a) (request_ticks b)) true
    (cond (ltb (request_ticks b) (request_ticks a)) false
    (cond (lt_z b.priority a.priority) true
    (cond (lt_z a.priority b.priority) false (ltb a.index b.index))))

-- the earlier of two, the first where neither is
abbrev pub earlier_of : Option Request → Option Request → Option Request
earlier_of none o = o
earlier_of (some a) none = some a
earlier_of (some a) (some b) = cond (comes_first b a) (some b) (some a)

-- the request that DELIVER takes
unfoldable pub next_request : List Request → Option Request
next_request [] = none
next_request (r ∷ rs) = earlier_of (some r) (next_request rs)

abbrev pub keep_if : (Request → Bool) → List Request → List Request
keep_if keep [] = []
keep_if keep (r ∷ rs) = cond (keep r) (r ∷ keep_if keep rs) (keep_if keep rs)

-- the requests but the one with an index: what cancel and DELIVER leave
unfoldable pub without : ℕ → List Request → List Request
without index rs = keep_if (λ r. not (eqb r.index index)) rs

-- whether a request with an index is there
unfoldable pub is_queued : ℕ → List Request → Bool
is_queued index [] = false
is_queued index (r ∷ rs) = cond (eqb r.index index) true (is_queued index rs)

-- how many are for a clock
abbrev pub count_for : ℕ → List Request → ℕ
count_for clock rs = length (keep_if (λ r. eqb r.clock clock) rs)
