-- The queue in its sixteen places: with other requests, with one more, and without the one that a clock names.
use mathlib.Core.Path.{◌≡◌, sym, ◌∙◌, ap}
use mathlib.Core.Bool.{Bool, true, false, cond}
use mathlib.Core.List.{List, [], ◌∷◌, ◌++◌}
use Prim.Native.Nat.{ℕ, ◌+◌, ◌-◌, ◌≤◌, ◌<◌}
use native.Mathlib.Numerals.{add-one}
use native.Mathlib.Omega.{arith}
use lib.ListN.{length, length-append, length-set, length-replicate, replicate}
use lib.Seq.{length-take-le, take-append_seam, take-suc-set}
use Rattle.clocks.specs.declared.clocks.ScheduledEvent.{ScheduledEvent}
use Rattle.hazards.proofs.Cases.{by_test}
use Rattle.engine.specs.Queue.{keep_if, without, count_for}
use Rattle.engine.specs.State.{empty_request, queued_requests, with_queue, with_request, ClockSlot, SharedState}
use Rattle.engine.specs.Execution.{is_withdrawn, withdraw}
use Rattle.engine.specs.declared.state.Request.{Request}
use Rattle.engine.proofs.RequestLists.{not_for}
use Rattle.engine.proofs.SoundState.{names_request, SoundQueue}
use Rattle.engine.proofs.RequestCounts.{OneFor, one_for, none_for, keep_short}
use Rattle.engine.proofs.DistinctIndices.{in_there}
use Rattle.engine.proofs.SoundQueues.{request-of, without_one, at_most_16, unnamed_none}

-- the requests lie within the sixteen places
pub record Placed (p : SharedState) : Type 0 where
  pub places : length p.queue ≡ 16
  pub queued : p.queued ≤ 16

pub queued-length : (p : SharedState) → Placed p → length (queued_requests p) ≡ p.queued
queued-length p h = length-take-le p.queued p.queue (let a = h.places in let b = h.queued in omega arith)

-- ---- other requests

module _ (p : SharedState) (rs : List Request) where
  pub with_queue_placed : length rs ≤ 16 → Placed (with_queue p rs)
  with_queue_placed h = record {
    places =
        length-append rs (replicate (16 - length rs) empty_request)
        ∙ ap (λ (k : ℕ). length rs + k) (length-replicate (16 - length rs) empty_request)
        ∙ omega arith;
    queued = h;
  }

  pub with_queue_requests : queued_requests (with_queue p rs) ≡ rs
  with_queue_requests = take-append_seam rs (replicate (16 - length rs) empty_request)

-- ---- one more

module _ (p : SharedState) (r : Request) (h : Placed p) (free : p.queued < 16) where
  pub with_request_placed : Placed (with_request p r)
  with_request_placed = record { places = length-set p.queue p.queued r ∙ h.places; queued = omega arith }

  pub with_request_requests : queued_requests (with_request p r) ≡ queued_requests p ++ (r ∷ [])
  with_request_requests = rw add-one (take-suc-set p.queue p.queued r (let a = h.places in omega arith))

-- ---- the request that a present clock names is withdrawn

-- the clock i's event e is withdrawn: whether a request was there for it, as the answer says, and what is left
pub record Withdrawn (p : SharedState) (i : ℕ) (e : ScheduledEvent) : Type 0 where
  pub was : count_for i (queued_requests p) ≡ cond (is_withdrawn p e) 1 0
  pub answered : cond (is_withdrawn p e) (keep_if (not_for i) (queued_requests p)) (queued_requests p) ≡ keep_if (not_for i) (queued_requests p)
  pub left : queued_requests (withdraw p e) ≡ keep_if (not_for i) (queued_requests p)
  pub placed : Placed (withdraw p e)

module _ (slots : ℕ → ClockSlot) (p : SharedState) (h : Placed p) (g : SoundQueue slots p.request_count (queued_requests p))
    (i : ℕ) (present : (slots i).present ≡ true) where
  abbrev named : ScheduledEvent
  named = (slots i).clock.scheduled_event_id

  abbrev q : List Request
  q = queued_requests p

  -- where it names one, that one is queued, and is all that its clock has there
  record Named : Type 0 where
    is : is_withdrawn p named ≡ true
    left : without named.index q ≡ keep_if (not_for i) q

  one_named : OneFor i q → Named
  one_named one =
      let r = one.request in
      let event : named ≡ record { present = true; index = r.index } =
      ap (λ (k : ℕ). (slots k).clock.scheduled_event_id) (sym one.clock) ∙ (request-of g r one.within).named in
      record {
        is = rw event (in_there r q one.within);
        left = rw event (without_one g r one.within ∙ ap (λ (k : ℕ). keep_if (not_for k) q) one.clock);
      }

  named_queued : named.present ≡ true → Named
  named_queued e =
      let names : names_request (slots i) ≡ true = rw (present, e) in
      one_named (one_for i q (rw (g.own i, names) (omega arith)))

  pub withdrawn : Withdrawn p i named
  withdrawn = by_test named.present taken kept
    where
      taken : named.present ≡ true → Withdrawn p i named
      taken e =
          let n = named_queued e in
          let names : names_request (slots i) ≡ true = rw (present, e) in
          let short : length (without named.index q) ≤ 16 =
          rw n.left (let a = keep_short (not_for i) q in let b = at_most_16 g in omega arith) in
          record {
            was = g.own i ∙ ap (λ (b : Bool). cond b 1 0) (names ∙ sym n.is);
            answered = rw n.is;
            left = rw n.is (with_queue_requests p (without named.index q) ∙ n.left);
            placed = rw n.is (with_queue_placed p (without named.index q) short);
          }

      kept : named.present ≡ false → Withdrawn p i named
      kept e =
          let isnt : is_withdrawn p named ≡ false = rw e in
          let names : names_request (slots i) ≡ false = rw (present, e) in
          record {
            was = unnamed_none g i names ∙ rw isnt;
            answered = rw isnt (sym (none_for i q (unnamed_none g i names)));
            left = rw isnt (sym (none_for i q (unnamed_none g i names)));
            placed = rw isnt h;
          }
