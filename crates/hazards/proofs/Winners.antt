-- The earliest of candidates at finite times: it is one of them, and none of them precedes it; there is none only where there is no
-- candidate. The order of candidates is transitive.
use mathlib.Core.Path.{◌≡◌, refl, sym, ◌∙◌}
use mathlib.Core.Logic.{◌⊎◌, inl, inr}
use mathlib.Core.Bool.{true, false, true≢false}
use mathlib.Core.List.{List, [], ◌∷◌}
use Prim.Native.Nat.{ℕ, ◌≤◌, ◌<◌}
use native.Mathlib.Omega.{arith}
use borrow.Author.Tests.{ltb-true, ltb-false, lt-ltb, le-ltb}
use lib.Dec.{T, ltb}
use lib.Ieee.{lt, eq}
use Rattle.std.specs.Prelude.{Option, Some, None}
use Rattle.hazards.specs.Floats.{is_finite_wait}
use Rattle.hazards.specs.Lists.{foldl}
use Rattle.hazards.specs.Ties.{preferred, precedes, earlier, earliest}
use Rattle.hazards.specs.declared.ties.Candidate.{Candidate}
use Rattle.hazards.specs.declared.ties.TieBreaker.{TieBreaker}
use Rattle.hazards.specs.declared.ties.TieBreaker.TheVariants.{LowestCauseId, HighestCauseId, ExplicitPriority}
use Rattle.hazards.proofs.Cases.{by_test}
use Rattle.hazards.proofs.Members.{Member}
use Rattle.hazards.proofs.FiniteOrder.{not-lt-trans, lt-not-lt, not-lt-self, eq_not_lt}

-- ---- the tie choice is transitive, and nothing is preferred to itself

less_trans : (a b c : ℕ) → ltb a b ≡ true → ltb b c ≡ true → ltb a c ≡ true
less_trans a b c p q =
    let h : a < b = ltb-true a b p in
    let k : b < c = ltb-true b c q in
    lt-ltb a c (omega arith)

not_less_self : (a : ℕ) → ltb a a ≡ false
not_less_self a = le-ltb a a (omega arith)

-- a higher priority, or the same and a lower cause
abbrev Higher : Candidate → Candidate → Type 0
Higher a b = (b.priority < a.priority) ⊎ ((a.priority ≡ b.priority) × (a.cause_id < b.cause_id))

explicit_higher : (a b : Candidate) → preferred ExplicitPriority a b ≡ true → Higher a b
unfolding preferred
explicit_higher a b h =
    by_test (ltb b.priority a.priority) (λ p. inl (ltb-true b.priority a.priority p))
    (λ p.
    by_test (ltb a.priority b.priority) (λ q. absurd (true≢false (sym (rw (p, q) at h))))
    (λ q.
    let over : a.priority ≤ b.priority = ltb-false b.priority a.priority p in
    let under : b.priority ≤ a.priority = ltb-false a.priority b.priority q in
    inr (omega arith, ltb-true a.cause_id b.cause_id (rw (p, q) at h))))

higher_explicit : (a b : Candidate) → Higher a b → preferred ExplicitPriority a b ≡ true
unfolding preferred
higher_explicit a b (inl h) = rw (lt-ltb b.priority a.priority h)
higher_explicit a b (inr (e, h)) =
    rw (le-ltb b.priority a.priority (omega arith), le-ltb a.priority b.priority (omega arith))
    (lt-ltb a.cause_id b.cause_id h)

higher_trans : (a b c : Candidate) → Higher a b → Higher b c → Higher a c
higher_trans a b c (inl h) (inl k) = inl (omega arith)
higher_trans a b c (inl h) (inr (e, k)) = inl (omega arith)
higher_trans a b c (inr (e, h)) (inl k) = inl (omega arith)
higher_trans a b c (inr (e, h)) (inr (f, k)) = inr (omega arith, omega arith)

preferred_trans : (tie : TieBreaker) (a b c : Candidate) → preferred tie a b ≡ true → preferred tie b c ≡ true → preferred tie a c ≡ true
unfolding preferred
preferred_trans LowestCauseId a b c h k = less_trans a.cause_id b.cause_id c.cause_id h k
preferred_trans HighestCauseId a b c h k = less_trans c.cause_id b.cause_id a.cause_id k h
preferred_trans ExplicitPriority a b c h k = higher_explicit a c (higher_trans a b c (explicit_higher a b h) (explicit_higher b c k))

preferred_self : (tie : TieBreaker) (a : Candidate) → preferred tie a a ≡ false
unfolding preferred
preferred_self LowestCauseId a = not_less_self a.cause_id
preferred_self HighestCauseId a = not_less_self a.cause_id
preferred_self ExplicitPriority a = rw (not_less_self a.priority, not_less_self a.cause_id)

-- ---- the order of candidates at finite times

abbrev pub FiniteTime : Candidate → Type 0
FiniteTime c = T (is_finite_wait c.time)

module _ (tie : TieBreaker) where
  -- what precedes is not later, and at equal times the tie choice decides
  not_later : (a b : Candidate) → FiniteTime a → FiniteTime b → precedes tie a b ≡ true → lt b.time a.time ≡ false
  unfolding precedes
  not_later a b f g h =
      by_test (lt a.time b.time) (λ p. lt-not-lt a.time b.time f g p)
      (λ p. by_test (lt b.time a.time) (λ q. absurd (true≢false (sym (rw (p, q) at h)))) (λ q. q))

  tied : (a b : Candidate) → lt a.time b.time ≡ false → lt b.time a.time ≡ false → precedes tie a b ≡ preferred tie a b
  unfolding precedes
  tied a b p q = rw (p, q)

  precedes_trans : (a b c : Candidate) → FiniteTime a → FiniteTime b → FiniteTime c → precedes tie a b ≡ true → precedes tie b c ≡ true
      → precedes tie a c ≡ true
  unfolding precedes
  precedes_trans a b c fa fb fc h k =
      let ba = not_later a b fa fb h in
      let cb = not_later b c fb fc k in
      let ca = not-lt-trans c.time b.time a.time fc fb fa cb ba in
      by_test (lt a.time c.time) (λ p. rw p)
      (λ p.
      let ab = not-lt-trans a.time c.time b.time fa fc fb p cb in
      let bc = not-lt-trans b.time a.time c.time fb fa fc ba p in
      tied a c p ca ∙ preferred_trans tie a b c (sym (tied a b ab ba) ∙ h) (sym (tied b c bc cb) ∙ k))

  precedes_self : (a : Candidate) → FiniteTime a → precedes tie a a ≡ false
  precedes_self a f = let same = not-lt-self a.time f in tied a a same same ∙ preferred_self tie a

  -- what does not precede is not earlier, nor as early and preferred
  pub not_preceding : (a b : Candidate) → FiniteTime a → FiniteTime b → precedes tie a b ≡ false
      → (lt a.time b.time ≡ false) × (eq a.time b.time ≡ true → preferred tie a b ≡ false)
  unfolding precedes
  not_preceding a b f g h =
      by_test (lt a.time b.time) (λ p. absurd (true≢false (rw p at h)))
      (λ p. (p, λ same. sym (tied a b p (eq_not_lt a.time b.time f g same)) ∙ h))

  -- ---- the earliest of a list

  -- one of those that were seen, and none of them precedes it
  pub record Best (Seen : Candidate → Type 0) (w : Candidate) : Type 0 where
    pub seen : Seen w
    pub unpreceded : (c : Candidate) → Seen c → precedes tie c w ≡ false

  abbrev pub BestOf : Option Candidate → (Candidate → Type 0) → Type 0
  BestOf None Seen = (c : Candidate) → Seen c → ⊥
  BestOf (Some w) Seen = Best Seen w

  abbrev With : (Candidate → Type 0) → Candidate → Candidate → Type 0
  With Seen c d = Seen d ⊎ (d ≡ c)

  with_next : (Seen : Candidate → Type 0) → ((d : Candidate) → Seen d → FiniteTime d) → (best : Option Candidate) (c : Candidate) → FiniteTime c
      → BestOf best Seen → BestOf (earlier tie best c) (With Seen c)
  unfolding earlier
  with_next Seen times None c f b = record {
    seen = inr refl;
    unpreceded = λ (d : Candidate) (p : With Seen c d). elim p [ inl q ↦ absurd (b d q) | inr e ↦ rw e (precedes_self c f) ];
  }
  with_next Seen times (Some w) c f b =
      by_test (precedes tie c w)
      (λ (p : precedes tie c w ≡ true).
      rw p
      (record {
        seen = inr refl;
        unpreceded = λ (d : Candidate) (q : With Seen c d).
            elim q [ inl h ↦ not_before d h p | inr e ↦ rw e (precedes_self c f) ];
      }))
      (λ (p : precedes tie c w ≡ false).
      rw p
      (record {
        seen = inl b.seen;
        unpreceded = λ (d : Candidate) (q : With Seen c d). elim q [ inl h ↦ b.unpreceded d h | inr e ↦ rw e p ];
      }))
    where
      not_before : (d : Candidate) → Seen d → precedes tie c w ≡ true → precedes tie d c ≡ false
      not_before d h p =
          by_test (precedes tie d c)
          (λ (q : precedes tie d c ≡ true).
          absurd
          (true≢false
          (sym (precedes_trans d c w (times d h) f (times w b.seen) q p) ∙ b.unpreceded d h)))
          (λ q. q)

  same_best : (best : Option Candidate) (P Q : Candidate → Type 0) → ((c : Candidate) → P c → Q c) → ((c : Candidate) → Q c → P c) → BestOf best P
      → BestOf best Q
  same_best None P Q to from b = λ c q. b c (from c q)
  same_best (Some w) P Q to from b = record { seen = to w b.seen; unpreceded = λ c q. b.unpreceded c (from c q) }

  -- those that were seen and those of the list
  abbrev Before : (Candidate → Type 0) → List Candidate → Candidate → Type 0
  Before Seen cs d = Seen d ⊎ Member d cs

  moved : (Seen : Candidate → Type 0) (c : Candidate) (cs : List Candidate) (d : Candidate) → Before (With Seen c) cs d
      → Before Seen (c ∷ cs) d
  moved Seen c cs d (inl (inl p)) = inl p
  moved Seen c cs d (inl (inr e)) = inr (inl e)
  moved Seen c cs d (inr p) = inr (inr p)

  moved_back : (Seen : Candidate → Type 0) (c : Candidate) (cs : List Candidate) (d : Candidate) → Before Seen (c ∷ cs) d
      → Before (With Seen c) cs d
  moved_back Seen c cs d (inl p) = inl (inl p)
  moved_back Seen c cs d (inr (inl e)) = inl (inr e)
  moved_back Seen c cs d (inr (inr p)) = inr p

  folded_best : (Seen : Candidate → Type 0) (best : Option Candidate) (cs : List Candidate) → ((d : Candidate) → Before Seen cs d → FiniteTime d)
      → BestOf best Seen → BestOf (foldl (earlier tie) best cs) (Before Seen cs)
  unfolding foldl
  folded_best Seen best [] times b =
      same_best best Seen (Before Seen []) (λ c p. inl p) (λ c p. elim p [ inl q ↦ q | inr q ↦ absurd q ]) b
  folded_best Seen best (c ∷ cs) times b =
      same_best (foldl (earlier tie) (earlier tie best c) cs) (Before (With Seen c) cs) (Before Seen (c ∷ cs)) (moved Seen c cs)
      (moved_back Seen c cs)
      (folded_best (With Seen c) (earlier tie best c) cs (λ d p. times d (moved Seen c cs d p))
      (with_next Seen (λ d p. times d (inl p)) best c (times c (inr (inl refl))) b))

  pub earliest_best : (cs : List Candidate) → ((c : Candidate) → Member c cs → FiniteTime c)
      → BestOf (earliest tie cs) (λ c. Member c cs)
  unfolding earliest
  earliest_best cs times =
      same_best (foldl (earlier tie) None cs) (Before (λ c. ⊥) cs) (λ c. Member c cs)
      (λ c p. elim p [ inl q ↦ absurd q | inr q ↦ q ]) (λ c p. inr p)
      (folded_best (λ c. ⊥) None cs (λ c p. elim p [ inl q ↦ absurd q | inr q ↦ times c q ]) (λ c p. p))
