-- `queue::comes_first` meets its contract: by the high words and then the low ones requests are in the order of their ticks.
use mathlib.Core.Path.{◌≡◌, refl, sym, ap}
use mathlib.Core.Bool.{Bool, true, false, cond}
use Prim.Native.Nat.{ℕ, ◌+◌, ◌*◌, ◌<◌, ◌^◌}
use native.Mathlib.Omega.{arith}
use borrow.Author.Rules.{rules}
use borrow.Author.Tests.{ltb-true, ltb-false, lt-ltb, le-ltb, eq-eqb, ne_eqb}
use lib.Dec.{ltb}
use Rattle.std.specs.Prelude.{Some}
use Rattle.std.proofs.Common.{Ordering}
use Rattle.std.specs.Ordering.{is_lt, is_some_and, nat_cmp, partial_ordering_then}
use Rattle.std.specs.declared.cmp.Ordering.TheVariants.{Less, Equal, Greater}
use Rattle.engine.specs.Queue.{comes_first, request_ticks}
use Rattle.engine.proofs.QueueLaws.{reads_back}
use Rattle.engine.proofs.queue.comes_first.Goals as goal

module _ (a b : ℕ) where
  below : a < b → nat_cmp a b ≡ Less
  below h = rw (lt-ltb a b h)

  same : a ≡ b → nat_cmp a b ≡ Equal
  same e = let n : ltb a b ≡ false = le-ltb a b (omega arith) in rw (n, eq-eqb a b e)

  above : b < a → nat_cmp a b ≡ Greater
  above h =
      let n : ltb a b ≡ false = le-ltb a b (omega arith) in
      let d : a ≡ b → ⊥ = λ e. omega arith in
      rw (n, ne_eqb a b d)

  -- the three cases of a comparison
  compared : (P : Ordering → Type 0) → (a < b → P Less) → (a ≡ b → P Equal) → (b < a → P Greater) → P (nat_cmp a b)
  compared P l e g = go (ltb a b) (ltb b a) refl refl
    where
      go : (t u : Bool) → ltb a b ≡ t → ltb b a ≡ u → P (nat_cmp a b)
      go true u p q = let h = ltb-true a b p in rw (below h) (l h)
      go false true p q = let h = ltb-true b a q in rw (above h) (g h)
      go false false p q = let h : a ≡ b = omega (arith, ltb-false a b p, ltb-false b a q) in rw (same h) (e h)

module _ (high low high' low' : ℕ) (small : low < 2 ^ 64) (small' : low' < 2 ^ 64) where
  by_ticks : partial_ordering_then (Some (nat_cmp high high')) (Some (nat_cmp low low')) ≡ Some (nat_cmp (low + 2 ^ 64 * high) (low' + 2 ^ 64 * high'))
  by_ticks =
      let t = low + 2 ^ 64 * high in
      let t' = low' + 2 ^ 64 * high' in
      compared high high' (λ o. partial_ordering_then (Some o) (Some (nat_cmp low low')) ≡ Some (nat_cmp t t'))
      (λ h. ap Some (sym (below t t' (omega arith))))
      (λ e.
      compared low low' (λ o. Some o ≡ Some (nat_cmp t t'))
      (λ h. ap Some (sym (below t t' (omega arith))))
      (λ h. ap Some (sym (same t t' (omega arith))))
      (λ h. ap Some (sym (above t t' (omega arith)))))
      (λ h. ap Some (sym (above t t' (omega arith))))

-- what is left where the ticks are the same: the priorities' two tests, then the indices
by_index : (i j : ℕ) → is_lt (nat_cmp i j) ≡ ltb i j
by_index i j =
    compared i j (λ o. is_lt o ≡ ltb i j) (λ h. sym (lt-ltb i j h)) (λ e. sym (le-ltb i j (omega arith))) (λ h. sym (le-ltb i j (omega arith)))

by_priority : (p q : Bool) (i j : ℕ)
    → is_some_and is_lt (partial_ordering_then (Some (cond p Less (cond q Greater Equal))) (Some (nat_cmp i j)))
    ≡ cond p true (cond q false (ltb i j))
by_priority true q i j = refl
by_priority false true i j = refl
by_priority false false i j = by_index i j

in_order : (t u : ℕ) (p q : Bool) (i j : ℕ)
    → is_some_and is_lt
    (partial_ordering_then (partial_ordering_then (Some (nat_cmp t u)) (Some (cond p Less (cond q Greater Equal)))) (Some (nat_cmp i j)))
    ≡ cond (ltb t u) true (cond (ltb u t) false (cond p true (cond q false (ltb i j))))
in_order t u p q i j =
    compared t u
    (λ o.
    is_some_and is_lt
    (partial_ordering_then (partial_ordering_then (Some o) (Some (cond p Less (cond q Greater Equal)))) (Some (nat_cmp i j)))
    ≡ cond (ltb t u) true (cond (ltb u t) false (cond p true (cond q false (ltb i j)))))
    (λ h. rw (lt-ltb t u h))
    (λ e. rw (le-ltb t u (omega arith), le-ltb u t (omega arith)) (by_priority p q i j))
    (λ h. rw (le-ltb t u (omega arith), lt-ltb u t h))

pub returns : goal.returns
unfolding comes_first
returns c =
    let a = c.args.a in
    let b = c.args.b in
    let h = by_ticks a.ticks.high a.ticks.low b.ticks.high b.ticks.low (search rules) (search rules) in
    let p = sym (reads_back a.priority (search rules)) in
    let q = sym (reads_back b.priority (search rules)) in
    rw (c.lt.ensures, h, p, q) (in_order (request_ticks a) (request_ticks b) _ _ a.index b.index)
