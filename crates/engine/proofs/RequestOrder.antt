-- The order of two requests: it is asymmetric, "does not come first" is transitive, and two of which neither comes first have one index.
-- It goes by ticks, then by priority, then by index.
use mathlib.Core.Path.{◌≡◌, refl, sym, ◌∙◌}
use mathlib.Core.Bool.{Bool, true, false, cond, true≢false}
use Prim.Native.Nat.{ℕ, ◌≤◌}
use native.Mathlib.Omega.{arith}
use borrow.Author.Tests.{ltb-true, ltb-false, le-ltb}
use lib.Dec.{ltb}
use lib.IntN.{ℤ, pos, negsuc}
use lib.Signed.{lt_z}
use Rattle.engine.specs.Queue.{request_ticks, comes_first}
use Rattle.engine.specs.declared.state.Request.{Request}

-- what the laws below say of a test of two
record Ordered {A : Type 0} (f : A → A → Bool) : Type 0 where
  asym : (a b : A) → f a b ≡ true → f b a ≡ false
  trans : (a b c : A) → f b a ≡ false → f c b ≡ false → f c a ≡ false

-- ---- by a number

below_asym : (a b : ℕ) → ltb a b ≡ true → ltb b a ≡ false
below_asym a b e = le-ltb b a (omega (arith, ltb-true a b e))

below_trans : (a b c : ℕ) → ltb b a ≡ false → ltb c b ≡ false → ltb c a ≡ false
below_trans a b c e f = le-ltb c a (omega (arith, ltb-false b a e, ltb-false c b f))

by_number : {A : Type 0} (key : A → ℕ) → Ordered (λ (a b : A). ltb (key a) (key b))
by_number key = record {
  asym = λ a b. below_asym (key a) (key b);
  trans = λ a b c. below_trans (key a) (key b) (key c);
}

-- ---- by an integer

integer_asym : (a b : ℤ) → lt_z a b ≡ true → lt_z b a ≡ false
integer_asym (pos a) (pos b) e = below_asym a b e
integer_asym (pos a) (negsuc b) e = absurd (true≢false (sym e))
integer_asym (negsuc a) (pos b) e = refl
integer_asym (negsuc a) (negsuc b) e = below_asym b a e

integer_trans : (a b c : ℤ) → lt_z b a ≡ false → lt_z c b ≡ false → lt_z c a ≡ false
integer_trans (pos a) (pos b) (pos c) e f = below_trans a b c e f
integer_trans (pos a) (pos b) (negsuc c) e f = f
integer_trans (pos a) (negsuc b) c e f = absurd (true≢false e)
integer_trans (negsuc a) (pos b) (pos c) e f = refl
integer_trans (negsuc a) (pos b) (negsuc c) e f = absurd (true≢false f)
integer_trans (negsuc a) (negsuc b) (pos c) e f = refl
integer_trans (negsuc a) (negsuc b) (negsuc c) e f = below_trans c b a f e

by_integer : {A : Type 0} (key : A → ℤ) → Ordered (λ (a b : A). lt_z (key a) (key b))
by_integer key = record {
  asym = λ a b. integer_asym (key a) (key b);
  trans = λ a b c. integer_trans (key a) (key b) (key c);
}

-- ---- one of itself, and the other way round

module _ {A : Type 0} (f : A → A → Bool) (of : Ordered f) where
  self : (a : A) → f a a ≡ false
  self a = go (f a a) refl
    where
      go : (t : Bool) → f a a ≡ t → f a a ≡ false
      go true e = of.asym a a e
      go false e = e

  reversed : Ordered (λ (a b : A). f b a)
  reversed = record { asym = λ a b. of.asym b a; trans = λ a b c e h. of.trans c b a h e }

-- ---- by one test, then by another

module _ {A : Type 0} (f g : A → A → Bool) where
  abbrev then_by : A → A → Bool
  then_by a b = cond (f a b) true (cond (f b a) false (g a b))

  -- what two of which the first does not come first say: the second does by f, or neither does and the first does not by g
  record Later (a b : A) : Type 0 where
    first : f a b ≡ false
    second : f b a ≡ false → g a b ≡ false

  later : (a b : A) → then_by a b ≡ false → Later a b
  later a b = go (f a b) refl (f b a) refl
    where
      go : (t : Bool) → f a b ≡ t → (u : Bool) → f b a ≡ u → cond t true (cond u false (g a b)) ≡ false → Later a b
      go true et u eu e = absurd (true≢false e)
      go false et true eu e = record { first = et; second = λ q. absurd (true≢false (sym eu ∙ q)) }
      go false et false eu e = record { first = et; second = λ q. e }

  is_later : (a b : A) → Later a b → then_by a b ≡ false
  is_later a b l = go (f b a) refl
    where
      go : (u : Bool) → f b a ≡ u → then_by a b ≡ false
      go true eu = rw (l.first, eu)
      go false eu = rw (l.first, eu) (l.second eu)

  by_both : Ordered f → Ordered g → Ordered then_by
  by_both of og = record {
    asym = λ a b. go a b (f a b) refl (f b a) refl;
    trans = λ a b c e₁ e₂.
        let l = later b a e₁ in
        let m = later c b e₂ in
        is_later c a (record {
          first = of.trans a b c l.first m.first;
          second = λ q. og.trans a b c (l.second (of.trans b c a m.first q)) (m.second (of.trans c a b q l.first));
        });
  }
    where
      go : (a b : A) (t : Bool) → f a b ≡ t → (u : Bool) → f b a ≡ u → cond t true (cond u false (g a b)) ≡ true → then_by b a ≡ false
      go a b true et u eu e = rw (of.asym a b et, et)
      go a b false et true eu e = absurd (true≢false (sym e))
      go a b false et false eu e = rw (et, eu) (og.asym a b e)

-- ---- requests: by ticks, then by priority, the higher first, then by index

abbrev fewer_ticks : Request → Request → Bool
fewer_ticks a b = ltb (request_ticks a) (request_ticks b)

abbrev higher_priority : Request → Request → Bool
higher_priority a b = lt_z b.priority a.priority

abbrev lower_index : Request → Request → Bool
lower_index a b = ltb a.index b.index

by_ticks : Ordered fewer_ticks
by_ticks = by_number request_ticks

by_priority : Ordered higher_priority
by_priority = reversed _ (by_integer (λ (r : Request). r.priority))

ordered : Ordered comes_first
unfolding comes_first
ordered =
    by_both fewer_ticks (then_by higher_priority lower_index) by_ticks
    (by_both higher_priority lower_index by_priority (by_number (λ r. r.index)))

-- the first does not come after the second
abbrev pub NotAfter : Request → Request → Type 0
NotAfter a b = comes_first b a ≡ false

-- no two come before each other
pub first_not_after : (a b : Request) → comes_first a b ≡ true → NotAfter a b
first_not_after a b e = ordered.asym a b e

-- none comes before itself
pub not_after_self : (a : Request) → NotAfter a a
not_after_self a = self comes_first ordered a

pub not_after_trans : (a b c : Request) → NotAfter a b → NotAfter b c → NotAfter a c
not_after_trans a b c e f = ordered.trans a b c e f

-- what that says of ticks, of priorities where the ticks are the same, and of indices where both are
pub record Lexicographic (a b : Request) : Type 0 where
  pub ticks : request_ticks a ≤ request_ticks b
  pub priority : request_ticks b ≡ request_ticks a → lt_z a.priority b.priority ≡ false
  pub index : request_ticks b ≡ request_ticks a → b.priority ≡ a.priority → a.index ≤ b.index

pub lexicographic : (a b : Request) → NotAfter a b → Lexicographic a b
unfolding comes_first
lexicographic a b e =
    record {
      ticks = ltb-false (request_ticks b) (request_ticks a) l.first;
      priority = λ t. (m t).first;
      index = λ t p. ltb-false b.index a.index ((m t).second (rw p (self higher_priority by_priority a)));
    }
  where
    l : Later fewer_ticks (then_by higher_priority lower_index) b a
    l = later fewer_ticks (then_by higher_priority lower_index) b a e

    m : request_ticks b ≡ request_ticks a → Later higher_priority lower_index b a
    m t = later higher_priority lower_index b a (l.second (rw t (self fewer_ticks by_ticks a)))

-- total up to the index
pub one_index : (a b : Request) → NotAfter a b → NotAfter b a → a.index ≡ b.index
unfolding comes_first
one_index a b e f =
    let l = later fewer_ticks (then_by higher_priority lower_index) b a e in
    let m = later fewer_ticks (then_by higher_priority lower_index) a b f in
    let l' = later higher_priority lower_index b a (l.second m.first) in
    let m' = later higher_priority lower_index a b (m.second l.first) in
    omega (arith, ltb-false b.index a.index (l'.second m'.first), ltb-false a.index b.index (m'.second l'.first))
