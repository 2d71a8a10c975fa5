-- The faults of several records, taken together: in any order they are the same.
use mathlib.Core.Path.{◌≡◌, refl, sym, ◌∙◌, ap}
use mathlib.Core.Bool.{Bool, true, false, cond, ◌||◌}
use mathlib.Core.List.{List, [], ◌∷◌}
use Prim.Native.Nat.{ℕ}
use lib.Dec.{leb}
use Rattle.hazards.specs.Lists.{foldl, insert_by, sort_by}
use Rattle.hazards.specs.Refusals.{no_faults, joined}
use Rattle.hazards.specs.Sampler.{cause_faults, faults_of_all}
use Rattle.hazards.specs.declared.refusals.Faults.{Faults}
use Rattle.hazards.specs.declared.sampler.CompetingCause.{CompetingCause}

or_assoc : (a b c : Bool) → ((a || b) || c) ≡ (a || (b || c))
or_assoc true b c = refl
or_assoc false b c = refl

or_comm : (a b : Bool) → (a || b) ≡ (b || a)
or_comm true true = refl
or_comm true false = refl
or_comm false true = refl
or_comm false false = refl

pub joined_assoc : (a b c : Faults) → joined (joined a b) c ≡ joined a (joined b c)
joined_assoc a b c =
    λ i. record {
      choice = or_assoc a.choice b.choice c.choice i;
      range = or_assoc a.range b.range c.range i;
      intervals = or_assoc a.intervals b.intervals c.intervals i;
      identifier = or_assoc a.identifier b.identifier c.identifier i;
    }

joined_comm : (a b : Faults) → joined a b ≡ joined b a
joined_comm a b =
    λ i. record {
      choice = or_comm a.choice b.choice i;
      range = or_comm a.range b.range i;
      intervals = or_comm a.intervals b.intervals i;
      identifier = or_comm a.identifier b.identifier i;
    }

-- the first two exchanged
pub joined_swap : (a b c : Faults) → joined a (joined b c) ≡ joined b (joined a c)
joined_swap a b c =
    sym (joined_assoc a b c) ∙ ap (λ (f : Faults). joined f c) (joined_comm a b) ∙ joined_assoc b a c

-- ---- records that are inserted by a key, sorted by it

either : (b : Bool) (u v : List CompetingCause) {f : Faults} → faults_of_all u ≡ f → faults_of_all v ≡ f → faults_of_all (cond b u v) ≡ f
either true u v p q = p
either false u v p q = q

module _ (key : CompetingCause → ℕ) where
  faults_inserted : (l : List CompetingCause) (c : CompetingCause) → faults_of_all (insert_by key l c) ≡ joined (cause_faults c) (faults_of_all l)
  unfolding insert_by faults_of_all
  faults_inserted [] c = refl
  faults_inserted (d ∷ l) c =
      either (leb (key d) (key c)) (d ∷ insert_by key l c) (c ∷ d ∷ l)
      (ap (joined (cause_faults d)) (faults_inserted l c) ∙ joined_swap (cause_faults d) (cause_faults c) (faults_of_all l)) refl

  faults_folded : (l cs : List CompetingCause) → faults_of_all (foldl (insert_by key) l cs) ≡ joined (faults_of_all l) (faults_of_all cs)
  unfolding foldl faults_of_all
  faults_folded l [] = joined_comm no_faults (faults_of_all l)
  faults_folded l (c ∷ cs) =
      faults_folded (insert_by key l c) cs
      ∙ ap (λ (f : Faults). joined f (faults_of_all cs)) (faults_inserted l c ∙ joined_comm (cause_faults c) (faults_of_all l))
      ∙ joined_assoc (faults_of_all l) (cause_faults c) (faults_of_all cs)

  pub faults_sorted : (cs : List CompetingCause) → faults_of_all (sort_by key cs) ≡ faults_of_all cs
  unfolding sort_by faults_of_all
  faults_sorted cs = faults_folded [] cs

-- ---- the records in their order: one more, none left

pub faults_next : {cs : List CompetingCause} (c : CompetingCause) {rest : List CompetingCause} (f : Faults) {own r : Faults} → cs ≡ c ∷ rest
    → own ≡ cause_faults c → r ≡ joined f own → joined r (faults_of_all rest) ≡ joined f (faults_of_all cs)
unfolding faults_of_all
faults_next c {rest} f first eo er =
    ap (λ (x : Faults). joined x (faults_of_all rest)) (er ∙ ap (joined f) eo) ∙ joined_assoc f (cause_faults c) (faults_of_all rest)
    ∙ rw first

pub faults_none : {cs : List CompetingCause} (f : Faults) → cs ≡ [] → joined f (faults_of_all cs) ≡ f
unfolding faults_of_all
faults_none f none = rw none (joined_comm f no_faults)
