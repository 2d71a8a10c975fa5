-- The number of an input's flags is 0 where none is set, and of two parts together where it is 0 of each.
use mathlib.Core.Path.{◌≡◌, refl}
use mathlib.Core.Bool.{Bool, true, false, cond, ◌||◌, true≢false}
use native.Mathlib.Omega.{arith}
use Rattle.hazards.specs.Refusals.{bad_choice, out_of_range, bad_intervals, bad_identifier, joined, number_of}
use Rattle.hazards.specs.declared.refusals.Faults.{Faults}

pub record Faultless (f : Faults) : Type 0 where
  pub choice : f.choice ≡ false
  pub range : f.range ≡ false
  pub intervals : f.intervals ≡ false
  pub identifier : f.identifier ≡ false

pub accepted : (f : Faults) → number_of f ≡ 0 → Faultless f
accepted f h = go f.choice f.range f.intervals f.identifier h
  where
    go : (c r i d : Bool)
        → cond c bad_choice (cond r out_of_range (cond i bad_intervals (cond d bad_identifier 0))) ≡ 0
        → Faultless (record { choice = c; range = r; intervals = i; identifier = d })
    go true r i d h = absurd (omega arith)
    go false true i d h = absurd (omega arith)
    go false false true d h = absurd (omega arith)
    go false false false true h = absurd (omega arith)
    go false false false false h = record { choice = refl; range = refl; intervals = refl; identifier = refl }

number_zero : (f : Faults) → Faultless f → number_of f ≡ 0
number_zero f n = rw (n.choice, n.range, n.intervals, n.identifier)

or_first : (a b : Bool) → (a || b) ≡ false → a ≡ false
or_first true b e = e
or_first false b e = refl

or_second : (a b : Bool) → (a || b) ≡ false → b ≡ false
or_second true b e = absurd (true≢false e)
or_second false b e = e

-- where two parts together are accepted, each is
pub joined_accepted : (a b : Faults) → number_of (joined a b) ≡ 0 → (number_of a ≡ 0) × (number_of b ≡ 0)
joined_accepted a b h =
    let n = accepted (joined a b) h in (
      number_zero a (record {
        choice = or_first a.choice b.choice n.choice;
        range = or_first a.range b.range n.range;
        intervals = or_first a.intervals b.intervals n.intervals;
        identifier = or_first a.identifier b.identifier n.identifier;
      }),
      number_zero b (record {
        choice = or_second a.choice b.choice n.choice;
        range = or_second a.range b.range n.range;
        intervals = or_second a.intervals b.intervals n.intervals;
        identifier = or_second a.identifier b.identifier n.identifier;
      }),
    )
