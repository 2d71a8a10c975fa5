-- `rates::uses_pairs` meets its contract: a hazard in pieces, or any other.
use mathlib.Core.Path.{◌≡◌, refl}
use mathlib.Core.Bool.{false}
use lib.Ieee.{Float}
use Rattle.hazards.specs.Rates.{uses_pairs}
use Rattle.hazards.specs.declared.rates.HazardRate.{HazardRate}
use Rattle.hazards.specs.declared.rates.HazardRate.TheVariants.{Zero, Constant, Gompertz, Piecewise, Weibull}
use Rattle.hazards.proofs.rates.uses_pairs.Goals as goal

others_none : (h : HazardRate) → ((trailing : Float) → h ≡ Piecewise trailing → ⊥) → false ≡ uses_pairs h
unfolding uses_pairs
others_none Zero n = refl
others_none (Constant rate) n = refl
others_none (Gompertz eta) n = refl
others_none (Piecewise trailing) n = absurd (n trailing refl)
others_none (Weibull scale) n = refl

pub returns-in-Piecewise : goal.returns-in-Piecewise
unfolding uses_pairs
returns-in-Piecewise c = rw c.in-Piecewise.is

pub returns-in_default : goal.returns-in_default
returns-in_default c = others_none c.args.hazard c.in_default.not-Piecewise
