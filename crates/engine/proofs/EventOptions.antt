-- What is there or not, as the code has it: a censor time, an entity, an event.
use mathlib.Core.Path.{◌≡◌, refl, sym}
use mathlib.Core.Bool.{Bool, true, false, cond, true≢false}
use Prim.Native.Nat.{ℕ}
use lib.Ieee.{Float}
use Rattle.std.specs.Prelude.{Option, Some, None, is_some, unwrap_or}
use Rattle.std.specs.Bool.{then_some}
use Rattle.hazards.specs.declared.ties.TieBreaker.{TieBreaker}
use Rattle.clocks.specs.Clocks.{no_entity, new_clock}
use Rattle.clocks.specs.RowsInternals.{event_from}
use Rattle.clocks.specs.declared.clocks.EntityId.{EntityId}
use Rattle.clocks.specs.declared.clocks.HazardInterruptionPolicy.{HazardInterruptionPolicy}
use Rattle.clocks.specs.declared.scheduling.RealizedEvent.{RealizedEvent}

pub there_if : {A : Type 0} (b : Bool) (x : A) → then_some b x ≡ cond b (Some x) None
there_if true x = refl
there_if false x = refl

-- a clock has the entity that is there, and none else
pub clock_named : (process : ℕ) (b : Bool) (entity : EntityId) (policy : HazardInterruptionPolicy) (tie : TieBreaker) (scale : Float)
    → new_clock process (is_some (then_some b entity)) (unwrap_or (then_some b entity) no_entity) policy tie scale
    ≡ new_clock process b entity policy tie scale
unfolding new_clock
clock_named process true entity policy tie scale = refl
clock_named process false entity policy tie scale = refl

pub none_present : (event : Option RealizedEvent) → is_some event ≡ false → (event_from event).present ≡ false
none_present (Some e) h = absurd (true≢false h)
none_present None h = refl

pub some_present : (event : Option RealizedEvent) → is_some event ≡ true → (event_from event).present ≡ true
some_present (Some e) h = refl
some_present None h = absurd (true≢false (sym h))
