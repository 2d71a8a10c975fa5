-- A state whose slot and shared state are put back.
use mathlib.Core.Path.{◌≡◌, ap, ◌∙◌}
use mathlib.Core.List.{List}
use Prim.Native.Nat.{ℕ}
use lib.Seq.{set-set, set-get_or}
use Rattle.engine.specs.State.{empty_slot, slot_at, with_slot, ClockSlot, SharedState, EngineState}

-- with its slot and shared state put back, a state is what it was
pub put_back : (s : EngineState) (i : ℕ) (slot : ClockSlot) (p : SharedState) → with_slot (with_slot s i slot p) i (slot_at s i) s.shared ≡ s
put_back s i slot p =
    ap (λ (l : List ClockSlot). record { slots = l; shared = s.shared })
    (set-set s.slots i slot (slot_at s i) ∙ set-get_or s.slots i empty_slot)
