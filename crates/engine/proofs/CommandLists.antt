-- Whole commands and lists of them, over any engine: what the applied commands are.
use Prim.Native.Nat.{◌<◌}
use mathlib.Core.Path.{◌≡◌}
use mathlib.Core.List.{List, [], ◌∷◌}
use lib.ListN.{length}
use Rattle.engine.specs.Commands as commands
use Rattle.engine.specs.Engine.{Bytes, Engine, code}

module _ (E : Engine) where
  -- a whole command but UNDO, cut to its width
  pub record Whole (c : Bytes) : Type 0 where
    pub len : length c ≡ E.width (code c)
    pub pos : 0 < length c
    pub other : code c ≡ commands.undo → ⊥

  abbrev pub AllWhole : List Bytes → Type 0
  AllWhole [] = Unit {0}
  AllWhole (c ∷ cs) = Whole c × AllWhole cs
