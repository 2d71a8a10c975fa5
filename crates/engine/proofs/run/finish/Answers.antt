-- `run::finish` meets its contract.
use mathlib.Core.List.{List}
use mathlib.Core.Path.{ap, ◌∙◌}
use Prim.Native.Nat.{ℕ}
use Rattle.hazards.specs.Fields.{with_field}
use Rattle.engine.proofs.RunStops.{result_written}
use Rattle.engine.proofs.run.finish.Goals as goal

pub returns : goal.returns
returns c =
    let a = c.args in
    c.put_u64-2.ensures
    ∙ ap (λ (x : List ℕ). with_field 8 x 8 a.read) c.put_u64.ensures
    ∙ result_written a.res.now a.answered a.read c.requires
