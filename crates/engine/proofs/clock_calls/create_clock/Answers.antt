-- `clock_calls::create_clock` meets its contract.
use mathlib.Core.Path.{◌∙◌}
use Rattle.engine.proofs.EventOptions.{clock_named}
use Rattle.engine.proofs.clock_calls.create_clock.Goals as goal

pub returns : goal.returns
returns c =
    let e = c.create.ensures in (
      (rw (
        c.then_some-entity.ensures,
        c.f64_at.ensures,
        c.u64_at-2.ensures,
        c.from-tie.ensures,
        c.byte_at-3.ensures,
        c.from-policy.ensures,
        c.byte_at-2.ensures,
        c.byte_at.ensures,
        c.u32_at.ensures,
        c.u64_at.ensures,
      ) at e.0)
          ∙ clock_named _ _ _ _ _ _,
      e.1,
      e.2,
    )
