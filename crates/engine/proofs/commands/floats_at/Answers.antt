-- `commands::floats_at` meets its contract.
use Rattle.engine.proofs.commands.floats_at.Goals as goal

pub returns : goal.returns
returns c =
    rw (
      c.f64_at.ensures,
      c.f64_at-2.ensures,
      c.f64_at-3.ensures,
      c.f64_at-4.ensures,
      c.f64_at-5.ensures,
      c.f64_at-6.ensures,
      c.f64_at-7.ensures,
      c.f64_at-8.ensures,
    )
