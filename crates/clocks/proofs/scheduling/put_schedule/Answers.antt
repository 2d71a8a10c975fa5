-- `scheduling::put_schedule` meets its contract: the flags are stored as words.
use native.Mathlib.Omega.{arith}
use Rattle.clocks.specs.Layout.{Sized}
use Rattle.clocks.proofs.ScheduleStores.{schedule_put}
use Rattle.clocks.proofs.scheduling.put_schedule.Goals as goal

pub returns : goal.returns
returns c =
    let a = c.args in
    let sized : Sized a.words.now a.floats.now = record { words = omega arith; floats = omega arith } in
    rw (c.from-3.ensures, c.from-2.ensures, c.from.ensures)
    (schedule_put a.words.now a.floats.now sized a.event a.winner a.active a.last_update (omega arith)
    (omega (arith, c.well_formed)))
