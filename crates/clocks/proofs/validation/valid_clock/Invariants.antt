-- `validation::valid_clock` meets its contract: at each turn the channels from j on, their causes from `least` on, pass where all do.
use mathlib.Core.Path.{◌≡◌}
use lib.ListN.{drop}
use Rattle.clocks.specs.Clocks.{used_channels}
use Rattle.clocks.specs.Layout.{clock_from}
use Rattle.clocks.proofs.ValidRows.{channels_pass}
use Rattle.clocks.proofs.validation.valid_clock.Given as goal

abbrev pub invariant-loop-j : goal.invariant-loop-j
invariant-loop-j l =
    channels_pass l.least (drop l.j (used_channels (clock_from l.words l.floats))) ≡ channels_pass 0 (used_channels (clock_from l.words l.floats))
