-- `validation::clock_coded` meets its contract.
use mathlib.Core.Path.{sym, ◌∙◌}
use Rattle.clocks.specs.Layout.{coded_clock}
use Rattle.clocks.proofs.validation.clock_coded.Goals as goal

pub returns-then-times_coded : goal.returns-then-times_coded
unfolding coded_clock
returns-then-times_coded c =
    rw (
      sym c.settings_coded.ensures ∙ c.if-settings_coded.true,
      sym c.schedule_coded.ensures ∙ c.if-schedule_coded.true,
      sym c.times_coded.ensures ∙ c.if-times_coded.true,
      c.channels_coded.ensures,
    )

pub returns-else-times_coded : goal.returns-else-times_coded
unfolding coded_clock
returns-else-times_coded c =
    rw (
      sym c.settings_coded.ensures ∙ c.if-settings_coded.true,
      sym c.schedule_coded.ensures ∙ c.if-schedule_coded.true,
      sym c.times_coded.ensures ∙ c.if-times_coded.false,
    )
    c.if-times_coded.false

pub returns-else-schedule_coded : goal.returns-else-schedule_coded
unfolding coded_clock
returns-else-schedule_coded c =
    rw (sym c.settings_coded.ensures ∙ c.if-settings_coded.true, sym c.schedule_coded.ensures ∙ c.if-schedule_coded.false)
    c.if-schedule_coded.false

pub returns-else-settings_coded : goal.returns-else-settings_coded
unfolding coded_clock
returns-else-settings_coded c = rw (sym c.settings_coded.ensures ∙ c.if-settings_coded.false) c.if-settings_coded.false
