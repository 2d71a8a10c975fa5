-- `setting::takes_cause` meets its contract: a used channel has the cause, or none has.
use mathlib.Core.Path.{sym, ◌∙◌}
use Rattle.clocks.specs.Layout.{clock_from}
use Rattle.clocks.proofs.OwnRows.{count_in}
use Rattle.clocks.proofs.SettingInPlace.{takes_held, takes_absent}
use Rattle.clocks.proofs.setting.takes_cause.Goals as goal

pub returns-in-Some : goal.returns-in-Some
returns-in-Some c =
    let a = c.args in
    λ f. takes_held (clock_from a.words.now f) a.cause (sym c.in-Some.is ∙ c.place_of_cause.ensures f)

pub returns-in-None : goal.returns-in-None
returns-in-None c =
    let a = c.args in
    let w = a.words.now in
    λ f.
    rw (← count_in w f)
    (takes_absent (clock_from w f) a.cause (sym c.in-None.is ∙ c.place_of_cause.ensures f))
