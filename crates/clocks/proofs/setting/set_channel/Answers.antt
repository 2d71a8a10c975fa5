-- `setting::set_channel` meets its contract: a used channel has the cause, or none has.
use mathlib.Core.Path.{sym, ◌∙◌}
use native.Mathlib.Omega.{arith}
use Rattle.clocks.specs.Layout.{clock_from}
use Rattle.clocks.proofs.PlaceRows.{place_used}
use Rattle.clocks.proofs.SettingCases.{set-held, set-absent}
use Rattle.clocks.proofs.setting.set_channel.Goals as goal

pub set_again-requires : goal.set_again-requires
set_again-requires c =
    let w = c.args.words.now in
    let f = c.args.floats.now in
    let h = place_used w f c.args.setting.cause_id (sym (c.place_of_cause.ensures f) ∙ c.in-Some.is) in
    omega arith

pub returns-in-Some : goal.returns-in-Some
returns-in-Some c =
    let a = c.args in
    let f = a.floats.now in
    let place = sym c.in-Some.is ∙ c.place_of_cause.ensures f in
    rw (set-held (clock_from a.words.now f) a.setting a.stream.now a.position place) at c.set_again.ensures

pub returns-in-None : goal.returns-in-None
returns-in-None c =
    let a = c.args in
    let f = a.floats.now in
    let place = sym c.in-None.is ∙ c.place_of_cause.ensures f in
    rw (set-absent (clock_from a.words.now f) a.setting a.stream.now a.position place) at c.set_new.ensures
