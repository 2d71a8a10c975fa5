-- `setting::set_new` meets its contract: a ninth cause, a draw that is refused, and one that is taken.
use mathlib.Core.Path.{refl}
use native.Mathlib.Omega.{arith}
use lib.Ieee.{of_bits}
use Rattle.std.proofs.Common.{rules}
use Rattle.hazards.proofs.RefusalLaws.{number_not_zero}
use Rattle.hazards.specs.declared.refusals.Refusal.TheVariants.{TooManyCauses}
use Rattle.clocks.specs.Clocks.{used_channels}
use Rattle.clocks.specs.Layout.{clock_from}
use Rattle.clocks.proofs.OwnRows.{count_in}
use Rattle.clocks.proofs.PlaceRows.{used_rows}
use Rattle.clocks.proofs.Places.{new_most}
use Rattle.clocks.proofs.SettingCases.{new_ninth, new_refused, new_drawn}
use Rattle.clocks.proofs.SettingInPlace.{set-leaves, refused-leaves}
use Rattle.clocks.proofs.setting.set_new.Goals as goal

pub returns-then-words-ge8 : goal.returns-then-words-ge8
returns-then-words-ge8 c =
    let a = c.args in
    let w = a.words.now in
    let f = a.floats.now in
    refused-leaves w f a.position TooManyCauses
    (new_ninth (clock_from w f) a.setting a.stream.now a.position (rw (count_in w f) c.if-words-ge8.true))

pub returns-in_err-drawn : goal.returns-in_err-drawn
returns-in_err-drawn c =
    let a = c.args in
    let w = a.words.now in
    let f = a.floats.now in
    let refusal = c.in_err-drawn.field-0.0 in
    let e =
    refused-leaves w f a.position refusal
    (new_refused (clock_from w f) a.setting a.stream.now a.position (rw (count_in w f) c.if-words-ge8.false)
    c.in_err-drawn.ensures (number_not_zero refusal)) in
    search (rules, e)

pub insert_channel-requires : goal.insert_channel-requires
insert_channel-requires c =
    let w = c.args.words.now in
    let f = c.args.floats.now in
    let most = new_most c.args.setting.cause_id (used_channels (clock_from w f)) in
    let place = c.place_for_new-at.ensures f in
    let used = used_rows w f in
    let count = count_in w f in
    let few = c.if-words-ge8.false in
    (omega arith, omega arith)

pub returns : goal.returns
unfolding of_bits
returns c =
    let a = c.args in
    let w = a.words.now in
    let f = a.floats.now in
    set-leaves a.position c.in_ok-drawn.drawn.position.next
    (new_drawn (clock_from w f) a.setting a.stream.now a.position (rw (count_in w f) c.if-words-ge8.false)
    c.in_ok-drawn.ensures refl c.channel_of-channel.ensures (c.place_for_new-at.ensures f) refl)
    refl c.insert_channel.ensures
