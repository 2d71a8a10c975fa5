-- `setting::set_again` meets its contract: the threshold is kept, or the draw is refused, or it is taken.
use borrow.Author.Tests.{not-true, not-false}
use lib.Ieee.{of_bits}
use Rattle.std.proofs.Common.{rules}
use Rattle.clocks.proofs.SettingInPlace.{kept_in_place, refused_in_place, drawn_in_place}
use Rattle.clocks.proofs.setting.set_again.Goals as goal

pub returns-then-not-draws_again : goal.returns-then-not-draws_again
returns-then-not-draws_again c =
    let a = c.args in
    kept_in_place a.words.now a.floats.now a.setting a.stream.now a.position a.at c.requires c.channel_at-old.ensures
    (rw c.byte_from.ensures at c.from-policy.ensures)
    c.settled_hazard-accumulated.ensures
    c.draws_again.ensures _ _ _ c.put_channel.ensures
    (not-true _ c.if-not-draws_again.true-raw)
    c.channel_of-kept.ensures

pub returns-in_err-drawn : goal.returns-in_err-drawn
returns-in_err-drawn c =
    let a = c.args in
    let e =
    refused_in_place a.words.now a.floats.now a.setting a.stream.now a.position a.at c.requires
    c.channel_at-old.ensures
    (rw c.byte_from.ensures at c.from-policy.ensures)
    c.settled_hazard-accumulated.ensures
    c.draws_again.ensures c.in_err-drawn.field-0.0 (not-false _ c.if-not-draws_again.false-raw) c.in_err-drawn.ensures in
    search (rules, e)

pub returns : goal.returns
unfolding of_bits
returns c =
    let a = c.args in
    drawn_in_place a.words.now a.floats.now a.setting a.stream.now a.position a.at c.requires c.channel_at-old.ensures
    (rw c.byte_from.ensures at c.from-policy.ensures)
    c.settled_hazard-accumulated.ensures
    c.draws_again.ensures _ _ _ c.put_channel-2.ensures c.in_ok-drawn.drawn
    (not-false _ c.if-not-draws_again.false-raw) c.in_ok-drawn.ensures
    c.channel_of-fresh.ensures
