-- `validation::valid_clock` meets its contract: at each turn the channels from j on, their causes from `least` on, pass where all do.
use mathlib.Core.Path.{sym, ◌∙◌}
use borrow.Author.Tests.{not-true, not-false}
use Rattle.clocks.specs.Layout.{channel_from}
use Rattle.clocks.proofs.PlaceRows.{channel_next, channel_end}
use Rattle.clocks.proofs.ValidRows.{channels_next, channels_fail, channels_none, clock_over, clock_fails, clock_rest}
use native.Mathlib.Omega.{arith}
use Rattle.clocks.proofs.validation.valid_clock.Goals as goal

pub returns-then-used-gt8 : goal.returns-then-used-gt8
returns-then-used-gt8 c = let a = c.args in sym (clock_over a.words.now a.floats.now c.if-used-gt8.true)

pub returns-then-not-valid_channel-least : goal.returns-then-not-valid_channel-least
unfolding channel_from
returns-then-not-valid_channel-least c =
    let a = c.args in
    let w = a.words.now in
    let f = a.floats.now in
    let next = channel_next w f c.loop-j.j (omega arith) in
    let above = c.cause_above-above.ensures in
    let fails = channels_fail c.loop-j.least next c.valid_channel.ensures above (not-true _ c.if-not-valid_channel-least.true-raw) in
    sym (clock_fails w f c.if-used-gt8.false (sym c.loop-j.invariant ∙ fails))

pub loop-j-preserved : goal.loop-j-preserved
unfolding channel_from
loop-j-preserved c =
    let a = c.args in
    let next = channel_next a.words.now a.floats.now c.loop-j.j (omega arith) in
    let above = c.cause_above-above.ensures in
    let passes = channels_next c.loop-j.least next c.valid_channel.ensures above (not-false _ c.if-not-valid_channel-least.false-raw) in
    sym passes ∙ c.loop-j.invariant

pub returns : goal.returns
returns c =
    let a = c.args in
    let w = a.words.now in
    let f = a.floats.now in
    let none = channels_none c.loop-j.least (channel_end w f c.loop-j.j (omega arith)) in
    c.valid_times.ensures ∙ sym (clock_rest w f c.if-used-gt8.false (sym c.loop-j.invariant ∙ none))
