-- `clock_calls::set_in` meets its contract: rows that come back as they were are put back as they were.
use mathlib.Core.Path.{◌∙◌, ap}
use Prim.Native.Nat.{◌*◌}
use borrow.Rule.Slice.PartMut.{put_mid, put_same}
use native.Mathlib.Omega.{arith}
use Rattle.engine.specs.StateRows.{SizedState}
use Rattle.std.proofs.lemmas.Result.{on_err_weaker}
use Rattle.clocks.specs.Layout.{WordRows, FloatRows}
use Rattle.clocks.specs.Setting.{set_channel}
use Rattle.clocks.specs.RowsInternals.{channel_draw}
use Rattle.clocks.specs.Clocks.{SurvivalClock}
use Rattle.clocks.proofs.RowLaws.{leaves_as}
use Rattle.engine.specs.StateRows.{shared_of, shared_from}
use Rattle.engine.proofs.CommandsInPlace.{words_lent, floats_lent, clock_left, clock_there}
use Rattle.engine.proofs.clock_calls.set_in.Goals as goal

pub returns : goal.returns
unfolding shared_from shared_of
returns c =
    let call = c.set_rows in
    let a = c.args in
    let w = a.words.now in
    let f = a.floats.now in
    let sized : SizedState w f = record { words = omega arith; floats = omega arith } in
    let k = a.clock in
    let position = (shared_from w).position in
    let there = clock_there w f k c.requires in (
      clock_left w f k c.requires sized call.new.words call.new.floats call.auto.words call.auto.floats _
          (leaves_as call.ensures.0
          (ap (λ (x : SurvivalClock). (set_channel x a.setting a.stream.now position).clock) there)),
      call.ensures.1 ∙ ap (λ (x : SurvivalClock). channel_draw (set_channel x a.setting a.stream.now position)) there,
      on_err_weaker call.result
          (λ n. (
            ap (λ (z : WordRows). put_mid (10 * k) (words_lent k) w z) n.0 ∙ put_same (10 * k) (words_lent k) w,
            ap (λ (y : FloatRows). put_mid (25 * k) (floats_lent k) f y) n.1 ∙ put_same (25 * k) (floats_lent k) f,
          ))
          call.ensures.2,
    )
