-- `opening::open_state` meets its contract.
use mathlib.Core.Path.{◌≡◌, ◌∙◌, ap}
use mathlib.Core.List.{List}
use Prim.Native.Nat.{ℕ}
use lib.Ieee.{of_bits}
use lib.ListN.{length, replicate}
use native.Mathlib.Omega.{arith}
use Rattle.std.proofs.lemmas.List.Elements.{same_from_all_zip}
use Rattle.clocks.proofs.ClearedRows.{zero_words, zero_floats}
use Rattle.engine.proofs.OpenedRows.{rows_opened, rows_coded}
use Rattle.engine.proofs.opening.open_state.Goals as goal

pub put_scales-requires : goal.put_scales-requires
unfolding of_bits
put_scales-requires c =
    let sized : length c.args.floats.now ≡ 400 = omega arith in
    c.fill-2.ensures.after (λ y h. same_from_all_zip _ zero_floats y h.whole (λ a b e. e))
    ∙ ap (λ (n : ℕ). replicate n zero_floats) sized

pub returns : goal.returns
returns c =
    let words = c.fill in
    let sized : length c.args.words.now ≡ 177 = omega arith in
    let floats = c.put_scales in
    let zeros : words.new.self ≡ replicate 177 zero_words =
    words.ensures.after (λ y h. same_from_all_zip _ zero_words y h.whole (λ a b e. e))
    ∙ ap (λ (n : ℕ). replicate n zero_words) sized in (
      rows_opened words.new.self floats.new.floats zeros floats.ensures,
      rows_coded words.new.self floats.new.floats zeros floats.ensures,
    )
