-- `answers::head_word` meets its contract: the bytes of the word are the number and the three flags.
use Prim.Native.Nat.{◌+◌, ◌*◌}
use mathlib.Core.Path.{◌≡◌, refl}
use native.Mathlib.Nat.{mod-eq_of_lt}
use native.Mathlib.Omega.{arith}
use Rattle.hazards.specs.Answers.{head_bytes}
use Rattle.hazards.specs.Fields.{bytes_of}
use Rattle.hazards.proofs.AnswerBytes.{bytes-cons, flag_is}
use Rattle.hazards.proofs.answers.head_word.Goals as goal

pub returns : goal.returns
unfolding head_bytes bytes_of
returns c =
    let a = c.args.answer in
    let e = c.from.result in
    let k = c.from-2.result in
    let w = c.from-3.result in
    let word : c.from_le_bytes.result ≡ a.number + 256 * (e + 256 * (k + 256 * w)) = omega (arith, c.from_le_bytes.ensures) in
    rw (
      word,
      bytes-cons 3 a.number (e + 256 * (k + 256 * w)) (omega arith),
      bytes-cons 2 e (k + 256 * w) (omega arith),
      bytes-cons 1 k w (omega arith),
      mod-eq_of_lt c.from-3.type_inv,
      c.from.ensures,
      c.from-2.ensures,
      c.from-3.ensures,
      flag_is a.event,
      flag_is a.censored,
      flag_is a.withdrawn,
    )
    refl
