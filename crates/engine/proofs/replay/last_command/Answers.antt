-- `replay::last_command` meets its contract: at each turn, what is left of a replay that ends is known from the place after the last
-- command.
use mathlib.Core.Path.{◌≡◌, refl, sym, ap, ◌∙◌}
use mathlib.Core.List.{List}
use Prim.Native.Nat.{ℕ, ◌+◌, ◌<◌, ◌≤◌}
use native.Mathlib.Omega.{arith}
use borrow.Author.Rules.{rules}
use borrow.Author.Tests.{ltb-true, ltb-false}
use lib.Dec.{ltb}
use lib.ListN.{length, drop, length-drop}
use Rattle.hazards.proofs.Cases.{by_test}
use Rattle.hazards.proofs.RefusalLaws.{number_not_zero}
use Rattle.engine.specs.Commands.{width_of, front_refusal}
use Rattle.engine.specs.Engine.{code}
use Rattle.engine.specs.Instance.{engine_of}
use Rattle.engine.proofs.JournalBytes.{part-all}
use Rattle.engine.proofs.RunStops.{end_whole}
use Rattle.engine.proofs.FrontRefusals.{BeginsWhole}
use Rattle.engine.proofs.ReplayLaws.{begins}
use Rattle.engine.proofs.ReplaySteps.{rest_begins, rest_front, rest_goes_on, rest_ends}
use Rattle.engine.proofs.replay.last_command.Goals as goal

pub loop-command-init : goal.loop-command-init
loop-command-init c = (search rules, search rules, λ stream n s before l e. rest_begins (engine_of stream n) _ s before l e)

-- ---- what is left begins with a whole command

pub overflow_add-at : goal.overflow_add-at
overflow_add-at c =
    let bytes : List ℕ =
    c.args.bytes.now in
    let front = rw (part-all bytes c.loop-command.at) at c.in-Ok.ensures in
    let whole : BeginsWhole (drop c.loop-command.at bytes) =
    begins (drop c.loop-command.at bytes) 0 front.0 refl in
    let more : c.loop-command.at < length bytes =
    omega (arith, whole.some, length-drop c.loop-command.at bytes) in
    let wide : c.width-at.result ≡ width_of (code (drop c.loop-command.at bytes)) =
    c.width-at.ensures.0 ∙ ap width_of front.1.0 in
    let fits : c.loop-command.at + c.width-at.result ≤ length bytes =
    omega (arith, more, wide, whole.long, length-drop c.loop-command.at bytes) in
    let h = fits in search rules

pub loop-command-smaller : goal.loop-command-smaller
loop-command-smaller c =
    let bytes : List ℕ =
    c.args.bytes.now in
    let front = rw (part-all bytes c.loop-command.at) at c.in-Ok.ensures in
    let whole : BeginsWhole (drop c.loop-command.at bytes) =
    begins (drop c.loop-command.at bytes) 0 front.0 refl in
    let more : c.loop-command.at < length bytes =
    omega (arith, whole.some, length-drop c.loop-command.at bytes) in
    let wide : c.width-at.result ≡ width_of (code (drop c.loop-command.at bytes)) =
    c.width-at.ensures.0 ∙ ap width_of front.1.0 in
    let fits : c.loop-command.at + c.width-at.result ≤ length bytes =
    omega (arith, more, wide, whole.long, length-drop c.loop-command.at bytes) in
    omega (arith, fits, wide, whole.wide)

pub loop-command-preserved : goal.loop-command-preserved
loop-command-preserved c =
    let bytes : List ℕ =
    c.args.bytes.now in
    let front = rw (part-all bytes c.loop-command.at) at c.in-Ok.ensures in
    let whole : BeginsWhole (drop c.loop-command.at bytes) =
    begins (drop c.loop-command.at bytes) 0 front.0 refl in
    let more : c.loop-command.at < length bytes =
    omega (arith, whole.some, length-drop c.loop-command.at bytes) in
    let wide : c.width-at.result ≡ width_of (code (drop c.loop-command.at bytes)) =
    c.width-at.ensures.0 ∙ ap width_of front.1.0 in
    let fits : c.loop-command.at + c.width-at.result ≤ length bytes =
    omega (arith, more, wide, whole.long, length-drop c.loop-command.at bytes) in
    let l = c.loop-command in (
      omega (arith, more),
      fits,
      λ stream n s before k e.
          rest_goes_on (engine_of stream n) bytes s before k l.place l.at (l.invariant.2 stream n s before k e) more
          c.width-at.result wide,
    )

-- ---- no command is left

pub returns : goal.returns
returns c =
    let bytes : List ℕ =
    c.args.bytes.now in
    let l = c.loop-command in (
      l.invariant.0,
      λ stream n s before k e.
          let rest = l.invariant.2 stream n s before k e in
          by_test (ltb l.at (length bytes))
          (λ q.
          let more = ltb-true l.at (length bytes) q in
          let f = rest_front (engine_of stream n) bytes s before k l.place l.at rest more in
          let some : 0 < length (drop l.at bytes) = omega (arith, more, length-drop l.at bytes) in
          absurd
          (number_not_zero _
          (c.in_default.ensures.0 ∙ ap front_refusal (part-all bytes l.at) ∙ sym (end_whole (drop l.at bytes) some f.wide f.long))))
          (λ q. rest_ends (engine_of stream n) _ s before k l.place l.at rest (ltb-false l.at (length bytes) q)),
    )
