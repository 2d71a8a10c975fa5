-- Before a batch run's first command: the buffers that it can use, and the journal that opening leaves.
use mathlib.Core.Path.{◌≡◌, sym, ◌∙◌, ap}
use mathlib.Core.Bool.{Bool, true, false, cond, ◌&&◌}
use mathlib.Core.List.{◌++◌, append-nil}
use Prim.Native.Nat.{ℕ, ◌%◌, min}
use native.Mathlib.Omega.{arith}
use borrow.Author.Tests.{eqb-true}
use lib.Dec.{eqb}
use lib.ListN.{length, drop, replicate, drop_of_length-le}
use Rattle.hazards.proofs.Cases.{both_true}
use Rattle.engine.specs.Journal.{cleared_front}
use Rattle.engine.specs.Refusals.{bad_buffers}
use Rattle.engine.specs.Engine.{Bytes}
use Rattle.engine.specs.Run.{run_of, ran}
use Rattle.engine.specs.RunInternals.{opened_run}

pub journal_opened : (j : Bytes) → cleared_front j (length j) ≡ replicate (length j) 0
unfolding cleared_front
journal_opened j =
    let m : min (length j) (length j) ≡ length j = omega arith in
    ap (λ (k : ℕ). replicate k 0 ++ drop k j) m
    ∙ ap (λ (x : Bytes). replicate (length j) 0 ++ x) (drop_of_length-le j {i = length j} (omega arith))
    ∙ append-nil (replicate (length j) 0)

module _ (commands stream j answers r : Bytes) where
  abbrev usable : Bool
  usable = eqb (length stream % 8) 0 && eqb (length r) 16

  pub usable_result : usable ≡ true → length r ≡ 16
  usable_result e = eqb-true (length r) 16 (both_true (eqb (length stream % 8) 0) (eqb (length r) 16) e).1

  pub run_unusable : usable ≡ false → ran bad_buffers j answers r ≡ run_of commands stream j answers r
  unfolding run_of
  run_unusable e = ap (λ (b : Bool). cond b (opened_run commands stream (length j) answers) (ran bad_buffers j answers r)) (sym e)

  pub run_opens : usable ≡ true → opened_run commands stream (length j) answers ≡ run_of commands stream j answers r
  unfolding run_of
  run_opens e = ap (λ (b : Bool). cond b (opened_run commands stream (length j) answers) (ran bad_buffers j answers r)) (sym e)
