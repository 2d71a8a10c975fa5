-- `run::answer_command` meets its contract.
use mathlib.Core.Path.{refl, ◌∙◌, ap}
use Prim.Native.Nat.{ℕ}
use native.Mathlib.Omega.{arith}
use lib.ListN.{length}
use Rattle.engine.specs.Refusals.{answer_from}
use Rattle.engine.specs.RunInternals.{answer_at}
use Rattle.engine.specs.StateRows.{shared_of, shared_from}
use Rattle.engine.proofs.TriedInPlace.{numbered, tried_fits}
use Rattle.engine.proofs.run.answer_command.Goals as goal

pub answer_at-requires : goal.answer_at-requires
unfolding shared_from shared_of
answer_at-requires c ok =
    let a = c.args in
    tried_fits a.stream.now (length a.journal.now) a.words.now a.floats.now a.command.now c.perform-outcome.new.words
    c.perform-outcome.new.floats c.perform-outcome.result c.perform-outcome.ensures ok

pub returns : goal.returns
unfolding shared_from shared_of
returns c =
    let a = c.args in
    let did = c.perform-outcome in
    record {
      answer = answer_from did.result;
      performs = did.ensures.0;
      written =
          c.answer_at.ensures
          ∙ ap
          (λ (m : ℕ).
          answer_at m (answer_from did.result) (shared_from a.words.now).applied_length a.journal.now a.answers.now a.place
          a.command.now)
          (numbered did.result did.ensures);
      counted = refl;
    }
