-- `opening::open` meets its contract: the sizes first, then the rows and the journal.
use mathlib.Core.Path.{refl, sym, ◌∙◌}
use mathlib.Core.Bool.{true≢false}
use Rattle.engine.proofs.RunOpening.{journal_opened}
use Rattle.engine.proofs.SizedRows.{sizes_there, words_amiss, floats_amiss}
use Rattle.engine.proofs.opening.open.Goals as goal

pub returns-in_default : goal.returns-in_default
returns-in_default c =
    let a = c.args in
    let no = words_amiss a.words.now a.floats.now c.in_default.ensures.cases in (
      λ h. absurd (true≢false (sym h ∙ no)),
      λ h. (refl, record { words = refl; floats = refl; journal = refl }),
    )

pub returns-in_default-as_mut_array : goal.returns-in_default-as_mut_array
returns-in_default-as_mut_array c =
    let a = c.args in
    let no = floats_amiss a.words.now a.floats.now c.in_default-as_mut_array.ensures.cases in (
      λ h. absurd (true≢false (sym h ∙ no)),
      λ h. (refl, record { words = c.in-Some.ensures.cases.same; floats = refl; journal = refl }),
    )

pub returns : goal.returns
returns c =
    let a = c.args in
    let words = c.in-Some.ensures.cases in
    let floats = c.in-Some-as_mut_array.ensures.cases in
    let yes = sizes_there a.words.now a.floats.now words.long floats.long in (
      λ h. record {
        accepted = refl;
        state = c.open_state.ensures.0;
        coded = c.open_state.ensures.1;
        journal = c.clear.ensures ∙ journal_opened a.journal.now;
      },
      λ h. absurd (true≢false (sym yes ∙ h)),
    )
