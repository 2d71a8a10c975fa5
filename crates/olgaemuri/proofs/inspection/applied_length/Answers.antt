-- `inspection::applied_length` meets its contract.
use borrow.Author.Tests.{eq-eqb, le-leb, lt-leb}
use Rattle.engine.specs.StateRows.{shared_of, shared_from}
use Rattle.olgaemuri.specs.Inspection.{applied_of}
use Rattle.olgaemuri.proofs.Inspected.{no_length}
use Rattle.olgaemuri.proofs.inspection.applied_length.Goals as goal

pub returns-in_default : goal.returns-in_default
returns-in_default c = no_length c.args.words.now c.args.journal_length c.in_default.ensures.cases

pub returns-then-bytes-journal_length : goal.returns-then-bytes-journal_length
unfolding applied_of shared_from shared_of
returns-then-bytes-journal_length c =
    let whole = c.in-Some.ensures.cases in
    let past = rw whole.same at c.if-bytes-journal_length.true in
    rw (eq-eqb _ 177 whole.long, lt-leb _ _ past)

pub returns : goal.returns
unfolding applied_of shared_from shared_of
returns c =
    let whole = c.in-Some.ensures.cases in
    let within = rw whole.same at c.if-bytes-journal_length.false in
    rw (whole.same, eq-eqb _ 177 whole.long, le-leb _ _ within)
