-- `replay::undo` meets its contract.
use mathlib.Core.Path.{refl, sym, ◌∙◌}
use mathlib.Core.List.{[]}
use Prim.Native.Nat.{ℕ, ◌≤◌}
use native.Mathlib.Omega.{arith}
use borrow.Author.Tests.{not-true, not-false}
use lib.ListN.{length, get_or}
use lib.Seq.{length-take-le}
use Rattle.engine.specs.StateRows.{shared_of, shared_from}
use Rattle.engine.proofs.ExecuteLaws.{cleared_journal}
use Rattle.engine.proofs.UndoneInPlace.{nothing_left, failed_left, other_left, reverted_left, applied_read}
use Rattle.engine.proofs.replay.undo.Goals as goal

pub returns-then-applied-eq0 : goal.returns-then-applied-eq0
returns-then-applied-eq0 c =
    let a = c.args in
    nothing_left a.stream.now (length a.journal.now) a.words.now a.floats.now a.journal.now _
    (applied_read a.words.now a.floats.now) c.if-applied-eq0.true _ refl

pub slice_bounds-replay_to_last-end : goal.slice_bounds-replay_to_last-end
unfolding shared_from shared_of
slice_bounds-replay_to_last-end c =
    let applied : ℕ =
    get_or (get_or c.args.words.now 160 []) 3 0 in
    let within-journal : applied ≤ length c.args.journal.now =
    c.requires.1 in
    within-journal

pub slice_bounds-replay_to_last-end-2 : goal.slice_bounds-replay_to_last-end-2
unfolding shared_from shared_of
slice_bounds-replay_to_last-end-2 c =
    let applied : ℕ =
    get_or (get_or c.args.words.now 160 []) 3 0 in
    let within-journal : applied ≤ length c.args.journal.now =
    c.requires.1 in
    sym (length-take-le _ c.args.journal.now within-journal)

pub replay_to_last-requires : goal.replay_to_last-requires
unfolding shared_from shared_of
replay_to_last-requires c =
    let applied : ℕ =
    get_or (get_or c.args.words.now 160 []) 3 0 in
    let within-journal : applied ≤ length c.args.journal.now =
    c.requires.1 in
    let k = length-take-le applied c.args.journal.now within-journal in
    (omega arith, omega (arith, c.if-applied-eq0.false))

-- ---- the applied commands are replayed

pub returns-in_default : goal.returns-in_default
returns-in_default c =
    let a = c.args in
    failed_left a.stream.now (length a.journal.now) a.words.now a.floats.now a.journal.now _
    (applied_read a.words.now a.floats.now) c.if-applied-eq0.false c.in_default.ensures.0 _ refl

pub same_state-requires : goal.same_state-requires
same_state-requires c =
    (c.in-Some.ensures.1.2, c.requires.0)

pub returns-then-not-same_state : goal.returns-then-not-same_state
returns-then-not-same_state c =
    let a = c.args in
    let last = c.replay_to_last in
    let other = sym c.same_state.ensures ∙ not-true _ c.if-not-same_state.true-raw in
    other_left a.stream.now (length a.journal.now) a.words.now a.floats.now a.journal.now _
    (applied_read a.words.now a.floats.now) c.if-applied-eq0.false c.in-Some.last last.new.words last.new.floats last.new.kept
    last.new.kept_floats c.in-Some.ensures.0 other _ refl

-- ---- the last command is taken back in the rows of the replay, which are copied

pub copy_over-requires : goal.copy_over-requires
copy_over-requires c = omega arith

pub copy_over-requires-2 : goal.copy_over-requires-2
copy_over-requires-2 c = omega arith

pub slice_bounds-clear-count : goal.slice_bounds-clear-count
unfolding shared_from shared_of
slice_bounds-clear-count c =
    let applied : ℕ =
    get_or (get_or c.args.words.now 160 []) 3 0 in
    let within-journal : applied ≤ length c.args.journal.now =
    c.requires.1 in
    let within : c.in-Some.last.place ≤ applied =
    let k = length-take-le applied c.args.journal.now within-journal in
    omega (arith, c.in-Some.ensures.1.0) in
    omega (arith, within, within-journal)

pub slice_bounds-clear-start : goal.slice_bounds-clear-start
unfolding shared_from shared_of
slice_bounds-clear-start c =
    let applied : ℕ =
    get_or (get_or c.args.words.now 160 []) 3 0 in
    let within-journal : applied ≤ length c.args.journal.now =
    c.requires.1 in
    let within : c.in-Some.last.place ≤ applied =
    let k = length-take-le applied c.args.journal.now within-journal in
    omega (arith, c.in-Some.ensures.1.0) in
    omega (arith, within, within-journal)

pub overflow_sub-applied : goal.overflow_sub-applied
unfolding shared_from shared_of
overflow_sub-applied c =
    let applied : ℕ =
    get_or (get_or c.args.words.now 160 []) 3 0 in
    let within-journal : applied ≤ length c.args.journal.now =
    c.requires.1 in
    let within : c.in-Some.last.place ≤ applied =
    let k = length-take-le applied c.args.journal.now within-journal in
    omega (arith, c.in-Some.ensures.1.0) in
    within

pub returns : goal.returns
unfolding shared_from shared_of
returns c =
    let applied : ℕ =
    get_or (get_or c.args.words.now 160 []) 3 0 in
    let within-journal : applied ≤ length c.args.journal.now =
    c.requires.1 in
    let within : c.in-Some.last.place ≤ applied =
    let k = length-take-le applied c.args.journal.now within-journal in
    omega (arith, c.in-Some.ensures.1.0) in
    let clear = c.clear in
    let a = c.args in
    let last = c.replay_to_last in
    reverted_left a.stream.now (length a.journal.now) a.words.now a.floats.now a.journal.now _
    (applied_read a.words.now a.floats.now) c.if-applied-eq0.false c.in-Some.last last.new.words last.new.floats last.new.kept
    last.new.kept_floats c.in-Some.ensures.0
    (sym c.same_state.ensures ∙ not-false _ c.if-not-same_state.false-raw)
    c.no_event.result c.no_event.ensures c.put_back.new.words c.put_back.new.floats c.put_back.ensures.0
    (c.put_back.ensures.1 c.in-Some.ensures.1.2 c.in-Some.ensures.1.3) c.copy_over.new.to c.copy_over.ensures
    c.copy_over-2.new.to c.copy_over-2.ensures _
    (cleared_journal a.stream.now a.journal.now clear.new.bytes c.in-Some.last.place applied within
    within-journal clear.ensures)
