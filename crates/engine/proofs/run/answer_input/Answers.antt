-- `run::answer_input` meets its contract: what is left of the run after the input gives what it gave before.
use mathlib.Core.List.{List}
use mathlib.Core.Path.{◌≡◌, sym, ap, ap₂, ◌∙◌, subst}
use mathlib.Core.Bool.{true, false, cond}
use Prim.Native.Nat.{ℕ, ◌+◌, ◌*◌, ◌<◌, ◌≤◌, ◌^◌}
use native.Mathlib.Omega.{arith}
use lib.Dec.{eqb}
use lib.ListN.{length, get_or, drop, length-drop}
use lib.Seq.{length-take-le}
use Rattle.hazards.specs.Answers.{answer_width, no_event, with_answer}
use Rattle.engine.specs.Refusals.{nothing_applied}
use Rattle.engine.specs.Commands as commands
use Rattle.engine.specs.Commands.{code_of, width_of}
use Rattle.engine.specs.Engine.{code}
use Rattle.engine.specs.Instance.{engine_of}
use Rattle.engine.specs.StateRows.{state_from, SizedState}
use Rattle.engine.specs.ExecutionInternals.{Ready}
use Rattle.engine.specs.RunInternals.{is_undone, rest_of_run}
use Rattle.engine.specs.State.{EngineState}
use Rattle.engine.proofs.CommandCodes.{decoded, reads}
use Rattle.engine.proofs.FrontCommands.{undo_code}
use Rattle.engine.proofs.CommandLists.{Whole}
use Rattle.engine.proofs.JournalBytes.{rest_of, part_of, code_at}
use Rattle.engine.proofs.PerformedInPlace.{shared_read}
use Rattle.engine.proofs.ReadyStates.{sound_ready}
use Rattle.engine.proofs.RunReverts.{undone_within, undone_room}
use Rattle.engine.proofs.RunTurns.{Input, running_sound, input_fits, command_whole}
use Rattle.engine.proofs.RunCommands.{goes_on_command, goes_on_undone, goes_on_refused}
use Rattle.engine.proofs.RunUndos.{replayed_current, next_deferred}
use Rattle.engine.proofs.OngoingRuns.{ongoing_input, input_answered}
use Rattle.engine.proofs.run.answer_input.Goals as goal
use Rattle.engine.proofs.run.answer_input.Goals.{then-p, else-p}

pub bounds-commands-at : goal.bounds-commands-at
bounds-commands-at c =
    let there = c.requires.1 in
    omega (arith, there.wide, there.long, length-drop c.args.p.read c.args.commands.now)

pub unwrap-input-requires : goal.unwrap-input-requires
unwrap-input-requires c =
    let there = c.requires.1 in
    reads _ c.try_from.result c.try_from.ensures (rw (code_at c.args.commands.now c.args.p.read) at there.wide)

pub overflow_add-end : goal.overflow_add-end
overflow_add-end c =
    let bytes : List ℕ = c.args.commands.now in
    let place : ℕ = c.args.p.read in
    let bound : length c.args.journal.now < 2 ^ 63 = omega arith in
    let here = ongoing_input _ _ c.requires.0 bound c.requires.1 in
    let code_is : code (drop place bytes) ≡ get_or bytes place 0 = code_at bytes place in
    let read = decoded _ c.unwrap-input.result c.try_from.ensures c.unwrap-input.ensures in
    let wide : c.width.result ≡ width_of (code (drop place bytes)) = c.width.ensures.0 ∙ ap width_of (read ∙ sym code_is) in
    let fits : (0 < c.width.result) × (place + c.width.result ≤ length bytes) = input_fits _ _ _ _ _ here c.width.result wide in
    omega (arith, fits.1)

-- ---- UNDO

pub revert-requires : goal.revert-requires
revert-requires c =
    let bound : length c.args.journal.now < 2 ^ 63 = omega arith in
    let here = ongoing_input _ _ c.requires.0 bound c.requires.1 in
    let running = running_sound _ _ _ _ _ here.running in
    let within_journal : c.args.p.applied ≤ length c.args.journal.now = omega (arith, running.applied, c.requires.0.applied) in
    within_journal

pub returns-in-Undo : goal.returns-in-Undo
returns-in-Undo c b =
    let bytes : List ℕ = c.args.commands.now in
    let place : ℕ = c.args.p.read in
    let bound : length c.args.journal.now < 2 ^ 63 = omega arith in
    let here = ongoing_input _ _ b bound c.requires.1 in
    let code_is : code (drop place bytes) ≡ get_or bytes place 0 = code_at bytes place in
    let read = decoded _ c.unwrap-input.result c.try_from.ensures c.unwrap-input.ensures in
    let wide : c.width.result ≡ width_of (code (drop place bytes)) = c.width.ensures.0 ∙ ap width_of (read ∙ sym code_is) in
    let fits : (0 < c.width.result) × (place + c.width.result ≤ length bytes) = input_fits _ _ _ _ _ here c.width.result wide in
    let a = c.args in
    let undo_answer : c.answer_from.result ≡ no_event (cond (eqb a.p.applied 0) nothing_applied 0) =
    c.answer_from.ensures ∙ c.undone.ensures in
    let reverted = c.revert in
    input_answered _ _ b.state
    (next_deferred _ _ _ _ _ here c.width.result wide (code_is ∙ (sym read ∙ ap code_of c.in-Undo.is))
    a.p.applied b.applied reverted.ensures.0 reverted.ensures.1 (omega arith) (omega arith)
    (state_from a.words.now a.floats.now) (c.put_answer.ensures ∙ ap (with_answer _ _) undo_answer))
    (omega (arith, fits.0))

-- ---- another command: a stale state is replayed first

pub slice_bounds-replay-end : goal.slice_bounds-replay-end
slice_bounds-replay-end c =
    let bound : length c.args.journal.now < 2 ^ 63 = omega arith in
    let here = ongoing_input _ _ c.requires.0 bound c.requires.1 in
    let running = running_sound _ _ _ _ _ here.running in
    let within_journal : c.args.p.applied ≤ length c.args.journal.now = omega (arith, running.applied, c.requires.0.applied) in
    within_journal

pub slice_bounds-replay-end-then-p : goal.slice_bounds-replay-end-then-p
slice_bounds-replay-end-then-p c =
    let bound : length c.args.journal.now < 2 ^ 63 = omega arith in
    let here = ongoing_input _ _ c.requires.0 bound c.requires.1 in
    let running = running_sound _ _ _ _ _ here.running in
    let within_journal : c.args.p.applied ≤ length c.args.journal.now = omega (arith, running.applied, c.requires.0.applied) in
    sym (length-take-le _ c.args.journal.now within_journal)

pub slice_bounds-command-end : goal.slice_bounds-command-end
slice_bounds-command-end c =
    let bytes : List ℕ = c.args.commands.now in
    let place : ℕ = c.args.p.read in
    let bound : length c.args.journal.now < 2 ^ 63 = omega arith in
    let here = ongoing_input _ _ c.requires.0 bound c.requires.1 in
    let code_is : code (drop place bytes) ≡ get_or bytes place 0 = code_at bytes place in
    let read = decoded _ c.unwrap-input.result c.try_from.ensures c.unwrap-input.ensures in
    let wide : c.width.result ≡ width_of (code (drop place bytes)) = c.width.ensures.0 ∙ ap width_of (read ∙ sym code_is) in
    let fits : (0 < c.width.result) × (place + c.width.result ≤ length bytes) = input_fits _ _ _ _ _ here c.width.result wide in
    omega (arith, fits.1)

-- ---- the next input may revert it

pub slice_bounds-is_undone-count : goal.slice_bounds-is_undone-count
slice_bounds-is_undone-count c =
    let bytes : List ℕ = c.args.commands.now in
    let place : ℕ = c.args.p.read in
    let bound : length c.args.journal.now < 2 ^ 63 = omega arith in
    let here = ongoing_input _ _ c.requires.0 bound c.requires.1 in
    let code_is : code (drop place bytes) ≡ get_or bytes place 0 = code_at bytes place in
    let read = decoded _ c.unwrap-input.result c.try_from.ensures c.unwrap-input.ensures in
    let wide : c.width.result ≡ width_of (code (drop place bytes)) = c.width.ensures.0 ∙ ap width_of (read ∙ sym code_is) in
    let fits : (0 < c.width.result) × (place + c.width.result ≤ length bytes) = input_fits _ _ _ _ _ here c.width.result wide in
    omega (arith, fits.1)

pub slice_bounds-is_undone-start : goal.slice_bounds-is_undone-start
slice_bounds-is_undone-start c =
    let bytes : List ℕ = c.args.commands.now in
    let place : ℕ = c.args.p.read in
    let bound : length c.args.journal.now < 2 ^ 63 = omega arith in
    let here = ongoing_input _ _ c.requires.0 bound c.requires.1 in
    let code_is : code (drop place bytes) ≡ get_or bytes place 0 = code_at bytes place in
    let read = decoded _ c.unwrap-input.result c.try_from.ensures c.unwrap-input.ensures in
    let wide : c.width.result ≡ width_of (code (drop place bytes)) = c.width.ensures.0 ∙ ap width_of (read ∙ sym code_is) in
    let fits : (0 < c.width.result) × (place + c.width.result ≤ length bytes) = input_fits _ _ _ _ _ here c.width.result wide in
    omega (arith, fits.1)

pub answer_undone-requires : goal.answer_undone-requires
answer_undone-requires c =
    let bytes : List ℕ = c.args.commands.now in
    let place : ℕ = c.args.p.read in
    let bound : length c.args.journal.now < 2 ^ 63 = omega arith in
    let here = ongoing_input _ _ c.requires.0 bound c.requires.1 in
    let code_is : code (drop place bytes) ≡ get_or bytes place 0 = code_at bytes place in
    let read = decoded _ c.unwrap-input.result c.try_from.ensures c.unwrap-input.ensures in
    let wide : c.width.result ≡ width_of (code (drop place bytes)) = c.width.ensures.0 ∙ ap width_of (read ∙ sym code_is) in
    let sized : SizedState c.if-p.words c.if-p.floats =
    record { words = omega arith; floats = omega arith } in
    let fresh : state_from c.if-p.words c.if-p.floats ≡ c.requires.0.state =
    elim c.if-p.branch [
      | then-p w ↦
          ap₂ state_from w.words-is w.floats-is
          ∙ replayed_current _ _ _ _ _ here.running c.args.p.applied c.requires.0.applied _ w.replay.result w.replay.ensures.0
      | else-p w ↦ ap₂ state_from w.words-is w.floats-is ∙ c.requires.0.fresh w.if-p.false
    ] in
    let now_here =
    subst
    (λ (s : EngineState).
    Input bytes c.args.stream.now (length c.args.journal.now) (length c.args.answers.now)
    (rest_of_run bytes c.args.stream.now c.requires.0.state c.args.journal.now c.args.answers.now c.args.p)
    c.args.journal.now c.args.answers.now s c.args.p.answered place)
    (sym fresh) here in
    let ready : Ready c.if-p.words c.if-p.floats =
    sound_ready _ _ c.if-p.words c.if-p.floats sized now_here.running.bound (running_sound _ _ _ _ _ now_here.running) in
    let other : code (drop place bytes) ≡ commands.undo → ⊥ = λ q. c.in_default.not-Undo (undo_code _ (read ∙ (sym code_is ∙ q))) in
    let whole : Whole (engine_of c.args.stream.now (length c.args.journal.now)) (part_of bytes place c.width.result) =
    command_whole _ _ _ _ _ now_here c.width.result wide other in
    let end : ℕ = place + c.width.result in
    let room : ℕ = length c.args.answers.now in
    let answer : ℕ = answer_width * c.args.p.answered in
    let next_is : is_undone (rest_of bytes end) room answer ≡ true = sym c.is_undone.ensures ∙ c.if-is_undone.true in
    let both = undone_room bytes end room answer next_is in
    (ready, (omega (arith, whole.len, whole.pos), whole.other), both)

pub overflow_add-next-then-answer_undone : goal.overflow_add-next-then-answer_undone
overflow_add-next-then-answer_undone c =
    let bytes : List ℕ = c.args.commands.now in
    let place : ℕ = c.args.p.read in
    let bound : length c.args.journal.now < 2 ^ 63 = omega arith in
    let commands_bound : length bytes < 2 ^ 63 = omega arith in
    let here = ongoing_input _ _ c.requires.0 bound c.requires.1 in
    let code_is : code (drop place bytes) ≡ get_or bytes place 0 = code_at bytes place in
    let read = decoded _ c.unwrap-input.result c.try_from.ensures c.unwrap-input.ensures in
    let wide : c.width.result ≡ width_of (code (drop place bytes)) = c.width.ensures.0 ∙ ap width_of (read ∙ sym code_is) in
    let fits : (0 < c.width.result) × (place + c.width.result ≤ length bytes) = input_fits _ _ _ _ _ here c.width.result wide in
    let end : ℕ = place + c.width.result in
    let room : ℕ = length c.args.answers.now in
    let answer : ℕ = answer_width * c.args.p.answered in
    let next_is : is_undone (rest_of bytes end) room answer ≡ true = sym c.is_undone.ensures ∙ c.if-is_undone.true in
    let within : end < length bytes = undone_within bytes end room answer next_is in
    omega (arith, within, fits.0, c.requires.0.few, commands_bound)

pub overflow_add-next-then-answer_undone-2 : goal.overflow_add-next-then-answer_undone-2
overflow_add-next-then-answer_undone-2 c =
    let bytes : List ℕ = c.args.commands.now in
    let place : ℕ = c.args.p.read in
    let commands_bound : length bytes < 2 ^ 63 = omega arith in
    let end : ℕ = place + c.width.result in
    let room : ℕ = length c.args.answers.now in
    let answer : ℕ = answer_width * c.args.p.answered in
    let next_is : is_undone (rest_of bytes end) room answer ≡ true = sym c.is_undone.ensures ∙ c.if-is_undone.true in
    let within : end < length bytes = undone_within bytes end room answer next_is in
    omega (arith, within, commands_bound)

pub returns-then-answer_undone : goal.returns-then-answer_undone
returns-then-answer_undone c b =
    let bytes : List ℕ = c.args.commands.now in
    let place : ℕ = c.args.p.read in
    let bound : length c.args.journal.now < 2 ^ 63 = omega arith in
    let here = ongoing_input _ _ b bound c.requires.1 in
    let code_is : code (drop place bytes) ≡ get_or bytes place 0 = code_at bytes place in
    let read = decoded _ c.unwrap-input.result c.try_from.ensures c.unwrap-input.ensures in
    let wide : c.width.result ≡ width_of (code (drop place bytes)) = c.width.ensures.0 ∙ ap width_of (read ∙ sym code_is) in
    let fits : (0 < c.width.result) × (place + c.width.result ≤ length bytes) = input_fits _ _ _ _ _ here c.width.result wide in
    let fresh : state_from c.if-p.words c.if-p.floats ≡ b.state =
    elim c.if-p.branch [
      | then-p w ↦
          ap₂ state_from w.words-is w.floats-is
          ∙ replayed_current _ _ _ _ _ here.running c.args.p.applied b.applied _ w.replay.result w.replay.ensures.0
      | else-p w ↦ ap₂ state_from w.words-is w.floats-is ∙ b.fresh w.if-p.false
    ] in
    let now_here =
    subst
    (λ (s : EngineState).
    Input bytes c.args.stream.now (length c.args.journal.now) (length c.args.answers.now)
    (rest_of_run bytes c.args.stream.now b.state c.args.journal.now c.args.answers.now c.args.p)
    c.args.journal.now c.args.answers.now s c.args.p.answered place)
    (sym fresh) here in
    let counted : c.args.p.applied ≡ (state_from c.if-p.words c.if-p.floats).shared.applied_length =
    b.applied ∙ ap (λ (s : EngineState). s.shared.applied_length) (sym fresh) in
    let other : code (drop place bytes) ≡ commands.undo → ⊥ = λ q. c.in_default.not-Undo (undo_code _ (read ∙ (sym code_is ∙ q))) in
    let end : ℕ = place + c.width.result in
    let room : ℕ = length c.args.answers.now in
    let answer : ℕ = answer_width * c.args.p.answered in
    let next_is : is_undone (rest_of bytes end) room answer ≡ true = sym c.is_undone.ensures ∙ c.if-is_undone.true in
    input_answered _ _ b.state
    (goes_on_undone _ _ _ _ _ c.if-p.words c.if-p.floats now_here c.width.result wide other
    c.answer_undone.ensures (omega arith) c.args.p.applied counted false c.if-answer_undone.true next_is)
    (omega (arith, fits.0))

pub returns-else-answer_undone : goal.returns-else-answer_undone
returns-else-answer_undone c b =
    let bytes : List ℕ = c.args.commands.now in
    let place : ℕ = c.args.p.read in
    let bound : length c.args.journal.now < 2 ^ 63 = omega arith in
    let here = ongoing_input _ _ b bound c.requires.1 in
    let code_is : code (drop place bytes) ≡ get_or bytes place 0 = code_at bytes place in
    let read = decoded _ c.unwrap-input.result c.try_from.ensures c.unwrap-input.ensures in
    let wide : c.width.result ≡ width_of (code (drop place bytes)) = c.width.ensures.0 ∙ ap width_of (read ∙ sym code_is) in
    let fits : (0 < c.width.result) × (place + c.width.result ≤ length bytes) = input_fits _ _ _ _ _ here c.width.result wide in
    let fresh : state_from c.if-p.words c.if-p.floats ≡ b.state =
    elim c.if-p.branch [
      | then-p w ↦
          ap₂ state_from w.words-is w.floats-is
          ∙ replayed_current _ _ _ _ _ here.running c.args.p.applied b.applied _ w.replay.result w.replay.ensures.0
      | else-p w ↦ ap₂ state_from w.words-is w.floats-is ∙ b.fresh w.if-p.false
    ] in
    let now_here =
    subst
    (λ (s : EngineState).
    Input bytes c.args.stream.now (length c.args.journal.now) (length c.args.answers.now)
    (rest_of_run bytes c.args.stream.now b.state c.args.journal.now c.args.answers.now c.args.p)
    c.args.journal.now c.args.answers.now s c.args.p.answered place)
    (sym fresh) here in
    let counted : c.args.p.applied ≡ (state_from c.if-p.words c.if-p.floats).shared.applied_length =
    b.applied ∙ ap (λ (s : EngineState). s.shared.applied_length) (sym fresh) in
    let other : code (drop place bytes) ≡ commands.undo → ⊥ = λ q. c.in_default.not-Undo (undo_code _ (read ∙ (sym code_is ∙ q))) in
    input_answered _ _ b.state
    (goes_on_refused _ _ _ _ _ c.if-p.words c.if-p.floats now_here c.width.result wide other
    c.answer_undone.ensures (omega arith) c.args.p.applied counted false c.if-answer_undone.false)
    (omega (arith, fits.0))

-- ---- it is applied or refused

pub answer_command-requires : goal.answer_command-requires
answer_command-requires c =
    let bytes : List ℕ = c.args.commands.now in
    let place : ℕ = c.args.p.read in
    let bound : length c.args.journal.now < 2 ^ 63 = omega arith in
    let here = ongoing_input _ _ c.requires.0 bound c.requires.1 in
    let running = running_sound _ _ _ _ _ here.running in
    let within_journal : c.args.p.applied ≤ length c.args.journal.now = omega (arith, running.applied, c.requires.0.applied) in
    let code_is : code (drop place bytes) ≡ get_or bytes place 0 = code_at bytes place in
    let read = decoded _ c.unwrap-input.result c.try_from.ensures c.unwrap-input.ensures in
    let wide : c.width.result ≡ width_of (code (drop place bytes)) = c.width.ensures.0 ∙ ap width_of (read ∙ sym code_is) in
    let sized : SizedState c.if-p.words c.if-p.floats =
    record { words = omega arith; floats = omega arith } in
    let fresh : state_from c.if-p.words c.if-p.floats ≡ c.requires.0.state =
    elim c.if-p.branch [
      | then-p w ↦
          ap₂ state_from w.words-is w.floats-is
          ∙ replayed_current _ _ _ _ _ here.running c.args.p.applied c.requires.0.applied _ w.replay.result w.replay.ensures.0
      | else-p w ↦ ap₂ state_from w.words-is w.floats-is ∙ c.requires.0.fresh w.if-p.false
    ] in
    let now_here =
    subst
    (λ (s : EngineState).
    Input bytes c.args.stream.now (length c.args.journal.now) (length c.args.answers.now)
    (rest_of_run bytes c.args.stream.now c.requires.0.state c.args.journal.now c.args.answers.now c.args.p)
    c.args.journal.now c.args.answers.now s c.args.p.answered place)
    (sym fresh) here in
    let counted : c.args.p.applied ≡ (state_from c.if-p.words c.if-p.floats).shared.applied_length =
    c.requires.0.applied ∙ ap (λ (s : EngineState). s.shared.applied_length) (sym fresh) in
    let ready : Ready c.if-p.words c.if-p.floats =
    sound_ready _ _ c.if-p.words c.if-p.floats sized now_here.running.bound (running_sound _ _ _ _ _ now_here.running) in
    let other : code (drop place bytes) ≡ commands.undo → ⊥ = λ q. c.in_default.not-Undo (undo_code _ (read ∙ (sym code_is ∙ q))) in
    let whole : Whole (engine_of c.args.stream.now (length c.args.journal.now)) (part_of bytes place c.width.result) =
    command_whole _ _ _ _ _ now_here c.width.result wide other in
    let shared = ap (λ p. p.applied_length) (shared_read c.if-p.words c.if-p.floats) in
    (ready, (omega (arith, whole.len, whole.pos), whole.other), omega (arith, within_journal, counted, shared))

pub returns : goal.returns
returns c b =
    let bytes : List ℕ = c.args.commands.now in
    let place : ℕ = c.args.p.read in
    let bound : length c.args.journal.now < 2 ^ 63 = omega arith in
    let here = ongoing_input _ _ b bound c.requires.1 in
    let code_is : code (drop place bytes) ≡ get_or bytes place 0 = code_at bytes place in
    let read = decoded _ c.unwrap-input.result c.try_from.ensures c.unwrap-input.ensures in
    let wide : c.width.result ≡ width_of (code (drop place bytes)) = c.width.ensures.0 ∙ ap width_of (read ∙ sym code_is) in
    let fits : (0 < c.width.result) × (place + c.width.result ≤ length bytes) = input_fits _ _ _ _ _ here c.width.result wide in
    let fresh : state_from c.if-p.words c.if-p.floats ≡ b.state =
    elim c.if-p.branch [
      | then-p w ↦
          ap₂ state_from w.words-is w.floats-is
          ∙ replayed_current _ _ _ _ _ here.running c.args.p.applied b.applied _ w.replay.result w.replay.ensures.0
      | else-p w ↦ ap₂ state_from w.words-is w.floats-is ∙ b.fresh w.if-p.false
    ] in
    let now_here =
    subst
    (λ (s : EngineState).
    Input bytes c.args.stream.now (length c.args.journal.now) (length c.args.answers.now)
    (rest_of_run bytes c.args.stream.now b.state c.args.journal.now c.args.answers.now c.args.p)
    c.args.journal.now c.args.answers.now s c.args.p.answered place)
    (sym fresh) here in
    let other : code (drop place bytes) ≡ commands.undo → ⊥ = λ q. c.in_default.not-Undo (undo_code _ (read ∙ (sym code_is ∙ q))) in
    input_answered _ _ b.state
    (goes_on_command _ _ _ _ _ c.if-p.words c.if-p.floats now_here c.width.result wide other
    c.answer_command.ensures (omega arith) false)
    (omega (arith, fits.0))
