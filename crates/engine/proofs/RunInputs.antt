-- The inputs that a batch run executes: its journal is that of an engine which is given them, so demand 3 holds of it; and more turns than
-- bytes make no difference.
use mathlib.Core.Path.{◌≡◌, refl, sym, ap, ◌∙◌, subst}
use mathlib.Core.Bool.{Bool, true, false, ◌&&◌, true≢false}
use mathlib.Core.List.{List, [], ◌∷◌}
use Prim.Native.Nat.{ℕ, zero, suc, ◌+◌, ◌-◌, ◌*◌, ◌/◌, ◌%◌, ◌<◌, ◌≤◌}
use native.Mathlib.Nat.{div-add-mod', mod-lt}
use native.Mathlib.Omega.{arith}
use borrow.Author.Tests.{ltb-true, ltb-false, leb-true, leb-false, eqb-true, eqb-false}
use lib.Dec.{ltb, leb, eqb}
use lib.ListN.{length, take, drop, length-drop}
use lib.Seq.{take_at}
use Rattle.hazards.specs.Fields.{bytes_of}
use Rattle.hazards.specs.Answers.{answer_width, with_answer}
use Rattle.hazards.proofs.Bytes.{bytes_of-length}
use Rattle.hazards.proofs.Cases.{by_test}
use Rattle.engine.specs.Commands as commands
use Rattle.engine.specs.Commands.{width_of}
use Rattle.engine.specs.Refusals.{no_command, cut_short, answers_full, bad_buffers}
use Rattle.engine.specs.Validation.{valid_state}
use Rattle.engine.specs.Engine.{Bytes, Engine, Outcome, code, is_whole, cut, unchanged, carry_out}
use Rattle.engine.specs.Execute.{act, execute}
use Rattle.engine.specs.Replay.{undo}
use Rattle.engine.specs.Sessions.{Session, feed, feed_all, new_session}
use Rattle.engine.specs.Instance.{engine_of}
use Rattle.engine.specs.Answers.{after, answer_of}
use Rattle.engine.specs.Run.{Ran, finished, ends_run, executed, run_from, run_of, inputs_from, run_inputs}
use Rattle.engine.specs.Demand3.{session_after, Demand3, RunDemand3}
use Rattle.engine.proofs.Applied.{Inv, inv_open, inv-all, journal-length}
use Rattle.engine.proofs.Asking.{asks_no_command, asks_part, asks_undo, asks_command, execute_rejects, execute_undo}
use Rattle.engine.proofs.Demand3.{demand_3}
use Rattle.engine.proofs.EngineLaws.{engine_laws}
use Rattle.engine.proofs.ExecuteLaws.{executes}
use Rattle.engine.proofs.SoundValid.{sound_state_valid}
use Rattle.engine.proofs.RunAnswers.{answer-length}
use Rattle.engine.proofs.RunNumbers.{reply_goes, undo_goes, write_goes}
use Rattle.engine.proofs.RunOpening.{run_unusable, run_opens}
use Rattle.engine.proofs.RunStates.{inv_sound}
use Rattle.engine.proofs.RunTurns.{run_full, run_ends, run_next, run_done}
use Rattle.engine.proofs.Splits.{Wide, whole_wide, wide_whole}

inputs_nothing : (room : ℕ) → inputs_from room [] ≡ []
unfolding inputs_from
inputs_nothing zero = refl
inputs_nothing (suc room) = refl

no_inputs : (i : Bytes) → inputs_from 0 i ≡ []
unfolding inputs_from
no_inputs i = refl

abbrev inputs_by : ℕ → Bytes → Bool → List Bytes
inputs_by room i b = i ∷ elim b [ true ↦ inputs_from room (drop (width_of (code i)) i) | false ↦ [] ]

inputs_next : (room : ℕ) (i : Bytes) → 0 < length i → inputs_from (suc room) i ≡ inputs_by room i (is_whole width_of i)
unfolding inputs_from
inputs_next room [] h = absurd (omega arith)
inputs_next room (b ∷ bs) h = refl

-- answers that there is room for
room_for : (size count room : ℕ) → size / answer_width ≡ count + suc room → answer_width * count + answer_width ≤ size
room_for size count room e = omega (arith, div-add-mod' size answer_width, mod-lt size {m = answer_width} (omega arith))

no_room : (size count : ℕ) → size / answer_width ≡ count + 0 → size < answer_width * count + answer_width
no_room size count e = omega (arith, div-add-mod' size answer_width, mod-lt size {m = answer_width} (omega arith))

module _ (stream : Bytes) (n : ℕ) where
  abbrev E : Engine
  E = engine_of stream n

  abbrev Used : Session E → Type 0
  Used u = Inv E n (engine_laws stream n) u

  -- the run from an engine in use on
  abbrev run_at : ℕ → Session E → Bytes → ℕ → ℕ → Bytes → Ran
  run_at turns u answers count read rest = run_from turns stream u.state u.journal answers count read rest

  run_nothing : (turns : ℕ) (u : Session E) (answers : Bytes) (count read : ℕ)
      → run_at turns u answers count read [] ≡ finished 0 u.journal answers count read
  run_nothing turns u answers count read = run_done turns stream u.state u.journal answers count read

  -- one input to an engine in use
  module _ (u : Session E) (h : Used u) (i : Bytes) (p : 0 < length i) where
    valid : valid_state stream n u.state ≡ true
    valid = sound_state_valid u.state stream n (inv_sound stream n u h)

    abbrev outcome : Outcome E
    outcome = execute E u.state u.journal i

    is_executed : executed stream u.state u.journal i ≡ after stream n outcome
    is_executed =
        ap (λ (m : ℕ). after stream m (execute (engine_of stream m) u.state u.journal i))
        (journal-length E n (engine_laws stream n) u h)

    fed : Used (feed E u i)
    unfolding feed_all
    fed = inv-all E n (engine_laws stream n) u (i ∷ []) h

    -- a whole command does not end a run
    whole_goes : is_whole width_of i ≡ true → ends_run (answer_of outcome.reply).number ≡ false
    whole_goes e =
        let w : Wide E i = whole_wide E i e in
        by_test (eqb (code i) commands.undo)
        (λ d.
        let o = execute_undo E u.state u.journal i (asks_undo E u.state i valid p w.wide w.long (eqb-true _ _ d)) in
        ap (λ (x : Outcome E). ends_run (answer_of x.reply).number) o
        ∙ reply_goes (undo E u.state u.journal).reply (undo_goes stream n u.state u.journal))
        (λ d.
        let o =
        executes E u.state u.journal i (width_of (code i)) refl
        (asks_command E u.state i valid p w.wide w.long (eqb-false _ _ d)) in
        ap (λ (x : Outcome E). ends_run (answer_of x.reply).number) o
        ∙ reply_goes (act E u.state u.journal (carry_out (cut E i))).reply (write_goes stream n u.state u.journal (cut E i)))

    -- bytes that are none end it, and change nothing
    record Ends : Type 0 where
      number : ℕ
      ends : ends_run number ≡ true
      unmoved : outcome ≡ unchanged E u.state u.journal number

    part_ends : is_whole width_of i ≡ false → Ends
    part_ends e = by_width (ltb 0 (width_of (code i))) refl (leb (width_of (code i)) (length i)) refl
      where
        by_width : (w : Bool) → ltb 0 (width_of (code i)) ≡ w → (f : Bool) → leb (width_of (code i)) (length i) ≡ f → Ends
        by_width false ew f ef = record {
          number = no_command;
          ends = refl;
          unmoved =
              execute_rejects E u.state u.journal i no_command (asks_no_command E u.state i valid p (ltb-false _ _ ew));
        }
        by_width true ew false ef = record {
          number = cut_short;
          ends = refl;
          unmoved =
              execute_rejects E u.state u.journal i cut_short
              (asks_part E u.state i valid p (ltb-true _ _ ew) (leb-false _ _ ef));
        }
        by_width true ew true ef =
            let t = wide_whole E i (record { wide = ltb-true _ _ ew; long = leb-true _ _ ef }) in
            absurd (true≢false (sym t ∙ e))

    unmoved_journal : (f : is_whole width_of i ≡ false) → (feed E u i).journal ≡ u.journal
    unfolding feed
    unmoved_journal f = ap (λ (x : Outcome E). x.journal) (part_ends f).unmoved

    -- one turn of the run
    module _ (answers : Bytes) (count : ℕ) where
      abbrev written : Bytes
      written = with_answer answers (answer_width * count) (answer_of outcome.reply)

      module _ (read turns : ℕ) (l : answer_width * count + answer_width ≤ length answers) where
        goes : is_whole width_of i ≡ true → run_at (suc turns) u answers count read i
            ≡ run_at turns (feed E u i) written (count + 1) (read + width_of (code i)) (drop (width_of (code i)) i)
        unfolding feed
        goes t =
            run_next stream u.state u.journal answers count read i p turns l (after stream n outcome) is_executed (whole_goes t)

        stops : (f : is_whole width_of i ≡ false) → run_at (suc turns) u answers count read i
            ≡ finished (part_ends f).number u.journal written (count + 1) read
        stops f =
            let x = part_ends f in
            run_ends stream u.state u.journal answers count read i p turns l
            (after stream n (unchanged E u.state u.journal x.number)) (is_executed ∙ ap (after stream n) x.unmoved) x.ends
            ∙ ap (λ (o : Outcome E). finished x.number u.journal (with_answer answers (answer_width * count) (answer_of o.reply))
            (count + 1) read) (sym x.unmoved)

  -- more turns than bytes make no difference
  pub run_turns : (k m : ℕ) (u : Session E) → Used u → (answers : Bytes) (count read : ℕ) (rest : Bytes)
      → length rest ≤ k → length rest ≤ m → run_at k u answers count read rest ≡ run_at m u answers count read rest
  run_turns zero m u h answers count read [] hk hm =
      run_nothing zero u answers count read ∙ sym (run_nothing m u answers count read)
  run_turns zero m u h answers count read (b ∷ bs) hk hm = absurd (omega arith)
  run_turns (suc k) m u h answers count read [] hk hm =
      run_nothing (suc k) u answers count read ∙ sym (run_nothing m u answers count read)
  run_turns (suc k) zero u h answers count read (b ∷ bs) hk hm = absurd (omega arith)
  run_turns (suc k) (suc m) u h answers count read (b ∷ bs) hk hm =
      let i : Bytes = b ∷ bs in
      let p : 0 < length i = omega arith in
      let w : ℕ = width_of b in
      by_test (leb (answer_width * count + answer_width) (length answers))
      (λ l.
      by_test (is_whole width_of i)
      (λ t.
      let wide : 0 < w = (whole_wide E i t).wide in
      let d : length (drop w i) ≡ length i - w = length-drop w i in
      goes u h i p answers count read k (leb-true _ _ l) t
      ∙ run_turns k m (feed E u i) (fed u h i p) (written u h i p answers count) (count + 1) (read + w) (drop w i) (omega arith)
      (omega arith)
      ∙ sym (goes u h i p answers count read m (leb-true _ _ l) t))
      (λ f.
      stops u h i p answers count read k (leb-true _ _ l) f ∙ sym (stops u h i p answers count read m (leb-true _ _ l) f)))
      (λ l.
      run_full stream u.state u.journal answers count read i p k (leb-false _ _ l)
      ∙ sym (run_full stream u.state u.journal answers count read i p m (leb-false _ _ l)))

  -- what a run leaves is the journal of an engine that is given the inputs, and their number
  record Runs (r : Ran) (u : Session E) (count : ℕ) (inputs : List Bytes) : Type 0 where
    journal : r.journal ≡ (feed_all E u inputs).journal
    answered : take 8 r.result ≡ bytes_of 8 (count + length inputs)

  same_runs : (u : Session E) (count : ℕ) {r t : Ran} {is js : List Bytes} → r ≡ t → is ≡ js → Runs t u count js → Runs r u count is
  same_runs u count {t = t} {is = is} e f x = subst (λ (y : Ran). Runs y u count is) (sym e) (subst (Runs t u count) (sym f) x)

  ended : (number : ℕ) (u : Session E) (answers : Bytes) (count read : ℕ)
      → Runs (finished number u.journal answers count read) u count []
  unfolding feed_all
  ended number u answers count read =
      let z : count ≡ count + 0 = omega arith in
      record {
        journal = refl;
        answered = take_at (bytes_of 8 count) (bytes_of 8 read) 8 (bytes_of-length 8 count) ∙ ap (bytes_of 8) z;
      }

  after_one : (u : Session E) (count : ℕ) (i : Bytes) (is : List Bytes) (r : Ran) → Runs r (feed E u i) (count + 1) is
      → Runs r u count (i ∷ is)
  unfolding feed_all
  after_one u count i is r x =
      let z : count + 1 + length is ≡ count + length (i ∷ is) = omega arith in
      record { journal = x.journal; answered = x.answered ∙ ap (bytes_of 8) z }

  runs : (turns room : ℕ) (u : Session E) → Used u → (answers : Bytes) (count read : ℕ) (rest : Bytes) → length rest ≤ turns
      → length answers / answer_width ≡ count + room
      → Runs (run_at turns u answers count read rest) u count (inputs_from room rest)
  runs zero room u h answers count read [] l e =
      same_runs u count (run_nothing zero u answers count read) (inputs_nothing room) (ended 0 u answers count read)
  runs zero room u h answers count read (b ∷ bs) l e = absurd (omega arith)
  runs (suc turns) room u h answers count read [] l e =
      same_runs u count (run_nothing (suc turns) u answers count read) (inputs_nothing room) (ended 0 u answers count read)
  runs (suc turns) zero u h answers count read (b ∷ bs) l e =
      same_runs u count
      (run_full stream u.state u.journal answers count read (b ∷ bs) (omega arith) turns (no_room (length answers) count e))
      (no_inputs (b ∷ bs)) (ended answers_full u answers count read)
  runs (suc turns) (suc room) u h answers count read (b ∷ bs) l e =
      let i : Bytes = b ∷ bs in
      let p : 0 < length i = omega arith in
      let w : ℕ = width_of b in
      let space = room_for (length answers) count room e in
      by_test (is_whole width_of i)
      (λ t.
      let wide : 0 < w = (whole_wide E i t).wide in
      let d : length (drop w i) ≡ length i - w = length-drop w i in
      let q : length (written u h i p answers count) / answer_width ≡ count + 1 + room =
      ap (λ (k : ℕ). k / answer_width) (answer-length answers (answer_width * count) (after stream n (outcome u h i p)).answer) ∙ e ∙ omega arith in
      same_runs u count (goes u h i p answers count read turns space t) (inputs_next room i p ∙ ap (inputs_by room i) t)
      (after_one u count i (inputs_from room (drop w i)) _
      (runs turns room (feed E u i) (fed u h i p) (written u h i p answers count) (count + 1) (read + w) (drop w i) (omega arith) q)))
      (λ f.
      same_runs u count (stops u h i p answers count read turns space f) (inputs_next room i p ∙ ap (inputs_by room i) f)
      (after_one u count i [] _
      (subst (λ (k : Bytes). Runs (finished (part_ends u h i p f).number k (written u h i p answers count) (count + 1) read) (feed E u i)
      (count + 1) []) (unmoved_journal u h i p f)
      (ended (part_ends u h i p f).number (feed E u i) (written u h i p answers count) (count + 1) read))))

pub run_demand_3 : (command_bytes stream journal answers result : Bytes)
    → ((run_of command_bytes stream journal answers result).number ≡ bad_buffers → ⊥)
    → RunDemand3 command_bytes stream journal answers result
unfolding new_session
run_demand_3 command_bytes stream journal answers result h =
    by_test (eqb (length stream % 8) 0 && eqb (length result) 16)
    (λ e.
    let n : ℕ = length journal in
    let is : List Bytes = run_inputs command_bytes answers in
    let d : Demand3 stream n is = demand_3 stream n is in
    let begins = inv_open (engine_of stream n) n (engine_laws stream n) in
    let room : length answers / answer_width ≡ 0 + length answers / answer_width = omega arith in
    let opens = sym (run_opens command_bytes stream journal answers result e) in
    let r = runs stream n (length command_bytes) (length answers / answer_width) (new_session (engine_of stream n) n) begins answers 0 0 command_bytes
    (omega arith) room in
    let same : (run_of command_bytes stream journal answers result).journal ≡ (session_after stream n is).journal =
    ap (λ (x : Ran). x.journal) opens ∙ r.journal in
    let z : 0 + length is ≡ length is = omega arith in
    record {
      answered = ap (λ (x : Ran). take 8 x.result) opens ∙ r.answered ∙ ap (bytes_of 8) z;
      journal_applied =
          same ∙ (inv-all (engine_of stream n) n (engine_laws stream n) (new_session (engine_of stream n) n) is begins).written;
      same_journal = same ∙ d.same_journal;
      accepts_each = d.accepts_each;
      demand_3 = d;
    })
    (λ e. absurd (h (ap (λ (x : Ran). x.number) (sym (run_unusable command_bytes stream journal answers result e)))))
