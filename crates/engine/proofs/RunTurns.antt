-- One turn of a batch run: what is left of the run after it gives what the whole run gives.
use mathlib.Core.Path.{◌≡◌, refl, sym, ◌∙◌, ap, subst}
use mathlib.Core.Bool.{Bool, true, false, cond}
use mathlib.Core.List.{[], ◌∷◌}
use Prim.Native.Nat.{ℕ, zero, suc, ◌+◌, ◌-◌, ◌*◌, ◌^◌, ◌<◌, ◌≤◌}
use native.Mathlib.Nat.{sub-zero}
use native.Mathlib.Omega.{arith}
use borrow.Author.Tests.{ltb-true, ltb-false, leb-true, leb-false, le-leb, lt-leb}
use lib.Dec.{ltb, leb}
use lib.ListN.{length, take, drop, replicate, length-drop, drop_of_length-le, length-replicate}
use lib.Seq.{drop-drop, paste, length-paste}
use Rattle.hazards.specs.Answers.{answer_width, no_event, with_answer}
use Rattle.hazards.specs.declared.answers.Answer.{Answer}
use Rattle.engine.specs.Commands as commands
use Rattle.engine.specs.Commands.{width_of, front_refusal}
use Rattle.engine.specs.Refusals.{no_command, cut_short, answers_full}
use Rattle.engine.specs.Opening.{opened_state}
use Rattle.engine.specs.Engine.{Bytes, Engine, Performed, Outcome, code, cut, reject, carry_out, classify, rejected, performed}
use Rattle.engine.specs.Engine.{unchanged, completed}
use Rattle.engine.specs.Replay.{undo}
use Rattle.engine.specs.Execute.{execute}
use Rattle.engine.specs.Instance.{engine_of}
use Rattle.engine.specs.Validation.{valid_state}
use Rattle.engine.specs.Execution.{perform}
use Rattle.engine.specs.Run.{Ran, finished, ends_run, executed, run_from, ran}
use Rattle.engine.specs.RunInternals.{Stop, stop, stop_at, Reached, opened_run}
use Rattle.engine.specs.Answers.{AfterInput, after, answer_of}
use Rattle.engine.specs.State.{EngineState}
use Rattle.engine.proofs.SoundState.{SoundState}
use Rattle.engine.proofs.CommandLists.{Whole}
use Rattle.engine.proofs.Asking.{asks_no_command, asks_part, asks_undo, asks_command}
use Rattle.engine.proofs.Asking.{execute_rejects, execute_undo, execute_refused, execute_performs}
use Rattle.engine.proofs.SoundValid.{sound_state_valid}
use Rattle.engine.proofs.JournalBytes.{rest_of, part_of, part-all, part-of}
use Rattle.engine.proofs.Replays.{cut_whole}
use Rattle.engine.proofs.RunNumbers.{performed_reply, perform_goes, reply_goes, undo_goes}
use Rattle.engine.proofs.RunStates.{reached_open, reached_next, reached_sound}
use Rattle.engine.proofs.RunStops.{numbered, end_number, stop_way}
use Rattle.engine.proofs.EngineLaws.{engine_laws}

-- ---- one turn of the definition

-- what an input leaves: its answer, the state and the journal
abbrev pub leaving : Answer → EngineState → Bytes → AfterInput
leaving a s j = record { answer = a; state = s; journal = j }

module _ (stream : Bytes) (s : EngineState) (j answers : Bytes) (count read : ℕ) (i : Bytes) (h : 0 < length i) (turns : ℕ) where
  abbrev place : ℕ
  place = answer_width * count

  abbrev now : Ran
  now = run_from (suc turns) stream s j answers count read i

  abbrev ending : AfterInput → Ran
  ending o = finished o.answer.number o.journal (with_answer answers place o.answer) (count + 1) read

  abbrev going : AfterInput → Ran
  going o =
      run_from turns stream o.state o.journal (with_answer answers place o.answer) (count + 1) (read + width_of (code i))
      (drop (width_of (code i)) i)

  abbrev after_input : Bool → AfterInput → Ran
  after_input b o = cond b (ending o) (going o)

  abbrev by_room : Bool → Ran
  by_room b =
      cond b (after_input (ends_run (executed stream s j i).answer.number) (executed stream s j i))
      (finished answers_full j answers count read)

  turn : now ≡ by_room (leb (place + answer_width) (length answers))
  turn = go i h
    where
      go : (k : Bytes) → 0 < length k → run_from (suc turns) stream s j answers count read k
          ≡ cond (leb (place + answer_width) (length answers))
          (cond (ends_run (executed stream s j k).answer.number)
          (finished (executed stream s j k).answer.number (executed stream s j k).journal
          (with_answer answers place (executed stream s j k).answer) (count + 1) read)
          (run_from turns stream (executed stream s j k).state (executed stream s j k).journal
          (with_answer answers place (executed stream s j k).answer) (count + 1) (read + width_of (code k)) (drop (width_of (code k)) k)))
          (finished answers_full j answers count read)
      go [] p = absurd (omega arith)
      go (b ∷ bs) p = unfold run_from in refl

  pub run_full : length answers < place + answer_width → now ≡ finished answers_full j answers count read
  run_full l = turn ∙ ap by_room (lt-leb (place + answer_width) (length answers) l)

  module _ (l : place + answer_width ≤ length answers) (o : AfterInput) (e : executed stream s j i ≡ o) where
    on : now ≡ after_input (ends_run o.answer.number) o
    on =
        turn
        ∙ ap by_room (le-leb (place + answer_width) (length answers) l)
        ∙ ap (λ (x : AfterInput). after_input (ends_run x.answer.number) x) e

    pub run_ends : ends_run o.answer.number ≡ true → now ≡ ending o
    run_ends t = on ∙ ap (λ (b : Bool). after_input b o) t

    pub run_next : ends_run o.answer.number ≡ false → now ≡ going o
    run_next t = on ∙ ap (λ (b : Bool). after_input b o) t

pub run_done : (turns : ℕ) (stream : Bytes) (s : EngineState) (j answers : Bytes) (count read : ℕ)
    → run_from turns stream s j answers count read [] ≡ finished 0 j answers count read
unfolding run_from
run_done zero stream s j answers count read = refl
run_done (suc turns) stream s j answers count read = refl

-- ---- the loop, at the place `at` of the commands; `all` is what the whole run gives

module _ (bytes stream : Bytes) (n size : ℕ) (all : Ran) where
  abbrev E : Engine
  E = engine_of stream n

  -- what is left gives the whole; state and journal are reached from opening
  pub record Running (j answers : Bytes) (s : EngineState) (count at : ℕ) : Type 0 where
    pub goes : run_from (length bytes - count) stream s j answers count at (drop at bytes) ≡ all
    pub reached : Reached stream n s j
    pub few : count ≤ at
    pub below : at ≤ length bytes
    pub room : answer_width * count ≤ length answers
    pub same_journal : length j ≡ n
    pub bound : n < 2 ^ 63
    pub same_answers : length answers ≡ size

  -- the input there is a whole command, and its answer has room
  pub record Input (j answers : Bytes) (s : EngineState) (count at : ℕ) : Type 0 where
    pub running : Running j answers s count at
    pub more : at < length bytes
    pub space : answer_width * count + answer_width ≤ length answers
    pub wide : 0 < width_of (code (drop at bytes))
    pub long : width_of (code (drop at bytes)) ≤ length (drop at bytes)

  module _ {j answers : Bytes} {s : EngineState} {count at : ℕ} (r : Running j answers s count at) where
    abbrev input : Bytes
    input = drop at bytes

    pub running_sound : SoundState stream n s
    running_sound = reached_sound stream n s j r.reached

    valid : valid_state stream n s ≡ true
    valid = sound_state_valid s stream n running_sound

    executes : (o : Outcome E) → execute E s j input ≡ o → executed stream s j input ≡ after stream n o
    executes o e = ap (λ (m : ℕ). after stream m (execute (engine_of stream m) s j input)) r.same_journal ∙ ap (after stream n) e

    pub running_ends : length bytes ≤ at → finished 0 j answers count at ≡ all
    running_ends h =
        sym
        (ap (run_from (length bytes - count) stream s j answers count at) (drop_of_length-le bytes h)
        ∙ run_done (length bytes - count) stream s j answers count at)
        ∙ r.goes

    module _ (more : at < length bytes) where
      input_pos : 0 < length input
      input_pos = omega (arith, length-drop at bytes)

      abbrev turns : ℕ
      turns = length bytes - (count + 1)

      fuel : run_from (suc turns) stream s j answers count at input ≡ all
      fuel =
          let k : suc turns ≡ length bytes - count = omega (arith, r.few) in
          ap (λ (m : ℕ). run_from m stream s j answers count at input) k ∙ r.goes

      stops_full : length answers < answer_width * count + answer_width → finished answers_full j answers count at ≡ all
      stops_full l = sym (run_full stream s j answers count at input input_pos turns l) ∙ fuel

      -- by the tests on the input
      abbrev Numbered : ℕ → Type 0
      Numbered number =
          (number ≡ 0 → (0 < width_of (code input)) × (width_of (code input) ≤ length input))
          × (answer_width * count + answer_width ≤ length answers → (number ≡ 0 → ⊥)
          → finished number j (with_answer answers (answer_width * count) (no_event number)) (count + 1) at ≡ all)

      rejected_ends : (m : ℕ) → classify E s input ≡ reject m → ends_run m ≡ true
          → answer_width * count + answer_width ≤ length answers
          → finished m j (with_answer answers (answer_width * count) (no_event m)) (count + 1) at ≡ all
      rejected_ends m k t l =
          sym
          (run_ends stream s j answers count at input input_pos turns l (after stream n (unchanged E s j m))
          (executes (unchanged E s j m) (execute_rejects E s j input m k)) t)
          ∙ fuel

      input_number : Numbered (front_refusal input)
      input_number =
          subst Numbered (sym (end_number input input_pos))
          (go (ltb 0 (width_of (code input))) refl (leb (width_of (code input)) (length input)) refl)
        where
          go : (w : Bool) → ltb 0 (width_of (code input)) ≡ w → (f : Bool) → leb (width_of (code input)) (length input) ≡ f
              → Numbered (numbered w f)
          go false ew f ef = (
            (λ q. absurd (omega arith)),
            (λ l q. rejected_ends no_command (asks_no_command E s input valid input_pos (ltb-false _ _ ew)) refl l),
          )
          go true ew false ef = (
            (λ q. absurd (omega arith)),
            (λ l q. rejected_ends cut_short (asks_part E s input valid input_pos (ltb-true _ _ ew) (leb-false _ _ ef)) refl l),
          )
          go true ew true ef = ((λ q. (ltb-true _ _ ew, leb-true _ _ ef)), (λ l q. absurd (q refl)))

      -- what the code does before the input is executed
      abbrev Stopped : Stop → Type 0
      Stopped x =
          ((x.number ≡ 0 → ⊥) → ran x.number j x.answers x.result ≡ all)
          × (x.number ≡ 0 → Input j x.answers s count at)

      stopped : (result : Bytes) → Stopped (stop_at input answers result count at)
      stopped result =
          stop_way input answers result count at Stopped (λ l. ((λ q. stops_full l), (λ q. absurd (omega arith))))
          (λ l z.
          let w = input_number.0 z in (
            (λ q. absurd (q refl)),
            (λ q. record { running = r; more = more; space = l; wide = w.0; long = w.1 }),
          ))
          (λ l z. ((λ q. input_number.1 l z), (λ q. absurd (z q))))

      module _ (result : Bytes) {number : ℕ} {written kept : Bytes}
          (e : stop number written kept ≡ stop_at (rest_of bytes at) answers result count at) where
        by_stop : Stopped (stop number written kept)
        by_stop = subst Stopped (sym (e ∙ ap (λ (x : Bytes). stop_at x answers result count at) (part-all bytes at))) (stopped result)

        pub run_stops : (number ≡ 0 → ⊥) → ran number j written kept ≡ all
        run_stops = by_stop.0

        pub run_goes_on : number ≡ 0 → Input j written s count at
        run_goes_on = by_stop.1

  -- ---- the input is executed, and its answer written

  module _ {j answers : Bytes} {s : EngineState} {count at : ℕ} (x : Input j answers s count at) (w : ℕ)
      (ew : w ≡ width_of (code (drop at bytes))) where
    abbrev i : Bytes
    i = drop at bytes

    r : Running j answers s count at
    r = x.running

    i_pos : 0 < length i
    i_pos = input_pos r x.more

    pub input_fits : (0 < w) × (at + w ≤ length bytes)
    input_fits =
        let wide = x.wide in
        let long = x.long in
        let d : length i ≡ length bytes - at = length-drop at bytes in
        let m = x.more in
        (omega arith, omega arith)

    turned : (o : Outcome E) → execute E s j i ≡ o → ends_run (answer_of o.reply).number ≡ false → {written : Bytes}
        → written ≡ with_answer answers (answer_width * count) (answer_of o.reply) → length o.journal ≡ n
        → length written ≡ size
        → Running o.journal written o.state (count + 1) (at + w)
    turned o e t {written} q lj lw =
        let space = x.space in
        let same = r.same_answers in
        let few = r.few in
        let fits = input_fits in
        record {
          goes =
              ap (λ (b : Bytes). run_from later stream o.state o.journal b (count + 1) (at + w) (drop (at + w) bytes)) q
              ∙ ap (run_from later stream o.state o.journal answer (count + 1) (at + w)) (sym (drop-drop w at bytes))
              ∙ ap (λ (m : ℕ). run_from later stream o.state o.journal answer (count + 1) (at + m) (drop m i)) ew
              ∙ sym (run_next stream s j answers count at i i_pos later x.space (after stream n o) (executes r o e) t)
              ∙ fuel r x.more;
          reached = reached_next stream n s j r.reached i o e;
          few = omega (arith, fits.0);
          below = fits.1;
          room = omega arith;
          same_journal = lj;
          bound = r.bound;
          same_answers = lw;
        }
      where
        later : ℕ
        later = length bytes - (count + 1)

        answer : Bytes
        answer = with_answer answers (answer_width * count) (answer_of o.reply)

    pub next_undo : code i ≡ commands.undo → (a : Answer) (t : EngineState) {k written : Bytes}
        → leaving a t k ≡ after stream (length j) (undo (engine_of stream (length j)) s j)
        → written ≡ with_answer answers (answer_width * count) a → length k ≡ n → length written ≡ size
        → Running k written t (count + 1) (at + w)
    next_undo u a t {k} {written} e q lk lw =
        let f : leaving a t k ≡ after stream n (undo E s j) =
        e ∙ ap (λ (m : ℕ). after stream m (undo (engine_of stream m) s j)) r.same_journal in
        let ek : k ≡ (undo E s j).journal = ap (λ (o : AfterInput). o.journal) f in
        let ea : a ≡ answer_of (undo E s j).reply = ap (λ (o : AfterInput). o.answer) f in
        let h =
        turned (undo E s j) (execute_undo E s j i (asks_undo E s i (valid r) i_pos x.wide x.long u))
        (reply_goes (undo E s j).reply (undo_goes stream n s j))
        (q ∙ ap (with_answer answers (answer_width * count)) ea) (ap length (sym ek) ∙ lk) lw in
        subst (λ (b : Bytes). Running b written t (count + 1) (at + w)) (sym ek)
        (subst (λ (y : EngineState). Running (undo E s j).journal written y (count + 1) (at + w))
        (sym (ap (λ (o : AfterInput). o.state) f)) h)

    -- a command but UNDO
    module _ (u : code i ≡ commands.undo → ⊥) where
      abbrev c : Bytes
      c = part_of bytes at w

      is_cut : c ≡ cut E i
      is_cut = part-of bytes at w ∙ ap (λ (m : ℕ). take m i) ew

      pub command_whole : Whole E c
      command_whole = subst (Whole E) (sym is_cut) (cut_whole E i x.wide x.long u)

      asked : classify E s i ≡ carry_out c
      asked = asks_command E s i (valid r) i_pos x.wide x.long u ∙ ap carry_out (sym is_cut)

      goes_on : {d : Performed EngineState Answer} → perform stream n s c ≡ d → ends_run (answer_of (performed_reply d)).number ≡ false
      goes_on q =
          sym (ap (λ (d : Performed EngineState Answer). ends_run (answer_of (performed_reply d)).number) q)
          ∙ reply_goes (performed_reply (perform stream n s c)) (perform_goes stream n s c)

      pub next_refused : (number : ℕ) → perform stream n s c ≡ rejected number → {written : Bytes}
          → written ≡ with_answer answers (answer_width * count) (no_event number) → length written ≡ size
          → Running j written s (count + 1) (at + w)
      next_refused number d q lw =
          turned (unchanged E s j number) (execute_refused E s j i c number asked d) (goes_on d) q r.same_journal lw

      module _ (t : EngineState) (a : Answer) (d : perform stream n s c ≡ performed t a) where
        abbrev pub pasted : Bytes
        pasted = paste j s.shared.applied_length c (length c)

        -- what the definition gives for it
        pub input_performs : execute E s j i ≡ record { reply = completed a; state = t; journal = pasted }
        input_performs = execute_performs E s j i c t a asked d

        pub pasted_length : length pasted ≡ n
        pasted_length =
            let fits = (engine_laws stream n).fits s t c a d in
            length-paste j s.shared.applied_length c (length c) (omega (arith, r.same_journal, fits)) (omega arith) ∙ r.same_journal

        pub next_performed : {k written : Bytes} → k ≡ pasted → written ≡ with_answer answers (answer_width * count) a
            → length written ≡ size → Running k written t (count + 1) (at + w)
        next_performed {k} {written} ek q lw =
            subst (λ (b : Bytes). Running b written t (count + 1) (at + w)) (sym ek)
            (turned (record { reply = completed a; state = t; journal = pasted }) input_performs (goes_on d) q pasted_length lw)

-- at opening, with all places of the journal zero
pub running_begins : (bytes stream : Bytes) (n : ℕ) (answers : Bytes) {s : EngineState} → s ≡ opened_state
    → {j : Bytes} → j ≡ replicate n 0 → n < 2 ^ 63
    → Running bytes stream n (length answers) (opened_run bytes stream n answers) j answers s 0 0
running_begins bytes stream n answers {s} es {j} ej bound =
    subst (λ (x : EngineState). Opened x j) (sym es) (subst (Opened opened_state) (sym ej) opens)
  where
    Opened : EngineState → Bytes → Type 0
    Opened x k = Running bytes stream n (length answers) (opened_run bytes stream n answers) k answers x 0 0

    opens : Opened opened_state (replicate n 0)
    opens = record {
      goes = ap (λ (k : ℕ). run_from k stream opened_state (replicate n 0) answers 0 0 bytes) (sub-zero (length bytes));
      reached = reached_open stream n;
      few = omega arith;
      below = omega arith;
      room = omega arith;
      same_journal = length-replicate n 0;
      bound = bound;
      same_answers = refl;
    }
