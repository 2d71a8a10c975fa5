-- Demand 3 holds of the calls over lent memory: what they leave is, call by call, the engine that demand 3 speaks of.
use mathlib.Core.Path.{◌≡◌, refl, sym, ap, ◌∙◌}
use mathlib.Core.Bool.{Bool, true, ◌&&◌}
use mathlib.Core.List.{List}
use Prim.Native.Nat.{ℕ}
use borrow.Author.Tests.{eq-eqb}
use lib.Dec.{eqb}
use lib.ListN.{length, replicate}
use Rattle.hazards.specs.Lists.{all}
use Rattle.hazards.specs.declared.answers.Answer.{Answer}
use Rattle.engine.specs.State.{EngineState}
use Rattle.engine.specs.StateRows.{coded_state, SizedState, CodedState}
use Rattle.engine.specs.Engine.{Bytes, Engine}
use Rattle.engine.specs.Execute.{execute}
use Rattle.engine.specs.Sessions.{Session, feed, feed_all, new_session, AcceptsEach}
use Rattle.engine.specs.Instance.{engine_of}
use Rattle.engine.specs.Answers.{AfterInput, answer_of, after}
use Rattle.engine.specs.InPlace.{is_state, left_by, Executes, input_on}
use Rattle.engine.specs.LentDemand3.{Memory, state_in, KeepsLengths, OpensIn, GivesOne, Gives, none, next, LentDemand3}
use Rattle.engine.proofs.SameRows.{alike_in_every_word, alike_in_every_float}
use Rattle.engine.proofs.CodedStates.{state_test}
use Rattle.engine.proofs.Demand3.{demand_3}
use Rattle.engine.proofs.RunNumbers.{zero_accepted}
use Rattle.engine.proofs.SizedRows.{sizes_there, sizes_facts}

keeps_sizes : {m m' : Memory} → KeepsLengths m m' → SizedState m.words m.floats → SizedState m'.words m'.floats
keeps_sizes k s = record { words = k.words ∙ s.words; floats = k.floats ∙ s.floats }

module _ (stream : List ℕ) (n : ℕ) where
  abbrev E : Engine
  E = engine_of stream n

  -- the memory holds this engine in use
  record Holds (u : Session E) (m : Memory) : Type 0 where
    state : state_in m ≡ u.state
    journal : m.journal ≡ u.journal
    bytes : length m.journal ≡ n
    sized : SizedState m.words m.floats
    coded : CodedState m.words m.floats

  holds_state : {u : Session E} {m : Memory} → Holds u m → is_state m.words m.floats ≡ true
  holds_state {u} {m} h =
      ap (λ (b : Bool). b && coded_state m.words m.floats) (sizes_there m.words m.floats h.sized.words h.sized.floats)
      ∙ state_test m.words m.floats h.coded

  open_holds : {m : Memory} → OpensIn n m → Holds (new_session E n) m
  unfolding new_session
  open_holds o = record {
    state = o.opens.state;
    journal = o.opens.journal ∙ ap (λ (k : ℕ). replicate k 0) o.bytes;
    bytes = o.lengths.journal ∙ o.bytes;
    sized = keeps_sizes o.lengths (sizes_facts o.before.words o.before.floats o.sizes);
    coded = o.opens.coded;
  }

  -- ---- one input

  module _ {u : Session E} {m : Memory} (h : Holds u m) {i : Bytes} {a : Answer} {m' : Memory} (g : GivesOne stream m i a m') where
    executes : Executes m.words m.floats (input_on stream m.words m.floats m.journal i) m'.words m'.floats m'.journal a
    executes = g.executes.0 (holds_state h)

    does : left_by a m'.words m'.floats m'.journal ≡ after stream n (execute E u.state u.journal i)
    does =
        executes.does
        ∙ ap (λ (k : ℕ). after stream k (execute (engine_of stream k) (state_in m) m.journal i)) h.bytes
        ∙ ap (λ (s : EngineState). after stream n (execute E s m.journal i)) h.state
        ∙ ap (λ (j : Bytes). after stream n (execute E u.state j i)) h.journal

    one_answer : a ≡ answer_of (execute E u.state u.journal i).reply
    one_answer = ap (λ (o : AfterInput). o.answer) does

    one_holds : Holds (feed E u i) m'
    unfolding feed
    one_holds = record {
      state = ap (λ (o : AfterInput). o.state) does;
      journal = ap (λ (o : AfterInput). o.journal) does;
      bytes = g.lengths.journal ∙ h.bytes;
      sized = keeps_sizes g.lengths h.sized;
      coded = executes.coded h.coded;
    }

  -- ---- a list of inputs

  all_hold : {u : Session E} {m m' : Memory} {is : List Bytes} {answers : List Answer} → Holds u m → Gives stream m is answers m'
      → Holds (feed_all E u is) m'
  unfolding feed_all
  all_hold h none = h
  all_hold {u = u} h (next {i = i} one rest) = all_hold {u = feed E u i} (one_holds h one) rest

  each_accepted : {u : Session E} {m m' : Memory} {is : List Bytes} {answers : List Answer} → Holds u m → Gives stream m is answers m'
      → AcceptsEach E u is → all (λ x. eqb x.number 0) answers ≡ true
  unfolding AcceptsEach all
  each_accepted h none k = refl
  each_accepted {u = u} h (next {i = i} {a = a} one rest) k =
      let zero : a.number ≡ 0 =
      ap (λ (x : Answer). x.number) (one_answer h one) ∙ (zero_accepted stream n u.state u.journal i).1 k.0 in
      rw (eq-eqb a.number 0 zero) (each_accepted {u = feed E u i} (one_holds h one) rest k.1)

pub lent_demand_3 : (stream : List ℕ) (n : ℕ) (inputs : List Bytes) (m : Memory) (answers : List Answer) (m' : Memory) → OpensIn n m
    → Gives stream m inputs answers m' → LentDemand3 stream n inputs m'
lent_demand_3 stream n inputs m answers m' o g =
    let d = demand_3 stream n inputs in
    let h = all_hold stream n (open_holds stream n o) g in
    record {
      state = h.state;
      journal = h.journal;
      demand_3 = d;
      is_state = holds_state stream n h;
      answered = λ input a after g. one_answer stream n h g;
      alone =
          λ other answers left p q.
          let k = all_hold stream n (open_holds stream n p) q in
          let same : state_in left ≡ state_in m' = k.state ∙ (sym d.same-state ∙ sym h.state) in
          record {
            accepts_each = each_accepted stream n (open_holds stream n p) q d.accepts_each;
            same-state = same;
            same_journal = k.journal ∙ (sym d.same_journal ∙ sym h.journal);
            same_words = alike_in_every_word left.words m'.words left.floats m'.floats k.coded h.coded same;
            same-floats = alike_in_every_float left.words m'.words left.floats m'.floats k.coded h.coded same;
          };
    }
