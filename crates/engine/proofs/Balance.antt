-- Demand 3, second half, over any engine that meets the laws: the ledger of the applied commands balances with the engine's queue, which
-- holds at most one request for a clock.
use Prim.Native.Nat.{ℕ, ◌+◌}
use native.Mathlib.Omega.{arith}
use mathlib.Core.Path.{◌≡◌, refl, sym, ap, ◌∙◌, subst}
use mathlib.Core.Bool.{Bool, true, false, cond}
use mathlib.Core.List.{List, [], ◌∷◌, ◌++◌}
use mathlib.Core.Option.{Option, some}
use lib.Dec.{eqb}
use lib.ListN.{length}
use borrow.Author.Tests.{eqb-true, eqb-false}
use Rattle.engine.specs.Commands as commands
use Rattle.engine.specs.Queue.{keep_if, without}
use Rattle.engine.specs.Engine.{Bytes, performed, Engine, code, Reply}
use Rattle.engine.specs.Replay.{replay}
use Rattle.engine.specs.Execute.{execute}
use Rattle.engine.specs.Sessions.{Session, feed, feed_all, new_session}
use Rattle.engine.specs.Ledger.{Ledger, empty_ledger, next_pending, record_withdrawal, record_request, record_delivery, LedgerFields}
use Rattle.engine.specs.Ledger.{record_command, record_reply, ledger_of}
use Rattle.engine.specs.declared.state.Request.{Request}
use Rattle.engine.proofs.DemandHalves.{Balanced}
use Rattle.engine.proofs.Supplied.{Laws, Sound, Queueing, Delivers, Queues, QueueLaws}
use Rattle.engine.proofs.CommandLists.{Whole, AllWhole}
use Rattle.engine.proofs.RequestLists.{is_for, not_at, not_for, none_left}
use Rattle.engine.proofs.LedgerLinks.{Linked, row_one, linked_empty, linked_withdrawal, linked_request, same_pick, linked_delivery}
use Rattle.engine.proofs.LedgerLinks.{linked_at}
use Rattle.engine.proofs.Replays.{First, first}
use Rattle.engine.proofs.Applied.{feed_one, Inv, inv_open, inv-all}

module _ (E : Engine) (R : LedgerFields E) (K : Queueing E) (n : ℕ) (L : Laws E n) (SoundState : E.State → Type 0) (S : Sound E SoundState)
    (Q : QueueLaws E R K SoundState) where
  abbrev Holds : E.State → Ledger → Type 0
  Holds s b = Linked (K.queue s) (K.counter s) b

  -- a command that is no DELIVER
  holds_queues : (s t : E.State) (c : Bytes) (a : E.Answer) (b : Ledger) → Holds s b → Queues E R K s t c a
      → Holds t (let b₁ : Ledger = cond (R.withdrawn a) (record_withdrawal (R.clock_of c) b) b in
      cond (R.event a) (record_request (R.clock_of c) (R.answer_ticks a) (R.priority_of c) b₁) b₁)
  holds_queues s t c a b h q = go (R.withdrawn a) refl (R.event a) refl q.queue q.counter
    where
      k : ℕ
      k = R.clock_of c

      new : Request
      new = record { clock = k; ticks = R.answer_ticks a; priority = R.priority_of c; index = K.counter s }

      left : Bool → List Request
      left w = cond w (keep_if (not_for k) (K.queue s)) (K.queue s)

      held : Bool → Ledger
      held w = cond w (record_withdrawal k b) b

      go : (w : Bool) → R.withdrawn a ≡ w → (e : Bool) → R.event a ≡ e
          → K.queue t ≡ cond e (left w ++ (new ∷ [])) (left w) → K.counter t ≡ K.counter s + cond e 1 0
          → Holds t (cond e (record_request k (R.answer_ticks a) (R.priority_of c) (held w)) (held w))
      go true ew true ee eq em =
          linked_at (left true ++ (new ∷ [])) (K.queue t) (K.counter s + 1) (K.counter t)
          (record_request k (R.answer_ticks a) (R.priority_of c) (held true)) eq em
          (linked_request (left true) (K.counter s) (held true) k (R.answer_ticks a) (R.priority_of c)
          (linked_withdrawal (K.queue s) (K.counter s) b k h (q.was ew)) (ap length (none_left k (K.queue s))) (q.clock ee))
      go false ew true ee eq em =
          linked_at (left false ++ (new ∷ [])) (K.queue t) (K.counter s + 1) (K.counter t)
          (record_request k (R.answer_ticks a) (R.priority_of c) b) eq em
          (linked_request (K.queue s) (K.counter s) b k (R.answer_ticks a) (R.priority_of c) h (q.one ee ew) (q.clock ee))
      go true ew false ee eq em =
          linked_at (left true) (K.queue t) (K.counter s) (K.counter t) (held true) eq (em ∙ omega arith)
          (linked_withdrawal (K.queue s) (K.counter s) b k h (q.was ew))
      go false ew false ee eq em = linked_at (K.queue s) (K.queue t) (K.counter s) (K.counter t) b eq (em ∙ omega arith) h

  holds_feed : (s t : E.State) (c : Bytes) (a : E.Answer) (b : Ledger) → Whole E c → Holds s b → SoundState s → E.perform s c ≡ performed t a
      → Holds t (record_command E R b c a)
  unfolding record_command without
  holds_feed s t c a b w h v e = go (eqb (code c) commands.deliver) refl
    where
      go : (u : Bool) → eqb (code c) commands.deliver ≡ u
          → Holds t
          (cond u (record_delivery b (next_pending b.rows 16))
          (let b₁ : Ledger = cond (R.withdrawn a) (record_withdrawal (R.clock_of c) b) b in
          cond (R.event a) (record_request (R.clock_of c) (R.answer_ticks a) (R.priority_of c) b₁) b₁))
      go true k =
          let d : Delivers E R K s t = Q.delivers s t c a v (eqb-true (code c) commands.deliver k) e in
          linked_at (keep_if (not_at d.taken.index) (K.queue s)) (K.queue t) (K.counter s) (K.counter t)
          (record_delivery b (next_pending b.rows 16)) d.queue d.counter
          (subst (λ (o : Option Request). Linked (keep_if (not_at d.taken.index) (K.queue s)) (K.counter s) (record_delivery b o))
          (sym (same_pick (K.queue s) (K.counter s) b d.taken h d.picks))
          (linked_delivery (K.queue s) (K.counter s) b d.taken h d.picks))
      go false k = holds_queues s t c a b h (Q.queues s t c a w v (eqb-false (code c) commands.deliver k) e)

  ledger_holds : (u : Session E) (cs : List Bytes) (v : E.State) (b : Ledger) → AllWhole E cs → replay E (some u.state) cs ≡ some v
      → SoundState u.state → Holds u.state b → Holds v (ledger_of E R u b cs)
  unfolding ledger_of replay
  ledger_holds u [] v b w e sound-now h = let q : u.state ≡ v = cc in subst (λ (x : E.State). Holds x b) q h
  ledger_holds u (c ∷ cs) v b w e sound-now h =
      let f : First E u.state c cs v = first E u.state c cs v w.0 e in
      let g = feed_one E n L u c f.next f.answer w.0 f.asked f.did in
      let k : Holds f.next (record_command E R b c f.answer) =
      holds_feed u.state f.next c f.answer b w.0 h sound-now f.did in
      let kept : SoundState f.next = S.keeps u.state f.next c f.answer w.0 sound-now f.did in
      ledger_holds (feed E u c) cs v (record_reply E R b c (execute E u.state u.journal c).reply) w.1
      (ap (λ (x : E.State). replay E (some x) cs) g.0 ∙ f.rest) (subst SoundState (sym g.0) kept)
      (subst (λ (r : Reply E.Answer). Holds (feed E u c).state (record_reply E R b c r)) (sym g.2)
      (subst (λ (x : E.State). Holds x (record_command E R b c f.answer)) (sym g.0) k))

  -- Demand 3, its second half
  pub balanced : (is : List Bytes) (k : ℕ) → Balanced E n is R K k
  unfolding new_session
  balanced is k =
      let u : Session E = feed_all E (new_session E n) is in
      let h : Inv E n L u = inv-all E n L (new_session E n) is (inv_open E n L) in
      let o : Holds E.opened empty_ledger =
      linked_at [] (K.queue E.opened) 0 (K.counter E.opened) empty_ledger Q.none_queued Q.none_made linked_empty in
      let l : Holds u.state (ledger_of E R (new_session E n) empty_ledger u.applied) =
      ledger_holds (new_session E n) u.applied u.state empty_ledger h.whole h.ran S.opens o in
      record {
        balance = (l.rows k).sum;
        at_most_one = row_one (keep_if (is_for k) (K.queue u.state)) ((ledger_of E R (new_session E n) empty_ledger u.applied).rows k)
            (l.rows k);
      }
