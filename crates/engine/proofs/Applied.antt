-- Demand 3, first half, over any engine that meets the laws: after any list of inputs the state and the journal are those of a newly
-- opened engine that is given only the applied commands, and it accepts each.
use Prim.Native.Nat.{ℕ, ◌+◌, ◌-◌, ◌≤◌, ◌<◌}
use native.Mathlib.Nat.{not-suc-le-zero, sub-zero}
use native.Mathlib.Omega.{arith}
use mathlib.Core.Path.{◌≡◌, refl, sym, ap, ap₂, ◌∙◌, subst}
use mathlib.Core.Bool.{Bool, true, false, cond}
use mathlib.Core.List.{List, [], ◌∷◌, ◌++◌, append_assoc, append-nil}
use mathlib.Core.Option.{some}
use lib.ListN.{length, take, replicate, length-append, length-replicate}
use lib.Seq.{paste, take_at}
use lib.Dec.{ltb}
use borrow.Author.Tests.{ltb-true, lt-ltb}
use Rattle.engine.specs.Refusals.{nothing_applied, replay_fails}
use Rattle.engine.specs.Engine.{Bytes, Performed, rejected, performed, Engine, Asked, reject, undo_last, carry_out, reverted, completed}
use Rattle.engine.specs.Engine.{concat, init, Outcome, cut, classify, unchanged}
use Rattle.engine.specs.Replay.{cleared, replay, commands_in, revert_last, undo_in, undo}
use Rattle.engine.specs.Execute.{write, act, execute}
use Rattle.engine.specs.ReplayInternals.{ends, replay_all}
use Rattle.engine.specs.Journal.{part, applied_part}
use Rattle.engine.specs.Sessions.{Session, applied_after, feed, feed_all, new_session, Accepted, AcceptsEach}
use Rattle.engine.proofs.DemandHalves.{OnlyApplied}
use Rattle.engine.proofs.Supplied.{Laws}
use Rattle.engine.proofs.CommandLists.{Whole, AllWhole}
use Rattle.engine.proofs.JournalBytes.{concat_snoc, split_last, init_snoc, write_zeros, blank_zeros}
use Rattle.engine.proofs.PartLaws.{applied_front}
use Rattle.engine.proofs.Replays.{Asks, asks, cut_whole, cut_self, classify_whole, all_append, all-init, replay_one}
use Rattle.engine.proofs.Replays.{First, first, replay_init}
use Rattle.engine.proofs.Splits.{split_concat, by_states, replayed_in, scan_commands}

module _ (E : Engine) (n : ℕ) (L : Laws E n) where
  replay_counted : (s : E.State) (cs : List Bytes) (v : E.State) → AllWhole E cs → replay E (some s) cs ≡ some v
      → E.applied_length v ≡ E.applied_length s + length (concat cs)
  unfolding replay
  replay_counted s [] v h e =
      let q : s ≡ v = cc in ap E.applied_length (sym q) ∙ omega arith
  replay_counted s (c ∷ cs) v h e =
      let f : First E s c cs v = first E s c cs v h.0 e in
      let g : E.applied_length f.next ≡ E.applied_length s + length c = L.grows s f.next c f.answer f.did in
      let r : E.applied_length v ≡ E.applied_length f.next + length (concat cs) = replay_counted f.next cs v h.1 f.rest in
      let l : length (c ++ concat cs) ≡ length c + length (concat cs) = length-append c (concat cs) in
      omega arith

  -- what holds of an engine in use: its applied commands are whole, their replay gives its state, and the journal holds them and zeros
  pub record Inv (u : Session E) : Type 0 where
    pub whole : AllWhole E u.applied
    pub ran : replay E (some E.opened) u.applied ≡ some u.state
    pub written : u.journal ≡ concat u.applied ++ replicate (n - length (concat u.applied)) 0
    room : length (concat u.applied) ≤ n
    pub counted : E.applied_length u.state ≡ length (concat u.applied)

  pub inv_open : Inv (new_session E n)
  unfolding new_session replay
  inv_open =
      record {
        whole = tt;
        ran = refl;
        written = ap (λ (k : ℕ). replicate k 0) (sym (sub-zero n));
        room = omega arith;
        counted = L.opens;
      }

  pub journal-length : (u : Session E) → Inv u → length u.journal ≡ n
  journal-length u h =
      let left : ℕ = n - length (concat u.applied) in
      let zeros : Bytes = replicate left 0 in
      let z : length zeros ≡ left = length-replicate left 0 in
      let l : length u.journal ≡ length (concat u.applied) + length zeros =
      ap length h.written ∙ length-append (concat u.applied) zeros in
      let r : length (concat u.applied) ≤ n = h.room in
      omega arith

  applied_bytes : (u : Session E) → Inv u → take (E.applied_length u.state) u.journal ≡ concat u.applied
  applied_bytes u h =
      ap (λ (l : Bytes). take (E.applied_length u.state) l) h.written
      ∙ take_at (concat u.applied) (replicate (n - length (concat u.applied)) 0) (E.applied_length u.state) (sym h.counted)

  pub applied-part : (u : Session E) → Inv u → applied_part u.journal (E.applied_length u.state) ≡ part (concat u.applied) 0
  applied-part u h =
      let l : length u.journal ≡ n = journal-length u h in
      let k : E.applied_length u.state ≡ length (concat u.applied) = h.counted in
      let r : length (concat u.applied) ≤ n = h.room in
      applied_front u.journal (E.applied_length u.state) (omega arith) ∙ ap (λ (l : Bytes). part l 0) (applied_bytes u h)

  -- what one input leaves, by its outcome
  abbrev session_by : Session E → Bytes → Outcome E → Session E
  session_by u i o = record { state = o.state; journal = o.journal; applied = applied_after E o.reply i u.applied }

  -- a refused input leaves all of it
  inv_refused : (u : Session E) (i : Bytes) (number : ℕ) → Inv u → Inv (session_by u i (unchanged E u.state u.journal number))
  inv_refused u i number h = h

  inv_write : (u : Session E) (i c : Bytes) → Inv u → Asks E u.state i c → (t : E.State) (a : E.Answer)
      → E.perform u.state c ≡ performed t a
      → Inv (session_by u i (write E u.state u.journal c (performed t a)))
  inv_write u i c h q t a e =
      let ss : List Bytes = u.applied in
      let ec : cut E i ≡ c = cc q.cutting in
      let w : Whole E c = subst (Whole E) ec (cut_whole E i q.wide q.long q.other) in
      let es : concat (ss ++ (cut E i ∷ [])) ≡ concat ss ++ c =
      ap (λ (l : Bytes). concat (ss ++ (l ∷ []))) ec ∙ concat_snoc ss c in
      let el : length (concat (ss ++ (cut E i ∷ []))) ≡ length (concat ss) + length c = ap length es ∙ length-append (concat ss) c in
      let f : E.applied_length u.state + length c ≤ n = L.fits u.state t c a e in
      let k : E.applied_length u.state ≡ length (concat ss) = h.counted in
      let m : length c ≤ n - length (concat ss) = omega arith in
      let z : n - length (concat ss) - length c ≡ n - length (concat (ss ++ (cut E i ∷ []))) = omega arith in
      record {
        whole = all_append E ss (cut E i ∷ []) h.whole (subst (Whole E) (sym ec) w, tt);
        ran =
            ap (λ (l : Bytes). replay E (some E.opened) (ss ++ (l ∷ []))) ec
            ∙ replay_one E (some E.opened) ss c u.state t a h.ran (classify_whole E u.state c q.ok w) e;
        written =
            ap (λ (l : Bytes). paste l (E.applied_length u.state) c (length c)) h.written
            ∙ write_zeros (concat ss) c (E.applied_length u.state) (n - length (concat ss)) (sym k) m
            ∙ ap (λ (x : ℕ). (concat ss ++ c) ++ replicate x 0) z
            ∙ ap (λ (l : Bytes). l ++ replicate (n - length (concat (ss ++ (cut E i ∷ [])))) 0) (sym es);
        room = omega arith;
        counted = L.grows u.state t c a e ∙ (ap (λ (x : ℕ). x + length c) k ∙ sym el);
      }

  -- commands of some bytes have a last
  has_last : (ss : List Bytes) → 0 < length (concat ss) → (d : Bytes) × (ss ≡ init ss ++ (d ∷ []))
  has_last [] p = absurd (not-suc-le-zero p)
  has_last (c ∷ cs) p = split_last c cs

  -- the last command reverted, to the state v
  abbrev pub last_reverted : Session E → E.State → Outcome E
  last_reverted u v = record {
    reply = reverted;
    state = v;
    journal = cleared E u.journal (length (concat (init u.applied))) (E.applied_length u.state);
  }

  inv_reverted : (u : Session E) (i : Bytes) (v : E.State) → Inv u → 0 < length (concat u.applied)
      → replay E (some E.opened) (init u.applied) ≡ some v
      → Inv (session_by u i (last_reverted u v))
  inv_reverted u i v h p e =
      let ss : List Bytes = u.applied in
      let d : Bytes = (has_last ss p).0 in
      let es : concat ss ≡ concat (init ss) ++ d = ap concat (has_last ss p).1 ∙ concat_snoc (init ss) d in
      let el : length (concat ss) ≡ length (concat (init ss)) + length d = ap length es ∙ length-append (concat (init ss)) d in
      let k : E.applied_length u.state ≡ length (concat ss) = h.counted in
      let o : E.applied_length E.opened ≡ 0 = L.opens in
      let r : E.applied_length v ≡ E.applied_length E.opened + length (concat (init ss)) =
      replay_counted E.opened (init ss) v (all-init E ss h.whole) e in
      let rm : length (concat ss) ≤ n = h.room in
      let z : length d + (n - length (concat ss)) ≡ n - length (concat (init ss)) = omega arith in
      let j : u.journal ≡ (concat (init ss) ++ d) ++ replicate (n - length (concat ss)) 0 =
      h.written ∙ ap (λ (l : Bytes). l ++ replicate (n - length (concat ss)) 0) es in
      record {
        whole = all-init E ss h.whole;
        ran = e;
        written =
            ap (λ (l : Bytes). cleared E l (length (concat (init ss))) (E.applied_length u.state)) j
            ∙ blank_zeros (concat (init ss)) d (E.applied_length u.state) (n - length (concat ss)) (k ∙ el)
            ∙ ap (λ (x : ℕ). concat (init ss) ++ replicate x 0) z;
        room = omega arith;
        counted = omega arith;
      }

  inv_to : (u : Session E) (i : Bytes) (v rest : E.State) → Inv u → 0 < length (concat u.applied)
      → replay E (some E.opened) (init u.applied) ≡ some rest
      → Inv (session_by u i (revert_last E u.state u.journal u.applied (some v) (some rest)))
  inv_to u i v rest h p e = go (E.same v u.state)
    where
      go : (b : Bool) → Inv (session_by u i (cond b (last_reverted u rest) (unchanged E u.state u.journal replay_fails)))
      go true = inv_reverted u i rest h p e
      go false = inv_refused u i replay_fails h

  -- the applied bytes hold the applied commands; `rest` is the state before the last of them
  pub record AppliedReplay (u : Session E) : Type 0 where
    pub rest : E.State
    pub held : commands_in E (take (E.applied_length u.state) u.journal) ≡ some u.applied
    pub scans : replay_all E (take (E.applied_length u.state) u.journal) ≡ ends u.state rest (length (concat (init u.applied)))
    pub ran : replay E (some E.opened) (init u.applied) ≡ some rest

  pub applied_replay : (u : Session E) → Inv u → AppliedReplay u
  applied_replay u h =
      let cs : List Bytes = u.applied in
      let d = replay_init E (some E.opened) cs u.state h.ran in
      let held : commands_in E (take (E.applied_length u.state) u.journal) ≡ some cs =
      ap (commands_in E) (applied_bytes u h) ∙ split_concat E (length (concat cs)) cs h.whole (omega arith) in
      record {
        rest = d.0;
        held = held;
        scans =
            scan_commands E (take (E.applied_length u.state) u.journal)
            ∙ ap (replayed_in E) held
            ∙ ap₂ (by_states E (length (concat (init cs)))) h.ran d.1;
        ran = d.1;
      }

  -- what UNDO makes of them
  undo_applied : (u : Session E) → Inv u → (d : AppliedReplay u)
      → undo_in E u.state u.journal (commands_in E (take (E.applied_length u.state) u.journal))
      ≡ revert_last E u.state u.journal u.applied (some u.state) (some d.rest)
  undo_applied u h d =
      ap (undo_in E u.state u.journal) d.held
      ∙ ap₂ (revert_last E u.state u.journal u.applied) h.ran d.ran

  pub rest_counted : (u : Session E) → Inv u → (d : AppliedReplay u)
      → E.applied_length d.rest ≡ length (concat (init u.applied))
  rest_counted u h d =
      replay_counted E.opened (init u.applied) d.rest (all-init E u.applied h.whole) d.ran
      ∙ ap (λ (k : ℕ). k + length (concat (init u.applied))) L.opens
      ∙ omega arith

  inv_undo : (u : Session E) (i : Bytes) → Inv u → Inv (session_by u i (undo E u.state u.journal))
  unfolding undo
  inv_undo u i h = go (ltb 0 (E.applied_length u.state)) refl
    where
      go : (b : Bool) → ltb 0 (E.applied_length u.state) ≡ b
          → Inv (session_by u i
          (cond b (undo_in E u.state u.journal (commands_in E (take (E.applied_length u.state) u.journal)))
          (unchanged E u.state u.journal nothing_applied)))
      go false e = inv_refused u i nothing_applied h
      go true e =
          let p : 0 < length (concat u.applied) = omega (arith, ltb-true 0 (E.applied_length u.state) e, h.counted) in
          let d : AppliedReplay u = applied_replay u h in
          subst (λ (o : Outcome E). Inv (session_by u i o)) (sym (undo_applied u h d)) (inv_to u i u.state d.rest h p d.ran)

  inv_act : (u : Session E) (i : Bytes) (k : Asked) → Inv u → classify E u.state i ≡ k
      → Inv (session_by u i (act E u.state u.journal k))
  inv_act u i (reject m) h e = inv_refused u i m h
  inv_act u i undo_last h e = inv_undo u i h
  inv_act u i (carry_out c) h e = go (E.perform u.state c) refl
    where
      go : (d : Performed E.State E.Answer) → E.perform u.state c ≡ d → Inv (session_by u i (write E u.state u.journal c d))
      go (rejected m) p = inv_refused u i m h
      go (performed t a) p = inv_write u i c h (asks E u.state i c e) t a p

  inv_feed : (u : Session E) (i : Bytes) → Inv u → Inv (feed E u i)
  unfolding feed execute
  inv_feed u i h = inv_act u i (classify E u.state i) h refl

  pub inv-all : (u : Session E) (is : List Bytes) → Inv u → Inv (feed_all E u is)
  unfolding feed_all
  inv-all u [] h = h
  inv-all u (i ∷ is) h = inv-all (feed E u i) is (inv_feed u i h)

  -- an engine that is given whole commands that a replay runs accepts each, ends where the replay does, and they are applied
  record Fed (u : Session E) (cs : List Bytes) (v : E.State) : Type 0 where
    state : (feed_all E u cs).state ≡ v
    applied : (feed_all E u cs).applied ≡ u.applied ++ cs
    accepts : AcceptsEach E u cs

  pub feed_one : (u : Session E) (c : Bytes) (t : E.State) (a : E.Answer) → Whole E c → classify E u.state c ≡ carry_out c
      → E.perform u.state c ≡ performed t a
      → ((feed E u c).state ≡ t) × ((feed E u c).applied ≡ u.applied ++ (c ∷ [])) × ((execute E u.state u.journal c).reply ≡ completed a)
  unfolding feed execute
  feed_one u c t a w k e =
      let o : execute E u.state u.journal c ≡ write E u.state u.journal c (performed t a) =
      ap (act E u.state u.journal) k ∙ ap (write E u.state u.journal c) e in (
        ap (λ (x : Outcome E). x.state) o,
        ap (λ (x : Outcome E). applied_after E x.reply c u.applied) o ∙ ap (λ (x : Bytes). u.applied ++ (x ∷ [])) (cut_self E c w),
        ap (λ (x : Outcome E). x.reply) o,
      )

  fed : (u : Session E) (cs : List Bytes) (v : E.State) → AllWhole E cs → replay E (some u.state) cs ≡ some v → Fed u cs v
  unfolding feed_all replay AcceptsEach
  fed u [] v h e = record { state = cc; applied = sym (append-nil u.applied); accepts = tt }
  fed u (c ∷ cs) v h e =
      let f : First E u.state c cs v = first E u.state c cs v h.0 e in
      let g = feed_one u c f.next f.answer h.0 f.asked f.did in
      let r : Fed (feed E u c) cs v =
      fed (feed E u c) cs v h.1 (ap (λ (x : E.State). replay E (some x) cs) g.0 ∙ f.rest) in
      record {
        state = r.state;
        applied = r.applied ∙ ap (λ (l : List Bytes). l ++ cs) g.1 ∙ append_assoc u.applied (c ∷ []) cs;
        accepts = (subst (Accepted E) (sym g.2) tt, r.accepts);
      }

  pub reverts : ((s : E.State) → E.same s s ≡ true) → (v : Session E) → Inv v → (d : AppliedReplay v) → 0 < E.applied_length v.state
      → undo E v.state v.journal ≡ last_reverted v d.rest
  unfolding undo
  reverts r v h d p = simp (lt-ltb 0 (E.applied_length v.state) p, undo_applied v h d, r v.state)

  -- where something is applied, UNDO is not refused by 12 or 13
  pub undo_accepted : ((s : E.State) → E.same s s ≡ true) → (is : List Bytes)
      → 0 < E.applied_length (feed_all E (new_session E n) is).state
      → (undo E (feed_all E (new_session E n) is).state (feed_all E (new_session E n) is).journal).reply ≡ reverted
  undo_accepted r is p =
      let u : Session E = feed_all E (new_session E n) is in
      let h : Inv u = inv-all (new_session E n) is inv_open in
      ap (λ (o : Outcome E). o.reply) (reverts r u h (applied_replay u h) p)

  last_whole : (cs : List Bytes) (c : Bytes) → AllWhole E (cs ++ (c ∷ [])) → Whole E c
  last_whole [] c h = h.0
  last_whole (d ∷ cs) c h = last_whole cs c h.1

  executed : (u : Session E) (i : Bytes) → Inv u → Inv (session_by u i (execute E u.state u.journal i))
  unfolding execute
  executed u i h = inv_act u i (classify E u.state i) h refl

  -- an UNDO right after an accepted command leaves state and journal as they were before it
  pub taken_back : ((s : E.State) → E.same s s ≡ true) → (u : Session E) (i : Bytes) (a : E.Answer) (t : E.State) (k : Bytes) → Inv u
      → execute E u.state u.journal i ≡ record { reply = completed a; state = t; journal = k }
      → undo E t k ≡ record { reply = reverted; state = u.state; journal = u.journal }
  taken_back r u i a t k h e =
      let c : Bytes = cut E i in
      let v : Session E = record { state = t; journal = k; applied = u.applied ++ (c ∷ []) } in
      let hv : Inv v = subst (λ (o : Outcome E). Inv (session_by u i o)) e (executed u i h) in
      let w : Whole E c = last_whole u.applied c hv.whole in
      let l : length (concat v.applied) ≡ length (concat u.applied) + length c =
      ap length (concat_snoc u.applied c) ∙ length-append (concat u.applied) c in
      let p : 0 < length (concat v.applied) = omega (arith, w.pos) in
      let d : AppliedReplay v = applied_replay v hv in
      let same-commands : init v.applied ≡ u.applied = init_snoc u.applied c in
      let ran : replay E (some E.opened) u.applied ≡ some d.rest =
      subst (λ (cs : List Bytes). replay E (some E.opened) cs ≡ some d.rest) same-commands d.ran in
      let same-state : d.rest ≡ u.state = cc (sym ran ∙ h.ran) in
      let same_journal : (last_reverted v d.rest).journal ≡ u.journal =
      (inv_reverted v [] d.rest hv p d.ran).written
      ∙ ap (λ (cs : List Bytes). concat cs ++ replicate (n - length (concat cs)) 0) same-commands
      ∙ sym h.written in
      reverts r v hv d (omega (arith, p, hv.counted)) ∙ λ x. record { reply = reverted; state = same-state x; journal = same_journal x }

  -- demand 3, first half
  pub only_applied : (is : List Bytes) → OnlyApplied E n is
  unfolding new_session
  only_applied is =
      let u : Session E = feed_all E (new_session E n) is in
      let h : Inv u = inv-all (new_session E n) is inv_open in
      let f : Fed (new_session E n) u.applied u.state = fed (new_session E n) u.applied u.state h.whole h.ran in
      let h' : Inv (feed_all E (new_session E n) u.applied) = inv-all (new_session E n) u.applied inv_open in
      let es : (feed_all E (new_session E n) u.applied).applied ≡ u.applied = f.applied in
      record {
        same-state = sym f.state;
        same_journal =
            h.written ∙ ap (λ (l : List Bytes). concat l ++ replicate (n - length (concat l)) 0) (sym es) ∙ sym h'.written;
        accepts_each = f.accepts;
      }
