-- Whole commands and their replay, over any engine: what asks for one, and the state after them.
use Prim.Native.Nat.{ℕ, zero, suc, ◌≤◌, ◌<◌}
use native.Mathlib.Omega.{arith}
use mathlib.Core.Path.{◌≡◌, refl, sym, ap, ◌∙◌, subst}
use mathlib.Core.Bool.{Bool, true, false, cond}
use mathlib.Core.List.{List, [], ◌∷◌, ◌++◌}
use mathlib.Core.Option.{Option, none, some}
use lib.ListN.{length, take}
use lib.Seq.{take-length, length-take-le, get_or-take}
use lib.Dec.{ltb, leb, eqb}
use borrow.Author.Tests.{ltb-true, leb-true, eqb-false, lt-ltb, le-leb, ne_eqb}
use Rattle.hazards.specs.Refusals.{invalid_state}
use Rattle.engine.specs.Commands as commands
use Rattle.engine.specs.Refusals.{cut_short, no_command}
use Rattle.engine.specs.Engine.{Bytes, Performed, rejected, performed, Engine, Asked, reject, undo_last, carry_out, code, init, cut}
use Rattle.engine.specs.Engine.{classify}
use Rattle.engine.specs.Replay.{state_of, after_one, then_one, replay}
use Rattle.engine.specs.ReplayInternals.{ends, replay_from}
use Rattle.engine.proofs.CommandLists.{Whole, AllWhole}

reject_carry_out : (n : ℕ) (c : Bytes) → reject n ≡ carry_out c → ⊥
reject_carry_out n c e = let z : ◌≡◌ {A = ℕ} 0 1 = cc in omega arith

undo_last_carry_out : (c : Bytes) → undo_last ≡ carry_out c → ⊥
undo_last_carry_out c e = let z : ◌≡◌ {A = ℕ} 0 1 = cc in omega arith

module _ (E : Engine) where
  -- the bytes i ask in s for the command c
  pub record Asks (s : E.State) (i c : Bytes) : Type 0 where
    pub ok : E.valid s ≡ true
    pub cutting : carry_out (cut E i) ≡ carry_out c
    pub wide : 0 < E.width (code i)
    pub long : E.width (code i) ≤ length i
    pub other : code i ≡ commands.undo → ⊥

  pub asks : (s : E.State) (i c : Bytes) → classify E s i ≡ carry_out c → Asks s i c
  unfolding classify
  asks s i c =
      go (E.valid s) refl (ltb 0 (length i)) refl (ltb 0 (E.width (code i))) refl (leb (E.width (code i)) (length i)) refl
      (eqb (code i) commands.undo) refl
    where
      go : (v : Bool) → E.valid s ≡ v → (l : Bool) → ltb 0 (length i) ≡ l → (w : Bool) → ltb 0 (E.width (code i)) ≡ w
          → (f : Bool) → leb (E.width (code i)) (length i) ≡ f → (u : Bool) → eqb (code i) commands.undo ≡ u
          → cond v (cond l (cond w (cond f (cond u undo_last (carry_out (cut E i))) (reject cut_short)) (reject no_command)) (reject cut_short))
          (reject invalid_state) ≡ carry_out c
          → Asks s i c
      go false ev l el w ew f ef u eu e = absurd (reject_carry_out invalid_state c e)
      go true ev false el w ew f ef u eu e = absurd (reject_carry_out cut_short c e)
      go true ev true el false ew f ef u eu e = absurd (reject_carry_out no_command c e)
      go true ev true el true ew false ef u eu e = absurd (reject_carry_out cut_short c e)
      go true ev true el true ew true ef true eu e = absurd (undo_last_carry_out c e)
      go true ev true el true ew true ef false eu e =
          record {
            ok = ev;
            cutting = e;
            wide = ltb-true 0 (E.width (code i)) ew;
            long = leb-true (E.width (code i)) (length i) ef;
            other = eqb-false (code i) commands.undo eu;
          }

  -- what is cut off is a whole command
  pub cut_whole : (i : Bytes) → 0 < E.width (code i) → E.width (code i) ≤ length i → (code i ≡ commands.undo → ⊥) → Whole E (cut E i)
  cut_whole i h l o =
      let e : code (cut E i) ≡ code i = get_or-take (E.width (code i)) i 0 0 h in
      let n : length (cut E i) ≡ E.width (code i) = length-take-le (E.width (code i)) i l in
      record {
        len = n ∙ ap (λ (k : ℕ). E.width k) (sym e);
        pos = subst (λ (k : ℕ). 0 < k) (sym n) h;
        other = λ q. o (sym e ∙ q);
      }

  pub cut_self : (c : Bytes) → Whole E c → cut E c ≡ c
  cut_self c w = ap (λ (k : ℕ). take k c) (sym w.len) ∙ take-length c

  -- a whole command asks for itself
  pub classify_whole : (s : E.State) (c : Bytes) → E.valid s ≡ true → Whole E c → classify E s c ≡ carry_out c
  unfolding classify
  classify_whole s c v w =
      let h₁ : 0 < E.width (code c) = subst (λ (k : ℕ). 0 < k) w.len w.pos in
      let h₂ : E.width (code c) ≤ length c = omega (arith, w.len) in
      simp (
        v,
        lt-ltb 0 (length c) w.pos,
        lt-ltb 0 (E.width (code c)) h₁,
        le-leb (E.width (code c)) (length c) h₂,
        ne_eqb (code c) commands.undo w.other,
        cut_self c w,
      )

  pub all_append : (cs ds : List Bytes) → AllWhole E cs → AllWhole E ds → AllWhole E (cs ++ ds)
  all_append [] ds h k = k
  all_append (c ∷ cs) ds h k = (h.0, all_append cs ds h.1 k)

  pub all-init : (cs : List Bytes) → AllWhole E cs → AllWhole E (init cs)
  all-init [] h = tt
  all-init (c ∷ []) h = tt
  all-init (c ∷ d ∷ cs) h = (h.0, all-init (d ∷ cs) h.1)

  replay-append : (o : Option E.State) (cs ds : List Bytes) → replay E o (cs ++ ds) ≡ replay E (replay E o cs) ds
  unfolding replay
  replay-append o [] ds = refl
  replay-append o (c ∷ cs) ds = replay-append (then_one E o c) cs ds

  pub replay_none : (cs : List Bytes) → replay E none cs ≡ none
  unfolding replay
  replay_none [] = refl
  replay_none (c ∷ cs) = replay_none cs

  none_some : {A : Type 0} (a : A) → none ≡ some a → ⊥
  none_some a e = let z : ◌≡◌ {A = ℕ} 0 1 = cc in omega arith

  pub replay_one : (o : Option E.State) (cs : List Bytes) (c : Bytes) (s t : E.State) (a : E.Answer) → replay E o cs ≡ some s
      → classify E s c ≡ carry_out c → E.perform s c ≡ performed t a → replay E o (cs ++ (c ∷ [])) ≡ some t
  unfolding replay
  replay_one o cs c s t a r k e =
      replay-append o cs (c ∷ []) ∙ ap (λ (x : Option E.State). then_one E x c) r ∙ ap (after_one E s) k ∙ ap (state_of E) e

  -- the first of the commands that a replay runs, and the replay of the rest
  pub record First (s : E.State) (c : Bytes) (cs : List Bytes) (v : E.State) : Type 0 where
    pub next : E.State
    pub answer : E.Answer
    pub asked : classify E s c ≡ carry_out c
    pub did : E.perform s c ≡ performed next answer
    pub rest : replay E (some next) cs ≡ some v

  pub first : (s : E.State) (c : Bytes) (cs : List Bytes) (v : E.State) → Whole E c → replay E (some s) (c ∷ cs) ≡ some v → First s c cs v
  unfolding replay
  first s c cs v w = by_ask (classify E s c) refl
    where
      by_did : (d : Performed E.State E.Answer) → classify E s c ≡ carry_out c → E.perform s c ≡ d → replay E (state_of E d) cs ≡ some v
          → First s c cs v
      by_did (rejected m) k q e = absurd (none_some v (sym (replay_none cs) ∙ e))
      by_did (performed t a) k q e = record { next = t; answer = a; asked = k; did = q; rest = e }

      by_ask : (k : Asked) → classify E s c ≡ k → replay E (after_one E s k) cs ≡ some v → First s c cs v
      by_ask (reject m) q e = absurd (none_some v (sym (replay_none cs) ∙ e))
      by_ask undo_last q e = absurd (none_some v (sym (replay_none cs) ∙ e))
      by_ask (carry_out d) q e =
          let ed : c ≡ d = sym (cut_self c w) ∙ cc (asks s c d q).cutting in
          by_did (E.perform s c) (q ∙ ap carry_out (sym ed)) refl
          (subst (λ (x : Bytes). replay E (state_of E (E.perform s x)) cs ≡ some v) (sym ed) e)

  pub replay_end : (k : ℕ) (s before : E.State) (last at : ℕ) → replay_from E k s before last at [] ≡ ends s before last
  unfolding replay_from
  replay_end zero s before last at = refl
  replay_end (suc k) s before last at = refl

  -- where commands give a state, so do all but the last
  pub replay_init : (o : Option E.State) (cs : List Bytes) (v : E.State) → replay E o cs ≡ some v
      → (rest : E.State) × (replay E o (init cs) ≡ some rest)
  unfolding replay
  replay_init o [] v e = (v, e)
  replay_init none (c ∷ []) v e = absurd (none_some v e)
  replay_init (some s) (c ∷ []) v e = (s, refl)
  replay_init none (c ∷ d ∷ cs) v e = replay_init none (d ∷ cs) v e
  replay_init (some s) (c ∷ d ∷ cs) v e = replay_init (then_one E (some s) c) (d ∷ cs) v e
