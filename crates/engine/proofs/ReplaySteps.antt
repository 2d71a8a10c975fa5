-- What a replay that ends tells of the bytes that it runs, over any engine: a whole command at their front, and the replay of the rest.
use Prim.Native.Nat.{ℕ, zero, suc, ◌+◌, ◌≤◌, ◌<◌}
use native.Mathlib.Omega.{arith}
use mathlib.Core.Path.{◌≡◌, refl, sym, ap, ◌∙◌, subst}
use mathlib.Core.List.{[], ◌∷◌}
use mathlib.Core.Option.{Option, none, some}
use lib.ListN.{length, drop, length-drop, drop_of_length-le}
use lib.Seq.{length-take-le, drop-drop}
use Rattle.engine.specs.Engine.{Bytes, Performed, rejected, performed, Engine, Asked, reject, undo_last, carry_out, code, cut, classify}
use Rattle.engine.specs.ReplayInternals.{width_after, command_at, ReplayEnd, fails, ends, replay_from, replay_all}
use Rattle.engine.proofs.Replays.{Asks, asks, replay_end}

module _ (E : Engine) where
  fails_ends : (s before : E.State) (last : ℕ) → ◌≡◌ {A = ReplayEnd E} fails (ends s before last) → ⊥
  fails_ends s before last e = let z : ◌≡◌ {A = ℕ} 0 1 = cc in omega arith

  ends_last : (s before t prior : E.State) (last l : ℕ) → ◌≡◌ {A = ReplayEnd E} (ends s before last) (ends t prior l) → last ≡ l
  ends_last s before t prior last l e = cc

  -- the command at the front, from s at the place `at`
  pub record Front (s : E.State) (at : ℕ) (i : Bytes) (r : ReplayEnd E) : Type 0 where
    pub turns : ℕ
    pub next : E.State
    pub wide : 0 < E.width (code i)
    pub long : E.width (code i) ≤ length i
    pub goes : replay_from E turns next s at (at + E.width (code i)) (drop (E.width (code i)) i) ≡ r

  pub front_of : (k : ℕ) (s before : E.State) (last at : ℕ) (i : Bytes) → 0 < length i → (t prior : E.State) (l : ℕ)
      → replay_from E k s before last at i ≡ ends t prior l → Front s at i (ends t prior l)
  unfolding replay_from
  front_of k s before last at [] p t prior l e = absurd (omega arith)
  front_of zero s before last at (b ∷ bs) p t prior l e = absurd (fails_ends t prior l e)
  front_of (suc k) s before last at (b ∷ bs) p t prior l e = by_ask (classify E s (b ∷ bs)) refl e
    where
      Goes : Option (E.State × ℕ) → Type 0
      Goes o =
          ◌≡◌ {A = ReplayEnd E} (elim o [ none ↦ fails | some p ↦ replay_from E k p.0 s at (at + p.1) (drop p.1 (b ∷ bs)) ])
          (ends t prior l)

      by_did : (c : Bytes) → Asks E s (b ∷ bs) c → (d : Performed E.State E.Answer) → Goes (width_after E c d)
          → Front s at (b ∷ bs) (ends t prior l)
      by_did c a (rejected m) e = absurd (fails_ends t prior l e)
      by_did c a (performed u x) e =
          let ec : cut E (b ∷ bs) ≡ c = cc a.cutting in
          let w : length c ≡ E.width (code (b ∷ bs)) =
          ap length (sym ec) ∙ length-take-le (E.width (code (b ∷ bs))) (b ∷ bs) a.long in
          record {
            turns = k;
            next = u;
            wide = a.wide;
            long = a.long;
            goes = subst (λ (m : ℕ). replay_from E k u s at (at + m) (drop m (b ∷ bs)) ≡ ends t prior l) w e;
          }

      by_ask : (q : Asked) → classify E s (b ∷ bs) ≡ q → Goes (command_at E s q) → Front s at (b ∷ bs) (ends t prior l)
      by_ask (reject m) w e = absurd (fails_ends t prior l e)
      by_ask undo_last w e = absurd (fails_ends t prior l e)
      by_ask (carry_out c) w e = by_did c (asks E s (b ∷ bs) c w) (E.perform s c) e

  -- what is left of a replay at the place `at`, after the command at the place `last`
  pub record Rest (bytes : Bytes) (r : ReplayEnd E) (last at : ℕ) : Type 0 where
    pub turns : ℕ
    pub state : E.State
    pub prior : E.State
    pub goes : replay_from E turns state prior last at (drop at bytes) ≡ r

  module _ (bytes : Bytes) (t prior : E.State) (l : ℕ) where
    abbrev ending : ReplayEnd E
    ending = ends t prior l

    pub rest_begins : replay_all E bytes ≡ ending → Rest bytes ending 0 0
    unfolding replay_all
    rest_begins e = record { turns = length bytes; state = E.opened; prior = E.opened; goes = e }

    module _ (last at : ℕ) (r : Rest bytes ending last at) where
      pub rest_front : at < length bytes → Front r.state at (drop at bytes) ending
      rest_front h =
          front_of r.turns r.state r.prior last at (drop at bytes) (omega (arith, length-drop at bytes)) t prior l r.goes

      pub rest_goes_on : at < length bytes → (w : ℕ) → w ≡ E.width (code (drop at bytes)) → Rest bytes ending at (at + w)
      rest_goes_on h w e =
          let f = rest_front h in
          subst (λ (m : ℕ). Rest bytes ending at (at + m)) (sym e)
          (record {
            turns = f.turns;
            state = f.next;
            prior = r.state;
            goes =
                ap (replay_from E f.turns f.next r.state at (at + E.width (code (drop at bytes))))
                (sym (drop-drop (E.width (code (drop at bytes))) at bytes))
                ∙ f.goes;
          })

      pub rest_ends : length bytes ≤ at → last ≡ l
      rest_ends h =
          let e =
          sym (replay_end E r.turns r.state r.prior last at)
          ∙ ap (replay_from E r.turns r.state r.prior last at) (sym (drop_of_length-le bytes h))
          ∙ r.goes in
          ends_last r.state r.prior t prior last l e
