-- The replay of bytes in two parts, over any engine: the front's replay goes on in the rest, and a replay that ends is that of all but the
-- last command, then that command.
use mathlib.Core.Path.{◌≡◌, refl, sym, ap, ◌∙◌, subst}
use mathlib.Core.Bool.{true}
use mathlib.Core.List.{[], ◌∷◌}
use mathlib.Core.Option.{Option, none, some}
use Prim.Native.Nat.{ℕ, zero, suc, ◌+◌, ◌-◌, ◌≤◌, ◌<◌}
use native.Mathlib.Omega.{arith}
use borrow.Author.Tests.{ltb-true, ltb-false}
use lib.Dec.{ltb}
use lib.ListN.{length, take, drop, length-drop, drop_of_length-le}
use lib.Seq.{length-take-le, get_or-take, take-take, take-add, drop-drop, drop_at}
use Rattle.hazards.proofs.Cases.{by_test}
use Rattle.engine.specs.Commands as commands
use Rattle.engine.specs.Engine.{Bytes, Performed, rejected, performed, Engine, Asked, reject, undo_last, carry_out, code, cut, classify}
use Rattle.engine.specs.ReplayInternals.{width_after, command_at, ReplayEnd, fails, ends, replay_from, replay_all}
use Rattle.engine.proofs.CommandLists.{Whole}
use Rattle.engine.proofs.Supplied.{Sound}
use Rattle.engine.proofs.Replays.{Asks, asks, cut_whole, replay_end}
use Rattle.engine.proofs.Asking.{asks_command, replay_next, replay_fuel}

pub none_some : {A : Type 0} (a : A) → none ≡ some a → ⊥
none_some a e = let z : ◌≡◌ {A = ℕ} 0 1 = cc in omega arith

module _ (E : Engine) where
  -- ---- the command at the front

  -- it is w bytes wide and leaves the state t
  pub record Gives (s : E.State) (i : Bytes) (t : E.State) (w : ℕ) : Type 0 where
    pub ok : E.valid s ≡ true
    pub wide : 0 < w
    pub width : w ≡ E.width (code i)
    pub long : w ≤ length i
    pub other : code i ≡ commands.undo → ⊥
    pub answer : E.Answer
    pub did : E.perform s (take w i) ≡ performed t answer

  module _ (s : E.State) (i : Bytes) (t : E.State) (w : ℕ) where
    abbrev state_or : Option (E.State × ℕ) → E.State
    state_or none = t
    state_or (some p) = p.0

    abbrev width_or : Option (E.State × ℕ) → ℕ
    width_or none = 0
    width_or (some p) = p.1

    pub gives : command_at E s (classify E s i) ≡ some (t, w) → Gives s i t w
    gives = by_ask (classify E s i) refl
      where
        by_did : (c : Bytes) → Asks E s i c → (d : Performed E.State E.Answer) → E.perform s c ≡ d → width_after E c d ≡ some (t, w)
            → Gives s i t w
        by_did c k (rejected n) q e = absurd (none_some (t, w) e)
        by_did c k (performed u a) q e =
            let ec : cut E i ≡ c = cc k.cutting in
            let l : length c ≡ E.width (code i) = ap length (sym ec) ∙ length-take-le (E.width (code i)) i k.long in
            let ew : w ≡ E.width (code i) = sym (ap width_or e) ∙ l in
            record {
              ok = k.ok;
              wide = omega (arith, k.wide);
              width = ew;
              long = omega (arith, k.long);
              other = k.other;
              answer = a;
              did = ap (λ (m : ℕ). E.perform s (take m i)) ew ∙ ap (E.perform s) ec ∙ q ∙ ap (λ (x : E.State). performed x a) (ap state_or e);
            }

        by_ask : (k : Asked) → classify E s i ≡ k → command_at E s k ≡ some (t, w) → Gives s i t w
        by_ask (reject n) q e = absurd (none_some (t, w) e)
        by_ask undo_last q e = absurd (none_some (t, w) e)
        by_ask (carry_out c) q e = by_did c (asks E s i c q) (E.perform s c) refl e

    pub given : Gives s i t w → command_at E s (classify E s i) ≡ some (t, w)
    given g =
        let h : 0 < E.width (code i) = omega (arith, g.width, g.wide) in
        let l : E.width (code i) ≤ length i = omega (arith, g.width, g.long) in
        let c : cut E i ≡ take w i = ap (λ (m : ℕ). take m i) (sym g.width) in
        ap (command_at E s) (asks_command E s i g.ok (omega (arith, g.wide, g.long)) h l g.other ∙ ap carry_out c)
        ∙ ap (width_after E (take w i)) g.did
        ∙ ap (λ (m : ℕ). some (t, m)) (length-take-le w i g.long)

    pub gives_whole : Gives s i t w → Whole E (take w i)
    gives_whole g =
        subst (λ (m : ℕ). Whole E (take m i)) (sym g.width)
        (cut_whole E i (omega (arith, g.width, g.wide)) (omega (arith, g.width, g.long)) g.other)

    -- other bytes with the same command at their front
    pub gives_same : (j : Bytes) → take w j ≡ take w i → w ≤ length j → Gives s i t w → Gives s j t w
    gives_same j e l g =
        let same : code j ≡ code i =
        sym (get_or-take w j 0 0 g.wide) ∙ ap code e ∙ get_or-take w i 0 0 g.wide in
        record {
          ok = g.ok;
          wide = g.wide;
          width = g.width ∙ ap E.width (sym same);
          long = l;
          other = λ q. g.other (sym same ∙ q);
          answer = g.answer;
          did = ap (E.perform s) e ∙ g.did;
        }

  -- ---- a replay that ends

  fails_ends : (t prior : E.State) (l : ℕ) → ◌≡◌ {A = ReplayEnd E} fails (ends t prior l) → ⊥
  fails_ends t prior l e = let z : ◌≡◌ {A = ℕ} 0 1 = cc in omega arith

  -- its first command, and the rest
  pub record FirstTurn (k : ℕ) (s : E.State) (at : ℕ) (i : Bytes) (r : ReplayEnd E) : Type 0 where
    pub turns : ℕ
    pub more : k ≡ suc turns
    pub next : E.State
    pub width : ℕ
    pub first : Gives s i next width
    pub rest : replay_from E turns next s at (at + width) (drop width i) ≡ r

  pub first_turn : (k : ℕ) (s before : E.State) (last at : ℕ) (i : Bytes) → 0 < length i → (t prior : E.State) (l : ℕ)
      → replay_from E k s before last at i ≡ ends t prior l → FirstTurn k s at i (ends t prior l)
  unfolding replay_from
  first_turn k s before last at [] h t prior l e = absurd (omega arith)
  first_turn zero s before last at (b ∷ bs) h t prior l e = absurd (fails_ends t prior l e)
  first_turn (suc k) s before last at (b ∷ bs) h t prior l e = go (command_at E s (classify E s (b ∷ bs))) refl e
    where
      go : (o : Option (E.State × ℕ)) → command_at E s (classify E s (b ∷ bs)) ≡ o
          → ◌≡◌ {A = ReplayEnd E} (elim o [ none ↦ fails | some p ↦ replay_from E k p.0 s at (at + p.1) (drop p.1 (b ∷ bs)) ])
          (ends t prior l)
          → FirstTurn (suc k) s at (b ∷ bs) (ends t prior l)
      go none q e = absurd (fails_ends t prior l e)
      go (some p) q e = record {
        turns = k;
        more = refl;
        next = p.0;
        width = p.1;
        first = gives s (b ∷ bs) p.0 p.1 q;
        rest = e;
      }

  abbrev on_ends : {A : Type 0} → (E.State → E.State → ℕ → A) → A → ReplayEnd E → A
  on_ends g a fails = a
  on_ends g a (ends t prior l) = g t prior l

  abbrev HoldsAt : (E.State → Type 0) → ReplayEnd E → Type 0
  HoldsAt P fails = ⊥
  HoldsAt P (ends t prior l) = P t

  ended_sound : (P : E.State → Type 0) (k : ℕ) (s before : E.State) (last at : ℕ) (t prior : E.State) (l : ℕ) → P s
      → replay_from E k s before last at [] ≡ ends t prior l → P t
  ended_sound P k s before last at t prior l p e =
      subst (HoldsAt P) (sym (replay_end E k s before last at) ∙ e) p

  -- what holds of a claim that commands keep
  pub replay_sound : {P : E.State → Type 0} → Sound E P → (k : ℕ) (s before : E.State) (last at : ℕ) (i : Bytes) (t prior : E.State)
      (l : ℕ)
      → P s → replay_from E k s before last at i ≡ ends t prior l → P t
  replay_sound {P = P} S zero s before last at [] t prior l p e = ended_sound P zero s before last at t prior l p e
  replay_sound S zero s before last at (b ∷ bs) t prior l p e =
      let f = first_turn zero s before last at (b ∷ bs) (omega arith) t prior l e in
      absurd (omega (arith, f.more))
  replay_sound {P = P} S (suc k) s before last at [] t prior l p e = ended_sound P (suc k) s before last at t prior l p e
  replay_sound S (suc k) s before last at (b ∷ bs) t prior l p e =
      let f = first_turn (suc k) s before last at (b ∷ bs) (omega arith) t prior l e in
      let g = f.first in
      let j : f.turns ≡ k = omega (arith, f.more) in
      replay_sound S k f.next s at (at + f.width) (drop f.width (b ∷ bs)) t prior l
      (S.keeps s f.next (take f.width (b ∷ bs)) g.answer (gives_whole s (b ∷ bs) f.next f.width g) p g.did)
      (ap (λ (m : ℕ). replay_from E m f.next s at (at + f.width) (drop f.width (b ∷ bs))) (sym j) ∙ f.rest)

  -- ---- in two parts

  drop-front : (w m : ℕ) (i : Bytes) → w ≤ m → w ≤ length i → drop w (take m i) ≡ take (m - w) (drop w i)
  drop-front w m i h l =
      let e : m ≡ w + (m - w) = omega arith in
      ap (λ (x : ℕ). drop w (take x i)) e
      ∙ (ap (drop w) (take-add w (m - w) i) ∙ drop_at (take w i) (take (m - w) (drop w i)) w (length-take-le w i l))

  nothing_front : (j k m' : ℕ) (s before : E.State) (last at : ℕ) (i : Bytes) → length i ≤ k → length i ≤ m' → (t prior : E.State) (l : ℕ)
      → replay_from E j s before last at [] ≡ ends t prior l → replay_from E k s before last at i ≡ replay_from E m' t prior l (at + 0) i
  nothing_front j k m' s before last at i hk hm t prior l e =
      let z : at ≡ at + 0 = omega arith in
      replay_fuel E k m' s before last at i hk hm
      ∙ (ap (λ (x : ℕ). replay_from E m' s before last x i) z
      ∙ ap (on_ends (λ x y p. replay_from E m' x y p (at + 0) i) fails) (sym (replay_end E j s before last at) ∙ e))

  -- where the front ends, the whole goes on in the rest
  pub replay_front : (j k m' : ℕ) (s before : E.State) (last at m : ℕ) (i : Bytes) → m ≤ length i → length i ≤ k → length i ≤ m + m'
      → (t prior : E.State) (l : ℕ) → replay_from E j s before last at (take m i) ≡ ends t prior l
      → replay_from E k s before last at i ≡ replay_from E m' t prior l (at + m) (drop m i)
  replay_front zero k m' s before last at zero i h hk hm t prior l e = nothing_front zero k m' s before last at i hk (omega arith) t prior l e
  replay_front zero k m' s before last at (suc m) i h hk hm t prior l e =
      let n = length-take-le (suc m) i h in
      let f = first_turn zero s before last at (take (suc m) i) (omega arith) t prior l e in
      absurd (omega (arith, f.more))
  replay_front (suc j) k m' s before last at zero i h hk hm t prior l e =
      nothing_front (suc j) k m' s before last at i hk (omega arith) t prior l e
  replay_front (suc j) k m' s before last at (suc m) i h hk hm t prior l e =
      let n = length-take-le (suc m) i h in
      let f = first_turn (suc j) s before last at (take (suc m) i) (omega arith) t prior l e in
      let w = f.width in
      let g = f.first in
      let fits : w ≤ suc m = omega (arith, g.long) in
      let long : w ≤ length i = omega arith in
      let wide : 0 < w = g.wide in
      let here = gives_same s (take (suc m) i) f.next w i (sym (take-take w (suc m) i fits)) long g in
      let jj : j ≡ f.turns = omega (arith, f.more) in
      let kk : k ≡ suc (k - 1) = omega arith in
      let aa : at + w + (suc m - w) ≡ at + suc m = omega arith in
      let dd : w + (suc m - w) ≡ suc m = omega arith in
      let ld = length-drop w i in
      let rest : replay_from E j f.next s at (at + w) (take (suc m - w) (drop w i)) ≡ ends t prior l =
      ap (replay_from E j f.next s at (at + w)) (sym (drop-front w (suc m) i fits long))
      ∙ (ap (λ (x : ℕ). replay_from E x f.next s at (at + w) (drop w (take (suc m) i))) jj ∙ f.rest) in
      ap (λ (x : ℕ). replay_from E x s before last at i) kk
      ∙ (replay_next E (k - 1) s before last at i (f.next, w) (omega arith) (given s i f.next w here)
      ∙ (replay_front j (k - 1) m' f.next s at (at + w) (suc m - w) (drop w i) (omega arith) (omega arith) (omega arith) t prior l rest
      ∙ (ap (λ (x : ℕ). replay_from E m' t prior l x (drop (suc m - w) (drop w i))) aa
      ∙ ap (replay_from E m' t prior l (at + suc m)) (drop-drop (suc m - w) w i ∙ ap (λ (x : ℕ). drop x i) dd))))

  -- the last command of a replay from the place `at`: all before it end in the state that it runs in, and it reaches the bytes' end
  pub record LastTurn (k : ℕ) (s before : E.State) (last at : ℕ) (i : Bytes) (t prior : E.State) (l : ℕ) : Type 0 where
    pub from : at ≤ l
    pub earlier : E.State
    pub place : ℕ
    pub front : replay_from E k s before last at (take (l - at) i) ≡ ends prior earlier place
    pub turn : Gives prior (drop (l - at) i) t (length i - (l - at))

  abbrev LastAt : (k : ℕ) (s before : E.State) (last at : ℕ) (i : Bytes) → ReplayEnd E → Type 0
  LastAt k s before last at i fails = ⊥
  LastAt k s before last at i (ends t prior l) = LastTurn k s before last at i t prior l

  -- the first command is the last
  only_turn : (k : ℕ) (s before : E.State) (last at : ℕ) (i : Bytes) (t : E.State) (w : ℕ) → Gives s i t w → length i ≤ w
      → LastTurn k s before last at i t s at
  only_turn k s before last at i t w g h =
      let z : at - at ≡ 0 = omega arith in
      let n : length i - 0 ≡ w = omega (arith, g.long) in
      record {
        from = omega arith;
        earlier = before;
        place = last;
        front = rw z (replay_end E k s before last at);
        turn = rw (z, n) g;
      }

  -- it is the last of the rest
  later_turn : (k : ℕ) (s before : E.State) (last at : ℕ) (i : Bytes) (u : E.State) (w : ℕ) → Gives s i u w → (t prior : E.State) (l : ℕ)
      → LastTurn k u s at (at + w) (drop w i) t prior l → LastTurn (suc k) s before last at i t prior l
  later_turn k s before last at i u w g t prior l q =
      let from = q.from in
      let long = g.long in
      let fits : w ≤ l - at = omega arith in
      let n : l - at - w ≡ l - (at + w) = omega arith in
      let d : w + (l - (at + w)) ≡ l - at = omega arith in
      let r : length (drop w i) - (l - (at + w)) ≡ length i - (l - at) = omega (arith, length-drop w i) in
      let ends-in : l - at ≤ length i = omega (arith, length-drop w i, q.turn.wide) in
      let here = gives_same s i u w (take (l - at) i) (take-take w (l - at) i fits) (omega (arith, length-take-le (l - at) i ends-in)) g in
      record {
        from = omega arith;
        earlier = q.earlier;
        place = q.place;
        front =
            replay_next E k s before last at (take (l - at) i) (u, w) (omega (arith, here.wide, here.long))
            (given s (take (l - at) i) u w here)
            ∙ (ap (replay_from E k u s at (at + w)) (drop-front w (l - at) i fits long ∙ ap (λ (m : ℕ). take m (drop w i)) n) ∙ q.front);
        turn = rw (drop-drop (l - (at + w)) w i, d, r) at q.turn;
      }

  pub last_turn : (k : ℕ) (s before : E.State) (last at : ℕ) (i : Bytes) → 0 < length i → (t prior : E.State) (l : ℕ)
      → replay_from E k s before last at i ≡ ends t prior l → LastTurn k s before last at i t prior l
  last_turn zero s before last at i h t prior l e =
      let f = first_turn zero s before last at i h t prior l e in
      absurd (omega (arith, f.more))
  last_turn (suc k) s before last at i h t prior l e =
      let f = first_turn (suc k) s before last at i h t prior l e in
      let w = f.width in
      let j : k ≡ f.turns = omega (arith, f.more) in
      let rest : replay_from E k f.next s at (at + w) (drop w i) ≡ ends t prior l =
      ap (λ (m : ℕ). replay_from E m f.next s at (at + w) (drop w i)) j ∙ f.rest in
      by_test (ltb w (length i))
      (λ b.
      later_turn k s before last at i f.next w f.first t prior l
      (last_turn k f.next s at (at + w) (drop w i) (omega (arith, length-drop w i, ltb-true w (length i) b)) t prior l rest))
      (λ b.
      let past : length i ≤ w = ltb-false w (length i) b in
      subst (LastAt (suc k) s before last at i)
      (sym (replay_end E k f.next s at (at + w))
      ∙ (ap (replay_from E k f.next s at (at + w)) (sym (drop_of_length-le i past)) ∙ rest))
      (only_turn (suc k) s before last at i f.next w f.first past))

  -- ---- from opening

  -- a replay that ends, by its last command
  pub record LastOf (bytes : Bytes) (t prior : E.State) (l : ℕ) : Type 0 where
    pub earlier : E.State
    pub place : ℕ
    pub front : replay_all E (take l bytes) ≡ ends prior earlier place
    pub turn : Gives prior (drop l bytes) t (length bytes - l)

  module _ (bytes : Bytes) (t prior : E.State) (l : ℕ) where
    pub all_sound : {P : E.State → Type 0} → Sound E P → replay_all E bytes ≡ ends t prior l → P t
    unfolding replay_all
    all_sound S e = replay_sound S (length bytes) E.opened E.opened 0 0 bytes t prior l S.opens e

    pub all-front : (m : ℕ) → m ≤ length bytes → replay_all E (take m bytes) ≡ ends t prior l
        → replay_all E bytes ≡ replay_from E (length bytes - m) t prior l m (drop m bytes)
    unfolding replay_all
    all-front m h e =
        let z : 0 + m ≡ m = omega arith in
        replay_front (length (take m bytes)) (length bytes) (length bytes - m) E.opened E.opened 0 0 m bytes h (omega arith)
        (omega arith) t prior l e
        ∙ ap (λ (at : ℕ). replay_from E (length bytes - m) t prior l at (drop m bytes)) z

    pub all-last : 0 < length bytes → replay_all E bytes ≡ ends t prior l → LastOf bytes t prior l
    unfolding replay_all
    all-last h e =
        let q = last_turn (length bytes) E.opened E.opened 0 0 bytes h t prior l e in
        let z : l - 0 ≡ l = omega arith in
        let within : l ≤ length bytes = omega (arith, q.turn.wide) in
        let n = length-take-le l bytes within in
        record {
          earlier = q.earlier;
          place = q.place;
          front =
              replay_fuel E (length (take l bytes)) (length bytes) E.opened E.opened 0 0 (take l bytes) (omega arith) (omega arith)
              ∙ (rw z at q.front);
          turn = rw z at q.turn;
        }
