-- The commands that some bytes hold, over any engine: the split of commands' bytes gives them back, and the scan of the bytes finds what
-- the commands give, so that UNDO by the scan is UNDO.
use Prim.Native.Nat.{ℕ, zero, suc, ◌+◌, ◌-◌, ◌≤◌, ◌<◌}
use native.Mathlib.Omega.{arith}
use mathlib.Core.Path.{◌≡◌, refl, sym, ap, ap₂, ◌∙◌}
use mathlib.Core.Bool.{Bool, true, false, cond, true≢false}
use mathlib.Core.List.{List, [], ◌∷◌, ◌++◌}
use mathlib.Core.Option.{Option, none, some}
use lib.ListN.{length, take, drop, length-append, length-drop, get_or-append}
use lib.Seq.{take_all, take_at, drop_at, length-take-le, get_or-take}
use lib.Dec.{ltb, leb}
use borrow.Author.Tests.{ltb-true, leb-true, lt-ltb, le-leb}
use Rattle.hazards.proofs.Cases.{both_true}
use Rattle.engine.specs.Engine.{Bytes, Performed, rejected, performed, Engine, Asked, reject, undo_last, carry_out, code, concat, init}
use Rattle.engine.specs.Engine.{Outcome, cut, classify, unchanged, is_whole}
use Rattle.engine.specs.Replay.{state_of, after_one, replay, prepend, split_from, commands_in, revert_last, undo_in, undo}
use Rattle.engine.specs.Refusals.{nothing_applied}
use Rattle.engine.specs.ReplayInternals.{width_after, command_at, ReplayEnd, fails, ends, replay_from, replay_all, revert_to, undo_by_scan}
use Rattle.engine.proofs.CommandLists.{Whole, AllWhole}
use Rattle.engine.proofs.Replays.{Asks, asks, replay_none}

module _ (E : Engine) where
  -- ---- the split

  abbrev split_by : ℕ → Bytes → Bool → Option (List Bytes)
  split_by k i b = elim b [ true ↦ prepend E (cut E i) (split_from E k (drop (E.width (code i)) i)) | false ↦ none ]

  split_next : (k : ℕ) (i : Bytes) → 0 < length i → split_from E (suc k) i ≡ split_by k i (is_whole E.width i)
  unfolding split_from
  split_next k [] h = absurd (omega arith)
  split_next k (b ∷ bs) h = refl

  split_nothing : (k : ℕ) → split_from E k [] ≡ some []
  unfolding split_from
  split_nothing zero = refl
  split_nothing (suc k) = refl

  -- what it says that a whole command is at the front
  pub record Wide (i : Bytes) : Type 0 where
    pub wide : 0 < E.width (code i)
    pub long : E.width (code i) ≤ length i

  pub whole_wide : (i : Bytes) → is_whole E.width i ≡ true → Wide i
  whole_wide i e =
      let b = both_true (ltb 0 (E.width (code i))) (leb (E.width (code i)) (length i)) e in
      record { wide = ltb-true _ _ b.0; long = leb-true _ _ b.1 }

  pub wide_whole : (i : Bytes) → Wide i → is_whole E.width i ≡ true
  wide_whole i w = rw (lt-ltb 0 (E.width (code i)) w.wide, le-leb (E.width (code i)) (length i) w.long)

  -- more turns than bytes make no difference
  pub split_turns : (k m : ℕ) (i : Bytes) → length i ≤ k → length i ≤ m → split_from E k i ≡ split_from E m i
  split_turns zero m [] hk hm = split_nothing zero ∙ sym (split_nothing m)
  split_turns zero m (b ∷ bs) hk hm = absurd (omega arith)
  split_turns (suc k) m [] hk hm = split_nothing (suc k) ∙ sym (split_nothing m)
  split_turns (suc k) zero (b ∷ bs) hk hm = absurd (omega arith)
  split_turns (suc k) (suc m) (b ∷ bs) hk hm = go (is_whole E.width (b ∷ bs)) refl (λ j h₁ h₂. split_turns k m j h₁ h₂)
    where
      i : Bytes
      i = b ∷ bs

      go : (w : Bool) → is_whole E.width i ≡ w → ((j : Bytes) → length j ≤ k → length j ≤ m → split_from E k j ≡ split_from E m j)
          → split_from E (suc k) i ≡ split_from E (suc m) i
      go false e ih = split_next k i (omega arith) ∙ ap (split_by k i) e ∙ sym (split_next m i (omega arith) ∙ ap (split_by m i) e)
      go true e ih =
          let w : Wide i = whole_wide i e in
          let l : length (drop (E.width (code i)) i) ≡ length i - E.width (code i) = length-drop (E.width (code i)) i in
          split_next k i (omega arith)
          ∙ ap (split_by k i) e
          ∙ ap (prepend E (cut E i)) (ih (drop (E.width (code i)) i) (omega (arith, w.wide)) (omega (arith, w.wide)))
          ∙ sym (split_next m i (omega arith) ∙ ap (split_by m i) e)

  -- a whole command in front of other bytes
  split_front : (k : ℕ) (c rest : Bytes) → Whole E c → split_from E (suc k) (c ++ rest) ≡ prepend E c (split_from E k rest)
  split_front k c rest w =
      let i : Bytes = c ++ rest in
      let l : length i ≡ length c + length rest = length-append c rest in
      let e : code i ≡ code c = get_or-append c rest 0 0 w.pos in
      let n : length c ≡ E.width (code i) = w.len ∙ ap E.width (sym e) in
      let p : 0 < length c = w.pos in
      split_next k i (omega arith)
      ∙ ap (split_by k i) (wide_whole i (record { wide = omega arith; long = omega arith }))
      ∙ ap₂ (prepend E) (take_at c rest (E.width (code i)) n) (ap (split_from E k) (drop_at c rest (E.width (code i)) n))

  pub split_concat : (k : ℕ) (cs : List Bytes) → AllWhole E cs → length (concat cs) ≤ k → split_from E k (concat cs) ≡ some cs
  split_concat k [] w h = split_nothing k
  split_concat zero (c ∷ cs) w h = absurd (omega (arith, w.0.pos, length-append c (concat cs)))
  split_concat (suc k) (c ∷ cs) w h =
      split_front k c (concat cs) w.0
      ∙ ap (prepend E c) (split_concat k cs w.1 (omega (arith, w.0.pos, length-append c (concat cs))))

  -- ---- the scan of the bytes, by the commands that they hold

  abbrev in_commands : E.State → E.State → ℕ → ℕ → List Bytes → ReplayEnd E
  in_commands s prior last at [] = ends s prior last
  in_commands s prior last at (c ∷ cs) =
      elim (after_one E s (classify E s c)) [ none ↦ fails | some t ↦ in_commands t s at (at + length c) cs ]

  abbrev in_split : E.State → E.State → ℕ → ℕ → Option (List Bytes) → ReplayEnd E
  in_split s prior last at none = fails
  in_split s prior last at (some cs) = in_commands s prior last at cs

  -- the command at the front is asked for as it is asked for by itself
  classify_cut : (s : E.State) (i : Bytes) → Wide i → classify E s (cut E i) ≡ classify E s i
  unfolding classify
  classify_cut s i w =
      let e : code (cut E i) ≡ code i = get_or-take (E.width (code i)) i 0 0 w.wide in
      let n : length (cut E i) ≡ E.width (code i) = length-take-le (E.width (code i)) i w.long in
      let p : 0 < length i = omega (arith, w.wide, w.long) in
      simp (
        e,
        n,
        take_all (E.width (code i)) (cut E i) (omega arith),
        lt-ltb 0 (length i) p,
        lt-ltb 0 (E.width (code i)) w.wide,
        le-leb (E.width (code i)) (length i) w.long,
        le-leb (E.width (code i)) (E.width (code i)) (omega arith),
      )

  scan_split : (k : ℕ) (s prior : E.State) (last at : ℕ) (i : Bytes)
      → replay_from E k s prior last at i ≡ in_split s prior last at (split_from E k i)
  unfolding replay_from split_from
  scan_split zero s prior last at [] = refl
  scan_split zero s prior last at (b ∷ bs) = refl
  scan_split (suc k) s prior last at [] = refl
  scan_split (suc k) s prior last at (b ∷ bs) =
      by_whole (is_whole E.width i) refl (λ t l a j. scan_split k t s l a j)
    where
      i : Bytes
      i = b ∷ bs

      w : ℕ
      w = E.width (code i)

      Rest : Type 0
      Rest = (t : E.State) (l a : ℕ) (j : Bytes) → replay_from E k t s l a j ≡ in_split t s l a (split_from E k j)

      here : Option (E.State × ℕ) → ReplayEnd E
      here o = elim o [ none ↦ fails | some p ↦ replay_from E k p.0 s at (at + p.1) (drop p.1 i) ]

      next : Option E.State → Option (List Bytes) → ReplayEnd E
      next o none = fails
      next o (some cs) = elim o [ none ↦ fails | some t ↦ in_commands t s at (at + length (cut E i)) cs ]

      next_none : (r : Option (List Bytes)) → fails ≡ next none r
      next_none none = refl
      next_none (some cs) = refl

      next_some : (t : E.State) (r : Option (List Bytes)) → in_split t s at (at + length (cut E i)) r ≡ next (some t) r
      next_some t none = refl
      next_some t (some cs) = refl

      next_split : (r : Option (List Bytes))
          → next (after_one E s (classify E s (cut E i))) r ≡ in_split s prior last at (prepend E (cut E i) r)
      next_split none = refl
      next_split (some cs) = refl

      by_did : (c : Bytes) → cut E i ≡ c → length c ≡ w → (d : Performed E.State E.Answer) → Rest
          → here (width_after E c d) ≡ next (state_of E d) (split_from E k (drop w i))
      by_did c ec l (rejected m) ih = next_none (split_from E k (drop w i))
      by_did c ec l (performed t a) ih =
          ap (λ (m : ℕ). replay_from E k t s at (at + length c) (drop m i)) l
          ∙ ap (λ (x : Bytes). replay_from E k t s at (at + length x) (drop w i)) (sym ec)
          ∙ ih t at (at + length (cut E i)) (drop w i)
          ∙ next_some t (split_from E k (drop w i))

      by_ask : (q : Asked) → classify E s i ≡ q → Rest
          → here (command_at E s q) ≡ next (after_one E s q) (split_from E k (drop w i))
      by_ask (reject m) e ih = next_none (split_from E k (drop w i))
      by_ask undo_last e ih = next_none (split_from E k (drop w i))
      by_ask (carry_out c) e ih =
          let a : Asks E s i c = asks E s i c e in
          let ec : cut E i ≡ c = cc a.cutting in
          by_did c ec (ap length (sym ec) ∙ length-take-le w i a.long) (E.perform s c) ih

      not_whole : (q : Asked) → classify E s i ≡ q → is_whole E.width i ≡ false → here (command_at E s q) ≡ fails
      not_whole (reject m) e f = refl
      not_whole undo_last e f = refl
      not_whole (carry_out c) e f =
          let a : Asks E s i c = asks E s i c e in
          absurd (true≢false (sym (wide_whole i (record { wide = a.wide; long = a.long })) ∙ f))

      by_whole : (b : Bool) → is_whole E.width i ≡ b → Rest
          → here (command_at E s (classify E s i)) ≡ in_split s prior last at (split_by k i b)
      by_whole false e ih = not_whole (classify E s i) refl e
      by_whole true e ih =
          by_ask (classify E s i) refl ih
          ∙ ap (λ (q : Asked). next (after_one E s q) (split_from E k (drop w i))) (sym (classify_cut s i (whole_wide i e)))
          ∙ next_split (split_from E k (drop w i))

  -- the states that commands give, and the place of the last
  abbrev pub by_states : ℕ → Option E.State → Option E.State → ReplayEnd E
  by_states last none rest = fails
  by_states last (some all) none = fails
  by_states last (some all) (some rest) = ends all rest last

  in_states : (s prior : E.State) (last at : ℕ) (c : Bytes) (cs : List Bytes) → in_commands s prior last at (c ∷ cs)
      ≡ by_states (at + length (concat (init (c ∷ cs)))) (replay E (some s) (c ∷ cs)) (replay E (some s) (init (c ∷ cs)))
  unfolding replay
  in_states s prior last at c [] = go (after_one E s (classify E s c))
    where
      go : (o : Option E.State) → ◌≡◌ {A = ReplayEnd E} (elim o [ none ↦ fails | some t ↦ ends t s at ]) (by_states (at + 0) o (some s))
      go none = refl
      go (some t) = let z : at ≡ at + 0 = omega arith in ap (ends t s) z
  in_states s prior last at c (d ∷ cs) = go (after_one E s (classify E s c)) (λ t. in_states t s at (at + length c) d cs)
    where
      go : (o : Option E.State)
          → ((t : E.State) → in_commands t s at (at + length c) (d ∷ cs)
          ≡ by_states (at + length c + length (concat (init (d ∷ cs)))) (replay E (some t) (d ∷ cs)) (replay E (some t) (init (d ∷ cs))))
          → ◌≡◌ {A = ReplayEnd E} (elim o [ none ↦ fails | some t ↦ in_commands t s at (at + length c) (d ∷ cs) ])
          (by_states (at + length (c ++ concat (init (d ∷ cs)))) (replay E o (d ∷ cs)) (replay E o (init (d ∷ cs))))
      go none ih =
          ap (λ (o : Option E.State). by_states (at + length (c ++ concat (init (d ∷ cs)))) o (replay E none (init (d ∷ cs))))
          (sym (replay_none E (d ∷ cs)))
      go (some t) ih =
          let z : at + length c + length (concat (init (d ∷ cs))) ≡ at + length (c ++ concat (init (d ∷ cs))) =
          omega (arith, length-append c (concat (init (d ∷ cs)))) in
          ih t ∙ ap (λ (l : ℕ). by_states l (replay E (some t) (d ∷ cs)) (replay E (some t) (init (d ∷ cs)))) z

  abbrev pub replayed_in : Option (List Bytes) → ReplayEnd E
  replayed_in none = fails
  replayed_in (some cs) =
      by_states (length (concat (init cs))) (replay E (some E.opened) cs) (replay E (some E.opened) (init cs))

  -- the scan finds what the commands give
  pub scan_commands : (bytes : Bytes) → replay_all E bytes ≡ replayed_in (commands_in E bytes)
  unfolding replay_all
  scan_commands bytes = scan_split (length bytes) E.opened E.opened 0 0 bytes ∙ go (commands_in E bytes)
    where
      go : (o : Option (List Bytes)) → in_split E.opened E.opened 0 0 o ≡ replayed_in o
      go none = refl
      go (some []) = unfold replay in refl
      go (some (c ∷ cs)) =
          let z : 0 + length (concat (init (c ∷ cs))) ≡ length (concat (init (c ∷ cs))) = omega arith in
          in_states E.opened E.opened 0 0 c cs
          ∙ ap (λ (l : ℕ). by_states l (replay E (some E.opened) (c ∷ cs)) (replay E (some E.opened) (init (c ∷ cs)))) z

  -- UNDO by the scan is UNDO
  pub undo_scans : (s : E.State) (j : Bytes) → undo E s j ≡ undo_by_scan E s j
  unfolding undo
  undo_scans s j =
      ap (λ (o : Outcome E). cond (ltb 0 (E.applied_length s)) o (unchanged E s j nothing_applied))
      (over (commands_in E bytes) ∙ ap (revert_to E s j) (sym (scan_commands bytes)))
    where
      bytes : Bytes
      bytes = take (E.applied_length s) j

      by-states : (cs : List Bytes) (all rest : Option E.State)
          → revert_last E s j cs all rest ≡ revert_to E s j (by_states (length (concat (init cs))) all rest)
      by-states cs none rest = refl
      by-states cs (some all) none = refl
      by-states cs (some all) (some rest) = refl

      over : (o : Option (List Bytes)) → undo_in E s j o ≡ revert_to E s j (replayed_in o)
      over none = refl
      over (some cs) = by-states cs (replay E (some E.opened) cs) (replay E (some E.opened) (init cs))
