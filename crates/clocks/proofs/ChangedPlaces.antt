-- The eight places after a channel is put in or taken out, and after a change of each used channel: how many there are, which channels are
-- used and what the unused places hold.
use mathlib.Core.Path.{◌≡◌, ◌∙◌, ap}
use mathlib.Core.List.{List, [], ◌∷◌, ◌++◌, map}
use Prim.Native.Nat.{ℕ, suc, ◌+◌, ◌-◌, ◌<◌, ◌≤◌}
use native.Mathlib.Numerals.{add-one}
use native.Mathlib.Omega.{arith}
use lib.ListN.{length, take, drop, replicate, length-append, length-take, length-drop, length-map}
use lib.ListN.{length-replicate, replicate-append-replicate}
use lib.Seq.{length-take-le, take-append-add, drop-append-add, take-append-le, drop-append-le, take-take, drop-drop, take_at, drop_at}
use Rattle.hazards.proofs.Bytes.{drop-take}
use Rattle.clocks.specs.Channels.{empty_channel, on_used, insert_at, remove_at}
use Rattle.clocks.specs.declared.channels.HazardChannelState.{HazardChannelState}
use Rattle.clocks.proofs.AscendingCauses.{put_in, taken_out}

-- ---- lists
module _ {A : Type 0} where
  take_past : (xs ys : List A) (n i : ℕ) → length xs ≡ n → take (n + i) (xs ++ ys) ≡ xs ++ take i ys
  take_past xs ys n i e = rw (← e) (take-append-add xs ys i)

  drop_past : (xs ys : List A) (n i : ℕ) → length xs ≡ n → drop (n + i) (xs ++ ys) ≡ drop i ys
  drop_past xs ys n i e = rw (← e) (drop-append-add xs ys i)

  one_more : (n : ℕ) (a : A) → replicate n a ++ (a ∷ []) ≡ replicate (suc n) a
  one_more n a = replicate-append-replicate n 1 a ∙ ap (λ (i : ℕ). replicate i a) (add-one n)

  one_less : (n : ℕ) (a : A) → take n (replicate (suc n) a) ≡ replicate n a
  one_less n a = rw (← one_more) (take_at (replicate n a) (a ∷ []) n (length-replicate n a))

-- n places that hold the empty channel
abbrev pub empties : ℕ → List HazardChannelState
empties n = replicate n empty_channel

module _ (cs : List HazardChannelState) (eight : length cs ≡ 8) where
  before : (at : ℕ) → at ≤ 8 → length (take at cs) ≡ at
  before at h = length-take-le at cs (omega arith)

  -- ---- put in after `at` used channels and before m of them
  module _ (at m : ℕ) (c : HazardChannelState) (room : at + m ≤ 7) where
    inserted_between : take (at + suc m) (insert_at at c cs) ≡ put_in c at (take (at + m) cs)
    unfolding insert_at
    inserted_between =
        rw (
          take_past (take at cs) (c ∷ take (7 - at) (drop at cs)) at (suc m) (before at (omega arith)),
          take-take m (7 - at) (drop at cs) (omega arith),
          take-take at (at + m) cs (omega arith),
          drop-take at m cs,
        )

    inserted_rest : drop (at + m) cs ≡ empties (8 - (at + m)) → drop (at + suc m) (insert_at at c cs) ≡ empties (8 - (at + suc m))
    unfolding insert_at
    inserted_rest e =
        let r = 8 - (at + suc m) in
        let p : 7 - at ≡ m + r = omega arith in
        let q : 8 - (at + m) ≡ suc r = omega arith in
        drop_past (take at cs) (c ∷ take (7 - at) (drop at cs)) at (suc m) (before at (omega arith))
        ∙ rw (p, drop-take m r (drop at cs), drop-drop, e, q) (one_less r empty_channel)

  module _ (at count : ℕ) (c : HazardChannelState) (within : at ≤ count) (room : count ≤ 7) where
    parts : at + (count - at) ≡ count
    parts = omega arith

    parts_more : at + suc (count - at) ≡ count + 1
    parts_more = omega arith

    pub inserted_places : length (insert_at at c cs) ≡ 8
    unfolding insert_at
    inserted_places = simp (length-append, length-take, length-drop, eight) (omega arith)

    pub inserted_used : take (count + 1) (insert_at at c cs) ≡ put_in c at (take count cs)
    inserted_used = rw (parts_more, parts) at (inserted_between at (count - at) c (omega arith))

    pub inserted_unused : drop count cs ≡ empties (8 - count) → drop (count + 1) (insert_at at c cs) ≡ empties (8 - (count + 1))
    inserted_unused e = rw parts_more at (inserted_rest at (count - at) c (omega arith) (rw parts e))

  -- ---- taken out after `at` used channels and before m of them
  module _ (at m : ℕ) (within : at + suc m ≤ 8) where
    removed_between : take (at + m) (remove_at at cs) ≡ taken_out at (take (at + suc m) cs)
    unfolding remove_at
    removed_between =
        let e : at + suc m ≡ suc at + m = omega arith in
        rw (
          take_past (take at cs) (drop (at + 1) cs ++ (empty_channel ∷ [])) at m (before at (omega arith)),
          take-append-le m (drop (at + 1) cs) (empty_channel ∷ []) (simp (length-drop, eight) (omega arith)),
          take-take at (at + suc m) cs (omega arith),
          e,
          drop-take (suc at) m cs,
          add-one,
        )

    removed_rest : drop (at + suc m) cs ≡ empties (8 - (at + suc m)) → drop (at + m) (remove_at at cs) ≡ empties (8 - (at + m))
    unfolding remove_at
    removed_rest e =
        let p : at + 1 + m ≡ at + suc m = omega arith in
        let q : 8 - (at + m) ≡ suc (8 - (at + suc m)) = omega arith in
        drop_past (take at cs) (drop (at + 1) cs ++ (empty_channel ∷ [])) at m (before at (omega arith))
        ∙ drop-append-le m (drop (at + 1) cs) (empty_channel ∷ []) (simp (length-drop, eight) (omega arith))
        ∙ rw (drop-drop, p, e, q) (one_more (8 - (at + suc m)) empty_channel)

  module _ (at count : ℕ) (within : at < count) (few : count ≤ 8) where
    parts_before : at + suc (count - suc at) ≡ count
    parts_before = omega arith

    parts_less : at + (count - suc at) ≡ count - 1
    parts_less = omega arith

    pub removed_places : length (remove_at at cs) ≡ 8
    unfolding remove_at
    removed_places = simp (length-append, length-take, length-drop, eight) (omega arith)

    pub removed_used : take (count - 1) (remove_at at cs) ≡ taken_out at (take count cs)
    removed_used = rw (parts_before, parts_less) at (removed_between at (count - suc at) (omega arith))

    pub removed_unused : drop count cs ≡ empties (8 - count) → drop (count - 1) (remove_at at cs) ≡ empties (8 - (count - 1))
    removed_unused e = rw parts_less at (removed_rest at (count - suc at) (omega arith) (rw parts_before e))

  -- ---- a change of each used channel
  module _ (f : HazardChannelState → HazardChannelState) (count : ℕ) (few : count ≤ 8) where
    changed-length : length (map f (take count cs)) ≡ count
    changed-length = rw length-map (before count few)

    pub changed_used : take count (on_used f count cs) ≡ map f (take count cs)
    unfolding on_used
    changed_used = take_at (map f (take count cs)) (drop count cs) count changed-length

    pub changed_unused : drop count (on_used f count cs) ≡ drop count cs
    unfolding on_used
    changed_unused = drop_at (map f (take count cs)) (drop count cs) count changed-length
