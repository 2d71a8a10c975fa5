-- Laws of lists that the journal needs: zeros after the applied bytes, the concatenation of commands, and parts of the journal.
use Prim.Native.Nat.{ℕ, zero, suc, ◌+◌, ◌-◌, ◌≤◌, ◌<◌}
use native.Mathlib.Nat.{add-zero, sub-zero, zero-sub, suc-sub-suc}
use native.Mathlib.Omega.{arith}
use mathlib.Core.Path.{◌≡◌, refl, sym, ap, ◌∙◌}
use mathlib.Core.List.{List, [], ◌∷◌, ◌++◌, append_assoc, append-nil}
use lib.ListN.{length-drop, drop_of_length-le, length, get_or, take, drop, set, replicate, length-append, length-replicate}
use lib.ListN.{replicate-append-replicate, length-set}
use lib.Seq.{take_all, paste, take_at, drop_at, take-length, drop-append-add, length-take-le, drop-drop, get_or-drop}
use Rattle.engine.proofs.Overwritten.{fill_next}
use Rattle.engine.specs.Engine.{Bytes, concat, init, code}

pub drop-replicate : (k m : ℕ) (a : ℕ) → drop k (replicate m a) ≡ replicate (m - k) a
drop-replicate zero m a = ap (λ (i : ℕ). replicate i a) (sym (sub-zero m))
drop-replicate (suc k) zero a = ap (λ (i : ℕ). replicate i a) (sym (zero-sub (suc k)))
drop-replicate (suc k) (suc m) a = drop-replicate k m a ∙ ap (λ (i : ℕ). replicate i a) (sym (suc-sub-suc m k))

pub concat-append : (cs ds : List Bytes) → concat (cs ++ ds) ≡ concat cs ++ concat ds
concat-append [] ds = refl
concat-append (c ∷ cs) ds = ap (λ (l : Bytes). c ++ l) (concat-append cs ds) ∙ sym (append_assoc c (concat cs) (concat ds))

pub concat_snoc : (cs : List Bytes) (c : Bytes) → concat (cs ++ (c ∷ [])) ≡ concat cs ++ c
concat_snoc cs c = concat-append cs (c ∷ []) ∙ ap (λ (l : Bytes). concat cs ++ l) (append-nil c)

-- a list with something in it is all but its last, and its last
pub split_last : (c : Bytes) (cs : List Bytes) → (d : Bytes) × (c ∷ cs ≡ init (c ∷ cs) ++ (d ∷ []))
split_last c [] = (c, refl)
split_last c (e ∷ cs) = ((split_last e cs).0, ap (λ (l : List Bytes). c ∷ l) (split_last e cs).1)

-- all but the last of a list with c at its end
pub init_snoc : (cs : List Bytes) (c : Bytes) → init (cs ++ (c ∷ [])) ≡ cs
init_snoc [] c = refl
init_snoc (d ∷ []) c = refl
init_snoc (d ∷ e ∷ cs) c = ap (λ (l : List Bytes). d ∷ l) (init_snoc (e ∷ cs) c)

-- a command written behind the bytes p, over zeros
pub write_zeros : (p c : Bytes) (k m : ℕ) → length p ≡ k → length c ≤ m
    → paste (p ++ replicate m 0) k c (length c) ≡ (p ++ c) ++ replicate (m - length c) 0
write_zeros p c k m e h =
    ap (λ (l : Bytes). l ++ take (length c) c ++ drop (k + length c) (p ++ replicate m 0)) (take_at p (replicate m 0) k e)
    ∙ ap (λ (l : Bytes). p ++ l ++ drop (k + length c) (p ++ replicate m 0)) (take-length c)
    ∙ ap (λ (i : ℕ). p ++ c ++ drop (i + length c) (p ++ replicate m 0)) (sym e)
    ∙ ap (λ (l : Bytes). p ++ c ++ l) (drop-append-add p (replicate m 0) (length c) ∙ drop-replicate (length c) m 0)

-- the bytes d behind p zeroed again, before zeros
pub blank_zeros : (p d : Bytes) (e m : ℕ) → e ≡ length p + length d
    → take (length p) ((p ++ d) ++ replicate m 0) ++ replicate (e - length p) 0 ++ drop e ((p ++ d) ++ replicate m 0)
    ≡ p ++ replicate (length d + m) 0
blank_zeros p d e m h =
    let j : Bytes = (p ++ d) ++ replicate m 0 in
    let h₁ : take (length p) j ≡ p =
    ap (λ (l : Bytes). take (length p) l) (append_assoc p d (replicate m 0)) ∙ take_at p (d ++ replicate m 0) (length p) refl in
    let h₂ : drop e j ≡ replicate m 0 = drop_at (p ++ d) (replicate m 0) e (length-append p d ∙ sym h) in
    let h₃ : e - length p ≡ length d = omega arith in
    ap (λ (l : Bytes). l ++ replicate (e - length p) 0 ++ drop e j) h₁
    ∙ ap (λ (l : Bytes). p ++ replicate (e - length p) 0 ++ l) h₂
    ∙ ap (λ (i : ℕ). p ++ replicate i 0 ++ replicate m 0) h₃
    ∙ append_assoc p (replicate (length d) 0) (replicate m 0)
    ∙ ap (λ (l : Bytes). p ++ l) (replicate-append-replicate (length d) m 0)

-- zero stored at place i, then at each of the n places behind it
unfoldable pub zeros_stored : Bytes → ℕ → ℕ → Bytes
zeros_stored x i zero = set x i 0
zeros_stored x i (suc n) = set (zeros_stored x i n) (i + suc n) 0

pub stored-length : (x : Bytes) (i n : ℕ) → length (zeros_stored x i n) ≡ length x
unfolding zeros_stored
stored-length x i zero = length-set x i 0
stored-length x i (suc n) = length-set (zeros_stored x i n) (i + suc n) 0 ∙ stored-length x i n

-- so many zeros more over the front of d
pub zeros_next : (d x : Bytes) (i n k : ℕ) → k ≡ i + n + 1 → i + n < length d → x ≡ replicate i 0 ++ drop i d
    → zeros_stored x i n ≡ replicate k 0 ++ drop k d
unfolding zeros_stored
zeros_next d x i zero k e h q = fill_next 0 d x i k (omega arith) (omega arith) q
zeros_next d x i (suc n) k e h q =
    fill_next 0 d (zeros_stored x i n) (i + suc n) k e h (zeros_next d x i n (i + suc n) (omega arith) (omega arith) q)

-- zeros over the front of d up to e: the first k are there, the rest is a part of its own
pub zeros_joined : (d x z : Bytes) (k e : ℕ) → k ≤ e → e ≤ length d → x ≡ replicate k 0 ++ drop k d
    → z ≡ replicate (length (take (e - k) (drop k x))) 0 → take k x ++ (z ++ drop (e - k) (drop k x)) ≡ replicate e 0 ++ drop e d
zeros_joined d x z k e h₁ h₂ q p =
    let f : take k x ≡ replicate k 0 = ap (λ (l : Bytes). take k l) q ∙ take_at (replicate k 0) (drop k d) k (length-replicate k 0) in
    let r : drop k x ≡ drop k d = ap (λ (l : Bytes). drop k l) q ∙ drop_at (replicate k 0) (drop k d) k (length-replicate k 0) in
    let n : length (take (e - k) (drop k d)) ≡ e - k = length-take-le (e - k) (drop k d) (omega (arith, length-drop k d)) in
    let s : k + (e - k) ≡ e = omega arith in
    ap (λ (l : Bytes). l ++ (z ++ drop (e - k) (drop k x))) f
    ∙ ap (λ (l : Bytes). replicate k 0 ++ (l ++ drop (e - k) (drop k x))) p
    ∙ ap (λ (l : Bytes). replicate k 0 ++ (replicate (length (take (e - k) l)) 0 ++ drop (e - k) l)) r
    ∙ ap (λ (m : ℕ). replicate k 0 ++ (replicate m 0 ++ drop (e - k) (drop k d))) n
    ∙ ap (λ (l : Bytes). replicate k 0 ++ (replicate (e - k) 0 ++ l)) (drop-drop (e - k) k d)
    ∙ sym (append_assoc (replicate k 0) (replicate (e - k) 0) (drop (k + (e - k)) d))
    ∙ ap (λ (l : Bytes). l ++ drop (k + (e - k)) d) (replicate-append-replicate k (e - k) 0)
    ∙ ap (λ (m : ℕ). replicate m 0 ++ drop m d) s

-- a part of the journal from k, with its front replaced by s
pub paste_part : (j s : Bytes) (k : ℕ) → take k j ++ (s ++ drop (length s) (drop k j)) ≡ paste j k s (length s)
paste_part j s k =
    sym (append_assoc (take k j) s (drop (length s) (drop k j)))
    ∙ ap (λ (l : Bytes). take k j ++ s ++ l) (drop-drop (length s) k j)
    ∙ ap (λ (l : Bytes). take k j ++ l ++ drop (k + length s) j) (sym (take-length s))

-- the parts that are lent: from k to the end, and w bytes from k on
abbrev pub rest_of : Bytes → ℕ → Bytes
rest_of j k = take (length j - k) (drop k j)

abbrev pub part_of : Bytes → ℕ → ℕ → Bytes
part_of j k w = take (k + w - k) (drop k j)

pub part-of : (j : Bytes) (k w : ℕ) → part_of j k w ≡ take w (drop k j)
part-of j k w = let e : k + w - k ≡ w = omega arith in ap (λ (m : ℕ). take m (drop k j)) e

-- a part from k to the end is all that is behind k
pub part-all : (j : Bytes) (k : ℕ) → take (length j - k) (drop k j) ≡ drop k j
part-all j k = take_all (length j - k) (drop k j) (omega (arith, length-drop k j))

-- nothing is behind the end of such a part
pub past_part : (j : Bytes) (k : ℕ) → k ≤ length j → drop (length j - k) (drop k j) ≡ []
past_part j k h = let l : length (drop k j) ≤ length j - k = omega (arith, length-drop k j) in drop_of_length-le (drop k j) l

-- zero over the front of the part of the journal from k
pub zeroed_part : (j z : Bytes) (k e : ℕ) → k ≤ e → e ≤ length j → z ≡ replicate (e - k) 0 ++ drop (e - k) (take (length j - k) (drop k j))
    → take k j ++ (z ++ drop (length j - k) (drop k j)) ≡ take k j ++ replicate (e - k) 0 ++ drop e j
zeroed_part j z k e h₁ h₂ q =
    let n : k + (e - k) ≡ e = omega arith in
    ap (λ (l : Bytes). take k j ++ (z ++ l)) (past_part j k (omega arith))
    ∙ ap (λ (l : Bytes). take k j ++ l) (append-nil z)
    ∙ ap (λ (l : Bytes). take k j ++ l) q
    ∙ ap (λ (l : Bytes). take k j ++ (replicate (e - k) 0 ++ drop (e - k) l)) (part-all j k)
    ∙ ap (λ (l : Bytes). take k j ++ (replicate (e - k) 0 ++ l)) (drop-drop (e - k) k j ∙ ap (λ (x : ℕ). drop x j) n)
    ∙ sym (append_assoc (take k j) (replicate (e - k) 0) (drop e j))

-- a command over the front of the part of the journal from k
pub pasted_part : (j z c : Bytes) (k : ℕ) → k ≤ length j → z ≡ c ++ drop (length c) (take (length j - k) (drop k j))
    → take k j ++ (z ++ drop (length j - k) (drop k j)) ≡ paste j k c (length c)
pasted_part j z c k h q =
    ap (λ (l : Bytes). take k j ++ (z ++ l)) (past_part j k h)
    ∙ ap (λ (l : Bytes). take k j ++ l) (append-nil z)
    ∙ ap (λ (l : Bytes). take k j ++ l) q
    ∙ ap (λ (l : Bytes). take k j ++ (c ++ drop (length c) l)) (part-all j k)
    ∙ paste_part j c k

-- the code of what begins at a place
pub code_at : (bytes : Bytes) (at : ℕ) → code (drop at bytes) ≡ get_or bytes at 0
code_at bytes at = get_or-drop at bytes 0 0 ∙ ap (λ (k : ℕ). get_or bytes k 0) (add-zero at)
