-- `queue::is_among` meets its contract: the indices in the rows are those of the requests.
use mathlib.Core.Path.{◌≡◌, refl, sym, ◌∙◌, ap}
use mathlib.Core.Bool.{Bool, true, false, cond, ◌||◌}
use mathlib.Core.List.{List, [], ◌∷◌}
use Prim.Native.Nat.{ℕ, ◌+◌, ◌-◌, ◌<◌}
use native.Mathlib.Omega.{arith}
use lib.Dec.{eqb}
use lib.ListN.{length, get_or, take, drop, length-drop}
use lib.Seq.{get_or-take, get_or-drop, length-take-le}
use Rattle.std.proofs.Common.{rules, tests}
use Rattle.std.proofs.lemmas.Iterator.{YieldsList-from_slice}
use Rattle.std.proofs.lemmas.Iterator.Search.{any_from_yields_List}
use Rattle.std.specs.List.{list_any}
use Rattle.engine.specs.State.{empty_request}
use Rattle.engine.specs.StateRows.{queue_from}
use Rattle.engine.specs.Queue.{is_queued}
use Rattle.engine.specs.declared.state.Request.{Request}
use Rattle.engine.proofs.PlaceByPlace.{any_alike}
use Rattle.engine.proofs.RequestRows.{queue_sixteen, request-in, index_in}
use Rattle.engine.proofs.queue.is_among.Goals as goal

any_request : (index : ℕ) (rs : List Request) → list_any (λ (r : Request). eqb r.index index) rs ≡ is_queued index rs
unfolding is_queued
any_request index [] = refl
any_request index (r ∷ rs) = go (eqb r.index index) ∙ ap (λ (b : Bool). cond (eqb r.index index) true b) (any_request index rs)
  where
    go : (t : Bool) → (t || list_any (λ (r : Request). eqb r.index index) rs) ≡ cond t true (list_any (λ (r : Request). eqb r.index index) rs)
    go true = refl
    go false = refl

pub returns : goal.returns
returns c =
    let a = c.args in
    let w = a.words.now in
    let n = a.n in
    let rows = take n (drop 161 w) in
    let queue = queue_from w in
    let long : length rows ≡ n = length-take-le n (drop 161 w) (omega (arith, length-drop 161 w, c.requires)) in
    let long' : length (take n queue) ≡ n = length-take-le n queue (omega (arith, queue_sixteen w)) in
    let width : 161 + n - 161 ≡ n = omega arith in
    let any = any_from_yields_List (λ (row : List ℕ). eqb (get_or row 4 0) a.index) c.any.new.self _ c.any.result c.any.ensures.ran
    (YieldsList-from_slice _ c.iter.ensures.rest) (λ x b q k. search (rules, tests)) in
    (rw width at any)
    ∙ any_alike _ (λ (r : Request). eqb r.index a.index) [] empty_request rows (take n queue) (long ∙ sym long')
    (λ i h.
    let l : i < n = omega arith in
    ap (λ (k : ℕ). eqb k a.index)
    (ap (λ (row : List ℕ). get_or row 4 0) (get_or-take n (drop 161 w) i [] l ∙ get_or-drop 161 w i [])
    ∙ sym (ap (λ (r : Request). r.index) (get_or-take n queue i empty_request l ∙ request-in w i empty_request (omega arith)) ∙ index_in (get_or w (161 + i) []))))
    ∙ any_request a.index (take n queue)
