-- What the code's answers mean: the request that the queue gives, and what its inner functions leave of the rows: requests moved to the
-- first places, and places emptied.
use Rattle.std.specs.Prelude as std
use Rattle.std.specs.Prelude.{Some, None, ◌≡◌, List, [], ◌++◌, ℕ, ◌-◌, ◌≤◌, length, get_or, take, replicate}
use Rattle.std.proofs.Math.Option.{Option, none, some}
use Rattle.engine.specs.declared.state.Request.{Request}
use Rattle.clocks.specs.Layout.{WordRows}
use Rattle.engine.specs.State.{empty_request}
use Rattle.engine.specs.StateRows.{queue_from, CodedShared}

abbrev pub pick_of : std.Option Request → Option Request
pick_of None = none
pick_of (Some r) = some r

-- only rows of requests are changed: the counts and the clocks' rows are those of w
pub record KeepsRest (w w' : WordRows) : Type 0 where
  pub counts : get_or w' 160 [] ≡ get_or w 160 []
  pub clocks : take 160 w' ≡ take 160 w
  pub coded : CodedShared w → CodedShared w'

-- rs stand in the first places of w', as many as kept says
pub record MovedUp (w w' : WordRows) (rs : List Request) (kept : ℕ) : Type 0 where
  pub many : kept ≡ length rs
  pub few : kept ≤ 16
  pub first : take kept (queue_from w') ≡ rs
  pub rest : KeepsRest w w'

-- the places from one on are empty, those before it are those of w
pub record ClearedFrom (w w' : WordRows) (from : ℕ) : Type 0 where
  pub queue : queue_from w' ≡ take from (queue_from w) ++ replicate (16 - from) empty_request
  pub rest : KeepsRest w w'
