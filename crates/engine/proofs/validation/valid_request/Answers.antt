-- `validation::valid_request` meets its contract: a clock past the sixteen is none.
use mathlib.Core.Path.{sym}
use mathlib.Core.List.{[]}
use Prim.Native.Nat.{◌+◌}
use lib.ListN.{get_or}
use Rattle.engine.proofs.ValidStates.{request_past, request_within}
use Rattle.engine.proofs.validation.valid_request.Goals as goal

pub returns-then-at-ge-CLOCKS : goal.returns-then-at-ge-CLOCKS
returns-then-at-ge-CLOCKS c =
    let a = c.args in
    λ f. sym (request_past a.words.now f (get_or a.words.now (161 + a.i) []) c.if-at-ge-CLOCKS.true)

pub returns : goal.returns
returns c =
    let a = c.args in
    λ f.
    rw c.is_present.ensures
    (sym (request_within a.words.now f (get_or a.words.now (161 + a.i) []) c.if-at-ge-CLOCKS.false))
