-- `replay::revert` meets its contract.
use mathlib.Core.Path.{sym}
use Prim.Native.Nat.{◌≤◌}
use native.Mathlib.Omega.{arith}
use lib.Seq.{length-take-le}
use Rattle.engine.proofs.ExecuteLaws.{cleared_journal}
use Rattle.engine.proofs.replay.revert.Goals as goal

pub slice_bounds-last_command-end-2 : goal.slice_bounds-last_command-end-2
slice_bounds-last_command-end-2 c = sym (length-take-le _ c.args.journal.now c.requires)

pub slice_bounds-clear-count : goal.slice_bounds-clear-count
slice_bounds-clear-count c =
    let within : c.last_command-place.result ≤ c.args.applied =
    let k = length-take-le c.args.applied c.args.journal.now c.requires in
    omega (arith, c.last_command-place.ensures.0) in
    omega (arith, within, c.requires)

pub slice_bounds-clear-start : goal.slice_bounds-clear-start
slice_bounds-clear-start c =
    let within : c.last_command-place.result ≤ c.args.applied =
    let k = length-take-le c.args.applied c.args.journal.now c.requires in
    omega (arith, c.last_command-place.ensures.0) in
    omega (arith, within, c.requires)

pub overflow_sub-applied : goal.overflow_sub-applied
overflow_sub-applied c =
    let within : c.last_command-place.result ≤ c.args.applied =
    let k = length-take-le c.args.applied c.args.journal.now c.requires in
    omega (arith, c.last_command-place.ensures.0) in
    omega (arith, within)

pub returns : goal.returns
returns c =
    let within : c.last_command-place.result ≤ c.args.applied =
    let k = length-take-le c.args.applied c.args.journal.now c.requires in
    omega (arith, c.last_command-place.ensures.0) in
    let clear = c.clear in
    let a = c.args in (
      c.last_command-place.ensures.1,
      λ stream.
          cleared_journal stream a.journal.now clear.new.bytes c.last_command-place.result a.applied within c.requires
          clear.ensures,
    )
