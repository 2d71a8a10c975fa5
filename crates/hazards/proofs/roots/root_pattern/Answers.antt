-- `roots::root_pattern` meets its contract: the pattern made of the nearest whole number is the nearest.
use Prim.Native.Nat.{◌+◌, ◌-◌, ◌*◌, ◌/◌, ◌^◌}
use Rattle.hazards.proofs.NearestRoots.{root_made, root_finite, nearest_is}
use Rattle.hazards.proofs.roots.root_pattern.Goals as goal

pub returns : goal.returns
returns c =
    let b = c.args.pattern in
    let d = c.digits_of-value in
    let r = d.result in
    let w = c.whole_root-root in
    let v = root_made b r.digits r.power w.result d.ensures w.ensures.0 in (
      nearest_is b c.requires.1 ((r.power / 2 - 26) * 2 ^ 52 + w.result) v,
      root_finite b r.digits r.power w.result d.ensures w.ensures.0,
    )
