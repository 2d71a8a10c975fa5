-- `journal::clear_eights` meets its contract: at each turn the first turn * 8 bytes are zero, and the rest are as they were.
use mathlib.Core.Path.{refl, sym, ◌∙◌}
use Prim.Native.Nat.{◌+◌, ◌*◌}
use native.Mathlib.Omega.{arith}
use Rattle.engine.proofs.JournalBytes.{zeros_stored, stored-length, zeros_next}
use Rattle.engine.proofs.PartLaws.{cleared-front}
use Rattle.engine.proofs.journal.clear_eights.Goals as goal

pub loop-turn-init : goal.loop-turn-init
loop-turn-init c = (refl, refl)

pub bounds-bytes-i-in-loop-turn : goal.bounds-bytes-i-in-loop-turn
unfolding zeros_stored
bounds-bytes-i-in-loop-turn c = omega (arith, stored-length c.loop-turn.bytes (c.loop-turn.turn * 8) 0)

pub bounds-bytes-i-in-loop-turn-2 : goal.bounds-bytes-i-in-loop-turn-2
unfolding zeros_stored
bounds-bytes-i-in-loop-turn-2 c = omega (arith, stored-length c.loop-turn.bytes (c.loop-turn.turn * 8) 1)

pub bounds-bytes-i-in-loop-turn-3 : goal.bounds-bytes-i-in-loop-turn-3
unfolding zeros_stored
bounds-bytes-i-in-loop-turn-3 c = omega (arith, stored-length c.loop-turn.bytes (c.loop-turn.turn * 8) 2)

pub bounds-bytes-i-in-loop-turn-4 : goal.bounds-bytes-i-in-loop-turn-4
unfolding zeros_stored
bounds-bytes-i-in-loop-turn-4 c = omega (arith, stored-length c.loop-turn.bytes (c.loop-turn.turn * 8) 3)

pub bounds-bytes-i-in-loop-turn-5 : goal.bounds-bytes-i-in-loop-turn-5
unfolding zeros_stored
bounds-bytes-i-in-loop-turn-5 c = omega (arith, stored-length c.loop-turn.bytes (c.loop-turn.turn * 8) 4)

pub bounds-bytes-i-in-loop-turn-6 : goal.bounds-bytes-i-in-loop-turn-6
unfolding zeros_stored
bounds-bytes-i-in-loop-turn-6 c = omega (arith, stored-length c.loop-turn.bytes (c.loop-turn.turn * 8) 5)

pub bounds-bytes-i-in-loop-turn-7 : goal.bounds-bytes-i-in-loop-turn-7
unfolding zeros_stored
bounds-bytes-i-in-loop-turn-7 c = omega (arith, stored-length c.loop-turn.bytes (c.loop-turn.turn * 8) 6)

pub loop-turn-preserved : goal.loop-turn-preserved
unfolding zeros_stored
loop-turn-preserved c =
    let l = c.loop-turn in
    let bytes = c.args.bytes.now in (
      zeros_next bytes l.bytes (l.turn * 8) 7 ((l.turn + 1) * 8) (omega arith) (omega arith) l.invariant.0,
      stored-length c.loop-turn.bytes (c.loop-turn.turn * 8) 7 ∙ l.invariant.1,
    )

pub returns : goal.returns
returns c =
    let l = c.loop-turn in
    let a = c.args in
    l.invariant.0 ∙ sym (cleared-front a.bytes.now (a.eights * 8) {end = l.turn * 8} (omega arith))
