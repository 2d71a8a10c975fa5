-- `queue::clear_from` meets its contract: the rows from one on are filled with zero.
use mathlib.Core.Path.{◌≡◌, refl, sym}
use Prim.Native.Nat.{◌+◌, ◌-◌}
use native.Mathlib.Omega.{arith}
use lib.ListN.{length, take, drop, replicate, length-drop, length-replicate}
use lib.Seq.{length-take-le}
use Rattle.std.proofs.lemmas.List.Elements.{same_from_all_zip}
use Rattle.std.proofs.lemmas.Slice.{put_mid-paste}
use Rattle.engine.proofs.QueueRowLaws.{no_words, emptied}
use Rattle.engine.proofs.queue.clear_from.Goals as goal

pub returns : goal.returns
returns c =
    let w = c.args.words.now in
    let from = c.args.from in
    let n = 177 - (161 + from) in
    let wide : n ≡ 16 - from = omega arith in
    let part : length (take n (drop (161 + from) w)) ≡ n = length-take-le n (drop (161 + from) w) (omega (arith, length-drop (161 + from) w)) in
    let filled = c.fill.ensures.after (λ y q. same_from_all_zip _ no_words y q.whole (λ a b e. e)) in
    rw (put_mid-paste (161 + from) n w c.fill.new.self (replicate n no_words) n (rw part at filled) refl (sym (length-replicate n no_words)), wide)
    (emptied w (omega arith) from c.requires)
