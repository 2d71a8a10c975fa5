-- Document 01, "Journal and undo": the execution of one input (document 01: the command door), over any engine.
use Rattle.std.specs.Prelude.{length}
use Rattle.std.proofs.Math.Seq.{paste}
use Rattle.engine.specs.Engine.{Bytes, Performed, rejected, performed, Engine, Asked, reject, undo_last, carry_out, completed}
use Rattle.engine.specs.Engine.{Outcome, classify, unchanged}
use Rattle.engine.specs.Replay.{undo}

module _ (E : Engine) where
  -- an accepted command is copied into the free part
  abbrev pub write : E.State → Bytes → Bytes → Performed E.State E.Answer → Outcome E
  write s j c (rejected n) = unchanged E s j n
  write s j c (performed t a) = record { reply = completed a; state = t; journal = paste j (E.applied_length s) c (length c) }

  abbrev pub act : E.State → Bytes → Asked → Outcome E
  act s j (reject n) = unchanged E s j n
  act s j undo_last = undo E s j
  act s j (carry_out c) = write s j c (E.perform s c)

  -- document 01: the command door
  unfoldable pub execute : E.State → Bytes → Bytes → Outcome E
  execute s j i = act s j (classify E s i)
