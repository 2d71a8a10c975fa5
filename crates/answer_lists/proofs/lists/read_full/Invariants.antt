-- What is read lies within the bytes, at least one byte a turn, and is what the list gave.
use Rattle.std.proofs.Common.{◌≡◌, ◌≤◌, length, take}
use Rattle.std.specs.Io.KnownBytes.{Consumes}
use Rattle.answer_lists.proofs.lists.read_full.Given as goal

abbrev pub invariant-loop : goal.invariant-loop
invariant-loop g l =
    record {
      kept : length l.bytes ≡ length l.initial.bytes;
      within : l.done ≤ length l.bytes;
      turns : l.counter ≤ l.done;
      read : Consumes (g.R.Read.remaining l.initial.list) (g.R.Read.remaining l.list) (take l.done l.bytes);
    }
