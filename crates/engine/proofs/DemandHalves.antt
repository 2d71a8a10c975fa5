-- Demand 3's two halves as claims about any engine. The demand itself, of document 01's engine, is stated in specs/Demand3.antt.
use Prim.Native.Nat.{ℕ, ◌+◌, ◌≤◌}
use mathlib.Core.Path.{◌≡◌}
use mathlib.Core.List.{List}
use Rattle.engine.specs.Queue.{count_for}
use Rattle.engine.specs.Engine.{Bytes, Engine}
use Rattle.engine.specs.Sessions.{Session, feed_all, new_session, AcceptsEach}
use Rattle.engine.specs.Ledger.{Ledger, empty_ledger, LedgerFields, ledger_of}
use Rattle.engine.proofs.Supplied.{Queueing}

module _ (E : Engine) (n : ℕ) (is : List Bytes) where
  -- an engine with a journal of n bytes after the inputs
  abbrev used : Session E
  used = feed_all E (new_session E n) is

  -- state and journal are those of a newly opened engine that is given only the applied commands, in their order, and it accepts each
  pub record OnlyApplied : Type 0 where
    pub same-state : used.state ≡ (feed_all E (new_session E n) used.applied).state
    pub same_journal : used.journal ≡ (feed_all E (new_session E n) used.applied).journal
    pub accepts_each : AcceptsEach E (new_session E n) used.applied

  module _ (R : LedgerFields E) (K : Queueing E) (k : ℕ) where
    -- the ledger of the applied commands
    abbrev ledger : Ledger
    ledger = ledger_of E R (new_session E n) empty_ledger used.applied

    -- how many requests for the clock k the engine's queue then holds
    abbrev queued : ℕ
    queued = count_for k (K.queue used.state)

    -- the ledger balances for the clock k
    pub record Balanced : Type 0 where
      pub balance : (ledger.rows k).made ≡ (ledger.rows k).withdrawn + (ledger.rows k).delivered + queued
      pub at_most_one : queued ≤ 1
