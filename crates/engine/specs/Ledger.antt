-- Document 01, "Journal and undo": the request ledger (document 01: book), apart from the engine's own records. It is fed the applied
-- commands in order, each with the answer that it gets when they alone are given to a newly opened engine.
use Rattle.std.specs.Prelude.{ℕ, zero, suc, ◌+◌, Bool, cond, List, [], ◌∷◌, eqb, ℤ}
use Rattle.std.proofs.Math.Option.{Option, none, some}
use Rattle.clocks.specs.declared.ticks.Ticks.{Ticks}
use Rattle.engine.specs.Commands as commands
use Rattle.engine.specs.Queue.{earlier_of}
use Rattle.engine.specs.Engine.{Bytes, Engine, code, Reply, refusal, reverted, completed}
use Rattle.engine.specs.Execute.{execute}
use Rattle.engine.specs.Sessions.{Session, feed}
use Rattle.engine.specs.declared.state.Request.{Request}

-- what the ledger holds of one clock; pending: document 01's noted request
pub record Row : Type 0 where
  pub made : ℕ
  pub withdrawn : ℕ
  pub delivered : ℕ
  pub pending : Option Request

-- a row for each clock, and the requests made over all clocks
pub record Ledger : Type 0 where
  pub rows : ℕ → Row
  pub all : ℕ

abbrev pub empty_ledger : Ledger
empty_ledger = record { rows = λ k. record { made = 0; withdrawn = 0; delivered = 0; pending = none }; all = 0 }

-- the rows with that of one clock replaced
abbrev pub put_row : (ℕ → Row) → ℕ → Row → ℕ → Row
put_row f k r j = cond (eqb j k) r (f j)

-- the earliest of the pending requests of the clocks below n
abbrev pub next_pending : (ℕ → Row) → ℕ → Option Request
next_pending f zero = none
next_pending f (suc k) = earlier_of (next_pending f k) (f k).pending

-- a clock's row after a withdrawal: its pending request is removed
abbrev pub withdrawn_row : Row → Row
withdrawn_row r = record { made = r.made; withdrawn = r.withdrawn + 1; delivered = r.delivered; pending = none }

-- after a request, which is then pending
abbrev pub requested_row : Row → Request → Row
requested_row r request = record { made = r.made + 1; withdrawn = r.withdrawn; delivered = r.delivered; pending = some request }

-- after a delivery: its pending request is removed
abbrev pub delivered_row : Row → Row
delivered_row r = record { made = r.made; withdrawn = r.withdrawn; delivered = r.delivered + 1; pending = none }

-- a withdrawn byte 1, of a command that names the clock k
abbrev pub record_withdrawal : ℕ → Ledger → Ledger
record_withdrawal k b = record { rows = put_row b.rows k (withdrawn_row (b.rows k)); all = b.all }

-- an event byte 1: a request with the answer's ticks, the command's priority and, as index, the requests made before over all clocks
abbrev pub record_request : ℕ → Ticks → ℤ → Ledger → Ledger
record_request k ticks priority b = record {
  rows =
      put_row b.rows k
      (requested_row (b.rows k) (record { clock = k; ticks = ticks; priority = priority; index = b.all }));
  all = b.all + 1;
}

-- a DELIVER that takes this request off
abbrev pub record_delivery : Ledger → Option Request → Ledger
record_delivery b none = b
record_delivery b (some r) = record { rows = put_row b.rows r.clock (delivered_row (b.rows r.clock)); all = b.all }

-- what the ledger reads of a command and of its answer
pub record LedgerFields (E : Engine) : Type 0 where
  pub clock_of : Bytes → ℕ
  pub priority_of : Bytes → ℤ
  pub event : E.Answer → Bool
  pub withdrawn : E.Answer → Bool
  pub answer_ticks : E.Answer → Ticks

module _ (E : Engine) (R : LedgerFields E) where
  -- any command but DELIVER: first the withdrawn byte, then the event byte
  abbrev pub record_answer : Ledger → Bytes → E.Answer → Ledger
  record_answer b c a =
      let b₁ : Ledger = cond (R.withdrawn a) (record_withdrawal (R.clock_of c) b) b in
      cond (R.event a) (record_request (R.clock_of c) (R.answer_ticks a) (R.priority_of c) b₁) b₁

  -- one applied command with its answer; a DELIVER takes the earliest of all pending requests
  unfoldable pub record_command : Ledger → Bytes → E.Answer → Ledger
  record_command b c a = cond (eqb (code c) commands.deliver) (record_delivery b (next_pending b.rows 16)) (record_answer b c a)

  abbrev pub record_reply : Ledger → Bytes → Reply E.Answer → Ledger
  record_reply b c (refusal n) = b
  record_reply b c reverted = b
  record_reply b c (completed a) = record_command b c a

  -- the ledger after the commands, given to the session u one after another
  unfoldable pub ledger_of : Session E → Ledger → List Bytes → Ledger
  ledger_of u b [] = b
  ledger_of u b (c ∷ cs) = ledger_of (feed E u c) (record_reply b c (execute E u.state u.journal c).reply) cs
