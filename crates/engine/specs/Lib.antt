-- The definitions of the engine crate, in the order in which they build on each other. A file has the name of the module of src/ that it
-- defines, or is what several of them share; theorem.rt has DeliveryOrder, Demand3, LentDemand3 and Rows.

-- commands and refusals
pub mod Refusals
pub mod Commands
-- the state and its queue
pub mod State
pub mod Opening
pub mod Queue
pub mod Validation
pub mod Comparison
-- what each command does
pub mod Execution
-- journal, undo, and the execution of one input, over any engine
pub mod Engine
pub mod Journal
pub mod Replay
pub mod Execute
-- document 01's engine, its answers and the batch run
pub mod Instance
pub mod Answers
pub mod Run
-- the order of deliveries, demand 3 and the table of rows
pub mod Sessions
pub mod Ledger
pub mod DeliveryOrder
pub mod Demand3
pub mod Rows
-- the state in lent memory
pub mod StateRows
pub mod KeptRows
pub mod InPlace
pub mod LentDemand3
-- internals: what the answers of the code's inner functions mean; no call that document 01 names cites these
pub mod QueueInternals
pub mod ExecutionInternals
pub mod ReplayInternals
pub mod OpeningInternals
pub mod ComparisonInternals
pub mod RunInternals
