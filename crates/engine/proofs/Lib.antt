-- Laws about the definitions of the engine crate, one subject to a file. The proof of each function stands in its own folder.

-- tests, lists of bytes and comparison
pub mod Conjunctions
pub mod ListParts
pub mod Overwritten
pub mod ComparisonLaws
pub mod JournalBytes
pub mod PartLaws
pub mod PlaceByPlace
-- commands: fields, faults, and what each does
pub mod Outcomes
pub mod EventOptions
pub mod FrontCommands
pub mod TriedInPlace
pub mod CommandCodes
pub mod CommandLaws
pub mod AcceptedFields
pub mod ExecutionCases
pub mod PerformedWays
pub mod PerformedTargets
pub mod SharedLaws
pub mod SlotLaws
-- requests and the queue
pub mod RequestOrder
pub mod RequestLists
pub mod RequestCounts
pub mod IndexLaws
pub mod DistinctIndices
pub mod QueueLaws
pub mod QueuePlaces
pub mod RequestRows
pub mod QueueRowLaws
pub mod QueueRoom
-- state validation, and the invariant of the states reached from opening
pub mod ValidationLaws
pub mod CodedStates
pub mod ValidStates
pub mod SoundState
pub mod SoundValid
pub mod SoundQueues
pub mod SoundSteps
pub mod SoundDeliveries
pub mod SoundKept
-- one input, the replay and UNDO
pub mod CommandLists
pub mod Asking
pub mod ReplaySteps
pub mod Replays
pub mod Splits
pub mod ReplayParts
pub mod ReplayLaws
pub mod ExecuteLaws
-- commands in lent memory
pub mod StateParts
pub mod CommandsInPlace
pub mod SharedInPlace
pub mod RescheduledInPlace
pub mod PerformedInPlace
pub mod ReadyStates
pub mod SizedRows
pub mod ExecutedInPlace
pub mod OpenedRows
pub mod KeptParts
pub mod RevertedInPlace
pub mod ReplayInPlace
pub mod LastInPlace
pub mod UndoneInPlace
-- states in lent memory compared
pub mod SameWords
pub mod SameClocks
pub mod SameRows
-- demand 3: of any engine that meets the laws, then of this one
pub mod DemandHalves
pub mod Supplied
pub mod Applied
pub mod Reached
pub mod Picks
pub mod DeliveryOrder
pub mod LedgerLinks
pub mod Balance
pub mod EngineLaws
pub mod Demand3
-- the batch run
pub mod RunInputs
pub mod RunOpening
pub mod RunStates
pub mod RunNumbers
pub mod RunStops
pub mod FrontRefusals
pub mod RunAnswers
pub mod RunTurns
pub mod RunUndos
pub mod OngoingRuns
pub mod RunReverts
pub mod RunCommands
-- demand 3 in lent memory
pub mod LentDemand3
-- the table of rows, and a list worked through
pub mod Computed
pub mod Rows
pub mod Worked
