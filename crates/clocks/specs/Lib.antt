-- The definitions of the clocks crate, from ticks and channels up to the clock's methods and refusal 1's test; then clocks in lent memory.
pub mod Ticks
pub mod Channels
pub mod Clocks
pub mod Setting
pub mod Scheduling
pub mod Validation
pub mod Layout
-- internals: what the answers of the code mean; of set_channel, reschedule and resume the outcome without its clock
pub mod RowsInternals
