-- The definitions of the hazards crate, from floats, lists and roots up to the sampler; what document 02 says of the piece that a wait
-- ends in and of the sampler's list of records; the rate for a wait.
pub mod Floats
pub mod Lists
pub mod FirstPlace
pub mod Fields
pub mod Refusals
pub mod Answers
pub mod Roots
pub mod RootsInternals
pub mod Rates
pub mod Checks
pub mod Evaluations
pub mod PieceUsed
pub mod Draws
pub mod Ties
pub mod Sampler
pub mod SamplerInternals
pub mod ListOrder
pub mod RateForWait
pub mod RateForWaitInternals
