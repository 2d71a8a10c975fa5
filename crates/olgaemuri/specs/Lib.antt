-- The definitions of what C links that are not the engine's own.
pub mod Calls
pub mod Inspection
