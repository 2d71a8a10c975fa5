-- What is read of a list's cases, and what is counted of them.
pub mod Counts
pub mod Lists
