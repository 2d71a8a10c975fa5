-- Laws about what a program asks of a state.
pub mod Inspected
