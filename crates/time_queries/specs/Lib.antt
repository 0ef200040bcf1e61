pub mod Task
pub mod Inputs
pub mod Replies
pub mod Tallies
pub mod Runs
