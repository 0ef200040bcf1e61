-- Whole answers: refusals exactly under their conditions, what is returned, runs of calls, the program, the work area.
pub mod Conditions
pub mod Refusals
pub mod Fitting
pub mod Returned
pub mod Recorded
pub mod Conforming
pub mod Work
pub mod Runs
pub mod Program
