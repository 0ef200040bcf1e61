pub mod Lines
pub mod Numbers
pub mod Answers
pub mod Operations
