-- The three demands; files and updates that meet their premises; why demand 3 has its own.
pub mod Demands
pub mod Witnesses
pub mod OrderMatters
-- What they rest on, by the model's modules, lowest first.
pub mod Words
pub mod Trees
pub mod File
pub mod Sizes
pub mod Opening
pub mod Edits
pub mod Dropping
pub mod Rounds
pub mod Answers
