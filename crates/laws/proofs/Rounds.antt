-- Step 4: rounds.
pub mod Digrams
pub mod Choice
pub mod Parts
pub mod NewRule
pub mod Replacing
pub mod RoundWords
pub mod Round
pub mod RoundFormed
pub mod Rounding
pub mod Steps
pub mod RoundKeeps
