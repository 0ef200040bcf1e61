-- Step 1: opening.
pub mod Marks
pub mod OpenCall
pub mod Walk
