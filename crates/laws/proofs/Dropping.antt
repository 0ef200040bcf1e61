-- Step 3: dropping.
pub mod Kept
pub mod Dropped
