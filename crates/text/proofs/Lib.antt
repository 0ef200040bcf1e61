pub mod Putting
pub mod Decimals
pub mod ReadingDigits
pub mod Names
