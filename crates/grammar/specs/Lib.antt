pub mod Meaning
pub mod Measures
