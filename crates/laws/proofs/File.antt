-- What is read and what is written.
pub mod Reading
pub mod Written
pub mod ReadBack
pub mod Placed
