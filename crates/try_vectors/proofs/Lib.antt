pub mod Judging
pub mod Turning
