pub mod Names
pub mod Replying
pub mod Asking
