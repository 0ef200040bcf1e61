pub mod Question
pub mod Replies
