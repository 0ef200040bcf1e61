-- Tests, lists and the classes of words.
pub mod Tests
pub mod Lists
pub mod Classes
