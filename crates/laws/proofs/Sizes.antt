-- The sizes of rules, and what stands before a place.
pub mod Gaps
pub mod Inserted
pub mod Within
pub mod Before
pub mod CalledSize
