pub mod Kinds
pub mod Records
pub mod Progress
pub mod Reports
pub mod Reference
