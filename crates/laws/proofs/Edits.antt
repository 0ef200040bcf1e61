-- Step 2: the edit; several updates on the words of a tree; the published updates on trees.
pub mod Editing
pub mod WithStart
pub mod Edited
pub mod Spans
pub mod Apart
pub mod Several
pub mod Published
pub mod PublishedAtOnce
