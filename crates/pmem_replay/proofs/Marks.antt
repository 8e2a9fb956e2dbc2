-- Marks, dirty blocks and open pages.
pub mod AfterMarks
pub mod AskedMarks
pub mod DirtyCounts
pub mod DirtyBlocks
pub mod OpenPages
pub mod SealedLines
