pub mod Encoding
pub mod Ranges
pub mod Marks
pub mod Padding
pub mod Lines
pub mod Strips
pub mod LinesLemmas
pub mod MarksLemmas
