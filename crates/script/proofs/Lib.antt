pub mod Cuts
pub mod Decimals
pub mod Hexes
pub mod LineTurns
pub mod Pairs
pub mod SectionTurns
pub mod StepLines
pub mod VerbWords
