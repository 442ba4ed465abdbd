pub mod LineLemmas
pub mod SignLemmas
pub mod TextLines
