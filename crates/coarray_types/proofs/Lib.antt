pub mod CellLemmas
pub mod CoplaceLemmas
pub mod DigitLemmas
pub mod DistanceLemmas
pub mod Parts
pub mod PlaceLemmas
pub mod SectionLemmas
