pub mod NextFits
