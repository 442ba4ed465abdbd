pub mod ImageSets
pub mod Outlooks
