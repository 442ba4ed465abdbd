pub mod EntryLaws
pub mod FormedLaws
pub mod CurrentLaws
pub mod KeptLaws
pub mod NamedLaws
pub mod StepLaws
