pub mod Failures
pub mod Firsts
pub mod Forms
pub mod Meanings
pub mod Numbers
pub mod Splits
pub mod Steps
pub mod Usages
