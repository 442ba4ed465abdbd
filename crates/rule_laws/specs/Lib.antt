pub mod Firsts
pub mod Meanings
pub mod Rules
