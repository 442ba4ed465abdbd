pub mod Answers
pub mod Asks
pub mod EventParts
pub mod Events
pub mod Exchanges
pub mod Histories
pub mod Memories
pub mod Walkers
