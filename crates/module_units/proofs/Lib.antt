pub mod SameNames
pub mod OwnTree
pub mod Trees
mod RuleTries
mod FlatTries
