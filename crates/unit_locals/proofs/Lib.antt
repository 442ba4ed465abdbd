pub mod LocalNames
