pub mod FullStarts
