pub mod Judged
pub mod Onward
pub mod Served
pub mod Still
