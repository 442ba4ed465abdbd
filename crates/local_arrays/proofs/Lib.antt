pub mod RowLaws
pub mod FrameLaws
pub mod FirstLaws
pub mod CoreLaws
pub mod OffsetLaws
pub mod ReachLaws
