pub mod FormLaws
pub mod OwnBounds
pub mod OwnPlans
pub mod OwnImages
