pub mod CellAsks
