pub mod MadeTree
