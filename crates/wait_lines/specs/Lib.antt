pub mod ChainText
