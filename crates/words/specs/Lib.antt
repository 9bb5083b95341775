pub mod Text
pub mod Hex
pub mod Numbers
pub mod Nodes
pub mod Calls
