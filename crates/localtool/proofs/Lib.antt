pub mod Judging
pub mod Called
