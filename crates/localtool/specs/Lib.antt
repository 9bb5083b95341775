pub mod Programs
pub mod StoreCalls
pub mod Answers
