pub mod Meaning
pub mod Calls
pub mod Laid
pub mod Laws
pub mod Copying
