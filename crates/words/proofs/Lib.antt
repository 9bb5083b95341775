pub mod Each
pub mod Spelling
pub mod Cutting
pub mod Numbering
pub mod Piecing
