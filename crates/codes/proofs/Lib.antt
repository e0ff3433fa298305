pub mod Lines
pub mod Made
pub mod OneKind
pub mod ByCode
pub mod Asking
pub mod Heading
