pub mod Own
pub mod OneKind
pub mod Asking
