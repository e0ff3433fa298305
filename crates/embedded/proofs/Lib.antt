pub mod Carries
pub mod Standing
pub mod Wrote
pub mod Making
