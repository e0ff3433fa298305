pub mod Bits
pub mod Bodies
pub mod Forms
mod Reading
pub mod Turns
pub mod Asked
pub mod Rising
pub mod Accepted
pub mod Faults
pub mod Far
