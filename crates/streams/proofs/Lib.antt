mod NamesPut
mod SameBytes
pub mod Taken
pub mod Within
pub mod Signed
