mod Lengths
mod LongLines
mod Steps
mod Sofar
pub mod ReadBack
