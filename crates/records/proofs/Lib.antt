pub mod Numbers
pub mod Turning
pub mod NumbersPut
pub mod SoundRun
pub mod Stops
pub mod Pieces
pub mod Rounds
pub mod Closings
