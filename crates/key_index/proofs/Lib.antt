pub mod Looking
pub mod Held
pub mod HeldKeys
pub mod Pointing
pub mod Keys
