pub mod Joined
pub mod Search
pub mod Apart
pub mod Used
