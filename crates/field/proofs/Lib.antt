pub mod Judged
pub mod Place
pub mod Anywhere
pub mod Next
pub mod Answer
pub mod Shown
