-- Words for contracts and laws, and nothing to believe.
pub mod Found
pub mod Keys
pub mod Form
pub mod Number
pub mod Next
pub mod Run
pub mod Tables
