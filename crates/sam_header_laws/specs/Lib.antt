-- Words for contracts and laws, and nothing to believe.
-- Words for laws, and nothing to believe.
pub mod Fresh
pub mod Tells
pub mod Additions
