-- Words for contracts and laws, and nothing to believe.
--   Parents   the parents of programs, as numbers, and what is found along them
--   Placed    places of a text that say programs
pub mod Parents
pub mod Placed
