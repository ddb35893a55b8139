-- Words for contracts and laws, and nothing to believe.
--   Places   where IDs are, as numbers in two arrays
--   Ids      IDs in one list of numbers, three for each
--   Search   the program with an ID
pub mod Places
pub mod Ids
pub mod Search
