-- Words for contracts and laws, and nothing to believe.
-- Judging the merged SQ list one reference after another:
--   Joining   what a list has of a name, and what is left to judge
pub mod Joining
