-- Words for contracts and laws, and nothing to believe.
-- The programs of a text that is judged:
--   Opened    what is known of an accepted text
--   Members   one program: its line and its parent
pub mod Opened
pub mod Members
