-- Words for contracts and laws, and nothing to believe.
-- The fields of a PG line that an image keeps:
--   Kept   from a place of the line on, and what the next of them gives
pub mod Kept
