-- Words for contracts and laws, and nothing to believe.
-- The programs of a text, from its lines:
--   Found   the PG lines from an offset on, what the next of them gives, and what is noted of each
--   Line    an accepted line of fields
pub mod Found
pub mod Line
