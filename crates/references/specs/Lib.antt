-- Words for contracts and laws, and nothing to believe.
-- The references of a header in one call, whose answer `format` defines (`Referencing`):
--   Answers       that answer in the code's types
--   Rows          the rows that the entries of a catalogue give
--   Laws          what the rows must satisfy
pub mod Answers
pub mod Rows
pub mod Laws
