-- Words for contracts and laws, and nothing to believe.
-- A record by its key; `format` defines the answer (`Finding`):
--   Answers   that answer in the code's types
--   Keys      the keys in the entries of a catalogue
--   Laws      what `names` answers for the same name
pub mod Answers
pub mod Keys
pub mod Laws
