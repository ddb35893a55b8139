-- Words for contracts and laws, and nothing to believe.
-- The binary header (Req 09), which `format` defines (`Binary`):
--   Undone       that reading in undoes writing out
pub mod Undone
