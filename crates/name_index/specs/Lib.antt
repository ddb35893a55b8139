-- Words for contracts and laws, and nothing to believe.
-- The index of names (Req 06 and 07), which `format` defines (`NameIndex`):
--   Indexed   what an index must satisfy
pub mod Indexed
