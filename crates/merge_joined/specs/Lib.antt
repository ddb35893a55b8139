-- Words for contracts and laws, and nothing to believe.
-- How far B and the merged list have been passed:
--   Passing   what a step leaves
pub mod Passing
