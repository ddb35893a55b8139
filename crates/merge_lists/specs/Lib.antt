-- Words for contracts and laws, and nothing to believe.
-- The ordinals of a list, marked:
--   Marks   which ordinals are hit, and whether one comes again
pub mod Marks
