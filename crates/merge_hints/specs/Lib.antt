-- Words for contracts and laws, and nothing to believe.
-- References in slots:
--   Hints   which reference a slot holds, and what its mark means
pub mod Hints
