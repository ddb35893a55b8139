-- Words for contracts and laws, and nothing to believe.
-- The call that judges a merge:
--   Judged   its answer as the code gives it, and the steps of the definition
pub mod Judged
