-- Words for contracts and laws, and nothing to believe.
-- Words for the laws of adding; nothing to believe.
--   Extended   what an accepted add writes
--   Grown      what it does to the chains (Req 11)
pub mod Extended
pub mod Grown
