-- Words for contracts and laws, and nothing to believe.
-- Many names at once (Req 06 and 07), whose answer `format` defines (`Batch`):
--   Answers     that answer in the code's types
--   Answering   what answering needs and leaves
pub mod Answers
pub mod Answering
pub mod NameEnds
