-- How many bytes a binary header has:
--   BinaryLen    from the front of a stream
--   Step         from a cursor on, for fronts that grow
--   Laws         what holds of both
pub mod BinaryLen
pub mod Step
pub mod Laws
