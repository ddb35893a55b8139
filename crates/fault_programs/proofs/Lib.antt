pub mod KeptPrograms
