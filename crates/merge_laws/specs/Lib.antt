-- Words for contracts and laws, and nothing to believe.
pub mod Fit
pub mod IsMerge
pub mod Exactly
pub mod Means
pub mod Rewritten
