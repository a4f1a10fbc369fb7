pub mod Named
pub mod StoreLemmas
pub mod SurrogateLemmas
pub mod Wellformed
