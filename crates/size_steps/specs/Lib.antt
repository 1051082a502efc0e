pub mod Outcomes
pub mod Sites
pub mod Agreement
pub mod Leaves
pub mod Numbers
pub mod LeafLaws
pub mod Lookups
