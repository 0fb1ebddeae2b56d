pub mod Arcs
pub mod Reduction
pub mod Laws
pub mod Reducing
pub mod Items
pub mod ItemLaws
