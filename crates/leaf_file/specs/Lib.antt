pub mod LeafFile
pub mod Listing
pub mod Texts
