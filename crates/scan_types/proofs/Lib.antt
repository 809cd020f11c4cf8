pub mod NameLemmas
pub mod SheetLemmas
pub mod Terms
