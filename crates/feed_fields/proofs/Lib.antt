pub mod Causes
pub mod FieldParts
pub mod First
pub mod Text
