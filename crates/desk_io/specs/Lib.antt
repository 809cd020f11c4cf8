pub use Rattle.outside_definitions.specs.Faults
pub use Rattle.outside_definitions.specs.Source
pub use Rattle.outside_definitions.specs.Sink
pub use Rattle.outside_definitions.specs.Opener
pub mod MemSource
pub mod MemSink
pub mod MemOpener
pub mod Edge
