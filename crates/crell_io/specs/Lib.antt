pub mod Count
pub mod Shelf
pub mod Sink
pub mod MemShelf
pub mod MemSink
pub mod Host
pub mod Examples
