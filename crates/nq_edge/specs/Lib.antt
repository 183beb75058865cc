pub mod Edge
pub mod FileInputs
pub mod HeldInputs
pub mod HeldSink
pub mod Lines
pub mod StdSink
pub mod Streams
