-- Laws of the writer.
pub mod Few
pub mod Word
pub mod RoundTrip
