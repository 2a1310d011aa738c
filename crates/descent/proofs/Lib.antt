pub mod Extract
