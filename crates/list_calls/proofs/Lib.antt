pub mod ListPromises
