pub mod HandPromises
