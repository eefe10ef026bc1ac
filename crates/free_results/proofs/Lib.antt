pub mod Tabled
pub mod Results
pub mod Scored
pub mod Serving
