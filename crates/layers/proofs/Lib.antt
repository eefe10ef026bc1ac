pub mod Relaxation
