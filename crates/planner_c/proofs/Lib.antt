pub mod PackedNumbers
pub mod Reading
