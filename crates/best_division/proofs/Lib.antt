pub mod PassBuffers
