pub mod NoHashBits
