pub mod NoSuffixBits
