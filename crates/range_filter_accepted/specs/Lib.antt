pub mod CodedNumber
