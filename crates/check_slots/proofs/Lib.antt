pub mod NumberTests
