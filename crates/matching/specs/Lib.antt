pub mod Alike
pub mod Table
pub mod RulesIn
pub mod FirstPlace
