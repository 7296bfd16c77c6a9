pub mod RulePlaces
pub mod Found
