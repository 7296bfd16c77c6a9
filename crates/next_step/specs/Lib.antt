pub mod NextMeaning
