pub mod RunMeaning
