pub mod EachTwo
