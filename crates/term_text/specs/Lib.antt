pub mod TermText
