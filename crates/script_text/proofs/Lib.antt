pub mod ArgumentsLemmas
pub mod NumbersLemmas
pub mod ScriptLemmas
pub mod ValuesLemmas
