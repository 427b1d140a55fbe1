-- What holds of each element of a list, and of a value where there is one.
pub use Rattle.definition_text.proofs.Each.{Each, WhereSome, each-append, each_map, where_passed}
