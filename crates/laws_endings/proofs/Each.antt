-- What holds of each element of a list, and of a value where there is one.
pub use Rattle.definition_text.proofs.Each.{Each, each-append, each-take, each-drop, each_filter, each_mapped as each_map, each_same, WhereSome, where_passed}
