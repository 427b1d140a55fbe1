-- What holds of each element of a list, and of a value where there is one.
pub use Rattle.definition_text.proofs.Each.{Each, each-append, each_map, each_mapped, each_flat_map, each_same, WhereSome, where_passed}
