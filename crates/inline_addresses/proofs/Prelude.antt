-- What several proofs of this crate import of other crates and of its own specs.
pub use Rattle.std.proofs.lemmas.Bool.{cases_Bool}
pub use Rattle.std.proofs.lemmas.List.{append-nil, drop_all, length-drop, map-append}
pub use Rattle.std.proofs.lemmas.Str.{IsCharBoundary-after_ascii}
pub use Rattle.std.specs.List.{flat_map, list_any}
pub use Rattle.std.specs.Str.{IsUtf8}
pub use Rattle.definition_inline.specs.GfmAutolinkLiteral.{leaf_without, with_addresses, with_literals}
pub use Rattle.definition_inline.specs.Inline.{Cons, Data, InlineLeaf, Inlines, Leaf, LinkTexts, Literal, Target}
pub use Rattle.definition_text.proofs.Each.{Each}
pub use Rattle.inline_leaves.specs.Leaves.{kind_view, parts_of}
pub use Rattle.inline_literals.specs.Addresses.{found_parts, IsFound}
pub use Rattle.inline_rows.specs.InlineRows.{inline_rows, Part}
pub use Rattle.inline_rows.specs.View.{data_rows, line_leaf, lines_rows, row_view, rows_view}
pub use Rattle.inline_rows.specs.declared.row.InlineRow.{InlineRow}
pub use Rattle.inline_addresses.specs.Addresses.{has_at_sign, IsNext, leaf_or_byte, linked_rows, literal_text, part_text, row_depth, row_linked, row_text}
pub use Rattle.inline_addresses.specs.Addresses.{rows_may_link, rows_text, run_linked, text_or_end, verbatim_text, walk_rows}
