-- What several proofs of this crate import of other crates and of its own specs.
pub use Rattle.std.proofs.lemmas.Bool.{cases_Bool, cond-false, cond-true, eq-eqb, eqb-true, ne_eqb, or_cases, or_parts, true≢false}
pub use Rattle.std.proofs.lemmas.List.{drop-drop, get_or-drop, length-append, take_at}
pub use Rattle.std.proofs.lemmas.List.Sums.{prefix_len-le-length}
pub use Rattle.std.proofs.lemmas.Option.{cond_some, none-some}
pub use Rattle.std.specs.List.{prefix_len}
pub use Rattle.std.specs.Option.{IfSome, option_map}
pub use Rattle.definition_inline.specs.Definition.{definition_at}
pub use Rattle.definition_inline.specs.Destination.{angle_end, bare_end, destination_at, ends_bare, if_any, is_control, is_too_deep, open_after, unless_empty}
pub use Rattle.definition_inline.specs.Label.{ends_label, label_at, label_end, label_size}
pub use Rattle.definition_inline.specs.LabelEnd.{has_no_bracket}
pub use Rattle.definition_inline.specs.Resource.{resource_at}
pub use Rattle.definition_inline.specs.Space.{after_spaces, after_white, begins_with_space}
pub use Rattle.definition_inline.specs.Title.{title_at, title_end}
pub use Rattle.definition_text.specs.Columns.{is_white}
pub use Rattle.definition_text.specs.Content.{at_line_start, content_codes, is_eol, is_space, may_escape, Part, up_to}
pub use Rattle.text_search.proofs.Sets.{run_by}
pub use Rattle.inline_links.specs.Bare.{is_plain}
pub use Rattle.inline_links.specs.Codes.{IsCut, IsShorterRest}
pub use Rattle.inline_links.specs.Texts.{IsLater, IsText}
pub use Rattle.inline_links.specs.Unmarked.{is_unmarked}
pub use Rattle.inline_links.specs.View.{part_of}
