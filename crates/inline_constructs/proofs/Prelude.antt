-- What several proofs of this crate import of other crates and of its own specs.
pub use Rattle.std.proofs.lemmas.Bool.{and_from, and_left, and_right, cases_Bool, cond-false, cond-true, eq-eqb, eqb-false, eqb-true, false≢true, ltb-false}
pub use Rattle.std.proofs.lemmas.Bool.{ltb-true, ne_eqb, or_from, true≢false}
pub use Rattle.std.proofs.lemmas.List.{drop-drop, get_or-drop, length-append, length-drop, take_at}
pub use Rattle.std.proofs.lemmas.List.Sums.{prefix_len-le-length}
pub use Rattle.std.specs.List.{list_all, prefix_len}
pub use Rattle.std.specs.Option.{option_map, option_or}
pub use Rattle.std.specs.Prelude.{codes}
pub use Rattle.definition_inline.specs.Autolink.{autolink_after, autolink_at, closed_autolink, domain_end, email_end, is_uri_byte}
pub use Rattle.definition_inline.specs.CodeText.{raw_at, raw_part, run_of}
pub use Rattle.definition_inline.specs.HardBreak.{escaped_break_at}
pub use Rattle.definition_inline.specs.HtmlText.{after_text, cdata, comment_rest, html_text_at}
pub use Rattle.definition_inline.specs.Inline.{Autolink, Data, Html, leaf, or_else}
pub use Rattle.definition_inline.specs.MathText.{may_open_math}
pub use Rattle.definition_text.specs.Bytes.{begins_with, begins_with_letter}
pub use Rattle.definition_text.specs.Content.{content_codes, is_eol}
pub use Rattle.definition_text.specs.Runs.{run}
pub use Rattle.inline_leaves.proofs.Codes.{after_codes, at_return, boundary_after_byte, end_after, plain_code, plain_join, plain_size, plain_take}
pub use Rattle.inline_leaves.proofs.Codes.{prefix_codes, prefix_plain, size_plain}
pub use Rattle.inline_leaves.proofs.Fronts.{begun}
pub use Rattle.inline_leaves.specs.Leaves.{found_leaf, IsEnd, IsPlain, size_before}
pub use Rattle.inline_links.specs.Codes.{IsRest}
pub use Rattle.inline_tags.specs.Places.{next}
pub use Rattle.inline_tags.specs.Views.{place_of}
pub use Rattle.markdown_options.specs.declared.configuration.Constructs.{Constructs}
pub use Rattle.inline_constructs.specs.HtmlText.{html_after, is_end, IsClosed, tag_after}
pub use Rattle.inline_constructs.specs.Leaves.{is_of, IsAddress, IsRun}
pub use Rattle.inline_constructs.specs.RawRuns.{last_end, marker_byte}
pub use Rattle.inline_constructs.specs.declared.raw_runs.LastRun.{LastRun}
