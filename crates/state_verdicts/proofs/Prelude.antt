-- What several proofs of this crate import of other crates and of its own specs.
pub use Rattle.std.proofs.lemmas.Bool.{and_from, and_left, and_parts, and_right, cases_Bool, cases_lt, eq-eqb, eqb-false, eqb-true, le-leb, le-ltb, leb-true}
pub use Rattle.std.proofs.lemmas.Bool.{lt-leb, lt-ltb, ltb-false, ltb-true, ne_eqb, not-true, or_cases, or_from, or_left, or_parts}
pub use Rattle.std.proofs.lemmas.List.{drop-drop, length-drop}
pub use Rattle.std.proofs.lemmas.List.Sums.{prefix_len-le-length}
pub use Rattle.std.specs.Char.{is_ascii_alphabetic, is_ascii_alphanumeric, is_ascii_digit, is_ascii_hexdigit, is_ascii_punctuation}
pub use Rattle.std.specs.Int.{is_in_range}
pub use Rattle.std.specs.List.{list_all, list_any, prefix_len, take_while}
pub use Rattle.std.specs.Prelude.{codes}
pub use Rattle.definition_inline.specs.Autolink.{autolink_after, domain_end, is_domain, is_domain_byte, is_email_byte, is_scheme_byte, is_uri_byte}
pub use Rattle.definition_inline.specs.CharacterEscape.{escape_at}
pub use Rattle.definition_inline.specs.CharacterReference.{before_semicolon, part_to_semicolon}
pub use Rattle.definition_inline.specs.CodeText.{raw_at, run_of}
pub use Rattle.definition_inline.specs.HardBreak.{escaped_break_at}
pub use Rattle.definition_inline.specs.Inline.{Found, InlineLeaf, leaf}
pub use Rattle.definition_text.specs.Bytes.{after_all, is_letter}
pub use Rattle.definition_text.specs.Columns.{code_byte}
pub use Rattle.definition_text.specs.Content.{is_eol, Part}
pub use Rattle.definition_text.specs.Runs.{after_run, run as run_length}
pub use Rattle.engine_events.specs.Events.{event}
pub use Rattle.engine_events.specs.declared.event.Event.{Event}
pub use Rattle.engine_events.specs.declared.event.Name.{Name as EventName}
pub use Rattle.engine_events.specs.declared.place.Point.{Point}
pub use Rattle.engine_states.specs.declared.state.Inline.{Inline as InlineName}
pub use Rattle.engine_states.specs.declared.state.Name.{Name}
pub use Rattle.engine_states.specs.declared.state.State.{State}
pub use Rattle.engine_programs.specs.Bodies.{has, run, run as run_body}
pub use Rattle.markdown_engine.specs.Context.{Context}
pub use Rattle.markdown_engine.specs.KeptState.{KeptState}
pub use Rattle.markdown_engine.specs.Machine.{past_byte, plain, tries, with_enter, with_exit}
pub use Rattle.markdown_engine.specs.Reading.{byte_of, Config, Effect, ends-nok, ends-ok, feed, hand_on, with_byte}
pub use Rattle.markdown_engine.specs.VirtualText.{as_byte, is_feed, Text}
pub use Rattle.markdown_engine.specs.declared.virtual_text.VirtualByte.{VirtualByte}
pub use Rattle.state_verdicts.specs.Codes.{byte, is_code, nothing, Sees, tab, text_byte}
pub use Rattle.state_verdicts.specs.TextBytes.{Shows}
pub use Rattle.state_html.specs.Autolink.{ends_url, is_atext}
pub use Rattle.state_inline.specs.declared.inlines.Inlines.{Inlines}
pub use Rattle.state_leaves.specs.CharacterReference.{goes_on, is_known, is_name, is_value_known}
pub use Rattle.state_leaves.specs.RawText.{begins_run}
pub use Rattle.state_table.specs.Words.{more, next, retry}
pub use Rattle.state_verdicts.specs.Autolink.{AddressVerdict}
pub use Rattle.state_verdicts.specs.CharacterEscape.{escape_events}
pub use Rattle.state_verdicts.specs.CharacterReference.{ReferenceVerdict, referring}
pub use Rattle.state_verdicts.specs.Choices.{byte_at, Chooses, GoesOn}
pub use Rattle.state_verdicts.specs.HardBreakEscape.{break_events, ends_apart}
pub use Rattle.state_verdicts.specs.RawText.{is_other, of_span, Pieces, SpanNames, spanning, SpanVerdict}
pub use Rattle.state_verdicts.specs.Stretch.{ended, longer, Stretch}
pub use Rattle.state_verdicts.specs.Verdicts.{at_byte, LeavesEvents, Verdict}
