-- Which parts a content can have: those whose constructs are on (CommonMark 6). `proofs/MayStand` shows it of each content, and `laws_inline` states it.
use Rattle.std.specs.Prelude.{Bool, true, false, ◌&&◌}
use Rattle.markdown_options.specs.declared.configuration.Constructs.{Constructs}
use Rattle.definition_text.specs.Content.{is_eol}
use Rattle.definition_inline.specs.Inline.{InlineLeaf, Data, Escape, Character, Code, Math, Autolink, Literal, Html, EscapedBreak, TrailingBreak, LineEnd}
use Rattle.definition_inline.specs.Inline.{TaskCheck, SpanKind, Emphasis, Strong, Strikethrough, Mark, LinkedKind, Link, Image, Inline, Leaf, Span, Linked, Call}

-- a leaf: a byte, what a construct that is on makes, or the code of a line ending; the check of a task list item stands before a content
abbrev pub leaf_may_stand : Constructs → InlineLeaf → Bool
leaf_may_stand on (Data b) = true
leaf_may_stand on (Escape b) = on.character_escape
leaf_may_stand on (Character text) = on.character_reference
leaf_may_stand on (Code text) = on.code_text
leaf_may_stand on (Math text) = on.math_text
leaf_may_stand on (Autolink is_email text) = on.autolink
leaf_may_stand on (Literal kind text) = on.gfm_autolink_literal
leaf_may_stand on (Html html) = on.html_text
leaf_may_stand on EscapedBreak = on.hard_break_escape
leaf_may_stand on TrailingBreak = on.hard_break_trailing
leaf_may_stand on (LineEnd code) = is_eol code
leaf_may_stand on (TaskCheck done) = false

-- a span (CommonMark 6.2 and GFM 6.5)
abbrev pub span_may_stand : Constructs → SpanKind → Bool
span_may_stand on Emphasis = on.attention
span_may_stand on Strong = on.attention
span_may_stand on Strikethrough = on.gfm_strikethrough
span_may_stand on Mark = on.mark

-- a link or an image (CommonMark 6.3 and 6.4)
abbrev pub linked_may_stand : Constructs → LinkedKind → Bool
linked_may_stand on Link = on.label_start_link && on.label_end
linked_may_stand on Image = on.label_start_image && on.label_end

-- a part, whatever it holds
abbrev pub part_may_stand : Constructs → Inline → Bool
part_may_stand on (Leaf part) = leaf_may_stand on part
part_may_stand on (Span kind kids) = span_may_stand on kind
part_may_stand on (Linked kind target kids) = linked_may_stand on kind
part_may_stand on (Call label) = on.gfm_label_start_footnote && on.label_end
