-- Footnote definitions (in neither standard):
--     start     ::= small_indent '[^' label ']:' white*, where the label has no white space
--     continues ::= column_of_space{4}, or a blank rest
use Rattle.std.specs.Prelude.{Bool, false, not, if◌then◌else◌, ◌&&◌, List, Option, None, Some}
use Rattle.std.specs.List.{list_any}
use Rattle.markdown_options.specs.declared.configuration.Constructs.{Constructs}
use Rattle.definition_text.specs.Ascii.{colon, left_bracket, caret}
use Rattle.definition_text.specs.Columns.{Code, Rest, bare}
use Rattle.definition_text.specs.Indents.{small_indent}
use Rattle.definition_text.specs.Content.{Part, part, is_space, closed_by}
use Rattle.definition_inline.specs.Label.{label_end, is_label}
use Rattle.definition_block.specs.Container.{Footnote}
use Rattle.definition_block.specs.ContainerLine.{ContainerLine, kind_before_content}
use Rattle.definition_block.specs.ContainerStart.{ContainerStart, container_start}
use Rattle.definition_block.specs.BlockQuote.{after_byte}
use Rattle.definition_block.specs.ListItem.{item_continues}

-- the label of a footnote: that of a link, without white space
abbrev pub is_footnote_label : List Code → Bool
is_footnote_label text = is_label text && not (list_any is_space text)

-- a label, and the rest after the colon that follows it
abbrev pub label_before : List Code → Option Rest → Option Part
label_before label None = None
label_before label (Some rest) = Some (part label rest)

-- the same for a text before a `]`, where it may be a label
abbrev pub with_colon : Option Part → Option Part
with_colon None = None
with_colon (Some label) = if is_footnote_label label.text then label_before label.text (after_byte colon label.rest) else None

-- the same after `[^`
abbrev pub after_open : Option Rest → Option Part
after_open None = None
after_open (Some rest) = with_colon (closed_by rest (label_end false rest))

abbrev pub after_bracket : Option Rest → Option Part
after_bracket None = None
after_bracket (Some rest) = after_open (after_byte caret rest)

-- the label that a rest begins with: `[^`, a label and `]:`; and what follows
abbrev pub footnote_mark : Rest → Option Part
footnote_mark rest = after_bracket (after_byte left_bracket rest)

-- the footnote definition of a label; all white space after its colon belongs to it
abbrev pub footnote_of : Option Part → Option ContainerStart
footnote_of None = None
footnote_of (Some mark) = Some (container_start (Footnote mark.text) (bare mark.rest) (kind_before_content mark.rest))

-- the footnote definition that starts here
abbrev pub footnote_start : Constructs → Rest → Option ContainerStart
footnote_start on rest = if on.gfm_footnote_definition && small_indent on rest then footnote_of (footnote_mark (bare rest)) else None

-- what is left after four columns, of which a blank rest may have fewer
abbrev pub footnote_continues : Rest → Option ContainerLine
footnote_continues rest = item_continues 4 false rest
