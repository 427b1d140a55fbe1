-- Calls of footnotes (in neither standard):
--     call ::= '[^' label ']', where the label is that of a footnote definition
use Rattle.std.specs.Prelude.{Bool, if◌then◌else◌, ◌==◌, ◌&&◌, List, [], ◌∷◌, Option, None, Some, codes}
use Rattle.markdown_options.specs.declared.configuration.Constructs.{Constructs}
use Rattle.definition_text.specs.Ascii.{caret}
use Rattle.definition_text.specs.Columns.{Code}
use Rattle.definition_text.specs.Bytes.{begins_with}
use Rattle.definition_inline.specs.LabelEnd.{is_label_text, LinkOrCall, Calls, link_or_image}

-- `[^` starts a call
abbrev pub starts_call : Constructs → List Code → Bool
starts_call on content = on.gfm_label_start_footnote && begins_with (codes "[^") content

-- a `!` stands before the start of a call
abbrev pub starts_marked_call : Constructs → List Code → Bool
starts_marked_call on content = on.gfm_label_start_footnote && begins_with (codes "![^") content

-- the label that a text between brackets calls: that of a footnote definition, after `^`
abbrev pub called_label : Constructs → (List Code → Bool) → List Code → Option (List Code)
called_label on is_footnote [] = None
called_label on is_footnote (c ∷ label) =
    if on.gfm_label_start_footnote && (c == caret) && is_label_text label && is_footnote label then Some label else None

-- a call where a label is called, and otherwise a link, while links are on
abbrev pub call_or_link : Constructs → (List Code → Bool) → List Code → List Code → Option (List Code) → Option LinkOrCall
call_or_link on is_defined text rest (Some label) = Some (Calls label)
call_or_link on is_defined text rest None = if on.label_start_link then link_or_image is_defined text rest else None
