-- Inline structure, laid out row by row.
use Rattle.std.specs.Prelude.{ℕ, Bool, true, false, if◌then◌else◌, List, [], ◌∷◌, ◌++◌, codes}
use Rattle.std.specs.List.{flat_map, fold}
use Rattle.markdown_compile_options.specs.declared.configuration.CompileOptions.{CompileOptions}
use Rattle.definition_text.specs.Encode.{encode}
use Rattle.definition_inline.specs.Inline.{InlineLeaf, SpanKind, Link, Image, LinkTexts}
use Rattle.definition_inline.specs.LabelMatch.{first_match, normal_label}
use Rattle.html_bytes.specs.Layout.{LayoutState}
use Rattle.definition_page.specs.Tags.{attribute_bytes, bare_tag, start_tag, end_tag}
use Rattle.definition_page.specs.Pieces.{Piece}
use Rattle.definition_page.specs.Destinations.{image_source}
use Rattle.definition_page.specs.InlinePieces.{Meaning, span_name, url_of, image_url, title_attribute, rel_attributes, loading_attributes, link_tag}
use Rattle.definition_page.specs.InlinePieces.{call_at, count_at}
use Rattle.html_bytes.specs.InlineHtml.{leaf_description, leaf_html}
use Rattle.html_bytes.specs.Layout.{lay, with_text}
use Rattle.html_bytes.specs.Pieces.{in_bytes}
use Rattle.inline_rows.specs.InlineRows.{InlineRow, Part, EnterSpan, EnterLinked, Leave, CallRow}

-- what is open: what is printed where it ends, and whether it stands in the description of an image or is an image
pub record OpenElement : Type 0 where
  pub described : Bool
  pub ending : List ℕ

abbrev pub new_part : Bool → List ℕ → OpenElement
new_part described ending = record { described = described; ending = ending }

-- what was laid out, and what is open, the innermost first
pub record PrintState : Type 0 where
  pub laid : LayoutState
  pub stack : List OpenElement

abbrev pub printed_at : LayoutState → List OpenElement → PrintState
printed_at laid stack = record { laid = laid; stack = stack }

-- more of the innermost text that is open
abbrev pub with_more : LayoutState → List ℕ → LayoutState
with_more l bytes = with_text l (l.text ++ bytes)

-- whether only a description is printed
abbrev pub is_described : List OpenElement → Bool
is_described [] = false
is_described (o ∷ others) = o.described

abbrev pub span_start : SpanKind → List ℕ
span_start kind = start_tag (bare_tag (span_name kind))

abbrev pub span_end : SpanKind → List ℕ
span_end kind = end_tag (span_name kind)

-- the attribute of a title that isn't empty
abbrev pub title_bytes : Meaning → LinkTexts → List ℕ
title_bytes meaning target = flat_map attribute_bytes (title_attribute meaning target.title)

-- the attribute of links that the options ask for, and that of images
abbrev pub rel_bytes : CompileOptions → List ℕ
rel_bytes options = flat_map attribute_bytes (rel_attributes options.link_rel)

abbrev pub loading_bytes : CompileOptions → List ℕ
loading_bytes options = flat_map attribute_bytes (loading_attributes options.lazy_images)

-- the tag of an image before its description, and after it (CommonMark 6.4)
abbrev pub image_start : Meaning → LinkTexts → List ℕ
image_start meaning target =
    codes "<img src=\"" ++ encode (image_url meaning.compile (image_source meaning.compile (url_of meaning target))) ++ codes "\" alt=\""

abbrev pub image_end : Meaning → LinkTexts → List ℕ
image_end meaning target = codes "\"" ++ title_bytes meaning target ++ loading_bytes meaning.compile ++ codes " />"

-- the HTML of a leaf, or what it says in a description
abbrev pub leaf_bytes : CompileOptions → Bool → InlineLeaf → List ℕ
leaf_bytes options described part = if described then leaf_description options part else leaf_html options part

abbrev pub leaves_bytes : CompileOptions → Bool → List InlineLeaf → List ℕ
leaves_bytes options described parts = flat_map (leaf_bytes options described) parts

-- a call of a footnote, or one in a description, which counts and prints nothing
abbrev pub call_row : Meaning → Bool → List ℕ → List Piece
call_row meaning described label =
    if described
    then count_at (first_match label meaning.footnotes) (normal_label label)
    else call_at (first_match label meaning.footnotes) (normal_label label)

-- pieces of inline structure, none of which is the default ending
abbrev pub laid_out : Meaning → LayoutState → List Piece → LayoutState
laid_out meaning l pieces = fold (lay meaning.compile []) l (in_bytes pieces)

-- a part starts that holds others: in a description nothing is printed for it
abbrev pub enter : List ℕ → OpenElement → PrintState → PrintState
enter start o p =
    if is_described p.stack
    then printed_at p.laid (new_part true [] ∷ p.stack)
    else printed_at (with_more p.laid start) (o ∷ p.stack)

-- the innermost one ends
abbrev pub leave : LayoutState → List OpenElement → PrintState
leave l [] = printed_at l []
leave l (o ∷ others) = printed_at (with_more l o.ending) others

abbrev pub with_row : Meaning → PrintState → InlineRow → PrintState
with_row meaning p (Part part) = printed_at (with_more p.laid (leaf_bytes meaning.compile (is_described p.stack) part)) p.stack
with_row meaning p (EnterSpan kind) = enter (span_start kind) (new_part false (span_end kind)) p
with_row meaning p (EnterLinked Link target) = enter (start_tag (link_tag meaning target)) (new_part false (end_tag (codes "a"))) p
with_row meaning p (EnterLinked Image target) = enter (image_start meaning target) (new_part true (image_end meaning target)) p
with_row meaning p Leave = leave p.laid p.stack
with_row meaning p (CallRow label) = printed_at (laid_out meaning p.laid (call_row meaning (is_described p.stack) label)) p.stack
