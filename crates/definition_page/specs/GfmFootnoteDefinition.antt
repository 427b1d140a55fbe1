-- The footnotes at a page's end, and what they print (in no standard; as GitHub prints them).
use Rattle.std.specs.Prelude.{ℕ, zero, suc, ◌-◌, if◌then◌else◌, nat_le, List, [], ◌∷◌, ◌++◌, Option, None, Some, String, string_bytes, codes}
use Rattle.std.specs.Prelude.{take, drop, length}
use Rattle.std.specs.List.{flat_map, suffix_len}
use Rattle.markdown_compile_options.specs.declared.configuration.CompileOptions.{CompileOptions}
use Rattle.definition_text.specs.Encode.{encode}
use Rattle.definition_text.specs.Lines.{ends_line}
use Rattle.definition_inline.specs.GfmAutolinkLiteral.{ends_with}
use Rattle.definition_page.specs.OptionTexts.{text_or}
use Rattle.definition_page.specs.Tags.{Words, AsItIs, Number, Tag, attribute, tag, bare_tag}
use Rattle.definition_page.specs.Pieces.{Piece, Open, Close, Says, Fresh}
use Rattle.definition_page.specs.InlinePieces.{element}
use Rattle.definition_page.specs.GfmLabelStartFootnote.{footnote_id, call_id, leads_to_id}

-- a footnote that is called: its label as labels are matched, how many calls it has, and the HTML of its blocks, which is laid out by itself
pub record Footnote : Type 0 where
  pub label : List ℕ
  pub calls : ℕ
  pub html : List ℕ

-- ---- ways back

-- the start tag of a way back to a call
abbrev pub back_tag : CompileOptions → List ℕ → ℕ → Tag
back_tag options label count =
    tag (codes "a")
    (leads_to_id (call_id options label count)
    ∷ attribute (codes "data-footnote-backref") []
    ∷ attribute (codes "aria-label") (text_or options.gfm_footnote_back_label (codes "Back to content"))
    ∷ attribute (codes "class") (codes "data-footnote-backref")
    ∷ [])

-- an arrow, U+21A9
abbrev pub arrow : List ℕ
arrow = 226 ∷ 134 ∷ 169 ∷ []

-- which call it leads to, from the second one on
abbrev pub count_pieces : ℕ → List Piece
count_pieces count = if nat_le count 1 then [] else element (bare_tag (codes "sup")) (Says (Number count) ∷ [])

abbrev pub back_pieces : CompileOptions → List ℕ → ℕ → List Piece
back_pieces options label count = element (back_tag options label count) (Says (Words arrow) ∷ count_pieces count)

-- a space between two of them
abbrev pub space_after : ℕ → List Piece
space_after zero = []
space_after (suc count) = Says (Words (codes " ")) ∷ []

-- a way back to each of so many calls
abbrev pub backs_pieces : CompileOptions → List ℕ → ℕ → List Piece
backs_pieces options label zero = []
backs_pieces options label (suc count) = backs_pieces options label count ++ space_after count ++ back_pieces options label (suc count)

-- ---- a footnote

-- how many bytes of HTML stand before the line endings at its end
abbrev pub ended_size : List ℕ → ℕ
ended_size html = length html - suffix_len ends_line html

-- where the end tag of a paragraph stands that comes last, line endings aside
abbrev pub paragraph_end : List ℕ → Option ℕ
paragraph_end html = if ends_with (codes "</p>") (take (ended_size html) html) then Some (ended_size html - 4) else None

-- the HTML of a footnote with the ways back: in the paragraph that it ends with, or on a line of their own
abbrev pub with_backs : List ℕ → List Piece → Option ℕ → List Piece
with_backs html backs None = Says (AsItIs html) ∷ Fresh ∷ backs
with_backs html backs (Some end) =
    Says (AsItIs (take end html)) ∷ Says (Words (codes " ")) ∷ backs ++ Says (AsItIs (drop end html)) ∷ []

abbrev pub content_pieces : List ℕ → List Piece → List Piece
content_pieces html backs = with_backs html backs (paragraph_end html)

abbrev pub item_tag : CompileOptions → List ℕ → Tag
item_tag options label = tag (codes "li") (record { name = codes "id"; value = footnote_id options label } ∷ [])

abbrev pub footnote_pieces : CompileOptions → Footnote → List Piece
footnote_pieces options note =
    Fresh ∷ element (item_tag options note.label)
    (Fresh ∷ content_pieces note.html (backs_pieces options note.label note.calls) ++ Fresh ∷ [])

abbrev pub footnotes_pieces : CompileOptions → List Footnote → List Piece
footnotes_pieces options notes = flat_map (footnote_pieces options) notes

-- ---- the section

-- the element of the heading
abbrev pub section_heading_name : CompileOptions → List ℕ
section_heading_name options = encode (text_or options.gfm_footnote_label_tag_name (codes "h2"))

-- the start tag of the heading, where its attributes are those that all have, or are given and printed as they are
abbrev pub section_heading_tag : {A : Type 0} → List ℕ → Option (String A) → Tag
section_heading_tag name None = tag name (attribute (codes "id") (codes "footnote-label") ∷ attribute (codes "class") (codes "sr-only") ∷ [])
section_heading_tag name (Some attributes) = bare_tag (name ++ codes " id=\"footnote-label\" " ++ string_bytes attributes)

abbrev pub heading_pieces : CompileOptions → List Piece
heading_pieces options =
    Open (section_heading_tag (section_heading_name options) options.gfm_footnote_label_attributes)
    ∷ Says (Words (text_or options.gfm_footnote_label (codes "Footnotes")))
    ∷ Close (section_heading_name options)
    ∷ []

abbrev pub section_tag : Tag
section_tag = tag (codes "section") (attribute (codes "data-footnotes") [] ∷ attribute (codes "class") (codes "footnotes") ∷ [])

-- the section of these footnotes, by their numbers
abbrev pub listed_pieces : CompileOptions → List Footnote → List Piece
listed_pieces options notes =
    Fresh ∷ element section_tag
    (heading_pieces options ++ Fresh ∷ element (bare_tag (codes "ol")) (footnotes_pieces options notes ++ Fresh ∷ []) ++ Fresh ∷ [])
    ++ Fresh ∷ []

-- the section of the footnotes of a page, if it has any
abbrev pub section_pieces : CompileOptions → List Footnote → List Piece
section_pieces options [] = []
section_pieces options (note ∷ notes) = listed_pieces options (note ∷ notes)
