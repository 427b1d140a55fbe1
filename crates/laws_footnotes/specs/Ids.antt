-- Ids of headings (in no standard; as GitHub has them).
use Rattle.std.specs.Prelude.{◌≢◌, ◌<◌, ◌^◌, ◌+◌, ℕ, List, [], ◌∷◌, ◌++◌, codes, map, None}
use Rattle.std.specs.Fmt.{decimal}
use Rattle.std.specs.List.{All, filter, flat_map, IsDistinct}
use Rattle.std.specs.Str.{bytes_eq}
use Rattle.markdown_compile_options.specs.declared.configuration.CompileOptions.{CompileOptions}
use Rattle.markdown_compile_options.specs.declared.configuration.Options.{Options}
use Rattle.definition_inline.specs.Strings.{eol_bytes}
use Rattle.definition_page.specs.TextTables.{TextTables}
use Rattle.definition_page.specs.Page.{Page}
use Rattle.definition_page.specs.Tags.{PrintedPart, Words, AsItIs, Marked, EndOfLine, Number, Attribute}
use Rattle.definition_page.specs.Pieces.{Piece, Open, Void, Named}
use Rattle.definition_page.specs.BlockPieces.{at_top, children_pieces}
use Rattle.definition_page.specs.DocumentPieces.{meaning_of, pieces}
use Rattle.definition_page.specs.GfmLabelStartFootnote.{footnote_id, call_id}

-- ---- ids among pieces

-- a part of a value as text, without references
abbrev pub part_text : PrintedPart → List ℕ
part_text (Words text) = text
part_text (AsItIs html) = html
part_text (Marked html) = html
part_text (EndOfLine code) = eol_bytes code
part_text (Number n) = decimal n

abbrev pub value_text : List PrintedPart → List ℕ
value_text value = flat_map part_text value

-- the ids among attributes, as text
abbrev pub ids_among : List Attribute → List (List ℕ)
ids_among attributes = map (λ a. value_text a.value) (filter (λ a. bytes_eq a.name (codes "id")) attributes)

-- the ids of the tags among pieces
abbrev pub ids_in : List Piece → List (List ℕ)
ids_in [] = []
ids_in (Open t ∷ ps) = ids_among t.attributes ++ ids_in ps
ids_in (Void t ∷ ps) = ids_among t.attributes ++ ids_in ps
ids_in (p ∷ ps) = ids_in ps

-- how many headings there are among pieces that get an id
abbrev pub headings_in : List Piece → ℕ
headings_in [] = 0
headings_in (Named t text ∷ ps) = 1 + headings_in ps
headings_in (p ∷ ps) = headings_in ps

-- ---- the law

-- an id that no footnote, no call and no heading of footnotes has
abbrev pub IsOfNoNote : CompileOptions → List ℕ → Type 0
IsOfNoNote options id =
    (id ≢ codes "footnote-label")
    × ((label : List ℕ) → id ≢ value_text (footnote_id options label))
    × ((label : List ℕ) (count : ℕ) → id ≢ value_text (call_id options label count))

-- the ids of a page's headings differ from one another, and from those of footnotes, calls and the heading of footnotes;
-- beyond so many headings, numbers as they are printed need not differ
abbrev pub IdsDifferLaw : Type 0
IdsDifferLaw =
    (tables : TextTables) (options : Options) (page : Page)
    → headings_in (children_pieces (meaning_of tables options page) at_top None page.blocks) < 2 ^ 64
    → (let ids = ids_in (pieces tables options page) in IsDistinct bytes_eq ids × All (IsOfNoNote options.compile) ids)
