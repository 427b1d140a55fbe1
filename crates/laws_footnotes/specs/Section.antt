-- The section of footnotes at a page's end, and what calls print (in no standard; as GitHub prints them).
use Rattle.std.specs.Prelude.{◌≡◌, ℕ, zero, suc, if◌then◌else◌, ◌==◌, List, [], ◌∷◌, ◌++◌, map, reverse}
use Rattle.std.specs.List.{fold}
use Rattle.markdown_compile_options.specs.declared.configuration.CompileOptions.{CompileOptions}
use Rattle.definition_page.specs.GfmFootnoteDefinition.{section_pieces}
use Rattle.definition_page.specs.GfmLabelStartFootnote.{Call, call_pieces}
use Rattle.definition_page.specs.Pieces.{Piece, CallOf, print}
use Rattle.definition_page.specs.Layout.{NamedCall, named_calls, first_calls, times, with_calls, content, contents, layout, called_footnotes, page_layout}

-- a page is its text and then the section of the footnotes that it calls: each once, in the order of first calls, with all its calls and its content
abbrev pub SectionLaw : Type 0
SectionLaw =
    (options : CompileOptions) (default : List ℕ) (ps : List Piece)
    → (let calls = named_calls ps in
    let shown = with_calls options (first_calls calls) [] ps in
    page_layout options default ps
    ≡ fold (print default) (layout default (content zero (reverse shown)))
    (section_pieces options (called_footnotes calls (map (layout default) (contents [] shown)))))

-- the number of the footnote at a place, by the first calls of footnotes, from 1 on
abbrev pub number_by : List NamedCall → ℕ → ℕ
number_by [] place = 1
number_by (c ∷ cs) place = if c.place == place then 1 else suc (number_by cs place)

-- the label of the footnote at a place, by the first calls of footnotes
abbrev pub label_by : List NamedCall → ℕ → List ℕ
label_by [] place = []
label_by (c ∷ cs) place = if c.place == place then c.label else label_by cs place

-- a call prints the number that its footnote has in the section at the page's end, and which call of it this is, counting those that aren't printed
abbrev pub PrintedCallLaw : Type 0
PrintedCallLaw =
    (options : CompileOptions) (earlier later : List Piece) (place : ℕ) (label : List ℕ)
    → (let ps = earlier ++ CallOf place label ∷ later in
    let firsts = first_calls (named_calls ps) in
    let before = named_calls earlier in
    let call : Call = record { label = label_by firsts place; number = number_by firsts place; count = suc (times place before) } in
    with_calls options firsts [] ps
    ≡ with_calls options firsts [] earlier ++ call_pieces options call
    ++ with_calls options firsts (named_calls (earlier ++ CallOf place label ∷ [])) later)
