-- Calls of footnotes, and what they print (in no standard; as GitHub prints them).
use Rattle.std.specs.Prelude.{ℕ, if◌then◌else◌, nat_le, List, [], ◌∷◌, codes}
use Rattle.markdown_compile_options.specs.declared.configuration.CompileOptions.{CompileOptions}
use Rattle.definition_page.specs.OptionTexts.{text_or}
use Rattle.definition_page.specs.Urls.{percent}
use Rattle.definition_page.specs.Tags.{PrintedPart, Words, Number, Attribute, attribute, Tag, tag, bare_tag}
use Rattle.definition_page.specs.Pieces.{Piece, Says}
use Rattle.definition_page.specs.InlinePieces.{element}

-- a call: the label of its footnote as labels are matched, the number of that footnote, and which of its calls it is, from 1 on
pub record Call : Type 0 where
  pub label : List ℕ
  pub number : ℕ
  pub count : ℕ

-- what the ids of footnotes begin with
abbrev pub id_prefix : CompileOptions → List ℕ
id_prefix options = text_or options.gfm_footnote_clobber_prefix (codes "user-content-")

-- the id of a footnote
abbrev pub footnote_id : CompileOptions → List ℕ → List PrintedPart
footnote_id options label = Words (id_prefix options) ∷ Words (codes "fn-") ∷ Words (percent label) ∷ []

-- what tells the calls of one footnote apart, from the second one on
abbrev pub count_says : ℕ → List PrintedPart
count_says count = if nat_le count 1 then [] else Words (codes "-") ∷ Number count ∷ []

-- the id of a call
abbrev pub call_id : CompileOptions → List ℕ → ℕ → List PrintedPart
call_id options label count = Words (id_prefix options) ∷ Words (codes "fnref-") ∷ Words (percent label) ∷ count_says count

-- an attribute that leads to this id on the page
abbrev pub leads_to_id : List PrintedPart → Attribute
leads_to_id id = record { name = codes "href"; value = Words (codes "#") ∷ id }

-- the start tag of a call
abbrev pub call_tag : CompileOptions → Call → Tag
call_tag options call =
    tag (codes "a")
    (leads_to_id (footnote_id options call.label)
    ∷ record { name = codes "id"; value = call_id options call.label call.count }
    ∷ attribute (codes "data-footnote-ref") []
    ∷ attribute (codes "aria-describedby") (codes "footnote-label")
    ∷ [])

abbrev pub call_pieces : CompileOptions → Call → List Piece
call_pieces options call = element (bare_tag (codes "sup")) (element (call_tag options call) (Says (Number call.number) ∷ []))
