-- Ids of headings (in no standard; as GitHub has them).
use Rattle.std.specs.Prelude.{ℕ, Bool, if◌then◌else◌, ◌||◌, List, [], ◌∷◌, ◌++◌, codes}
use Rattle.std.specs.Str.{bytes_eq}
use Rattle.markdown_compile_options.specs.declared.configuration.CompileOptions.{CompileOptions}
use Rattle.definition_text.specs.Bytes.{begins_with}
use Rattle.definition_page.specs.Tags.{Words, Attribute, Tag, tag}
use Rattle.definition_page.specs.Pieces.{Piece, Open, Named}
use Rattle.definition_page.specs.Destinations.{heading_prefix}
use Rattle.definition_page.specs.GfmLabelStartFootnote.{id_prefix}
use Rattle.definition_page.specs.Slug.{next_slug, with_slug}

-- whether a footnote, a call or the heading of the footnotes may have this id
abbrev pub is_note_id : CompileOptions → List ℕ → Bool
is_note_id options id =
    bytes_eq id (codes "footnote-label") || begins_with (id_prefix options ++ codes "fn-") id || begins_with (id_prefix options ++ codes "fnref-") id

-- the id of a heading with this slug: none for an empty one, nor where a footnote may have the same
abbrev pub id_attributes : CompileOptions → List ℕ → List Attribute
id_attributes options [] = []
id_attributes options (b ∷ bs) =
    if is_note_id options (heading_prefix options ++ b ∷ bs) then []
    else (record { name = codes "id"; value = Words (heading_prefix options) ∷ Words (b ∷ bs) ∷ [] } ∷ [])

abbrev pub tag_with_id : CompileOptions → List ℕ → Tag → Tag
tag_with_id options slug t = tag t.name (id_attributes options slug ++ t.attributes)

-- pieces in which each heading that is named has its id, where the headings before took these slugs; an empty slug, and one without an id, are taken, too
abbrev pub with_ids : CompileOptions → List (List ℕ) → List Piece → List Piece
with_ids options taken [] = []
with_ids options taken (Named t text ∷ ps) = Open (tag_with_id options (next_slug taken text) t) ∷ with_ids options (with_slug taken text) ps
with_ids options taken (p ∷ ps) = p ∷ with_ids options taken ps
