-- Rows that aren't laid in a content.
use Rattle.std.specs.Prelude.{◌≡◌, ℕ, false, List, [], ◌∷◌, map, None, codes}
use Rattle.std.specs.Borrow.{Bor}
use Rattle.markdown_options.specs.declared.beside.Kind.TheVariants.{Whitespace}
use Rattle.markdown_options.specs.Defaults.{default_parse_options}
use Rattle.definition_text.specs.InlineCode.{InlineCode, inline_code}
use Rattle.definition_inline.specs.Scan.{InlineContext}
use Rattle.inline_leaves.specs.declared.leaf.LeafPart.TheVariants.{Spaces}
use Rattle.inline_rows.specs.declared.row.InlineRow.{InlineRow}
use Rattle.inline_rows.specs.declared.row.InlineRow.TheVariants.{Text, Leaf, EnterSpan, EnterLink, Exit}
use Rattle.inline_rows.specs.declared.row.LinkTarget.{LinkTarget}
use Rattle.inline_runs.specs.declared.pair.Span.TheVariants.{Emphasis}
use Rattle.parse_written.specs.Rows.{AreRowsLaid}

-- a text in which no label is defined
abbrev pub plain_context : InlineContext
plain_context = record { options = default_parse_options; names = λ name. None; is_defined = λ label. false; is_footnote = λ label. false }

-- bytes between white space
abbrev pub content_of : List ℕ → List InlineCode
content_of bytes = map (λ b. inline_code b None Whitespace Whitespace) bytes

abbrev pub AreRefused : List ℕ → List InlineRow → Type 0
AreRefused bytes rows = AreRowsLaid plain_context [] rows (content_of bytes) [] → ⊥

abbrev pub RefusedRows : Type 0
RefusedRows =
    -- `a`: the byte has no row
    AreRefused (codes "a") []
    -- `a`: it isn't a space
    × AreRefused (codes "a") (Leaf Spaces ∷ [])
    -- `a`: the row has another text
    × ((text : Bor (List ℕ)) → text.now ≡ codes "b" → AreRefused (codes "a") (Text text ∷ []))
    -- `a`: a link starts with a bracket
    × ((target : LinkTarget) (rows : List InlineRow) → AreRefused (codes "a") (EnterLink target ∷ rows))
    -- `*`: the span doesn't end
    × AreRefused (codes "*") (EnterSpan Emphasis ∷ [])
    -- `*`: nothing is open
    × AreRefused (codes "*") (Exit ∷ [])
