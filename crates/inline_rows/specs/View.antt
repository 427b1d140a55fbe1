-- Rows as the definition has them.
use Rattle.std.specs.Prelude.{ℕ, if◌then◌else◌, ◌==◌, List, [], ◌∷◌, map}
use Rattle.std.specs.List.{flat_map}
use Rattle.definition_text.specs.Ascii.{line_feed}
use Rattle.definition_text.specs.Content.{content_codes}
use Rattle.definition_inline.specs.CodeText.{without_padding}
use Rattle.definition_inline.specs.Inline as inline
use Rattle.inline_rows.specs.InlineRows as rows
use Rattle.inline_leaves.specs.Leaves.{parts_of}
use Rattle.inline_runs.specs.View.{span_view}
use Rattle.inline_links.specs.View.{link_texts_view}
use Rattle.inline_rows.specs.declared.row.LinkTarget.{LinkTarget}
use Rattle.inline_rows.specs.declared.row.LinkTarget.TheVariants.{Resource, Definition}
use Rattle.inline_rows.specs.declared.row.SpelledLeaf.{SpelledLeaf}
use Rattle.inline_rows.specs.declared.row.SpelledLeaf.TheVariants as spelled
use Rattle.inline_rows.specs.declared.row.InlineRow.{InlineRow}
use Rattle.inline_rows.specs.declared.row.InlineRow.TheVariants.{Text, Verbatim, Leaf, Spelled, EnterSpan, EnterLink, EnterImage, Call, Exit}

-- where a target leads, given where the definitions lead by their places
abbrev pub target_texts : (ℕ → inline.LinkTexts) → LinkTarget → inline.LinkTexts
target_texts at (Resource linked) = link_texts_view linked
target_texts at (Definition place) = at place

-- the rows of a text
abbrev pub data_rows : List ℕ → List rows.InlineRow
data_rows bytes = map rows.Part (map inline.Data bytes)

-- what a byte of verbatim text is: an LF is a soft line break (CommonMark 6.8)
abbrev pub line_leaf : ℕ → inline.InlineLeaf
line_leaf byte = if byte == line_feed then inline.LineEnd line_feed else inline.Data byte

-- the rows of verbatim text
abbrev pub lines_rows : List ℕ → List rows.InlineRow
lines_rows bytes = map rows.Part (map line_leaf bytes)

-- what a construct is that events spell
abbrev pub spelled_view : SpelledLeaf → inline.InlineLeaf
spelled_view (spelled.Code text) = inline.Code (without_padding text.now)
spelled_view (spelled.Math text) = inline.Math (without_padding text.now)
spelled_view (spelled.Check done) = inline.TaskCheck done

-- the definition's rows that a row stands for
abbrev pub row_view : (ℕ → inline.LinkTexts) → InlineRow → List rows.InlineRow
row_view at (Text text) = data_rows text.now
row_view at (Verbatim verbatim) = lines_rows verbatim.text.now
row_view at (Leaf part) = map rows.Part (parts_of part)
row_view at (Spelled leaf) = rows.Part (spelled_view leaf) ∷ []
row_view at (EnterSpan span) = rows.EnterSpan (span_view span) ∷ []
row_view at (EnterLink target) = rows.EnterLinked inline.Link (target_texts at target) ∷ []
row_view at (EnterImage target) = rows.EnterLinked inline.Image (target_texts at target) ∷ []
row_view at (Call label) = rows.CallRow (content_codes label.now) ∷ []
row_view at Exit = rows.Leave ∷ []

abbrev pub rows_view : (ℕ → inline.LinkTexts) → List InlineRow → List rows.InlineRow
rows_view at rows = flat_map (row_view at) rows
