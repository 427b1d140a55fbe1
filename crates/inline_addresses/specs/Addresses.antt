-- Literals among the rows of a content.
use Rattle.std.specs.Prelude.{◌≡◌, ◌==◌, ◌||◌, ◌+◌, ◌<◌, ◌≤◌, if◌then◌else◌, Bool, false, true, ℕ, zero, suc, List, [], ◌∷◌, ◌++◌, Option, None, Some}
use Rattle.std.specs.Prelude.{length, drop, map, slice_index, take}
use Rattle.std.specs.List.{flat_map, list_any}
use Rattle.definition_text.specs.Ascii.{line_feed, at_sign}
use Rattle.definition_inline.specs.GfmAutolinkLiteral.{leaf_without, with_addresses}
use Rattle.definition_inline.specs.Inline.{LinkTexts, InlineLeaf, Data, LineEnd, Link}
use Rattle.inline_rows.specs.InlineRows as rows
use Rattle.inline_rows.specs.InlineRows.{Part, EnterSpan, EnterLinked, Leave}
use Rattle.inline_leaves.specs.declared.leaf.LeafPart.{LeafPart}
use Rattle.inline_leaves.specs.declared.leaf.LeafPart.TheVariants.{Escape, Literal, Unclosed, Spaces}
use Rattle.inline_rows.specs.View.{data_rows, lines_rows, rows_view}
use Rattle.inline_rows.specs.declared.row.InlineRow.{InlineRow}
use Rattle.inline_rows.specs.declared.row.InlineRow.TheVariants as row
use Rattle.inline_addresses.specs.declared.walk.Walk.{Walk}

-- ---- rows of the definition

-- how many parts are open after a row, counted from the link on in which it stands; none is where it stands in no link
abbrev pub depth_after : ℕ → rows.InlineRow → ℕ
depth_after zero (EnterLinked Link to) = 1
depth_after zero r = 0
depth_after (suc n) (EnterSpan kind) = suc (suc n)
depth_after (suc n) (EnterLinked kind to) = suc (suc n)
depth_after (suc n) Leave = n
depth_after (suc n) r = suc n

-- a run of text: in a link it holds no address
abbrev pub run_parts : ℕ → List ℕ → List InlineLeaf
run_parts zero run = with_addresses run
run_parts (suc n) run = map Data run

-- its rows
abbrev pub run_linked : ℕ → List ℕ → List rows.InlineRow
run_linked n run = map Part (run_parts n run)

-- a row that is no text: in a link a literal is text
abbrev pub row_linked : ℕ → rows.InlineRow → List rows.InlineRow
row_linked (suc n) (Part part) = map Part (leaf_without part)
row_linked n r = r ∷ []

-- a leaf after a run of text, and the rows that follow, given the run before them: a byte makes the run longer
abbrev pub leaf_or_byte : ℕ → List ℕ → InlineLeaf → (List ℕ → List rows.InlineRow) → List rows.InlineRow
leaf_or_byte n run (Data b) rest = rest (run ++ b ∷ [])
leaf_or_byte n run part rest = run_linked n run ++ (row_linked n (Part part) ++ rest [])

-- rows with email addresses, and links without literals, where a run of text stands before
abbrev pub linked_rows : ℕ → List ℕ → List rows.InlineRow → List rows.InlineRow
linked_rows n run [] = run_linked n run
linked_rows n run (Part part ∷ rs) = leaf_or_byte n run part (λ next. linked_rows n next rs)
linked_rows n run (r ∷ rs) = run_linked n run ++ (r ∷ linked_rows (depth_after n r) [] rs)

-- ---- rows of the parser

-- an empty text is text, whatever it is said to be
abbrev pub no_bytes : List ℕ → Option (List ℕ)
no_bytes [] = Some []
no_bytes (b ∷ bs) = None

-- the text that a construct stands for which holds no other, if that is all
abbrev pub part_text : LeafPart → Option (List ℕ)
part_text (Unclosed text) = Some text.now
part_text Spaces = Some []
part_text (Escape text) = no_bytes text.now
part_text part = None

-- the text that a row stands for, if that is all but soft line breaks, each of which is an LF of verbatim text
abbrev pub row_text : InlineRow → Option (List ℕ)
row_text (row.Text text) = Some text.now
row_text (row.Verbatim verbatim) = Some verbatim.text.now
row_text (row.Leaf part) = part_text part
row_text r = None

-- the text of a row that may hold soft line breaks, if a row is one
abbrev pub verbatim_text : InlineRow → Option (List ℕ)
verbatim_text (row.Verbatim verbatim) = Some verbatim.text.now
verbatim_text r = None

-- the text of a literal, if a row is one
abbrev pub literal_text : InlineRow → Option (List ℕ)
literal_text (row.Leaf (Literal kind text)) = Some text.now
literal_text r = None

-- the bytes of a text, or a line feed for a row that is something else
abbrev pub text_or_end : Option (List ℕ) → List ℕ
text_or_end None = line_feed ∷ []
text_or_end (Some text) = text

abbrev pub rows_text : List InlineRow → List ℕ
rows_text rs = flat_map (λ r. text_or_end (row_text r)) rs

-- an `@` stands in a text, if there is one
abbrev pub has_at_sign : Option (List ℕ) → Bool
has_at_sign None = false
has_at_sign (Some text) = list_any (λ b. b == at_sign) text

-- there is a literal, or else a text with an `@`
abbrev pub has_link : Option (List ℕ) → Option (List ℕ) → Bool
has_link None text = has_at_sign text
has_link (Some literal) text = true

-- a row is a literal, or text with an `@`
abbrev pub row_may_link : InlineRow → Bool
row_may_link r = has_link (literal_text r) (row_text r)

-- a link starts
abbrev pub begins_link : InlineRow → Bool
begins_link (row.EnterLink to) = true
begins_link r = false

-- an `@` stands in the text of rows, or a literal is among those from a link on
abbrev pub rows_may_link : List InlineRow → Bool
rows_may_link [] = false
rows_may_link (r ∷ rs) = has_at_sign (row_text r) || (if begins_link r then list_any row_may_link (r ∷ rs) else rows_may_link rs)

-- how many parts are open after a row that is no text
abbrev pub row_depth : ℕ → InlineRow → ℕ
row_depth zero (row.EnterLink to) = 1
row_depth zero r = 0
row_depth (suc n) (row.EnterSpan span) = suc (suc n)
row_depth (suc n) (row.EnterLink to) = suc (suc n)
row_depth (suc n) (row.EnterImage to) = suc (suc n)
row_depth (suc n) row.Exit = n
row_depth (suc n) r = suc n

-- ---- a walk over them

-- what a walk makes of the rows of the definition that are left
abbrev pub walk_rows : {A : Type 0} → (ℕ → LinkTexts) → Walk A → List rows.InlineRow → List rows.InlineRow
walk_rows at walk rest = rows_view at walk.rows.items ++ linked_rows walk.depth (take walk.size walk.text.now) rest

-- a text comes next after the first bytes of another, so many
pub record IsNext (text : List ℕ) (size : ℕ) (next : List ℕ) : Type 0 where
  pub within : size + length next ≤ length text
  pub same : take (length next) (drop size text) ≡ next

-- the first LF of verbatim text, which comes after a line of text
pub record EndsLine (text : List ℕ) (at : ℕ) : Type 0 where
  pub within : at < length text
  pub feed : slice_index text at ≡ line_feed
  pub rows : lines_rows text ≡ data_rows (take at text) ++ Part (LineEnd line_feed) ∷ lines_rows (drop (at + 1) text)
