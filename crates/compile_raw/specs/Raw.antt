-- Code, math and HTML, piece by piece.
use Rattle.std.specs.Prelude.{ℕ, Bool, true, false, not, ◌||◌, if◌then◌else◌, List, [], ◌∷◌, ◌++◌, Option, codes, map}
use Rattle.std.specs.List.{flat_map, repeat}
use Rattle.markdown_options.specs.LineEndings.{ending_bytes}
use Rattle.definition_text.specs.BlockLines.{BlockLine}
use Rattle.definition_text.specs.Columns.{code_byte}
use Rattle.definition_text.specs.Encode.{encode}
use Rattle.definition_page.specs.BlockPieces.{Place, fenced_pieces, fresh_unless, info_attributes}
use Rattle.definition_page.specs.Tags.{attribute_bytes}
use Rattle.event_meaning.specs.Raw.{RawPart, Chunk, End, without_first_end, raw_lines}
use Rattle.compile_raw.specs.declared.raw.CodePart.{CodePart}
use Rattle.compile_raw.specs.declared.raw.CodePart.TheVariants as parts
use Rattle.compile_raw.specs.declared.raw.Passed.{Passed}
use Rattle.html_bytes.specs.Layout.{LayoutState}
use Rattle.html_bytes.specs.Pieces.{Piece, Bytes, in_bytes}
use Rattle.html_leaves.specs.Prints.{with_bytes, with_fresh, with_tag}

abbrev pub has_any : {A : Type 0} → List A → Bool
has_any [] = false
has_any (x ∷ xs) = true

-- a piece of code, with spaces for the columns of tabs that its ends cut
abbrev pub part_view : CodePart → List RawPart
part_view (parts.Chunk before text after) = Chunk (repeat before (codes " ") ++ text.now ++ repeat after (codes " ")) ∷ []
part_view (parts.Ending ending) = End ending ∷ []
part_view parts.Nothing = []

-- the lines of parts; the first ending among them may be that of an opening fence
abbrev pub lines_behind : Bool → List RawPart → List BlockLine
lines_behind silent parts = if silent then raw_lines (without_first_end parts) else raw_lines parts

-- one more piece is passed
abbrev pub passed : Passed → CodePart → Passed
passed p (parts.Chunk before text after) = record { silent = p.silent; some = true; line = true }
passed p (parts.Ending ending) = record { silent = false; some = true; line = p.line || not p.silent }
passed p parts.Nothing = p

-- what it prints
abbrev pub part_bytes : Passed → CodePart → List ℕ
part_bytes p (parts.Chunk before text after) = encode (map code_byte (repeat before (codes " ") ++ text.now ++ repeat after (codes " ")))
part_bytes p (parts.Ending ending) = if p.silent then [] else ending_bytes ending
part_bytes p parts.Nothing = []

-- a page with the start tags of fenced code, whose class is that of its info
abbrev pub code_tags : List ℕ → Option (List ℕ) → LayoutState → LayoutState
code_tags default info l = with_tag default (codes "<pre><code" ++ flat_map attribute_bytes (info_attributes info) ++ codes ">") l

-- a page on which the last line of fenced code, if there is one, ends: with a fresh line, and if it is cut, with the default ending before
abbrev pub last_end : List ℕ → Bool → Bool → Bool → LayoutState → LayoutState
last_end default whole line some l =
    if whole then (if line then with_fresh default l else l) else (if some then with_fresh default (with_bytes default l) else l)

-- the end tags of fenced code, and a fresh line if it isn't closed
abbrev pub fenced_close : Bool → List Piece
fenced_close is_closed = Bytes (codes "</code></pre>") ∷ in_bytes (fresh_unless is_closed)

-- the lines of fenced code, and its end
abbrev pub fenced_end : Place → Bool → List BlockLine → List Piece
fenced_end place is_closed ls = in_bytes (fenced_pieces place is_closed ls) ++ fenced_close is_closed
