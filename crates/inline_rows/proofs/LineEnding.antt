-- Verbatim text: an LF in it is a soft line break, and any other byte is text (CommonMark 6.8).
use Rattle.std.proofs.Common.{◌≡◌, ℕ, Bool, true, false, ◌||◌, List, [], ◌∷◌, ◌++◌, map, refl, ap, ap₂, ◌∙◌}
use Rattle.inline_rows.proofs.Prelude.{Data, ◌==◌}
use Rattle.std.proofs.lemmas.Bool.{cond-false, true≢false}
use Rattle.std.proofs.lemmas.List.{map-append}
use Rattle.std.specs.List.{list_any}
use Rattle.definition_text.specs.Ascii.{line_feed}
use Rattle.definition_inline.specs.Inline.{LineEnd}
use Rattle.inline_rows.specs.InlineRows.{Part}
use Rattle.inline_rows.specs.View.{data_rows, line_leaf, lines_rows}

-- a byte that is no LF
pub byte_leaf : (byte : ℕ) → (byte == line_feed) ≡ false → line_leaf byte ≡ Data byte
byte_leaf byte other = cond-false (byte == line_feed) (LineEnd line_feed) (Data byte) other

-- the first of two tests that both fail, and the second
neither : (a b : Bool) → (a || b) ≡ false → (a ≡ false) × (b ≡ false)
neither false b e = (refl, e)
neither true b e = absurd (true≢false e)

-- text without an LF holds bytes alone
pub line_leaves : (text : List ℕ) → list_any (λ b. b == line_feed) text ≡ false → map line_leaf text ≡ map Data text
line_leaves [] none = refl
line_leaves (b ∷ bs) none =
    let both = neither (b == line_feed) (list_any (λ c. c == line_feed) bs) none in
    ap₂ (λ leaf leaves. leaf ∷ leaves) (byte_leaf b both.0) (line_leaves bs both.1)

-- its rows are those of a text
pub line_is_data : (text : List ℕ) → list_any (λ b. b == line_feed) text ≡ false → lines_rows text ≡ data_rows text
line_is_data text none = ap (map Part) (line_leaves text none)

-- an LF comes first
pub feed_first : (bytes : List ℕ) → lines_rows (line_feed ∷ bytes) ≡ Part (LineEnd line_feed) ∷ lines_rows bytes
feed_first bytes = refl

-- two texts make one
pub leaves_joined : (xs ys : List ℕ) → map line_leaf (xs ++ ys) ≡ map line_leaf xs ++ map line_leaf ys
leaves_joined xs ys = map-append line_leaf xs ys

-- and so do their rows
pub lines_joined : (xs ys : List ℕ) → lines_rows (xs ++ ys) ≡ lines_rows xs ++ lines_rows ys
lines_joined xs ys = ap (map Part) (leaves_joined xs ys) ∙ map-append Part (map line_leaf xs) (map line_leaf ys)

-- a line, the LF after it, and the lines after that
pub line_before : (line bytes : List ℕ) → list_any (λ b. b == line_feed) line ≡ false
    → lines_rows (line ++ line_feed ∷ bytes) ≡ data_rows line ++ Part (LineEnd line_feed) ∷ lines_rows bytes
line_before line bytes none =
    lines_joined line (line_feed ∷ bytes) ∙ ap (λ rows. rows ++ Part (LineEnd line_feed) ∷ lines_rows bytes) (line_is_data line none)
