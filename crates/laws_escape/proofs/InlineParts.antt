-- What leaves are read as, and what they print where no runs stand among them.
use Rattle.std.proofs.Common.{◌≡◌, ℕ, ◌+◌, false, List, [], ◌∷◌, ◌++◌, cond, refl, sym, ap, ◌∙◌, append_assoc, map}
use Rattle.laws_escape.proofs.Prelude.{append-nil, codes_of, CompileOptions, Cons, Data, encoded_byte, flat_map, flat_map-append, fold, has_calls, indent}
use Rattle.laws_escape.proofs.Prelude.{inline_html, inline_pieces, InlineCode, InlineLeaf, Inlines, is_white, Item, leaf_html, Meaning, parts_before}
use Rattle.laws_escape.proofs.Prelude.{prefix_len, read_tokens, reading, Reading, text, Token, with_spans}
use Rattle.definition_inline.specs.Inline.{Inline, Leaf, Nil, followed_by}
use Rattle.definition_inline.specs.Pairing.{Pair, pairs}
use Rattle.definition_inline.specs.Spans.{runs_of}
use Rattle.definition_inline.specs.SpanRows.{Holds, Nest, nest, nest_row, nest_spans}
use Rattle.definition_inline.proofs.SpanRows.{rows_from, spans_by_rows}
use Rattle.definition_page.specs.InlinePieces.{leaf_pieces}
use Rattle.html_bytes.specs.Pieces.{piece_html}

-- no more tokens
pub read_nothing : (r : Reading) → r ≡ read_tokens [] r
read_nothing r = ap (λ ts. reading (text ts r.now.holds_link) r.open_labels) (sym (append-nil r.now.tokens))

-- the spaces and tabs that come first, by codes
pub white_codes : (content : List InlineCode) → prefix_len (λ (c : InlineCode). is_white c.code) content ≡ indent (codes_of content)
white_codes [] = refl
white_codes (c ∷ cs) = ap (λ n. cond (is_white c.code) (1 + n) 0) (white_codes cs)

-- leaves as tokens
abbrev pub items : List InlineLeaf → List Token
items parts = map (λ part. Item (Leaf part)) parts

-- leaves as inline structure
abbrev pub leaves : List InlineLeaf → Inlines
leaves parts = parts_before (map Leaf parts) Nil

-- leaves as rows
held : (ps : List Pair) (parts : List InlineLeaf) → rows_from ps 0 (items parts) ≡ map Holds (map Leaf parts)
held ps [] = refl
held ps (part ∷ parts) = ap (λ rows. Holds (Leaf part) ∷ rows) (held ps parts)

-- one more part after others
followed_last : (is : List Inline) (last : Inline) → followed_by (parts_before is Nil) last ≡ parts_before (is ++ last ∷ []) Nil
followed_last [] last = refl
followed_last (i ∷ is) last = ap (Cons i) (followed_last is last)

nest_held : (before is : List Inline) → fold nest_row (nest (parts_before before Nil) []) (map Holds is) ≡ nest (parts_before (before ++ is) Nil) []
nest_held before [] = ap (λ x. nest (parts_before x Nil) []) (sym (append-nil before))
nest_held before (i ∷ is) =
    ap (λ n. fold nest_row (nest n []) (map Holds is)) (followed_last before i)
    ∙ nest_held (before ++ i ∷ []) is
    ∙ ap (λ x. nest (parts_before x Nil) []) (append_assoc before (i ∷ []) is)

-- where no runs stand among leaves, they are the inline structure
pub leaves_alone : (parts : List InlineLeaf) → with_spans (items parts) ≡ leaves parts
leaves_alone parts =
    spans_by_rows (items parts) ∙ ap nest_spans (held (pairs (runs_of (items parts))) parts) ∙ ap (λ (n : Nest). n.now) (nest_held [] (map Leaf parts))

-- what leaves print
pub html_of_leaves : (m : Meaning) (parts : List InlineLeaf) → inline_html m (leaves parts) ≡ flat_map (leaf_html m.compile) parts
html_of_leaves m [] = refl
html_of_leaves m (part ∷ parts) =
    flat_map-append piece_html (leaf_pieces m.compile part) (inline_pieces m (leaves parts))
    ∙ ap (λ x. leaf_html m.compile part ++ x) (html_of_leaves m parts)

-- what a byte prints
pub html_of_data : (options : CompileOptions) (b : ℕ) → leaf_html options (Data b) ≡ encoded_byte b
html_of_data options b = append-nil (encoded_byte b ++ []) ∙ append-nil (encoded_byte b)

-- leaves call no footnote
pub leaves_call_nothing : (parts : List InlineLeaf) → has_calls (leaves parts) ≡ false
leaves_call_nothing [] = refl
leaves_call_nothing (part ∷ parts) = leaves_call_nothing parts
