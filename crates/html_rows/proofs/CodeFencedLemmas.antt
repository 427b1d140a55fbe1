-- Fenced code, and what it takes from the lines.
use Rattle.std.proofs.Common.{subst, ◌≡◌, ℕ, ◌-◌, ◌<◌, ◌≤◌, take, drop, List, [], ◌∷◌, ◌++◌, Bool, true, false}
use Rattle.std.proofs.Common.{◌==◌, codes, sym, refl, ap, ◌∙◌, length, get_or, arith, append_assoc}
use Rattle.html_rows.proofs.Prelude.{append-nil, bare_tag, BlockLine, bytes_of, Document, element, ending_bytes, first_codes, HaveNoEnding, in_bytes, is_byte}
use Rattle.html_rows.proofs.Prelude.{laid_both, layout_after, LayoutState, leaf_bytes, LineEnding, list_all, Piece, piece_line, piece_lines, reading_of, tag}
use Rattle.html_rows.proofs.Prelude.{with_bytes, with_fresh, with_tag, with_text}
use Rattle.std.proofs.lemmas.List.{take-map, drop-map, take_rest}
use Rattle.definition_text.specs.Encode.{encode}
use Rattle.definition_block.specs.Tree.{FencedCode}
use Rattle.definition_page.specs.BlockPieces.{info_attributes, fenced_pieces, fresh_unless}
use Rattle.definition_page.specs.Pieces as page
use Rattle.html_bytes.specs.Document.{info_of}
use Rattle.definition_page.specs.Read.{Standing, code_lines, info_text}
use Rattle.html_looseness.specs.Levels.{standing_at}
use Rattle.text_pieces.specs.Pieces.{whole_lines}
use Rattle.text_pieces.proofs.Pieces.{no_piece}
use Rattle.html_leaves.specs.CodeLines.{class_of, fenced_bytes}
use Rattle.html_leaves.proofs.LeafLaid.{after_pieces, code_element_laid}
use Rattle.html_leaves.proofs.Owed.{bytes_owed, none_owed}

-- the class of an info that isn't empty
pub class_some : (d : Document) (info : List ℕ) → (length info == 0) ≡ false
    → class_of d info ≡ codes " class=\"language-" ++ encode (info_of d info) ++ codes "\""
class_some d [] some = let wrong : true ≡ false = some in cc
class_some d (b ∷ bs) some =
    let start = codes " class=\"language-" in
    let text = encode (info_of d (b ∷ bs)) in
    append-nil (start ++ (text ++ []) ++ codes "\"") ∙ ap (λ x. start ++ x ++ codes "\"") (append-nil text)

-- the start tags, step by step
pub tags_laid : (d : Document) (e : LineEnding) (info : List ℕ) (out tag class : LayoutState)
    → tag ≡ with_tag (ending_bytes e) (codes "<pre><code") out → class ≡ with_bytes (class_of d info) tag
    → with_bytes (codes ">") class ≡ with_tag (ending_bytes e) (codes "<pre><code" ++ class_of d info ++ codes ">") out
tags_laid d e info out tag class is_tag is_class =
    let line = with_fresh (ending_bytes e) out in
    let t = line.text in
    ap (with_bytes (codes ">")) (is_class ∙ ap (with_bytes (class_of d info)) is_tag)
    ∙ ap (λ x. with_text out (x ++ codes ">")) (append_assoc t (codes "<pre><code") (class_of d info))
    ∙ ap (with_text out) (append_assoc t (codes "<pre><code" ++ class_of d info) (codes ">"))

-- code with its start tags
abbrev tagged : Document → LineEnding → List ℕ → LayoutState → LayoutState
tagged d e info out = with_tag (ending_bytes e) (codes "<pre><code" ++ class_of d info ++ codes ">") out

-- the end of code, which begins a fresh line if it isn't closed
abbrev ended_code : Document → LineEnding → Bool → LayoutState → LayoutState
ended_code d e closed content =
    after_pieces d.options.compile (ending_bytes e) (with_bytes (codes "</code></pre>") content) (fresh_unless closed)

fence_laid : (d : Document) (e : LineEnding) (info : List ℕ) (top closed : Bool) (ls : List BlockLine) (out : LayoutState)
    → layout_after d.options.compile e out (leaf_bytes d (standing_at top) false (FencedCode info closed ls))
    ≡ ended_code d e closed (layout_after d.options.compile e (tagged d e info out) (fenced_bytes top closed ls))
fence_laid d e info top closed ls out =
    let o = d.options.compile in
    let default = ending_bytes e in
    let attributes = info_attributes (info_text (reading_of d) info) in
    let content = fenced_pieces (record { top = top; tight = false }) closed (code_lines top closed ls) in
    laid_both o default (with_fresh default out) (element (bare_tag (codes "pre")) (element (tag (codes "code") attributes) content)) (fresh_unless closed)
    ∙ ap (λ x. after_pieces o default x (fresh_unless closed)) (code_element_laid o default attributes content (with_fresh default out))

-- code that isn't closed, step by step
pub open_laid : (d : Document) (e inner after : LineEnding) (info : List ℕ) (top closed : Bool) (ls : List BlockLine)
    (out start content end : LayoutState)
    → closed ≡ false → inner ≡ e → after ≡ e → start ≡ tagged d e info out
    → content ≡ layout_after d.options.compile inner start (fenced_bytes top closed ls) → end ≡ with_bytes (codes "</code></pre>") content
    → with_fresh (ending_bytes after) end ≡ layout_after d.options.compile e out (leaf_bytes d (standing_at top) false (FencedCode info closed ls))
open_laid d e inner after info top closed ls out start content end not_closed same_inner same_after is_start is_content is_end =
    let o = d.options.compile in
    let body = fenced_bytes top closed ls in
    ap (λ x. with_fresh (ending_bytes x) end) same_after
    ∙ ap (with_fresh (ending_bytes e)) (is_end ∙ ap (with_bytes (codes "</code></pre>")) (is_content ∙ ap (λ x. layout_after o x start body) same_inner
    ∙ ap (λ x. layout_after o e x body) is_start))
    ∙ ap (λ b. ended_code d e b (layout_after o e (tagged d e info out) body)) (sym not_closed)
    ∙ sym (fence_laid d e info top closed ls out)

-- code that is closed
pub closed_laid : (d : Document) (e inner : LineEnding) (info : List ℕ) (top closed : Bool) (ls : List BlockLine) (out start content : LayoutState)
    → closed ≡ true → inner ≡ e → start ≡ tagged d e info out
    → content ≡ layout_after d.options.compile inner start (fenced_bytes top closed ls)
    → with_bytes (codes "</code></pre>") content ≡ layout_after d.options.compile e out (leaf_bytes d (standing_at top) false (FencedCode info closed ls))
closed_laid d e inner info top closed ls out start content is_closed same_inner is_start is_content =
    let o = d.options.compile in
    let body = fenced_bytes top closed ls in
    ap (with_bytes (codes "</code></pre>")) (is_content ∙ ap (λ x. layout_after o x start body) same_inner
    ∙ ap (λ x. layout_after o e x body) is_start)
    ∙ ap (λ b. ended_code d e b (layout_after o e (tagged d e info out) body)) (sym is_closed)
    ∙ sym (fence_laid d e info top closed ls out)

-- ---- what a row takes

-- the text of the first piece is the info
pub info_is : (pieces : List Piece) → 0 < length pieces → list_all is_byte (first_codes (piece_lines pieces)) ≡ true
    → first_codes (piece_lines pieces) ≡ (get_or pieces 0 no_piece).text.now
info_is [] some h = absurd (omega arith)
info_is (a ∷ others) some h = none_owed a.owed a.text.now h

-- the pieces after it are the content
content_is : (count : ℕ) (pieces : List Piece) → piece_lines (take count (take (length pieces - 1) (drop 1 pieces))) ≡ take count (drop 1 (piece_lines pieces))
content_is count pieces =
    ap (λ ps. piece_lines (take count ps)) (take_rest pieces 1)
    ∙ sym (take-map piece_line count (drop 1 pieces))
    ∙ ap (take count) (sym (drop-map piece_line 1 pieces))

-- the info of a row can be printed
abbrev pub HasInfo : List Piece → Type 0
HasInfo pieces = (list_all is_byte (first_codes (piece_lines pieces)) ≡ true) × HaveNoEnding (first_codes (piece_lines pieces))

pub clear_info : (pieces : List Piece) → 0 < length pieces → HasInfo pieces → HaveNoEnding (get_or pieces 0 no_piece).text.now
clear_info pieces some has = subst HaveNoEnding (info_is pieces some has.0) has.1

-- where it stands in a tight item, it is the same
fenced_alike : (top closed tight : Bool) (ls : List BlockLine)
    → fenced_pieces (record { top = top; tight = false }) closed ls ≡ fenced_pieces (record { top = top; tight = tight }) closed ls
fenced_alike top closed tight [] = refl
fenced_alike top closed tight (l ∷ ls) = refl

fence_alike : (d : Document) (s : Standing) (tight closed : Bool) (info : List ℕ) (ls : List BlockLine)
    → leaf_bytes d (standing_at s.top) false (FencedCode info closed ls) ≡ leaf_bytes d s tight (FencedCode info closed ls)
fence_alike d s tight closed info ls =
    let code = tag (codes "code") (info_attributes (info_text (reading_of d) info)) in
    ap (λ ps. in_bytes (page.Fresh ∷ element (bare_tag (codes "pre")) (element code ps) ++ fresh_unless closed))
    (fenced_alike s.top closed tight (code_lines s.top closed ls))

pub code_pieces : (d : Document) (top : Bool) (s : Standing) (tight closed : Bool) (count : ℕ) (pieces : List Piece)
    → top ≡ s.top → 0 < length pieces → HasInfo pieces
    → leaf_bytes d (standing_at top) false
    (FencedCode (get_or pieces 0 no_piece).text.now closed (piece_lines (take count (take (length pieces - 1) (drop 1 pieces)))))
    ≡ leaf_bytes d s tight (FencedCode (first_codes (piece_lines pieces)) closed (take count (drop 1 (piece_lines pieces))))
code_pieces d top s tight closed count pieces same some has =
    let info = (get_or pieces 0 no_piece).text.now in
    let content = take count (drop 1 (piece_lines pieces)) in
    ap (λ ls. leaf_bytes d (standing_at top) false (FencedCode info closed ls)) (content_is count pieces)
    ∙ ap (λ (top : Bool). leaf_bytes d (standing_at top) false (FencedCode info closed content)) same
    ∙ fence_alike d s tight closed info content
    ∙ ap (λ x. leaf_bytes d s tight (FencedCode x closed content)) (sym (info_is pieces some has.0))

-- the text of the second piece is that of the lines
pub second_codes : (pieces : List Piece) → 2 ≤ length pieces → ((k : ℕ) → get_or (get_or pieces 1 no_piece).text.now k 0 < 256)
    → bytes_of (first_codes (drop 1 (piece_lines pieces))) ≡ (get_or pieces 1 no_piece).text.now
second_codes [] enough bytes = absurd (omega (arith, enough))
second_codes (a ∷ []) enough bytes = absurd (omega (arith, enough))
second_codes (a ∷ b ∷ others) enough bytes = bytes_owed b.owed b.text.now bytes

pub whole_code_pieces : (d : Document) (s : Standing) (tight : Bool) (pieces : List Piece) → 2 ≤ length pieces → HasInfo pieces
    → ((k : ℕ) → get_or (get_or pieces 1 no_piece).text.now k 0 < 256)
    → leaf_bytes d (standing_at s.top) false
    (FencedCode (get_or pieces 0 no_piece).text.now true (whole_lines (get_or pieces 1 no_piece).text.now))
    ≡ leaf_bytes d s tight
    (FencedCode (first_codes (piece_lines pieces)) true (whole_lines (bytes_of (first_codes (drop 1 (piece_lines pieces))))))
whole_code_pieces d s tight pieces enough has bytes =
    let info = first_codes (piece_lines pieces) in
    let lines = whole_lines (get_or pieces 1 no_piece).text.now in
    fence_alike d s tight true (get_or pieces 0 no_piece).text.now lines
    ∙ ap (λ x. leaf_bytes d s tight (FencedCode x true lines)) (sym (info_is pieces (omega (arith, enough)) has.0))
    ∙ ap (λ x. leaf_bytes d s tight (FencedCode info true (whole_lines x))) (sym (second_codes pieces enough bytes))
