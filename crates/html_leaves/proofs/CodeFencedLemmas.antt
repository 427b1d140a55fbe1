-- The content of fenced code.
use Rattle.std.proofs.Common.{Option, Some, subst, ◌≡◌, ℕ, ◌-◌, ◌<◌, List, [], ◌∷◌, ◌++◌, Bool, true, false}
use Rattle.std.proofs.Common.{codes, sym, refl, ap, ◌∙◌, length, get_or, arith, append_assoc}
use Rattle.html_leaves.proofs.Prelude.{BlockLine, code_byte, code_bytes, code_of, CompileOptions, encode, end_said, ending_bytes, ending_text, flat_map-append}
use Rattle.html_leaves.proofs.Prelude.{last_ending, LayoutState, LineEnding, map, own_lines, with_bytes, with_fresh, with_text}
use Rattle.std.specs.Prelude.{if◌then◌else◌, ◌||◌}
use Rattle.definition_text.specs.Lines.{TextLine, lines}
use Rattle.block_rows.proofs.TextLines.{front_bytes, later_bytes, line_bytes, text_back, text_of}
use Rattle.definition_text.specs.Encode.{encoded_byte}
use Rattle.text_pieces.specs.Pieces.{whole_line, whole_lines}
use Rattle.html_leaves.specs.CodeLines.{fenced_bytes}
use Rattle.html_leaves.specs.Prints.{layout_after}
use Rattle.html_leaves.proofs.LeafLaid.{kept_lines_laid, cut_lines_laid}
use Rattle.text_pieces.proofs.OwnLines.{with_last_ending}

-- content with the ending of its last line
whole_laid : (e : LineEnding) (out : LayoutState) (ls : List BlockLine)
    → with_fresh (ending_bytes e) (with_bytes (code_of ls) out)
    ≡ with_fresh (ending_bytes e) (with_bytes (ending_text (last_ending ls)) (with_bytes (code_of (own_lines ls)) out))
whole_laid e out ls =
    ap (λ x. with_fresh (ending_bytes e) (with_bytes x out)) (with_last_ending (λ codes. encode (map code_byte codes)) ls)
    ∙ ap (λ x. with_fresh (ending_bytes e) (with_text out x)) (sym (append_assoc out.text (code_of (own_lines ls)) (ending_text (last_ending ls))))

-- the ending that is printed last
abbrev pub content_ending : Bool → Bool → LineEnding → List BlockLine → Option LineEnding
content_ending top closed e ls = if top || closed then last_ending ls else Some e

-- content with that ending
pub content_laid : (options : CompileOptions) (e : LineEnding) (out : LayoutState) (top closed : Bool) (ls : List BlockLine) → 0 < length ls
    → layout_after options e out (fenced_bytes top closed ls)
    ≡ with_fresh (ending_bytes e) (with_bytes (ending_text (content_ending top closed e ls)) (with_bytes (code_of (own_lines ls)) out))
content_laid options e out top closed [] some = absurd (omega arith)
content_laid options e out true closed (l ∷ ls) some = kept_lines_laid options (ending_bytes e) (l ∷ ls) out ∙ whole_laid e out (l ∷ ls)
content_laid options e out false true (l ∷ ls) some = kept_lines_laid options (ending_bytes e) (l ∷ ls) out ∙ whole_laid e out (l ∷ ls)
content_laid options e out false false (l ∷ []) some = cut_lines_laid options (ending_bytes e) (own_lines (l ∷ [])) out
content_laid options e out false false (l ∷ next ∷ ls) some = cut_lines_laid options (ending_bytes e) (own_lines (l ∷ next ∷ ls)) out

-- ---- content that is the lines of a text

-- is printed as the text is
encoded_lines : (ls : List TextLine) → ((k : ℕ) → get_or (text_of ls) k 0 < 256) → code_of (map whole_line ls) ≡ encode (text_of ls)
encoded_lines [] bytes = refl
encoded_lines (line ∷ others) bytes =
    let front = line_bytes line in
    let own = front_bytes line.content (ending_text line.ending) (front_bytes front (text_of others) bytes) in
    ap (λ x. x ++ code_of (map whole_line others))
    (ap (λ x. encode x ++ ending_text line.ending) (code_bytes line.content own)
    ∙ ap (λ x. encode line.content ++ x) (sym (end_said line.ending))
    ∙ sym (flat_map-append encoded_byte line.content (ending_text line.ending)))
    ∙ ap (λ x. encode front ++ x) (encoded_lines others (later_bytes front (text_of others) bytes))
    ∙ sym (flat_map-append encoded_byte front (text_of others))

some_content : (options : CompileOptions) (e : LineEnding) (out : LayoutState) (top : Bool) (ls : List BlockLine) → 0 < length ls
    → layout_after options e out (fenced_bytes top true ls) ≡ with_fresh (ending_bytes e) (with_bytes (code_of ls) out)
some_content options e out top [] some = absurd (omega (arith, some))
some_content options e out true (l ∷ ls) some = kept_lines_laid options (ending_bytes e) (l ∷ ls) out
some_content options e out false (l ∷ ls) some = kept_lines_laid options (ending_bytes e) (l ∷ ls) out

pub text_content : (options : CompileOptions) (e : LineEnding) (out : LayoutState) (top : Bool) (text : List ℕ) → ((k : ℕ) → get_or text k 0 < 256)
    → 0 < length text
    → layout_after options e out (fenced_bytes top true (whole_lines text)) ≡ with_fresh (ending_bytes e) (with_bytes (encode text) out)
text_content options e out top text bytes some =
    let back = text_back text in
    some_content options e out top (whole_lines text) (some_lines (lines text) (subst (λ xs. 0 < length xs) (sym back) some))
    ∙ ap (λ x. with_fresh (ending_bytes e) (with_bytes x out))
    (encoded_lines (lines text) (subst (λ xs. (k : ℕ) → get_or xs k 0 < 256) (sym back) bytes) ∙ ap encode back)
  where
    some_lines : (ls : List TextLine) → 0 < length (text_of ls) → 0 < length (map whole_line ls)
    some_lines [] some = absurd (omega (arith, some))
    some_lines (line ∷ others) some = omega arith
