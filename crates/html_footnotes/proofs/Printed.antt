-- The tags of footnotes and of their calls, as they are printed.
use Rattle.std.proofs.Common.{◌≡◌, ℕ, zero, suc, leb, List, [], ◌∷◌, ◌++◌, true, false, if◌then◌else◌, Option, None, Some, String, ap, ◌∙◌}
use Rattle.std.proofs.Common.{append_assoc, codes, string_bytes, take, drop}
use Rattle.html_footnotes.proofs.Prelude.{append-nil, arrow, back_pieces, back_tag, backs_pieces, bare_tag, Call, call_id, Close, CompileOptions, count_pieces}
use Rattle.html_footnotes.proofs.Prelude.{encode, flat_map-append, fold, fold-append, footnote_id, heading_pieces, pieces_html, plain, print, say_bytes}
use Rattle.html_footnotes.proofs.Prelude.{section_heading_name, section_heading_tag, space_after, start_tag, text_or, with_backs}
use Rattle.definition_text.proofs.Each.{each-append}
use Rattle.definition_page.specs.Tags.{AsItIs, Number}
use Rattle.definition_page.specs.Pieces.{Says}
use Rattle.definition_page.specs.InlinePieces.{element}
use Rattle.definition_page.specs.GfmLabelStartFootnote.{call_tag}
use Rattle.definition_page.specs.GfmFootnoteDefinition.{item_tag}
use Rattle.html_bytes.specs.Pieces.{piece_html}
use Rattle.html_bytes.proofs.Printed.{IsInLine, AreInLine, added}

-- ---- tags

call_parts : (a x q m y l g : List ℕ) → (a ++ ((x ++ q) ++ ((m ++ (y ++ q)) ++ (l ++ [])))) ++ g ≡ a ++ x ++ (q ++ m) ++ y ++ (q ++ l ++ g)
call_parts a x q m y l g = simp (append_assoc, append-nil)

pub call_printed : (options : CompileOptions) (c : Call)
    → start_tag (call_tag options c)
    ≡ codes "<a href=\"#" ++ say_bytes (footnote_id options c.label) ++ codes "\" id=\"" ++ say_bytes (call_id options c.label c.count)
    ++ codes "\" data-footnote-ref=\"\" aria-describedby=\"footnote-label\">"
call_printed options c =
    call_parts (codes "<a href=\"#") (say_bytes (footnote_id options c.label)) (codes "\"") (codes " id=\"") (say_bytes (call_id options c.label c.count))
    (codes " data-footnote-ref=\"\" aria-describedby=\"footnote-label\"") (codes ">")

back_parts : (a x q m t c g : List ℕ) → (a ++ ((x ++ q) ++ (m ++ (((t ++ []) ++ q) ++ (c ++ []))))) ++ g ≡ a ++ x ++ (q ++ m) ++ t ++ (q ++ c ++ g)
back_parts a x q m t c g = simp (append_assoc, append-nil)

pub back_printed : (options : CompileOptions) (label : List ℕ) (count : ℕ)
    → start_tag (back_tag options label count)
    ≡ codes "<a href=\"#" ++ say_bytes (call_id options label count) ++ codes "\" data-footnote-backref=\"\" aria-label=\""
    ++ encode (text_or options.gfm_footnote_back_label (codes "Back to content"))
    ++ codes "\" class=\"data-footnote-backref\">"
back_printed options label count =
    back_parts (codes "<a href=\"#") (say_bytes (call_id options label count)) (codes "\"") (codes " data-footnote-backref=\"\" aria-label=\"")
    (encode (text_or options.gfm_footnote_back_label (codes "Back to content"))) (codes " class=\"data-footnote-backref\"") (codes ">")

item_parts : (a x q e : List ℕ) → (a ++ ((x ++ q) ++ [])) ++ e ≡ a ++ x ++ (q ++ e)
item_parts a x q e = simp (append_assoc, append-nil)

pub item_printed : (options : CompileOptions) (label : List ℕ)
    → start_tag (item_tag options label) ≡ codes "<li id=\"" ++ say_bytes (footnote_id options label) ++ codes "\">"
item_printed options label = item_parts (codes "<li id=\"") (say_bytes (footnote_id options label)) (codes "\"") (codes ">")

pub heading_printed : {A : Type 0} (name : List ℕ) (attributes : Option (String A))
    → start_tag (section_heading_tag name attributes)
    ≡ codes "<" ++ name ++ codes " id=\"footnote-label\" " ++ text_or attributes (codes "class=\"sr-only\"") ++ codes ">"
heading_printed name None = moved name (codes " id=\"footnote-label\" ") (codes "class=\"sr-only\"") (codes ">")
  where
    moved : (a b c d : List ℕ) → (codes "<" ++ (a ++ (b ++ c))) ++ d ≡ codes "<" ++ a ++ b ++ c ++ d
    moved a b c d = simp append_assoc
heading_printed name (Some attributes) = moved name (codes " id=\"footnote-label\" ") (string_bytes attributes) (codes ">")
  where
    moved : (a b c d : List ℕ) → (codes "<" ++ ((a ++ b ++ c) ++ [])) ++ d ≡ codes "<" ++ a ++ b ++ c ++ d
    moved a b c d = simp (append_assoc, append-nil)

-- ---- ways back

-- which call a way back leads to, and its end tag
pub counted : (options : CompileOptions) (label : List ℕ) (count : ℕ)
    → pieces_html (back_pieces options label count)
    ≡ start_tag (back_tag options label count) ++ (arrow ++ (pieces_html (count_pieces count) ++ codes "</a>"))
counted options label count =
    ap (λ x. start_tag (back_tag options label count) ++ (arrow ++ x)) (flat_map-append piece_html (count_pieces count) (Close (codes "a") ∷ []))

-- one more way back
pub one_more : (options : CompileOptions) (label : List ℕ) (count : ℕ)
    → pieces_html (backs_pieces options label (suc count))
    ≡ pieces_html (backs_pieces options label count) ++ pieces_html (space_after count) ++ pieces_html (back_pieces options label (suc count))
one_more options label count =
    let before = backs_pieces options label count in
    let last = back_pieces options label (suc count) in
    flat_map-append piece_html (before ++ space_after count) last
    ∙ ap (λ x. x ++ pieces_html last) (flat_map-append piece_html before (space_after count))

-- ---- ways back are in line

count_in_line : (count : ℕ) → AreInLine (count_pieces count)
count_in_line count = elim (leb count 1) as (λ t. AreInLine (if t then [] else element (bare_tag (codes "sup")) (Says (Number count) ∷ []))) [
  | true ↦ tt
  | false ↦ (tt, (tt, (tt, tt)))
]

space_in_line : (count : ℕ) → AreInLine (space_after count)
space_in_line zero = tt
space_in_line (suc count) = (tt, tt)

backs_in_line : (options : CompileOptions) (label : List ℕ) (count : ℕ) → AreInLine (backs_pieces options label count)
backs_in_line options label zero = tt
backs_in_line options label (suc count) =
    each-append IsInLine (backs_pieces options label count ++ space_after count) (back_pieces options label (suc count))
    (each-append IsInLine (backs_pieces options label count) (space_after count) (backs_in_line options label count) (space_in_line count))
    (tt, (tt, each-append IsInLine (count_pieces (suc count)) (Close (codes "a") ∷ []) (count_in_line (suc count)) (tt, tt)))

-- ways back to calls add their HTML
pub backs_added : (options : CompileOptions) (label : List ℕ) (count : ℕ) (default out : List ℕ)
    → fold (print default) out (backs_pieces options label count) ≡ out ++ pieces_html (backs_pieces options label count)
backs_added options label count default out = added default (backs_pieces options label count) (backs_in_line options label count) out

-- and so does the heading
pub heading_added : (options : CompileOptions) (default out : List ℕ) → fold (print default) out (heading_pieces options) ≡ out ++ pieces_html (heading_pieces options)
heading_added options default out = added default (heading_pieces options) (tt, (tt, (tt, tt))) out

heading_parts : (a b c d e : List ℕ) → a ++ (b ++ (((c ++ d) ++ e) ++ [])) ≡ a ++ b ++ c ++ d ++ e
heading_parts a b c d e = simp (append_assoc, append-nil)

pub heading_said : (options : CompileOptions)
    → pieces_html (heading_pieces options)
    ≡ start_tag (section_heading_tag (section_heading_name options) options.gfm_footnote_label_attributes)
    ++ encode (text_or options.gfm_footnote_label (codes "Footnotes"))
    ++ codes "</"
    ++ section_heading_name options
    ++ codes ">"
heading_said options =
    heading_parts (start_tag (section_heading_tag (section_heading_name options) options.gfm_footnote_label_attributes))
    (encode (text_or options.gfm_footnote_label (codes "Footnotes"))) (codes "</") (section_heading_name options) (codes ">")

-- ---- a footnote

-- its HTML with the ways back in the paragraph that it ends with
pub in_paragraph : (options : CompileOptions) (label html : List ℕ) (count end : ℕ) (default out : List ℕ)
    → fold (print default) out (with_backs html (backs_pieces options label count) (Some end))
    ≡ (((out ++ plain (take end html)) ++ codes " ") ++ pieces_html (backs_pieces options label count)) ++ plain (drop end html)
in_paragraph options label html count end default out =
    let front = (out ++ plain (take end html)) ++ codes " " in
    let backs = backs_pieces options label count in
    fold-append (print default) front backs (Says (AsItIs (drop end html)) ∷ [])
    ∙ ap (λ x. x ++ plain (drop end html)) (backs_added options label count default front)
