use Rattle.std.proofs.Common.{◌≡◌, ◌++◌, ◌∷◌, [], ℕ, List, map, codes, string_bytes, sym, ap, ◌∙◌, append_assoc}
use Rattle.html_footnotes.proofs.Prelude.{bare_tag, Close, ending_bytes, fold, fold-append, footnotes_pieces, Fresh, heading_pieces, note_view, pieces_html}
use Rattle.html_footnotes.proofs.Prelude.{print}
use Rattle.definition_page.specs.Pieces.{Piece, Open}
use Rattle.definition_page.specs.GfmFootnoteDefinition.{section_tag}
use Rattle.html_footnotes.proofs.Printed.{heading_added}
use Rattle.html_footnotes.proofs.gfm_footnote_definition.push_listed.Goals as goal

-- the end of a list, then the end of the section
ends : (a b c d e f : List Piece) → ((((a ++ b) ++ c) ++ d) ++ e) ++ f ≡ a ++ (b ++ c ++ d ++ e ++ f)
ends a b c d e f = simp append_assoc

pub returns : goal.returns
returns g c =
    let default = ending_bytes c.args.ending in
    let out : List ℕ → Piece → List ℕ = print default in
    let start = string_bytes c.args.out.now in
    let options = c.args.compile.now in
    let section = codes "<section data-footnotes=\"\" class=\"footnotes\">" in
    let heading = heading_pieces options in
    let notes = footnotes_pieces options (map note_view c.args.notes.now) in
    let front : List Piece = Fresh ∷ Open section_tag ∷ heading ++ Fresh ∷ Open (bare_tag (codes "ol")) ∷ [] in
    let after : List Piece = Fresh ∷ Close (codes "ol") ∷ Fresh ∷ Close (codes "section") ∷ Fresh ∷ [] in
    let before_heading : string_bytes c.push_str.new.self ≡ fold out start (Fresh ∷ Open section_tag ∷ []) =
    c.in_ok-push_str.ensures.bytes ∙ ap (λ x. x ++ section) c.in_ok-push_fresh.ensures in
    let before_notes : string_bytes c.push_str-2.new.self ≡ fold out start front =
    c.in_ok-push_str-2.ensures.bytes
    ∙ ap (λ x. x ++ codes "<ol>")
    (c.in_ok-push_fresh-2.ensures
    ∙ ap (λ x. out x Fresh) (c.in_ok-push_heading.ensures ∙ ap (λ x. x ++ pieces_html heading) before_heading
    ∙ sym (heading_added options default (fold out start (Fresh ∷ Open section_tag ∷ []))))) in
    let after_notes : string_bytes c.push_fresh-5.new.out ≡ fold out (string_bytes c.push_footnotes.new.out) after =
    c.in_ok-push_fresh-5.ensures
    ∙ ap (λ x. out x Fresh)
    (c.in_ok-push_str-4.ensures.bytes
    ∙ ap (λ x. x ++ codes "</section>")
    (c.in_ok-push_fresh-4.ensures
    ∙ ap (λ x. out x Fresh) (c.in_ok-push_str-3.ensures.bytes ∙ ap (λ x. x ++ codes "</ol>") c.in_ok-push_fresh-3.ensures))) in
    after_notes
    ∙ ap (λ x. fold out x after) (c.in_ok-push_footnotes.ensures ∙ ap (λ x. fold out x notes) before_notes)
    ∙ sym (fold-append out (fold out start front) notes after)
    ∙ ap (fold out (fold out start front)) (sym (ends notes (Fresh ∷ []) (Close (codes "ol") ∷ []) (Fresh ∷ []) (Close (codes "section") ∷ []) (Fresh ∷ [])))
