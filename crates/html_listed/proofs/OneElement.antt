-- Any HTML as text in one element without a name.
use Rattle.std.proofs.Common.{◌≡◌, ℕ, true, List, [], ◌∷◌, ◌++◌, codes, length, refl, sym, ap, ◌∙◌, subst}
use Rattle.std.specs.Prelude.{unwrap_or}
use Rattle.std.specs.List.{list_all, fold, take_while}
use Rattle.std.proofs.lemmas.Bool.{cond-false}
use Rattle.definition_text.specs.Bytes.{begins_with, after_all}
use Rattle.definition_text.specs.Content.{Part, part}
use Rattle.definition_text.specs.Encode.{encode, plain}
use Rattle.definition_text.specs.Lines.{ends_line}
use Rattle.html_safe_page.specs.SafePage.{spell_letter, spell_text}
use Rattle.html_safe_page.specs.Reader.{read_text}
use Rattle.html_safe_page.proofs.Text.{read_spelled}
use Rattle.html_safe_page.proofs.Closing.{encode_spelled}
use Rattle.definition_html.specs.State.{nothing_open, all_ended}
use Rattle.definition_html.specs.PageParts.{Raw, is_in_text, after_tag, after_element, raw_run, page_parts}
use Rattle.definition_html.specs.Listed.{page_part}
use Rattle.html_listed.specs.Laws.{OneElementLaw}
use Rattle.html_listed.proofs.PageParts.{taken, passed, in_both, letter_in_text}
use Rattle.html_listed.proofs.Nameless.{run_of, run_part}

text_in_text : (text : List ℕ) → list_all is_in_text (spell_text text []) ≡ true
text_in_text [] = refl
text_in_text (b ∷ bs) = in_both is_in_text (spell_letter b) (spell_text bs []) (letter_in_text b) (text_in_text bs)

-- the element is one part
one_part : (html : List ℕ) → page_parts (60 ∷ 62 ∷ (encode html ++ (60 ∷ 47 ∷ 62 ∷ []))) ≡ Raw (plain html) ∷ []
one_part html =
    let inside = encode html ++ (60 ∷ 47 ∷ 62 ∷ []) in
    let text = take_while is_in_text inside in
    let rest = after_element (60 ∷ 62 ∷ inside) in
    let next = after_all ends_line rest in
    let clean = subst (λ x. list_all is_in_text x ≡ true) (sym (encode_spelled html)) (text_in_text (plain html)) in
    let no_rest : rest ≡ [] = ap after_tag (passed is_in_text (encode html) 60 (47 ∷ 62 ∷ []) clean refl) in
    let whole : text ≡ encode html = taken is_in_text (encode html) 60 (47 ∷ 62 ∷ []) clean refl in
    let others = raw_run (length inside) next in
    let run : run_of inside ≡ part (encode html) [] =
    cond-false (begins_with (codes "<>") next) (part (text ++ take_while ends_line rest ++ others.text) others.rest) (part text rest)
    (ap (λ x. begins_with (codes "<>") (after_all ends_line x)) no_rest)
    ∙ ap (λ x. part x rest) whole
    ∙ ap (λ x. part (encode html) x) no_rest in
    run_part inside
    ∙ ap (λ (p : Part). Raw (unwrap_or (read_text p.text) []) ∷ page_parts p.rest) run
    ∙ ap (λ o. Raw (unwrap_or o []) ∷ []) (ap read_text (encode_spelled html) ∙ read_spelled (plain html))

pub one_element_law : OneElementLaw
one_element_law names options html =
    ap (λ parts. let s = all_ended (fold (page_part names options) nothing_open parts) in s.out) (one_part html)
