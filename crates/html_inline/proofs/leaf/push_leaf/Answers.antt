use Rattle.std.proofs.Common.{◌≡◌, ◌++◌, List, ℕ, false, string_bytes, sym, ap, ◌∙◌, subst}
use Rattle.html_inline.proofs.Prelude.{append-nil, content_codes, flat_map, html_says, leaf_html, leaf_in, map, OnOk, parts_of}
use Rattle.definition_inline.specs.Inline.{Html}
use Rattle.html_inline.proofs.LeafTexts.{data_html, escapes_html, says_html}
use Rattle.html_inline.proofs.leaf.push_leaf.Goals as goal

pub returns-in-Escape : goal.returns-in-Escape
returns-in-Escape g c =
    let p = c.args.printing.now in
    let cell = p.cell in
    let options = p.compile.now in
    subst (λ (s : List ℕ). OnOk c.push_encoded.result (string_bytes c.push_encoded.new.out ≡ string_bytes c.args.out.now ++ s))
    (sym (ap (λ p. flat_map (leaf_html options) (map (leaf_in cell) (parts_of p))) c.in-Escape.is ∙ escapes_html cell options c.in-Escape.text.now))
    c.push_encoded.ensures

pub returns-in-Unclosed : goal.returns-in-Unclosed
returns-in-Unclosed g c =
    let p = c.args.printing.now in
    let cell = p.cell in
    let options = p.compile.now in
    subst (λ (s : List ℕ). OnOk c.push_encoded-in-Unclosed.result (string_bytes c.push_encoded-in-Unclosed.new.out ≡ string_bytes c.args.out.now ++ s))
    (sym (ap (λ p. flat_map (leaf_html options) (map (leaf_in cell) (parts_of p))) c.in-Unclosed.is ∙ data_html cell options c.in-Unclosed.text.now))
    c.push_encoded-in-Unclosed.ensures

pub returns-in-Html : goal.returns-in-Html
returns-in-Html g c =
    let p = c.args.printing.now in
    let options = p.compile.now in
    let html = content_codes c.in-Html.html.now in
    subst (λ (s : List ℕ). OnOk c.push_html_text.result (string_bytes c.push_html_text.new.out ≡ string_bytes c.args.out.now ++ s))
    (sym (ap (λ part. flat_map (leaf_html options) (map (leaf_in p.cell) (parts_of part))) c.in-Html.is
    ∙ append-nil (leaf_html options (Html html)) ∙ says_html (html_says false options html))) c.push_html_text.ensures
