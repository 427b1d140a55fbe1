use Rattle.std.proofs.Common.{◌≡◌, ◌++◌, List, ℕ, string_bytes, sym, ap, ◌∙◌, subst}
use Rattle.html_inline.proofs.Prelude.{flat_map, leaf_description, leaf_in, map, OnOk, parts_of}
use Rattle.html_inline.proofs.LeafTexts.{data_described, escapes_described}
use Rattle.html_inline.proofs.leaf.push_description.Goals as goal

pub returns-in-Escape : goal.returns-in-Escape
returns-in-Escape g c =
    let options = c.args.compile.now in
    let cell = c.args.cell in
    subst (λ (s : List ℕ). OnOk c.push_encoded.result (string_bytes c.push_encoded.new.out ≡ string_bytes c.args.out.now ++ s))
    (sym (ap (λ p. flat_map (leaf_description options) (map (leaf_in cell) (parts_of p))) c.in-Escape.is
    ∙ escapes_described cell options c.in-Escape.text.now)) c.push_encoded.ensures

pub returns-in-Unclosed : goal.returns-in-Unclosed
returns-in-Unclosed g c =
    let options = c.args.compile.now in
    let cell = c.args.cell in
    subst (λ (s : List ℕ). OnOk c.push_encoded-in-Unclosed.result (string_bytes c.push_encoded-in-Unclosed.new.out ≡ string_bytes c.args.out.now ++ s))
    (sym (ap (λ p. flat_map (leaf_description options) (map (leaf_in cell) (parts_of p))) c.in-Unclosed.is
    ∙ data_described cell options c.in-Unclosed.text.now)) c.push_encoded-in-Unclosed.ensures
