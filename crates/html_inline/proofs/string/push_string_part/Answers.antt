use Rattle.std.proofs.Common.{◌≡◌, ◌++◌, List, ℕ, string_bytes, sym, ap, ◌∙◌, subst}
use Rattle.html_inline.proofs.Prelude.{flat_map, form_bytes, OnOk, parts_of}
use Rattle.definition_inline.specs.Strings as strings
use Rattle.html_inline.proofs.PartTexts.{data_texts, escape_texts}
use Rattle.html_inline.proofs.string.push_string_part.Goals as goal

pub returns-in-Escape : goal.returns-in-Escape
returns-in-Escape g c =
    let text = c.in-Escape.text.now in
    subst (λ (s : List ℕ). OnOk c.push_formed.result (string_bytes c.push_formed.new.out ≡ string_bytes c.args.out.now ++ form_bytes c.args.form s))
    (sym (ap (λ p. flat_map strings.string_bytes (parts_of p)) c.in-Escape.is ∙ escape_texts text)) c.push_formed.ensures

pub returns-in-Unclosed : goal.returns-in-Unclosed
returns-in-Unclosed g c =
    let text = c.in-Unclosed.text.now in
    subst (λ (s : List ℕ). OnOk c.push_formed-in-Unclosed.result (string_bytes c.push_formed-in-Unclosed.new.out
    ≡ string_bytes c.args.out.now ++ form_bytes c.args.form s))
    (sym (ap (λ p. flat_map strings.string_bytes (parts_of p)) c.in-Unclosed.is ∙ data_texts text)) c.push_formed-in-Unclosed.ensures
