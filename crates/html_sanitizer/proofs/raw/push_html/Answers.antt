use Rattle.std.proofs.Common.{◌≡◌, codes, drop, arith, sym, ap, subst, ◌∙◌}
use Rattle.std.specs.Prelude.{OnOk}
use Rattle.std.specs.Option.{option_copied}
use Rattle.definition_text.specs.Bytes.{after_all, begins_with, without_slash}
use Rattle.definition_text.specs.Encode.{encode}
use Rattle.definition_inline.specs.HtmlTags.{is_tag_name_byte, tag_name}
use Rattle.definition_html.specs.Raw.{RawPart}
use Rattle.definition_html.specs.State.{State, says}
use Rattle.definition_html.specs.Listed.{raw_part}
use Rattle.html_sanitizer.specs.Listing.{listed_name}
use Rattle.html_sanitizer.specs.Page.{page_state}
use Rattle.html_sanitizer.proofs.Marks.{are_bytes}
use Rattle.html_sanitizer.proofs.Printing.{bytes_own}
use Rattle.html_sanitizer.proofs.Opening.{token_text, token_open}
use Rattle.html_sanitizer.proofs.raw.push_html.Goals as goal

pub returns-in_default-clause-printed : goal.returns-in_default-clause-printed
returns-in_default-clause-printed g c = λ begins.
    let names = g.T.Tables.reference_of c.args.tables.now in
    let html = c.args.html.now in
    let s = page_state c.args.page.now in
    let own = bytes_own html (are_bytes html (λ k. omega (arith, c.type_inv.html k))) in
    let no_comment = ap (begins_with (codes "<!--")) (sym c.as_bytes-bytes.ensures.value) ∙ sym c.starts_with.ensures.value ∙ c.if-starts_with.false in
    let missing = sym (ap option_copied c.in_default.is) ∙ c.listed_name.ensures
    ∙ ap listed_name (c.split_name.ensures.name ∙ ap tag_name (c.without_slash.ensures ∙ ap without_slash (c.after_sign-inside.ensures begins))) in
    subst (λ (t : State). OnOk c.push_text.result (page_state c.push_text.new.self ≡ t))
    (ap (λ x. says (encode x) s) (sym own) ∙ ap (raw_part s) (sym (token_text names c.args.options.now html no_comment missing)))
    c.push_text.ensures

pub returns-clause-printed : goal.returns-clause-printed
returns-clause-printed g c = λ begins.
    let names = g.T.Tables.reference_of c.args.tables.now in
    let html = c.args.html.now in
    let s = page_state c.args.page.now in
    let bytes = c.as_bytes-bytes.ensures.value in
    let no_comment = ap (begins_with (codes "<!--")) (sym bytes) ∙ sym c.starts_with.ensures.value ∙ c.if-starts_with.false in
    let no_end = ap (begins_with (codes "</")) (sym bytes) ∙ sym c.starts_with-2.ensures.value ∙ c.if-starts_with-2.false in
    let found = sym (ap option_copied c.in-Some.is) ∙ c.listed_name.ensures
    ∙ ap listed_name (c.split_name.ensures.name ∙ ap tag_name (c.without_slash.ensures ∙ ap without_slash (c.after_sign-inside.ensures begins))) in
    subst (λ (p : RawPart). OnOk c.push_open_tag.result (page_state c.push_open_tag.new.page ≡ raw_part s p))
    (sym (token_open names c.args.options.now html c.in-Some.name.now no_comment found no_end))
    (c.push_open_tag.ensures (drop 1 html) (c.split_name-2.ensures.rest ∙ ap (after_all is_tag_name_byte) (c.after_sign-inside.ensures begins)))
