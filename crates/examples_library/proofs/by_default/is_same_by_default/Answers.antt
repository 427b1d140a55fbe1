use Rattle.std.proofs.Common.{◌≡◌, string_bytes, sym, ap, ◌∙◌}
use Rattle.std.specs.Str.{bytes_eq}
use Rattle.std.proofs.lemmas.Slice.Eq.{bytes_eq-Decides}
use Rattle.markdown_definition.specs.Html.{html}
use Rattle.markdown_tables.specs.Builtin.{builtin_tables}
use Rattle.examples_library.proofs.by_default.is_same_by_default.Goals as goal

pub returns : goal.returns
returns c =
    let same : string_bytes c.in_ok-page.page ≡ string_bytes c.in_ok-other.other =
    c.in_ok-page.ensures.page ∙ sym (c.in_ok-other.ensures.page ∙ ap (html builtin_tables c.args.text.now) c.default.ensures) in
    let this = c.as_str.result.now in
    let that = c.as_str-2.result.now in
    let is : c.eq.result ≡ bytes_eq this that = c.eq.ensures in
    is ∙ (bytes_eq-Decides this that).1 (c.as_str.ensures.value ∙ same ∙ sym c.as_str-2.ensures.value)
