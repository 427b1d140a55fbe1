use Rattle.std.proofs.Common.{◌≡◌, List, ℕ, ap, ◌∙◌, subst}
use Rattle.std.specs.Prelude.{IfSome, string_bytes}
use Rattle.markdown_definition.specs.Html.{html}
use Rattle.markdown_tables.specs.Builtin.{builtin_tables}
use Rattle.format_pages.specs.Calls.{with_calls}
use Rattle.format_pages.specs.Constructs.{by_every}
use Rattle.format_pages.proofs.known.called_page.Goals as goal

pub returns-in_ok-page-in-Some-clause-page : goal.returns-in_ok-page-in-Some-clause-page
returns-in_ok-page-in-Some-clause-page c =
    c.in_ok-page-in-Some.ensures.page
    ∙ ap (λ (text : List ℕ). html builtin_tables text (by_every c.args.options.now))
    (c.deref-in-Some.ensures
    ∙ subst (λ o. IfSome o (λ it. string_bytes it ≡ with_calls c.args.calls.now c.args.text.now)) c.in-Some.is c.in_ok-called.ensures)
