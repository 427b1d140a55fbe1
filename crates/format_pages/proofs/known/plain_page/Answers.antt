use Rattle.std.proofs.Common.{◌≡◌, subst}
use Rattle.std.specs.Prelude.{IfOk, string_bytes}
use Rattle.markdown_compile_options.specs.declared.configuration.Options.{Options}
use Rattle.markdown_definition.specs.Html.{html}
use Rattle.markdown_tables.specs.Builtin.{builtin_tables}
use Rattle.format_pages.proofs.known.plain_page.Goals as goal

pub returns-clause-page : goal.returns-clause-page
returns-clause-page c =
    subst (λ (o : Options). IfOk c.page_by.result (λ page. string_bytes page ≡ html builtin_tables c.args.text.now o)) c.by_plain-plain.ensures
    c.page_by.ensures.page
