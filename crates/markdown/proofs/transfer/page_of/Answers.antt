use Rattle.std.proofs.Common.{ap, ◌∙◌}
use Rattle.markdown_definition.specs.Html.{html}
use Rattle.html_contents.specs.Texts.{tables_by}
use Rattle.markdown.proofs.transfer.page_of.Goals as goal

pub returns-in_ok-to_html_with_tables-in-Ok-clause-ok : goal.returns-in_ok-to_html_with_tables-in-Ok-clause-ok
returns-in_ok-to_html_with_tables-in-Ok-clause-ok g c =
    c.in_ok-to_html_with_tables-in-Ok.ensures.page
    ∙ ap (λ text. html (tables_by g.T.Tables c.args.tables.now) text c.args.options.now) c.in-Ok.ensures.cases.0
