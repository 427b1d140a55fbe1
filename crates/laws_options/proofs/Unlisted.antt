-- Options that don't keep raw HTML by the list.
use Rattle.std.proofs.lemmas.Bool.{cond-false}
use Rattle.markdown_compile_options.specs.RawHtml.{keeps_listed_html}
use Rattle.definition_html.specs.Listed.{listed}
use Rattle.definition_page.specs.PrintedPage.{printed_page}
use Rattle.laws_options.specs.Laws.{UnlistedLaw}

pub unlisted_law : UnlistedLaw
unlisted_law tables text options off =
    let page = printed_page tables text options in
    cond-false (keeps_listed_html options.compile) (listed tables.names options.compile page) page off
