use Rattle.format_pages.proofs.Whole.{page_equal, page_kept}
use Rattle.format_pages.proofs.known.Known.has_pages.Goals as goal

pub returns-clause-pages : goal.returns-clause-pages
returns-clause-pages c = λ same.
    record {
      page = page_kept c.in_ok-page.page c.args.self.now.page _ c.ne.result c.ne.ensures c.if-ne.false c.in_ok-page.ensures.page;
      every = page_kept c.in_ok-every.every c.args.self.now.every _ c.ne-2.result c.ne-2.ensures c.if-ne-2.false c.in_ok-every.ensures.page;
      plain = page_equal c.in_ok-plain.plain c.args.self.now.plain _ c.eq-same.result c.eq-same.ensures same c.in_ok-plain.ensures.page;
    }
