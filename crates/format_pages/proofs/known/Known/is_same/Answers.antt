use Rattle.std.proofs.Common.{sym, ◌∙◌}
use Rattle.std.specs.Prelude.{string_bytes}
use Rattle.format_pages.specs.Calls.{calls}
use Rattle.format_pages.specs.Hidden.{footnotes}
use Rattle.format_pages.proofs.Whole.{called_same}
use Rattle.format_pages.proofs.known.Known.is_same.Goals as goal

pub returns-clause-document : goal.returns-clause-document
returns-clause-document c = λ other known same.
    let known_here = c.args.self.now in
    let pages = c.in_ok-has_pages.ensures.pages c.if-not-branch.false in
    let hidden = c.in_ok-has_hidden.ensures in
    let every = pages.every ∙ known.every in
    record {
      page = pages.page ∙ known.page;
      document =
          record {
            every = every;
            plain = pages.plain ∙ known.plain;
            front = c.has_front.ensures c.if-not-has_front.false ∙ c.deref.ensures.value ∙ known.front;
            footnotes = sym (hidden.footnotes c.if-not-branch-2.false) ∙ known.hidden.footnotes;
            called =
                called_same known_here.called (string_bytes known_here.calls) (calls (footnotes other)) c.args.text.now other
                c.args.options.now known.calls every known.called (c.in_ok-same.ensures.called same);
            defined = sym (hidden.definitions c.if-not-branch-2.false) ∙ known.hidden.definitions;
            infos = sym (hidden.infos c.if-not-branch-2.false) ∙ known.hidden.infos;
          };
    }

pub returns-clause-size : goal.returns-clause-size
returns-clause-size c = λ same. c.fits.ensures.size.0 c.if-not-fits.false
