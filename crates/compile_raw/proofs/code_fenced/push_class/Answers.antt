use Rattle.std.proofs.Common.{◌≡◌, codes, sym, ap, ◌∙◌, subst}
use Rattle.compile_raw.proofs.Prelude.{encode, LayoutState, OnOk, page_view, with_bytes}
use Rattle.compile_raw.proofs.FencedLaid.{class_laid}
use Rattle.compile_raw.proofs.code_fenced.push_class.Goals as goal

pub returns-clause-printed : goal.returns-clause-printed
returns-clause-printed g c =
    let info = c.args.info.now in
    subst (λ (x : LayoutState). OnOk c.say-2.result (page_view c.say-2.new.self ≡ x))
    (ap (with_bytes (codes "\"")) (c.in_ok-encode.ensures.printed ∙ ap (with_bytes (encode info)) c.in_ok-say.ensures.printed)
    ∙ class_laid info (page_view c.args.page.now))
    c.say-2.ensures.printed
