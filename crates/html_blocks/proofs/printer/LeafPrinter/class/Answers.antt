use Rattle.std.proofs.Common.{◌≡◌, ◌++◌, ◌==◌, false, length, codes, sym, ap, ◌∙◌, subst, append_assoc}
use Rattle.html_blocks.proofs.Prelude.{document_by, OnOk, page_view}
use Rattle.definition_text.specs.Encode.{encode}
use Rattle.html_bytes.specs.Document.{info_of}
use Rattle.html_bytes.specs.Layout.{with_text}
use Rattle.html_leaves.specs.Prints.{with_bytes}
use Rattle.html_rows.proofs.CodeFencedLemmas.{class_some}
use Rattle.html_blocks.proofs.printer.LeafPrinter.class.Goals as goal

pub returns-clause-printed : goal.returns-clause-printed
returns-clause-printed g c = λ ds clear.
    let d = document_by g.T.Tables c.args.texts.now ds in
    let out = page_view c.args.self.now.page in
    let info = c.args.info.now in
    let some : (length info == 0) ≡ false = sym c.is_empty.ensures ∙ c.if-is_empty.false in
    let start = codes " class=\"language-" in
    let end = codes "\"" in
    let text = encode (info_of d info) in
    let opened = page_view c.start_class.new.self in
    subst (λ x. OnOk c.end_class.result (page_view c.end_class.new.self ≡ x))
    (ap (λ x. with_bytes end (with_text opened x)) (c.in_ok-push_info.ensures ds clear)
    ∙ ap (λ x. with_bytes end (with_bytes text x)) c.in_ok-start_class.ensures.printed
    ∙ ap (λ x. with_text out (x ++ end)) (append_assoc out.text start text)
    ∙ ap (with_text out) (append_assoc out.text (start ++ text) end ∙ ap (λ x. out.text ++ x) (sym (class_some d info some))))
    c.end_class.ensures.printed
