use Rattle.std.proofs.Common.{◌≡◌, OnOk, ap, sym, subst, ◌∙◌, drop}
use Rattle.html_contents.proofs.Prelude.{check_size, content_view, context_of, document_by, fold, inlines_from, lay, output_view, reading_of, structure_pieces}
use Rattle.html_contents.proofs.Prelude.{view_at}
use Rattle.definition_text.specs.Content.{content_codes}
use Rattle.definition_inline.specs.Scan.{without_indent}
use Rattle.html_bytes.specs.Layout.{with_text}
use Rattle.html_contents.proofs.Checks.{text_alone, text_checked}
use Rattle.inline_parser.proofs.Views.{codes_left, view_next, after_next}
use Rattle.html_contents.proofs.texts.Texts.push_checked.Goals as goal

pub returns-in-None : goal.returns-in-None
returns-in-None g c = λ ds known default.
    let texts = c.args.self.now in
    let p = g.T.Tables.punctuation_of texts.tables.now in
    let content = c.args.content in
    let start = c.content_start-start.result.now in
    let d = document_by g.T.Tables texts ds in
    let view = c.content_start-start.ensures.view p in
    subst (λ text. OnOk c.push_from.result (output_view c.push_from.new.out ≡ fold (lay d.options.compile default) (output_view c.args.out.now) text))
    (text_alone d c.args.first (without_indent (content_view p content)) (view_at p content start) (content_codes start) view
    (codes_left p content start c.content_start-start.ensures.place) c.in-None.ensures.read)
    (c.push_from.ensures ds known default)

pub returns-in_ok-push_check-in-Some : goal.returns-in_ok-push_check-in-Some
returns-in_ok-push_check-in-Some g c = λ ds known default.
    let texts = c.args.self.now in
    let p = g.T.Tables.punctuation_of texts.tables.now in
    let content = c.args.content in
    let start = c.content_start-start.result.now in
    let check = c.in-Some.check in
    let d = document_by g.T.Tables texts ds in
    let view = c.content_start-start.ensures.view p in
    let place = c.content_start-start.ensures.place in
    let out = output_view c.args.out.now in
    let after = view_at p content check.after.now in
    let text = structure_pieces d (inlines_from (context_of (reading_of d)) after) in
    let next = after_next start check.after.now c.in-Some.ensures.place.after in
    let rest : drop check_size (view_at p content start) ≡ after =
    sym (ap (λ n. drop n (view_at p content start)) c.in-Some.ensures.place.size) ∙ view_next p content start check.after.now place next in
    subst (λ all. OnOk c.push_from-in-Some.result (output_view c.push_from-in-Some.new.out ≡ all))
    (ap (λ x. fold (lay d.options.compile default) (with_text out x) text) c.in_ok-push_check-in-Some.ensures
    ∙ ap (fold (lay d.options.compile default) out)
    (text_checked d c.args.first (without_indent (content_view p content)) (view_at p content start) (content_codes start) view
    (codes_left p content start place) check.done after c.in-Some.ensures.read rest))
    (c.push_from-in-Some.ensures ds known default)
