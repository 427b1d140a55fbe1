use Rattle.std.proofs.Common.{◌≡◌, sym, ap, subst, ◌∙◌}
use Rattle.std.specs.Prelude.{OnOk}
use Rattle.std.proofs.lemmas.Bool.{cond-true, cond-false}
use Rattle.definition_html.specs.Listing.{is_in, heading_names}
use Rattle.definition_html.specs.State.{State, ended_to, without_frame}
use Rattle.html_sanitizer.specs.Page.{page_state}
use Rattle.html_sanitizer.proofs.page.Page.make_room.Goals as goal

pub returns-then-is_heading : goal.returns-then-is_heading
unfolding heading_names
returns-then-is_heading g c =
    let s = page_state c.args.self.now in
    subst (λ (t : State). OnOk c.end_to.result (page_state c.end_to.new.self ≡ t))
    (ap (ended_to heading_names) c.in_ok-end_frame.ensures
    ∙ sym (cond-true (is_in heading_names c.args.name.now) (ended_to heading_names (without_frame s)) (without_frame s)
    (sym c.is_heading.ensures ∙ c.if-is_heading.true)))
    c.end_to.ensures

pub returns-else-is_heading : goal.returns-else-is_heading
returns-else-is_heading g c =
    let s = page_state c.args.self.now in
    c.in_ok-end_frame.ensures
    ∙ sym (cond-false (is_in heading_names c.args.name.now) (ended_to heading_names (without_frame s)) (without_frame s)
    (sym c.is_heading.ensures ∙ c.if-is_heading.false))
