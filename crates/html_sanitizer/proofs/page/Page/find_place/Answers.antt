use Rattle.std.proofs.Common.{not, sym, ap, refl, ◌∙◌}
use Rattle.html_safe_page.specs.Views.{names_of, open_names}
use Rattle.definition_html.specs.State.{count_to}
use Rattle.html_sanitizer.specs.Page.{page_state}
use Rattle.html_sanitizer.proofs.Ends.{not_empty, empty_texts, place_free, place_none, place_part}
use Rattle.html_sanitizer.proofs.page.Page.find_place.Goals as goal

pub returns-then-is_empty : goal.returns-then-is_empty
returns-then-is_empty g c = λ next t e.
    place_free next t (page_state c.args.self.now) (page_state c.make_room.new.self) c.args.name.now _ c.may_hold.result e
    (ap not_empty (sym c.parents_of-parents.ensures) ∙ empty_texts c.parents_of-parents.result.now ∙ ap not (sym c.is_empty.ensures ∙ c.if-is_empty.true))
    c.in_ok-make_room.ensures refl c.may_hold.ensures

pub returns-then-count-eq0 : goal.returns-then-count-eq0
returns-then-count-eq0 g c = λ next t e.
    let items = c.args.self.now.level.names.items in
    let parents = c.parents_of-parents.result.now in
    let none = c.if-count-eq0.true in
    place_none next t (page_state c.args.self.now) c.args.name.now (names_of parents) c.count_to-count.result e c.parents_of-parents.ensures
    (empty_texts parents ∙ ap not (sym c.is_empty.ensures ∙ c.if-is_empty.false))
    (c.count_to-count.ensures ∙ ap (λ x. count_to (names_of parents) (open_names x)) c.as_slice.ensures.value) none

pub returns : goal.returns
returns g c = λ next t e.
    let items = c.args.self.now.level.names.items in
    let parents = c.parents_of-parents.result.now in
    place_part next t (page_state c.args.self.now) (page_state c.end.new.self) c.args.name.now (names_of parents) c.count_to-count.result _
    c.has_room.result e c.parents_of-parents.ensures (empty_texts parents ∙ ap not (sym c.is_empty.ensures ∙ c.if-is_empty.false))
    (c.count_to-count.ensures ∙ ap (λ x. count_to (names_of parents) (open_names x)) c.as_slice.ensures.value) c.if-count-eq0.false
    c.in_ok-end.ensures refl c.has_room.ensures
