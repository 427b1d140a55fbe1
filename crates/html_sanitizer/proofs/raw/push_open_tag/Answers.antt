use Rattle.std.proofs.Common.{◌≡◌, ◌++◌, codes, cond, length, true, false, string_bytes, refl, sym, ap, subst, ◌∙◌}
use Rattle.std.specs.Prelude.{OnOk, map}
use Rattle.definition_text.specs.Bytes.{begins_with}
use Rattle.definition_page.specs.Tags.{tag, tag_bytes}
use Rattle.html_safe_page.specs.Views.{open_names}
use Rattle.definition_html.specs.Attributes.{kept}
use Rattle.definition_html.specs.Listing.{void_names}
use Rattle.definition_html.specs.State.{State, opened}
use Rattle.html_sanitizer.specs.Attributes.{after_space, attributes_of, cut, read_attribute}
use Rattle.html_sanitizer.specs.Page.{page_state}
use Rattle.html_sanitizer.proofs.Opening.{void_printed, placeless, placed}
use Rattle.html_sanitizer.proofs.raw.push_open_tag.Goals as goal

pub returns-then-is_in : goal.returns-then-is_in
unfolding void_names
returns-then-is_in g c = λ html place.
    let names = g.T.Tables.reference_of c.args.tables.now in
    let options = c.args.options.now in
    let name = c.args.name.now in
    let after = c.args.after.now in
    let out = string_bytes c.make_room.new.self.out in
    let written = c.in_ok-rest.ensures.written ∙ ap (λ l. attributes_of l ++ cut (length after) after) c.clear.ensures.items in
    void_printed names options name html after place (page_state c.args.page.now) (page_state c.make_room.new.self) out (string_bytes c.push_str.new.self)
    (open_names c.make_room.new.self.level.names.items) (sym c.is_in.ensures ∙ c.if-is_in.true) c.in_ok-make_room.ensures
    (c.in_ok-push_str.ensures.bytes ∙ ap (λ x. x ++ codes " />") (c.in_ok-push_tag.ensures
    ∙ ap (λ l. (out ++ codes "<") ++ tag_bytes (tag name (kept options name (map (read_attribute names) l)))) written))

pub returns-then-not-branch : goal.returns-then-not-branch
unfolding void_names
returns-then-not-branch g c = λ html place.
    let names = g.T.Tables.reference_of c.args.tables.now in
    let s1 = page_state c.find_place.new.self in
    placeless names c.args.options.now c.args.name.now html c.args.after.now place (page_state c.args.page.now) s1 (sym c.is_in.ensures ∙ c.if-is_in.false)
    (λ next t e. c.in_ok-find_place.ensures next t e ∙ ap (λ b. cond b (next (opened t s1)) s1) c.if-not-branch.true)

pub returns-then-starts_with : goal.returns-then-starts_with
unfolding void_names
returns-then-starts_with g c = λ html place.
    let names = g.T.Tables.reference_of c.args.tables.now in
    let options = c.args.options.now in
    let name = c.args.name.now in
    let after = c.args.after.now in
    let s1 = page_state c.find_place.new.self in
    let out = string_bytes c.find_place.new.self.out in
    let written = c.in_ok-rest.ensures.written ∙ ap (λ l. attributes_of l ++ cut (length after) after) c.clear.ensures.items in
    subst (λ (t : State). OnOk c.end.result (page_state c.end.new.self ≡ t))
    (placed names options name html after place (page_state c.args.page.now) s1 (page_state c.open.new.self) out (string_bytes c.push_str-2.new.self)
    (open_names c.find_place.new.self.level.names.items) true (sym c.is_in.ensures ∙ c.if-is_in.false) refl
    (λ next t e. c.in_ok-find_place.ensures next t e ∙ ap (λ b. cond b (next (opened t s1)) s1) c.if-not-branch.false)
    (c.in_ok-push_str-2.ensures.bytes ∙ ap (λ x. x ++ codes ">") (c.in_ok-push_tag-2.ensures
    ∙ ap (λ l. (out ++ codes "<") ++ tag_bytes (tag name (kept options name (map (read_attribute names) l)))) written))
    c.in_ok-open.ensures
    (sym c.if-starts_with.true ∙ c.starts_with.ensures.value
    ∙ ap (begins_with (codes "/")) (c.as_bytes.ensures.value ∙ c.after_space.ensures ∙ ap after_space c.in_ok-rest.ensures.rest)))
    c.end.ensures

pub returns-else-starts_with : goal.returns-else-starts_with
unfolding void_names
returns-else-starts_with g c = λ html place.
    let names = g.T.Tables.reference_of c.args.tables.now in
    let options = c.args.options.now in
    let name = c.args.name.now in
    let after = c.args.after.now in
    let s1 = page_state c.find_place.new.self in
    let out = string_bytes c.find_place.new.self.out in
    let written = c.in_ok-rest.ensures.written ∙ ap (λ l. attributes_of l ++ cut (length after) after) c.clear.ensures.items in
    placed names options name html after place (page_state c.args.page.now) s1 (page_state c.open.new.self) out (string_bytes c.push_str-2.new.self)
    (open_names c.find_place.new.self.level.names.items) false (sym c.is_in.ensures ∙ c.if-is_in.false) refl
    (λ next t e. c.in_ok-find_place.ensures next t e ∙ ap (λ b. cond b (next (opened t s1)) s1) c.if-not-branch.false)
    (c.in_ok-push_str-2.ensures.bytes ∙ ap (λ x. x ++ codes ">") (c.in_ok-push_tag-2.ensures
    ∙ ap (λ l. (out ++ codes "<") ++ tag_bytes (tag name (kept options name (map (read_attribute names) l)))) written))
    c.in_ok-open.ensures
    (sym c.if-starts_with.false ∙ c.starts_with.ensures.value
    ∙ ap (begins_with (codes "/")) (c.as_bytes.ensures.value ∙ c.after_space.ensures ∙ ap after_space c.in_ok-rest.ensures.rest))
