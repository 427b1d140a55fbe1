use Rattle.std.proofs.Common.{◌≡◌, ◌+◌, ◌++◌, ◌∷◌, [], ℕ, List, map, cond, false, None, Some, string_bytes, sym, ap, subst, ◌∙◌}
use Rattle.std.proofs.lemmas.Map.Text.{btree_map_updates_text}
use Rattle.std.specs.BTreeMap.{btree_map_len, get_by_text}
use Rattle.std.specs.Option.{is_some}
use Rattle.definition_page.specs.Slug.{first_free, is_taken, next_slug, slug_of, with_slug}
use Rattle.text_slugs.specs.Slugs.{HasSlugs}
use Rattle.text_slugs.proofs.Taken.{all_taken, found_free, slugs_kept, slugs_same}
use Rattle.text_slugs.proofs.slugs.Slugs.add.Goals as goal

pub invariant_of-self-in_default : goal.invariant_of-self-in_default
invariant_of-self-in_default g c =
    let taken : List (List ℕ) = map string_bytes c.self.inside.taken.items in
    let is = c.in_default.is in
    let copied = c.in_default.ensures in
    let got = c.get.ensures.value in
    let none : get_by_text c.self.inside.numbers c.as_str.result.now ≡ None = cc in
    let new : is_taken taken (string_bytes c.push_slug.new.slug) ≡ false =
    ap (is_taken taken) (sym c.as_str.ensures.value) ∙ sym (c.self.invariant.keys c.as_str.result.now) ∙ ap is_some none in
    subst (HasSlugs c.store.new.numbers) (sym c.in_ok-store.ensures.taken) (c.in_ok-store.ensures.numbers taken c.self.invariant new)

pub invariant_of-self-in_err-insert : goal.invariant_of-self-in_err-insert
invariant_of-self-in_err-insert g c =
    let taken : List (List ℕ) = map string_bytes c.self.inside.taken.items in
    let one = string_bytes c.in_ok-number.free in
    let found =
    found_free c.self.inside.numbers taken c.as_str.result.now c.as_str-2.result.now (string_bytes c.push_slug.new.slug) c.in-Some.last c.in_ok-number.number one
    c.self.invariant c.as_str.ensures.value c.as_str-2.ensures.value (sym (c.in-Some.ensures ∙ c.get.ensures.value))
    (c.in_ok-number.ensures taken c.self.invariant) in
    subst (HasSlugs c.insert.new.self) (sym c.in_ok-store-2.ensures.taken)
    (slugs_same c.store-2.new.numbers c.insert.new.self (taken ++ one ∷ []) c.in_err-insert.ensures.err
    (c.in_ok-store-2.ensures.numbers taken c.self.invariant found.new))

pub invariant_of-self-2 : goal.invariant_of-self-2
invariant_of-self-2 g c =
    let taken : List (List ℕ) = map string_bytes c.self.inside.taken.items in
    let slug = string_bytes c.push_slug.new.slug in
    let number = c.in_ok-number.number in
    let one = string_bytes c.in_ok-number.free in
    let found =
    found_free c.self.inside.numbers taken c.as_str.result.now c.as_str-2.result.now (string_bytes c.push_slug.new.slug) c.in-Some.last c.in_ok-number.number one
    c.self.invariant c.as_str.ensures.value c.as_str-2.ensures.value (sym (c.in-Some.ensures ∙ c.get.ensures.value))
    (c.in_ok-number.ensures taken c.self.invariant) in
    slugs_kept c.store-2.new.numbers c.insert.new.self (taken ++ one ∷ []) (map string_bytes c.store-2.new.taken.items) slug number
    (c.in_ok-store-2.ensures.numbers taken c.self.invariant found.new) (all_taken taken slug number one found)
    (btree_map_updates_text slug c.store-2.new.numbers c.insert.new.self (Some number) c.in_ok-insert.ensures.updates)
    (c.in_ok-insert.ensures.len ∙ ap (λ known. btree_map_len c.store-2.new.numbers + cond (is_some known) 0 1) c.in_ok-insert.ensures.old)
    (sym c.in_ok-store-2.ensures.taken)

pub returns-clause-appended : goal.returns-clause-appended
returns-clause-appended g c =
    let taken : List (List ℕ) = map string_bytes c.self.inside.taken.items in
    let one = string_bytes c.in_ok-number.free in
    let found =
    found_free c.self.inside.numbers taken c.as_str.result.now c.as_str-2.result.now (string_bytes c.push_slug.new.slug) c.in-Some.last c.in_ok-number.number one
    c.self.invariant c.as_str.ensures.value c.as_str-2.ensures.value (sym (c.in-Some.ensures ∙ c.get.ensures.value))
    (c.in_ok-number.ensures taken c.self.invariant) in
    let slug_is : string_bytes c.push_slug.new.slug ≡ slug_of c.args.text.now =
    c.in_ok-push_slug.ensures ∙ ap (λ s. s ++ slug_of c.args.text.now) c.new-slug.ensures.bytes in
    let out = string_bytes c.args.out.now in
    c.in_ok-store-2.ensures.appended
    ∙ ap (λ s. out ++ s) (found.first ∙ ap (first_free taken) slug_is)
    ∙ ap (λ (slugs : List (List ℕ)). out ++ next_slug slugs c.args.text.now) c.self.view_is

pub returns-clause-added : goal.returns-clause-added
returns-clause-added g c =
    let taken : List (List ℕ) = map string_bytes c.self.inside.taken.items in
    let one = string_bytes c.in_ok-number.free in
    let found =
    found_free c.self.inside.numbers taken c.as_str.result.now c.as_str-2.result.now (string_bytes c.push_slug.new.slug) c.in-Some.last c.in_ok-number.number one
    c.self.invariant c.as_str.ensures.value c.as_str-2.ensures.value (sym (c.in-Some.ensures ∙ c.get.ensures.value))
    (c.in_ok-number.ensures taken c.self.invariant) in
    let slug_is : string_bytes c.push_slug.new.slug ≡ slug_of c.args.text.now =
    c.in_ok-push_slug.ensures ∙ ap (λ s. s ++ slug_of c.args.text.now) c.new-slug.ensures.bytes in
    c.in_ok-store-2.ensures.taken
    ∙ ap (λ s. taken ++ s ∷ []) (found.first ∙ ap (first_free taken) slug_is)
    ∙ ap (λ (slugs : List (List ℕ)). with_slug slugs c.args.text.now) c.self.view_is
