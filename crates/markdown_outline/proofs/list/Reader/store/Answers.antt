use Rattle.std.proofs.Common.{◌++◌, ◌∙◌, ℕ, List, rules, string_bytes, ap}
use Rattle.std.proofs.lemmas.Str.{IsUtf8-had}
use Rattle.definition_page.specs.Slug.{next_slug, with_slug}
use Rattle.markdown_outline.proofs.StoredParts.{both_stored}
use Rattle.markdown_outline.proofs.list.Reader.store.Goals as goal

pub returns-clause-slugs : goal.returns-clause-slugs
returns-clause-slugs g c = c.in_ok-add.ensures.added ∙ ap (λ (t : List ℕ). with_slug c.args.self.now.slugs t) c.as_str-2.ensures.value

pub returns-clause-stored : goal.returns-clause-stored
returns-clause-stored g c =
    let taken : List (List ℕ) = c.args.self.now.slugs in
    let before = string_bytes c.args.self.now.texts in
    let middle = string_bytes c.push_str.new.self in
    let text = string_bytes c.args.self.now.text in
    both_stored before middle (string_bytes c.add.new.out) text (next_slug taken text) c.len-start.result c.len-middle.result c.len.result
    (IsUtf8-had before c.args.self.now.texts.ok) (IsUtf8-had text c.args.self.now.text.ok) (IsUtf8-had (string_bytes c.add.new.out) c.add.new.out.ok)
    (c.in_ok-push_str.ensures.bytes ∙ ap (λ (t : List ℕ). before ++ t) c.as_str.ensures.value)
    (c.in_ok-add.ensures.appended ∙ ap (λ (t : List ℕ). middle ++ next_slug taken t) c.as_str-2.ensures.value)
    (search rules) (search rules) (search rules)
