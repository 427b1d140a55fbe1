use Rattle.std.proofs.Common.{◌++◌, string_bytes, sym, ap, ◌∙◌, append_assoc}
use Rattle.std.proofs.lemmas.List.{append-nil}
use Rattle.std.proofs.lemmas.Str.{IsUtf8-past_char}
use Rattle.std.specs.Str.Iter.{chars_rest}
use Rattle.definition_page.specs.Slug.{slug_of}
use Rattle.text_slugs.proofs.Lowered.{slug_step, slug_empty}
use Rattle.text_slugs.proofs.slug.push_slug.Goals as goal

pub loop-character-preserved : goal.loop-character-preserved
loop-character-preserved g c =
    let held = c.loop-character.invariant in
    let parts = c.in-Some.ensures.steps.0 in
    let slug = string_bytes c.loop-character.slug in
    let left = chars_rest c.next.new.self in record {
      text = IsUtf8-past_char _ _ c.in-Some.character held.text parts;
      so_far =
          ap (λ s. s ++ slug_of left) c.in_ok-push_lowered.ensures
          ∙ append_assoc slug _ (slug_of left)
          ∙ ap (λ s. slug ++ s) (sym (slug_step _ _ c.in-Some.character held.text parts))
          ∙ held.so_far;
    }

pub returns : goal.returns
returns g c =
    let slug = string_bytes c.loop-character.slug in
    sym (append-nil slug)
    ∙ ap (λ s. slug ++ s) (sym (slug_empty _ c.in-None.ensures.steps.0.0))
    ∙ c.loop-character.invariant.so_far
