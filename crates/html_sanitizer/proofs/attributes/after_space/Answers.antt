use Rattle.std.proofs.Common.{arith, sym, ap, subst, ◌∙◌}
use Rattle.std.specs.List.{prefix_len}
use Rattle.std.specs.Str.{IsCharBoundary}
use Rattle.html_sanitizer.specs.Attributes.{is_space_code}
use Rattle.html_sanitizer.proofs.Reading.{front_boundary, space_small}
use Rattle.html_sanitizer.proofs.attributes.after_space.Goals as goal

pub range_from-requires : goal.range_from-requires
range_from-requires c = λ some.
    let text = c.args.text.now in
    subst (IsCharBoundary text) (sym (c.space_size.ensures ∙ ap (prefix_len is_space_code) c.as_bytes.ensures.value))
    (front_boundary is_space_code text space_small (λ k. omega (arith, c.type_inv.text k)) c.utf8.text)
