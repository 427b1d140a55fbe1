use Rattle.std.proofs.Common.{◌++◌, string_bytes, encode_utf8_all, sym, ap, ◌∙◌, append_assoc}
use Rattle.std.proofs.lemmas.List.{append-nil}
use Rattle.std.specs.Char.Iter.{case_mapping_chars}
use Rattle.std.specs.List.{flat_map}
use Rattle.definition_page.specs.Slug.{slug_char}
use Rattle.text_slugs.proofs.Lowered.{packed_first, packed_next, small_step, small_end}
use Rattle.text_slugs.proofs.slug.push_lowered.Goals as goal

pub loop-small-init : goal.loop-small-init
loop-small-init g c =
    let small = c.to_lowercase-small-items in
    let same = c.into_iter-small-iterator.ensures.into_iter_gives in record {
      packed = rw same (packed_first small.result small.ensures.some small.ensures.packed);
      so_far =
          ap (λ s. string_bytes c.args.slug.now ++ encode_utf8_all (flat_map slug_char (case_mapping_chars s))) same
          ∙ ap (λ cs. string_bytes c.args.slug.now ++ encode_utf8_all (flat_map slug_char cs)) small.ensures.value;
    }

pub loop-small-preserved : goal.loop-small-preserved
loop-small-preserved g c =
    let step = c.in-Some.ensures.steps in
    let held = c.loop-small.invariant in
    let slug = string_bytes c.loop-small.slug in record {
      packed = packed_next c.loop-small.small-iterator c.next.new.self held.packed step.1 step.2 step.3;
      so_far =
          ap (λ s. s ++ encode_utf8_all (flat_map slug_char (case_mapping_chars c.next.new.self))) c.in_ok-push_kept.ensures
          ∙ append_assoc slug (encode_utf8_all (slug_char c.in-Some.small)) _
          ∙ ap (λ s. slug ++ s) (sym (small_step c.loop-small.small-iterator c.next.new.self c.in-Some.small step.0 step.1 step.2 step.3))
          ∙ held.so_far;
    }

pub returns : goal.returns
returns g c =
    let held = c.loop-small.invariant in
    let slug = string_bytes c.loop-small.slug in
    sym (append-nil slug)
    ∙ ap (λ cs. slug ++ encode_utf8_all (flat_map slug_char cs)) (sym (small_end c.loop-small.small-iterator held.packed c.in-None.ensures.steps.0))
    ∙ held.so_far
