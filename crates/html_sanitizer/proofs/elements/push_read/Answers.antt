use Rattle.std.proofs.Common.{◌++◌, ap, length, rules, string_bytes, sym, ◌∙◌}
use Rattle.std.specs.Option.{option_map}
use Rattle.std.proofs.lemmas.Bool.{eqb-true, eqb-false}
use Rattle.html_safe_page.specs.Reader.{read_text}
use Rattle.html_sanitizer.specs.Elements.{begins_marked}
use Rattle.html_sanitizer.proofs.Nameless.{mark_after, read_last, read_none, read_step}
use Rattle.html_sanitizer.proofs.elements.push_read.Goals as goal

pub returns-then-is_empty : goal.returns-then-is_empty
returns-then-is_empty g c =
    let marked = c.split_letters.result.1.now in
    c.in_ok-push_str.ensures.bytes
    ∙ read_last (string_bytes c.loop-rest.out) c.split_letters.result.0.now marked c.loop-rest.rest.now c.args.text.now
    (eqb-true (length marked) 0 (sym c.is_empty-in-loop-rest.ensures ∙ c.if-is_empty.true))
    c.split_letters.ensures.letters c.split_letters.ensures.after c.loop-rest.invariant.1

pub split_reference-requires : goal.split_reference-requires
split_reference-requires g c =
    let marked = c.split_letters.result.1.now in
    let is = c.split_letters.ensures.after in
    ap begins_marked is
    ∙ mark_after c.loop-rest.rest.now (λ none. eqb-false (length marked) 0 (sym c.is_empty-in-loop-rest.ensures ∙ c.if-is_empty.false) (ap length is ∙ none))

pub returns-in_default : goal.returns-in_default
returns-in_default g c =
    c.clear.ensures.bytes
    ∙ read_none (string_bytes c.loop-rest.out) c.split_letters.result.1.now c.loop-rest.rest.now c.args.text.now c.split_letters.ensures.after
    c.in_default.ensures.read c.loop-rest.invariant.1

pub loop-rest-preserved : goal.loop-rest-preserved
loop-rest-preserved g c =
    let letter = c.in-Some.letter.now in
    let after = c.in-Some.after.now in (
      search rules,
      ap (λ x. option_map (λ t. x ++ t) (read_text after)) (c.in_ok-push_str-2.ensures.bytes ∙ ap (λ x. x ++ letter) c.in_ok-push_str.ensures.bytes)
          ∙ read_step (string_bytes c.loop-rest.out) c.split_letters.result.0.now c.split_letters.result.1.now letter after c.loop-rest.rest.now
          c.args.text.now c.split_letters.ensures.letters c.split_letters.ensures.after c.in-Some.ensures.read c.loop-rest.invariant.1,
    )
