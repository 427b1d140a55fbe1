use Rattle.std.proofs.Common.{◌+◌, ◌∷◌, [], Some, take, sym, ap, ◌∙◌, subst}
use Rattle.std.specs.Option.{option_map}
use Rattle.definition_inline.specs.Inline.{leaf, Literal}
use Rattle.definition_inline.specs.GfmAutolinkLiteral.{literal_start_at}
use Rattle.definition_inline.proofs.GfmAutolinkLiteral.{literals_off}
use Rattle.inline_content.specs.View.{view_at}
use Rattle.inline_leaves.specs.Leaves.{size_before}
use Rattle.inline_leaves.proofs.Codes.{rest_of_rest}
use Rattle.inline_literals.specs.Literals.{size_after, start_view, may_begin, StartsLiteral, IsNameEnd}
use Rattle.inline_literals.proofs.Found.{none_first, view_codes, at_found, at_none, no_size, with_size, after_literal, size_of_literal, start_end}
use Rattle.inline_literals.proofs.Found.{literal_boundary}
use Rattle.inline_literals.proofs.gfm_autolink_literal.literal_at.Goals.{then-not-on-via-then-not-on, then-not-on-via-else-not-on+then-not-may_begin}
use Rattle.inline_literals.proofs.gfm_autolink_literal.literal_at.Goals as goal

pub returns-then-not-on-clause-read : goal.returns-then-not-on-clause-read
returns-then-not-on-clause-read g c =
    let p = g.T.Tables.punctuation_of c.args.tables.now in
    let rest = c.args.rest.now in
    let view = view_at p c.args.content rest in
    elim c.then-not-on.branch [
      | then-not-on-via-then-not-on w ↦ sym (literals_off c.args.on.now view w.if-not-on.true)
      | then-not-on-via-else-not-on+then-not-may_begin w ↦
          sym
          (none_first c.args.on.now view rest (view_codes p c.args.content.after c.args.content.marks.now c.args.content.text.now rest ∙ sym c.requires.codes)
          (ap may_begin (sym w.as_bytes.ensures.value) ∙ sym w.may_begin.ensures ∙ w.if-not-may_begin.true))
    ]

pub returns-in_default-clause-read : goal.returns-in_default-clause-read
returns-in_default-clause-read g c =
    let p = g.T.Tables.punctuation_of c.args.tables.now in
    let rest = c.args.rest.now in
    sym
    (at_none p c.args.content.after c.args.content.marks.now c.args.content.text.now c.args.on.now rest c.requires.rest
    (ap may_begin (sym c.as_bytes.ensures.value) ∙ sym c.may_begin.ensures ∙ c.if-not-may_begin.false)
    (ap (λ o. literal_start_at o rest) (sym c.previous.ensures) ∙ ap (literal_start_at c.previous.result) (sym c.as_bytes-2.ensures.value)
    ∙ sym c.start_at.ensures.read ∙ ap (option_map start_view) c.in_default.is))

pub cut_after-after-requires : goal.cut_after-after-requires
cut_after-after-requires g c = start_end c.args.rest.now c.in-Some.start.size
    (subst (λ l. StartsLiteral l c.in-Some.start.size) c.as_bytes-2.ensures.value c.in-Some.ensures.front)

pub size_at-requires-clause-rest : goal.size_at-requires-clause-rest
size_at-requires-clause-rest g c =
    let rest = c.args.rest.now in
    let begins = subst (λ l. StartsLiteral l c.in-Some.start.size) c.as_bytes-2.ensures.value c.in-Some.ensures.front in
    rest_of_rest c.args.content.text.now rest c.cut_after-after.result.now c.in-Some.start.size c.requires.rest begins.plain.within
    c.cut_after-after.ensures.rest

pub returns-in_default-size_at-clause-read : goal.returns-in_default-size_at-clause-read
returns-in_default-size_at-clause-read g c =
    let p = g.T.Tables.punctuation_of c.args.tables.now in
    let marks = c.args.content.marks.now in
    let rest = c.args.rest.now in
    let start = start_view c.in-Some.start in
    sym
    (at_found p c.args.content.after marks c.args.content.text.now c.args.on.now rest start c.requires.rest
    (ap may_begin (sym c.as_bytes.ensures.value) ∙ sym c.may_begin.ensures ∙ c.if-not-may_begin.false) c.if-not-on.false
    (ap (λ o. literal_start_at o rest) (sym c.previous.ensures) ∙ ap (literal_start_at c.previous.result) (sym c.as_bytes-2.ensures.value)
    ∙ sym c.start_at.ensures.read ∙ ap (option_map start_view) c.in-Some.is)
    (subst (λ l. StartsLiteral l c.in-Some.start.size) c.as_bytes-2.ensures.value c.in-Some.ensures.front)
    ∙ no_size p c.args.content.after marks c.args.content.text.now start rest
    (ap (size_after p) (sym c.cut_after-after.ensures.rest) ∙ sym c.size_at.ensures.read ∙ c.in_default-size_at.is))

pub text_before-requires : goal.text_before-requires
text_before-requires g c = literal_boundary c.args.rest.now c.in-Some.start.size c.in-Some-size_at.size
    (subst (λ l. StartsLiteral l c.in-Some.start.size) c.as_bytes-2.ensures.value c.in-Some.ensures.front)
    (subst (λ l. IsNameEnd l c.in-Some-size_at.size) c.cut_after-after.ensures.rest c.in-Some-size_at.ensures.place)

pub rest_from-requires : goal.rest_from-requires
rest_from-requires g c = literal_boundary c.args.rest.now c.in-Some.start.size c.in-Some-size_at.size
    (subst (λ l. StartsLiteral l c.in-Some.start.size) c.as_bytes-2.ensures.value c.in-Some.ensures.front)
    (subst (λ l. IsNameEnd l c.in-Some-size_at.size) c.cut_after-after.ensures.rest c.in-Some-size_at.ensures.place)

pub returns-clause-read : goal.returns-clause-read
returns-clause-read g c =
    let p = g.T.Tables.punctuation_of c.args.tables.now in
    let marks = c.args.content.marks.now in
    let rest = c.args.rest.now in
    let start = start_view c.in-Some.start in
    let size = c.in-Some-size_at.size in
    let begins = subst (λ l. StartsLiteral l c.in-Some.start.size) c.as_bytes-2.ensures.value c.in-Some.ensures.front in
    let ends = subst (λ l. IsNameEnd l size) c.cut_after-after.ensures.rest c.in-Some-size_at.ensures.place in
    let count = size_of_literal rest c.rest_from.result.now start.size size c.rest_from.ensures begins ends in
    ap (λ l. Some (leaf (Literal start.kind l ∷ []) (size_before rest c.rest_from.result.now))) c.text_before.ensures
    ∙ ap (λ n. Some (leaf (Literal start.kind (take (start.size + size) rest) ∷ []) n)) count
    ∙ sym
    (at_found p c.args.content.after marks c.args.content.text.now c.args.on.now rest start c.requires.rest
    (ap may_begin (sym c.as_bytes.ensures.value) ∙ sym c.may_begin.ensures ∙ c.if-not-may_begin.false) c.if-not-on.false
    (ap (λ o. literal_start_at o rest) (sym c.previous.ensures) ∙ ap (literal_start_at c.previous.result) (sym c.as_bytes-2.ensures.value)
    ∙ sym c.start_at.ensures.read ∙ ap (option_map start_view) c.in-Some.is) begins
    ∙ with_size p c.args.content.after marks c.args.content.text.now start rest size
    (ap (size_after p) (sym c.cut_after-after.ensures.rest) ∙ sym c.size_at.ensures.read ∙ c.in-Some-size_at.is) begins ends)

pub returns-clause-place : goal.returns-clause-place
returns-clause-place g c =
    let rest = c.args.rest.now in
    let size = c.in-Some-size_at.size in
    after_literal rest c.rest_from.result.now c.in-Some.start.size size c.rest_from.ensures
    (subst (λ l. StartsLiteral l c.in-Some.start.size) c.as_bytes-2.ensures.value c.in-Some.ensures.front)
    (subst (λ l. IsNameEnd l size) c.cut_after-after.ensures.rest c.in-Some-size_at.ensures.place)
