use Rattle.std.proofs.Common.{length, sym, ap, codes, ◌∙◌}
use Rattle.std.proofs.lemmas.List.{take_rest}
use Rattle.definition_text.specs.Bytes.{begins_with}
use Rattle.html_footnotes.proofs.HeadingIds.{first_follows, not_prefixed, second_tested}
use Rattle.html_footnotes.proofs.ids.is_made_id.Goals as goal

pub returns-then-not-starts_with : goal.returns-then-not-starts_with
returns-then-not-starts_with c =
    not_prefixed c.args.prefix.now (codes "fn-") (codes "fnref-") c.args.id.now (sym c.starts_with.ensures.value ∙ c.if-not-starts_with.true)

pub returns-then-starts_with : goal.returns-then-starts_with
returns-then-starts_with c =
    first_follows c.args.prefix.now (codes "fn-") (codes "fnref-") c.args.id.now c.starts_with-2.result
    (sym c.starts_with.ensures.value ∙ c.if-not-starts_with.false) (c.starts_with-2.ensures.value ∙ ap (begins_with (codes "fn-")) (take_rest c.args.id.now (length c.args.prefix.now))) c.if-starts_with.true

pub returns-else-starts_with : goal.returns-else-starts_with
returns-else-starts_with c =
    second_tested c.args.prefix.now (codes "fn-") (codes "fnref-") c.args.id.now c.starts_with-2.result c.starts_with-else-starts_with.result
    (sym c.starts_with.ensures.value ∙ c.if-not-starts_with.false) (c.starts_with-2.ensures.value ∙ ap (begins_with (codes "fn-")) (take_rest c.args.id.now (length c.args.prefix.now))) c.if-starts_with.false
    (c.starts_with-else-starts_with.ensures.value ∙ ap (begins_with (codes "fnref-")) (take_rest c.args.id.now (length c.args.prefix.now)))
