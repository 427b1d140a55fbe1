use Rattle.std.proofs.Common.{◌∙◌, sym, ap, subst}
use Rattle.inline_constructs.proofs.Prelude.{after_text, begins_with, begins_with_letter, codes, IsRest}
use Rattle.std.proofs.lemmas.Bool.{leb-true}
use Rattle.inline_constructs.proofs.Searching.{rest_after_text, no_comment_end, no_instruction_end, no_cdata_end, no_declaration_end}
use Rattle.inline_constructs.proofs.searches.Searches.lacks_end.Goals as goal

pub search-self-requires-clause-rest : goal.search-self-requires-clause-rest
search-self-requires-clause-rest g c =
    rest_after_text c.as_bytes-content.result.now (codes "<!--") c.args.bytes.now c.from-rest.result.now
    (subst (λ s. IsRest s c.args.bytes.now) (sym c.as_bytes-content.ensures.value) c.requires)
    (sym c.starts_with.ensures.value ∙ c.if-starts_with.true) c.from-rest.ensures

pub search-self-requires-then-starts_with-4-clause-rest : goal.search-self-requires-then-starts_with-4-clause-rest
search-self-requires-then-starts_with-4-clause-rest g c =
    rest_after_text c.as_bytes-content.result.now (codes "<?") c.args.bytes.now c.from-rest-then-starts_with-4.result.now
    (subst (λ s. IsRest s c.args.bytes.now) (sym c.as_bytes-content.ensures.value) c.requires)
    (sym c.starts_with-2.ensures.value ∙ c.if-starts_with-4.true) c.from-rest-then-starts_with-4.ensures

pub search-self-requires-then-begins_cdata-clause-rest : goal.search-self-requires-then-begins_cdata-clause-rest
search-self-requires-then-begins_cdata-clause-rest g c =
    rest_after_text c.as_bytes-content.result.now (codes "<![CDATA[") c.args.bytes.now c.from-rest-then-begins_cdata.result.now
    (subst (λ s. IsRest s c.args.bytes.now) (sym c.as_bytes-content.ensures.value) c.requires)
    (sym c.begins_cdata.ensures ∙ c.if-begins_cdata.true) c.from-rest-then-begins_cdata.ensures

pub search-self-requires-then-begins_with_letter-clause-rest : goal.search-self-requires-then-begins_with_letter-clause-rest
search-self-requires-then-begins_with_letter-clause-rest g c =
    rest_after_text c.as_bytes-content.result.now (codes "<!") c.args.bytes.now c.from-rest-then-begins_with_letter.result.now
    (subst (λ s. IsRest s c.args.bytes.now) (sym c.as_bytes-content.ensures.value) c.requires)
    (sym c.starts_with-3.ensures.value ∙ c.if-starts_with-5.true) c.from-rest-then-begins_with_letter.ensures

pub returns-then-starts_with-clause-none : goal.returns-then-starts_with-clause-none
returns-then-starts_with-clause-none g c = λ short.
    let text = sym c.from-rest.ensures in
    no_comment_end c.args.bytes.now (sym c.starts_with.ensures.value ∙ c.if-starts_with.true)
    (ap (begins_with (codes ">")) text ∙ sym c.starts_with-then-starts_with.ensures.value ∙ c.if-starts_with-2.false)
    (ap (begins_with (codes "->")) text ∙ sym c.starts_with-else-starts_with-2.ensures.value ∙ c.if-starts_with-3.false)
    (ap (after_text (codes "-->")) text ∙ c.search-self.ensures.rest (leb-true _ _ short))

pub returns-then-starts_with-4-clause-none : goal.returns-then-starts_with-4-clause-none
returns-then-starts_with-4-clause-none g c = λ short.
    no_instruction_end c.args.bytes.now (sym c.starts_with-2.ensures.value ∙ c.if-starts_with-4.true)
    (ap (after_text (codes "?>")) (sym c.from-rest-then-starts_with-4.ensures) ∙ c.search-self-then-starts_with-4.ensures.rest (leb-true _ _ short))

pub returns-then-begins_cdata-clause-none : goal.returns-then-begins_cdata-clause-none
returns-then-begins_cdata-clause-none g c = λ short.
    no_cdata_end c.args.bytes.now (sym c.begins_cdata.ensures ∙ c.if-begins_cdata.true)
    (ap (after_text (codes "]]>")) (sym c.from-rest-then-begins_cdata.ensures) ∙ c.search-self-then-begins_cdata.ensures.rest (leb-true _ _ short))

pub returns-then-begins_with_letter-clause-none : goal.returns-then-begins_with_letter-clause-none
returns-then-begins_with_letter-clause-none g c = λ short.
    let xs = c.args.bytes.now in
    let letter = ap begins_with_letter (sym c.from.ensures) ∙ sym c.begins_with_letter.ensures ∙ c.if-begins_with_letter.true in
    let none = c.search-self-then-begins_with_letter.ensures.rest (leb-true _ _ short) in
    no_declaration_end xs (sym c.starts_with-3.ensures.value ∙ c.if-starts_with-5.true) letter
    (ap (after_text (codes ">")) (sym c.from-rest-then-begins_with_letter.ensures) ∙ none)
