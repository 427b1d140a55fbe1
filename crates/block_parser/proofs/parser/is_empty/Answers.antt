use Rattle.std.proofs.Common.{◌∙◌, eqb, sym, ap}
use Rattle.block_parser.proofs.Prelude.{rest_of}
use Rattle.block_parser.proofs.Quotes as quotes
use Rattle.block_parser.proofs.parser.is_empty.Goals as goal

pub returns-then-is_blank : goal.returns-then-is_blank
returns-then-is_blank c =
    ap (λ n. eqb n 0) c.indent.ensures.same ∙ quotes.blank_empty (rest_of c.args.rest.now) (sym c.is_blank.ensures ∙ c.if-is_blank.true)

pub returns-else-is_blank : goal.returns-else-is_blank
returns-else-is_blank c = c.if-is_blank.false ∙ quotes.some_left (rest_of c.args.rest.now) (sym c.is_blank.ensures ∙ c.if-is_blank.false)
