use Rattle.std.proofs.Common.{◌∙◌, length, sym, subst, arith}
use Rattle.block_parser.proofs.Prelude.{container_views, eqb-true, HasRead, nil_from_length, rest_of}
use Rattle.block_parser.proofs.Closing as closing
use Rattle.block_parser.proofs.Quotes as quotes
use Rattle.block_parser.proofs.parser.Parser.all_go_on.Goals as goal

pub returns-clause-began : goal.returns-clause-began
returns-clause-began g c = λ yes t h.
    let p = c.args.self.now in
    quotes.none_began t (container_views p.open.items) h.opened
    (λ around kids inner_kids holder inner deep same.
    sym (c.began_blank.ensures around kids inner_kids holder inner (omega (arith, deep, c.len.ensures, p.open.ok.0, closing.views_length p.open.items))
    (subst (HasRead p) (sym same) h))
    ∙ quotes.not_true c.began_blank.result yes)

pub returns-clause-empty : goal.returns-clause-empty
returns-clause-empty g c = λ yes.
    let rest = rest_of c.args.rest.now in
    nil_from_length rest (eqb-true (length rest) 0 (sym c.is_empty.ensures ∙ c.if-not-is_empty.false))
