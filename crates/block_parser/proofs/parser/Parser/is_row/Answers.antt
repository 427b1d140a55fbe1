use Rattle.std.proofs.Common.{sym, ap, ◌∙◌, length, arith}
use Rattle.block_parser.proofs.Prelude.{container_views, ne_eqb, spine_at}
use Rattle.block_parser.proofs.Closing as closing
use Rattle.block_parser.proofs.Descending as descending
use Rattle.block_parser.proofs.Steps as steps
use Rattle.block_parser.proofs.parser.Parser.is_row.Goals as goal

pub returns-then-depth-len : goal.returns-then-depth-len
returns-then-depth-len g c = λ around kids away deep h.
    let p = c.args.self.now in
    let none = descending.no_deeper (container_views p.open.items) around kids away h.opened
    (omega (arith, deep, c.if-depth-len.true, c.len.ensures, p.open.ok.0, closing.views_length p.open.items)) in
    c.has_table.ensures (container_views p.open.items) (spine_at around kids away) h ∙ steps.table_at around kids away none

pub returns-else-depth-len : goal.returns-else-depth-len
returns-else-depth-len g c = λ around kids away deep h.
    let p = c.args.self.now in
    ne_eqb c.args.depth c.len.result c.if-depth-len.false
    ∙ sym (steps.no_table_at away
    (λ none. c.if-depth-len.false (omega (
      arith,
      deep,
      none,
      p.open.ok.0,
      closing.views_length p.open.items,
      c.len.ensures,
      ap length h.opened,
      closing.length-containers (spine_at around kids away).around,
      closing.length-around around kids away,
    ))))
