use Rattle.std.proofs.Common.{[], sym, ◌∙◌, refl}
use Rattle.block_parser.proofs.Prelude.{AreRead, close, container_views, HasRead, join, on_ok_weaker, OpenTable, rest_of, spine_at}
use Rattle.block_parser.proofs.Steps as steps
use Rattle.block_parser.proofs.parser.Parser.more_text.Goals as goal

pub returns-then-has_text : goal.returns-then-has_text
returns-then-has_text g c =
    on_ok_weaker c.text_line.result (λ more. λ around kids away deep clean h.
    let text_is = c.has_text.ensures (container_views c.args.self.now.open.items) (spine_at around kids away) h ∙ steps.has_text_at around kids away in
    steps.goes_longer c.args.on.now (HasRead c.args.self.now) (AreRead c.text_line.new.self (container_views c.args.self.now.open.items)) (rest_of c.args.rest.now) c.args.beside (more (container_views c.args.self.now.open.items)) around kids away
    (sym text_is ∙ c.if-has_text.true) h)
    c.text_line.ensures

pub returns-then-is_row : goal.returns-then-is_row
returns-then-is_row g c =
    on_ok_weaker c.table_row.result (λ more. λ around kids away deep clean h.
    steps.goes_row c.args.on.now (HasRead c.args.self.now) (AreRead c.table_row.new.self (container_views c.args.self.now.open.items)) (rest_of c.args.rest.now) c.args.beside
    (λ around kids ls. more (OpenTable ls) ls refl (container_views c.args.self.now.open.items) around kids) around kids away (sym (c.is_row.ensures around kids away deep h) ∙ c.if-is_row.true) h)
    c.table_row.ensures

pub returns : goal.returns
returns g c =
    on_ok_weaker c.text_line-2.result (λ more. λ around kids away deep clean h.
    let on = c.args.on.now in
    let text_is = c.has_text.ensures (container_views c.args.self.now.open.items) (spine_at around kids away) h ∙ steps.has_text_at around kids away in
    let k = c.in_ok-close_to.ensures.read around kids away deep clean h in
    steps.starts_text on (AreRead c.text_line-2.new.self (container_views c.close_to.new.self.open.items)) (rest_of c.args.rest.now) c.args.beside around kids away (sym text_is ∙ c.if-has_text.false)
    (sym (c.is_row.ensures around kids away deep h) ∙ c.if-is_row.false)
    (more (container_views c.close_to.new.self.open.items) around (join kids (close on away)) [] k))
    c.text_line-2.ensures
