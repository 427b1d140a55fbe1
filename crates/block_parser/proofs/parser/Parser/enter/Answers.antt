use Rattle.std.proofs.Common.{◌∷◌, [], sym, ap, ◌∙◌, subst}
use Rattle.block_parser.proofs.Prelude.{AreRead, container_view, container_views, level, map, map-append, Nil, spine, Text}
use Rattle.block_parser.proofs.parser.Parser.enter.Goals as goal

pub returns : goal.returns
returns g c = λ around kids h.
    let p = c.args.self.now in
    let holder = container_view c.args.container in
    subst (λ cs. AreRead c.enter.new.self cs (spine (level holder kids ∷ around) Nil (Text [])))
    (sym (ap (map container_view) c.in_ok-push.ensures.items ∙ map-append container_view p.open.items (c.args.container ∷ [])))
    (c.in_ok-enter.ensures (container_views p.open.items) around kids h)
