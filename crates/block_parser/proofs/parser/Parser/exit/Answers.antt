use Rattle.std.proofs.Common.{◌≡◌, ◌++◌, ◌∷◌, [], List, sym, ap, subst, length, arith}
use Rattle.block_parser.proofs.Prelude.{AreRead, Blocks, container_views, HasRead, length-append, Level, OpenLeaf, spine, without_innermost_at}
use Rattle.block_parser.proofs.Closing as closing
use Rattle.block_parser.proofs.Quotes as quotes
use Rattle.block_parser.proofs.parser.Parser.exit.Goals as goal

pub returns-in_ok-exit-clause-read : goal.returns-in_ok-exit-clause-read
returns-in_ok-exit-clause-read g c = λ s leaf h. some_case s.around s.kids s.leaf h
  where
    some_case : (around : List Level) (kids : Blocks) (leaf : OpenLeaf) → HasRead c.args.self.now (spine around kids leaf)
        → AreRead c.exit.new.self (container_views c.pop.new.self.items) (without_innermost_at around kids leaf)
    some_case [] kids leaf h = absurd (omega (
      arith,
      ap length h.opened,
      closing.views_length c.args.self.now.open.items,
      ap length c.in-Some.ensures.items,
      length-append c.pop.new.self.items (c.in-Some.container ∷ []),
    ))
    some_case (l ∷ ls) kids leaf h =
        let p = c.args.self.now in
        let parts = closing.popped l ls p.open.items c.pop.new.self.items c.in-Some.container h.opened c.in-Some.ensures.items in
        subst (λ cs. AreRead c.exit.new.self cs (without_innermost_at (l ∷ ls) kids leaf)) (sym parts.0)
        (c.in_ok-exit.ensures (container_views p.open.items) l ls kids leaf parts.1 h)

pub quotes_end-self-requires : goal.quotes_end-self-requires
quotes_end-self-requires g c =
    let p = c.args.self.now in
    let before = c.in-Some.ensures.items in
    let left = c.deref.ensures.value in
    let same : p.open.items ≡ c.deref.result.now ++ c.in-Some.container ∷ [] = cc in
    quotes.popped p.quotes_end p.open.items c.deref.result.now c.in-Some.container same p.no_quotes
