use Rattle.std.proofs.Common.{map, subst, sym, take}
use Rattle.inline_parser.proofs.Prelude.{leaf_items, read_tokens}
use Rattle.inline_reading.specs.Shows.{ShowsThen}
use Rattle.inline_text.specs.Plain.{front_leaf}
use Rattle.inline_parser.proofs.scan.Scanner.front.Goals as goal

pub returns-then-front-clause-read : goal.returns-then-front-clause-read
returns-then-front-clause-read g c =
    let s = c.args.self.now in
    subst
    (λ soft. ShowsThen s.reading c.verbatim.result c.verbatim.new.self.reading (read_tokens (leaf_items (map (front_leaf soft) (take c.args.front.size s.rest.now)))))
    (sym c.if-front.true) c.verbatim.ensures.read

pub returns-else-front-clause-read : goal.returns-else-front-clause-read
returns-else-front-clause-read g c =
    let s = c.args.self.now in
    subst
    (λ soft. ShowsThen s.reading c.text.result c.text.new.self.reading (read_tokens (leaf_items (map (front_leaf soft) (take c.args.front.size s.rest.now)))))
    (sym c.if-front.false) c.text.ensures.read
