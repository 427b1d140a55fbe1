use Rattle.inline_parser.proofs.scan.text_row.Goals as goal

pub invariant_of-result : goal.invariant_of-result
invariant_of-result c = record { same = c.requires.same c.if-front.true; bare = c.requires.bare c.if-front.true }
