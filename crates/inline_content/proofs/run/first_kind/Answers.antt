use Rattle.std.proofs.Common.{sym, ◌∙◌, arith}
use Rattle.std.specs.Str.Iter.{chars_rest}
use Rattle.inline_content.proofs.Places.{rest_kind}
use Rattle.inline_content.proofs.run.first_kind.Goals as goal

pub returns-in-Some : goal.returns-in-Some
returns-in-Some g c =
    c.character_kind.ensures.kind
    ∙ rest_kind (g.T.Tables.punctuation_of c.args.tables.now) c.args.after c.args.rest.now (chars_rest c.next.new.self) c.in-Some.character
    (sym c.chars.ensures.rest ∙ c.in-Some.ensures.steps.0)
    (omega (arith, c.character_kind.ensures.scalar))
