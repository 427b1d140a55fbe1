use Rattle.inline_constructs.proofs.Searching.{known_none}
use Rattle.inline_constructs.proofs.searches.search.Goals as goal

pub returns-then-rest-known-clause-rest : goal.returns-then-rest-known-clause-rest
returns-then-rest-known-clause-rest c =
    λ short. known_none c.args.text.now c.args.content.now c.args.rest.now c.args.known c.requires.known c.requires.rest short
