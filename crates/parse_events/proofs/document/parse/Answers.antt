use Rattle.parse_events.proofs.document.parse.Goals as goal

pub returns-clause-placed : goal.returns-clause-placed
returns-clause-placed g c = c.in_ok-parsed.ensures.events.placed

pub returns-clause-nested : goal.returns-clause-nested
returns-clause-nested g c = c.in_ok-parsed.ensures.events.nested

pub returns-clause-children : goal.returns-clause-children
returns-clause-children g c = c.in_ok-parsed.ensures.events.children

pub returns-clause-tokens : goal.returns-clause-tokens
returns-clause-tokens g c = c.in_ok-parsed.ensures.events.tokens

pub returns-clause-shape : goal.returns-clause-shape
returns-clause-shape g c = c.in_ok-parsed.ensures.events.shape

pub returns-clause-grammar : goal.returns-clause-grammar
returns-clause-grammar g c = c.in_ok-parsed.ensures.events.grammar

pub returns-clause-spelled : goal.returns-clause-spelled
returns-clause-spelled g c = c.in_ok-parsed.ensures.events.spelled

pub returns-clause-on : goal.returns-clause-on
returns-clause-on g c = c.in_ok-parsed.ensures.events.on

pub returns-clause-read_by : goal.returns-clause-read_by
returns-clause-read_by g c = c.in_ok-parsed.ensures.state.read_by

pub returns-clause-definitions : goal.returns-clause-definitions
returns-clause-definitions g c = c.in_ok-parsed.ensures.state.definitions

pub returns-clause-footnotes : goal.returns-clause-footnotes
returns-clause-footnotes g c = c.in_ok-parsed.ensures.state.footnotes
