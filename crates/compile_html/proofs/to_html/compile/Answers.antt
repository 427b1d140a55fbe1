use Rattle.std.proofs.Common.{ap, string_bytes}
use Rattle.compile_html.proofs.Prelude.{MatchesGrammar}
use Rattle.compile_html.proofs.SameList.{same_html, same_list}
use Rattle.compile_html.proofs.to_html.compile.Goals as goal

pub returns-clause-page : goal.returns-clause-page
returns-clause-page g c =
    let checked = c.in_ok-checked.checked in
    let k = c.in_ok-checked.ensures in
    let names = g.T.Tables.reference_of c.args.tables.now in
    let ns = g.T.Tables.reference_of checked.tables.now in
    let names_are = ap (λ t. g.T.Tables.reference_of t) k.tables in
    same_html c.args.options.now (string_bytes c.in_ok-html.html) names ns c.args.bytes.now checked.bytes.now c.args.events.now checked.events.now
    names_are k.bytes k.events
    (c.in_ok-html.ensures.page (same_list names ns c.args.bytes.now checked.bytes.now c.args.events.now checked.events.now names_are k.bytes k.events k.right))

pub returns-clause-listed : goal.returns-clause-listed
returns-clause-listed g c =
    let checked = c.in_ok-checked.checked in
    let k = c.in_ok-checked.ensures in
    c.in_ok-html.ensures.listed
    (same_list (g.T.Tables.reference_of c.args.tables.now) (g.T.Tables.reference_of checked.tables.now) c.args.bytes.now checked.bytes.now
    c.args.events.now checked.events.now (ap (λ t. g.T.Tables.reference_of t) k.tables) k.bytes k.events k.right)

pub returns-clause-safe : goal.returns-clause-safe
returns-clause-safe g c =
    let checked = c.in_ok-checked.checked in
    let k = c.in_ok-checked.ensures in
    c.in_ok-html.ensures.safe
    (same_list (g.T.Tables.reference_of c.args.tables.now) (g.T.Tables.reference_of checked.tables.now) c.args.bytes.now checked.bytes.now
    c.args.events.now checked.events.now (ap (λ t. g.T.Tables.reference_of t) k.tables) k.bytes k.events k.right)
