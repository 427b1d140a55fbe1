use Rattle.std.proofs.Common.{◌∙◌, ap}
use Rattle.parse_links.proofs.Prelude.{both_ok, End, line_enters, line_exits}
use Rattle.parse_links.proofs.Written.{own_of}
use Rattle.parse_links.proofs.Places.{destination_in}
use Rattle.parse_links.proofs.destination.push_destination.Goals as goal

pub returns-clause-written : goal.returns-clause-written
returns-clause-written g c =
    both_ok c.exit.result
    (λ exits stays bytes string content stop is st whole.
    let name = c.args.names.now.destination in
    let owed = λ (e : End). e.owed in
    let enters = line_enters bytes stop _ _ name _ st c.in_ok-enter.ensures.stays (c.in_ok-enter.ensures.written bytes) in
    let inner = c.in_ok-push_inner.ensures.written bytes string content stop is enters.stands (ap owed enters.end ∙ whole) in
    destination_in bytes stop c.args.on.now (g.T.Tables.reference_of c.args.tables.now) c.args.names.now _ _ _ _ string c.args.text.now content
    is.dark (own_of name c.args.names.now.own_destination) enters inner (line_exits bytes stop _ _ name content inner.writes.stands stays (exits bytes)))
    c.exit.ensures.written c.exit.ensures.stays
