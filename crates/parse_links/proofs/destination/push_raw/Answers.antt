use Rattle.std.proofs.Common.{◌∙◌, ap}
use Rattle.parse_links.proofs.Prelude.{both_ok, End, line_enters, line_exits}
use Rattle.parse_links.proofs.Written.{own_of, quoted_own, raw_in, string_in}
use Rattle.parse_links.proofs.destination.push_raw.Goals as goal

pub returns-clause-written : goal.returns-clause-written
returns-clause-written g c =
    both_ok c.exit-2.result
    (λ exits stays bytes content stop apart filled st whole.
    let string = c.args.text.now in
    let raw = c.args.names.now.raw in
    let name = c.args.names.now.literal.string in
    let on = c.args.on.now in
    let known = g.T.Tables.reference_of c.args.tables.now in
    let owed = λ (e : End). e.owed in
    let outer = line_enters bytes stop _ _ raw _ st c.in_ok-enter.ensures.stays (c.in_ok-enter.ensures.written bytes) in
    let enters = line_enters bytes stop _ _ name _ outer.stands c.in_ok-enter-2.ensures.stays (c.in_ok-enter-2.ensures.written bytes) in
    let inside = ap owed outer.end ∙ whole in
    let w = c.in_ok-push_string.ensures.written bytes content stop apart enters.stands (ap owed enters.end ∙ inside) in
    let is =
    string_in bytes stop on known _ _ _ _ name string content (own_of name (quoted_own c.args.names.now.literal).string) filled inside enters w
    (line_exits bytes stop _ _ name content w.writes.stands c.in_ok-exit.ensures.stays (c.in_ok-exit.ensures.written bytes)) in
    raw_in bytes stop on known _ _ _ _ raw name string content (own_of raw c.args.names.now.own_raw) outer is
    (line_exits bytes stop _ _ raw content is.writes.stands stays (exits bytes)))
    c.exit-2.ensures.written c.exit-2.ensures.stays
