use Rattle.std.proofs.Common.{◌<◌, arith, ◌≡◌, ◌∙◌, length, sym, ap}
use Rattle.parse_links.proofs.Prelude.{both_ok, End, eqb-false, eqb-true, line_enters, line_exits}
use Rattle.parse_strings.proofs.Parts.{none_left}
use Rattle.parse_links.proofs.Written.{held_none, held_some, own_of, quoted_own, string_in}
use Rattle.parse_links.proofs.quoted.push_held.Goals as goal

pub returns-then-is_empty-clause-written : goal.returns-then-is_empty-clause-written
returns-then-is_empty-clause-written g c = λ bytes content stop apart st whole.
    let string = c.args.string.now in
    let none : length string ≡ 0 = eqb-true (length string) 0 (sym c.is_empty.ensures ∙ c.if-is_empty.true) in
    held_none bytes stop c.args.on.now (g.T.Tables.reference_of c.args.tables.now) c.args.walk.now c.args.quoted.now.string string content
    (none_left string none) st whole

pub returns-clause-written : goal.returns-clause-written
returns-clause-written g c =
    both_ok c.exit.result
    (λ exits stays bytes content stop apart st whole.
    let string = c.args.string.now in
    let name = c.args.quoted.now.string in
    let on = c.args.on.now in
    let names = g.T.Tables.reference_of c.args.tables.now in
    let own = own_of name (quoted_own c.args.quoted.now).string in
    let apart_zero : length string ≡ 0 → ⊥ = eqb-false (length string) 0 (sym c.is_empty.ensures ∙ c.if-is_empty.false) in
    let filled : 0 < length string = omega (arith, apart_zero) in
    let enters = line_enters bytes stop _ _ name _ st c.in_ok-enter.ensures.stays (c.in_ok-enter.ensures.written bytes) in
    let w = c.in_ok-push_string.ensures.written bytes content stop apart enters.stands (ap (λ (e : End). e.owed) enters.end ∙ whole) in
    held_some bytes stop on names _ _ name string content
    (string_in bytes stop on names _ _ _ _ name string content own filled whole enters w (line_exits bytes stop _ _ name content w.writes.stands stays
    (exits bytes))))
    c.exit.ensures.written c.exit.ensures.stays
