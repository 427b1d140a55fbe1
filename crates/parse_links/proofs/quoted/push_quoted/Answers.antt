use Rattle.std.proofs.Common.{◌≡◌, ◌∷◌, ◌++◌, [], append_assoc, subst, sym, ap, ◌∙◌}
use Rattle.parse_links.proofs.Prelude.{both_ok, End, line_enters, line_exits, StandsInContent, WritesHeld}
use Rattle.parse_links.proofs.Written.{mark_apart, mark_dark, own_of, quoted_in, quoted_own, token_in}
use Rattle.parse_links.proofs.quoted.push_quoted.Goals as goal

pub returns-clause-written : goal.returns-clause-written
returns-clause-written g c =
    both_ok c.exit.result
    (λ exits stays bytes string content opening closing stop is one two may_open may_close st whole.
    let q = c.args.quoted.now in
    let on = c.args.on.now in
    let names = g.T.Tables.reference_of c.args.tables.now in
    let outer = own_of q.outer (quoted_own q).outer in
    let marker = own_of q.marker (quoted_own q).marker in
    let enters = line_enters bytes stop _ _ q.outer _ st c.in_ok-enter.ensures.stays (c.in_ok-enter.ensures.written bytes) in
    let inside : c.inside.result.now ≡ string = c.inside.ensures string opening closing is one.ascii two.ascii in
    let ahead : c.args.text.now ++ content ≡ opening ∷ (string ++ closing ∷ content) =
    ap (λ xs. xs ++ content) is ∙ ap (λ xs. opening ∷ xs) (append_assoc string (closing ∷ []) content) in
    let first =
    token_in bytes stop _ _ q.marker opening (string ++ closing ∷ content) marker (subst
    (λ xs. StandsInContent bytes xs stop c.enter.new.self) ahead enters.stands)
    (ap (λ (e : End). e.owed) enters.end ∙ whole) (mark_dark opening one) may_open c.in_ok-text.ensures.stays (c.in_ok-text.ensures.written bytes) in
    let held =
    subst (λ xs. WritesHeld on names bytes q.string xs (closing ∷ content) stop c.text.new.self c.push_held.new.walk) inside
    (c.in_ok-push_held.ensures.written bytes (closing ∷ content) stop (mark_apart c.inside.result.now content closing two)
    (subst (λ xs. StandsInContent bytes (xs ++ closing ∷ content) stop c.text.new.self) (sym inside) first.writes.stands) first.whole) in
    let last =
    token_in bytes stop _ _ q.marker closing content marker held.writes.stands held.whole (mark_dark closing two) may_close c.in_ok-text-2.ensures.stays
    (c.in_ok-text-2.ensures.written bytes) in
    quoted_in bytes stop on names _ _ _ _ _ _ q.outer q.marker q.string c.args.text.now string content opening closing outer is enters first held last
    (line_exits bytes stop _ _ q.outer content last.writes.stands stays (exits bytes)))
    c.exit.ensures.written c.exit.ensures.stays
