use Rattle.std.proofs.Common.{◌≡◌, ◌∷◌, ◌++◌, arith, drop, subst, sym, ap, ◌∙◌, refl}
use Rattle.parse_links.proofs.Prelude.{after_white, both_ok, content_codes, End, line_enters, line_exits, resource_inside, resource_of, SpellsTarget}
use Rattle.parse_links.proofs.Prelude.{StandsInContent, WritesTail, WritesWhite}
use Rattle.engine_events.specs.declared.event.Name.TheVariants as n
use Rattle.parse_links.specs.Tails.{FillsTarget}
use Rattle.parse_links.proofs.Marks.{one_byte}
use Rattle.parse_links.proofs.Resources.{ascii_cut, at_inside, resource_tail}
use Rattle.parse_links.proofs.Written.{token_in}
use Rattle.parse_links.proofs.resource.push_resource.Goals as goal

pub returns-clause-written : goal.returns-clause-written
returns-clause-written g c =
    both_ok c.exit.result
    (λ exits stays bytes stop read st whole.
    let xs = c.args.text.now in
    let on = c.args.on.now in
    let names = g.T.Tables.reference_of c.args.tables.now in
    let r = resource_of c.args.found.now in
    let owed = λ (e : End). e.owed in
    let at = at_inside (content_codes xs) r read in
    let first = one_byte 40 at.0 xs at.1 refl in
    let others = first.0 in
    let enters = line_enters bytes stop _ _ n.Resource xs st c.in_ok-enter.ensures.stays (c.in_ok-enter.ensures.written bytes) in
    let opening =
    token_in bytes stop _ _ n.ResourceMarker 40 others (record { other = refl; prefix = refl })
    (subst (λ ys. StandsInContent bytes ys stop c.enter.new.self) first.1 enters.stands) (ap owed enters.end ∙ whole) refl refl c.in_ok-text.ensures.stays
    (c.in_ok-text.ensures.written bytes) in
    let left : c.bytes_from.result.now ≡ others = c.bytes_from.ensures.rest ∙ ap (drop 1) (c.as_bytes.ensures.value ∙ first.1) in
    let inside = c.in_ok-inside.inside.now in
    let white =
    subst (λ ys. WritesWhite bytes ys inside stop c.text.new.self c.push_white.new.walk) left
    (c.in_ok-inside.ensures.written bytes stop (subst (λ ys. StandsInContent bytes ys stop c.text.new.self) (sym left) opening.writes.stands)) in
    let parts : xs ≡ (40 ∷ white.front) ++ inside = first.1 ∙ ap (λ ys. 40 ∷ ys) white.parts in
    let last : c.last.result.now ≡ inside =
    c.last.ensures (40 ∷ white.front) inside parts refl (ascii_cut xs 40 white.front inside parts (omega arith) white.ascii c.utf8.text) in
    let codes : content_codes inside ≡ after_white at.0 =
    c.in_ok-inside.ensures.rest ∙ ap (λ ys. after_white (content_codes ys)) left ∙ ap after_white first.2 in
    let tail =
    subst (λ ys. WritesTail on names bytes ys (SpellsTarget on names bytes r) FillsTarget (41 ∷ r.rest) stop c.push_white.new.walk c.push_inside.new.walk) last
    (c.in_ok-push_inside.ensures.written bytes stop (at.2 ∙ ap resource_inside (sym codes ∙ ap content_codes (sym last)))
    (subst (λ ys. StandsInContent bytes ys stop c.push_white.new.walk) (sym last) white.writes.stands) white.whole) in
    let end = one_byte 41 r.rest tail.after tail.rest refl in
    let closing =
    token_in bytes stop _ _ n.ResourceMarker 41 end.0 (record { other = refl; prefix = refl })
    (subst (λ ys. StandsInContent bytes ys stop c.push_inside.new.walk) end.1 tail.writes.stands) tail.whole refl refl c.in_ok-text-2.ensures.stays
    (c.in_ok-text-2.ensures.written bytes) in
    resource_tail bytes stop on names _ _ _ _ _ _ _ xs inside others r first.1 enters opening white tail end.0 end.1 closing end.2
    (line_exits bytes stop _ _ n.Resource end.0 closing.writes.stands stays (exits bytes)))
    c.exit.ensures.written c.exit.ensures.stays
