use Rattle.std.proofs.Common.{◌≡◌, ◌∷◌, Some, arith, refl, subst, sym, ap, ◌∙◌}
use Rattle.parse_links.proofs.Prelude.{after_white, both_ok, content_codes, resource_of, SpellsTitle, StandsInContent, title_at, WritesTail}
use Rattle.inline_links.specs.View.{title_codes}
use Rattle.parse_links.specs.Tails.{FillsTitle}
use Rattle.parse_links.proofs.Marks.{before_ascii}
use Rattle.parse_links.proofs.Resources.{after_is, read_title, target_none, target_title, title_ascii, unread_title}
use Rattle.parse_links.proofs.resource.push_target.Goals as goal

pub returns-in-None-clause-written : goal.returns-in-None-clause-written
returns-in-None-clause-written g c = λ bytes place stop read after st whole.
    let r = resource_of c.args.found.now in
    let is = after_is place r (sym after) in
    let w = c.in_ok-rest.ensures.written bytes place stop read is.destination st whole in
    let none = unread_title place r is (ap title_codes c.in-None.is) in
    target_none bytes stop c.args.on.now (g.T.Tables.reference_of c.args.tables.now) _ _ place c.args.text.now c.in_ok-rest.rest.now r (41 ∷ r.rest) w none.1
    is.destination none.0

pub returns-in-Some-clause-written : goal.returns-in-Some-clause-written
returns-in-Some-clause-written g c =
    both_ok c.push_title.result
    (λ written same bytes place stop read after st whole.
    let xs = c.args.text.now in
    let on = c.args.on.now in
    let names = g.T.Tables.reference_of c.args.tables.now in
    let r = resource_of c.args.found.now in
    let is = after_is place r (sym after) in
    let rest = c.in_ok-rest.rest.now in
    let w = c.in_ok-rest.ensures.written bytes place stop read is.destination st whole in
    let some = read_title place r is (content_codes c.in-Some.title.now) (ap title_codes c.in-Some.is) in
    let title : title_at (content_codes rest) ≡ Some some.read = ap title_at w.codes ∙ some.is in
    let last : c.last.result.now ≡ rest =
    c.last.ensures w.front rest w.parts refl
    (before_ascii xs w.front rest (λ k. omega (arith, c.type_inv.text k)) w.parts (title_ascii (content_codes rest) some.read title)) in
    let tail =
    written bytes some.read stop (ap (λ ys. title_at (content_codes ys)) last ∙ title) some.text_is
    (subst (λ ys. StandsInContent bytes ys stop c.push_place.new.walk) (sym last) w.writes.stands) w.whole in
    target_title bytes stop on names _ _ _ place xs rest r some.read.text (41 ∷ r.rest) w
    (subst
    (λ ys. WritesTail on names bytes rest (SpellsTitle on names bytes some.read.text) FillsTitle ys stop c.push_place.new.walk c.push_title.new.walk) some.left
    (subst
    (λ ys. WritesTail on names bytes ys (SpellsTitle on names bytes some.read.text) FillsTitle (after_white some.read.rest) stop c.push_place.new.walk
    c.push_title.new.walk)
    last tail))
    is.destination some.title)
    c.push_title.ensures.written c.push_title.ensures.open
