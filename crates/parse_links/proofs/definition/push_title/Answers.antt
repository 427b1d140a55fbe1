use Rattle.std.proofs.Common.{◌≡◌, ◌∷◌, ◌++◌, [], Some, arith, length, refl, subst, sym, ap, ◌∙◌}
use Rattle.parse_links.proofs.Prelude.{after_white, AreBytes, both_ok, bytes_after, bytes_drop, content_codes, next_line, part_of, same_codes, StandsInContent}
use Rattle.parse_links.proofs.Prelude.{title_at, WritesWhite}
use Rattle.engine_events.specs.declared.event.Name.TheVariants as n
use Rattle.parse_output.specs.Children.{has_string, may_hold}
use Rattle.parse_links.proofs.Definitions.{no_title, title_in, titled, untitled}
use Rattle.parse_links.proofs.Marks.{before_ascii, bytes_front, mark_eol, quoted_bytes, quoted_cut, title_marks}
use Rattle.parse_links.proofs.Resources.{title_ascii}
use Rattle.parse_links.proofs.definition.push_title.Goals as goal

pub invariant_of-push_quoted : goal.invariant_of-push_quoted
unfolding may_hold has_string
invariant_of-push_quoted g c = record { holds_marker = refl; holds_string = refl; holds_parts = refl; own = refl }

pub invariant_of-push_quoted-2 : goal.invariant_of-push_quoted-2
unfolding may_hold has_string
invariant_of-push_quoted-2 g c = record { holds_marker = refl; holds_string = refl; holds_parts = refl; own = refl }

pub returns-in_default-clause-written : goal.returns-in_default-clause-written
returns-in_default-clause-written g c = λ bytes title stop ends st whole.
    let cs = content_codes c.args.text.now in
    let codes : content_codes c.white.result.now ≡ after_white cs =
    c.white.ensures.rest ∙ ap (λ ys. after_white (content_codes ys)) c.as_bytes.ensures.value in
    let is = untitled cs title ends (c.in_default.ensures.read ∙ ap title_at codes) in
    no_title bytes stop c.args.on.now (g.T.Tables.reference_of c.args.tables.now) c.args.walk.now c.args.text.now title is.0 is.1 st whole

pub returns-clause-written : goal.returns-clause-written
returns-clause-written g c =
    both_ok c.push_quoted.result
    (λ written same bytes title stop ends st whole.
    let xs = c.args.text.now in
    let cs = content_codes xs in
    let read = part_of c.in-Some.found in
    let rest = c.in_ok-rest.rest.now in
    let value = c.as_bytes.ensures.value in
    let value_two = c.as_bytes-2.ensures.value in
    let all : AreBytes xs = λ k. omega (arith, c.type_inv.text k) in
    let codes : content_codes c.white.result.now ≡ after_white cs = c.white.ensures.rest ∙ ap (λ ys. after_white (content_codes ys)) value in
    let there : Some read ≡ title_at (after_white cs) = c.in-Some.ensures.read ∙ ap title_at codes in
    let is = titled cs title read ends there in
    let w =
    subst (λ ys. WritesWhite bytes ys rest stop c.args.walk.now c.push_white.new.walk) value_two
    (c.in_ok-rest.ensures.written bytes stop (subst (λ ys. StandsInContent bytes ys stop c.args.walk.now) (sym value_two) st)) in
    let rest_codes : content_codes rest ≡ after_white cs = c.in_ok-rest.ensures.rest ∙ ap (λ ys. after_white (content_codes ys)) value_two in
    let at : title_at (content_codes rest) ≡ Some read = ap title_at rest_codes ∙ sym there in
    let last : c.last.result.now ≡ rest =
    c.last.ensures w.front rest w.parts refl (before_ascii xs w.front rest all w.parts (title_ascii (content_codes rest) read at)) in
    let m = title_marks (content_codes rest) read at in
    let q = quoted_bytes m.opening m.closing read.text read.rest rest m.whole (mark_eol m.opening m.one) (mark_eol m.closing m.two) in
    let front = m.opening ∷ (q.string ++ m.closing ∷ []) in
    let cut = quoted_cut m.opening m.closing q.string q.after c.last.result.now (last ∙ q.parts) m.two.ascii in
    let rest_bytes : AreBytes rest = bytes_after w.front rest xs w.parts all in
    let inner : AreBytes (q.string ++ m.closing ∷ q.after) = bytes_after (m.opening ∷ []) (q.string ++ m.closing ∷ q.after) rest q.parts rest_bytes in
    let string : AreBytes q.string = bytes_front q.string (m.closing ∷ q.after) inner in
    let left = c.in-Some.found.rest.now in
    let white_bytes : AreBytes c.white.result.now =
    subst AreBytes (sym c.white.ensures.place.place) (bytes_drop _ c.as_bytes.result.now (subst AreBytes (sym value) all)) in
    let left_bytes : AreBytes left = subst AreBytes (sym c.in-Some.ensures.place.place) (bytes_drop _ c.white.result.now white_bytes) in
    let after : q.after ≡ left = same_codes q.after left (bytes_after front q.after rest (sym last ∙ cut.0) rest_bytes) left_bytes q.rest_is in
    let taken : c.without_last-title.result.now ≡ front =
    c.without_last-title.ensures front q.after cut.0 (ap length (sym after)) (cut.1 c.last.utf8) in
    let ahead : rest ≡ c.without_last-title.result.now ++ q.after = sym last ∙ cut.0 ∙ ap (λ ys. ys ++ q.after) (sym taken) in
    let quoted =
    written bytes q.string q.after m.opening m.closing stop taken m.one m.two (m.first n.DefinitionTitleMarker refl) (m.last n.DefinitionTitleMarker refl)
    (subst (λ ys. StandsInContent bytes ys stop c.push_white.new.walk) ahead w.writes.stands) w.whole in
    title_in bytes stop c.args.on.now (g.T.Tables.reference_of c.args.tables.now) _ _ _ xs rest c.without_last-title.result.now q.after q.string title read.text
    string w ahead quoted q.text_is is.0 (ap next_line q.rest_is ∙ is.1))
    c.push_quoted.ensures.written c.push_quoted.ensures.open
