use Rattle.std.proofs.Common.{◌≡◌, ◌∷◌, ◌++◌, [], Some, append_assoc, arith, drop, length, refl, subst, sym, ap, ap₂, ◌∙◌}
use Rattle.parse_links.proofs.Prelude.{after_white, AreBytes, both_ok, bytes_after, bytes_drop, content_codes, from_some, IsTarget, label_at, label_whole}
use Rattle.parse_links.proofs.Prelude.{Part, part_of, same_codes, SpellsPlace, StandsInContent, WritesParts, WritesWhite}
use Rattle.engine_events.specs.declared.event.Name.TheVariants as n
use Rattle.parse_output.specs.Children.{has_string, may_hold}
use Rattle.parse_links.specs.Definition.{FillsPlace}
use Rattle.parse_links.proofs.Definitions.{cut_after_ascii, definition_in, reads_definition}
use Rattle.parse_links.proofs.Marks.{label_filled, one_byte, quoted_bytes, quoted_cut}
use Rattle.parse_links.proofs.Tails.{left_mark, right_mark, string_filled}
use Rattle.parse_links.proofs.Written.{token_in}
use Rattle.parse_links.proofs.definition.push_definition.Goals as goal

pub invariant_of-push_quoted : goal.invariant_of-push_quoted
unfolding may_hold has_string
invariant_of-push_quoted g c = record { holds_marker = refl; holds_string = refl; holds_parts = refl; own = refl }

pub returns-clause-written : goal.returns-clause-written
returns-clause-written g c =
    both_ok c.push_target.result
    (λ written same bytes d stop is st whole.
    let xs = c.args.text.now in
    let cs = content_codes xs in
    let on = c.args.on.now in
    let names = g.T.Tables.reference_of c.args.tables.now in
    let r = reads_definition cs d is in
    let p = part_of c.in-Some.found in
    let value = c.as_bytes.ensures.value in
    let all : AreBytes xs = λ k. omega (arith, c.type_inv.text k) in
    let read : label_at cs ≡ Some p = ap (λ ys. label_at (content_codes ys)) (sym value) ∙ sym c.in-Some.ensures.read in
    let same_label : p ≡ r.label = from_some p r.label (sym read ∙ r.label_read) in
    let q = quoted_bytes 91 93 p.text p.rest xs (label_whole cs p read) refl refl in
    let cut = quoted_cut 91 93 q.string q.after xs q.parts (omega arith) in
    let left = c.in-Some.found.rest.now in
    let left_bytes : AreBytes left =
    subst AreBytes (sym c.in-Some.ensures.place.place) (bytes_drop _ c.as_bytes.result.now (subst AreBytes (sym value) all)) in
    let after : q.after ≡ left = same_codes q.after left (bytes_after (91 ∷ (q.string ++ 93 ∷ [])) q.after xs cut.0 all) left_bytes q.rest_is in
    let front = c.without_last.result.now in
    let front_is : front ≡ 91 ∷ (q.string ++ 93 ∷ []) =
    c.without_last.ensures (91 ∷ (q.string ++ 93 ∷ [])) q.after cut.0 (ap length (sym after)) (cut.1 c.utf8.text) in
    let colon = one_byte 58 r.more q.after (q.rest_is ∙ ap (λ (x : Part). x.rest) same_label ∙ r.colon) refl in
    let inside = colon.0 in
    let ahead : xs ≡ front ++ 58 ∷ inside = cut.0 ∙ ap₂ (λ ys zs. ys ++ zs) (sym front_is) colon.1 in
    let w =
    c.in_ok-push_quoted.ensures.written bytes q.string (58 ∷ inside) 91 93 stop front_is left_mark right_mark refl refl
    (subst (λ ys. StandsInContent bytes ys stop c.args.walk.now) ahead st) whole in
    let token =
    token_in bytes stop _ _ n.DefinitionMarker 58 inside (record { other = refl; prefix = refl }) w.writes.stands w.whole refl refl c.in_ok-text.ensures.stays
    (c.in_ok-text.ensures.written bytes) in
    let inside_is : c.bytes_from.result.now ≡ inside = c.bytes_from.ensures.rest ∙ ap (drop 1) (sym after ∙ colon.1) in
    let rest = c.in_ok-rest.rest.now in
    let white =
    subst (λ ys. WritesWhite bytes ys rest stop c.text.new.self c.push_white.new.walk) inside_is
    (c.in_ok-rest.ensures.written bytes stop (subst (λ ys. StandsInContent bytes ys stop c.text.new.self) (sym inside_is) token.writes.stands)) in
    let parts : xs ≡ (front ++ 58 ∷ white.front) ++ rest =
    ahead ∙ ap (λ ys. front ++ 58 ∷ ys) white.parts ∙ sym (append_assoc front (58 ∷ white.front) rest) in
    let last : c.last.result.now ≡ rest =
    c.last.ensures (front ++ 58 ∷ white.front) rest parts refl
    (cut_after_ascii xs front 58 white.front rest parts (omega arith) white.ascii c.utf8.text) in
    let codes : after_white r.more ≡ content_codes c.last.result.now =
    sym (ap content_codes last ∙ c.in_ok-rest.ensures.rest ∙ ap (λ ys. after_white (content_codes ys)) inside_is ∙ ap after_white colon.2) in
    let target =
    subst
    (λ ys. WritesParts on names bytes ys (SpellsPlace on names bytes d.destination d.title) FillsPlace stop c.push_white.new.walk c.push_target.new.walk) last
    (written bytes d.destination d.title stop (subst (λ ys. IsTarget ys d.destination d.title) codes r.target)
    (subst (λ ys. StandsInContent bytes ys stop c.push_white.new.walk) (sym last) white.writes.stands) white.whole) in
    definition_in bytes stop on names _ _ _ _ _ xs front inside rest q.string d ahead
    (string_filled q.string p.text q.text_is (label_filled cs p read)) (q.text_is ∙ ap (λ (x : Part). x.text) same_label ∙ sym r.label_is) w token white target)
    c.push_target.ensures.written c.push_target.ensures.open
