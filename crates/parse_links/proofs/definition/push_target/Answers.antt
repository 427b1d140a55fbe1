use Rattle.std.proofs.Common.{◌≡◌, ◌++◌, None, Some, arith, length, refl, subst, sym, ap, ◌∙◌}
use Rattle.parse_links.proofs.Prelude.{AreBytes, both_ok, bytes_after, bytes_drop, content_codes, destination_at, EndsWithTitle, from_some, IsPlace, Part}
use Rattle.parse_links.proofs.Prelude.{part_of, same_codes, SpellsEnd, StandsInContent, WritesParts}
use Rattle.parse_output.specs.Children.{has_string, may_hold}
use Rattle.parse_links.specs.Definition.{FillsEnd}
use Rattle.parse_links.proofs.Definitions.{target_in}
use Rattle.parse_links.proofs.Marks.{destination_marks, place_bytes}
use Rattle.parse_links.proofs.definition.push_target.Goals as goal

pub invariant_of-push_destination : goal.invariant_of-push_destination
unfolding may_hold has_string
invariant_of-push_destination g c = record { holds_marker = refl; holds_string = refl; holds_parts = refl; own = refl }

pub invariant_of-push_destination-2 : goal.invariant_of-push_destination-2
unfolding may_hold has_string
invariant_of-push_destination-2 g c = record { holds_marker = refl; holds_string = refl; holds_parts = refl; own = refl }

pub returns-clause-written : goal.returns-clause-written
returns-clause-written g c =
    both_ok c.push_title.result
    (λ written same bytes place title stop is st whole.
    let xs = c.args.text.now in
    let on = c.args.on.now in
    let names = g.T.Tables.reference_of c.args.tables.now in
    let p = part_of c.in-Some.place in
    let value = c.as_bytes.ensures.value in
    let all : AreBytes xs = λ k. omega (arith, c.type_inv.text k) in
    let read : destination_at None (content_codes xs) ≡ Some p =
    ap (λ ys. destination_at None (content_codes ys)) (sym value) ∙ sym c.in-Some.ensures.read in
    let same_place : p ≡ is.place = from_some p is.place (sym read ∙ is.read) in
    let marks = destination_marks None (content_codes xs) p read in
    let pb = place_bytes xs p all marks in
    let left = c.in-Some.place.rest.now in
    let left_bytes : AreBytes left =
    subst AreBytes (sym c.in-Some.ensures.place.place) (bytes_drop _ c.as_bytes.result.now (subst AreBytes (sym value) all)) in
    let after : pb.after ≡ left = same_codes pb.after left (bytes_after pb.front pb.after xs pb.parts all) left_bytes pb.rest_is in
    let count : length left ≡ length pb.after = ap length (sym after) in
    let cut = pb.cut c.utf8.text in
    let taken : c.without_last.result.now ≡ pb.front = c.without_last.ensures pb.front pb.after pb.parts count cut in
    let last : c.last.result.now ≡ pb.after = c.last.ensures pb.front pb.after pb.parts count cut in
    let ahead : xs ≡ c.without_last.result.now ++ pb.after = pb.parts ∙ ap (λ ys. ys ++ pb.after) (sym taken) in
    let codes : is.place.rest ≡ content_codes c.last.result.now =
    sym (ap content_codes last ∙ pb.rest_is ∙ ap (λ (q : Part). q.rest) same_place) in
    let w =
    c.in_ok-push_destination.ensures.written bytes pb.string pb.after stop (subst (IsPlace pb.string) (sym taken) pb.is)
    (subst (λ ys. StandsInContent bytes ys stop c.args.walk.now) ahead st) whole in
    let end =
    subst (λ ys. WritesParts on names bytes ys (SpellsEnd on names bytes title) FillsEnd stop c.push_destination.new.walk c.push_title.new.walk) last
    (written bytes title stop (subst (EndsWithTitle title) codes is.ends)
    (subst (λ ys. StandsInContent bytes ys stop c.push_destination.new.walk) (sym last) w.writes.stands) w.whole) in
    target_in bytes stop on names _ _ _ _ xs c.without_last.result.now pb.after pb.string place title
    (record { destination = refl; literal = refl; marker = refl; raw = refl; string = refl }) pb.bytes ahead w
    (pb.text_is ∙ ap (λ (q : Part). q.text) same_place ∙ sym is.destination_is) end)
    c.push_title.ensures.written c.push_title.ensures.open
