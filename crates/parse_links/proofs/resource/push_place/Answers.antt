use Rattle.std.proofs.Common.{◌≡◌, ◌++◌, Some, arith, drop, get_or, length, take, subst, sym, ap, ap₂, ◌∙◌, refl}
use Rattle.parse_links.proofs.Prelude.{after_white, AreBytes, content_codes, drop_at, IsCharBoundary, IsPlace, StandsInContent, take_at, WritesWhite}
use Rattle.parse_output.specs.Children.{has_string, may_hold}
use Rattle.parse_links.proofs.Marks.{destination_marks, place_bytes}
use Rattle.parse_links.proofs.Resources.{if_both, place_in, place_size, same_string}
use Rattle.parse_links.proofs.resource.push_place.Goals as goal

pub invariant_of-push_destination : goal.invariant_of-push_destination
unfolding may_hold has_string
invariant_of-push_destination g c = record { holds_marker = refl; holds_string = refl; holds_parts = refl; own = refl }

pub invariant_of-push_destination-2 : goal.invariant_of-push_destination-2
unfolding may_hold has_string
invariant_of-push_destination-2 g c = record { holds_marker = refl; holds_string = refl; holds_parts = refl; own = refl }

pub returns-clause-written : goal.returns-clause-written
returns-clause-written g c =
    if_both c.push_white.result
    (λ rest codes written bytes place stop read is st whole.
    let xs = c.args.text.now in
    let size = c.destination_size-size.result in
    let all : AreBytes xs = λ k. omega (arith, c.type_inv.text k) in
    let marks = destination_marks (Some 32) (content_codes xs) place read in
    let pb = place_bytes xs place all marks in
    let string = same_string c.args.destination.now pb.string place.text is pb.text_is marks.dark in
    let value = c.as_bytes.ensures.value in
    let sized : size ≡ length pb.front =
    place_size xs place pb size (length c.args.destination.now) (ap length string) (ap length value) c.as_bytes.type_inv.1
    (λ h. c.destination_size-size.ensures.angle (ap (λ ys. get_or ys 0 0) value ∙ h))
    (λ h. c.destination_size-size.ensures.bare (λ f. h (ap (λ ys. get_or ys 0 0) (sym value) ∙ f))) in
    let taken : c.up_to.result.now ≡ pb.front =
    c.up_to.ensures.front (subst (IsCharBoundary xs) (sym sized) (pb.cut c.utf8.text)) ∙ ap₂ take sized pb.parts
    ∙ take_at pb.front pb.after (length pb.front) refl in
    let left : c.bytes_from.result.now ≡ pb.after =
    c.bytes_from.ensures.rest ∙ ap₂ drop sized (c.as_bytes-2.ensures.value ∙ pb.parts) ∙ drop_at pb.front pb.after (length pb.front) refl in
    let ahead : xs ≡ c.up_to.result.now ++ pb.after = pb.parts ∙ ap (λ ys. ys ++ pb.after) (sym taken) in
    let w =
    c.in_ok-push_destination.ensures.written bytes pb.string pb.after stop (subst (IsPlace pb.string) (sym taken) pb.is)
    (subst (λ ys. StandsInContent bytes ys stop c.args.walk.now) ahead st) whole in
    let white =
    subst (λ ys. WritesWhite bytes ys rest.now stop c.push_destination.new.walk c.push_white.new.walk) left
    (written bytes stop (subst (λ ys. StandsInContent bytes ys stop c.push_destination.new.walk) (sym left) w.writes.stands)) in
    place_in bytes stop c.args.on.now (g.T.Tables.reference_of c.args.tables.now) _ _ _ _
    (record { destination = refl; literal = refl; marker = refl; raw = refl; string = refl }) place xs c.up_to.result.now pb.after rest.now pb.string pb.bytes
    ahead w white (codes ∙ ap (λ ys. after_white (content_codes ys)) left ∙ ap after_white pb.rest_is) pb.text_is)
    c.push_white.ensures.rest c.push_white.ensures.written
