use Rattle.std.proofs.Common.{◌≡◌, ◌+◌, ◌<◌, suc, [], ◌∷◌, ◌++◌, inr, length, get_or, take, refl, sym, ap, subst, ◌∙◌, arith, length-append}
use Rattle.parse_inline.proofs.Prelude.{IsCharBoundary, StandsInContent, take-append_seam, utf8_bytes, WritesInContent}
use Rattle.std.proofs.lemmas.Str.{IsCharBoundary-before_ascii}
use Rattle.std.proofs.lemmas.List.{get_or-drop, get_or_at}
use Rattle.engine_events.specs.declared.event.Name.TheVariants as n
use Rattle.event_grammar.specs.declared.slot.Between.TheVariants.{Lines}
use Rattle.event_grammar.specs.Grammar.{string_row}
use Rattle.parse_references.specs.Sound.{AreSound, outside_strings}
use Rattle.parse_references.proofs.Bare.{without_fill}
use Rattle.parse_slots.specs.Left.{MayEndLines}
use Rattle.parse_inline.proofs.Behind.{call_ahead}
use Rattle.parse_inline.proofs.Calls.{exited_whole, exiting, label_entered, on_ok_both}
use Rattle.parse_inline.proofs.Fills.{string_fills}
use Rattle.parse_inline.proofs.LabelWritten.{call_written}
use Rattle.parse_inline.proofs.Places.{byte_at}
use Rattle.parse_inline.proofs.gfm_footnote_call.push_call.Goals as goal

pub returns-clause-written : goal.returns-clause-written
returns-clause-written g c =
    on_ok_both c.exit.result
    (λ stays written. λ context text content from to stop on names codes st.
    let old = c.args.walk.now in
    let inside = c.enter-3.new.self in
    let w = c.push_string.new.walk in
    let ended = c.label_end.new.walk in
    let new = c.exit.new.self in
    let label = c.args.label.now in
    let all = c.args.reading.now.content.now in
    let it =
    call_ahead label content from to (utf8_bytes label c.utf8.label)
    (λ k. subst (λ bs. get_or bs k 0 < 256) (sym st.ahead) (subst (λ b. b < 256) (sym (get_or-drop old.place all k 0)) (c.rest.ensures.bytes (old.place + k))))
    st.codes codes in
    let behind = label ++ 93 ∷ it.after in
    let enters =
    label_entered text stop old c.enter.new.self c.enter-2.new.self c.call_start.new.walk inside n.GfmFootnoteCall n.GfmFootnoteCallLabel (91 ∷ 94 ∷ []) behind
    (c.in_ok-enter.ensures.stays, c.in_ok-enter.ensures.written) (c.in_ok-enter-2.ensures.stays, c.in_ok-enter-2.ensures.written)
    (c.in_ok-call_start.ensures.written text behind stop) (c.in_ok-enter-3.ensures.stays, c.in_ok-enter-3.ensures.written)
    (subst (λ bs. StandsInContent text bs stop old) it.parts st.stands) st.whole in
    let here = byte_at all old.place 91 (94 ∷ behind) (sym it.parts ∙ st.ahead) in
    let place : c.place.result ≡ suc old.place + 1 =
    omega (arith, c.place.ensures, enters.enters.place, enters.label.place, enters.marks.writes.place, enters.starts.place) in
    let rest : c.rest.result.now ≡ behind = c.rest.ensures.after (suc old.place) 94 behind place (sym here.after) (omega arith) in
    let last : get_or behind (length label) 0 ≡ 93 = get_or_at label 93 it.after 0 (length label) refl in
    let within : length label < length behind = omega (arith, length-append label (93 ∷ it.after)) in
    let boundary : IsCharBoundary c.rest.result.now (length label) =
    subst (λ bs. IsCharBoundary bs (length label)) (sym rest) (IsCharBoundary-before_ascii behind (length label) within (omega (arith, last))) in
    let string : c.up_to-string.result.now ≡ label =
    c.up_to-string.ensures.front boundary ∙ ap (take (length label)) rest ∙ take-append_seam label (93 ∷ it.after) in
    let pushed =
    c.in_ok-push_string.ensures.written text (93 ∷ it.after) stop (inr refl)
    (subst (λ bs. StandsInContent text (bs ++ 93 ∷ it.after) stop inside) (sym string) enters.starts.stands) enters.whole in
    let writes : WritesInContent text label pushed.nodes (93 ∷ it.after) stop inside w =
    subst (λ bs. WritesInContent text bs pushed.nodes (93 ∷ it.after) stop inside w) string pushed.writes in
    let ends = c.in_ok-label_end.ensures.written text it.after stop writes.stands pushed.whole in
    let leaves = exiting text stop ended new n.GfmFootnoteCall it.after (stays, written) ends.leaves.stands in
    call_written text stop context label content it.after to pushed.nodes old inside w ended new it.parts it.left enters writes pushed.plain
    (without_fill outside_strings refl refl 3 Lines string_row string_row pushed.nodes refl (pushed.fill Lines tt) refl)
    (subst (λ by. AreSound by context.names text pushed.nodes) (sym on)
    (subst (λ by. AreSound c.args.reading.now.on.now by text pushed.nodes) (sym names) pushed.sound))
    (λ around may. string_fills around pushed.nodes (pushed.fill around (subst (MayEndLines around) (sym string) may))) ends leaves
    (exited_whole text stop ended new n.GfmFootnoteCall it.after leaves ends.whole))
    c.exit.ensures.stays c.exit.ensures.written
