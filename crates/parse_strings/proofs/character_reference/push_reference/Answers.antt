use Rattle.std.proofs.Common.{◌≡◌, ◌++◌, ◌∷◌, [], length, drop, arith, refl, ap, ap₂, ◌∙◌, append_assoc, true, Bool}
use Rattle.std.specs.Prelude.{◌&&◌}
use Rattle.std.proofs.lemmas.Bool.{le-leb}
use Rattle.event_tokens.specs.Tokens.{is_token}
use Rattle.parse_strings.proofs.Prelude.{both_ok, End, end_after, line_in_content}
use Rattle.engine_events.specs.declared.event.Name.TheVariants as n
use Rattle.parse_lines.proofs.Bytes.{has_bytes}
use Rattle.parse_strings.proofs.Parts.{node_in}
use Rattle.parse_strings.proofs.Spelled.{still_whole}
use Rattle.parse_strings.proofs.ReferenceSteps.{stands_by, writes_reference}
use Rattle.parse_strings.proofs.character_reference.push_reference.Goals as goal

pub returns-clause-written : goal.returns-clause-written
returns-clause-written g c =
    both_ok c.exit.result
    (λ exits stays on names text marks value after content first stop is_on is are some most alphanumeric decodes sized dark st within.
    let ahead = line_in_content text stop c.args.walk.now (38 ∷ (marks ++ (value ++ 59 ∷ []))) content st dark in
    let line = ahead.line in
    let bare : c.bytes_from.result.now ≡ marks ++ first ∷ after = c.bytes_from.ensures.rest ∙ ap (drop 1) is in
    let enters = c.in_ok-enter.ensures.written text _ ahead.stands in
    let marker = c.in_ok-text.ensures.written text (38 ∷ []) ((marks ++ (value ++ 59 ∷ [])) ++ line) refl refl enters.stands
    (has_bytes text (38 ∷ []) ((marks ++ (value ++ 59 ∷ [])) ++ line) 1 _ n.CharacterReferenceMarker refl enters.stands (ap (λ (e : End). e.owed) enters.end ∙ within)
    refl) in
    let whole = ap (λ (e : End). e.owed) (marker.end ∙ ap (λ e. end_after e 1) enters.end) ∙ still_whole _ 1 within in
    let at_marks = stands_by text _ _ _ (append_assoc marks (value ++ 59 ∷ []) line) marker.stands in
    let marked = c.in_ok-marker.ensures.written text marks (first ∷ after) ((value ++ 59 ∷ []) ++ line) bare are
    (record { stands = at_marks; whole = whole }) in
    let at_value = stands_by text _ _ _ (append_assoc value (59 ∷ []) line) marked.writes.stands in
    let size : c.saturating_sub-2.result ≡ length value =
    omega (arith, c.saturating_sub-2.ensures, c.saturating_sub.ensures, sized, c.in_ok-marker.ensures.size marks (first ∷ after) bare are) in
    let may : is_token n.CharacterReferenceValue value ≡ true =
    ap₂ (λ (s t : Bool). s && t) (ap₂ (λ (s t : Bool). s && t) (le-leb 1 (length value) some) (le-leb (length value) 31 most)) alphanumeric in
    let valued = c.in_ok-text-2.ensures.written text value (59 ∷ line) size refl at_value
    (has_bytes text value (59 ∷ line) _ _ n.CharacterReferenceValue size at_value marked.whole may) in
    let closed = c.in_ok-text-3.ensures.written text (59 ∷ []) line refl refl valued.stands
    (has_bytes text (59 ∷ []) line 1 _ n.CharacterReferenceMarkerSemi refl valued.stands
    (ap (λ (e : End). e.owed) valued.end ∙ still_whole _ (length value) marked.whole) refl) in
    let same =
    stays ∙ c.in_ok-text-3.ensures.stays ∙ c.in_ok-text-2.ensures.stays ∙ c.in_ok-marker.ensures.stays ∙ c.in_ok-text.ensures.stays ∙
    c.in_ok-enter.ensures.stays in
    node_in text stop on names _ _ _ _ _ content ahead same
    (writes_reference on names text _ _ _ _ _ _ _ marks value line first c.saturating_sub-2.result is_on within are decodes some size enters marker marked valued closed
    (exits text line closed.stands)))
    c.exit.ensures.written c.exit.ensures.stays
