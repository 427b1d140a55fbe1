use Rattle.std.proofs.Common.{◌∷◌, [], false, refl, ap, ◌∙◌}
use Rattle.std.specs.Prelude.{◌&&◌}
use Rattle.std.proofs.Common.{true}
use Rattle.parse_strings.proofs.Prelude.{both_ok, End, ends_line, line_in_content, or_from}
use Rattle.engine_events.specs.declared.event.Name.TheVariants as n
use Rattle.parse_lines.proofs.Bytes.{has_bytes}
use Rattle.parse_strings.proofs.Parts.{node_in}
use Rattle.parse_strings.proofs.Spelled.{still_whole}
use Rattle.parse_strings.proofs.Strings.{writes_escape}
use Rattle.parse_strings.proofs.Texts.{mark_dark}
use Rattle.parse_strings.proofs.character_escape.push_escape.Goals as goal

pub returns-clause-written : goal.returns-clause-written
returns-clause-written g c =
    both_ok c.exit.result
    (λ exits stays on names text content byte stop is_on mark st whole.
    let ahead =
    line_in_content text stop c.args.walk.now (92 ∷ byte ∷ []) content st (or_from (ends_line byte) false (mark_dark byte mark) refl) in
    let line = ahead.line in
    let enters = c.in_ok-enter.ensures.written text (92 ∷ byte ∷ line) ahead.stands in
    let inside = ap (λ (e : End). e.owed) enters.end ∙ whole in
    let marker = c.in_ok-text.ensures.written text (92 ∷ []) (byte ∷ line) refl refl enters.stands
    (has_bytes text (92 ∷ []) (byte ∷ line) 1 _ n.CharacterEscapeMarker refl enters.stands inside refl) in
    let value = c.in_ok-text-2.ensures.written text (byte ∷ []) line refl refl marker.stands
    (has_bytes text (byte ∷ []) line 1 _ n.CharacterEscapeValue refl marker.stands (ap (λ (e : End). e.owed) marker.end ∙ still_whole _ 1 inside)
    (ap (λ b. b && true) mark)) in
    let same = stays ∙ c.in_ok-text-2.ensures.stays ∙ c.in_ok-text.ensures.stays ∙ c.in_ok-enter.ensures.stays in
    node_in text stop on names _ _ _ _ _ content ahead same
    (writes_escape names text on _ _ _ _ _ byte line is_on whole enters marker value (exits text line value.stands)))
    c.exit.ensures.written c.exit.ensures.stays
