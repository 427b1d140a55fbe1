use Rattle.std.proofs.Common.{◌≡◌, ◌+◌, ◌<◌, ◌++◌, true, false, arith, drop, subst, sym, ap, ◌∙◌, refl, append_assoc}
use Rattle.parse_strings.proofs.Prelude.{begins_with_eol, content_codes, ending_bytes, IfOk-weaker, indent, StandsInContent, WritesStringPart}
use Rattle.parse_strings.proofs.Parts.{ending_part, ending_small, first_feed, stays_apart, white_part}
use Rattle.parse_lines.proofs.Bytes.{ending_may}
use Rattle.parse_strings.proofs.Texts.{apart_more, ending_step, ending_there, no_spaces, white_some, white_step}
use Rattle.parse_strings.proofs.string.push_white_or_data.Goals as goal

pub returns-in-Some-clause-written : goal.returns-in-Some-clause-written
returns-in-Some-clause-written g c = λ on names text content stop some utf8 escape reference apart st whole.
    let xs = c.args.bytes.now in
    let found = c.in-Some.found in
    let e = found.ending in
    let ys = drop found.size xs in
    let step = ending_step on names xs found (λ k. omega (arith, c.type_inv.bytes k)) c.in-Some.ensures in
    let ahead : xs ++ content ≡ ending_bytes e ++ (ys ++ content) = ap (λ zs. zs ++ content) step.parts ∙ append_assoc (ending_bytes e) ys content in
    let ends =
    c.in_ok-content_ending.ensures.written text (ys ++ content) stop e step.is
    (apart_more e ys content step.apart (λ none. first_feed content (stays_apart e xs ys content step.parts apart))) refl refl (ending_may e)
    (subst (λ zs. StandsInContent text zs stop c.args.walk.now) ahead st) in
    let white : c.white_size-white.result ≡ indent ys = c.white_size-white.ensures.size ∙ ap indent c.bytes_from.ensures.rest in
    let sum : c.saturating_add.result ≡ found.size + c.white_size-white.result =
    omega (arith, c.saturating_add.ensures, step.is, ending_small e, c.white_size-white.ensures.within, c.bytes_from.type_inv.1) in
    subst (λ k. WritesStringPart on names text xs content k stop c.args.walk.now c.text.new.self) (sym sum)
    (ending_part text stop on names _ _ _ xs content e found.size c.white_size-white.result step white apart ends c.in_ok-text.ensures.stays
    (λ front line is. c.in_ok-text.ensures.written text front line is refl))

pub returns-then-is_some-clause-written : goal.returns-then-is_some-clause-written
returns-then-is_some-clause-written g c = λ on names text content stop some utf8 escape reference apart st whole.
    let xs = c.args.bytes.now in
    let white = c.white_size-white-2.result in
    let is : white ≡ indent xs = c.white_size-white-2.ensures.size in
    let rest : begins_with_eol (content_codes c.bytes_from-2.result.now) ≡ true =
    sym (ending_there c.bytes_from-2.result.now c.ending_at-2.result c.ending_at-2.ensures) ∙ sym c.is_some.ensures ∙ c.if-is_some.true in
    let ends : begins_with_eol (content_codes (drop white xs)) ≡ true =
    ap (λ ys. begins_with_eol (content_codes ys)) (sym c.bytes_from-2.ensures.rest) ∙ rest in
    let filled : 0 < white = white_some xs white c.in_default.ensures ends in
    let step = white_step on names xs white (λ k. omega (arith, c.type_inv.bytes k)) is filled ends in
    white_part text stop on names _ _ xs content white step is filled st whole c.in_ok-text-2.ensures.stays
    (λ front line is. c.in_ok-text-2.ensures.written text front line is refl)

pub returns-clause-written : goal.returns-clause-written
returns-clause-written g c =
    let xs = c.args.bytes.now in
    let none : begins_with_eol (content_codes (drop (indent xs) xs)) ≡ false =
    ap (λ k. begins_with_eol (content_codes (drop k xs))) (sym c.white_size-white-2.ensures.size)
    ∙ ap (λ ys. begins_with_eol (content_codes ys)) (sym c.bytes_from-2.ensures.rest)
    ∙ sym (ending_there c.bytes_from-2.result.now c.ending_at-2.result c.ending_at-2.ensures) ∙ sym c.is_some.ensures ∙ c.if-is_some.false in
    IfOk-weaker c.push_data.result _ _
    (λ size written on names text content stop some utf8 escape reference apart st whole.
    written on names text content stop some utf8 (record { escape = escape; reference = reference; ending = c.in_default.ensures; spaces = no_spaces xs none })
    st whole)
    c.push_data.ensures.written
