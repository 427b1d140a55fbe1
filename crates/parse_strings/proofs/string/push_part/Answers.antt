use Rattle.std.proofs.Common.{◌≡◌, ◌+◌, ◌-◌, ◌<◌, ◌++◌, ◌∷◌, [], None, length, length-append, arith, subst, sym, ap, ◌∙◌, refl, append_assoc}
use Rattle.parse_strings.proofs.Prelude.{AreBytes, AreCutApart, content_codes, escape_at, IfOk-weaker, marked_text, parts_of, reference_at, StandsInContent}
use Rattle.parse_strings.proofs.Prelude.{WritesStringPart}
use Rattle.engine_events.specs.declared.event.Name.TheVariants.{CharacterEscape, CharacterReference}
use Rattle.parse_strings.proofs.Parts.{node_part}
use Rattle.parse_strings.proofs.Texts.{bytes_drop, escape_step, leaf_absent, leaf_there, reference_step}
use Rattle.parse_strings.proofs.string.push_part.Goals as goal

pub returns-then-is_some-clause-written : goal.returns-then-is_some-clause-written
returns-then-is_some-clause-written g c = λ text content stop some apart st whole.
    let names = g.T.Tables.reference_of c.args.tables.now in
    let on = c.args.on.now in
    let xs = c.args.rest.now in
    let found = leaf_there xs c.escape_at.result _ c.escape_at.ensures.read (sym c.is_some.ensures ∙ c.if-is_some.true) in
    let step = escape_step on names xs found.0 (λ k. omega (arith, c.type_inv.rest k)) found.1 in
    let w =
    c.in_ok-push_escape.ensures.written on names text (step.after ++ content) step.byte stop step.is_on step.mark
    (subst (λ ys. StandsInContent text ys stop c.args.walk.now) (ap (λ ys. ys ++ content) step.whole) st) whole in
    node_part text stop on names _ _ CharacterEscape (92 ∷ step.byte ∷ []) (step.byte ∷ []) xs step.after content 2 w step.whole refl (omega arith) step.cut
    step.text refl

pub returns-in-Some-clause-written : goal.returns-in-Some-clause-written
returns-in-Some-clause-written g c = λ text content stop some apart st whole.
    let names = g.T.Tables.reference_of c.args.tables.now in
    let on = c.args.on.now in
    let xs = c.args.rest.now in
    let rest = c.in-Some.found.after.now in
    let bytes : AreBytes xs = λ k. omega (arith, c.type_inv.rest k) in
    let place = c.in-Some.ensures.place in
    let step =
    reference_step on names xs rest (parts_of c.in-Some.found.part) bytes (subst AreBytes (sym place.place) (bytes_drop
    (length xs - length rest) xs bytes)) place
    c.in-Some.ensures.read in
    let value = step.first ∷ step.more in
    let front = 38 ∷ (step.marks ++ (value ++ 59 ∷ [])) in
    let count : length xs ≡ length front + length rest = ap length step.whole ∙ length-append front rest in
    let size : c.saturating_sub-size.result ≡ length front = omega (arith, c.saturating_sub-size.ensures, count) in
    let parts : length front ≡ length step.marks + length value + 2 =
    omega (arith, length-append step.marks (value ++ 59 ∷ []), length-append value (59 ∷ [])) in
    let w =
    c.in_ok-push_reference.ensures.written on names text step.marks value (step.more ++ 59 ∷ rest) (rest ++ content) step.first stop step.is_on
    (c.as_bytes.ensures.value ∙ step.tail) step.are (omega arith) step.most step.all step.decodes (size ∙ parts) step.dark
    (subst (λ ys. StandsInContent text ys stop c.args.walk.now) (ap (λ ys. ys ++ content) step.whole ∙ append_assoc front rest content) st) whole in
    node_part text stop on names _ _ CharacterReference front
    (marked_text names step.marks value) xs rest content c.saturating_sub-size.result w step.whole size
    (omega (arith, size, parts)) (step.cut c.saturating_sub-size.result size) step.text refl

pub returns-clause-written : goal.returns-clause-written
returns-clause-written g c =
    let names = g.T.Tables.reference_of c.args.tables.now in
    let on = c.args.on.now in
    let xs = c.args.rest.now in
    let ys = c.as_bytes-2.result.now in
    let same : ys ≡ xs = c.as_bytes-2.ensures.value in
    let escape : escape_at on (content_codes ys) ≡ None =
    ap (λ zs. escape_at on (content_codes zs)) same
    ∙ leaf_absent xs c.escape_at.result (escape_at on (content_codes xs)) c.escape_at.ensures.read (sym c.is_some.ensures ∙ c.if-is_some.false) in
    let reference : reference_at on names (content_codes ys) ≡ None =
    ap (λ zs. reference_at on names (content_codes zs)) same ∙ sym c.in_default.ensures.read in
    IfOk-weaker c.push_white_or_data.result _ _
    (λ size written text content stop some apart st whole.
    subst (λ zs. WritesStringPart on names text zs content size stop c.args.walk.now c.push_white_or_data.new.walk) same
    (written on names text content stop (subst (λ zs. 0 < length zs) (sym same) some) c.as_bytes-2.ensures.utf8 escape reference
    (subst (λ zs. AreCutApart zs content) (sym same) apart) (subst (λ zs. StandsInContent text (zs ++ content) stop c.args.walk.now) (sym same) st) whole))
    c.push_white_or_data.ensures.written
