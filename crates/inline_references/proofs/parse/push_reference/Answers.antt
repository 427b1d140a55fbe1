use Rattle.std.proofs.Common.{◌≡◌, ◌++◌, [], ◌∷◌, string_bytes, false, sym, ap, ◌∙◌, append_assoc}
use Rattle.std.specs.Prelude.{is_some, unwrap_or}
use Rattle.std.proofs.lemmas.List.{append-nil}
use Rattle.definition_inline.specs.CharacterReference.{reference_text}
use Rattle.definition_inline.specs.Decoded.{decode}
use Rattle.inline_references.specs.Places.{text_reference}
use Rattle.inline_references.proofs.parse.push_reference.Goals as goal
use Rattle.inline_references.proofs.Decoding.{decoded_reference, decoded_unknown, none_of}

pub returns-then-branch-clause-printed : goal.returns-then-branch-clause-printed
returns-then-branch-clause-printed g c =
    let names = g.T.Tables.reference_of c.args.tables.now in
    let r = text_reference c.in-Some.reference in
    let before = string_bytes c.args.out.now in
    let text = unwrap_or (reference_text names r.name) [] in
    let rest = c.in-Some.reference.rest.now in
    ap (λ printed. printed ++ decode names rest) c.in_ok-push_value.ensures.printed
    ∙ append_assoc before text (decode names rest)
    ∙ ap (λ all. before ++ all) (sym (decoded_reference names (38 ∷ c.args.after.now) r c.in-Some.ensures.read
    (sym c.in_ok-push_value.ensures.known ∙ c.if-branch.true)))

pub returns-clause-printed : goal.returns-clause-printed
returns-clause-printed g c =
    let names = g.T.Tables.reference_of c.args.tables.now in
    let r = text_reference c.in-Some.reference in
    let before = string_bytes c.args.out.now in
    let after = c.args.after.now in
    let unknown : is_some (reference_text names r.name) ≡ false = sym c.in_ok-push_value.ensures.known ∙ c.if-branch.false in
    ap (λ printed. printed ++ decode names after)
    (c.in_ok-push_str-2.ensures.bytes ∙ ap (λ printed. printed ++ 38 ∷ []) (c.in_ok-push_value.ensures.printed
    ∙ ap (λ text. before ++ text) (none_of (reference_text names r.name) unknown) ∙ append-nil before))
    ∙ append_assoc before (38 ∷ []) (decode names after)
    ∙ ap (λ all. before ++ all) (sym (decoded_unknown names 38 after r c.in-Some.ensures.read unknown))
