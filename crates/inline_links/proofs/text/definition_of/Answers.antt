use Rattle.std.proofs.Common.{◌≡◌, Some, arith, ap, sym, ◌∙◌, subst}
use Rattle.inline_links.proofs.Prelude.{content_codes, definition_at, IfSome, IsText, option_map}
use Rattle.inline_links.specs.View.{definition_of}
use Rattle.inline_links.proofs.DefinitionTexts.{definition_texts}
use Rattle.inline_links.proofs.Texts.{is_text}
use Rattle.inline_links.proofs.text.definition_of.Goals as goal

pub text_of-requires : goal.text_of-requires
text_of-requires c =
    let xs = c.args.content.now in
    let found : definition_at (content_codes xs) ≡ Some (definition_of c.in_ok-definition.definition) =
    ap (λ bytes. definition_at (content_codes bytes)) (sym c.as_bytes.ensures.value) ∙ sym c.in_ok-definition.ensures.read in
    let title =
    (definition_texts (content_codes xs) (definition_of c.in_ok-definition.definition)
    (is_text xs (λ k. omega (arith, c.type_inv.content k)) c.utf8.content) found).title in
    subst (λ o. IfSome (option_map (λ text. content_codes text.now) o) IsText) c.in-Some.is title

pub text_of-requires-2 : goal.text_of-requires-2
text_of-requires-2 c =
    let xs = c.args.content.now in
    let found : definition_at (content_codes xs) ≡ Some (definition_of c.in_ok-definition.definition) =
    ap (λ bytes. definition_at (content_codes bytes)) (sym c.as_bytes.ensures.value) ∙ sym c.in_ok-definition.ensures.read in
    (definition_texts (content_codes xs) (definition_of c.in_ok-definition.definition)
    (is_text xs (λ k. omega (arith, c.type_inv.content k)) c.utf8.content) found).destination
