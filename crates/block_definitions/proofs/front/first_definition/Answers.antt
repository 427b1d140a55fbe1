use Rattle.std.proofs.Common.{◌≡◌, ◌-◌, length, drop, sym, ap, ◌∙◌, subst, refl, arith}
use Rattle.std.specs.Prelude.{MatchOption, None}
use Rattle.block_definitions.proofs.Prelude.{AreBytes, AreLines, content_of, content_text, definition_at, EndsAt, length-map, own_lines, piece_line}
use Rattle.block_definitions.proofs.Prelude.{piece_lines}
use Rattle.inline_links.specs.View.{definition_of}
use Rattle.block_definitions.proofs.Codes.{later_bytes}
use Rattle.block_definitions.proofs.Ends.{not_found, ended}
use Rattle.block_definitions.proofs.front.first_definition.Goals as goal

pub returns-in_err-definition-clause-found : goal.returns-in_err-definition-clause-found
returns-in_err-definition-clause-found c = λ clean is.
    let content = c.args.content.now in
    let ls = piece_lines c.args.lines.now in
    subst (λ o. MatchOption o (definition_at (content_of (own_lines ls)) ≡ None) (λ end. EndsAt content ls end)) (sym c.from_residual.ensures)
    (not_found content ls clean is (sym c.in_err-definition.ensures.read))

pub returns-clause-found : goal.returns-clause-found
returns-clause-found c = λ clean is.
    let content = c.args.content.now in
    let ls = piece_lines c.args.lines.now in
    let d = c.in_ok-definition.definition in
    let place = c.in_ok-definition.ensures.place in
    let bytes : AreBytes content = λ k. omega (arith, c.type_inv.content k) in
    let rest_bytes : AreBytes d.rest.now = subst AreBytes (sym place.place) (later_bytes (length content - length d.rest.now) content bytes) in
    let end = ended content d.rest.now ls clean is bytes rest_bytes (definition_of d) (sym c.in_ok-definition.ensures.read) refl in
    let count = c.lines_within.ensures.count end.before (omega (arith, end.within, length-map c.args.lines.now piece_line)) end.more end.most in
    record {
      read = end.read;
      found = end.is_found;
      count = count ∙ end.count_is;
      some = omega (arith, count);
      clean = subst (λ n. AreLines (drop n ls)) (sym count) end.clean;
      left = sym place.place ∙ end.rest_is ∙ ap (λ n. content_text (drop n ls)) (sym count);
    }
