use Rattle.std.proofs.Common.{◌≡◌, ◌-◌, ℕ, ltb, List, None, length, drop, take, sym, ap, ◌∙◌, subst, arith}
use Rattle.block_definitions.proofs.Prelude.{AreLines, BlockLine, content_of, content_text, cut_most, definition_at, DefinitionCut, EndsAt, is_some_line}
use Rattle.block_definitions.proofs.Prelude.{length-map, own_lines, piece_line, piece_lines}
use Rattle.std.proofs.lemmas.List.{take_rest}
use Rattle.text_pieces.proofs.Pieces.{lines_from}
use Rattle.block_definitions.proofs.Cuts.{cut_none, left_after, some_left}
use Rattle.block_definitions.proofs.front.has_more.Goals as goal

pub loop-end-preserved : goal.loop-end-preserved
loop-end-preserved c =
    let k = c.loop-end.invariant in
    let content = c.args.content.now in
    let ls = piece_lines c.args.lines.now in
    let at = c.loop-end.at in
    let first = c.loop-end.first in
    let end = c.in-Some.end in
    let bytes = take_rest content at in
    let lines = lines_from first c.args.lines.now in
    record {
      bytes_within = omega (arith, k.bytes_within, c.in-Some.ensures.bytes);
      lines_within = omega (arith, k.lines_within, c.in-Some.ensures.lines);
      left = λ clean is.
          let l = k.left clean is in
          let found = c.in-Some.ensures.found (subst AreLines (sym lines) l.clean) (bytes ∙ l.rest ∙ ap content_text (sym lines)) in
          left_after content ls at first end l
          (subst (λ (x : List ℕ). EndsAt x (drop first ls) end) bytes
          (subst (λ (x : List BlockLine). EndsAt (take (length content - at) (drop at content)) x end) lines found));
    }

pub returns : goal.returns
returns c = λ clean is.
    let k = c.loop-end.invariant in
    let content = c.args.content.now in
    let ls = piece_lines c.args.lines.now in
    let first = c.loop-end.first in
    let l = k.left clean is in
    let lines = lines_from first c.args.lines.now in
    let none = c.in_default.ensures.found (subst AreLines (sym lines) l.clean) (take_rest content c.loop-end.at ∙ l.rest ∙ ap content_text (sym lines)) in
    let nothing : definition_at (content_of (own_lines (drop first ls))) ≡ None =
    ap (λ (x : List BlockLine). definition_at (content_of (own_lines x))) (sym lines) ∙ none in
    let count = length-map c.args.lines.now piece_line in
    ap (λ n. ltb first n) (sym count)
    ∙ some_left first ls (omega (arith, k.lines_within, count))
    ∙ ap is_some_line (ap (λ (x : DefinitionCut). x.left) (sym (cut_none (drop first ls) nothing)) ∙ sym l.same)
    ∙ ap (λ n. is_some_line (cut_most n ls).left) count
