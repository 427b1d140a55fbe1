use Rattle.std.proofs.Common.{◌≡◌, List, ◌∙◌, ap, drop, subst}
use Rattle.block_leaves.proofs.Prelude.{AreLines, BlockLine, IfSome, lines_from, Piece, piece_lines, whole_lines}
use Rattle.std.specs.Prelude.{IfNone}
use Rattle.block_state.specs.WholeLines.{BeginsNot}
use Rattle.block_leaves.proofs.leaves.Leaves.whole_text.Goals as goal

pub returns-clause-text : goal.returns-clause-text
returns-clause-text g c =
    let n = c.args.self.now.lines_in_rows in
    subst (λ (ls : List BlockLine). IfSome c.first_lines.result (λ text. AreLines ls → whole_lines text.now ≡ ls))
    (lines_from n c.deref.result.now ∙ ap (λ (ps : List Piece). drop n (piece_lines ps)) c.deref.ensures.value)
    c.first_lines.ensures.whole

pub returns-clause-none : goal.returns-clause-none
returns-clause-none g c =
    let p = c.args.self.now in
    let n = p.lines_in_rows in
    subst (λ (ls : List BlockLine). IfNone c.first_lines.result (BeginsNot ls p.paragraph.now))
    (lines_from n c.deref.result.now ∙ ap (λ (ps : List Piece). drop n (piece_lines ps)) c.deref.ensures.value)
    c.first_lines.ensures.none
