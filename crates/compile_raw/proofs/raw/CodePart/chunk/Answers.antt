use Rattle.std.proofs.Common.{◌≡◌, ◌∷◌, ◌++◌, ◌-◌, ℕ, List, [], codes, sym, ap, ◌∙◌}
use Rattle.compile_raw.proofs.Prelude.{bytes_between, Chunk, columns_after, repeat, valid}
use Rattle.compile_raw.proofs.Pieces.{not_cut_spaced, spaced_read, text_read, valid_text}
use Rattle.compile_raw.proofs.raw.CodePart.chunk.Goals as goal

pub returns-clause-counted : goal.returns-clause-counted
returns-clause-counted c = c.after.ensures.counted

pub returns-clause-part : goal.returns-clause-part
returns-clause-part c = λ node h text.
    let at = c.args.node.now in
    let bytes = c.args.bytes.now in
    let middle : c.text_of.result.now ≡ bytes_between bytes at.start at.end =
    c.text_of.ensures ∙ ap valid (c.piece_of.ensures node h) ∙ valid_text bytes node text ∙ sym (text_read bytes at node h) in
    let last : c.saturating_sub-2.result ≡ at.end.vs - 1 = c.saturating_sub-2.ensures in
    let first : c.after.result ≡ columns_after bytes at.start = c.after.ensures.columns in
    ap (λ (x : List ℕ). Chunk x ∷ [])
    (ap (λ (x : ℕ). repeat x (codes " ") ++ c.text_of.result.now ++ repeat c.saturating_sub-2.result (codes " ")) first
    ∙ ap (λ (x : List ℕ). repeat (columns_after bytes at.start) (codes " ") ++ x ++ repeat c.saturating_sub-2.result (codes " ")) middle
    ∙ ap (λ (x : ℕ). repeat (columns_after bytes at.start) (codes " ") ++ bytes_between bytes at.start at.end ++ repeat x (codes " ")) last
    ∙ not_cut_spaced bytes at.start at.end (sym c.is_in_tab.ensures ∙ c.if-is_in_tab.false)
    ∙ spaced_read bytes at node h)
