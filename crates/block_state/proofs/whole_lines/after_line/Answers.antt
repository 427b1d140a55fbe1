use Rattle.std.proofs.Common.{◌≡◌, ◌++◌, ap, sym, ◌∙◌, ℕ, ◌<◌, List, Option, Bor, IfNone, get_or, subst, arith, rules}
use Rattle.markdown_options.specs.declared.beside.Kind.TheVariants.{Whitespace}
use Rattle.text_pieces.specs.Pieces.{piece_line}
use Rattle.block_state.specs.WholeLines.{BeginsWith}
use Rattle.block_state.proofs.WholeLines.{ending_next, none_owed, piece_cut, piece_first, piece_whole}
use Rattle.block_state.proofs.whole_lines.after_line.Goals as goal

pub returns-clause-rest : goal.returns-clause-rest
returns-clause-rest c =
    let first = c.in_ok-after.ensures.cases in
    let second = c.in_ok-rest.ensures.cases in
    let bytes : (k : ℕ) → get_or c.args.text.now k 0 < 256 = λ k. omega (arith, c.type_inv.text k) in
    let before : c.args.piece.before ≡ Whitespace = search rules in
    let split = first.1.1 ∙ ap (λ x. c.args.piece.text.now ++ x) (sym first.2) in
    let whole = piece_whole c.args.piece c.args.text.now c.in_ok-after.after.now bytes c.if-piece-ne0.false before split in
    record {
      whole = whole;
      split = piece_cut c.args.piece c.args.text.now c.in_ok-after.after.now c.in_ok-rest.rest.now whole c.if-piece-ne0.false split
          (second.1.1 ∙ ap (λ x. c.ending_of.result.now ++ x) (sym second.2) ∙ ap (λ x. x ++ c.in_ok-rest.rest.now) c.ending_of.ensures);
    }

pub returns-then-piece-ne0-clause-none : goal.returns-then-piece-ne0-clause-none
returns-then-piece-ne0-clause-none c = λ rest h.
    c.if-piece-ne0.true (none_owed c.args.piece.owed c.args.piece.text.now h.whole.1)

pub returns-in_err-after-clause-none : goal.returns-in_err-after-clause-none
returns-in_err-after-clause-none c =
    subst (λ (o : Option (Bor (List ℕ))). IfNone o ((rest : List ℕ) → BeginsWith (piece_line c.args.piece) c.args.text.now rest → ⊥))
    (sym c.from_residual.ensures)
    (λ rest h. c.in_err-after.ensures.cases _ (piece_first c.args.piece c.args.text.now rest c.if-piece-ne0.false h))

pub returns-in_err-rest-clause-none : goal.returns-in_err-rest-clause-none
returns-in_err-rest-clause-none c =
    let split = c.in_ok-after.ensures.cases.1.1 ∙ ap (λ x. c.args.piece.text.now ++ x) (sym c.in_ok-after.ensures.cases.2) in
    subst (λ (o : Option (Bor (List ℕ))). IfNone o ((rest : List ℕ) → BeginsWith (piece_line c.args.piece) c.args.text.now rest → ⊥))
    (sym c.from_residual-in_err-rest.ensures)
    (λ rest h. c.in_err-rest.ensures.cases rest
    (ending_next c.args.piece c.args.text.now c.in_ok-after.after.now rest c.if-piece-ne0.false split h ∙ ap (λ x. x ++ rest) (sym c.ending_of.ensures)))
