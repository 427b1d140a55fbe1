-- The drafts of pieces are nested.
use Rattle.std.proofs.Common.{◌≡◌, ℕ, ◌+◌, List, [], ◌∷◌, ◌++◌, inl, inr, refl, sym, ap, ◌∙◌, append_assoc}
use Rattle.std.proofs.lemmas.Bool.{cases_Bool, cond-false, cond-true}
use Rattle.std.proofs.lemmas.List.Sums.{fold-append}
use Rattle.std.specs.List.{fold}
use Rattle.engine_events.specs.declared.event.Name.{Name}
use Rattle.event_definition.specs.Pieces.{Piece, Token, Around, Pieces, Nil, Cons}
use Rattle.parse_output.specs.declared.draft.Draft.{Draft}
use Rattle.parse_output.specs.declared.draft.Draft.TheVariants as draft
use Rattle.parse_output.specs.declared.end.End.{End}
use Rattle.parse_output.specs.Drafts.{draft_marks, marks_of, unmatched_in}
use Rattle.parse_output.specs.Ends.{same_end}
use Rattle.parse_output.specs.Open.{Mark, Entered, Exited, then_mark}
use Rattle.parse_output.proofs.Marks.{closed_same}
use Rattle.parse_pieces.specs.Drafts.{drafts, piece_drafts, void_drafts}
use Rattle.parse_pieces.specs.Sizes.{codes_size, columns, columns_of, end_of, piece_size}

marks_append : (ds es : List Draft) → marks_of (ds ++ es) ≡ marks_of ds ++ marks_of es
marks_append [] es = refl
marks_append (d ∷ ds) es = ap (λ (ms : List Mark). draft_marks d ++ ms) (marks_append ds es) ∙ sym (append_assoc (draft_marks d) (marks_of ds) (marks_of es))

open_after : List Mark → List Draft → List Mark
open_after ms ds = fold then_mark ms (marks_of ds)

after_both : (ms : List Mark) (ds es : List Draft) → open_after ms (ds ++ es) ≡ open_after (open_after ms ds) es
unfolding open_after
after_both ms ds es = ap (fold then_mark ms) (marks_append ds es) ∙ fold-append then_mark ms (marks_of ds) (marks_of es)

after_void : (ms : List Mark) (name : Name) (from to : End) → open_after ms (void_drafts name from to) ≡ ms
unfolding open_after
after_void ms name from to =
    elim (cases_Bool (same_end to from)) [
      | inl h ↦ ap (λ (ds : List Draft). fold then_mark ms (marks_of ds)) (cond-true (same_end to from) _ _ h)
      | inr h ↦
          ap (λ (ds : List Draft). fold then_mark ms (marks_of ds)) (cond-false (same_end to from) _ _ h) ∙ closed_same name (Entered name ∷ ms) ms refl
    ]

after_none : (ms : List Mark) → open_after ms [] ≡ ms
unfolding open_after
after_none ms = refl

after_around : (ms : List Mark) (name : Name) (ds : List Draft) → open_after (Entered name ∷ ms) ds ≡ Entered name ∷ ms
    → open_after ms (draft.Enter name ∷ (ds ++ draft.Exit name ∷ [])) ≡ ms
unfolding open_after
after_around ms name ds inner =
    after_both (Entered name ∷ ms) ds (draft.Exit name ∷ []) ∙ ap (λ (xs : List Mark). then_mark xs (Exited name)) inner
    ∙ closed_same name (Entered name ∷ ms) ms refl

mutual
  after_piece : (ms : List Mark) (before : ℕ) (p : Piece) (after : ℕ) → open_after ms (piece_drafts before p after) ≡ ms
  after_piece ms before (Token name cs) after = after_void ms name (end_of before (columns_of cs after)) (end_of (before + codes_size cs) after)
  after_piece ms before (Around name kids) after =
      after_around ms name (drafts before kids after) (after_pieces (Entered name ∷ ms) before kids after)

  after_pieces : (ms : List Mark) (before : ℕ) (ps : Pieces) (after : ℕ) → open_after ms (drafts before ps after) ≡ ms
  after_pieces ms before Nil after = after_none ms
  after_pieces ms before (Cons p ps) after =
      after_both ms (piece_drafts before p (columns ps after)) (drafts (before + piece_size p) ps after)
      ∙ ap (λ (xs : List Mark). open_after xs (drafts (before + piece_size p) ps after)) (after_piece ms before p (columns ps after))
      ∙ after_pieces ms (before + piece_size p) ps after

pub all_nested : (before : ℕ) (ps : Pieces) (after : ℕ) → unmatched_in (drafts before ps after) ≡ []
unfolding open_after
all_nested before ps after = after_pieces [] before ps after
