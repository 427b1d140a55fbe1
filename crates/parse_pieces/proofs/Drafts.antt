-- What the drafts of pieces say.
use Rattle.std.proofs.Common.{◌≡◌, ℕ, ◌+◌, List, [], ◌∷◌, ◌++◌, inl, inr, refl, sym, ap, ap₂, ◌∙◌, arith}
use Rattle.std.specs.Prelude.{◌==◌}
use Rattle.std.proofs.lemmas.Bool.{and_parts, cases_Bool, cond-false, cond-true, eqb-true}
use Rattle.engine_events.specs.declared.event.Name.{Name}
use Rattle.event_definition.specs.Pieces.{Piece, Token, Around, Pieces, Nil, Cons}
use Rattle.event_grammar.specs.Trees.{Growth, Nodes, growth, tree}
use Rattle.event_grammar.specs.Trees as tree_of
use Rattle.parse_output.specs.declared.draft.Draft.{Draft}
use Rattle.parse_output.specs.declared.draft.Draft.TheVariants as draft
use Rattle.parse_output.specs.declared.end.End.{End}
use Rattle.parse_output.specs.Ends.{end_at, enter_at, exit_at, first_end, same_end}
use Rattle.parse_output.specs.Forest.{bytewise, cut, draft_end, drafted, drafted_all, drafts_end, drafts_events, entered, void_nodes, with_nodes}
use Rattle.parse_output.proofs.Forests.{append-assoc, append-nil, tree_bytewise}
use Rattle.parse_pieces.specs.Drafts.{HoldInOthers, HoldsInOthers, drafts, piece_drafts, void_drafts}
use Rattle.parse_pieces.specs.Nodes.{nodes, piece_nodes}
use Rattle.parse_pieces.specs.Sizes.{codes_size, columns, columns_of, end_of, piece_columns, piece_size, pieces_size}
use Rattle.parse_pieces.proofs.Written.{cut_other}

end_append : (from : End) (ds es : List Draft) → drafts_end from (ds ++ es) ≡ drafts_end (drafts_end from ds) es
end_append from [] es = refl
end_append from (d ∷ ds) es = end_append (draft_end from d) ds es

drafted_append : (text : List ℕ) (from : End) (g : Growth) (ds es : List Draft)
    → drafted_all text from g (ds ++ es) ≡ drafted_all text (drafts_end from ds) (drafted_all text from g ds) es
drafted_append text from g [] es = refl
drafted_append text from g (d ∷ ds) es = drafted_append text (draft_end from d) (drafted text from g d) ds es

with_none : (g : Growth) → g ≡ with_nodes g tree_of.Nil
with_none g = ap (λ (ns : Nodes). growth ns g.outer) (sym (append-nil g.kids))

-- ---- a token

void_end : (name : Name) (from to : End) → drafts_end from (void_drafts name from to) ≡ to
void_end name from to =
    elim (cases_Bool (same_end to from)) [
      | inl h ↦
          let parts = and_parts (to.index == from.index) (to.owed == from.owed) h in
          ap (drafts_end from) (cond-true (same_end to from) _ _ h)
          ∙ ap₂ end_at (sym (eqb-true to.index from.index parts.0)) (sym (eqb-true to.owed from.owed parts.1))
      | inr h ↦ ap (drafts_end from) (cond-false (same_end to from) _ _ h)
    ]

void_drafted : (text : List ℕ) (g : Growth) (name : Name) (from to : End)
    → drafted_all text from g (void_drafts name from to) ≡ with_nodes g (void_nodes text name from to)
void_drafted text g name from to =
    let node = tree_of.Around (enter_at text name from) tree_of.Nil (exit_at text name to) in
    elim (cases_Bool (same_end to from)) [
      | inl h ↦
          ap (drafted_all text from g) (cond-true (same_end to from) _ _ h) ∙ with_none g
          ∙ ap (with_nodes g) (sym (cond-true (same_end to from) tree_of.Nil (cut node) h))
      | inr h ↦
          ap (drafted_all text from g) (cond-false (same_end to from) _ _ h)
          ∙ ap (with_nodes g) (sym (cond-false (same_end to from) tree_of.Nil (cut node) h))
    ]

-- ---- ends

mutual
  piece_end : (before : ℕ) (p : Piece) (after : ℕ)
      → drafts_end (end_of before (piece_columns p after)) (piece_drafts before p after) ≡ end_of (before + piece_size p) after
  piece_end before (Token name cs) after = void_end name (end_of before (columns_of cs after)) (end_of (before + codes_size cs) after)
  piece_end before (Around name kids) after =
      end_append (end_of before (columns kids after)) (drafts before kids after) (draft.Exit name ∷ []) ∙ pieces_end before kids after

  pub pieces_end : (before : ℕ) (ps : Pieces) (after : ℕ)
      → drafts_end (end_of before (columns ps after)) (drafts before ps after) ≡ end_of (before + pieces_size ps) after
  pieces_end before Nil after = let same : before ≡ before + 0 = omega arith in ap (λ (k : ℕ). end_of k after) same
  pieces_end before (Cons p ps) after =
      let size : (before + piece_size p) + pieces_size ps ≡ before + (piece_size p + pieces_size ps) = omega arith in
      end_append (end_of before (piece_columns p (columns ps after))) (piece_drafts before p (columns ps after)) (drafts (before + piece_size p) ps after)
      ∙ ap (λ (e : End). drafts_end e (drafts (before + piece_size p) ps after)) (piece_end before p (columns ps after))
      ∙ pieces_end (before + piece_size p) ps after ∙ ap (λ (k : ℕ). end_of k after) size

-- ---- nodes

mutual
  piece_drafted : (text : List ℕ) (before : ℕ) (p : Piece) (after : ℕ) (g : Growth) → HoldsInOthers p
      → drafted_all text (end_of before (piece_columns p after)) g (piece_drafts before p after) ≡ with_nodes g (piece_nodes text before p after)
  piece_drafted text before (Token name cs) after g hold =
      void_drafted text g name (end_of before (columns_of cs after)) (end_of (before + codes_size cs) after)
  piece_drafted text before (Around name kids) after g hold =
      let from = end_of before (columns kids after) in
      let to = end_of (before + pieces_size kids) after in
      let inner = nodes text before kids after in
      let opened = entered g (enter_at text name from) in
      drafted_append text from opened (drafts before kids after) (draft.Exit name ∷ [])
      ∙ ap₂ (λ (e : End) (h : Growth). drafted text e h (draft.Exit name)) (pieces_end before kids after) (pieces_drafted text before kids after opened hold.1)
      ∙ ap (with_nodes g) (cut_other text name from to inner hold.0)

  pub pieces_drafted : (text : List ℕ) (before : ℕ) (ps : Pieces) (after : ℕ) (g : Growth) → HoldInOthers ps
      → drafted_all text (end_of before (columns ps after)) g (drafts before ps after) ≡ with_nodes g (nodes text before ps after)
  pieces_drafted text before Nil after g hold = with_none g
  pieces_drafted text before (Cons p ps) after g hold =
      let from = end_of before (piece_columns p (columns ps after)) in
      let first = piece_nodes text before p (columns ps after) in
      let others = nodes text (before + piece_size p) ps after in
      drafted_append text from g (piece_drafts before p (columns ps after)) (drafts (before + piece_size p) ps after)
      ∙ ap₂ (λ (e : End) (h : Growth). drafted_all text e h (drafts (before + piece_size p) ps after)) (piece_end before p (columns ps after))
      (piece_drafted text before p (columns ps after) g hold.0)
      ∙ pieces_drafted text (before + piece_size p) ps after (with_nodes g first) hold.1
      ∙ ap (λ (ns : Nodes). growth ns g.outer) (append-assoc g.kids first others)

-- the tree of their events
pub pieces_tree : (text : List ℕ) (ps : Pieces) → HoldInOthers ps → columns ps 0 ≡ 0
    → bytewise (tree (drafts_events text first_end (drafts 0 ps 0))) ≡ nodes text 0 ps 0
pieces_tree text ps hold none =
    let begins : end_of 0 (columns ps 0) ≡ first_end = ap (end_of 0) none in
    tree_bytewise text (drafts 0 ps 0) (drafts_events text first_end (drafts 0 ps 0)) refl
    ∙ ap (λ (e : End). (drafted_all text e (growth tree_of.Nil []) (drafts 0 ps 0)).kids) (sym begins)
    ∙ ap (λ (g : Growth). g.kids) (pieces_drafted text 0 ps 0 (growth tree_of.Nil []) hold)
