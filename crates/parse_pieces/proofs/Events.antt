-- The events of pieces, and those of their drafts.
use Rattle.std.proofs.Common.{◌≡◌, ℕ, ◌+◌, ◌-◌, ◌<◌, zero, suc, Bool, true, false, List, [], ◌∷◌, ◌++◌, inl, inr, refl, sym, ap, ◌∙◌, append_assoc, arith, length}
use Rattle.std.specs.Prelude.{◌==◌}
use Rattle.std.proofs.lemmas.Bool.{and_parts, cases_Bool, cond-false, cond-true, eqb-true}
use Rattle.std.proofs.lemmas.List.{append-nil}
use Rattle.definition_text.specs.Columns.{Code, is_tab_column}
use Rattle.definition_text.specs.Content.{return_and_feed}
use Rattle.engine_events.specs.declared.event.Event.{Event}
use Rattle.engine_events.specs.declared.event.Kind.TheVariants as kind
use Rattle.engine_events.specs.declared.event.Name.{Name}
use Rattle.engine_events.specs.declared.event.Name.TheVariants as n
use Rattle.engine_events.specs.Names.{same_name}
use Rattle.engine_events.specs.declared.place.Point.{Point}
use Rattle.event_definition.specs.Events.{Mark, Exit, Void, at, events_from, goes_on_in_tab, marks, piece_marks}
use Rattle.event_definition.specs.Pieces.{Piece, Token, Around, Pieces, Nil, Cons}
use Rattle.event_definition.specs.Places.{after_codes, after_token, begins_in_tab, first_point}
use Rattle.event_grammar.specs.Trees.{tree}
use Rattle.parse_output.specs.declared.draft.Draft.{Draft}
use Rattle.parse_output.specs.declared.draft.Draft.TheVariants as draft
use Rattle.parse_output.specs.declared.end.End.{End}
use Rattle.parse_output.specs.Ends.{end_point, exit_at, first_end, same_end}
use Rattle.parse_output.specs.Forest.{bytewise, draft_end, draft_events, drafts_end, drafts_events}
use Rattle.parse_pieces.specs.Drafts.{HoldInOthers, drafts, piece_drafts, void_drafts}
use Rattle.parse_pieces.specs.Nodes.{nodes}
use Rattle.parse_pieces.specs.Sizes.{code_size, codes_size, columns, columns_of, end_of, piece_columns, piece_size, pieces_size}
use Rattle.parse_pieces.proofs.Drafts.{pieces_end, pieces_tree}
use Rattle.parse_pieces.specs.Codes.{AllCome}
use Rattle.parse_pieces.specs.Coming.{PieceComes, PiecesCome}
use Rattle.parse_pieces.proofs.Points.{begins, codes_point, end_some, goes_on}

-- ---- a token ends elsewhere than it begins

no_size : (c : Code) → code_size c ≡ 0 → is_tab_column c ≡ true
no_size c none =
    elim (cases_Bool (is_tab_column c)) [
      | inl h ↦ h
      | inr h ↦
          elim (cases_Bool (c == return_and_feed)) [
            | inl k ↦ let two : code_size c ≡ 2 = cond-false (is_tab_column c) _ _ h ∙ cond-true (c == return_and_feed) _ _ k in absurd (omega (arith, none, two))
            | inr k ↦ let one : code_size c ≡ 1 = cond-false (is_tab_column c) _ _ h ∙ cond-false (c == return_and_feed) _ _ k in absurd (omega (arith, none, one))
          ]
    ]

only_columns : (cs : List Code) (after : ℕ) → codes_size cs ≡ 0 → columns_of cs after ≡ length cs + after
only_columns [] after none = omega arith
only_columns (c ∷ cs) after none =
    let first : code_size c ≡ 0 = omega (arith, none) in
    let others : codes_size cs ≡ 0 = omega (arith, none) in
    let one = cond-true (is_tab_column c) (1 + columns_of cs after) 0 (no_size c first) in
    omega (arith, one, only_columns cs after others)

some_before : (text : List ℕ) (before : ℕ) (cs : List Code) (after : ℕ) → AllCome text before cs after → 0 < length cs → 0 < columns_of cs after → 0 < before
some_before text before [] after come some owed = absurd (omega (arith, some))
some_before text before (c ∷ cs) after come some owed =
    elim (cases_Bool (is_tab_column c)) [
      | inl h ↦ (come.0.column h).0
      | inr h ↦ let none = cond-false (is_tab_column c) (1 + columns_of cs after) 0 h in absurd (omega (arith, none, owed))
    ]

owed_of : (before owed : ℕ) → (end_of before owed).owed ≡ owed
owed_of before zero = refl
owed_of before (suc k) = ap (λ (e : End). e.owed) (end_some before k)

index_none : (before columns : ℕ) → columns ≡ 0 → (end_of before columns).index ≡ before
index_none before columns none = ap (λ (k : ℕ). (end_of before k).index) none

index_some : (before columns k : ℕ) → columns ≡ suc k → (end_of before columns).index ≡ before - 1
index_some before columns k some = ap (λ (j : ℕ). (end_of before j).index) some ∙ ap (λ (e : End). e.index) (end_some before k)

size_none : (text : List ℕ) (before : ℕ) (cs : List Code) (after : ℕ) → AllCome text before cs after → 0 < length cs
    → (end_of (before + codes_size cs) after).index ≡ (end_of before (columns_of cs after)).index → after ≡ columns_of cs after → codes_size cs ≡ 0
size_none text before cs zero come some index owed =
    omega (arith, index_none (before + codes_size cs) 0 refl, index_none before (columns_of cs 0) (sym owed), index)
size_none text before cs (suc k) come some index owed =
    let first = some_before text before cs (suc k) come some (omega (arith, owed)) in
    omega (arith, index_some (before + codes_size cs) (suc k) k refl, index_some before (columns_of cs (suc k)) k (sym owed), index, first)

codes_apart : (text : List ℕ) (before : ℕ) (cs : List Code) (after : ℕ) → AllCome text before cs after → 0 < length cs
    → same_end (end_of (before + codes_size cs) after) (end_of before (columns_of cs after)) ≡ false
codes_apart text before cs after come some =
    let to = end_of (before + codes_size cs) after in
    let from = end_of before (columns_of cs after) in
    elim (cases_Bool (same_end to from)) [
      | inr h ↦ h
      | inl h ↦
          let parts = and_parts (to.index == from.index) (to.owed == from.owed) h in
          let owed : after ≡ columns_of cs after =
          sym (owed_of (before + codes_size cs) after) ∙ eqb-true to.owed from.owed parts.1 ∙ owed_of before (columns_of cs after) in
          let none = size_none text before cs after come some (eqb-true to.index from.index parts.0) owed in
          absurd (omega (arith, owed, only_columns cs after none, some))
    ]

-- ---- whether a column of a tab comes next

mutual
  piece_goes : (p : Piece) (after : ℕ) (ms : List Mark) → goes_on_in_tab ms ≡ goes_on after → goes_on_in_tab (piece_marks p ++ ms) ≡ goes_on (piece_columns p after)
  piece_goes (Token name cs) after ms same = ap (begins_in_tab cs) same ∙ begins cs after
  piece_goes (Around name kids) after ms same =
      ap goes_on_in_tab (append_assoc (marks kids) (Exit name ∷ []) ms) ∙ pieces_go kids after (Exit name ∷ ms) same

  pieces_go : (ps : Pieces) (after : ℕ) (ms : List Mark) → goes_on_in_tab ms ≡ goes_on after → goes_on_in_tab (marks ps ++ ms) ≡ goes_on (columns ps after)
  pieces_go Nil after ms same = same
  pieces_go (Cons p ps) after ms same =
      ap goes_on_in_tab (append_assoc (piece_marks p) (marks ps) ms) ∙ piece_goes p (columns ps after) (marks ps ++ ms) (pieces_go ps after ms same)

-- ---- events

events_append : (text : List ℕ) (from : End) (ds es : List Draft)
    → drafts_events text from (ds ++ es) ≡ drafts_events text from ds ++ drafts_events text (drafts_end from ds) es
events_append text from [] es = refl
events_append text from (d ∷ ds) es =
    ap (λ (xs : List Event). draft_events text from d ++ xs) (events_append text (draft_end from d) ds es)
    ∙ sym (append_assoc (draft_events text from d) (drafts_events text (draft_end from d) ds) (drafts_events text (drafts_end (draft_end from d) ds) es))

piece_ends : (before : ℕ) (p : Piece) (after : ℕ)
    → drafts_end (end_of before (piece_columns p after)) (piece_drafts before p after) ≡ end_of (before + piece_size p) after
piece_ends before p after =
    let size : before + (piece_size p + 0) ≡ before + piece_size p = omega arith in
    ap (drafts_end (end_of before (piece_columns p after))) (sym (append-nil (piece_drafts before p after))) ∙ pieces_end before (Cons p Nil) after
    ∙ ap (λ (k : ℕ). end_of k after) size

token_events : (text : List ℕ) (before : ℕ) (name : Name) (cs : List Code) (after : ℕ) (ms : List Mark) → PieceComes text before (Token name cs) after
    → goes_on_in_tab ms ≡ goes_on after
    → events_from (end_point text (end_of before (columns_of cs after))) (Void name cs ∷ ms)
    ≡ drafts_events text (end_of before (columns_of cs after)) (void_drafts name (end_of before (columns_of cs after)) (end_of (before + codes_size cs) after))
    ++ events_from (end_point text (end_of (before + codes_size cs) after)) ms
token_events text before name cs after ms come same =
    let from = end_of before (columns_of cs after) in
    let to = end_of (before + codes_size cs) after in
    let p = end_point text from in
    let end : after_token (goes_on_in_tab ms) name cs p ≡ end_point text to =
    cond-false (same_name name n.ByteOrderMark) _ _ come.0 ∙ ap (λ (t : Bool). after_codes t cs p) same ∙ sym (codes_point text before cs after come.2) in
    ap (λ (q : Point). at p kind.Enter name ∷ at q kind.Exit name ∷ events_from q ms) end
    ∙ sym (ap (λ (ds : List Draft). drafts_events text from ds ++ events_from (end_point text to) ms)
    (cond-false (same_end to from) [] (draft.Void name to.owed to.index ∷ []) (codes_apart text before cs after come.2 come.1)))

mutual
  piece_events : (text : List ℕ) (before : ℕ) (p : Piece) (after : ℕ) (ms : List Mark) → PieceComes text before p after → goes_on_in_tab ms ≡ goes_on after
      → events_from (end_point text (end_of before (piece_columns p after))) (piece_marks p ++ ms)
      ≡ drafts_events text (end_of before (piece_columns p after)) (piece_drafts before p after)
      ++ events_from (end_point text (end_of (before + piece_size p) after)) ms
  piece_events text before (Token name cs) after ms come same = token_events text before name cs after ms come same
  piece_events text before (Around name kids) after ms come same =
      let from = end_of before (columns kids after) in
      let to = end_of (before + pieces_size kids) after in
      let p = end_point text from in
      let inner = drafts before kids after in
      let rest = events_from (end_point text to) ms in
      let last : drafts_events text from (inner ++ draft.Exit name ∷ []) ≡ drafts_events text from inner ++ exit_at text name to ∷ [] =
      events_append text from inner (draft.Exit name ∷ [])
      ∙ ap (λ (e : End). drafts_events text from inner ++ exit_at text name e ∷ []) (pieces_end before kids after) in
      ap (λ (xs : List Mark). at p kind.Enter name ∷ events_from p xs) (append_assoc (marks kids) (Exit name ∷ []) ms)
      ∙ ap (λ (es : List Event). at p kind.Enter name ∷ es) (
      pieces_events text before kids after (Exit name ∷ ms) come same
      ∙ sym (append_assoc (drafts_events text from inner) (exit_at text name to ∷ []) rest)
      ∙ ap (λ (es : List Event). es ++ rest) (sym last))

  pieces_events : (text : List ℕ) (before : ℕ) (ps : Pieces) (after : ℕ) (ms : List Mark) → PiecesCome text before ps after → goes_on_in_tab ms ≡ goes_on after
      → events_from (end_point text (end_of before (columns ps after))) (marks ps ++ ms)
      ≡ drafts_events text (end_of before (columns ps after)) (drafts before ps after) ++ events_from (end_point text (end_of (before + pieces_size ps) after)) ms
  pieces_events text before Nil after ms come same =
      let none : before ≡ before + 0 = omega arith in ap (λ (k : ℕ). events_from (end_point text (end_of k after)) ms) none
  pieces_events text before (Cons p ps) after ms come same =
      let between = columns ps after in
      let from = end_of before (piece_columns p between) in
      let mid = end_of (before + piece_size p) between in
      let first = piece_drafts before p between in
      let others = drafts (before + piece_size p) ps after in
      let size : (before + piece_size p) + pieces_size ps ≡ before + (piece_size p + pieces_size ps) = omega arith in
      let rest = events_from (end_point text (end_of (before + (piece_size p + pieces_size ps)) after)) ms in
      ap (events_from (end_point text from)) (append_assoc (piece_marks p) (marks ps) ms)
      ∙ piece_events text before p between (marks ps ++ ms) come.0 (pieces_go ps after ms same)
      ∙ ap (λ (es : List Event). drafts_events text from first ++ es) (
      pieces_events text (before + piece_size p) ps after ms come.1 same
      ∙ ap (λ (k : ℕ). drafts_events text mid others ++ events_from (end_point text (end_of k after)) ms) size)
      ∙ sym (append_assoc (drafts_events text from first) (drafts_events text mid others) rest)
      ∙ ap (λ (es : List Event). es ++ rest) (
      ap (λ (e : End). drafts_events text from first ++ drafts_events text e others) (sym (piece_ends before p between))
      ∙ sym (events_append text from first others))

-- all of them
pub all_events : (text : List ℕ) (before : ℕ) (ps : Pieces) → PiecesCome text before ps 0
    → events_from (end_point text (end_of before (columns ps 0))) (marks ps) ≡ drafts_events text (end_of before (columns ps 0)) (drafts before ps 0)
all_events text before ps come =
    ap (events_from (end_point text (end_of before (columns ps 0)))) (sym (append-nil (marks ps))) ∙ pieces_events text before ps 0 [] come refl
    ∙ append-nil (drafts_events text (end_of before (columns ps 0)) (drafts before ps 0))

pub all_nodes : (text : List ℕ) (ps : Pieces) → HoldInOthers ps → columns ps 0 ≡ 0 → PiecesCome text 0 ps 0
    → bytewise (tree (events_from first_point (marks ps))) ≡ nodes text 0 ps 0
all_nodes text ps hold none come =
    let begins_there : end_of 0 (columns ps 0) ≡ first_end = ap (end_of 0) none in
    let events : events_from first_point (marks ps) ≡ drafts_events text first_end (drafts 0 ps 0) =
    ap (λ (e : End). events_from (end_point text e) (marks ps)) (sym begins_there) ∙ all_events text 0 ps come
    ∙ ap (λ (e : End). drafts_events text e (drafts 0 ps 0)) begins_there in
    ap (λ (es : List Event). bytewise (tree es)) events ∙ pieces_tree text ps hold none
