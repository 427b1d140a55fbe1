-- The first part of a line.
use Rattle.std.proofs.Common.{◌≡◌, Bool, ℕ, suc, zero, ◌+◌, ◌<◌, ◌≤◌, List, [], ◌∷◌, ◌++◌, true, false, not, eqb, refl, sym, ap, ◌∙◌, length, drop, take}
use Rattle.std.proofs.Common.{get_or, arith, inl, inr, Option, None, Some}
use Rattle.block_cells.proofs.Prelude.{bar_at, cases_Bool, Cell, cell, cond-false, cond-true, eqb-true, in_first_cell, is_bar, is_blank, IsCharBoundary}
use Rattle.block_cells.proofs.Prelude.{IsUtf8, Kind, may_escape, parts, parts_if, piece_line, replicate, without_blank_last}
use Rattle.std.specs.Prelude.{is_some}
use Rattle.std.proofs.lemmas.Bool.{true≢false, and_parts}
use Rattle.markdown_options.specs.declared.beside.Kind.TheVariants.{Whitespace, Punctuation}
use Rattle.text_pieces.specs.declared.piece.Piece.{Piece}
use Rattle.text_bytes.proofs.Ascii.{boundary_before, boundary_after}

bar_byte : (escaped : Bool) (c : ℕ) → is_bar escaped c ≡ true → c ≡ 124
bar_byte escaped c h = eqb-true c 124 (and_parts (eqb c 124) (not escaped) h).0

-- the first bar stands in the line, or at its end
pub bar_within : (escaped : Bool) (cs : List ℕ) → bar_at escaped cs ≤ length cs
bar_within escaped [] = omega arith
bar_within escaped (c ∷ cs) =
    elim (cases_Bool (is_bar escaped c)) [
      | inr h ↦ let e = cond-false (is_bar escaped c) 0 (suc (bar_at (may_escape escaped c) cs)) h in
          let le = bar_within (may_escape escaped c) cs in omega (arith, e, le)
      | inl h ↦ let e = cond-true (is_bar escaped c) 0 (suc (bar_at (may_escape escaped c) cs)) h in omega (arith, e)
    ]

-- a line up to its first bar, and after it
pub with_bar : (before : Kind) (escaped : Bool) (cs : List ℕ) → bar_at escaped cs < length cs
    → parts before escaped cs ≡ cell (take (bar_at escaped cs) cs) before Punctuation ∷ parts Punctuation false (drop (suc (bar_at escaped cs)) cs)
with_bar before escaped [] lt = absurd (omega (arith, lt))
with_bar before escaped (c ∷ cs) lt =
    elim (cases_Bool (is_bar escaped c)) [
      | inr h ↦
          let n : bar_at escaped (c ∷ cs) ≡ suc (bar_at (may_escape escaped c) cs) = cond-false (is_bar escaped c) 0 _ h in
          cond-false (is_bar escaped c) _ _ h ∙ ap (in_first_cell c before) (with_bar before (may_escape escaped c) cs (omega (arith, n, lt)))
          ∙ sym (ap (λ k. cell (take k (c ∷ cs)) before Punctuation ∷ parts Punctuation false (drop (suc k) (c ∷ cs))) n)
      | inl h ↦
          let n : bar_at escaped (c ∷ cs) ≡ 0 = cond-true (is_bar escaped c) 0 _ h in
          cond-true (is_bar escaped c) _ _ h
          ∙ sym (ap (λ k. cell (take k (c ∷ cs)) before Punctuation ∷ parts Punctuation false (drop (suc k) (c ∷ cs))) n)
    ]

-- a line without a bar
pub without_bar : (before : Kind) (escaped : Bool) (cs : List ℕ) → length cs ≤ bar_at escaped cs → parts before escaped cs ≡ cell cs before Whitespace ∷ []
without_bar before escaped [] all = refl
without_bar before escaped (c ∷ cs) all =
    elim (cases_Bool (is_bar escaped c)) [
      | inr h ↦
          let n : bar_at escaped (c ∷ cs) ≡ suc (bar_at (may_escape escaped c) cs) = cond-false (is_bar escaped c) 0 _ h in
          cond-false (is_bar escaped c) _ _ h ∙ ap (in_first_cell c before) (without_bar before (may_escape escaped c) cs (omega (arith, n, all)))
      | inl h ↦ let n : bar_at escaped (c ∷ cs) ≡ 0 = cond-true (is_bar escaped c) 0 _ h in absurd (omega (arith, n, all))
    ]

-- the columns that are left of a tab stand in the first part
pub after_columns : (owed : ℕ) (before after : Kind) (cs text : List ℕ) (others : List Cell) → parts before false text ≡ cell cs before after ∷ others
    → parts before false (replicate owed 256 ++ text) ≡ cell (replicate owed 256 ++ cs) before after ∷ others
after_columns zero before after cs text others e = e
after_columns (suc owed) before after cs text others e = ap (in_first_cell 256 before) (after_columns owed before after cs text others e)

-- a line may be cut before its first bar
pub at_bar : (escaped : Bool) (cs : List ℕ) → bar_at escaped cs < length cs → get_or cs (bar_at escaped cs) 0 ≡ 124
at_bar escaped [] lt = absurd (omega arith)
at_bar escaped (c ∷ cs) lt =
    elim (cases_Bool (is_bar escaped c)) [
      | inr h ↦
          let n : bar_at escaped (c ∷ cs) ≡ suc (bar_at (may_escape escaped c) cs) = cond-false (is_bar escaped c) 0 _ h in
          ap (λ k. get_or (c ∷ cs) k 0) n ∙ at_bar (may_escape escaped c) cs (omega (arith, n, lt))
      | inl h ↦
          let n : bar_at escaped (c ∷ cs) ≡ 0 = cond-true (is_bar escaped c) 0 _ h in
          ap (λ k. get_or (c ∷ cs) k 0) n ∙ bar_byte escaped c h
    ]

pub boundary_bar : (cs : List ℕ) → IsCharBoundary cs (bar_at false cs)
boundary_bar cs = boundary_before cs _ (bar_within false cs) (λ lt. omega (arith, at_bar false cs lt))

-- and after it
pub boundary_after_bar : (cs : List ℕ) (n : ℕ) → IsUtf8 cs → n ≡ bar_at false cs → n < length cs → IsCharBoundary cs (n + 1)
boundary_after_bar cs n utf8 is lt =
    boundary_after cs (n + 1) utf8 (omega (arith, lt)) (λ k next.
    let same : k ≡ bar_at false cs = omega (arith, next, is) in
    let bar = ap (λ j. get_or cs j 0) same ∙ at_bar false cs (omega (arith, lt, is)) in
    omega (arith, bar))

-- ---- the last part

pub record SomePart (cs : List Cell) : Type 0 where
  pub first : Cell
  pub others : List Cell
  pub same : cs ≡ first ∷ others

pub some_part : (before : Kind) (escaped : Bool) (cs : List ℕ) → SomePart (parts before escaped cs)
some_part before escaped [] = record { first = cell [] before Whitespace; others = []; same = refl }
some_part before escaped (c ∷ cs) =
    elim (cases_Bool (is_bar escaped c)) [
      | inl h ↦ record { first = cell [] before Punctuation; others = parts Punctuation false cs; same = cond-true (is_bar escaped c) _ _ h }
      | inr h ↦
          let k = some_part before (may_escape escaped c) cs in
          record {
            first = cell (c ∷ k.first.codes) before k.first.after;
            others = k.others;
            same = cond-false (is_bar escaped c) _ _ h ∙ ap (in_first_cell c before) k.same;
          }
    ]

-- a part before another one is a cell
before_part : (c : Cell) (line : Piece) → without_blank_last (c ∷ parts_if (Some line)) ≡ c ∷ without_blank_last (parts_if (Some line))
before_part c line =
    let k = some_part line.before false (piece_line line).codes in
    ap (λ l. without_blank_last (c ∷ l)) k.same ∙ sym (ap (λ l. c ∷ without_blank_last l) k.same)

-- the last one is a cell unless it is blank
last_part : (c : Cell) → is_blank c.codes ≡ false → without_blank_last (c ∷ []) ≡ c ∷ []
last_part c h = cond-false (is_blank c.codes) _ _ h

pub same_cell : (owed other_owed : ℕ) (cs other_cs : List ℕ) (before other_before after other_after : Kind) → other_owed ≡ owed → other_cs ≡ cs
    → other_before ≡ before → other_after ≡ after
    → cell (replicate owed 256 ++ cs) before after ≡ cell (replicate other_owed 256 ++ other_cs) other_before other_after
same_cell owed other_owed cs other_cs before other_before after other_after e f g h =
    ap (λ n. cell (replicate n 256 ++ cs) before after) (sym e)
    ∙ ap (λ l. cell (replicate other_owed 256 ++ l) before after) (sym f)
    ∙ ap (λ k. cell (replicate other_owed 256 ++ other_cs) k after) (sym g)
    ∙ ap (cell (replicate other_owed 256 ++ other_cs) other_before) (sym h)

-- a part that isn't blank, or that another one follows, is a cell
pub filled_part : (c : Cell) (after : Option Piece) → is_blank c.codes ≡ false
    → without_blank_last (c ∷ parts_if after) ≡ c ∷ without_blank_last (parts_if after)
filled_part c None h = last_part c h
filled_part c (Some line) h = before_part c line

pub followed_part : (c : Cell) (after : Option Piece) → is_some after ≡ true → without_blank_last (c ∷ parts_if after) ≡ c ∷ without_blank_last (parts_if after)
followed_part c None h = absurd (true≢false (sym h))
followed_part c (Some line) h = before_part c line
