-- Sizes of pieces, joined, and of the codes of a line.
use Rattle.std.proofs.Common.{◌≡◌, ℕ, suc, ◌+◌, Bool, false, cond, ◌||◌, [], ◌∷◌, ◌++◌, inl, inr, refl, ap, ◌∙◌, arith, length}
use Rattle.std.specs.Prelude.{not, ◌==◌}
use Rattle.std.proofs.lemmas.Bool.{cases_Bool, cond-false, cond-true, or_parts}
use Rattle.std.specs.List.{list_any, prefix_len}
use Rattle.definition_text.specs.Columns.{Rest, bytes_of, is_tab_column}
use Rattle.definition_text.specs.Content.{is_eol, return_and_feed}
use Rattle.event_definition.specs.Pieces.{Pieces, Nil, Cons, join}
use Rattle.parse_pieces.specs.Sizes.{code_size, codes_size, columns, columns_of, piece_columns, pieces_size}

pub join_nil : (ps : Pieces) → join ps Nil ≡ ps
join_nil Nil = refl
join_nil (Cons p ps) = ap (Cons p) (join_nil ps)

pub join_assoc : (ps qs rs : Pieces) → join (join ps qs) rs ≡ join ps (join qs rs)
join_assoc Nil qs rs = refl
join_assoc (Cons p ps) qs rs = ap (Cons p) (join_assoc ps qs rs)

pub columns_join : (ps qs : Pieces) (after : ℕ) → columns (join ps qs) after ≡ columns ps (columns qs after)
columns_join Nil qs after = refl
columns_join (Cons p ps) qs after = ap (piece_columns p) (columns_join ps qs after)

pub size_join : (ps qs : Pieces) → pieces_size (join ps qs) ≡ pieces_size ps + pieces_size qs
size_join Nil qs = omega arith
size_join (Cons p ps) qs = let more = size_join ps qs in omega (arith, more)

-- columns of a tab before a rest of a line
pub columns_rest : (cs rest : Rest) → columns_of cs (prefix_len is_tab_column rest) ≡ prefix_len is_tab_column (cs ++ rest)
columns_rest [] rest = refl
columns_rest (c ∷ cs) rest = ap (λ (k : ℕ). cond (is_tab_column c) (1 + k) 0) (columns_rest cs rest)

-- codes in which no line ends take a byte each, if they are one
pub line_size : (cs : Rest) → list_any is_eol cs ≡ false → codes_size cs ≡ length (bytes_of cs)
line_size [] dark = refl
line_size (c ∷ cs) dark =
    let parts = or_parts (is_eol c) (list_any is_eol cs) dark in
    let more = line_size cs parts.1 in
    elim (cases_Bool (is_tab_column c)) [
      | inl h ↦
          let none : code_size c ≡ 0 = cond-true (is_tab_column c) _ _ h in
          let same : length (bytes_of (c ∷ cs)) ≡ length (bytes_of cs) = ap (λ (t : Bool). length (cond (not t) (c ∷ bytes_of cs) (bytes_of cs))) h in
          omega (arith, more, none, same)
      | inr h ↦
          let last = (or_parts ((c == 10) || (c == 13)) (c == return_and_feed) parts.0).1 in
          let one : code_size c ≡ 1 = cond-false (is_tab_column c) _ _ h ∙ cond-false (c == return_and_feed) _ _ last in
          let same : length (bytes_of (c ∷ cs)) ≡ suc (length (bytes_of cs)) = ap (λ (t : Bool). length (cond (not t) (c ∷ bytes_of cs) (bytes_of cs))) h in
          omega (arith, more, one, same)
    ]
