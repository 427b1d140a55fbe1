-- Bytes of a line that are no white space, by their columns.
use Rattle.std.proofs.Common.{◌≡◌, ℕ, ◌+◌, ◌-◌, ◌<◌, ◌≤◌, ◌^◌, zero, suc, Bool, false, not, List, [], ◌∷◌, refl, sym, ap, ◌∙◌, subst, arith, drop, take, length}
use Rattle.std.specs.Str.{is_utf8}
use Rattle.std.proofs.lemmas.Bool.{and_from, eq-eqb}
use Rattle.parse_output.proofs.Characters.{characters_to}
use Rattle.parse_lines.proofs.Prelude.{IsToken, same_end, true≢false, ◌==◌}
use Rattle.parse_lines.proofs.Cuts.{column_cut}
use Rattle.parse_lines.proofs.Prelude.{bytes_of, cond-false, cond-true, drop-drop, End, end_at, end_in, Follows, is_byte, is_tab_column, is_white, IsInOrder}
use Rattle.parse_lines.proofs.Prelude.{IsLineOf, list_any, Name, or_parts, Output, prefix_len, Rest, rest_start, void_nodes, whole, Writes}
use Rattle.engine_events.specs.declared.event.Name.TheVariants.{SpaceOrTab}
use Rattle.std.proofs.Common.{ap₂, true}
use Rattle.parse_lines.proofs.Prelude.{is_token, list_all, text_between}
use Rattle.parse_lines.proofs.Between.{rests_between}
use Rattle.parse_lines.proofs.Columns.{dark_is_byte, dark_owes_none}
use Rattle.parse_lines.proofs.White.{all_filter}
use Rattle.parse_lines.proofs.ContentLines.{start_owed}
use Rattle.parse_lines.proofs.Ends.{left_within, line_follows, start_whole}

-- codes that are no white space are bytes
pub dark_bytes : (xs : Rest) → list_any is_white xs ≡ false → bytes_of xs ≡ xs
dark_bytes [] h = refl
dark_bytes (x ∷ xs) h =
    let parts = or_parts (is_white x) (list_any is_white xs) h in
    cond-true (is_byte x) _ _ (ap (λ (b : Bool). not b) (dark_is_byte x parts.0)) ∙ ap (λ (ys : Rest). x ∷ ys) (dark_bytes xs parts.1)

module _ (text before content after : List ℕ) (line_end : ℕ) (line : IsLineOf text before content after) (end : line_end ≡ length before + length content) where
  -- where a column of the line is in the text
  abbrev pub column_end : ℕ → End
  column_end n = rest_start line_end (drop n (whole content))

  -- so many codes from a column on are no white space
  pub record IsDark (n k : ℕ) : Type 0 where
    pub within : k ≤ length (drop n (whole content))
    pub dark : list_any is_white (take k (drop n (whole content))) ≡ false
    pub none : prefix_len is_tab_column (drop n (whole content)) ≡ 0

  pub record IsFurther (n k : ℕ) : Type 0 where
    pub there : end_at ((column_end n).index + k) 0 ≡ column_end (n + k)
    pub none : prefix_len is_tab_column (drop (n + k) (whole content)) ≡ 0

  one_further : (n x : ℕ) (xs : Rest) → drop n (whole content) ≡ x ∷ xs → is_white x ≡ false → IsFurther n 1
  one_further n x xs is dark =
      let byte = dark_is_byte x dark in
      let later : drop (n + 1) (whole content) ≡ xs = sym (drop-drop 1 n (whole content)) ∙ ap (drop 1) is in
      let none = dark_owes_none 0 content n x xs line.bytes is dark in
      let first : bytes_of (x ∷ xs) ≡ x ∷ bytes_of xs = cond-true (is_byte x) _ _ (ap (λ (b : Bool). not b) byte) in
      let here : column_end n ≡ end_at (line_end - length (bytes_of (x ∷ xs))) 0 =
      ap (rest_start line_end) is ∙ start_whole line_end (x ∷ xs) (cond-false (is_tab_column x) _ _ byte) in
      let there : column_end (n + 1) ≡ end_at (line_end - length (bytes_of xs)) 0 = ap (rest_start line_end) later ∙ start_whole line_end xs none in
      let within = left_within content n line.bytes in
      let size : length (bytes_of (drop n (whole content))) ≡ length (bytes_of (x ∷ xs)) = ap (λ (r : Rest). length (bytes_of r)) is in
      let index : (column_end n).index + 1 ≡ line_end - length (bytes_of xs) =
      omega (arith, ap (λ (e : End). e.index) here, ap length first, within, size, end) in
      record {
        there = ap (λ (k : ℕ). end_at k 0) index ∙ sym there;
        none = ap (prefix_len is_tab_column) later ∙ none;
      }

  further_from : (xs : Rest) (n k : ℕ) → drop n (whole content) ≡ xs → k ≤ length xs → list_any is_white (take k xs) ≡ false
      → prefix_len is_tab_column (drop n (whole content)) ≡ 0 → IsFurther n k
  further_from xs n zero is within dark none =
      let same : n ≡ n + 0 = omega arith in
      let index : (column_end n).index + 0 ≡ (column_end n).index = omega arith in
      let owed : (column_end n).owed ≡ 0 = start_owed line_end (drop n (whole content)) ∙ none in
      record {
        there = ap (λ (k : ℕ). end_at k 0) index ∙ ap (end_at (column_end n).index) (sym owed) ∙ ap column_end same;
        none = ap (λ (m : ℕ). prefix_len is_tab_column (drop m (whole content))) (sym same) ∙ none;
      }
  further_from [] n (suc k) is within dark none = absurd (omega (arith, within))
  further_from (x ∷ xs) n (suc k) is within dark none =
      let parts = or_parts (is_white x) (list_any is_white (take k xs)) dark in
      let one = one_further n x xs is parts.0 in
      let later : drop (n + 1) (whole content) ≡ xs = sym (drop-drop 1 n (whole content)) ∙ ap (drop 1) is in
      let more = further_from xs (n + 1) k later (omega (arith, within)) parts.1 one.none in
      let all : (n + 1) + k ≡ n + suc k = omega arith in
      let index : (column_end n).index + suc k ≡ (column_end (n + 1)).index + k = omega (arith, ap (λ (e : End). e.index) one.there) in
      record {
        there = ap (λ (m : ℕ). end_at m 0) index ∙ more.there ∙ ap column_end all;
        none = ap (λ (m : ℕ). prefix_len is_tab_column (drop m (whole content))) (sym all) ∙ more.none;
      }

  -- each takes one byte and one column
  pub further : (n k : ℕ) → IsDark n k → IsFurther n k
  further n k d = further_from (drop n (whole content)) n k refl d.within d.dark d.none

  -- ---- what is written of them

  module _ {A : Type 0} where
    -- all before a column is written
    pub record IsAtColumn (n : ℕ) (o : Output A) : Type 0 where
      pub at : end_in o ≡ column_end n
      pub order : IsInOrder text o

    -- a token that has a size has a code
    some_codes : (n k : ℕ) (a : Output A) → IsDark n k → IsAtColumn n a → same_end (end_at ((end_in a).index + k) 0) (end_in a) ≡ false → 0 < k
    some_codes n zero a dark at apart =
        let owed : (end_in a).owed ≡ 0 = ap (λ (e : End). e.owed) at.at ∙ start_owed line_end (drop n (whole content)) ∙ dark.none in
        let here : (end_in a).index + 0 ≡ (end_in a).index = omega arith in
        absurd (true≢false (sym (and_from ((end_in a).index + 0 == (end_in a).index) (0 == (end_in a).owed)
        (eq-eqb ((end_in a).index + 0) (end_in a).index here) (eq-eqb 0 (end_in a).owed (sym owed))) ∙ apart))
    some_codes n (suc k) a dark at apart = omega arith

    pub token_step : (name : Name) (n k : ℕ) (a b : Output A) → IsDark n k → (0 < k → is_token name (take k (drop n (whole content))) ≡ true)
        → IsAtColumn n a
        → ((end_in a).index + k < 2 ^ 64 → end_in b ≡ end_at ((end_in a).index + k) 0)
        → ((end_in a).index + k < 2 ^ 64 → IsInOrder text a → IsToken text name (end_in a) (end_at ((end_in a).index + k) 0)
        → Writes text a b (void_nodes text name (end_in a) (end_at ((end_in a).index + k) 0)))
        → Writes text a b (void_nodes text name (column_end n) (column_end (n + k))) × IsAtColumn (n + k) b
    token_step name n k a b dark may at ends writes =
        let to = further n k dark in
        let there : end_at ((end_in a).index + k) 0 ≡ column_end (n + k) = ap (λ (e : End). end_at (e.index + k) 0) at.at ∙ to.there in
        let follows = line_follows text before content after line_end n (n + k) line end (omega arith) in
        let fits : (end_in a).index + k < 2 ^ 64 = omega (arith, ap (λ (e : End). e.index) there, follows.within, line.fits) in
        let first : Follows text (end_in a) (end_at ((end_in a).index + k) 0) =
        subst (λ (e : End). Follows text e (end_at ((end_in a).index + k) 0)) (sym at.at) (subst (Follows text (column_end n)) (sym there) follows) in
        let bytes : text_between text (end_in a) (end_at ((end_in a).index + k) 0) ≡ take k (drop n (whole content)) =
        ap₂ (text_between text) at.at there ∙ rests_between text before content after line_end line end n k ∙ dark_bytes (take k (drop n (whole content))) dark.dark in
        let written = writes fits at.order (record { follows = first; bytes = λ apart. ap (is_token name) bytes ∙ may (some_codes n k a dark at apart) }) in (
          subst (λ (e : End). Writes text a b (void_nodes text name e (column_end (n + k)))) at.at
              (subst (λ (e : End). Writes text a b (void_nodes text name (end_in a) e)) there written),
          record { at = ends fits ∙ there; order = written.order },
        )

    -- the codes are whole characters, if a byte of ASCII is next
    pub characters_step : (n k b : ℕ) (a : Output A) (more : Rest) → IsDark n k → IsAtColumn n a → drop (n + k) (whole content) ≡ b ∷ more → is_byte b ≡ true
        → b < 128 → is_utf8 (take k (drop n (whole content))) ≡ true
    characters_step n k b a more dark at next byte ascii =
        let to = column_end (n + k) in
        let follows : Follows text (end_in a) to =
        subst (λ (e : End). Follows text e to) (sym at.at) (line_follows text before content after line_end n (n + k) line end (omega arith)) in
        let bytes : text_between text (end_in a) to ≡ take k (drop n (whole content)) =
        ap (λ (e : End). text_between text e to) at.at ∙ rests_between text before content after line_end line end n k
        ∙ dark_bytes (take k (drop n (whole content))) dark.dark in
        ap is_utf8 (sym bytes)
        ∙ characters_to text a at.order to follows
        (column_cut text before content after line_end line end (n + k) b more (further n k dark).none next byte ascii)

    pub space_step : (n k : ℕ) (rest : Rest) (a b : Output A) → rest ≡ drop (n + k) (whole content)
        → list_all is_white (take k (drop n (whole content))) ≡ true → IsAtColumn n a
        → end_in b ≡ rest_start line_end rest
        → (IsInOrder text a → IsToken text SpaceOrTab (end_in a) (rest_start line_end rest)
        → Writes text a b (void_nodes text SpaceOrTab (end_in a) (rest_start line_end rest)))
        → Writes text a b (void_nodes text SpaceOrTab (column_end n) (column_end (n + k))) × IsAtColumn (n + k) b
    space_step n k rest a b is white at ends writes =
        let there : rest_start line_end rest ≡ column_end (n + k) = ap (rest_start line_end) is in
        let follows = line_follows text before content after line_end n (n + k) line end (omega arith) in
        let first : Follows text (end_in a) (rest_start line_end rest) =
        subst (λ (e : End). Follows text e (rest_start line_end rest)) (sym at.at) (subst (Follows text (column_end n)) (sym there) follows) in
        let bytes : text_between text (end_in a) (rest_start line_end rest) ≡ bytes_of (take k (drop n (whole content))) =
        ap₂ (text_between text) at.at there ∙ rests_between text before content after line_end line end n k in
        let may = ap (list_all is_white) bytes ∙ all_filter is_white is_byte (take k (drop n (whole content))) white in
        let written = writes at.order (record { follows = first; bytes = λ apart. may }) in (
          subst (λ (e : End). Writes text a b (void_nodes text SpaceOrTab e (column_end (n + k)))) at.at
              (subst (λ (e : End). Writes text a b (void_nodes text SpaceOrTab (end_in a) e)) there written),
          record { at = ends ∙ there; order = written.order },
        )
