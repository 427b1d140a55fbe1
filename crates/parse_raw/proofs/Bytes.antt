-- Bytes of a line, and which events may have them.
use Rattle.std.proofs.Common.{◌≡◌, ℕ, zero, suc, ◌+◌, ◌-◌, ◌≤◌, Bool, true, false, ◌&&◌, ◌||◌, List, [], ◌∷◌, ◌++◌, None, Some, inl, inr, refl, sym, ap, ap₂, subst, ◌∙◌}
use Rattle.std.proofs.Common.{Option, not, drop, eq-eqb, take, length, length-drop, reverse, arith}
use Rattle.parse_raw.proofs.Prelude.{all_filter, and_parts, bytes_of, cases_Bool, codes_first, cond-false, cond-true, End, end_at, end_to_next}
use Rattle.parse_raw.proofs.Prelude.{ending_text, ends_line, LineEnding, same_end}
use Rattle.parse_raw.proofs.Prelude.{Follows, indent, is_byte, is_white, IsChunkName, IsInLine, IsLineOf, IsToken, is_token, line_after, list_all, list_any}
use Rattle.parse_raw.proofs.Prelude.{Name, or_parts, prefix_len, replicate, Rest, rest_start, standing, tab_column}
use Rattle.parse_raw.proofs.Prelude.{take-append-drop, text_between, Walk, whole, written_to, all_prefix}
use Rattle.std.specs.List.{suffix_len}
use Rattle.std.specs.Str.{is_utf8}
use Rattle.std.proofs.lemmas.Bool.{and_from, true≢false}
use Rattle.std.proofs.Math.Seq.{drop-append_seam}
use Rattle.std.proofs.lemmas.List.{length-reverse, reverse-append, reverse-reverse}
use Rattle.std.proofs.lemmas.List.Folds.{list_all-append}
use Rattle.markdown_options.specs.declared.line_ending.LineEnding.TheVariants.{CarriageReturn, CarriageReturnLineFeed, LineFeed}
use Rattle.engine_events.specs.declared.event.Name.TheVariants as n
use Rattle.definition_text.specs.Columns.{codes_from}
use Rattle.block_starts.specs.Widths.{width}
use Rattle.event_tokens.specs.Tokens.{Form, fits, line as line_form, token_form}
use Rattle.parse_lines.proofs.Between.{rest_between, rests_between}
use Rattle.parse_lines.proofs.Bytes.{dark_line}
use Rattle.parse_lines.proofs.ContentLines.{ending_between}
use Rattle.parse_lines.proofs.Written.{ending_end}
use Rattle.parse_raw.specs.Bytes.{IsEndingName}

-- ---- what is left of a line has no line ending

dark_columns : (count : ℕ) (xs : Rest) → list_any ends_line xs ≡ false → list_any ends_line (replicate count tab_column ++ xs) ≡ false
dark_columns zero xs dark = dark
dark_columns (suc count) xs dark = dark_columns count xs dark

pub dark_codes : (column : ℕ) (bs : List ℕ) → list_any ends_line bs ≡ false → list_any ends_line (codes_from column bs) ≡ false
dark_codes column [] dark = refl
dark_codes column (b ∷ bs) dark =
    let parts = or_parts (ends_line b) (list_any ends_line bs) dark in
    let w = width column b in
    ap (list_any ends_line) (codes_first column b bs)
    ∙ ap₂ (λ (x y : Bool). x || y) parts.0 (dark_columns (w - 1) (codes_from (column + w) bs) (dark_codes (column + w) bs parts.1))

pub dark_drop : (count : ℕ) (xs : Rest) → list_any ends_line xs ≡ false → list_any ends_line (drop count xs) ≡ false
dark_drop zero xs dark = dark
dark_drop (suc count) [] dark = refl
dark_drop (suc count) (x ∷ xs) dark = dark_drop count xs (or_parts (ends_line x) (list_any ends_line xs) dark).1

pub dark_bytes : (xs : Rest) → list_any ends_line xs ≡ false → list_any ends_line (bytes_of xs) ≡ false
dark_bytes [] dark = refl
dark_bytes (x ∷ xs) dark =
    let parts = or_parts (ends_line x) (list_any ends_line xs) dark in
    let more = dark_bytes xs parts.1 in
    elim (cases_Bool (is_byte x)) [
      | inl h ↦ ap (list_any ends_line) (cond-true (is_byte x) (x ∷ bytes_of xs) (bytes_of xs) h) ∙ ap₂ (λ (a b : Bool). a || b) parts.0 more
      | inr h ↦ ap (list_any ends_line) (cond-false (is_byte x) (x ∷ bytes_of xs) (bytes_of xs) h) ∙ more
    ]

-- what is left of a line may be what is left of it in a raw block
chunk_form : (name : Name) → IsChunkName name → token_form name ≡ line_form
chunk_form name (inl is) = ap token_form is
chunk_form name (inr (inl is)) = ap token_form is
chunk_form name (inr (inr (inl is))) = ap token_form is
chunk_form name (inr (inr (inr is))) = ap token_form is

chunk_fits : (name : Name) (bytes : List ℕ) → IsChunkName name → is_utf8 bytes ≡ true → list_any ends_line bytes ≡ false → is_token name bytes ≡ true
chunk_fits name bytes is utf8 dark =
    ap (λ (form : Form). fits form bytes) (chunk_form name is)
    ∙ and_from (is_utf8 bytes) (list_all (λ (b : ℕ). not (ends_line b)) bytes) utf8 (dark_line bytes dark)

module _ (text before content after : List ℕ) (line_end : ℕ) (line : IsLineOf text before content after) (end : line_end ≡ length before + length content) where
  -- all that is left of a line after some columns
  pub rest_fits : (name : Name) (m : ℕ) (from : End) → from ≡ rest_start line_end (drop m (whole content)) → IsChunkName name
      → is_utf8 (text_between text from (end_at line_end 0)) ≡ true → is_token name (text_between text from (end_at line_end 0)) ≡ true
  rest_fits name m from at is utf8 =
      let rest = drop m (whole content) in
      let dark = dark_bytes rest (dark_drop m (whole content) (dark_codes 0 content line.dark)) in
      let bytes : text_between text from (end_at line_end 0) ≡ bytes_of rest =
      ap (λ (e : End). text_between text e (end_at line_end 0)) at ∙ rest_between text before content after line_end line end m in
      chunk_fits name (text_between text from (end_at line_end 0)) is utf8 (ap (list_any ends_line) bytes ∙ dark)

  -- some columns of white space
  pub columns_white : (n k : ℕ) (from to : End) → from ≡ rest_start line_end (drop n (whole content)) → to ≡ rest_start line_end (drop (n + k) (whole content))
      → k ≤ indent (drop n (whole content)) → list_all is_white (text_between text from to) ≡ true
  columns_white n k from to at to_is few =
      ap (list_all is_white) (ap₂ (text_between text) at to_is ∙ rests_between text before content after line_end line end n k)
      ∙ all_filter is_white is_byte (take k (drop n (whole content))) (all_prefix is_white k (drop n (whole content)) few)

  -- white space up to the end of the line
  pub rest_white : (m : ℕ) (from : End) → from ≡ rest_start line_end (drop m (whole content)) → list_all is_white (drop m (whole content)) ≡ true
      → list_all is_white (text_between text from (end_at line_end 0)) ≡ true
  rest_white m from at white =
      ap (λ (e : End). list_all is_white (text_between text e (end_at line_end 0))) at
      ∙ ap (list_all is_white) (rest_between text before content after line_end line end m)
      ∙ all_filter is_white is_byte (drop m (whole content)) white

-- ---- endings

pub line_ending_fits : IsEndingName n.LineEnding
line_ending_fits LineFeed = refl
line_ending_fits CarriageReturn = refl
line_ending_fits CarriageReturnLineFeed = refl

pub blank_ending_fits : IsEndingName n.BlankLineEnding
blank_ending_fits LineFeed = refl
blank_ending_fits CarriageReturn = refl
blank_ending_fits CarriageReturnLineFeed = refl

some_fits : (name : Name) (ending : Option LineEnding) → IsEndingName name → (ending ≡ None → ⊥) → is_token name (ending_text ending) ≡ true
some_fits name None fits some = absurd (some refl)
some_fits name (Some ending) fits some = fits ending

-- the ending of the line on which a walk stands
pub ending_token : {A : Type 0} (text : List ℕ) (name : Name) (w : Walk A) → IsEndingName name → IsInLine text (standing w) → written_to w ≡ end_at w.line_end 0
    → IsToken text name (written_to w) (line_after w)
ending_token text name w fits line at =
    let to = line_after w in
    let reach = (ending_end text (standing w) line).0 in
    record {
      follows = subst (λ (e : End). Follows text e to) (sym at) (end_to_next text (standing w) line);
      bytes = λ apart.
          let some : w.ending ≡ None → ⊥ =
          λ none.
          let nothing : length (ending_text w.ending) ≡ 0 = ap (λ (e : Option LineEnding). length (ending_text e)) none in
          let there : w.size - length w.left.now ≡ w.line_end = omega (arith, reach, nothing) in
          let same : same_end to (written_to w) ≡ true =
          ap (same_end to) at ∙ ap₂ (λ (a b : Bool). a && b) (eq-eqb (w.size - length w.left.now) w.line_end there) refl in
          true≢false (sym same ∙ apart) in
          ap (λ (e : End). is_token name (text_between text e to)) at
          ∙ ap (is_token name) (ending_between text (standing w) line) ∙ some_fits name w.ending fits some;
    }

-- ---- lists

pub all_drop : (p : ℕ → Bool) (count : ℕ) (xs : List ℕ) → list_all p xs ≡ true → list_all p (drop count xs) ≡ true
all_drop p zero xs all = all
all_drop p (suc count) [] all = refl
all_drop p (suc count) (x ∷ xs) all = all_drop p count xs (and_parts (p x) (list_all p xs) all).1

all_reverse : (p : ℕ → Bool) (xs : List ℕ) → list_all p xs ≡ true → list_all p (reverse xs) ≡ true
all_reverse p [] all = refl
all_reverse p (x ∷ xs) all =
    let parts = and_parts (p x) (list_all p xs) all in
    ap (list_all p) (reverse-append (x ∷ []) xs) ∙ list_all-append p (reverse xs) (x ∷ [])
    ∙ ap₂ (λ (s t : Bool). s && (t && true)) (all_reverse p xs parts.1) parts.0

-- those at the end that pass
pub suffix_passes : (p : ℕ → Bool) (xs : List ℕ) → list_all p (drop (length xs - suffix_len p xs) xs) ≡ true
suffix_passes p xs =
    let ys = reverse xs in
    let k = suffix_len p xs in
    let all : k ≡ prefix_len p ys = refl in
    let parts : xs ≡ reverse (drop k ys) ++ reverse (take k ys) =
    sym (reverse-reverse xs) ∙ ap reverse (sym (take-append-drop k ys)) ∙ reverse-append (take k ys) (drop k ys) in
    let size : length xs - k ≡ length (reverse (drop k ys)) =
    omega (arith, length-reverse (drop k ys), length-drop k ys, length-reverse xs) in
    ap (list_all p) (ap₂ (λ (i : ℕ) (zs : List ℕ). drop i zs) size parts ∙ drop-append_seam (reverse (drop k ys)) (reverse (take k ys)))
    ∙ all_reverse p (take k ys) (all_prefix p k ys (omega (arith, all)))
