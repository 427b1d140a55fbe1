-- References, line endings and hard breaks in bytes.
use Rattle.std.proofs.Common.{◌≡◌, ◌<◌, ◌+◌, ℕ, zero, suc, not, List, [], ◌∷◌, ◌++◌, length, drop, replicate, refl, sym, ap, ◌∙◌, subst, arith}
use Rattle.std.specs.Prelude.{◌==◌}
use Rattle.std.specs.List.{position_or_len}
use Rattle.std.proofs.lemmas.Bool.{cond-true}
use Rattle.std.proofs.lemmas.List.{take-append-drop, get_or-drop, length-replicate}
use Rattle.markdown_options.specs.LineEndings.{ending_bytes}
use Rattle.markdown_options.specs.declared.line_ending.LineEnding.{LineEnding}
use Rattle.markdown_options.specs.declared.line_ending.LineEnding.TheVariants.{LineFeed, CarriageReturn, CarriageReturnLineFeed}
use Rattle.definition_text.specs.Columns.{is_white, indent}
use Rattle.definition_text.specs.Content.{content_codes, line_ending_code}
use Rattle.definition_text.specs.InlineCode.{InlineCode, codes_of}
use Rattle.definition_inline.proofs.Scanning.{drop-codes_of}
use Rattle.inline_leaves.proofs.Codes.{prefix_codes, after_codes}
use Rattle.parse_written.specs.Leaves.{Lacks}
use Rattle.parse_written.specs.Written.{AreCodes, EndNoLine}
use Rattle.parse_written.specs.Bytes.{AreBytesAt}
use Rattle.parse_written.specs.RowLaws.{ReferenceBytesLaw, LineBytesLaw, BreakBytesLaw}
use Rattle.parse_written.proofs.Bytes.{AreSmall, inline_bytes_law, text_bytes_law}
use Rattle.parse_written.proofs.Marks.{marks_inline}

-- ---- references

inline_both : (xs ys : List ℕ) → EndNoLine xs → EndNoLine ys → EndNoLine (xs ++ ys)
inline_both [] ys p q = q
inline_both (x ∷ xs) ys p q = (p.0, inline_both xs ys p.1 q)

first_place : (xs ys : List ℕ) → Lacks 59 xs → position_or_len (λ b. b == 59) ((xs ++ 59 ∷ []) ++ ys) ≡ length xs
first_place [] ys lacks = refl
first_place (x ∷ xs) ys lacks =
    let later = first_place xs ys lacks.1 in
    let n = position_or_len (λ b. b == 59) ((xs ++ 59 ∷ []) ++ ys) in
    cond-true (not (x == 59)) (1 + n) 0 (ap not lacks.0) ∙ (let one : 1 + n ≡ suc (length xs) = omega (arith, later) in one)

pub reference_bytes_law : ReferenceBytesLaw
reference_bytes_law context text bytes from to is at =
    let all = is.written ++ 59 ∷ [] in
    let passes = inline_bytes_law all bytes from to at is.codes (inline_both is.written (59 ∷ []) is.inline (refl, tt)) in
    let left = drop (length all) bytes in
    let parts : bytes ≡ all ++ left = sym (take-append-drop (length all) bytes) ∙ ap (λ xs. xs ++ left) passes.front in
    record {
      written = is.written;
      passes = passes;
      first = ap (position_or_len (λ b. b == 59)) parts ∙ first_place is.written left is.first;
    }

-- ---- spaces and tabs

white_passed : (bytes : List ℕ) (from : List InlineCode) → AreBytesAt bytes from → AreBytesAt (drop (indent bytes) bytes) (drop (indent (codes_of from)) from)
white_passed bytes from at =
    drop-codes_of (indent (codes_of from)) from ∙ ap (λ cs. drop (indent cs) cs) at ∙ after_codes is_white refl refl bytes

pub break_bytes_law : BreakBytesLaw
break_bytes_law bytes from to at is =
    let marks = replicate is.size 32 in
    let passes = inline_bytes_law marks bytes from to at is.codes (marks_inline is.size 32 refl) in
    let size : length marks ≡ indent bytes = length-replicate is.size 32 ∙ is.all ∙ ap indent at ∙ prefix_codes is_white refl refl bytes in
    subst (λ n. AreBytesAt (drop n bytes) to) size passes.left

-- ---- line endings

small_none : AreSmall []
small_none k = omega arith

small_more : (b : ℕ) (bs : List ℕ) → b < 256 → AreSmall bs → AreSmall (b ∷ bs)
small_more b bs first others zero = first
small_more b bs first others (suc k) = others k

small_ending : (ending : LineEnding) → AreSmall (ending_bytes ending)
small_ending LineFeed = small_more 10 [] (omega arith) small_none
small_ending CarriageReturn = small_more 13 [] (omega arith) small_none
small_ending CarriageReturnLineFeed = small_more 13 (10 ∷ []) (omega arith) (small_more 10 [] (omega arith) small_none)

small_drop : (n : ℕ) (bytes : List ℕ) → AreSmall bytes → AreSmall (drop n bytes)
small_drop n bytes small k = subst (λ b. b < 256) (sym (get_or-drop n bytes k 0)) (small (n + k))

ending_in_codes : (ending : LineEnding) → content_codes (ending_bytes ending) ≡ line_ending_code ending ∷ []
ending_in_codes LineFeed = refl
ending_in_codes CarriageReturn = refl
ending_in_codes CarriageReturnLineFeed = refl

pub line_bytes_law : LineBytesLaw
line_bytes_law ending bytes from to small at is =
    let text = ending_bytes ending in
    let here = drop (indent bytes) bytes in
    let line = is.line in
    let at_start : AreBytesAt here is.start = subst (λ x. AreBytesAt here x) (sym is.spaces) (white_passed bytes from at) in
    let passes =
    text_bytes_law text here is.start line.rest (small_ending ending) (small_drop (indent bytes) bytes small) at_start
    (subst (λ xs. AreCodes xs is.start line.rest) (sym (ending_in_codes ending)) line.ending) in
    let rest = drop (length text) here in
    record {
      rest = rest;
      parts = sym (take-append-drop (length text) here) ∙ ap (λ xs. xs ++ rest) passes.front;
      left = subst (λ x. AreBytesAt (drop (indent rest) rest) x) (sym line.after) (white_passed rest line.rest passes.left);
    }
