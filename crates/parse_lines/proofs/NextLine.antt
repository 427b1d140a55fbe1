-- From the end of a line of a content through its ending into the next line.
use Rattle.std.proofs.Common.{◌≡◌, ℕ, zero, suc, ◌+◌, ◌-◌, ◌<◌, Bool, true, false, ◌&&◌, ◌||◌, not, List, [], ◌∷◌, ◌++◌, Some, inl, inr, refl, sym, ap, ap₂}
use Rattle.std.proofs.Common.{◌∙◌, subst, drop, take, length, length-append, arith, get_or}
use Rattle.parse_lines.proofs.Prelude.{and_parts, append-nil-list, AreTaken, Between, block_codes, BlockLine, bytes_of, cases_Bool, code_byte, cond-false}
use Rattle.parse_lines.proofs.Prelude.{cond-true, Constructs, Container, content_codes, content_from, End, end_after, end_at, ending_bytes, ends_at_start}
use Rattle.parse_lines.proofs.Prelude.{ends_line, is_blank, is_byte, is_eol, is_tab_column, is_white, IsApart, IsLineOf, IsRestLine, IsSameText, LineEnding}
use Rattle.parse_lines.proofs.Prelude.{LineRest, list_all, list_any, list_any-append, map, map-append, Option, or-true, or_parts, Place, prefix_len, prefixed}
use Rattle.parse_lines.proofs.Prelude.{Prefixed, replicate, Rest, rest_start, space, true≢false, whole}
use Rattle.markdown_options.specs.declared.line_ending.LineEnding.TheVariants.{CarriageReturnLineFeed, CarriageReturn, LineFeed}
use Rattle.parse_lines.proofs.Ahead.{after_bytes, after_tab}
use Rattle.parse_lines.proofs.Columns.{IsAmong, among, inside, past}
use Rattle.parse_lines.proofs.Ends.{start_among}
use Rattle.parse_lines.proofs.InContent.{tail_from, line_and_tail}
use Rattle.parse_lines.proofs.Next.{bytes_end, left_bytes}
use Rattle.parse_lines.proofs.SameText.{same_both, same_self}

-- ---- the bytes of a line

byte_is_byte : (code : ℕ) → is_byte code ≡ true → code_byte code ≡ code
byte_is_byte code is =
    elim (cases_Bool (is_tab_column code)) [
      | inl t ↦ absurd (true≢false (sym is ∙ ap (λ (b : Bool). not b) t))
      | inr t ↦ cond-false (is_tab_column code) _ _ t
    ]

bytes_are_bytes : (rest : Rest) → map code_byte (bytes_of rest) ≡ bytes_of rest
bytes_are_bytes [] = refl
bytes_are_bytes (c ∷ cs) =
    elim (cases_Bool (is_byte c)) [
      | inl t ↦
          let is : bytes_of (c ∷ cs) ≡ c ∷ bytes_of cs = cond-true (is_byte c) _ _ t in
          ap (map code_byte) is ∙ ap₂ (λ (x : ℕ) (xs : List ℕ). x ∷ xs) (byte_is_byte c t) (bytes_are_bytes cs) ∙ sym is
      | inr t ↦
          let is : bytes_of (c ∷ cs) ≡ bytes_of cs = cond-false (is_byte c) _ _ t in
          ap (map code_byte) is ∙ bytes_are_bytes cs ∙ sym is
    ]

column_more : (c : ℕ) (cs : Rest) → is_tab_column c ≡ true → prefix_len is_tab_column (c ∷ cs) ≡ suc (prefix_len is_tab_column cs)
column_more c cs t =
    let size : prefix_len is_tab_column (c ∷ cs) ≡ 1 + prefix_len is_tab_column cs = cond-true (is_tab_column c) _ _ t in
    omega (arith, size)

columns_are_spaces : (rest : Rest) → map code_byte (take (prefix_len is_tab_column rest) rest) ≡ replicate (prefix_len is_tab_column rest) space
columns_are_spaces [] = refl
columns_are_spaces (c ∷ cs) =
    elim (cases_Bool (is_tab_column c)) [
      | inl t ↦
          let size = column_more c cs t in
          let byte : code_byte c ≡ space = cond-true (is_tab_column c) _ _ t in
          ap (λ (k : ℕ). map code_byte (take k (c ∷ cs))) size
          ∙ ap₂ (λ (x : ℕ) (xs : List ℕ). x ∷ xs) byte (columns_are_spaces cs)
          ∙ ap (λ (k : ℕ). replicate k space) (sym size)
      | inr t ↦
          let size : prefix_len is_tab_column (c ∷ cs) ≡ 0 = cond-false (is_tab_column c) _ _ t in
          ap (λ (k : ℕ). map code_byte (take k (c ∷ cs))) size ∙ ap (λ (k : ℕ). replicate k space) (sym size)
    ]

-- the codes of a block as bytes
pub code_bytes : (rest : Rest) → map code_byte (block_codes rest) ≡ left_bytes rest
code_bytes rest =
    map-append code_byte (take (prefix_len is_tab_column rest) rest) (bytes_of rest)
    ∙ ap₂ (λ (xs ys : List ℕ). xs ++ ys) (columns_are_spaces rest) (bytes_are_bytes rest)

spaces_dark : (k : ℕ) → list_any ends_line (replicate k space) ≡ false
spaces_dark zero = refl
spaces_dark (suc k) = spaces_dark k

drop_dark : (n : ℕ) (xs : List ℕ) → list_any ends_line xs ≡ false → list_any ends_line (drop n xs) ≡ false
drop_dark zero xs h = h
drop_dark (suc n) [] h = refl
drop_dark (suc n) (x ∷ xs) h = drop_dark n xs (or_parts (ends_line x) (list_any ends_line xs) h).1

-- no line ends in what is left of a line
pub left_dark : (text before content after : List ℕ) (n : ℕ) → IsLineOf text before content after
    → list_any ends_line (left_bytes (drop n (whole content))) ≡ false
left_dark text before content after n line =
    let rest = drop n (whole content) in
    let end = bytes_end 0 content n line.bytes in
    list_any-append ends_line (replicate (prefix_len is_tab_column rest) space) (bytes_of rest)
    ∙ ap₂ (λ (a b : Bool). a || b) (spaces_dark (prefix_len is_tab_column rest)) (ap (list_any ends_line) end.1 ∙ drop_dark end.0 content line.dark)

-- what isn't blank isn't empty
pub left_some : (rest : Rest) → is_blank rest ≡ false → 0 < length (left_bytes rest)
left_some [] dark = absurd (true≢false dark)
left_some (c ∷ cs) dark =
    elim (cases_Bool (is_tab_column c)) [
      | inl t ↦
          let all : length (left_bytes (c ∷ cs)) ≡ suc (length (replicate (prefix_len is_tab_column cs) space ++ bytes_of (c ∷ cs))) =
          ap (λ (k : ℕ). length (replicate k space ++ bytes_of (c ∷ cs))) (column_more c cs t) in
          omega (arith, all)
      | inr t ↦
          let is : bytes_of (c ∷ cs) ≡ c ∷ bytes_of cs = cond-true (is_byte c) _ _ (ap (λ (b : Bool). not b) t) in
          let all = length-append (replicate (prefix_len is_tab_column (c ∷ cs)) space) (bytes_of (c ∷ cs)) in
          omega (arith, all, ap length is)
    ]

-- so many of one
pub copies : (k x : ℕ) → length (replicate k x) ≡ k
copies zero x = refl
copies (suc k) x = ap suc (copies k x)

to_end : (content bytes : List ℕ) (first p i owed : ℕ) → IsAmong content 1 p i owed (length bytes)
    → end_after (end_at (first + p) owed) (length (replicate owed space ++ bytes)) ≡ end_at (first + length content) 0
to_end content bytes first p i owed (inl at) =
    let none = at.owed_none in
    let sizes = at.sizes in
    let all : first + p + length bytes ≡ first + length content = omega (arith, sizes) in
    ap (λ (k : ℕ). end_after (end_at (first + p) k) (length (replicate k space ++ bytes))) none
    ∙ after_bytes (first + p) (length bytes) ∙ ap (λ (k : ℕ). end_at k 0) all
to_end content bytes first p i owed (inr at) =
    let some = at.owed_some in
    let sizes = at.sizes in
    let size : length (replicate owed space ++ bytes) ≡ owed + length bytes =
    length-append (replicate owed space) bytes ∙ ap (λ (k : ℕ). k + length bytes) (copies owed space) in
    let all : first + p + 1 + ((owed + length bytes) - owed) ≡ first + length content = omega (arith, sizes) in
    ap (end_after (end_at (first + p) owed)) size
    ∙ after_tab (first + p) owed (owed + length bytes) some (omega arith) ∙ ap (λ (k : ℕ). end_at k 0) all

-- after all that is left of a line is its ending
pub left_to_end : (text before content after : List ℕ) (line_end n : ℕ) → IsLineOf text before content after → line_end ≡ length before + length content
    → end_after (rest_start line_end (drop n (whole content))) (length (left_bytes (drop n (whole content)))) ≡ end_at line_end 0
left_to_end text before content after line_end n line end =
    let rest = drop n (whole content) in
    let p = past 0 content n in
    let owed = prefix_len is_tab_column rest in
    let at = among 0 content n line.bytes in
    let start : rest_start line_end rest ≡ end_at (length before + p) owed =
    ap (λ (k : ℕ). rest_start k rest) end ∙ start_among (length before) content 1 p (inside 0 content n) owed (length (bytes_of rest)) at in
    ap (λ (x : End). end_after x (length (left_bytes rest))) start
    ∙ to_end content (bytes_of rest) (length before) p (inside 0 content n) owed at ∙ ap (λ (k : ℕ). end_at k 0) (sym end)

-- ---- the ending that is next in a content

pub record IsAtLineEnd (line : List ℕ) (others : List BlockLine) : Type 0 where
  pub line_is : line ≡ []
  pub next : BlockLine
  pub more : List BlockLine
  pub others_are : others ≡ next ∷ more

first_ends : (ending : LineEnding) (content : List ℕ) (x : ℕ) (xs : List ℕ) → ending_bytes ending ++ content ≡ x ∷ xs → ends_line x ≡ true
first_ends LineFeed content x xs is = let byte : x ≡ 10 = cc in ap ends_line byte
first_ends CarriageReturn content x xs is = let byte : x ≡ 13 = cc in ap ends_line byte
first_ends CarriageReturnLineFeed content x xs is = let byte : x ≡ 13 = cc in ap ends_line byte

not_empty : (ending : LineEnding) (content : List ℕ) → ending_bytes ending ++ content ≡ [] → ⊥
not_empty LineFeed content is = absurd (cc)
not_empty CarriageReturn content is = absurd (cc)
not_empty CarriageReturnLineFeed content is = absurd (cc)

-- where an ending is next in a content, its line is at its end, and another follows
pub at_line_end : (line : List ℕ) (found : Option LineEnding) (others : List BlockLine) (ending : LineEnding) (content : List ℕ)
    → ending_bytes ending ++ content ≡ content_from line found others → list_any ends_line line ≡ false → IsAtLineEnd line others
at_line_end (x ∷ xs) found others ending content is dark =
    let parts = or_parts (ends_line x) (list_any ends_line xs) dark in
    let first = first_ends ending content x (xs ++ tail_from found others) (is ∙ line_and_tail (x ∷ xs) found others) in
    absurd (true≢false (sym first ∙ parts.0))
at_line_end [] found [] ending content is dark = absurd (not_empty ending content is)
at_line_end [] found (next ∷ more) ending content is dark = record { line_is = refl; next = next; more = more; others_are = refl }

first_is : (xs ys : List ℕ) → xs ≡ ys → get_or xs 0 0 ≡ get_or ys 0 0
first_is xs ys is = ap (λ (l : List ℕ). get_or l 0 0) is

not_feed : (content more : List ℕ) → content ≡ 10 ∷ more → IsApart CarriageReturn content → ⊥
not_feed content more feed apart =
    let codes : content_codes (13 ∷ 10 ∷ more) ≡ 13 ∷ content_codes (10 ∷ more) = subst (IsApart CarriageReturn) feed apart in
    let no : 257 ≡ 13 = first_is (content_codes (13 ∷ 10 ∷ more)) (13 ∷ content_codes (10 ∷ more)) codes in
    absurd (omega (arith, no))

-- the two endings are the same
pub same_ending : (found ending : LineEnding) (content more : List ℕ) → ending_bytes ending ++ content ≡ ending_bytes found ++ more
    → ((bs : List ℕ) → more ≡ 10 ∷ bs → ⊥) → IsApart ending content → (Some found ≡ Some ending) × (content ≡ more)
same_ending LineFeed LineFeed content more is other apart = (refl, ap (drop 1) is)
same_ending CarriageReturn LineFeed content more is other apart = absurd (omega (arith, first_is (10 ∷ content) (13 ∷ more) is))
same_ending CarriageReturnLineFeed LineFeed content more is other apart = absurd (omega (arith, first_is (10 ∷ content) (13 ∷ 10 ∷ more) is))
same_ending LineFeed CarriageReturn content more is other apart = absurd (omega (arith, first_is (13 ∷ content) (10 ∷ more) is))
same_ending CarriageReturn CarriageReturn content more is other apart = (refl, ap (drop 1) is)
same_ending CarriageReturnLineFeed CarriageReturn content more is other apart = absurd (not_feed content more (ap (drop 1) is) apart)
same_ending LineFeed CarriageReturnLineFeed content more is other apart = absurd (omega (arith, first_is (13 ∷ 10 ∷ content) (10 ∷ more) is))
same_ending CarriageReturn CarriageReturnLineFeed content more is other apart = absurd (other content (sym (ap (drop 1) is)))
same_ending CarriageReturnLineFeed CarriageReturnLineFeed content more is other apart = (refl, ap (drop 2) is)

-- the line on which the next line of a content is
pub record IsNextTaken (on : Constructs) (containers : List Container) (next : BlockLine) (more : List BlockLine) (left : List LineRest)
    (to : Place) : Type 0 where
  pub first : LineRest
  pub others : List LineRest
  pub left_is : left ≡ first ∷ others
  pub line : IsRestLine (prefixed on containers first) next
  pub taken : AreTaken on containers IsRestLine more (Between others) to

pub next_taken : (on : Constructs) (containers : List Container) (next : BlockLine) (more : List BlockLine) (left : List LineRest) (to : Place)
    → AreTaken on containers IsRestLine (next ∷ more) (Between left) to → IsNextTaken on containers next more left to
next_taken on containers next more [] to taken = absurd taken.2
next_taken on containers next more (first ∷ others) to taken = record {
  first = first;
  others = others;
  left_is = refl;
  line = subst (λ (p : Prefixed). IsRestLine p next) (sym taken.2.0) taken.3;
  taken = subst (λ (ls : List LineRest). AreTaken on containers IsRestLine more (Between ls) to) (sym taken.2.1) taken.4;
}

-- ---- the text of an ending and of what is before the next line

white_gone : (xs : List ℕ) → list_all is_white xs ≡ true → IsSameText true [] xs
white_gone [] h = record { same = refl; end = refl }
white_gone (x ∷ xs) h =
    let parts = and_parts (is_white x) (list_all is_white xs) h in
    let more = white_gone xs parts.1 in
    let still : (is_eol x || (true && is_white x)) ≡ true =
    ap (λ (b : Bool). is_eol x || b) parts.0 ∙ or-true (is_eol x) in
    record {
      same = more.same ∙ sym (cond-true (true && is_white x) _ _ parts.0);
      end = more.end ∙ ap (λ (b : Bool). ends_at_start b xs) (sym still);
    }

pub ending_starts : (start : Bool) (ending : LineEnding) → ends_at_start start (ending_bytes ending) ≡ true
ending_starts start LineFeed = refl
ending_starts start CarriageReturn = refl
ending_starts start CarriageReturnLineFeed = refl

-- an ending, and spaces and tabs on the next line
pub ending_text_is : (start : Bool) (ending : LineEnding) (white : List ℕ) → list_all is_white white ≡ true
    → IsSameText start (ending_bytes ending) (ending_bytes ending ++ white)
ending_text_is start ending white h =
    let bytes = ending_bytes ending in
    let gone = subst (λ (b : Bool). IsSameText b [] white) (sym (ending_starts start ending)) (white_gone white h) in
    subst (λ (xs : List ℕ). IsSameText start xs (bytes ++ white)) (append-nil-list bytes)
    (same_both start bytes [] bytes white (same_self start bytes) gone)
