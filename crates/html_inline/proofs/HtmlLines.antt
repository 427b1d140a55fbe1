-- Raw HTML, line by line.
use Rattle.std.proofs.Common.{◌≡◌, ◌&&◌, ◌||◌, ℕ, zero, suc, ◌+◌, ◌<◌, ◌≤◌, List, [], ◌∷◌, ◌++◌, Bool, true, false, not, cond, eqb, refl, sym, ap, ◌∙◌, get_or}
use Rattle.std.proofs.Common.{length, drop, take, arith, inl, inr, append_assoc}
use Rattle.html_inline.proofs.Prelude.{append-nil, bare, begins_with_eol, cases_Bool, CompileOptions, cond-false, cond-true, content_codes, ends, eqb-true}
use Rattle.html_inline.proofs.Prelude.{first_bytes, flat_map, flat_map-append, html_lines, HtmlLine, indent, is_eol, is_in_line, is_white, later_bytes}
use Rattle.html_inline.proofs.Prelude.{length-drop, line_ending_code, LineEnding, ne_eqb, or_cases, prefix_len, PrintsEnding, raw_bytes, said_bytes, say_bytes}
use Rattle.html_inline.proofs.Prelude.{true≢false}
use Rattle.std.proofs.lemmas.Bool.{not_from_false}
use Rattle.markdown_options.specs.declared.line_ending.LineEnding.TheVariants.{CarriageReturnLineFeed, CarriageReturn, LineFeed}
use Rattle.markdown_options.specs.LineEndings.{ending_bytes}
use Rattle.markdown_compile_options.specs.RawHtml.{keeps_listed_html}
use Rattle.definition_text.specs.Columns.{bytes_of, is_byte}
use Rattle.definition_page.specs.InlinePieces.{html_text_line, in_first_line, later_line_says, html_line_says, html_lines_say}
use Rattle.definition_inline.specs.Strings.{eol_bytes}
use Rattle.definition_page.specs.GfmTagfilter.{filter_tags}
use Rattle.definition_page.specs.Tags.{AsItIs, Marked, Words}
use Rattle.inline_leaves.proofs.Endings.{ending_is_eol}
use Rattle.html_inline.specs.HtmlBytes.{goes_on}
use Rattle.html_heading_text.proofs.InLine.{in_line_eol, line_codes, line_left}
use Rattle.html_inline.proofs.KeptText.{AreBytes, bare_white}

pub ending_text : (ending : LineEnding) → eol_bytes (line_ending_code ending) ≡ ending_bytes ending
ending_text LineFeed = refl
ending_text CarriageReturn = refl
ending_text CarriageReturnLineFeed = refl

-- bytes are codes of themselves
own_bytes : (xs : List ℕ) → AreBytes xs → bytes_of xs ≡ xs
own_bytes [] bytes = refl
own_bytes (x ∷ xs) bytes =
    let byte : x < 256 = bytes zero in
    cond-true (is_byte x) _ _ (not_from_false (eqb x 256) (ne_eqb x 256 (λ e. omega arith))) ∙ ap (λ s. x ∷ s) (own_bytes xs (λ k. bytes (suc k)))

-- ---- the first line

-- what the lines are where the first n bytes stand before an ending
lines_front : (n : ℕ) (xs : List ℕ) (code : ℕ) (rest : List ℕ) → AreBytes xs → n ≤ prefix_len is_in_line xs → is_eol code ≡ true
    → html_lines (take n xs ++ code ∷ rest) ≡ html_text_line (take n xs) (code ∷ []) ∷ html_lines rest
lines_front zero xs code rest bytes le eol = cond-true (is_eol code) _ _ eol
lines_front (suc n) [] code rest bytes le eol = cond-true (is_eol code) _ _ eol
lines_front (suc n) (x ∷ xs) code rest bytes le eol = elim (cases_Bool (is_in_line x)) [
  | inl h ↦
      let more : prefix_len is_in_line (x ∷ xs) ≡ 1 + prefix_len is_in_line xs = cond-true (is_in_line x) _ _ h in
      cond-false (is_eol x) _ _ (in_line_eol x (bytes zero) h)
      ∙ ap (in_first_line x) (lines_front n xs code rest (λ k. bytes (suc k)) (omega arith) eol)
  | inr h ↦ let none : prefix_len is_in_line (x ∷ xs) ≡ 0 = cond-false (is_in_line x) _ _ h in absurd (omega arith)
]

-- one line without an ending, or none
alone : List ℕ → List HtmlLine
alone [] = []
alone (x ∷ xs) = html_text_line (x ∷ xs) [] ∷ []

lines_alone : (n : ℕ) (xs : List ℕ) → AreBytes xs → n ≤ prefix_len is_in_line xs → html_lines (take n xs) ≡ alone (take n xs)
unfolding alone
lines_alone zero xs bytes le = refl
lines_alone (suc n) [] bytes le = refl
lines_alone (suc n) (x ∷ xs) bytes le = elim (cases_Bool (is_in_line x)) [
  | inl h ↦
      let more : prefix_len is_in_line (x ∷ xs) ≡ 1 + prefix_len is_in_line xs = cond-true (is_in_line x) _ _ h in
      cond-false (is_eol x) _ _ (in_line_eol x (bytes zero) h)
      ∙ ap (in_first_line x) (lines_alone n xs (λ k. bytes (suc k)) (omega arith))
      ∙ joined x (take n xs)
  | inr h ↦ let none : prefix_len is_in_line (x ∷ xs) ≡ 0 = cond-false (is_in_line x) _ _ h in absurd (omega arith)
]
  where
    joined : (x : ℕ) (ys : List ℕ) → in_first_line x (alone ys) ≡ html_text_line (x ∷ ys) [] ∷ []
    joined x [] = refl
    joined x (y ∷ ys) = refl

alone_left : (ys : List ℕ) → drop 1 (alone ys) ≡ []
unfolding alone
alone_left [] = refl
alone_left (y ∷ ys) = refl

bytes_more : (x : ℕ) (xs : List ℕ) → x < 256 → AreBytes xs → AreBytes (x ∷ xs)
bytes_more x xs byte bytes = λ k. at k
  where
    at : (k : ℕ) → get_or (x ∷ xs) k 0 < 256
    at zero = byte
    at (suc k) = bytes k

taken_bytes : (n : ℕ) (xs : List ℕ) → AreBytes xs → AreBytes (take n xs)
taken_bytes zero xs bytes = λ k. omega arith
taken_bytes (suc n) [] bytes = bytes
taken_bytes (suc n) (x ∷ xs) bytes = bytes_more x (take n xs) (bytes zero) (taken_bytes n xs (λ k. bytes (suc k)))

-- the lines that are left are fewer bytes
pub line_shorter : (xs rest before after : List ℕ) (n : ℕ) → n ≡ prefix_len is_in_line xs → PrintsEnding (drop n xs) rest before after
    → (length rest ≤ length xs) × (0 < length xs → length rest < length xs)
line_shorter xs rest before after n size (ends e printed) =
    (omega (arith, e.shorter, length-drop n xs), λ some. omega (arith, e.shorter, length-drop n xs))
line_shorter xs rest before after n size (goes_on none same kept) =
    let left : drop n xs ≡ [] = ap (λ k. drop k xs) size ∙ line_left xs (ap (λ k. begins_with_eol (content_codes (drop k xs))) (sym size) ∙ none) in
    let nothing : length rest ≡ 0 = ap length (same ∙ left) in
    (omega (arith, nothing), λ some. omega (arith, nothing))

other_bare : (c : ℕ) (cs : List ℕ) → is_white c ≡ false → bare (c ∷ cs) ≡ c ∷ cs
other_bare c cs h = ap (λ n. drop n (c ∷ cs)) (cond-false (is_white c) (1 + indent cs) 0 h)

white_eol : (c : ℕ) → is_eol c ≡ true → is_white c ≡ false
white_eol c h = elim (or_cases (eqb c 10 || eqb c 13) (eqb c 257) h) [
  | inl e ↦ elim (or_cases (eqb c 10) (eqb c 13) e) [
    | inl f ↦ ap is_white (eqb-true c 10 f)
    | inr f ↦ ap is_white (eqb-true c 13 f)
  ]
  | inr e ↦ ap is_white (eqb-true c 257 e)
]

-- ---- what lines print, in the description of an image or not

module _ (described : Bool) (options : CompileOptions) where
  raw_nothing : raw_bytes described options [] ≡ []
  raw_nothing = by_case (keeps_listed_html options && not described) options.allow_dangerous_html options.gfm_tagfilter
    where
      by_case : (k t u : Bool) → said_bytes (cond k (Marked []) (cond t (AsItIs (cond u (filter_tags []) [])) (Words []))) ≡ []
      by_case true t u = refl
      by_case false true true = refl
      by_case false true false = refl
      by_case false false u = refl

  alone_bytes : (ys : List ℕ) → bytes_of ys ≡ ys → first_bytes described options (alone ys) ≡ raw_bytes described options ys
  unfolding alone
  alone_bytes [] e = sym raw_nothing
  alone_bytes (y ∷ ys) e = append-nil (raw_bytes described options (bytes_of (y ∷ ys))) ∙ ap (raw_bytes described options) e

  -- what is printed for the first line of a text, and the lines that are left
  pub line_printed : (xs rest before middle after : List ℕ) (n : ℕ) → AreBytes xs → n ≡ prefix_len is_in_line xs
      → middle ≡ before ++ raw_bytes described options (take n xs) → PrintsEnding (drop n xs) rest middle after
      → (after ≡ before ++ first_bytes described options (html_lines (content_codes xs)))
      × (html_lines (content_codes rest) ≡ drop 1 (html_lines (content_codes xs)))
  line_printed xs rest before middle after n bytes size front (ends e printed) =
      let line = take n xs in
      let own = own_bytes line (taken_bytes n xs bytes) in
      let code = line_ending_code e.ending in
      let codes : content_codes xs ≡ line ++ code ∷ content_codes rest = line_codes n xs (omega arith) ∙ ap (λ c. line ++ c) e.codes in
      let lines : html_lines (content_codes xs) ≡ html_text_line line (code ∷ []) ∷ html_lines (content_codes rest) =
      ap html_lines codes ∙ lines_front n xs code (content_codes rest) bytes (omega arith) (ending_is_eol e.ending) in (
        printed ∙ ap (λ s. s ++ ending_bytes e.ending) front ∙ append_assoc before (raw_bytes described options line) (ending_bytes e.ending)
            ∙ ap (λ s. before ++ (raw_bytes described options s ++ ending_bytes e.ending)) (sym own)
            ∙ ap (λ s. before ++ (raw_bytes described options (bytes_of line) ++ s)) (sym (append-nil (eol_bytes code) ∙ ending_text e.ending))
            ∙ ap (λ ls. before ++ first_bytes described options ls) (sym lines),
        ap (drop 1) (sym lines),
      )
  line_printed xs rest before middle after n bytes size front (goes_on none same kept) =
      let line = take n xs in
      let own = own_bytes line (taken_bytes n xs bytes) in
      let left : drop n xs ≡ [] = ap (λ k. drop k xs) size ∙ line_left xs (ap (λ k. begins_with_eol (content_codes (drop k xs))) (sym size) ∙ none) in
      let codes : content_codes xs ≡ line = line_codes n xs (omega arith) ∙ ap (λ c. line ++ content_codes c) left ∙ append-nil line in
      let lines : html_lines (content_codes xs) ≡ alone line = ap html_lines codes ∙ lines_alone n xs bytes (omega arith) in (
        kept ∙ front ∙ ap (λ s. before ++ s) (sym (alone_bytes line own)) ∙ ap (λ ls. before ++ first_bytes described options ls) (sym lines),
        ap (λ c. html_lines (content_codes c)) (same ∙ left) ∙ sym (ap (drop 1) lines ∙ alone_left line),
      )

  -- ---- later lines

  abbrev later : List HtmlLine → List ℕ
  later ls = flat_map (later_bytes described options) ls

  later_said : (ls : List HtmlLine) → say_bytes (flat_map (later_line_says described options) ls) ≡ later ls
  later_said [] = refl
  later_said (l ∷ ls) =
      flat_map-append said_bytes (later_line_says described options l) (flat_map (later_line_says described options) ls)
      ∙ ap (λ x. later_bytes described options l ++ x) (later_said ls)

  pub lines_printed : (ls : List HtmlLine) → say_bytes (html_lines_say described options ls) ≡ first_bytes described options ls ++ later (drop 1 ls)
  lines_printed [] = refl
  lines_printed (l ∷ others) =
      flat_map-append said_bytes (html_line_says described options l.line l.ending) (flat_map (later_line_says described options) others)
      ∙ ap (λ x. say_bytes (html_line_says described options l.line l.ending) ++ x) (later_said others)

  white_later : (c : ℕ) (ls : List HtmlLine) → is_white c ≡ true → later (in_first_line c ls) ≡ later ls
  white_later c [] h = append-nil _ ∙ append-nil _ ∙ ap (λ s. raw_bytes described options (bytes_of s)) (bare_white c [] h) ∙ raw_nothing
  white_later c (l ∷ others) h = ap (λ s. say_bytes (html_line_says described options s l.ending) ++ later others) (bare_white c l.line h)

  other_later : (c : ℕ) (ls : List HtmlLine) → is_white c ≡ false
      → later (in_first_line c ls) ≡ first_bytes described options (in_first_line c ls) ++ later (drop 1 (in_first_line c ls))
  other_later c [] h = ap (λ s. say_bytes (html_line_says described options s []) ++ []) (other_bare c [] h)
  other_later c (l ∷ others) h = ap (λ s. say_bytes (html_line_says described options s l.ending) ++ later others) (other_bare c l.line h)

  -- later lines, the first of which is printed without the spaces and tabs at its start
  pub later_printed : (cs : List ℕ) → later (html_lines cs) ≡ first_bytes described options (html_lines (bare cs)) ++ later (drop 1 (html_lines (bare cs)))
  later_printed [] = refl
  later_printed (c ∷ cs) = elim (cases_Bool (is_white c)) [
    | inl h ↦
        ap later (cond-false (is_eol c) _ _ (eol_white c h)) ∙ white_later c (html_lines cs) h ∙ later_printed cs
        ∙ ap (λ s. first_bytes described options (html_lines s) ++ later (drop 1 (html_lines s))) (sym (bare_white c cs h))
    | inr h ↦
        elim (cases_Bool (is_eol c)) [
          | inl e ↦
              ap later (cond-true (is_eol c) _ _ e)
              ∙ ap (λ ls. first_bytes described options ls ++ later (drop 1 ls)) (sym
              (cond-true (is_eol c) (html_text_line [] (c ∷ []) ∷ html_lines cs) (in_first_line c (html_lines cs)) e))
          | inr e ↦
              ap later (cond-false (is_eol c) _ _ e) ∙ other_later c (html_lines cs) h
              ∙ ap (λ ls. first_bytes described options ls ++ later (drop 1 ls)) (sym
              (cond-false (is_eol c) (html_text_line [] (c ∷ []) ∷ html_lines cs) (in_first_line c (html_lines cs)) e))
        ]
        ∙ ap (λ s. first_bytes described options (html_lines s) ++ later (drop 1 (html_lines s))) (sym (other_bare c cs h))
  ]
    where
      eol_white : (c : ℕ) → is_white c ≡ true → is_eol c ≡ false
      eol_white c h = elim (cases_Bool (is_eol c)) [
        | inl e ↦ absurd (true≢false (sym h ∙ white_eol c e))
        | inr e ↦ e
      ]
