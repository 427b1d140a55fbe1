-- An escaped line prints itself as text.
use Rattle.std.proofs.Common.{inl, inr, ◌≡◌, ◌+◌, ◌<◌, ℕ, Bool, true, false, cond, not, ◌&&◌, ◌||◌, List, [], ◌∷◌, ◌++◌, map, Option, None, Some, refl, sym, ap}
use Rattle.std.proofs.Common.{◌∙◌, length, get_or, drop, arith, subst, append_assoc}
use Rattle.laws_escape.proofs.Prelude.{and_parts, append-nil, bare, begins_with, both_ways, cases_Bool, codes, codes_of, CompileOptions, cond-false, cond-true}
use Rattle.laws_escape.proofs.Prelude.{cond_both, Cons, Constructs, Data, encode, encoded_byte, ends_here, eqb-true, Escape, escape_at, flat_map, Found}
use Rattle.laws_escape.proofs.Prelude.{has_calls, indent, inline_html, InlineCode, InlineContext, InlineLeaf, inlines, is_ascii_punctuation, is_eol}
use Rattle.laws_escape.proofs.Prelude.{is_line_byte, is_white, IsTrimmedLine, Item, leaf, leaf_at, leaf_here, leaf_html, line_end_at, line_spaces_at, list_all}
use Rattle.laws_escape.proofs.Prelude.{map-append, nat_le, nat_lt, ne_eqb, Next, not-true, or_else, or_from, or_parts, parts_before, prefix_len, read_tokens}
use Rattle.laws_escape.proofs.Prelude.{reading, Reading, reference_at, run, scan, text, Token, whole_text, with_backslashes, with_spans, ◌==◌}
use Rattle.std.specs.Char.{to_ascii_lowercase}
use Rattle.std.proofs.lemmas.Bool.{ltb-false}
use Rattle.std.proofs.lemmas.Grind.{common_steps}
use Rattle.definition_inline.specs.Inline.{Leaf}
use Rattle.definition_inline.specs.CharacterReference.{reference_after, reference_form, reference_of}
use Rattle.definition_inline.specs.CodeText.{raw_at, code_text_at}
use Rattle.definition_inline.specs.MathText.{may_open_math, math_text_at}
use Rattle.definition_inline.specs.Autolink.{autolink_at}
use Rattle.definition_inline.specs.HtmlText.{html_text_at}
use Rattle.definition_inline.specs.HardBreak.{ends_inner_line, escaped_break_at}
use Rattle.definition_inline.specs.Attention.{is_marker, run_at}
use Rattle.definition_inline.specs.GfmAutolinkLiteral.{begins_caselessly, parts_from, with_literals, linked_literals}
use Rattle.definition_inline.specs.GfmLabelStartFootnote.{starts_call}
use Rattle.definition_inline.proofs.GfmAutolinkLiteral.{HasNoStart, no_literal}
use Rattle.definition_inline.proofs.Markers.{of_marker}
use Rattle.definition_inline.specs.Scan.{starts_image, starts_link, label_start_at}
use Rattle.definition_inline.specs.Scan.{data_step, label_end_step, step}
use Rattle.definition_inline.proofs.Scanning.{scan_step, step_leaf, step_last}
use Rattle.laws_escape.proofs.InlineParts.{read_nothing, white_codes, items, leaves, leaves_alone, html_of_leaves, html_of_data, leaves_call_nothing}
use Rattle.laws_escape.proofs.PlainText.{and_no, bare_white, bare_other}
use Rattle.laws_escape.specs.Escaped.{begins_with_space, ends_with_space, EscapeLaw}
use Rattle.definition_text.proofs.Each.{Each, each-append}

-- ---- a byte that isn't ASCII punctuation begins nothing

pub no_and : (x y : Bool) → x ≡ false → (x && y) ≡ false
no_and x y e = ap (λ b. b && y) e

pub other : (b x : ℕ) → is_ascii_punctuation b ≡ false → is_ascii_punctuation x ≡ true → (b == x) ≡ false
other b x off on =
    elim (cases_Bool (b == x)) [
      | inl e ↦ absurd (both_ways (is_ascii_punctuation b) off (ap is_ascii_punctuation (eqb-true b x e) ∙ on))
      | inr e ↦ e
    ]

other_way : (b x : ℕ) → is_ascii_punctuation b ≡ false → is_ascii_punctuation x ≡ true → (x == b) ≡ false
other_way b x off on =
    elim (cases_Bool (x == b)) [
      | inl e ↦ absurd (both_ways (is_ascii_punctuation b) off (ap is_ascii_punctuation (sym (eqb-true x b e)) ∙ on))
      | inr e ↦ e
    ]

pub line_byte : (b : ℕ) → is_line_byte b ≡ true → ((b == 9) ≡ false) × (is_eol b ≡ false)
line_byte b h =
    let none : ((b == 9) || is_eol b) ≡ false = not-true _ (and_parts (nat_lt b 256) (not ((b == 9) || is_eol b)) h).1 in
    or_parts (b == 9) (is_eol b) none

pub no_column : (b : ℕ) → is_line_byte b ≡ true → (b == 256) ≡ false
no_column b h = grind (arith, common_steps)

pub or_none : (a b : Option Found) → a ≡ None → b ≡ None → or_else a b ≡ None
or_none a b e f = ap (λ x. or_else x b) e ∙ f

pub or_first : (a b : Option Found) (l : Found) → a ≡ Some l → or_else a b ≡ Some l
or_first a b l e = ap (λ x. or_else x b) e

module _ (on : Constructs) (b : ℕ) (off : is_ascii_punctuation b ≡ false) where
  pub no_escape : (rest : List ℕ) → escape_at on (b ∷ rest) ≡ None
  no_escape [] = refl
  no_escape (next ∷ rest) =
      cond-false _ _ _ (and_no on.character_escape _ (no_and (b == 92) (is_ascii_punctuation next) (other b 92 off refl)))

  pub no_reference : (names : List ℕ → Option (List ℕ)) (rest : List ℕ) → reference_at on names (b ∷ rest) ≡ None
  no_reference names rest =
      let none : reference_form (b ∷ rest) ≡ None = cond-false (b == 38) (reference_after rest) None (other b 38 off refl) in
      ap (λ o. cond on.character_reference (reference_of names (b ∷ rest) o) None) none
      ∙ cond_both on.character_reference None None (λ o. o ≡ None) (λ _. refl) (λ _. refl)

module _ (context : InlineContext) (b : ℕ) (off : is_ascii_punctuation b ≡ false) (line : is_line_byte b ≡ true) where
  abbrev constructs : Constructs
  constructs = context.options.constructs

  no_break : (rest : List ℕ) → escaped_break_at constructs (b ∷ rest) ≡ None
  no_break rest = cond-false _ _ _ (and_no constructs.hard_break_escape _ (no_and (b == 92) (ends_inner_line rest) (other b 92 off refl)))

  no_raw : (marker : ℕ) (may_open : Bool) (rest : List ℕ) → is_ascii_punctuation marker ≡ true → raw_at marker may_open (b ∷ rest) ≡ None
  no_raw marker may_open rest on =
      let none : run marker (b ∷ rest) ≡ 0 = cond-false (b == marker) _ 0 (other b marker off on) in
      cond-false _ _ _ (and_no may_open (not (run marker (b ∷ rest) == 0)) (ap (λ n. not (n == 0)) none))

  no_code : (rest : List ℕ) → code_text_at constructs (b ∷ rest) ≡ None
  no_code rest = no_raw 96 constructs.code_text rest refl

  no_math : (rest : List ℕ) → math_text_at context.options (b ∷ rest) ≡ None
  no_math rest = no_raw 36 (may_open_math context.options (run 36 (b ∷ rest))) rest refl

  no_angle : (rest : List ℕ) → begins_with (codes "<") (b ∷ rest) ≡ false
  no_angle rest = no_and (60 == b) _ (other_way b 60 off refl)

  no_autolink : (rest : List ℕ) → autolink_at constructs (b ∷ rest) ≡ None
  no_autolink rest = cond-false _ _ _ (and_no constructs.autolink (begins_with (codes "<") (b ∷ rest)) (no_angle rest))

  no_html : (rest : List ℕ) → html_text_at constructs (b ∷ rest) ≡ None
  no_html rest = cond-false _ _ _ (and_no constructs.html_text (begins_with (codes "<") (b ∷ rest)) (no_angle rest))

  no_line_end : (rest : List ℕ) → line_end_at (b ∷ rest) ≡ None
  no_line_end rest = cond-false _ _ _ (line_byte b line).1

  no_spaces : (rest : List ℕ) → (is_white b ≡ true → ends_here (bare (b ∷ rest)) ≡ false) → line_spaces_at constructs (b ∷ rest) ≡ None
  no_spaces rest goes_on =
      elim (cases_Bool (is_white b)) [
        | inl white ↦ cond-false _ _ _ (and_no (nat_le 1 (indent (b ∷ rest))) (ends_here (bare (b ∷ rest))) (goes_on white))
        | inr not_white ↦
            let none : indent (b ∷ rest) ≡ 0 = cond-false (is_white b) _ 0 not_white in
            cond-false _ _ _ (no_and (nat_le 1 (indent (b ∷ rest))) (ends_here (bare (b ∷ rest))) (ap (nat_le 1) none))
      ]

  no_leaf : (rest : List ℕ) → (is_white b ≡ true → ends_here (bare (b ∷ rest)) ≡ false) → leaf_at context (b ∷ rest) ≡ None
  no_leaf rest goes_on =
      or_none (escape_at constructs (b ∷ rest)) _ (no_escape constructs b off rest)
      (or_none (escaped_break_at constructs (b ∷ rest)) _ (no_break rest)
      (or_none (reference_at constructs context.names (b ∷ rest)) _ (no_reference constructs b off context.names rest)
      (or_none (code_text_at constructs (b ∷ rest)) _ (no_code rest)
      (or_none (math_text_at context.options (b ∷ rest)) _ (no_math rest)
      (or_none (autolink_at constructs (b ∷ rest)) _ (no_autolink rest)
      (or_none (html_text_at constructs (b ∷ rest)) _ (no_html rest)
      (or_none (line_end_at (b ∷ rest)) _ (no_line_end rest) (no_spaces rest goes_on))))))))

  no_marker : is_marker context.options b ≡ false
  no_marker =
      elim (cases_Bool (is_marker context.options b)) [
        | inl marks ↦
            let on : is_ascii_punctuation b ≡ true =
            of_marker context.options (λ code. is_ascii_punctuation code ≡ true) (λ _. refl) (λ _. refl) (λ _. refl) (λ _. refl) b marks in
            absurd (both_ways (is_ascii_punctuation b) off on)
        | inr none ↦ none
      ]

  no_run : (c : InlineCode) (cs : List InlineCode) → c.code ≡ b → run_at context.options (c ∷ cs) ≡ None
  no_run c cs is = cond-false _ _ _ (ap (is_marker context.options) is ∙ no_marker)

  no_start : (rest : List ℕ) → label_start_at constructs (b ∷ rest) ≡ None
  no_start rest =
      let image = begins_with (codes "![") (b ∷ rest) in
      let bracket = begins_with (codes "[") (b ∷ rest) in
      let no_image : starts_image constructs (b ∷ rest) ≡ false =
      no_and (constructs.label_start_image && image) _ (and_no constructs.label_start_image image (no_and (33 == b) _ (other_way b 33 off refl))) in
      let no_call : starts_call constructs (b ∷ rest) ≡ false =
      and_no constructs.gfm_label_start_footnote (begins_with (codes "[^") (b ∷ rest)) (no_and (91 == b) _ (other_way b 91 off refl)) in
      let no_link : starts_link constructs (b ∷ rest) ≡ false =
      or_from (constructs.label_start_link && bracket) (starts_call constructs (b ∷ rest))
      (and_no constructs.label_start_link bracket (no_and (91 == b) _ (other_way b 91 off refl))) no_call in
      cond-false (starts_image constructs (b ∷ rest)) _ _ no_image ∙ cond-false (starts_link constructs (b ∷ rest)) _ _ no_link

-- ---- spaces in an escaped line

pub escaped_punctuation : (b : ℕ) (bs : List ℕ) → is_ascii_punctuation b ≡ true → with_backslashes (b ∷ bs) ≡ 92 ∷ b ∷ with_backslashes bs
escaped_punctuation b bs on = ap (λ xs. xs ++ with_backslashes bs) (cond-true (is_ascii_punctuation b) (92 ∷ b ∷ []) (b ∷ []) on)

pub escaped_other : (b : ℕ) (bs : List ℕ) → is_ascii_punctuation b ≡ false → with_backslashes (b ∷ bs) ≡ b ∷ with_backslashes bs
escaped_other b bs off = ap (λ xs. xs ++ with_backslashes bs) (cond-false (is_ascii_punctuation b) (92 ∷ b ∷ []) (b ∷ []) off)

-- what is no space is no white space
pub not_white : (b : ℕ) → is_line_byte b ≡ true → (b == 32) ≡ false → is_white b ≡ false
not_white b line first = or_from ((b == 32) || (b == 9)) (b == 256) (or_from (b == 32) (b == 9) first (line_byte b line).0) (no_column b line)

white_is_space : (b : ℕ) → is_line_byte b ≡ true → is_white b ≡ true → (b == 32) ≡ true
white_is_space b line white =
    elim (cases_Bool (b == 32)) [
      | inl e ↦ e
      | inr other_byte ↦ absurd (both_ways (is_white b) (not_white b line other_byte) white)
    ]

-- after spaces something else follows
goes_on_from : (b : ℕ) (bs : List ℕ) → is_line_byte b ≡ true → (is_white b ≡ true → ends_here (bare (with_backslashes bs)) ≡ false)
    → ends_here (bare (with_backslashes (b ∷ bs))) ≡ false
goes_on_from b bs line after =
    elim (cases_Bool (is_ascii_punctuation b)) [
      | inl on ↦ ap (λ xs. ends_here (bare xs)) (escaped_punctuation b bs on)
      | inr off ↦
          elim (cases_Bool (is_white b)) [
            | inl white ↦ ap (λ xs. ends_here (bare xs)) (escaped_other b bs off) ∙ ap ends_here (bare_white b (with_backslashes bs) white) ∙ after white
            | inr not_white ↦
                ap (λ xs. ends_here (bare xs)) (escaped_other b bs off) ∙ ap ends_here (bare_other b (with_backslashes bs) not_white) ∙ (line_byte b line).1
          ]
    ]

goes_on : (b : ℕ) (bs : List ℕ) → list_all is_line_byte (b ∷ bs) ≡ true → ends_with_space (b ∷ bs) ≡ false
    → ends_here (bare (with_backslashes (b ∷ bs))) ≡ false
goes_on b [] lines trimmed =
    let line = (and_parts (is_line_byte b) true lines).0 in
    goes_on_from b [] line (λ white. absurd (both_ways (b == 32) trimmed (white_is_space b line white)))
goes_on b (next ∷ bs) lines trimmed =
    let parts = and_parts (is_line_byte b) (list_all is_line_byte (next ∷ bs)) lines in
    goes_on_from b (next ∷ bs) parts.0 (λ white. goes_on next bs parts.1 trimmed)

-- ---- literals in an escaped line

-- a byte in lower case that is punctuation is that byte
punctuation_is : (b p : ℕ) → p < 65 → to_ascii_lowercase b ≡ p → b ≡ p
punctuation_is b p low =
    cond_both (nat_lt b 65) b (cond (nat_lt b 91) (b + 32) b) (λ l. l ≡ p → b ≡ p) (λ _ e. e)
    (λ high. cond_both (nat_lt b 91) (b + 32) b (λ l. l ≡ p → b ≡ p) (λ _ e. absurd (omega (arith, e, low, ltb-false b 65 high))) (λ _ e. e))

-- letters and then punctuation don't come first in an escaped text, since a backslash stands before punctuation
no_text_escaped : (letters : List ℕ) (p : ℕ) (more bs : List ℕ) → list_all (λ l. not (to_ascii_lowercase l == 92)) letters ≡ true → p < 65
    → (to_ascii_lowercase p ≡ p) × (is_ascii_punctuation p ≡ true) → begins_caselessly (letters ++ p ∷ more) (with_backslashes bs) ≡ false
no_text_escaped [] p more [] apart low is = refl
no_text_escaped (l ∷ ls) p more [] apart low is = refl
no_text_escaped [] p more (b ∷ bs) apart low is = elim (cases_Bool (is_ascii_punctuation b)) [
  | inl on ↦
      ap (begins_caselessly (p ∷ more)) (escaped_punctuation b bs on)
      ∙ no_and (to_ascii_lowercase p == 92) _ (ne_eqb (to_ascii_lowercase p) 92 (λ e. omega (arith, e, is.0, low)))
  | inr off ↦
      ap (begins_caselessly (p ∷ more)) (escaped_other b bs off)
      ∙ no_and (to_ascii_lowercase p == to_ascii_lowercase b) _
      (ne_eqb (to_ascii_lowercase p) (to_ascii_lowercase b)
      (λ e. both_ways (is_ascii_punctuation b) off (ap is_ascii_punctuation (punctuation_is b p low (sym e ∙ is.0)) ∙ is.1)))
]
no_text_escaped (l ∷ ls) p more (b ∷ bs) apart low is =
    let others = and_parts (not (to_ascii_lowercase l == 92)) (list_all (λ l. not (to_ascii_lowercase l == 92)) ls) apart in
    elim (cases_Bool (is_ascii_punctuation b)) [
      | inl on ↦ ap (begins_caselessly (l ∷ ls ++ p ∷ more)) (escaped_punctuation b bs on) ∙ no_and (to_ascii_lowercase l == 92) _ (not-true _ others.0)
      | inr off ↦
          ap (begins_caselessly (l ∷ ls ++ p ∷ more)) (escaped_other b bs off)
          ∙ and_no (to_ascii_lowercase l == to_ascii_lowercase b) _ (no_text_escaped ls p more bs others.1 low is)
    ]

no_start_escaped : (bs : List ℕ) → HasNoStart (with_backslashes bs)
no_start_escaped bs = record {
  www = no_text_escaped (codes "www") 46 [] bs refl (omega arith) (refl, refl);
  http = no_text_escaped (codes "http") 58 (codes "//") bs refl (omega arith) (refl, refl);
  https = no_text_escaped (codes "https") 58 (codes "//") bs refl (omega arith) (refl, refl);
}

-- ---- the scan

part_of : ℕ → InlineLeaf
part_of b = cond (is_ascii_punctuation b) (Escape b) (Data b)

escape_part : (b : ℕ) → is_ascii_punctuation b ≡ true → part_of b ≡ Escape b
unfolding part_of
escape_part b on = cond-true _ _ _ on

data_part : (b : ℕ) → is_ascii_punctuation b ≡ false → part_of b ≡ Data b
unfolding part_of
data_part b off = cond-false _ _ _ off

abbrev tokens_of : List ℕ → List Token
tokens_of bytes = items (map part_of bytes)

read_more : (t : Token) (ts : List Token) (r : Reading) → read_tokens ts (read_tokens (t ∷ []) r) ≡ read_tokens (t ∷ ts) r
read_more t ts r = ap (λ us. reading (text us r.now.holds_link) r.open_labels) (append_assoc r.now.tokens (t ∷ []) ts)

module _ (context : InlineContext) (on : context.options.constructs.character_escape ≡ true) where
  escape_leaf : (b : ℕ) (rest : List ℕ) → is_ascii_punctuation b ≡ true → leaf_at context (92 ∷ b ∷ rest) ≡ Some (leaf (Escape b ∷ []) 2)
  escape_leaf b rest punctuation =
      let both : (context.options.constructs.character_escape && ((92 == 92) && is_ascii_punctuation b)) ≡ true =
      ap (λ x. x && is_ascii_punctuation b) on ∙ punctuation in
      let found : escape_at context.options.constructs (92 ∷ b ∷ rest) ≡ Some (leaf (Escape b ∷ []) 2) = cond-true _ _ _ both in
      or_first (escape_at context.options.constructs (92 ∷ b ∷ rest)) _ (leaf (Escape b ∷ []) 2) found

  data_place : (b : ℕ) (rest : List ℕ) (r : Reading) (c : InlineCode) (cs : List InlineCode) → is_ascii_punctuation b ≡ false → is_line_byte b ≡ true
      → (is_white b ≡ true → ends_here (bare (b ∷ rest)) ≡ false) → HasNoStart (b ∷ rest) → codes_of (c ∷ cs) ≡ b ∷ rest
      → step context r c cs ≡ Next 0 (read_tokens (Item (Leaf (Data b)) ∷ []) r)
  data_place b rest r c cs off line spaces start e =
      let is : c.code ≡ b = ap (λ xs. get_or xs 0 0) e in
      let no_label : (c.code == 93) ≡ false = ap (λ x. x == 93) is ∙ other b 93 off refl in
      let no_other : leaf_at context (codes_of (c ∷ cs)) ≡ None = ap (leaf_at context) e ∙ no_leaf context b off line rest spaces in
      let none : leaf_here context (c ∷ cs) ≡ None =
      or_none (leaf_at context (codes_of (c ∷ cs))) _ no_other (no_literal context.options.constructs (c ∷ cs) (subst HasNoStart (sym e) start)) in
      step_last context r c cs none (no_run context b off line c cs is)
      (ap (label_start_at context.options.constructs) e ∙ no_start context b off line rest)
      ∙ cond-false (context.options.constructs.label_end && (c.code == 93))
      (label_end_step context (codes_of (c ∷ cs)) r.now r.open_labels) (data_step c.code r)
      (and_no context.options.constructs.label_end (c.code == 93) no_label)
      ∙ ap (λ x. Next 0 (read_tokens (Item (Leaf (Data x)) ∷ []) r)) is

  scan_escaped : (bytes : List ℕ) (content : List InlineCode) (r : Reading) → list_all is_line_byte bytes ≡ true → ends_with_space bytes ≡ false
      → codes_of content ≡ with_backslashes bytes → scan context 0 r content ≡ read_tokens (tokens_of bytes) r
  scan_escaped [] [] r lines trimmed e = read_nothing r
  scan_escaped [] (c ∷ cs) r lines trimmed e = let n : length (codes_of (c ∷ cs)) ≡ 0 = ap length e in absurd (omega arith)
  scan_escaped (b ∷ bs) content r lines trimmed e =
      let parts = and_parts (is_line_byte b) (list_all is_line_byte bs) lines in
      elim (cases_Bool (is_ascii_punctuation b)) [
        | inl punctuation ↦
            escape_step b bs content r punctuation (e ∙ escaped_punctuation b bs punctuation)
            (λ rest same. scan_escaped bs rest (read_tokens (Item (Leaf (Escape b)) ∷ []) r) parts.1 (later_trimmed b bs trimmed) same)
        | inr off ↦
            other_step b bs content r off parts.0 (λ white. after_white b bs lines trimmed white) (e ∙ escaped_other b bs off)
            (λ rest same. scan_escaped bs rest (read_tokens (Item (Leaf (Data b)) ∷ []) r) parts.1 (later_trimmed b bs trimmed) same)
      ]
    where
      later_trimmed : (b : ℕ) (bs : List ℕ) → ends_with_space (b ∷ bs) ≡ false → ends_with_space bs ≡ false
      later_trimmed b [] h = refl
      later_trimmed b (next ∷ bs) h = h

      after_white : (b : ℕ) (bs : List ℕ) → list_all is_line_byte (b ∷ bs) ≡ true → ends_with_space (b ∷ bs) ≡ false → is_white b ≡ true
          → ends_here (bare (b ∷ with_backslashes bs)) ≡ false
      after_white b [] lines trimmed white =
          absurd (both_ways (b == 32) trimmed (white_is_space b (and_parts (is_line_byte b) true lines).0 white))
      after_white b (next ∷ bs) lines trimmed white =
          ap ends_here (bare_white b (with_backslashes (next ∷ bs)) white) ∙ goes_on next bs
          (and_parts (is_line_byte b) (list_all is_line_byte (next ∷ bs)) lines).1 trimmed

      escape_step : (b : ℕ) (bs : List ℕ) (content : List InlineCode) (r : Reading) → is_ascii_punctuation b ≡ true
          → codes_of content ≡ 92 ∷ b ∷ with_backslashes bs
          → ((rest : List InlineCode) → codes_of rest ≡ with_backslashes bs
          → scan context 0 (read_tokens (Item (Leaf (Escape b)) ∷ []) r) rest ≡ read_tokens (tokens_of bs) (read_tokens (Item (Leaf (Escape b)) ∷ []) r))
          → scan context 0 r content ≡ read_tokens (tokens_of (b ∷ bs)) r
      escape_step b bs [] r punctuation e more = let n : 0 ≡ length (92 ∷ b ∷ with_backslashes bs) = ap length e in absurd (omega arith)
      escape_step b bs (c ∷ []) r punctuation e more = let n : 1 ≡ length (92 ∷ b ∷ with_backslashes bs) = ap length e in absurd (omega arith)
      escape_step b bs (c ∷ d ∷ cs) r punctuation e more =
          let next = read_tokens (Item (Leaf (Escape b)) ∷ []) r in
          let found : leaf_at context (codes_of (c ∷ d ∷ cs)) ≡ Some (leaf (Escape b ∷ []) 2) =
          ap (leaf_at context) e ∙ escape_leaf b (with_backslashes bs) punctuation in
          scan_step context r next c (d ∷ cs) 1 (step_leaf context r c (d ∷ cs) (leaf (Escape b ∷ []) 2)
          (or_first (leaf_at context (codes_of (c ∷ d ∷ cs))) _ (leaf (Escape b ∷ []) 2) found))
          ∙ more cs (ap (drop 2) e) ∙ read_more (Item (Leaf (Escape b))) (tokens_of bs) r
          ∙ ap (λ part. read_tokens (Item (Leaf part) ∷ tokens_of bs) r) (sym (escape_part b punctuation))

      other_step : (b : ℕ) (bs : List ℕ) (content : List InlineCode) (r : Reading) → is_ascii_punctuation b ≡ false → is_line_byte b ≡ true
          → (is_white b ≡ true → ends_here (bare (b ∷ with_backslashes bs)) ≡ false) → codes_of content ≡ b ∷ with_backslashes bs
          → ((rest : List InlineCode) → codes_of rest ≡ with_backslashes bs
          → scan context 0 (read_tokens (Item (Leaf (Data b)) ∷ []) r) rest ≡ read_tokens (tokens_of bs) (read_tokens (Item (Leaf (Data b)) ∷ []) r))
          → scan context 0 r content ≡ read_tokens (tokens_of (b ∷ bs)) r
      other_step b bs [] r off line spaces e more = let n : 0 ≡ length (b ∷ with_backslashes bs) = ap length e in absurd (omega arith)
      other_step b bs (c ∷ cs) r off line spaces e more =
          let next = read_tokens (Item (Leaf (Data b)) ∷ []) r in
          scan_step context r next c cs 0 (data_place b (with_backslashes bs) r c cs off line spaces
          (subst HasNoStart (escaped_other b bs off) (no_start_escaped (b ∷ bs))) e)
          ∙ more cs (ap (drop 1) e) ∙ read_more (Item (Leaf (Data b))) (tokens_of bs) r
          ∙ ap (λ part. read_tokens (Item (Leaf part) ∷ tokens_of bs) r) (sym (data_part b off))

-- ---- addresses: an escaped line has no `@` of its own

-- leaves after others
followed-append : (parts others : List InlineLeaf) → parts_before (map Leaf parts) (leaves others) ≡ leaves (parts ++ others)
followed-append [] others = refl
followed-append (part ∷ parts) others = ap (Cons (Leaf part)) (followed-append parts others)

abbrev HasNoAt : List ℕ → Type 0
HasNoAt bytes = Each (λ b. (b == 64) ≡ false) bytes

no_addresses : (before run : List ℕ) → HasNoAt run → parts_from 0 before run ≡ map Data (before ++ run)
no_addresses before [] h = ap (map Data) (sym (append-nil before))
no_addresses before (b ∷ bs) h =
    cond-false (b == 64) _ _ h.0 ∙ no_addresses (before ++ b ∷ []) bs h.1 ∙ ap (map Data) (append_assoc before (b ∷ []) bs)

-- a run of text, and the leaves after it
literals_escaped : (run bytes : List ℕ) → HasNoAt run → with_literals run (leaves (map part_of bytes)) ≡ leaves (map Data run ++ map part_of bytes)
literals_escaped run [] h = ap leaves (no_addresses [] run h ∙ sym (append-nil (map Data run)))
literals_escaped run (b ∷ bs) h =
    let others = map part_of bs in
    elim (cases_Bool (is_ascii_punctuation b)) [
      | inl on ↦
          ap (λ part. with_literals run (Cons (Leaf part) (leaves others))) (escape_part b on)
          ∙ ap (λ parts. parts_before (map Leaf parts) (Cons (Leaf (Escape b)) (with_literals [] (leaves others)))) (no_addresses [] run h)
          ∙ ap (λ is. parts_before (map Leaf (map Data run)) (Cons (Leaf (Escape b)) is)) (literals_escaped [] bs tt)
          ∙ followed-append (map Data run) (Escape b ∷ others)
          ∙ ap (λ part. leaves (map Data run ++ part ∷ others)) (sym (escape_part b on))
      | inr off ↦
          ap (λ part. with_literals run (Cons (Leaf part) (leaves others))) (data_part b off)
          ∙ literals_escaped (run ++ b ∷ []) bs (each-append (λ b. (b == 64) ≡ false) run (b ∷ []) h (other b 64 off refl, tt))
          ∙ ap (λ parts. leaves (parts ++ others)) (map-append Data run (b ∷ []))
          ∙ ap leaves (append_assoc (map Data run) (Data b ∷ []) others)
          ∙ ap (λ part. leaves (map Data run ++ part ∷ others)) (sym (data_part b off))
    ]

linked_escaped : (on : Constructs) (bytes : List ℕ) → linked_literals on (leaves (map part_of bytes)) ≡ leaves (map part_of bytes)
linked_escaped on bytes =
    let is = leaves (map part_of bytes) in
    cond_both on.gfm_autolink_literal (with_literals [] is) is (λ x. x ≡ is) (λ _. literals_escaped [] bytes tt) (λ _. refl)

-- ---- what it prints

no_white_first : (bytes : List ℕ) → list_all is_line_byte bytes ≡ true → begins_with_space bytes ≡ false → prefix_len is_white (with_backslashes bytes) ≡ 0
no_white_first [] lines first = refl
no_white_first (b ∷ bs) lines first =
    elim (cases_Bool (is_ascii_punctuation b)) [
      | inl on ↦ ap (prefix_len is_white) (escaped_punctuation b bs on)
      | inr off ↦
          let line = (and_parts (is_line_byte b) (list_all is_line_byte bs) lines).0 in
          ap (prefix_len is_white) (escaped_other b bs off) ∙ cond-false (is_white b) _ 0 (not_white b line first)
    ]

module _ (options : CompileOptions) where
  html_of_byte : (b : ℕ) → leaf_html options (part_of b) ≡ encoded_byte b
  unfolding part_of
  html_of_byte b =
      cond_both (is_ascii_punctuation b) (Escape b) (Data b) (λ part. leaf_html options part ≡ encoded_byte b) (λ _. html_of_data options b)
      (λ _. html_of_data options b)

  html_of_bytes : (bytes : List ℕ) → flat_map (leaf_html options) (map part_of bytes) ≡ encode bytes
  html_of_bytes [] = refl
  html_of_bytes (b ∷ bs) =
      ap (λ x. x ++ flat_map (leaf_html options) (map part_of bs)) (html_of_byte b) ∙ ap (λ x. encoded_byte b ++ x) (html_of_bytes bs)

-- the inline structure of an escaped line
escaped_structure : (context : InlineContext) (content : List InlineCode) (bytes : List ℕ) → context.options.constructs.character_escape ≡ true
    → IsTrimmedLine bytes
    → codes_of content ≡ with_backslashes bytes → inlines context content ≡ leaves (map part_of bytes)
escaped_structure context content bytes on line e =
    let constructs = context.options.constructs in
    let start = prefix_len (λ (c : InlineCode). is_white c.code) content in
    let none : start ≡ 0 = white_codes content ∙ ap (prefix_len is_white) e ∙ no_white_first bytes line.0 line.1 in
    let r : Reading = reading (text [] false) [] in
    let read : scan context 0 r content ≡ read_tokens (tokens_of bytes) r = scan_escaped context on bytes content r line.0 line.2 e in
    ap (λ n. linked_literals constructs (with_spans (whole_text (scan context 0 r (drop n content))).tokens)) none
    ∙ ap (λ x. linked_literals constructs (with_spans (whole_text x).tokens)) read
    ∙ ap (linked_literals constructs) (leaves_alone (map part_of bytes))
    ∙ linked_escaped constructs bytes

pub escape_law : EscapeLaw
escape_law context meaning content bytes on line e =
    ap (inline_html meaning) (escaped_structure context content bytes on line e)
    ∙ html_of_leaves meaning (map part_of bytes)
    ∙ html_of_bytes meaning.compile bytes

-- an escaped line calls no footnote
pub escaped_calls_nothing : (context : InlineContext) (content : List InlineCode) (bytes : List ℕ) → context.options.constructs.character_escape ≡ true
    → IsTrimmedLine bytes → codes_of content ≡ with_backslashes bytes → has_calls (inlines context content) ≡ false
escaped_calls_nothing context content bytes on line e =
    ap has_calls (escaped_structure context content bytes on line e) ∙ leaves_call_nothing (map part_of bytes)
