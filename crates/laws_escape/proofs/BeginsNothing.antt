-- A line that begins nothing but a paragraph.
use Rattle.std.proofs.Common.{inl, inr, ◌≡◌, ℕ, Bool, true, false, cond, not, ◌&&◌, ◌||◌, List, [], ◌∷◌, Option, None, refl, sym, ap, ◌∙◌, drop, take}
use Rattle.laws_escape.proofs.Prelude.{after_number, and_parts, bare, begins_with, Beside, both_ways, bytes_of, cases_Bool, codes, cond-false, cond-true}
use Rattle.laws_escape.proofs.Prelude.{cond_both, Constructs, eqb-true, indent, is_ascii_punctuation, is_blank, is_byte, is_digit, is_line_byte, is_white}
use Rattle.laws_escape.proofs.Prelude.{list_all, nothing, option_and_then, or_from, prefix_len, run, Tree, ◌==◌}
use Rattle.std.specs.Prelude.{leb}
use Rattle.std.proofs.lemmas.Bool.{eq-eqb}
use Rattle.definition_text.specs.Indents.{small_indent}
use Rattle.definition_block.specs.BlockQuote.{after_byte, after_mark, quote_prefix}
use Rattle.definition_block.specs.ListItem.{number_of, bullet, ordered_marker, marker, item_after, item_start}
use Rattle.definition_block.specs.GfmFootnoteDefinition.{after_bracket, footnote_mark, footnote_of, footnote_start}
use Rattle.definition_block.specs.Containers.{quote_or, footnote_or, starts}
use Rattle.definition_block.specs.CodeIndented.{starts_code_indented}
use Rattle.definition_block.specs.CodeFenced.{fence_of, fence_start}
use Rattle.definition_block.specs.MathFlow.{math_fence_of, math_start}
use Rattle.definition_block.specs.HtmlFlow.{starts_raw, starts_declaration, starts_basic, starts_complete, stands_alone, html_kind, html_start}
use Rattle.definition_inline.specs.HtmlTags.{open_tag, closing_tag}
use Rattle.definition_block.specs.HeadingAtx.{atx_of, heading_atx}
use Rattle.definition_block.specs.HeadingSetext.{underline_of, underline}
use Rattle.definition_block.specs.ThematicBreak.{is_break_text, is_break}
use Rattle.definition_block.specs.Tree.{makes_table, indented_tree, fence_tree, html_tree, atx_tree, break_tree, underlined, anew, first_of}
use Rattle.definition_block.specs.Tree.{leaf_starts}
use Rattle.std.specs.Bool.{then_some}
use Rattle.std.specs.Option.{option_or, option_map}
use Rattle.laws_escape.proofs.PlainText.{and_no, bare_other}
use Rattle.laws_escape.proofs.Escaped.{no_and, no_column}

-- the codes of a line whose first is no space and no punctuation but a backslash, and in which no delimiter follows the digits at its front
pub record BeginsNothing (first : ℕ) (others : List ℕ) : Type 0 where
  pub bytes : list_all is_line_byte (first ∷ others) ≡ true
  pub no_white : is_white first ≡ false
  pub no_punctuation : (x : ℕ) → is_ascii_punctuation x ≡ true → (x == 92) ≡ false → (first == x) ≡ false
  pub no_delimiter : (number digits : ℕ) → after_number number digits (drop (prefix_len is_digit (first ∷ others)) (first ∷ others)) ≡ None

pub unless : {A : Type 0} (b : Bool) (o : Option A) → o ≡ None → cond b o None ≡ None
unless b o none = cond_both b o None (λ x. x ≡ None) (λ _. none) (λ _. refl)

-- none of three
none_of : (a b c : Bool) → a ≡ false → b ≡ false → c ≡ false → (a || b || c) ≡ false
none_of a b c p q r = or_from (a || b) c (or_from a b p q) r

pub apart_both : (a b : ℕ) → (a == b) ≡ false → (b == a) ≡ false
apart_both a b apart =
    elim (cases_Bool (b == a)) [
      | inl e ↦ absurd (both_ways (a == b) apart (eq-eqb a b (sym (eqb-true b a e))))
      | inr e ↦ e
    ]

-- ---- no tab

pub same_bytes : (bytes : List ℕ) → list_all is_line_byte bytes ≡ true → bytes_of bytes ≡ bytes
same_bytes [] all = refl
same_bytes (b ∷ bs) all =
    let parts = and_parts (is_line_byte b) (list_all is_line_byte bs) all in
    cond-true (is_byte b) _ _ (ap not (no_column b parts.0)) ∙ ap (λ xs. b ∷ xs) (same_bytes bs parts.1)

module _ (on : Constructs) (c : ℕ) (cs : List ℕ) (line : BeginsNothing c cs) where
  abbrev here : List ℕ
  here = c ∷ cs

  no_indent : indent here ≡ 0
  no_indent = cond-false (is_white c) _ 0 line.no_white

  same_bare : bare here ≡ here
  same_bare = bare_other c cs line.no_white

  same_text : bytes_of (bare here) ≡ here
  same_text = ap bytes_of same_bare ∙ same_bytes here line.bytes

  no_run : (x : ℕ) → is_ascii_punctuation x ≡ true → (x == 92) ≡ false → run x here ≡ 0
  no_run x punctuation other = cond-false (c == x) _ 0 (line.no_punctuation x punctuation other)

  -- ---- containers

  no_quote : quote_prefix on here ≡ None
  no_quote = unless _ _ (ap (λ xs. after_mark (after_byte 62 xs)) same_bare ∙ ap after_mark (cond-false (c == 62) _ _ (line.no_punctuation 62 refl refl)))

  no_bullet : bullet here ≡ None
  no_bullet =
      cond-false ((c == 45) || (c == 43) || (c == 42)) _ None
      (none_of _ _ _ (line.no_punctuation 45 refl refl) (line.no_punctuation 43 refl refl) (line.no_punctuation 42 refl refl))

  no_number : ordered_marker (prefix_len is_digit here) here ≡ None
  no_number = let digits = prefix_len is_digit here in unless (leb digits 9) _ (line.no_delimiter (number_of (take digits here)) digits)

  no_marker : marker here ≡ None
  no_marker =
      let digits = prefix_len is_digit here in
      cond_both (digits == 0) (bullet here) (ordered_marker digits here) (λ o. o ≡ None) (λ _. no_bullet) (λ _. no_number)

  no_item : (interrupts : Bool) → item_start on interrupts here ≡ None
  no_item interrupts = unless _ _ (ap (item_after (indent here) interrupts) (ap marker same_bare ∙ no_marker))

  no_footnote : footnote_start on here ≡ None
  no_footnote =
      unless _ _ (ap (λ xs. footnote_of (footnote_mark xs)) same_bare
      ∙ ap (λ o. footnote_of (after_bracket o)) (cond-false (c == 91) _ _ (line.no_punctuation 91 refl refl)))

  pub no_start : (interrupts : Bool) → starts on interrupts here ≡ None
  no_start interrupts =
      ap (quote_or (footnote_or (item_start on interrupts here) (footnote_start on here))) no_quote
      ∙ ap (footnote_or (item_start on interrupts here)) no_footnote ∙ no_item interrupts

  -- ---- leaves

  pub not_blank : is_blank here ≡ false
  not_blank = no_and (is_white c) (is_blank cs) line.no_white

  no_code : starts_code_indented on here ≡ false
  no_code = and_no on.code_indented (leb 4 (indent here)) (ap (leb 4) no_indent)

  no_fence_of : (columns : ℕ) → fence_of columns here ≡ None
  no_fence_of columns =
      cond-false _ _ _ (no_and (leb 3 (run 96 here)) _ (ap (leb 3) (no_run 96 refl refl)))
      ∙ cond-false _ _ _ (ap (leb 3) (no_run 126 refl refl))

  no_fence : fence_start on here ≡ None
  no_fence = unless _ _ (ap (fence_of (indent here)) same_text ∙ no_fence_of (indent here))

  no_math_of : (columns : ℕ) → math_fence_of columns here ≡ None
  no_math_of columns = cond-false _ _ _ (no_and (leb 2 (run 36 here)) _ (ap (leb 2) (no_run 36 refl refl)))

  no_math : math_start on here ≡ None
  no_math = unless _ _ (ap (math_fence_of (indent here)) same_text ∙ no_math_of (indent here))

  no_angle : (60 == c) ≡ false
  no_angle = apart_both c 60 (line.no_punctuation 60 refl refl)

  no_opening : begins_with (codes "<") here ≡ false
  no_opening = no_and (60 == c) _ no_angle

  no_open_tag : open_tag here ≡ None
  no_open_tag = cond-false _ _ _ no_opening

  no_closing_tag : closing_tag here ≡ None
  no_closing_tag = cond-false _ _ _ (no_and (60 == c) _ no_angle)

  no_complete : starts_complete here ≡ false
  no_complete =
      or_from _ _ (no_and (stands_alone (open_tag here)) _ (ap stands_alone no_open_tag)) (ap stands_alone no_closing_tag)

  no_kind : html_kind false here ≡ None
  no_kind =
      cond-false (starts_raw here) _ _ (no_and (begins_with (codes "<") here) _ no_opening)
      ∙ cond-false (begins_with (codes "<!--") here) _ _ (no_and (60 == c) _ no_angle)
      ∙ cond-false (begins_with (codes "<?") here) _ _ (no_and (60 == c) _ no_angle)
      ∙ cond-false (starts_declaration here) _ _ (no_and (begins_with (codes "<!") here) _ (no_and (60 == c) _ no_angle))
      ∙ cond-false (begins_with (codes "<![CDATA[") here) _ _ (no_and (60 == c) _ no_angle)
      ∙ cond-false (starts_basic here) _ _ (no_and (begins_with (codes "<") here) _ no_opening)
      ∙ cond-false (starts_complete here) _ _ no_complete

  no_html : html_start on false here ≡ None
  no_html = unless _ _ (ap (html_kind false) same_text ∙ no_kind)

  no_heading : heading_atx on here ≡ None
  no_heading = unless _ _ (ap atx_of same_text ∙ no_rank)
    where
      no_rank : atx_of here ≡ None
      no_rank = cond-false _ _ _ (no_and _ _ (no_and (leb 1 (run 35 here)) _ (ap (leb 1) (no_run 35 refl refl))))

  no_underline_of : underline_of here ≡ None
  no_underline_of =
      cond-false _ _ _ (no_and (leb 1 (run 61 here)) _ (ap (leb 1) (no_run 61 refl refl)))
      ∙ cond-false _ _ _ (no_and (leb 1 (run 45 here)) _ (ap (leb 1) (no_run 45 refl refl)))

  pub no_underline : underline on here ≡ None
  no_underline = unless _ _ (ap underline_of same_text ∙ no_underline_of)

  no_break_text : is_break_text here ≡ false
  no_break_text =
      no_and ((c == 42) || (c == 45) || (c == 95)) _
      (none_of _ _ _ (line.no_punctuation 42 refl refl) (line.no_punctuation 45 refl refl) (line.no_punctuation 95 refl refl))

  pub no_break : is_break on here ≡ false
  no_break = and_no (on.thematic_break && small_indent on here) _ (ap is_break_text same_text ∙ no_break_text)

  none_or : (o p : Option Tree) → o ≡ None → p ≡ None → option_or o p ≡ None
  none_or o p h k = ap (λ x. option_or x p) h ∙ k

  -- no leaf begins where no table is made
  pub no_leaf : (beside : Beside) → makes_table on nothing here beside ≡ None → first_of (leaf_starts on nothing here beside) ≡ None
  no_leaf beside no_table =
      none_or _ _ (ap (λ b. anew on nothing (then_some b (indented_tree here beside))) (no_and (starts_code_indented on here) true no_code))
      (none_or _ _ (ap (λ o. anew on nothing (option_map (fence_tree beside) o)) no_fence)
      (none_or _ _ (ap (λ o. anew on nothing (option_map (fence_tree beside) o)) no_math)
      (none_or _ _ (ap (λ o. anew on nothing (option_map (html_tree here beside) o)) no_html)
      (none_or _ _ (ap (λ o. anew on nothing (option_map (atx_tree beside) o)) no_heading)
      (none_or _ _ (ap (option_and_then (underlined on [] beside.ending)) no_underline)
      (none_or _ _ (ap (λ b. anew on nothing (then_some b (break_tree beside))) no_break)
      (none_or (makes_table on nothing here beside) None no_table refl)))))))
