-- The lines of a text, as the content of a walk (CommonMark 4.8).
use Rattle.std.proofs.Common.{◌≡◌, ◌<◌, ℕ, Bool, true, false, not, ◌&&◌, List, [], ◌∷◌, ◌++◌, Option, refl, inl, inr, sym, ap, ap₂, ◌∙◌, subst, length, map, take, arith}
use Rattle.std.specs.List.{list_all, prefix_len}
use Rattle.std.proofs.Math.Bool.{and-false}
use Rattle.std.proofs.lemmas.Bool.{cases_Bool, cond-false, cond-true, eqb-true}
use Rattle.std.proofs.lemmas.List.Folds.{list_all-append}
use Rattle.markdown_options.specs.declared.line_ending.LineEnding.{LineEnding}
use Rattle.definition_text.specs.Columns.{is_byte}
use Rattle.parse_leaves.proofs.Prelude.{append-nil, append_assoc, AreContentLines, AreLines, AreTaken, AtEnding, Between, BlockLine, code_byte, Constructs}
use Rattle.parse_leaves.proofs.Prelude.{Container, content_from, content_text, ending_text, flat_map-cons, IsRestLine, IsTextLine, last_ending, line_left}
use Rattle.parse_leaves.proofs.Prelude.{block_codes, bytes_of, is_blank, is_tab_column, is_white, line_text, LineRest, own_lines, Place, Prefixed, Rest}
use Rattle.parse_leaves.proofs.Prelude.{rest_line, Within}
use Rattle.parse_lines.proofs.Columns.{dark_is_byte}
use Rattle.definition_text.specs.BlockLines.{last_ending_or}
use Rattle.parse_laid.specs.Leaves.{EndsAt}
use Rattle.parse_laid.proofs.Taken.{after_taken, each_taken}

-- the content of lines is what is ahead from their first one on
pub lines_ahead : (first : BlockLine) (others : List BlockLine)
    → content_from (map code_byte first.codes) first.ending others ≡ content_text (first ∷ others)
lines_ahead first [] = sym (append-nil (map code_byte first.codes ++ []) ∙ append-nil (map code_byte first.codes))
lines_ahead first (next ∷ others) =
    ap (λ rest. map code_byte first.codes ++ (ending_text first.ending ++ rest)) (lines_ahead next others)
    ∙ sym (append_assoc (map code_byte first.codes) (ending_text first.ending) (content_text (next ∷ others)))
    ∙ sym (flat_map-cons line_text first (own_lines (next ∷ others)))

-- the lines of a paragraph are those of a content
pub content_lines : (ls : List BlockLine) → AreLines ls → AreContentLines ls
content_lines [] h = tt
content_lines (line ∷ []) h = h.0
content_lines (line ∷ next ∷ others) h = h

-- the lines of a text that begins on the line that is begun: what is left of it, and others up to the end of the last one
pub record TextBegins (on : Constructs) (around : List Container) (here : LineRest) (left : List LineRest) (taken : List BlockLine) (end : Place) : Type 0 where
  pub others : List BlockLine
  pub after : List LineRest
  pub same : taken ≡ rest_line here.rest here.beside ∷ others
  pub ahead : AreTaken on around IsRestLine others (Between left) (Between after)
  pub end_is : end ≡ Between after

rest_of_text : (on : Constructs) (here : Prefixed) (line : BlockLine) → IsTextLine on here line → IsRestLine here line
rest_of_text on here line p = (p.0.1, p.1)

module _ (on : Constructs) (around : List Container) (here : LineRest) (left : List LineRest) where
  pub text_begins : (taken : List BlockLine) (end : Place) → 0 < length taken → AreTaken on around (IsTextLine on) taken (Within here left) end
      → TextBegins on around here left taken end
  text_begins [] end some p = absurd (omega (arith, some))
  text_begins (first ∷ others) end some p =
      let more = after_taken on around (IsTextLine on) others p.1 end p.4 in
      let line : first ≡ rest_line (line_left p.0).rest (line_left p.0).beside = p.3.1 in
      let ahead : AreTaken on around (IsTextLine on) others (Between left) (Between more.0) =
      subst (λ e. AreTaken on around (IsTextLine on) others (Between left) e) more.1
      (subst (λ l. AreTaken on around (IsTextLine on) others (Between l) end) (sym p.2.1) p.4) in
      record {
        others = others;
        after = more.0;
        same = ap (λ l. l ∷ others) (line ∙ ap (λ (h : Prefixed). rest_line (line_left h).rest (line_left h).beside) (sym p.2.0));
        ahead = each_taken on around (IsTextLine on) IsRestLine others (Between left) (Between more.0) (rest_of_text on) ahead;
        end_is = more.1;
      }

  -- where the last of these lines ends
  pub text_stops : (taken : List BlockLine) (end to : Place) (b : TextBegins on around here left taken end) → EndsAt taken end to
      → to ≡ AtEnding (last_ending_or here.beside.ending b.others) b.after
  text_stops taken end to b ends =
      let lefts : Between b.after ≡ Between ends.0 = sym b.end_is ∙ ends.1 in
      let same_left : b.after ≡ ends.0 = cc in
      ends.2 ∙ ap (λ ls. AtEnding (last_ending ls) ends.0) b.same ∙ ap (λ l. AtEnding (last_ending_or here.beside.ending b.others) l) (sym same_left)

-- ---- a line of a text isn't blank, so its content isn't, either

dark_bytes : (rest : Rest) → is_blank rest ≡ false → list_all is_white (bytes_of rest) ≡ false
dark_bytes [] dark = dark
dark_bytes (code ∷ rest) dark = elim (cases_Bool (is_white code)) [
  | inl white ↦
      let others = dark_bytes rest (sym (ap (λ (t : Bool). t && is_blank rest) white) ∙ dark) in
      elim (cases_Bool (is_byte code)) [
        | inl byte ↦
            ap (list_all is_white) (cond-true (is_byte code) (code ∷ bytes_of rest) (bytes_of rest) byte)
            ∙ ap (λ (t : Bool). t && list_all is_white (bytes_of rest)) white ∙ others
        | inr column ↦ ap (list_all is_white) (cond-false (is_byte code) (code ∷ bytes_of rest) (bytes_of rest) column) ∙ others
      ]
  | inr black ↦
      ap (list_all is_white) (cond-true (is_byte code) (code ∷ bytes_of rest) (bytes_of rest) (ap not (dark_is_byte code black)))
      ∙ ap (λ (t : Bool). t && list_all is_white (bytes_of rest)) black
]

code_white : (code : ℕ) → is_white (code_byte code) ≡ is_white code
code_white code = elim (cases_Bool (is_tab_column code)) [
  | inl column ↦ ap is_white (cond-true (is_tab_column code) 32 code column) ∙ sym (ap is_white (eqb-true code 256 column))
  | inr other ↦ ap is_white (cond-false (is_tab_column code) 32 code other)
]

codes_white : (codes : Rest) → list_all is_white (map code_byte codes) ≡ list_all is_white codes
codes_white [] = refl
codes_white (code ∷ codes) = ap₂ (λ (s t : Bool). s && t) (code_white code) (codes_white codes)

pub rest_dark : (rest : Rest) → is_blank rest ≡ false → list_all is_white (map code_byte (block_codes rest)) ≡ false
rest_dark rest dark =
    let columns = take (prefix_len is_tab_column rest) rest in
    codes_white (block_codes rest)
    ∙ list_all-append is_white columns (bytes_of rest)
    ∙ ap (λ (t : Bool). list_all is_white columns && t) (dark_bytes rest dark) ∙ and-false (list_all is_white columns)

from_dark : (line : List ℕ) (ending : Option LineEnding) (others : List BlockLine) → list_all is_white line ≡ false
    → list_all is_white (content_from line ending others) ≡ false
from_dark line ending [] dark = dark
from_dark line ending (next ∷ others) dark =
    let more = ending_text ending ++ content_from (map code_byte next.codes) next.ending others in
    list_all-append is_white line more ∙ ap (λ (t : Bool). t && list_all is_white more) dark

pub content_dark : (first : BlockLine) (others : List BlockLine) → list_all is_white (map code_byte first.codes) ≡ false
    → list_all is_white (content_text (first ∷ others)) ≡ false
content_dark first others dark =
    ap (list_all is_white) (sym (lines_ahead first others)) ∙ from_dark (map code_byte first.codes) first.ending others dark

-- the line that is begun isn't blank
pub first_dark : (on : Constructs) (containers : List Container) (here : LineRest) (left : List LineRest) (taken : List BlockLine) (end : Place)
    → 0 < length taken → AreTaken on containers (IsTextLine on) taken (Within here left) end → is_blank here.rest ≡ false
first_dark on containers here left [] end some are = absurd (omega (arith, some))
first_dark on containers here left (line ∷ others) end some are = ap (λ (p : Prefixed). is_blank (line_left p).rest) are.2.0 ∙ are.3.0.1
