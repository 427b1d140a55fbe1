-- Lines of a text that are taken for a paragraph or a definition have no line ending in them: as bytes and as codes they read alike (CommonMark 4.7).
use Rattle.std.proofs.Common.{◌≡◌, ℕ, suc, ◌<◌, false, eqb, List, [], ◌∷◌, ◌++◌, Option, None, Some, refl, sym, ap, ◌∙◌, subst, length, map, arith}
use Rattle.parse_leaves.proofs.Prelude.{AreBytes, AreLines, AreTaken, AtEnding, Between, block_codes, BlockLine, code_byte, code_bytes, Constructs, Container}
use Rattle.parse_leaves.proofs.Prelude.{content_codes, content_lines_apart, content_of, content_text, ending_text, ends_line, HaveNoEnding, is_blank}
use Rattle.parse_leaves.proofs.Prelude.{IsRestLine, Kind, length-map, line_left, LineEnding, LineRest, lines, list_any, ne_eqb, or_parts, own_lines, Place}
use Rattle.parse_leaves.proofs.Prelude.{prefixed, Prefixed, rest_line, Standing, StandsAt, Within}
use Rattle.std.proofs.lemmas.Bool.{or_from}
use Rattle.markdown_options.specs.declared.beside.Kind.TheVariants.{Whitespace}
use Rattle.definition_text.specs.Columns.{whole}
use Rattle.definition_text.specs.Lines.{TextLine}
use Rattle.definition_block.specs.Tree.{beside_line}
use Rattle.block_rows.proofs.OpenLines.{AreTextLines, clear-drop, clear_block, clear_codes, first_clear, lines_of_text}
use Rattle.parse_laid.specs.Places.{line_rest, unread}
use Rattle.inline_content.proofs.Lined.{apart_codes}
use Rattle.parse_lines.proofs.NextLine.{left_some}
use Rattle.parse_lines.proofs.Steps.{at_ending}
use Rattle.parse_lines.proofs.Suffixes.{prefixed_follows}
use Rattle.parse_strings.proofs.Texts.{bytes_after}
use Rattle.parse_leaves.proofs.Lines.{content_lines}
use Rattle.parse_leaves.proofs.TextLeaves.{same_content}

-- ---- one line

clear_bytes : (bs : List ℕ) → AreBytes bs → list_any ends_line bs ≡ false → HaveNoEnding bs
clear_bytes [] bytes dark = tt
clear_bytes (b ∷ bs) bytes dark =
    let small : b < 256 = bytes 0 in
    let parts = or_parts (ends_line b) (list_any ends_line bs) dark in
    (or_from (ends_line b) (eqb b 257) parts.0 (ne_eqb b 257 (λ e. omega (arith, e, small))), clear_bytes bs (λ k. bytes (suc k)) parts.1)

filled : (line : LineRest) → is_blank line.rest ≡ false → 0 < length (block_codes line.rest)
filled line dark =
    let size : length (map code_byte (block_codes line.rest)) ≡ length (block_codes line.rest) = length-map (block_codes line.rest) code_byte in
    omega (arith, size, ap length (code_bytes line.rest), left_some line.rest dark)

-- what containers leave of a line of a text
rest_clear : (on : Constructs) (containers : List Container) (kind : Kind) (line : TextLine) → HaveNoEnding line.content
    → HaveNoEnding (block_codes (line_left (prefixed on containers (line_rest (whole line.content) (beside_line kind line)))).rest)
rest_clear on containers kind line clear =
    let start = line_rest (whole line.content) (beside_line kind line) in
    let here = line_left (prefixed on containers start) in
    let end = (prefixed_follows on containers start).end in
    clear_block here.rest (subst HaveNoEnding (sym end.1) (clear-drop end.0 (whole line.content) (clear_codes 0 line.content clear)))

-- ---- lines, one after another

has_ending : (o : Option LineEnding) → (o ≡ None → ⊥) → (e : LineEnding) × (o ≡ Some e)
has_ending None h = absurd (h refl)
has_ending (Some e) h = (e, refl)

last_text : (line : TextLine) (others : List TextLine) → AreTextLines (line ∷ others) → line.ending ≡ None → others ≡ []
last_text line [] are none = refl
last_text line (next ∷ others) are none = let no : None ≡ Some are.1.0 = sym none ∙ are.1.1 in absurd (cc)

others_text : (line : TextLine) (others : List TextLine) → AreTextLines (line ∷ others) → AreTextLines others
others_text line [] are = tt
others_text line (next ∷ others) are = are.2

no_line : (line : TextLine) (ts : List TextLine) → line ∷ ts ≡ [] → ⊥
no_line line ts is = cc

lines_taken : (on : Constructs) (containers : List Container) (kind : Kind) (ts : List TextLine) (first : BlockLine) (others : List BlockLine) (to : Place)
    → HaveNoEnding first.codes → 0 < length first.codes → (first.ending ≡ None → ts ≡ []) → AreTextLines ts
    → AreTaken on containers IsRestLine others (Between (unread kind ts)) to → AreLines (first ∷ others)
lines_taken on containers kind ts first [] to clear some last are taken = (clear, some)
lines_taken on containers kind [] first (next ∷ others) to clear some last are taken = absurd taken.2
lines_taken on containers kind (line ∷ ts) first (next ∷ others) to clear some last are taken =
    let start = line_rest (whole line.content) (beside_line kind line) in
    let here : Prefixed = prefixed on containers start in
    let is : next ≡ rest_line (line_left here).rest (line_left here).beside =
    taken.3.1 ∙ ap (λ (p : Prefixed). rest_line (line_left p).rest (line_left p).beside) (sym taken.2.0) in
    let dark : is_blank (line_left here).rest ≡ false = ap (λ (p : Prefixed). is_blank (line_left p).rest) taken.2.0 ∙ taken.3.0 in
    let next_clear : HaveNoEnding next.codes =
    subst (λ (l : BlockLine). HaveNoEnding l.codes) (sym is) (rest_clear on containers kind line (first_clear line ts are)) in
    let next_some : 0 < length next.codes = subst (λ (l : BlockLine). 0 < length l.codes) (sym is) (filled (line_left here) dark) in
    let ending : next.ending ≡ line.ending = ap (λ (l : BlockLine). l.ending) is ∙ (prefixed_follows on containers start).ending in (
      clear,
      some,
      has_ending first.ending (λ none. no_line line ts (last none)),
      lines_taken on containers Whitespace ts next others to next_clear next_some (λ none. last_text line ts are (sym ending ∙ none))
          (others_text line ts are)
          (subst (λ (left : List LineRest). AreTaken on containers IsRestLine others (Between left) to) (sym taken.2.1) taken.4),
    )

-- ---- from a place on a line

bytes_left : (text before content after left : List ℕ) → text ≡ before ++ (content ++ (after ++ left)) → AreBytes text → AreBytes left
bytes_left text before content after left parts all =
    let behind = bytes_after before (content ++ (after ++ left)) text parts all in
    bytes_after after left (after ++ left) refl (bytes_after content (after ++ left) (content ++ (after ++ left)) refl behind)

module _ (text : List ℕ) (s : Standing) (on : Constructs) (containers : List Container) where
  -- the lines after one whose ending is this line's
  pub lines_after : (ending : Option LineEnding) (left : List LineRest) → StandsAt text (AtEnding ending left) s → (first : BlockLine)
      (others : List BlockLine) (to : Place) → HaveNoEnding first.codes → 0 < length first.codes → first.ending ≡ ending
      → AreTaken on containers IsRestLine others (Between left) to → AreLines (first ∷ others)
  lines_after ending left at first others to clear some same taken =
      lines_taken on containers Whitespace (lines s.left) first others to clear some
      (λ none. ap lines (at.line.last (at.ending ∙ sym same ∙ none)))
      (lines_of_text s.left (bytes_left text at.line.before at.line.content (ending_text s.ending) s.left at.line.parts.parts at.line.over.bytes))
      (subst (λ (ls : List LineRest). AreTaken on containers IsRestLine others (Between ls) to) at.unread taken)

  -- the line that is begun, and those after it
  pub text_lines : (here : LineRest) (left : List LineRest) → StandsAt text (Within here left) s → (others : List BlockLine) (to : Place)
      → is_blank here.rest ≡ false → AreTaken on containers IsRestLine others (Between left) to → AreLines (rest_line here.rest here.beside ∷ others)
  text_lines here left at others to dark taken =
      let content : HaveNoEnding at.line.content = clear_bytes at.line.content at.line.parts.bytes at.line.parts.dark in
      let rest : HaveNoEnding here.rest =
      subst HaveNoEnding (sym at.suffix) (clear-drop at.columns (whole at.line.content) (clear_codes 0 at.line.content content)) in
      lines_after here.beside.ending left (at_ending text here left s at) (rest_line here.rest here.beside) others to (clear_block here.rest rest)
      (filled here dark) refl taken

-- the bytes of lines have the codes of their content, where a column that is left of a tab is a space
pub taken_codes : (ls taken : List BlockLine) → own_lines ls ≡ own_lines taken → AreLines taken
    → content_codes (content_text ls) ≡ map code_byte (content_of (own_lines ls))
taken_codes ls taken same are =
    ap content_codes (same_content ls taken same) ∙ apart_codes taken (content_lines_apart taken (content_lines taken are))
    ∙ ap (λ (xs : List BlockLine). map code_byte (content_of xs)) (sym same)
