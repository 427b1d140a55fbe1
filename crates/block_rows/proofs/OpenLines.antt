-- The open paragraph has the lines of a paragraph, after any lines of a text.
use Rattle.std.proofs.Common.{◌≡◌, ℕ, ◌+◌, ◌<◌, suc, zero, Bool, true, false, not, ◌&&◌, ◌||◌, leb, min, List, [], ◌∷◌, ◌++◌, Option, None, Some, length, take}
use Rattle.std.proofs.Common.{drop, replicate, get_or, eqb, refl, sym, subst, inl, inr, arith}
use Rattle.std.specs.List.{filter, prefix_len}
use Rattle.std.proofs.lemmas.Bool.{true≢false, both_ways, cond_both, and_cases, or_from, or_right, ne_eqb, not-false}
use Rattle.std.proofs.lemmas.List.{length-append}
use Rattle.markdown_options.specs.declared.line_ending.LineEnding.{LineEnding}
use Rattle.markdown_options.specs.declared.line_ending.LineEnding.TheVariants.{CarriageReturnLineFeed, CarriageReturn, LineFeed}
use Rattle.markdown_options.specs.declared.configuration.Constructs.{Constructs}
use Rattle.markdown_options.specs.declared.beside.Beside.{Beside}
use Rattle.definition_block.specs.Container.{Container, Quote, Item, Footnote}
use Rattle.markdown_options.specs.declared.beside.Kind.{Kind}
use Rattle.markdown_options.specs.declared.beside.Kind.TheVariants.{Whitespace}
use Rattle.definition_text.specs.Lines.{TextLine, text_line, in_first_line, after_return, lines}
use Rattle.definition_text.specs.Columns.{Rest, tab_column, columns_after_tab, codes_from, whole, is_white, is_blank, indent, bare, is_tab_column, is_byte}
use Rattle.definition_text.specs.Columns.{bytes_of, block_codes}
use Rattle.definition_text.specs.Indents.{small_indent}
use Rattle.definition_block.specs.ContainerLine.{ContainerLine}
use Rattle.definition_block.specs.ContainerStart.{ContainerStart}
use Rattle.definition_block.specs.BlockQuote.{after_byte, after_mark, quote_prefix}
use Rattle.definition_block.specs.ListItem.{Marker, is_digit, number_of, bullet, after_number, marker, gap, is_item, item_after, item_start, is_inside}
use Rattle.definition_block.specs.GfmFootnoteDefinition.{is_footnote_label, label_before, with_colon, after_open, after_bracket, footnote_mark, footnote_of}
use Rattle.definition_block.specs.GfmFootnoteDefinition.{footnote_start}
use Rattle.definition_block.specs.Containers.{continues, quote_or, footnote_or, starts}
use Rattle.definition_block.specs.CodeIndented.{starts_code_indented}
use Rattle.definition_block.specs.CodeFenced.{Fence, fence_start, is_fence_end}
use Rattle.definition_block.specs.MathFlow.{math_start}
use Rattle.definition_block.specs.HtmlFlow.{html_start, html_ends_here, ends_before_blank}
use Rattle.definition_block.specs.HeadingAtx.{Atx, heading_atx}
use Rattle.definition_block.specs.HeadingSetext.{underline}
use Rattle.definition_block.specs.ThematicBreak.{is_break}
use Rattle.definition_text.specs.Content.{Part, is_eol, closed_by, may_escape}
use Rattle.definition_inline.specs.Label.{ends_label, label_end}
use Rattle.definition_block.specs.Definitions.{definition_cut}
use Rattle.markdown_options.specs.declared.align_kind.AlignKind.{AlignKind}
use Rattle.definition_block.specs.GfmTable.{delimiter_row, is_head}
use Rattle.text_pieces.specs.ParagraphLines.{HaveNoEnding, AreLines}
use Rattle.definition_text.specs.BlockLines.{BlockLine}
use Rattle.definition_block.specs.Tree.{Blocks, OpenLeaf, Text, Indented, Fenced, OpenHtml, OpenTable, Opening, At, Inside, Tree, nothing, empty_tree}
use Rattle.std.specs.Option.{option_and_then}
use Rattle.definition_text.proofs.Each.{WhereSome}
use Rattle.definition_block.proofs.LeafLines.{where_leaf_line, where_unwrapped}
use Rattle.definition_block.specs.Tree.{open_text, has_text, has_table, is_some_line, with_line, rest_line, takes, html_with, text_line_of, text_here}
use Rattle.definition_block.specs.Tree.{fence_tree, html_tree, atx_tree, heading_of, underlined, tabled}
use Rattle.definition_block.specs.Tree.{leaf_line, start, new, began_blank, goes_on, grow, beside_in, beside_line, step, steps}

-- ---- codes without a line ending

pub clear-drop : (n : ℕ) (cs : List ℕ) → HaveNoEnding cs → HaveNoEnding (drop n cs)
clear-drop zero cs h = h
clear-drop (suc n) [] h = tt
clear-drop (suc n) (c ∷ cs) h = clear-drop n cs h.1

pub clear-take : (n : ℕ) (cs : List ℕ) → HaveNoEnding cs → HaveNoEnding (take n cs)
clear-take zero cs h = tt
clear-take (suc n) [] h = tt
clear-take (suc n) (c ∷ cs) h = (h.0, clear-take n cs h.1)

pub clear-append : (cs ds : List ℕ) → HaveNoEnding cs → HaveNoEnding ds → HaveNoEnding (cs ++ ds)
clear-append [] ds h k = k
clear-append (c ∷ cs) ds h k = (h.0, clear-append cs ds h.1 k)

pub clear-filter : (test : ℕ → Bool) (cs : List ℕ) → HaveNoEnding cs → HaveNoEnding (filter test cs)
clear-filter test [] h = tt
clear-filter test (c ∷ cs) h =
    cond_both (test c) (c ∷ filter test cs) (filter test cs) HaveNoEnding (λ _. (h.0, clear-filter test cs h.1)) (λ _. clear-filter test cs h.1)

clear_columns : (n : ℕ) → HaveNoEnding (replicate n tab_column)
clear_columns zero = tt
clear_columns (suc n) = (refl, clear_columns n)

pub clear_codes : (column : ℕ) (bs : List ℕ) → HaveNoEnding bs → HaveNoEnding (codes_from column bs)
clear_codes column [] h = tt
clear_codes column (b ∷ bs) h =
    let n = columns_after_tab column in
    cond_both (eqb b 9) _ _ HaveNoEnding
    (λ _. (refl, clear-append (replicate n tab_column) (codes_from (column + 1 + n) bs) (clear_columns n) (clear_codes (column + 1 + n) bs h.1)))
    (λ _. (h.0, clear_codes (column + 1) bs h.1))

pub clear_block : (rest : Rest) → HaveNoEnding rest → HaveNoEnding (block_codes rest)
clear_block rest h =
    let n = prefix_len is_tab_column rest in
    clear-append (take n rest) (bytes_of rest) (clear-take n rest h) (clear-filter is_byte rest h)

-- a rest that isn't blank has a byte
some_byte : (rest : Rest) → is_blank rest ≡ false → 0 < length (bytes_of rest)
some_byte [] h = absurd (true≢false h)
some_byte (c ∷ cs) h =
    cond_both (is_byte c) (c ∷ bytes_of cs) (bytes_of cs) (λ l. 0 < length l) (λ _. omega arith)
    (λ e.
    elim (and_cases (is_white c) (is_blank cs) h) [
      | inl p ↦ absurd (both_ways (is_white c) p (or_right _ (is_tab_column c) (not-false (is_tab_column c) e)))
      | inr p ↦ some_byte cs p
    ])

some_code : (rest : Rest) → is_blank rest ≡ false → 0 < length (block_codes rest)
some_code rest h = omega (arith, some_byte rest h, length-append (take (prefix_len is_tab_column rest) rest) (bytes_of rest))

-- ---- the lines of a text

-- lines of a text: no line ending stands in them, and all but the last have one after them
abbrev pub AreTextLines : List TextLine → Type 0
AreTextLines [] = Unit {0}
AreTextLines (line ∷ []) = HaveNoEnding line.content
AreTextLines (line ∷ next ∷ others) = HaveNoEnding line.content × ((e : LineEnding) × (line.ending ≡ Some e)) × AreTextLines (next ∷ others)

pub first_clear : (line : TextLine) (others : List TextLine) → AreTextLines (line ∷ others) → HaveNoEnding line.content
first_clear line [] h = h
first_clear line (next ∷ others) h = h.0

others_are_lines : (ls : List TextLine) → AreTextLines ls → AreTextLines (drop 1 ls)
others_are_lines [] h = tt
others_are_lines (line ∷ []) h = tt
others_are_lines (line ∷ next ∷ others) h = h.2

after_empty : (e : LineEnding) (ls : List TextLine) → AreTextLines ls → AreTextLines (text_line [] (Some e) ∷ ls)
after_empty e [] h = tt
after_empty e (line ∷ others) h = (tt, (e, refl), h)

lines_after_return : (bs : List ℕ) (ls : List TextLine) → AreTextLines ls → AreTextLines (after_return bs ls)
lines_after_return [] ls h = after_empty CarriageReturn ls h
lines_after_return (b ∷ bs) ls h =
    cond_both (eqb b 10) _ _ AreTextLines
    (λ _. after_empty CarriageReturnLineFeed (drop 1 ls) (others_are_lines ls h))
    (λ _. after_empty CarriageReturn ls h)

with_first : (b : ℕ) (ls : List TextLine) → is_eol b ≡ false → AreTextLines ls → AreTextLines (in_first_line b ls)
with_first b [] clear h = (clear, tt)
with_first b (line ∷ []) clear h = (clear, h)
with_first b (line ∷ next ∷ others) clear h = ((clear, h.0), h.1, h.2)

pub lines_of_text : (text : List ℕ) → ((k : ℕ) → get_or text k 0 < 256) → AreTextLines (lines text)
lines_of_text [] h = tt
lines_of_text (b ∷ bs) h =
    let small : b < 256 = h 0 in
    let others = lines_of_text bs (λ k. h (suc k)) in
    cond_both (eqb b 10) _ _ AreTextLines (λ _. after_empty LineFeed (lines bs) others)
    (λ p.
    cond_both (eqb b 13) _ _ AreTextLines (λ _. lines_after_return bs (lines bs) others)
    (λ q. with_first b (lines bs) (or_from _ (eqb b 257) (or_from (eqb b 10) (eqb b 13) p q) (ne_eqb b 257 (λ e. omega arith))) others))

-- ---- the lines of a paragraph

-- lines of a paragraph, the last of which has this ending
abbrev pub AreLinesTo : Option LineEnding → List BlockLine → Type 0
AreLinesTo ending [] = Unit {0}
AreLinesTo ending (line ∷ []) = HaveNoEnding line.codes × (0 < length line.codes) × (line.ending ≡ ending)
AreLinesTo ending (line ∷ next ∷ others) =
    HaveNoEnding line.codes × (0 < length line.codes) × ((e : LineEnding) × (line.ending ≡ Some e)) × AreLinesTo ending (next ∷ others)

pub are_lines : (ending : Option LineEnding) (ls : List BlockLine) → AreLinesTo ending ls → AreLines ls
are_lines ending [] h = tt
are_lines ending (line ∷ []) h = (h.0, h.1)
are_lines ending (line ∷ next ∷ others) h = (h.0, h.1, h.2, are_lines ending (next ∷ others) h.3)

-- one more line, where the last one so far has an ending
one_more : (e : LineEnding) (ls : List BlockLine) (last : BlockLine) → HaveNoEnding last.codes → 0 < length last.codes
    → AreLinesTo (Some e) ls → AreLinesTo last.ending (ls ++ last ∷ [])
one_more e [] last clear some h = (clear, some, refl)
one_more e (line ∷ []) last clear some h = (h.0, h.1, (e, h.2), (clear, some, refl))
one_more e (line ∷ next ∷ others) last clear some h = (h.0, h.1, h.2, one_more e (next ∷ others) last clear some h.3)

-- ---- rests

-- the rest that is left, if any, has no line ending
abbrev SomeClear : Option Rest → Type 0
SomeClear None = Unit {0}
SomeClear (Some rest) = HaveNoEnding rest

-- the same of the rest after what goes on or starts
abbrev pub LineClear : Option ContainerLine → Type 0
LineClear None = Unit {0}
LineClear (Some line) = HaveNoEnding line.rest

abbrev pub StartedClear : Option ContainerStart → Type 0
StartedClear None = Unit {0}
StartedClear (Some s) = HaveNoEnding s.rest

abbrev MarkerClear : Option Marker → Type 0
MarkerClear None = Unit {0}
MarkerClear (Some m) = HaveNoEnding m.rest

pub clear_bare : (rest : Rest) → HaveNoEnding rest → HaveNoEnding (bare rest)
clear_bare rest h = clear-drop (indent rest) rest h

clear_after_byte : (byte : ℕ) (rest : Rest) → HaveNoEnding rest → SomeClear (after_byte byte rest)
clear_after_byte byte [] h = tt
clear_after_byte byte (c ∷ cs) h = cond_both (eqb c byte) _ _ SomeClear (λ _. h.1) (λ _. tt)

clear_after_mark : (o : Option Rest) → SomeClear o → LineClear (after_mark o)
clear_after_mark None h = tt
clear_after_mark (Some rest) h = clear-drop (min 1 (indent rest)) rest h

clear_quote : (on : Constructs) (rest : Rest) → HaveNoEnding rest → LineClear (quote_prefix on rest)
clear_quote on rest h =
    cond_both (on.block_quote && small_indent on rest) _ _ LineClear
    (λ _. clear_after_mark (after_byte 62 (bare rest)) (clear_after_byte 62 (bare rest) (clear_bare rest h))) (λ _. tt)

clear_bullet : (rest : Rest) → HaveNoEnding rest → MarkerClear (bullet rest)
clear_bullet [] h = tt
clear_bullet (c ∷ cs) h = cond_both (eqb c 45 || eqb c 43 || eqb c 42) _ _ MarkerClear (λ _. h.1) (λ _. tt)

clear_delimiter : (number digits : ℕ) (rest : Rest) → HaveNoEnding rest → MarkerClear (after_number number digits rest)
clear_delimiter number digits [] h = tt
clear_delimiter number digits (c ∷ cs) h = cond_both (eqb c 46 || eqb c 41) _ _ MarkerClear (λ _. h.1) (λ _. tt)

clear_marker : (rest : Rest) → HaveNoEnding rest → MarkerClear (marker rest)
clear_marker rest h =
    let digits = prefix_len is_digit rest in
    cond_both (eqb digits 0) _ _ MarkerClear (λ _. clear_bullet rest h)
    (λ _.
    cond_both (leb digits 9) _ _ MarkerClear
    (λ _. clear_delimiter (number_of (take digits rest)) digits (drop digits rest) (clear-drop digits rest h)) (λ _. tt))

clear_item_after : (columns : ℕ) (interrupts : Bool) (o : Option Marker) → MarkerClear o → StartedClear (item_after columns interrupts o)
clear_item_after columns interrupts None h = tt
clear_item_after columns interrupts (Some m) h = cond_both (is_item interrupts m) _ _ StartedClear (λ _. clear-drop (gap m.rest) m.rest h) (λ _. tt)

clear_item : (on : Constructs) (interrupts : Bool) (rest : Rest) → HaveNoEnding rest → StartedClear (item_start on interrupts rest)
clear_item on interrupts rest h =
    cond_both (on.list_item && small_indent on rest && not (is_break on rest)) _ _ StartedClear
    (λ _. clear_item_after (indent rest) interrupts (marker (bare rest)) (clear_marker (bare rest) (clear_bare rest h))) (λ _. tt)

clear_quote_or : (other : Option ContainerStart) (o : Option ContainerLine) → StartedClear other → LineClear o → StartedClear (quote_or other o)
clear_quote_or other None h k = h
clear_quote_or other (Some line) h k = k

-- ---- footnote definitions

abbrev PartClear : Option Part → Type 0
PartClear None = Unit {0}
PartClear (Some part) = HaveNoEnding part.rest

clear_label_end : (escaped : Bool) (rest : Rest) → HaveNoEnding rest → SomeClear (label_end escaped rest)
clear_label_end escaped [] h = tt
clear_label_end escaped (c ∷ cs) h =
    cond_both (ends_label escaped c) _ _ SomeClear (λ _. cond_both (eqb c 93) _ _ SomeClear (λ _. h) (λ _. tt))
    (λ _. clear_label_end (may_escape escaped c) cs h.1)

clear_closed : (rest : Rest) (o : Option Rest) → SomeClear o → PartClear (closed_by rest o)
clear_closed rest None h = tt
clear_closed rest (Some after) h = clear-drop 1 after h

clear_label_before : (label : List ℕ) (o : Option Rest) → SomeClear o → PartClear (label_before label o)
clear_label_before label None h = tt
clear_label_before label (Some rest) h = h

clear_colon : (o : Option Part) → PartClear o → PartClear (with_colon o)
clear_colon None h = tt
clear_colon (Some label) h =
    cond_both (is_footnote_label label.text) _ _ PartClear
    (λ _. clear_label_before label.text (after_byte 58 label.rest) (clear_after_byte 58 label.rest h)) (λ _. tt)

clear_open : (o : Option Rest) → SomeClear o → PartClear (after_open o)
clear_open None h = tt
clear_open (Some rest) h = clear_colon (closed_by rest (label_end false rest)) (clear_closed rest (label_end false rest) (clear_label_end false rest h))

clear_bracket : (o : Option Rest) → SomeClear o → PartClear (after_bracket o)
clear_bracket None h = tt
clear_bracket (Some rest) h = clear_open (after_byte 94 rest) (clear_after_byte 94 rest h)

clear_footnote_of : (o : Option Part) → PartClear o → StartedClear (footnote_of o)
clear_footnote_of None h = tt
clear_footnote_of (Some mark) h = clear_bare mark.rest h

clear_footnote : (on : Constructs) (rest : Rest) → HaveNoEnding rest → StartedClear (footnote_start on rest)
clear_footnote on rest h =
    let marked = bare rest in
    cond_both (on.gfm_footnote_definition && small_indent on rest) _ _ StartedClear
    (λ _. clear_footnote_of (footnote_mark marked) (clear_bracket (after_byte 91 marked) (clear_after_byte 91 marked (clear_bare rest h)))) (λ _. tt)

clear_footnote_or : (other o : Option ContainerStart) → StartedClear other → StartedClear o → StartedClear (footnote_or other o)
clear_footnote_or other None h k = h
clear_footnote_or other (Some footnote) h k = k

pub clear_start : (on : Constructs) (interrupts : Bool) (rest : Rest) → HaveNoEnding rest → StartedClear (starts on interrupts rest)
clear_start on interrupts rest h =
    clear_quote_or (footnote_or (item_start on interrupts rest) (footnote_start on rest)) (quote_prefix on rest)
    (clear_footnote_or (item_start on interrupts rest) (footnote_start on rest) (clear_item on interrupts rest h) (clear_footnote on rest h))
    (clear_quote on rest h)

pub clear_continue : (on : Constructs) (c : Container) (began_blank : Bool) (rest : Rest) → HaveNoEnding rest → LineClear (continues on c began_blank rest)
clear_continue on Quote began_blank rest h = clear_quote on rest h
clear_continue on (Item item) began_blank rest h =
    cond_both (is_inside item.size began_blank rest) _ _ LineClear (λ _. clear-drop item.size rest h) (λ _. tt)
clear_continue on (Footnote label) began_blank rest h =
    cond_both (is_inside 4 false rest) _ _ LineClear (λ _. clear-drop 4 rest h) (λ _. tt)

-- ---- what is open after a line

-- a rest of a line, and what stands beside it, after a line that ended with `e`
module _ (on : Constructs) (e : LineEnding) (beside : Beside) where
  -- the open paragraph has the lines of a paragraph, up to this line
  abbrev OpenTo : Tree → Type 0
  OpenTo t = AreLinesTo beside.ending (open_text t.now)

  abbrev SomeOpenTo : Option Tree → Type 0
  SomeOpenTo o = WhereSome OpenTo o

  open_html : (kind : ℕ) (ls : List BlockLine) (rest : Rest) → OpenTo (html_with kind ls rest beside)
  open_html kind ls rest = cond_both (html_ends_here kind rest) _ _ OpenTo (λ _. tt) (λ _. tt)

  open_takes : (leaf : OpenLeaf) (rest : Rest) → SomeOpenTo (takes on leaf rest beside)
  open_takes (Text ls) rest = tt
  open_takes (Indented ls pending) rest =
      cond_both (is_blank rest) _ _ SomeOpenTo (λ _. tt) (λ _. cond_both (starts_code_indented on rest) _ _ SomeOpenTo (λ _. tt) (λ _. tt))
  open_takes (Fenced fence opening ls) rest = cond_both (is_fence_end on fence rest) _ _ SomeOpenTo (λ _. tt) (λ _. tt)
  open_takes (OpenHtml kind ls) rest = cond_both (ends_before_blank kind && is_blank rest) _ _ SomeOpenTo (λ _. tt) (λ _. open_html kind ls rest)
  open_takes (OpenTable ls) rest = tt

  open_atx : (o : Option Atx) → WhereSome (λ (atx : Atx). OpenTo (atx_tree beside atx)) o
  open_atx None = tt
  open_atx (Some atx) = tt

  open_fence : (o : Option Fence) → WhereSome (λ (fence : Fence). OpenTo (fence_tree beside fence)) o
  open_fence None = tt
  open_fence (Some fence) = tt

  open_html_start : (rest : Rest) (o : Option ℕ) → WhereSome (λ kind. OpenTo (html_tree rest beside kind)) o
  open_html_start rest None = tt
  open_html_start rest (Some kind) = open_html kind [] rest

  open_heading : (rank : ℕ) (definitions : Blocks) (ls : List BlockLine) → SomeOpenTo (heading_of rank definitions ls beside.ending)
  open_heading rank definitions [] = tt
  open_heading rank definitions (line ∷ others) = tt

  open_underlined : (o : Option ℕ) (ls : List BlockLine) → SomeOpenTo (option_and_then (underlined on ls beside.ending) o)
  open_underlined None ls = tt
  open_underlined (Some rank) ls = open_heading rank (definition_cut on ls).definitions (definition_cut on ls).left

  -- a line on the open paragraph, or the first of one
  open_with_line : (line : BlockLine) (now : Opening) → HaveNoEnding line.codes → 0 < length line.codes → AreLinesTo (Some e) (open_text now)
      → AreLinesTo line.ending (open_text (with_line line now))
  open_with_line line (At (Text ls)) clear some h = one_more e ls line clear some h
  open_with_line line (At leaf) clear some h = tt
  open_with_line line (Inside c kids inner) clear some h = open_with_line line inner clear some h

  open_text_line : (away : Opening) (rest : Rest) → HaveNoEnding rest → is_blank rest ≡ false → AreLinesTo (Some e) (open_text away)
      → OpenTo (text_line_of on away rest beside)
  open_text_line away rest clear some h =
      cond_both (has_text away || has_table away) _ _ OpenTo
      (λ _. open_with_line (rest_line rest beside) away (clear_block rest clear) (some_code rest some) h)
      (λ _. (clear_block rest clear, some_code rest some, refl))

  open_table : (o : Option (List AlignKind)) (ls : List BlockLine) (row : BlockLine) → SomeOpenTo (option_and_then (tabled on ls row) o)
  open_table None ls row = tt
  open_table (Some columns) ls row =
      cond_both (is_some_line (definition_cut on ls).left && is_head (length columns) ls) _ _ SomeOpenTo (λ _. tt) (λ _. tt)

  open_leaf_line : (away : Opening) (rest : Rest) → HaveNoEnding rest → AreLinesTo (Some e) (open_text away) → OpenTo (leaf_line on away rest beside)
  open_leaf_line away rest clear h =
      where_leaf_line OpenTo OpenTo on away rest beside
      record {
        blank = λ _. tt;
        closes = λ t k. k;
        indented = λ _. tt;
        fenced = open_fence (fence_start on rest);
        math = open_fence (math_start on rest);
        html = open_html_start rest (html_start on (has_text away) rest);
        heading = open_atx (heading_atx on rest);
        underlined = open_underlined (underline on rest) (text_here away);
        breaks = λ _. tt;
        tabled = open_table (delimiter_row on rest) (text_here away) (rest_line rest beside);
        text = λ some. open_text_line away rest clear some h;
      }

-- what is open after containers that start, and after those that go on
module _ (on : Constructs) (e : LineEnding) where
  open_start : (beside : Beside) (o : Option ContainerStart) (away : Opening) (other : Tree) (more : ContainerStart → Tree) → StartedClear o
      → OpenTo on e beside other
      → ((s : ContainerStart) → HaveNoEnding s.rest → OpenTo on e beside (more s)) → OpenTo on e beside (start on o away other more)
  open_start beside None away other more p q m = q
  open_start beside (Some s) away other more p q m = m s p

  open_new : (beside : Beside) (most : ℕ) (all : Bool) (away : Opening) (rest : Rest) → HaveNoEnding rest → AreLinesTo (Some e) (open_text away)
      → OpenTo on e beside (new most on all away beside rest)
  open_new beside zero all away rest clear h = open_leaf_line on e beside away rest clear h
  open_new beside (suc most) all away rest clear h =
      open_start beside (starts on (all && has_text away) rest) away (leaf_line on away rest beside) _
      (clear_start on (all && has_text away) rest clear) (open_leaf_line on e beside away rest clear h)
      (λ s k. open_new (beside_in s.before beside) most true nothing s.rest k tt)

  open_goes_on : (beside : Beside) (o : Option ContainerLine) (c : Container) (kids : Blocks) (inner : Opening) (rest : Rest) (more : ContainerLine → Tree)
      → LineClear o → HaveNoEnding rest → AreLinesTo (Some e) (open_text inner)
      → ((line : ContainerLine) → HaveNoEnding line.rest → OpenTo on e beside (more line)) → OpenTo on e beside (goes_on o on c kids inner beside rest more)
  open_goes_on beside None c kids inner rest more p clear h m = open_new beside (length rest) false (Inside c kids inner) rest clear h
  open_goes_on beside (Some line) c kids inner rest more p clear h m = m line p

  open_grow : (beside : Beside) (now : Opening) (rest : Rest) → HaveNoEnding rest → AreLinesTo (Some e) (open_text now)
      → OpenTo on e beside (grow on beside now rest)
  open_grow beside (At leaf) rest clear h =
      where_unwrapped (OpenTo on e beside) (takes on leaf rest beside) (new (length rest) on true (At leaf) beside rest) (open_takes on e beside leaf rest)
      (open_new beside (length rest) true (At leaf) rest clear h)
  open_grow beside (Inside c kids inner) rest clear h =
      open_goes_on beside (continues on c (began_blank kids inner) rest) c kids inner rest (λ line. grow on (beside_in line.before beside) inner line.rest)
      (clear_continue on c (began_blank kids inner) rest clear) clear h (λ line k. open_grow (beside_in line.before beside) inner line.rest k h)

-- ---- the lines of a text, one by one

module _ (on : Constructs) where
  pub open_step : (before : Kind) (e : LineEnding) (t : Tree) (line : TextLine) → HaveNoEnding line.content → AreLinesTo (Some e) (open_text t.now)
      → AreLinesTo line.ending (open_text (step on before t line).now)
  open_step before e t line clear h = open_grow on e (beside_line before line) t.now (whole line.content) (clear_codes 0 line.content clear) h

  open_steps : (before : Kind) (e : LineEnding) (t : Tree) (read left : List TextLine) → AreTextLines (read ++ left) → AreLinesTo (Some e) (open_text t.now)
      → AreLines (open_text (steps on before t read).now)
  open_steps before e t [] left p h = are_lines (Some e) (open_text t.now) h
  open_steps before e t (line ∷ []) left p h =
      are_lines line.ending (open_text (step on before t line).now) (open_step before e t line (first_clear line left p) h)
  open_steps before e t (line ∷ next ∷ others) left p h =
      let more = step on before t line in
      open_steps Whitespace p.1.0 more (next ∷ others) left p.2 (subst (λ o. AreLinesTo o (open_text more.now)) p.1.1 (open_step before e t line p.0 h))

-- the open paragraph has the lines of a paragraph, after any lines of a text
pub open_lines : (on : Constructs) (before : Kind) (text : List ℕ) → ((k : ℕ) → get_or text k 0 < 256)
    → (read left : List TextLine) → read ++ left ≡ lines text
    → AreLines (open_text (steps on before empty_tree read).now)
open_lines on before text bytes read left same =
    open_steps on before LineFeed empty_tree read left (subst AreTextLines (sym same) (lines_of_text text bytes)) tt
