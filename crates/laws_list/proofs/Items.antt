-- A text with `+ ` before its first line and two spaces before every other is one item.
use Rattle.std.proofs.Common.{◌≡◌, ℕ, suc, ◌+◌, List, [], ◌∷◌, None, Some, Option, Bool, true, false, true≢false, cond, ◌&&◌, ◌||◌, not, leb, refl, sym, ap}
use Rattle.std.proofs.Common.{◌∙◌, length, drop, arith, inr, map}
use Rattle.std.specs.List.{list_all, prefix_len}
use Rattle.std.proofs.lemmas.Bool.{and_right, le-leb, not-true}
use Rattle.markdown_options.specs.declared.configuration.Constructs.{Constructs}
use Rattle.markdown_options.specs.declared.beside.Kind.{Kind}
use Rattle.markdown_options.specs.declared.beside.Kind.TheVariants.{Whitespace}
use Rattle.definition_text.specs.Columns.{Rest, is_white, is_blank, indent, bare, bytes_of, codes_from}
use Rattle.definition_text.specs.Indents.{small_indent}
use Rattle.definition_text.specs.Lines.{TextLine, text_line, lines, first_of}
use Rattle.definition_block.specs.Container.{Container, Item}
use Rattle.definition_block.specs.ContainerLine.{container_line}
use Rattle.definition_block.specs.ContainerStart.{ContainerStart, container_start}
use Rattle.definition_block.specs.BlockQuote.{quote_prefix}
use Rattle.definition_block.specs.ListItem.{item_after, item_start, item_continues, marker}
use Rattle.definition_block.specs.ThematicBreak.{is_break, is_break_text}
use Rattle.definition_block.specs.GfmFootnoteDefinition.{footnote_start}
use Rattle.definition_block.specs.Containers.{quote_or, footnote_or, starts}
use Rattle.definition_block.specs.Tree.{Blocks, Nil, join, Inside, Tree, tree, nothing, empty_tree, front, trailing, container_block}
use Rattle.definition_block.specs.Tree.{beside_in}
use Rattle.definition_block.specs.Tree.{beside_line, leaf_line, start, new, began_blank, goes_on, grow, step, steps, blocks_at_end, children, blocks}
use Rattle.definition_block.specs.Definitions.{definitions}
use Rattle.laws_block.proofs.TextLines.{join-front}
use Rattle.laws_quote.proofs.Tabs.{Tabless, Tabless-from_All, codes_from-Tabless, LinesTabless, lines_tabless}
use Rattle.laws_quote.proofs.Starting.{new-suc}
use Rattle.laws_quote.proofs.Grown.{after-nothing}
use Rattle.laws_quote.proofs.Quotes.{blocks-children}
use Rattle.laws_quote.proofs.Endings.{definitions-join}
use Rattle.laws_list.specs.Listed.{list_lines}
use Rattle.laws_list.specs.Laws.{indented_line, listed_lines, begins_dark, plus_item, ListLaw, ListDefinitionsLaw}
use Rattle.laws_list.proofs.Lines.{listed_lines_law}
use Rattle.laws_list.proofs.Begun.{IsBegun, begun_blank, new_begun, more_begun}

-- an item that holds all children of a tree
abbrev in_item : Tree → Tree
in_item t = tree Nil (Inside plus_item t.done t.now)

-- ---- the item that the first line starts

abbrev plus_of : ℕ → Container
plus_of size = Item (record { marker = 43; number = None; size = size })

-- the item of `+ ` before codes of which the first is white or not
abbrev found_by : Bool → ℕ → Rest → Option ContainerStart
found_by white c cs =
    let blank : Bool = white && list_all is_white cs in
    let columns = 1 + cond white (1 + prefix_len is_white cs) 0 in
    let gap = cond (blank || leb 5 columns) 1 columns in
    cond (cond blank true (leb 1 columns && true)) (Some (container_start (plus_of (0 + 1 + gap)) (drop gap (32 ∷ c ∷ cs)) Whitespace)) None

item_found : (c : ℕ) (cs : Rest) → is_white c ≡ false → item_after 0 false (marker (43 ∷ 32 ∷ c ∷ cs)) ≡ Some (container_start plus_item (c ∷ cs) Whitespace)
item_found c cs h = ap (λ white. found_by white c cs) h

no_break : (on : Constructs) (codes : Rest) → is_break on (43 ∷ 32 ∷ codes) ≡ false
no_break on codes = and_right (on.thematic_break && small_indent on (43 ∷ 32 ∷ codes)) (is_break_text (bytes_of (bare (43 ∷ 32 ∷ codes)))) refl

either_way : {X : Type 0} (test : Bool) (o : Option X) → cond test o o ≡ o
either_way true o = refl
either_way false o = refl

no_quote : (on : Constructs) (codes : Rest) → quote_prefix on (43 ∷ codes) ≡ None
no_quote on codes = either_way (on.block_quote && small_indent on (43 ∷ codes)) None

no_footnote : (on : Constructs) (codes : Rest) → footnote_start on (43 ∷ codes) ≡ None
no_footnote on codes = either_way (on.gfm_footnote_definition && small_indent on (43 ∷ codes)) None

module _ (on : Constructs) (items : on.list_item ≡ true) where
  starts_item : (c : ℕ) (cs : Rest) → is_white c ≡ false → starts on false (43 ∷ 32 ∷ c ∷ cs) ≡ Some (container_start plus_item (c ∷ cs) Whitespace)
  starts_item c cs h =
      let rest = 43 ∷ 32 ∷ c ∷ cs in
      let found = item_after 0 false (marker rest) in
      ap (λ o. quote_or (footnote_or (item_start on false rest) (footnote_start on rest)) o) (no_quote on (32 ∷ c ∷ cs))
      ∙ ap (λ o. footnote_or (item_start on false rest) o) (no_footnote on (32 ∷ c ∷ cs))
      ∙ ap (λ is. cond (is && true && not (is_break on rest)) found None) items
      ∙ ap (λ breaks. cond (not breaks) found None) (no_break on (c ∷ cs))
      ∙ item_found c cs h

  new-listed : (before : Kind) (most : ℕ) (c : ℕ) (cs : Rest) (line : TextLine) → is_white c ≡ false
      → new (suc most) on true nothing (beside_line before line) (43 ∷ 32 ∷ c ∷ cs) ≡ in_item (new most on true nothing (beside_line Whitespace line) (c ∷ cs))
  new-listed before most c cs line h =
      let rest = 43 ∷ 32 ∷ c ∷ cs in
      let beside = beside_line before line in
      ap (λ o. start on o nothing (leaf_line on nothing rest beside) (λ s. new most on true nothing (beside_in s.before beside) s.rest))
      (starts_item c cs h)
      ∙ after-nothing on (in_item (new most on true nothing (beside_line Whitespace line) (c ∷ cs)))

  step_codes : (before : Kind) (line : TextLine) (codes : Rest) → begins_dark codes ≡ true
      → new (suc (suc (length codes))) on true nothing (beside_line before line) (43 ∷ 32 ∷ codes)
      ≡ in_item (new (length codes) on true nothing (beside_line Whitespace line) codes)
  step_codes before line [] h = absurd (true≢false (sym h))
  step_codes before line (c ∷ cs) h =
      new-listed before (suc (length (c ∷ cs))) c cs line (not-true (is_white c) h)
      ∙ ap in_item (new-suc on (beside_line Whitespace line) (length (c ∷ cs)) (c ∷ cs) (omega arith))

  step-listed : (before : Kind) (line : TextLine) → Tabless line.content → begins_dark line.content ≡ true
      → step on before empty_tree (text_line (43 ∷ 32 ∷ line.content) line.ending) ≡ in_item (step on Whitespace empty_tree line)
  step-listed before line no_tab h =
      let beside = beside_line Whitespace line in
      ap (λ codes. new (suc (suc (length codes))) on true nothing (beside_line before line) (43 ∷ 32 ∷ codes)) (codes_from-Tabless 2 line.content no_tab)
      ∙ step_codes before line line.content h
      ∙ sym (ap (λ rest. in_item (new (length rest) on true nothing beside rest)) (codes_from-Tabless 0 line.content no_tab))

  -- ---- another line

  inside_by : (bb blank : Bool) (columns : ℕ) → bb ≡ false → cond blank (not bb) (leb 2 (1 + (1 + columns))) ≡ true
  inside_by bb true columns h = ap not h
  inside_by bb false columns h = le-leb 2 (1 + (1 + columns)) (omega arith)

  continues-indented : (bb : Bool) (codes : Rest) → bb ≡ false → item_continues 2 bb (32 ∷ 32 ∷ codes) ≡ Some (container_line codes Whitespace)
  continues-indented bb codes h = ap (λ is. cond is (Some (container_line codes Whitespace)) None) (inside_by bb (is_blank codes) (indent codes) h)

  step-in_item : (before : Kind) (t : Tree) (line : TextLine) → IsBegun t → Tabless line.content
      → step on before (in_item t) (indented_line line) ≡ in_item (step on Whitespace t line)
  step-in_item before t line b no_tab =
      let codes = codes_from 2 line.content in
      let beside = beside_line Whitespace line in
      ap (λ o.
      let more =
      goes_on o on plus_item t.done t.now (beside_line before line) (32 ∷ 32 ∷ codes)
      (λ l. grow on (beside_in l.before (beside_line before line)) t.now l.rest)
      in
      tree more.done more.now)
      (continues-indented (began_blank t.done t.now) codes (begun_blank t b))
      ∙ ap (λ rest. let more = grow on beside t.now rest in in_item (tree (join t.done more.done) more.now))
      (codes_from-Tabless 2 line.content no_tab ∙ sym (codes_from-Tabless 0 line.content no_tab))

  steps-in_item : (ls : List TextLine) (t : Tree) → IsBegun t → LinesTabless ls
      → steps on Whitespace (in_item t) (map indented_line ls) ≡ in_item (steps on Whitespace t ls)
  steps-in_item [] t b no_tabs = refl
  steps-in_item (line ∷ ls) t b no_tabs =
      ap (λ u. steps on Whitespace u (map indented_line ls)) (step-in_item Whitespace t line b no_tabs.0)
      ∙ steps-in_item ls (step on Whitespace t line) (more_begun on (beside_line Whitespace line) t _ b) no_tabs.1

  -- ---- the whole

  dark_codes : (codes : Rest) → begins_dark codes ≡ true → is_blank codes ≡ false
  dark_codes [] h = absurd (true≢false (sym h))
  dark_codes (c ∷ cs) h = dark_by (is_white c) (is_blank cs) h
    where
      dark_by : (white blank : Bool) → not white ≡ true → (white && blank) ≡ false
      dark_by true blank h = absurd (true≢false (sym h))
      dark_by false blank h = refl

  first_begun : (line : TextLine) → Tabless line.content → begins_dark line.content ≡ true → IsBegun (step on Whitespace empty_tree line)
  first_begun line no_tab h =
      let codes = codes_from 0 line.content in
      let same = codes_from-Tabless 0 line.content no_tab in
      new_begun on (length codes) true nothing (beside_line Whitespace line) codes (inr (ap is_blank same ∙ dark_codes line.content h))

  lines_item : (before : Kind) (ls : List TextLine) → begins_dark (first_of ls).content ≡ true → LinesTabless ls
      → steps on before empty_tree (listed_lines ls) ≡ in_item (steps on Whitespace empty_tree ls)
  lines_item before [] h no_tabs = absurd (true≢false (sym h))
  lines_item before (line ∷ ls) h no_tabs =
      ap (λ t. steps on Whitespace t (map indented_line ls)) (step-listed before line no_tabs.0 h)
      ∙ steps-in_item ls (step on Whitespace empty_tree line) (first_begun line no_tabs.0 h) no_tabs.1

  text_item : (off : on.frontmatter ≡ false) (before : Kind) (text : List ℕ) → begins_dark (first_of (lines text)).content ≡ true → Tabless text
      → blocks on before (list_lines text) ≡ container_block plus_item (blocks on Whitespace text)
  text_item off before text h no_tab =
      blocks-children on before (list_lines text) off
      ∙ ap (children on before) (listed_lines_law text)
      ∙ ap (blocks_at_end on) (lines_item before (lines text) h (lines_tabless text no_tab))
      ∙ sym (ap (container_block plus_item) (blocks-children on Whitespace text off))

-- ---- definitions

definitions-item : (kids : Blocks) → definitions (container_block plus_item kids) ≡ definitions kids
definitions-item kids = sym (definitions-join (front kids) (trailing kids)) ∙ ap definitions (join-front kids)

pub list_law : ListLaw
list_law on before text items off h no_tab = text_item on items off before text h (Tabless-from_All text no_tab)

pub list_definitions_law : ListDefinitionsLaw
list_definitions_law on before text items off h no_tab =
    ap definitions (text_item on items off before text h (Tabless-from_All text no_tab)) ∙ definitions-item (blocks on Whitespace text)
