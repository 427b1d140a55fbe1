-- One more line in a quote.
use Rattle.std.proofs.Common.{◌≡◌, ℕ, suc, ◌+◌, List, [], ◌∷◌, None, Some, Bool, true, false, ◌&&◌, refl, sym, ap, ◌∙◌, length, drop, arith}
use Rattle.std.specs.Prelude.{if◌then◌else◌, min, map}
use Rattle.markdown_options.specs.declared.configuration.Constructs.{Constructs}
use Rattle.markdown_options.specs.declared.beside.Kind.{Kind}
use Rattle.markdown_options.specs.declared.beside.Kind.TheVariants.{Whitespace}
use Rattle.definition_block.specs.Container.{Quote}
use Rattle.definition_text.specs.Lines.{TextLine}
use Rattle.definition_text.specs.Columns.{Rest, bare, indent, codes_from}
use Rattle.definition_text.specs.Indents.{small_indent}
use Rattle.definition_block.specs.ContainerLine.{container_line}
use Rattle.definition_block.specs.BlockQuote.{after_byte, after_mark, quote_prefix}
use Rattle.definition_block.specs.ListItem.{item_start}
use Rattle.definition_block.specs.GfmFootnoteDefinition.{footnote_start}
use Rattle.definition_block.specs.Containers.{quote_or, footnote_or}
use Rattle.definition_block.specs.Definitions.{cut_into, cut_most}
use Rattle.definition_block.specs.Tree.{beside_in, beside_line, Nil, join, Inside, Tree, tree, nothing, empty_tree, with_paragraph, after, leaf_line, start}
use Rattle.definition_block.specs.Tree.{new, goes_on, grow, step, steps}
use Rattle.laws_quote.specs.Laws.{quoted_line}
use Rattle.laws_quote.proofs.Tabs.{Tabless, codes_from-Tabless, LinesTabless}
use Rattle.laws_quote.proofs.Starting.{new-suc}

-- a quote that holds all children of a tree
abbrev pub in_quote : Tree → Tree
in_quote t = tree Nil (Inside Quote t.done t.now)

-- ---- the rest after `> `

min-one : (n : ℕ) → min 1 (1 + n) ≡ 1
min-one n = omega arith

quote_prefix-quoted : (on : Constructs) (codes : Rest) → on.block_quote ≡ true → quote_prefix on (62 ∷ 32 ∷ codes) ≡ Some (container_line codes Whitespace)
quote_prefix-quoted on codes quotes =
    let rest = 62 ∷ 32 ∷ codes in
    ap (λ quote. if quote && small_indent on rest then after_mark (after_byte 62 (bare rest)) else None) quotes
    ∙ ap (λ n. Some (container_line (drop n (32 ∷ codes)) Whitespace)) (min-one (indent codes))

-- ---- nothing is closed where nothing is open

closed_nothing : (cuts : Bool) → with_paragraph (if cuts then cut_most 0 [] else cut_into Nil []) ≡ Nil
closed_nothing true = refl
closed_nothing false = refl

pub after-nothing : (on : Constructs) (t : Tree) → after on nothing t ≡ t
after-nothing on t = ap (λ closed. tree (join closed t.done) t.now) (closed_nothing on.definition)

-- ---- a line with `> ` before its content

module _ (on : Constructs) (quotes : on.block_quote ≡ true) where
  -- a line goes on in the quote
  step-in_quote : (before : Kind) (t : Tree) (line : TextLine) → Tabless line.content
      → step on before (in_quote t) (quoted_line line) ≡ in_quote (step on Whitespace t line)
  step-in_quote before t line no_tab =
      let codes = codes_from 2 line.content in
      let beside = beside_line Whitespace line in
      ap (λ o.
      let more =
      goes_on o on Quote t.done t.now (beside_line before line) (62 ∷ 32 ∷ codes) (λ l. grow on (beside_in l.before (beside_line before line)) t.now l.rest)
      in
      tree more.done more.now)
      (quote_prefix-quoted on codes quotes)
      ∙ ap (λ rest. let more = grow on beside t.now rest in in_quote (tree (join t.done more.done) more.now))
      (codes_from-Tabless 2 line.content no_tab ∙ sym (codes_from-Tabless 0 line.content no_tab))

  pub steps-in_quote : (ls : List TextLine) (t : Tree) → LinesTabless ls
      → steps on Whitespace (in_quote t) (map quoted_line ls) ≡ in_quote (steps on Whitespace t ls)
  steps-in_quote [] t no_tabs = refl
  steps-in_quote (line ∷ ls) t no_tabs =
      ap (λ u. steps on Whitespace u (map quoted_line ls)) (step-in_quote Whitespace t line no_tabs.0)
      ∙ steps-in_quote ls (step on Whitespace t line) no_tabs.1

  -- the first line starts the quote
  new-quoted : (before : Kind) (most : ℕ) (codes : Rest) (line : TextLine)
      → new (suc most) on true nothing (beside_line before line) (62 ∷ 32 ∷ codes) ≡ in_quote (new most on true nothing (beside_line Whitespace line) codes)
  new-quoted before most codes line =
      let rest = 62 ∷ 32 ∷ codes in
      let beside = beside_line before line in
      ap (λ o. start on (quote_or (footnote_or (item_start on false rest) (footnote_start on rest)) o) nothing (leaf_line on nothing rest beside)
      (λ s. new most on true nothing (beside_in s.before beside) s.rest))
      (quote_prefix-quoted on codes quotes)
      ∙ after-nothing on (in_quote (new most on true nothing (beside_line Whitespace line) codes))

  pub step-quoted : (before : Kind) (line : TextLine) → Tabless line.content
      → step on before empty_tree (quoted_line line) ≡ in_quote (step on Whitespace empty_tree line)
  step-quoted before line no_tab =
      let codes = codes_from 2 line.content in
      let beside = beside_line Whitespace line in
      new-quoted before (suc (length codes)) codes line
      ∙ ap in_quote (new-suc on beside (length codes) codes (omega arith))
      ∙ ap (λ rest. in_quote (new (length rest) on true nothing beside rest))
      (codes_from-Tabless 2 line.content no_tab ∙ sym (codes_from-Tabless 0 line.content no_tab))
