-- A text with `> ` before every line is a quote.
use Rattle.std.proofs.Common.{◌≡◌, ℕ, zero, suc, List, [], ◌∷◌, None, ◌&&◌, true, false, refl, sym, ap, ◌∙◌}
use Rattle.std.specs.Prelude.{if◌then◌else◌, map}
use Rattle.std.specs.Fn.{iterate}
use Rattle.markdown_options.specs.declared.configuration.Constructs.{Constructs}
use Rattle.markdown_options.specs.declared.beside.Kind.{Kind}
use Rattle.markdown_options.specs.declared.beside.Kind.TheVariants.{Whitespace}
use Rattle.definition_block.specs.Container.{Quote}
use Rattle.definition_text.specs.Lines.{TextLine, lines}
use Rattle.definition_block.specs.Frontmatter.{is_metadata_fence, after_metadata_fence, after_frontmatter}
use Rattle.definition_block.specs.Tree.{join, without_last, last_of, container_block, empty_tree, step, steps, blocks_at_end, children, children_after, blocks}
use Rattle.definition_block.specs.Definitions.{definitions}
use Rattle.laws_block.proofs.TextLines.{join-without_last}
use Rattle.laws_quote.specs.Quoted.{marked_after_endings, quote_lines}
use Rattle.laws_quote.specs.Laws.{quoted_line, quote_of, QuoteLaw, QuotesLaw, QuoteDefinitionsLaw}
use Rattle.laws_quote.proofs.Tabs.{Tabless, Tabless-from_All, LinesTabless, lines_tabless, quoted_tabless}
use Rattle.laws_quote.proofs.Lines.{HasLine, lines_some, quoted_lines_law}
use Rattle.laws_quote.proofs.Grown.{in_quote, step-quoted, steps-in_quote}
use Rattle.laws_quote.proofs.Endings.{without_last-quote, last_of-quote, definitions-holds}

-- ---- without frontmatter the children of a document are those of all its lines

after_frontmatter-off : (on : Constructs) (ls : List TextLine) → on.frontmatter ≡ false → after_frontmatter on ls ≡ None
after_frontmatter-off on [] off = refl
after_frontmatter-off on (line ∷ ls) off =
    ap (λ matters.
    if matters && is_metadata_fence 45 line.content then after_metadata_fence 45 ls
    else (if matters && is_metadata_fence 43 line.content then after_metadata_fence 43 ls else None))
    off

pub blocks-children : (on : Constructs) (before : Kind) (text : List ℕ) → on.frontmatter ≡ false → blocks on before text ≡ children on before (lines text)
blocks-children on before text off = ap (children_after on before (lines text)) (after_frontmatter-off on (lines text) off)

-- ---- one quote

module _ (on : Constructs) (quotes : on.block_quote ≡ true) (off : on.frontmatter ≡ false) where
  -- the tree of lines with `> ` before their contents
  lines_quote : (before : Kind) (ls : List TextLine) → HasLine ls → LinesTabless ls
      → steps on before empty_tree (map quoted_line ls) ≡ in_quote (steps on Whitespace empty_tree ls)
  lines_quote before [] some no_tabs = absurd some
  lines_quote before (line ∷ ls) some no_tabs =
      ap (λ t. steps on Whitespace t (map quoted_line ls)) (step-quoted on quotes before line no_tabs.0)
      ∙ steps-in_quote on quotes ls (step on Whitespace empty_tree line) no_tabs.1

  -- a text that isn't empty
  text_quote : (before : Kind) (b : ℕ) (bs : List ℕ) → Tabless (b ∷ bs)
      → blocks on before (quote_lines (b ∷ bs)) ≡ container_block Quote (blocks on Whitespace (b ∷ bs))
  text_quote before b bs no_tab =
      blocks-children on before (quote_lines (b ∷ bs)) off
      ∙ ap (children on before) (quoted_lines_law (b ∷ bs))
      ∙ ap (blocks_at_end on) (lines_quote before (lines (b ∷ bs)) (lines_some b bs) (lines_tabless (b ∷ bs) no_tab))
      ∙ sym (ap (container_block Quote) (blocks-children on Whitespace (b ∷ bs) off))

  -- the same with `> ` n times
  text_quotes : (n b : ℕ) (bs : List ℕ) → Tabless (b ∷ bs)
      → let kids = blocks on Whitespace (b ∷ bs) in
      blocks on Whitespace (iterate quote_lines n (b ∷ bs)) ≡ join (iterate quote_of n (without_last kids)) (last_of kids)
  text_quotes zero b bs no_tab = sym (join-without_last (blocks on Whitespace (b ∷ bs)))
  text_quotes (suc n) b bs no_tab =
      let kids = blocks on Whitespace (b ∷ bs) in
      let one_quote = text_quote Whitespace b bs no_tab in
      text_quotes n 62 (32 ∷ marked_after_endings (b ∷ bs)) (quoted_tabless (b ∷ bs) no_tab)
      ∙ ap (λ all. join (iterate quote_of n (without_last all)) (last_of all)) one_quote
      ∙ ap (λ inner. join (iterate quote_of n inner) (last_of (container_block Quote kids))) (without_last-quote (without_last kids) kids)
      ∙ ap (λ last. join (iterate quote_of n (quote_of (without_last kids))) last) (last_of-quote (without_last kids) kids)

  -- the definitions, also those of the empty text, which has none
  text_definitions : (before : Kind) (text : List ℕ) → Tabless text → definitions (blocks on before (quote_lines text))
      ≡ definitions (blocks on Whitespace text)
  text_definitions before [] no_tab = refl
  text_definitions before (b ∷ bs) no_tab = ap definitions (text_quote before b bs no_tab) ∙ definitions-holds (blocks on Whitespace (b ∷ bs))

pub quote_law : QuoteLaw
quote_law on before [] quotes off some no_tab = absurd (some refl)
quote_law on before (b ∷ bs) quotes off some no_tab = text_quote on quotes off before b bs (Tabless-from_All (b ∷ bs) no_tab)

pub quotes_law : QuotesLaw
quotes_law on [] n quotes off some no_tab = absurd (some refl)
quotes_law on (b ∷ bs) n quotes off some no_tab = text_quotes on quotes off n b bs (Tabless-from_All (b ∷ bs) no_tab)

pub quote_definitions_law : QuoteDefinitionsLaw
quote_definitions_law on before text quotes off no_tab = text_definitions on quotes off before text (Tabless-from_All text no_tab)
