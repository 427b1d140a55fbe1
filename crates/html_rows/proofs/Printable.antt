-- The blocks of a text can be printed: paragraphs have lines of the text, the ranks of headings are from 1 to 6, infos are bytes, and items have markers.
use Rattle.std.proofs.Common.{◌≡◌, ℕ, zero, suc, ◌-◌, ◌<◌, ◌≤◌, get_or, lit≤, List, [], ◌∷◌, ◌++◌, Option, None, Some, Bool, true, false, ◌&&◌, ◌||◌, ◌==◌, not}
use Rattle.std.proofs.Common.{leb, refl, sym, subst, ap, take, drop, length, arith}
use Rattle.html_rows.proofs.Prelude.{AlignKind, AreClear, AreLines, ArePrintable, bare, Blank, Block, BlockLine, Blocks, bytes_of, CanBePrinted, Cons}
use Rattle.html_rows.proofs.Prelude.{Constructs, Container, ContainerLine, ContainerStart, Ending, HaveNoEnding, Heading, IfSome, if◌then◌else◌, indent}
use Rattle.html_rows.proofs.Prelude.{is_blank, is_byte, is_eol, IsPrintable, IsPrintableContainer, Kind, Leaf, LineEnding, list_all, Nil, own_lines}
use Rattle.html_rows.proofs.Prelude.{prefix_len, Quote, Rest, Row, rows_of, rows_value, RowsValue, small_indent, starts, value_with}
use Rattle.std.specs.List.{suffix_len, position_or_len}
use Rattle.std.proofs.lemmas.List.{length-append, length-drop}
use Rattle.std.proofs.lemmas.Bool.{and_parts, and_from, leb-true}
use Rattle.markdown_options.specs.declared.beside.Beside.{Beside}
use Rattle.markdown_options.specs.declared.beside.Kind.TheVariants.{Whitespace}
use Rattle.definition_text.specs.Lines.{TextLine, lines}
use Rattle.definition_text.specs.Columns.{whole, is_white, trim}
use Rattle.definition_text.specs.Runs.{run, after_run, is_run}
use Rattle.definition_block.specs.Containers.{continues}
use Rattle.definition_block.specs.CodeFenced.{Fence, first_word, fence_of, fence_start, is_fence_end}
use Rattle.definition_block.specs.MathFlow.{math_info, math_start}
use Rattle.definition_block.specs.Frontmatter.{is_metadata_fence, after_metadata_fence, after_frontmatter}
use Rattle.definition_block.specs.CodeIndented.{starts_code_indented}
use Rattle.definition_block.specs.GfmTable.{delimiter_row, is_head}
use Rattle.definition_block.specs.HeadingAtx.{Atx, atx_of, begins_apart, ends_apart, without_run, without_closing, heading_atx}
use Rattle.definition_block.specs.HeadingSetext.{underline_of, underline}
use Rattle.definition_block.specs.HtmlFlow.{html_start, html_ends_here, ends_before_blank}
use Rattle.definition_text.specs.Content.{content_of}
use Rattle.definition_inline.specs.Definition.{Definition as LinkDefinition, definition_at}
use Rattle.definition_block.specs.Definitions.{DefinitionCut, cut_into, cut_after, cut_most, definition_cut, definition_lines, lines_before}
use Rattle.block_rows.proofs.OpenLines.{AreTextLines, AreLinesTo, LineClear, StartedClear, clear-take, clear-drop, clear-filter, clear_codes, clear_block}
use Rattle.block_rows.proofs.OpenLines.{clear_bare, clear_start, clear_continue, lines_of_text, are_lines, open_step}
use Rattle.markdown_options.specs.declared.line_ending.LineEnding.TheVariants.{LineFeed}
use Rattle.definition_block.specs.Tree.{leaf_text, open_text, beside_in, beside_line, in_container, Html}
use Rattle.definition_block.specs.Tree.{join, one, block_and_ending, OpenLeaf, Text}
use Rattle.definition_block.specs.Tree.{Indented, Fenced, OpenHtml, OpenTable, Opening, At, Inside, Tree, tree, nothing, empty_tree, paragraph_of, close_leaf}
use Rattle.definition_block.specs.Tree.{close, blanks, is_ending, all_endings, front, trailing, without_last, last_of, container_block, has_text, has_table}
use Rattle.definition_block.specs.Tree.{is_some_line}
use Rattle.definition_block.specs.Tree.{table_of, tabled, makes_table, with_line, rest_line, html_with, takes, indented_tree, fence_tree, html_tree, atx_tree}
use Rattle.definition_block.specs.Tree.{break_tree, text_here, heading_of, underlined, turns, after, text_line_of, leaf_line, start, new}
use Rattle.std.specs.Option.{option_and_then}
use Rattle.definition_text.proofs.Each.{WhereSome}
use Rattle.definition_block.proofs.LeafLines.{where_leaf_line, where_unwrapped}
use Rattle.definition_block.specs.Tree.{began_blank}
use Rattle.definition_block.specs.Tree.{goes_on, grow, step, steps, blocks_at_end, children_after, blocks}
use Rattle.html_looseness.specs.Printable.{IsTable}
use Rattle.html_rows.proofs.Choose.{choose_if, choose}
use Rattle.html_rows.proofs.Lines.{own_length}
use Rattle.html_rows.proofs.OwnLines.{without_ending, heading_lines}
use Rattle.html_rows.proofs.ListItemLemmas.{StartFits, starts_fits}
use Rattle.html_rows.proofs.RowsOf.{printable_rows_of}

-- ---- infos are bytes

abbrev AreBytes : List ℕ → Type 0
AreBytes text = list_all is_byte text ≡ true

bytes_front : (n : ℕ) (text : List ℕ) → AreBytes text → AreBytes (take n text)
bytes_front zero text h = refl
bytes_front (suc n) [] h = refl
bytes_front (suc n) (b ∷ bs) h = let parts = and_parts (is_byte b) (list_all is_byte bs) h in and_from (is_byte b) _ parts.0 (bytes_front n bs parts.1)

bytes_after : (n : ℕ) (text : List ℕ) → AreBytes text → AreBytes (drop n text)
bytes_after zero text h = h
bytes_after (suc n) [] h = refl
bytes_after (suc n) (b ∷ bs) h = bytes_after n bs (and_parts (is_byte b) (list_all is_byte bs) h).1

bytes_are_bytes : (rest : Rest) → AreBytes (bytes_of rest)
bytes_are_bytes [] = refl
bytes_are_bytes (code ∷ codes) =
    choose_if AreBytes (is_byte code) (code ∷ bytes_of codes) (bytes_of codes) (λ h. and_from (is_byte code) _ h (bytes_are_bytes codes))
    (bytes_are_bytes codes)

trimmed_bytes : (text : List ℕ) → AreBytes text → AreBytes (trim text)
trimmed_bytes text h =
    let rest = drop (prefix_len is_white text) text in
    bytes_front (length rest - suffix_len is_white rest) rest (bytes_after (prefix_len is_white text) text h)

bare_clear : (rest : Rest) → HaveNoEnding rest → HaveNoEnding (bytes_of (bare rest))
bare_clear rest h = clear-filter is_byte (bare rest) (clear_bare rest h)

trimmed_clear : (text : List ℕ) → HaveNoEnding text → HaveNoEnding (trim text)
trimmed_clear text h =
    let rest = drop (prefix_len is_white text) text in
    clear-take (length rest - suffix_len is_white rest) rest (clear-drop (prefix_len is_white text) text h)

word_clear : (text : List ℕ) → HaveNoEnding text → HaveNoEnding (first_word text)
word_clear text h = clear-take (position_or_len is_white (trim text)) (trim text) (trimmed_clear text h)

word_bytes : (text : List ℕ) → AreBytes text → AreBytes (first_word text)
word_bytes text h = bytes_front (position_or_len is_white (trim text)) (trim text) (trimmed_bytes text h)

abbrev IsInfo : List ℕ → Type 0
IsInfo text = AreBytes text × HaveNoEnding text

-- the first word after a fence
word_after : (n : ℕ) (text : List ℕ) → AreBytes text → HaveNoEnding text → IsInfo (first_word (drop n text))
word_after n text h k = (word_bytes (drop n text) (bytes_after n text h), word_clear (drop n text) (clear-drop n text k))

record FenceFits (o : Option Fence) : Type 0 where
  info : IfSome o (λ fence. IsInfo fence.info)

fence_of_fits : (columns : ℕ) (text : List ℕ) → AreBytes text → HaveNoEnding text → FenceFits (fence_of columns text)
fence_of_fits columns text h k =
    choose FenceFits (leb 3 (run 96 text) && list_all (λ b. not (b == 96)) (after_run 96 text)) _ _ record { info = word_after (run 96 text) text h k }
    (choose FenceFits (leb 3 (run 126 text)) _ _ record { info = word_after (run 126 text) text h k } record { info = tt })

fence_start_fits : (on : Constructs) (rest : Rest) → HaveNoEnding rest → FenceFits (fence_start on rest)
fence_start_fits on rest clear =
    choose FenceFits (on.code_fenced && small_indent on rest) _ _ (fence_of_fits (indent rest) (bytes_of (bare rest)) (bytes_are_bytes (bare rest))
    (bare_clear rest clear)) record { info = tt }

-- the info of math
clear_test : (b : Bool) → not b ≡ true → b ≡ false
clear_test true h = sym h
clear_test false h = refl

clear_text : (text : List ℕ) → list_all (λ c. not (is_eol c)) text ≡ true → HaveNoEnding text
clear_text [] h = tt
clear_text (c ∷ cs) h = let parts = and_parts (not (is_eol c)) (list_all (λ d. not (is_eol d)) cs) h in (clear_test (is_eol c) parts.0, clear_text cs parts.1)

math_start_fits : (on : Constructs) (rest : Rest) → FenceFits (math_start on rest)
math_start_fits on rest =
    let text = bytes_of (bare rest) in
    choose FenceFits (on.math_flow && small_indent on rest) _ _
    (choose FenceFits (leb 2 (run 36 text) && list_all (λ b. not (b == 36)) (after_run 36 text)) _ _ record { info = (refl, clear_text math_info refl) } record
    { info = tt })
    record { info = tt }

-- ---- ranks are from 1 to 6

without_closing_clear : (text : List ℕ) → HaveNoEnding text → HaveNoEnding (without_closing text)
without_closing_clear text h =
    choose HaveNoEnding (ends_apart (without_run text)) _ _
    (trimmed_clear (without_run text) (clear-take (length text - suffix_len (λ b. b == 35) text) text h)) h

record AtxFits (o : Option Atx) : Type 0 where
  rank : IfSome o (λ atx. (1 ≤ atx.rank) × (atx.rank ≤ 6))
  content : IfSome o (λ atx. HaveNoEnding atx.content)

no_atx : AtxFits None
no_atx = record { rank = tt; content = tt }

atx_of_fits : (text : List ℕ) → HaveNoEnding text → AtxFits (atx_of text)
atx_of_fits text clear =
    let rank = run 35 text in
    choose_if AtxFits (leb 1 rank && leb rank 6 && begins_apart (after_run 35 text)) _ _
    (λ h.
    let all = and_parts (leb 1 rank && leb rank 6) _ h in
    let both = and_parts (leb 1 rank) (leb rank 6) all.0 in
    let after = after_run 35 text in
    record {
      rank = (leb-true 1 rank both.0, leb-true rank 6 both.1);
      content = without_closing_clear (trim after) (trimmed_clear after (clear-drop rank text clear));
    })
    no_atx

heading_fits : (on : Constructs) (rest : Rest) → HaveNoEnding rest → AtxFits (heading_atx on rest)
heading_fits on rest clear = choose AtxFits (on.heading_atx && small_indent on rest) _ _ (atx_of_fits (bytes_of (bare rest)) (bare_clear rest clear)) no_atx

record RankFits (o : Option ℕ) : Type 0 where
  rank : IfSome o (λ rank. (1 ≤ rank) × (rank ≤ 6))

underline_of_fits : (text : List ℕ) → RankFits (underline_of text)
underline_of_fits text =
    choose RankFits (is_run 1 61 text) (Some 1) (if is_run 1 45 text then Some 2 else None) record { rank = (lit≤ tt, lit≤ tt) }
    (choose RankFits (is_run 1 45 text) (Some 2) None record { rank = (lit≤ tt, lit≤ tt) } record { rank = tt })

underline_fits : (on : Constructs) (rest : Rest) → RankFits (underline on rest)
underline_fits on rest =
    choose RankFits (on.heading_setext && small_indent on rest) (underline_of (bytes_of (bare rest))) None (underline_of_fits (bytes_of (bare rest))) record
    { rank = tt }

-- ---- blocks

joined : (bs others : Blocks) → CanBePrinted bs → CanBePrinted others → CanBePrinted (join bs others)
joined Nil others h k = k
joined (Cons b bs) others h k = (h.0, joined bs others h.1 k)

ending_printable : (b : Block) → is_ending b ≡ true → IsPrintable b
ending_printable (Ending ending) h = tt
ending_printable (Blank ending) h = tt
ending_printable b h = let wrong : false ≡ true = h in cc

endings_printable : (bs : Blocks) → all_endings bs ≡ true → CanBePrinted bs
endings_printable Nil h = tt
endings_printable (Cons b bs) h =
    let parts = and_parts (is_ending b) (all_endings bs) h in
    (ending_printable b parts.0, endings_printable bs parts.1)

trailing_printable : (bs : Blocks) → CanBePrinted (trailing bs)
trailing_printable Nil = tt
trailing_printable (Cons b bs) =
    choose_if CanBePrinted (all_endings (Cons b bs)) (Cons b bs) (trailing bs) (λ h. endings_printable (Cons b bs) h) (trailing_printable bs)

last_printable : (bs : Blocks) → CanBePrinted (last_of bs)
last_printable Nil = tt
last_printable (Cons b Nil) = choose_if CanBePrinted (is_ending b) (one b) Nil (λ h. (ending_printable b h, tt)) tt
last_printable (Cons b (Cons c bs)) = last_printable (Cons c bs)

front_printable : (bs : Blocks) → CanBePrinted bs → CanBePrinted (front bs)
front_printable Nil h = tt
front_printable (Cons b bs) h = choose CanBePrinted (all_endings (Cons b bs)) Nil (Cons b (front bs)) tt (h.0, front_printable bs h.1)

without_last_printable : (bs : Blocks) → CanBePrinted bs → CanBePrinted (without_last bs)
without_last_printable Nil h = tt
without_last_printable (Cons b Nil) h = choose CanBePrinted (is_ending b) Nil (one b) tt h
without_last_printable (Cons b (Cons c bs)) h = (h.0, without_last_printable (Cons c bs) h.1)

holds_printable : (c : Container) (kids : Blocks) → IsPrintableContainer c → CanBePrinted kids → CanBePrinted (container_block c kids)
holds_printable Quote kids h k = ((tt, without_last_printable kids k), last_printable kids)
holds_printable c kids h k = ((h, front_printable kids k), trailing_printable kids)

blanks_printable : (ls : List BlockLine) → CanBePrinted (blanks ls)
blanks_printable [] = tt
blanks_printable (l ∷ ls) = (tt, blanks_printable ls)

-- ---- definitions at the front of a paragraph

cut_after_printable : (o : Option LinkDefinition) (ls : List BlockLine) (more : List BlockLine → DefinitionCut)
    → ((left : List BlockLine) → CanBePrinted (more left).definitions) → CanBePrinted (cut_after o ls more).definitions
cut_after_printable None ls more h = tt
cut_after_printable (Some d) ls more h =
    let count = lines_before d.rest ls in
    joined (definition_lines d (take count ls)) (more (drop count ls)).definitions (tt, (tt, tt)) (h (drop count ls))

cut_most_printable : (most : ℕ) (ls : List BlockLine) → CanBePrinted (cut_most most ls).definitions
cut_most_printable zero ls = tt
cut_most_printable (suc most) ls = cut_after_printable (definition_at (content_of (own_lines ls))) ls (cut_most most) (cut_most_printable most)

cut_printable : (on : Constructs) (ls : List BlockLine) → CanBePrinted (definition_cut on ls).definitions
cut_printable on ls = choose (λ (c : DefinitionCut). CanBePrinted c.definitions) on.definition (cut_most (length ls) ls) (cut_into Nil ls)
    (cut_most_printable (length ls) ls) tt

-- the lines that are left of a paragraph
lines_left : (n : ℕ) (ls : List BlockLine) → AreLines ls → AreLines (drop n ls)
lines_left zero ls h = h
lines_left (suc n) [] h = tt
lines_left (suc n) (a ∷ []) h = lines_left n [] tt
lines_left (suc n) (a ∷ b ∷ others) h = lines_left n (b ∷ others) h.3

cut_after_left : (o : Option LinkDefinition) (ls : List BlockLine) (more : List BlockLine → DefinitionCut)
    → AreLines ls → ((left : List BlockLine) → AreLines left → AreLines (more left).left) → AreLines (cut_after o ls more).left
cut_after_left None ls more h k = h
cut_after_left (Some d) ls more h k = let count = lines_before d.rest ls in k (drop count ls) (lines_left count ls h)

cut_most_left : (most : ℕ) (ls : List BlockLine) → AreLines ls → AreLines (cut_most most ls).left
cut_most_left zero ls h = h
cut_most_left (suc most) ls h = cut_after_left (definition_at (content_of (own_lines ls))) ls (cut_most most) h (cut_most_left most)

cut_left : (on : Constructs) (ls : List BlockLine) → AreLines ls → AreLines (definition_cut on ls).left
cut_left on ls h = choose (λ (c : DefinitionCut). AreLines c.left) on.definition (cut_most (length ls) ls) (cut_into Nil ls) (cut_most_left (length ls) ls h) h

paragraph_printable : (ls : List BlockLine) → AreLines ls → CanBePrinted (paragraph_of ls)
paragraph_printable [] h = tt
paragraph_printable (l ∷ ls) h = (without_ending (l ∷ ls) h, (tt, tt))

-- ---- tables

clear_lines : (ls : List BlockLine) → AreLines ls → AreClear ls
clear_lines [] h = tt
clear_lines (a ∷ []) h = (h.0, tt)
clear_lines (a ∷ b ∷ others) h = (h.0, clear_lines (b ∷ others) h.3)

clear_longer : (ls : List BlockLine) (line : BlockLine) → AreClear ls → HaveNoEnding line.codes → AreClear (ls ++ line ∷ [])
clear_longer [] line h clear = (clear, tt)
clear_longer (a ∷ ls) line h clear = (h.0, clear_longer ls line h.1 clear)

longer_table : (ls : List BlockLine) (line : BlockLine) → IsTable ls → HaveNoEnding line.codes → IsTable (ls ++ line ∷ [])
longer_table ls line h clear = (omega (arith, h.0, length-append ls (line ∷ [])), clear_longer ls line h.1 clear)

own_clear : (ls : List BlockLine) → AreClear ls → AreClear (own_lines ls)
own_clear [] h = tt
own_clear (a ∷ []) h = h
own_clear (a ∷ b ∷ others) h = (h.0, own_clear (b ∷ others) h.1)

own_table : (ls : List BlockLine) → IsTable ls → IsTable (own_lines ls)
own_table ls h = (omega (arith, h.0, own_length ls), own_clear ls h.1)

-- the last of the lines that are left is the head
headed_table : (ls : List BlockLine) (row : BlockLine) → is_some_line ls ≡ true → AreLines ls → HaveNoEnding row.codes
    → IsTable (drop (length ls - 1) ls ++ row ∷ [])
headed_table [] row some clean clear = let wrong : false ≡ true = some in cc
headed_table (a ∷ ls) row some clean clear =
    let n = length (a ∷ ls) - 1 in
    let left = drop n (a ∷ ls) in
    (omega (arith, length-drop n (a ∷ ls), length-append left (row ∷ [])), clear_longer left row (clear_lines left (lines_left n (a ∷ ls) clean)) clear)

-- the lines before it are a paragraph
lines_taken : (n : ℕ) (ls : List BlockLine) → AreLines ls → AreLines (take n ls)
lines_taken zero ls h = tt
lines_taken (suc n) [] h = tt
lines_taken (suc zero) (a ∷ []) h = h
lines_taken (suc (suc n)) (a ∷ []) h = h
lines_taken (suc zero) (a ∷ b ∷ others) h = (h.0, h.1)
lines_taken (suc (suc n)) (a ∷ b ∷ others) h = (h.0, h.1, h.2, lines_taken (suc n) (b ∷ others) h.3)

-- ---- what is open

abbrev LeafFits : OpenLeaf → Type 0
LeafFits (Fenced fence opening ls) = IsInfo fence.info
LeafFits (OpenTable ls) = IsTable ls
LeafFits leaf = Unit {0}

abbrev Fits : Opening → Type 0
Fits (At leaf) = LeafFits leaf
Fits (Inside c kids inner) = IsPrintableContainer c × CanBePrinted kids × Fits inner

record TreeFits (t : Tree) : Type 0 where
  done : CanBePrinted t.done
  now : Fits t.now

fits : (t : Tree) → CanBePrinted t.done → Fits t.now → TreeFits t
fits t h k = record { done = h; now = k }

record OptionFits (o : Option Tree) : Type 0 where
  tree : IfSome o TreeFits

some_fits : (t : Tree) → CanBePrinted t.done → Fits t.now → OptionFits (Some t)
some_fits t h k = record { tree = fits t h k }

leaf_closed : (on : Constructs) (leaf : OpenLeaf) → LeafFits leaf → AreLines (leaf_text leaf) → CanBePrinted (close_leaf on leaf)
leaf_closed on (Text ls) h clean =
    joined (definition_cut on ls).definitions (paragraph_of (definition_cut on ls).left) (cut_printable on ls)
    (paragraph_printable (definition_cut on ls).left (cut_left on ls clean))
leaf_closed on (Indented ls pending) h clean = (tt, (tt, blanks_printable pending))
leaf_closed on (Fenced fence opening ls) h clean = (h, (tt, tt))
leaf_closed on (OpenHtml kind ls) h clean = (tt, (tt, tt))
leaf_closed on (OpenTable ls) h clean = (own_table ls h, (tt, tt))

close_printable : (on : Constructs) (now : Opening) → Fits now → AreLines (open_text now) → CanBePrinted (close on now)
close_printable on (At leaf) h clean = leaf_closed on leaf h clean
close_printable on (Inside c kids inner) h clean =
    holds_printable c (join kids (close on inner)) h.0 (joined kids (close on inner) h.1 (close_printable on inner h.2 clean))

-- what isn't gone on with can be closed
record CanClose (now : Opening) : Type 0 where
  fits : Fits now
  lines : AreLines (open_text now)

after_fits : (on : Constructs) (away : Opening) (t : Tree) → CanClose away → TreeFits t → TreeFits (after on away t)
after_fits on away t h k = record { done = joined (close on away) t.done (close_printable on away h.fits h.lines) k.done; now = k.now }

with_line_fits : (line : BlockLine) (now : Opening) → HaveNoEnding line.codes → Fits now → Fits (with_line line now)
with_line_fits line (At (Fenced fence opening ls)) clear h = h
with_line_fits line (At (OpenTable ls)) clear h = longer_table ls line h clear
with_line_fits line (At leaf) clear h = tt
with_line_fits line (Inside c kids inner) clear h = (h.0, h.1, with_line_fits line inner clear h.2)

-- ---- a line

module _ (on : Constructs) (e : Beside) (r : Rest) where
  html_with_fits : (kind : ℕ) (ls : List BlockLine) → TreeFits (html_with kind ls r e)
  html_with_fits kind ls =
      let more = ls ++ rest_line r e ∷ [] in
      choose TreeFits (html_ends_here kind r) (tree (block_and_ending (Leaf (Html (own_lines more))) e.ending) nothing) (tree Nil (At (OpenHtml kind more)))
      (fits (tree (block_and_ending (Leaf (Html (own_lines more))) e.ending) nothing) (tt, (tt, tt)) tt) (fits (tree Nil (At (OpenHtml kind more))) tt tt)

  takes_fits : (leaf : OpenLeaf) → LeafFits leaf → OptionFits (takes on leaf r e)
  takes_fits (Text ls) h = record { tree = tt }
  takes_fits (Indented ls pending) h =
      choose OptionFits (is_blank r) _ _ (some_fits _ tt tt) (choose OptionFits (starts_code_indented on r) _ _ (some_fits _ tt tt) record { tree = tt })
  takes_fits (Fenced fence opening ls) h = choose OptionFits (is_fence_end on fence r) _ _ (some_fits _ (h, (tt, tt)) tt) (some_fits _ tt h)
  takes_fits (OpenTable ls) h = record { tree = tt }
  takes_fits (OpenHtml kind ls) h =
      choose OptionFits (ends_before_blank kind && is_blank r) None (Some (html_with kind ls r e)) record { tree = tt } record { tree = html_with_fits kind ls }

  atx_tree_fits : (o : Option Atx) → AtxFits o → WhereSome (λ (atx : Atx). TreeFits (atx_tree e atx)) o
  atx_tree_fits None h = tt
  atx_tree_fits (Some atx) h = fits (atx_tree e atx) ((h.rank, h.content), (tt, tt)) tt

  fence_tree_fits : (o : Option Fence) → FenceFits o → WhereSome (λ (fence : Fence). TreeFits (fence_tree e fence)) o
  fence_tree_fits None h = tt
  fence_tree_fits (Some fence) h = fits (fence_tree e fence) tt h.info

  html_tree_fits : (o : Option ℕ) → WhereSome (λ kind. TreeFits (html_tree r e kind)) o
  html_tree_fits None = tt
  html_tree_fits (Some kind) = html_with_fits kind []

  heading_of_fits : (rank : ℕ) (definitions : Blocks) (ls : List BlockLine) → (1 ≤ rank) × (rank ≤ 6) → CanBePrinted definitions → AreLines ls
      → OptionFits (heading_of rank definitions ls e.ending)
  heading_of_fits rank definitions [] h k clean = record { tree = tt }
  heading_of_fits rank definitions (l ∷ ls) h k clean =
      let heading = block_and_ending (Leaf (Heading rank (own_lines (l ∷ ls)))) e.ending in
      some_fits (tree (join definitions heading) nothing) (joined definitions heading k ((h, heading_lines (l ∷ ls) clean), (tt, tt))) tt

  underlined_fits : (o : Option ℕ) (ls : List BlockLine) → RankFits o → AreLines ls → OptionFits (option_and_then (underlined on ls e.ending) o)
  underlined_fits None ls h clean = record { tree = tt }
  underlined_fits (Some rank) ls h clean =
      heading_of_fits rank (definition_cut on ls).definitions (definition_cut on ls).left h.rank (cut_printable on ls) (cut_left on ls clean)

  -- the lines of the open paragraph where the line is in all of its containers
  lines_here : (away : Opening) → AreLines (open_text away) → AreLines (text_here away)
  lines_here (At leaf) clean = clean
  lines_here (Inside c kids inner) clean = tt

  turns_fits : (away : Opening) → AreLines (open_text away) → OptionFits (turns on away r e.ending)
  turns_fits away clean = underlined_fits (underline on r) (text_here away) (underline_fits on r) (lines_here away clean)

  text_fits : (away : Opening) → HaveNoEnding r → CanClose away → TreeFits (text_line_of on away r e)
  text_fits away clear h =
      let line = rest_line r e in
      choose TreeFits (has_text away || has_table away) _ _ (fits (tree Nil (with_line line away)) tt (with_line_fits line away (clear_block r clear) h.fits))
      (after_fits on away (tree Nil (At (Text (line ∷ [])))) h (fits (tree Nil (At (Text (line ∷ [])))) tt tt))

  tabled_fits : (o : Option (List AlignKind)) (ls : List BlockLine) → HaveNoEnding r → AreLines ls → OptionFits (option_and_then (tabled on ls (rest_line r e)) o)
  tabled_fits None ls clear clean = record { tree = tt }
  tabled_fits (Some columns) ls clear clean =
      let left = (definition_cut on ls).left in
      let front = take (length left - 1) left in
      let clean_left = cut_left on ls clean in
      choose_if OptionFits (is_some_line left && is_head (length columns) ls) _ None
      (λ both.
      some_fits (table_of (definition_cut on ls).definitions left (rest_line r e))
      (joined (definition_cut on ls).definitions (paragraph_of front) (cut_printable on ls)
      (paragraph_printable front (lines_taken (length left - 1) left clean_left)))
      (headed_table left (rest_line r e) (and_parts (is_some_line left) (is_head (length columns) ls) both).0 clean_left (clear_block r clear)))
      record { tree = tt }

  where_fits : (o : Option Tree) → OptionFits o → WhereSome TreeFits o
  where_fits None h = tt
  where_fits (Some t) h = h.tree

  leaf_line_fits : (away : Opening) → HaveNoEnding r → CanClose away → TreeFits (leaf_line on away r e)
  leaf_line_fits away clear h =
      let t = tree (one (Blank e.ending)) nothing in
      where_leaf_line TreeFits TreeFits on away r e
      record {
        blank = λ _. after_fits on away t h (fits t (tt, tt) tt);
        closes = λ begun k. after_fits on away begun h k;
        indented = λ _. fits (indented_tree r e) tt tt;
        fenced = fence_tree_fits (fence_start on r) (fence_start_fits on r clear);
        math = fence_tree_fits (math_start on r) (math_start_fits on r);
        html = html_tree_fits (html_start on (has_text away) r);
        heading = atx_tree_fits (heading_atx on r) (heading_fits on r clear);
        underlined = where_fits (turns on away r e.ending) (turns_fits away h.lines);
        breaks = λ _. fits (break_tree e) (tt, (tt, tt)) tt;
        tabled = where_fits (makes_table on away r e) (tabled_fits (delimiter_row on r) (text_here away) clear (lines_here away h.lines));
        text = λ _. text_fits away clear h;
      }

  start_fits : (o : Option ContainerStart) (away : Opening) (other : Tree) (more : ContainerStart → Tree) → StartFits o → StartedClear o → CanClose away
      → TreeFits other → ((s : ContainerStart) → HaveNoEnding s.rest → TreeFits (more s)) → TreeFits (start on o away other more)
  start_fits None away other more s clear h k l = k
  start_fits (Some s) away other more c clear h k l =
      let t = tree Nil (Inside s.container (more s).done (more s).now) in
      let f = l s clear in
      after_fits on away t h (fits t tt (c.container, f.done, f.now))

  in_container_fits : (c : Container) (kids : Blocks) (t : Tree) → IsPrintableContainer c → CanBePrinted kids → TreeFits t → TreeFits (in_container c kids t)
  in_container_fits c kids t h k f = fits (in_container c kids t) tt (h, joined kids t.done k f.done, f.now)

-- containers that start, and a leaf
new_fits : (on : Constructs) (e : Beside) (most : ℕ) (all : Bool) (away : Opening) (r : Rest) → HaveNoEnding r → CanClose away
    → TreeFits (new most on all away e r)
new_fits on e zero all away r clear h = leaf_line_fits on e r away clear h
new_fits on e (suc most) all away r clear h =
    let interrupts = all && has_text away in
    start_fits on e r (starts on interrupts r) away (leaf_line on away r e) _ (starts_fits on interrupts r) (clear_start on interrupts r clear) h
    (leaf_line_fits on e r away clear h)
    (λ s k. new_fits on (beside_in s.before e) most true nothing s.rest k record { fits = tt; lines = tt })

goes_on_fits : (on : Constructs) (e : Beside) (r : Rest) (o : Option ContainerLine) (c : Container) (kids : Blocks) (inner : Opening)
    (more : ContainerLine → Tree) → HaveNoEnding r → LineClear o → CanClose (Inside c kids inner)
    → ((line : ContainerLine) → HaveNoEnding line.rest → TreeFits (more line)) → TreeFits (goes_on o on c kids inner e r more)
goes_on_fits on e r None c kids inner more clear some h k = new_fits on e (length r) false (Inside c kids inner) r clear h
goes_on_fits on e r (Some line) c kids inner more clear some h k = in_container_fits on e r c kids (more line) h.fits.0 h.fits.1 (k line some)

grow_fits : (on : Constructs) (e : Beside) (now : Opening) (r : Rest) → HaveNoEnding r → CanClose now → TreeFits (grow on e now r)
grow_fits on e (At leaf) r clear h =
    where_unwrapped TreeFits (takes on leaf r e) (new (length r) on true (At leaf) e r) (where_fits on e r (takes on leaf r e) (takes_fits on e r leaf h.fits))
    (new_fits on e (length r) true (At leaf) r clear h)
grow_fits on e (Inside c kids inner) r clear h =
    goes_on_fits on e r (continues on c (began_blank kids inner) r) c kids inner (λ line. grow on (beside_in line.before e) inner line.rest) clear
    (clear_continue on c (began_blank kids inner) r clear) h
    (λ line k. grow_fits on (beside_in line.before e) inner line.rest k record { fits = h.fits.2; lines = h.lines })

-- ---- the whole

step_fits : (on : Constructs) (before : Kind) (t : Tree) (line : TextLine) → HaveNoEnding line.content → AreLines (open_text t.now) → TreeFits t
    → TreeFits (step on before t line)
step_fits on before t line clear clean h =
    let beside = beside_line before line in
    let more = grow_fits on beside t.now (whole line.content) (clear_codes 0 line.content clear) record { fits = h.now; lines = clean } in
    record { done = joined t.done (grow on beside t.now (whole line.content)).done h.done more.done; now = more.now }

closed_printable : (on : Constructs) (t : Tree) → TreeFits t → AreLines (open_text t.now) → CanBePrinted (blocks_at_end on t)
closed_printable on t h clean = joined t.done (close on t.now) h.done (close_printable on t.now h.now clean)

-- after a line that ended with `e`
steps_printable : (on : Constructs) (before : Kind) (e : LineEnding) (t : Tree) (ls : List TextLine) → AreTextLines ls → AreLinesTo (Some e) (open_text t.now)
    → TreeFits t → CanBePrinted (blocks_at_end on (steps on before t ls))
steps_printable on before e t [] p k h = closed_printable on t h (are_lines (Some e) (open_text t.now) k)
steps_printable on before e t (line ∷ []) p k h =
    let more = step on before t line in
    closed_printable on more (step_fits on before t line p (are_lines (Some e) (open_text t.now) k) h)
    (are_lines line.ending (open_text more.now) (open_step on before e t line p k))
steps_printable on before e t (line ∷ next ∷ others) p k h =
    let more = step on before t line in
    steps_printable on Whitespace p.1.0 more (next ∷ others) p.2 (subst (λ o. AreLinesTo o (open_text more.now)) p.1.1 (open_step on before e t line p.0 k))
    (step_fits on before t line p.0 (are_lines (Some e) (open_text t.now) k) h)

-- the lines after a frontmatter are lines of a text, too
left_are_lines : (line : TextLine) (others : List TextLine) → AreTextLines (line ∷ others) → AreTextLines others
left_are_lines line [] h = tt
left_are_lines line (next ∷ others) h = h.2

abbrev SomeLines : Option (List TextLine) → Type 0
SomeLines None = Unit {0}
SomeLines (Some ls) = AreTextLines ls

after_fence_lines : (byte : ℕ) (ls : List TextLine) → AreTextLines ls → SomeLines (after_metadata_fence byte ls)
after_fence_lines byte [] h = tt
after_fence_lines byte (line ∷ others) h =
    let left : AreTextLines others = left_are_lines line others h in
    choose SomeLines (is_metadata_fence byte line.content) (Some others) (after_metadata_fence byte others) left (after_fence_lines byte others left)

after_front_lines : (on : Constructs) (ls : List TextLine) → AreTextLines ls → SomeLines (after_frontmatter on ls)
after_front_lines on [] h = tt
after_front_lines on (line ∷ others) h =
    let left : AreTextLines others = left_are_lines line others h in
    choose SomeLines (on.frontmatter && is_metadata_fence 45 line.content) _ _ (after_fence_lines 45 others left)
    (choose SomeLines (on.frontmatter && is_metadata_fence 43 line.content) _ None (after_fence_lines 43 others left) tt)

children_printable : (on : Constructs) (before : Kind) (ls : List TextLine) (o : Option (List TextLine)) → AreTextLines ls → SomeLines o
    → CanBePrinted (children_after on before ls o)
children_printable on before ls None clean left = steps_printable on before LineFeed empty_tree ls clean tt (fits empty_tree tt tt)
children_printable on before ls (Some others) clean left = steps_printable on Whitespace LineFeed empty_tree others left tt (fits empty_tree tt tt)

pub blocks_printable : (on : Constructs) (before : Kind) (text : List ℕ) → ((k : ℕ) → get_or text k 0 < 256) → CanBePrinted (blocks on before text)
blocks_printable on before text bytes =
    let clean = lines_of_text text bytes in
    children_printable on before (lines text) (after_frontmatter on (lines text)) clean (after_front_lines on (lines text) clean)

-- rows that stand for the blocks of a text
pub shown_printable : (on : Constructs) (before : Kind) (text : List ℕ) (rows : List Row) (ls left : List BlockLine) → ((k : ℕ) → get_or text k 0 < 256)
    → rows_value rows ls ≡ value_with (rows_of (blocks on before text)) left → ArePrintable (rows_value rows ls).rows
shown_printable on before text rows ls left bytes h =
    subst ArePrintable (sym (ap (λ (s : RowsValue). s.rows) h)) (printable_rows_of (blocks on before text) (blocks_printable on before text bytes))
