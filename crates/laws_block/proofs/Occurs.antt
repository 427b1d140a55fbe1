-- Which blocks a text can have.
use Rattle.std.proofs.Common.{◌≡◌, ℕ, suc, zero, Bool, true, false, cond, not, ◌&&◌, ◌||◌, ◌-◌, leb, List, [], ◌∷◌, Option, None, Some, length, take, drop}
use Rattle.std.proofs.Common.{refl, ap, ◌∙◌, eqb, ◌⊎◌, inl, inr, arith}
use Rattle.std.specs.Prelude.{◌==◌, ◌<◌}
use Rattle.std.specs.List.{prefix_len, position_or_len, list_all}
use Rattle.std.proofs.lemmas.List.{get_or-take}
use Rattle.std.proofs.lemmas.List.Folds.{length-prefix_len}
use Rattle.std.proofs.lemmas.List.Sums.{list_all-from_AllPass, prefix_len_passes}
use Rattle.std.proofs.lemmas.Bool.{cond-false, and_left, cond_both, and_parts, or_parts, or_from, or_left, or_right, or_cases, both_ways, not_from_true}
use Rattle.markdown_options.specs.declared.line_ending.LineEnding.{LineEnding}
use Rattle.markdown_options.specs.declared.configuration.Constructs.{Constructs}
use Rattle.markdown_options.specs.declared.beside.Beside.{Beside}
use Rattle.markdown_options.specs.declared.beside.Kind.{Kind}
use Rattle.markdown_options.specs.declared.beside.Kind.TheVariants.{Whitespace}
use Rattle.definition_block.specs.Container.{Container, Quote, Item, Footnote}
use Rattle.definition_text.specs.Lines.{TextLine, lines}
use Rattle.definition_text.specs.Columns.{Rest, whole, is_blank, is_white, trim, indent, bare, bytes_of}
use Rattle.definition_text.specs.Indents.{small_indent}
use Rattle.definition_block.specs.ContainerLine.{ContainerLine}
use Rattle.definition_block.specs.ContainerStart.{ContainerStart}
use Rattle.definition_block.specs.GfmFootnoteDefinition.{footnote_mark, footnote_of, footnote_start}
use Rattle.definition_block.specs.Containers.{continues, starts, quote_or, footnote_or}
use Rattle.definition_block.proofs.GfmFootnoteDefinition.{footnote_either}
use Rattle.definition_block.specs.BlockQuote.{quote_prefix}
use Rattle.definition_block.specs.ListItem.{Marker, is_digit, number_of, bullet, after_number, marker, is_item, item_after, item_start}
use Rattle.definition_block.specs.CodeIndented.{starts_code_indented}
use Rattle.definition_block.specs.CodeFenced.{Fence, first_word, is_fence_end, fence_start}
use Rattle.definition_block.specs.MathFlow.{math_start}
use Rattle.definition_block.specs.Frontmatter.{is_metadata_fence, after_frontmatter}
use Rattle.definition_block.specs.HtmlFlow.{html_start, html_ends_here, ends_before_blank}
use Rattle.definition_block.specs.HeadingAtx.{Atx, heading_atx}
use Rattle.definition_block.specs.HeadingSetext.{underline, underline_of}
use Rattle.definition_text.specs.Runs.{run, after_run, is_run}
use Rattle.definition_block.specs.ThematicBreak.{is_break}
use Rattle.markdown_options.specs.declared.align_kind.AlignKind.{AlignKind}
use Rattle.definition_block.specs.GfmTable.{delimiter_row, delimiters, is_head}
use Rattle.definition_inline.specs.Definition.{Definition as LinkDefinition, definition_at}
use Rattle.definition_text.specs.Content.{Part, content_of}
use Rattle.definition_block.specs.Definitions.{lines_before, DefinitionCut, cut_into, cut_after, cut_most, definition_cut}
use Rattle.definition_text.specs.BlockLines.{own_lines, BlockLine}
use Rattle.definition_block.specs.Tree.{one, empty_tree, nothing, tree, blanks, paragraph_of, close_leaf, is_ending, all_endings, front}
use Rattle.definition_block.specs.Tree.{trailing, without_last, last_of, container_block, close, has_text, has_table, is_some_line, table_of, tabled}
use Rattle.definition_block.specs.Tree.{makes_table, leaf_with_line, with_line, rest_line, indented_takes, fenced_takes, html_with, html_takes, takes}
use Rattle.definition_block.specs.Tree.{fence_tree, html_tree, atx_tree, after, text_line_of, text_here, heading_of, underlined}
use Rattle.definition_block.proofs.LeafLines.{where_leaf_line, where_unwrapped}
use Rattle.std.specs.Option.{option_and_then}
use Rattle.definition_block.specs.Tree.{leaf_line, beside_in, start, new, began_blank, goes_on, grow, beside_line, step, steps, children}
use Rattle.definition_block.specs.Tree.{children_after, LeafBlock, Paragraph, Heading, Break, IndentedCode, FencedCode, Html, Table, Definition}
use Rattle.definition_block.specs.Tree.{Block, Leaf, Holds, Items, Ending, Blank, Blocks, Nil, Cons, join, blocks, OpenLeaf, Text, Indented, Fenced}
use Rattle.definition_block.specs.Tree.{OpenHtml, OpenTable, Opening, At, Inside, Tree as BlockTree}
use Rattle.definition_block.specs.Lists.{put_before, grouped_block, group_items}
use Rattle.laws_block.specs.ItemMarkers.{is_item_marker, is_unmarked, ItemsAreMarked}
use Rattle.laws_block.specs.Occurs.{block_has, has, is_word, is_math, NoMath, NoFrontmatter, is_quote, is_list_item, is_footnote_definition, is_indented_code}
use Rattle.laws_block.specs.Occurs.{is_fenced_code, is_html, is_table, is_thematic_break, is_definition, is_heading, is_one_line, is_long_heading}
use Rattle.laws_block.specs.Occurs.{is_deep_heading, NoQuotes, NoItems, NoFootnoteDefinitions, NoIndentedCode, NoFencedCode, NoHtml, NoTables, NoBreaks}
use Rattle.laws_block.specs.Occurs.{NoDefinitions, NoHeadings, NoLongHeadings, NoDeepHeadings, NoLists}

-- ---- what may stand in a text

-- a heading of one line by `#`, or one of a rank up to 2 by an underline
abbrev pub HeadingMayStand : Constructs → ℕ → List BlockLine → Type 0
HeadingMayStand on rank ls = ((on.heading_atx ≡ true) × (is_one_line ls ≡ true)) ⊎ ((on.heading_setext ≡ true) × (leb rank 2 ≡ true))

abbrev pub ContainerMayStand : Constructs → Container → Type 0
ContainerMayStand on Quote = on.block_quote ≡ true
ContainerMayStand on (Item item) = (on.list_item ≡ true) × (is_item_marker item.marker ≡ true)
ContainerMayStand on (Footnote label) = on.gfm_footnote_definition ≡ true

-- code whose info is a word, or math
abbrev pub InfoMayStand : Constructs → List ℕ → Type 0
InfoMayStand on info = ((on.code_fenced ≡ true) × (is_word info ≡ true)) ⊎ ((on.math_flow ≡ true) × (is_word info ≡ false))

-- the construct of a leaf is on
abbrev pub LeafBlockMayStand : Constructs → LeafBlock → Type 0
LeafBlockMayStand on (Paragraph ls) = Unit {0}
LeafBlockMayStand on (Heading rank ls) = HeadingMayStand on rank ls
LeafBlockMayStand on Break = on.thematic_break ≡ true
LeafBlockMayStand on (IndentedCode ls) = on.code_indented ≡ true
LeafBlockMayStand on (FencedCode info is_closed ls) = InfoMayStand on info
LeafBlockMayStand on (Html ls) = on.html_flow ≡ true
LeafBlockMayStand on (Table ls) = on.gfm_table ≡ true
LeafBlockMayStand on (Definition ls label destination title) = on.definition ≡ true

-- the construct of each block is on, at any depth, and items aren't in lists yet
abbrev mutual
  pub BlockMayStand : Constructs → Block → Type 0
  BlockMayStand on (Leaf leaf) = LeafBlockMayStand on leaf
  BlockMayStand on (Holds c kids) = ContainerMayStand on c × MayStand on kids
  BlockMayStand on (Items items) = ⊥
  BlockMayStand on (Ending ending) = Unit {0}
  BlockMayStand on (Blank ending) = Unit {0}

  pub MayStand : Constructs → Blocks → Type 0
  MayStand on Nil = Unit {0}
  MayStand on (Cons b bs) = BlockMayStand on b × MayStand on bs

abbrev LeafMayStand : Constructs → OpenLeaf → Type 0
LeafMayStand on (Text ls) = Unit {0}
LeafMayStand on (Indented ls pending) = on.code_indented ≡ true
LeafMayStand on (Fenced fence ending ls) = InfoMayStand on fence.info
LeafMayStand on (OpenHtml kind ls) = on.html_flow ≡ true
LeafMayStand on (OpenTable ls) = on.gfm_table ≡ true

abbrev OpeningMayStand : Constructs → Opening → Type 0
OpeningMayStand on (At leaf) = LeafMayStand on leaf
OpeningMayStand on (Inside c kids inner) = ContainerMayStand on c × MayStand on kids × OpeningMayStand on inner

abbrev TreeMayStand : Constructs → BlockTree → Type 0
TreeMayStand on t = MayStand on t.done × OpeningMayStand on t.now

-- what holds of a value, where there is one
abbrev WhereSome : {A : Type 0} → (A → Type 0) → Option A → Type 0
WhereSome P None = Unit {0}
WhereSome P (Some x) = P x

where_any : {A : Type 0} (P : Type 0) (o : Option A) → P → WhereSome {A = A} (λ x. P) o
where_any P None p = tt
where_any P (Some x) p = p

-- what only stands where a construct is on, and more holds
guarded : {A : Type 0} (on more : Bool) (o : Option A) → WhereSome {A = A} (λ x. on ≡ true) (cond (on && more) o None)
guarded on more o = cond_both (on && more) o None (WhereSome (λ x. on ≡ true)) (λ e. where_any (on ≡ true) o (and_parts on more e).0) (λ e. tt)

-- no white space stands in a first word
is_word-first : (text : List ℕ) → is_word (first_word text) ≡ true
is_word-first text =
    let t = trim text in
    let p : ℕ → Bool = λ b. not (is_white b) in
    let n = position_or_len is_white t in
    list_all-from_AllPass p (take n t) (λ k d lt.
    let within : k < n = omega (arith, length-prefix_len p t) in
    ap p (get_or-take n t k d within) ∙ prefix_len_passes p t k d within)

-- the byte of a marker, where there is one
abbrev IsMarked : Option Marker → Type 0
IsMarked o = WhereSome (λ (m : Marker). is_item_marker m.byte ≡ true) o

marked_bullet : (rest : Rest) → IsMarked (bullet rest)
marked_bullet [] = tt
marked_bullet (code ∷ codes) =
    cond_both (eqb code 45 || eqb code 43 || eqb code 42) _ _ IsMarked
    (λ e. or_left _ (eqb code 41) (or_left _ (eqb code 46) e)) (λ _. tt)

marked_delimiter : (number digits : ℕ) (rest : Rest) → IsMarked (after_number number digits rest)
marked_delimiter number digits [] = tt
marked_delimiter number digits (code ∷ codes) =
    cond_both (eqb code 46 || eqb code 41) _ _ IsMarked
    (λ e. elim (or_cases (eqb code 46) (eqb code 41) e) [
      | inl dot ↦ or_left _ (eqb code 41) (or_right (eqb code 45 || eqb code 43 || eqb code 42) _ dot)
      | inr parenthesis ↦ or_right (eqb code 45 || eqb code 43 || eqb code 42 || eqb code 46) _ parenthesis
    ]) (λ _. tt)

marked : (rest : Rest) → IsMarked (marker rest)
marked rest =
    let digits = prefix_len is_digit rest in
    cond_both (eqb digits 0) _ _ IsMarked (λ _. marked_bullet rest)
    (λ _. cond_both (leb digits 9) _ _ IsMarked (λ _. marked_delimiter (number_of (take digits rest)) digits (drop digits rest)) (λ _. tt))

module _ (on : Constructs) where
  -- ---- parts of what may stand

  may-join : (bs cs : Blocks) → MayStand on bs → MayStand on cs → MayStand on (join bs cs)
  may-join Nil cs p q = q
  may-join (Cons b bs) cs p q = (p.0, may-join bs cs p.1 q)

  may_front : (bs : Blocks) → MayStand on bs → MayStand on (front bs)
  may_front Nil p = tt
  may_front (Cons b bs) p = cond_both (all_endings (Cons b bs)) Nil (Cons b (front bs)) (MayStand on) (λ _. tt) (λ _. (p.0, may_front bs p.1))

  may_trail : (bs : Blocks) → MayStand on bs → MayStand on (trailing bs)
  may_trail Nil p = tt
  may_trail (Cons b bs) p = cond_both (all_endings (Cons b bs)) (Cons b bs) (trailing bs) (MayStand on) (λ _. p) (λ _. may_trail bs p.1)

  may_without_last : (bs : Blocks) → MayStand on bs → MayStand on (without_last bs)
  may_without_last Nil p = tt
  may_without_last (Cons b Nil) p = cond_both (is_ending b) Nil (one b) (MayStand on) (λ _. tt) (λ _. p)
  may_without_last (Cons b (Cons c bs)) p = (p.0, may_without_last (Cons c bs) p.1)

  may_last : (bs : Blocks) → MayStand on bs → MayStand on (last_of bs)
  may_last Nil p = tt
  may_last (Cons b Nil) p = cond_both (is_ending b) (one b) Nil (MayStand on) (λ _. p) (λ _. tt)
  may_last (Cons b (Cons c bs)) p = may_last (Cons c bs) p.1

  may_hold : (c : Container) (kids : Blocks) → ContainerMayStand on c → MayStand on kids → MayStand on (container_block c kids)
  may_hold Quote kids h p = ((h, may_without_last kids p), may_last kids p)
  may_hold c kids h p = ((h, may_front kids p), may_trail kids p)

  -- ---- closing

  may_blanks : (ls : List BlockLine) → MayStand on (blanks ls)
  may_blanks [] = tt
  may_blanks (line ∷ others) = (tt, may_blanks others)

  may_paragraph : (ls : List BlockLine) → MayStand on (paragraph_of ls)
  may_paragraph [] = tt
  may_paragraph (line ∷ others) = (tt, (tt, tt))

  may_cut_after : (o : Option LinkDefinition) (ls : List BlockLine) (more : List BlockLine → DefinitionCut) → on.definition ≡ true
      → ((others : List BlockLine) → MayStand on (more others).definitions) → MayStand on (cut_after o ls more).definitions
  may_cut_after None ls more h p = tt
  may_cut_after (Some d) ls more h p = (h, (tt, p (drop (lines_before d.rest ls) ls)))

  may_cut_most : (most : ℕ) (ls : List BlockLine) → on.definition ≡ true → MayStand on (cut_most most ls).definitions
  may_cut_most zero ls h = tt
  may_cut_most (suc most) ls h = may_cut_after (definition_at (content_of (own_lines ls))) ls (cut_most most) h (λ others. may_cut_most most others h)

  may_cut : (ls : List BlockLine) → MayStand on (definition_cut on ls).definitions
  may_cut ls = cond_both on.definition (cut_most (length ls) ls) (cut_into Nil ls) (λ (parts : DefinitionCut). MayStand on parts.definitions)
      (λ h. may_cut_most (length ls) ls h) (λ _. tt)

  may_close_leaf : (leaf : OpenLeaf) → LeafMayStand on leaf → MayStand on (close_leaf on leaf)
  may_close_leaf (Text ls) p =
      may-join (definition_cut on ls).definitions (paragraph_of (definition_cut on ls).left) (may_cut ls) (may_paragraph (definition_cut on ls).left)
  may_close_leaf (Indented ls pending) p = (p, (tt, may_blanks pending))
  may_close_leaf leaf p = (p, (tt, tt))

  may_close : (now : Opening) → OpeningMayStand on now → MayStand on (close on now)
  may_close (At leaf) p = may_close_leaf leaf p
  may_close (Inside c kids inner) p = may_hold c (join kids (close on inner)) p.0 (may-join kids (close on inner) p.1 (may_close inner p.2))

  -- ---- leaves

  abbrev SomeTreeMayStand : Option BlockTree → Type 0
  SomeTreeMayStand o = WhereSome (TreeMayStand on) o

  may_take_indented : (ls pending : List BlockLine) (rest : Rest) (beside : Beside) → on.code_indented ≡ true
      → SomeTreeMayStand (indented_takes on ls pending rest beside)
  may_take_indented ls pending rest beside h =
      cond_both (is_blank rest) _ _ SomeTreeMayStand (λ _. (tt, h))
      (λ _. cond_both (starts_code_indented on rest) _ _ SomeTreeMayStand (λ _. (tt, h)) (λ _. tt))

  may_take_fenced : (fence : Fence) (opening : Option LineEnding) (ls : List BlockLine) (rest : Rest) (beside : Beside) → InfoMayStand on fence.info
      → SomeTreeMayStand (fenced_takes on fence opening ls rest beside)
  may_take_fenced fence opening ls rest beside h =
      cond_both (is_fence_end on fence rest) _ _ SomeTreeMayStand (λ _. ((h, (tt, tt)), tt)) (λ _. (tt, h))

  may_html : (kind : ℕ) (ls : List BlockLine) (rest : Rest) (beside : Beside) → on.html_flow ≡ true → TreeMayStand on (html_with kind ls rest beside)
  may_html kind ls rest beside h = cond_both (html_ends_here kind rest) _ _ (TreeMayStand on) (λ _. ((h, (tt, tt)), tt)) (λ _. (tt, h))

  may_take_html : (kind : ℕ) (ls : List BlockLine) (rest : Rest) (beside : Beside) → on.html_flow ≡ true
      → SomeTreeMayStand (html_takes kind ls rest beside)
  may_take_html kind ls rest beside h =
      cond_both (ends_before_blank kind && is_blank rest) _ _ SomeTreeMayStand (λ _. tt) (λ _. may_html kind ls rest beside h)

  may_take : (leaf : OpenLeaf) (rest : Rest) (beside : Beside) → LeafMayStand on leaf → SomeTreeMayStand (takes on leaf rest beside)
  may_take (Text ls) rest beside p = tt
  may_take (Indented ls pending) rest beside p = may_take_indented ls pending rest beside p
  may_take (Fenced fence opening ls) rest beside p = may_take_fenced fence opening ls rest beside p
  may_take (OpenHtml kind ls) rest beside p = may_take_html kind ls rest beside p
  may_take (OpenTable ls) rest beside p = tt

  -- a heading, a fence and an HTML block are read where they are on
  may_atx : (beside : Beside) (o : Option Atx) → WhereSome (λ (a : Atx). on.heading_atx ≡ true) o
      → WhereSome (λ (a : Atx). TreeMayStand on (atx_tree beside a)) o
  may_atx beside None p = tt
  may_atx beside (Some a) p = ((inl (p, refl), (tt, tt)), tt)

  -- the info of code is a word, that of math isn't
  may_code_fence : (rest : Rest) → WhereSome (λ (f : Fence). InfoMayStand on f.info) (fence_start on rest)
  may_code_fence rest =
      let P : Option Fence → Type 0 = WhereSome (λ (f : Fence). InfoMayStand on f.info) in
      let text = bytes_of (bare rest) in
      cond_both (on.code_fenced && small_indent on rest) _ _ P
      (λ e. let h = (and_parts on.code_fenced (small_indent on rest) e).0 in
      cond_both (leb 3 (run 96 text) && list_all (λ b. not (b == 96)) (after_run 96 text)) _ _ P (λ _. inl (h, is_word-first (after_run 96 text)))
      (λ _. cond_both (leb 3 (run 126 text)) _ _ P (λ _. inl (h, is_word-first (after_run 126 text))) (λ _. tt)))
      (λ _. tt)

  may_math_fence : (rest : Rest) → WhereSome (λ (f : Fence). InfoMayStand on f.info) (math_start on rest)
  may_math_fence rest =
      let P : Option Fence → Type 0 = WhereSome (λ (f : Fence). InfoMayStand on f.info) in
      let text = bytes_of (bare rest) in
      cond_both (on.math_flow && small_indent on rest) _ _ P
      (λ e. let h = (and_parts on.math_flow (small_indent on rest) e).0 in
      cond_both (leb 2 (run 36 text) && list_all (λ b. not (b == 36)) (after_run 36 text)) _ _ P (λ _. inr (h, refl)) (λ _. tt))
      (λ _. tt)

  may_fence : (beside : Beside) (o : Option Fence) → WhereSome (λ (f : Fence). InfoMayStand on f.info) o
      → WhereSome (λ (f : Fence). TreeMayStand on (fence_tree beside f)) o
  may_fence beside None p = tt
  may_fence beside (Some f) p = (tt, p)

  may_html_start : (rest : Rest) (beside : Beside) (o : Option ℕ) → WhereSome (λ (k : ℕ). on.html_flow ≡ true) o
      → WhereSome (λ kind. TreeMayStand on (html_tree rest beside kind)) o
  may_html_start rest beside None p = tt
  may_html_start rest beside (Some kind) p = may_html kind [] rest beside p

  may_after : (away : Opening) (t : BlockTree) → OpeningMayStand on away → TreeMayStand on t → TreeMayStand on (after on away t)
  may_after away t p q = (may-join (close on away) t.done (may_close away p) q.0, q.1)

  may_leaf_with_line : (line : BlockLine) (leaf : OpenLeaf) → LeafMayStand on leaf → LeafMayStand on (leaf_with_line line leaf)
  may_leaf_with_line line (Text ls) p = tt
  may_leaf_with_line line leaf p = p

  may_with_line : (line : BlockLine) (now : Opening) → OpeningMayStand on now → OpeningMayStand on (with_line line now)
  may_with_line line (At leaf) p = may_leaf_with_line line leaf p
  may_with_line line (Inside c kids inner) p = (p.0, p.1, may_with_line line inner p.2)

  may_text : (away : Opening) (rest : Rest) (beside : Beside) → OpeningMayStand on away → TreeMayStand on (text_line_of on away rest beside)
  may_text away rest beside p =
      cond_both (has_text away || has_table away) _ _ (TreeMayStand on) (λ _. (tt, may_with_line (rest_line rest beside) away p))
      (λ _. may_after away (tree Nil (At (Text (rest_line rest beside ∷ [])))) p (tt, tt))

  -- a row of delimiters is read where tables are on
  may_table_of : (definitions : Blocks) (ls : List BlockLine) (row : BlockLine) → on.gfm_table ≡ true → MayStand on definitions
      → TreeMayStand on (table_of definitions ls row)
  may_table_of definitions ls row h p = (may-join definitions (paragraph_of (take (length ls - 1) ls)) p (may_paragraph (take (length ls - 1) ls)), h)

  may_table : (o : Option (List AlignKind)) (ls : List BlockLine) (row : BlockLine) → WhereSome {A = List AlignKind} (λ x. on.gfm_table ≡ true) o
      → SomeTreeMayStand (option_and_then (tabled on ls row) o)
  may_table None ls row h = tt
  may_table (Some columns) ls row h =
      let parts = definition_cut on ls in
      cond_both (is_some_line parts.left && is_head (length columns) ls) _ _ SomeTreeMayStand
      (λ _. may_table_of parts.definitions parts.left row h (may_cut ls)) (λ _. tt)

  may_make_table : (away : Opening) (rest : Rest) (beside : Beside) → SomeTreeMayStand (makes_table on away rest beside)
  may_make_table away rest beside =
      may_table (delimiter_row on rest) (text_here away) (rest_line rest beside)
      (guarded on.gfm_table (small_indent on rest) (delimiters (bytes_of (bare rest))))

  -- an underline gives the rank 1 or 2
  may_underline : (rest : Rest) → WhereSome (λ rank. (on.heading_setext ≡ true) × (leb rank 2 ≡ true)) (underline on rest)
  may_underline rest =
      let P : ℕ → Type 0 = λ rank. (on.heading_setext ≡ true) × (leb rank 2 ≡ true) in
      let text = bytes_of (bare rest) in
      cond_both (on.heading_setext && small_indent on rest) (underline_of text) None (WhereSome P)
      (λ e. let h = (and_parts on.heading_setext (small_indent on rest) e).0 in
      cond_both (is_run 1 61 text) _ _ (WhereSome P) (λ _. (h, refl))
      (λ _. cond_both (is_run 1 45 text) _ _ (WhereSome P) (λ _. (h, refl)) (λ _. tt)))
      (λ _. tt)

  may_heading : (rank : ℕ) (definitions : Blocks) (ls : List BlockLine) (ending : Option LineEnding) → (on.heading_setext ≡ true) × (leb rank 2 ≡ true)
      → MayStand on definitions → SomeTreeMayStand (heading_of rank definitions ls ending)
  may_heading rank definitions [] ending h p = tt
  may_heading rank definitions (line ∷ others) ending h p = (may-join definitions _ p (inr h, (tt, tt)), tt)

  may_underlined : (o : Option ℕ) (ls : List BlockLine) (ending : Option LineEnding) → WhereSome (λ rank. (on.heading_setext ≡ true) × (leb rank 2 ≡ true)) o
      → SomeTreeMayStand (option_and_then (underlined on ls ending) o)
  may_underlined None ls ending h = tt
  may_underlined (Some rank) ls ending h = may_heading rank (definition_cut on ls).definitions (definition_cut on ls).left ending h (may_cut ls)

  may_leaf_line : (away : Opening) (rest : Rest) (beside : Beside) → OpeningMayStand on away → TreeMayStand on (leaf_line on away rest beside)
  may_leaf_line away rest beside p =
      where_leaf_line (TreeMayStand on) (TreeMayStand on) on away rest beside
      record {
        blank = λ _. may_after away (tree (one (Blank beside.ending)) nothing) p ((tt, tt), tt);
        closes = λ t q. may_after away t p q;
        indented = λ e. (tt, (and_parts on.code_indented _ (and_parts (starts_code_indented on rest) (not (has_text away)) e).0).0);
        fenced = may_fence beside (fence_start on rest) (may_code_fence rest);
        math = may_fence beside (math_start on rest) (may_math_fence rest);
        html = may_html_start rest beside (html_start on (has_text away) rest) (guarded on.html_flow (small_indent on rest) _);
        heading = may_atx beside (heading_atx on rest) (guarded on.heading_atx (small_indent on rest) _);
        underlined = may_underlined (underline on rest) (text_here away) beside.ending (may_underline rest);
        breaks = λ e. (((and_parts on.thematic_break _ (and_parts (on.thematic_break && small_indent on rest) _ e).0).0, (tt, tt)), tt);
        tabled = may_make_table away rest beside;
        text = λ _. may_text away rest beside p;
      }

  -- ---- containers

  abbrev StartedMayStand : Option ContainerStart → Type 0
  StartedMayStand o = WhereSome (λ (s : ContainerStart). ContainerMayStand on s.container) o

  may_quote_or : (other : Option ContainerStart) (o : Option ContainerLine) → StartedMayStand other
      → WhereSome (λ (line : ContainerLine). on.block_quote ≡ true) o → StartedMayStand (quote_or other o)
  may_quote_or other None p q = p
  may_quote_or other (Some line) p q = q

  may_item_after : (columns : ℕ) (interrupts : Bool) (o : Option Marker) → on.list_item ≡ true → IsMarked o
      → StartedMayStand (item_after columns interrupts o)
  may_item_after columns interrupts None h p = tt
  may_item_after columns interrupts (Some m) h p = cond_both (is_item interrupts m) _ _ StartedMayStand (λ _. (h, p)) (λ _. tt)

  may_item_start : (interrupts : Bool) (rest : Rest) → StartedMayStand (item_start on interrupts rest)
  may_item_start interrupts rest =
      cond_both (on.list_item && small_indent on rest && not (is_break on rest)) _ _ StartedMayStand
      (λ e.
      let both = (and_parts (on.list_item && small_indent on rest) (not (is_break on rest)) e).0 in
      may_item_after (indent rest) interrupts (marker (bare rest)) (and_parts on.list_item (small_indent on rest) both).0 (marked (bare rest)))
      (λ _. tt)

  may_footnote_of : (o : Option Part) → on.gfm_footnote_definition ≡ true → StartedMayStand (footnote_of o)
  may_footnote_of None h = tt
  may_footnote_of (Some mark) h = h

  may_footnote_start : (rest : Rest) → StartedMayStand (footnote_start on rest)
  may_footnote_start rest =
      cond_both (on.gfm_footnote_definition && small_indent on rest) _ _ StartedMayStand
      (λ e. may_footnote_of (footnote_mark (bare rest)) (and_parts on.gfm_footnote_definition (small_indent on rest) e).0) (λ _. tt)

  may_start_one : (interrupts : Bool) (rest : Rest) → StartedMayStand (starts on interrupts rest)
  may_start_one interrupts rest =
      may_quote_or (footnote_or (item_start on interrupts rest) (footnote_start on rest)) (quote_prefix on rest)
      (footnote_either StartedMayStand (item_start on interrupts rest) (footnote_start on rest) (may_item_start interrupts rest) (may_footnote_start rest))
      (guarded on.block_quote (small_indent on rest) _)

  may_start : (o : Option ContainerStart) (away : Opening) (other : BlockTree) (more : ContainerStart → BlockTree) → StartedMayStand o → OpeningMayStand on away
      → TreeMayStand on other → ((s : ContainerStart) → TreeMayStand on (more s)) → TreeMayStand on (start on o away other more)
  may_start None away other more p a q m = q
  may_start (Some s) away other more p a q m =
      let t = more s in
      may_after away (tree Nil (Inside s.container t.done t.now)) a (tt, (p, (m s).0, (m s).1))

  may_new : (most : ℕ) (all : Bool) (away : Opening) (beside : Beside) (rest : Rest) → OpeningMayStand on away
      → TreeMayStand on (new most on all away beside rest)
  may_new zero all away beside rest p = may_leaf_line away rest beside p
  may_new (suc most) all away beside rest p =
      may_start (starts on (all && has_text away) rest) away (leaf_line on away rest beside) _
      (may_start_one (all && has_text away) rest) p (may_leaf_line away rest beside p)
      (λ s. may_new most true nothing (beside_in s.before beside) s.rest tt)

  may_go_on : (o : Option ContainerLine) (c : Container) (kids : Blocks) (inner : Opening) (beside : Beside) (rest : Rest) (more : ContainerLine → BlockTree)
      → ContainerMayStand on c → MayStand on kids → OpeningMayStand on inner → ((line : ContainerLine) → TreeMayStand on (more line))
      → TreeMayStand on (goes_on o on c kids inner beside rest more)
  may_go_on None c kids inner beside rest more h p q m = may_new (length rest) false (Inside c kids inner) beside rest (h, p, q)
  may_go_on (Some line) c kids inner beside rest more h p q m = (tt, (h, may-join kids (more line).done p (m line).0, (m line).1))

  -- ---- the lines of a text

  may_grow : (beside : Beside) (now : Opening) (rest : Rest) → OpeningMayStand on now → TreeMayStand on (grow on beside now rest)
  may_grow beside (At leaf) rest p =
      where_unwrapped (TreeMayStand on) (takes on leaf rest beside) (new (length rest) on true (At leaf) beside rest) (may_take leaf rest beside p)
      (may_new (length rest) true (At leaf) beside rest p)
  may_grow beside (Inside c kids inner) rest p =
      may_go_on (continues on c (began_blank kids inner) rest) c kids inner beside rest
      (λ line. grow on (beside_in line.before beside) inner line.rest) p.0 p.1 p.2 (λ line. may_grow (beside_in line.before beside) inner line.rest p.2)

  may_step : (kind : Kind) (t : BlockTree) (line : TextLine) → TreeMayStand on t → TreeMayStand on (step on kind t line)
  may_step kind t line p =
      let beside = beside_line kind line in
      let more = may_grow beside t.now (whole line.content) p.1 in
      (may-join t.done (grow on beside t.now (whole line.content)).done p.0 more.0, more.1)

  may_steps : (kind : Kind) (ls : List TextLine) (t : BlockTree) → TreeMayStand on t → TreeMayStand on (steps on kind t ls)
  may_steps kind [] t p = p
  may_steps kind (line ∷ ls) t p = may_steps Whitespace ls (step on kind t line) (may_step kind t line p)

  may_children : (kind : Kind) (ls : List TextLine) → MayStand on (children on kind ls)
  may_children kind ls =
      let t = steps on kind empty_tree ls in
      let p : TreeMayStand on t = may_steps kind ls empty_tree (tt, tt) in
      may-join t.done (close on t.now) p.0 (may_close t.now p.1)

  may_children_after : (kind : Kind) (ls : List TextLine) (o : Option (List TextLine)) → MayStand on (children_after on kind ls o)
  may_children_after kind ls None = may_children kind ls
  may_children_after kind ls (Some others) = may_children Whitespace others

  pub may_stand : (kind : Kind) (text : List ℕ) → MayStand on (blocks on kind text)
  may_stand kind text = may_children_after kind (lines text) (after_frontmatter on (lines text))

  -- ---- what passes no test

  module _ (test : Block → Bool) (fails : (b : Block) → BlockMayStand on b → test b ≡ false) where
    mutual
      block_has_none : (b : Block) → BlockMayStand on b → block_has test b ≡ false
      block_has_none (Holds c kids) p = or_from (test (Holds c kids)) (has test kids) (fails (Holds c kids) p) (has_none kids p.1)
      block_has_none (Items items) p = absurd p
      block_has_none b p = fails b p

      has_none : (bs : Blocks) → MayStand on bs → has test bs ≡ false
      has_none Nil p = refl
      has_none (Cons b bs) p = or_from (block_has test b) (has test bs) (block_has_none b p.0) (has_none bs p.1)

    pub never : (kind : Kind) (text : List ℕ) → has test (blocks on kind text) ≡ false
    never kind text = has_none (blocks on kind text) (may_stand kind text)

-- ---- the laws

no_quote : (on : Constructs) → on.block_quote ≡ false → (b : Block) → BlockMayStand on b → is_quote b ≡ false
no_quote on off (Holds Quote kids) p = absurd (both_ways on.block_quote off p.0)
no_quote on off b p = refl

no_item : (on : Constructs) → on.list_item ≡ false → (b : Block) → BlockMayStand on b → is_list_item b ≡ false
no_item on off (Holds (Item item) kids) p = absurd (both_ways on.list_item off p.0.0)
no_item on off b p = refl

no_footnote_definition : (on : Constructs) → on.gfm_footnote_definition ≡ false → (b : Block) → BlockMayStand on b → is_footnote_definition b ≡ false
no_footnote_definition on off (Holds (Footnote label) kids) p = absurd (both_ways on.gfm_footnote_definition off p.0)
no_footnote_definition on off b p = refl

not_indented : (on : Constructs) → on.code_indented ≡ false → (b : Block) → BlockMayStand on b → is_indented_code b ≡ false
not_indented on off (Leaf (IndentedCode ls)) p = absurd (both_ways on.code_indented off p)
not_indented on off b p = refl

not_fenced : (on : Constructs) → on.code_fenced ≡ false → (b : Block) → BlockMayStand on b → is_fenced_code b ≡ false
not_fenced on off (Leaf (FencedCode info is_closed ls)) p = elim p [ inl h ↦ absurd (both_ways on.code_fenced off h.0) | inr h ↦ h.1 ]
not_fenced on off b p = refl

not_math : (on : Constructs) → on.math_flow ≡ false → (b : Block) → BlockMayStand on b → is_math b ≡ false
not_math on off (Leaf (FencedCode info is_closed ls)) p = elim p [ inl h ↦ ap not h.1 | inr h ↦ absurd (both_ways on.math_flow off h.0) ]
not_math on off b p = refl

not_html : (on : Constructs) → on.html_flow ≡ false → (b : Block) → BlockMayStand on b → is_html b ≡ false
not_html on off (Leaf (Html ls)) p = absurd (both_ways on.html_flow off p)
not_html on off b p = refl

no_table : (on : Constructs) → on.gfm_table ≡ false → (b : Block) → BlockMayStand on b → is_table b ≡ false
no_table on off (Leaf (Table ls)) p = absurd (both_ways on.gfm_table off p)
no_table on off b p = refl

no_break : (on : Constructs) → on.thematic_break ≡ false → (b : Block) → BlockMayStand on b → is_thematic_break b ≡ false
no_break on off (Leaf Break) p = absurd (both_ways on.thematic_break off p)
no_break on off b p = refl

no_definition : (on : Constructs) → on.definition ≡ false → (b : Block) → BlockMayStand on b → is_definition b ≡ false
no_definition on off (Leaf (Definition ls label destination title)) p = absurd (both_ways on.definition off p)
no_definition on off b p = refl

no_heading : (on : Constructs) → (on.heading_atx || on.heading_setext) ≡ false → (b : Block) → BlockMayStand on b → is_heading b ≡ false
no_heading on off (Leaf (Heading rank ls)) p =
    let parts = or_parts on.heading_atx on.heading_setext off in
    elim p [ inl h ↦ absurd (both_ways on.heading_atx parts.0 h.0) | inr h ↦ absurd (both_ways on.heading_setext parts.1 h.0) ]
no_heading on off b p = refl

no_long_heading : (on : Constructs) → on.heading_setext ≡ false → (b : Block) → BlockMayStand on b → is_long_heading b ≡ false
no_long_heading on off (Leaf (Heading rank ls)) p =
    elim p [ inl h ↦ not_from_true (is_one_line ls) h.1 | inr h ↦ absurd (both_ways on.heading_setext off h.0) ]
no_long_heading on off b p = refl

no_deep_heading : (on : Constructs) → on.heading_atx ≡ false → (b : Block) → BlockMayStand on b → is_deep_heading b ≡ false
no_deep_heading on off (Leaf (Heading rank ls)) p =
    elim p [ inl h ↦ absurd (both_ways on.heading_atx off h.0) | inr h ↦ not_from_true (leb rank 2) h.1 ]
no_deep_heading on off b p = refl

pub no_quotes : NoQuotes
no_quotes on kind text off = never on is_quote (no_quote on off) kind text

pub no_items : NoItems
no_items on kind text off = never on is_list_item (no_item on off) kind text

pub no_footnote_definitions : NoFootnoteDefinitions
no_footnote_definitions on kind text off = never on is_footnote_definition (no_footnote_definition on off) kind text

pub no_indented_code : NoIndentedCode
no_indented_code on kind text off = never on is_indented_code (not_indented on off) kind text

pub no_fenced_code : NoFencedCode
no_fenced_code on kind text off = never on is_fenced_code (not_fenced on off) kind text

pub no_math : NoMath
no_math on kind text off = never on is_math (not_math on off) kind text

pub no_html : NoHtml
no_html on kind text off = never on is_html (not_html on off) kind text

pub no_tables : NoTables
no_tables on kind text off = never on is_table (no_table on off) kind text

pub no_breaks : NoBreaks
no_breaks on kind text off = never on is_thematic_break (no_break on off) kind text

pub no_definitions : NoDefinitions
no_definitions on kind text off = never on is_definition (no_definition on off) kind text

pub no_headings : NoHeadings
no_headings on kind text off = never on is_heading (no_heading on off) kind text

pub no_long_headings : NoLongHeadings
no_long_headings on kind text off = never on is_long_heading (no_long_heading on off) kind text

pub no_deep_headings : NoDeepHeadings
no_deep_headings on kind text off = never on is_deep_heading (no_deep_heading on off) kind text

all_marked : (on : Constructs) (b : Block) → BlockMayStand on b → is_unmarked b ≡ false
all_marked on (Holds (Item item) kids) p = not_from_true (is_item_marker item.marker) p.0.1
all_marked on b p = refl

pub items_are_marked : ItemsAreMarked
items_are_marked on kind text = never on is_unmarked (all_marked on) kind text

-- without items there is nothing to put into lists
module _ (on : Constructs) (off : on.list_item ≡ false) where
  before_others : (b : Block) (bs : Blocks) → BlockMayStand on b → put_before b bs ≡ Cons b bs
  before_others (Holds (Item item) kids) bs p = absurd (both_ways on.list_item off p.0.0)
  before_others b bs p = refl

  mutual
    block_as_it_is : (b : Block) → BlockMayStand on b → grouped_block b ≡ b
    block_as_it_is (Holds c kids) p = ap (Holds c) (as_they_are kids p.1)
    block_as_it_is b p = refl

    as_they_are : (bs : Blocks) → MayStand on bs → group_items bs ≡ bs
    as_they_are Nil p = refl
    as_they_are (Cons b bs) p =
        ap (put_before (grouped_block b)) (as_they_are bs p.1) ∙ ap (λ x. put_before x bs) (block_as_it_is b p.0) ∙ before_others b bs p.0

pub no_lists : NoLists
no_lists on kind text off = as_they_are on off (blocks on kind text) (may_stand on kind text)

-- without frontmatter each line is read
no_lines_out : (on : Constructs) (ls : List TextLine) → on.frontmatter ≡ false → after_frontmatter on ls ≡ None
no_lines_out on [] off = refl
no_lines_out on (line ∷ others) off =
    cond-false (on.frontmatter && is_metadata_fence 45 line.content) _ _ (and_left on.frontmatter (is_metadata_fence 45 line.content) off)
    ∙ cond-false (on.frontmatter && is_metadata_fence 43 line.content) _ _ (and_left on.frontmatter (is_metadata_fence 43 line.content) off)

pub no_frontmatter : NoFrontmatter
no_frontmatter on kind text off = ap (children_after on kind (lines text)) (no_lines_out on (lines text) off)
