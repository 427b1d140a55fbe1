-- If each part that is read of lines is good, so are all their blocks.
use Rattle.std.proofs.Common.{ℕ, suc, zero, Bool, true, false, cond, ◌&&◌, ◌||◌, ◌-◌, List, [], ◌∷◌, ◌++◌, Option, None, Some, length, take, drop}
use Rattle.std.specs.Prelude.{min}
use Rattle.std.specs.Option.{option_and_then}
use Rattle.std.proofs.lemmas.Bool.{cond_both}
use Rattle.markdown_options.specs.declared.line_ending.LineEnding.{LineEnding}
use Rattle.markdown_options.specs.declared.configuration.Constructs.{Constructs}
use Rattle.markdown_options.specs.declared.beside.Beside.{Beside}
use Rattle.markdown_options.specs.declared.beside.Kind.{Kind}
use Rattle.markdown_options.specs.declared.beside.Kind.TheVariants.{Whitespace}
use Rattle.definition_text.specs.BlockLines.{BlockLine, spaced_line, last_ending_or, last_ending, own_lines}
use Rattle.definition_text.specs.Columns.{Rest, whole, indent, is_blank}
use Rattle.definition_text.specs.Content.{content_of}
use Rattle.definition_text.specs.Indents.{outdent}
use Rattle.definition_text.specs.Lines.{TextLine, lines}
use Rattle.definition_inline.specs.Definition.{Definition as LinkDefinition, definition_at}
use Rattle.definition_block.specs.Container.{Container, Quote, Item, Footnote}
use Rattle.definition_block.specs.ContainerLine.{ContainerLine}
use Rattle.definition_block.specs.ContainerStart.{ContainerStart}
use Rattle.definition_block.specs.Containers.{continues, starts}
use Rattle.definition_block.specs.CodeIndented.{starts_code_indented}
use Rattle.definition_block.specs.CodeFenced.{Fence, fence_start, is_fence_end, fence_line}
use Rattle.definition_block.specs.MathFlow.{math_start}
use Rattle.definition_block.specs.Frontmatter.{is_metadata_fence, after_metadata_fence, after_frontmatter}
use Rattle.definition_block.specs.HtmlFlow.{html_start, html_ends_here, ends_before_blank}
use Rattle.definition_block.specs.HeadingAtx.{Atx, heading_atx}
use Rattle.definition_block.specs.HeadingSetext.{underline}
use Rattle.markdown_options.specs.declared.align_kind.AlignKind.{AlignKind}
use Rattle.definition_block.specs.GfmTable.{delimiter_row, is_head}
use Rattle.definition_block.specs.Definitions.{lines_before, DefinitionCut, cut_into, definition_lines, cut_after, cut_most, definition_cut}
use Rattle.definition_block.specs.Tree.{LeafBlock, Paragraph, Heading, Break, IndentedCode, FencedCode, Html, Table, Definition, Block, Leaf, Holds, Items, Ending, Blank}
use Rattle.definition_block.specs.Tree.{Blocks, Nil, Cons, join, one, block_and_ending, OpenLeaf, Text, Indented, Fenced, OpenHtml, OpenTable, Opening, At}
use Rattle.definition_block.specs.Tree.{Inside, Tree as BlockTree, tree, nothing, empty_tree, blanks, paragraph_of, close_leaf, is_ending, all_endings, front}
use Rattle.definition_block.specs.Tree.{trailing, without_last, last_of, container_block, close, leaf_text, has_text, has_table, is_some_line, table_of}
use Rattle.definition_block.specs.Tree.{leaf_with_line, with_line, rest_line, html_with, takes, after, text_line_of, text_here, fence_tree}
use Rattle.definition_block.specs.Tree.{html_tree, atx_tree, heading_of, underlined, tabled, leaf_line, beside_in}
use Rattle.definition_block.proofs.LeafLines.{where_leaf_line, where_unwrapped}
use Rattle.definition_block.specs.Tree.{start, new}
use Rattle.definition_block.specs.Tree.{began_blank, goes_on, grow, beside_line, step, steps, children, children_after, blocks}
use Rattle.std.specs.Prelude.{IfSome}
use Rattle.definition_text.specs.BlockLines.{block_line}
use Rattle.definition_text.proofs.Each.{Each, each-append, each-take, each-drop, WhereSome}

-- what is good of the parts of blocks
pub record Property : Type 1 where
  pub line : BlockLine → Type 0
  pub ending : Option LineEnding → Type 0
  pub heading : ℕ → List BlockLine → Type 0
  pub info : List ℕ → Type 0
  pub leads : List ℕ → Option (List ℕ) → Type 0
  -- of what is read: a rank, and the rest of a line
  pub rank : ℕ → Type 0
  pub rest : Rest → Type 0

module _ (good : Property) where
  abbrev pub LineGood : BlockLine → Type 0
  LineGood line = good.line line

  abbrev pub EndGood : Option LineEnding → Type 0
  EndGood ending = good.ending ending

  abbrev pub RestGood : Rest → Type 0
  RestGood rest = good.rest rest

  abbrev pub LinesGood : List BlockLine → Type 0
  LinesGood ls = Each LineGood ls

  abbrev pub LeafBlockGood : LeafBlock → Type 0
  LeafBlockGood (Paragraph ls) = LinesGood ls
  LeafBlockGood (Heading rank ls) = good.heading rank ls
  LeafBlockGood Break = Unit {0}
  LeafBlockGood (IndentedCode ls) = LinesGood ls
  LeafBlockGood (FencedCode info is_closed ls) = good.info info × LinesGood ls
  LeafBlockGood (Html ls) = LinesGood ls
  LeafBlockGood (Table ls) = LinesGood ls
  LeafBlockGood (Definition ls label destination title) = good.leads destination title

  abbrev mutual
    pub BlockGood : Block → Type 0
    BlockGood (Leaf leaf) = LeafBlockGood leaf
    BlockGood (Holds c kids) = BlocksGood kids
    BlockGood (Items items) = BlocksGood items
    BlockGood (Ending ending) = EndGood ending
    BlockGood (Blank ending) = EndGood ending

    pub BlocksGood : Blocks → Type 0
    BlocksGood Nil = Unit {0}
    BlocksGood (Cons b bs) = BlockGood b × BlocksGood bs

  abbrev LeafGood : OpenLeaf → Type 0
  LeafGood (Text ls) = LinesGood ls
  LeafGood (Indented ls pending) = LinesGood ls × LinesGood pending
  LeafGood (Fenced fence ending ls) = good.info fence.info × (EndGood ending × LinesGood ls)
  LeafGood (OpenHtml kind ls) = LinesGood ls
  LeafGood (OpenTable ls) = LinesGood ls

  abbrev OpeningGood : Opening → Type 0
  OpeningGood (At leaf) = LeafGood leaf
  OpeningGood (Inside c kids inner) = BlocksGood kids × OpeningGood inner

  abbrev TreeGood : BlockTree → Type 0
  TreeGood t = BlocksGood t.done × OpeningGood t.now

  abbrev SomeGood : Option BlockTree → Type 0
  SomeGood o = WhereSome TreeGood o

  abbrev pub TextLineGood : TextLine → Type 0
  TextLineGood line = RestGood (whole line.content) × EndGood line.ending

  abbrev pub TextLinesGood : List TextLine → Type 0
  TextLinesGood ls = Each TextLineGood ls

  abbrev pub DefinitionGood : Option LinkDefinition → Type 0
  DefinitionGood o = WhereSome (λ (d : LinkDefinition). good.leads d.destination d.title) o

  abbrev pub AtxGood : Option Atx → Type 0
  AtxGood o = WhereSome (λ (a : Atx). good.rank a.rank × LineGood (block_line a.content None Whitespace)) o

  abbrev pub FenceGood : Option Fence → Type 0
  FenceGood o = WhereSome (λ (f : Fence). good.info f.info) o

  abbrev pub RankGood : Option ℕ → Type 0
  RankGood o = WhereSome good.rank o

  -- what is good of what is read
  pub record Reads (on : Constructs) : Type 0 where
    pub no_ending : EndGood None
    pub ends : (line : BlockLine) → LineGood line → EndGood line.ending
    pub unended : (line : BlockLine) → LineGood line → LineGood (block_line line.codes None line.before)
    pub dropped : (n : ℕ) (rest : Rest) → RestGood rest → RestGood (drop n rest)
    pub taken_line : (rest : Rest) (beside : Beside) → RestGood rest → EndGood beside.ending → LineGood (rest_line rest beside)
    pub ranked : (rank : ℕ) (ls : List BlockLine) → good.rank rank → LinesGood ls → good.heading rank ls
    pub defines : (ls : List BlockLine) → LinesGood ls → DefinitionGood (definition_at (content_of ls))
    pub atx : (rest : Rest) → RestGood rest → AtxGood (heading_atx on rest)
    pub underlines : (rest : Rest) → RankGood (underline on rest)
    pub fences : (rest : Rest) → RestGood rest → FenceGood (fence_start on rest)
    pub math : (rest : Rest) → RestGood rest → FenceGood (math_start on rest)
    pub enters : (text : Bool) (rest : Rest) → RestGood rest → IfSome (starts on text rest) (λ (s : ContainerStart). RestGood s.rest)
    pub stays : (c : Container) (blank : Bool) (rest : Rest) → RestGood rest → IfSome (continues on c blank rest) (λ (line : ContainerLine). RestGood line.rest)

  pub join_good : (bs others : Blocks) → BlocksGood bs → BlocksGood others → BlocksGood (join bs others)
  join_good Nil others p q = q
  join_good (Cons b bs) others p q = (p.0, join_good bs others p.1 q)

  front_good : (bs : Blocks) → BlocksGood bs → BlocksGood (front bs)
  front_good Nil p = tt
  front_good (Cons b bs) p = cond_both (all_endings (Cons b bs)) Nil (Cons b (front bs)) BlocksGood (λ _. tt) (λ _. (p.0, front_good bs p.1))

  trailing_good : (bs : Blocks) → BlocksGood bs → BlocksGood (trailing bs)
  trailing_good Nil p = tt
  trailing_good (Cons b bs) p = cond_both (all_endings (Cons b bs)) (Cons b bs) (trailing bs) BlocksGood (λ _. p) (λ _. trailing_good bs p.1)

  without_last_good : (bs : Blocks) → BlocksGood bs → BlocksGood (without_last bs)
  without_last_good Nil p = tt
  without_last_good (Cons b Nil) p = cond_both (is_ending b) Nil (one b) BlocksGood (λ _. tt) (λ _. p)
  without_last_good (Cons b (Cons c bs)) p = (p.0, without_last_good (Cons c bs) p.1)

  last_of_good : (bs : Blocks) → BlocksGood bs → BlocksGood (last_of bs)
  last_of_good Nil p = tt
  last_of_good (Cons b Nil) p = cond_both (is_ending b) (one b) Nil BlocksGood (λ _. p) (λ _. tt)
  last_of_good (Cons b (Cons c bs)) p = last_of_good (Cons c bs) p.1

  holds_good : (c : Container) (kids : Blocks) → BlocksGood kids → BlocksGood (container_block c kids)
  holds_good Quote kids p = (without_last_good kids p, last_of_good kids p)
  holds_good (Item item) kids p = (front_good kids p, trailing_good kids p)
  holds_good (Footnote label) kids p = (front_good kids p, trailing_good kids p)

  module _ (unended : (line : BlockLine) → LineGood line → LineGood (block_line line.codes None line.before)) where
    pub own_good : (ls : List BlockLine) → LinesGood ls → LinesGood (own_lines ls)
    own_good [] p = tt
    own_good (line ∷ []) p = (unended line p.0, tt)
    own_good (line ∷ next ∷ others) p = (p.0, own_good (next ∷ others) p.1)

  -- ---- what is read

  module _ (on : Constructs) (reads : Reads on) where
    last_or_good : (ending : Option LineEnding) (ls : List BlockLine) → EndGood ending → LinesGood ls → EndGood (last_ending_or ending ls)
    last_or_good ending [] f p = f
    last_or_good ending (line ∷ others) f p = last_or_good line.ending others (reads.ends line p.0) p.1

    last_good : (ls : List BlockLine) → LinesGood ls → EndGood (last_ending ls)
    last_good ls p = last_or_good None ls reads.no_ending p

    ended_good : (b : Block) (ending : Option LineEnding) → BlockGood b → EndGood ending → BlocksGood (block_and_ending b ending)
    ended_good b ending p f = (p, (f, tt))

    outdented_good : (most : ℕ) (rest : Rest) → RestGood rest → RestGood (outdent most rest)
    outdented_good most rest p = reads.dropped (min most (indent rest)) rest p

    more_good : (ls : List BlockLine) (rest : Rest) (beside : Beside) → LinesGood ls → RestGood rest → EndGood beside.ending
        → LinesGood (ls ++ rest_line rest beside ∷ [])
    more_good ls rest beside p q f = each-append LineGood ls (rest_line rest beside ∷ []) p (reads.taken_line rest beside q f, tt)

    blanks_good : (ls : List BlockLine) → LinesGood ls → BlocksGood (blanks ls)
    blanks_good [] p = tt
    blanks_good (line ∷ others) p = (reads.ends line p.0, blanks_good others p.1)

    paragraph_good : (ls : List BlockLine) → LinesGood ls → BlocksGood (paragraph_of ls)
    paragraph_good [] p = tt
    paragraph_good (line ∷ others) p = (own_good reads.unended (line ∷ others) p, (last_good (line ∷ others) p, tt))

    -- ---- definitions

    abbrev CutGood : DefinitionCut → Type 0
    CutGood parts = BlocksGood parts.definitions × LinesGood parts.left

    cut_after_good : (o : Option LinkDefinition) (ls : List BlockLine) (more : List BlockLine → DefinitionCut) → DefinitionGood o → LinesGood ls
        → ((others : List BlockLine) → LinesGood others → CutGood (more others)) → CutGood (cut_after o ls more)
    cut_after_good None ls more d p h = (tt, p)
    cut_after_good (Some d) ls more q p h =
        let count = lines_before d.rest ls in
        let others = h (drop count ls) (each-drop LineGood count ls p) in (
          join_good (definition_lines d (take count ls)) (more (drop count ls)).definitions
              (q, (last_good (take count ls) (each-take LineGood count ls p), tt)) others.0,
          others.1,
        )

    cut_most_good : (most : ℕ) (ls : List BlockLine) → LinesGood ls → CutGood (cut_most most ls)
    cut_most_good zero ls p = (tt, p)
    cut_most_good (suc most) ls p =
        cut_after_good (definition_at (content_of (own_lines ls))) ls (cut_most most) (reads.defines (own_lines ls) (own_good reads.unended ls p)) p
        (λ others q. cut_most_good most others q)

    html_with_good : (kind : ℕ) (ls : List BlockLine) (rest : Rest) (beside : Beside) → LinesGood ls → RestGood rest → EndGood beside.ending
        → TreeGood (html_with kind ls rest beside)
    html_with_good kind ls rest beside p q f =
        let more = ls ++ rest_line rest beside ∷ [] in
        let h = more_good ls rest beside p q f in
        cond_both (html_ends_here kind rest) (tree (block_and_ending (Leaf (Html (own_lines more))) beside.ending) nothing)
        (tree Nil (At (OpenHtml kind more))) TreeGood
        (λ _. ((own_good reads.unended more h, (f, tt)), tt)) (λ _. (tt, h))

    heading_of_good : (rank : ℕ) (definitions : Blocks) (ls : List BlockLine) (ending : Option LineEnding) → good.rank rank
        → BlocksGood definitions → LinesGood ls → EndGood ending
        → SomeGood (heading_of rank definitions ls ending)
    heading_of_good rank definitions [] ending h p q f = tt
    heading_of_good rank definitions (line ∷ others) ending h p q f =
        (join_good definitions _ p (reads.ranked rank (own_lines (line ∷ others)) h (own_good reads.unended (line ∷ others) q), (f, tt)), tt)

    leaf_with_line_good : (line : BlockLine) (leaf : OpenLeaf) → LineGood line → LeafGood leaf → LeafGood (leaf_with_line line leaf)
    leaf_with_line_good line (Text ls) l p = each-append LineGood ls (line ∷ []) p (l, tt)
    leaf_with_line_good line (Indented ls pending) l p = p
    leaf_with_line_good line (Fenced fence ending ls) l p = p
    leaf_with_line_good line (OpenHtml kind ls) l p = p
    leaf_with_line_good line (OpenTable ls) l p = each-append LineGood ls (line ∷ []) p (l, tt)

    with_line_good : (line : BlockLine) (now : Opening) → LineGood line → OpeningGood now → OpeningGood (with_line line now)
    with_line_good line (At leaf) l p = leaf_with_line_good line leaf l p
    with_line_good line (Inside c kids inner) l p = (p.0, with_line_good line inner l p.1)

    leaf_text_good : (leaf : OpenLeaf) → LeafGood leaf → LinesGood (leaf_text leaf)
    leaf_text_good (Text ls) p = p
    leaf_text_good (Indented ls pending) p = tt
    leaf_text_good (Fenced fence ending ls) p = tt
    leaf_text_good (OpenHtml kind ls) p = tt
    leaf_text_good (OpenTable ls) p = tt

    text_here_good : (now : Opening) → OpeningGood now → LinesGood (text_here now)
    text_here_good (At leaf) p = leaf_text_good leaf p
    text_here_good (Inside c kids inner) p = tt

    cut_good : (ls : List BlockLine) → LinesGood ls → CutGood (definition_cut on ls)
    cut_good ls p = cond_both on.definition (cut_most (length ls) ls) (cut_into Nil ls) CutGood (λ _. cut_most_good (length ls) ls p) (λ _. (tt, p))

    close_leaf_good : (leaf : OpenLeaf) → LeafGood leaf → BlocksGood (close_leaf on leaf)
    close_leaf_good (Text ls) p =
        let parts = cut_good ls p in
        join_good (definition_cut on ls).definitions (paragraph_of (definition_cut on ls).left) parts.0 (paragraph_good (definition_cut on ls).left parts.1)
    close_leaf_good (Indented ls pending) p = (own_good reads.unended ls p.0, (last_good ls p.0, blanks_good pending p.1))
    close_leaf_good (Fenced fence ending ls) p = ((p.0, p.1.1), (last_or_good ending ls p.1.0 p.1.1, tt))
    close_leaf_good (OpenHtml kind ls) p = (own_good reads.unended ls p, (last_good ls p, tt))
    close_leaf_good (OpenTable ls) p = (own_good reads.unended ls p, (last_good ls p, tt))

    close_good : (now : Opening) → OpeningGood now → BlocksGood (close on now)
    close_good (At leaf) p = close_leaf_good leaf p
    close_good (Inside c kids inner) p = holds_good c (join kids (close on inner)) (join_good kids (close on inner) p.0 (close_good inner p.1))

    takes_good : (leaf : OpenLeaf) (rest : Rest) (beside : Beside) → LeafGood leaf → RestGood rest → EndGood beside.ending
        → SomeGood (takes on leaf rest beside)
    takes_good (Text ls) rest beside p q f = tt
    takes_good (Indented ls pending) rest beside p q f =
        let code = outdented_good 4 rest q in
        cond_both (is_blank rest) _ _ SomeGood (λ _. (tt, (p.0, more_good pending (outdent 4 rest) beside p.1 code f)))
        (λ _. cond_both (starts_code_indented on rest) _ _ SomeGood
        (λ _. (tt, (more_good (ls ++ pending) (outdent 4 rest) beside (each-append LineGood ls pending p.0 p.1) code f, tt))) (λ _. tt))
    takes_good (Fenced fence opening ls) rest beside p q f =
        cond_both (is_fence_end on fence rest) _ _ SomeGood (λ _. (((p.0, p.1.1), (f, tt)), tt))
        (λ _. (tt, (p.0, (p.1.0, more_good ls (fence_line fence rest) beside p.1.1 (outdented_good fence.indent rest q) f))))
    takes_good (OpenHtml kind ls) rest beside p q f =
        cond_both (ends_before_blank kind && is_blank rest) _ _ SomeGood (λ _. tt) (λ _. html_with_good kind ls rest beside p q f)
    takes_good (OpenTable ls) rest beside p q f = tt

    after_good : (away : Opening) (t : BlockTree) → OpeningGood away → TreeGood t → TreeGood (after on away t)
    after_good away t p q = (join_good (close on away) t.done (close_good away p) q.0, q.1)

    text_line_good : (away : Opening) (rest : Rest) (beside : Beside) → OpeningGood away → RestGood rest → EndGood beside.ending
        → TreeGood (text_line_of on away rest beside)
    text_line_good away rest beside p q f =
        let line = reads.taken_line rest beside q f in
        cond_both (has_text away || has_table away) _ _ TreeGood (λ _. (tt, with_line_good (rest_line rest beside) away line p))
        (λ _. after_good away (tree Nil (At (Text (rest_line rest beside ∷ [])))) p (tt, (line, tt)))

    table_of_good : (definitions : Blocks) (ls : List BlockLine) (row : BlockLine) → BlocksGood definitions → LinesGood ls → LineGood row
        → TreeGood (table_of definitions ls row)
    table_of_good definitions ls row p q l =
        let head = length ls - 1 in (
          join_good definitions (paragraph_of (take head ls)) p (paragraph_good (take head ls) (each-take LineGood head ls q)),
          each-append LineGood (drop head ls) (row ∷ []) (each-drop LineGood head ls q) (l, tt),
        )

    table_good : (o : Option (List AlignKind)) (ls : List BlockLine) (row : BlockLine) → LinesGood ls → LineGood row
        → SomeGood (option_and_then (tabled on ls row) o)
    table_good None ls row p l = tt
    table_good (Some columns) ls row p l =
        let parts = cut_good ls p in
        cond_both (is_some_line (definition_cut on ls).left && is_head (length columns) ls) _ _ SomeGood
        (λ _. table_of_good (definition_cut on ls).definitions (definition_cut on ls).left row parts.0 parts.1 l) (λ _. tt)

    underlined_good : (o : Option ℕ) (ls : List BlockLine) (ending : Option LineEnding) → RankGood o → LinesGood ls → EndGood ending
        → SomeGood (option_and_then (underlined on ls ending) o)
    underlined_good None ls ending h p f = tt
    underlined_good (Some rank) ls ending h p f =
        let parts = cut_good ls p in heading_of_good rank (definition_cut on ls).definitions (definition_cut on ls).left ending h parts.0 parts.1 f

    html_good : (o : Option ℕ) (rest : Rest) (beside : Beside) → RestGood rest → EndGood beside.ending
        → WhereSome (λ kind. TreeGood (html_tree rest beside kind)) o
    html_good None rest beside q f = tt
    html_good (Some kind) rest beside q f = html_with_good kind [] rest beside tt q f

    fence_good : (o : Option Fence) (beside : Beside) → EndGood beside.ending → FenceGood o → WhereSome (λ (fence : Fence). TreeGood (fence_tree beside fence)) o
    fence_good None beside f p = tt
    fence_good (Some fence) beside f p = (tt, (p, (f, tt)))

    atx_good : (o : Option Atx) (beside : Beside) → EndGood beside.ending → AtxGood o → WhereSome (λ (atx : Atx). TreeGood (atx_tree beside atx)) o
    atx_good None beside f p = tt
    atx_good (Some atx) beside f p = ((reads.ranked atx.rank (spaced_line atx.content None ∷ []) p.0 (p.1, tt), (f, tt)), tt)

    leaf_line_good : (away : Opening) (rest : Rest) (beside : Beside) → OpeningGood away → RestGood rest → EndGood beside.ending
        → TreeGood (leaf_line on away rest beside)
    leaf_line_good away rest beside p q f =
        where_leaf_line TreeGood TreeGood on away rest beside
        record {
          blank = λ _. after_good away (tree (one (Blank beside.ending)) nothing) p ((f, tt), tt);
          closes = λ t g. after_good away t p g;
          indented = λ _. (tt, ((reads.taken_line (outdent 4 rest) beside (outdented_good 4 rest q) f, tt), tt));
          fenced = fence_good (fence_start on rest) beside f (reads.fences rest q);
          math = fence_good (math_start on rest) beside f (reads.math rest q);
          html = html_good (html_start on (has_text away) rest) rest beside q f;
          heading = atx_good (heading_atx on rest) beside f (reads.atx rest q);
          underlined = underlined_good (underline on rest) (text_here away) beside.ending (reads.underlines rest) (text_here_good away p) f;
          breaks = λ _. ((tt, (f, tt)), tt);
          tabled = table_good (delimiter_row on rest) (text_here away) (rest_line rest beside) (text_here_good away p) (reads.taken_line rest beside q f);
          text = λ _. text_line_good away rest beside p q f;
        }

    -- ---- containers

    start_good : (o : Option ContainerStart) (away : Opening) (other : BlockTree) (more : ContainerStart → BlockTree)
        → IfSome o (λ (s : ContainerStart). RestGood s.rest) → OpeningGood away
        → TreeGood other → ((s : ContainerStart) → RestGood s.rest → TreeGood (more s)) → TreeGood (start on o away other more)
    start_good None away other more r a q m = q
    start_good (Some s) away other more r a q m =
        let t = m s r in after_good away (tree Nil (Inside s.container (more s).done (more s).now)) a (tt, (t.0, t.1))

    new_good : (most : ℕ) (all : Bool) (away : Opening) (beside : Beside) (rest : Rest) → OpeningGood away → RestGood rest → EndGood beside.ending
        → TreeGood (new most on all away beside rest)
    new_good zero all away beside rest p q f = leaf_line_good away rest beside p q f
    new_good (suc most) all away beside rest p q f =
        start_good (starts on (all && has_text away) rest) away (leaf_line on away rest beside) _
        (reads.enters (all && has_text away) rest q) p (leaf_line_good away rest beside p q f)
        (λ s r. new_good most true nothing (beside_in s.before beside) s.rest tt r f)

    goes_on_good : (o : Option ContainerLine) (c : Container) (kids : Blocks) (inner : Opening) (beside : Beside) (rest : Rest)
        (more : ContainerLine → BlockTree) → IfSome o (λ (line : ContainerLine). RestGood line.rest) → BlocksGood kids → OpeningGood inner → RestGood rest
        → EndGood beside.ending → ((line : ContainerLine) → RestGood line.rest → TreeGood (more line)) → TreeGood (goes_on o on c kids inner beside rest more)
    goes_on_good None c kids inner beside rest more r p q s f m = new_good (length rest) false (Inside c kids inner) beside rest (p, q) s f
    goes_on_good (Some line) c kids inner beside rest more r p q s f m =
        (tt, (join_good kids (more line).done p (m line r).0, (m line r).1))

    -- ---- lines

    grow_good : (beside : Beside) (now : Opening) (rest : Rest) → OpeningGood now → RestGood rest → EndGood beside.ending → TreeGood (grow on beside now rest)
    grow_good beside (At leaf) rest p q f =
        where_unwrapped TreeGood (takes on leaf rest beside) (new (length rest) on true (At leaf) beside rest) (takes_good leaf rest beside p q f)
        (new_good (length rest) true (At leaf) beside rest p q f)
    grow_good beside (Inside c kids inner) rest p q f =
        goes_on_good (continues on c (began_blank kids inner) rest) c kids inner beside rest
        (λ line. grow on (beside_in line.before beside) inner line.rest) (reads.stays c (began_blank kids inner) rest q) p.0 p.1 q f
        (λ line r. grow_good (beside_in line.before beside) inner line.rest p.1 r f)

    -- ---- the lines of a text

    steps_good : (kind : Kind) (ls : List TextLine) (t : BlockTree) → TextLinesGood ls → TreeGood t → TreeGood (steps on kind t ls)
    steps_good kind [] t q p = p
    steps_good kind (line ∷ ls) t q p =
        let grown = grow on (beside_line kind line) t.now (whole line.content) in
        let more = grow_good (beside_line kind line) t.now (whole line.content) p.1 q.0.0 q.0.1 in
        steps_good Whitespace ls (step on kind t line) q.1 (join_good t.done grown.done p.0 more.0, more.1)

    children_good : (kind : Kind) (ls : List TextLine) → TextLinesGood ls → BlocksGood (children on kind ls)
    children_good kind ls q =
        let t = steps on kind empty_tree ls in
        let p : TreeGood t = steps_good kind ls empty_tree q (tt, tt) in
        join_good t.done (close on t.now) p.0 (close_good t.now p.1)

    abbrev IfLinesGood : Option (List TextLine) → Type 0
    IfLinesGood o = WhereSome TextLinesGood o

    after_fence_good : (byte : ℕ) (ls : List TextLine) → TextLinesGood ls → IfLinesGood (after_metadata_fence byte ls)
    after_fence_good byte [] p = tt
    after_fence_good byte (line ∷ ls) p =
        cond_both (is_metadata_fence byte line.content) (Some ls) (after_metadata_fence byte ls) IfLinesGood (λ _. p.1) (λ _. after_fence_good byte ls p.1)

    after_frontmatter_good : (ls : List TextLine) → TextLinesGood ls → IfLinesGood (after_frontmatter on ls)
    after_frontmatter_good [] p = tt
    after_frontmatter_good (line ∷ ls) p =
        let plus = on.frontmatter && is_metadata_fence 43 line.content in
        cond_both (on.frontmatter && is_metadata_fence 45 line.content) (after_metadata_fence 45 ls) (cond plus (after_metadata_fence 43 ls) None) IfLinesGood
        (λ _. after_fence_good 45 ls p.1)
        (λ _. cond_both plus (after_metadata_fence 43 ls) None IfLinesGood (λ _. after_fence_good 43 ls p.1) (λ _. tt))

    children_after_good : (kind : Kind) (ls : List TextLine) (others : Option (List TextLine)) → TextLinesGood ls → IfLinesGood others
        → BlocksGood (children_after on kind ls others)
    children_after_good kind ls None p q = children_good kind ls p
    children_after_good kind ls (Some others) p q = children_good Whitespace others q

    pub blocks_good : (kind : Kind) (text : List ℕ) → TextLinesGood (lines text) → BlocksGood (blocks on kind text)
    blocks_good kind text p = children_after_good kind (lines text) (after_frontmatter on (lines text)) p (after_frontmatter_good (lines text) p)
