-- After a first line that isn't blank, a tree doesn't hold a blank line alone: so an item that holds it goes on over blank lines.
use Rattle.std.proofs.Common.{◌≡◌, ℕ, zero, suc, List, [], ◌∷◌, ◌++◌, None, Some, Option, Bool, true, false, ◌&&◌, ◌||◌, ◌-◌, take, inl, inr, ◌⊎◌, ⊎_elim}
use Rattle.std.proofs.Common.{refl, sym, ap, subst, length}
use Rattle.std.proofs.lemmas.Bool.{cond_both, both_ways, true≢false}
use Rattle.markdown_options.specs.declared.line_ending.LineEnding.{LineEnding}
use Rattle.markdown_options.specs.declared.configuration.Constructs.{Constructs}
use Rattle.markdown_options.specs.declared.beside.Beside.{Beside}
use Rattle.definition_text.specs.Columns.{Rest, is_blank}
use Rattle.definition_text.specs.Content.{content_of}
use Rattle.definition_inline.specs.Definition.{Definition as LinkDefinition, definition_at}
use Rattle.definition_block.specs.Container.{Container, Quote}
use Rattle.definition_block.specs.ContainerLine.{ContainerLine}
use Rattle.definition_block.specs.ContainerStart.{ContainerStart}
use Rattle.definition_block.specs.Containers.{continues, starts}
use Rattle.definition_block.specs.CodeIndented.{starts_code_indented}
use Rattle.definition_block.specs.CodeFenced.{Fence, fence_start, is_fence_end}
use Rattle.definition_block.specs.MathFlow.{math_start}
use Rattle.definition_block.specs.HtmlFlow.{html_start, html_ends_here, ends_before_blank}
use Rattle.definition_block.specs.HeadingAtx.{Atx, heading_atx}
use Rattle.definition_block.specs.HeadingSetext.{underline}
use Rattle.markdown_options.specs.declared.align_kind.AlignKind.{AlignKind}
use Rattle.definition_block.specs.GfmTable.{delimiter_row, is_head}
use Rattle.definition_block.specs.Definitions.{DefinitionCut, cut_into, cut_after, cut_most, definition_cut}
use Rattle.definition_block.specs.Tree.{BlockLine, own_lines, Blank, Blocks, Nil, Cons, join, one, OpenLeaf, Text, Indented, Fenced}
use Rattle.definition_block.specs.Tree.{OpenHtml, OpenTable, Opening, At, Inside, Tree, tree, nothing, paragraph_of, with_paragraph, container_block, close}
use Rattle.definition_block.specs.Tree.{has_text, has_table, is_some_line, table_of, tabled, leaf_with_line, with_line, rest_line, html_with, takes, after}
use Rattle.definition_block.specs.Tree.{fence_tree, html_tree, atx_tree, text_line_of, text_here, heading_of, underlined, leaf_line, beside_in, start, new}
use Rattle.definition_block.specs.Tree.{is_nothing, is_one_blank, began_blank, goes_on, grow}
use Rattle.definition_text.proofs.Each.{WhereSome}
use Rattle.definition_block.proofs.LeafLines.{where_leaf_line, where_unwrapped}
use Rattle.std.specs.Option.{option_and_then}

-- the first of these blocks is there, and is no blank line
abbrev IsDark : Blocks → Type 0
IsDark Nil = true ≡ false
IsDark (Cons (Blank ending) bs) = true ≡ false
IsDark (Cons b bs) = Unit {0}

-- something is open
abbrev IsOpen : Opening → Type 0
IsOpen (At (Text [])) = true ≡ false
IsOpen now = Unit {0}

-- what was read first is no blank line
abbrev pub IsBegun : Tree → Type 0
IsBegun t = IsDark t.done ⊎ ((t.done ≡ Nil) × IsOpen t.now)

abbrev SomeBegun : Option Tree → Type 0
SomeBegun o = WhereSome IsBegun o

dark_join : (bs others : Blocks) → IsDark bs → IsDark (join bs others)
dark_join Nil others d = absurd (true≢false d)
dark_join (Cons (Blank ending) bs) others d = absurd (true≢false d)
dark_join (Cons b bs) others d = tt

dark_one : (bs : Blocks) → IsDark bs → is_one_blank bs ≡ false
dark_one Nil d = refl
dark_one (Cons (Blank ending) bs) d = absurd (true≢false d)
dark_one (Cons b bs) d = refl

-- so nothing was read that is a blank line alone
pub begun_blank : (t : Tree) → IsBegun t → began_blank t.done t.now ≡ false
begun_blank t b =
    ⊎_elim (λ d. ap (λ blank. blank && is_nothing t.now) (dark_one t.done d))
    (λ n. ap (λ bs. is_one_blank bs && is_nothing t.now) n.0) b

-- nothing, or dark
abbrev NoneOrDark : Blocks → Type 0
NoneOrDark bs = (bs ≡ Nil) ⊎ IsDark bs

join_dark : (bs others : Blocks) → NoneOrDark bs → IsDark others → IsDark (join bs others)
join_dark bs others h d = ⊎_elim (λ none. subst (λ x. IsDark (join x others)) (sym none) d) (λ dark. dark_join bs others dark) h

cut_after_dark : (o : Option LinkDefinition) (ls : List BlockLine) (more : List BlockLine → DefinitionCut) → NoneOrDark (cut_after o ls more).definitions
cut_after_dark None ls more = inl refl
cut_after_dark (Some d) ls more = inr tt

cut_most_dark : (most : ℕ) (ls : List BlockLine) → NoneOrDark (cut_most most ls).definitions
cut_most_dark zero ls = inl refl
cut_most_dark (suc most) ls = cut_after_dark (definition_at (content_of (own_lines ls))) ls (cut_most most)

paragraph_after : (o : Option LinkDefinition) (line : BlockLine) (ls : List BlockLine) (more : List BlockLine → DefinitionCut)
    → IsDark (with_paragraph (cut_after o (line ∷ ls) more))
paragraph_after None line ls more = tt
paragraph_after (Some d) line ls more = tt

html_begun : (kind : ℕ) (ls : List BlockLine) (rest : Rest) (beside : Beside) → IsBegun (html_with kind ls rest beside)
html_begun kind ls rest beside = cond_both (html_ends_here kind rest) _ _ IsBegun (λ _. inl tt) (λ _. inr (refl, tt))

atx_begun : (beside : Beside) (o : Option Atx) → WhereSome (λ (a : Atx). IsBegun (atx_tree beside a)) o
atx_begun beside None = tt
atx_begun beside (Some a) = inl tt

fence_begun : (beside : Beside) (o : Option Fence) → WhereSome (λ (f : Fence). IsBegun (fence_tree beside f)) o
fence_begun beside None = tt
fence_begun beside (Some fence) = inr (refl, tt)

html_start_begun : (rest : Rest) (beside : Beside) (o : Option ℕ) → WhereSome (λ kind. IsBegun (html_tree rest beside kind)) o
html_start_begun rest beside None = tt
html_start_begun rest beside (Some kind) = html_begun kind [] rest beside

heading_begun : (rank : ℕ) (definitions : Blocks) (ls : List BlockLine) (ending : Option LineEnding) → NoneOrDark definitions
    → SomeBegun (heading_of rank definitions ls ending)
heading_begun rank definitions [] ending h = tt
heading_begun rank definitions (line ∷ ls) ending h = inl (join_dark definitions _ h tt)

paragraph_either : (ls : List BlockLine) → NoneOrDark (paragraph_of ls)
paragraph_either [] = inl refl
paragraph_either (line ∷ ls) = inr tt

join_either : (bs others : Blocks) → NoneOrDark bs → NoneOrDark others → NoneOrDark (join bs others)
join_either bs others h k = ⊎_elim (λ none. subst (λ x. NoneOrDark (join x others)) (sym none) k) (λ dark. inr (dark_join bs others dark)) h

table_of_begun : (definitions : Blocks) (ls : List BlockLine) (row : BlockLine) → NoneOrDark definitions → IsBegun (table_of definitions ls row)
table_of_begun definitions ls row h =
    let front = take (length ls - 1) ls in
    ⊎_elim (λ none. inr (none, tt)) (λ dark. inl dark) (join_either definitions (paragraph_of front) h (paragraph_either front))

longer_open : (ls : List BlockLine) (line : BlockLine) → IsOpen (At (Text (ls ++ line ∷ [])))
longer_open [] line = tt
longer_open (l ∷ ls) line = tt

leaf_line_open : (line : BlockLine) (leaf : OpenLeaf) → IsOpen (At (leaf_with_line line leaf))
leaf_line_open line (Text ls) = longer_open ls line
leaf_line_open line leaf = tt

line_open : (line : BlockLine) (now : Opening) → IsOpen (with_line line now)
line_open line (At leaf) = leaf_line_open line leaf
line_open line (Inside c kids inner) = tt

module _ (on : Constructs) where
  cut_dark : (ls : List BlockLine) → NoneOrDark (definition_cut on ls).definitions
  cut_dark ls =
      cond_both on.definition (cut_most (length ls) ls) (cut_into Nil ls) (λ (parts : DefinitionCut). NoneOrDark parts.definitions)
      (λ _. cut_most_dark (length ls) ls) (λ _. inl refl)

  paragraph_dark : (line : BlockLine) (ls : List BlockLine) → IsDark (with_paragraph (definition_cut on (line ∷ ls)))
  paragraph_dark line ls =
      let all = line ∷ ls in
      cond_both on.definition (cut_most (length all) all) (cut_into Nil all) (λ (parts : DefinitionCut). IsDark (with_paragraph parts))
      (λ _. paragraph_after (definition_at (content_of (own_lines all))) line ls (cut_most (length ls))) (λ _. tt)

  holds_dark : (c : Container) (kids : Blocks) → IsDark (container_block c kids)
  holds_dark Quote kids = tt
  holds_dark c kids = tt

  -- what is open is something where it is closed
  close_dark : (now : Opening) → IsOpen now → IsDark (close on now)
  close_dark (At (Text [])) h = absurd (true≢false h)
  close_dark (At (Text (line ∷ ls))) h = paragraph_dark line ls
  close_dark (At leaf) h = tt
  close_dark (Inside c kids inner) h = holds_dark c (join kids (close on inner))

  closed_nothing : NoneOrDark (close on nothing)
  closed_nothing =
      cond_both on.definition (cut_most 0 []) (cut_into Nil []) (λ (parts : DefinitionCut). NoneOrDark (with_paragraph parts)) (λ _. inl refl) (λ _. inl refl)

  close_either : (now : Opening) → NoneOrDark (close on now)
  close_either (At (Text [])) = closed_nothing
  close_either now = inr (close_dark now tt)

  after_begun : (away : Opening) (t : Tree) → IsBegun t → IsBegun (after on away t)
  after_begun away t b =
      ⊎_elim
      (λ none. subst (λ closed. IsBegun (tree (join closed t.done) t.now)) (sym none) b)
      (λ dark. inl (dark_join (close on away) t.done dark)) (close_either away)

  takes_begun : (leaf : OpenLeaf) (rest : Rest) (beside : Beside) → SomeBegun (takes on leaf rest beside)
  takes_begun (Text ls) rest beside = tt
  takes_begun (Indented ls pending) rest beside =
      cond_both (is_blank rest) _ _ SomeBegun (λ _. inr (refl, tt))
      (λ _. cond_both (starts_code_indented on rest) _ _ SomeBegun (λ _. inr (refl, tt)) (λ _. tt))
  takes_begun (Fenced fence opening ls) rest beside = cond_both (is_fence_end on fence rest) _ _ SomeBegun (λ _. inl tt) (λ _. inr (refl, tt))
  takes_begun (OpenHtml kind ls) rest beside =
      cond_both (ends_before_blank kind && is_blank rest) _ _ SomeBegun (λ _. tt) (λ _. html_begun kind ls rest beside)
  takes_begun (OpenTable ls) rest beside = tt

  text_begun : (away : Opening) (rest : Rest) (beside : Beside) → IsBegun (text_line_of on away rest beside)
  text_begun away rest beside =
      cond_both (has_text away || has_table away) _ _ IsBegun (λ _. inr (refl, line_open (rest_line rest beside) away))
      (λ _. after_begun away (tree Nil (At (Text (rest_line rest beside ∷ [])))) (inr (refl, tt)))

  table_begun : (o : Option (List AlignKind)) (ls : List BlockLine) (row : BlockLine) → SomeBegun (option_and_then (tabled on ls row) o)
  table_begun None ls row = tt
  table_begun (Some columns) ls row =
      let parts = definition_cut on ls in
      cond_both (is_some_line parts.left && is_head (length columns) ls) _ _ SomeBegun
      (λ _. table_of_begun parts.definitions parts.left row (cut_dark ls)) (λ _. tt)

  underlined_begun : (o : Option ℕ) (ls : List BlockLine) (ending : Option LineEnding) → SomeBegun (option_and_then (underlined on ls ending) o)
  underlined_begun None ls ending = tt
  underlined_begun (Some rank) ls ending = heading_begun rank (definition_cut on ls).definitions (definition_cut on ls).left ending (cut_dark ls)

  -- something is open, or the rest isn't blank
  abbrev HasText : Opening → Rest → Type 0
  HasText away rest = IsOpen away ⊎ (is_blank rest ≡ false)

  leaf_line_begun : (away : Opening) (rest : Rest) (beside : Beside) → HasText away rest → IsBegun (leaf_line on away rest beside)
  leaf_line_begun away rest beside h =
      where_leaf_line IsBegun IsBegun on away rest beside
      record {
        blank = λ blank. ⊎_elim (λ is_open. inl (dark_join (close on away) (one (Blank beside.ending)) (close_dark away is_open)))
            (λ other. absurd (both_ways (is_blank rest) other blank)) h;
        closes = λ t b. after_begun away t b;
        indented = λ _. inr (refl, tt);
        fenced = fence_begun beside (fence_start on rest);
        math = fence_begun beside (math_start on rest);
        html = html_start_begun rest beside (html_start on (has_text away) rest);
        heading = atx_begun beside (heading_atx on rest);
        underlined = underlined_begun (underline on rest) (text_here away) beside.ending;
        breaks = λ _. inl tt;
        tabled = table_begun (delimiter_row on rest) (text_here away) (rest_line rest beside);
        text = λ _. text_begun away rest beside;
      }

  start_begun : (o : Option ContainerStart) (away : Opening) (other : Tree) (more : ContainerStart → Tree) → IsBegun other
      → IsBegun (start on o away other more)
  start_begun None away other more q = q
  start_begun (Some s) away other more q = after_begun away (tree Nil (Inside s.container (more s).done (more s).now)) (inr (refl, tt))

  pub new_begun : (most : ℕ) (all : Bool) (away : Opening) (beside : Beside) (rest : Rest) → HasText away rest → IsBegun (new most on all away beside rest)
  new_begun zero all away beside rest h = leaf_line_begun away rest beside h
  new_begun (suc most) all away beside rest h =
      start_begun (starts on (all && has_text away) rest) away (leaf_line on away rest beside) _ (leaf_line_begun away rest beside h)

  goes_on_begun : (o : Option ContainerLine) (c : Container) (kids : Blocks) (inner : Opening) (beside : Beside) (rest : Rest) (more : ContainerLine → Tree)
      → IsBegun (goes_on o on c kids inner beside rest more)
  goes_on_begun None c kids inner beside rest more = new_begun (length rest) false (Inside c kids inner) beside rest (inl tt)
  goes_on_begun (Some line) c kids inner beside rest more = inr (refl, tt)

  grow_begun : (beside : Beside) (now : Opening) (rest : Rest) → IsOpen now → IsBegun (grow on beside now rest)
  grow_begun beside (At leaf) rest h =
      where_unwrapped IsBegun (takes on leaf rest beside) (new (length rest) on true (At leaf) beside rest) (takes_begun leaf rest beside)
      (new_begun (length rest) true (At leaf) beside rest (inl h))
  grow_begun beside (Inside c kids inner) rest h =
      goes_on_begun (continues on c (began_blank kids inner) rest) c kids inner beside rest
      (λ line. grow on (beside_in line.before beside) inner line.rest)

  -- one more line
  pub more_begun : (beside : Beside) (t : Tree) (rest : Rest) → IsBegun t
      → IsBegun (tree (join t.done (grow on beside t.now rest).done) (grow on beside t.now rest).now)
  more_begun beside t rest b =
      let more = grow on beside t.now rest in
      ⊎_elim (λ d. inl (dark_join t.done more.done d))
      (λ n. subst (λ bs. IsBegun (tree (join bs more.done) more.now)) (sym n.0) (grow_begun beside t.now rest n.1)) b
