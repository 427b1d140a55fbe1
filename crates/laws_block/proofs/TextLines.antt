-- On which lines of a text its blocks stand.
use Rattle.std.proofs.Common.{◌≡◌, ◌≢◌, ℕ, suc, zero, ◌+◌, ◌-◌, ◌≤◌, Bool, true, false, cond, leb, eqb, ◌&&◌, ◌||◌, List, [], ◌∷◌, ◌++◌, Option, None, Some}
use Rattle.std.proofs.Common.{length, take, drop, refl, sym, ap, ◌∙◌, subst, inl, inr, arith}
use Rattle.std.proofs.lemmas.Bool.{both_ways, cases_Bool, cond-true, cond-false, cond_both, and_parts, or_cases, eqb-true, eqb-false, false≢true}
use Rattle.std.proofs.lemmas.List.{length-append, length-drop, length-take}
use Rattle.markdown_options.specs.declared.line_ending.LineEnding.{LineEnding}
use Rattle.markdown_options.specs.declared.line_ending.LineEnding.TheVariants.{LineFeed}
use Rattle.markdown_options.specs.declared.configuration.Constructs.{Constructs}
use Rattle.markdown_options.specs.declared.beside.Beside.{Beside}
use Rattle.markdown_options.specs.declared.beside.Kind.{Kind}
use Rattle.markdown_options.specs.declared.beside.Kind.TheVariants.{Whitespace}
use Rattle.definition_text.specs.BlockLines.{BlockLine, own_lines, last_ending, last_ending_or}
use Rattle.definition_text.specs.Columns.{Rest, whole, is_blank, bare, bytes_of}
use Rattle.definition_text.specs.Content.{content_of}
use Rattle.definition_text.specs.Indents.{outdent, small_indent}
use Rattle.definition_text.specs.Lines.{TextLine, lines}
use Rattle.definition_text.specs.Runs.{run, after_run, is_run}
use Rattle.definition_inline.specs.Definition.{Definition as LinkDefinition, definition_at}
use Rattle.definition_block.specs.Container.{Container, Quote}
use Rattle.definition_block.specs.ContainerLine.{ContainerLine}
use Rattle.definition_block.specs.ContainerStart.{ContainerStart}
use Rattle.definition_block.specs.Containers.{continues, starts}
use Rattle.definition_block.specs.CodeIndented.{starts_code_indented}
use Rattle.definition_block.specs.CodeFenced.{Fence, fence_start, is_fence_end, fence_line}
use Rattle.definition_block.specs.MathFlow.{math_start}
use Rattle.definition_block.specs.HtmlFlow.{html_start, html_ends_here, ends_before_blank}
use Rattle.definition_block.specs.HeadingAtx.{Atx, begins_apart, atx_of, heading_atx}
use Rattle.definition_block.specs.HeadingSetext.{underline, underline_of}
use Rattle.definition_block.specs.Frontmatter.{is_metadata_fence, after_metadata_fence, after_frontmatter}
use Rattle.markdown_options.specs.declared.align_kind.AlignKind.{AlignKind}
use Rattle.definition_block.specs.GfmTable.{delimiter_row, is_head}
use Rattle.definition_block.specs.Definitions.{lines_before, DefinitionCut, cut_into, cut_after, cut_most, definition_cut}
use Rattle.definition_block.specs.Tree.{Block, Leaf, Paragraph, Heading, FencedCode, Html, Table, Holds, Items, Blank, Blocks, Nil, Cons, join, one}
use Rattle.definition_block.specs.Tree.{block_and_ending, OpenLeaf, Text, Indented, Fenced, OpenHtml, OpenTable, Opening, At, Inside, Tree as BlockTree, tree}
use Rattle.definition_block.specs.Tree.{nothing, empty_tree, blanks, paragraph_of, close_leaf, is_ending, all_endings, front, trailing, without_last, last_of}
use Rattle.definition_block.specs.Tree.{container_block, close, leaf_text, open_text, has_text, has_table, is_some_line, table_of, makes_table}
use Rattle.definition_block.specs.Tree.{with_line, rest_line, html_with, takes, after, text_line_of}
use Rattle.definition_block.specs.Tree.{heading_of, turns, leaf_line, beside_in, start, new}
use Rattle.definition_block.specs.Tree.{began_blank, goes_on, grow, beside_line, step, steps, children, children_after, blocks}
use Rattle.definition_block.specs.Tree.{fence_tree, html_tree, atx_tree, underlined, tabled}
use Rattle.definition_block.proofs.LeafLines.{where_leaf_line, where_unwrapped}
use Rattle.definition_text.proofs.Each.{WhereSome}
use Rattle.std.specs.Option.{option_and_then}
use Rattle.definition_block.specs.Lists.{endings_of, after_endings, item_marker, list_marker, list_items, rest_of, before_list, put_before, grouped_block}
use Rattle.definition_block.specs.Lists.{group_items}
use Rattle.text_pieces.specs.ParagraphLines.{AreLines}
use Rattle.block_rows.proofs.DefinitionLines.{definition_cuts}
use Rattle.block_rows.proofs.OpenLines.{AreTextLines, AreLinesTo, are_lines, lines_of_text, open_step}
use Rattle.laws_block.specs.TextLines.{IsOn, AreOn, lines_after, lines_read, BlocksAreOnLines, HeadingsAreOfLines}

length-own : (ls : List BlockLine) → length (own_lines ls) ≡ length ls
length-own [] = refl
length-own (line ∷ []) = refl
length-own (line ∷ next ∷ others) = ap suc (length-own (next ∷ others))

-- ---- blocks are what stands before their last endings, and these

join-alone : (ends : Bool) (b : Block) → join (cond ends Nil (one b)) (cond ends (one b) Nil) ≡ one b
join-alone true b = refl
join-alone false b = refl

pub join-without_last : (bs : Blocks) → join (without_last bs) (last_of bs) ≡ bs
join-without_last Nil = refl
join-without_last (Cons b Nil) = join-alone (is_ending b) b
join-without_last (Cons b (Cons c bs)) = ap (Cons b) (join-without_last (Cons c bs))

join-front_by : (b : Block) (bs : Blocks) (ends : Bool) → join (front bs) (trailing bs) ≡ bs
    → join (cond ends Nil (Cons b (front bs))) (cond ends (Cons b bs) (trailing bs)) ≡ Cons b bs
join-front_by b bs true same = refl
join-front_by b bs false same = ap (Cons b) same

pub join-front : (bs : Blocks) → join (front bs) (trailing bs) ≡ bs
join-front Nil = refl
join-front (Cons b bs) = join-front_by b bs (all_endings (Cons b bs)) (join-front bs)

module _ (on : Constructs) where
  join_on : (bs cs : Blocks) (a m c : ℕ) → AreOn on bs a m → AreOn on cs m c → AreOn on (join bs cs) a c
  join_on Nil cs a m c p q = subst (λ n. AreOn on cs n c) (sym p) q
  join_on (Cons b bs) cs a m c p q = (p.0, p.1, join_on bs cs p.0 m c p.2 q)

  pub split_on : (bs cs : Blocks) (a c : ℕ) → AreOn on (join bs cs) a c → (m : ℕ) × AreOn on bs a m × AreOn on cs m c
  split_on Nil cs a c p = (a, refl, p)
  split_on (Cons b bs) cs a c p = let m = split_on bs cs p.0 c p.2 in (m.0, (p.0, p.1, m.1), m.2)

  ended_on : (b : Block) (ending : Option LineEnding) (a m c : ℕ) → IsOn on b a m → c ≡ suc m → AreOn on (block_and_ending b ending) a c
  ended_on b ending a m c p e = (m, p, (suc m, refl, sym e))

  -- ---- closing

  hold_on : (c : Container) (kids : Blocks) (a b : ℕ) → AreOn on kids a b → AreOn on (container_block c kids) a b
  hold_on Quote kids a b p =
      split_on (without_last kids) (last_of kids) a b (subst (λ x. AreOn on x a b) (sym (join-without_last kids)) p)
  hold_on c kids a b p = split_on (front kids) (trailing kids) a b (subst (λ x. AreOn on x a b) (sym (join-front kids)) p)

  blanks_on : (ls : List BlockLine) (a b : ℕ) → b ≡ a + length ls → AreOn on (blanks ls) a b
  blanks_on [] a b e = omega (arith, e)
  blanks_on (line ∷ others) a b e = (suc a, refl, blanks_on others (suc a) b (omega (arith, e)))

  paragraph_on : (ls : List BlockLine) (a b : ℕ) → b ≡ a + length ls → AreOn on (paragraph_of ls) a b
  paragraph_on [] a b e = omega (arith, e)
  paragraph_on (line ∷ others) a b e =
      let own = length-own (line ∷ others) in
      let last : ℕ = a + (length (own_lines (line ∷ others)) - 1) in
      ended_on (Leaf (Paragraph (own_lines (line ∷ others)))) (last_ending (line ∷ others)) a last b refl (omega (arith, e, own))

  -- what is cut from a paragraph, and what is left of it
  abbrev CutOn : DefinitionCut → ℕ → ℕ → Type 0
  CutOn parts a b = (m : ℕ) × AreOn on parts.definitions a m × (b ≡ m + length parts.left)

  cut_after_on : (o : Option LinkDefinition) (ls : List BlockLine) (more : List BlockLine → DefinitionCut) (a b : ℕ) → b ≡ a + length ls
      → ((d : LinkDefinition) → o ≡ Some d → (1 ≤ lines_before d.rest ls) × (lines_before d.rest ls ≤ length ls)
      × ((k : ℕ) → b ≡ k + length (drop (lines_before d.rest ls) ls) → CutOn (more (drop (lines_before d.rest ls) ls)) k b))
      → CutOn (cut_after o ls more) a b
  cut_after_on None ls more a b e h = (a, refl, e)
  cut_after_on (Some d) ls more a b e h =
      let n = lines_before d.rest ls in
      let k = h d refl in
      let some : 1 ≤ n = k.0 in
      let within : n ≤ length ls = k.1 in
      let dropped = length-drop n ls in
      let others = k.2 (a + n) (omega (arith, e, within, dropped)) in
      let last : ℕ = a + (n - 1) in
      (others.0, (last, omega arith, (a + n, omega (arith, some), others.1)), others.2)

  cut_most_on : (most : ℕ) (ls : List BlockLine) (a b : ℕ) → AreLines ls → b ≡ a + length ls → CutOn (cut_most most ls) a b
  cut_most_on zero ls a b h e = (a, refl, e)
  cut_most_on (suc most) ls a b h e =
      cut_after_on (definition_at (content_of (own_lines ls))) ls (cut_most most) a b e
      (λ d found.
      let cuts = definition_cuts ls d h found in
      (cuts.some, cuts.within, λ k same. cut_most_on most (drop (lines_before d.rest ls) ls) k b cuts.left same))

  cut_on : (ls : List BlockLine) (a b : ℕ) → AreLines ls → b ≡ a + length ls → CutOn (definition_cut on ls) a b
  cut_on ls a b h e =
      cond_both on.definition (cut_most (length ls) ls) (cut_into Nil ls) (λ (parts : DefinitionCut). CutOn parts a b)
      (λ _. cut_most_on (length ls) ls a b h e) (λ _. (a, refl, e))

  -- ---- what is open, and the line that is read next

  abbrev LeafOn : OpenLeaf → ℕ → ℕ → Type 0
  LeafOn (Text ls) a b = b ≡ a + length ls
  LeafOn (Indented ls pending) a b = (1 ≤ length ls) × (b ≡ a + (length ls + length pending))
  LeafOn (Fenced fence ending ls) a b = b ≡ suc (a + length ls)
  LeafOn (OpenHtml kind ls) a b = (1 ≤ length ls) × (b ≡ a + length ls)
  LeafOn (OpenTable ls) a b = (1 ≤ length ls) × (b ≡ a + length ls)

  abbrev OpeningOn : Opening → ℕ → ℕ → Type 0
  OpeningOn (At leaf) a b = LeafOn leaf a b
  OpeningOn (Inside c kids inner) a b = (m : ℕ) × AreOn on kids a m × OpeningOn inner m b

  abbrev TreeOn : BlockTree → ℕ → ℕ → Type 0
  TreeOn t a b = (m : ℕ) × AreOn on t.done a m × OpeningOn t.now m b

  abbrev SomeOn : ℕ → ℕ → Option BlockTree → Type 0
  SomeOn a b o = WhereSome (λ (t : BlockTree). TreeOn t a b) o

  -- own lines of a leaf, and the ending of the last one
  own_on : (ls : List BlockLine) (a b : ℕ) → 1 ≤ length ls → b ≡ a + length ls → b ≡ suc (a + (length (own_lines ls) - 1))
  own_on ls a b some e = let own = length-own ls in omega (arith, e, some, own)

  close_leaf_on : (leaf : OpenLeaf) (a b : ℕ) → AreLines (leaf_text leaf) → LeafOn leaf a b → AreOn on (close_leaf on leaf) a b
  close_leaf_on (Text ls) a b h p =
      let parts = cut_on ls a b h p in
      join_on (definition_cut on ls).definitions (paragraph_of (definition_cut on ls).left) a parts.0 b parts.1
      (paragraph_on (definition_cut on ls).left parts.0 b parts.2)
  close_leaf_on (Indented ls pending) a b h p =
      let own = length-own ls in
      let some : 1 ≤ length ls = p.0 in
      let last : ℕ = a + (length (own_lines ls) - 1) in
      (last, refl, (a + length ls, omega (arith, own, some), blanks_on pending (a + length ls) b (let e = p.1 in omega (arith, e))))
  close_leaf_on (Fenced fence ending ls) a b h p =
      ended_on (Leaf (FencedCode fence.info false ls)) (last_ending_or ending ls) a (a + (length ls + 0)) b refl (omega (arith, p))
  close_leaf_on (OpenHtml kind ls) a b h p =
      ended_on (Leaf (Html (own_lines ls))) (last_ending ls) a (a + (length (own_lines ls) - 1)) b refl (own_on ls a b p.0 p.1)
  close_leaf_on (OpenTable ls) a b h p =
      ended_on (Leaf (Table (own_lines ls))) (last_ending ls) a (a + (length (own_lines ls) - 1)) b refl (own_on ls a b p.0 p.1)

  close_on : (now : Opening) (a b : ℕ) → AreLines (open_text now) → OpeningOn now a b → AreOn on (close on now) a b
  close_on (At leaf) a b h p = close_leaf_on leaf a b h p
  close_on (Inside c kids inner) a b h p =
      hold_on c (join kids (close on inner)) a b (join_on kids (close on inner) a p.0 b p.1 (close_on inner p.0 b h p.2))

  -- ---- leaves: what begins on the line `b`, or goes on on it, is read up to the next line

  more_lines : (ls : List BlockLine) (line : BlockLine) → length (ls ++ line ∷ []) ≡ suc (length ls)
  more_lines ls line = let n = length-append ls (line ∷ []) in omega (arith, n)

  html_on : (kind : ℕ) (ls : List BlockLine) (rest : Rest) (beside : Beside) (a b : ℕ) → b ≡ a + length ls → TreeOn (html_with kind ls rest beside) a (suc b)
  html_on kind ls rest beside a b e =
      let more = ls ++ rest_line rest beside ∷ [] in
      let n : length more ≡ suc (length ls) = more_lines ls (rest_line rest beside) in
      let own = length-own more in
      let last : ℕ = a + (length (own_lines more) - 1) in
      cond_both (html_ends_here kind rest) (tree (block_and_ending (Leaf (Html (own_lines more))) beside.ending) nothing)
      (tree Nil (At (OpenHtml kind more))) (λ (t : BlockTree). TreeOn t a (suc b))
      (λ _. (suc b, ended_on (Leaf (Html (own_lines more))) beside.ending a last (suc b) refl (omega (arith, e, n, own)), omega arith))
      (λ _. (a, refl, (omega (arith, n), omega (arith, e, n))))

  takes_on : (leaf : OpenLeaf) (rest : Rest) (beside : Beside) (a b : ℕ) → LeafOn leaf a b → SomeOn a (suc b) (takes on leaf rest beside)
  takes_on (Text ls) rest beside a b p = tt
  takes_on (Indented ls pending) rest beside a b p =
      let line = rest_line (outdent 4 rest) beside in
      let n = more_lines pending line in
      let m = more_lines (ls ++ pending) line in
      let k = length-append ls pending in
      let some : 1 ≤ length ls = p.0 in
      let e = p.1 in
      cond_both (is_blank rest) _ _ (SomeOn a (suc b)) (λ _. (a, refl, (some, omega (arith, e, n))))
      (λ _. cond_both (starts_code_indented on rest) _ _ (SomeOn a (suc b))
      (λ _. (a, refl, (omega (arith, m), omega (arith, e, m, k)))) (λ _. tt))
  takes_on (Fenced fence opening ls) rest beside a b p =
      let n = more_lines ls (rest_line (fence_line fence rest) beside) in
      cond_both (is_fence_end on fence rest) _ _ (SomeOn a (suc b))
      (λ _. (suc b, ended_on (Leaf (FencedCode fence.info true ls)) beside.ending a (a + (length ls + 1)) (suc b) refl (omega (arith, p)), omega arith))
      (λ _. (a, refl, omega (arith, p, n)))
  takes_on (OpenHtml kind ls) rest beside a b p =
      cond_both (ends_before_blank kind && is_blank rest) _ _ (SomeOn a (suc b)) (λ _. tt) (λ _. html_on kind ls rest beside a b p.1)
  takes_on (OpenTable ls) rest beside a b p = tt

  -- an ATX heading is read where it is on, with a rank up to 6
  atx_read : (rest : Rest) → WhereSome (λ (x : Atx). (on.heading_atx ≡ true) × (leb x.rank 6 ≡ true)) (heading_atx on rest)
  atx_read rest =
      let P : Atx → Type 0 = λ x. (on.heading_atx ≡ true) × (leb x.rank 6 ≡ true) in
      let text = bytes_of (bare rest) in
      let rank = run 35 text in
      cond_both (on.heading_atx && small_indent on rest) (atx_of text) None (WhereSome P)
      (λ e. cond_both (leb 1 rank && leb rank 6 && begins_apart (after_run 35 text)) _ _ (WhereSome P)
      (λ k. (
        (and_parts on.heading_atx (small_indent on rest) e).0,
        (and_parts (leb 1 rank) (leb rank 6) (and_parts (leb 1 rank && leb rank 6) (begins_apart (after_run 35 text)) k).0).1,
      )) (λ _. tt))
      (λ _. tt)

  -- an underline gives the rank 1 or 2
  underline_read : (rest : Rest) → WhereSome (λ rank. (on.heading_setext ≡ true) × (leb rank 2 ≡ true)) (underline on rest)
  underline_read rest =
      let P : ℕ → Type 0 = λ rank. (on.heading_setext ≡ true) × (leb rank 2 ≡ true) in
      let text = bytes_of (bare rest) in
      cond_both (on.heading_setext && small_indent on rest) (underline_of text) None (WhereSome P)
      (λ e. let h = (and_parts on.heading_setext (small_indent on rest) e).0 in
      cond_both (is_run 1 61 text) _ _ (WhereSome P) (λ _. (h, refl))
      (λ _. cond_both (is_run 1 45 text) _ _ (WhereSome P) (λ _. (h, refl)) (λ _. tt)))
      (λ _. tt)

  atx_on : (beside : Beside) (o : Option Atx) (b : ℕ) → WhereSome (λ (x : Atx). (on.heading_atx ≡ true) × (leb x.rank 6 ≡ true)) o
      → WhereSome (λ (x : Atx). TreeOn (atx_tree beside x) b (suc b)) o
  atx_on beside None b h = tt
  atx_on beside (Some x) b h = (suc b, (b, inl (h.0, h.1, refl, refl), (suc b, refl, refl)), omega arith)

  fence_on : (beside : Beside) (o : Option Fence) (b : ℕ) → WhereSome (λ (fence : Fence). TreeOn (fence_tree beside fence) b (suc b)) o
  fence_on beside None b = tt
  fence_on beside (Some fence) b = (b, refl, omega arith)

  html_start_on : (rest : Rest) (beside : Beside) (o : Option ℕ) (b : ℕ) → WhereSome (λ kind. TreeOn (html_tree rest beside kind) b (suc b)) o
  html_start_on rest beside None b = tt
  html_start_on rest beside (Some kind) b = html_on kind [] rest beside b b (omega arith)

  after_on : (away : Opening) (t : BlockTree) (a b c : ℕ) → AreLines (open_text away) → OpeningOn away a b → TreeOn t b c → TreeOn (after on away t) a c
  after_on away t a b c h p q = (q.0, join_on (close on away) t.done a b q.0 (close_on away a b h p) q.1, q.2)

  or_nothing : (x : Bool) → (x || false) ≡ true → x ≡ true
  or_nothing x h = elim (or_cases x false h) [ inl e ↦ e | inr e ↦ absurd (false≢true e) ]

  has_more : (line : BlockLine) (now : Opening) (a b : ℕ) → (has_text now || has_table now) ≡ true → OpeningOn now a b
      → OpeningOn (with_line line now) a (suc b)
  has_more line (At (Text ls)) a b h p = let n = more_lines ls line in omega (arith, p, n)
  has_more line (At (OpenTable ls)) a b h p = let n = more_lines ls line in let e = p.1 in (omega (arith, n), omega (arith, e, n))
  has_more line (At leaf) a b h p = absurd (false≢true h)
  has_more line (Inside c kids inner) a b h p = (p.0, p.1, has_more line inner p.0 b (ap (λ x. x || has_table inner) (or_nothing (has_text inner) h)) p.2)

  text_line_on : (away : Opening) (rest : Rest) (beside : Beside) (a b : ℕ) → AreLines (open_text away) → OpeningOn away a b
      → TreeOn (text_line_of on away rest beside) a (suc b)
  text_line_on away rest beside a b h p =
      cond_both (has_text away || has_table away) _ _ (λ (t : BlockTree). TreeOn t a (suc b))
      (λ e. (a, refl, has_more (rest_line rest beside) away a b e p))
      (λ _. after_on away (tree Nil (At (Text (rest_line rest beside ∷ [])))) a b (suc b) h p (b, refl, omega arith))

  -- an underline makes a heading of the open paragraph
  heading_on : (rank : ℕ) (definitions : Blocks) (ls : List BlockLine) (ending : Option LineEnding) (a m b : ℕ)
      → (on.heading_setext ≡ true) × (leb rank 2 ≡ true) → AreOn on definitions a m → b ≡ m + length ls
      → SomeOn a (suc b) (heading_of rank definitions ls ending)
  heading_on rank definitions [] ending a m b h p e = tt
  heading_on rank definitions (line ∷ others) ending a m b h p e =
      let own = length-own (line ∷ others) in
      let heading = Leaf (Heading rank (own_lines (line ∷ others))) in
      let here : IsOn on heading m b = inr (h.0, h.1, omega (arith, own), omega (arith, own, e)) in
      (suc b, join_on definitions (block_and_ending heading ending) a m (suc b) p (ended_on heading ending m b (suc b) here refl), omega arith)

  -- of no lines nothing is made
  no_heading : (o : Option ℕ) (ending : Option LineEnding) (a b : ℕ) → SomeOn a b (option_and_then (underlined on [] ending) o)
  no_heading None ending a b = tt
  no_heading (Some rank) ending a b =
      cond_both on.definition (cut_most 0 []) (cut_into Nil [])
      (λ (parts : DefinitionCut). SomeOn a b (heading_of rank parts.definitions parts.left ending)) (λ _. tt) (λ _. tt)

  underlined_on : (o : Option ℕ) (ls : List BlockLine) (ending : Option LineEnding) (a b : ℕ)
      → WhereSome (λ rank. (on.heading_setext ≡ true) × (leb rank 2 ≡ true)) o → AreLines ls → b ≡ a + length ls
      → SomeOn a (suc b) (option_and_then (underlined on ls ending) o)
  underlined_on None ls ending a b r h e = tt
  underlined_on (Some rank) ls ending a b r h e =
      let parts = cut_on ls a b h e in heading_on rank (definition_cut on ls).definitions (definition_cut on ls).left ending a parts.0 b r parts.1 parts.2

  turns_on : (away : Opening) (rest : Rest) (ending : Option LineEnding) (a b : ℕ) → AreLines (open_text away) → OpeningOn away a b
      → SomeOn a (suc b) (turns on away rest ending)
  turns_on (At (Text ls)) rest ending a b h p = underlined_on (underline on rest) ls ending a b (underline_read rest) h p
  turns_on away rest ending a b h p = no_heading (underline on rest) ending a (suc b)

  -- a row of delimiters makes a table of its last line
  table_of_on : (definitions : Blocks) (ls : List BlockLine) (row : BlockLine) (a m b : ℕ) → AreOn on definitions a m → b ≡ m + length ls
      → TreeOn (table_of definitions ls row) a (suc b)
  table_of_on definitions ls row a m b p e =
      let head = length ls - 1 in
      let taken = length-take head ls in
      let left = length-drop head ls in
      let n = more_lines (drop head ls) row in
      let top : ℕ = m + length (take head ls) in (
        top,
        join_on definitions (paragraph_of (take head ls)) a m top p (paragraph_on (take head ls) m top refl),
        (omega (arith, n), omega (arith, e, taken, left, n)),
      )

  table_on : (o : Option (List AlignKind)) (ls : List BlockLine) (row : BlockLine) (a b : ℕ) → AreLines ls → b ≡ a + length ls
      → SomeOn a (suc b) (option_and_then (tabled on ls row) o)
  table_on None ls row a b h e = tt
  table_on (Some columns) ls row a b h e =
      let parts = cut_on ls a b h e in
      cond_both (is_some_line (definition_cut on ls).left && is_head (length columns) ls) _ _ (SomeOn a (suc b))
      (λ _. table_of_on (definition_cut on ls).definitions (definition_cut on ls).left row a parts.0 b parts.1 parts.2) (λ _. tt)

  no_table : (o : Option (List AlignKind)) (row : BlockLine) (a b : ℕ) → SomeOn a b (option_and_then (tabled on [] row) o)
  no_table None row a b = tt
  no_table (Some columns) row a b =
      cond_both on.definition (cut_most 0 []) (cut_into Nil [])
      (λ (parts : DefinitionCut).
      SomeOn a b (cond (is_some_line parts.left && is_head (length columns) []) (Some (table_of parts.definitions parts.left row)) None))
      (λ _. tt) (λ _. tt)

  makes_table_on : (away : Opening) (rest : Rest) (beside : Beside) (a b : ℕ) → AreLines (open_text away) → OpeningOn away a b
      → SomeOn a (suc b) (makes_table on away rest beside)
  makes_table_on (At (Text ls)) rest beside a b h p = table_on (delimiter_row on rest) ls (rest_line rest beside) a b h p
  makes_table_on away rest beside a b h p = no_table (delimiter_row on rest) (rest_line rest beside) a (suc b)

  leaf_line_on : (away : Opening) (rest : Rest) (beside : Beside) (a b : ℕ) → AreLines (open_text away) → OpeningOn away a b
      → TreeOn (leaf_line on away rest beside) a (suc b)
  leaf_line_on away rest beside a b h p =
      where_leaf_line (λ (t : BlockTree). TreeOn t a (suc b)) (λ (t : BlockTree). TreeOn t b (suc b)) on away rest beside
      record {
        blank = λ _. after_on away (tree (one (Blank beside.ending)) nothing) a b (suc b) h p (suc b, (suc b, refl, refl), omega arith);
        closes = λ t q. after_on away t a b (suc b) h p q;
        indented = λ _. (b, refl, (omega arith, omega arith));
        fenced = fence_on beside (fence_start on rest) b;
        math = fence_on beside (math_start on rest) b;
        html = html_start_on rest beside (html_start on (has_text away) rest) b;
        heading = atx_on beside (heading_atx on rest) b (atx_read rest);
        underlined = turns_on away rest beside.ending a b h p;
        breaks = λ _. (suc b, (b, refl, (suc b, refl, refl)), omega arith);
        tabled = makes_table_on away rest beside a b h p;
        text = λ _. text_line_on away rest beside a b h p;
      }

  -- ---- containers

  start_on : (o : Option ContainerStart) (away : Opening) (other : BlockTree) (more : ContainerStart → BlockTree) (a b : ℕ) → AreLines (open_text away)
      → OpeningOn away a b → TreeOn other a (suc b) → ((s : ContainerStart) → TreeOn (more s) b (suc b)) → TreeOn (start on o away other more) a (suc b)
  start_on None away other more a b h p q m = q
  start_on (Some s) away other more a b h p q m =
      let t = m s in after_on away (tree Nil (Inside s.container (more s).done (more s).now)) a b (suc b) h p (b, refl, (t.0, t.1, t.2))

  new_on : (most : ℕ) (all : Bool) (away : Opening) (beside : Beside) (rest : Rest) (a b : ℕ) → AreLines (open_text away) → OpeningOn away a b
      → TreeOn (new most on all away beside rest) a (suc b)
  new_on zero all away beside rest a b h p = leaf_line_on away rest beside a b h p
  new_on (suc most) all away beside rest a b h p =
      start_on (starts on (all && has_text away) rest) away (leaf_line on away rest beside) _ a b h p (leaf_line_on away rest beside a b h p)
      (λ s. new_on most true nothing (beside_in s.before beside) s.rest b b tt (omega arith))

  goes_on_on : (o : Option ContainerLine) (c : Container) (kids : Blocks) (inner : Opening) (beside : Beside) (rest : Rest) (more : ContainerLine → BlockTree)
      (a m b : ℕ) → AreLines (open_text inner) → AreOn on kids a m → OpeningOn inner m b → ((line : ContainerLine) → TreeOn (more line) m (suc b))
      → TreeOn (goes_on o on c kids inner beside rest more) a (suc b)
  goes_on_on None c kids inner beside rest more a m b h p q r = new_on (length rest) false (Inside c kids inner) beside rest a b h (m, p, q)
  goes_on_on (Some line) c kids inner beside rest more a m b h p q r =
      let t = r line in (a, refl, (t.0, join_on kids (more line).done a m t.0 p t.1, t.2))

  -- ---- the lines of a text

  grow_on : (beside : Beside) (now : Opening) (rest : Rest) (a b : ℕ) → AreLines (open_text now) → OpeningOn now a b
      → TreeOn (grow on beside now rest) a (suc b)
  grow_on beside (At leaf) rest a b h p =
      where_unwrapped (λ (t : BlockTree). TreeOn t a (suc b)) (takes on leaf rest beside) (new (length rest) on true (At leaf) beside rest)
      (takes_on leaf rest beside a b p) (new_on (length rest) true (At leaf) beside rest a b h p)
  grow_on beside (Inside c kids inner) rest a b h p =
      goes_on_on (continues on c (began_blank kids inner) rest) c kids inner beside rest (λ line. grow on (beside_in line.before beside) inner line.rest)
      a p.0 b h p.1 p.2 (λ line. grow_on (beside_in line.before beside) inner line.rest p.0 b h p.2)

  step_on : (before : Kind) (t : BlockTree) (line : TextLine) (a b : ℕ) → AreLines (open_text t.now) → TreeOn t a b → TreeOn (step on before t line) a (suc b)
  step_on before t line a b h p =
      let grown = grow on (beside_line before line) t.now (whole line.content) in
      let more = grow_on (beside_line before line) t.now (whole line.content) p.0 b h p.2 in
      (more.0, join_on t.done grown.done a p.0 more.0 p.1 more.1, more.2)

  -- all lines, the last of which may have no ending
  steps_on : (before : Kind) (e : LineEnding) (t : BlockTree) (ls : List TextLine) (a b c : ℕ) → AreTextLines ls → AreLinesTo (Some e) (open_text t.now)
      → TreeOn t a b → c ≡ b + length ls → TreeOn (steps on before t ls) a c × AreLines (open_text (steps on before t ls).now)
  steps_on before e t [] a b c text h p same =
      (subst (λ n. TreeOn t a n) (omega (arith, same)) p, are_lines (Some e) (open_text t.now) h)
  steps_on before e t (line ∷ []) a b c text h p same =
      let more = step on before t line in
      let clean = are_lines (Some e) (open_text t.now) h in (
        subst (λ n. TreeOn more a n) (omega (arith, same)) (step_on before t line a b clean p),
        are_lines line.ending (open_text more.now) (open_step on before e t line text h),
      )
  steps_on before e t (line ∷ next ∷ others) a b c text h p same =
      let more = step on before t line in
      let clean = are_lines (Some e) (open_text t.now) h in
      steps_on Whitespace text.1.0 more (next ∷ others) a (suc b) c text.2
      (subst (λ o. AreLinesTo o (open_text more.now)) text.1.1 (open_step on before e t line text.0 h))
      (step_on before t line a b clean p) (omega (arith, same))

  children_on : (before : Kind) (ls : List TextLine) (a b : ℕ) → AreTextLines ls → b ≡ a + length ls → AreOn on (children on before ls) a b
  children_on before ls a b text same =
      let t = steps on before empty_tree ls in
      let p = steps_on before LineFeed empty_tree ls a a b text tt (a, refl, omega arith) same in
      join_on t.done (close on t.now) a p.0.0 b p.0.1 (close_on t.now p.0.0 b p.1 p.0.2)

  -- ---- items in lists

  listed_on : (marker : ℕ) (bs : Blocks) (a b : ℕ) → marker ≢ 0 → list_marker bs ≡ marker → AreOn on bs a b
      → (m : ℕ) × AreOn on (list_items bs) a m × AreOn on (rest_of bs) m b
  listed_on marker Nil a b n e p = absurd (n (sym e))
  listed_on marker (Cons (Items items) bs) a b n e p = p
  listed_on marker (Cons x bs) a b n e p = absurd (n (sym e))

  endings_split : (bs : Blocks) → join (endings_of bs) (after_endings bs) ≡ bs
  endings_split Nil = refl
  endings_split (Cons b bs) = elim (cases_Bool (is_ending b)) [
    | inl e ↦
        ap (λ x. join x (after_endings (Cons b bs))) (cond-true (is_ending b) _ _ e)
        ∙ ap (λ x. join (Cons b (endings_of bs)) x) (cond-true (is_ending b) _ _ e)
        ∙ ap (Cons b) (endings_split bs)
    | inr e ↦
        ap (λ x. join x (after_endings (Cons b bs))) (cond-false (is_ending b) _ _ e)
        ∙ cond-false (is_ending b) _ _ e
  ]

  before_list_on : (marker : ℕ) (item : Block) (bs : Blocks) (a m b : ℕ) → marker ≢ 0 → IsOn on item a m → AreOn on bs m b
      → AreOn on (before_list marker item bs) a b
  before_list_on marker item bs a m b n p q =
      let list = after_endings bs in
      let endings = endings_of bs in
      cond_both (eqb (list_marker list) marker) (Cons (Items (Cons item (join endings (list_items list)))) (rest_of list)) (Cons (Items (one item)) bs)
      (λ x. AreOn on x a b)
      (λ e.
      let parts = split_on endings list m b (subst (λ x. AreOn on x m b) (sym (endings_split bs)) q) in
      let items = listed_on marker list parts.0 b n (eqb-true (list_marker list) marker e) parts.2 in
      (items.0, (m, p, join_on endings (list_items list) m parts.0 items.0 parts.1 items.1), items.2))
      (λ _. (m, (m, p, refl), q))

  put_on : (x : Block) (bs : Blocks) (a m b : ℕ) → IsOn on x a m → AreOn on bs m b → AreOn on (put_before x bs) a b
  put_on x bs a m b p q =
      cond_both (eqb (item_marker x) 0) (Cons x bs) (before_list (item_marker x) x bs) (λ bs. AreOn on bs a b) (λ _. (m, p, q))
      (λ e. before_list_on (item_marker x) x bs a m b (eqb-false (item_marker x) 0 e) p q)

  mutual
    grouped_on : (x : Block) (a b : ℕ) → IsOn on x a b → IsOn on (grouped_block x) a b
    grouped_on (Holds c kids) a b p = group_on kids a b p
    grouped_on x a b p = p

    group_on : (bs : Blocks) (a b : ℕ) → AreOn on bs a b → AreOn on (group_items bs) a b
    group_on Nil a b p = p
    group_on (Cons x bs) a b p = put_on (grouped_block x) (group_items bs) a p.0 b (grouped_on x a p.0 p.1) (group_on bs p.0 b p.2)

  -- ---- frontmatter

  -- what follows it: lines of the text, and no more than these
  abbrev IsLater : List TextLine → List TextLine → Type 0
  IsLater all others = AreTextLines others × (length others ≤ length all)

  later_lines : (line : TextLine) (ls : List TextLine) → AreTextLines (line ∷ ls) → AreTextLines ls
  later_lines line [] h = tt
  later_lines line (next ∷ others) h = h.2

  one_further : (line : TextLine) (ls : List TextLine) (o : Option (List TextLine)) → WhereSome (IsLater ls) o → WhereSome (IsLater (line ∷ ls)) o
  one_further line ls None h = tt
  one_further line ls (Some others) h = (h.0, let k = h.1 in omega (arith, k))

  after_fence_later : (byte : ℕ) (ls : List TextLine) → AreTextLines ls → WhereSome (IsLater ls) (after_metadata_fence byte ls)
  after_fence_later byte [] h = tt
  after_fence_later byte (line ∷ ls) h =
      let clean = later_lines line ls h in
      cond_both (is_metadata_fence byte line.content) (Some ls) (after_metadata_fence byte ls) (WhereSome (IsLater (line ∷ ls))) (λ _. (clean, omega arith))
      (λ _. one_further line ls (after_metadata_fence byte ls) (after_fence_later byte ls clean))

  after_frontmatter_later : (ls : List TextLine) → AreTextLines ls → WhereSome (IsLater ls) (after_frontmatter on ls)
  after_frontmatter_later [] h = tt
  after_frontmatter_later (line ∷ ls) h =
      let clean = later_lines line ls h in
      let P : Option (List TextLine) → Type 0 = WhereSome (IsLater (line ∷ ls)) in
      let later : (byte : ℕ) → P (after_metadata_fence byte ls) =
      λ byte. one_further line ls (after_metadata_fence byte ls) (after_fence_later byte ls clean) in
      let plus = on.frontmatter && is_metadata_fence 43 line.content in
      cond_both (on.frontmatter && is_metadata_fence 45 line.content) (after_metadata_fence 45 ls) (cond plus (after_metadata_fence 43 ls) None) P
      (λ _. later 45) (λ _. cond_both plus (after_metadata_fence 43 ls) None P (λ _. later 43) (λ _. tt))

  children_after_on : (before : Kind) (ls : List TextLine) (o : Option (List TextLine)) → AreTextLines ls → WhereSome (IsLater ls) o
      → AreOn on (children_after on before ls o) (length ls - length (lines_after ls o)) (length ls)
  children_after_on before ls None text h = children_on before ls (length ls - length ls) (length ls) text (omega arith)
  children_after_on before ls (Some others) text h =
      let k = h.1 in children_on Whitespace others (length ls - length others) (length ls) h.0 (omega (arith, k))

pub blocks_are_on_lines : BlocksAreOnLines
blocks_are_on_lines on before text bytes =
    let ls = lines text in
    let clean = lines_of_text text bytes in
    let found = after_frontmatter on ls in
    group_on on (blocks on before text) (length ls - length (lines_read on text)) (length ls)
    (children_after_on on before ls found clean (after_frontmatter_later on ls clean))

pub headings_are_of_lines : HeadingsAreOfLines
headings_are_of_lines = record {
  without_atx = λ on rank ls first last off p. elim p [ inl h ↦ absurd (both_ways on.heading_atx off h.0) | inr h ↦ h ];
  without_setext = λ on rank ls first last off p. elim p [ inl h ↦ h | inr h ↦ absurd (both_ways on.heading_setext off h.0) ];
}
