-- An open leaf takes a line, and a line begins a leaf.
use Rattle.std.proofs.Common.{suc, ◌⊎◌, ◌≡◌, ℕ, ◌-◌, Bool, true, false, cond, ◌&&◌, List, [], ◌∷◌, ◌++◌, Option, None, Some, length, take, drop}
use Rattle.std.proofs.Common.{refl, sym, ap, ◌∙◌, subst, inl, inr, arith}
use Rattle.std.specs.Option.{option_and_then}
use Rattle.parse_laid.proofs.Prelude.{after, and_parts, AreCode, AreHtml, AreLines, AreTable, AreTaken, At, AtEnding, Atx, atx_tree, Beside, Between, Blank}
use Rattle.parse_laid.proofs.Prelude.{block_and_ending, BlockLine, Blocks, BlockTree, Break, break_tree, close, cond_both, Constructs, Container, cut_into}
use Rattle.parse_laid.proofs.Prelude.{cut_most, definition_cut, DefinitionCut, false≢true, Fence, fence_start, fence_tree, Fenced, FencedCode, FollowsText}
use Rattle.parse_laid.proofs.Prelude.{Heading, heading_atx, Html, html_start, html_tree, InAll, Indented, indented_tree, InSome, is_blank, is_break, is_head}
use Rattle.parse_laid.proofs.Prelude.{is_some_line, IsCodeLine, IsFenceLine, IsHtmlLine, IsInAll, IsOn, IsTextLine, join, last_ending, last_ending_or, Leaf}
use Rattle.parse_laid.proofs.Prelude.{line_rest, LineEnding, LineRest, makes_table, math_start, Nil, nothing, one, open_text, OpenHtml, Opening, OpenLeaf}
use Rattle.parse_laid.proofs.Prelude.{OpenTable, outdent, own_lines, paragraph_of, Place, Prefixed, Rest, rest_line, spaced_line, starts_code_indented, takes}
use Rattle.parse_laid.proofs.Prelude.{Text, tree, turns, WhereSome}
use Rattle.std.proofs.lemmas.Bool.{or_left, or_right}
use Rattle.markdown_options.specs.declared.align_kind.AlignKind.{AlignKind}
use Rattle.definition_block.specs.CodeFenced.{is_fence_end, fence_line}
use Rattle.definition_block.specs.HtmlFlow.{html_ends_here, ends_before_blank}
use Rattle.definition_block.specs.HeadingSetext.{underline}
use Rattle.definition_block.specs.GfmTable.{delimiter_row}
use Rattle.definition_block.specs.Tree.{html_with}
use Rattle.definition_block.specs.Tree.{heading_of, underlined, table_of, tabled}
use Rattle.parse_laid.proofs.Taken.{more_taken, join_taken, split_taken, each_taken}
use Rattle.parse_laid.proofs.Trees.{AreBlocksLaid, join_laid, ended_laid}
use Rattle.parse_laid.proofs.Definitions.{MayBegin, TextMayBegin, any_may_begin, paragraph_laid, cut_laid, head_kept, cut_head}
use Rattle.parse_laid.proofs.Leaves.{open_taken, open_may_begin, IsBlankLine, LeafLaid, OpeningLaid, TreeLaid, close_laid}

-- the ending of the last of more lines
pub last_more : (ending : Option LineEnding) (ls : List BlockLine) (line : BlockLine) → last_ending_or ending (ls ++ line ∷ []) ≡ line.ending
last_more ending [] line = refl
last_more ending (l ∷ ls) line = last_more l.ending ls line

-- the last of some lines
last_line : (line : BlockLine) (others : List BlockLine) → (last : BlockLine) × (drop (length others) (line ∷ others) ≡ last ∷ [])
last_line line [] = (line, refl)
last_line line (next ∷ others) = last_line next others

where_each : {A : Type 0} (P : A → Type 0) (o : Option A) → ((x : A) → o ≡ Some x → P x) → WhereSome P o
where_each P None h = tt
where_each P (Some x) h = h x refl

module _ (on : Constructs) (around : List Container) where
  abbrev pub SomeLaid : Place → Place → Option BlockTree → Type 0
  SomeLaid from to o = WhereSome (λ (t : BlockTree). TreeLaid on around t from to) o

  -- ---- more lines

  code_more : (ls others : List BlockLine) (from under to : Place) → AreCode on around ls from under
      → AreTaken on around (IsCodeLine on) others under to → AreCode on around (ls ++ others) from to
  code_more [] others from under to p q = absurd p
  code_more (first ∷ ls) others from under to p q =
      (p.0, p.1, p.2, p.3, p.4, join_taken on around (IsCodeLine on) ls others (Between p.1) under to p.5 q, p.6)

  blank_code : (here : Prefixed) (line : BlockLine) → IsBlankLine here line → IsCodeLine on here line
  blank_code (InAll here) line p = (or_right (starts_code_indented on here.rest) (is_blank here.rest) p.0, p.1)
  blank_code (InSome here) line p = absurd p

  html_more : (kind : ℕ) (ls : List BlockLine) (line : BlockLine) (from to : Place) (here : LineRest) (left : List LineRest)
      → AreHtml on around kind ls from to → IsOn on around to (InAll here) left → IsHtmlLine kind (InAll here) line
      → AreHtml on around kind (ls ++ line ∷ []) from (Between left)
  html_more kind [] line from to here left p is fits = absurd p
  html_more kind (first ∷ ls) line from to here left p is fits =
      (p.0, p.1, p.2, p.3, p.4, p.5, more_taken on around (IsHtmlLine kind) ls line (Between p.1) to (InAll here) left p.6 is fits)

  html_laid : (kind : ℕ) (ls : List BlockLine) (rest : Rest) (beside : Beside) (from : Place) (left : List LineRest)
      → AreHtml on around kind (ls ++ rest_line rest beside ∷ []) from (Between left)
      → TreeLaid on around (html_with kind ls rest beside) from (Between left)
  html_laid kind ls rest beside from left p =
      let more = ls ++ rest_line rest beside ∷ [] in
      let last : AtEnding beside.ending left ≡ AtEnding (last_ending more) left = ap (λ e. AtEnding e left) (sym (last_more None ls (rest_line rest beside))) in
      cond_both (html_ends_here kind rest) (tree (block_and_ending (Leaf (Html (own_lines more))) beside.ending) nothing)
      (tree Nil (At (OpenHtml kind more))) (λ (t : BlockTree). TreeLaid on around t from (Between left))
      (λ _. (
        Between left,
        ended_laid on around (Leaf (Html (own_lines more))) beside.ending from left (kind, more, Between left, p, refl, (left, refl, last)),
        refl,
      ))
      (λ _. (from, refl, p))

  -- ---- an open leaf takes a line

  pub takes_laid : (leaf : OpenLeaf) (rest : Rest) (beside : Beside) (from to : Place) (left : List LineRest)
      → IsOn on around to (InAll (line_rest rest beside)) left → LeafLaid on around leaf from to → SomeLaid from (Between left) (takes on leaf rest beside)
  takes_laid (Text ls) rest beside from to left is p = tt
  takes_laid (Indented ls pending) rest beside from to left is p =
      let here = line_rest rest beside in
      let line = rest_line (outdent 4 rest) beside in
      cond_both (is_blank rest) _ _ (SomeLaid from (Between left))
      (λ blank. (from, refl, (p.0, p.1, more_taken on around IsBlankLine pending line p.0 to (InAll here) left p.2 is (blank, refl))))
      (λ _. cond_both (starts_code_indented on rest) _ _ (SomeLaid from (Between left))
      (λ starts.
      let others = each_taken on around IsBlankLine (IsCodeLine on) pending p.0 to blank_code p.2 in
      let all = code_more ls pending from p.0 to p.1 others in
      let one : AreTaken on around (IsCodeLine on) (line ∷ []) to (Between left) =
      (InAll here, left, is, (or_left (starts_code_indented on rest) (is_blank rest) starts, refl), refl) in
      (from, refl, (Between left, code_more (ls ++ pending) (line ∷ []) from to (Between left) all one, refl)))
      (λ _. tt))
  takes_laid (Fenced fence opening ls) rest beside from to left is (first, same, p) =
      let here = line_rest rest beside in
      let line = rest_line (fence_line fence rest) beside in
      cond_both (is_fence_end on fence rest) _ _ (SomeLaid from (Between left))
      (λ e. (
        Between left,
        ended_laid on around (Leaf (FencedCode fence.info true ls)) beside.ending from left (fence, first, here, to, left, refl, p, is, e, refl),
        refl,
      ))
      (λ e. (
        from,
        refl,
        (first, same, (p.0, p.1, p.2, more_taken on around (IsFenceLine on fence) ls line (Between p.0) to (InAll here) left p.3 is (e, refl))),
      ))
  takes_laid (OpenHtml kind ls) rest beside from to left is p =
      let here = line_rest rest beside in
      cond_both (ends_before_blank kind && is_blank rest) _ _ (SomeLaid from (Between left)) (λ _. tt)
      (λ e. html_laid kind ls rest beside from left (html_more kind ls (rest_line rest beside) from to here left p is (e, refl)))
  takes_laid (OpenTable ls) rest beside from to left is p = tt

  -- the last of some lines of text is in all containers, or another is right before it
  head_begins : (line : BlockLine) (others : List BlockLine) (under at : Place)
      → AreTaken on around (IsTextLine on) (take (length others) (line ∷ others)) under at → MayBegin on around under
      → IsInAll on around at ⊎ FollowsText on around at
  head_begins line [] under at p m =
      subst (λ x. IsInAll on around x ⊎ FollowsText on around x) p (elim m [ inl h ↦ inl h | inr h ↦ inr (h.3, h.4, h.5, h.6) ])
  head_begins line (next ∷ others) under at p m = inr (take (suc (length others)) (line ∷ next ∷ others), under, omega arith, p)

  -- ---- a line begins a leaf

  module _ (rest : Rest) (beside : Beside) (at : Place) (left : List LineRest) (is : IsOn on around at (InAll (line_rest rest beside)) left) where
    pub indented_laid : (is_blank rest ≡ false) → (starts_code_indented on rest ≡ true) → TreeLaid on around (indented_tree rest beside) at (Between left)
    indented_laid dark e = (at, refl, (Between left, (line_rest rest beside, left, is, e, refl, refl, dark), refl))

    pub fence_laid : WhereSome (λ (fence : Fence). TreeLaid on around (fence_tree beside fence) at (Between left)) (fence_start on rest)
    fence_laid =
        where_each (λ (fence : Fence). TreeLaid on around (fence_tree beside fence) at (Between left)) (fence_start on rest)
        (λ fence e. (at, refl, (line_rest rest beside, refl, (left, is, inl e, refl))))

    pub math_laid : WhereSome (λ (fence : Fence). TreeLaid on around (fence_tree beside fence) at (Between left)) (math_start on rest)
    math_laid =
        where_each (λ (fence : Fence). TreeLaid on around (fence_tree beside fence) at (Between left)) (math_start on rest)
        (λ fence e. (at, refl, (line_rest rest beside, refl, (left, is, inr e, refl))))

    pub html_start_laid : (interrupts : Bool)
        → WhereSome (λ kind. TreeLaid on around (html_tree rest beside kind) at (Between left)) (html_start on interrupts rest)
    html_start_laid interrupts =
        where_each (λ kind. TreeLaid on around (html_tree rest beside kind) at (Between left)) (html_start on interrupts rest)
        (λ kind e. html_laid kind [] rest beside at left (line_rest rest beside, left, interrupts, is, e, refl, refl))

    pub atx_laid : WhereSome (λ (found : Atx). TreeLaid on around (atx_tree beside found) at (Between left)) (heading_atx on rest)
    atx_laid =
        where_each (λ (found : Atx). TreeLaid on around (atx_tree beside found) at (Between left)) (heading_atx on rest)
        (λ found e. (
          Between left,
          ended_laid on around (Leaf (Heading found.rank (spaced_line found.content None ∷ []))) beside.ending at left
              (inl (line_rest rest beside, left, found, is, e, refl, refl, refl)),
          refl,
        ))

    pub break_laid : (is_break on rest ≡ true) → TreeLaid on around (break_tree beside) at (Between left)
    break_laid e = (Between left, ended_laid on around (Leaf Break) beside.ending at left (line_rest rest beside, left, is, e, refl), refl)

    pub blank_laid : (is_blank rest ≡ true) → TreeLaid on around (tree (one (Blank beside.ending)) nothing) at (Between left)
    blank_laid e = (Between left, (Between left, (line_rest rest beside, left, is, e, refl, refl), refl), refl)

    -- ---- an underline

    heading_laid : (rank : ℕ) (definitions : Blocks) (ls : List BlockLine) (from under : Place) → underline on rest ≡ Some rank
        → AreBlocksLaid on around definitions from under → TextMayBegin on around ls under → AreTaken on around (IsTextLine on) ls under at
        → SomeLaid from (Between left) (heading_of rank definitions ls beside.ending)
    heading_laid rank definitions [] from under e p m q = tt
    heading_laid rank definitions (line ∷ others) from under e p m q =
        let heading = Leaf (Heading rank (own_lines (line ∷ others))) in (
          Between left,
          join_laid on around definitions (block_and_ending heading beside.ending) from under (Between left) p
              (ended_laid on around heading beside.ending under left
              (inr (line ∷ others, at, line_rest rest beside, left, (omega arith, q, m), refl, is, e, refl))),
          refl,
        )

    underlined_laid : (o : Option ℕ) (ls : List BlockLine) (from : Place) → underline on rest ≡ o → AreLines ls
        → TextMayBegin on around ls from → AreTaken on around (IsTextLine on) ls from at
        → SomeLaid from (Between left) (option_and_then (underlined on ls beside.ending) o)
    underlined_laid None ls from e h m p = tt
    underlined_laid (Some rank) ls from e h m p =
        let parts = cut_laid on around ls from at h m p in
        heading_laid rank (definition_cut on ls).definitions (definition_cut on ls).left from parts.0 e parts.1 parts.3 parts.2

    -- ---- a row of delimiters

    table_of_laid : (definitions : Blocks) (line : BlockLine) (others : List BlockLine) (columns : List AlignKind) (from under : Place)
        → delimiter_row on rest ≡ Some columns → is_head (length columns) (line ∷ others) ≡ true → AreBlocksLaid on around definitions from under
        → MayBegin on around under → AreTaken on around (IsTextLine on) (line ∷ others) under at
        → TreeLaid on around (table_of definitions (line ∷ others) (rest_line rest beside)) from (Between left)
    table_of_laid definitions line others columns from under e cells p m q =
        let ls = line ∷ others in
        let row = rest_line rest beside in
        let n = length others in
        let last = last_line line others in
        let parts = split_taken on around (IsTextLine on) n ls under at q in
        let head = subst (λ xs. AreTaken on around (IsTextLine on) xs parts.0 at) last.1 parts.2 in
        let one : is_head (length columns) (last.0 ∷ []) ≡ is_head (length columns) ls =
        sym (ap (is_head (length columns)) last.1) ∙ head_kept (length columns) n ls (ap is_some_line last.1) in
        let kept = one ∙ cells in
        let table : AreTable on around (last.0 ∷ row ∷ []) parts.0 (Between left) =
        (at, line_rest rest beside, left, columns, head, is, e, kept, refl, refl, head_begins line others under parts.0 parts.1 m) in
        let cut_at : ℕ → BlockTree = λ k. tree (join definitions (paragraph_of (take k ls))) (At (OpenTable (drop k ls ++ row ∷ []))) in
        let same : n ≡ length ls - 1 = omega arith in
        let first = any_may_begin on around (take n ls) under m in
        subst (λ k. TreeLaid on around (cut_at k) from (Between left)) same (
          parts.0,
          join_laid on around definitions (paragraph_of (take n ls)) from under parts.0 p (paragraph_laid on around (take n ls) under parts.0 first parts.1),
          subst (λ xs. AreTable on around (xs ++ row ∷ []) parts.0 (Between left)) (sym last.1) table,
        )

    table_left : (definitions : Blocks) (ls : List BlockLine) (columns : List AlignKind) (from under : Place) → is_some_line ls ≡ true
        → delimiter_row on rest ≡ Some columns → is_head (length columns) ls ≡ true → AreBlocksLaid on around definitions from under
        → TextMayBegin on around ls under → AreTaken on around (IsTextLine on) ls under at
        → TreeLaid on around (table_of definitions ls (rest_line rest beside)) from (Between left)
    table_left definitions [] columns from under some e cells p m q = absurd (false≢true some)
    table_left definitions (line ∷ others) columns from under some e cells p m q =
        table_of_laid definitions line others columns from under e cells p m q

    tabled_laid : (o : Option (List AlignKind)) (ls : List BlockLine) (from : Place) → delimiter_row on rest ≡ o → AreLines ls
        → TextMayBegin on around ls from → AreTaken on around (IsTextLine on) ls from at
        → SomeLaid from (Between left) (option_and_then (tabled on ls (rest_line rest beside)) o)
    tabled_laid None ls from e h m p = tt
    tabled_laid (Some columns) ls from e h m p =
        let parts = cut_laid on around ls from at h m p in
        let left_lines = (definition_cut on ls).left in
        cond_both (is_some_line left_lines && is_head (length columns) ls) _ _ (SomeLaid from (Between left))
        (λ k.
        let both = and_parts (is_some_line left_lines) (is_head (length columns) ls) k in
        let cells = cut_head on (length columns) ls both.0 ∙ both.1 in
        table_left (definition_cut on ls).definitions left_lines columns from parts.0 both.0 e cells parts.1 parts.3 parts.2)
        (λ _. tt)

    -- ---- of no lines nothing is made

    no_heading : (o : Option ℕ) (from : Place) → SomeLaid from (Between left) (option_and_then (underlined on [] beside.ending) o)
    no_heading None from = tt
    no_heading (Some rank) from =
        cond_both on.definition (cut_most 0 []) (cut_into Nil [])
        (λ (parts : DefinitionCut). SomeLaid from (Between left) (heading_of rank parts.definitions parts.left beside.ending)) (λ _. tt) (λ _. tt)

    no_table : (o : Option (List AlignKind)) (from : Place) → SomeLaid from (Between left) (option_and_then (tabled on [] (rest_line rest beside)) o)
    no_table None from = tt
    no_table (Some columns) from =
        cond_both on.definition (cut_most 0 []) (cut_into Nil [])
        (λ (parts : DefinitionCut).
        SomeLaid from (Between left)
        (cond (is_some_line parts.left && is_head (length columns) []) (Some (table_of parts.definitions parts.left (rest_line rest beside))) None))
        (λ _. tt) (λ _. tt)

    pub turns_laid : (away : Opening) (from : Place) → AreLines (open_text away) → OpeningLaid on around away from at
        → SomeLaid from (Between left) (turns on away rest beside.ending)
    turns_laid (At (Text ls)) from h p =
        underlined_laid (underline on rest) ls from refl h (open_may_begin on around ls from at p) (open_taken on around ls from at p)
    turns_laid away from h p = no_heading (underline on rest) from

    pub makes_table_laid : (away : Opening) (from : Place) → AreLines (open_text away) → OpeningLaid on around away from at
        → SomeLaid from (Between left) (makes_table on away rest beside)
    makes_table_laid (At (Text ls)) from h p =
        tabled_laid (delimiter_row on rest) ls from refl h (open_may_begin on around ls from at p) (open_taken on around ls from at p)
    makes_table_laid away from h p = no_table (delimiter_row on rest) from

  -- what isn't gone on with is closed
  pub after_laid : (away : Opening) (t : BlockTree) (from under to : Place) → AreLines (open_text away) → OpeningLaid on around away from under
      → TreeLaid on around t under to → TreeLaid on around (after on away t) from to
  after_laid away t from under to h p q =
      (q.0, join_laid on around (close on away) t.done from under q.0 (close_laid on around away from under h p) q.1, q.2)
