-- Line by line, what is read stays laid in the lines.
use Rattle.std.proofs.Common.{◌≡◌, ℕ, suc, zero, Bool, true, false, not, cond, ◌&&◌, ◌||◌, List, [], ◌∷◌, ◌++◌, Option, None, Some, length, leb}
use Rattle.std.proofs.Common.{refl, sym, ap, ◌∙◌, subst, inl, inr}
use Rattle.parse_laid.proofs.Prelude.{and_parts, AreLines, AreTable, At, AtEnding, BeginsNoLeaf, Beside, beside_in, beside_line, Between, Blank, BlockLine}
use Rattle.parse_laid.proofs.Prelude.{Blocks, BlockTree, cond_both, Constructs, Container, ContainerLine, continues, false≢true, Footnote, going_on, has_text}
use Rattle.parse_laid.proofs.Prelude.{InAll, indent, Inside, InSome, into, is_blank, is_break, is_inside, IsInAll, IsOn, IsRowLine, IsTextLine, Item, Kind}
use Rattle.parse_laid.proofs.Prelude.{leaf_line, line_rest, LineRest, Nil, none-some, nothing, one, open_text, Opening, OpenTable, Place, prefixed, Quote}
use Rattle.parse_laid.proofs.Prelude.{Rest, rest_line, starts_code_indented, step, takes, Text, text_line_of, TextLine, tree, whole, Within}
use Rattle.std.proofs.lemmas.Bool.{or_cases, and_right}
use Rattle.definition_text.specs.Columns.{bare}
use Rattle.definition_text.specs.Indents.{small_indent}
use Rattle.definition_block.specs.ContainerStart.{ContainerStart}
use Rattle.definition_block.specs.BlockQuote.{quote_prefix}
use Rattle.definition_block.specs.ListItem.{Marker, marker, is_first, is_item, item, item_after, item_start}
use Rattle.definition_block.specs.GfmFootnoteDefinition.{footnote_start}
use Rattle.definition_block.specs.Containers.{starts, quote_or, footnote_or}
use Rattle.definition_block.specs.Tree.{has_table, is_nothing, is_one_blank, began_blank, with_line}
use Rattle.definition_block.specs.Tree.{start, new, goes_on, grow}
use Rattle.definition_block.proofs.LeafLines.{where_unwrapped}
use Rattle.parse_laid.proofs.TextLines.{where_any_line}
use Rattle.parse_laid.proofs.Taken.{more_taken}
use Rattle.parse_laid.proofs.Trees.{join_laid}
use Rattle.parse_laid.proofs.Leaves.{OpeningLaid, TreeLaid}
use Rattle.parse_laid.proofs.Beginning.{takes_laid, after_laid, indented_laid, fence_laid, math_laid, html_start_laid, atx_laid, break_laid, blank_laid}
use Rattle.parse_laid.proofs.Beginning.{turns_laid, makes_table_laid}

-- a value by a test is there by a weaker one
either_test : {A : Type 0} (b c : Bool) (x y : A) → (b ≡ true → c ≡ true) → cond b (Some x) None ≡ Some y → cond c (Some x) None ≡ Some y
either_test true true x y f e = e
either_test true false x y f e = absurd (false≢true (f refl))
either_test false c x y f e = absurd (none-some y e)

-- an item that went on after it began blank goes on anyway
inside_any : (blank deep began : Bool) → cond blank (not began) deep ≡ true → cond blank true deep ≡ true
inside_any true deep began e = refl
inside_any false deep began e = e

-- an item that interrupts a paragraph starts anyway
starts_any : (blank wide first interrupts : Bool) → cond blank (not interrupts) (wide && (not interrupts || first)) ≡ true
    → cond blank true (wide && true) ≡ true
starts_any true wide first interrupts e = refl
starts_any false true first interrupts e = refl
starts_any false false first interrupts e = e

item_after_any : (columns : ℕ) (interrupts : Bool) (o : Option Marker) (s : ContainerStart) → item_after columns interrupts o ≡ Some s
    → item_after columns false o ≡ Some s
item_after_any columns interrupts None s e = e
item_after_any columns interrupts (Some m) s e =
    either_test (is_item interrupts m) (is_item false m) (item columns m) s
    (starts_any (is_blank m.rest) (leb 1 (indent m.rest)) (is_first m.number) interrupts) e

test_any : (b : Bool) (o p : Option ContainerStart) (s : ContainerStart) → (o ≡ Some s → p ≡ Some s) → cond b o None ≡ Some s → cond b p None ≡ Some s
test_any true o p s f e = f e
test_any false o p s f e = e

quote_or_any : (o p : Option ContainerStart) (q : Option ContainerLine) (s : ContainerStart) → (o ≡ Some s → p ≡ Some s) → quote_or o q ≡ Some s
    → quote_or p q ≡ Some s
quote_or_any o p None s f e = f e
quote_or_any o p (Some line) s f e = e

footnote_or_any : (o p q : Option ContainerStart) (s : ContainerStart) → (o ≡ Some s → p ≡ Some s) → footnote_or o q ≡ Some s
    → footnote_or p q ≡ Some s
footnote_or_any o p None s f e = f e
footnote_or_any o p (Some footnote) s f e = e

module _ (on : Constructs) where
  item_any : (interrupts : Bool) (rest : Rest) (s : ContainerStart) → item_start on interrupts rest ≡ Some s → item_start on false rest ≡ Some s
  item_any interrupts rest s e =
      test_any (on.list_item && small_indent on rest && not (is_break on rest)) _ _ s (item_after_any (indent rest) interrupts (marker (bare rest)) s) e

  -- ---- a line of text

  -- a line that isn't in all of the containers around a paragraph
  lazy_laid : (around : List Container) (now : Opening) (from : Place) (next : LineRest) (left : List LineRest) (here : LineRest)
      → prefixed on around next ≡ InSome here → BeginsNoLeaf on here.rest → has_text now ≡ true → OpeningLaid on around now from (Between (next ∷ left))
      → OpeningLaid on around (with_line (rest_line here.rest here.beside) now) from (Between left)
  lazy_laid around (At (Text [])) from next left here e plain text p = absurd (false≢true text)
  lazy_laid around (At (Text (l ∷ ls))) from next left here e plain text p = (
    more_taken on around (IsTextLine on) (l ∷ ls) (rest_line here.rest here.beside) from (Between (next ∷ left)) (InSome here) left p.0 (e, refl)
        (plain, refl),
    p.1,
  )
  lazy_laid around (At leaf) from next left here e plain text p = absurd (false≢true text)
  lazy_laid around (Inside c kids inner) from next left here e plain text p =
      (p.0, p.1, p.2, p.3, lazy_laid (c ∷ around) inner p.1 next left here (ap (into on c) e) plain text p.4, refl)

  table_more : (around : List Container) (ls : List BlockLine) (line : BlockLine) (from to : Place) (here : LineRest) (left : List LineRest)
      → AreTable on around ls from to → IsOn on around to (InAll here) left → IsRowLine on (InAll here) line
      → AreTable on around (ls ++ line ∷ []) from (Between left)
  table_more around [] line from to here left p is fits = absurd p
  table_more around (head ∷ []) line from to here left p is fits = absurd p
  table_more around (head ∷ row ∷ others) line from to here left p is fits =
      let rows = more_taken on around (IsRowLine on) others line (Between p.2) to (InAll here) left p.9 is fits in
      (p.0, p.1, p.2, p.3, p.4, p.5, p.6, p.7, p.8, rows, p.10)

  pub in_all : (around : List Container) (at : Place) (here : LineRest) (left : List LineRest) → IsOn on around at (InAll here) left → IsInAll on around at
  in_all around (Between []) here left p = absurd p
  in_all around (Between (next ∷ others)) here left p = (here, p.0)
  in_all around (Within line others) here left p = tt
  in_all around (AtEnding ending others) here left p = absurd p

  -- what a line isn't in: a leaf in all containers around it, or a container that doesn't go on
  abbrev IsAway : Opening → Rest → Type 0
  IsAway (At leaf) rest = Unit {0}
  IsAway (Inside c kids inner) rest = continues on c (began_blank kids inner) rest ≡ None

  -- an item that holds a paragraph didn't begin blank
  something : (inner : Opening) → has_text inner ≡ true → is_nothing inner ≡ false
  something (At (Text [])) h = absurd (false≢true h)
  something (At (Text (line ∷ others))) h = refl
  something (At leaf) h = absurd (false≢true h)
  something (Inside c kids inner) h = refl

  inside_more : (around : List Container) (c : Container) (kids : Blocks) (inner : Opening) (from to : Place) (rest : Rest) (beside : Beside)
      (left : List LineRest) → IsOn on around to (InAll (line_rest rest beside)) left → IsAway (Inside c kids inner) rest
      → BeginsNoLeaf on rest → has_text inner ≡ true
      → OpeningLaid on around (Inside c kids inner) from to
      → OpeningLaid on around (with_line (rest_line rest beside) (Inside c kids inner)) from (Between left)
  inside_more around c kids inner from (Between []) rest beside left is apart plain text p = absurd is
  inside_more around c kids inner from (Between (next ∷ others)) rest beside left is apart plain text p =
      let here = line_rest rest beside in
      let none : continues on c false rest ≡ None =
      sym (ap (λ x. continues on c x rest) (and_right (is_one_blank kids) (is_nothing inner) (something inner text))) ∙ apart in
      let stops : prefixed on (c ∷ around) next ≡ InSome here = ap (into on c) is.0 ∙ ap (λ o. going_on o here) none in
      subst (λ xs. OpeningLaid on around (with_line (rest_line rest beside) (Inside c kids inner)) from (Between xs)) is.1
      (p.0, p.1, p.2, p.3, lazy_laid (c ∷ around) inner p.1 next others here stops plain text p.4, refl)
  inside_more around c kids inner from (Within here others) rest beside left is apart plain text p = absurd (false≢true p.5)
  inside_more around c kids inner from (AtEnding ending others) rest beside left is apart plain text p = absurd is

  or_nothing : (x : Bool) → (x || false) ≡ true → x ≡ true
  or_nothing x h = elim (or_cases x false h) [ inl e ↦ e | inr e ↦ absurd (false≢true e) ]

  has_more : (around : List Container) (away : Opening) (from to : Place) (rest : Rest) (beside : Beside) (left : List LineRest)
      → IsOn on around to (InAll (line_rest rest beside)) left → IsAway away rest → BeginsNoLeaf on rest
      → (has_text away || has_table away) ≡ true
      → OpeningLaid on around away from to → OpeningLaid on around (with_line (rest_line rest beside) away) from (Between left)
  has_more around (At (Text [])) from to rest beside left is apart plain some p = absurd (false≢true some)
  has_more around (At (Text (l ∷ ls))) from to rest beside left is apart plain some p = (
    more_taken on around (IsTextLine on) (l ∷ ls) (rest_line rest beside) from to (InAll (line_rest rest beside)) left p.0 is (plain, refl),
    p.1,
  )
  has_more around (At (OpenTable ls)) from to rest beside left is apart plain some p =
      table_more around ls (rest_line rest beside) from to (line_rest rest beside) left p is (plain, refl)
  has_more around (At leaf) from to rest beside left is apart plain some p = absurd (false≢true some)
  has_more around (Inside c kids inner) from to rest beside left is apart plain some p =
      inside_more around c kids inner from to rest beside left is apart plain (or_nothing (has_text inner) some) p

  text_line_laid : (around : List Container) (away : Opening) (from to : Place) (rest : Rest) (beside : Beside) (left : List LineRest)
      → IsOn on around to (InAll (line_rest rest beside)) left → IsAway away rest → BeginsNoLeaf on rest
      → AreLines (open_text away) → OpeningLaid on around away from to
      → TreeLaid on around (text_line_of on away rest beside) from (Between left)
  text_line_laid around away from to rest beside left is apart plain h p =
      let here = line_rest rest beside in
      cond_both (has_text away || has_table away) _ _ (λ (t : BlockTree). TreeLaid on around t from (Between left))
      (λ e. (from, refl, has_more around away from to rest beside left is apart plain e p))
      (λ _.
      after_laid on around away (tree Nil (At (Text (rest_line rest beside ∷ [])))) from to (Between left) h p
      (to, refl, ((InAll here, left, is, (plain, refl), refl), in_all around to here left is)))

  leaf_line_laid : (around : List Container) (away : Opening) (from to : Place) (rest : Rest) (beside : Beside) (left : List LineRest)
      → IsOn on around to (InAll (line_rest rest beside)) left → IsAway away rest → AreLines (open_text away) → OpeningLaid on around away from to
      → TreeLaid on around (leaf_line on away rest beside) from (Between left)
  leaf_line_laid around away from to rest beside left is apart h p =
      where_any_line (λ (t : BlockTree). TreeLaid on around t from (Between left)) (λ (t : BlockTree). TreeLaid on around t to (Between left))
      on away rest beside
      record {
        blank = λ e.
            after_laid on around away (tree (one (Blank beside.ending)) nothing) from to (Between left) h p (blank_laid on around rest beside to left is e);
        closes = λ t q. after_laid on around away t from to (Between left) h p q;
        indented = λ dark e. indented_laid on around rest beside to left is dark (and_parts (starts_code_indented on rest) (not (has_text away)) e).0;
        fenced = fence_laid on around rest beside to left is;
        math = math_laid on around rest beside to left is;
        html = html_start_laid on around rest beside to left is (has_text away);
        heading = atx_laid on around rest beside to left is;
        underlined = turns_laid on around rest beside to left is away from h p;
        breaks = break_laid on around rest beside to left is;
        tabled = makes_table_laid on around rest beside to left is away from h p;
        text = λ plain. text_line_laid around away from to rest beside left is apart plain h p;
      }

  -- ---- containers

  -- what may interrupt a paragraph may start where none is open
  any_start : (interrupts : Bool) (rest : Rest) (s : ContainerStart) → starts on interrupts rest ≡ Some s → starts on false rest ≡ Some s
  any_start interrupts rest s e =
      quote_or_any _ _ (quote_prefix on rest) s
      (λ f. footnote_or_any (item_start on interrupts rest) (item_start on false rest) (footnote_start on rest) s (item_any interrupts rest s) f) e

  start_laid : (around : List Container) (o : Option ContainerStart) (away : Opening) (other : BlockTree) (more : ContainerStart → BlockTree)
      (from to : Place) (rest : Rest) (beside : Beside) (left : List LineRest)
      → IsOn on around to (InAll (line_rest rest beside)) left → AreLines (open_text away) → OpeningLaid on around away from to
      → TreeLaid on around other from (Between left)
      → ((s : ContainerStart) → o ≡ Some s → (starts on false rest ≡ Some s)
      × TreeLaid on (s.container ∷ around) (more s) (Within (line_rest s.rest (beside_in s.before beside)) left) (Between left))
      → TreeLaid on around (start on o away other more) from (Between left)
  start_laid around None away other more from to rest beside left is h p q m = q
  start_laid around (Some s) away other more from to rest beside left is h p q m =
      let r = m s refl in
      let t = r.1 in
      let first = Within (line_rest s.rest (beside_in s.before beside)) left in
      after_laid on around away (tree Nil (Inside s.container (more s).done (more s).now)) from to (Between left) h p
      (to, refl, (first, t.0, (line_rest rest beside, left, s, is, r.0, refl, refl), t.1, t.2, refl))

  new_laid : (most : ℕ) (around : List Container) (all : Bool) (away : Opening) (from to : Place) (rest : Rest) (beside : Beside) (left : List LineRest)
      → IsOn on around to (InAll (line_rest rest beside)) left → IsAway away rest → AreLines (open_text away) → OpeningLaid on around away from to
      → TreeLaid on around (new most on all away beside rest) from (Between left)
  new_laid zero around all away from to rest beside left is apart h p = leaf_line_laid around away from to rest beside left is apart h p
  new_laid (suc most) around all away from to rest beside left is apart h p =
      start_laid around (starts on (all && has_text away) rest) away (leaf_line on away rest beside) _ from to rest beside left is h p
      (leaf_line_laid around away from to rest beside left is apart h p)
      (λ s e.
      let inner = beside_in s.before beside in
      let first = Within (line_rest s.rest inner) left in (
        any_start (all && has_text away) rest s e,
        new_laid most (s.container ∷ around) true nothing first first s.rest inner left (refl, refl) tt tt refl,
      ))

  goes_on_laid : (around : List Container) (o : Option ContainerLine) (c : Container) (kids : Blocks) (inner : Opening) (from next-from : Place)
      (next : LineRest) (rest : Rest) (beside : Beside) (left : List LineRest) (more : ContainerLine → BlockTree)
      → continues on c (began_blank kids inner) rest ≡ o → prefixed on around next ≡ InAll (line_rest rest beside)
      → AreLines (open_text inner) → OpeningLaid on around (Inside c kids inner) from (Between (next ∷ left))
      → ((line : ContainerLine) → o ≡ Some line → (under : Place) → OpeningLaid on (c ∷ around) inner under (Between (next ∷ left))
      → TreeLaid on (c ∷ around) (more line) under (Between left))
      → TreeLaid on around (goes_on o on c kids inner beside rest more) from (Between left)
  goes_on_laid around None c kids inner from next-from next rest beside left more e is h p r =
      new_laid (length rest) around false (Inside c kids inner) from (Between (next ∷ left)) rest beside left (is, refl) e h p
  goes_on_laid around (Some line) c kids inner from next-from next rest beside left more e is h p r =
      let t = r line refl p.1 p.4 in
      (from, refl, (p.0, t.0, p.2, join_laid on (c ∷ around) kids (more line).done p.0 p.1 t.0 p.3 t.1, t.2, refl))

  -- an item that went on after it began blank goes on anyway
  any_line : (c : Container) (began : Bool) (rest : Rest) (line : ContainerLine) → continues on c began rest ≡ Some line
      → continues on c false rest ≡ Some line
  any_line Quote began rest line e = e
  any_line (Item item) began rest line e =
      either_test (is_inside item.size began rest) (is_inside item.size false rest) _ line
      (λ inside. inside_any (is_blank rest) (leb item.size (indent rest)) began inside) e
  any_line (Footnote label) began rest line e = e

  -- ---- the lines of a text

  grow_laid : (around : List Container) (now : Opening) (from : Place) (next : LineRest) (rest : Rest) (beside : Beside) (left : List LineRest)
      → prefixed on around next ≡ InAll (line_rest rest beside) → AreLines (open_text now)
      → OpeningLaid on around now from (Between (next ∷ left)) → TreeLaid on around (grow on beside now rest) from (Between left)
  grow_laid around (At leaf) from next rest beside left is h p =
      where_unwrapped (λ (t : BlockTree). TreeLaid on around t from (Between left)) (takes on leaf rest beside)
      (new (length rest) on true (At leaf) beside rest)
      (takes_laid on around leaf rest beside from (Between (next ∷ left)) left (is, refl) p)
      (new_laid (length rest) around true (At leaf) from (Between (next ∷ left)) rest beside left (is, refl) tt h p)
  grow_laid around (Inside c kids inner) from next rest beside left is h p =
      goes_on_laid around (continues on c (began_blank kids inner) rest) c kids inner from from next rest beside left
      (λ line. grow on (beside_in line.before beside) inner line.rest) refl is h p
      (λ line e under q.
      let further : prefixed on (c ∷ around) next ≡ InAll (line_rest line.rest (beside_in line.before beside)) =
      ap (into on c) is ∙ ap (λ o. going_on o (line_rest rest beside)) (any_line c (began_blank kids inner) rest line e) in
      grow_laid (c ∷ around) inner under next line.rest (beside_in line.before beside) left further h q)

  pub step_laid : (before : Kind) (t : BlockTree) (line : TextLine) (left : List LineRest) (from : Place) → AreLines (open_text t.now)
      → TreeLaid on [] t from (Between (line_rest (whole line.content) (beside_line before line) ∷ left))
      → TreeLaid on [] (step on before t line) from (Between left)
  step_laid before t line left from h p =
      let next = line_rest (whole line.content) (beside_line before line) in
      let grown = grow on (beside_line before line) t.now (whole line.content) in
      let more = grow_laid [] t.now p.0 next (whole line.content) (beside_line before line) left refl h p.2 in
      (more.0, join_laid on [] t.done grown.done from p.0 more.0 p.1 more.1, more.2)
