-- A parser stands after a leaf, if that is written.
use Rattle.std.proofs.Common.{◌≡◌, ◌<◌, inl, inr, ℕ, Bool, true, false, List, [], ◌∷◌, ◌++◌, Option, Some, None, refl, sym, ap, ◌∙◌, subst, arith, drop, length, map, reverse, take}
use Rattle.parse_events.proofs.Prelude.{after_row, always_go_on, append, append-assoc, around, AtEnding, bare_container, Between, BlockLine, BlockRow, Break}
use Rattle.parse_events.proofs.Prelude.{bytes_of, Constructs, Container, containers, Definition, definition_on, definition_value, End, ends_in_blank}
use Rattle.parse_events.proofs.Prelude.{ends_in_list, ends_line, FencedCode, first_codes, Footnote, forest_in}
use Rattle.parse_events.proofs.Prelude.{GoesOnInLine, Growth, Heading, Held, Holder, holder_containers, holder_standing, Html, InContainer, IndentedCode}
use Rattle.parse_events.proofs.Prelude.{InList, is_in_list, is_unclosed, IsParsing, IsRowLaid, IsWrittenLaid, Item, ItemPlace, join}
use Rattle.parse_events.proofs.Prelude.{KnowsItems, KnowsLists, Leaf, leaf_definitions, LeafBlock, length-map, length-reverse, Level, line_at, LineEnding}
use Rattle.parse_events.proofs.Prelude.{LineRest, lines_are_counted, next_stands, node_end, node_start, Nodes, one, one_block, Opened, opened, own_lines}
use Rattle.parse_events.proofs.Prelude.{Paragraph, Parser, Place, Quote, read_leaf, Reading, Row, row_size, row_value, Single, Spells, standing}
use Rattle.parse_events.proofs.Prelude.{standing_at, Stands, StandsAt, Table, true≢false, Walk, which_go_on, with_nodes, Within, WritesLeaf, WritesRow}
use Rattle.parse_events.proofs.Prelude.{WritesToEnd, written_to}
use Rattle.definition_text.specs.BlockLines.{last_ending, last_ending_or}
use Rattle.definition_inline.specs.Definition.{Definition as LinkDefinition}
use Rattle.definition_page.specs.Read.{Standing as BlockStanding}
use Rattle.block_rows.specs.declared.row.Row.TheVariants as row
use Rattle.text_pieces.specs.Pieces.{whole_lines}
use Rattle.parse_leaves.specs.Definition.{IsOnOneLine, WritesReadDefinition}
use Rattle.parse_raw.specs.Laid.{WritesReadUnclosed}
use Rattle.parse_raw.specs.Reads.{WritesReadLeaf}
use Rattle.parse_leaves.proofs.RowLeaves.{all_taken}
use Rattle.parse_laid.specs.Leaves.{IsLeafLaid}
use Rattle.parse_open.specs.Open as open_blocks
use Rattle.parse_events.proofs.Endings.{begun_more, quiet_mute}
use Rattle.parse_events.proofs.LastBlank.{leaf_ends}
use Rattle.parse_events.proofs.Kept.{KeepsOpen, first_over, stands_there, top_after}
use Rattle.parse_events.proofs.Leaves.{code_stands, ends_with, leaf_stands, line_in_text, spells_leaf, with_both}
use Rattle.parse_events.proofs.Lines.{rest_line_at}
use Rattle.parse_events.proofs.Rows.{only_ends}
use Rattle.parse_events.proofs.StartRows.{LeavesLists, lists_left}

-- ---- a leaf leads to the ending of its last line

abbrev IsEndOfLine : Place → Type 0
IsEndOfLine to = (ending : Option LineEnding) × (left : List LineRest) × (to ≡ AtEnding ending left)

leaf_leads : (on : Constructs) (outer : List Container) (leaf : LeafBlock) (from to : Place) → IsWrittenLaid on outer leaf from to → IsEndOfLine to
leaf_leads on outer (Paragraph ls) from to laid = (last_ending laid.0, laid.4.0, laid.4.2)
leaf_leads on outer (Heading rank ls) from to (inl laid) = (laid.0.beside.ending, laid.1, laid.7)
leaf_leads on outer (Heading rank ls) from to (inr laid) = (laid.2.beside.ending, laid.3, laid.8)
leaf_leads on outer Break from to laid = (laid.0.beside.ending, laid.1, laid.4)
leaf_leads on outer (IndentedCode ls) from to laid = (last_ending laid.0, laid.4.0, laid.4.2)
leaf_leads on outer (FencedCode info false ls) from to laid = (last_ending_or laid.1.beside.ending ls, laid.2, laid.5)
leaf_leads on outer (FencedCode info true ls) from to laid = (laid.2.beside.ending, laid.4, laid.9)
leaf_leads on outer (Html ls) from to laid = (last_ending laid.1, laid.5.0, laid.5.2)
leaf_leads on outer (Table ls) from to laid = (last_ending laid.0, laid.4.0, laid.4.2)
leaf_leads on outer (Definition ls label destination title) from to laid = (last_ending laid.6.0, laid.6.5.0, laid.6.5.2)

-- whether a leaf is a table
abbrev pub is_table : LeafBlock → Bool
is_table (Table ls) = true
is_table leaf = false

-- as many lines end before two places of a line
on_one_line : (text : List ℕ) (from to : ℕ) → IsOnOneLine text from to → line_at text from ≡ line_at text to
on_one_line text from to is =
    let begins = is.begins in
    lines_are_counted.same text is.front is.between is.after from is.parts is.dark (omega (arith, begins)) (omega (arith, begins)) ∙ sym (ap (line_at text) is.ends)

abbrev some_level : List Level → Bool
some_level [] = false
some_level (l ∷ levels) = true

-- ---- where it stands

next_is : (o : Opened) (top : Bool) → (next_stands o).top ≡ top → record { top = top; first = (next_stands o).first } ≡ next_stands o
next_is o top is = ap (λ (t : Bool). record { top = t; first = (next_stands o).first }) (sym is)

container_top : (c : Container) (goes_on : Bool) → (holder_standing (InContainer c goes_on)).top ≡ false
container_top Quote goes_on = refl
container_top (Item item) goes_on = refl
container_top (Footnote label) goes_on = refl

holder_top : (h : Holder) → (holder_standing h).top ≡ false
holder_top (InContainer c goes_on) = container_top c goes_on
holder_top InList = refl

no_containers : (cs : List Container) → map bare_container cs ≡ [] → cs ≡ []
no_containers [] none = refl
no_containers (c ∷ cs) none = let size = ap length none in absurd (omega (arith, size))

none_turned : (cs : List Container) → reverse cs ≡ [] → cs ≡ []
none_turned [] none = refl
none_turned (c ∷ cs) none = let size = ap length none in let same = length-reverse (c ∷ cs) in absurd (omega (arith, size, same))

some_in : (h : Holder) (levels : List Level) → open_blocks.is_list h ≡ false → 0 < length (holder_containers h ++ containers levels)
some_in (InContainer c goes_on) levels bare = omega arith
some_in InList levels bare = absurd (true≢false bare)

module _ {A : Type 0} (r : Reading) (text : List ℕ) (front : Nodes) where
  -- no container is open, or some are, as the levels say
  outside : (o : Opened) (outer : List Container) (p : Place) (w : Walk A) → Stands r text front o outer p w → o.outer ≡ [] → (standing w).outermost ≡ []
  outside o outer p w was none =
      none_turned (standing w).outermost (was.around ∙ no_containers outer (was.same ∙ ap containers none))

  inside : (o : Opened) (outer : List Container) (p : Place) (w : Walk A) (l : Level) (levels : List Level) → Stands r text front o outer p w → o.outer ≡ l ∷ levels
      → open_blocks.is_list l.holder ≡ false → 0 < length (standing w).outermost
  inside o outer p w l levels was is bare =
      let same = ap length (was.same ∙ ap containers is) in
      let some = some_in l.holder levels bare in
      let size = length-map outer bare_container in
      let turned = length-reverse (standing w).outermost in
      let around_is = ap length was.around in
      omega (arith, same, some, size, turned, around_is)

  -- ---- leaves

  module _ (o : Opened) (outer : List Container) (here : LineRest) (left : List LineRest) (to : Place) (old new : Walk A) where
    laid_here : (leaf : LeafBlock) → Stands r text front o outer (Within here left) old → IsWrittenLaid r.parse.constructs outer leaf (Within here left) to
        → IsWrittenLaid old.on.now (around (standing old)) leaf (Within here left) to
    laid_here leaf was laid =
        subst (λ (on : Constructs). IsWrittenLaid on (around (standing old)) leaf (Within here left) to) (sym was.constructs) (
        subst (λ (cs : List Container). IsWrittenLaid r.parse.constructs cs leaf (Within here left) to) (sym was.around) laid)

    -- one that holds no definition, and isn't unclosed code
    plain_stands : (leaf : LeafBlock) → leaf_definitions leaf ≡ [] → is_unclosed leaf ≡ false → IsEndOfLine to → is_in_list o.outer ≡ false
        → Stands r text front o outer (Within here left) old → WritesReadLeaf r (next_stands o).first leaf [] old new
        → IsLeafLaid old.on.now (around (standing old)) leaf (Within here left) to
        → Stands r text front (opened (join o.kids (one_block (Leaf leaf))) o.outer o.places) outer to new
    plain_stands leaf none closed end bare was writes laid =
        elim was.at [
          | inl at ↦
              let s = next_stands o in
              let written = writes text s.top here left to at.0 at.1 was.order was.constructs laid in
              stands_there r text front (opened (join o.kids (one_block (Leaf leaf))) o.outer o.places) outer outer (AtEnding end.0 end.1) to new refl end.2 (
              leaf_stands r text front (always_go_on r text front) o outer here left end.1 end.0 leaf old new bare was (λ top. closed) (
              subst (λ (ds : List LinkDefinition). WritesLeaf r.parse.constructs r.tables.names text s.top (read_leaf r s leaf) ds (AtEnding end.0 end.1) old new) (sym none) (
              subst (λ (q : Place). WritesLeaf r.parse.constructs r.tables.names text s.top (read_leaf r s leaf) [] q old new) end.2 written)))
          | inr past ↦ absurd past
        ]

    -- fenced code that isn't closed
    unclosed_stands : (leaf : LeafBlock) (levels : List Level) → leaf_definitions leaf ≡ [] → is_unclosed leaf ≡ true → IsEndOfLine to → o.outer ≡ levels
        → is_in_list levels ≡ false → Stands r text front o outer (Within here left) old → WritesReadUnclosed r (next_stands o).first leaf old new
        → IsLeafLaid old.on.now (around (standing old)) leaf (Within here left) to
        → Stands r text front (opened (join o.kids (one_block (Leaf leaf))) o.outer o.places) outer to new
    unclosed_stands leaf [] none unclosed end is bare was writes laid =
        elim was.at [
          | inl at ↦
              let top : (next_stands o).top ≡ true = top_after (standing_at o.outer) o.kids ∙ ap (λ (ls : List Level). (standing_at ls).top) is in
              let written = writes.1 (outside o outer (Within here left) old was is) text here left to at.0 at.1 was.order was.constructs laid in
              code_stands r text front (always_go_on r text front) o outer here left to leaf old new is was unclosed top none (
              subst (λ (s : BlockStanding). WritesToEnd r.parse.constructs r.tables.names text (read_leaf r s leaf) to old new) (next_is o true top) written)
          | inr past ↦ absurd past
        ]
    unclosed_stands leaf (l ∷ levels) none unclosed end is bare was writes laid =
        elim was.at [
          | inl at ↦
              let s = next_stands o in
              let top : s.top ≡ false =
              top_after (standing_at o.outer) o.kids ∙ ap (λ (ls : List Level). (standing_at ls).top) is ∙ holder_top l.holder in
              let written = writes.0 (inside o outer (Within here left) old l levels was is bare) text here left to at.0 at.1 was.order was.constructs laid in
              let read : WritesLeaf r.parse.constructs r.tables.names text s.top (read_leaf r s leaf) [] to old new =
              subst (λ (t : Bool). WritesLeaf r.parse.constructs r.tables.names text t (read_leaf r s leaf) [] to old new) (sym top) (
              subst (λ (t : BlockStanding). WritesLeaf r.parse.constructs r.tables.names text false (read_leaf r t leaf) [] to old new) (next_is o false top) written) in
              stands_there r text front (opened (join o.kids (one_block (Leaf leaf))) o.outer o.places) outer outer (AtEnding end.0 end.1) to new refl end.2 (
              leaf_stands r text front (always_go_on r text front) o outer here left end.1 end.0 leaf old new (ap is_in_list is ∙ bare) was
              (λ none_open. absurd (true≢false (ap some_level (sym is ∙ none_open)))) (
              subst (λ (ds : List LinkDefinition). WritesLeaf r.parse.constructs r.tables.names text s.top (read_leaf r s leaf) ds (AtEnding end.0 end.1) old new) (sym none) (
              subst (λ (q : Place). WritesLeaf r.parse.constructs r.tables.names text s.top (read_leaf r s leaf) [] q old new) end.2 read)))
          | inr past ↦ absurd past
        ]

    -- a definition, and white space behind it
    definition_stands : (ls : List BlockLine) (label destination : List ℕ) (title : Option (List ℕ)) → IsEndOfLine to → is_in_list o.outer ≡ false
        → Stands r text front o outer (Within here left) old → WritesReadDefinition r (Definition ls label destination title) old new
        → IsWrittenLaid old.on.now (around (standing old)) (Definition ls label destination title) (Within here left) to
        → Stands r text front (opened (join o.kids (one_block (Leaf (Definition ls label destination title)))) o.outer o.places) outer to new
    definition_stands ls label destination title end bare was writes laid =
        let leaf = Definition ls label destination title in
        let more = opened (join o.kids (one_block (Leaf leaf))) o.outer o.places in
        let go = always_go_on r text front in
        elim was.at [
          | inl at ↦
              let s = next_stands o in
              let written = writes text s.top here left to at.0 at.1 was.order laid in
              let g = forest_in text old.out in
              let mid = with_nodes g (append written.before (one written.node)) in
              let spelled : Spells r text front more mid (line_at text (node_end written.node).index) =
              spells_leaf r text front go o leaf g mid written.before written.node (written_to old).index (node_end written.node).index bare was.begun written.are_quiet
              written.spells written.filled refl (rest_line_at text here left old (node_start written.node).index at.0 at.1 written.starts written.begins)
              (let last = line_in_text text (standing old) at.0.line in let begins = written.begins in omega (arith, last, begins)) refl was.spells in
              let all : forest_in text new.out ≡ with_nodes mid written.behind =
              written.writes.forest ∙ ap (with_nodes g) (sym (append-assoc written.before (one written.node) written.behind))
              ∙ sym (with_both g (append written.before (one written.node)) written.behind) in
              let line : line_at text (node_end written.node).index ≡ line_at text (written_to new).index =
              on_one_line text (node_end written.node).index new.line_end written.ends ∙ sym (ap (λ (x : End). line_at text x.index) written.written) in
              stands_there r text front more outer outer (AtEnding end.0 end.1) to new refl end.2 (
              record {
                constructs = written.around.0 ∙ was.constructs;
                around = ap reverse written.around.1 ∙ was.around;
                same = was.same;
                order = written.writes.order;
                at = inl (subst (λ (q : Place). StandsAt text q (standing new)) end.2 written.stands, written.written, λ top. ends_with false o.kids leaf);
                spells =
                    subst (λ (x : Growth). Spells r text front more x (line_at text (written_to new).index)) (sym all) (
                    go.mute more mid (line_at text (written_to new).index) written.behind (quiet_mute written.behind written.is_quiet_behind) (begun_more o (Leaf leaf)) (
                    subst (λ (k : ℕ). Spells r text front more mid k) line spelled));
                begun = begun_more o (Leaf leaf);
                ends = λ top.
                    let ends = leaf_ends o.kids (Leaf leaf) g.kids written.before written.behind written.node refl written.spells.is_block
                    (quiet_mute written.behind written.is_quiet_behind) in
                    (ap (λ (x : Growth). ends_in_blank x.kids) written.writes.forest ∙ ends.0, ends.1);
              })
          | inr past ↦ absurd past
        ]

    -- ---- by its row

    leaf_row_stands : (leaf : LeafBlock) → is_table leaf ≡ false → is_in_list o.outer ≡ false → Stands r text front o outer (Within here left) old
        → WritesRow r (next_stands o).first (Single (Leaf leaf)) old new → IsWrittenLaid r.parse.constructs outer leaf (Within here left) to
        → Stands r text front (opened (join o.kids (one_block (Leaf leaf))) o.outer o.places) outer to new
    leaf_row_stands (Paragraph ls) other bare was writes laid =
        plain_stands (Paragraph ls) refl refl (leaf_leads r.parse.constructs outer (Paragraph ls) (Within here left) to laid) bare was writes
        (laid_here (Paragraph ls) was laid)
    leaf_row_stands (Heading rank ls) other bare was writes laid =
        plain_stands (Heading rank ls) refl refl (leaf_leads r.parse.constructs outer (Heading rank ls) (Within here left) to laid) bare was writes
        (laid_here (Heading rank ls) was laid)
    leaf_row_stands Break other bare was writes laid =
        plain_stands Break refl refl (leaf_leads r.parse.constructs outer Break (Within here left) to laid) bare was writes (laid_here Break was laid)
    leaf_row_stands (IndentedCode ls) other bare was writes laid =
        plain_stands (IndentedCode ls) refl refl (leaf_leads r.parse.constructs outer (IndentedCode ls) (Within here left) to laid) bare was writes
        (laid_here (IndentedCode ls) was laid)
    leaf_row_stands (FencedCode info true ls) other bare was writes laid =
        plain_stands (FencedCode info true ls) refl refl (leaf_leads r.parse.constructs outer (FencedCode info true ls) (Within here left) to laid) bare was writes
        (laid_here (FencedCode info true ls) was laid)
    leaf_row_stands (FencedCode info false ls) other bare was writes laid =
        unclosed_stands (FencedCode info false ls) o.outer refl refl (leaf_leads r.parse.constructs outer (FencedCode info false ls) (Within here left) to laid) refl bare was
        writes (laid_here (FencedCode info false ls) was laid)
    leaf_row_stands (Html ls) other bare was writes laid =
        plain_stands (Html ls) refl refl (leaf_leads r.parse.constructs outer (Html ls) (Within here left) to laid) bare was writes (laid_here (Html ls) was laid)
    leaf_row_stands (Table ls) other bare was writes laid = absurd (true≢false other)
    leaf_row_stands (Definition ls label destination title) other bare was writes laid =
        definition_stands ls label destination title (leaf_leads r.parse.constructs outer (Definition ls label destination title) (Within here left) to laid) bare was writes
        (laid_here (Definition ls label destination title) was laid)

    table_row_stands : (ls : List BlockLine) → is_in_list o.outer ≡ false → Stands r text front o outer (Within here left) old
        → WritesReadLeaf r (next_stands o).first (Table ls) [] old new → IsWrittenLaid r.parse.constructs outer (Table ls) (Within here left) to
        → Stands r text front (opened (join o.kids (one_block (Leaf (Table ls)))) o.outer o.places) outer to new
    table_row_stands ls bare was writes laid =
        plain_stands (Table ls) refl refl (leaf_leads r.parse.constructs outer (Table ls) (Within here left) to laid) bare was writes (laid_here (Table ls) was laid)

-- ---- a parser

-- no leaf begins at the ending of a line
never_at_ending : (on : Constructs) (leaf : LeafBlock) (outer inner : List Container) (ending : Option LineEnding) (left : List LineRest) (to : Place)
    → IsRowLaid on outer (Single (Leaf leaf)) (AtEnding ending left) inner to → ⊥
never_at_ending on leaf outer inner ending left to laid =
    let ends = only_ends on outer ending left (Single (Leaf leaf)) inner to refl laid in
    let one_more = ap length ends.1 in
    let same = ap length laid.0 in
    absurd (omega (arith, one_more, same))

module _ {A : Type 0} where
  leaf_parsing : (r : Reading) (text : List ℕ) (front : Nodes) (o : Opened) (leaf : LeafBlock) (outer inner : List Container) (p to : Place) (old mid new : Parser A)
      → IsParsing r text front o outer p old → LeavesLists old mid → KeepsOpen mid new → inner ≡ outer
      → Stands r text front (opened (join o.kids (one_block (Leaf leaf))) o.outer o.places) outer to new.walk
      → IsParsing r text front (after_row o (Single (Leaf leaf))) inner to new
  leaf_parsing r text front o leaf outer inner p to old mid new was leaves keeps is stands = record {
    stands = stands_there r text front (opened (join o.kids (one_block (Leaf leaf))) o.outer o.places) outer inner to to new.walk is refl stands;
    lists = subst (λ (os : List Held). KnowsLists os o.outer) (sym (keeps.lists ∙ leaves.lists)) was.lists;
    items = subst (λ (ps : List ItemPlace). KnowsItems ps (which_go_on o.outer)) (sym (keeps.items ∙ leaves.items)) was.items;
    places = ap reverse (keeps.places ∙ leaves.places) ∙ was.places;
    first = keeps.first ∙ leaves.first ∙ sym (first_over o (Leaf leaf) refl);
  }

  pub leaf_goes_on : (old mid new : Parser A) (r : Reading) (leaf : LeafBlock) → is_table leaf ≡ false
      → (ends_in_list old.open.items ≡ false → mid ≡ record old { first = false }) → KeepsOpen mid new
      → WritesRow r old.first (Single (Leaf leaf)) mid.walk new.walk → GoesOnInLine r (Single (Leaf leaf)) old new
  leaf_goes_on old mid new r leaf other stays keeps writes text front o outer inner (Between left) to in_line next was = absurd (true≢false (sym in_line))
  leaf_goes_on old mid new r leaf other stays keeps writes text front o outer inner (AtEnding ending left) to in_line next was =
      absurd (never_at_ending r.parse.constructs leaf outer inner ending left to next.laid)
  leaf_goes_on old mid new r leaf other stays keeps writes text front o outer inner (Within here left) to in_line next was =
      let leaves = lists_left old mid o.outer stays was.lists (next.fits refl) in
      leaf_parsing r text front o leaf outer inner (Within here left) to old mid new was leaves keeps next.laid.0 (
      leaf_row_stands r text front o outer here left to mid.walk new.walk leaf other (next.fits refl)
      (subst (λ (w : Walk A). Stands r text front o outer (Within here left) w) (sym leaves.walk) was.stands)
      (subst (λ (b : Bool). WritesRow r b (Single (Leaf leaf)) mid.walk new.walk) was.first writes) next.laid.1)

  pub table_goes_on : (old mid new : Parser A) (r : Reading) (ls : List BlockLine) → (ends_in_list old.open.items ≡ false → mid ≡ record old { first = false })
      → KeepsOpen mid new → WritesReadLeaf r old.first (Table ls) [] mid.walk new.walk → GoesOnInLine r (Single (Leaf (Table ls))) old new
  table_goes_on old mid new r ls stays keeps writes text front o outer inner (Between left) to in_line next was = absurd (true≢false (sym in_line))
  table_goes_on old mid new r ls stays keeps writes text front o outer inner (AtEnding ending left) to in_line next was =
      absurd (never_at_ending r.parse.constructs (Table ls) outer inner ending left to next.laid)
  table_goes_on old mid new r ls stays keeps writes text front o outer inner (Within here left) to in_line next was =
      let leaves = lists_left old mid o.outer stays was.lists (next.fits refl) in
      leaf_parsing r text front o (Table ls) outer inner (Within here left) to old mid new was leaves keeps next.laid.0 (
      table_row_stands r text front o outer here left to mid.walk new.walk ls (next.fits refl)
      (subst (λ (w : Walk A). Stands r text front o outer (Within here left) w) (sym leaves.walk) was.stands)
      (subst (λ (b : Bool). WritesReadLeaf r b (Table ls) [] mid.walk new.walk) was.first writes) next.laid.1)

-- ---- which row it is

abbrev is_table_row : BlockRow → Bool
is_table_row (Single (Leaf leaf)) = is_table leaf
is_table_row b = false

abbrev leaf_of : BlockRow → LeafBlock
leaf_of (Single (Leaf leaf)) = leaf
leaf_of b = Break

no_table_defined : (ls : List BlockLine) (d : Option LinkDefinition) → is_table_row (Single (definition_value ls d)) ≡ false
no_table_defined ls None = refl
no_table_defined ls (Some d) = refl

no_table_value : (r : Row) (ls : List BlockLine) → ((count : ℕ) → r ≡ row.Table count → ⊥) → is_table_row (row_value r ls) ≡ false
no_table_value (row.Paragraph count) ls other = refl
no_table_value row.WholeParagraph ls other = refl
no_table_value (row.Heading rank) ls other = refl
no_table_value (row.SetextHeading rank count) ls other = refl
no_table_value row.Break ls other = refl
no_table_value (row.IndentedCode count) ls other = refl
no_table_value (row.FencedCode count) ls other = refl
no_table_value (row.UnclosedCode count) ls other = refl
no_table_value row.WholeCode ls other = refl
no_table_value (row.Html count) ls other = refl
no_table_value (row.Table count) ls other = absurd (other count refl)
no_table_value (row.Definition count) ls other = no_table_defined (own_lines (take count ls)) (definition_on (take count ls))
no_table_value row.EnterQuote ls other = refl
no_table_value (row.EnterItem marker number) ls other = refl
no_table_value row.EnterFootnote ls other = refl
no_table_value row.Exit ls other = refl
no_table_value (row.Ending ending) ls other = refl
no_table_value (row.Blank ending) ls other = refl

pub no_table : (r : Row) (ls : List BlockLine) (leaf : LeafBlock) → ((count : ℕ) → r ≡ row.Table count → ⊥) → row_value r ls ≡ Single (Leaf leaf)
    → is_table leaf ≡ false
no_table r ls leaf other is = sym (ap is_table_row is) ∙ no_table_value r ls other

pub table_of : (r : Row) (count : ℕ) (ls : List BlockLine) (leaf : LeafBlock) → r ≡ row.Table count → length ls ≡ row_size r → row_value r ls ≡ Single (Leaf leaf)
    → leaf ≡ Table (own_lines ls)
table_of r count ls leaf is size value =
    sym (ap leaf_of value) ∙ ap (λ (x : Row). leaf_of (row_value x ls)) is
    ∙ ap (λ (xs : List BlockLine). Table (own_lines xs)) (all_taken ls count (size ∙ ap row_size is))

-- a row that is none of the others is that of a leaf
abbrev IsLeafRow : BlockRow → Type 0
IsLeafRow b = (leaf : LeafBlock) × (b ≡ Single (Leaf leaf))

defined_leaf : (ls : List BlockLine) (d : Option LinkDefinition) → IsLeafRow (Single (definition_value ls d))
defined_leaf ls None = (Definition ls [] [] None, refl)
defined_leaf ls (Some d) = (Definition ls d.label d.destination d.title, refl)

pub leaf_row : (r : Row) (ls : List BlockLine) → ((e : Option LineEnding) → r ≡ row.Ending e → ⊥) → ((e : Option LineEnding) → r ≡ row.Blank e → ⊥)
    → (r ≡ row.EnterQuote → ⊥) → (r ≡ row.EnterFootnote → ⊥) → ((marker : ℕ) (number : Option ℕ) → r ≡ row.EnterItem marker number → ⊥) → (r ≡ row.Exit → ⊥)
    → IsLeafRow (row_value r ls)
leaf_row (row.Paragraph count) ls a b c d e f = (Paragraph (own_lines (take count ls)), refl)
leaf_row row.WholeParagraph ls a b c d e f = (Paragraph (own_lines (whole_lines (bytes_of (first_codes ls)))), refl)
leaf_row (row.Heading rank) ls a b c d e f = (Heading rank (own_lines (take 1 ls)), refl)
leaf_row (row.SetextHeading rank count) ls a b c d e f = (Heading rank (own_lines (take count ls)), refl)
leaf_row row.Break ls a b c d e f = (Break, refl)
leaf_row (row.IndentedCode count) ls a b c d e f = (IndentedCode (own_lines (take count ls)), refl)
leaf_row (row.FencedCode count) ls a b c d e f = (FencedCode (first_codes ls) true (take count (drop 1 ls)), refl)
leaf_row (row.UnclosedCode count) ls a b c d e f = (FencedCode (first_codes ls) false (take count (drop 1 ls)), refl)
leaf_row row.WholeCode ls a b c d e f = (FencedCode (first_codes ls) true (whole_lines (bytes_of (first_codes (drop 1 ls)))), refl)
leaf_row (row.Html count) ls a b c d e f = (Html (own_lines (take count ls)), refl)
leaf_row (row.Table count) ls a b c d e f = (Table (own_lines (take count ls)), refl)
leaf_row (row.Definition count) ls a b c d e f = defined_leaf (own_lines (take count ls)) (definition_on (take count ls))
leaf_row row.EnterQuote ls a b c d e f = absurd (c refl)
leaf_row (row.EnterItem marker number) ls a b c d e f = absurd (e marker number refl)
leaf_row row.EnterFootnote ls a b c d e f = absurd (d refl)
leaf_row row.Exit ls a b c d e f = absurd (f refl)
leaf_row (row.Ending ending) ls a b c d e f = absurd (a ending refl)
leaf_row (row.Blank ending) ls a b c d e f = absurd (b ending refl)

-- a row that isn't an ending ends no line
defined_line : (ls : List BlockLine) (d : Option LinkDefinition) → ends_line (Single (definition_value ls d)) ≡ false
defined_line ls None = refl
defined_line ls (Some d) = refl

pub other_row : (r : Row) (ls : List BlockLine) → ((e : Option LineEnding) → r ≡ row.Ending e → ⊥) → ends_line (row_value r ls) ≡ false
other_row (row.Paragraph count) ls other = refl
other_row row.WholeParagraph ls other = refl
other_row (row.Heading rank) ls other = refl
other_row (row.SetextHeading rank count) ls other = refl
other_row row.Break ls other = refl
other_row (row.IndentedCode count) ls other = refl
other_row (row.FencedCode count) ls other = refl
other_row (row.UnclosedCode count) ls other = refl
other_row row.WholeCode ls other = refl
other_row (row.Html count) ls other = refl
other_row (row.Table count) ls other = refl
other_row (row.Definition count) ls other = defined_line (own_lines (take count ls)) (definition_on (take count ls))
other_row row.EnterQuote ls other = refl
other_row (row.EnterItem marker number) ls other = refl
other_row row.EnterFootnote ls other = refl
other_row row.Exit ls other = refl
other_row (row.Ending ending) ls other = absurd (other ending refl)
other_row (row.Blank ending) ls other = refl

pub no_ending : (r : Row) (ls : List BlockLine) → ends_line (row_value r ls) ≡ false → (e : Option LineEnding) → r ≡ row.Ending e → ⊥
no_ending r ls other e is = true≢false (sym (ap (λ (x : Row). ends_line (row_value x ls)) is) ∙ other)
