-- Siblings at the top of a document and in a block quote, squeezed.
use Rattle.std.proofs.Common.{◌≡◌, ℕ, List, [], ◌∷◌, ◌++◌, Bool, true, false, Option, None, Some, cond, ◌||◌, if◌then◌else◌, refl, sym, ap, ◌∙◌}
use Rattle.std.specs.Prelude.{codes, map}
use Rattle.std.specs.List.{flat_map}
use Rattle.std.proofs.lemmas.Bool.{false≢true}
use Rattle.std.proofs.lemmas.List.Sums.{fold-append}
use Rattle.markdown_options.specs.declared.line_ending.LineEnding.{LineEnding}
use Rattle.markdown_options.specs.LineEndings.{ending_bytes}
use Rattle.definition_text.specs.BlockLines.{BlockLine, own_lines}
use Rattle.definition_text.specs.Columns.{code_byte}
use Rattle.definition_block.specs.Tree as tree
use Rattle.definition_page.specs.Tags.{Words, said_bytes, end_tag, tag, bare_tag}
use Rattle.definition_page.specs.Pieces.{Piece, Open, Close, Says, Eol, Fresh, Named}
use Rattle.definition_page.specs.InlinePieces.{Meaning, element}
use Rattle.definition_page.specs.Page as page
use Rattle.definition_page.specs.Read.{Reading, Standing, on_page, in_container, info_text, without_ending, read_leaf, read_container, standing_in}
use Rattle.definition_page.specs.Read.{list_number, read_block, read_blocks}
use Rattle.definition_block.specs.Lists.{is_loose}
use Rattle.definition_page.specs.BlockPieces.{Place, at_top, inside, code_line, says, info_attributes, is_silent, fenced_pieces, leaf_block_pieces}
use Rattle.definition_page.specs.BlockPieces.{block_pieces, children_pieces}
use Rattle.definition_text.proofs.Each.{each-append, each_map}
use Rattle.definition_page.proofs.HeadingIds.{IsUnnamed, AreUnnamed}
use Rattle.std.proofs.lemmas.Bool.{cond_both}
use Rattle.laws_quote.specs.Squeeze.{with_bytes}
use Rattle.laws_quote.proofs.Bytes.{kept_at_ending, same_at_tag}
use Rattle.laws_quote.proofs.Printed.{PrintState, print_state, with_text, with_piece, with_pieces, kept_at_fresh, kept_at_said, dropped_said}

-- ---- the place of a block

-- an ending prints the same at the top and in a quote
ending_alike : (m : Meaning) (before : Option page.Block) (ending : LineEnding)
    → block_pieces m at_top before (page.Ending ending) ≡ block_pieces m (inside false) before (page.Ending ending)
ending_alike m None ending = refl
ending_alike m (Some (page.Leaf leaf)) ending = refl
ending_alike m (Some b) ending = refl

-- so does fenced code that is closed
lines_alike : (ls : List BlockLine) → fenced_pieces at_top true ls ≡ fenced_pieces (inside false) true ls
lines_alike [] = refl
lines_alike (line ∷ others) = refl

fenced_alike : (m : Meaning) (info : Option (List ℕ)) (ls : List BlockLine)
    → leaf_block_pieces m at_top (page.FencedCode info true ls) ≡ leaf_block_pieces m (inside false) (page.FencedCode info true ls)
fenced_alike m info ls =
    ap (λ ps. Fresh ∷ (element (bare_tag (codes "pre")) (element (tag (codes "code") (info_attributes info)) ps) ++ []))
    (lines_alike ls)

-- so does a container
held_alike : (m : Meaning) (before : Option page.Block) (c : page.PageContainer) (kids : page.Blocks)
    → block_pieces m at_top before (page.Holds c kids) ≡ block_pieces m (inside false) before (page.Holds c kids)
held_alike m before page.Quote kids = refl
held_alike m before c kids = refl

-- where a block stands that isn't the first in an item
abbrev standing_at : Bool → Standing
standing_at top = record { top = top; first = false }

-- what a block is read as at the top and in a quote: one that prints the same; nothing, of an ending that isn't there; or fenced code that isn't closed
data ReadBoth (m : Meaning) (r : Reading) (b : tree.Block) : Type 0 where
  Alike : (c : page.Block) → ((top : Bool) (others : page.Blocks) → read_block r (standing_at top) b others ≡ page.Cons c others)
      → ((before : Option page.Block) → block_pieces m at_top before c ≡ block_pieces m (inside false) before c) → ReadBoth m r b
  Nothing : ((top : Bool) (others : page.Blocks) → read_block r (standing_at top) b others ≡ others) → ReadBoth m r b
  Unclosed : (info : Option (List ℕ)) (ls : List BlockLine)
      → ((others : page.Blocks) → read_block r on_page b others ≡ page.Cons (page.Leaf (page.FencedCode info false ls)) (without_ending others))
      → ((others : page.Blocks) → read_block r in_container b others ≡ page.Cons (page.Leaf (page.FencedCode info false (own_lines ls))) others)
      → ReadBoth m r b

closed_read : (r : Reading) (info : List ℕ) (ls : List BlockLine) (top : Bool) (others : page.Blocks)
    → read_block r (standing_at top) (tree.Leaf (tree.FencedCode info true ls)) others
    ≡ page.Cons (page.Leaf (page.FencedCode (info_text r info) true ls)) others
closed_read r info ls true others = refl
closed_read r info ls false others = refl

leaf_both : (m : Meaning) (r : Reading) (leaf : tree.LeafBlock) → ReadBoth m r (tree.Leaf leaf)
leaf_both m r (tree.FencedCode info true ls) =
    Alike (page.Leaf (page.FencedCode (info_text r info) true ls)) (closed_read r info ls) (λ before. fenced_alike m (info_text r info) ls)
leaf_both m r (tree.FencedCode info false ls) = Unclosed (info_text r info) ls (λ others. refl) (λ others. refl)
leaf_both m r leaf = Alike (page.Leaf (read_leaf r on_page leaf)) (λ top others. refl) (λ before. refl)

read_both : (m : Meaning) (r : Reading) (b : tree.Block) → ReadBoth m r b
read_both m r (tree.Leaf leaf) = leaf_both m r leaf
read_both m r (tree.Holds c kids) =
    let inner = read_blocks r (standing_in c) kids in
    Alike (page.Holds (read_container c) inner) (λ top others. refl) (λ before. held_alike m before (read_container c) inner)
read_both m r (tree.Items items) =
    Alike (page.ItemList (list_number items) (is_loose items) (read_blocks r in_container items)) (λ top others. refl) (λ before. refl)
read_both m r (tree.Ending None) = Nothing (λ top others. refl)
read_both m r (tree.Ending (Some ending)) = Alike (page.Ending ending) (λ top others. refl) (λ before. ending_alike m before ending)
read_both m r (tree.Blank None) = Nothing (λ top others. refl)
read_both m r (tree.Blank (Some ending)) = Alike (page.Blank ending) (λ top others. refl) (λ before. refl)

-- ---- the sibling before

-- of the sibling before only matters whether an ending is silent after it
same_after : (m : Meaning) (place : Place) (a b : Option page.Block) (bs : page.Blocks) → is_silent place a ≡ is_silent place b
    → children_pieces m place a bs ≡ children_pieces m place b bs
same_after m place a b page.Nil e = refl
same_after m place a b (page.Cons (page.Ending ending) bs) e =
    ap (λ silent. cond silent [] (Says (Words (ending_bytes ending)) ∷ []) ++ children_pieces m place (Some (page.Ending ending)) bs) e
same_after m place a b (page.Cons (page.Holds page.Quote kids) bs) e = refl
same_after m place a b (page.Cons c bs) e = refl

module _ (default : LineEnding) (m : Meaning) where
  -- what siblings print after something, where the one before them is given
  abbrev pub print_siblings : Place → Option page.Block → page.Blocks → PrintState → PrintState
  print_siblings place before bs s = with_pieces m.compile default s (children_pieces m place before bs)

  abbrev print_block : Place → Option page.Block → page.Block → PrintState → PrintState
  print_block place before b s = with_pieces m.compile default s (block_pieces m place before b)

  print-cons : (place : Place) (before : Option page.Block) (b : page.Block) (bs : page.Blocks) (s : PrintState)
      → print_siblings place before (page.Cons b bs) s ≡ print_siblings place (Some b) bs (print_block place before b s)
  print-cons place before b bs s = fold-append (with_piece m.compile default) s (block_pieces m place before b) (children_pieces m place (Some b) bs)

  -- ---- fenced code that isn't closed

  abbrev fence : Option (List ℕ) → List BlockLine → page.Block
  fence info ls = page.Leaf (page.FencedCode info false ls)

  -- an ending right after it at the top prints nothing that is kept
  no_ending : (info : Option (List ℕ)) (ls : List BlockLine) (bs : page.Blocks) (s : PrintState) → s.squeezed.run ≡ None
      → print_siblings at_top (Some (fence info ls)) (without_ending bs) s ≡ print_siblings at_top (Some (fence info ls)) bs s
  no_ending info ls (page.Cons (page.Ending ending) bs) s e =
      ap (with_pieces m.compile default s) (same_after m at_top (Some (fence info ls)) (Some (page.Ending ending)) bs refl)
      ∙ sym (ap (print_siblings at_top (Some (page.Ending ending)) bs) (ap (print_state s.taken) (dropped_said s.squeezed ending e)))
  no_ending info ls bs s e = refl

  -- its last line is kept without its ending
  kept_lines : (line : BlockLine) (others : List BlockLine) (s : PrintState)
      → (with_pieces m.compile default s (says (flat_map code_line (line ∷ others)))).squeezed.kept
      ≡ (with_pieces m.compile default s (says (flat_map code_line (own_lines (line ∷ others))))).squeezed.kept
  kept_lines line [] s = kept_at_said (with_bytes s.squeezed (said_bytes (Words (map code_byte line.codes)))) line.ending
  kept_lines line (next ∷ others) s = kept_lines next others (with_pieces m.compile default s (says (code_line line)))

  -- one line at least is its own
  own_pieces : (line : BlockLine) (others : List BlockLine)
      → fenced_pieces (inside false) false (own_lines (line ∷ others)) ≡ (says (flat_map code_line (own_lines (line ∷ others))) ++ Eol ∷ []) ++ Fresh ∷ []
  own_pieces line [] = refl
  own_pieces line (next ∷ others) = refl

  -- after these pieces, others that keep what is kept, and a fresh line
  kept_end : (ps more : List Piece) (s : PrintState) → ((t : PrintState) → (with_pieces m.compile default t more).squeezed.kept ≡ t.squeezed.kept)
      → (with_pieces m.compile default s ((ps ++ more) ++ Fresh ∷ [])).squeezed.kept ≡ (with_pieces m.compile default s ps).squeezed.kept
  kept_end ps more s same =
      let f = with_piece m.compile default in
      ap (λ t. t.squeezed.kept) (fold-append f s (ps ++ more) (Fresh ∷ []))
      ∙ kept_at_fresh default (with_pieces m.compile default s (ps ++ more)).squeezed
      ∙ ap (λ t. t.squeezed.kept) (fold-append f s ps more)
      ∙ same (with_pieces m.compile default s ps)

  kept_code : (ls : List BlockLine) (s : PrintState)
      → (with_pieces m.compile default s (fenced_pieces at_top false ls)).squeezed.kept
      ≡ (with_pieces m.compile default s (fenced_pieces (inside false) false (own_lines ls))).squeezed.kept
  kept_code [] s = refl
  kept_code (line ∷ others) s =
      let own = says (flat_map code_line (own_lines (line ∷ others))) in
      kept_end (says (flat_map code_line (line ∷ others))) [] s (λ t. refl)
      ∙ kept_lines line others s
      ∙ sym (ap (λ ps. (with_pieces m.compile default s ps).squeezed.kept) (own_pieces line others)
      ∙ kept_end own (Eol ∷ []) s (λ t. kept_at_ending t.squeezed default))

  -- no heading is in them
  taken_kept : (ps : List Piece) (s : PrintState) → AreUnnamed ps → (with_pieces m.compile default s ps).taken ≡ s.taken
  taken_kept [] s h = refl
  taken_kept (Named t text ∷ ps) s h = absurd h.0
  taken_kept (p ∷ ps) s h = taken_kept ps (with_piece m.compile default s p) h.1

  unnamed_code : (place : Place) (ls : List BlockLine) → AreUnnamed (fenced_pieces place false ls)
  unnamed_code place [] = tt
  unnamed_code place (line ∷ others) =
      let code = flat_map code_line (line ∷ others) in
      let last = if place.top || false then [] else Eol ∷ [] in
      each-append IsUnnamed (says code ++ last) (Fresh ∷ [])
      (each-append IsUnnamed (says code) last (each_map IsUnnamed Says code (λ said. tt))
      (cond_both (place.top || false) [] (Eol ∷ []) AreUnnamed (λ _. tt) (λ _. (tt, tt)))) (tt, tt)

  taken_in_code : (place : Place) (ls : List BlockLine) (s : PrintState)
      → (with_pieces m.compile default s (fenced_pieces place false ls)).taken ≡ s.taken
  taken_in_code place ls s = taken_kept (fenced_pieces place false ls) s (unnamed_code place ls)

  -- what follows its lines
  abbrev code_end : PrintState → PrintState
  code_end s = with_text (with_text s (end_tag (codes "code"))) (end_tag (codes "pre"))

  print-end : (s : PrintState) (ps : List Piece)
      → with_pieces m.compile default s (((ps ++ Close (codes "code") ∷ []) ++ Close (codes "pre") ∷ []) ++ Fresh ∷ [])
      ≡ code_end (with_pieces m.compile default s ps)
  print-end s ps =
      let code = Close (codes "code") ∷ [] in
      let pre = Close (codes "pre") ∷ [] in
      let f = with_piece m.compile default in
      fold-append f s ((ps ++ code) ++ pre) (Fresh ∷ [])
      ∙ ap (λ t. with_pieces m.compile default t (Fresh ∷ []))
      (fold-append f s (ps ++ code) pre ∙ ap (λ t. with_pieces m.compile default t pre) (fold-append f s ps code))

  -- what stands before them
  abbrev code_start : Option (List ℕ) → PrintState → PrintState
  code_start info s =
      with_pieces m.compile default s (Fresh ∷ Open (bare_tag (codes "pre")) ∷ Open (tag (codes "code") (info_attributes info)) ∷ [])

  print-fence : (place : Place) (before : Option page.Block) (info : Option (List ℕ)) (ls : List BlockLine) (s : PrintState)
      → print_block place before (fence info ls) s ≡ code_end (with_pieces m.compile default (code_start info s) (fenced_pieces place false ls))
  print-fence place before info ls s = print-end (code_start info s) (fenced_pieces place false ls)

  same_fence : (before : Option page.Block) (info : Option (List ℕ)) (ls : List BlockLine) (s : PrintState)
      → print_block at_top before (fence info ls) s ≡ print_block (inside false) before (fence info (own_lines ls)) s
  same_fence before info ls s =
      let code = with_pieces m.compile default (code_start info s) (fenced_pieces at_top false ls) in
      let own = with_pieces m.compile default (code_start info s) (fenced_pieces (inside false) false (own_lines ls)) in
      print-fence at_top before info ls s
      ∙ ap (λ taken. code_end (print_state taken code.squeezed))
      (taken_in_code at_top ls (code_start info s) ∙ sym (taken_in_code (inside false) (own_lines ls) (code_start info s)))
      ∙ ap (λ t. print_state own.taken (with_bytes t (end_tag (codes "pre"))))
      (same_at_tag (codes "/code>") code.squeezed own.squeezed (kept_code ls (code_start info s)))
      ∙ sym (print-fence (inside false) before info (own_lines ls) s)

  -- ---- siblings

  -- siblings, which are read and printed at the top and in a quote
  abbrev PrintSame : page.Blocks → page.Blocks → Type 0
  PrintSame outer inner = (before : Option page.Block) (s : PrintState) → print_siblings at_top before outer s ≡ print_siblings (inside false) before inner s

  module _ (r : Reading) where
    same_cons : (b : tree.Block) (outer inner : page.Blocks) → ReadBoth m r b → PrintSame outer inner
        → PrintSame (read_block r on_page b outer) (read_block r in_container b inner)
    same_cons b outer inner (Alike c read alike) same before s =
        ap (λ bs. print_siblings at_top before bs s) (read true outer)
        ∙ print-cons at_top before c outer s
        ∙ same (Some c) (print_block at_top before c s)
        ∙ ap (λ ps. print_siblings (inside false) (Some c) inner (with_pieces m.compile default s ps)) (alike before)
        ∙ sym (print-cons (inside false) before c inner s)
        ∙ sym (ap (λ bs. print_siblings (inside false) before bs s) (read false inner))
    same_cons b outer inner (Nothing read) same before s =
        ap (λ bs. print_siblings at_top before bs s) (read true outer)
        ∙ same before s
        ∙ sym (ap (λ bs. print_siblings (inside false) before bs s) (read false inner))
    same_cons b outer inner (Unclosed info ls read_outer read_inner) same before s =
        let code = fence info ls in
        let own = fence info (own_lines ls) in
        let t = print_block at_top before code s in
        let dropped = ap (λ u. u.squeezed.run) (print-fence at_top before info ls s) in
        ap (λ bs. print_siblings at_top before bs s) (read_outer outer)
        ∙ print-cons at_top before code (without_ending outer) s
        ∙ no_ending info ls outer t dropped
        ∙ same (Some code) t
        ∙ ap (with_pieces m.compile default t) (same_after m (inside false) (Some code) (Some own) inner refl)
        ∙ ap (print_siblings (inside false) (Some own) inner) (same_fence before info ls s)
        ∙ sym (print-cons (inside false) before own inner s)
        ∙ sym (ap (λ bs. print_siblings (inside false) before bs s) (read_inner inner))

    -- children print the same at the top and in a quote
    pub same_in_quote : (bs : tree.Blocks) → PrintSame (read_blocks r on_page bs) (read_blocks r in_container bs)
    same_in_quote tree.Nil = λ before s. refl
    same_in_quote (tree.Cons b bs) = same_cons b (read_blocks r on_page bs) (read_blocks r in_container bs) (read_both m r b) (same_in_quote bs)

    -- ---- an ending at the end

    -- siblings in a quote, of which the same is kept
    abbrev KeepSame : page.Blocks → page.Blocks → Type 0
    KeepSame bs cs =
        (before : Option page.Block) (s : PrintState)
        → (print_siblings (inside false) before bs s).squeezed.kept ≡ (print_siblings (inside false) before cs s).squeezed.kept

    keep_cons : (b : page.Block) (bs cs : page.Blocks) → KeepSame bs cs → KeepSame (page.Cons b bs) (page.Cons b cs)
    keep_cons b bs cs same before s =
        ap (λ t. t.squeezed.kept) (print-cons (inside false) before b bs s)
        ∙ same (Some b) (print_block (inside false) before b s)
        ∙ sym (ap (λ t. t.squeezed.kept) (print-cons (inside false) before b cs s))

    keep_read : (b : tree.Block) (bs cs : page.Blocks) → ReadBoth m r b → KeepSame bs cs
        → KeepSame (read_block r in_container b bs) (read_block r in_container b cs)
    keep_read b bs cs (Alike c read alike) same before s =
        ap (λ all. (print_siblings (inside false) before all s).squeezed.kept) (read false bs)
        ∙ keep_cons c bs cs same before s
        ∙ sym (ap (λ all. (print_siblings (inside false) before all s).squeezed.kept) (read false cs))
    keep_read b bs cs (Nothing read) same before s =
        ap (λ all. (print_siblings (inside false) before all s).squeezed.kept) (read false bs)
        ∙ same before s
        ∙ sym (ap (λ all. (print_siblings (inside false) before all s).squeezed.kept) (read false cs))
    keep_read b bs cs (Unclosed info ls read_outer read) same before s =
        ap (λ all. (print_siblings (inside false) before all s).squeezed.kept) (read bs)
        ∙ keep_cons (fence info (own_lines ls)) bs cs same before s
        ∙ sym (ap (λ all. (print_siblings (inside false) before all s).squeezed.kept) (read cs))

    keep_ending : (silent : Bool) (ending : LineEnding) (s : PrintState)
        → (with_pieces m.compile default s (cond silent [] (Says (Words (ending_bytes ending)) ∷ []) ++ [])).squeezed.kept ≡ s.squeezed.kept
    keep_ending true ending s = refl
    keep_ending false ending s = kept_at_said s.squeezed (Some ending)

    keep_last : (last : tree.Block) → tree.is_ending last ≡ true → KeepSame (read_blocks r in_container (tree.one last)) page.Nil
    keep_last (tree.Ending None) e before s = refl
    keep_last (tree.Ending (Some ending)) e before s = keep_ending (is_silent (inside false) before) ending s
    keep_last (tree.Blank None) e before s = refl
    keep_last (tree.Blank (Some ending)) e before s = refl
    keep_last b e before s = absurd (false≢true e)

    -- an ending after the children keeps what is kept
    pub keep_join : (bs : tree.Blocks) (last : tree.Block) → tree.is_ending last ≡ true
        → KeepSame (read_blocks r in_container (tree.join bs (tree.one last))) (read_blocks r in_container bs)
    keep_join tree.Nil last e = keep_last last e
    keep_join (tree.Cons b bs) last e =
        keep_read b (read_blocks r in_container (tree.join bs (tree.one last))) (read_blocks r in_container bs) (read_both m r b) (keep_join bs last e)
