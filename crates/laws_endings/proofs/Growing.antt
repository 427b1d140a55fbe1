-- One more line, with another ending in place of each LF.
use Rattle.std.proofs.Common.{◌≡◌, ℕ, zero, suc, List, [], ◌∷◌, ◌++◌, None, Some, Option, Bool, true, false, cond, not, ◌&&◌, ◌||◌, ◌-◌, refl, sym, ap, ◌∙◌}
use Rattle.std.proofs.Common.{length, take, drop}
use Rattle.laws_endings.proofs.Prelude.{AlignKind, At, Atx, Beside, Blank, block_and_ending, Blocks, blocks_with, close, Constructs, Container, ContainerLine}
use Rattle.laws_endings.proofs.Prelude.{ContainerStart, continues, definition_cut, DefinitionCut, drop-map, Fence, fence_start, Fenced, grow, heading_atx}
use Rattle.laws_endings.proofs.Prelude.{if_ending_with, Indented, Inside, is_blank, is_break, is_head, join, length-map, line_with, LineEnding, lines_with}
use Rattle.laws_endings.proofs.Prelude.{map-append, math_start, one, OpenHtml, Opening, OpenLeaf, OpenTable, option_map, outdent, paragraph_of, Rest}
use Rattle.laws_endings.proofs.Prelude.{rest_line, starts, take-map, Text, tree, Tree, underline, unwrap_or}
use Rattle.std.specs.Bool.{then_some}
use Rattle.std.specs.Option.{option_or, option_and_then}
use Rattle.definition_block.specs.CodeIndented.{starts_code_indented}
use Rattle.definition_block.specs.CodeFenced.{is_fence_end, fence_line}
use Rattle.definition_block.specs.HtmlFlow.{html_start, html_ends_here, ends_before_blank}
use Rattle.definition_block.specs.GfmTable.{delimiter_row}
use Rattle.definition_block.specs.Tree.{BlockLine, block_line, spaced_line, own_lines, Heading, Html, Leaf, Nil, Cons}
use Rattle.definition_block.specs.Tree.{nothing, leaf_text}
use Rattle.definition_block.specs.Tree.{open_text, is_some_line, has_text, has_table, table_of, tabled, makes_table, leaf_with_line, with_line}
use Rattle.definition_block.specs.Tree.{indented_takes, fenced_takes, html_with, takes, after, text_line_of, text_here, heading_of, underlined, turns}
use Rattle.definition_block.specs.Tree.{indented_tree, fence_tree, html_tree, atx_tree, break_tree, anew, first_of, leaf_starts, leaf_line}
use Rattle.definition_block.specs.Tree.{beside_in, start, new, in_container, is_nothing, is_one_blank, began_blank, goes_on}
use Rattle.laws_endings.proofs.Codes.{cond-under}
use Rattle.laws_endings.proofs.Cuts.{own_lines-with, join-with, cut_with, cut-with}
use Rattle.laws_endings.proofs.Rests.{Kept, outdented-kept, block_codes-kept, KeptLine, KeptStarted, starts-kept, continues-kept, KeptAtx, heading_atx-kept}
use Rattle.laws_endings.proofs.Openings.{leaf_with, opening_with, tree_with, beside_with}
use Rattle.laws_endings.proofs.Closing.{paragraph_of-with, close-with}
use Rattle.laws_endings.proofs.GfmTable.{is_head-with}

module _ (e : LineEnding) where
  abbrev if_tree : Option Tree → Option Tree
  if_tree t = option_map (tree_with e) t

  -- ---- the open paragraph

  leaf_text-with : (leaf : OpenLeaf) → leaf_text (leaf_with e leaf) ≡ lines_with e (leaf_text leaf)
  leaf_text-with (Text ls) = refl
  leaf_text-with leaf = refl

  open_text-with : (now : Opening) → open_text (opening_with e now) ≡ lines_with e (open_text now)
  open_text-with (At leaf) = leaf_text-with leaf
  open_text-with (Inside c kids inner) = open_text-with inner

  is_some_line-with : (ls : List BlockLine) → is_some_line (lines_with e ls) ≡ is_some_line ls
  is_some_line-with [] = refl
  is_some_line-with (line ∷ ls) = refl

  has_text-with : (now : Opening) → has_text (opening_with e now) ≡ has_text now
  has_text-with now = ap is_some_line (open_text-with now) ∙ is_some_line-with (open_text now)

  has_table-with : (now : Opening) → has_table (opening_with e now) ≡ has_table now
  has_table-with (At (OpenTable ls)) = refl
  has_table-with (At leaf) = refl
  has_table-with (Inside c kids inner) = refl

  one_more : (ls : List BlockLine) (line : BlockLine) → lines_with e ls ++ line_with e line ∷ [] ≡ lines_with e (ls ++ line ∷ [])
  one_more ls line = sym (map-append (line_with e) ls (line ∷ []))

  leaf_with_line-with : (line : BlockLine) (leaf : OpenLeaf) → leaf_with_line (line_with e line) (leaf_with e leaf) ≡ leaf_with e (leaf_with_line line leaf)
  leaf_with_line-with line (Text ls) = ap Text (one_more ls line)
  leaf_with_line-with line (OpenTable ls) = ap OpenTable (one_more ls line)
  leaf_with_line-with line leaf = refl

  with_line-with : (line : BlockLine) (now : Opening) → with_line (line_with e line) (opening_with e now) ≡ opening_with e (with_line line now)
  with_line-with line (At leaf) = ap At (leaf_with_line-with line leaf)
  with_line-with line (Inside c kids inner) = ap (Inside c (blocks_with e kids)) (with_line-with line inner)

  rest_line-with : (rest : Rest) (beside : Beside) → Kept e rest → rest_line rest (beside_with e beside) ≡ line_with e (rest_line rest beside)
  rest_line-with rest beside k = ap (λ codes. block_line codes (if_ending_with e beside.ending) beside.before) (sym (block_codes-kept e rest k))

  more_lines : (ls : List BlockLine) (rest : Rest) (beside : Beside) → Kept e rest
      → lines_with e ls ++ rest_line rest (beside_with e beside) ∷ [] ≡ lines_with e (ls ++ rest_line rest beside ∷ [])
  more_lines ls rest beside k = ap (λ line. lines_with e ls ++ line ∷ []) (rest_line-with rest beside k) ∙ one_more ls (rest_line rest beside)

  -- ---- an open leaf that takes the rest

  indented_takes-with : (on : Constructs) (ls pending : List BlockLine) (rest : Rest) (beside : Beside) → Kept e rest
      → indented_takes on (lines_with e ls) (lines_with e pending) rest (beside_with e beside) ≡ if_tree (indented_takes on ls pending rest beside)
  indented_takes-with on ls pending rest beside k =
      let code = outdent 4 rest in
      let kept = outdented-kept e 4 rest k in
      cond-under if_tree (is_blank rest)
      (ap (λ others. Some (tree Nil (At (Indented (lines_with e ls) others)))) (more_lines pending code beside kept))
      (cond-under if_tree (starts_code_indented on rest)
      (ap (λ front. Some (tree Nil (At (Indented (front ++ rest_line code (beside_with e beside) ∷ []) [])))) (sym (map-append (line_with e) ls pending))
      ∙ ap (λ all. Some (tree Nil (At (Indented all [])))) (more_lines (ls ++ pending) code beside kept))
      refl)

  fenced_takes-with : (on : Constructs) (fence : Fence) (opening : Option LineEnding) (ls : List BlockLine) (rest : Rest) (beside : Beside) → Kept e rest
      → fenced_takes on fence (if_ending_with e opening) (lines_with e ls) rest (beside_with e beside) ≡ if_tree (fenced_takes on fence opening ls rest beside)
  fenced_takes-with on fence opening ls rest beside k =
      cond-under if_tree (is_fence_end on fence rest) refl
      (ap (λ all. Some (tree Nil (At (Fenced fence (if_ending_with e opening) all))))
      (more_lines ls (fence_line fence rest) beside (outdented-kept e fence.indent rest k)))

  html_with-with : (kind : ℕ) (ls : List BlockLine) (rest : Rest) (beside : Beside) → Kept e rest
      → html_with kind (lines_with e ls) rest (beside_with e beside) ≡ tree_with e (html_with kind ls rest beside)
  html_with-with kind ls rest beside k =
      let made : List BlockLine → Tree = λ own. tree (block_and_ending (Leaf (Html own)) (if_ending_with e beside.ending)) nothing in
      let more = ls ++ rest_line rest beside ∷ [] in
      ap (λ all. cond (html_ends_here kind rest) (made (own_lines all)) (tree Nil (At (OpenHtml kind all)))) (more_lines ls rest beside k)
      ∙ cond-under (tree_with e) (html_ends_here kind rest) (ap made (own_lines-with e more)) refl

  takes-with : (on : Constructs) (leaf : OpenLeaf) (rest : Rest) (beside : Beside) → Kept e rest
      → takes on (leaf_with e leaf) rest (beside_with e beside) ≡ if_tree (takes on leaf rest beside)
  takes-with on (Text ls) rest beside k = refl
  takes-with on (Indented ls pending) rest beside k = indented_takes-with on ls pending rest beside k
  takes-with on (Fenced fence opening ls) rest beside k = fenced_takes-with on fence opening ls rest beside k
  takes-with on (OpenHtml kind ls) rest beside k =
      cond-under if_tree (ends_before_blank kind && is_blank rest) refl (ap Some (html_with-with kind ls rest beside k))
  takes-with on (OpenTable ls) rest beside k = refl

  -- ---- a leaf that begins

  atx-with : (beside : Beside) (found : Option Atx) → KeptAtx e found
      → option_map (atx_tree (beside_with e beside)) found ≡ if_tree (option_map (atx_tree beside) found)
  atx-with beside None k = refl
  atx-with beside (Some atx) k =
      ap (λ content. Some (tree (block_and_ending (Leaf (Heading atx.rank (spaced_line content None ∷ []))) (if_ending_with e beside.ending)) nothing)) (sym k)

  fence-with : (beside : Beside) (found : Option Fence)
      → option_map (fence_tree (beside_with e beside)) found ≡ if_tree (option_map (fence_tree beside) found)
  fence-with beside None = refl
  fence-with beside (Some fence) = refl

  html-with : (rest : Rest) (beside : Beside) (found : Option ℕ) → Kept e rest
      → option_map (html_tree rest (beside_with e beside)) found ≡ if_tree (option_map (html_tree rest beside) found)
  html-with rest beside None k = refl
  html-with rest beside (Some kind) k = ap Some (html_with-with kind [] rest beside k)

  indented-with : (rest : Rest) (beside : Beside) → Kept e rest → indented_tree rest (beside_with e beside) ≡ tree_with e (indented_tree rest beside)
  indented-with rest beside k = ap (λ line. tree Nil (At (Indented (line ∷ []) []))) (rest_line-with (outdent 4 rest) beside (outdented-kept e 4 rest k))

  after-with : (on : Constructs) (away : Opening) (t : Tree) → after on (opening_with e away) (tree_with e t) ≡ tree_with e (after on away t)
  after-with on away t =
      ap (λ closed. tree (join closed (blocks_with e t.done)) (opening_with e t.now)) (close-with e on away)
      ∙ ap (λ done. tree done (opening_with e t.now)) (join-with e (close on away) t.done)

  text_line_of-with : (on : Constructs) (away : Opening) (rest : Rest) (beside : Beside) → Kept e rest
      → text_line_of on (opening_with e away) rest (beside_with e beside) ≡ tree_with e (text_line_of on away rest beside)
  text_line_of-with on away rest beside k =
      let now = opening_with e away in
      let line = rest_line rest beside in
      let begun : BlockLine → Tree = λ l. after on now (tree Nil (At (Text (l ∷ [])))) in
      let more = rest_line rest (beside_with e beside) in
      let goes_on = has_text away || has_table away in
      ap (λ has. cond (has || has_table now) (tree Nil (with_line more now)) (begun more)) (has_text-with away)
      ∙ ap (λ has. cond (has_text away || has) (tree Nil (with_line more now)) (begun more)) (has_table-with away)
      ∙ ap (λ l. cond goes_on (tree Nil (with_line l now)) (begun l)) (rest_line-with rest beside k)
      ∙ cond-under (tree_with e) goes_on (ap (tree Nil) (with_line-with line away)) (after-with on away (tree Nil (At (Text (line ∷ [])))))

  -- ---- underlines

  text_here-with : (away : Opening) → text_here (opening_with e away) ≡ lines_with e (text_here away)
  text_here-with (At leaf) = leaf_text-with leaf
  text_here-with (Inside c kids inner) = refl

  heading_of-with : (rank : ℕ) (definitions : Blocks) (ls : List BlockLine) (ending : Option LineEnding)
      → heading_of rank (blocks_with e definitions) (lines_with e ls) (if_ending_with e ending) ≡ if_tree (heading_of rank definitions ls ending)
  heading_of-with rank definitions [] ending = refl
  heading_of-with rank definitions (line ∷ ls) ending =
      let made : List BlockLine → Blocks = λ own. block_and_ending (Leaf (Heading rank own)) (if_ending_with e ending) in
      ap (λ own. Some (tree (join (blocks_with e definitions) (made own)) nothing)) (own_lines-with e (line ∷ ls))
      ∙ ap (λ done. Some (tree done nothing)) (join-with e definitions (block_and_ending (Leaf (Heading rank (own_lines (line ∷ ls)))) ending))

  underlined-with : (on : Constructs) (rank : Option ℕ) (ls : List BlockLine) (ending : Option LineEnding)
      → option_and_then (underlined on (lines_with e ls) (if_ending_with e ending)) rank ≡ if_tree (option_and_then (underlined on ls ending) rank)
  underlined-with on None ls ending = refl
  underlined-with on (Some rank) ls ending =
      ap (λ (parts : DefinitionCut). heading_of rank parts.definitions parts.left (if_ending_with e ending)) (cut-with e on ls)
      ∙ heading_of-with rank (definition_cut on ls).definitions (definition_cut on ls).left ending

  turns-with : (on : Constructs) (away : Opening) (rest : Rest) (ending : Option LineEnding)
      → turns on (opening_with e away) rest (if_ending_with e ending) ≡ if_tree (turns on away rest ending)
  turns-with on away rest ending =
      ap (λ ls. option_and_then (underlined on ls (if_ending_with e ending)) (underline on rest)) (text_here-with away)
      ∙ underlined-with on (underline on rest) (text_here away) ending

  -- ---- tables

  taken-with : (found : Option Tree) (other : Tree) → unwrap_or (if_tree found) (tree_with e other) ≡ tree_with e (unwrap_or found other)
  taken-with None other = refl
  taken-with (Some t) other = refl

  table_of-with : (definitions : Blocks) (ls : List BlockLine) (row : BlockLine)
      → table_of (blocks_with e definitions) (lines_with e ls) (line_with e row) ≡ tree_with e (table_of definitions ls row)
  table_of-with definitions ls row =
      let head = length ls - 1 in
      let front : List BlockLine → Blocks = λ own. join (blocks_with e definitions) (paragraph_of own) in
      let table : Blocks → List BlockLine → Tree = λ done own. tree done (At (OpenTable (own ++ line_with e row ∷ []))) in
      ap (λ n. table (front (take (n - 1) (lines_with e ls))) (drop (n - 1) (lines_with e ls))) (length-map ls (line_with e))
      ∙ ap (λ own. table (front own) (drop head (lines_with e ls))) (take-map (line_with e) head ls)
      ∙ ap (λ own. table (front (lines_with e (take head ls))) own) (drop-map (line_with e) head ls)
      ∙ ap (λ bs. table (join (blocks_with e definitions) bs) (lines_with e (drop head ls))) (paragraph_of-with e (take head ls))
      ∙ ap (λ bs. table bs (lines_with e (drop head ls))) (join-with e definitions (paragraph_of (take head ls)))
      ∙ ap (λ own. tree (blocks_with e (join definitions (paragraph_of (take head ls)))) (At (OpenTable own))) (one_more (drop head ls) row)

  tabled-with : (on : Constructs) (o : Option (List AlignKind)) (ls : List BlockLine) (row : BlockLine)
      → option_and_then (tabled on (lines_with e ls) (line_with e row)) o ≡ if_tree (option_and_then (tabled on ls row) o)
  tabled-with on None ls row = refl
  tabled-with on (Some columns) ls row =
      let parts = definition_cut on ls in
      let count = length columns in
      let made : DefinitionCut → Bool → Option Tree =
      λ own fits. cond (is_some_line own.left && fits) (Some (table_of own.definitions own.left (line_with e row))) None in
      ap (λ own. made own (is_head count (lines_with e ls))) (cut-with e on ls)
      ∙ ap (made (cut_with e parts)) (is_head-with e count ls)
      ∙ ap (λ some. cond (some && is_head count ls) (Some (table_of (blocks_with e parts.definitions) (lines_with e parts.left) (line_with e row))) None)
      (is_some_line-with parts.left)
      ∙ cond-under if_tree (is_some_line parts.left && is_head count ls) (ap Some (table_of-with parts.definitions parts.left row)) refl

  makes_table-with : (on : Constructs) (away : Opening) (rest : Rest) (beside : Beside) → Kept e rest
      → makes_table on (opening_with e away) rest (beside_with e beside) ≡ if_tree (makes_table on away rest beside)
  makes_table-with on away rest beside k =
      ap (λ ls. option_and_then (tabled on ls (rest_line rest (beside_with e beside))) (delimiter_row on rest)) (text_here-with away)
      ∙ ap (λ row. option_and_then (tabled on (lines_with e (text_here away)) row) (delimiter_row on rest)) (rest_line-with rest beside k)
      ∙ tabled-with on (delimiter_row on rest) (text_here away) (rest_line rest beside)

  -- ---- a rest that starts no container

  -- a leaf that is found begins
  anew-with : (on : Constructs) (away : Opening) (more other : Option Tree) → more ≡ if_tree other
      → anew on (opening_with e away) more ≡ if_tree (anew on away other)
  anew-with on away more other same = ap (anew on (opening_with e away)) same ∙ both other
    where
      both : (o : Option Tree) → anew on (opening_with e away) (if_tree o) ≡ if_tree (anew on away o)
      both None = refl
      both (Some t) = ap Some (after-with on away t)

  -- or one that begins where a test passes
  tested-with : (on : Constructs) (away : Opening) (b : Bool) (more other : Tree) → more ≡ tree_with e other
      → anew on (opening_with e away) (then_some b more) ≡ if_tree (anew on away (then_some b other))
  tested-with on away true more other same = anew-with on away (Some more) (Some other) (ap Some same)
  tested-with on away false more other same = refl

  or-with : (o p other more : Option Tree) → o ≡ if_tree p → other ≡ if_tree more → option_or o other ≡ if_tree (option_or p more)
  or-with o p other more same rest = ap (λ x. option_or x other) same ∙ ap (option_or (if_tree p)) rest ∙ either p
    where
      either : (x : Option Tree) → option_or (if_tree x) (if_tree more) ≡ if_tree (option_or x more)
      either None = refl
      either (Some t) = refl

  starts-with : (on : Constructs) (away : Opening) (rest : Rest) (beside : Beside) → Kept e rest
      → first_of (leaf_starts on (opening_with e away) rest (beside_with e beside)) ≡ if_tree (first_of (leaf_starts on away rest beside))
  starts-with on away rest beside k =
      let now = opening_with e away in
      let ends = beside_with e beside in
      let code = starts_code_indented on rest in
      or-with _ _ _ _
      (ap (λ has. anew on now (then_some (code && not has) (indented_tree rest ends))) (has_text-with away)
      ∙ tested-with on away (code && not (has_text away)) (indented_tree rest ends) (indented_tree rest beside) (indented-with rest beside k))
      (or-with _ _ _ _ (anew-with on away _ _ (fence-with beside (fence_start on rest)))
      (or-with _ _ _ _ (anew-with on away _ _ (fence-with beside (math_start on rest)))
      (or-with _ _ _ _
      (ap (λ has. anew on now (option_map (html_tree rest ends) (html_start on has rest))) (has_text-with away)
      ∙ anew-with on away _ _ (html-with rest beside (html_start on (has_text away) rest) k))
      (or-with _ _ _ _ (anew-with on away _ _ (atx-with beside (heading_atx on rest) (heading_atx-kept e on rest k)))
      (or-with _ _ _ _ (turns-with on away rest beside.ending)
      (or-with _ _ _ _ (tested-with on away (is_break on rest) (break_tree ends) (break_tree beside) refl)
      (or-with (makes_table on now rest ends) (makes_table on away rest beside) None None (makes_table-with on away rest beside k) refl)))))))

  leaf_line-with : (on : Constructs) (away : Opening) (rest : Rest) (beside : Beside) → Kept e rest
      → leaf_line on (opening_with e away) rest (beside_with e beside) ≡ tree_with e (leaf_line on away rest beside)
  leaf_line-with on away rest beside k =
      let found = first_of (leaf_starts on away rest beside) in
      cond-under (tree_with e) (is_blank rest) (after-with on away (tree (one (Blank beside.ending)) nothing))
      (ap (λ o. unwrap_or o (text_line_of on (opening_with e away) rest (beside_with e beside))) (starts-with on away rest beside k)
      ∙ ap (unwrap_or (if_tree found)) (text_line_of-with on away rest beside k)
      ∙ taken-with found (text_line_of on away rest beside))

  -- ---- containers

  start-with : (on : Constructs) (found : Option ContainerStart) (away : Opening) (none other : Tree) (f g : ContainerStart → Tree)
      → none ≡ tree_with e other → KeptStarted e found
      → ((s : ContainerStart) → Kept e s.rest → f s ≡ tree_with e (g s)) → start on found (opening_with e away) none f
      ≡ tree_with e (start on found away other g)
  start-with on None away none other f g same k more = same
  start-with on (Some s) away none other f g same k more =
      ap (λ (t : Tree). after on (opening_with e away) (tree Nil (Inside s.container t.done t.now))) (more s k)
      ∙ after-with on away (tree Nil (Inside s.container (g s).done (g s).now))

  new-with : (most : ℕ) (on : Constructs) (all : Bool) (away : Opening) (beside : Beside) (rest : Rest) → Kept e rest
      → new most on all (opening_with e away) (beside_with e beside) rest ≡ tree_with e (new most on all away beside rest)
  new-with zero on all away beside rest k = leaf_line-with on away rest beside k
  new-with (suc most) on all away beside rest k =
      let now = opening_with e away in
      let ends = beside_with e beside in
      let more : ContainerStart → Tree = λ s. new most on true nothing (beside_in s.before ends) s.rest in
      ap (λ has. start on (starts on (all && has) rest) now (leaf_line on now rest ends) more) (has_text-with away)
      ∙ start-with on (starts on (all && has_text away) rest) away (leaf_line on now rest ends) (leaf_line on away rest beside) more
      (λ s. new most on true nothing (beside_in s.before beside) s.rest)
      (leaf_line-with on away rest beside k) (starts-kept e on (all && has_text away) rest k)
      (λ s l. new-with most on true nothing (beside_in s.before beside) s.rest l)

  in_container-with : (c : Container) (kids : Blocks) (t : Tree) → in_container c (blocks_with e kids) (tree_with e t) ≡ tree_with e (in_container c kids t)
  in_container-with c kids t = ap (λ bs. tree Nil (Inside c bs (opening_with e t.now))) (join-with e kids t.done)

  is_nothing-with : (now : Opening) → is_nothing (opening_with e now) ≡ is_nothing now
  is_nothing-with (At (Text [])) = refl
  is_nothing-with now = refl

  is_one_blank-with : (bs : Blocks) → is_one_blank (blocks_with e bs) ≡ is_one_blank bs
  is_one_blank-with (Cons (Blank ending) Nil) = refl
  is_one_blank-with bs = refl

  began_blank-with : (kids : Blocks) (inner : Opening) → began_blank (blocks_with e kids) (opening_with e inner) ≡ began_blank kids inner
  began_blank-with kids inner =
      ap (λ blank. blank && is_nothing (opening_with e inner)) (is_one_blank-with kids) ∙ ap (λ none. is_one_blank kids && none) (is_nothing-with inner)

  goes_on-with : (found : Option ContainerLine) (on : Constructs) (c : Container) (kids : Blocks) (inner : Opening) (beside : Beside) (rest : Rest)
      (f g : ContainerLine → Tree) → Kept e rest → KeptLine e found → ((line : ContainerLine) → Kept e line.rest → f line ≡ tree_with e (g line))
      → goes_on found on c (blocks_with e kids) (opening_with e inner) (beside_with e beside) rest f ≡ tree_with e (goes_on found on c kids inner beside rest g)
  goes_on-with None on c kids inner beside rest f g k l more = new-with (length rest) on false (Inside c kids inner) beside rest k
  goes_on-with (Some line) on c kids inner beside rest f g k l more =
      ap (in_container c (blocks_with e kids)) (more line l) ∙ in_container-with c kids (g line)

  pub grow-with : (on : Constructs) (beside : Beside) (now : Opening) (rest : Rest) → Kept e rest
      → grow on (beside_with e beside) (opening_with e now) rest ≡ tree_with e (grow on beside now rest)
  grow-with on beside (At leaf) rest k =
      let other = new (length rest) on true (At leaf) beside rest in
      ap (λ found. unwrap_or found (new (length rest) on true (opening_with e (At leaf)) (beside_with e beside) rest)) (takes-with on leaf rest beside k)
      ∙ ap (unwrap_or (if_tree (takes on leaf rest beside))) (new-with (length rest) on true (At leaf) beside rest k)
      ∙ taken-with (takes on leaf rest beside) other
  grow-with on beside (Inside c kids inner) rest k =
      let inside = opening_with e inner in
      let more : ContainerLine → Tree = λ line. grow on (beside_in line.before (beside_with e beside)) inside line.rest in
      let found : Option ContainerLine = continues on c (began_blank kids inner) rest in
      ap (λ blank. goes_on (continues on c blank rest) on c (blocks_with e kids) inside (beside_with e beside) rest more) (began_blank-with kids inner)
      ∙ goes_on-with found on c kids inner beside rest more (λ line. grow on (beside_in line.before beside) inner line.rest) k
      (continues-kept e on c (began_blank kids inner) rest k)
      (λ line l. grow-with on (beside_in line.before beside) inner line.rest l)
