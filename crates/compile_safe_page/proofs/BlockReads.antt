-- The page of every list of events in the grammar has headings of the ranks 1 to 6, and the codes of its line endings are those.
use Rattle.std.proofs.Common.{◌≡◌, ℕ, Bool, true, false, ◌&&◌, leb, eqb, List, [], ◌∷◌, Some, length, map, refl, arith}
use Rattle.std.specs.Prelude.{slice_index}
use Rattle.std.proofs.lemmas.Bool.{cond_both}
use Rattle.std.proofs.lemmas.Bool.Decides.{nat_tests}
use Rattle.engine_events.specs.Names.{same_name}
use Rattle.engine_events.specs.declared.event.Name.{Name}
use Rattle.engine_events.specs.declared.event.Name.TheVariants as n
use Rattle.definition_text.specs.Ascii.{hyphen}
use Rattle.definition_text.proofs.Each.{Each}
use Rattle.definition_inline.specs.CharacterReference.{Names}
use Rattle.definition_page.specs.Page as page
use Rattle.event_grammar.specs.InGrammar.{node_name}
use Rattle.event_grammar.specs.Trees.{Node, Nodes, Around, Nil, Cons}
use Rattle.event_meaning.specs.Blocks.{join, underline_rank, start_of, block_of, blocks_of, blocks_from}
use Rattle.event_meaning.specs.Children.{child, children, kids_in, inside_of, text_of, text_in}
use Rattle.event_meaning.specs.GfmTable.{cell_of, row_of, endings_before_row, rows_of, table_of}
use Rattle.laws_safe_page.proofs.BlockAdds.{is_rank, CellsEndLines, RowsEndLines, IsReadableLeaf, AreReadable}
use Rattle.laws_safe_page.proofs.InlineAdds.{AllEndLines}
use Rattle.laws_safe_page.proofs.PageReads.{in_cell_ends}
use Rattle.compile_safe_page.proofs.Facts.{RankFact, IsSound, AreSound}
use Rattle.compile_safe_page.proofs.TextReads.{parts_end, text_ends}

in_range : (rank : ℕ) → (leb 1 rank && leb rank 6) ≡ true → is_rank rank ≡ true
in_range rank h = grind (arith, nat_tests)

setext_rank : (names : Names) (bytes line : List ℕ) → is_rank (underline_rank names bytes line) ≡ true
setext_rank names bytes line = cond_both (eqb (slice_index line 0) hyphen) 2 1 (λ rank. is_rank rank ≡ true) (λ _. refl) (λ _. refl)

joined : (bs others : page.Blocks) → AreReadable bs → AreReadable others → AreReadable (join bs others)
joined page.Nil others p q = q
joined (page.Cons b bs) others p q = (p.0, joined bs others p.1 q)

module _ (names : Names) (bytes : List ℕ) where
  abbrev Sound : Node → Type 0
  Sound node = IsSound bytes node

  -- children by their name
  child_sound : (name : Name) (ns : Nodes) → AreSound bytes ns → AreSound bytes (kids_in name ns)
  child_sound name Nil p = tt
  child_sound name (Cons (Around enter kids exit) ns) p =
      cond_both (same_name enter.name name) (Some (Around enter kids exit)) (child name ns) (λ found. AreSound bytes (inside_of found)) (λ _. p.0.2)
      (λ _. child_sound name ns p.1)

  children_sound : (name : Name) (ns : Nodes) → AreSound bytes ns → Each Sound (children name ns)
  children_sound name Nil p = tt
  children_sound name (Cons node ns) p =
      cond_both (same_name (node_name node) name) (node ∷ children name ns) (children name ns) (Each Sound) (λ _. (p.0, children_sound name ns p.1))
      (λ _. children_sound name ns p.1)

  -- ---- tables

  cell_ends : (cell : Node) → IsSound bytes cell → AllEndLines (cell_of names bytes cell)
  cell_ends (Around enter kids exit) h = in_cell_ends _ (text_ends names bytes false kids h.2)

  cells_end : (cells : List Node) → Each Sound cells → CellsEndLines (map (cell_of names bytes) cells)
  cells_end [] p = tt
  cells_end (c ∷ cs) p = (cell_ends c p.0, cells_end cs p.1)

  row_ends : (kids : Nodes) → AreSound bytes kids → CellsEndLines (map (cell_of names bytes) (children n.GfmTableCell kids))
  row_ends kids p = cells_end (children n.GfmTableCell kids) (children_sound n.GfmTableCell kids p)

  rows_end : (ns : Nodes) → AreSound bytes ns → RowsEndLines (rows_of names bytes ns)
  rows_end Nil p = tt
  rows_end (Cons (Around enter kids exit) ns) p =
      cond_both (same_name enter.name n.GfmTableRow) (row_of names bytes kids (endings_before_row names bytes ns) ∷ rows_of names bytes ns)
      (rows_of names bytes ns) RowsEndLines (λ _. (row_ends kids p.0.2, rows_end ns p.1)) (λ _. rows_end ns p.1)

  table_ends : (kids : Nodes) → AreSound bytes kids → IsReadableLeaf (page.Table (table_of names bytes kids))
  table_ends kids p =
      let head = kids_in n.GfmTableHead kids in
      let q = child_sound n.GfmTableHead kids p in
      (row_ends (kids_in n.GfmTableRow head) (child_sound n.GfmTableRow head q), rows_end (kids_in n.GfmTableBody kids) (child_sound n.GfmTableBody kids p))

  -- ---- blocks

  block_readable : (top : Bool) (name : Name) (text : List ℕ) (kids : Nodes) (inner : page.Blocks) → RankFact bytes name kids → AreSound bytes kids
      → AreReadable inner → AreReadable (block_of names bytes top name text kids inner)
  block_readable top n.LineEnding text kids inner h k p = (tt, tt)
  block_readable top n.BlankLineEnding text kids inner h k p = (tt, tt)
  block_readable top n.Paragraph text kids inner h k p = (parts_end names bytes false kids k, tt)
  block_readable top n.HeadingAtx text kids inner h k p =
      ((in_range (length (text_in bytes n.HeadingAtxSequence kids)) h, text_ends names bytes false kids k), tt)
  block_readable top n.HeadingSetext text kids inner h k p =
      let line = text_in bytes n.HeadingSetextUnderlineSequence (kids_in n.HeadingSetextUnderline kids) in
      ((setext_rank names bytes line, text_ends names bytes false kids k), tt)
  block_readable top n.ThematicBreak text kids inner h k p = (tt, tt)
  block_readable top n.CodeIndented text kids inner h k p = (tt, tt)
  block_readable top n.CodeFenced text kids inner h k p = (tt, tt)
  block_readable top n.MathFlow text kids inner h k p = (tt, tt)
  block_readable top n.HtmlFlow text kids inner h k p = (tt, tt)
  block_readable top n.GfmTable text kids inner h k p = (table_ends kids k, tt)
  block_readable top n.Definition text kids inner h k p = (tt, tt)
  block_readable top n.Frontmatter text kids inner h k p = (tt, tt)
  block_readable top n.BlockQuote text kids inner h k p = (p, tt)
  block_readable top n.ListItem text kids inner h k p = (p, tt)
  block_readable top n.GfmFootnoteDefinition text kids inner h k p = (p, tt)
  block_readable top n.ListUnordered text kids inner h k p = (p, tt)
  block_readable top n.ListOrdered text kids inner h k p = (p, tt)
  block_readable top name text kids inner h k p = tt

  mutual
    pub blocks_readable : (top : Bool) (ns : Nodes) → AreSound bytes ns → AreReadable (blocks_of names bytes top ns)
    blocks_readable top Nil p = tt
    blocks_readable top (Cons (Around enter kids exit) ns) p =
        let inner = blocks_from names bytes (start_of enter.name) kids in
        joined (block_of names bytes top enter.name (text_of bytes (Around enter kids exit)) kids inner) (blocks_of names bytes top ns)
        (block_readable top enter.name (text_of bytes (Around enter kids exit)) kids inner p.0.1 p.0.2 (inner_readable (start_of enter.name) kids p.0.2))
        (blocks_readable top ns p.1)

    inner_readable : (start : Name) (ns : Nodes) → AreSound bytes ns → AreReadable (blocks_from names bytes start ns)
    inner_readable start Nil p = tt
    inner_readable start (Cons (Around enter kids exit) ns) p =
        let inner = blocks_from names bytes (start_of enter.name) kids in
        cond_both (same_name enter.name start) _ _ AreReadable
        (λ _. joined (block_of names bytes false enter.name (text_of bytes (Around enter kids exit)) kids inner) (blocks_of names bytes false ns)
        (block_readable false enter.name (text_of bytes (Around enter kids exit)) kids inner p.0.1 p.0.2 (inner_readable (start_of enter.name) kids p.0.2))
        (blocks_readable false ns p.1))
        (λ _. inner_readable start ns p.1)
