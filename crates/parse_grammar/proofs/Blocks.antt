-- What nodes of blocks spell tells which of them are of a construct that is on (CommonMark 4 and 5).
use Rattle.std.proofs.Common.{◌≡◌, ℕ, Bool, true, false, List, [], ◌∷◌, refl, sym, ap, ◌∙◌}
use Rattle.std.proofs.lemmas.Bool.{true≢false}
use Rattle.markdown_options.specs.declared.configuration.Constructs.{Constructs}
use Rattle.engine_events.specs.declared.event.Name.{Name}
use Rattle.engine_events.specs.declared.event.Name.TheVariants as n
use Rattle.engine_events.specs.Names.{is_listed, same_name}
use Rattle.definition_inline.specs.CharacterReference.{Names}
use Rattle.definition_page.specs.Page as page
use Rattle.event_grammar.specs.declared.slot.Between.{Between}
use Rattle.event_grammar.specs.declared.slot.Between.TheVariants.{Lines}
use Rattle.event_grammar.specs.declared.slot.Form.{Form}
use Rattle.event_grammar.specs.declared.slot.Form.TheVariants.{Ordered}
use Rattle.event_grammar.specs.Slots.{between_of}
use Rattle.event_grammar.specs.Grammar.{document_row, row}
use Rattle.event_grammar.specs.InGrammar.{kids_of, node_name}
use Rattle.event_grammar.specs.Trees.{Node, Nodes, Around, Nil, Cons}
use Rattle.event_meaning.specs.Blocks.{block_of, blocks_of}
use Rattle.event_meaning.specs.Children.{text_of}
use Rattle.parse_slots.specs.Left.{ends, left_by}
use Rattle.parse_grammar.proofs.Defined.{inside_filled}
use Rattle.parse_grammar.proofs.Leaves.{AllLeaves}
use Rattle.parse_grammar.proofs.Steps.{row_passes}
use Rattle.parse_grammar.proofs.Tables.{CellFacts, table_has, table_names}
use Rattle.parse_grammar.proofs.Walk.{all_have, AllHave, Facts, holder_names, is_part}
use Rattle.parse_grammar.specs.Constructs.{is_on}
use Rattle.parse_grammar.proofs.Owners.{AreToldOn, IsToldOn, told_names}
use Rattle.parse_grammar.proofs.Parts.{text_of_cell, TextIsOn}
use Rattle.parse_grammar.proofs.Read.{IsContainerOn, IsLeafOn}
use Rattle.parse_grammar.proofs.Texts.{AreKnown, in_text, is_quiet, IsKnown, quiet_kids_on, quiet_node_on, texts_on, untold}

-- the blocks that hold no others, but for fenced code and math, which are quiet
abbrev leaf_names : List Name
leaf_names = n.Paragraph ∷ n.HeadingAtx ∷ n.HeadingSetext ∷ n.ThematicBreak ∷ n.CodeIndented ∷ n.HtmlFlow ∷ n.GfmTable ∷ n.Definition ∷ []

holder_rows : (name : Name) (form : Form) → is_listed holder_names name ≡ true → row_passes (is_part is_quiet leaf_names) (row name form) ≡ true
holder_rows n.BlockQuote form listed = refl
holder_rows n.ListItem Ordered listed = refl
holder_rows n.ListItem form listed = refl
holder_rows n.GfmFootnoteDefinition form listed = refl
holder_rows n.ListUnordered form listed = refl
holder_rows n.ListOrdered form listed = refl
holder_rows name form listed = absurd (true≢false (sym listed))

module _ (on : Constructs) (names : Names) (bytes : List ℕ) where
  -- what the page tells of a node is on, by what is known beside it
  abbrev Fact : Node → Type 0
  Fact node = IsKnown on node → IsToldOn on node

  all_told : (ns : Nodes) → AllHave Fact ns → AreKnown on ns → AreToldOn on ns
  all_told Nil all known = tt
  all_told (Cons node ns) all known = (all.0 known.0, all_told ns all.1 known.1)

  -- ---- tables

  around_named : (name : Name) (node : Node) → node_name node ≡ name → is_listed told_names name ≡ false
      → (AreKnown on (kids_of node) → AreToldOn on (kids_of node)) → Fact node
  around_named name (Around enter kids exit) is other h known =
      untold on (Around enter kids exit) (ap (is_listed told_names) is ∙ other) (h known.2)

  table_untold : (name : Name) → is_listed table_names name ≡ true → is_listed told_names name ≡ false
  table_untold n.GfmTableHead listed = refl
  table_untold n.GfmTableBody listed = refl
  table_untold n.GfmTableRow listed = refl
  table_untold name listed = absurd (true≢false (sym listed))

  cell_facts : CellFacts Fact names bytes (TextIsOn on) is_quiet
  cell_facts = record {
    spaces = refl;
    lines = refl;
    dividers = λ form. refl;
    delimiters = refl;
    quiet = λ around form node quiet filled known. quiet_node_on on around form node quiet filled;
    cell = λ around form node is filled h.
        around_named n.GfmTableCell node is refl
        (λ known. in_text on names bytes (kids_of node) known (between_of (row n.GfmTableCell form) around n.GfmTableCell) false (row n.GfmTableCell form) refl
        (inside_filled around form node n.GfmTableCell is filled) (text_of_cell on _ h));
    holder = λ name node listed is all. around_named name node is (table_untold name listed) (all_told (kids_of node) all);
  }

  -- ---- leaves

  abbrev AreSpelled : page.Blocks → Type 0
  AreSpelled bs = AllLeaves (IsLeafOn on) (IsContainerOn on) bs

  -- a leaf of this name is on, if that is told, and so is what is in it
  abbrev LeafClaim : Between → Form → Nodes → Name → Type 0
  LeafClaim around form kids name =
      ends (left_by (between_of (row name form) around name) (row name form) kids) ≡ true → AreKnown on kids
      → (same_name name n.Definition ≡ true → on.definition ≡ true) → (is_listed told_names name ≡ true → is_on on name ≡ true) × AreToldOn on kids

  leaf_is_on : (around : Between) (form : Form) (top : Bool) (text : List ℕ) (kids : Nodes) (inner : page.Blocks) (name : Name)
      → is_listed leaf_names name ≡ true → AreSpelled (block_of names bytes top name text kids inner) → LeafClaim around form kids name
  leaf_is_on around form top text kids inner n.Paragraph listed all e known defined =
      (λ told. refl, texts_on on names bytes kids (between_of (row n.Paragraph form) around n.Paragraph) false e known all.0)
  leaf_is_on around form top text kids inner n.HeadingAtx listed all e known defined = (
    λ told. absurd (true≢false (sym told)),
    in_text on names bytes kids known (between_of (row n.HeadingAtx form) around n.HeadingAtx) false (row n.HeadingAtx form) refl e all.0,
  )
  leaf_is_on around form top text kids inner n.HeadingSetext listed all e known defined = (
    λ told. absurd (true≢false (sym told)),
    in_text on names bytes kids known (between_of (row n.HeadingSetext form) around n.HeadingSetext) false (row n.HeadingSetext form) refl e all.0,
  )
  leaf_is_on around form top text kids inner n.ThematicBreak listed all e known defined =
      (λ told. all.0, quiet_kids_on on (between_of (row n.ThematicBreak form) around n.ThematicBreak) (row n.ThematicBreak form) kids refl e)
  leaf_is_on around form top text kids inner n.CodeIndented listed all e known defined =
      (λ told. all.0, quiet_kids_on on (between_of (row n.CodeIndented form) around n.CodeIndented) (row n.CodeIndented form) kids refl e)
  leaf_is_on around form top text kids inner n.HtmlFlow listed all e known defined =
      (λ told. all.0, quiet_kids_on on (between_of (row n.HtmlFlow form) around n.HtmlFlow) (row n.HtmlFlow form) kids refl e)
  leaf_is_on around form top text kids inner n.GfmTable listed all e known defined =
      let has =
      table_has Fact names bytes (TextIsOn on) is_quiet cell_facts (between_of (row n.GfmTable form) around n.GfmTable) kids e all.0.1 all.0.2 in
      (λ told. all.0.0, all_told kids has known)
  leaf_is_on around form top text kids inner n.Definition listed all e known defined =
      (λ told. defined refl, quiet_kids_on on (between_of (row n.Definition form) around n.Definition) (row n.Definition form) kids refl e)
  leaf_is_on around form top text kids inner name listed all e known defined = absurd (true≢false (sym listed))

  -- ---- what holds blocks

  holder_is_on : (top : Bool) (text : List ℕ) (kids : Nodes) (inner : page.Blocks) (name : Name) → is_listed holder_names name ≡ true
      → AreSpelled (block_of names bytes top name text kids inner) → is_on on name ≡ true
  holder_is_on top text kids inner n.BlockQuote listed all = all.0.0
  holder_is_on top text kids inner n.ListItem listed all = all.0.0
  holder_is_on top text kids inner n.GfmFootnoteDefinition listed all = all.0.0
  holder_is_on top text kids inner n.ListUnordered listed all = all.0.0
  holder_is_on top text kids inner n.ListOrdered listed all = all.0.0
  holder_is_on top text kids inner name listed all = absurd (true≢false (sym listed))

  facts : Facts Fact names bytes (IsLeafOn on) (IsContainerOn on) is_quiet leaf_names
  facts = record {
    spaces = refl;
    lines = refl;
    rows = holder_rows;
    quiet = λ around form node quiet filled known. quiet_node_on on around form node quiet filled;
    leaf = λ around form top enter exit kids inner listed filled all known.
        leaf_is_on around form top (text_of bytes (Around enter kids exit)) kids inner enter.name listed all filled known.2 known.1;
    holder = λ top enter exit kids inner listed spelled all known. (
      λ told. holder_is_on top (text_of bytes (Around enter kids exit)) kids inner enter.name listed spelled,
      all_told kids all known.2,
    );
  }

  pub blocks_told : (ns : Nodes) → ends (left_by Lines document_row ns) ≡ true → AreSpelled (blocks_of names bytes true ns) → AreKnown on ns
      → AreToldOn on ns
  blocks_told ns e all known =
      all_told ns (all_have Fact names bytes (IsLeafOn on) (IsContainerOn on) is_quiet leaf_names facts Lines document_row true ns refl e all) known
