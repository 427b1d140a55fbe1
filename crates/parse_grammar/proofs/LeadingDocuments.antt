-- The nodes of a document lead on if they spell the page of its text.
use Rattle.std.proofs.Common.{◌≡◌, ◌||◌, ℕ, Bool, true, false, List, [], ◌∷◌, map, refl, sym, ap, subst, ◌∙◌}
use Rattle.std.proofs.lemmas.Bool.{true≢false}
use Rattle.std.specs.List.{AllZip}
use Rattle.markdown_options.specs.declared.configuration.Constructs.{Constructs}
use denote.Enum.Bare.{same_true}
use Rattle.engine_events.specs.contracts.event.Name.{the_type}
use Rattle.engine_events.specs.declared.event.Name.{Name}
use Rattle.engine_events.specs.declared.event.Name.TheVariants as n
use Rattle.engine_events.specs.Names.{is_listed}
use Rattle.markdown_options.specs.declared.configuration.ParseOptions.{ParseOptions}
use Rattle.definition_text.specs.Columns.{Code}
use Rattle.definition_text.specs.Lines.{kind_before_text, without_mark}
use Rattle.definition_block.specs.Definitions.{document_targets}
use Rattle.definition_block.specs.Lists.{group_items}
use Rattle.definition_block.specs.Tree.{blocks}
use Rattle.definition_inline.specs.CharacterReference.{Names}
use Rattle.definition_inline.specs.Inline.{Leaf, Span, Linked, Call, Inline, Inlines, Nil as NoParts, Cons as Part}
use Rattle.definition_inline.specs.LabelMatch.{normal_label}
use Rattle.definition_inline.specs.Targets.{is_footnote_of, is_label_of}
use Rattle.definition_page.specs.GfmTable.{in_cell, part_in_cell, TableRow}
use Rattle.definition_page.specs.InlinePieces.{Meaning}
use Rattle.definition_page.specs.Page as page
use Rattle.definition_page.specs.Read.{on_page, reading}
use Rattle.definition_page.specs.TextTables.{TextTables}
use Rattle.event_grammar.specs.declared.slot.Between.{Between}
use Rattle.event_grammar.specs.declared.slot.Between.TheVariants.{Lines}
use Rattle.event_grammar.specs.declared.slot.Form.{Form}
use Rattle.event_grammar.specs.declared.slot.Form.TheVariants.{Ordered}
use Rattle.event_grammar.specs.Slots.{between_of}
use Rattle.event_grammar.specs.Grammar.{document_row, row}
use Rattle.event_grammar.specs.InGrammar.{kids_of, node_name}
use Rattle.event_grammar.specs.References.{footnote_labels, link_labels, media_names}
use Rattle.event_grammar.specs.Trees.{Node, Nodes, Around, Nil, Cons}
use Rattle.event_meaning.specs.Blocks.{block_of, blocks_of}
use Rattle.event_meaning.specs.Children.{text_of}
use Rattle.event_meaning.specs.Spelled.{page_of}
use Rattle.parse_slots.specs.Left.{ends, is_filled, left_by}
use Rattle.parse_alike.specs.GfmTable.{AreRowsAlike}
use Rattle.parse_alike.specs.Inline.{ArePartsAlike}
use Rattle.parse_alike.specs.Page.{AreLeavesAlike}
use Rattle.parse_alike.specs.Spelled.{IsPageOfText, meaning_read, meaning_spelled, page_read}
use Rattle.parse_alike.proofs.GfmFootnoteDefinition.{footnotes_read, front_footnotes}
use Rattle.parse_references.specs.Leads.{AreKept, HoldBareCalls, HoldsBareCalls, is_among, is_link, LeadOn, LeadsOn, PartLeads, PartsLead}
use Rattle.parse_references.specs.Sound.{AreSound, IsSound, outside_strings}
use Rattle.parse_references.proofs.Bare.{are_without_fewer, bare_leads, bare_node, leads_alone, unlinked}
use Rattle.parse_references.proofs.Parts.{alike_lead}
use Rattle.parse_references.proofs.Rows.{is_bare}
use Rattle.parse_references.proofs.Texts.{in_text, texts_lead}
use Rattle.parse_grammar.specs.Leaves.{CellsLead, LeafLeads, RowsLead, TextLeads}
use Rattle.parse_grammar.proofs.Defined.{inside_filled}
use Rattle.parse_grammar.proofs.LabelLeaves.{read_leaves_lead}
use Rattle.parse_grammar.proofs.There.{labels_are_there}
use Rattle.parse_grammar.specs.LeadingLaws.{DocumentsLeadOn}
use Rattle.parse_grammar.proofs.Leaves.{AllLeaves, Any, each_leaf, leaves_read, leaves_spelled}
use Rattle.parse_grammar.proofs.Steps.{row_passes}
use Rattle.parse_grammar.proofs.Tables.{CellFacts, CellsHave, RowsHave, table_has, table_names}
use Rattle.parse_grammar.proofs.Walk.{all_have, AllHave, Facts, holder_names, is_part}

-- ---- calls are bare in what is sound

module _ (on : Constructs) (names : Names) (text : List ℕ) where
  mutual
    sound_calls_in : (node : Node) → IsSound on names text node → HoldsBareCalls node
    sound_calls_in (Around enter kids exit) sound = (
      λ same. are_without_fewer outside_strings media_names refl kids (sound.0.call (same_true the_type tt enter.name n.GfmFootnoteCall same)),
      sound_calls kids sound.1,
    )

    sound_calls : (ns : Nodes) → AreSound on names text ns → HoldBareCalls ns
    sound_calls Nil sound = tt
    sound_calls (Cons node ns) sound = (sound_calls_in node sound.0, sound_calls ns sound.1)

-- ---- leaves that are alike

module _ (is_defined is_footnote is_known is_called : List Code → Bool) (defined : AreKept is_defined is_known) (called : AreKept is_footnote is_called)
    (m m' : Meaning) where
  text_alike : (is js : Inlines) → LeafLeads is_defined is_footnote (page.Paragraph is) → ArePartsAlike m m' is js
      → LeafLeads is_known is_called (page.Paragraph js)
  text_alike is js h alike = alike_lead is_defined is_footnote is_known is_called defined called m m' false is js h alike

  cells_alike : (cs ds : List Inlines) → CellsLead is_defined is_footnote cs → AllZip (ArePartsAlike m m') cs ds → CellsLead is_known is_called ds
  cells_alike [] [] h alike = tt
  cells_alike [] (d ∷ ds) h alike = absurd alike
  cells_alike (c ∷ cs) [] h alike = absurd alike
  cells_alike (c ∷ cs) (d ∷ ds) h alike = (text_alike c d h.0 alike.0, cells_alike cs ds h.1 alike.1)

  rows_alike : (xs ys : List TableRow) → RowsLead is_defined is_footnote xs → AllZip (AreRowsAlike m m') xs ys → RowsLead is_known is_called ys
  rows_alike [] [] h alike = tt
  rows_alike [] (y ∷ ys) h alike = absurd alike
  rows_alike (x ∷ xs) [] h alike = absurd alike
  rows_alike (x ∷ xs) (y ∷ ys) h alike = (cells_alike x.cells y.cells h.0 alike.0.0, rows_alike xs ys h.1 alike.1)

  leaf_alike : (l l' : page.PageLeaf) → LeafLeads is_defined is_footnote l → AreLeavesAlike m m' l l' → LeafLeads is_known is_called l'
  leaf_alike (page.Paragraph is) (page.Paragraph js) h alike = text_alike is js h alike
  leaf_alike (page.Heading rank is) (page.Heading rank' js) h alike = text_alike is js h alike.1
  leaf_alike page.Break page.Break h alike = tt
  leaf_alike (page.IndentedCode ls) (page.IndentedCode ls') h alike = tt
  leaf_alike (page.FencedCode info is_closed ls) (page.FencedCode info' is_closed' ls') h alike = tt
  leaf_alike (page.Html ls) (page.Html ls') h alike = tt
  leaf_alike (page.Table t) (page.Table t') h alike =
      (cells_alike t.head.cells t'.head.cells h.0 alike.1.0, rows_alike t.rows t'.rows h.1 alike.3)
  leaf_alike page.Definition page.Definition h alike = tt
  leaf_alike l l' h alike = absurd alike

-- ---- cells

module _ (is_defined is_footnote : List Code → Bool) where
  -- what leads on in a cell does so by itself
  mutual
    part_of_cell : (linked : Bool) (i : Inline) → PartLeads is_defined is_footnote linked (part_in_cell i) → PartLeads is_defined is_footnote linked i
    part_of_cell linked (Leaf l) h = tt
    part_of_cell linked (Span kind kids) h = parts_of_cell linked kids h
    part_of_cell linked (Linked kind target kids) h = (h.0, h.1, parts_of_cell (linked || is_link kind) kids h.2)
    part_of_cell linked (Call label) h = h

    parts_of_cell : (linked : Bool) (is : Inlines) → PartsLead is_defined is_footnote linked (in_cell is) → PartsLead is_defined is_footnote linked is
    parts_of_cell linked NoParts h = tt
    parts_of_cell linked (Part i is) h = (part_of_cell linked i h.0, parts_of_cell linked is h.1)

  -- the texts of cells lead on, one by one
  each_cell : (cs : List Inlines) → CellsLead is_defined is_footnote cs → CellsHave (TextLeads is_defined is_footnote) cs
  each_cell [] h = tt
  each_cell (c ∷ cs) h = (h.0, each_cell cs h.1)

  each_row : (rows : List TableRow) → RowsLead is_defined is_footnote rows → RowsHave (TextLeads is_defined is_footnote) rows
  each_row [] h = tt
  each_row (row ∷ rows) h = (each_cell row.cells h.0, each_row rows h.1)

-- ---- the walk

-- the leaves that hold texts
abbrev leaf_names : List Name
leaf_names = n.Paragraph ∷ n.HeadingAtx ∷ n.HeadingSetext ∷ n.GfmTable ∷ []

holder_rows : (name : Name) (form : Form) → is_listed holder_names name ≡ true → row_passes (is_part (is_bare 6) leaf_names) (row name form) ≡ true
holder_rows n.BlockQuote form listed = refl
holder_rows n.ListItem Ordered listed = refl
holder_rows n.ListItem form listed = refl
holder_rows n.GfmFootnoteDefinition form listed = refl
holder_rows n.ListUnordered form listed = refl
holder_rows n.ListOrdered form listed = refl
holder_rows name form listed = absurd (true≢false (sym listed))

module _ (names : Names) (bytes : List ℕ) (links footnotes : List (List ℕ)) where
  abbrev Known : page.PageLeaf → Type 0
  Known = LeafLeads (is_among links) (is_among footnotes)

  -- a node leads on if calls in it are bare
  abbrev Leads : Node → Type 0
  Leads node = HoldsBareCalls node → LeadsOn bytes links footnotes false node

  leads_all : (ns : Nodes) → AllHave Leads ns → HoldBareCalls ns → LeadOn bytes links footnotes false ns
  leads_all Nil all calls = tt
  leads_all (Cons node ns) all calls = (all.0 calls.0, leads_all ns all.1 calls.1)

  -- no link, image or call, around what leads on
  leads_around : (node : Node) → is_listed media_names (node_name node) ≡ false → LeadOn bytes links footnotes false (kids_of node)
      → LeadsOn bytes links footnotes false node
  leads_around (Around enter kids exit) other h = (
    refl,
    leads_alone bytes links footnotes enter.name kids other,
    subst (λ b. LeadOn bytes links footnotes b kids) (sym (unlinked bytes links footnotes enter.name other)) h,
  )

  quiet_leads : (around : Between) (form : Form) (node : Node) → is_bare 6 form (node_name node) ≡ true → is_filled around form node ≡ true → Leads node
  quiet_leads around form node quiet filled calls = bare_leads bytes links footnotes false node (bare_node around node 6 form quiet filled)

  around_named : (name : Name) (node : Node) → node_name node ≡ name → is_listed media_names name ≡ false
      → (HoldBareCalls (kids_of node) → LeadOn bytes links footnotes false (kids_of node)) → Leads node
  around_named name (Around enter kids exit) is other h calls =
      leads_around (Around enter kids exit) (ap (is_listed media_names) is ∙ other) (h calls.1)

  cell_facts : CellFacts Leads names bytes (TextLeads (is_among links) (is_among footnotes)) (is_bare 6)
  cell_facts = record {
    spaces = refl;
    lines = refl;
    dividers = λ form. refl;
    delimiters = refl;
    quiet = quiet_leads;
    cell = λ around form node is filled h.
        around_named n.GfmTableCell node is refl
        (λ calls. in_text names bytes links footnotes (kids_of node) calls (between_of (row n.GfmTableCell form) around n.GfmTableCell) false false
        (row n.GfmTableCell form) refl (inside_filled around form node n.GfmTableCell is filled)
        (parts_of_cell (is_among links) (is_among footnotes) false _ h));
    holder = λ name node listed is all. around_named name node is (holder_other name listed) (leads_all (kids_of node) all);
  }
    where
      holder_other : (name : Name) → is_listed table_names name ≡ true → is_listed media_names name ≡ false
      holder_other n.GfmTableHead listed = refl
      holder_other n.GfmTableBody listed = refl
      holder_other n.GfmTableRow listed = refl
      holder_other name listed = absurd (true≢false (sym listed))

  text_leads : (around : Between) (form : Form) (top : Bool) (text : List ℕ) (kids : Nodes) (inner : page.Blocks) (name : Name)
      → is_listed leaf_names name ≡ true → ends (left_by (between_of (row name form) around name) (row name form) kids) ≡ true
      → AllLeaves Known Any (block_of names bytes top name text kids inner) → HoldBareCalls kids
      → (is_listed media_names name ≡ false) × LeadOn bytes links footnotes false kids
  text_leads around form top text kids inner n.Paragraph listed e all calls =
      (refl, texts_lead names bytes links footnotes kids (between_of (row n.Paragraph form) around n.Paragraph) false false e calls all.0)
  text_leads around form top text kids inner n.HeadingAtx listed e all calls = (
    refl,
    in_text names bytes links footnotes kids calls (between_of (row n.HeadingAtx form) around n.HeadingAtx) false false (row n.HeadingAtx form) refl e all.0,
  )
  text_leads around form top text kids inner n.HeadingSetext listed e all calls = (
    refl,
    in_text names bytes links footnotes kids calls (between_of (row n.HeadingSetext form) around n.HeadingSetext) false false (row n.HeadingSetext form) refl e
        all.0,
  )
  text_leads around form top text kids inner n.GfmTable listed e all calls =
      let has =
      table_has Leads names bytes (TextLeads (is_among links) (is_among footnotes)) (is_bare 6) cell_facts (between_of (row n.GfmTable form) around n.GfmTable)
      kids e (each_cell (is_among links) (is_among footnotes) _ all.0.0) (each_row (is_among links) (is_among footnotes) _ all.0.1) in
      (refl, leads_all kids has calls)
  text_leads around form top text kids inner name listed e all calls = absurd (true≢false (sym listed))

  facts : Facts Leads names bytes Known Any (is_bare 6) leaf_names
  facts = record {
    spaces = refl;
    lines = refl;
    rows = holder_rows;
    quiet = quiet_leads;
    leaf = λ around form top enter exit kids inner listed filled all calls.
        let leads = text_leads around form top (text_of bytes (Around enter kids exit)) kids inner enter.name listed filled all calls.1 in
        leads_around (Around enter kids exit) leads.0 leads.1;
    holder = λ top enter exit kids inner listed spelled all calls.
        leads_around (Around enter kids exit) (holder_other enter.name listed) (leads_all kids all calls.1);
  }
    where
      holder_other : (name : Name) → is_listed holder_names name ≡ true → is_listed media_names name ≡ false
      holder_other n.BlockQuote listed = refl
      holder_other n.ListItem listed = refl
      holder_other n.GfmFootnoteDefinition listed = refl
      holder_other n.ListUnordered listed = refl
      holder_other n.ListOrdered listed = refl
      holder_other name listed = absurd (true≢false (sym listed))

  pub nodes_lead : (ns : Nodes) → ends (left_by Lines document_row ns) ≡ true → AllLeaves Known Any (blocks_of names bytes true ns) → HoldBareCalls ns
      → LeadOn bytes links footnotes false ns
  nodes_lead ns e all calls =
      leads_all ns (all_have Leads names bytes Known Any (is_bare 6) leaf_names facts Lines document_row true ns refl e all) calls

-- ---- the document

kept_both : (first second third : List Code → Bool) → AreKept first second → AreKept second third → AreKept first third
kept_both first second third a b = λ label label' alike h. b label' label' refl (a label label' alike h)

module _ (tables : TextTables) (options : ParseOptions) (text : List ℕ) (ns : Nodes) (of_text : IsPageOfText tables options text (page_of tables.names text ns))
    (e : ends (left_by Lines document_row ns) ≡ true) where
  abbrev m : Meaning
  m = meaning_read tables options text

  abbrev m' : Meaning
  m' = meaning_spelled tables options text (page_of tables.names text ns)

  abbrev p : page.Page
  p = page_read tables options text

  abbrev spelled : page.Page
  spelled = page_of tables.names text ns

  defined : AreKept (is_label_of p.definitions) (is_among (link_labels text ns))
  defined =
      kept_both (is_label_of p.definitions) (is_label_of spelled.definitions) (is_among (link_labels text ns))
      (labels_are_there.same_definitions m m' p.definitions spelled.definitions of_text.definitions)
      (labels_are_there.defined tables.names text Lines document_row ns e)

  called : AreKept (is_footnote_of p.footnotes) (is_among (footnote_labels text ns))
  called =
      kept_both (is_footnote_of p.footnotes) (is_footnote_of spelled.footnotes) (is_among (footnote_labels text ns))
      (labels_are_there.same_footnotes p.footnotes spelled.footnotes
      (ap (map normal_label) (sym (footnotes_read tables options text)) ∙ front_footnotes m m' p.blocks spelled.blocks of_text.blocks))
      (labels_are_there.called tables.names text Lines document_row true ns e)

  read_lead : AllLeaves (LeafLeads (is_label_of p.definitions) (is_footnote_of p.footnotes)) Any p.blocks
  read_lead =
      let bs = blocks options.constructs (kind_before_text text) (without_mark text) in
      let r = reading tables options (document_targets bs) in
      leaves_read (λ l. Unit {0}) (LeafLeads r.is_defined r.is_footnote) r (λ standing l own. read_leaves_lead r standing l) on_page (group_items bs)
      (each_leaf (λ l. Unit {0}) (λ l. tt) (group_items bs))

  document_leads : AreSound options.constructs tables.names text ns → LeadOn text (link_labels text ns) (footnote_labels text ns) false ns
  document_leads sound =
      nodes_lead tables.names text (link_labels text ns) (footnote_labels text ns) ns e
      (leaves_spelled (LeafLeads (is_label_of p.definitions) (is_footnote_of p.footnotes))
      (LeafLeads (is_among (link_labels text ns)) (is_among (footnote_labels text ns))) Any Any m m'
      (leaf_alike (is_label_of p.definitions) (is_footnote_of p.footnotes) (is_among (link_labels text ns)) (is_among (footnote_labels text ns))
      defined called m m')
      (λ c d own alike. tt) p.blocks spelled.blocks tt read_lead of_text.blocks)
      (sound_calls options.constructs tables.names text ns sound)

pub documents_lead_on : DocumentsLeadOn
documents_lead_on tables options text ns of_text e sound = document_leads tables options text ns of_text e sound
