-- No event of a document is of a construct that is off.
use Rattle.std.proofs.Common.{inl, inr, ◌≡◌, ℕ, Bool, true, false, if◌then◌else◌, List, [], ◌∷◌, ◌++◌, map, refl, sym, ap, ◌∙◌}
use Rattle.std.proofs.lemmas.Bool.{and_from, and_parts, cases_Bool, cond-true}
use Rattle.std.specs.List.{AllZip, list_all}
use denote.Enum.Bare.{same_true}
use Rattle.markdown_options.specs.declared.configuration.Constructs.{Constructs}
use Rattle.engine_events.specs.contracts.event.Name.{the_type}
use Rattle.engine_events.specs.declared.event.Event.{Event}
use Rattle.engine_events.specs.declared.event.Name.TheVariants as n
use Rattle.engine_events.specs.Names.{same_name}
use Rattle.definition_text.specs.Lines.{kind_before_text, without_mark}
use Rattle.definition_block.specs.Definitions.{document_targets, with_spaces}
use Rattle.definition_block.specs.Lists.{group_items}
use Rattle.definition_block.specs.Tree.{blocks}
use Rattle.definition_inline.specs.CharacterReference.{Names}
use Rattle.definition_inline.specs.Definition.{Definition}
use Rattle.definition_inline.specs.Inline.{Inlines}
use Rattle.definition_page.specs.GfmTable.{TableRow}
use Rattle.definition_page.specs.InlinePieces.{Meaning}
use Rattle.definition_page.specs.Page as page
use Rattle.definition_page.specs.Read.{on_page, reading}
use Rattle.event_grammar.specs.References.{named, named_in}
use Rattle.event_grammar.specs.Trees.{AreNodes, events_of, IsNode, Node, node_events, Nodes, Around, Nil, Cons}
use Rattle.event_meaning.specs.Spelled.{definition_of, page_of}
use Rattle.laws_block.proofs.Occurs.{may_stand}
use Rattle.parse_alike.specs.GfmTable.{AreRowsAlike}
use Rattle.parse_alike.specs.Inline.{ArePartsAlike}
use Rattle.parse_alike.specs.Page.{AreContainersAlike, AreLeavesAlike}
use Rattle.parse_alike.specs.Spelled.{meaning_read, meaning_spelled, page_read}
use Rattle.parse_alike.specs.Targets.{IsDefinitionAlike}
use Rattle.parse_references.specs.Sound.{AreSound, IsSound}
use Rattle.parse_grammar.proofs.Leaves.{AllLeaves, leaves_spelled}
use Rattle.parse_grammar.proofs.Tables.{CellsHave, RowsHave}
use Rattle.parse_grammar.specs.Constructs.{is_on, NothingIsOff}
use Rattle.parse_grammar.specs.ConstructLaws.{DocumentsHaveNothingOff}
use Rattle.parse_grammar.specs.Nodes.{AreOn, IsOn}
use Rattle.parse_grammar.proofs.Blocks.{blocks_told}
use Rattle.parse_grammar.proofs.Owners.{document_on}
use Rattle.parse_grammar.proofs.Parts.{text_alike, TextIsOn}
use Rattle.parse_grammar.proofs.Read.{defines_none, group_on, IsContainerOn, IsLeafOn, reads_on}
use Rattle.parse_grammar.proofs.Texts.{AreKnown, IsKnown}

-- ---- leaves that are alike

module _ (on : Constructs) (m m' : Meaning) where
  cells_alike : (cs ds : List Inlines) → CellsHave (TextIsOn on) cs → AllZip (ArePartsAlike m m') cs ds → CellsHave (TextIsOn on) ds
  cells_alike [] [] h alike = tt
  cells_alike [] (d ∷ ds) h alike = absurd alike
  cells_alike (c ∷ cs) [] h alike = absurd alike
  cells_alike (c ∷ cs) (d ∷ ds) h alike = (text_alike on m m' c d h.0 alike.0, cells_alike cs ds h.1 alike.1)

  rows_alike : (xs ys : List TableRow) → RowsHave (TextIsOn on) xs → AllZip (AreRowsAlike m m') xs ys → RowsHave (TextIsOn on) ys
  rows_alike [] [] h alike = tt
  rows_alike [] (y ∷ ys) h alike = absurd alike
  rows_alike (x ∷ xs) [] h alike = absurd alike
  rows_alike (x ∷ xs) (y ∷ ys) h alike = (cells_alike x.cells y.cells h.0 alike.0.0, rows_alike xs ys h.1 alike.1)

  leaf_alike : (l l' : page.PageLeaf) → IsLeafOn on l → AreLeavesAlike m m' l l' → IsLeafOn on l'
  leaf_alike (page.Paragraph is) (page.Paragraph js) h alike = text_alike on m m' is js h alike
  leaf_alike (page.Heading rank is) (page.Heading rank' js) h alike = text_alike on m m' is js h alike.1
  leaf_alike page.Break page.Break h alike = h
  leaf_alike (page.IndentedCode ls) (page.IndentedCode ls') h alike = h
  leaf_alike (page.FencedCode info is_closed ls) (page.FencedCode info' is_closed' ls') h alike = tt
  leaf_alike (page.Html ls) (page.Html ls') h alike = h
  leaf_alike (page.Table t) (page.Table t') h alike =
      (h.0, cells_alike t.head.cells t'.head.cells h.1 alike.1.0, rows_alike t.rows t'.rows h.2 alike.3)
  leaf_alike page.Definition page.Definition h alike = tt
  leaf_alike l l' h alike = absurd alike

  container_alike : (c d : page.PageContainer) → IsContainerOn on c → AreContainersAlike c d → IsContainerOn on d
  container_alike page.Quote page.Quote h alike = h
  container_alike page.Item page.Item h alike = h
  container_alike (page.Footnote label) (page.Footnote label') h alike = h
  container_alike c d h alike = absurd alike

-- ---- definitions

no_front : (xs ys : List Node) → xs ++ ys ≡ [] → xs ≡ []
no_front [] ys none = refl
no_front (x ∷ xs) ys none = absurd (let k : x ∷ (xs ++ ys) ≡ [] = none in cc)

no_rest : (xs ys : List Node) → xs ++ ys ≡ [] → ys ≡ []
no_rest [] ys none = none
no_rest (x ∷ xs) ys none = absurd (let k : x ∷ (xs ++ ys) ≡ [] = none in cc)

-- definitions that are alike to none
none_alike : (m m' : Meaning) (names : Names) (bytes : List ℕ) (ds : List Definition) (ns : List Node) → ds ≡ []
    → AllZip (IsDefinitionAlike m m') ds (map (definition_of names bytes) ns) → ns ≡ []
none_alike m m' names bytes [] [] none alike = refl
none_alike m m' names bytes [] (x ∷ ns) none alike = absurd alike
none_alike m m' names bytes (d ∷ ds) ns none alike = absurd (let k : d ∷ ds ≡ [] = none in cc)

-- ---- what is known beside the page

module _ (on : Constructs) (names : Names) (text : List ℕ) where
  -- where definitions are off there is none
  abbrev DefinesNone : List Node → Type 0
  DefinesNone ns = on.definition ≡ false → ns ≡ []

  defined_here : (node : Node) (others : List Node) (b : Bool) → b ≡ true → DefinesNone (if b then node ∷ others else others) → on.definition ≡ true
  defined_here node others b is none = elim (cases_Bool on.definition) [
    | inl here ↦ here
    | inr off ↦
        let k : node ∷ others ≡ [] = sym (cond-true b (node ∷ others) others is) ∙ none off in absurd (let h : node ∷ others ≡ [] = k in cc)
  ]

  defined_inside : (node : Node) (others : List Node) (b : Bool) → (if b then node ∷ others else others) ≡ [] → others ≡ []
  defined_inside node others true none = absurd (let k : node ∷ others ≡ [] = none in cc)
  defined_inside node others false none = none

  mutual
    node_known : (node : Node) → IsSound on names text node → DefinesNone (named_in n.Definition node) → IsKnown on node
    node_known (Around enter kids exit) sound none = (
      λ same. sound.0.call (same_true the_type tt enter.name n.GfmFootnoteCall same),
      λ same. defined_here (Around enter kids exit) (named n.Definition kids) (same_name enter.name n.Definition) same none,
      nodes_known kids sound.1
          (λ off. defined_inside (Around enter kids exit) (named n.Definition kids) (same_name enter.name n.Definition) (none off)),
    )

    nodes_known : (ns : Nodes) → AreSound on names text ns → DefinesNone (named n.Definition ns) → AreKnown on ns
    nodes_known Nil sound none = tt
    nodes_known (Cons node ns) sound none = (
      node_known node sound.0 (λ off. no_front (named_in n.Definition node) (named n.Definition ns) (none off)),
      nodes_known ns sound.1 (λ off. no_rest (named_in n.Definition node) (named n.Definition ns) (none off)),
    )

-- ---- events

module _ (on : Constructs) where
  abbrev IsEventOn : Event → Bool
  IsEventOn e = is_on on e.name

  all_of_both : (xs ys : List Event) → list_all IsEventOn xs ≡ true → list_all IsEventOn ys ≡ true → list_all IsEventOn (xs ++ ys) ≡ true
  all_of_both [] ys first second = second
  all_of_both (x ∷ xs) ys first second =
      let parts = and_parts (is_on on x.name) (list_all IsEventOn xs) first in
      and_from (is_on on x.name) (list_all IsEventOn (xs ++ ys)) parts.0 (all_of_both xs ys parts.1 second)

  mutual
    node_events_on : (node : Node) → IsOn on node → IsNode node → list_all IsEventOn (node_events node) ≡ true
    node_events_on (Around enter kids exit) h named =
        and_from (is_on on enter.name) (list_all IsEventOn (events_of kids ++ exit ∷ [])) h.0
        (all_of_both (events_of kids) (exit ∷ []) (events_on kids h.1 named.3)
        (and_from (is_on on exit.name) true (ap (is_on on) named.2 ∙ h.0) refl))

    pub events_on : (ns : Nodes) → AreOn on ns → AreNodes ns → NothingIsOff on (events_of ns)
    events_on Nil h named = refl
    events_on (Cons node ns) h named = all_of_both (node_events node) (events_of ns) (node_events_on node h.0 named.0) (events_on ns h.1 named.1)

-- ---- the document

pub documents_have_nothing_off : DocumentsHaveNothingOff
documents_have_nothing_off tables options text ns of_text e sound named_so =
    let on = options.constructs in
    let bs = blocks on (kind_before_text text) (without_mark text) in
    let stands = may_stand on (kind_before_text text) (without_mark text) in
    let spelled = page_of tables.names text ns in
    let m = meaning_read tables options text in
    let m' = meaning_spelled tables options text spelled in
    let read : AllLeaves (IsLeafOn on) (IsContainerOn on) (page_read tables options text).blocks =
    reads_on (reading tables options (document_targets bs)) on_page (group_items bs) (group_on on bs stands) in
    let all : AllLeaves (IsLeafOn on) (IsContainerOn on) spelled.blocks =
    leaves_spelled (IsLeafOn on) (IsLeafOn on) (IsContainerOn on) (IsContainerOn on) m m' (leaf_alike on m m') (container_alike on m m')
    (page_read tables options text).blocks spelled.blocks tt read of_text.blocks in
    let known : AreKnown on ns =
    nodes_known on tables.names text ns sound
    (λ off. none_alike m m' tables.names text (page_read tables options text).definitions (named n.Definition ns)
    (ap (map with_spaces) (defines_none on off bs stands)) of_text.definitions) in
    events_on on ns (document_on on tables.names text ns e (blocks_told on tables.names text ns e all known) sound) named_so
