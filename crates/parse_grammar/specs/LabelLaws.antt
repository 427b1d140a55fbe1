-- Leaves lead on, and nodes have the labels of the definitions that they spell (CommonMark 4.7 and 6.3).
use Rattle.std.specs.Prelude.{◌≡◌, ℕ, Bool, true, false, List, map}
use Rattle.engine_events.specs.Names.{is_listed, same_name}
use Rattle.engine_events.specs.declared.event.Name.TheVariants as n
use Rattle.definition_text.specs.Columns.{Code}
use Rattle.definition_block.specs.Blocks as tree
use Rattle.definition_inline.specs.CharacterReference.{Names}
use Rattle.definition_inline.specs.Definition.{Definition}
use Rattle.definition_inline.specs.Targets.{is_footnote_of, is_label_of}
use Rattle.definition_page.specs.InlinePieces.{Meaning}
use Rattle.definition_page.specs.Page as page
use Rattle.definition_page.specs.Read.{Reading, Standing, read_leaf}
use Rattle.event_grammar.specs.declared.slot.Between.{Between}
use Rattle.event_grammar.specs.declared.slot.Between.TheVariants.{Lines}
use Rattle.event_grammar.specs.declared.slot.Form.TheVariants.{Plain}
use Rattle.event_grammar.specs.declared.slot.Slot.{Slot}
use Rattle.event_grammar.specs.Grammar.{block_names}
use Rattle.event_grammar.specs.InGrammar.{node_name}
use Rattle.event_grammar.specs.References.{footnote_labels, link_labels, named}
use Rattle.event_grammar.specs.Trees.{Node, Nodes}
use Rattle.event_meaning.specs.Blocks.{blocks_of, one as one_block}
use Rattle.event_meaning.specs.Spelled.{definition_of, footnotes}
use Rattle.parse_output.specs.Forest.{one}
use Rattle.parse_slots.specs.Left.{ends, IsFilled, left_by}
use Rattle.parse_alike.specs.Page.{AreBlocksAlike}
use Rattle.parse_alike.specs.Targets.{AreDefinitionsAlike, AreFootnotesAlike}
use Rattle.parse_references.specs.Leads.{AreKept, AreLabelsOf, HoldBareCalls, is_among, LeadsOn}
use Rattle.parse_grammar.specs.Leaves.{LeafLeads}

-- every leaf that is read leads on
abbrev pub ReadLeavesLead : Type 0
ReadLeavesLead = (r : Reading) (standing : Standing) (leaf : tree.LeafBlock) → LeafLeads r.is_defined r.is_footnote (read_leaf r standing leaf)

-- The node of a leaf leads on if it spells one that is alike to a leaf that does; tables apart.
abbrev pub LeavesLeadOn : Type 0
LeavesLeadOn =
    (names : Names) (bytes : List ℕ) (links footnotes : List (List ℕ)) (is_defined is_footnote : List Code → Bool) (m m' : Meaning) (top : Bool)
    (leaf : page.PageLeaf) (node : Node)
    → AreLabelsOf is_defined is_footnote links footnotes → LeafLeads is_defined is_footnote leaf → is_listed block_names (node_name node) ≡ true
    → same_name (node_name node) n.GfmTable ≡ false → AreBlocksAlike m m' (one_block (page.Leaf leaf)) (blocks_of names bytes top (one node))
    → IsFilled Lines Plain node → HoldBareCalls (one node) → LeadsOn bytes links footnotes false node

-- Labels that are alike, in one order, are the same to a label; those of the definitions and of the footnotes that nodes spell are among those of the nodes.
pub record LabelsAreThere : Type 0 where
  pub same_definitions : (m m' : Meaning) (ds ds' : List Definition) → AreDefinitionsAlike m m' ds ds' → AreKept (is_label_of ds) (is_label_of ds')
  pub same_footnotes : (labels others : List (List Code)) → AreFootnotesAlike labels others → AreKept (is_footnote_of labels) (is_footnote_of others)
  pub defined : (names : Names) (bytes : List ℕ) (around : Between) (slots : List Slot) (ns : Nodes) → ends (left_by around slots ns) ≡ true
      → AreKept (is_label_of (map (definition_of names bytes) (named n.Definition ns))) (is_among (link_labels bytes ns))
  pub called : (names : Names) (bytes : List ℕ) (around : Between) (slots : List Slot) (top : Bool) (ns : Nodes) → ends (left_by around slots ns) ≡ true
      → AreKept (is_footnote_of (footnotes (blocks_of names bytes top ns))) (is_among (footnote_labels bytes ns))
