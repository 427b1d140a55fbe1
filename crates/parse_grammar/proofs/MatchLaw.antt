-- All that the grammar asks of nodes beside their rows.
use Rattle.std.proofs.Common.{◌≡◌, ℕ, Bool, true, false, not, ◌||◌, List, Option, None, Some, refl, ap, subst}
use Rattle.std.proofs.lemmas.Bool.{not-true}
use Rattle.std.specs.Prelude.{if◌then◌else◌}
use Rattle.markdown_options.specs.declared.configuration.Constructs.{Constructs}
use Rattle.engine_events.specs.Names.{is_listed, same_name}
use Rattle.engine_events.specs.declared.event.Event.{Event}
use Rattle.engine_events.specs.declared.event.Name.TheVariants as n
use Rattle.definition_inline.specs.CharacterReference.{Names}
use Rattle.event_grammar.specs.declared.slot.Between.{Between}
use Rattle.event_grammar.specs.declared.slot.Between.TheVariants.{Lines}
use Rattle.event_grammar.specs.declared.slot.Form.{Form}
use Rattle.event_grammar.specs.declared.slot.Form.TheVariants.{Plain}
use Rattle.event_grammar.specs.declared.slot.Slot.{Slot}
use Rattle.event_grammar.specs.Grammar.{document_row, link_names, mdx_names, row}
use Rattle.event_grammar.specs.InGrammar.{Within, within, inside, Before, before, after, node_name, cells_of, kids_of, CellsAgree}
use Rattle.event_grammar.specs.References.{footnote_labels, link_labels}
use Rattle.event_grammar.specs.Slots.{Taken, stands_between}
use Rattle.event_grammar.specs.Trees.{AreNodes, IsNode, Node, Nodes, Around, Nil, Cons}
use Rattle.event_tokens.specs.Bytes.{are_fit}
use Rattle.parse_slots.specs.Left.{ends, is_filled, left_by}
use Rattle.parse_slots.specs.Laws.{ChildHolds, KidsHold, NodeHolds}
use Rattle.parse_slots.proofs.Law.{filled_lists_match}
use Rattle.parse_references.specs.Cells.{AgreeInCells, AgreesInside, cells_after}
use Rattle.parse_references.specs.Leads.{LeadOn, LeadsOn}
use Rattle.parse_references.specs.Sound.{AreSound, IsSound}
use Rattle.parse_references.proofs.Nodes.{nodes_lead_on}
use Rattle.parse_references.proofs.Rows.{between_passes}
use Rattle.parse_grammar.specs.MatchLaws.{MetGrammarMatches}
use Rattle.parse_grammar.proofs.Facts.{Answers, HaveAnswers, child_holds, has_fact, kids_answer, plain_row}
use Rattle.parse_grammar.proofs.Passing.{is_known, row_passes, rows_known, taken_passes}
use Rattle.parse_grammar.proofs.Places.{places_fit}
use Rattle.parse_grammar.proofs.Voids.{AreFit, IsFit, nodes_fit, suits}

module _ (on : Constructs) (names : Names) (text : List ℕ) (links footnotes : List (List ℕ)) where
  -- what is known of nodes, where they are in a link or a call, or not, and after a row of so many cells
  record IsMet (linked : Bool) (node : Node) : Type 0 where
    paired : IsNode node
    fit : IsFit text node
    sound : IsSound on names text node
    leads : LeadsOn text links footnotes linked node
    cells : AgreesInside node

  record AreMet (linked : Bool) (above : ℕ) (ns : Nodes) : Type 0 where
    paired : AreNodes ns
    fit : AreFit text ns
    sound : AreSound on names text ns
    leads : LeadOn text links footnotes linked ns
    cells : AgreeInCells above ns

  kids_met : (linked : Bool) (enter exit : Event) (kids : Nodes) → IsMet linked (Around enter kids exit)
      → AreMet (linked || is_listed link_names enter.name) 0 kids
  kids_met linked enter exit kids h = record {
    paired = h.paired.3;
    fit = h.fit.1;
    sound = h.sound.1;
    leads = h.leads.2;
    cells = h.cells;
  }

  first_met : (linked : Bool) (cells : ℕ) (node : Node) (ns : Nodes) → AreMet linked cells (Cons node ns) → IsMet linked node
  first_met linked cells node ns h = record {
    paired = h.paired.0;
    fit = h.fit.0;
    sound = h.sound.0;
    leads = h.leads.0;
    cells = h.cells.1;
  }

  others_met : (linked : Bool) (cells : ℕ) (node : Node) (ns : Nodes) → AreMet linked cells (Cons node ns) → AreMet linked (cells_after cells node) ns
  others_met linked cells node ns h = record {
    paired = h.paired.1;
    fit = h.fit.1;
    sound = h.sound.1;
    leads = h.leads.1;
    cells = h.cells.2;
  }

  -- what stands between is no row of a table
  same_cells : (around : Between) (cells : ℕ) (node : Node) → stands_between around (node_name node) ≡ true → cells_after cells node ≡ cells
  same_cells around cells node stands =
      let other = not-true (same_name (node_name node) n.GfmTableRow)
      (between_passes (λ name. not (same_name name n.GfmTableRow)) refl refl around (node_name node) stands) in
      ap (λ (b : Bool). if b then cells_of (kids_of node) else cells) other

  mutual
    node_holds : (x : Within) (form : Form) (b : Before) (node : Node) → is_filled x.around form node ≡ true → is_known form (node_name node) ≡ true
        → Answers names text form b.sibling node → CellsAgree b (node_name node) (kids_of node) → IsMet x.linked node → NodeHolds names text x form b node
    node_holds x form b (Around enter kids exit) filled known answers cells met = (
      met.paired.0,
      met.paired.1,
      met.paired.2,
      not-true (is_listed mdx_names enter.name) known,
      met.leads.0,
      cells,
      has_fact names text form b.sibling (Around enter kids exit) (suits text x.around form enter exit kids filled met.fit) answers,
      kids_hold (inside x enter.name form) (before None 0) (row enter.name form) kids (rows_known enter.name form) filled
          (kids_answer names text on x.around enter.name form kids met.sound.0 filled) (kids_met x.linked enter exit kids met),
    )

    kids_hold : (x : Within) (b : Before) (slots : List Slot) (ns : Nodes) → row_passes is_known slots ≡ true → ends (left_by x.around slots ns) ≡ true
        → HaveAnswers names text b.sibling slots ns → AreMet x.linked b.cells ns → KidsHold names text x b slots ns
    kids_hold x b slots Nil known e answers met = tt
    kids_hold x b slots (Cons node ns) known e answers met =
        let own = λ (o : Option Taken).
        ChildHolds o slots (λ form. Answers names text form b.sibling node) (λ rest. HaveAnswers names text (Some (node_name node)) rest ns)
        (HaveAnswers names text b.sibling slots ns) in
        child_holds x.around slots node ns (λ form. NodeHolds names text x form b node) (λ rest. KidsHold names text x (after b node) rest ns)
        (KidsHold names text x b slots ns)
        (λ t is filled left.
        let passed = taken_passes is_known (node_name node) slots known t is in
        let answer = subst own is answers in (
          node_holds x t.form b node filled passed.0 answer.0 met.cells.0 (first_met x.linked b.cells node ns met),
          kids_hold x (after b node) t.rest ns passed.1 left answer.1 (others_met x.linked b.cells node ns met),
        ))
        (λ is stands filled left.
        let answer = subst own is answers in (
          node_holds x Plain b node filled (between_passes (is_known Plain) refl refl x.around (node_name node) stands) answer.0 met.cells.0
              (first_met x.linked b.cells node ns met),
          kids_hold x b slots ns known left answer.1
              (subst (λ k. AreMet x.linked k ns) (same_cells x.around b.cells node stands) (others_met x.linked b.cells node ns met)),
        )) e

-- so the list of all matches
pub met_grammar_matches : MetGrammarMatches
met_grammar_matches names text events met =
    let ns = met.nodes in
    let are : AreMet met.on names text (link_labels text ns) (footnote_labels text ns) false 0 ns = record {
      paired = met.paired;
      fit = nodes_fit text ns met.paired (subst (λ es. are_fit text es ≡ true) met.nested met.tokens);
      sound = met.sound;
      leads = met.leads;
      cells = met.cells;
    } in
    filled_lists_match names text events ns met.nested met.filled
    (kids_hold met.on names text (link_labels text ns) (footnote_labels text ns) (within Lines false) (before None 0) document_row ns refl met.filled
    (plain_row names text Lines None document_row ns refl met.filled) are)
    (places_fit text events met.utf8 met.placed met.tokens) (nodes_lead_on.defined text ns met.leads)
