-- Leaves that are read lead on, and so do the nodes that spell them.
use Rattle.std.proofs.Common.{◌≡◌, ℕ, Bool, true, false, List, [], ◌∷◌, Option, None, Some, drop, length, map, refl, sym, subst}
use Rattle.std.proofs.lemmas.Bool.{true≢false}
use Rattle.engine_events.specs.Names.{is_listed, same_name}
use Rattle.engine_events.specs.declared.event.Name.{Name}
use Rattle.engine_events.specs.declared.event.Name.TheVariants as n
use Rattle.definition_text.specs.BlockLines.{BlockLine}
use Rattle.definition_text.specs.Columns.{Code, code_byte}
use Rattle.definition_text.specs.InlineCode.{InlineCode, codes_of, with_kinds}
use Rattle.definition_block.specs.Blocks as tree
use Rattle.definition_block.specs.GfmTable.{Cell, line_cells}
use Rattle.definition_inline.specs.CharacterReference.{Names}
use Rattle.definition_inline.specs.GfmTaskListItem.{check_at, check_size}
use Rattle.definition_inline.specs.Inline.{Inlines}
use Rattle.definition_inline.specs.Scan.{inlines, without_indent}
use Rattle.definition_page.specs.GfmTable.{body_lines, head_line}
use Rattle.definition_page.specs.InlinePieces.{Meaning}
use Rattle.definition_page.specs.Page as page
use Rattle.definition_page.specs.Read.{Reading, checked_text, context_of, read_cell, read_row, text_content}
use Rattle.event_grammar.specs.declared.slot.Between.TheVariants.{Lines}
use Rattle.event_grammar.specs.declared.slot.Form.TheVariants.{Plain}
use Rattle.event_grammar.specs.Slots.{between_of}
use Rattle.event_grammar.specs.Grammar.{block_names, row}
use Rattle.event_grammar.specs.References.{media_names}
use Rattle.event_grammar.specs.Trees.{Nodes, Around}
use Rattle.event_meaning.specs.Blocks.{block_of, blocks_from, join, one as one_block, start_of, underline_rank}
use Rattle.event_meaning.specs.Children.{kids_in, text_in, text_of}
use Rattle.event_meaning.specs.Texts.{inlines_of, text_within}
use Rattle.parse_slots.specs.Left.{ends, left_by}
use Rattle.parse_alike.specs.Inline.{ArePartsAlike}
use Rattle.parse_alike.specs.Page.{AreBlocksAlike, AreLeavesAlike}
use Rattle.parse_references.specs.Leads.{AreLabelsOf, HoldBareCalls, is_among, LeadOn}
use Rattle.parse_references.proofs.Bare.{bare_kids, bare_lead, leads_alone, unlinked}
use Rattle.parse_references.proofs.Contents.{contents_lead}
use Rattle.parse_references.proofs.Parts.{alike_lead}
use Rattle.parse_references.proofs.Rows.{row_bare}
use Rattle.parse_references.proofs.Texts.{in_text, texts_lead}
use Rattle.parse_grammar.specs.LabelLaws.{LeavesLeadOn, ReadLeavesLead}
use Rattle.parse_grammar.specs.Leaves.{CellsLead, LeafLeads, RowsLead, TextLeads}

-- ---- what is read

module _ (r : Reading) where
  checked_leads : (content : List InlineCode) (check : Option Bool) → TextLeads r.is_defined r.is_footnote (checked_text r content check)
  checked_leads content None = contents_lead.content (context_of r) content
  checked_leads content (Some done) = (tt, contents_lead.content (context_of r) (drop check_size content))

  text_leads : (content : List InlineCode) → TextLeads r.is_defined r.is_footnote (inlines (context_of r) content)
  text_leads content = contents_lead.content (context_of r) (without_indent content)

  cells_lead : (cells : List Cell) → CellsLead r.is_defined r.is_footnote (map (read_cell r) cells)
  cells_lead [] = tt
  cells_lead (c ∷ cs) =
      let content = with_kinds r.tables.is_punctuation None c.before c.after (map code_byte c.codes) in
      (contents_lead.cell r.is_defined r.is_footnote false (inlines (context_of r) content) (text_leads content), cells_lead cs)

  rows_lead : (ls : List BlockLine) → RowsLead r.is_defined r.is_footnote (map (read_row r) ls)
  rows_lead [] = tt
  rows_lead (l ∷ ls) = (cells_lead (line_cells l), rows_lead ls)

pub read_leaves_lead : ReadLeavesLead
read_leaves_lead r standing (tree.Paragraph ls) =
    let content = without_indent (text_content r ls) in checked_leads r content (check_at r.parse.constructs standing.first (codes_of content))
read_leaves_lead r standing (tree.Heading rank ls) = text_leads r (text_content r ls)
read_leaves_lead r standing (tree.Table ls) = (cells_lead r (line_cells (head_line ls)), rows_lead r (body_lines ls))
read_leaves_lead r standing other = tt

-- ---- what is written

module _ (names : Names) (bytes : List ℕ) (links footnotes : List (List ℕ)) (is_defined is_footnote : List Code → Bool)
    (labels : AreLabelsOf is_defined is_footnote links footnotes) (m m' : Meaning) where
  abbrev Known : Inlines → Type 0
  Known is = TextLeads (is_among links) (is_among footnotes) is

  known : (is js : Inlines) → TextLeads is_defined is_footnote is → ArePartsAlike m m' is js → Known js
  known is js leads alike = alike_lead is_defined is_footnote (is_among links) (is_among footnotes) labels.defined labels.called m m' false is js leads alike

  paragraph_known : (leaf : page.PageLeaf) (js : Inlines) → LeafLeads is_defined is_footnote leaf → AreLeavesAlike m m' leaf (page.Paragraph js) → Known js
  paragraph_known (page.Paragraph is) js leads alike = known is js leads alike
  paragraph_known leaf js leads alike = absurd alike

  heading_known : (leaf : page.PageLeaf) (rank : ℕ) (js : Inlines) → LeafLeads is_defined is_footnote leaf
      → AreLeavesAlike m m' leaf (page.Heading rank js) → Known js
  heading_known (page.Heading own is) rank js leads alike = known is js leads alike.1
  heading_known leaf rank js leads alike = absurd alike

  module _ (top : Bool) (leaf : page.PageLeaf) (leads : LeafLeads is_defined is_footnote leaf) (text : List ℕ) (kids : Nodes) (inner : page.Blocks)
      (calls : HoldBareCalls kids) where
    -- what is in a leaf of this name leads on
    abbrev Claim : Name → Type 0
    Claim name =
        AreBlocksAlike m m' (one_block (page.Leaf leaf)) (join (block_of names bytes top name text kids inner) page.Nil)
        → ends (left_by (between_of (row name Plain) Lines name) (row name Plain) kids) ≡ true
        → (is_listed media_names name ≡ false) × LeadOn bytes links footnotes false kids

    bare_claim : (name : Name) → row_bare 6 (row name Plain) ≡ true
        → ends (left_by (between_of (row name Plain) Lines name) (row name Plain) kids) ≡ true → LeadOn bytes links footnotes false kids
    bare_claim name bare e =
        bare_lead bytes links footnotes false kids (bare_kids (between_of (row name Plain) Lines name) kids 6 (row name Plain) bare e)

    leaf_claim : (name : Name) → is_listed block_names name ≡ true → same_name name n.GfmTable ≡ false → Claim name
    leaf_claim n.Paragraph listed other alike e =
        (refl, texts_lead names bytes links footnotes kids Lines false false e calls (paragraph_known leaf (inlines_of names bytes false kids) leads alike.0))
    leaf_claim n.HeadingAtx listed other alike e = (
      refl,
      in_text names bytes links footnotes kids calls (between_of (row n.HeadingAtx Plain) Lines n.HeadingAtx) false false (row n.HeadingAtx Plain) refl e
          (heading_known leaf (length (text_in bytes n.HeadingAtxSequence kids)) (text_within names bytes false kids) leads alike.0),
    )
    leaf_claim n.HeadingSetext listed other alike e = (
      refl,
      in_text names bytes links footnotes kids calls (between_of (row n.HeadingSetext Plain) Lines n.HeadingSetext) false false
          (row n.HeadingSetext Plain) refl e
          (heading_known leaf (underline_rank names bytes (text_in bytes n.HeadingSetextUnderlineSequence (kids_in n.HeadingSetextUnderline kids)))
          (text_within names bytes false kids) leads alike.0),
    )
    leaf_claim n.ThematicBreak listed other alike e = (refl, bare_claim n.ThematicBreak refl e)
    leaf_claim n.CodeIndented listed other alike e = (refl, bare_claim n.CodeIndented refl e)
    leaf_claim n.CodeFenced listed other alike e = (refl, bare_claim n.CodeFenced refl e)
    leaf_claim n.MathFlow listed other alike e = (refl, bare_claim n.MathFlow refl e)
    leaf_claim n.HtmlFlow listed other alike e = (refl, bare_claim n.HtmlFlow refl e)
    leaf_claim n.Definition listed other alike e = (refl, bare_claim n.Definition refl e)
    leaf_claim n.GfmTable listed other alike e = absurd (true≢false other)
    leaf_claim n.BlockQuote listed other alike e = absurd alike.0
    leaf_claim n.ListOrdered listed other alike e = absurd alike.0
    leaf_claim n.ListUnordered listed other alike e = absurd alike.0
    leaf_claim n.GfmFootnoteDefinition listed other alike e = absurd alike.0
    leaf_claim name listed other alike e = absurd (true≢false (sym listed))

pub leaves_lead_on : LeavesLeadOn
leaves_lead_on names bytes links footnotes is_defined is_footnote m m' top leaf (Around enter kids exit) labels leads listed other alike fill calls =
    let claim =
    leaf_claim names bytes links footnotes is_defined is_footnote labels m m' top leaf leads (text_of bytes (Around enter kids exit)) kids
    (blocks_from names bytes (start_of enter.name) kids) calls.0.1 enter.name listed other alike fill.filled in (
      refl,
      leads_alone bytes links footnotes enter.name kids claim.0,
      subst (λ b. LeadOn bytes links footnotes b kids) (sym (unlinked bytes links footnotes enter.name claim.0)) claim.1,
    )
