-- Texts without constructs.
use Rattle.std.proofs.Common.{◌≡◌, false, not, refl, inl, inr}
use Rattle.std.proofs.lemmas.Bool.{or_parts, both_ways}
use Rattle.markdown_options.specs.declared.configuration.Constructs.{Constructs}
use Rattle.definition_block.specs.Container.{Quote, Item, Footnote}
use Rattle.definition_block.specs.Tree.{LeafBlock, Paragraph, Heading, Break, IndentedCode, FencedCode, Html, Table, Definition, Block, Leaf, Holds, Items}
use Rattle.definition_block.specs.Tree.{Ending, Blank}
use Rattle.laws_block.specs.Plain.{has_blocks, is_plain, OnlyPlain}
use Rattle.laws_block.proofs.Occurs.{LeafBlockMayStand, BlockMayStand, never}

-- each of the constructs is off
record AreOff (on : Constructs) : Type 0 where
  block_quote : on.block_quote ≡ false
  list_item : on.list_item ≡ false
  code_indented : on.code_indented ≡ false
  code_fenced : on.code_fenced ≡ false
  math_flow : on.math_flow ≡ false
  html_flow : on.html_flow ≡ false
  thematic_break : on.thematic_break ≡ false
  gfm_table : on.gfm_table ≡ false
  definition : on.definition ≡ false
  heading_atx : on.heading_atx ≡ false
  heading_setext : on.heading_setext ≡ false
  gfm_footnote_definition : on.gfm_footnote_definition ≡ false

are_off : (on : Constructs) → has_blocks on ≡ false → AreOff on
are_off on off =
    let to_footnote = or_parts _ on.gfm_footnote_definition off in
    let to_setext = or_parts _ on.heading_setext to_footnote.0 in
    let to_atx = or_parts _ on.heading_atx to_setext.0 in
    let to_definition = or_parts _ on.definition to_atx.0 in
    let to_table = or_parts _ on.gfm_table to_definition.0 in
    let to_break = or_parts _ on.thematic_break to_table.0 in
    let to_html = or_parts _ on.html_flow to_break.0 in
    let to_math = or_parts _ on.math_flow to_html.0 in
    let to_fenced = or_parts _ on.code_fenced to_math.0 in
    let to_indented = or_parts _ on.code_indented to_fenced.0 in
    let to_item = or_parts on.block_quote on.list_item to_indented.0 in
    record {
      block_quote = to_item.0;
      list_item = to_item.1;
      code_indented = to_indented.1;
      code_fenced = to_fenced.1;
      math_flow = to_math.1;
      html_flow = to_html.1;
      thematic_break = to_break.1;
      gfm_table = to_table.1;
      definition = to_definition.1;
      heading_atx = to_atx.1;
      heading_setext = to_setext.1;
      gfm_footnote_definition = to_footnote.1;
    }

plain_leaf : (on : Constructs) → AreOff on → (leaf : LeafBlock) → LeafBlockMayStand on leaf → not (is_plain (Leaf leaf)) ≡ false
plain_leaf on off (Paragraph ls) p = refl
plain_leaf on off (Heading rank ls) p =
    elim p [ inl h ↦ absurd (both_ways on.heading_atx off.heading_atx h.0) | inr h ↦ absurd (both_ways on.heading_setext off.heading_setext h.0) ]
plain_leaf on off Break p = absurd (both_ways on.thematic_break off.thematic_break p)
plain_leaf on off (IndentedCode ls) p = absurd (both_ways on.code_indented off.code_indented p)
plain_leaf on off (FencedCode info is_closed ls) p =
    elim p [ inl h ↦ absurd (both_ways on.code_fenced off.code_fenced h.0) | inr h ↦ absurd (both_ways on.math_flow off.math_flow h.0) ]
plain_leaf on off (Html ls) p = absurd (both_ways on.html_flow off.html_flow p)
plain_leaf on off (Table ls) p = absurd (both_ways on.gfm_table off.gfm_table p)
plain_leaf on off (Definition ls label destination title) p = absurd (both_ways on.definition off.definition p)

plain : (on : Constructs) → AreOff on → (b : Block) → BlockMayStand on b → not (is_plain b) ≡ false
plain on off (Leaf leaf) p = plain_leaf on off leaf p
plain on off (Holds Quote kids) p = absurd (both_ways on.block_quote off.block_quote p.0)
plain on off (Holds (Item item) kids) p = absurd (both_ways on.list_item off.list_item p.0.0)
plain on off (Holds (Footnote label) kids) p = absurd (both_ways on.gfm_footnote_definition off.gfm_footnote_definition p.0)
plain on off (Items items) p = absurd p
plain on off (Ending ending) p = refl
plain on off (Blank ending) p = refl

pub only_plain : OnlyPlain
only_plain on before text off = never on (λ b. not (is_plain b)) (plain on (are_off on off)) before text
