-- Blocks and the page, with their data cut into bytes.
use Rattle.std.proofs.Common.{◌≡◌, ℕ, ◌||◌, ◌&&◌, not, Bool, true, false, List, [], ◌++◌, map, length, Option, None, Some, refl, sym, ap, ap₂, ◌∙◌}
use Rattle.parse_open.proofs.Prelude.{after_child, AreSound, Around, before_child, bytewise, Child, child, Cons, ends_in, has, HaveNoData, if◌then◌else◌}
use Rattle.parse_open.proofs.Prelude.{is_listed, is_some, IsSound, kids_in, Name, named, Names, Nil, Node, Nodes, option_map, page_of, raw_parts}
use Rattle.parse_open.proofs.Prelude.{same_name, Spot, spot_of, string_of, text_in, text_of, written}
use Rattle.engine_events.specs.declared.event.Name.TheVariants as n
use Rattle.definition_text.specs.Columns.{Code}
use Rattle.definition_text.specs.Content.{content_codes}
use Rattle.definition_block.specs.ListItem.{number_of}
use Rattle.definition_block.specs.MathFlow.{math_info}
use Rattle.definition_inline.specs.Definition.{Definition, definition}
use Rattle.definition_page.specs.Page as page
use Rattle.event_check.specs.Loose.{are_apart, is_far, is_loose_item, has_loose_item, is_loose_list}
use Rattle.event_grammar.specs.declared.slot.Child.TheVariants.{Only, Block}
use Rattle.event_meaning.specs.Blocks.{join, one, leaf, start_of, underline_rank, heading_setext_of, heading_atx_of, info_of, fenced_of, label_of}
use Rattle.event_meaning.specs.Blocks.{footnote_label, list_number, block_of, blocks_of, blocks_from}
use Rattle.event_meaning.specs.Raw.{RawPart, raw_lines, fenced_lines}
use Rattle.event_meaning.specs.Spelled.{footnotes, definition_of}
use Rattle.parse_open.specs.BytewiseSound.{fenced_names}
use Rattle.parse_open.specs.BytewiseLaws.{PagesSpellTheSame}
use Rattle.parse_open.proofs.BytewiseNodes.{kept, by_cases, skipped}
use Rattle.parse_open.proofs.BytewiseChildren.{IsOther, IsFoundSound, if_no, has_same, child_same, child_sound, kids_same, kids_sound, after_same}
use Rattle.parse_open.proofs.BytewiseChildren.{after_sound, before_same, before_sound, before_none, after_none, ends_same, text_same}
use Rattle.parse_open.proofs.BytewiseLabels.{named_same, named_sound, label_same}
use Rattle.parse_open.proofs.BytewiseStrings.{string_same}
use Rattle.parse_open.proofs.BytewiseTables.{mapped, inner_same, inner_sound, raw_parts_same, table_same}
use Rattle.parse_open.proofs.BytewiseTexts.{inlines_same, within_same}

start_other : (name : Name) → IsOther (start_of name)
start_other n.BlockQuote = refl
start_other n.ListItem = refl
start_other n.GfmFootnoteDefinition = refl
start_other name = refl

module _ (bytes : List ℕ) where
  -- ---- looseness

  apart_same : (c : Child) → has c n.Data ≡ false → (last : Option Spot) (ns : Nodes) → AreSound ns
      → are_apart bytes c last (bytewise ns) ≡ are_apart bytes c last ns
  apart_same c other last Nil f = refl
  apart_same c other last (Cons (Around enter kids exit) ns) f =
      let there = is_far bytes last (spot_of enter) || are_apart bytes c (Some (spot_of exit)) ns in
      by_cases (λ ms. are_apart bytes c last ms ≡ are_apart bytes c last (Cons (Around enter kids exit) ns)) enter kids exit ns f.0
      (λ k is none far. skipped (are_apart bytes c last) (λ i ms. if_no (has c n.Data) _ (are_apart bytes c last ms) other) _ k (bytewise ns)
      ∙ apart_same c other last ns f.1
      ∙ sym (if_no (has c enter.name) there (are_apart bytes c last ns) (ap (has c) is ∙ other)))
      (ap₂ (λ a b. if has c enter.name then is_far bytes last (spot_of enter) || a else b)
      (apart_same c other (Some (spot_of exit)) ns f.1) (apart_same c other last ns f.1))

  loose_items : (ns : Nodes) → AreSound ns → has_loose_item bytes (bytewise ns) ≡ has_loose_item bytes ns
  loose_items Nil f = refl
  loose_items (Cons (Around enter kids exit) ns) f =
      by_cases (λ ms. has_loose_item bytes ms ≡ has_loose_item bytes (Cons (Around enter kids exit) ns)) enter kids exit ns f.0
      (λ k is none far. skipped (has_loose_item bytes) (λ i ms. refl) _ k (bytewise ns)
      ∙ loose_items ns f.1
      ∙ sym (ap (λ a. (same_name a n.ListItem && is_loose_item bytes kids) || has_loose_item bytes ns) is))
      (ap₂ (λ a b. (same_name enter.name n.ListItem && a) || b) (apart_same Block refl None kids f.0.1) (loose_items ns f.1))

  loose_same : (ns : Nodes) → AreSound ns → is_loose_list bytes true (bytewise ns) ≡ is_loose_list bytes true ns
  loose_same ns f = ap₂ (λ a b. a || (true && b)) (apart_same (Only n.ListItem) refl None ns f) (loose_items ns f)

module _ (names : Names) (bytes : List ℕ) where
  -- ---- leaves

  setext_same : (ns : Nodes) → AreSound ns → heading_setext_of names bytes (bytewise ns) ≡ heading_setext_of names bytes ns
  setext_same ns f =
      ap₂ (λ line is. page.Heading (underline_rank names bytes line) is)
      (ap (text_in bytes n.HeadingSetextUnderlineSequence) (kids_same n.HeadingSetextUnderline refl ns f)
      ∙ text_same bytes n.HeadingSetextUnderlineSequence refl (kids_in n.HeadingSetextUnderline ns) (kids_sound n.HeadingSetextUnderline ns f))
      (within_same names bytes false ns f)

  atx_same : (ns : Nodes) → AreSound ns → heading_atx_of names bytes (bytewise ns) ≡ heading_atx_of names bytes ns
  atx_same ns f = ap₂ (λ line is. page.Heading (length line) is) (text_same bytes n.HeadingAtxSequence refl ns f) (within_same names bytes false ns f)

  info_found : (found : Option Node) → IsFoundSound found → info_of names bytes (option_map kept found) ≡ info_of names bytes found
  info_found None f = refl
  info_found (Some (Around enter kids exit)) f = ap Some (string_same names bytes kids f.1)

  -- the first child of the first child
  child_in : (outer inner : Name) → IsOther outer → IsOther inner → (ns : Nodes) → AreSound ns
      → child inner (kids_in outer (bytewise ns)) ≡ option_map kept (child inner (kids_in outer ns))
  child_in outer inner other another ns f =
      ap (child inner) (kids_same outer other ns f) ∙ child_same inner another (kids_in outer ns) (kids_sound outer ns f)

  info_same : (ns : Nodes) → AreSound ns
      → info_of names bytes (child n.CodeFencedFenceInfo (kids_in n.CodeFencedFence (bytewise ns)))
      ≡ info_of names bytes (child n.CodeFencedFenceInfo (kids_in n.CodeFencedFence ns))
  info_same ns f =
      ap (info_of names bytes) (child_in n.CodeFencedFence n.CodeFencedFenceInfo refl refl ns f)
      ∙ info_found (child n.CodeFencedFenceInfo (kids_in n.CodeFencedFence ns))
      (child_sound n.CodeFencedFenceInfo (kids_in n.CodeFencedFence ns) (kids_sound n.CodeFencedFence ns f))

  abbrev fenced_by : Bool → Option (List ℕ) → Bool → Bool → List RawPart → page.PageLeaf
  fenced_by top info is_closed ends parts = page.FencedCode info is_closed (fenced_lines (not (top || is_closed) || (not is_closed && ends)) parts)

  fenced_same : (top : Bool) (fence : Name) → IsOther fence → (info : Option (List ℕ)) (ns : Nodes) → HaveNoData ns → AreSound ns
      → fenced_of names bytes top fence info (bytewise ns) ≡ fenced_of names bytes top fence info ns
  fenced_same top fence other info ns none f =
      let inside = after_child fence ns in
      let sound = after_sound fence ns f in
      let between = before_child fence inside in
      let cut = after_same fence other ns f in
      let both = ap (before_child fence) cut ∙ before_same fence other inside sound in
      let full = before_sound fence inside sound in
      ap₂ (λ is_closed ms. fenced_by top info is_closed (ends_in n.SpaceOrTab false ms) (raw_parts bytes ms))
      (ap (λ ms. is_some (child fence ms)) cut ∙ has_same fence other inside sound) both
      ∙ ap₂ (fenced_by top info (is_some (child fence inside)))
      (ends_same n.SpaceOrTab false between (before_none fence inside (after_none fence ns none)) full) (raw_parts_same bytes between full)

  -- ---- containers

  label_found : (found : Option Node) → IsFoundSound found → label_of names bytes (option_map kept found) ≡ label_of names bytes found
  label_found None f = refl
  label_found (Some node) f = ap content_codes (label_same bytes node f)

  footnote_same : (ns : Nodes) → AreSound ns → footnote_label names bytes (bytewise ns) ≡ footnote_label names bytes ns
  footnote_same ns f =
      let label = kids_in n.GfmFootnoteDefinitionLabel (kids_in n.GfmFootnoteDefinitionPrefix ns) in
      let sound = inner_sound n.GfmFootnoteDefinitionPrefix n.GfmFootnoteDefinitionLabel ns f in
      ap (λ ms. label_of names bytes (child n.GfmFootnoteDefinitionLabelString ms))
      (inner_same n.GfmFootnoteDefinitionPrefix n.GfmFootnoteDefinitionLabel refl refl ns f)
      ∙ ap (label_of names bytes) (child_same n.GfmFootnoteDefinitionLabelString refl label sound)
      ∙ label_found (child n.GfmFootnoteDefinitionLabelString label) (child_sound n.GfmFootnoteDefinitionLabelString label sound)

  number_same : (ns : Nodes) → AreSound ns → list_number names bytes (bytewise ns) ≡ list_number names bytes ns
  number_same ns f =
      ap (λ ms. number_of (text_in bytes n.ListItemValue ms)) (inner_same n.ListItem n.ListItemPrefix refl refl ns f)
      ∙ ap number_of (text_same bytes n.ListItemValue refl (kids_in n.ListItemPrefix (kids_in n.ListItem ns)) (inner_sound n.ListItem n.ListItemPrefix ns f))

  -- ---- children

  block_same : (top : Bool) (name : Name) (text : List ℕ) (kids : Nodes) (inner : page.Blocks)
      → (is_listed fenced_names name ≡ true → HaveNoData kids) → AreSound kids
      → block_of names bytes top name text (bytewise kids) inner ≡ block_of names bytes top name text kids inner
  block_same top n.Paragraph text kids inner none f = ap (λ is. leaf (page.Paragraph is)) (inlines_same names bytes false kids f)
  block_same top n.HeadingAtx text kids inner none f = ap leaf (atx_same kids f)
  block_same top n.HeadingSetext text kids inner none f = ap leaf (setext_same kids f)
  block_same top n.CodeIndented text kids inner none f = ap (λ parts. leaf (page.IndentedCode (raw_lines parts))) (raw_parts_same bytes kids f)
  block_same top n.CodeFenced text kids inner none f =
      ap (λ info. leaf (fenced_of names bytes top n.CodeFencedFence info (bytewise kids))) (info_same kids f)
      ∙ ap leaf (fenced_same top n.CodeFencedFence refl (info_of names bytes (child n.CodeFencedFenceInfo (kids_in n.CodeFencedFence kids))) kids (none refl) f)
  block_same top n.MathFlow text kids inner none f = ap leaf (fenced_same top n.MathFlowFence refl (Some math_info) kids (none refl) f)
  block_same top n.HtmlFlow text kids inner none f = ap (λ parts. leaf (page.Html (raw_lines parts))) (raw_parts_same bytes kids f)
  block_same top n.GfmTable text kids inner none f = ap (λ t. leaf (page.Table t)) (table_same names bytes kids f)
  block_same top n.GfmFootnoteDefinition text kids inner none f = ap (λ label. one (page.Holds (page.Footnote label) inner)) (footnote_same kids f)
  block_same top n.ListUnordered text kids inner none f = ap (λ loose. one (page.ItemList None loose inner)) (loose_same bytes kids f)
  block_same top n.ListOrdered text kids inner none f = ap₂ (λ number loose. one (page.ItemList (Some number) loose inner))
      (number_same kids f) (loose_same bytes kids f)
  block_same top name text kids inner none f = refl

  mutual
    pub blocks_same : (top : Bool) (ns : Nodes) → AreSound ns → blocks_of names bytes top (bytewise ns) ≡ blocks_of names bytes top ns
    blocks_same top Nil f = refl
    blocks_same top (Cons (Around enter kids exit) ns) f =
        let text = text_of bytes (Around enter kids exit) in
        let inner = blocks_from names bytes (start_of enter.name) kids in
        by_cases (λ ms. blocks_of names bytes top ms ≡ blocks_of names bytes top (Cons (Around enter kids exit) ns)) enter kids exit ns f.0
        (λ k is none far. skipped (blocks_of names bytes top) (λ i ms. refl) _ k (bytewise ns)
        ∙ blocks_same top ns f.1
        ∙ sym (ap (λ a. join (block_of names bytes top a text kids inner) (blocks_of names bytes top ns)) is))
        (ap₂ join
        (ap (block_of names bytes top enter.name text (bytewise kids)) (from_same (start_of enter.name) (start_other enter.name) kids f.0.1)
        ∙ block_same top enter.name text kids inner f.0.0.2 f.0.1)
        (blocks_same top ns f.1))

    from_same : (start : Name) → IsOther start → (ns : Nodes) → AreSound ns → blocks_from names bytes start (bytewise ns) ≡ blocks_from names bytes start ns
    from_same start other Nil f = refl
    from_same start other (Cons (Around enter kids exit) ns) f =
        let text = text_of bytes (Around enter kids exit) in
        let inner = blocks_from names bytes (start_of enter.name) kids in
        let here = join (block_of names bytes false enter.name text kids inner) (blocks_of names bytes false ns) in
        by_cases (λ ms. blocks_from names bytes start ms ≡ blocks_from names bytes start (Cons (Around enter kids exit) ns)) enter kids exit ns f.0
        (λ k is none far. skipped (blocks_from names bytes start) (λ i ms. if_no (same_name n.Data start) _ (blocks_from names bytes start ms) other)
        _ k (bytewise ns)
        ∙ from_same start other ns f.1
        ∙ sym (if_no (same_name enter.name start) here (blocks_from names bytes start ns) (ap (λ a. same_name a start) is ∙ other)))
        (ap₂ (λ found others. if same_name enter.name start then found else others)
        (ap₂ join
        (ap (block_of names bytes false enter.name text (bytewise kids)) (from_same (start_of enter.name) (start_other enter.name) kids f.0.1)
        ∙ block_same false enter.name text kids inner f.0.0.2 f.0.1)
        (blocks_same false ns f.1))
        (from_same start other ns f.1))

  -- ---- definitions

  -- the string in a child of a child
  string_in : (outer inner string : Name) → IsOther outer → IsOther inner → IsOther string → (ns : Nodes) → AreSound ns
      → string_of names bytes (kids_in string (kids_in inner (kids_in outer (bytewise ns))))
      ≡ string_of names bytes (kids_in string (kids_in inner (kids_in outer ns)))
  string_in outer inner string o i s ns f =
      let kids = kids_in inner (kids_in outer ns) in
      let sound = inner_sound outer inner ns f in
      ap (λ ms. string_of names bytes (kids_in string ms)) (inner_same outer inner o i ns f)
      ∙ ap (string_of names bytes) (kids_same string s kids sound)
      ∙ string_same names bytes (kids_in string kids) (kids_sound string kids sound)

  title_same : (ns : Nodes) → AreSound ns
      → string_of names bytes (kids_in n.DefinitionTitleString (kids_in n.DefinitionTitle (bytewise ns)))
      ≡ string_of names bytes (kids_in n.DefinitionTitleString (kids_in n.DefinitionTitle ns))
  title_same ns f =
      ap (string_of names bytes) (inner_same n.DefinitionTitle n.DefinitionTitleString refl refl ns f)
      ∙ string_same names bytes (kids_in n.DefinitionTitleString (kids_in n.DefinitionTitle ns)) (inner_sound n.DefinitionTitle n.DefinitionTitleString ns f)

  definition_label_same : (ns : Nodes) → AreSound ns
      → label_of names bytes (child n.DefinitionLabelString (kids_in n.DefinitionLabel (bytewise ns)))
      ≡ label_of names bytes (child n.DefinitionLabelString (kids_in n.DefinitionLabel ns))
  definition_label_same ns f =
      ap (label_of names bytes) (child_in n.DefinitionLabel n.DefinitionLabelString refl refl ns f)
      ∙ label_found (child n.DefinitionLabelString (kids_in n.DefinitionLabel ns))
      (child_sound n.DefinitionLabelString (kids_in n.DefinitionLabel ns) (kids_sound n.DefinitionLabel ns f))

  definition_same : (node : Node) → IsSound node → definition_of names bytes (kept node) ≡ definition_of names bytes node
  definition_same (Around enter kids exit) f =
      let place = n.DefinitionDestination in
      let string = n.DefinitionDestinationString in
      let by : List Code → List ℕ → List ℕ → List ℕ → Definition = λ label literal raw title.
      definition label (written (literal ++ raw)) (Some (written title)) [] in
      let literal : Nodes → List ℕ = λ ms. string_of names bytes (kids_in string (kids_in n.DefinitionDestinationLiteral (kids_in place ms))) in
      let raw : Nodes → List ℕ = λ ms. string_of names bytes (kids_in string (kids_in n.DefinitionDestinationRaw (kids_in place ms))) in
      let title : Nodes → List ℕ = λ ms. string_of names bytes (kids_in n.DefinitionTitleString (kids_in n.DefinitionTitle ms)) in
      ap₂ (λ label l. by label l (raw (bytewise kids)) (title (bytewise kids)))
      (definition_label_same kids f.1) (string_in place n.DefinitionDestinationLiteral string refl refl refl kids f.1)
      ∙ ap₂ (by (label_of names bytes (child n.DefinitionLabelString (kids_in n.DefinitionLabel kids))) (literal kids))
      (string_in place n.DefinitionDestinationRaw string refl refl refl kids f.1) (title_same kids f.1)

  -- ---- the page

  abbrev page_by : page.Blocks → List Definition → Bool → page.Page
  page_by bs definitions ends_blank = record { blocks = bs; definitions = definitions; footnotes = footnotes bs; ends_blank = ends_blank }

  pub page_same : (ns : Nodes) → HaveNoData ns → AreSound ns → page_of names bytes (bytewise ns) ≡ page_of names bytes ns
  page_same ns none f =
      ap₂ (λ bs definitions. page_by bs definitions (ends_in n.BlankLineEnding false (bytewise ns))) (blocks_same true ns f)
      (ap (map (definition_of names bytes)) (named_same n.Definition refl ns f)
      ∙ mapped (definition_of names bytes) definition_same (named n.Definition ns) (named_sound n.Definition ns f))
      ∙ ap (page_by (blocks_of names bytes true ns) (map (definition_of names bytes) (named n.Definition ns))) (ends_same n.BlankLineEnding false ns none f)

pub pages_spell_the_same : PagesSpellTheSame
pages_spell_the_same = λ names bytes ns none f. page_same names bytes ns none f
