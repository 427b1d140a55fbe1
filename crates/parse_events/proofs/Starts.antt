-- A walk stands after the start of a container, if that is written.
use Rattle.std.proofs.Common.{◌≡◌, inl, inr, ◌≤◌, ℕ, Bool, List, [], ◌∷◌, ◌++◌, Option, None, Some, refl, sym, ap, ◌∙◌, arith, drop}
use Rattle.parse_events.proofs.Prelude.{around, bare_container, bare_end, Container, End, end_in, ending_text, enter_at, Footnote, forest_in, Growth, HasStart}
use Rattle.parse_events.proofs.Prelude.{if◌then◌else◌, InContainer, innermost, is_in_list, is_item, IsNamed, IsOfList, IsPrefixOf, IsStartName}
use Rattle.parse_events.proofs.Prelude.{IsWrittenToRest, Item, kids_of, level, LevelsGoOn, line_at, LineRest, Name, named, NoBlock, Node, node_name, Nodes}
use Rattle.parse_events.proofs.Prelude.{normal_label, one, Opened, Quote, Reading, rest_start, same_name, standing, Stands, StandsAt, true≢false, Walk, whole}
use Rattle.parse_events.proofs.Prelude.{with_nodes, Within, within, WritesStart, written_to}
use Rattle.markdown_options.specs.declared.configuration.Constructs.{Constructs}
use Rattle.definition_block.specs.ListItem.{number_of}
use Rattle.definition_inline.specs.CharacterReference.{Names}
use Rattle.engine_events.specs.declared.event.Name.TheVariants as n
use Rattle.event_grammar.specs.declared.slot.Between.TheVariants.{Lines, Spaces}
use Rattle.event_grammar.specs.declared.slot.Form.TheVariants.{Ordered, Plain}
use Rattle.event_grammar.specs.Grammar.{row}
use Rattle.event_meaning.specs.Blocks.{label_of}
use Rattle.event_meaning.specs.Children.{child, inside_of, kids_in, text_in}
use Rattle.parse_lines.proofs.Quiet.{quiet_named}
use Rattle.parse_lines.proofs.Written.{bare_follows, bare_start}
use Rattle.parse_lines.specs.Prefixes.{footnote_names, item_form, item_names}
use Rattle.parse_output.proofs.Marks.{same_self}
use Rattle.parse_slots.specs.Left.{Fill, IsFilled}
use Rattle.parse_slots.proofs.Steps.{filled_by}
use Rattle.parse_references.specs.Sound.{IsSound}
use Rattle.parse_references.proofs.Sound.{sound_filled}
use Rattle.parse_open.specs.Filled.{holder_form, number_form}
use Rattle.parse_open.specs.Levels.{HasNumber}
use Rattle.parse_open.proofs.Sound.{others_sound}
use Rattle.parse_events.proofs.Containers.{spells_start}
use Rattle.parse_events.proofs.LastBlank.{inside_ends}
use Rattle.parse_events.proofs.Leaves.{line_in_text}
use Rattle.parse_events.proofs.Lines.{rest_line_at}

-- ---- the first prefix of a container

own_kids : (name : Name) (node : Node) → node_name node ≡ name → kids_in name (one node) ≡ kids_of node
own_kids name node is =
    ap (λ (b : Bool). inside_of (if b then Some node else None)) (ap (λ (a : Name). same_name a name) is ∙ same_self name)

pub prefix_named : (text : List ℕ) (c : Container) (first : Node) → IsPrefixOf text c first → IsStartName (node_name first)
prefix_named text Quote first is = inl is.0
prefix_named text (Item item) first is = inr (inl is.is_named)
prefix_named text (Footnote label) first is = inr (inr is.is_named)

pub prefix_defines : (text : List ℕ) (c : Container) (first : Node) → IsPrefixOf text c first → named n.Definition (one first) ≡ []
prefix_defines text Quote first is = quiet_named n.Definition (one first) refl (inr is, tt)
prefix_defines text (Item item) first is = is.others n.Definition refl
prefix_defines text (Footnote label) first is = is.others n.Definition refl

item_prefix_filled : (number : Option ℕ) (first : Node) → node_name first ≡ n.ListItemPrefix
    → Fill Spaces (row n.ListItemPrefix (item_form number)) (kids_of first) [] → IsFilled Lines (number_form number) first
item_prefix_filled None first is fill = filled_by Lines Plain n.ListItemPrefix [] first is fill refl
item_prefix_filled (Some number) first is fill = filled_by Lines Ordered n.ListItemPrefix [] first is fill refl

pub prefix_filled : (text : List ℕ) (c : Container) (goes_on : Bool) (first : Node) → IsPrefixOf text c first
    → IsFilled Lines (holder_form (InContainer (bare_container c) goes_on)) first
prefix_filled text Quote goes_on first is = filled_by Lines Plain n.BlockQuotePrefix [] first is.0 is.2 refl
prefix_filled text (Item item) goes_on first is = item_prefix_filled item.number first is.is_named is.fill
prefix_filled text (Footnote label) goes_on first is = filled_by Lines Plain n.GfmFootnoteDefinitionPrefix [] first is.is_named is.fill refl

-- it holds no name of which more is asked
pub prefix_sound : (on : Constructs) (names : Names) (text : List ℕ) (c : Container) (first : Node) → IsPrefixOf text c first → IsSound on names text first
prefix_sound on names text Quote first is =
    sound_filled on names text 2 Lines Plain n.BlockQuotePrefix first is.0 refl (filled_by Lines Plain n.BlockQuotePrefix [] first is.0 is.2 refl)
prefix_sound on names text (Item item) first is = others_sound on names text item_names first refl is.others
prefix_sound on names text (Footnote label) first is = others_sound on names text footnote_names first refl is.others

module _ (r : Reading) (text : List ℕ) (front : Nodes) where
  own_number : (number : Option ℕ) (first : Node) → node_name first ≡ n.ListItemPrefix
      → ((k : ℕ) → number ≡ Some k → number_of (text_in text n.ListItemValue (kids_of first)) ≡ k) → HasNumber r text front number (one first)
  own_number None first is value = tt
  own_number (Some k) first is value =
      ap (λ (kids : Nodes). number_of (text_in text n.ListItemValue kids)) (own_kids n.ListItemPrefix first is) ∙ value k refl

  pub prefix_start : (c : Container) (goes_on : Bool) (name : Name) (first : Node) → IsPrefixOf text c first
      → HasStart r text front (InContainer (bare_container c) goes_on) name NoBlock (one first)
  prefix_start Quote goes_on name first is = is.0
  prefix_start (Item item) goes_on name first is = (is.is_named, own_number item.number first is.is_named is.value)
  prefix_start (Footnote label) goes_on name first is = (
    is.is_named,
    ap normal_label (sym (ap (λ (kids : Nodes). label_of r.tables.names text (child n.GfmFootnoteDefinitionLabelString (kids_in n.GfmFootnoteDefinitionLabel kids)))
        (own_kids n.GfmFootnoteDefinitionPrefix first is.is_named) ∙ is.label_is r.tables.names)),
  )

-- where the white space ahead ends
module _ {A : Type 0} (text : List ℕ) (here : LineRest) (left : List LineRest) (w : Walk A) where
  pub bare_in_line : StandsAt text (Within here left) (standing w) → IsWrittenToRest w
      → ((written_to w).index ≤ (bare_end w).index) × ((bare_end w).index ≤ w.line_end)
  bare_in_line st wr =
      let line = st.line in
      let after = ending_text (standing w).ending ++ (standing w).left in
      let start = (standing w).rest in
      let at : start ≡ drop st.columns (whole line.content) = st.rest ∙ st.suffix in
      let is = bare_start text line.before line.content after st.columns w.line_end start (bare_end w) refl in
      let follows = (bare_follows text line.before line.content after st.columns w.line_end start (bare_end w) line.parts line.end at is).forward in
      let same : (written_to w).index ≡ (rest_start w.line_end start).index = ap (λ (x : End). x.index) wr in
      (omega (arith, follows, same), omega arith)

module _ {A : Type 0} (r : Reading) (text : List ℕ) (front : Nodes) (go : LevelsGoOn r text front) where
  pub container_starts : (o : Opened) (outer : List Container) (c : Container) (goes_on : Bool) (here there : LineRest) (left others : List LineRest) (name : Name)
      (old new : Walk A) → is_in_list o.outer ≡ is_item (InContainer (bare_container c) goes_on) → IsNamed (InContainer (bare_container c) goes_on) name
      → IsOfList (InContainer (bare_container c) goes_on) (innermost (forest_in text old.out).outer)
      → Stands r text front o outer (Within here left) old → WritesStart text name (IsPrefixOf text c) (bare_end old) old.out new.out → IsWrittenToRest new
      → StandsAt text (Within there others) (standing new) → around (standing new) ≡ c ∷ around (standing old) → new.on.now ≡ old.on.now
      → Stands r text front (within (InContainer (bare_container c) goes_on) o) (c ∷ outer) (Within there others) new
  container_starts o outer c goes_on here there left others name old new stands is of_list was start wr st inside on =
      elim was.at [
        | inl at ↦
            let bounds = bare_in_line text here left old at.0 at.1 in
            let index : (end_in start.before).index ≡ (bare_end old).index = ap (λ (x : End). x.index) start.begins in
            record {
              constructs = on ∙ was.constructs;
              around = inside ∙ ap (λ (cs : List Container). c ∷ cs) was.around;
              same = ap (λ (cs : List Container). bare_container c ∷ cs) was.same;
              order = start.writes.order;
              at = inl (st, wr, tt);
              spells =
                  spells_start r text front go o (bare_container c) goes_on (enter_at text name (end_in start.before)) (forest_in text old.out)
                  (forest_in text start.before) (forest_in text new.out) start.space.nodes start.first (written_to old).index (written_to new).index
                  (inl was.begun) start.space.quiet start.space.writes.forest
                  (start.writes.forest ∙ ap (λ (g : Growth). with_nodes g (one start.first)) start.enters.forest)
                  stands is of_list
                  (let most = line_in_text text (standing old) at.0.line in omega (arith, most, index, bounds.1))
                  (prefix_named text c start.first start.is_prefix) (prefix_defines text c start.first start.is_prefix)
                  (prefix_start r text front c goes_on name start.first start.is_prefix) (prefix_filled text c goes_on start.first start.is_prefix)
                  (prefix_sound r.parse.constructs r.tables.names text c start.first start.is_prefix)
                  (ap (line_at text) index ∙ rest_line_at text here left old (bare_end old).index at.0 at.1 bounds.0 bounds.1)
                  was.spells;
              begun = λ listed none. true≢false (sym listed);
              ends = λ none. inside_ends (Within there others) NoBlock (forest_in text new.out).kids (level (InContainer (bare_container c) goes_on) o.kids) o.outer none;
            }
        | inr past ↦ absurd past
      ]
