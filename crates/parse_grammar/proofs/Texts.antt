-- What nodes of a text spell tells which of them are of a construct that is on (CommonMark 6).
use Rattle.std.proofs.Common.{inl, inr, ◌≡◌, ℕ, Bool, true, false, ◌&&◌, ◌||◌, List, [], ◌∷◌, Option, None, Some, refl, sym, ap, subst, ◌∙◌}
use Rattle.std.proofs.lemmas.Bool.{and_parts, cases_Bool, cond-false, cond-true, not-true, or_cases, true≢false}
use Rattle.std.specs.Prelude.{if◌then◌else◌, is_some, not}
use denote.Enum.Bare.{same_true}
use Rattle.markdown_options.specs.declared.configuration.Constructs.{Constructs}
use Rattle.engine_events.specs.contracts.event.Name.{the_type}
use Rattle.engine_events.specs.declared.event.Event.{Event}
use Rattle.engine_events.specs.Names.{same_name, is_listed}
use Rattle.engine_events.specs.declared.event.Name.{Name}
use Rattle.engine_events.specs.declared.event.Name.TheVariants as n
use Rattle.definition_inline.specs.CharacterReference.{Names}
use Rattle.definition_inline.specs.Inline.{Autolink, Inlines}
use Rattle.event_grammar.specs.declared.slot.Between.{Between}
use Rattle.event_grammar.specs.declared.slot.Child.TheVariants.{TextPart}
use Rattle.event_grammar.specs.declared.slot.Form.{Form}
use Rattle.event_grammar.specs.declared.slot.Form.TheVariants.{Plain}
use Rattle.event_grammar.specs.declared.slot.Slot.{Slot}
use Rattle.event_grammar.specs.Grammar.{row, text_row}
use Rattle.event_grammar.specs.Grammar as grammar
use Rattle.event_grammar.specs.InGrammar.{kids_of, node_name}
use Rattle.event_grammar.specs.Slots.{Taken, take_child, taken, between_of, stands_between}
use Rattle.event_grammar.specs.Trees.{Node, Nodes, Around, Nil, Cons}
use Rattle.event_meaning.specs.Children.{child, text_of}
use Rattle.event_meaning.specs.Texts.{inlines_of, text_names, text_part, text_within}
use Rattle.parse_slots.specs.Left.{ends, is_filled, left_after, left_by}
use Rattle.parse_references.specs.Leads.{AreWithout, IsWithout}
use Rattle.parse_references.specs.Sound.{outside_strings}
use Rattle.parse_references.proofs.Around.{depth, is_dark, is_text, is_text_or_label, spells_in, taken_in, text_rows}
use Rattle.parse_references.proofs.Bare.{are_without_fewer, without_kids, without_node}
use Rattle.parse_references.proofs.Rows.{all_pass, between_passes, if_ends, is_without, no_take, row_without, took_or}
use Rattle.parse_grammar.specs.Constructs.{is_on}
use Rattle.parse_grammar.proofs.Owners.{AreToldOn, IsToldOn, told_names}
use Rattle.parse_grammar.proofs.Parts.{leaf_is_on, parts_of_both, TextIsOn}

-- ---- names

-- a part of a text is quiet, or one of these
abbrev part_names : List Name
part_names =
    n.Autolink ∷ n.CodeText ∷ n.MathText ∷ n.HardBreakEscape ∷ n.HardBreakTrailing ∷ n.GfmTaskListItemCheck ∷ n.Emphasis ∷ n.Strong ∷ n.GfmStrikethrough
    ∷ n.Mark ∷ n.Link ∷ n.Image ∷ n.GfmFootnoteCall ∷ []

abbrev pub is_quiet : Form → Name → Bool
is_quiet = is_without told_names depth

abbrev is_part : Name → Bool
is_part name = is_quiet Plain name || is_listed part_names name

part_named : (name : Name) → is_listed grammar.text_names name ≡ true → is_part name ≡ true
part_named name listed = all_pass is_part grammar.text_names name refl listed

module _ (on : Constructs) where
  -- ---- nodes without the names

  mutual
    pub quiet_is_on : (node : Node) → IsWithout told_names node → IsToldOn on node
    quiet_is_on (Around enter kids exit) h = (λ told. absurd (true≢false (sym told ∙ h.0)), quiet_are_on kids h.1)

    pub quiet_are_on : (ns : Nodes) → AreWithout told_names ns → AreToldOn on ns
    quiet_are_on Nil h = tt
    quiet_are_on (Cons node ns) h = (quiet_is_on node h.0, quiet_are_on ns h.1)

  pub quiet_node_on : (around : Between) (form : Form) (node : Node) → is_quiet form (node_name node) ≡ true → is_filled around form node ≡ true
      → IsToldOn on node
  quiet_node_on around form node quiet filled = quiet_is_on node (without_node told_names refl refl around node depth form quiet filled)

  pub quiet_kids_on : (around : Between) (slots : List Slot) (ns : Nodes) → row_without told_names depth slots ≡ true
      → ends (left_by around slots ns) ≡ true → AreToldOn on ns
  quiet_kids_on around slots ns quiet e = quiet_are_on ns (without_kids told_names refl refl around ns depth slots quiet e)

  -- a node of a name that isn't told
  pub untold : (node : Node) → is_listed told_names (node_name node) ≡ false → AreToldOn on (kids_of node) → IsToldOn on node
  untold (Around enter kids exit) other h = (λ told. absurd (true≢false (sym told ∙ other)), h)

  -- ---- what is known beside the page

  -- Each call holds a string, and definitions are on where there is one.
  abbrev mutual
    pub IsKnown : Node → Type 0
    IsKnown (Around enter kids exit) =
        (same_name enter.name n.GfmFootnoteCall ≡ true → AreWithout outside_strings kids)
        × (same_name enter.name n.Definition ≡ true → on.definition ≡ true) × AreKnown kids

    pub AreKnown : Nodes → Type 0
    AreKnown Nil = Unit {0}
    AreKnown (Cons node ns) = IsKnown node × AreKnown ns

  pub string_on : (ns : Nodes) → AreWithout outside_strings ns → AreToldOn on ns
  string_on ns h = quiet_are_on ns (are_without_fewer outside_strings told_names refl ns h)

  module _ (names : Names) (bytes : List ℕ) where
    -- ---- children

    -- an event of this name is on, and so is what is in it, if what it spells is
    abbrev pub Claim : Between → Bool → Nodes → Name → Type 0
    Claim around linked kids name =
        ends (left_by (between_of (row name Plain) around name) (row name Plain) kids) ≡ true
        → (same_name name n.GfmFootnoteCall ≡ true → AreWithout outside_strings kids)
        → (text : List ℕ) → TextIsOn on (text_part names bytes linked name text kids (text_within names bytes (linked || same_name name n.Link) kids))
        → (is_on on name ≡ true) × AreToldOn on kids

    -- children of an event around a text are on, if the text is
    abbrev Within : (Form → Name → Bool) → Nodes → Type 0
    Within holds kids =
        (around : Between) (linked : Bool) (slots : List Slot) → spells_in told_names holds slots ≡ true → ends (left_by around slots kids) ≡ true
        → TextIsOn on (text_within names bytes linked kids) → AreToldOn on kids

    leaf_kids : (around : Between) (kids : Nodes) (name : Name) → row_without told_names depth (row name Plain) ≡ true
        → ends (left_by (between_of (row name Plain) around name) (row name Plain) kids) ≡ true → AreToldOn on kids
    leaf_kids around kids name quiet e = quiet_kids_on (between_of (row name Plain) around name) (row name Plain) kids quiet e

    address_on : (b : Bool) (email other : List ℕ) → leaf_is_on on (if b then Autolink true email else Autolink false other) ≡ true → on.autolink ≡ true
    address_on true email other h = h
    address_on false email other h = h

    claims : (around : Between) (linked : Bool) (kids : Nodes) → Within is_text kids → Within (is_text_or_label told_names) kids → (name : Name)
        → is_listed part_names name ≡ true → Claim around linked kids name
    claims around linked kids within labelled n.Autolink listed e string text h =
        (address_on (is_some (child n.AutolinkEmail kids)) _ _ h.0, leaf_kids around kids n.Autolink refl e)
    claims around linked kids within labelled n.CodeText listed e string text h = (h.0, leaf_kids around kids n.CodeText refl e)
    claims around linked kids within labelled n.MathText listed e string text h = (h.0, leaf_kids around kids n.MathText refl e)
    claims around linked kids within labelled n.HardBreakEscape listed e string text h = (h.0, leaf_kids around kids n.HardBreakEscape refl e)
    claims around linked kids within labelled n.HardBreakTrailing listed e string text h = (h.0, leaf_kids around kids n.HardBreakTrailing refl e)
    claims around linked kids within labelled n.GfmTaskListItemCheck listed e string text h = (h.0, leaf_kids around kids n.GfmTaskListItemCheck refl e)
    claims around linked kids within labelled n.Emphasis listed e string text h =
        (h.0.0, within (between_of (row n.Emphasis Plain) around n.Emphasis) (linked || false) (row n.Emphasis Plain) refl e h.0.1)
    claims around linked kids within labelled n.Strong listed e string text h =
        (h.0.0, within (between_of (row n.Strong Plain) around n.Strong) (linked || false) (row n.Strong Plain) refl e h.0.1)
    claims around linked kids within labelled n.GfmStrikethrough listed e string text h = (
      h.0.0,
      within (between_of (row n.GfmStrikethrough Plain) around n.GfmStrikethrough) (linked || false) (row n.GfmStrikethrough Plain) refl e h.0.1,
    )
    claims around linked kids within labelled n.Mark listed e string text h =
        (h.0.0, within (between_of (row n.Mark Plain) around n.Mark) (linked || false) (row n.Mark Plain) refl e h.0.1)
    claims around linked kids within labelled n.Link listed e string text h =
        (h.0.0, labelled (between_of (row n.Link Plain) around n.Link) (linked || true) (row n.Link Plain) refl e h.0.1)
    claims around linked kids within labelled n.Image listed e string text h =
        (h.0.0, labelled (between_of (row n.Image Plain) around n.Image) (linked || false) (row n.Image Plain) refl e h.0.1)
    claims around linked kids within labelled n.GfmFootnoteCall listed e string text h = (h.0, string_on kids (string refl))
    claims around linked kids within labelled name listed e string text h = absurd (true≢false (sym listed))

    -- ---- an event around a text

    -- what holds a text
    held_text : (around : Between) (linked : Bool) (form : Form) (enter exit : Event) (kids ns : Nodes)
        → ((around : Between) → ends (left_by around text_row kids) ≡ true → TextIsOn on (inlines_of names bytes linked kids) → AreToldOn on kids)
        → is_listed text_names enter.name ≡ true → is_filled around form (Around enter kids exit) ≡ true
        → TextIsOn on (text_within names bytes linked (Cons (Around enter kids exit) ns)) → IsToldOn on (Around enter kids exit)
    held_text around linked form enter exit kids ns texts listed filled h =
        untold (Around enter kids exit)
        (not-true (is_listed told_names enter.name) (all_pass (λ name. not (is_listed told_names name)) text_names enter.name refl listed))
        (texts (between_of text_row around enter.name)
        (subst (λ slots. ends (left_by (between_of slots around enter.name) slots kids) ≡ true) (text_rows enter.name listed form) filled)
        (subst (TextIsOn on) (cond-true (is_listed text_names enter.name) (inlines_of names bytes linked kids) _ listed) h))

    -- a label, which holds one
    held_label : (around : Between) (linked : Bool) (form : Form) (enter exit : Event) (kids ns : Nodes) → Within is_text kids
        → is_listed text_names enter.name ≡ false → (same_name enter.name n.Label && spells_in told_names is_text (row enter.name form)) ≡ true
        → is_filled around form (Around enter kids exit) ≡ true
        → TextIsOn on (text_within names bytes linked (Cons (Around enter kids exit) ns)) → IsToldOn on (Around enter kids exit)
    held_label around linked form enter exit kids ns within other label filled h =
        let parts = and_parts (same_name enter.name n.Label) (spells_in told_names is_text (row enter.name form)) label in
        untold (Around enter kids exit)
        (subst (λ name. is_listed told_names name ≡ false) (sym (same_true the_type tt enter.name n.Label parts.0)) refl)
        (within (between_of (row enter.name form) around enter.name) linked (row enter.name form) parts.1 filled
        (subst (TextIsOn on)
        (cond-false (is_listed text_names enter.name) _ _ other
        ∙ cond-true (same_name enter.name n.Label) (text_within names bytes linked kids) _ parts.0) h))

    -- nothing is looked for in an event with a dark name
    dark_skips : (linked : Bool) (form : Form) (node : Node) (ns : Nodes) → is_dark told_names form (node_name node) ≡ true
        → text_within names bytes linked (Cons node ns) ≡ text_within names bytes linked ns
    dark_skips linked form (Around enter kids exit) ns dark =
        let parts = and_parts (is_quiet form enter.name) (not (is_listed text_names enter.name) && not (same_name enter.name n.Label)) dark in
        let names_apart = and_parts (not (is_listed text_names enter.name)) (not (same_name enter.name n.Label)) parts.1 in
        cond-false (is_listed text_names enter.name) _ _ (not-true (is_listed text_names enter.name) names_apart.0)
        ∙ cond-false (same_name enter.name n.Label) _ _ (not-true (same_name enter.name n.Label) names_apart.1)

    -- a child, and those after it
    module _ (holds : Form → Name → Bool) (around : Between) (linked : Bool) (node : Node) (ns : Nodes) where
      abbrev Both : Type 0
      Both = IsToldOn on node × AreToldOn on ns

      abbrev Own : Type 0
      Own =
          (form : Form) → holds form (node_name node) ≡ true → is_filled around form node ≡ true
          → TextIsOn on (text_within names bytes linked (Cons node ns)) → IsToldOn on node

      abbrev Others : Type 0
      Others =
          (slots : List Slot) → spells_in told_names holds slots ≡ true → ends (left_by around slots ns) ≡ true
          → TextIsOn on (text_within names bytes linked ns) → AreToldOn on ns

      dark_child : (form : Form) (slots : List Slot) → is_dark told_names form (node_name node) ≡ true → is_filled around form node ≡ true
          → spells_in told_names holds slots ≡ true → ends (left_by around slots ns) ≡ true → Others
          → TextIsOn on (text_within names bytes linked (Cons node ns)) → Both
      dark_child form slots dark filled spells left others h = (
        quiet_node_on around form node (and_parts (is_quiet form (node_name node)) _ dark).0 filled,
        others slots spells left (subst (TextIsOn on) (dark_skips linked form node ns dark) h),
      )

      within_child : (slots : List Slot) → spells_in told_names holds slots ≡ true → Own → Others → (t : Option Taken)
          → take_child slots (node_name node) ≡ t
          → ends (left_after t slots (stands_between around (node_name node)) (λ form. is_filled around form node) (λ rest. left_by around rest ns)) ≡ true
          → TextIsOn on (text_within names bytes linked (Cons node ns)) → Both
      within_child slots spells own others (Some t) is e h =
          if_ends Both (is_filled around t.form node) (left_by around t.rest ns) ends refl
          (λ filled left. elim (taken_in told_names holds (node_name node) slots spells t is) [
            | inl dark ↦ dark_child t.form t.rest dark.0 filled dark.1 left others h
            | inr held ↦ (own t.form held.0 filled h, quiet_kids_on around t.rest ns held.1 left)
          ]) e
      within_child slots spells own others None is e h =
          if_ends Both (stands_between around (node_name node) && is_filled around Plain node) (left_by around slots ns) ends refl
          (λ both left.
          let parts = and_parts (stands_between around (node_name node)) (is_filled around Plain node) both in
          dark_child Plain slots (between_passes (is_dark told_names Plain) refl refl around (node_name node) parts.0) parts.1 spells left others h) e

    -- ---- a text

    text_taken : (name : Name) (t : Taken) → take_child text_row name ≡ Some t
        → (is_listed grammar.text_names name ≡ true) × (taken TextPart text_row ≡ t)
    text_taken name t is =
        took_or (λ t. (is_listed grammar.text_names name ≡ true) × (taken TextPart text_row ≡ t)) (is_listed grammar.text_names name) (taken TextPart text_row)
        None (λ h. (h, refl)) (no_take _) t is

    module _ (around : Between) (linked : Bool) (enter exit : Event) (kids ns : Nodes) where
      abbrev text_node : Node
      text_node = Around enter kids exit

      -- what the node spells
      abbrev own_parts : Inlines
      own_parts =
          text_part names bytes linked enter.name (text_of bytes text_node) kids (text_within names bytes (linked || same_name enter.name n.Link) kids)

      text_is_on : Within is_text kids → Within (is_text_or_label told_names) kids
          → (same_name enter.name n.GfmFootnoteCall ≡ true → AreWithout outside_strings kids) → is_listed grammar.text_names enter.name ≡ true
          → is_filled around Plain text_node ≡ true → TextIsOn on own_parts → IsToldOn on text_node
      text_is_on within labelled calls listed filled h =
          elim (or_cases (is_quiet Plain enter.name) (is_listed part_names enter.name) (part_named enter.name listed)) [
            | inl quiet ↦ quiet_node_on around Plain text_node quiet filled
            | inr told ↦
                let own = claims around linked kids within labelled enter.name told filled calls (text_of bytes text_node) h in (λ is. own.0, own.1)
          ]

      text_child : Within is_text kids → Within (is_text_or_label told_names) kids
          → (same_name enter.name n.GfmFootnoteCall ≡ true → AreWithout outside_strings kids)
          → (ends (left_by around text_row ns) ≡ true → AreToldOn on ns) → TextIsOn on own_parts → (t : Option Taken) → take_child text_row enter.name ≡ t
          → ends (left_after t text_row (stands_between around enter.name) (λ form. is_filled around form text_node) (λ rest. left_by around rest ns)) ≡ true
          → IsToldOn on text_node × AreToldOn on ns
      text_child within labelled calls others h (Some t) is e =
          let taken_as = text_taken enter.name t is in
          if_ends (IsToldOn on text_node × AreToldOn on ns) (is_filled around t.form text_node) (left_by around t.rest ns) ends refl
          (λ filled left. (
            text_is_on within labelled calls taken_as.0 (ap (λ (t : Taken). is_filled around t.form text_node) taken_as.1 ∙ filled) h,
            others (ap (λ (t : Taken). ends (left_by around t.rest ns)) taken_as.1 ∙ left),
          )) e
      text_child within labelled calls others h None is e =
          if_ends (IsToldOn on text_node × AreToldOn on ns) (stands_between around enter.name && is_filled around Plain text_node)
          (left_by around text_row ns) ends refl
          (λ both left.
          let parts = and_parts (stands_between around enter.name) (is_filled around Plain text_node) both in (
            quiet_node_on around Plain text_node (between_passes (is_quiet Plain) refl refl around enter.name parts.0) parts.1,
            others left,
          )) e

    mutual
      pub texts_on : (ns : Nodes) (around : Between) (linked : Bool) → ends (left_by around text_row ns) ≡ true → AreKnown ns
          → TextIsOn on (inlines_of names bytes linked ns) → AreToldOn on ns
      texts_on Nil around linked e known h = tt
      texts_on (Cons (Around enter kids exit) ns) around linked e known h =
          let both = parts_of_both on (own_parts around linked enter exit kids ns) (inlines_of names bytes linked ns) h in
          text_child around linked enter exit kids ns (in_text kids known.0.2) (in_label kids known.0.2) known.0.0
          (λ left. texts_on ns around linked left known.1 both.1) both.0 (take_child text_row enter.name) refl e

      -- around a text
      pub in_text : (kids : Nodes) → AreKnown kids → Within is_text kids
      in_text Nil known around linked slots spells e h = tt
      in_text (Cons (Around enter kids exit) ns) known around linked slots spells e h =
          within_child is_text around linked (Around enter kids exit) ns slots spells
          (λ form held filled own.
          held_text around linked form enter exit kids ns (λ around left parts. texts_on kids around linked left known.0.2 parts) held filled own)
          (λ slots spells left others. in_text ns known.1 around linked slots spells left others) (take_child slots enter.name) refl e h

      -- around a label with a text
      pub in_label : (kids : Nodes) → AreKnown kids → Within (is_text_or_label told_names) kids
      in_label Nil known around linked slots spells e h = tt
      in_label (Cons (Around enter kids exit) ns) known around linked slots spells e h =
          within_child (is_text_or_label told_names) around linked (Around enter kids exit) ns slots spells
          (λ form held filled own. elim (cases_Bool (is_listed text_names enter.name)) [
            | inl listed ↦
                held_text around linked form enter exit kids ns (λ around left parts. texts_on kids around linked left known.0.2 parts) listed filled own
            | inr other ↦
                held_label around linked form enter exit kids ns (in_text kids known.0.2) other
                (ap (λ (b : Bool). b || (same_name enter.name n.Label && spells_in told_names is_text (row enter.name form))) (sym other) ∙ held) filled own
          ])
          (λ slots spells left others. in_label ns known.1 around linked slots spells left others) (take_child slots enter.name) refl e h
