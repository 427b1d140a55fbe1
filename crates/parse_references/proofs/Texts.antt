-- Nodes of a text lead on where what they spell does.
use Rattle.std.proofs.Common.{inl, inr, ◌≡◌, ℕ, Bool, true, false, ◌&&◌, ◌||◌, List, [], ◌∷◌, Option, None, Some, refl, sym, ap, subst, ◌∙◌}
use Rattle.std.proofs.lemmas.Bool.{and_parts, cases_Bool, cond-false, cond-true, not-true, or_cases, true≢false}
use Rattle.std.specs.Prelude.{if◌then◌else◌, is_some, not}
use Rattle.std.specs.Option.{option_map, option_or}
use denote.Enum.Bare.{same_true}
use Rattle.engine_events.specs.contracts.event.Name.{the_type}
use Rattle.engine_events.specs.declared.event.Event.{Event}
use Rattle.engine_events.specs.Names.{same_name, is_listed}
use Rattle.engine_events.specs.declared.event.Name.{Name}
use Rattle.engine_events.specs.declared.event.Name.TheVariants as n
use Rattle.definition_inline.specs.CharacterReference.{Names}
use Rattle.definition_inline.specs.Inline.{Target, Reference, Inlines}
use Rattle.event_grammar.specs.declared.slot.Between.{Between}
use Rattle.event_grammar.specs.declared.slot.Child.TheVariants.{TextPart}
use Rattle.event_grammar.specs.declared.slot.Form.{Form}
use Rattle.event_grammar.specs.declared.slot.Form.TheVariants.{Plain}
use Rattle.event_grammar.specs.declared.slot.Slot.{Slot}
use Rattle.event_grammar.specs.Grammar.{line_names, link_names, row, space_names, text_row}
use Rattle.event_grammar.specs.Grammar as grammar
use Rattle.event_grammar.specs.InGrammar.{kids_of, node_name}
use Rattle.event_grammar.specs.References.{is_defined, label_text, leads_on, media_names, own, own_label}
use Rattle.event_grammar.specs.Slots.{Taken, take_child, taken, between_of, stands_between}
use Rattle.event_grammar.specs.Trees.{Node, Nodes, Around, Nil, Cons}
use Rattle.event_meaning.specs.Children.{text_of}
use Rattle.event_meaning.specs.Texts.{inlines_of, label_or_none, text_names, text_part, text_within}
use Rattle.parse_slots.specs.Left.{ends, is_filled, left_after, left_by}
use Rattle.parse_references.specs.Laws.{TextsLeadOn}
use Rattle.parse_references.specs.Leads.{AreBare, HoldBareCalls, is_among, LeadOn, LeadsOn, PartsLead, TargetLeads}
use Rattle.parse_references.proofs.Around.{depth, is_dark, is_text, is_text_or_label, spells_in, taken_in, text_rows}
use Rattle.parse_references.proofs.Bare.{bare_kids, bare_lead, bare_leads, bare_node, leads_alone, unlinked}
use Rattle.parse_references.proofs.Parts.{alike_lead, parts_of_both}
use Rattle.parse_references.proofs.Rows.{all_pass, between_passes, if_ends, is_bare, no_take, took_or}

-- ---- names

-- a part of a text is bare, or one of these
abbrev holding_names : List Name
holding_names = n.Emphasis ∷ n.Strong ∷ n.GfmStrikethrough ∷ n.Mark ∷ n.Link ∷ n.Image ∷ n.GfmFootnoteCall ∷ []

abbrev is_part : Name → Bool
is_part name = is_bare depth Plain name || is_listed holding_names name

part_named : (name : Name) → is_listed grammar.text_names name ≡ true → is_part name ≡ true
part_named name listed = all_pass is_part grammar.text_names name refl listed

-- the same of each of these names
holding_case : (P : Name → Type 0) → P n.Emphasis → P n.Strong → P n.GfmStrikethrough → P n.Mark → P n.Link → P n.Image → P n.GfmFootnoteCall
    → (name : Name) → is_listed holding_names name ≡ true → P name
holding_case P a b c d e f g n.Emphasis listed = a
holding_case P a b c d e f g n.Strong listed = b
holding_case P a b c d e f g n.GfmStrikethrough listed = c
holding_case P a b c d e f g n.Mark listed = d
holding_case P a b c d e f g n.Link listed = e
holding_case P a b c d e f g n.Image listed = f
holding_case P a b c d e f g n.GfmFootnoteCall listed = g
holding_case P a b c d e f g name listed = absurd (true≢false (sym listed))

or_false : (b : Bool) → (b || false) ≡ b
or_false true = refl
or_false false = refl

and_false : (b : Bool) → (b && false) ≡ false
and_false true = refl
and_false false = refl

module _ (names : Names) (bytes : List ℕ) (links footnotes : List (List ℕ)) where
  abbrev Parts : Bool → Inlines → Type 0
  Parts linked is = PartsLead (is_among links) (is_among footnotes) linked is

  abbrev Lead : Bool → Nodes → Type 0
  Lead linked ns = LeadOn bytes links footnotes linked ns

  -- ---- labels

  target_label : (b : Bool) (label : Option (List ℕ)) (resource : Target)
      → TargetLeads (is_among links) (is_among footnotes) (if b then resource else Reference (label_or_none names bytes (if b then None else label)))
      → is_defined links (if b then None else label) ≡ true
  target_label true label resource h = refl
  target_label false None resource h = refl
  target_label false (Some label) resource h = h

  call_label : (label : Option (List ℕ)) → is_among footnotes (label_or_none names bytes label) ≡ true → is_defined footnotes label ≡ true
  call_label None h = refl
  call_label (Some label) h = h

  -- ---- children

  -- what is in an event of this name leads on, and so does the event, if what it spells does; where its text is in a link or isn't
  abbrev Claim : Between → Bool → Bool → Nodes → Name → Type 0
  Claim around linked inner kids name =
      ends (left_by (between_of (row name Plain) around name) (row name Plain) kids) ≡ true
      → (same_name name n.GfmFootnoteCall ≡ true → AreBare kids)
      → (text : List ℕ) → Parts linked (text_part names bytes inner name text kids (text_within names bytes (inner || same_name name n.Link) kids))
      → ((linked && is_listed link_names name) ≡ false) × (leads_on bytes links footnotes name kids ≡ true) × Lead (linked || is_listed link_names name) kids

  -- children of an event around a text lead on, if the text does
  abbrev Within : (Form → Name → Bool) → Nodes → Type 0
  Within holds kids =
      (around : Between) (linked inner : Bool) (slots : List Slot) → spells_in media_names holds slots ≡ true → ends (left_by around slots kids) ≡ true
      → Parts linked (text_within names bytes inner kids) → Lead linked kids

  span_claim : (around : Between) (linked inner : Bool) (kids : Nodes) (name : Name) → Within is_text kids → spells_in media_names is_text (row name Plain) ≡ true
      → ends (left_by (between_of (row name Plain) around name) (row name Plain) kids) ≡ true
      → Parts linked (text_within names bytes (inner || false) kids) → Lead (linked || false) kids
  span_claim around linked inner kids name within spells e h =
      within (between_of (row name Plain) around name) (linked || false) (inner || false) (row name Plain) spells e
      (subst (λ b. Parts b (text_within names bytes (inner || false) kids)) (sym (or_false linked)) h)

  claims : (around : Between) (linked inner : Bool) (kids : Nodes) → Within is_text kids → Within (is_text_or_label media_names) kids → (name : Name)
      → is_listed holding_names name ≡ true → Claim around linked inner kids name
  claims around linked inner kids within labelled =
      holding_case (Claim around linked inner kids)
      (λ e bare text h. (and_false linked, refl, span_claim around linked inner kids n.Emphasis within refl e h.0))
      (λ e bare text h. (and_false linked, refl, span_claim around linked inner kids n.Strong within refl e h.0))
      (λ e bare text h. (and_false linked, refl, span_claim around linked inner kids n.GfmStrikethrough within refl e h.0))
      (λ e bare text h. (and_false linked, refl, span_claim around linked inner kids n.Mark within refl e h.0))
      (λ e bare text h. (
        h.0.0,
        target_label (is_some (own n.Resource kids)) (option_or (option_map (label_text bytes) (own n.ReferenceString kids)) (option_map (label_text bytes) (own n.LabelText kids))) _ h.0.1,
        labelled (between_of (row n.Link Plain) around n.Link) (linked || true) (inner || true) (row n.Link Plain) refl e h.0.2,
      ))
      (λ e bare text h. (
        and_false linked,
        target_label (is_some (own n.Resource kids)) (option_or (option_map (label_text bytes) (own n.ReferenceString kids)) (option_map (label_text bytes) (own n.LabelText kids))) _ h.0.1,
        labelled (between_of (row n.Image Plain) around n.Image) (linked || false) (inner || false) (row n.Image Plain) refl e h.0.2,
      ))
      (λ e bare text h.
      (ap (λ (b : Bool). b && true) h.0.0, call_label (own_label bytes kids) h.0.1, bare_lead bytes links footnotes (linked || true) kids (bare refl)))

  -- ---- an event around a text

  -- no link, image or call, around what leads on
  plain_leads : (linked : Bool) (node : Node) → is_listed media_names (node_name node) ≡ false → Lead linked (kids_of node)
      → LeadsOn bytes links footnotes linked node
  plain_leads linked (Around enter kids exit) other h =
      let apart = unlinked bytes links footnotes enter.name other in (
        ap (λ (b : Bool). linked && b) apart ∙ and_false linked,
        leads_alone bytes links footnotes enter.name kids other,
        subst (λ b. Lead b kids) (sym (ap (λ (b : Bool). linked || b) apart ∙ or_false linked)) h,
      )

  -- what holds a text
  held_text : (around : Between) (linked inner : Bool) (form : Form) (enter exit : Event) (kids ns : Nodes)
      → ((around : Between) → ends (left_by around text_row kids) ≡ true → Parts linked (inlines_of names bytes inner kids) → Lead linked kids)
      → is_listed text_names enter.name ≡ true → is_filled around form (Around enter kids exit) ≡ true
      → Parts linked (text_within names bytes inner (Cons (Around enter kids exit) ns)) → LeadsOn bytes links footnotes linked (Around enter kids exit)
  held_text around linked inner form enter exit kids ns texts listed filled h =
      plain_leads linked (Around enter kids exit)
      (not-true (is_listed media_names enter.name) (all_pass (λ name. not (is_listed media_names name)) text_names enter.name refl listed))
      (texts (between_of text_row around enter.name)
      (subst (λ slots. ends (left_by (between_of slots around enter.name) slots kids) ≡ true) (text_rows enter.name listed form) filled)
      (subst (Parts linked) (cond-true (is_listed text_names enter.name) (inlines_of names bytes inner kids) _ listed) h))

  -- a label, which holds one
  held_label : (around : Between) (linked inner : Bool) (form : Form) (enter exit : Event) (kids ns : Nodes) → Within is_text kids
      → is_listed text_names enter.name ≡ false → (same_name enter.name n.Label && spells_in media_names is_text (row enter.name form)) ≡ true
      → is_filled around form (Around enter kids exit) ≡ true
      → Parts linked (text_within names bytes inner (Cons (Around enter kids exit) ns)) → LeadsOn bytes links footnotes linked (Around enter kids exit)
  held_label around linked inner form enter exit kids ns within other label filled h =
      let parts = and_parts (same_name enter.name n.Label) (spells_in media_names is_text (row enter.name form)) label in
      plain_leads linked (Around enter kids exit)
      (subst (λ name. is_listed media_names name ≡ false) (sym (same_true the_type tt enter.name n.Label parts.0)) refl)
      (within (between_of (row enter.name form) around enter.name) linked inner (row enter.name form) parts.1 filled
      (subst (Parts linked)
      (cond-false (is_listed text_names enter.name) _ _ other
      ∙ cond-true (same_name enter.name n.Label) (text_within names bytes inner kids) _ parts.0) h))

  -- nothing is looked for in an event with a dark name
  dark_skips : (inner : Bool) (form : Form) (node : Node) (ns : Nodes) → is_dark media_names form (node_name node) ≡ true
      → text_within names bytes inner (Cons node ns) ≡ text_within names bytes inner ns
  dark_skips inner form (Around enter kids exit) ns dark =
      let parts = and_parts (is_bare depth form enter.name) (not (is_listed text_names enter.name) && not (same_name enter.name n.Label)) dark in
      let names_apart = and_parts (not (is_listed text_names enter.name)) (not (same_name enter.name n.Label)) parts.1 in
      cond-false (is_listed text_names enter.name) _ _ (not-true (is_listed text_names enter.name) names_apart.0)
      ∙ cond-false (same_name enter.name n.Label) _ _ (not-true (same_name enter.name n.Label) names_apart.1)

  -- a child, and those after it
  module _ (holds : Form → Name → Bool) (around : Between) (linked inner : Bool) (node : Node) (ns : Nodes) where
    abbrev Both : Type 0
    Both = LeadsOn bytes links footnotes linked node × Lead linked ns

    abbrev Own : Type 0
    Own = (form : Form) → holds form (node_name node) ≡ true → is_filled around form node ≡ true → Parts linked (text_within names bytes inner (Cons node ns))
        → LeadsOn bytes links footnotes linked node

    abbrev Others : Type 0
    Others = (slots : List Slot) → spells_in media_names holds slots ≡ true → ends (left_by around slots ns) ≡ true → Parts linked (text_within names bytes inner ns)
        → Lead linked ns

    dark_child : (form : Form) (slots : List Slot) → is_dark media_names form (node_name node) ≡ true → is_filled around form node ≡ true
        → spells_in media_names holds slots ≡ true → ends (left_by around slots ns) ≡ true → Others → Parts linked (text_within names bytes inner (Cons node ns)) → Both
    dark_child form slots dark filled spells left others h =
        let bare = (and_parts (is_bare depth form (node_name node)) _ dark).0 in (
          bare_leads bytes links footnotes linked node (bare_node around node depth form bare filled),
          others slots spells left (subst (Parts linked) (dark_skips inner form node ns dark) h),
        )

    within_child : (slots : List Slot) → spells_in media_names holds slots ≡ true → Own → Others → (t : Option Taken) → take_child slots (node_name node) ≡ t
        → ends (left_after t slots (stands_between around (node_name node)) (λ form. is_filled around form node) (λ rest. left_by around rest ns)) ≡ true
        → Parts linked (text_within names bytes inner (Cons node ns)) → Both
    within_child slots spells own others (Some t) is e h =
        if_ends Both (is_filled around t.form node) (left_by around t.rest ns) ends refl
        (λ filled left. elim (taken_in media_names holds (node_name node) slots spells t is) [
          | inl dark ↦ dark_child t.form t.rest dark.0 filled dark.1 left others h
          | inr held ↦ (own t.form held.0 filled h, bare_lead bytes links footnotes linked ns (bare_kids around ns depth t.rest held.1 left))
        ]) e
    within_child slots spells own others None is e h =
        if_ends Both (stands_between around (node_name node) && is_filled around Plain node) (left_by around slots ns) ends refl
        (λ both left.
        let parts = and_parts (stands_between around (node_name node)) (is_filled around Plain node) both in
        dark_child Plain slots (between_passes (is_dark media_names Plain) refl refl around (node_name node) parts.0) parts.1 spells left others h) e

  -- ---- a text

  text_taken : (name : Name) (t : Taken) → take_child text_row name ≡ Some t
      → (is_listed grammar.text_names name ≡ true) × (taken TextPart text_row ≡ t)
  text_taken name t is =
      took_or (λ t. (is_listed grammar.text_names name ≡ true) × (taken TextPart text_row ≡ t)) (is_listed grammar.text_names name) (taken TextPart text_row) None
      (λ h. (h, refl)) (no_take _) t is

  module _ (around : Between) (linked inner : Bool) (enter exit : Event) (kids ns : Nodes) where
    abbrev text_node : Node
    text_node = Around enter kids exit

    -- what the node spells
    abbrev own_parts : Inlines
    own_parts =
        text_part names bytes inner enter.name (text_of bytes text_node) kids (text_within names bytes (inner || same_name enter.name n.Link) kids)

    text_leads : Within is_text kids → Within (is_text_or_label media_names) kids → (same_name enter.name n.GfmFootnoteCall ≡ true → AreBare kids)
        → is_listed grammar.text_names enter.name ≡ true → is_filled around Plain text_node ≡ true → Parts linked own_parts
        → LeadsOn bytes links footnotes linked text_node
    text_leads within labelled calls listed filled h =
        elim (or_cases (is_bare depth Plain enter.name) (is_listed holding_names enter.name) (part_named enter.name listed)) [
          | inl bare ↦ bare_leads bytes links footnotes linked text_node (bare_node around text_node depth Plain bare filled)
          | inr held ↦ claims around linked inner kids within labelled enter.name held filled calls (text_of bytes text_node) h
        ]

    text_child : Within is_text kids → Within (is_text_or_label media_names) kids → (same_name enter.name n.GfmFootnoteCall ≡ true → AreBare kids)
        → (ends (left_by around text_row ns) ≡ true → Lead linked ns) → Parts linked own_parts → (t : Option Taken) → take_child text_row enter.name ≡ t
        → ends (left_after t text_row (stands_between around enter.name) (λ form. is_filled around form text_node) (λ rest. left_by around rest ns)) ≡ true
        → LeadsOn bytes links footnotes linked text_node × Lead linked ns
    text_child within labelled calls others h (Some t) is e =
        let taken_as = text_taken enter.name t is in
        if_ends (LeadsOn bytes links footnotes linked text_node × Lead linked ns) (is_filled around t.form text_node) (left_by around t.rest ns) ends refl
        (λ filled left. (
          text_leads within labelled calls taken_as.0 (ap (λ (t : Taken). is_filled around t.form text_node) taken_as.1 ∙ filled) h,
          others (ap (λ (t : Taken). ends (left_by around t.rest ns)) taken_as.1 ∙ left),
        )) e
    text_child within labelled calls others h None is e =
        if_ends (LeadsOn bytes links footnotes linked text_node × Lead linked ns) (stands_between around enter.name && is_filled around Plain text_node)
        (left_by around text_row ns) ends refl
        (λ both left.
        let parts = and_parts (stands_between around enter.name) (is_filled around Plain text_node) both in (
          bare_leads bytes links footnotes linked text_node
              (bare_node around text_node 2 Plain (between_passes (is_bare 2 Plain) refl refl around enter.name parts.0) parts.1),
          others left,
        )) e

  mutual
    pub texts_lead : (ns : Nodes) (around : Between) (linked inner : Bool) → ends (left_by around text_row ns) ≡ true → HoldBareCalls ns
        → Parts linked (inlines_of names bytes inner ns) → Lead linked ns
    texts_lead Nil around linked inner e calls h = tt
    texts_lead (Cons (Around enter kids exit) ns) around linked inner e calls h =
        let both = parts_of_both (is_among links) (is_among footnotes) linked (own_parts around linked inner enter exit kids ns)
        (inlines_of names bytes inner ns) h in
        text_child around linked inner enter exit kids ns (in_text kids calls.0.1) (in_label kids calls.0.1) calls.0.0
        (λ left. texts_lead ns around linked inner left calls.1 both.1) both.0 (take_child text_row enter.name) refl e

    -- around a text
    pub in_text : (kids : Nodes) → HoldBareCalls kids → Within is_text kids
    in_text Nil calls around linked inner slots spells e h = tt
    in_text (Cons (Around enter kids exit) ns) calls around linked inner slots spells e h =
        within_child is_text around linked inner (Around enter kids exit) ns slots spells
        (λ form held filled own.
        held_text around linked inner form enter exit kids ns (λ around left parts. texts_lead kids around linked inner left calls.0.1 parts) held filled own)
        (λ slots spells left others. in_text ns calls.1 around linked inner slots spells left others) (take_child slots enter.name) refl e h

    -- around a label with a text
    pub in_label : (kids : Nodes) → HoldBareCalls kids → Within (is_text_or_label media_names) kids
    in_label Nil calls around linked inner slots spells e h = tt
    in_label (Cons (Around enter kids exit) ns) calls around linked inner slots spells e h =
        within_child (is_text_or_label media_names) around linked inner (Around enter kids exit) ns slots spells
        (λ form held filled own. elim (cases_Bool (is_listed text_names enter.name)) [
          | inl listed ↦
              held_text around linked inner form enter exit kids ns (λ around left parts. texts_lead kids around linked inner left calls.0.1 parts) listed filled own
          | inr other ↦
              held_label around linked inner form enter exit kids ns (in_text kids calls.0.1) other
              (ap (λ (b : Bool). b || (same_name enter.name n.Label && spells_in media_names is_text (row enter.name form))) (sym other) ∙ held) filled own
        ])
        (λ slots spells left others. in_label ns calls.1 around linked inner slots spells left others) (take_child slots enter.name) refl e h

pub texts_lead_on : TextsLeadOn
texts_lead_on names bytes links footnotes is_defined is_footnote m m' around linked is ns labels leads alike fill calls =
    texts_lead names bytes links footnotes ns around linked linked (ap ends fill.left) calls
    (alike_lead is_defined is_footnote (is_among links) (is_among footnotes) labels.defined labels.called m m' linked is
    (inlines_of names bytes linked ns) leads alike)
