-- Nodes that fill bare rows are bare, and lead on.
use Rattle.std.proofs.Common.{inl, inr, ◌≡◌, ℕ, zero, suc, Bool, true, false, ◌&&◌, ◌||◌, List, [], ◌∷◌, Option, None, Some, refl, sym, ap, ◌∙◌}
use Rattle.std.proofs.lemmas.Bool.{and_parts, and_right, cases_Bool, not-true, or_from, or_parts, true≢false}
use Rattle.std.specs.List.{list_all}
use Rattle.std.specs.Prelude.{if◌then◌else◌, not}
use Rattle.engine_events.specs.Names.{same_name, is_listed}
use Rattle.engine_events.specs.declared.event.Name.{Name}
use Rattle.engine_events.specs.declared.event.Name.TheVariants as n
use Rattle.event_grammar.specs.declared.slot.Between.{Between}
use Rattle.event_grammar.specs.declared.slot.Form.{Form}
use Rattle.event_grammar.specs.declared.slot.Form.TheVariants.{Plain}
use Rattle.event_grammar.specs.declared.slot.Slot.{Slot}
use Rattle.event_grammar.specs.Grammar.{line_names, link_names, row, space_names}
use Rattle.event_grammar.specs.InGrammar.{kids_of, node_name}
use Rattle.event_grammar.specs.References.{leads, leads_on, media_names, own_label}
use Rattle.event_grammar.specs.Slots.{may_end, Taken, take_child, between_of, stands_between}
use Rattle.event_grammar.specs.Trees.{Node, Nodes, Around, Nil, Cons}
use Rattle.parse_output.specs.Forest.{append}
use Rattle.parse_slots.specs.Left.{ends, Fill, is_filled, IsFilled, left_after, left_by}
use Rattle.parse_references.specs.Leads.{AreBare, AreWithout, HoldBareCalls, HoldsBareCalls, IsBare, IsWithout, LeadOn, LeadsOn}
use Rattle.parse_references.proofs.Rows.{all_pass, between_passes, if_ends, is_bare, is_without, row_bare, row_without, taken_without}

-- ---- by rows

module _ (off : List Name) where
  after_without : (k : ℕ) (around : Between) (slots : List Slot) (node : Node) (ns : Nodes) → row_without off k slots ≡ true
      → ((k : ℕ) (form : Form) → is_without off k form (node_name node) ≡ true → is_filled around form node ≡ true → IsWithout off node)
      → ((name : Name) → stands_between around name ≡ true → is_without off 2 Plain name ≡ true)
      → ((slots : List Slot) → row_without off k slots ≡ true → ends (left_by around slots ns) ≡ true → AreWithout off ns)
      → (t : Option Taken) → take_child slots (node_name node) ≡ t
      → ends (left_after t slots (stands_between around (node_name node)) (λ form. is_filled around form node) (λ rest. left_by around rest ns)) ≡ true
      → IsWithout off node × AreWithout off ns
  after_without k around slots node ns without own between others (Some t) is e =
      let after = taken_without off k (node_name node) slots without t is in
      if_ends (IsWithout off node × AreWithout off ns) (is_filled around t.form node) (left_by around t.rest ns) ends refl
      (λ filled left. (own k t.form after.0 filled, others t.rest after.1 left)) e
  after_without k around slots node ns without own between others None is e =
      if_ends (IsWithout off node × AreWithout off ns) (stands_between around (node_name node) && is_filled around Plain node) (left_by around slots ns) ends refl
      (λ both left.
      let parts = and_parts (stands_between around (node_name node)) (is_filled around Plain node) both in
      (own 2 Plain (between (node_name node) parts.0) parts.1, others slots without left)) e

  -- what stands between children has none of the names in it
  module _ (spaces : list_all (is_without off 2 Plain) space_names ≡ true) (lines : list_all (is_without off 2 Plain) line_names ≡ true) where
    mutual
      pub without_node : (around : Between) (node : Node) (k : ℕ) (form : Form) → is_without off k form (node_name node) ≡ true
          → is_filled around form node ≡ true → IsWithout off node
      without_node around (Around enter kids exit) zero form without filled = absurd (true≢false (sym without))
      without_node around (Around enter kids exit) (suc k) form without filled =
          let parts = and_parts (not (is_listed off enter.name)) (row_without off k (row enter.name form)) without in (
            not-true (is_listed off enter.name) parts.0,
            without_kids (between_of (row enter.name form) around enter.name) kids k (row enter.name form) parts.1 filled,
          )

      pub without_kids : (around : Between) (ns : Nodes) (k : ℕ) (slots : List Slot) → row_without off k slots ≡ true
          → ends (left_by around slots ns) ≡ true → AreWithout off ns
      without_kids around Nil k slots without e = tt
      without_kids around (Cons node ns) k slots without e =
          after_without k around slots node ns without (without_node around node) (between_passes (is_without off 2 Plain) spaces lines around)
          (without_kids around ns k) (take_child slots (node_name node)) refl e

    -- nodes that fill a row without these names
    pub without_fill : (k : ℕ) (around : Between) (slots rest : List Slot) (ns : Nodes) → row_without off k slots ≡ true → Fill around slots ns rest
        → may_end rest ≡ true → AreWithout off ns
    without_fill k around slots rest ns without fill may = without_kids around ns k slots without (ap ends fill.left ∙ may)

    -- a node of a name whose row is without these names
    pub without_filled : (k : ℕ) (around : Between) (form : Form) (name : Name) (node : Node) → node_name node ≡ name → is_without off k form name ≡ true
        → IsFilled around form node → IsWithout off node
    without_filled k around form name node is without filled = without_node around node k form (ap (is_without off k form) is ∙ without) filled.filled

-- nodes without some names are without fewer
module _ (off fewer : List Name) (among : list_all (is_listed off) fewer ≡ true) where
  not_among : (name : Name) → is_listed off name ≡ false → is_listed fewer name ≡ false
  not_among name other = elim (cases_Bool (is_listed fewer name)) [
    | inl listed ↦ absurd (true≢false (sym (all_pass (is_listed off) fewer name among listed) ∙ other))
    | inr none ↦ none
  ]

  mutual
    pub is_without_fewer : (node : Node) → IsWithout off node → IsWithout fewer node
    is_without_fewer (Around enter kids exit) h = (not_among enter.name h.0, are_without_fewer kids h.1)

    pub are_without_fewer : (ns : Nodes) → AreWithout off ns → AreWithout fewer ns
    are_without_fewer Nil h = tt
    are_without_fewer (Cons node ns) h = (is_without_fewer node h.0, are_without_fewer ns h.1)

-- ---- bare nodes

pub bare_node : (around : Between) (node : Node) (k : ℕ) (form : Form) → is_bare k form (node_name node) ≡ true → is_filled around form node ≡ true → IsBare node
bare_node = without_node media_names refl refl

pub bare_kids : (around : Between) (ns : Nodes) (k : ℕ) (slots : List Slot) → row_bare k slots ≡ true → ends (left_by around slots ns) ≡ true → AreBare ns
bare_kids = without_kids media_names refl refl

-- nodes that fill a bare row
pub bare_fill : (k : ℕ) (around : Between) (slots rest : List Slot) (ns : Nodes) → row_bare k slots ≡ true → Fill around slots ns rest
    → may_end rest ≡ true → AreBare ns
bare_fill = without_fill media_names refl refl

-- a node of a name whose row is bare
pub bare_filled : (k : ℕ) (around : Between) (form : Form) (name : Name) (node : Node) → node_name node ≡ name → is_bare k form name ≡ true
    → IsFilled around form node → IsBare node
bare_filled = without_filled media_names refl refl

-- no call is in it
mutual
  pub bare_holds : (node : Node) → IsBare node → HoldsBareCalls node
  bare_holds (Around enter kids exit) h = (λ same. h.1, bare_hold kids h.1)

  pub bare_hold : (ns : Nodes) → AreBare ns → HoldBareCalls ns
  bare_hold Nil h = tt
  bare_hold (Cons node ns) h = (bare_holds node h.0, bare_hold ns h.1)

-- ---- bare calls

pub hold_both : (ns ms : Nodes) → HoldBareCalls ns → HoldBareCalls ms → HoldBareCalls (append ns ms)
hold_both Nil ms first second = second
hold_both (Cons node ns) ms first second = (first.0, hold_both ns ms first.1 second)

-- what is no call, around what holds bare ones
pub holds_other : (node : Node) → same_name (node_name node) n.GfmFootnoteCall ≡ false → HoldBareCalls (kids_of node) → HoldsBareCalls node
holds_other (Around enter kids exit) other h = (λ same. absurd (true≢false (sym same ∙ other)), h)

-- ---- what is bare leads on

module _ (bytes : List ℕ) (links footnotes : List (List ℕ)) where
  -- none of these is a link or a call
  pub unlinked : (name : Name) → is_listed media_names name ≡ false → is_listed link_names name ≡ false
  unlinked name none =
      let link = or_parts (same_name n.Link name) (is_listed (n.Image ∷ n.GfmFootnoteCall ∷ []) name) none in
      let image = or_parts (same_name n.Image name) (is_listed (n.GfmFootnoteCall ∷ []) name) link.1 in
      or_from (same_name n.Link name) (is_listed (n.GfmFootnoteCall ∷ []) name) link.0 image.1

  pub leads_alone : (name : Name) (kids : Nodes) → is_listed media_names name ≡ false → leads_on bytes links footnotes name kids ≡ true
  leads_alone name kids none = ap (λ b. if b then leads links footnotes name (own_label bytes kids) else true) none

  mutual
    pub bare_leads : (linked : Bool) (node : Node) → IsBare node → LeadsOn bytes links footnotes linked node
    bare_leads linked (Around enter kids exit) h = (
      and_right linked (is_listed link_names enter.name) (unlinked enter.name h.0),
      leads_alone enter.name kids h.0,
      bare_lead (linked || is_listed link_names enter.name) kids h.1,
    )

    pub bare_lead : (linked : Bool) (ns : Nodes) → AreBare ns → LeadOn bytes links footnotes linked ns
    bare_lead linked Nil h = tt
    bare_lead linked (Cons node ns) h = (bare_leads linked node h.0, bare_lead linked ns h.1)
