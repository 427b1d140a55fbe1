-- Strings between markers, and destinations, fill their rows of the grammar (CommonMark 4.7 and 6.3).
use Rattle.std.proofs.Common.{◌≡◌, ℕ, true, false, List, [], ◌∷◌, Option, None, Some, inl, inr, refl, sym, subst}
use Rattle.std.proofs.lemmas.Bool.{cond-false}
use Rattle.engine_events.specs.declared.event.Name.TheVariants as n
use Rattle.event_grammar.specs.declared.slot.Between.{Between}
use Rattle.event_grammar.specs.declared.slot.Between.TheVariants.{Nothing, Spaces, Lines}
use Rattle.event_grammar.specs.declared.slot.Child.TheVariants.{Either}
use Rattle.event_grammar.specs.declared.slot.Form.TheVariants.{Plain}
use Rattle.event_grammar.specs.declared.slot.Slot.{Slot}
use Rattle.event_grammar.specs.declared.slot.Slot.TheVariants.{One}
use Rattle.event_grammar.specs.Grammar.{one as one_slot, one_line_names, opt, row, string_row}
use Rattle.event_grammar.specs.Slots.{may_end, take_child, between_of, one_line}
use Rattle.event_grammar.specs.Void.{is_empty}
use Rattle.parse_slots.specs.Left.{Fill, IsFilled, MayEndLines, took}
use Rattle.parse_references.specs.Sound.{asked_names, is_asked_on, ruled_names}
use Rattle.parse_slots.proofs.Steps.{fill_both, fill_taken, filled_by, filled_in_line, filled_void}
use Rattle.parse_links.proofs.Prelude.{append, Constructs, ends_line, Holds, is_listed, IsInner, IsQuoted, IsRaw, IsStringNode, IsVoidOf, kids_of, list_any}
use Rattle.parse_links.proofs.Prelude.{Name, Names, Node, node_name, Nodes, one, PlaceNames, some_nodes}

-- where no line may end around an event, none may in it
pub may_in : (around : Between) (name : Name) (bytes : List ℕ) → is_listed one_line_names name ≡ false → MayEndLines around bytes
    → MayEndLines (one_line around name) bytes
may_in Nothing name bytes other may = absurd may
may_in Spaces name bytes other may = may
may_in Lines name bytes other may =
    subst (λ (around : Between). MayEndLines around bytes) (sym (cond-false (is_listed one_line_names name) Spaces Lines other)) tt

-- ---- rows

-- an event that holds the parts of a string
pub record HasStringRow (name : Name) : Type 0 where
  pub row_is : row name Plain ≡ string_row
  pub lines : is_listed one_line_names name ≡ false
  pub unruled : is_listed ruled_names name ≡ false
  pub made : (on : Constructs) → is_asked_on on name ≡ true

abbrev pub last_slot : Name → List Slot
last_slot marker = one_slot marker ∷ []

-- an event that holds a marker, a string at this slot, and the marker again
pub record HasMarkedRow (outer marker string : Name) (slot : Slot) : Type 0 where
  pub row_is : row outer Plain ≡ one_slot marker ∷ slot ∷ last_slot marker
  pub lines : is_listed one_line_names outer ≡ false
  pub void : may_end (row marker Plain) ≡ true
  pub held : HasStringRow string
  pub takes_first : take_child (one_slot marker ∷ slot ∷ last_slot marker) marker ≡ Some (took Plain (slot ∷ last_slot marker))
  pub takes_held : take_child (slot ∷ last_slot marker) string ≡ Some (took Plain (last_slot marker))
  pub takes_last : take_child (last_slot marker) marker ≡ Some (took Plain [])
  pub unasked : is_listed asked_names outer ≡ false
  pub unasked_marker : is_listed asked_names marker ≡ false

-- the string may be left out
abbrev pub MayBeEmpty : Name → Slot → Type 0
MayBeEmpty marker slot = take_child (slot ∷ last_slot marker) marker ≡ Some (took Plain [])

-- an event that holds a string alone
pub record HasBareRow (outer string : Name) : Type 0 where
  pub row_is : row outer Plain ≡ one_slot string ∷ []
  pub lines : is_listed one_line_names outer ≡ false
  pub held : HasStringRow string
  pub takes : take_child (one_slot string ∷ []) string ≡ Some (took Plain [])
  pub unasked : is_listed asked_names outer ≡ false

abbrev pub destination_slots : Name → Name → List Slot
destination_slots literal raw = One (Either literal raw) ∷ []

-- an event that holds a destination, in brackets or not
pub record HasPlaceRow (outer literal marker raw string : Name) : Type 0 where
  pub row_is : row outer Plain ≡ destination_slots literal raw
  pub listed : is_listed one_line_names outer ≡ true
  pub takes_literal : take_child (destination_slots literal raw) literal ≡ Some (took Plain [])
  pub takes_raw : take_child (destination_slots literal raw) raw ≡ Some (took Plain [])
  pub in_brackets : HasMarkedRow literal marker string (opt string)
  pub may_be_empty : MayBeEmpty marker (opt string)
  pub bare : HasBareRow raw string
  pub unasked : is_listed asked_names outer ≡ false

-- by names that are the same
pub place_renamed : {outer literal marker raw string o l m r s : Name} → outer ≡ o → literal ≡ l → marker ≡ m → raw ≡ r → string ≡ s → HasPlaceRow o l m r s
    → HasPlaceRow outer literal marker raw string
place_renamed {outer = outer} {literal = literal} {marker = marker} {raw = raw} {l = l} {m = m} {r = r} {s = s} one_is two_is three_is four_is five_is has =
    subst (λ (x : Name). HasPlaceRow outer literal marker raw x) (sym five_is)
    (subst (λ (x : Name). HasPlaceRow outer literal marker x s) (sym four_is)
    (subst (λ (x : Name). HasPlaceRow outer literal x r s) (sym three_is)
    (subst (λ (x : Name). HasPlaceRow outer x m r s) (sym two_is) (subst (λ (x : Name). HasPlaceRow x l m r s) (sym one_is) has))))

-- ---- nodes

module _ (on : Constructs) (names : Names) (text : List ℕ) where
  pub string_filled : (around : Between) (name : Name) (string : List ℕ) (node : Node) → HasStringRow name → IsStringNode on names text name string node
      → MayEndLines around string → IsFilled around Plain node
  string_filled around name string node has is may =
      filled_by around Plain name string_row node is.named
      (subst (λ (slots : List Slot). Fill (between_of slots around name) slots (kids_of node) string_row) (sym has.row_is)
      (is.fill (one_line around name) (may_in around name string has.lines may))) refl

  -- ---- strings between markers

  mark_taken : (around : Between) (slots rest : List Slot) (marker : Name) (node : Node) → IsVoidOf marker node → may_end (row marker Plain) ≡ true
      → take_child slots marker ≡ Some (took Plain rest) → Fill around slots (one node) rest
  mark_taken around slots rest marker node is void takes =
      fill_taken around slots marker Plain rest node is.0 takes (filled_void around Plain marker node is.0 is.1 void)

  tail_fill : (around : Between) (outer marker string : Name) (slot : Slot) (bytes : List ℕ) (held : Option Node) (last : Node)
      → HasMarkedRow outer marker string slot → (held ≡ None → MayBeEmpty marker slot) → Holds on names text string bytes held → IsVoidOf marker last
      → MayEndLines around bytes → Fill around (slot ∷ last_slot marker) (append (some_nodes held) (one last)) []
  tail_fill around outer marker inside slot bytes None last has empty holds is may =
      mark_taken around (slot ∷ last_slot marker) [] marker last is has.void (empty refl)
  tail_fill around outer marker inside slot bytes (Some node) last has empty holds is may =
      fill_both
      (fill_taken around (slot ∷ last_slot marker) inside Plain (last_slot marker) node holds.named has.takes_held
      (string_filled around inside bytes node has.held holds may))
      (mark_taken around (last_slot marker) [] marker last is has.void has.takes_last)

  -- a title, a label, a destination in angle brackets, or a reference
  pub marked_filled : (around : Between) (outer marker string : Name) (slot : Slot) (bytes : List ℕ) (node : Node) → HasMarkedRow outer marker string slot
      → (is : IsQuoted on names text outer marker string bytes node) → (is.held ≡ None → MayBeEmpty marker slot) → MayEndLines around bytes
      → IsFilled around Plain node
  marked_filled around outer marker string slot bytes node has is empty may =
      let within = one_line around outer in
      filled_by around Plain outer [] node is.named
      (subst (λ (slots : List Slot). Fill (between_of slots around outer) slots (kids_of node) []) (sym has.row_is)
      (subst (λ (ns : Nodes). Fill within (one_slot marker ∷ slot ∷ last_slot marker) ns []) (sym is.kids)
      (fill_both
      (mark_taken within (one_slot marker ∷ slot ∷ last_slot marker) (slot ∷ last_slot marker) marker is.first is.void_first has.void has.takes_first)
      (tail_fill within outer marker string slot bytes is.held is.last has empty is.holds is.void_last (may_in around outer bytes has.lines may))))) refl

  -- ---- destinations

  raw_filled : (around : Between) (outer string : Name) (bytes : List ℕ) (node : Node) → HasBareRow outer string → IsRaw on names text outer string bytes node
      → MayEndLines around bytes → IsFilled around Plain node
  raw_filled around outer string bytes node has is may =
      let within = one_line around outer in
      filled_by around Plain outer [] node is.named
      (subst (λ (slots : List Slot). Fill (between_of slots around outer) slots (kids_of node) []) (sym has.row_is)
      (subst (λ (ns : Nodes). Fill within (one_slot string ∷ []) ns []) (sym is.kids)
      (fill_taken within (one_slot string ∷ []) string Plain [] is.held is.holds.named has.takes
      (string_filled within string bytes is.held has.held is.holds (may_in around outer bytes has.lines may))))) refl

  inner_fill : (q : PlaceNames) (string : List ℕ) (inner : Node) → HasPlaceRow q.destination q.literal.outer q.literal.marker q.raw q.literal.string
      → IsInner on names text q string inner → list_any ends_line string ≡ false → Fill Spaces (destination_slots q.literal.outer q.raw) (one inner) []
  inner_fill q string inner has (inl is) dark =
      fill_taken Spaces (destination_slots q.literal.outer q.raw) q.literal.outer Plain [] inner is.named has.takes_literal
      (marked_filled Spaces q.literal.outer q.literal.marker q.literal.string (opt q.literal.string) string inner has.in_brackets is
      (λ none. has.may_be_empty) dark)
  inner_fill q string inner has (inr is) dark =
      fill_taken Spaces (destination_slots q.literal.outer q.raw) q.raw Plain [] inner is.named has.takes_raw
      (raw_filled Spaces q.raw q.literal.string string inner has.bare is dark)

  -- a destination, which is in one line
  pub place_filled : (around : Between) (q : PlaceNames) (string : List ℕ) (node inner : Node)
      → HasPlaceRow q.destination q.literal.outer q.literal.marker q.raw q.literal.string → node_name node ≡ q.destination → kids_of node ≡ one inner
      → IsInner on names text q string inner → list_any ends_line string ≡ false → IsFilled around Plain node
  place_filled around q string node inner has named kids is dark =
      filled_in_line around Plain q.destination [] node named
      (subst (λ (slots : List Slot). is_empty slots ≡ false) (sym has.row_is) refl) has.listed
      (subst (λ (slots : List Slot). Fill Spaces slots (kids_of node) []) (sym has.row_is)
      (subst (λ (ns : Nodes). Fill Spaces (destination_slots q.literal.outer q.raw) ns []) (sym kids) (inner_fill q string inner has is dark))) refl

-- ---- their names

string_row_by : (name : Name) → row name Plain ≡ string_row → is_listed one_line_names name ≡ false → is_listed ruled_names name ≡ false
    → ((on : Constructs) → is_asked_on on name ≡ true) → HasStringRow name
string_row_by name is lines unruled made = record { row_is = is; lines = lines; unruled = unruled; made = made }

pub definition_label : HasMarkedRow n.DefinitionLabel n.DefinitionLabelMarker n.DefinitionLabelString (one_slot n.DefinitionLabelString)
definition_label = record {
  row_is = refl;
  lines = refl;
  void = refl;
  held = string_row_by n.DefinitionLabelString refl refl refl (λ on. refl);
  takes_first = refl;
  takes_held = refl;
  takes_last = refl;
  unasked = refl;
  unasked_marker = refl;
}

pub definition_title : HasMarkedRow n.DefinitionTitle n.DefinitionTitleMarker n.DefinitionTitleString (opt n.DefinitionTitleString)
definition_title = record {
  row_is = refl;
  lines = refl;
  void = refl;
  held = string_row_by n.DefinitionTitleString refl refl refl (λ on. refl);
  takes_first = refl;
  takes_held = refl;
  takes_last = refl;
  unasked = refl;
  unasked_marker = refl;
}

definition_brackets : HasMarkedRow n.DefinitionDestinationLiteral n.DefinitionDestinationLiteralMarker n.DefinitionDestinationString
    (opt n.DefinitionDestinationString)
definition_brackets = record {
  row_is = refl;
  lines = refl;
  void = refl;
  held = string_row_by n.DefinitionDestinationString refl refl refl (λ on. refl);
  takes_first = refl;
  takes_held = refl;
  takes_last = refl;
  unasked = refl;
  unasked_marker = refl;
}

pub definition_place : HasPlaceRow n.DefinitionDestination n.DefinitionDestinationLiteral n.DefinitionDestinationLiteralMarker n.DefinitionDestinationRaw
    n.DefinitionDestinationString
definition_place = record {
  row_is = refl;
  listed = refl;
  takes_literal = refl;
  takes_raw = refl;
  in_brackets = definition_brackets;
  may_be_empty = refl;
  bare = record { row_is = refl; lines = refl; held = string_row_by n.DefinitionDestinationString refl refl refl (λ on. refl); takes = refl; unasked = refl };
  unasked = refl;
}

pub resource_title : HasMarkedRow n.ResourceTitle n.ResourceTitleMarker n.ResourceTitleString (opt n.ResourceTitleString)
resource_title = record {
  row_is = refl;
  lines = refl;
  void = refl;
  held = string_row_by n.ResourceTitleString refl refl refl (λ on. refl);
  takes_first = refl;
  takes_held = refl;
  takes_last = refl;
  unasked = refl;
  unasked_marker = refl;
}

resource_brackets : HasMarkedRow n.ResourceDestinationLiteral n.ResourceDestinationLiteralMarker n.ResourceDestinationString (opt n.ResourceDestinationString)
resource_brackets = record {
  row_is = refl;
  lines = refl;
  void = refl;
  held = string_row_by n.ResourceDestinationString refl refl refl (λ on. refl);
  takes_first = refl;
  takes_held = refl;
  takes_last = refl;
  unasked = refl;
  unasked_marker = refl;
}

pub resource_place : HasPlaceRow n.ResourceDestination n.ResourceDestinationLiteral n.ResourceDestinationLiteralMarker n.ResourceDestinationRaw
    n.ResourceDestinationString
resource_place = record {
  row_is = refl;
  listed = refl;
  takes_literal = refl;
  takes_raw = refl;
  in_brackets = resource_brackets;
  may_be_empty = refl;
  bare = record { row_is = refl; lines = refl; held = string_row_by n.ResourceDestinationString refl refl refl (λ on. refl); takes = refl; unasked = refl };
  unasked = refl;
}

pub reference : HasMarkedRow n.Reference n.ReferenceMarker n.ReferenceString (opt n.ReferenceString)
reference = record {
  row_is = refl;
  lines = refl;
  void = refl;
  held = string_row_by n.ReferenceString refl refl refl (λ on. refl);
  takes_first = refl;
  takes_held = refl;
  takes_last = refl;
  unasked = refl;
  unasked_marker = refl;
}
