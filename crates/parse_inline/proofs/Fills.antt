-- Parts of a text in the row of a text, and events that hold parts (CommonMark 6).
use Rattle.std.proofs.Common.{inl, inr, ◌≡◌, ◌<◌, ℕ, Bool, true, false, ◌&&◌, ◌||◌, if◌then◌else◌, List, [], ◌∷◌, Option, None, Some}
use Rattle.std.proofs.Common.{refl, sym, ap, ◌∙◌, subst}
use Rattle.parse_inline.proofs.Prelude.{and_parts, cases_Bool, cond-false, cond-true, Cons, End, end_after, is_listed, kids_of, Name, Nil, Node, node_name}
use Rattle.parse_inline.proofs.Prelude.{Nodes, same_name, the_type, true≢false, void_nodes}
use Rattle.std.proofs.lemmas.Bool.{or_cases}
use denote.Enum.Bare.{same_true}
use Rattle.engine_events.specs.declared.event.Name.TheVariants as n
use Rattle.event_grammar.specs.declared.slot.Between.{Between}
use Rattle.event_grammar.specs.declared.slot.Between.TheVariants.{Nothing, Spaces, Lines}
use Rattle.event_grammar.specs.declared.slot.Form.{Form}
use Rattle.event_grammar.specs.declared.slot.Form.TheVariants.{Plain}
use Rattle.event_grammar.specs.declared.slot.Slot.{Slot}
use Rattle.event_grammar.specs.Grammar.{line_names, one_line_names, row, space_names, string_names, string_row, text_names, text_row}
use Rattle.event_grammar.specs.Slots.{between_of, may_end, stands_between, take_child, Taken}
use Rattle.event_grammar.specs.Void.{is_empty}
use Rattle.parse_slots.specs.Left.{Fill, is_filled, IsFilled, left_after, left_by, MayEndLines, TakesNoBetween, took}
use Rattle.parse_slots.proofs.Steps.{filled_by, left_between, left_taken}
use Rattle.parse_slots.proofs.Voids.{void_taken}
use Rattle.parse_references.specs.Sound.{holding_names}
use Rattle.parse_inline.proofs.Kids.{moved}

-- ---- what is in an event

-- in an event that may hold lines, lines may end as around it
pub same_around : (slots : List Slot) (around : Between) (name : Name) (bytes : List ℕ) → is_empty slots ≡ false → is_listed one_line_names name ≡ false
    → MayEndLines around bytes → between_of slots around name ≡ around
same_around [] around name bytes some lines may = absurd (true≢false some)
same_around (slot ∷ slots) Nothing name bytes some lines may = absurd may
same_around (slot ∷ slots) Spaces name bytes some lines may = refl
same_around (slot ∷ slots) Lines name bytes some lines may = cond-false (is_listed one_line_names name) Spaces Lines lines

-- what is in it fills its row
pub filled_around : (around : Between) (form : Form) (name : Name) (slots rest : List Slot) (bytes : List ℕ) (node : Node) → node_name node ≡ name
    → row name form ≡ slots → is_empty slots ≡ false → is_listed one_line_names name ≡ false → MayEndLines around bytes
    → Fill around slots (kids_of node) rest → may_end rest ≡ true → IsFilled around form node
filled_around around form name slots rest bytes node is row_is some lines may fill last =
    filled_by around form name rest node is
    (subst (λ (own : List Slot). Fill (between_of own around name) own (kids_of node) rest) (sym row_is)
    (subst (λ (b : Between). Fill b slots (kids_of node) rest) (sym (same_around slots around name bytes some lines may)) fill)) last

-- ---- tokens

-- a name of what holds no other in a text
pub record IsTextToken (name : Name) : Type 0 where
  pub taken : take_child text_row name ≡ Some (took Plain text_row)
  pub void : may_end (row name Plain) ≡ true
  pub unasked : is_listed holding_names name ≡ false

-- a row takes a token of some size
pub next_taken : (around : Between) (slots : List Slot) (name : Name) (rest : List Slot) (text : List ℕ) (e : End) (size : ℕ) → 0 < size
    → same_name name n.Data ≡ false → take_child slots name ≡ Some (took Plain rest) → may_end (row name Plain) ≡ true
    → Fill around slots (void_nodes text name e (end_after e size)) rest
next_taken around slots name rest text e size some other takes void =
    void_taken around slots name Plain rest text e (end_after e size) (moved e.index e.owed size some) other takes void

-- a text has a place for no white space, no ending and no prefix
pub text_between : TakesNoBetween text_row
text_between = record { space = refl; ending = refl; blank = refl; quote = refl }

-- ---- strings

-- parts of a string are parts of a text
part_listed : (a b c d : Bool) → (a || (b || (c || false))) ≡ true → (a || (b || (c || d))) ≡ true
part_listed true b c d is = refl
part_listed false true c d is = refl
part_listed false false true d is = refl
part_listed false false false d is = absurd (true≢false (sym is))

string_in_text : (name : Name) → is_listed string_names name ≡ true → is_listed text_names name ≡ true
string_in_text name is = part_listed (same_name n.Data name) (same_name n.CharacterEscape name) (same_name n.CharacterReference name) _ is

-- the first of some names, or one of the others
pub one_of : (P : Name → Type 0) (first : Name) (others : List Name) (name : Name) → P first → (is_listed others name ≡ true → P name)
    → is_listed (first ∷ others) name ≡ true → P name
one_of P first others name here later listed = elim (cases_Bool (same_name first name)) [
  | inl same ↦ subst P (same_true the_type tt first name same) here
  | inr other ↦ later (ap (λ t. t || is_listed others name) (sym other) ∙ listed)
]

-- what may stand between them is no part of a text
abbrev IsNoText : Name → Type 0
IsNoText name = is_listed text_names name ≡ false

space_is_no_text : (name : Name) → is_listed space_names name ≡ true → IsNoText name
space_is_no_text name = one_of IsNoText n.SpaceOrTab [] name refl (λ none. absurd (true≢false (sym none)))

line_is_no_text : (name : Name) → is_listed line_names name ≡ true → IsNoText name
line_is_no_text name =
    one_of IsNoText n.LineEnding (n.BlankLineEnding ∷ n.BlockQuotePrefix ∷ []) name refl
    (one_of IsNoText n.BlankLineEnding (n.BlockQuotePrefix ∷ []) name refl
    (one_of IsNoText n.BlockQuotePrefix [] name refl (λ none. absurd (true≢false (sym none)))))

between_is_no_text : (around : Between) (name : Name) → stands_between around name ≡ true → IsNoText name
between_is_no_text Nothing name stands = absurd (true≢false (sym stands))
between_is_no_text Spaces name stands = space_is_no_text name stands
between_is_no_text Lines name stands = elim (or_cases (is_listed space_names name) (is_listed line_names name) stands) [
  | inl space ↦ space_is_no_text name space
  | inr line ↦ line_is_no_text name line
]

some_if : (b : Bool) (o : Option (List Slot)) (rest : List Slot) → (if b then o else None) ≡ Some rest → (b ≡ true) × (o ≡ Some rest)
some_if true o rest is = (refl, is)
some_if false o rest is = absurd cc

-- what is left of the row of a string after a node, by what that takes of it
abbrev after_node : Between → Node → Nodes → Option Taken → Option (List Slot)
after_node around node ns o =
    left_after o string_row (stands_between around (node_name node)) (λ form. is_filled around form node) (λ rest. left_by around rest ns)

string_left : (around : Between) (ns : Nodes) → left_by around string_row ns ≡ Some string_row → left_by around text_row ns ≡ Some text_row
string_left around Nil is = refl
string_left around (Cons node ns) is = elim (cases_Bool (is_listed string_names (node_name node))) [
  | inl part ↦
      let takes : take_child string_row (node_name node) ≡ Some (took Plain string_row) =
      cond-true (is_listed string_names (node_name node)) (Some (took Plain string_row)) None part in
      let takes_text : take_child text_row (node_name node) ≡ Some (took Plain text_row) =
      cond-true (is_listed text_names (node_name node)) (Some (took Plain text_row)) None (string_in_text (node_name node) part) in
      let both = some_if (is_filled around Plain node) (left_by around string_row ns) string_row (sym (ap (after_node around node ns) takes) ∙ is) in
      left_taken around text_row node ns (took Plain text_row) takes_text both.0 ∙ string_left around ns both.1
  | inr other ↦
      let takes : take_child string_row (node_name node) ≡ None =
      cond-false (is_listed string_names (node_name node)) (Some (took Plain string_row)) None other in
      let both =
      some_if (stands_between around (node_name node) && is_filled around Plain node) (left_by around string_row ns) string_row
      (sym (ap (after_node around node ns) takes) ∙ is) in
      let stands = and_parts (stands_between around (node_name node)) (is_filled around Plain node) both.0 in
      let takes_text : take_child text_row (node_name node) ≡ None =
      cond-false (is_listed text_names (node_name node)) (Some (took Plain text_row)) None (between_is_no_text around (node_name node) stands.0) in
      left_between around text_row node ns takes_text stands.0 stands.1 ∙ string_left around ns both.1
]

-- what is in a string may be in a text
pub string_fills : (around : Between) (ns : Nodes) → Fill around string_row ns string_row → Fill around text_row ns text_row
string_fills around ns fill = record { left = string_left around ns fill.left }
