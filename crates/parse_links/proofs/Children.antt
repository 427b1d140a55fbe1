-- Which of some nodes has a name (CommonMark 4.7).
use Rattle.std.proofs.Common.{◌≡◌, ℕ, false, ◌||◌, List, [], ◌++◌, Option, None, Some, inl, inr, refl, sym, ap, ap₂, ◌∙◌}
use Rattle.parse_links.proofs.Prelude.{append, bytes_text, cases_Bool, child, cond-false, cond-true, Cons, Constructs, End, Holds, inside_of, is_listed}
use Rattle.parse_links.proofs.Prelude.{IsQuoted, IsRaw, IsStringNode, IsVoidOf, kids_in, kids_of, Name, named, named_both, Names, Nil, Node, node_name, Nodes}
use Rattle.parse_links.proofs.Prelude.{none-some, one, or_parts, same_name, same_self, some_nodes, string_of, void_nodes, white_names}
use Rattle.std.proofs.lemmas.Bool.{cond_both}
use Rattle.engine_events.specs.declared.event.Name.TheVariants as n
use Rattle.parse_output.specs.Ends.{same_end}
use Rattle.parse_lines.specs.Quiet.{AreQuiet}
use Rattle.parse_links.proofs.Found.{held_spells, named_around}

-- ---- one after another

-- the first of a name is a node with it
pub child_here : (name : Name) (node : Node) (ns : Nodes) → node_name node ≡ name → child name (Cons node ns) ≡ Some node
child_here name node ns is =
    cond-true (same_name (node_name node) name) _ _ (ap (λ (x : Name). same_name x name) is ∙ same_self name)

-- or another, where it has another name
pub child_next : (name : Name) (this : Name) (node : Node) (ns : Nodes) → node_name node ≡ this → same_name this name ≡ false
    → child name (Cons node ns) ≡ child name ns
child_next name this node ns is other =
    cond-false (same_name (node_name node) name) _ _ (ap (λ (x : Name). same_name x name) is ∙ other)

pub child_after : (name : Name) (ns ms : Nodes) → child name ns ≡ None → child name (append ns ms) ≡ child name ms
child_after name Nil ms none = refl
child_after name (Cons node ns) ms none =
    elim (cases_Bool (same_name (node_name node) name)) [
      | inl is ↦ absurd (none-some node (sym none ∙ cond-true (same_name (node_name node) name) _ _ is))
      | inr other ↦
          cond-false (same_name (node_name node) name) _ _ other
          ∙ child_after name ns ms (sym (cond-false (same_name (node_name node) name) _ _ other) ∙ none)
    ]

-- ---- white space

-- a name that no white space has
record IsApartFromWhite (name : Name) : Type 0 where
  space : same_name n.SpaceOrTab name ≡ false
  ending : same_name n.LineEnding name ≡ false
  prefix : same_name n.BlockQuotePrefix name ≡ false

apart_from_white : (name : Name) → is_listed white_names name ≡ false → IsApartFromWhite name
apart_from_white name h =
    let one_of = or_parts (same_name n.SpaceOrTab name) (same_name n.LineEnding name || (same_name n.BlockQuotePrefix name || false)) h in
    let two_of = or_parts (same_name n.LineEnding name) (same_name n.BlockQuotePrefix name || false) one_of.1 in
    record { space = one_of.0; ending = two_of.0; prefix = (or_parts (same_name n.BlockQuotePrefix name) false two_of.1).0 }

pub space_child : (name : Name) (text : List ℕ) (from to : End) → is_listed white_names name ≡ false
    → child name (void_nodes text n.SpaceOrTab from to) ≡ None
space_child name text from to h =
    cond_both (same_end to from) Nil _ (λ ns. child name ns ≡ None) (λ _. refl)
    (λ _. cond-false (same_name n.SpaceOrTab name) _ _ (apart_from_white name h).space)

quiet_child : (name : Name) (ns : Nodes) → IsApartFromWhite name → AreQuiet ns → child name ns ≡ None
quiet_child name Nil other are = refl
quiet_child name (Cons node ns) other (inl is, are) = child_next name n.SpaceOrTab node ns is.0 other.space ∙ quiet_child name ns other are
quiet_child name (Cons node ns) other (inr is, are) = child_next name n.BlockQuotePrefix node ns is.0 other.prefix ∙ quiet_child name ns other are

-- a line ending, and what is quiet after it
pub ending_child : (name : Name) (node : Node) (quiet : Nodes) → node_name node ≡ n.LineEnding → AreQuiet quiet → is_listed white_names name ≡ false
    → child name (Cons node quiet) ≡ None
ending_child name node quiet is are h =
    let other = apart_from_white name h in child_next name n.LineEnding node quiet is other.ending ∙ quiet_child name quiet other are

pub none_both : (name : Name) (ns ms : Nodes) → child name ns ≡ None → child name ms ≡ None → child name (append ns ms) ≡ None
none_both name ns ms first second = child_after name ns ms first ∙ second

-- ---- strings

module _ (on : Constructs) (names : Names) (text : List ℕ) where
  -- the string between two markers
  held_child : (sign name : Name) (string : List ℕ) (held : Option Node) (last : Node) → same_name sign name ≡ false → IsVoidOf sign last
      → Holds on names text name string held → child name (append (some_nodes held) (one last)) ≡ held
  held_child sign name string None last other void holds = child_next name sign last Nil void.0 other
  held_child sign name string (Some node) last other void holds = child_here name node (one last) holds.named

  pub quoted_child : (outer sign name : Name) (string : List ℕ) (node : Node) → same_name sign name ≡ false
      → (is : IsQuoted on names text outer sign name string node) → child name (kids_of node) ≡ is.held
  quoted_child outer sign name string node other is =
      ap (child name) is.kids ∙ child_next name sign is.first (append (some_nodes is.held) (one is.last)) is.void_first.0 other
      ∙ held_child sign name string is.held is.last other is.void_last is.holds

  pub quoted_string : (outer sign name : Name) (string : List ℕ) (node : Node) → same_name sign name ≡ false
      → IsQuoted on names text outer sign name string node → string_of names text (kids_in name (kids_of node)) ≡ bytes_text on names string
  quoted_string outer sign name string node other is =
      ap (λ o. string_of names text (inside_of o)) (quoted_child outer sign name string node other is)
      ∙ held_spells on names text name string is.held is.holds

  pub raw_string : (outer name : Name) (string : List ℕ) (node : Node) → IsRaw on names text outer name string node
      → string_of names text (kids_in name (kids_of node)) ≡ bytes_text on names string
  raw_string outer name string node is =
      ap (λ o. string_of names text (inside_of o)) (ap (child name) is.kids ∙ child_here name is.held Nil is.holds.named) ∙ is.holds.spells

  -- ---- no definition is in them

  void_definitions : (this : Name) (node : Node) → same_name this n.Definition ≡ false → IsVoidOf this node → named n.Definition (one node) ≡ []
  void_definitions this node other void =
      named_around node n.Definition (ap (λ (x : Name). same_name x n.Definition) void.0 ∙ other) ∙ ap (named n.Definition) void.1

  string_definitions : (name : Name) (string : List ℕ) (node : Node) → same_name name n.Definition ≡ false → IsStringNode on names text name string node
      → named n.Definition (one node) ≡ []
  string_definitions name string node other is =
      named_around node n.Definition (ap (λ (x : Name). same_name x n.Definition) is.named ∙ other) ∙ is.plain.definitions

  held_definitions : (name : Name) (string : List ℕ) (held : Option Node) → same_name name n.Definition ≡ false → Holds on names text name string held
      → named n.Definition (some_nodes held) ≡ []
  held_definitions name string None other holds = refl
  held_definitions name string (Some node) other holds = string_definitions name string node other holds

  pub none_named : (ns ms : Nodes) → named n.Definition ns ≡ [] → named n.Definition ms ≡ [] → named n.Definition (append ns ms) ≡ []
  none_named ns ms first second = named_both n.Definition ns ms ∙ ap₂ (λ (xs ys : List Node). xs ++ ys) first second

  pub quoted_definitions : (outer sign name : Name) (string : List ℕ) (node : Node) → same_name outer n.Definition ≡ false
      → same_name sign n.Definition ≡ false → same_name name n.Definition ≡ false → IsQuoted on names text outer sign name string node
      → named n.Definition (one node) ≡ []
  quoted_definitions outer sign name string node one_is two_is three_is is =
      named_around node n.Definition (ap (λ (x : Name). same_name x n.Definition) is.named ∙ one_is) ∙ ap (named n.Definition) is.kids
      ∙ none_named (one is.first) (append (some_nodes is.held) (one is.last)) (void_definitions sign is.first two_is is.void_first)
      (none_named (some_nodes is.held) (one is.last) (held_definitions name string is.held three_is is.holds)
      (void_definitions sign is.last two_is is.void_last))

  pub raw_definitions : (outer name : Name) (string : List ℕ) (node : Node) → same_name outer n.Definition ≡ false → same_name name n.Definition ≡ false
      → IsRaw on names text outer name string node → named n.Definition (one node) ≡ []
  raw_definitions outer name string node one_is two_is is =
      named_around node n.Definition (ap (λ (x : Name). same_name x n.Definition) is.named ∙ one_is) ∙ ap (named n.Definition) is.kids
      ∙ string_definitions name string is.held two_is is.holds

  pub token_definitions : (this : Name) (node : Node) → same_name this n.Definition ≡ false → IsVoidOf this node → named n.Definition (one node) ≡ []
  token_definitions this node other void = void_definitions this node other void
