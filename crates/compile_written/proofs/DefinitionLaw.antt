-- Definitions by events are those of the tree.
use Rattle.std.proofs.Common.{◌≡◌, ℕ, ◌&&◌, Bool, true, false, if◌then◌else◌, List, [], ◌∷◌, ◌++◌, drop, Option, None, Some, refl, sym, ap, ap₂, ◌∙◌}
use Rattle.std.proofs.Common.{append_assoc}
use Rattle.compile_written.proofs.Prelude.{append-nil, AreNodes, AreTexts, AreWithin, Around, child, Code, Cons, content_codes, Definition, definition_after}
use Rattle.compile_written.proofs.Prelude.{definitions_in, destination_written, Event, events_of, flat_map-append, from_child, inside_of, is_enter, kids_in}
use Rattle.compile_written.proofs.Prelude.{kids_of, label_string, map, map-append, Name, Names, Nil, Node, Nodes, parts_after, same_name, split, StandsFirst}
use Rattle.compile_written.proofs.Prelude.{string_of, title_written, written, written_byte}
use Rattle.engine_events.specs.declared.event.Name.TheVariants as n
use Rattle.definition_inline.specs.Definition.{definition}
use Rattle.event_grammar.specs.References.{named}
use Rattle.event_meaning.specs.Blocks.{label_of}
use Rattle.event_meaning.specs.Spelled.{definition_of}
use Rattle.event_references.specs.Texts.{text_of}
use Rattle.event_references.specs.Views.{text_first}
use Rattle.event_references.proofs.TextLaw.{text_law}
use Rattle.compile_written.specs.Definition.{place_events}
use Rattle.compile_written.proofs.ChildLaw.{child_within, kids_within}
use Rattle.compile_written.proofs.StringLaw.{string_law}

module _ (names : Names) (bytes : List ℕ) where
  -- the label of what stands first
  pub label_is : (o : Option Node) (es : List Event) → StandsFirst o es → content_codes (text_first bytes es) ≡ label_of names bytes o
  label_is None es h = ap (λ (l : List Event). content_codes (text_first bytes l)) h
  label_is (Some (Around enter kids exit)) es h =
      ap (λ (l : List Event). content_codes (text_first bytes l)) h.2
      ∙ ap (λ (l : List Event). content_codes (text_of bytes enter l)) (append_assoc (events_of kids) (exit ∷ []) h.1)
      ∙ ap content_codes (text_law bytes enter kids exit h.1 h.0.1 h.0.3)

  -- the texts of a child's children
  pub kids_texts : (name : Name) (ns : Nodes) → AreTexts bytes ns → AreTexts bytes (kids_in name ns)
  kids_texts name Nil h = tt
  kids_texts name (Cons (Around enter kids exit) ns) h = one (same_name enter.name name) (kids_texts name ns h.1)
    where
      one : (b : Bool) → AreTexts bytes (kids_in name ns) → AreTexts bytes (inside_of (if b then Some (Around enter kids exit) else child name ns))
      one true others = h.0.1
      one false others = others

  -- a string that is the child of a child
  spelled_in : (outer inner : Name) (ns : Nodes) (es : List Event) → AreWithin ns es → AreTexts bytes ns
      → parts_after names bytes 0 (drop 1 (from_child inner 0 (drop 1 (from_child outer 0 es)))) ≡ string_of names bytes (kids_in inner (kids_in outer ns))
  spelled_in outer inner ns es w h =
      string_law names bytes (kids_in inner (kids_in outer ns)) (drop 1 (from_child inner 0 (drop 1 (from_child outer 0 es))))
      (kids_within inner (kids_in outer ns) (drop 1 (from_child outer 0 es)) (kids_within outer ns es w))
      (kids_texts inner (kids_in outer ns) (kids_texts outer ns h))

  same : (l m d e t u : List Code) → l ≡ m → d ≡ e → t ≡ u → definition l d (Some t) [] ≡ definition m e (Some u) []
  same l m d e t u h k p =
      ap (λ (z : List Code). definition z d (Some t) []) h ∙ ap (λ (z : List Code). definition m z (Some t) []) k ∙ ap
      (λ (z : List Code). definition m e (Some z) []) p

  -- A definition by the events in it.
  pub definition_is : (node : Node) (ns : Nodes) (es : List Event) → kids_of node ≡ ns → AreWithin ns es → AreTexts bytes ns
      → definition_after names bytes es ≡ definition_of names bytes node
  definition_is (Around enter kids exit) ns es e w h =
      let place = kids_in n.DefinitionDestination ns in
      let place_is = kids_within n.DefinitionDestination ns es w in
      let place_texts = kids_texts n.DefinitionDestination ns h in
      let literal = spelled_in n.DefinitionDestinationLiteral n.DefinitionDestinationString place (place_events es) place_is place_texts in
      let raw = spelled_in n.DefinitionDestinationRaw n.DefinitionDestinationString place (place_events es) place_is place_texts in
      let literal_of = string_of names bytes (kids_in n.DefinitionDestinationString (kids_in n.DefinitionDestinationLiteral place)) in
      let raw_of = string_of names bytes (kids_in n.DefinitionDestinationString (kids_in n.DefinitionDestinationRaw place)) in
      let whole : definition_after names bytes es ≡ definition_of names bytes (Around enter ns exit) =
      same
      (content_codes (text_first bytes (label_string es))) (label_of names bytes (child n.DefinitionLabelString (kids_in n.DefinitionLabel ns)))
      (destination_written names bytes es) (written (literal_of ++ raw_of))
      (title_written names bytes es) (written (string_of names bytes (kids_in n.DefinitionTitleString (kids_in n.DefinitionTitle ns))))
      (label_is (child n.DefinitionLabelString (kids_in n.DefinitionLabel ns)) (label_string es)
      (child_within n.DefinitionLabelString (kids_in n.DefinitionLabel ns) (drop 1 (from_child n.DefinitionLabel 0 es))
      (kids_within n.DefinitionLabel ns es w)))
      (ap₂ (λ (x y : List ℕ). written x ++ written y) literal raw ∙ sym (flat_map-append written_byte literal_of raw_of))
      (ap written (spelled_in n.DefinitionTitle n.DefinitionTitleString ns es w h)) in
      whole ∙ ap (λ (z : Nodes). definition_of names bytes (Around enter z exit)) (sym e)

  -- ---- all definitions

  enters : (e : Event) (es : List Event) → is_enter e.kind ≡ true
      → definitions_in names bytes (e ∷ es)
      ≡ (if same_name e.name n.Definition then definition_after names bytes es ∷ definitions_in names bytes es else definitions_in names bytes es)
  enters e es h =
      ap (λ (z : Bool). if z && same_name e.name n.Definition then definition_after names bytes es ∷ definitions_in names bytes es else definitions_in names
      bytes es) h

  exits : (e : Event) (es : List Event) → is_enter e.kind ≡ false → definitions_in names bytes (e ∷ es) ≡ definitions_in names bytes es
  exits e es h =
      ap (λ (z : Bool). if z && same_name e.name n.Definition then definition_after names bytes es ∷ definitions_in names bytes es else definitions_in names
      bytes es) h

  apart : (inside others : List Node) (rest : List Definition) → map (definition_of names bytes) inside ++ (map (definition_of names bytes) others ++ rest)
      ≡ map (definition_of names bytes) (inside ++ others) ++ rest
  apart inside others rest =
      sym (append_assoc (map (definition_of names bytes) inside) (map (definition_of names bytes) others) rest)
      ∙ ap (λ (z : List Definition). z ++ rest) (sym (map-append (definition_of names bytes) inside others))

  named_by : (b : Bool) (node : Node) (inside others : List Node) (own : Definition) (rest : List Definition) → own ≡ definition_of names bytes node
      → (if b then own ∷ (map (definition_of names bytes) inside ++ (map (definition_of names bytes) others ++ rest))
      else map (definition_of names bytes) inside ++ (map (definition_of names bytes) others ++ rest))
      ≡ map (definition_of names bytes) ((if b then node ∷ inside else inside) ++ others) ++ rest
  named_by true node inside others own rest h =
      ap (λ (z : Definition). z ∷ (map (definition_of names bytes) inside ++ (map (definition_of names bytes) others ++ rest))) h
      ∙ ap (λ (z : List Definition). definition_of names bytes node ∷ z) (apart inside others rest)
  named_by false node inside others own rest h = apart inside others rest

  definitions_over : (ns : Nodes) → AreNodes ns → AreTexts bytes ns → (es : List Event)
      → definitions_in names bytes (events_of ns ++ es) ≡ map (definition_of names bytes) (named n.Definition ns) ++ definitions_in names bytes es
  definitions_over Nil k h es = refl
  definitions_over (Cons (Around enter kids exit) ns) k h es =
      let rest = events_of ns ++ es in
      let inner = events_of kids ++ exit ∷ rest in
      let b = same_name enter.name n.Definition in
      let within : AreWithin kids inner = record { nodes = k.0.3; back = exit ∷ rest; ends = k.0.1; events_are = refl } in
      ap (λ (l : List Event). definitions_in names bytes (enter ∷ l)) (split kids ns exit es)
      ∙ enters enter inner (ap is_enter k.0.0)
      ∙ ap (λ (z : List Definition). if b then definition_after names bytes inner ∷ z else z)
      (definitions_over kids k.0.3 h.0.1 (exit ∷ rest)
      ∙ ap (λ (z : List Definition). map (definition_of names bytes) (named n.Definition kids) ++ z)
      (exits exit rest (ap is_enter k.0.1) ∙ definitions_over ns k.1 h.1 es))
      ∙ named_by b (Around enter kids exit) (named n.Definition kids) (named n.Definition ns) (definition_after names bytes inner)
      (definitions_in names bytes es)
      (definition_is (Around enter kids exit) kids inner refl within h.0.1)

  -- The law of definitions: those among the events of nodes are those of the nodes.
  pub definitions_law : (ns : Nodes) → AreNodes ns → AreTexts bytes ns
      → definitions_in names bytes (events_of ns) ≡ map (definition_of names bytes) (named n.Definition ns)
  definitions_law ns k h =
      ap (definitions_in names bytes) (sym (append-nil (events_of ns)))
      ∙ definitions_over ns k h []
      ∙ append-nil (map (definition_of names bytes) (named n.Definition ns))
