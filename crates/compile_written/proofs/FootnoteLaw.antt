-- The labels of footnote definitions by events are those of the blocks that the nodes spell.
use Rattle.std.proofs.Common.{◌≡◌, ℕ, ◌+◌, ◌-◌, ◌==◌, Bool, true, false, if◌then◌else◌, List, [], ◌∷◌, ◌++◌, drop, Option, None, Some, refl, sym, ap, ◌∙◌}
use Rattle.std.proofs.Common.{append_assoc}
use Rattle.compile_written.proofs.Prelude.{append-nil, AreNodes, AreWithin, Around, child, Code, Cons, container_names, enter_content, enter_note, enter_open}
use Rattle.compile_written.proofs.Prelude.{Event, events_of, first_held, from_child, has_begun, Held, is_listed, kids_in, Kind, label_codes, label_list, less}
use Rattle.compile_written.proofs.Prelude.{Name, Names, Nil, Nodes, nonzero, note_next, Notes, notes, notes_after, only_if, same_name, split, text_of}
use Rattle.compile_written.proofs.Prelude.{the_document}
use Rattle.engine_events.specs.declared.event.Kind.TheVariants.{Enter, Exit}
use Rattle.engine_events.specs.declared.event.Name.TheVariants as n
use Rattle.definition_page.specs.Page as page
use Rattle.event_meaning.specs.Blocks.{join, start_of, footnote_label, block_of, blocks_of, blocks_from}
use Rattle.event_meaning.specs.Spelled.{block_footnotes, footnotes}
use Rattle.compile_written.specs.GfmFootnoteDefinition.{start_name, label_string, held}
use Rattle.compile_written.specs.GfmFootnoteDefinition.{exit_note}
use Rattle.compile_written.proofs.ChildLaw.{child_within, kids_within}
use Rattle.compile_written.proofs.DefinitionLaw.{label_is}
use Rattle.compile_written.proofs.FootnoteLoops.{content_same}

-- ---- blocks

join_notes : (a b : page.Blocks) → footnotes (join a b) ≡ footnotes a ++ footnotes b
join_notes page.Nil b = refl
join_notes (page.Cons x xs) b = ap (λ (z : List (List Code)). block_footnotes x ++ z) (join_notes xs b) ∙ sym
    (append_assoc (block_footnotes x) (footnotes xs) (footnotes b))

abbrev own_notes : Name → List Code → List (List Code) → List (List Code)
own_notes name label inner = if is_listed container_names name then inner ++ label_list (only_if (same_name name n.GfmFootnoteDefinition) label) else []

start_is : (name : Name) → start_name name ≡ start_of name
start_is n.BlockQuote = refl
start_is n.ListItem = refl
start_is n.GfmFootnoteDefinition = refl
start_is name = refl

module _ (names : Names) (bytes : List ℕ) where
  block_notes : (top : Bool) (name : Name) (text : List ℕ) (kids : Nodes) (inner : page.Blocks)
      → footnotes (block_of names bytes top name text kids inner) ≡ own_notes name (footnote_label names bytes kids) (footnotes inner)
  block_notes top n.BlockQuote text kids inner = append-nil (footnotes inner ++ [])
  block_notes top n.ListItem text kids inner = append-nil (footnotes inner ++ [])
  block_notes top n.GfmFootnoteDefinition text kids inner = append-nil (footnotes inner ++ footnote_label names bytes kids ∷ [])
  block_notes top n.ListUnordered text kids inner = refl
  block_notes top n.ListOrdered text kids inner = refl
  block_notes top name text kids inner = refl

  -- ---- labels

  footnote_label_is : (kids : Nodes) (es : List Event) → AreWithin kids es → label_codes bytes es ≡ footnote_label names bytes kids
  footnote_label_is kids es w =
      let prefix = kids_in n.GfmFootnoteDefinitionPrefix kids in
      let label = kids_in n.GfmFootnoteDefinitionLabel prefix in
      let prefix_events = drop 1 (from_child n.GfmFootnoteDefinitionPrefix 0 es) in
      let label_events = drop 1 (from_child n.GfmFootnoteDefinitionLabel 0 prefix_events) in
      label_is names bytes (child n.GfmFootnoteDefinitionLabelString label) (label_string es)
      (child_within n.GfmFootnoteDefinitionLabelString label label_events
      (kids_within n.GfmFootnoteDefinitionLabel prefix prefix_events (kids_within n.GfmFootnoteDefinitionPrefix kids es w)))

  -- ---- events

  abbrev run : Notes → List Event → Notes
  run = notes_after bytes

  abbrev next : Kind → Name → List Event → Notes → Notes
  next kind name es s = note_next kind name (label_codes bytes es) s

  on_event : (e : Event) (es : List Event) (kind : Kind) (s : Notes) → e.kind ≡ kind → run s (e ∷ es) ≡ run (next kind e.name es s) es
  on_event e es kind s h = ap (λ (z : Kind). run (next z e.name es s) es) h

  -- an event is passed where so many are skipped, one at least
  enter_skipped : (name : Name) (label : List Code) (ended : List (List Code)) (inner : Held) (outer : List Held) (k : ℕ) → (k == 0) ≡ false
      → enter_note name label (notes ended inner outer k) ≡ notes ended inner outer (k + 1)
  enter_skipped name label ended inner outer k z =
      ap (λ (t : Bool). if t then enter_open (has_begun inner.awaited name) name label (notes ended inner outer k) else notes ended inner outer (k + 1)) z

  exit_skipped : (ended : List (List Code)) (inner : Held) (outer : List Held) (k : ℕ) → exit_note (notes ended inner outer (k + 1)) ≡ notes ended inner outer k
  exit_skipped ended inner outer k =
      ap (λ (t : Bool). if t then notes (ended ++ label_list inner.label) (first_held outer) (drop 1 outer) 0 else notes ended inner outer ((k + 1) - 1))
      (nonzero k)
      ∙ ap (notes ended inner outer) (less k)

  skip_over : (ns : Nodes) → AreNodes ns → (ended : List (List Code)) (inner : Held) (outer : List Held) (k : ℕ) → (k == 0) ≡ false → (es : List Event)
      → run (notes ended inner outer k) (events_of ns ++ es) ≡ run (notes ended inner outer k) es
  skip_over Nil a ended inner outer k z es = refl
  skip_over (Cons (Around enter kids exit) ns) a ended inner outer k z es =
      let rest = events_of ns ++ es in
      let inside = events_of kids ++ exit ∷ rest in
      ap (λ (l : List Event). run (notes ended inner outer k) (enter ∷ l)) (split kids ns exit es)
      ∙ on_event enter inside Enter (notes ended inner outer k) a.0.0
      ∙ ap (λ (s : Notes). run s inside) (enter_skipped enter.name (label_codes bytes inside) ended inner outer k z)
      ∙ skip_over kids a.0.3 ended inner outer (k + 1) (nonzero k) (exit ∷ rest)
      ∙ on_event exit rest Exit (notes ended inner outer (k + 1)) a.0.1
      ∙ ap (λ (s : Notes). run s rest) (exit_skipped ended inner outer k)
      ∙ skip_over ns a.1 ended inner outer k z es

  -- in the content of a container
  abbrev InContent : Nodes → Type 0
  InContent ns = (top : Bool) (ended : List (List Code)) (label : Option (List Code)) (outer : List Held) (es : List Event)
      → run (notes ended (held label None) outer 0) (events_of ns ++ es)
      ≡ run (notes (ended ++ footnotes (blocks_of names bytes top ns)) (held label None) outer 0) es

  -- in a container whose content hasn't begun, up to its exit
  abbrev FromStart : Nodes → Type 0
  FromStart ns = (start : Name) (ended : List (List Code)) (label : Option (List Code)) (outer : List Held) (exit : Event) (es : List Event) → exit.kind ≡ Exit
      → run (notes ended (held label (Some start)) outer 0) (events_of ns ++ exit ∷ es)
      ≡ run (notes (ended ++ (footnotes (blocks_from names bytes start ns) ++ label_list label)) (first_held outer) (drop 1 outer) 0) es

  -- an event in the content
  node_over : (top : Bool) (enter : Event) (kids : Nodes) (exit : Event) (rest : List Event) (ended : List (List Code)) (label : Option (List Code))
      (outer : List Held) (b : Bool)
      → exit.kind ≡ Exit → AreNodes kids → is_listed container_names enter.name ≡ b → FromStart kids
      → run (enter_content (is_listed container_names enter.name) enter.name (label_codes bytes (events_of kids ++ exit ∷ rest))
      (notes ended (held label None) outer 0))
      (events_of kids ++ exit ∷ rest)
      ≡ run (notes (ended ++ footnotes
      (block_of names bytes top enter.name (text_of bytes (Around enter kids exit)) kids (blocks_from names bytes (start_of enter.name) kids)))
      (held label None) outer 0) rest
  node_over top enter kids exit rest ended label outer true x k b from =
      let inside = events_of kids ++ exit ∷ rest in
      let own = label_codes bytes inside in
      let own_is = footnote_label_is kids inside (record { nodes = k; back = exit ∷ rest; ends = x; events_are = refl }) in
      let inner = blocks_from names bytes (start_of enter.name) kids in
      let s = notes ended (held label None) outer 0 in
      ap (λ (t : Bool). run (enter_content t enter.name own s) inside) b
      ∙ ap (λ (z : Name). run (notes ended (held (only_if (same_name enter.name n.GfmFootnoteDefinition) own) (Some z)) (held label None ∷ outer) 0) inside)
      (start_is enter.name)
      ∙ from (start_of enter.name) ended (only_if (same_name enter.name n.GfmFootnoteDefinition) own) (held label None ∷ outer) exit rest x
      ∙ ap (λ (z : List Code). run
      (notes (ended ++ (footnotes inner ++ label_list (only_if (same_name enter.name n.GfmFootnoteDefinition) z))) (held label None) outer 0) rest) own_is
      ∙ ap (λ (z : List (List Code)). run (notes (ended ++ z) (held label None) outer 0) rest)
      (sym (block_notes top enter.name (text_of bytes (Around enter kids exit)) kids inner
      ∙ ap (λ (t : Bool). if t then footnotes inner ++ label_list (only_if (same_name enter.name n.GfmFootnoteDefinition) (footnote_label names bytes kids))
      else []) b))
  node_over top enter kids exit rest ended label outer false x k b from =
      let inside = events_of kids ++ exit ∷ rest in
      let own = label_codes bytes inside in
      let inner = blocks_from names bytes (start_of enter.name) kids in
      let s = notes ended (held label None) outer 0 in
      ap (λ (t : Bool). run (enter_content t enter.name own s) inside) b
      ∙ skip_over kids k ended (held label None) outer 1 refl (exit ∷ rest)
      ∙ on_event exit rest Exit (notes ended (held label None) outer 1) x
      ∙ ap (λ (s : Notes). run s rest) (exit_skipped ended (held label None) outer 0)
      ∙ ap (λ (z : List (List Code)). run (notes z (held label None) outer 0) rest) (sym (append-nil ended))
      ∙ ap (λ (z : List (List Code)). run (notes (ended ++ z) (held label None) outer 0) rest)
      (sym (block_notes top enter.name (text_of bytes (Around enter kids exit)) kids inner
      ∙ ap (λ (t : Bool). if t then footnotes inner ++ label_list (only_if (same_name enter.name n.GfmFootnoteDefinition) (footnote_label names bytes kids))
      else []) b))

  -- what an event spells
  abbrev own : Bool → Event → Nodes → Event → page.Blocks
  own top enter kids exit = block_of names bytes top enter.name (text_of bytes (Around enter kids exit)) kids
      (blocks_from names bytes (start_of enter.name) kids)

  regroup : (top : Bool) (ended : List (List Code)) (a b : page.Blocks) → (ended ++ footnotes a) ++ footnotes b ≡ ended ++ footnotes (join a b)
  regroup top ended a b = append_assoc ended (footnotes a) (footnotes b) ∙ ap (λ (z : List (List Code)). ended ++ z) (sym (join_notes a b))

  notes_over : (ns : Nodes) → AreNodes ns → InContent ns × FromStart ns
  notes_over Nil a = (
    λ top ended label outer es. ap (λ (z : List (List Code)). run (notes z (held label None) outer 0) es) (sym (append-nil ended)),
    λ start ended label outer exit es x. on_event exit es Exit (notes ended (held label (Some start)) outer 0) x,
  )
  notes_over (Cons (Around enter kids exit) ns) a =
      let inner = notes_over kids a.0.3 in
      let others = notes_over ns a.1 in (
        λ top ended label outer es. content inner.1 others.0 top ended label outer es,
        λ start ended label outer last es x. begins inner.1 others.0 others.1 start ended label outer last es (same_name enter.name start) x refl,
      )
    where
      content : FromStart kids → InContent ns → InContent (Cons (Around enter kids exit) ns)
      content from over top ended label outer es =
          let rest = events_of ns ++ es in
          let inside = events_of kids ++ exit ∷ rest in
          ap (λ (l : List Event). run (notes ended (held label None) outer 0) (enter ∷ l)) (split kids ns exit es)
          ∙ on_event enter inside Enter (notes ended (held label None) outer 0) a.0.0
          ∙ node_over top enter kids exit rest ended label outer (is_listed container_names enter.name) a.0.1 a.0.3 refl from
          ∙ over top (ended ++ footnotes (own top enter kids exit)) label outer es
          ∙ ap (λ (z : List (List Code)). run (notes z (held label None) outer 0) es)
          (regroup top ended (own top enter kids exit) (blocks_of names bytes top ns))

      begins : FromStart kids → InContent ns → FromStart ns
          → (start : Name) (ended : List (List Code)) (label : Option (List Code)) (outer : List Held) (last : Event) (es : List Event) (b : Bool) →
          last.kind ≡ Exit
          → same_name enter.name start ≡ b
          → run (notes ended (held label (Some start)) outer 0) (events_of (Cons (Around enter kids exit) ns) ++ last ∷ es)
          ≡ run (notes (ended ++
          (footnotes (if same_name enter.name start then join (own false enter kids exit) (blocks_of names bytes false ns) else blocks_from names bytes
          start ns) ++ label_list label))
          (first_held outer) (drop 1 outer) 0) es
      begins from over later start ended label outer last es true x h =
          let rest = events_of ns ++ last ∷ es in
          let inside = events_of kids ++ exit ∷ rest in
          let s = notes ended (held label (Some start)) outer 0 in
          let found = ended ++ footnotes (join (own false enter kids exit) (blocks_of names bytes false ns)) in
          ap (λ (l : List Event). run s (enter ∷ l)) (split kids ns exit (last ∷ es))
          ∙ on_event enter inside Enter s a.0.0
          ∙ ap (λ (t : Bool). run (enter_open t enter.name (label_codes bytes inside) s) inside) h
          ∙ ap (λ (z : Notes). run z inside) (sym (content_same (is_listed container_names enter.name) enter.name (label_codes bytes inside) s))
          ∙ node_over false enter kids exit rest ended label outer (is_listed container_names enter.name) a.0.1 a.0.3 refl from
          ∙ over false (ended ++ footnotes (own false enter kids exit)) label outer (last ∷ es)
          ∙ ap (λ (z : List (List Code)). run (notes z (held label None) outer 0) (last ∷ es))
          (regroup false ended (own false enter kids exit) (blocks_of names bytes false ns))
          ∙ on_event last es Exit (notes found (held label None) outer 0) x
          ∙ ap (λ (z : List (List Code)). run (notes z (first_held outer) (drop 1 outer) 0) es)
          (append_assoc ended (footnotes (join (own false enter kids exit) (blocks_of names bytes false ns))) (label_list label))
          ∙ ap (λ (t : Bool). run
          (notes (ended ++ (footnotes (if t then join (own false enter kids exit) (blocks_of names bytes false ns) else blocks_from names bytes start ns) ++
          label_list label))
          (first_held outer) (drop 1 outer) 0) es) (sym h)
      begins from over later start ended label outer last es false x h =
          let rest = events_of ns ++ last ∷ es in
          let inside = events_of kids ++ exit ∷ rest in
          let s = notes ended (held label (Some start)) outer 0 in
          ap (λ (l : List Event). run s (enter ∷ l)) (split kids ns exit (last ∷ es))
          ∙ on_event enter inside Enter s a.0.0
          ∙ ap (λ (t : Bool). run (enter_open t enter.name (label_codes bytes inside) s) inside) h
          ∙ skip_over kids a.0.3 ended (held label (Some start)) outer 1 refl (exit ∷ rest)
          ∙ on_event exit rest Exit (notes ended (held label (Some start)) outer 1) a.0.1
          ∙ ap (λ (s : Notes). run s rest) (exit_skipped ended (held label (Some start)) outer 0)
          ∙ later start ended label outer last es x
          ∙ ap (λ (t : Bool). run
          (notes (ended ++ (footnotes (if t then join (own false enter kids exit) (blocks_of names bytes false ns) else blocks_from names bytes start ns) ++
          label_list label))
          (first_held outer) (drop 1 outer) 0) es) (sym h)

  -- The law of footnotes: the labels among the events of nodes are those of their blocks.
  pub footnotes_law : (top : Bool) (ns : Nodes) → AreNodes ns
      → (notes_after bytes (notes [] the_document [] 0) (events_of ns)).ended ≡ footnotes (blocks_of names bytes top ns)
  footnotes_law top ns a =
      ap (λ (l : List Event). (run (notes [] the_document [] 0) l).ended) (sym (append-nil (events_of ns)))
      ∙ ap (λ (s : Notes). s.ended) ((notes_over ns a).0 top [] None [] [])
