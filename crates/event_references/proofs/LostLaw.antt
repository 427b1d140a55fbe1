-- What leads nowhere among events is what leads nowhere in their tree.
use Rattle.std.proofs.Common.{◌≡◌, ℕ, ◌+◌, Bool, true, false, ◌||◌, if◌then◌else◌, List, [], ◌∷◌, ◌++◌, length, drop, Option, None, Some, refl, sym, ap, ◌∙◌, arith}
use Rattle.event_references.proofs.Prelude.{append-nil, AreNodes, around, Around, Cons, Event, events_of, is_listed, Kind, label_of, label_text, leads}
use Rattle.event_references.proofs.Prelude.{length-append, lost_from, lost_next, map, media, Media, media_names, Name, named, new_media, Nil, Node, Nodes}
use Rattle.event_references.proofs.Prelude.{noted, only_if, option_or, same_name, text_of, texts_of}
use Rattle.std.specs.Prelude.{is_some}
use Rattle.std.specs.Option.{option_map}
use Rattle.engine_events.specs.declared.event.Kind.TheVariants.{Enter, Exit}
use Rattle.engine_events.specs.declared.event.Name.TheVariants as n
use Rattle.event_grammar.specs.Trees.{IsNode}
use Rattle.event_grammar.specs.References.{own, own_label, link_labels, footnote_labels, lost, lost_in, first_lost}
use Rattle.event_references.proofs.TextLaw.{split, text_law, texts_law}

-- ---- options

or_none : {A : Type 0} (o : Option A) → option_or o None ≡ o
or_none None = refl
or_none (Some a) = refl

or_assoc : {A : Type 0} (a b c : Option A) → option_or (option_or a b) c ≡ option_or a (option_or b c)
or_assoc None b c = refl
or_assoc (Some a) b c = refl

map_or : {A B : Type 0} (f : A → B) (a b : Option A) → option_map f (option_or a b) ≡ option_or (option_map f a) (option_map f b)
map_or f None b = refl
map_or f (Some a) b = refl

some_or : {A : Type 0} (a b : Option A) → is_some (option_or a b) ≡ (is_some a || is_some b)
some_or None b = refl
some_or (Some a) b = refl

bool_assoc : (a b c : Bool) → ((a || b) || c) ≡ (a || (b || c))
bool_assoc true b c = refl
bool_assoc false b c = refl

bool_false : (a : Bool) → (a || false) ≡ a
bool_false true = refl
bool_false false = refl

module _ (bytes : List ℕ) where
  abbrev text : Node → List ℕ
  text = label_text bytes

  -- ---- what is known of what is open, after these nodes

  abbrev part : Name → Nodes → Option (List ℕ)
  part name ns = option_map text (own name ns)

  abbrev seen_in : Nodes → Media → Media
  seen_in ns m = media (m.resource || is_some (own n.Resource ns)) (option_or m.reference (part n.ReferenceString ns)) (option_or m.text (part n.LabelText ns))

  same : (r : Bool) (f t : Option (List ℕ)) (r' : Bool) (f' t' : Option (List ℕ)) → r ≡ r' → f ≡ f' → t ≡ t' → media r f t ≡ media r' f' t'
  same r f t r' f' t' h k l = ap (λ (z : Bool). media z f t) h ∙ ap (λ (z : Option (List ℕ)). media r' z t) k ∙ ap (λ (z : Option (List ℕ)). media r' f' z) l

  seen_none : (m : Media) → seen_in Nil m ≡ m
  seen_none m =
      same (m.resource || false) (option_or m.reference None) (option_or m.text None) m.resource m.reference m.text
      (bool_false m.resource) (or_none m.reference) (or_none m.text)

  -- a part of one name: noted at the enter, or in the children, or later
  part_by : (b : Bool) (known : Option (List ℕ)) (node : Node) (own_text : List ℕ) (inside later : Option Node) → own_text ≡ text node
      → option_or (option_or (option_or known (only_if b own_text)) (option_map text inside)) (option_map text later)
      ≡ option_or known (option_map text (option_or (if b then Some node else inside) later))
  part_by true (Some known) node own_text inside later h = refl
  part_by true None node own_text inside later h = ap (λ (z : List ℕ). Some z) h
  part_by false known node own_text inside later h =
      ap (λ (z : Option (List ℕ)). option_or (option_or z (option_map text inside)) (option_map text later)) (or_none known)
      ∙ or_assoc known (option_map text inside) (option_map text later)
      ∙ ap (option_or known) (sym (map_or text inside later))

  flag_by : (b known : Bool) (node : Node) (inside later : Option Node)
      → (((known || b) || is_some inside) || is_some later) ≡ (known || is_some (option_or (if b then Some node else inside) later))
  flag_by true true node inside later = refl
  flag_by true false node inside later = refl
  flag_by false true node inside later = refl
  flag_by false false node inside later = sym (some_or inside later)

  -- an event that is no link, image or call
  abbrev own_by : Bool → Name → Event → Nodes → Event → Option Node
  own_by m name enter kids exit = if m then None else if same_name enter.name name then Some (Around enter kids exit) else own name kids

  abbrev seen_by : Bool → Event → Nodes → Event → Nodes → Media → Media
  seen_by t enter kids exit ns m =
      media (m.resource || is_some (option_or (own_by t n.Resource enter kids exit) (own n.Resource ns)))
      (option_or m.reference (option_map text (option_or (own_by t n.ReferenceString enter kids exit) (own n.ReferenceString ns))))
      (option_or m.text (option_map text (option_or (own_by t n.LabelText enter kids exit) (own n.LabelText ns))))

  noted_seen : (enter : Event) (kids : Nodes) (exit : Event) (ns : Nodes) (own_text : List ℕ) (m : Media) → own_text ≡ text (Around enter kids exit)
      → seen_in ns (seen_in kids (noted enter.name own_text m)) ≡ seen_by false enter kids exit ns m
  noted_seen enter kids exit ns own_text m h =
      let node = Around enter kids exit in
      same _ _ _ _ _ _
      (flag_by (same_name enter.name n.Resource) m.resource node (own n.Resource kids) (own n.Resource ns))
      (part_by (same_name enter.name n.ReferenceString) m.reference node own_text (own n.ReferenceString kids) (own n.ReferenceString ns) h)
      (part_by (same_name enter.name n.LabelText) m.text node own_text (own n.LabelText kids) (own n.LabelText ns) h)

  seen_part : (enter : Event) (kids : Nodes) (exit : Event) (ns : Nodes) (own_text : List ℕ) (m : Media) → own_text ≡ text (Around enter kids exit)
      → is_listed media_names enter.name ≡ false
      → seen_in ns (seen_in kids (noted enter.name own_text m)) ≡ seen_in (Cons (Around enter kids exit) ns) m
  seen_part enter kids exit ns own_text m h other =
      noted_seen enter kids exit ns own_text m h ∙ ap (λ (t : Bool). seen_by t enter kids exit ns m) (sym other)

  seen_media : (enter : Event) (kids : Nodes) (exit : Event) (ns : Nodes) (m : Media) → is_listed media_names enter.name ≡ true
      → seen_in ns m ≡ seen_in (Cons (Around enter kids exit) ns) m
  seen_media enter kids exit ns m listed = ap (λ (t : Bool). seen_by t enter kids exit ns m) (sym listed)

  -- ---- places

  size_of : (enter : Event) (kids : Nodes) (exit : Event) (ns : Nodes)
      → length (events_of (Cons (Around enter kids exit) ns)) ≡ length (events_of kids) + length (events_of ns) + 2
  size_of enter kids exit ns =
      let a = length-append (events_of kids ++ exit ∷ []) (events_of ns) in
      let b = length-append (events_of kids) (exit ∷ []) in
      omega (arith, a, b)

  module _ (links footnotes : List (List ℕ)) where
    abbrev run : Media → List Media → ℕ → List Event → Option ℕ
    run = lost_from bytes links footnotes

    abbrev first : ℕ → Nodes → Option ℕ
    first = lost bytes links footnotes

    abbrev Over : Nodes → Type 0
    Over ns = (m : Media) (ms : List Media) (at : ℕ) (es : List Event)
        → run m ms at (events_of ns ++ es) ≡ option_or (first at ns) (run (seen_in ns m) ms (at + length (events_of ns)) es)

    -- the end of a node, where its exit is this place
    abbrev ends : Bool → ℕ → Option ℕ
    ends leads_there at = if leads_there then None else Some at

    ends_by : (t : Bool) (at : ℕ) (rest : Option ℕ) → (if t then rest else Some at) ≡ option_or (ends t at) rest
    ends_by true at rest = refl
    ends_by false at rest = refl

    enters : (t : Bool) (e : Event) (m : Media) (ms : List Media) (at : ℕ) (es : List Event) → e.kind ≡ Enter → is_listed media_names e.name ≡ t
        → run m ms at (e ∷ es) ≡ (if t then run new_media (m ∷ ms) (at + 1) es else run (noted e.name (text_of bytes e es) m) ms (at + 1) es)
    enters t e m ms at es h k =
        ap (λ (z : Kind). lost_next bytes links footnotes z e.name (text_of bytes e es) m ms at (λ next others. run next others (at + 1) es)) h
        ∙ ap (λ (z : Bool). if z then run new_media (m ∷ ms) (at + 1) es else run (noted e.name (text_of bytes e es) m) ms (at + 1) es) k

    exits : (t : Bool) (e : Event) (name : Name) (m : Media) (ms : List Media) (at : ℕ) (es : List Event)
        → e.kind ≡ Exit → e.name ≡ name → is_listed media_names name ≡ t
        → run m ms at (e ∷ es)
        ≡ (if t then (if leads links footnotes name (label_of m) then run (around ms) (drop 1 ms) (at + 1) es else Some at) else run m ms (at + 1) es)
    exits t e name m ms at es h q k =
        ap (λ (z : Kind). lost_next bytes links footnotes z e.name (text_of bytes e es) m ms at (λ next others. run next others (at + 1) es)) h
        ∙ ap (λ (z : Name). lost_next bytes links footnotes Exit z (text_of bytes e es) m ms at (λ next others. run next others (at + 1) es)) q
        ∙ ap (λ (z : Bool). if z then (if leads links footnotes name (label_of m) then run (around ms) (drop 1 ms) (at + 1) es else Some at) else run m ms (at + 1) es) k

    abbrev after : Bool → Event → Nodes → Event → Media → Media
    after t enter kids exit m = if t then m else seen_in kids (noted enter.name (text (Around enter kids exit)) m)

    -- a node, and what comes after it
    node_over : (t : Bool) (enter : Event) (kids : Nodes) (exit : Event) → is_listed media_names enter.name ≡ t
        → IsNode (Around enter kids exit) → Over kids → (m : Media) (ms : List Media) (at : ℕ) (rest : List Event)
        → (if t then run new_media (m ∷ ms) (at + 1) (events_of kids ++ exit ∷ rest)
        else run (noted enter.name (text_of bytes enter (events_of kids ++ exit ∷ rest)) m) ms (at + 1) (events_of kids ++ exit ∷ rest))
        ≡ option_or (lost_in bytes links footnotes at (Around enter kids exit))
        (run (after t enter kids exit m) ms (at + 1 + length (events_of kids) + 1) rest)
    node_over true enter kids exit c k ih m ms at rest =
        let last = at + 1 + length (events_of kids) in
        let there = leads links footnotes enter.name (own_label bytes kids) in
        ih new_media (m ∷ ms) (at + 1) (exit ∷ rest)
        ∙ ap (option_or (first (at + 1) kids))
        (exits true exit enter.name (seen_in kids new_media) (m ∷ ms) last rest k.1 k.2 c ∙ ends_by there last (run m ms (last + 1) rest))
        ∙ sym (or_assoc (first (at + 1) kids) (ends there last) (run m ms (last + 1) rest))
        ∙ ap (λ (z : Bool). option_or (option_or (first (at + 1) kids) (ends (if z then there else true) last)) (run m ms (last + 1) rest)) (sym c)
    node_over false enter kids exit c k ih m ms at rest =
        let last = at + 1 + length (events_of kids) in
        let there = leads links footnotes enter.name (own_label bytes kids) in
        let inner = noted enter.name (text_of bytes enter (events_of kids ++ exit ∷ rest)) m in
        let later = run (seen_in kids (noted enter.name (text (Around enter kids exit)) m)) ms (last + 1) rest in
        ih inner ms (at + 1) (exit ∷ rest)
        ∙ ap (option_or (first (at + 1) kids))
        (exits false exit enter.name (seen_in kids inner) ms last rest k.1 k.2 c
        ∙ ap (λ (z : List ℕ). run (seen_in kids (noted enter.name z m)) ms (last + 1) rest) (text_law bytes enter kids exit rest k.1 k.3))
        ∙ ap (λ (z : Option ℕ). option_or z later) (sym (or_none (first (at + 1) kids)))
        ∙ ap (λ (z : Bool). option_or (option_or (first (at + 1) kids) (ends (if z then there else true) last)) later) (sym c)

    states_by : (t : Bool) (enter : Event) (kids : Nodes) (exit : Event) (ns : Nodes) (m : Media) → is_listed media_names enter.name ≡ t
        → seen_in ns (after t enter kids exit m) ≡ seen_in (Cons (Around enter kids exit) ns) m
    states_by true enter kids exit ns m c = seen_media enter kids exit ns m c
    states_by false enter kids exit ns m c = seen_part enter kids exit ns (text (Around enter kids exit)) m refl c

    over : (ns : Nodes) → AreNodes ns → Over ns
    over Nil k m ms at es =
        let none : at + 0 ≡ at = omega arith in
        sym (ap (λ (z : Media). run z ms (at + 0) es) (seen_none m) ∙ ap (λ (z : ℕ). run m ms z es) none)
    over (Cons (Around enter kids exit) ns) k m ms at es =
        let t = is_listed media_names enter.name in
        let node = Around enter kids exit in
        let rest = events_of ns ++ es in
        let state = after t enter kids exit m in
        let last = at + 1 + length (events_of kids) in
        let size = length (events_of ns) in
        let next : last + 1 ≡ at + 2 + length (events_of kids) = omega arith in
        let end : last + 1 + size ≡ at + length (events_of (Cons node ns)) = omega (arith, size_of enter kids exit ns) in
        ap (λ (l : List Event). run m ms at (enter ∷ l)) (split kids ns exit es)
        ∙ enters t enter m ms at (events_of kids ++ exit ∷ rest) k.0.0 refl
        ∙ node_over t enter kids exit refl k.0 (over kids k.0.3) m ms at rest
        ∙ ap (option_or (lost_in bytes links footnotes at node))
        (over ns k.1 state ms (last + 1) es
        ∙ ap (λ (z : ℕ). option_or (first z ns) (run (seen_in ns state) ms (last + 1 + size) es)) next
        ∙ ap (λ (z : Media). option_or (first (at + 2 + length (events_of kids)) ns) (run z ms (last + 1 + size) es)) (states_by t enter kids exit ns m refl)
        ∙ ap (λ (z : ℕ). option_or (first (at + 2 + length (events_of kids)) ns) (run (seen_in (Cons node ns) m) ms z es)) end)
        ∙ sym (or_assoc (lost_in bytes links footnotes at node) (first (at + 2 + length (events_of kids)) ns)
        (run (seen_in (Cons node ns) m) ms (at + length (events_of (Cons node ns))) es))

  -- ---- all events of a list

  labels_are : (name : Name) (ns : Nodes) → AreNodes ns → texts_of bytes name (events_of ns) ≡ map text (named name ns)
  labels_are name ns k =
      ap (texts_of bytes name) (sym (append-nil (events_of ns))) ∙ texts_law bytes name ns k [] ∙ append-nil (map text (named name ns))

  -- The law of references: what leads nowhere among the events of a tree is the first that does in the tree.
  pub lost_law : (ns : Nodes) → AreNodes ns
      → lost_from bytes (texts_of bytes n.DefinitionLabelString (events_of ns)) (texts_of bytes n.GfmFootnoteDefinitionLabelString (events_of ns)) new_media [] 0 (events_of ns)
      ≡ first_lost bytes ns
  lost_law ns k =
      let links = link_labels bytes ns in
      let footnotes = footnote_labels bytes ns in
      ap (λ (z : List (List ℕ)). lost_from bytes z (texts_of bytes n.GfmFootnoteDefinitionLabelString (events_of ns)) new_media [] 0 (events_of ns))
      (labels_are n.DefinitionLabelString ns k)
      ∙ ap (λ (z : List (List ℕ)). lost_from bytes links z new_media [] 0 (events_of ns)) (labels_are n.GfmFootnoteDefinitionLabelString ns k)
      ∙ ap (λ (l : List Event). lost_from bytes links footnotes new_media [] 0 l) (sym (append-nil (events_of ns)))
      ∙ over links footnotes ns k new_media [] 0 []
      ∙ or_none (first_lost bytes ns)
