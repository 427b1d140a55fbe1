-- Where links and images lead, by events and by their nodes.
use Rattle.std.proofs.Common.{◌≡◌, ℕ, ◌+◌, ◌-◌, ◌==◌, Bool, true, false, ◌&&◌, if◌then◌else◌, List, [], ◌∷◌, ◌++◌, drop, Option, None, Some}
use Rattle.std.proofs.Common.{refl, sym, ap, ◌∙◌, append_assoc, subst}
use Rattle.std.specs.Prelude.{is_some}
use Rattle.compile_strings.proofs.Prelude.{AreNodes, Around, Cons, Event, events_of, has_own, is_listed, Kind, label_after, label_by, label_first}
use Rattle.compile_strings.proofs.Prelude.{label_or_none, media_names, Name, Names, Nil, Nodes, option_map, option_or, own_from, Reference, Resource}
use Rattle.compile_strings.proofs.Prelude.{same_name, split, string_first, target_by, written}
use Rattle.engine_events.specs.declared.event.Kind.TheVariants.{Enter, Exit}
use Rattle.engine_events.specs.declared.event.Name.TheVariants as n
use Rattle.event_grammar.specs.References.{own_in, own, label_text, own_label}
use Rattle.event_grammar.specs.Trees.{Node, node_events, IsNode}
use Rattle.event_meaning.specs.Children.{inside_of}
use Rattle.event_meaning.specs.Strings.{string_of}
use Rattle.event_meaning.specs.Texts.{written_string, target_of, label_codes}
use Rattle.event_references.proofs.TextLaw.{text_law}
use Rattle.compile_written.specs.Texts.{IsTextNode, AreTexts}
use Rattle.compile_written.specs.Within.{AreWithin, StandsFirst}
use Rattle.compile_written.proofs.ChildLaw.{inside_law}
use Rattle.compile_written.proofs.StringLaw.{string_law}
use Rattle.compile_strings.specs.Targets.{own_next}
use Rattle.compile_strings.proofs.Passes.{nonzero, less}

module _ (name : Name) where
  pub own_enter : (c : ℕ) (e : Event) (es : List Event) (m : Bool) → e.kind ≡ Enter → is_listed media_names e.name ≡ m
      → own_from name c (e ∷ es)
      ≡ (if m then own_from name (c + 1) es else (if same_name e.name name && (c == 0) then e ∷ es else own_from name c es))
  own_enter c e es m h l =
      ap (λ (k : Kind). own_next k (is_listed media_names e.name) (same_name e.name name) c (e ∷ es) (λ q. own_from name q es)) h
      ∙ ap (λ (z : Bool). own_next Enter z (same_name e.name name) c (e ∷ es) (λ q. own_from name q es)) l

  pub own_exit : (c : ℕ) (e : Event) (es : List Event) (m : Bool) → e.kind ≡ Exit → is_listed media_names e.name ≡ m
      → own_from name c (e ∷ es) ≡ (if m then (if c == 0 then [] else own_from name (c - 1) es) else own_from name c es)
  own_exit c e es m h l =
      ap (λ (k : Kind). own_next k (is_listed media_names e.name) (same_name e.name name) c (e ∷ es) (λ q. own_from name q es)) h
      ∙ ap (λ (z : Bool). own_next Exit z (same_name e.name name) c (e ∷ es) (λ q. own_from name q es)) l

  -- an exit in another one
  pub own_up : (c : ℕ) (e : Event) (es : List Event) → e.kind ≡ Exit → is_listed media_names e.name ≡ true → own_from name (c + 1) (e ∷ es) ≡ own_from name c es
  own_up c e es h l =
      own_exit (c + 1) e es true h l
      ∙ ap (λ (z : Bool). if z then [] else own_from name ((c + 1) - 1) es) (nonzero c)
      ∙ ap (λ (q : ℕ). own_from name q es) (less c)

  pub and_no : (b z : Bool) → z ≡ false → (b && z) ≡ false
  and_no true z h = h
  and_no false z h = refl

  listed_as : (enter exit : Event) (m : Bool) → exit.name ≡ enter.name → is_listed media_names enter.name ≡ m → is_listed media_names exit.name ≡ m
  listed_as enter exit m e l = ap (is_listed media_names) e ∙ l

  -- nothing is found in others
  own_over : (ns : Nodes) → AreNodes ns → (c : ℕ) (es : List Event) → own_from name (c + 1) (events_of ns ++ es) ≡ own_from name (c + 1) es
  own_over Nil k c es = refl
  own_over (Cons (Around enter kids exit) ns) k c es =
      let rest = events_of ns ++ es in
      ap (λ (l : List Event). own_from name (c + 1) (enter ∷ l)) (split kids ns exit es)
      ∙ by_media (is_listed media_names enter.name) refl (own_over kids k.0.3)
      ∙ own_over ns k.1 c es
    where
      by_media : (m : Bool) → is_listed media_names enter.name ≡ m
          → ((c : ℕ) (es : List Event) → own_from name (c + 1) (events_of kids ++ es) ≡ own_from name (c + 1) es)
          → own_from name (c + 1) (enter ∷ (events_of kids ++ exit ∷ (events_of ns ++ es))) ≡ own_from name (c + 1) (events_of ns ++ es)
      by_media true l inside =
          own_enter (c + 1) enter (events_of kids ++ exit ∷ (events_of ns ++ es)) true k.0.0 l
          ∙ inside (c + 1) (exit ∷ (events_of ns ++ es))
          ∙ own_up (c + 1) exit (events_of ns ++ es) k.0.1 (listed_as enter exit true k.0.2 l)
      by_media false l inside =
          own_enter (c + 1) enter (events_of kids ++ exit ∷ (events_of ns ++ es)) false k.0.0 l
          ∙ ap (λ (z : Bool). if z then enter ∷ (events_of kids ++ exit ∷ (events_of ns ++ es)) else own_from name (c + 1)
          (events_of kids ++ exit ∷ (events_of ns ++ es)))
          (and_no (same_name enter.name name) ((c + 1) == 0) (nonzero c))
          ∙ inside c (exit ∷ (events_of ns ++ es))
          ∙ own_exit (c + 1) exit (events_of ns ++ es) false k.0.1 (listed_as enter exit false k.0.2 l)

  -- the node comes first, or what follows does
  abbrev Found : Option Node → List Event → List Event → Type 0
  Found None others es = es ≡ others
  Found (Some node) others es = StandsFirst (Some node) es

  found_first : (o p : Option Node) (later others es : List Event) → Found p others later → Found o later es → Found (option_or o p) others es
  found_first None None later others es f g = g ∙ f
  found_first None (Some node) later others es f g = subst (λ (l : List Event). StandsFirst (Some node) l) (sym g) f
  found_first (Some node) p later others es f g = g

  found_as : (o : Option Node) (others a b : List Event) → a ≡ b → Found o others b → Found o others a
  found_as o others a b e f = subst (λ (l : List Event). Found o others l) (sym e) f

  own_node : (enter : Event) (kids : Nodes) (exit : Event) (rest : List Event) → IsNode (Around enter kids exit)
      → Found (own name kids) (own_from name 0 (exit ∷ rest)) (own_from name 0 (events_of kids ++ exit ∷ rest))
      → Found (own_in name (Around enter kids exit)) (own_from name 0 rest) (own_from name 0 (enter ∷ (events_of kids ++ exit ∷ rest)))
  own_node enter kids exit rest k inside =
      by_media (is_listed media_names enter.name) refl (same_name enter.name name) refl inside
    where
      by_media : (m : Bool) → is_listed media_names enter.name ≡ m → (s : Bool) → same_name enter.name name ≡ s
          → Found (own name kids) (own_from name 0 (exit ∷ rest)) (own_from name 0 (events_of kids ++ exit ∷ rest))
          → Found (if m then None else (if s then Some (Around enter kids exit) else own name kids)) (own_from name 0 rest)
          (own_from name 0 (enter ∷ (events_of kids ++ exit ∷ rest)))
      by_media true l s f inside =
          own_enter 0 enter (events_of kids ++ exit ∷ rest) true k.0 l
          ∙ own_over kids k.3 0 (exit ∷ rest)
          ∙ own_up 0 exit rest k.1 (listed_as enter exit true k.2 l)
      by_media false l true f inside = (
        k,
        rest,
        own_enter 0 enter (events_of kids ++ exit ∷ rest) false k.0 l
            ∙ ap (λ (z : Bool). if z && true then enter ∷ (events_of kids ++ exit ∷ rest) else own_from name 0 (events_of kids ++ exit ∷ rest)) f
            ∙ sym (ap (λ (z : List Event). enter ∷ z) (append_assoc (events_of kids) (exit ∷ []) rest)),
      )
      by_media false l false f inside =
          let here : own_from name 0 (enter ∷ (events_of kids ++ exit ∷ rest)) ≡ own_from name 0 (events_of kids ++ exit ∷ rest) =
          own_enter 0 enter (events_of kids ++ exit ∷ rest) false k.0 l
          ∙ ap (λ (z : Bool). if z && true then enter ∷ (events_of kids ++ exit ∷ rest) else own_from name 0 (events_of kids ++ exit ∷ rest)) f in
          found_as (own name kids) (own_from name 0 rest) (own_from name 0 (enter ∷ (events_of kids ++ exit ∷ rest)))
          (own_from name 0 (events_of kids ++ exit ∷ rest)) here
          (subst (λ (z : List Event). Found (own name kids) z (own_from name 0 (events_of kids ++ exit ∷ rest)))
          (own_exit 0 exit rest false k.1 (listed_as enter exit false k.2 l)) inside)

  own_flat : (ns : Nodes) → AreNodes ns → (es : List Event) → Found (own name ns) (own_from name 0 es) (own_from name 0 (events_of ns ++ es))
  own_flat Nil k es = refl
  own_flat (Cons (Around enter kids exit) ns) k es =
      let rest = events_of ns ++ es in
      found_first (own_in name (Around enter kids exit)) (own name ns) (own_from name 0 rest) (own_from name 0 es)
      (own_from name 0 (events_of (Cons (Around enter kids exit) ns) ++ es)) (own_flat ns k.1 es)
      (found_as (own_in name (Around enter kids exit)) (own_from name 0 rest) (own_from name 0 (events_of (Cons (Around enter kids exit) ns) ++ es))
      (own_from name 0 (enter ∷ (events_of kids ++ exit ∷ rest))) (ap (λ (l : List Event). own_from name 0 (enter ∷ l)) (split kids ns exit es))
      (own_node enter kids exit rest k.0 (own_flat kids k.0.3 (exit ∷ rest))))

  stands : (o : Option Node) (others es : List Event) → others ≡ [] → Found o others es → StandsFirst o es
  stands None others es e f = f ∙ e
  stands (Some node) others es e f = f

  -- the first of a name that is in no other link, image or call
  pub own_law : (kids : Nodes) → AreNodes kids → (exit : Event) (rest : List Event) → exit.kind ≡ Exit → is_listed media_names exit.name ≡ true
      → StandsFirst (own name kids) (own_from name 0 (events_of kids ++ exit ∷ rest))
  own_law kids k exit rest x l =
      stands (own name kids) (own_from name 0 (exit ∷ rest)) (own_from name 0 (events_of kids ++ exit ∷ rest)) (own_exit 0 exit rest true x l)
      (own_flat kids k (exit ∷ rest))

-- ---- what is read of it

found_is : (o : Option Node) (es : List Event) → StandsFirst o es → has_own es ≡ is_some o
found_is None es h = ap has_own h
found_is (Some (Around enter kids exit)) es h = ap has_own h.2

module _ (names : Names) (bytes : List ℕ) where
  own_node_texts : (name : Name) (enter : Event) (kids : Nodes) (exit : Event) → IsTextNode bytes (Around enter kids exit)
      → AreTexts bytes (inside_of (own name kids))
      → AreTexts bytes (inside_of (own_in name (Around enter kids exit)))
  own_node_texts name enter kids exit t inside = by_name (is_listed media_names enter.name) (same_name enter.name name) inside
    where
      by_name : (m s : Bool) → AreTexts bytes (inside_of (own name kids))
          → AreTexts bytes (inside_of (if m then None else (if s then Some (Around enter kids exit) else own name kids)))
      by_name true s inside = tt
      by_name false true inside = t.1
      by_name false false inside = inside

  own_texts : (name : Name) (ns : Nodes) → AreTexts bytes ns → AreTexts bytes (inside_of (own name ns))
  own_texts name Nil t = tt
  own_texts name (Cons (Around enter kids exit) ns) t =
      first_of (own_in name (Around enter kids exit)) (own name ns) (own_node_texts name enter kids exit t.0 (own_texts name kids t.0.1))
      (own_texts name ns t.1)
    where
      first_of : (o p : Option Node) → AreTexts bytes (inside_of o) → AreTexts bytes (inside_of p) → AreTexts bytes (inside_of (option_or o p))
      first_of None p a b = b
      first_of (Some node) p a b = a

  string_is : (o : Option Node) (es : List Event) → StandsFirst o es → AreTexts bytes (inside_of o)
      → string_first names bytes es ≡ string_of names bytes (inside_of o)
  string_is None es h t = ap (string_first names bytes) h
  string_is (Some (Around enter kids exit)) es h t =
      by_events es h.1 h.2 (inside_law (Some (Around enter kids exit)) es h)
    where
      by_events : (es back : List Event) → es ≡ node_events (Around enter kids exit) ++ back → AreWithin kids (drop 1 es)
          → string_first names bytes es ≡ string_of names bytes kids
      by_events [] back e w = absurd (let f : [] ≡ enter ∷ ((events_of kids ++ exit ∷ []) ++ back) = e in cc)
      by_events (e ∷ es) back f w = string_law names bytes kids es w t

  label_is : (o : Option Node) (es : List Event) → StandsFirst o es → label_first bytes es ≡ option_map (label_text bytes) o
  label_is None es h = ap (label_first bytes) h
  label_is (Some (Around enter kids exit)) es h =
      ap (label_first bytes) (h.2 ∙ ap (λ (z : List Event). enter ∷ z) (append_assoc (events_of kids) (exit ∷ []) h.1))
      ∙ ap (λ (z : List ℕ). Some z) (text_law bytes enter kids exit h.1 h.0.1 h.0.3)

  module _ (kids : Nodes) (k : AreNodes kids) (exit : Event) (rest : List Event) (x : exit.kind ≡ Exit) (l : is_listed media_names exit.name ≡ true) where
    abbrev events : List Event
    events = events_of kids ++ exit ∷ rest

    first : (name : Name) → StandsFirst (own name kids) (own_from name 0 events)
    first name = own_law name kids k exit rest x l

    has_resource : has_own (own_from n.Resource 0 events) ≡ is_some (own n.Resource kids)
    has_resource = found_is (own n.Resource kids) (own_from n.Resource 0 events) (first n.Resource)

    own_label_is : label_after bytes events ≡ own_label bytes kids
    own_label_is =
        ap (λ (z : Bool). if z then None else option_or (label_first bytes (own_from n.ReferenceString 0 events))
        (label_first bytes (own_from n.LabelText 0 events)))
        has_resource
        ∙ ap (λ (z : Option (List ℕ)). if is_some (own n.Resource kids) then None else option_or z (label_first bytes (own_from n.LabelText 0 events)))
        (label_is (own n.ReferenceString kids) (own_from n.ReferenceString 0 events) (first n.ReferenceString))
        ∙ ap (λ (z : Option (List ℕ)). if is_some (own n.Resource kids) then None else option_or (option_map (label_text bytes) (own n.ReferenceString kids)) z)
        (label_is (own n.LabelText kids) (own_from n.LabelText 0 events) (first n.LabelText))

    -- The label by events is that of the node.
    pub label_law : label_by names bytes events ≡ label_codes names bytes kids
    label_law = ap (label_or_none names bytes) own_label_is

    written_is : (name : Name) → AreTexts bytes kids → written (string_first names bytes (own_from name 0 events)) ≡ written_string names bytes (own name kids)
    written_is name t = ap written (string_is (own name kids) (own_from name 0 events) (first name) (own_texts name kids t))

    -- Where the node leads, by events.
    pub target_is : AreTexts bytes kids → target_by names bytes events ≡ target_of names bytes kids
    target_is t =
        ap (λ (z : Bool). if z then Resource (written (string_first names bytes (own_from n.ResourceDestinationString 0 events)))
        (Some (written (string_first names bytes (own_from n.ResourceTitleString 0 events)))) else Reference (label_by names bytes events)) has_resource
        ∙ ap (λ (z : List ℕ). if is_some (own n.Resource kids) then Resource z
        (Some (written (string_first names bytes (own_from n.ResourceTitleString 0 events))))
        else Reference (label_by names bytes events)) (written_is n.ResourceDestinationString t)
        ∙ ap (λ (z : List ℕ). if is_some (own n.Resource kids) then Resource (written_string names bytes (own n.ResourceDestinationString kids)) (Some z)
        else Reference (label_by names bytes events)) (written_is n.ResourceTitleString t)
        ∙ ap (λ (z : List ℕ). if is_some (own n.Resource kids) then Resource (written_string names bytes (own n.ResourceDestinationString kids))
        (Some (written_string names bytes (own n.ResourceTitleString kids))) else Reference z) label_law

  -- The same where the node's name is known.
  pub target_law : (name : Name) (kids : Nodes) → AreNodes kids → AreTexts bytes kids → (exit : Event) (rest : List Event) → exit.kind ≡ Exit
      → exit.name ≡ name → is_listed media_names name ≡ true → target_by names bytes (events_of kids ++ exit ∷ rest) ≡ target_of names bytes kids
  target_law name kids k t exit rest x e l = target_is kids k exit rest x (ap (is_listed media_names) e ∙ l) t
