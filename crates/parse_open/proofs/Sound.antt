-- Nodes that are sound: what spells nothing, endings of lines, and containers and lists around nodes that are.
use Rattle.std.proofs.Common.{◌≡◌, inl, inr, ℕ, Bool, true, false, if◌then◌else◌, List, [], ◌∷◌, ◌++◌, refl, sym, ap, ◌∙◌, subst}
use Rattle.std.proofs.lemmas.Bool.{cases_Bool, not-true}
use Rattle.std.specs.List.{list_all}
use Rattle.std.specs.Prelude.{not, Some, None}
use Rattle.parse_open.proofs.Prelude.{AreMute, Around, Event, Footnote, Holder, InContainer, InList, is_listed, IsEndingNode, Item, LineEnding, Name, named}
use Rattle.parse_open.proofs.Prelude.{Names, Nil, Node, Nodes, one, Quote, same_name}
use Rattle.markdown_options.specs.declared.configuration.Constructs.{Constructs}
use Rattle.engine_events.specs.declared.event.Name.TheVariants as n
use Rattle.event_grammar.specs.declared.slot.Between.TheVariants.{Lines}
use Rattle.event_grammar.specs.declared.slot.Form.TheVariants.{Plain}
use Rattle.event_grammar.specs.Trees.{Cons}
use Rattle.parse_output.proofs.Marks.{same_self}
use Rattle.parse_references.specs.Leads.{AreWithout}
use Rattle.parse_references.specs.Sound.{AreSound, asked_names, IsSound}
use Rattle.parse_references.proofs.Rows.{all_pass}
use Rattle.parse_references.proofs.Sound.{sound_around, sound_filled, sound_one, without_is_sound}
use Rattle.parse_open.specs.Levels.{IsNamed}

-- nothing is asked of what holds blocks
unasked : (h : Holder) (name : Name) → IsNamed h name → is_listed asked_names name ≡ false
unasked (InContainer Quote goes_on) name is = ap (is_listed asked_names) is
unasked (InContainer (Item item) goes_on) name is = ap (is_listed asked_names) is
unasked (InContainer (Footnote label) goes_on) name is = ap (is_listed asked_names) is
unasked InList name (None, is) = ap (is_listed asked_names) is
unasked InList name (Some number, is) = ap (is_listed asked_names) is

-- ---- nodes of no such name

none_of : (A : Type 0) (node : Node) (nodes : List Node) → node ∷ nodes ≡ [] → A
none_of A node nodes h = absurd (cc)

none_before : (xs ys : List Node) → xs ++ ys ≡ [] → (xs ≡ []) × (ys ≡ [])
none_before [] ys none = (refl, none)
none_before (x ∷ xs) ys none = none_of ((x ∷ xs ≡ []) × (ys ≡ [])) x (xs ++ ys) none

none_in : (b : Bool) (node : Node) (nodes : List Node) → (if b then node ∷ nodes else nodes) ≡ [] → (b ≡ false) × (nodes ≡ [])
none_in true node nodes none = none_of ((true ≡ false) × (nodes ≡ [])) node nodes none
none_in false node nodes none = (refl, none)

-- none of these nodes has one of these names, at any depth
abbrev AreOthers : List Name → Nodes → Type 0
AreOthers off ns = (name : Name) → is_listed off name ≡ true → named name ns ≡ []

module _ (off : List Name) where
  own_other : (name : Name) → (is_listed off name ≡ true → same_name name name ≡ false) → is_listed off name ≡ false
  own_other name never = elim (cases_Bool (is_listed off name)) [
    | inl listed ↦ absurd (let is : true ≡ false = sym (same_self name) ∙ never listed in cc)
    | inr other ↦ other
  ]

  others_without : (ns : Nodes) → AreOthers off ns → AreWithout off ns
  others_without Nil others = tt
  others_without (Cons (Around enter kids exit) ns) others =
      let node = Around enter kids exit in
      let split : (name : Name) → is_listed off name ≡ true
      → ((if same_name enter.name name then node ∷ named name kids else named name kids) ≡ []) × (named name ns ≡ []) =
      λ name listed.
      none_before (if same_name enter.name name then node ∷ named name kids else named name kids) (named name ns) (others name listed) in
      let within : (name : Name) → is_listed off name ≡ true → (same_name enter.name name ≡ false) × (named name kids ≡ []) =
      λ name listed. none_in (same_name enter.name name) node (named name kids) (split name listed).0 in (
        (own_other enter.name (λ listed. (within enter.name listed).0), others_without kids (λ name listed. (within name listed).1)),
        others_without ns (λ name listed. (split name listed).1),
      )

-- ---- what is sound

module _ (on : Constructs) (names : Names) (text : List ℕ) where
  -- a node in which all names are among these, of which nothing is asked
  pub others_sound : (all : List Name) (node : Node) → list_all (λ name. not (is_listed all name)) asked_names ≡ true
      → ((name : Name) → is_listed all name ≡ false → named name (one node) ≡ []) → IsSound on names text node
  others_sound all node apart others =
      without_is_sound on names text node (others_without asked_names (one node) (λ name listed.
      others name (not-true (is_listed all name) (all_pass (λ a. not (is_listed all a)) asked_names name apart listed)))).0

  pub mute_sound : (ns : Nodes) → AreMute ns → AreSound on names text ns
  mute_sound Nil are = tt
  mute_sound (Cons node ns) (inl is, none, more, filled) =
      (sound_filled on names text 2 Lines Plain n.SpaceOrTab node is refl filled, mute_sound ns more)
  mute_sound (Cons node ns) (inr is, none, more, filled) =
      (sound_filled on names text 2 Lines Plain n.BlockQuotePrefix node is refl filled, mute_sound ns more)

  pub ending_sound : (name : Name) (e : LineEnding) (node : Node) → is_listed asked_names name ≡ false → IsEndingNode text name e node
      → AreSound on names text (one node)
  ending_sound name e node other is =
      sound_one on names text node (
      sound_around on names text node (ap (is_listed asked_names) is.named ∙ other) (subst (AreSound on names text) (sym is.empty) tt))

  -- a container or a list around nodes that are sound
  pub holder_sound : (h : Holder) (enter exit : Event) (kids : Nodes) → IsNamed h enter.name → AreSound on names text kids
      → AreSound on names text (one (Around enter kids exit))
  holder_sound h enter exit kids is sound =
      sound_one on names text (Around enter kids exit) (sound_around on names text (Around enter kids exit) (unasked h enter.name is) sound)
