-- Strings between markers, destinations, and the white space between them are sound (CommonMark 4.7 and 6.3).
use Rattle.std.proofs.Common.{◌≡◌, ℕ, List, [], Option, None, Some, inl, inr, refl, sym, ap, subst, ◌∙◌}
use Rattle.event_grammar.specs.declared.slot.Between.TheVariants.{Lines}
use Rattle.event_grammar.specs.declared.slot.Slot.{Slot}
use Rattle.event_grammar.specs.Grammar.{opt}
use Rattle.parse_references.specs.Sound.{AreSound, IsSound, asked_names, is_asked_on, ruled_names}
use Rattle.parse_references.proofs.Sound.{sound_around, sound_both, sound_fill, sound_full, sound_one}
use Rattle.parse_strings.proofs.SoundNodes.{empty_sound}
use Rattle.parse_links.proofs.Prelude.{Constructs, Holds, is_listed, IsInner, IsQuoted, IsRaw, IsStringNode, IsVoidOf, kids_of, Name, Names, Node}
use Rattle.parse_links.proofs.Prelude.{node_name, one, PlaceNames, some_nodes, Stop, Walk, WritesWhite}
use Rattle.parse_links.proofs.Fills.{HasBareRow, HasMarkedRow, HasPlaceRow, HasStringRow}

module _ (on : Constructs) (names : Names) (text : List ℕ) where
  pub white_sound : {A : Type 0} {content rest : List ℕ} {stop : Stop} {old new : Walk A} (w : WritesWhite text content rest stop old new)
      → AreSound on names text w.nodes
  white_sound w =
      sound_fill on names text 2 Lines [] [] w.nodes refl (w.fill Lines [] tt (record { space = refl; ending = refl; blank = refl; quote = refl })) refl

module _ (on : Constructs) (names : Names) (text : List ℕ) where
  string_sound : (name : Name) (string : List ℕ) (node : Node) → HasStringRow name → IsStringNode on names text name string node → IsSound on names text node
  string_sound name string node has is =
      sound_full on names text node (ap (is_listed ruled_names) is.named ∙ has.unruled) (ap (is_asked_on on) is.named ∙ has.made on) is.some is.sound

  held_sound : (name : Name) (string : List ℕ) (held : Option Node) → HasStringRow name → Holds on names text name string held
      → AreSound on names text (some_nodes held)
  held_sound name string None has holds = tt
  held_sound name string (Some node) has holds = sound_one on names text node (string_sound name string node has holds)

  -- a title, a label, a destination in angle brackets, or a reference
  pub marked_sound : (outer marker string : Name) (slot : Slot) (bytes : List ℕ) (node : Node) → HasMarkedRow outer marker string slot
      → IsQuoted on names text outer marker string bytes node → IsSound on names text node
  marked_sound outer marker string slot bytes node has is =
      let mark : (sign : Node) → IsVoidOf marker sign → IsSound on names text sign =
      λ sign void. empty_sound on names text sign marker void.0 void.1 has.unasked_marker in
      sound_around on names text node (ap (is_listed asked_names) is.named ∙ has.unasked)
      (subst (AreSound on names text) (sym is.kids) (
        mark is.first is.void_first,
        sound_both on names text (some_nodes is.held) (one is.last) (held_sound string bytes is.held has.held is.holds)
            (sound_one on names text is.last (mark is.last is.void_last)),
      ))

  raw_sound : (outer string : Name) (bytes : List ℕ) (node : Node) → HasBareRow outer string → IsRaw on names text outer string bytes node
      → IsSound on names text node
  raw_sound outer string bytes node has is =
      sound_around on names text node (ap (is_listed asked_names) is.named ∙ has.unasked)
      (subst (AreSound on names text) (sym is.kids) (sound_one on names text is.held (string_sound string bytes is.held has.held is.holds)))

  inner_sound : (q : PlaceNames) (string : List ℕ) (inner : Node) → HasPlaceRow q.destination q.literal.outer q.literal.marker q.raw q.literal.string
      → IsInner on names text q string inner → IsSound on names text inner
  inner_sound q string inner has (inl is) =
      marked_sound q.literal.outer q.literal.marker q.literal.string (opt q.literal.string) string inner has.in_brackets is
  inner_sound q string inner has (inr is) = raw_sound q.raw q.literal.string string inner has.bare is

  -- a destination
  pub place_sound : (q : PlaceNames) (string : List ℕ) (node inner : Node)
      → HasPlaceRow q.destination q.literal.outer q.literal.marker q.raw q.literal.string → node_name node ≡ q.destination → kids_of node ≡ one inner
      → IsInner on names text q string inner → IsSound on names text node
  place_sound q string node inner has named kids is =
      sound_around on names text node (ap (is_listed asked_names) named ∙ has.unasked)
      (subst (AreSound on names text) (sym kids) (sound_one on names text inner (inner_sound q string inner has is)))
