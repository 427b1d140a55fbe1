-- Links, images and calls that lead nowhere, found event by event.
use Rattle.std.specs.Prelude.{ℕ, ◌+◌, Bool, true, false, ◌||◌, if◌then◌else◌, List, [], ◌∷◌, drop, Option, None, Some}
use Rattle.std.specs.Option.{option_or}
use Rattle.engine_events.specs.Names.{same_name, is_listed}
use Rattle.engine_events.specs.declared.event.Event.{Event}
use Rattle.engine_events.specs.declared.event.Kind.{Kind}
use Rattle.engine_events.specs.declared.event.Kind.TheVariants.{Enter, Exit}
use Rattle.engine_events.specs.declared.event.Name.{Name}
use Rattle.engine_events.specs.declared.event.Name.TheVariants as n
use Rattle.event_grammar.specs.References.{media_names, leads}
use Rattle.event_references.specs.Texts.{text_of}

-- a link, an image or a call that is open: whether it has a resource, the string of its reference, and its text
pub record Media : Type 0 where
  pub resource : Bool
  pub reference : Option (List ℕ)
  pub text : Option (List ℕ)

abbrev pub media : Bool → Option (List ℕ) → Option (List ℕ) → Media
media resource reference text = record { resource = resource; reference = reference; text = text }

abbrev pub new_media : Media
new_media = media false None None

abbrev pub only_if : Bool → List ℕ → Option (List ℕ)
only_if true text = Some text
only_if false text = None

-- an event of this name with this text is in it
abbrev pub noted : Name → List ℕ → Media → Media
noted name text m =
    media (m.resource || same_name name n.Resource) (option_or m.reference (only_if (same_name name n.ReferenceString) text))
    (option_or m.text (only_if (same_name name n.LabelText) text))

-- whether an event of this name changes what it is in
abbrev pub is_part : Name → Bool
is_part name = same_name name n.Resource || (same_name name n.ReferenceString || same_name name n.LabelText)

abbrev pub label_of : Media → Option (List ℕ)
label_of m = if m.resource then None else option_or m.reference m.text

-- what is open around; where nothing is, what stands for the document
abbrev pub around : List Media → Media
around [] = new_media
around (m ∷ ms) = m

module _ (bytes : List ℕ) (links footnotes : List (List ℕ)) where
  abbrev pub lost_exit : Bool → List Media → ℕ → (Media → List Media → Option ℕ) → Option ℕ
  lost_exit leads_there ms at others = if leads_there then others (around ms) (drop 1 ms) else Some at

  abbrev pub lost_next : Kind → Name → List ℕ → Media → List Media → ℕ → (Media → List Media → Option ℕ) → Option ℕ
  lost_next Enter name text m ms at others = if is_listed media_names name then others new_media (m ∷ ms) else others (noted name text m) ms
  lost_next Exit name text m ms at others =
      if is_listed media_names name then lost_exit (leads links footnotes name (label_of m)) ms at others else others m ms

  -- the place of the first exit that leads nowhere; so many events are before, this is open, and these around it
  abbrev pub lost_from : Media → List Media → ℕ → List Event → Option ℕ
  lost_from m ms at [] = None
  lost_from m ms at (e ∷ es) = lost_next e.kind e.name (text_of bytes e es) m ms at (λ next others. lost_from next others (at + 1) es)
