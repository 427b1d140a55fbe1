-- What says where a link leads, and what it spells.
use Rattle.std.specs.Prelude.{ℕ, Bool, ◌||◌, if◌then◌else◌, List, [], ◌∷◌, ◌++◌, drop, codes, Option, None, Some}
use Rattle.engine_events.specs.Names.{same_name}
use Rattle.engine_events.specs.declared.event.Event.{Event}
use Rattle.engine_events.specs.declared.event.Name.{Name}
use Rattle.engine_events.specs.declared.event.Name.TheVariants as n
use Rattle.definition_inline.specs.CharacterReference.{Names}
use Rattle.event_references.specs.Views.{text_at}
use Rattle.compile_written.specs.Child.{text_first}
use Rattle.compile_written.specs.Strings.{parts_after, valid}
use Rattle.markdown_links.specs.Kind.{is_literal}

-- an address is a URL as it is written (CommonMark 6.5, GFM 6.9)
abbrev pub is_address : Name → Bool
is_address name = same_name name n.AutolinkProtocol || (same_name name n.AutolinkEmail || is_literal name)

-- what is before an address in its URL
abbrev pub protocol_of : Name → List ℕ
protocol_of name =
    if same_name name n.AutolinkEmail || same_name name n.GfmAutolinkLiteralEmail then codes "mailto:"
    else (if same_name name n.GfmAutolinkLiteralWww then codes "http://"
    else [])

module _ (names : Names) (bytes : List ℕ) where
  -- what the first of these events spells: an address with its protocol, or a string
  abbrev pub target_text : List Event → List ℕ
  target_text [] = []
  target_text (e ∷ es) =
      if is_address e.name then protocol_of e.name ++ valid (text_first bytes (e ∷ es)) else parts_after names bytes 0 es

  -- what the event at an index spells, if there is one
  abbrev pub target_at : List Event → Option ℕ → List ℕ
  target_at events None = []
  target_at events (Some index) = target_text (drop index events)

-- the bytes of the label at an index, without quote prefixes, if there is one
abbrev pub label_at : List ℕ → List Event → Option ℕ → List ℕ
label_at bytes events None = []
label_at bytes events (Some index) = text_at bytes events index
