-- Links as they are listed.
use Rattle.std.specs.Prelude.{◌≡◌, ◌≤◌, ℕ, ◌+◌, List, [], ◌∷◌, All, length, map, get_or, slice_range, Option, unwrap_or}
use Rattle.std.specs.List.{flat_map}
use Rattle.engine_events.specs.declared.event.Event.{Event}
use Rattle.engine_events.specs.declared.place.Point.{Point}
use Rattle.definition_inline.specs.CharacterReference.{Names}
use Rattle.markdown_links.specs.declared.kind.LinkKind.{LinkKind}
use Rattle.markdown_links.specs.declared.link.Link.{Link}
use Rattle.markdown_links.specs.declared.link.Range.{Range}
use Rattle.markdown_links.specs.declared.span.Span.{Span}
use Rattle.markdown_links.specs.Definition.{Labelled, definition_of, definitions_from}
use Rattle.markdown_links.specs.Span.{spans_of}
use Rattle.markdown_links.specs.Target.{target_at}

-- a part lies in so many bytes
pub record IsWithin (size : ℕ) (range : Range) : Type 0 where
  pub ordered : range.start ≤ range.end
  pub fits : range.end ≤ size

-- a link with its destination
pub record Listed : Type 0 where
  pub kind : LinkKind
  pub event : ℕ
  pub start : Point
  pub end : Point
  pub destination : List ℕ
  pub definition : Option ℕ

abbrev pub part : List ℕ → Range → List ℕ
part bytes range = slice_range bytes range.start range.end

abbrev pub listed : List ℕ → Link → Listed
listed destinations link = record {
  kind = link.kind;
  event = link.event;
  start = link.start;
  end = link.end;
  destination = part destinations link.destination;
  definition = link.definition;
}

abbrev pub empty : Range
empty = record { start = 0; end = 0 }

abbrev pub link_at : Span → Option ℕ → Range → Link
link_at span definition destination = record {
  kind = span.kind;
  event = span.enter;
  start = span.start;
  end = span.end;
  destination = destination;
  definition = definition;
}

-- the link of this place in the list, by what the targets of all spell and where labels lead
abbrev pub listed_at : List (List ℕ) → ℕ → Option ℕ → Span → Listed
listed_at targets index definition span = record {
  kind = span.kind;
  event = span.enter;
  start = span.start;
  end = span.end;
  destination = get_or targets (unwrap_or definition index) [];
  definition = definition;
}

-- parts side by side
abbrev pub joined : List (List ℕ) → List ℕ
joined parts = flat_map (λ (part : List ℕ). part) parts

module _ (bytes : List ℕ) (events : List Event) (targets : List (List ℕ)) (ds : List Labelled) where
  -- the links of spans, of which the first has this place
  abbrev pub listed_from : ℕ → List Span → List Listed
  listed_from index [] = []
  listed_from index (s ∷ ss) = listed_at targets index (definition_of bytes events ds s) s ∷ listed_from (index + 1) ss

module _ (names : Names) (bytes : List ℕ) (events : List Event) where
  abbrev pub targets_of : List Span → List (List ℕ)
  targets_of spans = map (λ (s : Span). target_at names bytes events s.target) spans

  abbrev pub links_by : List Span → List Listed
  links_by spans = listed_from bytes events (targets_of spans) (definitions_from bytes events 0 spans) 0 spans

  -- the links of a list of events
  abbrev pub links_of : List Listed
  links_of = links_by (spans_of events)

  -- what their targets spell, side by side; a link by reference has none of its own
  abbrev pub destinations_of : List ℕ
  destinations_of = joined (targets_of (spans_of events))

-- some bytes are these parts, side by side, and each range is one of them
pub record HasParts (bytes : List ℕ) (ranges : List Range) (parts : List (List ℕ)) : Type 0 where
  pub whole : bytes ≡ joined parts
  pub each : map (part bytes) ranges ≡ parts
  pub within : All (IsWithin (length bytes)) ranges

-- links are these, with their destinations in some bytes
pub record HasLinks (destinations : List ℕ) (links : List Link) (wanted : List Listed) : Type 0 where
  pub each : map (listed destinations) links ≡ wanted
  pub within : All (λ (link : Link). IsWithin (length destinations) link.destination) links
