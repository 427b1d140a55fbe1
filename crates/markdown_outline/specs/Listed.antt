-- Headings as they are listed.
use Rattle.std.specs.Prelude.{◌≡◌, ◌≤◌, ℕ, ◌+◌, Bool, false, if◌then◌else◌, List, [], ◌∷◌, ◌++◌, All, length, map, drop, slice_range}
use Rattle.std.specs.List.{flat_map}
use Rattle.std.specs.Str.{IsUtf8}
use Rattle.engine_events.specs.Events.{point_of}
use Rattle.engine_events.specs.declared.event.Event.{Event}
use Rattle.engine_events.specs.declared.event.Kind.{Kind}
use Rattle.engine_events.specs.declared.event.Kind.TheVariants.{Enter, Exit}
use Rattle.engine_events.specs.declared.event.Name.{Name}
use Rattle.engine_events.specs.declared.place.Point.{Point}
use Rattle.definition_inline.specs.CharacterReference.{Names}
use Rattle.definition_page.specs.Page.{PageLeaf}
use Rattle.definition_page.specs.Slug.{next_slug}
use Rattle.event_grammar.specs.Trees.{Nodes, Around, events_of, tree}
use Rattle.compile_raw.specs.Sound.{IsSound}
use Rattle.compile_levels.specs.Siblings.{size_inside, inside, first_or}
use Rattle.markdown_outline.specs.Rank.{is_heading, page_heading, rank_of, said_by}
use Rattle.markdown_outline.specs.declared.heading.Heading.{Heading}
use Rattle.markdown_outline.specs.declared.heading.Range.{Range}

-- a heading with its text and its slug
pub record Listed : Type 0 where
  pub rank : ℕ
  pub event : ℕ
  pub start : Point
  pub end : Point
  pub text : List ℕ
  pub slug : List ℕ

-- whether an event of this name begins a heading
abbrev pub begins_heading : Kind → Name → Bool
begins_heading Enter name = is_heading name
begins_heading Exit name = false

-- where an event ends, by the events after its enter
abbrev pub end_of : Event → List Event → Point
end_of enter after = point_of (first_or enter (drop (size_inside 0 after) after))

-- a heading of the page that is entered at this index, by its enter and the events after it
abbrev pub listed_as : PageLeaf → List (List ℕ) → ℕ → Event → List Event → Listed
listed_as heading taken index enter after = record {
  rank = rank_of heading;
  event = index;
  start = point_of enter;
  end = end_of enter after;
  text = said_by heading;
  slug = next_slug taken (said_by heading);
}

module _ (names : Names) (bytes : List ℕ) where
  abbrev pub listed_at : List (List ℕ) → ℕ → Event → List Event → Listed
  listed_at taken index enter after = listed_as (page_heading names bytes enter.name (tree (inside after))) taken index enter after

  -- the headings among events, of which the first has this index, where the slugs of those before are taken
  abbrev pub headings_from : List (List ℕ) → ℕ → List Event → List Listed
  headings_from taken index [] = []
  headings_from taken index (e ∷ es) =
      if begins_heading e.kind e.name
      then listed_at taken index e es ∷ headings_from (taken ++ (listed_at taken index e es).slug ∷ []) (index + 1) es
      else headings_from taken (index + 1) es

  -- the headings of a list of events
  abbrev pub outline_of : List Event → List Listed
  outline_of events = headings_from [] 0 events

-- ---- as they are stored

-- a part lies in so many bytes
pub record IsWithin (size : ℕ) (range : Range) : Type 0 where
  pub ordered : range.start ≤ range.end
  pub fits : range.end ≤ size

abbrev pub part : List ℕ → Range → List ℕ
part bytes range = slice_range bytes range.start range.end

abbrev pub listed : List ℕ → Heading → Listed
listed texts heading = record {
  rank = heading.rank;
  event = heading.event;
  start = heading.start;
  end = heading.end;
  text = part texts heading.text;
  slug = part texts heading.slug;
}

-- texts and slugs, side by side
abbrev pub joined : List Listed → List ℕ
joined headings = flat_map (λ (heading : Listed). heading.text ++ heading.slug) headings

abbrev pub AreUtf8 : Listed → Type 0
AreUtf8 heading = IsUtf8 heading.text × IsUtf8 heading.slug

-- headings are these, with their texts and slugs in some bytes, and nothing else is with them
pub record HasHeadings (bytes : List ℕ) (headings : List Heading) (wanted : List Listed) : Type 0 where
  pub whole : bytes ≡ joined wanted
  pub each : map (listed bytes) headings ≡ wanted
  pub texts : All (λ (heading : Heading). IsWithin (length bytes) heading.text) headings
  pub slugs : All (λ (heading : Heading). IsWithin (length bytes) heading.slug) headings
  pub utf8 : All AreUtf8 wanted

-- bytes are those before, a text and its slug, and the last two are these parts
pub record AreStored (before after said named : List ℕ) (text_at slug_at : Range) : Type 0 where
  pub bytes : after ≡ before ++ (said ++ named)
  pub text : part after text_at ≡ said
  pub slug : part after slug_at ≡ named
  pub text_within : IsWithin (length after) text_at
  pub slug_within : IsWithin (length after) slug_at
  pub text_utf8 : IsUtf8 said
  pub slug_utf8 : IsUtf8 named

-- one heading more, behind these bytes
pub record IsListed (before after : List ℕ) (heading : Heading) (wanted : Listed) : Type 0 where
  pub one : listed after heading ≡ wanted
  pub stored : AreStored before after wanted.text wanted.slug heading.text heading.slug

-- an event and those after it begin with a node of the grammar
pub record BeginsSound (bytes : List ℕ) (enter : Event) (after : List Event) : Type 0 where
  pub kids : Nodes
  pub exit : Event
  pub others : List Event
  pub sound : IsSound bytes (Around enter kids exit)
  pub events : after ≡ events_of kids ++ exit ∷ others
