-- Setext headings: an underline makes a heading of the paragraph before it (CommonMark 4.3).
--
--     heading_setext ::= paragraph eol underline
--
-- The paragraph becomes the heading's text. The heading begins with it, and ends with the underline.
use Rattle.std.specs.Prelude.{ℕ, zero, suc, false, if◌then◌else◌, List, [], ◌∷◌, slice_get, Option, None, Some}
use Rattle.engine_events.specs.declared.event.Event.{Event}
use Rattle.engine_events.specs.declared.event.Kind.TheVariants.{Enter, Exit}
use Rattle.engine_events.specs.declared.event.Name.{Name}
use Rattle.engine_events.specs.declared.event.Name.TheVariants as names
use Rattle.engine_events.specs.declared.place.Point.{Point}
use Rattle.engine_edits.specs.Edits.{EditAt, with_edit}
use Rattle.state_edits_data.specs.Each.{enter_event, exit_event, is_bound, is_event, later, place_at}
use Rattle.state_edits_blocks.specs.declared.heading_setext.Paragraph.{Paragraph}

-- there is no paragraph yet
abbrev pub nothing : Paragraph
nothing = record { enter = None; exit = None }

-- the last paragraph after an event that has an index; an underline has used it up
abbrev pub after_event : Paragraph → Event → ℕ → Paragraph
after_event p e i =
    if is_event Enter names.Paragraph e then record { enter = Some i; exit = None }
    else (if is_event Exit names.Paragraph e then record p { exit = Some i }
    else (if is_event Exit names.HeadingSetextUnderline e then nothing else p))

abbrev pub after_if : Paragraph → ℕ → Option Event → Paragraph
after_if p i None = p
after_if p i (Some e) = after_event p e i

-- what a heading begins with, in place of the start of a paragraph
abbrev pub opening : Point → List Event
opening from = enter_event names.HeadingSetext from ∷ enter_event names.HeadingSetextText from ∷ []

abbrev pub ending : Name → Point → List Event
ending name to = exit_event name to ∷ []

module _ (events : List Event) where
  abbrev pub after_at : Paragraph → ℕ → Paragraph
  after_at p i = after_if p i (slice_get events i)

  abbrev pub heading_between : Option ℕ → Option ℕ → ℕ → List EditAt → List EditAt
  heading_between None exit i edits = edits
  heading_between (Some enter) None i edits = edits
  heading_between (Some enter) (Some exit) i edits =
      with_edit false (later 1 i) 0 (ending names.HeadingSetext (place_at events i))
      (with_edit false exit 1 (ending names.HeadingSetextText (place_at events exit))
      (with_edit false enter 1 (opening (place_at events enter)) edits))

  -- a heading in place of a paragraph, with the underline that ends at an index
  abbrev pub heading_edit : Paragraph → ℕ → List EditAt → List EditAt
  heading_edit p i edits = heading_between p.enter p.exit i edits

  -- what an index adds to the edits: where an underline ends, its heading
  abbrev pub underline_edit : Paragraph → ℕ → List EditAt → List EditAt
  underline_edit p i edits = if is_bound Exit names.HeadingSetextUnderline (slice_get events i) then heading_edit p i edits else edits

  -- the last paragraph before an index
  unfoldable pub last : ℕ → Paragraph
  last zero = nothing
  last (suc i) = after_at (last i) i

  -- the edits that make headings, up to an index
  unfoldable pub setext_edits : ℕ → List EditAt
  setext_edits zero = []
  setext_edits (suc i) = underline_edit (last i) i (setext_edits i)
