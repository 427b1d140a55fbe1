-- What the resolver of setext headings makes of a paragraph and the underline below it (CommonMark 4.3).
use Rattle.std.specs.Prelude.{◌≡◌, ℕ, ◌+◌, ◌^◌, ◌<◌, Bool, true, false, not, ◌&&◌, List, [], ◌∷◌, ◌++◌, length, None}
use Rattle.std.specs.List.{list_all}
use Rattle.engine_edits.specs.Edits.{EditAt, with_edit}
use Rattle.engine_events.specs.Events.{event}
use Rattle.engine_events.specs.declared.event.Event.{Event}
use Rattle.engine_events.specs.declared.event.Kind.TheVariants.{Enter, Exit}
use Rattle.engine_events.specs.declared.event.Name.TheVariants as names
use Rattle.engine_events.specs.declared.place.Point.{Point}
use Rattle.state_edits_blocks.specs.HeadingSetext.{ending, opening, setext_edits}
use Rattle.state_edits_data.specs.Each.{is_event}
use Rattle.state_verdicts.specs.HeadingSetext.{underline_events}

-- an event that neither begins nor ends a paragraph, nor ends an underline
abbrev pub stays_apart : Event → Bool
stays_apart e =
    not (is_event Enter names.Paragraph e) && (not (is_event Exit names.Paragraph e) && not (is_event Exit names.HeadingSetextUnderline e))

-- the events of a paragraph with these inside
abbrev pub paragraph_events : Point → List Event → Point → List Event
paragraph_events from inside to = event Enter names.Paragraph from None ∷ (inside ++ event Exit names.Paragraph to None ∷ [])

-- the edits of a heading: it begins in place of the start of a paragraph, with its text; the text ends in place of the end of the paragraph; the heading ends
-- after the underline
abbrev pub heading_edits : ℕ → ℕ → ℕ → Point → Point → Point → List EditAt → List EditAt
heading_edits enter exit after from to end edits =
    with_edit false after 0 (ending names.HeadingSetext end)
    (with_edit false exit 1 (ending names.HeadingSetextText to) (with_edit false enter 1 (opening from) edits))

-- Wherever an underline stands among fewer than 2^64 events, behind a paragraph with none other between, its edits make a heading of both. The text of the
-- heading has the events of the paragraph.
abbrev pub HeadingSetextTextVerdict : Type 0
HeadingSetextTextVerdict =
    (before inside between after : List Event) (from to p mid end : Point) (rest : List ℕ) → list_all stays_apart inside ≡ true
    → list_all stays_apart between ≡ true
    → length (before ++ (paragraph_events from inside to ++ (between ++ (underline_events rest p mid end ++ after)))) < 2 ^ 64
    → setext_edits (before ++ (paragraph_events from inside to ++ (between ++ (underline_events rest p mid end ++ after))))
    (length before + (2 + length inside + length between + length (underline_events rest p mid end)))
    ≡ heading_edits (length before) (length before + 1 + length inside)
    (length before + (2 + length inside + length between + length (underline_events rest p mid end))) from to end
    (setext_edits (before ++ (paragraph_events from inside to ++ (between ++ (underline_events rest p mid end ++ after)))) (length before))
