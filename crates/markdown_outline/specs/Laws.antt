-- What holds of each outline.
use Rattle.std.specs.Prelude.{◌≡◌, ℕ, List, map}
use Rattle.definition_inline.specs.CharacterReference.{Names}
use Rattle.engine_events.specs.declared.event.Event.{Event}
use Rattle.event_check.specs.Matches.{MatchesGrammar}
use Rattle.event_meaning.specs.Spelled.{spelled}
use Rattle.definition_page.specs.Slug.{slugs_of}
use Rattle.markdown_outline.specs.Listed.{Listed, outline_of}
use Rattle.markdown_outline.specs.PageHeadings.{PageHeading, headings_in}

abbrev pub shown : Listed → PageHeading
shown heading = record { rank = heading.rank; text = heading.text }

-- the headings that are listed are those of the page that a list in the grammar spells, in order
abbrev pub OutlinePageLaw : Type 0
OutlinePageLaw =
    (names : Names) (bytes : List ℕ) (events : List Event) → MatchesGrammar names bytes events
    → map shown (outline_of names bytes events) ≡ headings_in (spelled names events bytes).blocks

-- the slugs of an outline are those of its texts, in order
abbrev pub OutlineSlugsLaw : Type 0
OutlineSlugsLaw =
    (names : Names) (bytes : List ℕ) (events : List Event)
    → map (λ (h : Listed). h.slug) (outline_of names bytes events) ≡ slugs_of (map (λ (h : Listed). h.text) (outline_of names bytes events))
