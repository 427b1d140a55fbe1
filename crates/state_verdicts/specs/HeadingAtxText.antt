-- What the resolver of ATX headings makes of the events of a line (CommonMark 4.2).
use Rattle.std.specs.Prelude.{◌≡◌, ℕ, ◌+◌, ◌^◌, ◌<◌, Bool, true, false, nat_lt, List, [], ◌∷◌, ◌++◌, drop, length, take, None, Some}
use Rattle.definition_block.specs.HeadingAtx.{Atx, atx_of}
use Rattle.definition_text.specs.Ascii.{number_sign}
use Rattle.definition_text.specs.Columns.{bare, is_blank}
use Rattle.definition_text.specs.Runs.{after_run, run}
use Rattle.engine_edits.specs.Edits.{EditAt, with_edit}
use Rattle.engine_events.specs.Events.{event}
use Rattle.engine_events.specs.declared.event.Event.{Event}
use Rattle.engine_events.specs.declared.event.Kind.TheVariants.{Enter, Exit}
use Rattle.engine_events.specs.declared.event.Name.TheVariants as names
use Rattle.engine_events.specs.declared.place.Point.{Point}
use Rattle.markdown_engine.specs.VirtualText.{Text}
use Rattle.state_edits_blocks.specs.HeadingAtx.{atx_edits, text_events}
use Rattle.state_verdicts.specs.Codes.{Sees}
use Rattle.state_verdicts.specs.HeadingAtx.{HeadingParts, opening_events}
use Rattle.state_verdicts.specs.Lines.{is_filled, line_of}
use Rattle.state_verdicts.specs.WhiteSpace.{white_events}

-- the events of a heading, of which these are those between the opening sequence and the end of the line
abbrev pub heading_events : Point → Point → List Event → Point → List Event
heading_events p mid inside end = opening_events p mid ++ (inside ++ event Exit names.HeadingAtx end None ∷ [])

-- the events of the run of `#` that closes a heading, if there is one
abbrev pub signs_if : Bool → Point → Point → List Event
signs_if true p q = event Enter names.HeadingAtxSequence p None ∷ event Exit names.HeadingAtxSequence q None ∷ []
signs_if false p q = []

-- what follows the text of a heading up to the end of the line: white space, a run of `#`, and white space
pub record ClosingEvents (text : Text) (codes : List ℕ) (p : Point) (added : List Event) (end : Point) : Type 0 where
  pub mid : Point
  pub last : Point
  pub sees_mid : Sees text mid (bare codes)
  pub sees_last : Sees text last (after_run number_sign (bare codes))
  pub blank : is_blank (line_of (after_run number_sign (bare codes))) ≡ true
  pub events : added ≡ white_events codes (text.start p) (text.start mid)
      ++ (signs_if (nat_lt 0 (run number_sign (bare codes))) (text.start mid) (text.start last)
      ++ white_events (after_run number_sign (bare codes)) (text.start last) (text.start end))

-- the edit that puts a text in place of so many events from an index on; none, if there is no text
abbrev pub edit_if : Bool → ℕ → ℕ → Point → Point → List EditAt → List EditAt
edit_if true at count from to edits = with_edit false at count (text_events from to) edits
edit_if false at count from to edits = edits

-- The events between the opening sequence and the end of the line are white space, those of a text, and what closes the heading. The text has the content that
-- the definition has. The edit at the end of the heading, if it has a text, puts this text in place of its events.
pub record TextEdit (text : Text) (content codes : List ℕ) (mid : Point) (inside : List Event) (end : Point) (events : List Event) (i : ℕ) : Type 0 where
  pub from : Point
  pub to : Point
  pub own : List Event
  pub closing : List Event
  pub parts : inside ≡ white_events codes (text.start mid) (text.start from) ++ (own ++ closing)
  pub sees_from : Sees text from (bare codes)
  pub is : take (length content) (bare codes) ≡ content
  pub sees_to : Sees text to (drop (length content) (bare codes))
  pub none : is_filled content ≡ false → own ≡ []
  pub closes : ClosingEvents text (drop (length content) (bare codes)) to closing end
  pub edits : atx_edits events (i + (4 + length inside)) ≡ edit_if (is_filled content)
      (i + 3 + length (white_events codes (text.start mid) (text.start from))) (length own) (text.start from) (text.start to) (atx_edits events i)

-- wherever a heading's events stand among fewer than 2^64, its edit makes a text of what the definition has as its content
abbrev pub HeadingAtxTextVerdict : Type 0
HeadingAtxTextVerdict =
    (text : Text) (p mid end : Point) (inside before after : List Event) (heading : Atx) (codes : List ℕ) → atx_of (line_of codes) ≡ Some heading
    → Sees text mid (drop heading.rank codes) → HeadingParts text mid inside end
    → length (before ++ (heading_events p (text.start mid) inside (text.start end) ++ after)) < 2 ^ 64
    → TextEdit text heading.content (drop heading.rank codes) mid inside end
    (before ++ (heading_events p (text.start mid) inside (text.start end) ++ after)) (length before)
