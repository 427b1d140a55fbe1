-- The events of a text: its pieces, with the places that follow from the codes of their tokens.
use Rattle.std.specs.Prelude.{ℕ, Bool, false, List, [], ◌∷◌, ◌++◌, None}
use Rattle.markdown_options.specs.declared.configuration.ParseOptions.{ParseOptions}
use Rattle.definition_text.specs.Columns.{Code}
use Rattle.definition_page.specs.TextTables.{TextTables}
use Rattle.engine_events.specs.Events.{event}
use Rattle.engine_events.specs.declared.event.Event.{Event}
use Rattle.engine_events.specs.declared.event.Kind.{Kind}
use Rattle.engine_events.specs.declared.event.Kind.TheVariants as kind
use Rattle.engine_events.specs.declared.event.Name.{Name}
use Rattle.engine_events.specs.declared.place.Point.{Point}
use Rattle.event_definition.specs.Pieces.{Piece, Token, Around, Pieces, Nil, Cons}
use Rattle.event_definition.specs.Places.{after_token, begins_in_tab, first_point}
use Rattle.event_definition.specs.Text.{pieces_of}

-- an event without its place; or both of a token, with its codes
pub data Mark : Type 0 where
  Enter : Name → Mark
  Exit : Name → Mark
  Void : Name → List Code → Mark

abbrev mutual
  pub piece_marks : Piece → List Mark
  piece_marks (Token name cs) = Void name cs ∷ []
  piece_marks (Around name kids) = Enter name ∷ (marks kids ++ Exit name ∷ [])

  -- the marks of pieces, each name around those of what it holds
  pub marks : Pieces → List Mark
  marks Nil = []
  marks (Cons p ps) = piece_marks p ++ marks ps

-- whether the next code is a further column of a tab
abbrev pub goes_on_in_tab : List Mark → Bool
goes_on_in_tab [] = false
goes_on_in_tab (Enter name ∷ ms) = goes_on_in_tab ms
goes_on_in_tab (Exit name ∷ ms) = goes_on_in_tab ms
goes_on_in_tab (Void name cs ∷ ms) = begins_in_tab cs (goes_on_in_tab ms)

-- an event at a point
abbrev pub at : Point → Kind → Name → Event
at p which name = event which name p None

-- the events of marks from a point on
abbrev pub events_from : Point → List Mark → List Event
events_from p [] = []
events_from p (Enter name ∷ ms) = at p kind.Enter name ∷ events_from p ms
events_from p (Exit name ∷ ms) = at p kind.Exit name ∷ events_from p ms
events_from p (Void name cs ∷ ms) =
    let end = after_token (goes_on_in_tab ms) name cs p in at p kind.Enter name ∷ at end kind.Exit name ∷ events_from end ms

-- the events of a text
abbrev pub events_of : TextTables → ParseOptions → List ℕ → List Event
events_of tables options text = events_from first_point (marks (pieces_of tables options text))
