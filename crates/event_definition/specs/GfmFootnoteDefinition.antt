-- The prefix of a footnote definition (GFM, footnotes).
use Rattle.std.specs.Prelude.{◌+◌, List, [], ◌∷◌, drop, length, take}
use Rattle.definition_text.specs.Columns.{Code, Rest}
use Rattle.engine_events.specs.declared.event.Name.TheVariants as n
use Rattle.event_definition.specs.Pieces.{Pieces, around, join_all, token}
use Rattle.event_definition.specs.Written.{before_rest}

-- `[^label]`
abbrev pub footnote_label_pieces : List Code → Rest → Pieces
footnote_label_pieces label rest =
    around n.GfmFootnoteDefinitionLabel (join_all (
    token n.GfmFootnoteDefinitionLabelMarker (take 1 rest) ∷ token n.GfmFootnoteDefinitionMarker (take 1 (drop 1 rest))
    ∷ around n.GfmFootnoteDefinitionLabelString (token n.Data label) ∷ token n.GfmFootnoteDefinitionLabelMarker (take 1 (drop (length label + 2) rest)) ∷ []
    ))

-- the label, `:`, and white space up to the content
abbrev pub footnote_start_pieces : List Code → Rest → Rest → Pieces
footnote_start_pieces label rest after =
    let size = length label + 3 in
    around n.GfmFootnoteDefinitionPrefix (join_all (
    footnote_label_pieces label rest ∷ token n.DefinitionMarker (take 1 (drop size rest))
    ∷ token n.SpaceOrTab (before_rest (drop (size + 1) rest) after) ∷ []
    ))
