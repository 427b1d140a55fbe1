-- The pieces of a content among the lines of a text: each line ending is followed by the prefixes of the next line (CommonMark 5).
use Rattle.std.specs.Prelude.{Bool, false, if◌then◌else◌, List, [], ◌∷◌}
use Rattle.markdown_options.specs.declared.configuration.Constructs.{Constructs}
use Rattle.definition_text.specs.Columns.{Code}
use Rattle.definition_text.specs.Content.{is_eol}
use Rattle.definition_block.specs.Container.{Container}
use Rattle.engine_events.specs.declared.event.Name.{Name}
use Rattle.event_definition.specs.Pieces.{Piece, Token, Around, Pieces, Nil, Cons}
use Rattle.event_definition.specs.Written.{Left, Written, and_then, at_end, ended, inside, written}
use Rattle.event_definition.specs.Containers.{begun}

-- whether codes are a line ending
abbrev pub is_ending : List Code → Bool
is_ending [] = false
is_ending (c ∷ cs) = is_eol c

abbrev pub woven_token : Constructs → List Container → Name → List Code → Left → Written
woven_token on outer name cs left = if is_ending cs then and_then (ended name left) (begun on outer) else written (Cons (Token name cs) Nil) left

abbrev mutual
  pub woven_piece : Constructs → List Container → Piece → Left → Written
  woven_piece on outer (Token name cs) left = woven_token on outer name cs left
  woven_piece on outer (Around name kids) left = inside name (woven on outer kids left)

  -- pieces of a content that begins on this line
  pub woven : Constructs → List Container → Pieces → Left → Written
  woven on outer Nil left = written Nil left
  woven on outer (Cons p ps) left = and_then (woven_piece on outer p left) (woven on outer ps)

-- the same, up to the ending of the last line
abbrev pub woven_lines : Constructs → List Container → Pieces → Left → Written
woven_lines on outer ps left = at_end (woven on outer ps left)
