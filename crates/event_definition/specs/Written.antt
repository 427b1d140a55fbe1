-- Pieces, and the rest of the text after them: what each block is written by.
use Rattle.std.specs.Prelude.{◌-◌, List, [], ◌∷◌, Option, take, length}
use Rattle.markdown_options.specs.declared.line_ending.LineEnding.{LineEnding}
use Rattle.definition_text.specs.Lines.{TextLine}
use Rattle.definition_text.specs.Columns.{Code, Rest, bare, indent}
use Rattle.definition_text.specs.Content.{ending_code}
use Rattle.engine_events.specs.declared.event.Name.{Name}
use Rattle.engine_events.specs.declared.event.Name.TheVariants as n
use Rattle.event_definition.specs.Pieces.{Pieces, Nil, around, join, token}

-- The part of a text that isn't written yet. It begins with whole lines, or in a line of which this rest is left, with its ending, before these lines.
pub data Left : Type 0 where
  Between : List TextLine → Left
  Within : Rest → Option LineEnding → List TextLine → Left

-- pieces, and what is left of the text after them
pub record Written : Type 0 where
  pub pieces : Pieces
  pub left : Left

abbrev pub written : Pieces → Left → Written
written pieces left = record { pieces = pieces; left = left }

-- and then more
abbrev pub and_then : Written → (Left → Written) → Written
and_then w more = let next = more w.left in written (join w.pieces next.pieces) next.left

-- a name around what is written
abbrev pub inside : Name → Written → Written
inside name w = written (around name w.pieces) w.left

-- ---- in a line

-- what is left of the line; nothing between lines
abbrev pub rest_of : Left → Rest
rest_of (Between ls) = []
rest_of (Within rest ending ls) = rest

-- the same with another rest of the line
abbrev pub with_rest : Rest → Left → Left
with_rest rest (Between ls) = Between ls
with_rest rest (Within other ending ls) = Within rest ending ls

-- the codes before a later rest of the same line
abbrev pub before_rest : Rest → Rest → List Code
before_rest rest after = take (length rest - length after) rest

-- the spaces and tabs that a content begins with
abbrev pub first_white : List Code → List Code
first_white content = take (indent content) content

-- the spaces and tabs ahead
abbrev pub white_ahead : List Code → Pieces
white_ahead rest = token n.SpaceOrTab (first_white rest)

-- a token up to a later rest of the line
abbrev pub up_to : Name → Rest → Left → Written
up_to name after left = written (token name (before_rest (rest_of left) after)) (with_rest after left)

-- the spaces and tabs that the rest of the line begins with
abbrev pub white : Left → Written
white left = up_to n.SpaceOrTab (bare (rest_of left)) left

-- pieces that take the rest of the line
abbrev pub line_written : Pieces → Left → Written
line_written pieces left = written pieces (with_rest [] left)

-- the rest of the line, as one token
abbrev pub whole_rest : Name → Left → Written
whole_rest name left = line_written (token name (rest_of left)) left

-- what is written, up to the ending of its last line
abbrev pub at_end : Written → Written
at_end w = line_written w.pieces w.left

-- ---- the end of a line

-- the ending of the line, if one is begun
abbrev pub ended : Name → Left → Written
ended name (Between ls) = written Nil (Between ls)
ended name (Within rest ending ls) = written (token name (ending_code ending)) (Between ls)
