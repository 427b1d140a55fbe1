-- Places in the lines of a text, and what containers leave of a line (CommonMark 5 and appendix, phase 1).
use Rattle.std.specs.Prelude.{◌≡◌, false, List, [], ◌∷◌, Option, None, Some}
use Rattle.markdown_options.specs.declared.line_ending.LineEnding.{LineEnding}
use Rattle.markdown_options.specs.declared.configuration.Constructs.{Constructs}
use Rattle.markdown_options.specs.declared.beside.Beside.{Beside}
use Rattle.markdown_options.specs.declared.beside.Kind.{Kind}
use Rattle.markdown_options.specs.declared.beside.Kind.TheVariants.{Whitespace}
use Rattle.definition_text.specs.Lines.{TextLine}
use Rattle.definition_text.specs.Columns.{Rest, whole}
use Rattle.definition_block.specs.Container.{Container}
use Rattle.definition_block.specs.ContainerLine.{ContainerLine}
use Rattle.definition_block.specs.ContainerStart.{ContainerStart}
use Rattle.definition_block.specs.Containers.{continues, starts}
use Rattle.definition_block.specs.Tree.{beside_in, beside_line}

-- what is left of a line, and what is beside it: the kind of the character before it, and the line's ending
pub record LineRest : Type 0 where
  pub rest : Rest
  pub beside : Beside

abbrev pub line_rest : Rest → Beside → LineRest
line_rest rest beside = record { rest = rest; beside = beside }

-- lines of a text before anything of them is read, the first after a character of this kind
abbrev pub unread : Kind → List TextLine → List LineRest
unread before [] = []
unread before (line ∷ others) = line_rest (whole line.content) (beside_line before line) ∷ unread Whitespace others

-- How far a text is read: up to the first of these lines; within a line, of which something is left, or up to its ending, and the lines after it.
pub data Place : Type 0 where
  Between : List LineRest → Place
  Within : LineRest → List LineRest → Place
  AtEnding : Option LineEnding → List LineRest → Place

-- What open containers leave of a line: all go on on it, or only those around one that doesn't.
pub data Prefixed : Type 0 where
  InAll : LineRest → Prefixed
  InSome : LineRest → Prefixed

abbrev pub line_left : Prefixed → LineRest
line_left (InAll line) = line
line_left (InSome line) = line

-- a line after what a container has on it, if it goes on
abbrev pub going_on : Option ContainerLine → LineRest → Prefixed
going_on None line = InSome line
going_on (Some more) line = InAll (line_rest more.rest (beside_in more.before line.beside))

abbrev pub into : Constructs → Container → Prefixed → Prefixed
into on c (InAll line) = going_on (continues on c false line.rest) line
into on c (InSome line) = InSome line

-- A line after the prefixes of containers, which are given from the innermost to the outermost (CommonMark 5.1 and 5.2). Whether an item began blank on the
-- line before needn't be known: where that counts, the item isn't among these.
abbrev pub prefixed : Constructs → List Container → LineRest → Prefixed
prefixed on [] line = InAll line
prefixed on (c ∷ around) line = into on c (prefixed on around line)

-- The line that something begins on, in these containers, and the lines after it: the one that is begun, or the next.
abbrev pub IsOn : Constructs → List Container → Place → Prefixed → List LineRest → Type 0
IsOn on around (Between []) here left = ⊥
IsOn on around (Between (next ∷ others)) here left = (prefixed on around next ≡ here) × (others ≡ left)
IsOn on around (Within line others) here left = (InAll line ≡ here) × (others ≡ left)
IsOn on around (AtEnding ending others) here left = ⊥

-- a line is begun, or the next line is in all of these containers
abbrev pub IsInAll : Constructs → List Container → Place → Type 0
IsInAll on around (Between []) = Unit {0}
IsInAll on around (Between (next ∷ left)) = (here : LineRest) × (prefixed on around next ≡ InAll here)
IsInAll on around (Within here left) = Unit {0}
IsInAll on around (AtEnding ending left) = Unit {0}

-- a container starts on a line that is in all containers around it (CommonMark 5.1 and 5.2)
abbrev pub Starts : Constructs → List Container → Container → Place → Place → Type 0
Starts on around c from to =
    (here : LineRest) × (left : List LineRest) × (found : ContainerStart) × IsOn on around from (InAll here) left
    × (starts on false here.rest ≡ Some found) × (c ≡ found.container)
    × (to ≡ Within (line_rest found.rest (beside_in found.before here.beside)) left)

-- A container ends, where it is the innermost of these: on the line that is begun, or on the next, a blank line that has its prefix and isn't its own.
abbrev pub Stops : Constructs → List Container → Place → Place → Type 0
Stops on around (Between []) to = ⊥
Stops on around (Between (next ∷ left)) to = (here : LineRest) × (prefixed on around next ≡ InAll here) × (to ≡ Within here left)
Stops on around (Within line left) to = to ≡ Within line left
Stops on around (AtEnding ending left) to = to ≡ AtEnding ending left
