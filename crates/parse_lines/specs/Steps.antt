-- From one place of a text to the next (CommonMark 2.1 and 5).
use Rattle.std.specs.Prelude.{◌≡◌, ◌≤◌, ℕ, Bool, true, false, List, ◌∷◌, ◌++◌, Option, ◌<◌, get_or, length, []}
use Rattle.markdown_options.specs.declared.line_ending.LineEnding.{LineEnding}
use Rattle.markdown_options.specs.declared.beside.Kind.{Kind}
use Rattle.definition_text.specs.Columns.{Rest}
use Rattle.definition_text.specs.Lines.{lines}
use Rattle.definition_block.specs.Container.{Container}
use Rattle.parse_laid.specs.Places.{LineRest, Place, Between, Within, AtEnding, line_left, prefixed, unread, Starts}
use Rattle.parse_laid.specs.Begun.{begun, is_in_line}
use Rattle.parse_lines.specs.Standing.{Standing, StandsAt, IsLineStart, AreQuotesWithin, TEXT_MAX, around}

-- the same, where this is left of the line
abbrev pub with_rest : Standing → Rest → Standing
with_rest s rest = record s { rest = rest }

-- the same, where one more container is open and this is left of the line
abbrev pub with_container : Standing → Container → Rest → Standing
with_container s c rest = record s { outermost = s.outermost ++ c ∷ []; rest = rest }

-- the same, where no line is begun
abbrev pub outside : Standing → Standing
outside s = record s { is_in_line = false }

-- the same containers are open, by the same constructs
abbrev pub HasSameOpen : Standing → Standing → Type 0
HasSameOpen old new = (new.on ≡ old.on) × (new.outermost ≡ old.outermost)

-- the same line is begun, and as much of it is left
pub record IsSameLine (old new : Standing) : Type 0 where
  pub size : new.size ≡ old.size
  pub left : new.left ≡ old.left
  pub begun : new.is_in_line ≡ old.is_in_line
  pub rest : new.rest ≡ old.rest
  pub line_end : new.line_end ≡ old.line_end
  pub ending : new.ending ≡ old.ending

-- The walk begins at the last bytes of a text.
abbrev pub BeginsAt : ℕ → List ℕ → Standing → Type 0
BeginsAt size rest new =
    (text before : List ℕ) (kind : Kind) → length text ≤ TEXT_MAX → size ≡ length text → ((k : ℕ) → get_or text k 0 < 256) → text ≡ before ++ rest
    → IsLineStart text (length before)
    → StandsAt text (Between (unread kind (lines rest))) new

-- of the line, this is left after the prefixes of the open containers
abbrev pub ReadsPrefixes : Standing → Standing → Type 0
ReadsPrefixes old new =
    (line : LineRest) → AreQuotesWithin old.quotes_end old.outermost → line.rest ≡ old.rest
    → new.rest ≡ (line_left (prefixed old.on (around old) line)).rest

-- from between two lines into the second, after the prefixes of the open containers
abbrev pub BeginsLine : Standing → Standing → Type 0
BeginsLine old new =
    (text : List ℕ) (next : LineRest) (others : List LineRest) → StandsAt text (Between (next ∷ others)) old
    → StandsAt text (Within (line_left (prefixed old.on (around old) next)) others) new

-- the same, unless a line is begun
abbrev pub IsBegun : Standing → Standing → Type 0
IsBegun old new =
    (text : List ℕ) (p : Place) → is_in_line (begun old.on (around old) p) ≡ true → StandsAt text p old
    → StandsAt text (begun old.on (around old) p) new

-- from the ending of a line to the place after it
abbrev pub EndsLine : Standing → Standing → Type 0
EndsLine old new =
    (text : List ℕ) (ending : Option LineEnding) (left : List LineRest) → StandsAt text (AtEnding ending left) old
    → StandsAt text (Between left) new

-- from the ending of a line into the next one
abbrev pub PassesLine : Standing → Standing → Type 0
PassesLine old new =
    (text : List ℕ) (ending : Option LineEnding) (next : LineRest) (others : List LineRest) → StandsAt text (AtEnding ending (next ∷ others)) old
    → StandsAt text (Within (line_left (prefixed old.on (around old) next)) others) new

-- The innermost container isn't open any more, at the same place.
abbrev pub Leaves : Container → Standing → Standing → Type 0
Leaves c old new =
    (around old ≡ c ∷ around new) × (new.on ≡ old.on) × ((text : List ℕ) (p : Place) → StandsAt text p old → StandsAt text p new)

-- no container is open, and the walk is where it was
abbrev pub IsOutside : Standing → Standing → Type 0
IsOutside old new = (around old ≡ []) × (new ≡ old)

-- Where a container of this kind starts, it is open after the call.
abbrev pub StartsOf : (Container → Bool) → Standing → Bool → Standing → Type 0
StartsOf is_kind old starts new =
    (text : List ℕ) (c : Container) (here : LineRest) (left : List LineRest) (to : Place) → is_kind c ≡ true → StandsAt text (Within here left) old
    → Starts old.on (around old) c (Within here left) to
    → (starts ≡ true) × StandsAt text to new × (around new ≡ c ∷ around old) × (new.on ≡ old.on)
