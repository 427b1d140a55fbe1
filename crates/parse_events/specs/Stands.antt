-- Where a parser stands in the rows of a text, and what it has written (CommonMark 5).
use Rattle.std.specs.Prelude.{◌≡◌, ◌⊎◌, ◌++◌, ◌≤◌, ℕ, true, false, List, [], ◌∷◌, length, map}
use Rattle.definition_block.specs.Container.{Container}
use Rattle.definition_block.specs.Tree.{Nil as NoBlock}
use Rattle.definition_page.specs.Read.{Reading}
use Rattle.event_grammar.specs.Trees.{Nodes}
use Rattle.parse_lines.specs.declared.walk.Walk.{Walk}
use Rattle.parse_lines.specs.Ends.{IsWrittenToLine, IsWrittenToRest, bare_end, written_to}
use Rattle.parse_lines.specs.Standing.{StandsAt, around, standing}
use Rattle.parse_output.specs.Ends.{end_at}
use Rattle.parse_output.specs.Written.{IsInOrder, forest_in}
use Rattle.parse_laid.specs.Places.{LineRest, Place, Between, Within, AtEnding}
use Rattle.parse_alike.specs.Composed.{ends_unclosed}
use Rattle.parse_open.specs.Lines.{line_at}
use Rattle.parse_open.specs.Open.{Holder, InContainer, InList, Level, Opened, bare_container, is_in_list}
use Rattle.parse_open.specs.Levels.{Spells}
use Rattle.parse_open.specs.Steps.{IsBegun}
use Rattle.parse_events.specs.LastBlank.{AreEndsAlike}

-- all before a place is written
abbrev pub IsWrittenAt : {A : Type 0} → Place → Walk A → Type 0
IsWrittenAt (Between left) w = IsWrittenToLine w
IsWrittenAt (Within here left) w = IsWrittenToRest w
IsWrittenAt (AtEnding ending left) w = written_to w ≡ end_at w.line_end 0

-- Unclosed code at the top ends after the ending of its last line, where it stands at that ending.
abbrev pub IsPastCode : {A : Type 0} → List ℕ → Opened → Place → Walk A → Type 0
IsPastCode text o (Between left) w = ⊥
IsPastCode text o (Within here left) w = ⊥
IsPastCode text o (AtEnding ending left) w =
    (o.outer ≡ []) × (ends_unclosed false o.kids ≡ true) × StandsAt text (Between left) (standing w) × IsWrittenToLine w

-- the ending of the line isn't in unclosed code at the top
abbrev pub IsAfterOther : Opened → Place → Type 0
IsAfterOther o (Between left) = Unit {0}
IsAfterOther o (Within here left) = Unit {0}
IsAfterOther o (AtEnding ending left) = o.outer ≡ [] → ends_unclosed false o.kids ≡ false

-- a walk stands at a place, and all before that is written
abbrev pub IsAt : {A : Type 0} → List ℕ → Opened → Place → Walk A → Type 0
IsAt text o p w = (StandsAt text p (standing w) × IsWrittenAt p w × IsAfterOther o p) ⊎ IsPastCode text o p w

-- the containers that are open, the innermost first
abbrev pub holder_containers : Holder → List Container
holder_containers (InContainer c goes_on) = c ∷ []
holder_containers InList = []

abbrev pub containers : List Level → List Container
containers [] = []
containers (l ∷ levels) = holder_containers l.holder ++ containers levels

-- A walk stands at a place in these containers, and what it has written spells what is open after some rows of a text, which is read so. In front of the blocks
-- are these nodes.
pub record Stands {A : Type 0} (r : Reading) (text : List ℕ) (front : Nodes) (o : Opened) (within : List Container) (p : Place) (w : Walk A) : Type 0 where
  pub constructs : w.on.now ≡ r.parse.constructs
  pub around : around (standing w) ≡ within
  pub same : map bare_container within ≡ containers o.outer
  pub order : IsInOrder text w.out
  pub at : IsAt text o p w
  pub spells : Spells r text front o (forest_in text w.out) (line_at text (written_to w).index)
  pub begun : IsBegun o
  pub ends : o.outer ≡ [] → AreEndsAlike p o.kids (forest_in text w.out).kids

-- A walk stands in a line on which an item comes next, and its list is open. If the item is the first, the white space before it is written already.
pub record IsListed {A : Type 0} (r : Reading) (text : List ℕ) (front : Nodes) (o : Opened) (within : List Container) (here : LineRest) (left : List LineRest)
    (w : Walk A) : Type 0 where
  pub constructs : w.on.now ≡ r.parse.constructs
  pub around : around (standing w) ≡ within
  pub same : map bare_container within ≡ containers o.outer
  pub order : IsInOrder text w.out
  pub stands : StandsAt text (Within here left) (standing w)
  pub in_list : is_in_list o.outer ≡ true
  pub written : (IsWrittenToRest w × IsBegun o) ⊎ ((written_to w ≡ bare_end w) × (o.kids ≡ NoBlock))
  pub fits : (bare_end w).index ≤ length text
  pub bare : line_at text (bare_end w).index ≡ line_at text (written_to w).index
  pub spells : Spells r text front o (forest_in text w.out) (line_at text (written_to w).index)
