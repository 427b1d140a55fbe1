-- What is written of one line by tokens, one after another.
use Rattle.std.specs.Prelude.{◌≡◌, ℕ, suc, ◌+◌, ◌^◌, ◌<◌, List, [], ◌∷◌, Option, length}
use Rattle.markdown_options.specs.declared.line_ending.LineEnding.{LineEnding}
use Rattle.engine_events.specs.declared.event.Name.{Name}
use Rattle.event_grammar.specs.Trees.{Nodes, Nil}
use Rattle.parse_output.specs.Forest.{one}
use Rattle.parse_output.specs.Written.{IsInOrder, Writes, end_in}
use Rattle.parse_laid.specs.Places.{LineRest, AtEnding}
use Rattle.parse_lines.specs.declared.walk.Walk.{Walk}
use Rattle.parse_lines.specs.Content.{AreNext}
use Rattle.parse_lines.specs.Standing.{StandsAt, standing}
use Rattle.parse_lines.specs.Steps.{HasSameOpen}
use Rattle.parse_strings.specs.References.{token}

-- A walk is before these bytes of a text, not inside of a tab, and all before them is written.
pub record IsBefore {A : Type 0} (text line : List ℕ) (w : Walk A) : Type 0 where
  pub order : IsInOrder text w.out
  pub whole : (end_in w.out).owed ≡ 0
  pub next : AreNext text (end_in w.out) line
  pub size : length text < 2 ^ 61

-- nodes are written for the first of these bytes, and the others are next
pub record WritesFirst {A : Type 0} (text front : List ℕ) (ns : Nodes) (line : List ℕ) (old new : Walk A) : Type 0 where
  pub writes : Writes text old.out new.out ns
  pub before : IsBefore text line new
  pub same : standing new ≡ standing old
  pub index : (end_in new.out).index ≡ (end_in old.out).index + length front

-- what holds no other, of these bytes at an index; nothing of none
abbrev pub tokens : List ℕ → Name → ℕ → List ℕ → Nodes
tokens text name index [] = Nil
tokens text name index (b ∷ bs) = one (token text name index (suc (length bs)))

-- These bytes are left of a line, which has this ending, before these lines.
pub record IsOnLine {A : Type 0} (text : List ℕ) (ending : Option LineEnding) (left : List LineRest) (line : List ℕ) (w : Walk A) : Type 0 where
  pub before : IsBefore text line w
  pub at : StandsAt text (AtEnding ending left) (standing w)
  pub end : (end_in w.out).index + length line ≡ w.line_end

-- nodes are written, and these bytes are left of the line
pub record WritesOnLine {A : Type 0} (text : List ℕ) (ending : Option LineEnding) (left : List LineRest) (ns : Nodes) (line : List ℕ) (old new : Walk A)
    : Type 0 where
  pub writes : Writes text old.out new.out ns
  pub on : IsOnLine text ending left line new
  pub around : HasSameOpen (standing old) (standing new)
