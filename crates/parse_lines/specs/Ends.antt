-- Where the output of a walk is, beside its lines.
use Rattle.std.specs.Prelude.{◌≡◌, ◌⊎◌, ◌≤◌, ℕ, ◌-◌, ◌+◌, ◌==◌, if◌then◌else◌, List, ◌∷◌, ◌++◌, Option, drop, length, Bool, false, true, Some}
use Rattle.std.specs.List.{list_all, list_any, prefix_len}
use Rattle.engine_events.specs.declared.event.Name.{Name}
use Rattle.engine_events.specs.declared.event.Name.TheVariants.{LineEnding as Ending}
use Rattle.markdown_options.specs.declared.line_ending.LineEnding.{LineEnding}
use Rattle.markdown_options.specs.declared.beside.Kind.{Kind}
use Rattle.definition_text.specs.Columns.{Rest, whole, bare, bytes_of, is_tab_column, is_white}
use Rattle.definition_text.specs.Content.{is_space}
use Rattle.definition_text.specs.Lines.{ends_line}
use Rattle.definition_block.specs.Container.{Container}
use Rattle.definition_block.specs.ContainerLine.{container_line}
use Rattle.definition_block.specs.Containers.{continues, starts}
use Rattle.definition_block.specs.ContainerStart.{container_start}
use Rattle.block_starts.specs.View.{rest_of}
use Rattle.event_grammar.specs.Trees.{Node, Nodes, Nil}
use Rattle.parse_output.specs.declared.end.End.{End}
use Rattle.parse_output.specs.declared.output.Output.{Output}
use Rattle.parse_output.specs.Ends.{end_at}
use Rattle.parse_output.specs.Voids.{IsToken}
use Rattle.parse_output.specs.Forest.{append, one, void_nodes}
use Rattle.parse_output.specs.Joined.{flat_text}
use Rattle.parse_output.specs.Written.{Enters, IsInOrder, Writes, end_in}
use Rattle.parse_laid.specs.Places.{LineRest, Place, Between, Within, AtEnding, Starts}
use Rattle.parse_lines.specs.declared.walk.Walk.{Walk}
use Rattle.parse_lines.specs.Standing.{StandsAt, IsLineOf, around, standing}
use Rattle.parse_lines.specs.Prefixes.{IsFootnoteLabel, IsPrefixOf}
use Rattle.parse_lines.specs.Quiet.{AreQuiet}

-- where a rest of a line begins, of which the content ends at an index
abbrev pub rest_start : ℕ → Rest → End
rest_start line_end rest =
    let index = line_end - length (bytes_of rest) in
    let owed = prefix_len is_tab_column rest in
    if owed == 0 then end_at index 0 else end_at (index - 1) owed

-- what is written ends here
abbrev pub written_to : {A : Type 0} → Walk A → End
written_to w = end_in w.out

-- all before the rest of the line is written
abbrev pub IsWrittenToRest : {A : Type 0} → Walk A → Type 0
IsWrittenToRest w = written_to w ≡ rest_start w.line_end (rest_of w.rest)

-- all before the next line is written
abbrev pub IsWrittenToLine : {A : Type 0} → Walk A → Type 0
IsWrittenToLine w = written_to w ≡ end_at (w.size - length w.left.now) 0

-- an event that holds no other is written up to an end, if its name may have the bytes up to there
abbrev pub WritesUpTo : {A : Type 0} → Name → End → Walk A → Walk A → Type 0
WritesUpTo name to old new =
    (text : List ℕ) → IsInOrder text old.out → IsToken text name (written_to old) to
    → Writes text old.out new.out (void_nodes text name (written_to old) to)

-- nodes are written that spell nothing
pub record WritesQuiet {A : Type 0} (text : List ℕ) (old new : Output A) : Type 0 where
  pub nodes : Nodes
  pub writes : Writes text old new nodes
  pub quiet : AreQuiet nodes
  -- outside of the prefixes of quotes there are only spaces and tabs
  pub white : list_all is_white (flat_text text nodes) ≡ true

-- a walk is in a line, of which this is left after so many columns, and all before it is written
pub record IsAfter {A : Type 0} (text before content after : List ℕ) (n : ℕ) (w : Walk A) : Type 0 where
  pub line : IsLineOf text before content after
  pub end : w.line_end ≡ length before + length content
  pub rest : rest_of w.rest ≡ drop n (whole content)
  pub written : IsWrittenToRest w
  pub order : IsInOrder text w.out

-- the prefix of a container that goes on is written, up to a rest of the line
abbrev pub WritesPrefix : {A : Type 0} → Container → Rest → Walk A → Walk A → Type 0
WritesPrefix c rest old new =
    (text before content after : List ℕ) (n : ℕ) (kind : Kind) → IsAfter text before content after n old
    → continues old.on.now c false (rest_of old.rest) ≡ Some (container_line rest kind)
    → WritesQuiet text old.out new.out × (written_to new ≡ rest_start old.line_end rest)

-- the prefixes of the open containers are written, up to the first that doesn't go on
abbrev pub WritesPrefixes : {A : Type 0} → Walk A → Walk A → Type 0
WritesPrefixes old new =
    (text before content after : List ℕ) (n : ℕ) → IsAfter text before content after n old
    → WritesQuiet text old.out new.out × ((m : ℕ) × IsAfter text before content after m new)

-- the same for the next line
abbrev pub WritesLine : {A : Type 0} → Walk A → Walk A → Type 0
WritesLine old new =
    (text : List ℕ) (next : LineRest) (others : List LineRest) → StandsAt text (Between (next ∷ others)) (standing old) → IsWrittenToLine old
    → IsInOrder text old.out → WritesQuiet text old.out new.out × IsWrittenToRest new

-- An index is in the same line of a text as one before it: no line ends between them.
pub record IsInLineFrom (text : List ℕ) (first index : ℕ) : Type 0 where
  pub before : List ℕ
  pub content : List ℕ
  pub after : List ℕ
  pub parts : text ≡ before ++ (content ++ after)
  pub dark : list_any ends_line content ≡ false
  pub begins : first ≡ length before
  pub forward : first ≤ index
  pub within : index ≤ length before + length content

-- what is written ends in the line that is begun
abbrev pub EndsInLine : {A : Type 0} → Walk A → Walk A → Type 0
EndsInLine old new =
    (text : List ℕ) (next : LineRest) (others : List LineRest) → StandsAt text (Between (next ∷ others)) (standing old) → IsWrittenToLine old
    → IsInOrder text old.out → IsInLineFrom text (written_to old).index (written_to new).index

-- after the line that is begun, and its ending
abbrev pub line_after : {A : Type 0} → Walk A → End
line_after w = end_at (w.size - length w.left.now) 0

-- the ending of a line is written
abbrev pub WritesEnding : {A : Type 0} → Name → Walk A → Walk A → Type 0
WritesEnding name old new =
    (text : List ℕ) (ending : Option LineEnding) (left : List LineRest) → StandsAt text (AtEnding ending left) (standing old) → IsInOrder text old.out
    → IsToken text name (written_to old) (line_after old)
    → Writes text old.out new.out (void_nodes text name (written_to old) (line_after old)) × IsWrittenToLine new

-- the ending of a line is written, and nodes that spell nothing on the next one
abbrev pub WritesNextLine : {A : Type 0} → Walk A → Walk A → Type 0
WritesNextLine old new =
    (text : List ℕ) (ending : Option LineEnding) (next : LineRest) (others : List LineRest)
    → StandsAt text (AtEnding ending (next ∷ others)) (standing old) → IsInOrder text old.out
    → IsToken text Ending (written_to old) (line_after old)
    → (ns : Nodes) × Writes text old.out new.out (append (void_nodes text Ending (written_to old) (line_after old)) ns) × AreQuiet ns
    × (list_all is_white (flat_text text ns) ≡ true) × IsWrittenToRest new

-- A container is entered after white space, and in it its prefix is written first.
pub record WritesStart {A : Type 0} (text : List ℕ) (name : Name) (IsPrefix : Node → Type 0) (at : End) (old new : Output A) : Type 0 where
  pub before : Output A
  pub entered : Output A
  pub space : WritesQuiet text old before
  -- no white space where none is ahead
  pub nothing : end_in old ≡ at → space.nodes ≡ Nil
  pub begins : end_in before ≡ at
  pub enters : Enters text name before entered
  pub first : Node
  pub is_prefix : IsPrefix first
  pub writes : Writes text entered new (one first)

-- the prefix of a container that starts is written, where all before its marker is
abbrev pub WritesMarker : {A : Type 0} → Container → Rest → Walk A → Walk A → Type 0
WritesMarker c rest old new =
    (text before content after : List ℕ) (n : ℕ) (kind : Kind) → IsLineOf text before content after → old.line_end ≡ length before + length content
    → rest_of old.rest ≡ drop n (whole content) → written_to old ≡ rest_start old.line_end (bare (rest_of old.rest)) → IsInOrder text old.out
    → starts old.on.now false (rest_of old.rest) ≡ Some (container_start c rest kind)
    → (first : Node) × IsPrefixOf text c first × Writes text old.out new.out (one first) × (written_to new ≡ rest_start old.line_end rest)

-- a label with its brackets is written, whose text has so many bytes
abbrev pub WritesFootnoteLabel : {A : Type 0} → ℕ → Walk A → Walk A → Type 0
WritesFootnoteLabel size old new =
    (text before content after : List ℕ) (n : ℕ) (label more : Rest) → IsLineOf text before content after → old.line_end ≡ length before + length content
    → written_to old ≡ rest_start old.line_end (drop n (whole content)) → IsInOrder text old.out → prefix_len is_tab_column (drop n (whole content)) ≡ 0
    → drop n (whole content) ≡ 91 ∷ 94 ∷ (label ++ 93 ∷ more) → list_any is_space label ≡ false → size ≡ length label
    → (first : Node) × IsFootnoteLabel label text first × Writes text old.out new.out (one first)
    × (written_to new ≡ rest_start old.line_end (drop (n + (length label + 3)) (whole content)))

-- where the white space ahead ends
abbrev pub bare_end : {A : Type 0} → Walk A → End
bare_end w = end_at (w.line_end - length (bytes_of (bare (rest_of w.rest)))) 0

-- all before the rest of the line is written, or the white space ahead is, too
abbrev pub IsWrittenToStart : {A : Type 0} → Walk A → Type 0
IsWrittenToStart w = IsWrittenToRest w ⊎ (written_to w ≡ bare_end w)

-- where a container of this kind starts, it is written so
abbrev pub WritesStartOf : {A : Type 0} → (Container → Bool) → Name → Walk A → Walk A → Type 0
WritesStartOf is_kind name old new =
    (text : List ℕ) (c : Container) (here : LineRest) (left : List LineRest) (to : Place) → is_kind c ≡ true → StandsAt text (Within here left) (standing old)
    → Starts old.on.now (around (standing old)) c (Within here left) to → IsWrittenToStart old → IsInOrder text old.out
    → WritesStart text name (IsPrefixOf text c) (bare_end old) old.out new.out × IsWrittenToRest new
