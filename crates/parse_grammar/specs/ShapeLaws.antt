-- The events of sound nodes: those that hold something, raw HTML, and those in calls of footnotes.
use Rattle.std.specs.Prelude.{◌≡◌, ℕ, true, false, List}
use Rattle.markdown_options.specs.declared.configuration.Constructs.{Constructs}
use Rattle.definition_inline.specs.CharacterReference.{Names}
use Rattle.event_grammar.specs.Trees.{AreNodes, Nodes, events_of}
use Rattle.event_tokens.specs.Shape.{calls_hold, is_hollow, is_untagged, no_neighbours}
use Rattle.parse_references.specs.Sound.{AreSound}

-- Strings, raw HTML, paragraphs and the texts of headings hold something: their enters are not directly followed by their exits. Raw HTML in texts begins with
-- a `<`. Calls of footnotes hold what strings may hold.
pub record SoundNodesHold : Type 0 where
  pub some : (on : Constructs) (names : Names) (text : List ℕ) (ns : Nodes) → AreNodes ns → AreSound on names text ns
      → no_neighbours is_hollow (events_of ns) ≡ true
  pub tags : (on : Constructs) (names : Names) (text : List ℕ) (ns : Nodes) → AreNodes ns → AreSound on names text ns
      → no_neighbours (is_untagged text) (events_of ns) ≡ true
  pub calls : (on : Constructs) (names : Names) (text : List ℕ) (ns : Nodes) → AreNodes ns → AreSound on names text ns
      → calls_hold false (events_of ns) ≡ true
