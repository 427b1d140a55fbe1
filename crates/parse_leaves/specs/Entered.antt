-- The start of a block that holds a text (CommonMark 4.3 and 4.8).
use Rattle.std.specs.Prelude.{◌≡◌, ◌≤◌, ◌+◌, ℕ, Bool, true, false, List, [], ◌∷◌, codes, drop, slice_index}
use Rattle.std.specs.List.{list_all, prefix_len}
use Rattle.markdown_options.specs.declared.configuration.Constructs.{Constructs}
use Rattle.engine_events.specs.declared.event.Name.{Name}
use Rattle.engine_events.specs.declared.event.Name.TheVariants as n
use Rattle.definition_text.specs.BlockLines.{BlockLine, last_ending}
use Rattle.definition_text.specs.Columns.{bare, bytes_of, is_white}
use Rattle.definition_text.specs.Content.{content_text}
use Rattle.definition_text.specs.Runs.{after_run}
use Rattle.event_tokens.specs.Tokens.{is_among}
use Rattle.definition_block.specs.Tree.{rest_line}
use Rattle.definition_inline.specs.CharacterReference.{Names}
use Rattle.definition_inline.specs.Inline.{Inlines}
use Rattle.definition_page.specs.InlinePieces.{Meaning}
use Rattle.definition_page.specs.Read.{Reading}
use Rattle.event_grammar.specs.declared.slot.Between.TheVariants.{Lines}
use Rattle.event_grammar.specs.declared.slot.Form.TheVariants.{Plain}
use Rattle.event_grammar.specs.InGrammar.{kids_of, node_name}
use Rattle.event_grammar.specs.References.{named}
use Rattle.event_grammar.specs.Trees.{Node, Nodes, Around}
use Rattle.event_meaning.specs.Children.{text_in}
use Rattle.event_meaning.specs.Texts.{inlines_of}
use Rattle.parse_output.specs.declared.end.End.{End}
use Rattle.parse_output.specs.Ends.{end_at, enter_at, exit_at}
use Rattle.parse_output.specs.Forest.{append, one}
use Rattle.parse_output.specs.Joined.{flat_text}
use Rattle.parse_output.specs.declared.output.Output.{Output}
use Rattle.parse_output.specs.Written.{Enters, IsInOrder, Writes, end_in}
use Rattle.parse_alike.specs.Inline.{ArePartsAlike}
use Rattle.parse_slots.specs.Left.{IsFilled}
use Rattle.parse_references.specs.Sound.{AreSound}
use Rattle.parse_laid.specs.Leaves.{AreTaken}
use Rattle.parse_laid.specs.Places.{LineRest, Between, Within, AtEnding}
use Rattle.parse_lines.specs.declared.walk.Walk.{Walk}
use Rattle.parse_lines.specs.Ends.{IsWrittenToRest, written_to}
use Rattle.parse_lines.specs.InContent.{IsRestLine, IsSameText, MayStart, StandsInContent, Stop}
use Rattle.parse_lines.specs.Quiet.{AreQuiet}
use Rattle.parse_lines.specs.Standing.{StandsAt, around, standing}
use Rattle.parse_lines.specs.Steps.{HasSameOpen}
use Rattle.parse_strings.specs.Plain.{ArePlain}
use Rattle.parse_inline.specs.Texts.{AreMeanings, FillsText}

-- An event is entered in a content, after white space at its start, which spells nothing.
pub record EntersAt {A : Type 0} (text : List ℕ) (name : Name) (content : List ℕ) (stop : Stop) (old new : Walk A) : Type 0 where
  pub before : Nodes
  pub are_quiet : AreQuiet before
  pub space : Output A
  pub writes : Writes text old.out space before
  pub enters : Enters text name space new.out
  pub stands : StandsInContent text (drop new.place content) stop new
  pub white : new.place ≤ prefix_len is_white content
  pub around : HasSameOpen (standing old) (standing new)
  pub starts : (written_to old).index ≤ (end_in space).index
  pub begins : (end_in space).index ≤ old.line_end

-- where the lines of a text begin, up to the ending of the last one
abbrev pub text_stop : List BlockLine → List LineRest → Stop
text_stop ls after = record { place = AtEnding (last_ending ls) after; behind = 0 }

-- An event is entered so where the lines of a text begin with what is left of the line.
abbrev pub EntersText : {A : Type 0} → Name → Walk A → Walk A → Type 0
EntersText name old new =
    (text : List ℕ) (here : LineRest) (left after : List LineRest) (others : List BlockLine) → StandsAt text (Within here left) (standing old)
    → IsWrittenToRest old → IsInOrder text old.out → AreTaken old.on.now (around (standing old)) IsRestLine others (Between left) (Between after)
    → let ls = rest_line here.rest here.beside ∷ others in EntersAt text name (content_text ls) (text_stop ls after) old new

-- An event of a name is written that holds all that is left of a text, which is these bytes, and the walk is where the content ends.
pub record WritesTextIn {A : Type 0} (on : Constructs) (names : Names) (text : List ℕ) (name : Name) (front : List ℕ) (is : Inlines)
    (stop : Stop) (old new : Walk A) : Type 0 where
  pub nodes : Nodes
  pub from : End
  pub to : End
  pub writes : Writes text old.out new.out (one (Around (enter_at text name from) nodes (exit_at text name to)))
  pub spells : (m m' : Meaning) → AreMeanings on names m m' → ArePartsAlike m m' is (inlines_of names text false nodes)
  pub plain : ArePlain nodes
  pub fill : FillsText front nodes
  pub at : StandsAt text stop.place (standing new)
  pub whole : (end_in new.out).owed ≡ 0
  pub index : (end_in new.out).index + stop.behind ≡ new.line_end
  pub around : HasSameOpen (standing old) (standing new)
  pub sound : AreSound on names text nodes
  pub has_text : (start : Bool) → MayStart start old → IsSameText start front (flat_text text nodes)

-- from a walk that stands in a content it is written so
abbrev pub WritesContentIn : {A : Type 0} → Reading → Name → List ℕ → Inlines → Walk A → Walk A → Type 0
WritesContentIn r name content is old new =
    (text : List ℕ) (stop : Stop) → StandsInContent text (drop old.place content) stop old → old.place ≤ prefix_len is_white content
    → WritesTextIn r.parse.constructs r.tables.names text name (drop old.place content) is stop old new

-- bytes of an underline: its first byte, again and again, and then only spaces and tabs (CommonMark 4.3)
abbrev pub AreUnderline : List ℕ → Type 0
AreUnderline bytes = (is_among (codes "=-") (slice_index bytes 0) ≡ true) × (list_all is_white (after_run (slice_index bytes 0) bytes) ≡ true)

-- The underline of a heading is written, and all of its line (CommonMark 4.3).
pub record WritesUnderline {A : Type 0} (text : List ℕ) (here : LineRest) (left : List LineRest) (old new : Walk A) : Type 0 where
  pub before : Nodes
  pub are_quiet : AreQuiet before
  pub node : Node
  pub is_underline : node_name node ≡ n.HeadingSetextUnderline
  pub marker : slice_index (text_in text n.HeadingSetextUnderlineSequence (kids_of node)) 0 ≡ slice_index (bytes_of (bare here.rest)) 0
  pub definitions : named n.Definition (one node) ≡ []
  pub filled : IsFilled Lines Plain node
  pub writes : Writes text old.out new.out (append before (one node))
  pub at : StandsAt text (AtEnding here.beside.ending left) (standing new)
  pub written : written_to new ≡ end_at new.line_end 0
  pub around : HasSameOpen (standing old) (standing new)
