-- Where a walk stands in the lines of a text (CommonMark 2.1 and 5).
use Rattle.std.specs.Prelude.{◌≡◌, ℕ, ◌+◌, ◌-◌, ◌^◌, ◌≤◌, Bool, true, false, List, ◌++◌, [], Option, None, Some, ◌<◌, get_or, length, drop, reverse}
use Rattle.std.specs.List.{list_any}
use Rattle.markdown_options.specs.declared.line_ending.LineEnding.{LineEnding}
use Rattle.markdown_options.specs.declared.line_ending.LineEnding.TheVariants.{CarriageReturn}
use Rattle.markdown_options.specs.declared.configuration.Constructs.{Constructs}
use Rattle.markdown_options.specs.declared.beside.Kind.{Kind}
use Rattle.markdown_options.specs.declared.beside.Kind.TheVariants.{Whitespace}
use Rattle.definition_text.specs.Columns.{Rest, whole}
use Rattle.definition_text.specs.Lines.{lines, ends_line, ending_text}
use Rattle.engine_events.specs.Columns.{mark_size}
use Rattle.parse_output.specs.Ends.{index_spot}
use Rattle.definition_block.specs.Container.{Container}
use Rattle.block_starts.specs.View.{rest_of, container_views}
use Rattle.parse_laid.specs.Places.{LineRest, Place, Between, Within, AtEnding, unread}
use Rattle.parse_laid.specs.EmptyRests.{is_quote}
use Rattle.parse_lines.specs.declared.walk.Walk.{Walk}

-- What a walk knows of the lines.
pub record Standing : Type 0 where
  pub on : Constructs
  -- how many bytes the text has
  pub size : ℕ
  -- what follows the line
  pub left : List ℕ
  -- whether a line is begun, what is left of it, where its ending is, and which
  pub is_in_line : Bool
  pub rest : Rest
  pub line_end : ℕ
  pub ending : Option LineEnding
  -- the open containers, the outermost first; from this depth on none is a quote
  pub outermost : List Container
  pub quotes_end : ℕ

abbrev pub standing : {A : Type 0} → Walk A → Standing
standing w =
    record {
      on = w.on.now;
      size = w.size;
      left = w.left.now;
      is_in_line = w.is_in_line;
      rest = rest_of w.rest;
      line_end = w.line_end;
      ending = w.ending;
      outermost = container_views w.open.items;
      quotes_end = w.quotes_end;
    }

-- the open containers, the innermost first
abbrev pub around : Standing → List Container
around s = reverse s.outermost

-- from this depth on, no container is a quote
abbrev pub AreQuotesWithin : ℕ → List Container → Type 0
AreQuotesWithin depth outermost = list_any is_quote (drop depth outermost) ≡ false

-- The largest size of a text, in bytes. No line of a longer text is read.
abbrev pub TEXT_MAX : ℕ
TEXT_MAX = 2 ^ 61 - 1

-- A line begins at an index, in its first column. A byte order mark has no columns (CommonMark 2.1 and 2.2).
pub record IsLineStart (text : List ℕ) (index : ℕ) : Type 0 where
  pub column : (index_spot text index).column ≡ 1
  pub mark : mark_size text ≤ index
  -- not between CR and LF, which are one ending
  pub apart : 0 < index → get_or text (index - 1) 0 ≡ 13 → get_or text index 0 ≡ 10 → ⊥

-- These are parts of a text: what is before a line, what the line holds before its ending, and what is after that.
pub record IsLineOf (text before content after : List ℕ) : Type 0 where
  pub parts : text ≡ before ++ (content ++ after)
  pub fits : length text ≤ TEXT_MAX
  pub first : IsLineStart text (length before)
  pub dark : list_any ends_line content ≡ false
  pub bytes : (k : ℕ) → get_or content k 0 < 256

-- it walks over this text
pub record IsOver (text : List ℕ) (s : Standing) : Type 0 where
  pub fits : length text ≤ TEXT_MAX
  pub size : s.size ≡ length text
  pub bytes : (k : ℕ) → get_or text k 0 < 256
  pub quotes : AreQuotesWithin s.quotes_end s.outermost

-- a line of this text is begun: what is before it, and what it holds before its ending
pub record IsInLine (text : List ℕ) (s : Standing) : Type 0 where
  pub over : IsOver text s
  pub begun : s.is_in_line ≡ true
  pub before : List ℕ
  pub content : List ℕ
  pub parts : IsLineOf text before content (ending_text s.ending ++ s.left)
  pub last : s.ending ≡ None → s.left ≡ []
  pub apart : s.ending ≡ Some CarriageReturn → get_or s.left 0 0 ≡ 10 → ⊥
  pub end : s.line_end ≡ length before + length content

-- No line is begun, and these are the lines of what is left of the text.
pub record IsBetween (text : List ℕ) (left : List LineRest) (s : Standing) : Type 0 where
  pub over : IsOver text s
  pub begun : s.is_in_line ≡ false
  pub before : List ℕ
  pub parts : text ≡ before ++ s.left
  pub first : 0 < length s.left → IsLineStart text (length before)
  pub kind : Kind
  pub unread : left ≡ unread kind (lines s.left)

-- a line is begun, of which this is left: its end, from a column on
pub record IsWithin (text : List ℕ) (here : LineRest) (left : List LineRest) (s : Standing) : Type 0 where
  pub line : IsInLine text s
  pub columns : ℕ
  pub suffix : here.rest ≡ drop columns (whole line.content)
  pub rest : s.rest ≡ here.rest
  pub ending : s.ending ≡ here.beside.ending
  pub unread : left ≡ unread Whitespace (lines s.left)

-- a line is begun, which has this ending
pub record IsAtEnding (text : List ℕ) (last : Option LineEnding) (left : List LineRest) (s : Standing) : Type 0 where
  pub line : IsInLine text s
  pub ending : s.ending ≡ last
  pub unread : left ≡ unread Whitespace (lines s.left)

-- a walk stands at a place of a text
abbrev pub StandsAt : List ℕ → Place → Standing → Type 0
StandsAt text (Between left) s = IsBetween text left s
StandsAt text (Within here left) s = IsWithin text here left s
StandsAt text (AtEnding ending left) s = IsAtEnding text ending left s
