-- Contents in a walk: what is ahead on a line of a content, and what is written of it (CommonMark 4.8).
use Rattle.std.specs.Prelude.{◌≡◌, ℕ, zero, suc, ◌+◌, ◌-◌, ◌^◌, ◌≤◌, ◌<◌, true, List, [], ◌∷◌, drop, length}
use Rattle.definition_text.specs.Ascii.{space}
use Rattle.engine_events.specs.declared.event.Name.{Name}
use Rattle.event_grammar.specs.Trees.{Nodes}
use Rattle.event_tokens.specs.Tokens.{is_token}
use Rattle.parse_output.specs.declared.end.End.{End}
use Rattle.parse_output.specs.Ends.{IsInTab, OwesIn, end_at, index_spot}
use Rattle.parse_output.specs.Joined.{AreJoined, end_edge, flat_text, text_between}
use Rattle.parse_output.specs.Written.{Enters, Exits, IsInOrder, Writes, end_in}
use Rattle.parse_lines.specs.declared.walk.Walk.{Walk}

-- after a byte, or after a column that a tab owes
abbrev pub next_from : ℕ → ℕ → End
next_from index zero = end_at (index + 1) 0
next_from index (suc zero) = end_at (index + 1) 0
next_from index (suc (suc owed)) = end_at index (suc owed)

abbrev pub next_end : End → End
next_end end = next_from end.index end.owed

-- after so many columns and bytes
abbrev pub end_after : End → ℕ → End
end_after end zero = end
end_after end (suc count) = end_after (next_end end) count

-- at an index where a tab owes so many columns, this byte is next: a space for each of these columns
abbrev pub IsNext : List ℕ → ℕ → ℕ → ℕ → Type 0
IsNext text index zero b = drop index text ≡ b ∷ drop (index + 1) text
IsNext text index (suc owed) b = (b ≡ space) × (index < length text) × IsInTab text (index_spot text index) (suc owed)

-- these bytes are next
abbrev pub AreNext : List ℕ → End → List ℕ → Type 0
AreNext text end [] = (end.index ≤ length text) × OwesIn text (index_spot text end.index) end.owed
AreNext text end (b ∷ bs) = IsNext text end.index end.owed b × AreNext text (next_end end) bs

-- up to where the content is written
abbrev pub content_end_in : {A : Type 0} → Walk A → End
content_end_in w = end_after w.line_start (w.place - w.line_place)

-- a walk stands in a line of a content, of which these bytes are next, and all before them is written
pub record StandsInLine {A : Type 0} (text line : List ℕ) (w : Walk A) : Type 0 where
  pub order : IsInOrder text w.out
  pub at : end_in w.out ≡ content_end_in w
  pub next : AreNext text (content_end_in w) line
  pub place : w.line_place ≤ w.place
  pub fits : w.place + length line < 2 ^ 64
  pub size : length text < 2 ^ 61

-- an event of a name may have the bytes that are next, so many columns and bytes
abbrev pub HasBytes : {A : Type 0} → List ℕ → Name → ℕ → Walk A → Type 0
HasBytes text name size w = is_token name (text_between text (end_in w.out) (end_after (end_in w.out) size)) ≡ true

-- A line of a content begins where the walk is, and nothing is written.
abbrev pub BeginsLineHere : {A : Type 0} → Walk A → Walk A → Type 0
BeginsLineHere old new =
    (text line : List ℕ) → IsInOrder text old.out → AreNext text (end_in old.out) line → length text < 2 ^ 61 → length line < 2 ^ 64
    → StandsInLine text line new × (end_in new.out ≡ end_in old.out)

-- the same, where so many columns of the content are before the line
abbrev pub BeginsLineAfter : {A : Type 0} → ℕ → Walk A → Walk A → Type 0
BeginsLineAfter columns old new =
    (text line : List ℕ) → IsInOrder text old.out → AreNext text (end_in old.out) line → length text < 2 ^ 61 → columns + length line < 2 ^ 64
    → StandsInLine text line new × (end_in new.out ≡ end_in old.out)

-- nodes are written, for the first of these bytes, and the others are next
pub record WritesInLine {A : Type 0} (text front : List ℕ) (ns : Nodes) (line : List ℕ) (old new : Walk A) : Type 0 where
  pub writes : Writes text old.out new.out ns
  pub stands : StandsInLine text line new
  pub end : end_in new.out ≡ end_after (end_in old.out) (length front)
  pub place : new.place ≡ old.place + length front
  pub joined : AreJoined (end_edge text (end_in old.out)) ns (end_edge text (end_in new.out))
  -- no prefix of a quote is among them
  pub spells : flat_text text ns ≡ text_between text (end_in old.out) (end_in new.out)

-- an event is entered before these bytes
pub record EntersInLine {A : Type 0} (text : List ℕ) (name : Name) (line : List ℕ) (old new : Walk A) : Type 0 where
  pub enters : Enters text name old.out new.out
  pub stands : StandsInLine text line new
  pub end : end_in new.out ≡ end_in old.out
  pub place : new.place ≡ old.place

-- an event is exited before these bytes
pub record ExitsInLine {A : Type 0} (text : List ℕ) (name : Name) (line : List ℕ) (old new : Walk A) : Type 0 where
  pub exits : Exits text name old.out new.out
  pub stands : StandsInLine text line new
  pub end : end_in new.out ≡ end_in old.out
  pub place : new.place ≡ old.place
