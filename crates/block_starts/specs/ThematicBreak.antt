-- Where no thematic break is (CommonMark 4.1).
use Rattle.std.specs.Prelude.{◌≡◌, ℕ, ◌+◌, ◌<◌, false, List, length, drop}
use Rattle.definition_block.specs.ThematicBreak.{is_break_text}

-- no end of a text that has more bytes than this is a break
abbrev pub BreaksWithin : ℕ → List ℕ → Type 0
BreaksWithin most text = (n : ℕ) → most + n < length text → is_break_text (drop n text) ≡ false
