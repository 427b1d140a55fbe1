-- Codes that are those of a text at a place (CommonMark 2.1 and 2.2).
use Rattle.std.specs.Prelude.{◌≡◌, ℕ, ◌+◌, ◌-◌, ◌≤◌, ◌<◌, true, false, List, [], ◌∷◌, get_or, length}
use Rattle.definition_text.specs.Ascii.{carriage_return, line_feed, tab}
use Rattle.definition_text.specs.Columns.{Code, is_tab_column}
use Rattle.definition_text.specs.Content.{is_eol, return_and_feed}
use Rattle.engine_events.specs.Columns.{mark_size, tab_size}
use Rattle.parse_output.specs.Ends.{index_spot}
use Rattle.parse_pieces.specs.Sizes.{code_size, columns_of}

-- After so many bytes of a text comes this code, where so many columns of a tab follow it. No byte order mark goes on there.
pub record Comes (text : List ℕ) (before : ℕ) (c : Code) (after : ℕ) : Type 0 where
  -- a column of a tab after its first: the tab is the byte before, and has more columns than those that are left
  pub column : is_tab_column c ≡ true → (0 < before) × (mark_size text ≤ before - 1) × (before - 1 < length text) × (get_or text (before - 1) 0 ≡ tab)
      × (1 + after < tab_size (index_spot text (before - 1)).column)
  -- any other code is a byte or a line ending
  pub mark : is_tab_column c ≡ false → mark_size text ≤ before
  pub within : is_tab_column c ≡ false → before < length text
  -- columns follow only the first column of a tab, and are all the others of it
  pub first : is_tab_column c ≡ false → 0 < after → (c ≡ tab) × (1 + after ≡ tab_size (index_spot text before).column)
  pub byte : is_tab_column c ≡ false → is_eol c ≡ false → get_or text before 0 ≡ c
  -- an LF by itself is after no CR
  pub feed : c ≡ line_feed → (get_or text before 0 ≡ line_feed) × ((index_spot text before).returned ≡ false)
  pub return : c ≡ carriage_return → get_or text before 0 ≡ carriage_return
  pub both : c ≡ return_and_feed → (get_or text before 0 ≡ carriage_return) × (get_or text (before + 1) 0 ≡ line_feed) × (before + 1 < length text)

-- these codes come, one after another
abbrev pub AllCome : List ℕ → ℕ → List Code → ℕ → Type 0
AllCome text before [] after = Unit {0}
AllCome text before (c ∷ cs) after = Comes text before c (columns_of cs after) × AllCome text (before + code_size c) cs after
