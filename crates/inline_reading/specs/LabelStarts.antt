-- Label starts at the front of a content.
use Rattle.std.specs.Prelude.{◌≡◌, ◌==◌, ◌&&◌, ℕ, Bool, not, List, length, take}
use Rattle.std.specs.List.{list_all}
use Rattle.definition_text.specs.Ascii.{carriage_return}
use Rattle.definition_text.specs.Content.{return_and_feed}
use Rattle.definition_inline.specs.Scan.{start_bytes}
use Rattle.inline_leaves.specs.Leaves.{IsEnd}
use Rattle.inline_reading.specs.declared.label.LabelStart.{LabelStart}
use Rattle.inline_reading.specs.Shows.{start_view}

-- none of these bytes is CR, and none the code of a line ending of two
abbrev pub has_no_return : List ℕ → Bool
has_no_return bytes = list_all (λ b. not (b == carriage_return) && not (b == return_and_feed)) bytes

-- a label start comes first
pub record StartsLabel (bytes : List ℕ) (start : LabelStart) : Type 0 where
  pub end : IsEnd bytes (length (start_bytes (start_view start)))
  pub first : take (length (start_bytes (start_view start))) bytes ≡ start_bytes (start_view start)
