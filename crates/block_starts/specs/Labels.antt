-- Where the label of a footnote definition ends.
use Rattle.std.specs.Prelude.{◌≡◌, ℕ, suc, Bool, false, not, if◌then◌else◌, ◌==◌, ◌&&◌, nat_le, List, [], ◌∷◌, Option, None, Some, length}
use Rattle.std.specs.Option.{option_map}
use Rattle.definition_text.specs.Ascii.{colon, right_bracket}
use Rattle.definition_text.specs.Columns.{Rest}
use Rattle.definition_text.specs.Content.{is_space, may_escape, closed_by}
use Rattle.definition_inline.specs.Label.{ends_label, label_end}
use Rattle.definition_block.specs.BlockQuote.{after_byte}
use Rattle.definition_block.specs.GfmFootnoteDefinition.{label_before, with_colon}

-- how many bytes stand before the `]` that closes a label, where no white space does
abbrev pub label_len : Bool → List ℕ → Option ℕ
label_len escaped [] = None
label_len escaped (b ∷ bs) =
    if is_space b then None
    else if ends_label escaped b then (if b == right_bracket then Some 0 else None)
    else option_map suc (label_len (may_escape escaped b) bs)

-- at least one byte, and at most 999
abbrev pub is_short : List ℕ → Bool
is_short label = not (length label == 0) && nat_le (length label) 999

-- no label and colon are at the front of a rest
abbrev pub NoLabel : Rest → Type 0
NoLabel rest = with_colon (closed_by rest (label_end false rest)) ≡ None

-- if any are, this is the label, and what follows its `]`
abbrev pub IsLabelBefore : Rest → List ℕ → Rest → Type 0
IsLabelBefore rest label after =
    with_colon (closed_by rest (label_end false rest)) ≡ (if is_short label then label_before label (after_byte colon after) else None)
