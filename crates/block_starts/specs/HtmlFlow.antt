-- The numbers of the kinds of HTML blocks (CommonMark 4.6).
use Rattle.std.specs.Prelude.{ℕ, Bool, ◌==◌, Option, None, Some}
use Rattle.definition_text.specs.Ascii.{greater_than}
use Rattle.block_starts.specs.declared.html_flow.HtmlKind.{HtmlKind}
use Rattle.block_starts.specs.declared.html_flow.HtmlKind.TheVariants.{Raw, Comment, Instruction, Declaration, CharacterData, Basic, Complete}

-- the number of a kind
abbrev pub number_of : HtmlKind → ℕ
number_of Raw = 1
number_of Comment = 2
number_of Instruction = 3
number_of Declaration = 4
number_of CharacterData = 5
number_of Basic = 6
number_of Complete = 7

-- the number of the kind that starts, if one does
abbrev pub kind_number : Option HtmlKind → Option ℕ
kind_number None = None
kind_number (Some kind) = Some (number_of kind)

abbrev pub is_greater_than : ℕ → Bool
is_greater_than b = b == greater_than
