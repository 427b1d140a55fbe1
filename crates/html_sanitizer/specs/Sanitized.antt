-- What is left to print of HTML.
use Rattle.std.specs.Prelude.{ℕ, Bool, false, ◌==◌, ◌||◌, List, [], ◌∷◌, Option, None, Some, IsTrue, codes, take, drop}
use Rattle.std.specs.List.{fold, position_or_len}
use Rattle.markdown_compile_options.specs.declared.configuration.CompileOptions.{CompileOptions}
use Rattle.definition_text.specs.Ascii.{ampersand, less_than}
use Rattle.definition_text.specs.Content.{Part, part}
use Rattle.definition_text.specs.Encode.{encode}
use Rattle.definition_inline.specs.CharacterReference.{Names}
use Rattle.definition_html.specs.Raw.{raw_parts}
use Rattle.definition_html.specs.State.{State}
use Rattle.definition_html.specs.Listed.{raw_part}

-- the state after raw HTML
abbrev pub page_after : Names → CompileOptions → State → List ℕ → State
page_after names options s html = fold raw_part s (raw_parts names options html)

-- a byte that may begin a tag or a reference
abbrev pub is_mark : ℕ → Bool
is_mark b = (b == less_than) || (b == ampersand)

abbrev pub before_marks : List ℕ → List ℕ
before_marks text = take (position_or_len is_mark text) text

abbrev pub after_marks : List ℕ → List ℕ
after_marks text = drop (position_or_len is_mark text) text

-- such a byte comes first
abbrev pub begins_with_mark : List ℕ → Bool
begins_with_mark [] = false
begins_with_mark (b ∷ bs) = is_mark b

abbrev pub IsMarked : List ℕ → Type 0
IsMarked html = IsTrue (begins_with_mark html)

-- what a reference that is known or not prints, and what follows it
abbrev pub reference_part : List ℕ → Option Part → Part
reference_part after None = part (codes "&amp;") after
reference_part after (Some known) = part (encode known.text) known.rest
