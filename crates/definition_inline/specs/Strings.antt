-- Strings: destinations, titles and info strings, in which only escapes and character references stand for something else (CommonMark 2.4 and 2.5).
use Rattle.std.specs.Prelude.{ℕ, zero, suc, ◌-◌, Bool, false, if◌then◌else◌, ◌==◌, ◌&&◌, nat_le, List, [], ◌∷◌, ◌++◌, Option, None, Some}
use Rattle.std.specs.List.{flat_map}
use Rattle.markdown_options.specs.declared.configuration.Constructs.{Constructs}
use Rattle.definition_text.specs.Ascii.{line_feed, carriage_return}
use Rattle.definition_text.specs.Columns.{Code, indent, bare}
use Rattle.definition_text.specs.Content.{return_and_feed, is_eol}
use Rattle.definition_inline.specs.Inline.{InlineLeaf, Data, Escape, Character, LineEnd, Found, leaf, or_else}
use Rattle.definition_inline.specs.CharacterEscape.{escape_at}
use Rattle.definition_inline.specs.CharacterReference.{Names, reference_at}
use Rattle.definition_inline.specs.HardBreak.{line_end_at}

-- a line ending comes first
abbrev pub begins_with_eol : List Code → Bool
begins_with_eol [] = false
begins_with_eol (c ∷ cs) = is_eol c

-- spaces and tabs before a line ending aren't printed
abbrev pub spaces_at : List Code → Option Found
spaces_at content = if nat_le 1 (indent content) && begins_with_eol (bare content) then Some (leaf [] (indent content)) else None

-- what a string begins with: an escape, a character reference, or a line ending with the spaces and tabs around it
abbrev pub string_leaf_at : Constructs → Names → List Code → Option Found
string_leaf_at on names content =
    or_else (escape_at on content) (or_else (reference_at on names content) (or_else (line_end_at content) (spaces_at content)))

-- what was found, or a byte
abbrev pub or_byte : Code → Option Found → Found
or_byte code None = leaf (Data code ∷ []) 1
or_byte code (Some found) = found

-- the parts of a string, of which so many codes are taken already
abbrev pub string_parts : Constructs → Names → ℕ → List Code → List InlineLeaf
string_parts on names k [] = []
string_parts on names zero (c ∷ cs) =
    let found = or_byte c (string_leaf_at on names (c ∷ cs)) in found.parts ++ string_parts on names (found.size - 1) cs
string_parts on names (suc k) (c ∷ cs) = string_parts on names k cs

-- the bytes of a line ending by its code
abbrev pub eol_bytes : Code → List ℕ
eol_bytes code = if code == return_and_feed then carriage_return ∷ line_feed ∷ [] else code ∷ []

-- the bytes of a part of a string
abbrev pub string_bytes : InlineLeaf → List ℕ
string_bytes (Data b) = b ∷ []
string_bytes (Escape b) = b ∷ []
string_bytes (Character bytes) = bytes
string_bytes (LineEnd code) = eol_bytes code
string_bytes other = []

-- the text that a string stands for (CommonMark 2.4 and 2.5)
abbrev pub string_text : Constructs → Names → List Code → List ℕ
string_text on names string = flat_map string_bytes (string_parts on names 0 string)
