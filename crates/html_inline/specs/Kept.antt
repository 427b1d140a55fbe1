-- The bytes of a string that stand for themselves.
use Rattle.std.specs.Prelude.{ℕ, ◌+◌, Bool, not, if◌then◌else◌, ◌==◌, ◌||◌, List, Option, drop}
use Rattle.std.specs.List.{prefix_len}
use Rattle.markdown_options.specs.declared.configuration.Constructs.{Constructs}
use Rattle.definition_text.specs.Ascii.{tab, line_feed, carriage_return, space, ampersand, backslash}
use Rattle.definition_text.specs.Columns.{is_white}
use Rattle.definition_text.specs.Content.{content_codes}
use Rattle.definition_inline.specs.Strings.{string_text}

-- a byte that begins nothing: no `\`, `&`, CR, LF, space or tab
abbrev pub is_ink : ℕ → Bool
is_ink b = not ((b == backslash) || (b == ampersand) || (b == line_feed) || (b == carriage_return) || (b == space) || (b == tab))

-- all spaces and tabs, or a byte and those after it that begin nothing
abbrev pub kept_size : List ℕ → ℕ
kept_size bytes =
    let size = prefix_len is_white bytes in if size == 0 then 1 + prefix_len is_ink (drop 1 bytes) else size

-- the text that the bytes of a string stand for (CommonMark 2.4 and 2.5)
abbrev pub text_of : Constructs → (List ℕ → Option (List ℕ)) → List ℕ → List ℕ
text_of on names bytes = string_text on names (content_codes bytes)
