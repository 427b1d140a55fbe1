-- Where HTML blocks start and end (CommonMark 4.6). A line is given by its bytes after the spaces and tabs ahead.
use Rattle.std.specs.Prelude.{ℕ, Bool, true, false, not, if◌then◌else◌, ◌==◌, ◌&&◌, ◌||◌, leb, List, [], ◌∷◌, Option, None, Some, drop, codes}
use Rattle.std.specs.List.{take_while}
use Rattle.markdown_options.specs.declared.configuration.Constructs.{Constructs}
use Rattle.definition_text.specs.Ascii.{greater_than}
use Rattle.definition_text.specs.Columns.{Rest, bare, bytes_of, is_white, is_blank}
use Rattle.definition_text.specs.Indents.{small_indent}
use Rattle.definition_text.specs.Bytes.{is_letter_or_digit, begins_with, begins_with_letter, after_all, without_slash, somewhere, holds}
use Rattle.definition_block.specs.HtmlNames.{is_raw_name, is_block_name}
use Rattle.definition_inline.specs.HtmlTags.{tag_name, open_tag, closing_tag}

-- the letters and digits that bytes begin with
abbrev pub element_name : List ℕ → List ℕ
element_name bytes = take_while is_letter_or_digit bytes

-- what follows those letters and digits
abbrev pub after_element_name : List ℕ → List ℕ
after_element_name bytes = after_all is_letter_or_digit bytes

-- a space, a tab, `>` or the end of the line
abbrev pub ends_name : List ℕ → Bool
ends_name [] = true
ends_name (b ∷ bs) = is_white b || (b == greater_than)

-- kind 1: `<`, one of the raw names, and what ends a name
abbrev pub starts_raw : List ℕ → Bool
starts_raw line =
    begins_with (codes "<") line
    && (is_raw_name (element_name (drop 1 line)) && ends_name (after_element_name (drop 1 line)))

-- kind 4: `<!` and a letter
abbrev pub starts_declaration : List ℕ → Bool
starts_declaration line = begins_with (codes "<!") line && begins_with_letter (drop 2 line)

-- a block name, and what ends a name or `/>`
abbrev pub begins_with_block_name : List ℕ → Bool
begins_with_block_name bytes =
    is_block_name (element_name bytes)
    && (ends_name (after_element_name bytes) || begins_with (codes "/>") (after_element_name bytes))

-- kind 6: `<` or `</`, a block name, and what ends it
abbrev pub starts_basic : List ℕ → Bool
starts_basic line = begins_with (codes "<") line && begins_with_block_name (without_slash (drop 1 line))

-- there is a tag, and only spaces and tabs follow it
abbrev pub stands_alone : Option (List ℕ) → Bool
stands_alone None = false
stands_alone (Some rest) = is_blank rest

-- kind 7: an open tag whose name isn't raw, or a closing tag, with only spaces and tabs after it
abbrev pub starts_complete : List ℕ → Bool
starts_complete line =
    (stands_alone (open_tag line) && not (is_raw_name (tag_name (drop 1 line)))) || stands_alone (closing_tag line)

-- which of the seven kinds of HTML block starts on a line, tried in their order; a block of the last kind can't interrupt a paragraph (CommonMark 4.6)
abbrev pub html_kind : Bool → List ℕ → Option ℕ
html_kind paragraph_open line =
    if starts_raw line then Some 1
    else (if begins_with (codes "<!--") line then Some 2
    else (if begins_with (codes "<?") line then Some 3
    else (if starts_declaration line then Some 4
    else (if begins_with (codes "<![CDATA[") line then Some 5
    else (if starts_basic line then Some 6
    else (if not paragraph_open && starts_complete line then Some 7 else None))))))

-- `</`, one of the raw names, and `>`
abbrev pub begins_with_raw_end : List ℕ → Bool
begins_with_raw_end bytes =
    begins_with (codes "</") bytes
    && (is_raw_name (element_name (drop 2 bytes)) && begins_with (codes ">") (after_element_name (drop 2 bytes)))

-- a block of this kind ends on a line: for kinds 1 to 5 by what stands in the line, while 6 and 7 end before a blank line (CommonMark 4.6)
abbrev pub html_ends : ℕ → List ℕ → Bool
html_ends kind line =
    if kind == 1 then somewhere begins_with_raw_end line
    else (if kind == 2 then holds (codes "-->") line
    else (if kind == 3 then holds (codes "?>") line
    else (if kind == 4 then holds (codes ">") line
    else (if kind == 5 then holds (codes "]]>") line
    else false))))

-- the kind of the HTML block that starts here (CommonMark 4.6)
abbrev pub html_start : Constructs → Bool → Rest → Option ℕ
html_start on paragraph_open rest = if on.html_flow && small_indent on rest then html_kind paragraph_open (bytes_of (bare rest)) else None

-- whether a block of this kind ends on this line (CommonMark 4.6)
abbrev pub html_ends_here : ℕ → Rest → Bool
html_ends_here kind rest = html_ends kind (bytes_of (bare rest))

-- whether a block of this kind ends before a blank line (CommonMark 4.6)
abbrev pub ends_before_blank : ℕ → Bool
ends_before_blank kind = leb 6 kind
