-- Raw HTML in a text (CommonMark 6.6): open tags, closing tags, comments, processing instructions, declarations and CDATA sections.
use Rattle.std.specs.Prelude.{ℕ, ◌-◌, if◌then◌else◌, ◌&&◌, List, [], ◌∷◌, Option, None, Some, codes, map, take, drop, length}
use Rattle.std.specs.Option.{option_or}
use Rattle.markdown_options.specs.declared.configuration.Constructs.{Constructs}
use Rattle.definition_text.specs.Ascii.{line_feed}
use Rattle.definition_text.specs.Columns.{Code, code_byte}
use Rattle.definition_text.specs.Bytes.{begins_with, begins_with_letter}
use Rattle.definition_inline.specs.HtmlTags.{open_tag, closing_tag}
use Rattle.definition_text.specs.Content.{is_eol}
use Rattle.definition_inline.specs.Inline.{Found, leaf, Html}

-- a code as the grammar of tags reads it: a line ending is 10, and a column that is left of a tab a space
abbrev pub html_byte : Code → ℕ
html_byte code = if is_eol code then line_feed else code_byte code

-- what follows the first place at which a text stands
abbrev pub after_text : List ℕ → List ℕ → Option (List ℕ)
after_text text [] = None
after_text text (b ∷ bs) = if begins_with text (b ∷ bs) then Some (drop (length text) (b ∷ bs)) else after_text text bs

-- a comment after its `<!--`: `>`, `->`, or all up to `-->` (CommonMark 6.6)
abbrev pub comment_rest : List ℕ → Option (List ℕ)
comment_rest bytes =
    if begins_with (codes ">") bytes then Some (drop 1 bytes)
    else (if begins_with (codes "->") bytes then Some (drop 2 bytes) else after_text (codes "-->") bytes)

-- what follows a comment (CommonMark 6.6)
abbrev pub comment : List ℕ → Option (List ℕ)
comment bytes = if begins_with (codes "<!--") bytes then comment_rest (drop 4 bytes) else None

-- what follows a processing instruction, `<?` to `?>` (CommonMark 6.6)
abbrev pub instruction : List ℕ → Option (List ℕ)
instruction bytes = if begins_with (codes "<?") bytes then after_text (codes "?>") (drop 2 bytes) else None

-- what follows a declaration, `<!` and a letter to `>` (CommonMark 6.6)
abbrev pub declaration : List ℕ → Option (List ℕ)
declaration bytes =
    if begins_with (codes "<!") bytes && begins_with_letter (drop 2 bytes) then after_text (codes ">") (drop 2 bytes) else None

-- what follows a CDATA section, `<![CDATA[` to `]]>` (CommonMark 6.6)
abbrev pub cdata : List ℕ → Option (List ℕ)
cdata bytes = if begins_with (codes "<![CDATA[") bytes then after_text (codes "]]>") (drop 9 bytes) else None

-- what follows raw HTML after a `<` and `!` or `?`, none of which can be another
abbrev pub marked_html : List ℕ → Option (List ℕ)
marked_html bytes = option_or (comment bytes) (option_or (instruction bytes) (option_or (declaration bytes) (cdata bytes)))

-- what follows raw HTML (CommonMark 6.6)
abbrev pub html_end : List ℕ → Option (List ℕ)
html_end bytes = option_or (open_tag bytes) (option_or (closing_tag bytes) (marked_html bytes))

-- raw HTML of so many codes, those before the rest
abbrev pub html_leaf : List Code → Option (List ℕ) → Option Found
html_leaf content None = None
html_leaf content (Some rest) =
    let size = length content - length rest in
    Some (leaf (Html (take size content) ∷ []) size)

-- raw HTML (CommonMark 6.6)
abbrev pub html_text_at : Constructs → List Code → Option Found
html_text_at on content =
    if on.html_text && begins_with (codes "<") content then html_leaf content (html_end (map html_byte content)) else None
