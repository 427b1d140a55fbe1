-- The filter of tags in raw HTML (GFM 6.11).
use Rattle.std.specs.Prelude.{ℕ, Bool, true, if◌then◌else◌, ◌==◌, ◌&&◌, ◌||◌, List, [], ◌∷◌, ◌++◌, codes}
use Rattle.std.specs.List.{take_while}
use Rattle.markdown_compile_options.specs.declared.configuration.CompileOptions.{CompileOptions}
use Rattle.definition_text.specs.Ascii.{tab, line_feed, form_feed, carriage_return, space, slash, less_than, greater_than}
use Rattle.definition_text.specs.Bytes.{is_letter, after_all, without_slash}
use Rattle.definition_block.specs.HtmlNames.{is_one_of}

-- the elements whose tags are filtered (GFM 6.11)
unfoldable pub filtered_names : List (List ℕ)
filtered_names =
    codes "title" ∷ codes "textarea" ∷ codes "style" ∷ codes "xmp" ∷ codes "iframe"
    ∷ codes "noembed" ∷ codes "noframes" ∷ codes "script" ∷ codes "plaintext" ∷ []

-- a tab, a line or form feed, a return, a space, `/`, `>` or the end of the line
abbrev pub ends_filtered_name : List ℕ → Bool
ends_filtered_name [] = true
ends_filtered_name (b ∷ bs) = (b == tab) || (b == line_feed) || (b == form_feed) || (b == carriage_return) || (b == space) || (b == slash)
    || (b == greater_than)

-- the letters of one of these names, and what ends it
abbrev pub begins_with_filtered_name : List ℕ → Bool
begins_with_filtered_name bytes =
    is_one_of filtered_names (take_while is_letter bytes) && ends_filtered_name (after_all is_letter bytes)

-- whether what follows a `<` is filtered: an optional `/`, and such a name
abbrev pub is_filtered : List ℕ → Bool
is_filtered bytes = begins_with_filtered_name (without_slash bytes)

-- the bytes of a line, where the `<` of each such tag is a reference (GFM 6.11)
abbrev pub filter_tags : List ℕ → List ℕ
filter_tags [] = []
filter_tags (b ∷ bs) = (if (b == less_than) && is_filtered bs then codes "&lt;" else b ∷ []) ++ filter_tags bs

-- tags are filtered where that is asked for (GFM 6.11)
abbrev pub filter_if : CompileOptions → List ℕ → List ℕ
filter_if options bytes = if options.gfm_tagfilter then filter_tags bytes else bytes
