-- Raw HTML from left to right: tags that are listed, and text (CommonMark 6.6).
use Rattle.std.specs.Prelude.{ℕ, zero, suc, ◌-◌, Bool, if◌then◌else◌, List, [], ◌∷◌, Option, None, Some, codes, drop, take, length, unwrap_or}
use Rattle.std.specs.Option.{option_map}
use Rattle.markdown_compile_options.specs.declared.configuration.CompileOptions.{CompileOptions}
use Rattle.definition_text.specs.Bytes.{begins_with, after_all, without_slash, lower}
use Rattle.definition_text.specs.Columns.{Code}
use Rattle.definition_text.specs.Content.{Part, content_codes}
use Rattle.definition_text.specs.Encode.{encode}
use Rattle.definition_inline.specs.CharacterReference.{Names}
use Rattle.definition_inline.specs.Decoded.{known_at}
use Rattle.definition_inline.specs.HtmlTags.{is_tag_name_byte, tag_name, tag_space, attributes}
use Rattle.definition_inline.specs.HtmlText.{html_end}
use Rattle.definition_inline.specs.Strings.{eol_bytes}
use Rattle.definition_page.specs.Tags.{Tag, tag}
use Rattle.definition_html.specs.Listing.{is_in, is_listed, void_names}
use Rattle.definition_html.specs.Attributes.{tag_bytes, code_bytes, written, kept}

-- what raw HTML is made of: text as it is printed, a start tag, one whose element ends at once, an end tag by its name, and a void tag
pub data RawPart : Type 0 where
  Text : List ℕ → RawPart
  Begin : Tag → RawPart
  Empty : Tag → RawPart
  End : List ℕ → RawPart
  Single : Tag → RawPart

-- ---- one tag

-- the tag that is printed for an open tag of this name, whose codes after its `<` are given
abbrev pub kept_tag : Names → CompileOptions → List ℕ → List Code → Tag
kept_tag names options name html = tag name (kept options name (written names (length html) (after_all is_tag_name_byte html)))

-- what follows the attributes of an open tag, given what follows its `<`
abbrev pub after_attributes : List ℕ → List ℕ
after_attributes bytes = unwrap_or (attributes (length bytes) (after_all is_tag_name_byte bytes)) []

-- an open tag ends with `/>`, where the `/` belongs to no value
abbrev pub ends_at_once : List Code → Bool
ends_at_once html = begins_with (codes "/") (tag_space (after_attributes (tag_bytes html)))

-- an open tag of this name, whose codes after its `<` are given
abbrev pub open_part : Names → CompileOptions → List ℕ → List Code → RawPart
open_part names options name html =
    if is_in void_names name then Single (kept_tag names options name html)
    else (if ends_at_once html then Empty (kept_tag names options name html) else Begin (kept_tag names options name html))

-- the name of a tag, in lower case; nothing where raw HTML is no tag
abbrev pub name_of : List Code → List ℕ
name_of html = lower (tag_name (without_slash (drop 1 html)))

-- raw HTML of this whole text: a listed tag, nothing for a comment, or its text
abbrev pub token_part : Names → CompileOptions → List Code → RawPart
token_part names options html =
    if begins_with (codes "<!--") html then Text []
    else (if is_listed (name_of html)
    then (if begins_with (codes "</") html then End (name_of html) else open_part names options (name_of html) (drop 1 html))
    else Text (encode (code_bytes html)))

-- ---- from left to right

-- a part, and how many codes it has
pub record FoundRaw : Type 0 where
  pub part : RawPart
  pub size : ℕ

abbrev pub found_raw : RawPart → ℕ → FoundRaw
found_raw p size = record { part = p; size = size }

-- raw HTML up to what follows it
abbrev pub token_to : Names → CompileOptions → List Code → List ℕ → FoundRaw
token_to names options html rest = let size = length html - length rest in found_raw (token_part names options (take size html)) size

-- a reference that is known, up to what follows it
abbrev pub reference_to : List Code → Part → FoundRaw
reference_to html known = found_raw (Text (encode known.text)) (length html - length known.rest)

-- raw HTML or a known reference, if codes begin with one
abbrev pub token_or_reference : Names → CompileOptions → List Code → Option FoundRaw
token_or_reference names options html =
    if begins_with (codes "<") html then option_map (token_to names options html) (html_end (tag_bytes html))
    else option_map (reference_to html) (known_at names html)

-- what was found, or one code as text
abbrev pub or_code : Code → Option FoundRaw → FoundRaw
or_code code None = found_raw (Text (encode (eol_bytes code))) 1
or_code code (Some found) = found

-- the parts of raw HTML, of which so many codes are taken already
abbrev pub raw_parts_after : Names → CompileOptions → ℕ → List Code → List RawPart
raw_parts_after names options taken [] = []
raw_parts_after names options (suc taken) (c ∷ cs) = raw_parts_after names options taken cs
raw_parts_after names options zero (c ∷ cs) =
    let found = or_code c (token_or_reference names options (c ∷ cs)) in found.part ∷ raw_parts_after names options (found.size - 1) cs

-- the parts of raw HTML
abbrev pub raw_parts : Names → CompileOptions → List ℕ → List RawPart
raw_parts names options html = raw_parts_after names options 0 (content_codes html)
