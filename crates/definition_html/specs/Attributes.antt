-- The attributes of a listed tag.
use Rattle.std.specs.Prelude.{ℕ, zero, suc, ◌-◌, Bool, not, if◌then◌else◌, ◌==◌, ◌||◌, List, [], ◌∷◌, ◌++◌, Option, None, Some, codes, map, take, drop}
use Rattle.std.specs.Prelude.{length}
use Rattle.std.specs.List.{filter, flat_map, take_while}
use Rattle.std.specs.Option.{option_map}
use Rattle.std.specs.Str.{bytes_eq}
use Rattle.markdown_compile_options.specs.declared.configuration.CompileOptions.{CompileOptions}
use Rattle.definition_text.specs.Ascii.{tab, double_quote, single_quote}
use Rattle.definition_text.specs.Bytes.{begins_with, after_all, lower}
use Rattle.definition_text.specs.Columns.{Code}
use Rattle.definition_text.specs.Encode.{plain}
use Rattle.definition_text.specs.Lines.{ends_line}
use Rattle.definition_inline.specs.CharacterReference.{Names}
use Rattle.definition_inline.specs.Decoded.{decode}
use Rattle.definition_inline.specs.HtmlTags.{is_attribute_byte, tag_space, has_attribute}
use Rattle.definition_inline.specs.HtmlTags.{attribute as after_attribute}
use Rattle.definition_inline.specs.HtmlText.{html_byte}
use Rattle.definition_inline.specs.Strings.{eol_bytes}
use Rattle.definition_page.specs.InlinePieces.{link_url, image_url}
use Rattle.definition_page.specs.Tags.{Attribute, attribute}
use Rattle.definition_html.specs.Listing.{listed_attributes}

-- Raw HTML is a list of codes, in which CR LF is one. The grammar of tags reads its bytes, in which each line ending is 10. Both have the same length.
abbrev pub tag_bytes : List Code → List ℕ
tag_bytes html = map html_byte html

-- the bytes that codes stand for
abbrev pub code_bytes : List Code → List ℕ
code_bytes html = flat_map eol_bytes html

-- the text that codes stand for, where HTML has references
abbrev pub decoded : Names → List Code → List ℕ
decoded names html = code_bytes (decode names html)

-- ---- as written

-- the codes from where these bytes are left of them
abbrev pub codes_at : List Code → List ℕ → List Code
codes_at html rest = drop (length html - length rest) html

-- an attribute: its name in lower case, and its value without quotes and with its references decoded
pub record Written : Type 0 where
  pub name : List ℕ
  pub value : List ℕ

-- what a quoted value begins with
abbrev pub is_quote : Code → Bool
is_quote code = (code == double_quote) || (code == single_quote)

-- a value without its quotes, if it has some
abbrev pub without_quotes : List Code → List Code
without_quotes [] = []
without_quotes (c ∷ cs) = if is_quote c then take (length cs - 1) cs else c ∷ cs

-- the value between the name of an attribute and what follows the attribute, with its quotes; nothing without a `=`
abbrev pub value_codes : List Code → List ℕ → List ℕ → List Code
value_codes html after_name rest =
    if begins_with (codes "=") (tag_space after_name)
    then (let value = tag_space (drop 1 (tag_space after_name)) in take (length value - length rest) (codes_at html value)) else []

-- an attribute, by its codes and bytes from its name on, and by what follows it
abbrev pub written_attribute : Names → List Code → List ℕ → List ℕ → Written
written_attribute names html bytes rest =
    record {
      name = lower (take_while is_attribute_byte bytes);
      value = decoded names (without_quotes (value_codes html (after_all is_attribute_byte bytes) rest));
    }

-- an attribute and those after it, where there is one
abbrev pub with_others : Names → List Code → List ℕ → Option (List ℕ) → (List Code → List Written) → List Written
with_others names html bytes None others = []
with_others names html bytes (Some rest) others = written_attribute names html bytes rest ∷ others (codes_at html rest)

-- the attributes that follow the name of a tag, at most so many
abbrev pub written : Names → ℕ → List Code → List Written
written names zero html = []
written names (suc most) html =
    let bytes = tag_space (tag_bytes html) in
    if has_attribute (tag_bytes html) then with_others names html bytes (after_attribute bytes) (written names most) else []

-- the value of the first one of this name
abbrev pub first_of : List ℕ → List Written → Option (List ℕ)
first_of name [] = None
first_of name (w ∷ ws) = if bytes_eq name w.name then Some w.value else first_of name ws

-- ---- as printed

-- an attribute, if it is written
abbrev pub if_written : List ℕ → Option (List ℕ) → List Attribute
if_written name None = []
if_written name (Some value) = attribute name value ∷ []

-- a byte that browsers leave out of a URL: percent encoded, line endings would differ by how they are written
abbrev pub is_left_out : ℕ → Bool
is_left_out b = (b == tab) || ends_line b

-- a URL as a browser reads it, with NUL as U+FFFD
abbrev pub url_bytes : List ℕ → List ℕ
url_bytes value = plain (filter (λ b. not (is_left_out b)) value)

-- an attribute with a URL by the rule that links and images have
abbrev pub url_attributes : CompileOptions → List ℕ → List Written → List Attribute
url_attributes options name ws =
    if bytes_eq name (codes "a") then if_written (codes "href") (option_map (λ v. link_url options (url_bytes v)) (first_of (codes "href") ws))
    else (if bytes_eq name (codes "img") then if_written (codes "src") (option_map (λ v. image_url options (url_bytes v)) (first_of (codes "src") ws))
    else [])

-- the attributes that an element of this name is printed with
abbrev pub kept : CompileOptions → List ℕ → List Written → List Attribute
kept options name ws = url_attributes options name ws ++ flat_map (λ a. if_written a (first_of a ws)) listed_attributes
