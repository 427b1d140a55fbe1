-- The HTML of texts, by the definition and small tables.
use Rattle.std.specs.Prelude.{ℕ, Bool, true, if◌then◌else◌, ◌==◌, ◌&&◌, ◌||◌, nat_le, List, [], ◌∷◌, Option, None, Some, codes}
use Rattle.std.specs.List.{fold}
use Rattle.std.specs.Str.{bytes_eq}
use Rattle.std.specs.Char.{is_ascii_punctuation}
use Rattle.markdown_options.specs.declared.line_ending.LineEnding.TheVariants.{LineFeed}
use Rattle.markdown_compile_options.specs.declared.configuration.Options.{Options}
use Rattle.markdown_options.specs.Defaults.{default_constructs, default_parse_options}
use Rattle.markdown_compile_options.specs.Defaults.{default_compile_options, default_options}
use Rattle.markdown_options.specs.declared.beside.Kind.{Kind}
use Rattle.markdown_options.specs.declared.beside.Kind.TheVariants.{Whitespace}
use Rattle.definition_text.specs.BlockLines.{BlockLine, block_line}
use Rattle.definition_text.specs.InlineCode.{inline_content}
use Rattle.definition_inline.specs.Scan.{inlines}
use Rattle.definition_inline.specs.Targets.{no_targets}
use Rattle.definition_page.specs.TextTables.{TextTables}
use Rattle.definition_page.specs.Pieces.{print}
use Rattle.definition_page.specs.InlinePieces.{inline_pieces}
use Rattle.definition_page.specs.Read.{reading, context_of, read}
use Rattle.definition_page.specs.DocumentPieces.{meaning_of}
use Rattle.markdown_definition.specs.Html.{html}

-- ---- tables

pub record NamedText : Type 0 where
  pub name : List ℕ
  pub text : List ℕ

abbrev pub names_text : List ℕ → List ℕ → NamedText
names_text name text = record { name = name; text = text }

abbrev pub some_names : List NamedText
some_names =
    names_text (codes "amp") (codes "&") ∷ names_text (codes "lt") (codes "<") ∷ names_text (codes "gt") (codes ">")
    ∷ names_text (codes "quot") (codes "\"") ∷ names_text (codes "nbsp") (194 ∷ 160 ∷ []) ∷ names_text (codes "copy") (194 ∷ 169 ∷ [])
    ∷ names_text (codes "AElig") (195 ∷ 134 ∷ []) ∷ names_text (codes "auml") (195 ∷ 164 ∷ []) ∷ names_text (codes "ouml") (195 ∷ 182 ∷ [])
    ∷ names_text (codes "Dcaron") (196 ∷ 142 ∷ []) ∷ names_text (codes "frac34") (194 ∷ 190 ∷ [])
    ∷ names_text (codes "HilbertSpace") (226 ∷ 132 ∷ 139 ∷ []) ∷ names_text (codes "DifferentialD") (226 ∷ 133 ∷ 134 ∷ [])
    ∷ names_text (codes "ClockwiseContourIntegral") (226 ∷ 136 ∷ 178 ∷ []) ∷ names_text (codes "ngE") (226 ∷ 137 ∷ 167 ∷ 204 ∷ 184 ∷ [])
    ∷ []

abbrev pub find_text : List ℕ → List NamedText → Option (List ℕ)
find_text name [] = None
find_text name (n ∷ ns) = if bytes_eq name n.name then Some n.text else find_text name ns

abbrev pub names : List ℕ → Option (List ℕ)
names name = find_text name some_names

-- ASCII punctuation, and some more: pound, section, left and right quotes, currencies, dashes and quotes, the ellipsis, euro
abbrev pub is_punctuation : ℕ → Bool
is_punctuation c =
    is_ascii_punctuation c || ((c == 163) || ((c == 167) || ((c == 171) || ((c == 187) || ((nat_le 0x2010 c && nat_le c 0x2027) || (c == 0x20AC))))))

abbrev pub tables : TextTables
tables = record { names = names; is_punctuation = is_punctuation }

-- ---- pages

abbrev pub page_with : Options → List ℕ → List ℕ
page_with options text = html tables text options

-- the HTML of a text under default options
abbrev pub page : List ℕ → List ℕ
page text = page_with default_options text

-- default options, but HTML is printed as it is
abbrev pub dangerous : Options
dangerous = record default_options { compile = record default_compile_options { allow_dangerous_html = true } }

-- the same with the filter of tags
abbrev pub filtered : Options
filtered = record default_options {
  compile = record default_compile_options {
    allow_dangerous_html = true;
    gfm_tagfilter = true;
  };
}

-- default options with math, of single dollars or not
abbrev pub with_math : Bool → Options
with_math single_dollar = record default_options {
  parse = record default_parse_options {
    constructs = record default_constructs { math_text = true };
    math_text_single_dollar = single_dollar;
  };
}

-- default options with strikethrough, of single tildes or not
abbrev pub with_strikethrough : Bool → Options
with_strikethrough single_tilde = record default_options {
  parse = record default_parse_options {
    constructs = record default_constructs { gfm_strikethrough = true };
    gfm_strikethrough_single_tilde = single_tilde;
  };
}

-- default options with marked text
abbrev pub with_mark : Options
with_mark = record default_options {
  parse = record default_parse_options { constructs = record default_constructs { mark = true } };
}

-- default options with literals
abbrev pub with_literals : Options
with_literals = record default_options {
  parse = record default_parse_options { constructs = record default_constructs { gfm_autolink_literal = true } };
}

-- default options with footnotes and tables
abbrev pub with_footnotes : Options
with_footnotes = record default_options {
  parse = record default_parse_options {
    constructs = record default_constructs { gfm_footnote_definition = true; gfm_label_start_footnote = true; gfm_table = true };
  };
}

-- default options with task list items, whose boxes can be changed or not
abbrev pub with_tasks : Bool → Options
with_tasks checkable = record default_options {
  parse = record default_parse_options { constructs = record default_constructs { gfm_task_list_item = true } };
  compile = record default_compile_options { gfm_task_list_item_checkable = checkable };
}

-- ---- contents

-- the HTML of the content of these lines, before a character of this kind in the text, without definitions
abbrev pub lines_html : Kind → List BlockLine → List ℕ
lines_html after ls =
    let context = context_of (reading tables default_parse_options no_targets) in
    let meaning = meaning_of tables default_options (read tables default_parse_options []) in
    fold (print []) [] (inline_pieces meaning (inlines context (inline_content is_punctuation after ls)))

-- the content of one line between characters of these kinds in the text
abbrev pub line_between : Kind → Kind → List ℕ → List ℕ
line_between before after line = lines_html after (block_line line None before ∷ [])

-- the content of two lines with a line feed between, the second after a character of this kind in the text
abbrev pub two_lines : List ℕ → Kind → List ℕ → List ℕ
two_lines first before second = lines_html Whitespace (block_line first (Some LineFeed) Whitespace ∷ block_line second None before ∷ [])
