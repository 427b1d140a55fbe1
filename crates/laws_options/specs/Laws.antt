-- Where an option of printing makes no difference.
use Rattle.std.specs.Prelude.{◌≡◌, ℕ, Bool, true, false, List, is_some}
use Rattle.markdown_compile_options.specs.RawHtml.{keeps_listed_html}
use Rattle.markdown_options.specs.declared.line_ending.LineEnding.{LineEnding}
use Rattle.markdown_compile_options.specs.declared.configuration.CompileOptions.{CompileOptions}
use Rattle.markdown_compile_options.specs.declared.configuration.Options.{Options}
use Rattle.definition_text.specs.Lines.{without_mark, first_line}
use Rattle.definition_page.specs.TextTables.{TextTables}
use Rattle.definition_page.specs.PrintedPage.{printed_page}
use Rattle.markdown_definition.specs.Html.{html}

-- the same options, with other ones of printing
abbrev pub printing_by : CompileOptions → Options → Options
printing_by compile options = record options { compile = compile }

-- with the tag filter or without
abbrev pub with_tagfilter : Bool → Options → Options
with_tagfilter filter options = printing_by (record options.compile { gfm_tagfilter = filter }) options

-- with any source of an image allowed or not
abbrev pub with_any_source : Bool → Options → Options
with_any_source any options = printing_by (record options.compile { allow_any_img_src = any }) options

-- with another default ending
abbrev pub with_default_ending : LineEnding → Options → Options
with_default_ending ending options = printing_by (record options.compile { default_line_ending = ending }) options

-- with the prefix of ids that these have
abbrev pub with_id_prefix_of : CompileOptions → Options → Options
with_id_prefix_of other options = printing_by (record options.compile { heading_id_prefix = other.heading_id_prefix }) options

-- a text has the same page by these options: as it is printed, and with its raw HTML by the list where they keep it
abbrev pub AreSamePages : TextTables → List ℕ → Options → Options → Type 0
AreSamePages tables text one another = (printed_page tables text one ≡ printed_page tables text another) × (html tables text one ≡ html tables text another)

-- where raw HTML isn't kept by the list, the HTML of a text is its page as it is printed
abbrev pub UnlistedLaw : Type 0
UnlistedLaw =
    (tables : TextTables) (text : List ℕ) (options : Options) → keeps_listed_html options.compile ≡ false
    → html tables text options ≡ printed_page tables text options

-- where dangerous HTML isn't allowed, a page is the same with the tag filter and without (GFM 6.11)
abbrev pub TagfilterLaw : Type 0
TagfilterLaw =
    (tables : TextTables) (text : List ℕ) (options : Options) (filter : Bool) → options.compile.allow_dangerous_html ≡ false
    → AreSamePages tables text (with_tagfilter filter options) options

-- where dangerous protocols are allowed, a page is the same whether any source of an image is allowed or not (CommonMark 6.4)
abbrev pub ImageSourceLaw : Type 0
ImageSourceLaw =
    (tables : TextTables) (text : List ℕ) (options : Options) (any : Bool) → options.compile.allow_dangerous_protocol ≡ true
    → AreSamePages tables text (with_any_source any options) options

-- where the first line of a text has an ending, its page is the same whatever the default ending (CommonMark 2.1)
abbrev pub DefaultEndingLaw : Type 0
DefaultEndingLaw =
    (tables : TextTables) (text : List ℕ) (options : Options) (ending : LineEnding) → is_some (first_line (without_mark text)).ending ≡ true
    → AreSamePages tables text (with_default_ending ending options) options

-- where headings have no ids, a page is the same whatever these would begin with (in neither standard)
abbrev pub IdPrefixLaw : Type 0
IdPrefixLaw =
    (tables : TextTables) (text : List ℕ) (options : Options) (other : CompileOptions) → options.compile.heading_ids ≡ false
    → AreSamePages tables text (with_id_prefix_of other options) options
