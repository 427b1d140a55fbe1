-- The law of the page of a text with another line ending in place of each LF.
use Rattle.std.specs.Prelude.{◌≡◌, ◌≢◌, ℕ, true, false, List, [], Option, String, Contains, All, IsUtf8}
use Rattle.markdown_options.specs.declared.line_ending.LineEnding.{LineEnding}
use Rattle.markdown_compile_options.specs.RawHtml.{keeps_listed_html}
use Rattle.markdown_compile_options.specs.declared.configuration.CompileOptions.{CompileOptions}
use Rattle.markdown_compile_options.specs.declared.configuration.Options.{Options}
use Rattle.definition_text.specs.Ascii.{line_feed, ampersand}
use Rattle.definition_page.specs.TextTables.{TextTables}
use Rattle.definition_page.specs.OptionTexts.{text_or}
use Rattle.definition_page.specs.PrintedPage.{printed_page}
use Rattle.markdown_definition.specs.Html.{html}
use Rattle.laws_endings.specs.Endings.{with_ending}
use Rattle.laws_endings.specs.Laws.{HasNoReturn}

-- a text whose lines end in LF: it is UTF-8, has an LF and no CR, and no `&`, so that no character reference stands for an LF of its own
abbrev pub EndsInFeeds : List ℕ → Type 0
EndsInFeeds text = IsUtf8 text × Contains text line_feed × HasNoReturn text × All (λ b. b ≢ ampersand) text

-- a text of the options, where it is given, holds no LF
abbrev pub HasNoFeed : {A : Type 0} → Option (String A) → Type 0
HasNoFeed text = All (λ b. b ≢ line_feed) (text_or text [])

-- what the options say around footnotes holds no LF
pub record HaveNoFeeds (options : CompileOptions) : Type 0 where
  pub heading : HasNoFeed options.gfm_footnote_label
  pub heading_name : HasNoFeed options.gfm_footnote_label_tag_name
  pub heading_attributes : HasNoFeed options.gfm_footnote_label_attributes
  pub way_back : HasNoFeed options.gfm_footnote_back_label
  pub id_prefix : HasNoFeed options.gfm_footnote_clobber_prefix

-- where footnotes can be defined, what the options say around them holds no LF
abbrev pub FootnotesHoldNoFeed : Options → Type 0
FootnotesHoldNoFeed options = options.parse.constructs.gfm_footnote_definition ≡ true → HaveNoFeeds options.compile

-- what the options say in links and in ids of headings, where these have any, holds no LF
pub record LinksHoldNoFeed (options : CompileOptions) : Type 0 where
  pub rel : HasNoFeed options.link_rel
  pub id_prefix : options.heading_ids ≡ true → HasNoFeed options.heading_id_prefix

-- what the options say on a page holds no LF
abbrev pub OptionsHoldNoFeed : Options → Type 0
OptionsHoldNoFeed options = FootnotesHoldNoFeed options × LinksHoldNoFeed options.compile

-- with an ending in place of each LF, a text prints its page with that ending in place of each LF; where raw HTML is kept by the list, it stands as text in
-- elements without a name on both pages
abbrev pub PrintedEndingLaw : Type 0
PrintedEndingLaw =
    (e : LineEnding) (tables : TextTables) (text : List ℕ) (options : Options) → EndsInFeeds text → OptionsHoldNoFeed options
    → printed_page tables (with_ending e text) options ≡ with_ending e (printed_page tables text options)

-- where raw HTML isn't kept by the list, the HTML of such a text is the HTML of the text with that ending in place of each LF
abbrev pub EndingPageLaw : Type 0
EndingPageLaw =
    (e : LineEnding) (tables : TextTables) (text : List ℕ) (options : Options) → keeps_listed_html options.compile ≡ false → EndsInFeeds text
    → OptionsHoldNoFeed options → html tables (with_ending e text) options ≡ with_ending e (html tables text options)
