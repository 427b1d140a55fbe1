-- What is proved of pages whose raw HTML is kept by the list.
use Rattle.std.specs.Prelude.{◌≡◌, ℕ, Bool, false, not, ◌==◌, ◌&&◌, ◌||◌, nat_lt, List, [], ◌∷◌, ◌++◌, codes, IsTrue}
use Rattle.std.specs.List.{list_all}
use Rattle.markdown_compile_options.specs.declared.configuration.CompileOptions.{CompileOptions}
use Rattle.definition_text.specs.Ascii.{ampersand, less_than}
use Rattle.definition_text.specs.Encode.{encode, plain}
use Rattle.definition_inline.specs.CharacterReference.{Names}
use Rattle.definition_inline.specs.HtmlTags.{is_tag_name_byte}
use Rattle.html_safe_page.specs.SafePage.{Tag, Items, spell, IsSafePageBy}
use Rattle.html_safe_page.specs.declared.table.TagTable.{TagTable}
use Rattle.definition_html.specs.Listed.{listed, sanitized}
use Rattle.html_listed.specs.ListedPage.{is_listed_start, is_listed_void, have_tags, IsReadingWith, IsListedReading}
use Rattle.html_listed.specs.MarkedPage.{IsMarkedPage}
use Rattle.html_listed.specs.Mixed.{Mixed, all_items, own_items, tags_of, stand_in}
use Rattle.html_listed.specs.Standing.{stand}
use Rattle.definition_html.specs.State.{level}

-- ---- readings

-- a name has letters, digits and `-` only, and one at least
abbrev pub is_name : List ℕ → Bool
is_name [] = false
is_name (b ∷ bs) = is_tag_name_byte b && list_all is_tag_name_byte bs

-- a tag and its attributes have such names
abbrev pub has_names : Tag → Bool
has_names tag = is_name tag.name && list_all (λ a. is_name a.name) tag.attributes

-- items with such tags have different spellings, if they differ
abbrev pub OneSpelling : Type 0
OneSpelling = (a b : Items) → IsTrue (have_tags has_names has_names a) → IsTrue (have_tags has_names has_names b) → spell a ≡ spell b → a ≡ b

-- a listed page has one reading
abbrev pub OneListedReading : Type 0
OneListedReading = (table : TagTable) (page : List ℕ) (a b : Items) → IsListedReading table page a → IsListedReading table page b → a ≡ b

-- a page has a reading as a listed page, and no other
pub record HasOneListedReading (table : TagTable) (page : List ℕ) : Type 0 where
  pub items : Items
  pub is_reading : IsListedReading table page items
  pub is_only : (other : Items) → IsListedReading table page other → other ≡ items

-- ---- options

-- options that let through no URL of another protocol
pub record HaveSafeProtocols (options : CompileOptions) : Type 0 where
  pub no_protocol : options.allow_dangerous_protocol ≡ false
  pub no_source : options.allow_any_img_src ≡ false

-- ---- pages with raw HTML

-- under such options a safe page with raw HTML as text in elements without a name becomes a listed page, by any names of references
abbrev pub ListedLaw : Type 0
ListedLaw = (names : Names) (options : CompileOptions) (table : TagTable) (page : List ℕ) → HaveSafeProtocols options → IsMarkedPage table page
    → HasOneListedReading table (listed names options page)

-- a page is made of these tags of the page's own and of raw tags of the list, each where it may stand
pub record IsMixedPage (table : TagTable) (tags : Items) (page : List ℕ) : Type 0 where
  pub items : Mixed
  pub spelling : spell (all_items items) ≡ page
  pub stands : IsTrue (stand_in table (level false []) items)
  pub own : own_items items ≡ tags

-- it keeps all tags of its own, in their order and one in the other as they were, and raw tags stand where they may
abbrev pub StandingLaw : Type 0
StandingLaw = (names : Names) (options : CompileOptions) (table : TagTable) (page : List ℕ) → HaveSafeProtocols options → (marked : IsMarkedPage table page)
    → IsMixedPage table (tags_of marked.0) (listed names options page)

-- a safe page without raw HTML stays as it is
abbrev pub UnmarkedLaw : Type 0
UnmarkedLaw = (names : Names) (options : CompileOptions) (table : TagTable) (page : List ℕ) → IsSafePageBy table page → listed names options page ≡ page

-- ---- any HTML

-- HTML as text in one element without a name becomes what is kept of the HTML, with U+FFFD in place of NUL
abbrev pub OneElementLaw : Type 0
OneElementLaw = (names : Names) (options : CompileOptions) (html : List ℕ)
    → listed names options (codes "<>" ++ encode html ++ codes "</>") ≡ sanitized names options (plain html)

-- a page has a reading with tags of the list alone, whose elements stand where they may, and no other as a listed page
pub record IsSanitized (page : List ℕ) : Type 0 where
  pub items : Items
  pub is_reading : IsReadingWith is_listed_start is_listed_void page items
  pub stands : IsTrue (stand [] items)
  pub is_only : (table : TagTable) (other : Items) → IsListedReading table page other → other ≡ items

-- under such options what is kept of any HTML, by any names of references, is such a page
abbrev pub SanitizedLaw : Type 0
SanitizedLaw = (names : Names) (options : CompileOptions) (html : List ℕ) → HaveSafeProtocols options → IsSanitized (sanitized names options html)

-- bytes other than `<` and `&`
abbrev pub are_plain : List ℕ → Bool
are_plain html = list_all (λ b. nat_lt b 256 && not (b == less_than || b == ampersand)) html

-- HTML without `<` and `&` is printed as text
abbrev pub PlainTextLaw : Type 0
PlainTextLaw = (names : Names) (options : CompileOptions) (html : List ℕ) → IsTrue (are_plain html) → sanitized names options html ≡ encode html
