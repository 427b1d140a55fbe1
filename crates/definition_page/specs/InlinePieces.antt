-- What the inline structure of a content prints (CommonMark 6).
use Rattle.std.specs.Prelude.{ℕ, Bool, true, false, if◌then◌else◌, ◌&&◌, ◌||◌, not, List, [], ◌∷◌, ◌++◌, Option, None, Some, String, string_bytes, codes, map}
use Rattle.std.specs.List.{flat_map}
use Rattle.markdown_options.specs.declared.configuration.Constructs.{Constructs}
use Rattle.markdown_compile_options.specs.RawHtml.{keeps_listed_html}
use Rattle.markdown_compile_options.specs.declared.configuration.CompileOptions.{CompileOptions}
use Rattle.definition_text.specs.Columns.{Code as ContentCode, bytes_of, bare}
use Rattle.definition_text.specs.Content.{is_eol}
use Rattle.definition_text.specs.Encode.{plain}
use Rattle.definition_inline.specs.Inline.{LinkTexts, LiteralKind, Www, Protocol, Email, InlineLeaf, Data, Escape, Character, Code, Math, Autolink, Literal}
use Rattle.definition_inline.specs.Inline.{Html, EscapedBreak, TrailingBreak, LineEnd, TaskCheck, SpanKind, Emphasis, Strong, Strikethrough, Mark}
use Rattle.definition_inline.specs.Inline.{Link, Image, Inline, Leaf, Span, Linked, Call, Inlines, Nil, Cons}
use Rattle.definition_inline.specs.LabelMatch.{normal_label, first_match}
use Rattle.definition_inline.specs.Targets.{leads_to}
use Rattle.definition_inline.specs.Strings.{string_text}
use Rattle.definition_page.specs.GfmTagfilter.{filter_if}
use Rattle.definition_page.specs.GfmTaskListItem.{check_tag}
use Rattle.definition_page.specs.Destinations.{link_destination, image_source}
use Rattle.definition_page.specs.Urls.{percent, sanitize, permits, href_protocols, src_protocols}
use Rattle.definition_page.specs.Tags.{PrintedPart, Words, AsItIs, Marked, EndOfLine, Attribute, attribute, Tag, tag, bare_tag}
use Rattle.definition_page.specs.Pieces.{Piece, Open, Close, Void, Says, CallOf, CountOf}

-- what is printed by: the constructs that are on, the options, the texts of named characters, what the definition of a label leads to, and the labels of the
-- footnote definitions, in the order in which these end
pub record Meaning : Type 0 where
  pub on : Constructs
  pub compile : CompileOptions
  pub names : List ℕ → Option (List ℕ)
  pub definition : List ContentCode → Option LinkTexts
  pub footnotes : List (List ContentCode)

-- ---- raw HTML

-- raw HTML, in the description of an image or not: it is kept by the list where that is allowed, though not in a description; printed as it is where that is
-- allowed; and otherwise as text
abbrev pub raw_html : Bool → CompileOptions → List ℕ → PrintedPart
raw_html described options html =
    if keeps_listed_html options && not described then Marked html
    else (if options.allow_dangerous_html then AsItIs (filter_if options html) else Words html)

-- the lines of raw HTML by its codes, each with the code of its ending
pub record HtmlLine : Type 0 where
  pub line : List ContentCode
  pub ending : List ContentCode

abbrev pub html_text_line : List ContentCode → List ContentCode → HtmlLine
html_text_line line ending = record { line = line; ending = ending }

abbrev pub in_first_line : ContentCode → List HtmlLine → List HtmlLine
in_first_line code [] = html_text_line (code ∷ []) [] ∷ []
in_first_line code (first ∷ others) = html_text_line (code ∷ first.line) first.ending ∷ others

abbrev pub html_lines : List ContentCode → List HtmlLine
html_lines [] = []
html_lines (c ∷ cs) = if is_eol c then html_text_line [] (c ∷ []) ∷ html_lines cs else in_first_line c (html_lines cs)

-- a line, and its ending as it is
abbrev pub html_line_says : Bool → CompileOptions → List ContentCode → List ContentCode → List PrintedPart
html_line_says described options line ending = raw_html described options (bytes_of line) ∷ map EndOfLine ending

-- a later line, without the spaces and tabs at its start (CommonMark 6.6)
abbrev pub later_line_says : Bool → CompileOptions → HtmlLine → List PrintedPart
later_line_says described options l = html_line_says described options (bare l.line) l.ending

abbrev pub html_lines_say : Bool → CompileOptions → List HtmlLine → List PrintedPart
html_lines_say described options [] = []
html_lines_say described options (first ∷ others) =
    html_line_says described options first.line first.ending ++ flat_map (later_line_says described options) others

abbrev pub html_says : Bool → CompileOptions → List ContentCode → List PrintedPart
html_says described options html = html_lines_say described options (html_lines html)

-- ---- links

-- a URL, if it has one of these protocols or none, or all are allowed; otherwise the empty one
abbrev pub permitted_url : Bool → List (List ℕ) → List ℕ → List ℕ
permitted_url all protocols url = if all || permits protocols (sanitize url) then percent url else []

abbrev pub link_url : CompileOptions → List ℕ → List ℕ
link_url options url = permitted_url options.allow_dangerous_protocol href_protocols url

abbrev pub image_url : CompileOptions → List ℕ → List ℕ
image_url options url = permitted_url (options.allow_any_img_src || options.allow_dangerous_protocol) src_protocols url

-- the URL of a destination: its text, in which NUL is U+FFFD (CommonMark 6.3)
abbrev pub url_of : Meaning → LinkTexts → List ℕ
url_of m target = plain (string_text m.on m.names target.destination)

-- the attribute of a title that isn't empty
abbrev pub title_attributes : List ℕ → List Attribute
title_attributes [] = []
title_attributes (b ∷ bs) = attribute (codes "title") (b ∷ bs) ∷ []

abbrev pub title_attribute : Meaning → Option (List ℕ) → List Attribute
title_attribute m None = []
title_attribute m (Some title) = title_attributes (string_text m.on m.names title)

-- the attribute of links that the options ask for
abbrev pub rel_attributes : {A : Type 0} → Option (String A) → List Attribute
rel_attributes None = []
rel_attributes (Some rel) = attribute (codes "rel") (string_bytes rel) ∷ []

-- and that of images
abbrev pub loading_attributes : Bool → List Attribute
loading_attributes lazy = if lazy then attribute (codes "loading") (codes "lazy") ∷ [] else []

-- the start tag of a link (CommonMark 6.3)
abbrev pub link_tag : Meaning → LinkTexts → Tag
link_tag m target =
    tag (codes "a")
    (attribute (codes "href") (link_url m.compile (link_destination m.compile (url_of m target)))
    ∷ title_attribute m target.title ++ rel_attributes m.compile.link_rel)

-- the tag of an image, with what its description says (CommonMark 6.4)
abbrev pub image_tag : Meaning → LinkTexts → List PrintedPart → Tag
image_tag m target description =
    tag (codes "img")
    (attribute (codes "src") (image_url m.compile (image_source m.compile (url_of m target)))
    ∷ record { name = codes "alt"; value = description }
    ∷ title_attribute m target.title ++ loading_attributes m.compile.lazy_images)

-- the address that an autolink leads to (CommonMark 6.5)
abbrev pub address : Bool → List ℕ → List ℕ
address true text = codes "mailto:" ++ text
address false text = text

-- the address that a literal leads to (GFM 6.9)
abbrev pub literal_address : LiteralKind → List ℕ → List ℕ
literal_address Www text = codes "http://" ++ text
literal_address Protocol text = text
literal_address Email text = codes "mailto:" ++ text

-- the tag of math in a text
abbrev pub math_tag : Tag
math_tag = tag (codes "code") (attribute (codes "class") (codes "language-math math-inline") ∷ [])

-- ---- leaves

-- what a leaf says in the description of an image, without tags (CommonMark 6.4)
abbrev pub leaf_says : CompileOptions → InlineLeaf → List PrintedPart
leaf_says options (Data b) = Words (b ∷ []) ∷ []
leaf_says options (Escape b) = Words (b ∷ []) ∷ []
leaf_says options (Character text) = Words text ∷ []
leaf_says options (Code text) = Words text ∷ []
leaf_says options (Math text) = Words text ∷ []
leaf_says options (Autolink is_email text) = Words text ∷ []
leaf_says options (Literal kind text) = Words text ∷ []
leaf_says options (Html html) = html_says true options html
leaf_says options EscapedBreak = []
leaf_says options TrailingBreak = []
leaf_says options (LineEnd code) = EndOfLine code ∷ []
leaf_says options (TaskCheck done) = []

-- an element around pieces
abbrev pub element : Tag → List Piece → List Piece
element t inside = Open t ∷ inside ++ Close t.name ∷ []

-- the start tag of a link to an address
abbrev pub address_tag : CompileOptions → List ℕ → Tag
address_tag options url = tag (codes "a") (attribute (codes "href") (link_url options url) ∷ rel_attributes options.link_rel)

-- what a leaf prints in a text: its tags, if it has any, around what it says (CommonMark 6)
abbrev pub leaf_pieces : CompileOptions → InlineLeaf → List Piece
leaf_pieces options (Code text) = element (bare_tag (codes "code")) (Says (Words text) ∷ [])
leaf_pieces options (Math text) = element math_tag (Says (Words text) ∷ [])
leaf_pieces options (Autolink is_email text) = element (address_tag options (address is_email text)) (Says (Words text) ∷ [])
leaf_pieces options (Literal kind text) = element (address_tag options (literal_address kind text)) (Says (Words text) ∷ [])
leaf_pieces options (Html html) = map Says (html_says false options html)
leaf_pieces options EscapedBreak = Void (bare_tag (codes "br")) ∷ []
leaf_pieces options TrailingBreak = Void (bare_tag (codes "br")) ∷ []
leaf_pieces options (TaskCheck done) = Void (check_tag options done) ∷ []
leaf_pieces options other = map Says (leaf_says options other)

-- ---- spans, links and images

-- the element that a span is (CommonMark 6.2 and GFM 6.5)
abbrev pub span_name : SpanKind → List ℕ
span_name Emphasis = codes "em"
span_name Strong = codes "strong"
span_name Strikethrough = codes "del"
span_name Mark = codes "mark"

-- the description of an image: what its parts say, without tags (CommonMark 6.4)
abbrev mutual
  pub part_says : CompileOptions → Inline → List PrintedPart
  part_says options (Leaf part) = leaf_says options part
  part_says options (Span kind kids) = description options kids
  part_says options (Linked kind target kids) = description options kids
  part_says options (Call label) = []

  pub description : CompileOptions → Inlines → List PrintedPart
  description options Nil = []
  description options (Cons i is) = part_says options i ++ description options is

-- ---- calls of footnotes

-- a call of the footnote at this place
abbrev pub call_at : Option ℕ → List ℕ → List Piece
call_at None label = []
call_at (Some place) label = CallOf place label ∷ []

abbrev pub count_at : Option ℕ → List ℕ → List Piece
count_at None label = []
count_at (Some place) label = CountOf place label ∷ []

abbrev mutual
  -- the calls in what isn't printed, or without tags: they count
  pub part_counts : Meaning → Inline → List Piece
  part_counts m (Leaf part) = []
  part_counts m (Span kind kids) = inline_counts m kids
  part_counts m (Linked kind target kids) = inline_counts m kids
  part_counts m (Call label) = count_at (first_match label m.footnotes) (normal_label label)

  pub inline_counts : Meaning → Inlines → List Piece
  inline_counts m Nil = []
  inline_counts m (Cons i is) = part_counts m i ++ inline_counts m is

-- ---- pieces

abbrev mutual
  -- what a part prints (CommonMark 6)
  pub part_pieces : Meaning → Inline → List Piece
  part_pieces m (Leaf part) = leaf_pieces m.compile part
  part_pieces m (Span kind kids) = element (bare_tag (span_name kind)) (inline_pieces m kids)
  part_pieces m (Linked Link target kids) = element (link_tag m (leads_to m.definition target)) (inline_pieces m kids)
  part_pieces m (Linked Image target kids) = Void (image_tag m (leads_to m.definition target) (description m.compile kids)) ∷ inline_counts m kids
  part_pieces m (Call label) = call_at (first_match label m.footnotes) (normal_label label)

  -- what parts print, one after another
  pub inline_pieces : Meaning → Inlines → List Piece
  inline_pieces m Nil = []
  inline_pieces m (Cons i is) = part_pieces m i ++ inline_pieces m is
