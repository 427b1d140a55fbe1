-- Which raw HTML is kept (in neither standard; near the list of GitHub).
use Rattle.std.specs.Prelude.{ℕ, Bool, if◌then◌else◌, ◌||◌, List, [], ◌∷◌, codes}
use Rattle.std.specs.List.{list_any}
use Rattle.std.specs.Str.{bytes_eq}

-- a name is one of these; names are in lower case here
abbrev pub is_in : List (List ℕ) → List ℕ → Bool
is_in names name = list_any (λ n. bytes_eq n name) names

-- elements that hold nothing
unfoldable pub void_names : List (List ℕ)
void_names = codes "br" ∷ codes "hr" ∷ codes "img" ∷ codes "source" ∷ codes "wbr" ∷ []

-- the headings, which hold no heading
unfoldable pub heading_names : List (List ℕ)
heading_names = codes "h1" ∷ codes "h2" ∷ codes "h3" ∷ codes "h4" ∷ codes "h5" ∷ codes "h6" ∷ []

-- elements that may stand anywhere
unfoldable pub free_names : List (List ℕ)
free_names =
    codes "a" ∷ codes "abbr" ∷ codes "b" ∷ codes "bdo" ∷ codes "blockquote" ∷ codes "cite" ∷ codes "code" ∷ codes "del" ∷ codes "details"
    ∷ codes "dfn" ∷ codes "div" ∷ codes "dl" ∷ codes "em" ∷ codes "figcaption" ∷ codes "figure" ∷ codes "i" ∷ codes "ins" ∷ codes "kbd" ∷ codes "mark"
    ∷ codes "ol" ∷ codes "p" ∷ codes "picture" ∷ codes "pre" ∷ codes "q" ∷ codes "ruby" ∷ codes "s" ∷ codes "samp" ∷ codes "small" ∷ codes "span"
    ∷ codes "strike" ∷ codes "strong" ∷ codes "sub" ∷ codes "summary" ∷ codes "sup" ∷ codes "table" ∷ codes "time" ∷ codes "tt" ∷ codes "ul"
    ∷ codes "var" ∷ []

-- the parts of elements, and the elements that they may stand right in
pub record PartRow : Type 0 where
  pub names : List (List ℕ)
  pub parents : List (List ℕ)

abbrev pub part_row : List (List ℕ) → List (List ℕ) → PartRow
part_row names parents = record { names = names; parents = parents }

-- parts of lists, of lists of terms, of ruby, and of tables
unfoldable pub part_rows : List PartRow
part_rows =
    part_row (codes "li" ∷ []) (codes "ul" ∷ codes "ol" ∷ [])
    ∷ part_row (codes "dt" ∷ codes "dd" ∷ []) (codes "dl" ∷ [])
    ∷ part_row (codes "rt" ∷ codes "rp" ∷ []) (codes "ruby" ∷ [])
    ∷ part_row (codes "caption" ∷ codes "thead" ∷ codes "tbody" ∷ codes "tfoot" ∷ []) (codes "table" ∷ [])
    ∷ part_row (codes "tr" ∷ []) (codes "table" ∷ codes "thead" ∷ codes "tbody" ∷ codes "tfoot" ∷ [])
    ∷ part_row (codes "td" ∷ codes "th" ∷ []) (codes "tr" ∷ [])
    ∷ []

-- what holds nothing but its parts and text
unfoldable pub frame_names : List (List ℕ)
frame_names = codes "table" ∷ codes "thead" ∷ codes "tbody" ∷ codes "tfoot" ∷ codes "tr" ∷ []

-- the elements that an element of this name may stand right in, by these rows; none if it is no part
abbrev pub parents_by : List PartRow → List ℕ → List (List ℕ)
parents_by [] name = []
parents_by (row ∷ rows) name = if is_in row.names name then row.parents else parents_by rows name

-- the same by all rows
abbrev pub parents_of : List ℕ → List (List ℕ)
parents_of name = parents_by part_rows name

-- whether an element stands only right in some others
abbrev pub is_part : List ℕ → Bool
is_part name = list_any (λ (row : PartRow). is_in row.names name) part_rows

-- whether the list has an element
abbrev pub is_listed : List ℕ → Bool
is_listed name = is_in free_names name || is_in heading_names name || is_in void_names name || is_part name

-- attributes without a URL, in the order in which they are printed; `href` and `src` stand first
unfoldable pub listed_attributes : List (List ℕ)
listed_attributes =
    codes "alt" ∷ codes "title" ∷ codes "align" ∷ codes "valign" ∷ codes "width" ∷ codes "height" ∷ codes "colspan" ∷ codes "rowspan" ∷ codes "dir"
    ∷ codes "lang" ∷ codes "start" ∷ codes "reversed" ∷ codes "type" ∷ codes "value" ∷ codes "open" ∷ codes "datetime" ∷ codes "media" ∷ []

-- how many raw elements may be open in one element of a page
abbrev pub deepest : ℕ
deepest = 50
