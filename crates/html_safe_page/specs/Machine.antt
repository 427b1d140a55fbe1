-- The steps of the test, which keeps only the names of open tags.
use Rattle.std.specs.Prelude.{ℕ, Bool, true, false, if◌then◌else◌, ◌==◌, ◌||◌, List, [], ◌∷◌, Option, None, Some, codes}
use Rattle.std.specs.List.{list_any}
use Rattle.std.specs.Option.{is_some, option_and_then, option_map, option_or}
use Rattle.std.specs.Str.{bytes_eq}
use Rattle.html_safe_page.specs.Table.{start_rows_of, void_rows_of}
use Rattle.html_safe_page.specs.declared.table.TagTable.{TagTable}
use Rattle.html_safe_page.specs.SafePage.{Kind, And, Quote, Less, Greater, Plain, kind, Tag, void_end}
use Rattle.html_safe_page.specs.Reader.{strip, QuotedText, longer, quoted_value, read_value, read_tag}
use Rattle.definition_text.specs.Ascii.{double_quote, ampersand, slash, less_than, greater_than}

-- a byte is one of the four that are spelled as references
abbrev pub is_mark : ℕ → Bool
is_mark b = b == ampersand || b == double_quote || b == less_than || b == greater_than

abbrev pub begins_reference : List ℕ → Bool
begins_reference after =
    is_some (strip (codes "amp;") after) || is_some (strip (codes "quot;") after) || is_some (strip (codes "lt;") after) || is_some (strip (codes "gt;") after)

abbrev pub stands : Kind → List ℕ → Bool
stands And after = begins_reference after
stands Quote after = false
stands Less after = false
stands Greater after = false
stands Plain after = true

-- a byte before others is, or begins, a letter
abbrev pub may_stand : ℕ → List ℕ → Bool
may_stand b after = stands (kind b) after

-- what follows the bytes at the start that are none of the four
abbrev pub after_plain : List ℕ → List ℕ
after_plain [] = []
after_plain (b ∷ bs) = if is_mark b then b ∷ bs else after_plain bs

-- what follows the reference that bytes begin with
abbrev pub after_reference : List ℕ → Option (List ℕ)
after_reference bytes =
    option_or (option_or (option_or (strip (codes "&amp;") bytes) (strip (codes "&quot;") bytes)) (strip (codes "&lt;") bytes)) (strip (codes "&gt;") bytes)

-- what follows the letters that bytes begin with
abbrev pub after_letters : List ℕ → List ℕ
after_letters [] = []
after_letters (b ∷ bs) = if may_stand b bs then after_letters bs else b ∷ bs

-- what follows the attribute of this name that bytes in a tag begin with
abbrev pub after_attribute : List ℕ → List ℕ → List ℕ → Option (List ℕ)
after_attribute tag name bytes =
    option_and_then (λ (q : QuotedText). if is_some (read_value tag name q.inside) then Some q.rest else None) (quoted_value name bytes)

-- a tag before its `>`, and what follows that
abbrev pub split_tag : List ℕ → Option QuotedText
split_tag [] = None
split_tag (b ∷ bs) = if b == greater_than then Some (record { inside = []; rest = bs })
    else (if b == less_than then None else option_map (longer b) (split_tag bs))

-- names of frequent tags without attributes, so that each such tag is its own name
abbrev pub frequent_names : List (List ℕ)
frequent_names =
    codes "p" ∷ codes "li" ∷ codes "code" ∷ codes "em" ∷ codes "strong" ∷ codes "ul" ∷ codes "td" ∷ codes "tr"
    ∷ codes "pre" ∷ codes "h2" ∷ codes "h3" ∷ codes "h1" ∷ codes "ol" ∷ codes "h4" ∷ []

abbrev pub is_frequent : List ℕ → Bool
is_frequent tag = list_any (λ name. bytes_eq name tag) frequent_names

-- the names of open tags, the innermost first, after an end tag
abbrev pub close : List ℕ → List (List ℕ) → Option (List (List ℕ))
close name [] = None
close name (n ∷ names) = if bytes_eq name n then Some names else None

-- after a start tag or else a void tag
abbrev pub with_open_tag : Option Tag → Option Tag → List (List ℕ) → Option (List (List ℕ))
with_open_tag (Some tag) other names = Some (tag.name ∷ names)
with_open_tag None (Some tag) names = Some names
with_open_tag None None names = None

-- after a tag
abbrev pub follows : TagTable → List ℕ → List (List ℕ) → Option (List (List ℕ))
follows table [] names = None
follows table (b ∷ bs) names =
    if b == slash then close bs names
    else with_open_tag (read_tag (start_rows_of table) [] (b ∷ bs)) (read_tag (void_rows_of table) void_end (b ∷ bs)) names

-- names, if the test goes on
abbrev pub if_goes_on : Bool → List (List ℕ) → Option (List (List ℕ))
if_goes_on goes_on names = if goes_on then Some names else None

-- what follows a tag, and the names of open tags there
pub record Next : Type 0 where
  pub rest : List ℕ
  pub names : List (List ℕ)

abbrev pub next : List ℕ → List (List ℕ) → Next
next rest names = record { rest = rest; names = names }

abbrev pub after_split : TagTable → Option QuotedText → List (List ℕ) → Option Next
after_split table None names = None
after_split table (Some q) names = option_map (next q.rest) (follows table q.inside names)

-- after the tag that bytes begin with
abbrev pub after_tag : TagTable → List ℕ → List (List ℕ) → Option Next
after_tag table [] names = None
after_tag table (b ∷ bs) names = if b == less_than then after_split table (split_tag bs) names else None
