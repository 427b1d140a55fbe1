-- The names of elements that begin HTML blocks (CommonMark 4.6).
use Rattle.std.specs.Prelude.{ℕ, Bool, List, [], ◌∷◌, codes}
use Rattle.std.specs.List.{list_any}
use Rattle.definition_text.specs.Bytes.{same_caselessly}

-- the elements whose block runs to a closing tag (CommonMark 4.6, kind 1)
unfoldable pub raw_names : List (List ℕ)
raw_names = codes "pre" ∷ codes "script" ∷ codes "style" ∷ codes "textarea" ∷ []

-- the elements whose block runs to a blank line (CommonMark 4.6, kind 6)
unfoldable pub block_names : List (List ℕ)
block_names =
    codes "address" ∷ codes "article" ∷ codes "aside" ∷ codes "base" ∷ codes "basefont"
    ∷ codes "blockquote" ∷ codes "body" ∷ codes "caption" ∷ codes "center" ∷ codes "col"
    ∷ codes "colgroup" ∷ codes "dd" ∷ codes "details" ∷ codes "dialog" ∷ codes "dir"
    ∷ codes "div" ∷ codes "dl" ∷ codes "dt" ∷ codes "fieldset" ∷ codes "figcaption"
    ∷ codes "figure" ∷ codes "footer" ∷ codes "form" ∷ codes "frame" ∷ codes "frameset"
    ∷ codes "h1" ∷ codes "h2" ∷ codes "h3" ∷ codes "h4" ∷ codes "h5" ∷ codes "h6"
    ∷ codes "head" ∷ codes "header" ∷ codes "hr" ∷ codes "html" ∷ codes "iframe"
    ∷ codes "legend" ∷ codes "li" ∷ codes "link" ∷ codes "main" ∷ codes "menu"
    ∷ codes "menuitem" ∷ codes "nav" ∷ codes "noframes" ∷ codes "ol" ∷ codes "optgroup"
    ∷ codes "option" ∷ codes "p" ∷ codes "param" ∷ codes "search" ∷ codes "section"
    ∷ codes "summary" ∷ codes "table" ∷ codes "tbody" ∷ codes "td" ∷ codes "tfoot"
    ∷ codes "th" ∷ codes "thead" ∷ codes "title" ∷ codes "tr" ∷ codes "track" ∷ codes "ul" ∷ []

-- a name is one of these, in whatever case
abbrev pub is_one_of : List (List ℕ) → List ℕ → Bool
is_one_of names name = list_any (λ n. same_caselessly n name) names

-- the name of an element of kind 1
abbrev pub is_raw_name : List ℕ → Bool
is_raw_name name = is_one_of raw_names name

-- the name of an element of kind 6
abbrev pub is_block_name : List ℕ → Bool
is_block_name name = is_one_of block_names name
