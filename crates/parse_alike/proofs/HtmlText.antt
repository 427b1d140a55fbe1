-- Raw HTML in a text says what its pieces say.
use Rattle.std.proofs.Common.{◌≡◌, Bool, true, false, ◌&&◌, not, cond, List, [], ◌∷◌, ◌++◌, map, flat_map, refl, sym, ap, ◌∙◌}
use Rattle.parse_alike.proofs.Prelude.{append-nil, bytes_of, Code, CompileOptions, cond_both, Each, each-append, each-drop, flat_map-append, Html, html_leaves}
use Rattle.parse_alike.proofs.Prelude.{html_says, InlineLeaf, leaf_pieces, leaf_says, LineEnd, PrintedPart, raw_html, said_bytes, Says, Words}
use Rattle.markdown_compile_options.specs.RawHtml.{keeps_listed_html}
use Rattle.definition_text.specs.Columns.{indent, bare}
use Rattle.definition_text.specs.Content.{is_eol}
use Rattle.definition_text.proofs.Each.{each_map}
use Rattle.definition_page.specs.GfmTagfilter.{filter_tags}
use Rattle.definition_page.specs.HeadingText.{leaf_text}
use Rattle.definition_page.specs.InlinePieces.{HtmlLine, html_text_line, in_first_line, html_lines, html_line_says, later_line_says, html_lines_say}
use Rattle.definition_page.specs.Tags.{AsItIs, EndOfLine, Marked}
use Rattle.parse_alike.specs.HtmlText.{html_leaf, line_leaves, later_leaves, lines_leaves}
use Rattle.parse_alike.proofs.Said.{said, said-append, both}

-- ---- lines

abbrev EndsNoLine : Code → Type 0
EndsNoLine c = is_eol c ≡ false

abbrev IsOneLine : List Code → Type 0
IsOneLine cs = Each EndsNoLine cs

-- HTML without line endings is one line
one_line : (c : Code) (cs : List Code) → IsOneLine (c ∷ cs) → html_lines (c ∷ cs) ≡ html_text_line (c ∷ cs) [] ∷ []
one_line c [] p = ap (λ ends. cond ends (html_text_line [] (c ∷ []) ∷ []) (in_first_line c [])) p.0
one_line c (d ∷ ds) p =
    ap (λ ends. cond ends (html_text_line [] (c ∷ []) ∷ html_lines (d ∷ ds)) (in_first_line c (html_lines (d ∷ ds)))) p.0
    ∙ ap (in_first_line c) (one_line d ds p.1)

abbrev HasOneLine : HtmlLine → Type 0
HasOneLine l = IsOneLine l.line

first_line : (c : Code) (ls : List HtmlLine) → EndsNoLine c → Each HasOneLine ls → Each HasOneLine (in_first_line c ls)
first_line c [] h p = ((h, tt), tt)
first_line c (first ∷ others) h p = ((h, p.0), p.1)

each_one_line : (html : List Code) → Each HasOneLine (html_lines html)
each_one_line [] = tt
each_one_line (c ∷ cs) =
    cond_both (is_eol c) (html_text_line [] (c ∷ []) ∷ html_lines cs) (in_first_line c (html_lines cs)) (Each HasOneLine)
    (λ _. (tt, each_one_line cs)) (λ h. first_line c (html_lines cs) h (each_one_line cs))

-- what a leaf without tags says: raw HTML by where it stands, in the description of an image or not
abbrev pub plain_says : Bool → CompileOptions → InlineLeaf → List PrintedPart
plain_says described options (Html html) = html_says described options html
plain_says described options other = leaf_says options other

module _ (described : Bool) (options : CompileOptions) where
  -- ---- what lines say

  abbrev leaves_say : List InlineLeaf → List PrintedPart
  leaves_say ls = flat_map (plain_says described options) ls

  none_filtered : (filtered : Bool) → cond filtered (filter_tags []) [] ≡ []
  none_filtered true = refl
  none_filtered false = refl

  -- nothing is said of no HTML
  nothing_said : (kept dangerous : Bool)
      → said_bytes (cond kept (Marked []) (cond dangerous (AsItIs (cond options.gfm_tagfilter (filter_tags []) [])) (Words []))) ≡ []
  nothing_said true dangerous = refl
  nothing_said false true = ap (λ html. said_bytes (AsItIs html)) (none_filtered options.gfm_tagfilter)
  nothing_said false false = refl

  pub raw_nothing : said_bytes (raw_html described options []) ≡ []
  raw_nothing = nothing_said (keeps_listed_html options && not described) options.allow_dangerous_html

  line-said : (line : List Code) → IsOneLine line → said (leaves_say (html_leaf line)) ≡ said_bytes (raw_html described options (bytes_of line))
  line-said [] p = sym raw_nothing
  line-said (c ∷ cs) p =
      ap (λ ls. said (html_lines_say described options ls ++ [])) (one_line c cs p)
      ∙ append-nil (said_bytes (raw_html described options (bytes_of (c ∷ cs))))

  ends-said : (ending : List Code) → leaves_say (map LineEnd ending) ≡ map EndOfLine ending
  ends-said [] = refl
  ends-said (c ∷ cs) = ap (λ ss. EndOfLine c ∷ ss) (ends-said cs)

  ended-said : (line ending : List Code) → IsOneLine line → said (leaves_say (line_leaves line ending)) ≡ said (html_line_says described options line ending)
  ended-said line ending p =
      let first = leaves_say (html_leaf line) in
      ap said (flat_map-append (plain_says described options) (html_leaf line) (map LineEnd ending))
      ∙ said-append first (leaves_say (map LineEnd ending))
      ∙ both (said first) (said (leaves_say (map LineEnd ending))) (said_bytes (raw_html described options (bytes_of line))) (said (map EndOfLine ending))
      (line-said line p) (ap said (ends-said ending))

  later-said : (ls : List HtmlLine) → Each HasOneLine ls → said (leaves_say (flat_map later_leaves ls)) ≡ said (flat_map (later_line_says described options) ls)
  later-said [] p = refl
  later-said (l ∷ ls) p =
      let first = later_leaves l in
      let others = flat_map later_leaves ls in
      ap said (flat_map-append (plain_says described options) first others)
      ∙ said-append (leaves_say first) (leaves_say others)
      ∙ both (said (leaves_say first)) (said (leaves_say others)) (said (later_line_says described options l)) (said (flat_map (later_line_says described options) ls))
      (ended-said (bare l.line) l.ending (each-drop EndsNoLine (indent l.line) l.line p.0)) (later-said ls p.1)
      ∙ sym (said-append (later_line_says described options l) (flat_map (later_line_says described options) ls))

  lines-said : (ls : List HtmlLine) → Each HasOneLine ls → said (leaves_say (lines_leaves ls)) ≡ said (html_lines_say described options ls)
  lines-said [] p = refl
  lines-said (first ∷ others) p =
      let front = line_leaves first.line first.ending in
      let back = flat_map later_leaves others in
      let says = html_line_says described options first.line first.ending in
      let later = flat_map (later_line_says described options) others in
      ap said (flat_map-append (plain_says described options) front back)
      ∙ said-append (leaves_say front) (leaves_say back)
      ∙ both (said (leaves_say front)) (said (leaves_say back)) (said says) (said later) (ended-said first.line first.ending p.0) (later-said others p.1)
      ∙ sym (said-append says later)

  pub html-said : (html : List Code) → said (flat_map (plain_says described options) (html_leaves html)) ≡ said (html_says described options html)
  html-said html = lines-said (html_lines html) (each_one_line html)

-- ---- the pieces

-- what holds of HTML and of endings holds of each piece
module _ (P : InlineLeaf → Type 0) (of_html : (html : List Code) → P (Html html)) (of_end : (c : Code) → P (LineEnd c)) where
  each_leaf : (line : List Code) → Each P (html_leaf line)
  each_leaf [] = tt
  each_leaf (c ∷ cs) = (of_html (c ∷ cs), tt)

  each_of_line : (line ending : List Code) → Each P (line_leaves line ending)
  each_of_line line ending = each-append P (html_leaf line) (map LineEnd ending) (each_leaf line) (each_map P LineEnd ending of_end)

  each_later : (ls : List HtmlLine) → Each P (flat_map later_leaves ls)
  each_later [] = tt
  each_later (l ∷ ls) = each-append P (later_leaves l) (flat_map later_leaves ls) (each_of_line (bare l.line) l.ending) (each_later ls)

  each_of_lines : (ls : List HtmlLine) → Each P (lines_leaves ls)
  each_of_lines [] = tt
  each_of_lines (first ∷ others) =
      each-append P (line_leaves first.line first.ending) (flat_map later_leaves others) (each_of_line first.line first.ending) (each_later others)

  pub each_piece : (html : List Code) → Each P (html_leaves html)
  each_piece html = each_of_lines (html_lines html)

-- they print what they say, without tags
abbrev pub HasNoTags : CompileOptions → InlineLeaf → Type 0
HasNoTags options l = leaf_pieces options l ≡ map Says (plain_says false options l)

pub html_plain : (options : CompileOptions) (html : List Code) → Each (HasNoTags options) (html_leaves html)
html_plain options html = each_piece (HasNoTags options) (λ own. refl) (λ c. refl) html

-- and say nothing in a heading
abbrev pub SaysNothing : InlineLeaf → Type 0
SaysNothing l = leaf_text l ≡ []

pub html_silent : (html : List Code) → Each SaysNothing (html_leaves html)
html_silent html = each_piece SaysNothing (λ own. refl) (λ c. refl) html
