-- Raw HTML line by line (CommonMark 6.6).
use Rattle.std.proofs.Common.{inl, inr, ◌≡◌, ◌+◌, suc, true, false, List, [], ◌∷◌, ◌++◌, refl, sym, ap, ◌∙◌, drop, arith, map}
use Rattle.parse_inline.proofs.Prelude.{append-nil, bare, cases_Bool, Code, cond-false, cond-true, Each, Html, html_leaves, indent, is_eol, is_white, LineEnd}
use Rattle.parse_inline.proofs.Prelude.{nat_tests}
use Rattle.std.specs.List.{flat_map}
use Rattle.definition_page.specs.InlinePieces.{HtmlLine, html_lines, html_text_line, in_first_line}
use Rattle.parse_alike.specs.HtmlText.{html_leaf, later_leaves, lines_leaves}

abbrev pub EndsNoLine : Code → Type 0
EndsNoLine c = is_eol c ≡ false

abbrev pub IsWhite : Code → Type 0
IsWhite c = is_white c ≡ true

-- nothing, or a line ending first
abbrev pub BeginsEnding : List Code → Type 0
BeginsEnding [] = Unit {0}
BeginsEnding (c ∷ cs) = is_eol c ≡ true

-- nothing, or no space or tab first
abbrev pub BeginsBare : List Code → Type 0
BeginsBare [] = Unit {0}
BeginsBare (c ∷ cs) = is_white c ≡ false

white_ends_none : (c : Code) → is_white c ≡ true → is_eol c ≡ false
white_ends_none c white = grind (arith, nat_tests)

-- codes before the first of some lines
lines_before : (line cs : List Code) (first : HtmlLine) (others : List HtmlLine) → Each EndsNoLine line → html_lines cs ≡ first ∷ others
    → html_lines (line ++ cs) ≡ html_text_line (line ++ first.line) first.ending ∷ others
lines_before [] cs first others ends is = is
lines_before (c ∷ line) cs first others ends is =
    cond-false (is_eol c) (html_text_line [] (c ∷ []) ∷ html_lines (line ++ cs)) (in_first_line c (html_lines (line ++ cs))) ends.0
    ∙ ap (in_first_line c) (lines_before line cs first others ends.1 is)

lines_ending : (e : Code) (cs : List Code) → is_eol e ≡ true → html_lines (e ∷ cs) ≡ html_text_line [] (e ∷ []) ∷ html_lines cs
lines_ending e cs ends = cond-true (is_eol e) (html_text_line [] (e ∷ []) ∷ html_lines cs) (in_first_line e (html_lines cs)) ends

before_ending : (line : List Code) (e : Code) (cs : List Code) → Each EndsNoLine line → is_eol e ≡ true
    → html_lines (line ++ e ∷ cs) ≡ html_text_line line (e ∷ []) ∷ html_lines cs
before_ending line e cs inline ends =
    lines_before line (e ∷ cs) (html_text_line [] (e ∷ [])) (html_lines cs) inline (lines_ending e cs ends)
    ∙ ap (λ xs. html_text_line xs (e ∷ []) ∷ html_lines cs) (append-nil line)

one_line : (c : Code) (cs : List Code) → Each EndsNoLine (c ∷ cs) → html_lines (c ∷ cs) ≡ html_text_line (c ∷ cs) [] ∷ []
one_line c [] p = cond-false (is_eol c) (html_text_line [] (c ∷ []) ∷ []) (in_first_line c []) p.0
one_line c (d ∷ ds) p =
    cond-false (is_eol c) (html_text_line [] (c ∷ []) ∷ html_lines (d ∷ ds)) (in_first_line c (html_lines (d ∷ ds))) p.0
    ∙ ap (in_first_line c) (one_line d ds p.1)

-- bytes of a line are a piece
pub html_chunk : (c : Code) (line others : List Code) → Each EndsNoLine (c ∷ line) → BeginsEnding others
    → html_leaves ((c ∷ line) ++ others) ≡ Html (c ∷ line) ∷ html_leaves others
html_chunk c line [] inline ends =
    ap html_leaves (append-nil (c ∷ line)) ∙ ap lines_leaves (one_line c line inline)
html_chunk c line (e ∷ cs) inline ends =
    ap lines_leaves (before_ending (c ∷ line) e cs inline ends)
    ∙ sym (ap (λ ls. Html (c ∷ line) ∷ lines_leaves ls) (lines_ending e cs ends))

bare_more : (w : Code) (cs : List Code) → is_white w ≡ true → bare (w ∷ cs) ≡ bare cs
bare_more w cs white =
    let e : indent (w ∷ cs) ≡ suc (indent cs) = cond-true (is_white w) (1 + indent cs) 0 white ∙ omega arith in
    ap (λ n. drop n (w ∷ cs)) e

bare_before : (white cs : List Code) → Each IsWhite white → BeginsBare cs → bare (white ++ cs) ≡ cs
bare_before [] [] all stops = refl
bare_before [] (c ∷ cs) all stops = ap (λ n. drop n (c ∷ cs)) (cond-false (is_white c) (1 + indent cs) 0 stops)
bare_before (w ∷ white) cs all stops = bare_more w (white ++ cs) all.0 ∙ bare_before white cs all.1 stops

white_in_line : (white : List Code) → Each IsWhite white → Each EndsNoLine white
white_in_line [] all = tt
white_in_line (w ∷ white) all = (white_ends_none w all.0, white_in_line white all.1)

-- the first line begins with this code
in_first : (c : Code) (ls : List HtmlLine)
    → (line ending : List Code) × (others : List HtmlLine) × (in_first_line c ls ≡ html_text_line (c ∷ line) ending ∷ others)
in_first c [] = ([], [], [], refl)
in_first c (first ∷ others) = (first.line, first.ending, others, refl)

-- a later line, without the spaces and tabs at its start
later_bare : (white rest : List Code) → Each IsWhite white → BeginsBare rest → flat_map later_leaves (html_lines (white ++ rest)) ≡ html_leaves rest
later_bare [] [] all stops = refl
later_bare (w ∷ white) [] all stops =
    ap (λ cs. flat_map later_leaves (html_lines cs)) (append-nil (w ∷ white))
    ∙ ap (flat_map later_leaves) (one_line w white (white_in_line (w ∷ white) all))
    ∙ ap (λ cs. (html_leaf cs ++ []) ++ []) (ap bare (sym (append-nil (w ∷ white))) ∙ bare_before (w ∷ white) [] all tt)
later_bare white (c ∷ cs) all stops = elim (cases_Bool (is_eol c)) [
  | inl ends ↦
      ap (flat_map later_leaves) (before_ending white c cs (white_in_line white all) ends)
      ∙ ap (λ xs. (html_leaf xs ++ LineEnd c ∷ []) ++ flat_map later_leaves (html_lines cs))
      (ap bare (sym (append-nil white)) ∙ bare_before white [] all tt)
      ∙ sym (ap lines_leaves (lines_ending c cs ends))
  | inr goes ↦
      let (line, ending, others, is) = in_first c (html_lines cs) in
      let here : html_lines (c ∷ cs) ≡ html_text_line (c ∷ line) ending ∷ others =
      cond-false (is_eol c) (html_text_line [] (c ∷ []) ∷ html_lines cs) (in_first_line c (html_lines cs)) goes ∙ is in
      ap (flat_map later_leaves) (lines_before white (c ∷ cs) (html_text_line (c ∷ line) ending) others (white_in_line white all) here)
      ∙ ap (λ xs. (html_leaf xs ++ map LineEnd ending) ++ flat_map later_leaves others) (bare_before white (c ∷ line) all stops)
      ∙ sym (ap lines_leaves here)
]

-- a line ending, with the spaces and tabs after it
pub html_ending : (e : Code) (white rest : List Code) → is_eol e ≡ true → Each IsWhite white → BeginsBare rest
    → html_leaves (e ∷ (white ++ rest)) ≡ LineEnd e ∷ html_leaves rest
html_ending e white rest ends all stops =
    ap lines_leaves (lines_ending e (white ++ rest) ends) ∙ ap (λ ls. LineEnd e ∷ ls) (later_bare white rest all stops)
