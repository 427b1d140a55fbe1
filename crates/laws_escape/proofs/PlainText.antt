-- The text of lines where every construct is off: the lines without the spaces and tabs at their ends, encoded.
use Rattle.std.proofs.Common.{◌≡◌, ℕ, ◌+◌, ◌-◌, ◌<◌, suc, zero, List, [], ◌∷◌, ◌++◌, Option, None, Some, Bool, true, false, cond, ◌&&◌, eqb, leb, inl, inr}
use Rattle.std.proofs.Common.{refl, sym, ap, ◌∙◌, subst, append_assoc, arith, take, drop, length, map}
use Rattle.laws_escape.proofs.Prelude.{add, AddsBytes, and_parts, bare, BlockLine, both_ways, Bytes, cases_Bool, codes, codes_of, CompileOptions, cond-false}
use Rattle.laws_escape.proofs.Prelude.{cond-true, Constructs, Data, Document, document_meaning, encode, ending_text, ends_here, ends_line, eqb-true, flat_map}
use Rattle.laws_escape.proofs.Prelude.{fold, Found, Fresh, has_calls, indent, inline_content, inline_html, inline_pieces, InlineCode, InlineContext}
use Rattle.laws_escape.proofs.Prelude.{InlineLeaf, Inlines, inlines, is_blank, is_eol, is_tab_column, is_white, Item, Kind, lay, leaf, leaf_at, leaf_bytes}
use Rattle.laws_escape.proofs.Prelude.{leaf_here, leaf_html, line_end_at, line_spaces_at, LineEnd, LineEnding, map-append, Meaning, ne_eqb, Next}
use Rattle.laws_escape.proofs.Prelude.{no_constructs, on_page, or_else, or_from, prefix_len, read_tokens, reading, Reading, reading_of, scan, suffix_len, text}
use Rattle.laws_escape.proofs.Prelude.{text_of, trim, whole_text, with_spans, without_calls}
use Rattle.std.specs.Prelude.{reverse}
use Rattle.std.proofs.Math.Seq.{drop-append_seam}
use Rattle.std.proofs.lemmas.Bool.{true≢false, and_cases, le-leb}
use Rattle.std.proofs.lemmas.List.{length-reverse, reverse-append}
use Rattle.std.proofs.lemmas.List.Folds.{prefix_len-append}
use Rattle.std.proofs.lemmas.List.Sums.{suffix_len-le-length}
use Rattle.markdown_options.specs.declared.line_ending.LineEnding.TheVariants.{CarriageReturnLineFeed, CarriageReturn, LineFeed}
use Rattle.markdown_options.specs.declared.configuration.ParseOptions.{ParseOptions}
use Rattle.markdown_options.specs.declared.beside.Kind.TheVariants.{Whitespace}
use Rattle.definition_text.specs.Columns.{code_byte}
use Rattle.definition_text.specs.Content.{ending_code, line_codes, content_of}
use Rattle.definition_text.specs.InlineCode.{line_content}
use Rattle.definition_inline.specs.Inline.{Leaf}
use Rattle.definition_inline.specs.Scan.{leaf_step, step, and_then}
use Rattle.definition_inline.specs.Strings.{or_byte}
use Rattle.definition_block.specs.Blocks.{Paragraph}
use Rattle.definition_page.specs.Tags.{bare_tag}
use Rattle.definition_page.specs.Read.{read_text}
use Rattle.html_bytes.specs.Pieces.{in_bytes}
use Rattle.definition_page.proofs.ContentCodes.{kinds_codes}
use Rattle.definition_inline.specs.Targets.{is_label_of, is_footnote_of}
use Rattle.html_bytes.proofs.SameText.{element_bytes}
use Rattle.definition_inline.proofs.Scanning.{drop-codes_of}
use Rattle.laws_escape.proofs.InlineParts.{read_nothing, white_codes, items, leaves, leaves_alone, html_of_leaves, html_of_data, leaves_call_nothing}

-- a line of text: the spaces and tabs at its ends are dropped
abbrev pub line_text : BlockLine → List ℕ
line_text line = encode (trim line.codes) ++ ending_text line.ending

abbrev pub plain_text : List BlockLine → List ℕ
plain_text ls = flat_map line_text ls

-- bytes that end no line
abbrev pub AreInLine : List ℕ → Type 0
AreInLine [] = Unit {0}
AreInLine (b ∷ bs) = (ends_line b ≡ false) × (b < 256) × AreInLine bs

-- lines of text: all but the last have an ending
abbrev pub AreText : List BlockLine → Type 0
AreText [] = Unit {0}
AreText (line ∷ []) = AreInLine line.codes
AreText (line ∷ next ∷ others) = AreInLine line.codes × ((e : LineEnding) × (line.ending ≡ Some e)) × AreText (next ∷ others)

-- ---- what a content begins with

pub and_no : (x y : Bool) → y ≡ false → (x && y) ≡ false
and_no true y e = e
and_no false y e = refl

-- a line ending, or the spaces and tabs before one or at the end
abbrev found_at : List ℕ → Option Found
found_at content = or_else (line_end_at content) (line_spaces_at no_constructs content)

-- the leaves of a content, of which so many codes are taken already
abbrev parts : ℕ → List ℕ → List InlineLeaf
parts k [] = []
parts zero (c ∷ cs) = let found = or_byte c (found_at (c ∷ cs)) in found.parts ++ parts (found.size - 1) cs
parts (suc k) (c ∷ cs) = parts k cs

parts_skipped : (k : ℕ) (content : List ℕ) → parts k content ≡ parts 0 (drop k content)
parts_skipped zero [] = refl
parts_skipped (suc k) [] = refl
parts_skipped zero (c ∷ cs) = refl
parts_skipped (suc k) (c ∷ cs) = parts_skipped k cs

parts_found : (c : ℕ) (cs : List ℕ) (found : Found) → found_at (c ∷ cs) ≡ Some found → parts 0 (c ∷ cs) ≡ found.parts ++ parts (found.size - 1) cs
parts_found c cs found is = ap (λ o. (or_byte c o).parts ++ parts ((or_byte c o).size - 1) cs) is

parts_byte : (c : ℕ) (cs : List ℕ) → found_at (c ∷ cs) ≡ None → parts 0 (c ∷ cs) ≡ Data c ∷ parts 0 cs
parts_byte c cs is = ap (λ o. (or_byte c o).parts ++ parts ((or_byte c o).size - 1) cs) is

-- ---- the scan

module _ (options : ParseOptions) (names : List ℕ → Option (List ℕ)) (is_defined is_footnote : List ℕ → Bool) where
  abbrev all_off : InlineContext
  all_off = record { options = record options { constructs = no_constructs }; names = names; is_defined = is_defined; is_footnote = is_footnote }

  plain_leaf : (c : ℕ) (cs : List ℕ) → leaf_at all_off (c ∷ cs) ≡ found_at (c ∷ cs)
  plain_leaf c [] = refl
  plain_leaf c (next ∷ cs) = refl

  or_nothing : (o : Option Found) → or_else o None ≡ o
  or_nothing None = refl
  or_nothing (Some found) = refl

  plain_here : (c : InlineCode) (cs : List InlineCode) → leaf_here all_off (c ∷ cs) ≡ found_at (codes_of (c ∷ cs))
  plain_here c cs = or_nothing (leaf_at all_off (codes_of (c ∷ cs))) ∙ plain_leaf c.code (codes_of cs)

  found_step : (c : InlineCode) (cs : List InlineCode) (r : Reading) (o : Option Found)
      → leaf_step all_off c.code (codes_of (c ∷ cs)) r None o ≡ Next ((or_byte c.code o).size - 1) (read_tokens (items (or_byte c.code o).parts) r)
  found_step c cs r None = refl
  found_step c cs r (Some found) = refl

  plain_step : (c : InlineCode) (cs : List InlineCode) (r : Reading)
      → step all_off r c cs
      ≡ Next ((or_byte c.code (found_at (codes_of (c ∷ cs)))).size - 1) (read_tokens (items (or_byte c.code (found_at (codes_of (c ∷ cs)))).parts) r)
  plain_step c cs r =
      let content = codes_of (c ∷ cs) in
      ap (leaf_step all_off c.code content r None) (plain_here c cs) ∙ found_step c cs r (found_at content)

  read_more : (is js : List InlineLeaf) (r : Reading) → read_tokens (items js) (read_tokens (items is) r) ≡ read_tokens (items (is ++ js)) r
  read_more is js r =
      ap (λ ts. reading (text ts r.now.holds_link) r.open_labels)
      (append_assoc r.now.tokens (items is) (items js) ∙ ap (λ ts. r.now.tokens ++ ts) (sym (map-append (λ (part : InlineLeaf). Item (Leaf part)) is js)))

  plain_scan : (k : ℕ) (r : Reading) (content : List InlineCode) → scan all_off k r content ≡ read_tokens (items (parts k (codes_of content))) r
  plain_scan zero r [] = read_nothing r
  plain_scan (suc k) r [] = read_nothing r
  plain_scan zero r (c ∷ cs) =
      let found = or_byte c.code (found_at (codes_of (c ∷ cs))) in
      let next = read_tokens (items found.parts) r in
      ap (λ s. and_then s (λ k r2. scan all_off k r2 cs)) (plain_step c cs r)
      ∙ plain_scan (found.size - 1) next cs
      ∙ read_more found.parts (parts (found.size - 1) (codes_of cs)) r
  plain_scan (suc k) r (c ∷ cs) = plain_scan k r cs

-- the inline structure of a content
structure_of_codes : (options : ParseOptions) (names : List ℕ → Option (List ℕ)) (is_defined is_footnote : List ℕ → Bool) (content : List InlineCode)
    → inlines (all_off options names is_defined is_footnote) content ≡ leaves (parts 0 (bare (codes_of content)))
structure_of_codes options names is_defined is_footnote content =
    let start = prefix_len (λ (c : InlineCode). is_white c.code) content in
    let nothing : Reading = reading (text [] false) [] in
    ap (λ r. with_spans (whole_text r).tokens) (plain_scan options names is_defined is_footnote 0 nothing (drop start content))
    ∙ leaves_alone (parts 0 (codes_of (drop start content)))
    ∙ ap (λ cs. leaves (parts 0 cs)) (drop-codes_of start content ∙ ap (λ n. drop n (codes_of content)) (white_codes content))

-- ---- what a content prints

abbrev printed : CompileOptions → List ℕ → List ℕ
printed compile content = flat_map (leaf_html compile) (parts 0 content)

html_of_codes : (m : Meaning) (options : ParseOptions) (names : List ℕ → Option (List ℕ)) (is_defined is_footnote : List ℕ → Bool)
    (content : List InlineCode) → inline_html m (inlines (all_off options names is_defined is_footnote) content) ≡ printed m.compile (bare (codes_of content))
html_of_codes m options names is_defined is_footnote content =
    ap (inline_html m) (structure_of_codes options names is_defined is_footnote content) ∙ html_of_leaves m (parts 0 (bare (codes_of content)))

-- ---- spaces and tabs

no_eol : (b : ℕ) → ends_line b ≡ false → b < 256 → is_eol b ≡ false
no_eol b e lt = or_from (ends_line b) (eqb b 257) e (ne_eqb b 257 (λ is. omega arith))

not_white : (b n : ℕ) → eqb b n ≡ true → is_white n ≡ false → is_white b ≡ false
not_white b n is e = ap is_white (eqb-true b n is) ∙ e

eol_not_white : (c : ℕ) → is_eol c ≡ true → is_white c ≡ false
eol_not_white c e = elim (cases_Bool (eqb c 10)) [
  | inl is ↦ not_white c 10 is refl
  | inr no_feed ↦ elim (cases_Bool (eqb c 13)) [
    | inl is ↦ not_white c 13 is refl
    | inr no_return ↦ elim (cases_Bool (eqb c 257)) [
      | inl is ↦ not_white c 257 is refl
      | inr neither ↦ absurd (both_ways (is_eol c) (or_from (ends_line c) (eqb c 257) (or_from (eqb c 10) (eqb c 13) no_feed no_return) neither) e)
    ]
  ]
]

-- spaces and tabs before what is no space or tab
no_indent : (rest : List ℕ) → ends_here rest ≡ true → indent rest ≡ 0
no_indent [] e = refl
no_indent (c ∷ cs) e = cond-false (is_white c) _ 0 (eol_not_white c e)

pub bare_white : (b : ℕ) (rest : List ℕ) → is_white b ≡ true → bare (b ∷ rest) ≡ bare rest
bare_white b rest white =
    let e : indent (b ∷ rest) ≡ suc (indent rest) = cond-true (is_white b) (1 + indent rest) 0 white ∙ omega arith in
    ap (λ n. drop n (b ∷ rest)) e

pub bare_other : (b : ℕ) (rest : List ℕ) → is_white b ≡ false → bare (b ∷ rest) ≡ b ∷ rest
bare_other b rest other = ap (λ n. drop n (b ∷ rest)) (cond-false (is_white b) (1 + indent rest) 0 other)

bare_before : (bs rest : List ℕ) → ends_here rest ≡ true → bare (bs ++ rest) ≡ bare bs ++ rest
bare_before [] rest e = ap (λ n. drop n rest) (no_indent rest e)
bare_before (b ∷ bs) rest e = elim (cases_Bool (is_white b)) [
  | inl white ↦ bare_white b (bs ++ rest) white ∙ bare_before bs rest e ∙ ap (λ x. x ++ rest) (sym (bare_white b bs white))
  | inr other ↦ bare_other b (bs ++ rest) other ∙ ap (λ x. x ++ rest) (sym (bare_other b bs other))
]

blank_indent : (bs rest : List ℕ) → is_blank bs ≡ true → ends_here rest ≡ true → indent (bs ++ rest) ≡ length bs
blank_indent [] rest blank e = no_indent rest e
blank_indent (b ∷ bs) rest blank e =
    let both = and_parts (is_white b) (is_blank bs) blank in
    cond-true (is_white b) (1 + indent (bs ++ rest)) 0 both.0 ∙ ap (λ n. 1 + n) (blank_indent bs rest both.1 e) ∙ omega arith

goes_on : (bs rest : List ℕ) → AreInLine bs → is_blank bs ≡ false → ends_here (bare (bs ++ rest)) ≡ false
goes_on [] rest line some = absurd (true≢false some)
goes_on (b ∷ bs) rest line some = elim (cases_Bool (is_white b)) [
  | inl white ↦
      ap ends_here (bare_white b (bs ++ rest) white)
      ∙ goes_on bs rest line.2 (sym (ap (λ x. x && is_blank bs) white) ∙ some)
  | inr other ↦ ap ends_here (bare_other b (bs ++ rest) other) ∙ no_eol b line.0 line.1
]

-- a line without the spaces and tabs at its end
abbrev kept : List ℕ → List ℕ
kept [] = []
kept (b ∷ bs) = cond (is_blank (b ∷ bs)) [] (b ∷ kept bs)

last_white : (b : ℕ) (bs : List ℕ)
    → suffix_len is_white (b ∷ bs) ≡ cond (eqb (suffix_len is_white bs) (length bs)) (length bs + cond (is_white b) 1 0) (suffix_len is_white bs)
last_white b bs =
    ap (prefix_len is_white) (reverse-append (b ∷ []) bs) ∙ prefix_len-append is_white (reverse bs) (b ∷ [])
    ∙ ap (λ n. cond (eqb (suffix_len is_white bs) n) (n + cond (is_white b) 1 0) (suffix_len is_white bs)) (length-reverse bs)

same : (m n : ℕ) → m ≡ n → eqb m n ≡ true
same m n e = elim (cases_Bool (eqb m n)) [
  | inl is ↦ is
  | inr other ↦ grind (arith, e, other)
]

blank_end : (bs : List ℕ) → is_blank bs ≡ true → suffix_len is_white bs ≡ length bs
blank_end [] blank = refl
blank_end (b ∷ bs) blank =
    let both = and_parts (is_white b) (is_blank bs) blank in
    let all = same (suffix_len is_white bs) (length bs) (blank_end bs both.1) in
    last_white b bs ∙ cond-true (eqb (suffix_len is_white bs) (length bs)) _ _ all ∙ ap (λ n. length bs + n) (cond-true (is_white b) 1 0 both.0) ∙ omega arith

-- where a line isn't blank, its first byte makes no difference
other_end : (b : ℕ) (bs : List ℕ) → is_blank (b ∷ bs) ≡ false → (is_blank bs ≡ false → suffix_len is_white bs < length bs)
    → (suffix_len is_white (b ∷ bs) ≡ suffix_len is_white bs) × (suffix_len is_white (b ∷ bs) < length (b ∷ bs))
other_end b bs some shorter = elim (cases_Bool (is_blank bs)) [
  | inl blank ↦
      let other : is_white b ≡ false = elim (and_cases (is_white b) (is_blank bs) some) [
        | inl e ↦ e
        | inr e ↦ absurd (both_ways (is_blank bs) e blank)
      ] in
      let all = blank_end bs blank in
      let is : suffix_len is_white (b ∷ bs) ≡ suffix_len is_white bs =
      last_white b bs ∙ cond-true (eqb (suffix_len is_white bs) (length bs)) _ _ (same (suffix_len is_white bs) (length bs) all)
      ∙ ap (λ n. length bs + n) (cond-false (is_white b) 1 0 other) ∙ omega (arith, all) in
      (is, omega (arith, is, all))
  | inr later ↦
      let less = shorter later in
      let is : suffix_len is_white (b ∷ bs) ≡ suffix_len is_white bs =
      last_white b bs ∙ cond-false (eqb (suffix_len is_white bs) (length bs)) _ _ (ne_eqb (suffix_len is_white bs) (length bs) (λ e. omega (arith, e, less))) in
      (is, omega (arith, is, less))
]

some_start : (bs : List ℕ) → is_blank bs ≡ false → suffix_len is_white bs < length bs
some_start [] some = absurd (true≢false some)
some_start (b ∷ bs) some = (other_end b bs some (some_start bs)).1

without_end : (bs : List ℕ) → take (length bs - suffix_len is_white bs) bs ≡ kept bs
without_end [] = refl
without_end (b ∷ bs) = elim (cases_Bool (is_blank (b ∷ bs))) [
  | inl blank ↦
      let none : length (b ∷ bs) - suffix_len is_white (b ∷ bs) ≡ 0 = omega (arith, blank_end (b ∷ bs) blank) in
      ap (λ n. take n (b ∷ bs)) none ∙ sym (cond-true (is_blank (b ∷ bs)) [] (b ∷ kept bs) blank)
  | inr some ↦
      let more : length (b ∷ bs) - suffix_len is_white (b ∷ bs) ≡ suc (length bs - suffix_len is_white bs) =
      omega (arith, (other_end b bs some (some_start bs)).0, suffix_len-le-length is_white bs) in
      ap (λ n. take n (b ∷ bs)) more ∙ ap (λ x. b ∷ x) (without_end bs) ∙ sym (cond-false (is_blank (b ∷ bs)) [] (b ∷ kept bs) some)
]

-- ---- lines

pub line_drop : (n : ℕ) (bs : List ℕ) → AreInLine bs → AreInLine (drop n bs)
line_drop zero bs line = line
line_drop (suc n) [] line = tt
line_drop (suc n) (b ∷ bs) line = line_drop n bs line.2

pub first_line : (line : BlockLine) (others : List BlockLine) → AreText (line ∷ others) → AreInLine line.codes
first_line line [] h = h
first_line line (next ∷ others) h = h.0

pub other_lines : (line : BlockLine) (others : List BlockLine) → AreText (line ∷ others) → AreText others
other_lines line [] h = tt
other_lines line (next ∷ others) h = h.2

module _ (compile : CompileOptions) where
  -- a line, whatever follows it
  blank_printed : (b : ℕ) (bs rest : List ℕ) → AreInLine (b ∷ bs) → is_blank (b ∷ bs) ≡ true → ends_here rest ≡ true
      → parts 0 (b ∷ (bs ++ rest)) ≡ parts 0 rest
  blank_printed b bs rest line blank e =
      let content = b ∷ (bs ++ rest) in
      let size : indent content ≡ length (b ∷ bs) = blank_indent (b ∷ bs) rest blank e in
      let here : bare content ≡ rest = ap (λ n. drop n content) size ∙ drop-append_seam (b ∷ bs) rest in
      let both : (leb 1 (indent content) && ends_here (bare content)) ≡ true =
      ap (λ x. x && ends_here (bare content)) (le-leb 1 (indent content) (omega (arith, size))) ∙ ap ends_here here ∙ e in
      let found : found_at content ≡ Some (leaf [] (indent content)) =
      ap (λ o. or_else o (line_spaces_at no_constructs content)) (cond-false (is_eol b) _ None (no_eol b line.0 line.1))
      ∙ cond-true (leb 1 (indent content) && ends_here (bare content)) _ None both in
      let more : indent content - 1 ≡ length bs = omega (arith, size) in
      parts_found b (bs ++ rest) (leaf [] (indent content)) found
      ∙ ap (λ n. parts n (bs ++ rest)) more ∙ parts_skipped (length bs) (bs ++ rest) ∙ ap (parts 0) (drop-append_seam bs rest)

  byte_printed : (b : ℕ) (bs rest : List ℕ) → AreInLine (b ∷ bs) → is_blank (b ∷ bs) ≡ false → parts 0 (b ∷ (bs ++ rest)) ≡ Data b ∷ parts 0 (bs ++ rest)
  byte_printed b bs rest line some =
      let content = b ∷ (bs ++ rest) in
      let neither : (leb 1 (indent content) && ends_here (bare content)) ≡ false =
      and_no (leb 1 (indent content)) (ends_here (bare content)) (goes_on (b ∷ bs) rest line some) in
      parts_byte b (bs ++ rest)
      (ap (λ o. or_else o (line_spaces_at no_constructs content)) (cond-false (is_eol b) _ None (no_eol b line.0 line.1))
      ∙ cond-false (leb 1 (indent content) && ends_here (bare content)) _ None neither)

  line_printed : (bs rest : List ℕ) → AreInLine bs → ends_here rest ≡ true → printed compile (bs ++ rest) ≡ encode (kept bs) ++ printed compile rest
  line_printed [] rest line e = refl
  line_printed (b ∷ bs) rest line e = elim (cases_Bool (is_blank (b ∷ bs))) [
    | inl blank ↦
        ap (flat_map (leaf_html compile)) (blank_printed b bs rest line blank e)
        ∙ ap (λ x. encode x ++ printed compile rest) (sym (cond-true (is_blank (b ∷ bs)) [] (b ∷ kept bs) blank))
    | inr some ↦
        ap (flat_map (leaf_html compile)) (byte_printed b bs rest line some)
        ∙ ap (λ x. leaf_html compile (Data b) ++ x) (line_printed bs rest line.2 e)
        ∙ sym (append_assoc (leaf_html compile (Data b)) (encode (kept bs)) (printed compile rest))
        ∙ ap (λ x. (x ++ encode (kept bs)) ++ printed compile rest) (html_of_data compile b)
        ∙ ap (λ x. encode x ++ printed compile rest) (sym (cond-false (is_blank (b ∷ bs)) [] (b ∷ kept bs) some))
  ]

  trimmed_printed : (bs rest : List ℕ) → AreInLine bs → ends_here rest ≡ true
      → printed compile (bare (bs ++ rest)) ≡ encode (trim bs) ++ printed compile rest
  trimmed_printed bs rest line e =
      ap (printed compile) (bare_before bs rest e) ∙ line_printed (bare bs) rest (line_drop (indent bs) bs line) e
      ∙ ap (λ x. encode x ++ printed compile rest) (sym (without_end (bare bs)))

  -- a line ending, and the spaces and tabs after it
  eol_parts : (c : ℕ) (cs : List ℕ) → is_eol c ≡ true → parts 0 (c ∷ cs) ≡ LineEnd c ∷ parts 0 (bare cs)
  eol_parts c cs e =
      let found : found_at (c ∷ cs) ≡ Some (leaf (LineEnd c ∷ []) (1 + indent cs)) =
      ap (λ o. or_else o (line_spaces_at no_constructs (c ∷ cs))) (cond-true (is_eol c) _ None e) in
      let more : 1 + indent cs - 1 ≡ indent cs = omega arith in
      parts_found c cs (leaf (LineEnd c ∷ []) (1 + indent cs)) found
      ∙ ap (λ n. LineEnd c ∷ parts n cs) more ∙ ap (λ is. LineEnd c ∷ is) (parts_skipped (indent cs) cs)

  -- what stands after a line: its ending and other lines, or nothing
  ending_starts : (e : LineEnding) (cs : List ℕ) → ends_here (ending_code (Some e) ++ cs) ≡ true
  ending_starts LineFeed cs = refl
  ending_starts CarriageReturn cs = refl
  ending_starts CarriageReturnLineFeed cs = refl

  ending_printed : (e : LineEnding) (cs : List ℕ)
      → printed compile (ending_code (Some e) ++ cs) ≡ ending_text (Some e) ++ printed compile (bare cs)
  ending_printed LineFeed cs = ap (flat_map (leaf_html compile)) (eol_parts 10 cs refl)
  ending_printed CarriageReturn cs = ap (flat_map (leaf_html compile)) (eol_parts 13 cs refl)
  ending_printed CarriageReturnLineFeed cs = ap (flat_map (leaf_html compile)) (eol_parts 257 cs refl)

  last_starts : (ending : Option LineEnding) → ends_here (ending_code ending ++ []) ≡ true
  last_starts None = refl
  last_starts (Some e) = ending_starts e []

  last_printed : (ending : Option LineEnding) → printed compile (ending_code ending ++ []) ≡ ending_text ending ++ printed compile []
  last_printed None = refl
  last_printed (Some e) = ending_printed e []

  after_starts : (line : BlockLine) (others : List BlockLine) → AreText (line ∷ others) → ends_here (ending_code line.ending ++ content_of others) ≡ true
  after_starts line [] h = last_starts line.ending
  after_starts line (next ∷ others) h =
      subst (λ o. ends_here (ending_code o ++ content_of (next ∷ others)) ≡ true) (sym h.1.1) (ending_starts h.1.0 (content_of (next ∷ others)))

  after_printed : (line : BlockLine) (others : List BlockLine) → AreText (line ∷ others)
      → printed compile (ending_code line.ending ++ content_of others) ≡ ending_text line.ending ++ printed compile (bare (content_of others))
  after_printed line [] h = last_printed line.ending
  after_printed line (next ∷ others) h =
      let cs = content_of (next ∷ others) in
      subst (λ o. printed compile (ending_code o ++ cs) ≡ ending_text o ++ printed compile (bare cs)) (sym h.1.1) (ending_printed h.1.0 cs)

  lines_printed : (ls : List BlockLine) → AreText ls → printed compile (bare (content_of ls)) ≡ plain_text ls
  lines_printed [] h = refl
  lines_printed (line ∷ others) h =
      let after = ending_code line.ending ++ content_of others in
      let said = encode (trim line.codes) in
      ap (λ x. printed compile (bare x)) (append_assoc line.codes (ending_code line.ending) (content_of others))
      ∙ trimmed_printed line.codes after (first_line line others h) (after_starts line others h)
      ∙ ap (λ x. said ++ x)
      (after_printed line others h ∙ ap (λ x. ending_text line.ending ++ x) (lines_printed others (other_lines line others h)))
      ∙ sym (append_assoc said (ending_text line.ending) (plain_text others))

-- ---- the codes of lines

same_bytes : (bs : List ℕ) → AreInLine bs → map code_byte bs ≡ bs
same_bytes [] line = refl
same_bytes (b ∷ bs) line =
    let is : code_byte b ≡ b = cond-false (is_tab_column b) 32 b (ne_eqb b 256 (λ e. omega (arith, e, line.1))) in
    ap (λ x. x ∷ map code_byte bs) is ∙ ap (λ x. b ∷ x) (same_bytes bs line.2)

same_ending : (ending : Option LineEnding) → map code_byte (ending_code ending) ≡ ending_code ending
same_ending None = refl
same_ending (Some LineFeed) = refl
same_ending (Some CarriageReturn) = refl
same_ending (Some CarriageReturnLineFeed) = refl

same_codes : (line : BlockLine) → AreInLine line.codes → map code_byte (line_codes line) ≡ line_codes line
same_codes line h =
    map-append code_byte line.codes (ending_code line.ending)
    ∙ ap (λ x. x ++ map code_byte (ending_code line.ending)) (same_bytes line.codes h)
    ∙ ap (λ x. line.codes ++ x) (same_ending line.ending)

pub content_codes : (is_punctuation : ℕ → Bool) (after : Kind) (ls : List BlockLine) → AreText ls
    → codes_of (inline_content is_punctuation after ls) ≡ content_of ls
content_codes is_punctuation after [] h = refl
content_codes is_punctuation after (line ∷ others) h =
    map-append (λ (c : InlineCode). c.code) (line_content is_punctuation after line) (inline_content is_punctuation after others)
    ∙ ap (λ x. x ++ codes_of (inline_content is_punctuation after others))
    (kinds_codes is_punctuation None line.before after (map code_byte (line_codes line)) ∙ same_codes line (first_line line others h))
    ∙ ap (λ x. line_codes line ++ x) (content_codes is_punctuation after others (other_lines line others h))

-- ---- the text

-- what a paragraph prints that is no first block of an item, and in no tight one
pub paragraph_bytes : (d : Document) (ls : List BlockLine)
    → leaf_bytes d on_page false (Paragraph ls) ≡ Fresh ∷ Bytes (codes "<p>") ∷ text_of d ls ++ Bytes (codes "</p>") ∷ []
paragraph_bytes d ls =
    ap (λ ps. Fresh ∷ ps) (element_bytes (bare_tag (codes "p")) (inline_pieces (document_meaning d) (read_text (reading_of d) ls)))

-- what a document's texts are read by, were these constructs on
abbrev read_by : Document → Constructs → InlineContext
read_by d on =
    record {
      options = record d.options.parse { constructs = on };
      names = d.tables.names;
      is_defined = is_label_of d.targets.definitions;
      is_footnote = is_footnote_of d.targets.footnotes;
    }

-- the inline structure of lines, where every construct is off
abbrev plain_structure : Document → List BlockLine → Inlines
plain_structure d ls = inlines (read_by d no_constructs) (inline_content d.tables.is_punctuation Whitespace ls)

-- what it prints, and that it calls no footnote
plain_html : (d : Document) (ls : List BlockLine) → AreText ls → inline_html (document_meaning d) (plain_structure d ls) ≡ plain_text ls
plain_html d ls h =
    html_of_codes (document_meaning d) d.options.parse d.tables.names (is_label_of d.targets.definitions) (is_footnote_of d.targets.footnotes)
    (inline_content d.tables.is_punctuation Whitespace ls)
    ∙ ap (λ x. printed d.options.compile (bare x)) (content_codes d.tables.is_punctuation Whitespace ls h)
    ∙ lines_printed d.options.compile ls h

plain_calls : (d : Document) (ls : List BlockLine) → has_calls (plain_structure d ls) ≡ false
plain_calls d ls =
    let content = inline_content d.tables.is_punctuation Whitespace ls in
    ap has_calls (structure_of_codes d.options.parse d.tables.names (is_label_of d.targets.definitions) (is_footnote_of d.targets.footnotes) content)
    ∙ leaves_call_nothing (parts 0 (bare (codes_of content)))

-- where every construct is off, lines print what they hold, trimmed and encoded, with their endings
pub text_is_plain : (d : Document) (options : CompileOptions) (default : List ℕ) → d.options.parse.constructs ≡ no_constructs → (ls : List BlockLine)
    → AreText ls
    → AddsBytes options default (text_of d ls) (plain_text ls)
text_is_plain d options default off ls h l =
    ap (λ on. fold (lay options default) l
    (in_bytes (inline_pieces (document_meaning d) (inlines (read_by d on) (inline_content d.tables.is_punctuation Whitespace ls))))) off
    ∙ without_calls options default (document_meaning d) (plain_structure d ls) (plain_calls d ls) l
    ∙ ap (add l) (plain_html d ls h)
