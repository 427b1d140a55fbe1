-- What strings and raw HTML say, with another line ending in place of each LF.
use Rattle.std.proofs.Common.{◌≡◌, ℕ, zero, suc, ◌-◌, Bool, true, false, cond, eqb, ◌&&◌, List, [], ◌∷◌, ◌++◌, Option, None, Some, refl, sym, ap, ◌∙◌, map}
use Rattle.std.proofs.Common.{flat_map, not, codes, true≢false}
use Rattle.markdown_compile_options.specs.RawHtml.{keeps_listed_html}
use Rattle.laws_endings.proofs.Prelude.{AsItIs, bare, bytes_of, Character, code_with, codes_with, CompileOptions, cond_both, Constructs, Data, encode}
use Rattle.laws_endings.proofs.Prelude.{EndOfLine, Escape, escape_at, filter_if, flat_map-append, Found, indent, InlineLeaf, is_byte, is_eol, is_white, leaf}
use Rattle.laws_endings.proofs.Prelude.{leaf_with, line_end_at, LineEnd, LineEnding, map-append, nat_le, or_else, or_parts, plain, PrintedPart, raw_html}
use Rattle.laws_endings.proofs.Prelude.{reference_at, said_bytes, string_text, with_ending, Words}
use Rattle.definition_inline.specs.Strings.{begins_with_eol, spaces_at, string_leaf_at, or_byte, string_parts, string_bytes}
use Rattle.definition_page.specs.InlinePieces.{HtmlLine, html_text_line, in_first_line, html_lines, html_line_says, later_line_says, html_lines_say}
use Rattle.definition_page.specs.InlinePieces.{html_says}
use Rattle.definition_page.specs.Tags.{Marked}
use Rattle.laws_endings.proofs.Codes.{cond-under, same_code, prefix_len-with}
use Rattle.laws_endings.proofs.Leaves.{found_with, if_found, or_else-with, same_byte, escape_at-with, line_end_at-with, bare-with, reference_at-with}
use Rattle.laws_endings.proofs.Contents.{or_none, end_none}
use Rattle.laws_endings.proofs.Each.{Each, each-append, each-drop, each_filter}
use Rattle.laws_endings.proofs.Fits.{Single, Plain}
use Rattle.laws_endings.proofs.Parts.{IsFitLeaf}
use Rattle.laws_endings.proofs.InlineReads.{FoundFits, BeginsFit, begin_or, escape_fits, reference_fits, line_end_fits}
use Rattle.laws_endings.proofs.Bytes.{IsNoFeed, filtered_no_feed, with-append, kept, plain-with, encode-with, eol-with}

pub plain_no_feed : (c : ℕ) → Plain c → IsNoFeed c
plain_no_feed c p = (or_parts (eqb c 10) (eqb c 13) (or_parts _ (eqb c 257) p.1).0).0

pub plains_no_feed : (cs : List ℕ) → Each Plain cs → Each IsNoFeed cs
plains_no_feed [] p = tt
plains_no_feed (c ∷ cs) p = (plain_no_feed c p.0, plains_no_feed cs p.1)

ending_no_feed : (c : ℕ) → is_eol c ≡ false → IsNoFeed c
ending_no_feed c h = (or_parts (eqb c 10) (eqb c 13) (or_parts _ (eqb c 257) h).0).0

module _ (e : LineEnding) where
  pub codes-kept : (cs : List ℕ) → Each IsNoFeed cs → codes_with e cs ≡ cs
  codes-kept [] p = refl
  codes-kept (c ∷ cs) p = ap (λ code. code ∷ codes_with e cs) (same_byte e c p.0) ∙ ap (λ more. c ∷ more) (codes-kept cs p.1)

  -- ---- strings

  begins_with_eol-with : (cs : List ℕ) → begins_with_eol (codes_with e cs) ≡ begins_with_eol cs
  begins_with_eol-with [] = refl
  begins_with_eol-with (c ∷ cs) = same_code e is_eol c refl refl

  spaces_at-with : (cs : List ℕ) → spaces_at (codes_with e cs) ≡ if_found e (spaces_at cs)
  spaces_at-with cs =
      let found : ℕ → Bool → Option Found = λ n ends. cond (nat_le 1 n && ends) (Some (leaf [] n)) None in
      ap (λ n. found n (begins_with_eol (bare (codes_with e cs)))) (prefix_len-with e is_white refl refl cs)
      ∙ ap (λ rest. found (indent cs) (begins_with_eol rest)) (bare-with e cs)
      ∙ ap (found (indent cs)) (begins_with_eol-with (bare cs))
      ∙ cond-under (if_found e) (nat_le 1 (indent cs) && begins_with_eol (bare cs)) refl refl

  or_both : (one other one' other' : Option Found) → one' ≡ if_found e one → other' ≡ if_found e other → or_else one' other' ≡ if_found e (or_else one other)
  or_both one other one' other' p q = ap (λ o. or_else o other') p ∙ ap (or_else (if_found e one)) q ∙ or_else-with e one other

  module _ (on : Constructs) (names : List ℕ → Option (List ℕ)) where
    string_leaf-with : (cs : List ℕ) → string_leaf_at on names (codes_with e cs) ≡ if_found e (string_leaf_at on names cs)
    string_leaf-with cs =
        or_both (escape_at on cs) _ _ _ (escape_at-with e on cs)
        (or_both (reference_at on names cs) _ _ _ (reference_at-with e names on cs)
        (or_both (line_end_at cs) (spaces_at cs) _ _ (line_end_at-with e cs) (spaces_at-with cs)))

    string_none : (c : ℕ) (cs : List ℕ) → string_leaf_at on names (c ∷ cs) ≡ None → is_eol c ≡ false
    string_none c cs h =
        let all = c ∷ cs in
        let ends = or_else (line_end_at all) (spaces_at all) in
        let h1 = (or_none (escape_at on all) (or_else (reference_at on names all) ends) h).1 in
        let h2 = (or_none (reference_at on names all) ends h1).1 in
        end_none (is_eol c) _ (or_none (line_end_at all) (spaces_at all) h2).0

    or_byte-with : (c : ℕ) (cs : List ℕ) (found : Option Found) → string_leaf_at on names (c ∷ cs) ≡ found
        → or_byte (code_with e c) (if_found e found) ≡ found_with e (or_byte c found)
    or_byte-with c cs None h = ap (λ code. leaf (Data code ∷ []) 1) (same_byte e c (ending_no_feed c (string_none c cs h)))
    or_byte-with c cs (Some found) h = refl

    parts-with : (k : ℕ) (cs : List ℕ) → string_parts on names k (codes_with e cs) ≡ map (leaf_with e) (string_parts on names k cs)
    parts-with k [] = refl
    parts-with zero (c ∷ cs) =
        let found = or_byte c (string_leaf_at on names (c ∷ cs)) in
        let with : Found → List InlineLeaf = λ l. l.parts ++ string_parts on names (l.size - 1) (codes_with e cs) in
        ap (λ o. with (or_byte (code_with e c) o)) (string_leaf-with (c ∷ cs))
        ∙ ap with (or_byte-with c cs (string_leaf_at on names (c ∷ cs)) refl)
        ∙ ap (λ more. map (leaf_with e) found.parts ++ more) (parts-with (found.size - 1) cs)
        ∙ sym (map-append (leaf_with e) found.parts (string_parts on names (found.size - 1) cs))
    parts-with (suc k) (c ∷ cs) = parts-with k cs

    string_leaf_fits : (cs : List ℕ) → Each Single cs → BeginsFit (string_leaf_at on names cs)
    string_leaf_fits cs p =
        begin_or (escape_at on cs) _ (escape_fits on cs p)
        (begin_or (reference_at on names cs) _ (reference_fits on names cs p)
        (begin_or (line_end_at cs) (spaces_at cs) (line_end_fits cs p)
        (cond_both (nat_le 1 (indent cs) && begins_with_eol (bare cs)) (Some (leaf [] (indent cs))) None BeginsFit (λ _. tt) (λ _. tt))))

    or_byte_fits : (c : ℕ) (found : Option Found) → (found ≡ None → Plain c) → BeginsFit found → FoundFits (or_byte c found)
    or_byte_fits c None h p = (h refl, tt)
    or_byte_fits c (Some found) h p = p

    parts_fit : (k : ℕ) (cs : List ℕ) → Each Single cs → Each IsFitLeaf (string_parts on names k cs)
    parts_fit k [] p = tt
    parts_fit zero (c ∷ cs) p =
        let found = string_leaf_at on names (c ∷ cs) in
        let first = or_byte c found in
        each-append IsFitLeaf first.parts (string_parts on names (first.size - 1) cs)
        (or_byte_fits c found (λ none. (p.0, string_none c cs none)) (string_leaf_fits (c ∷ cs) p))
        (parts_fit (first.size - 1) cs p.1)
    parts_fit (suc k) (c ∷ cs) p = parts_fit k cs p.1

    bytes-with : (part : InlineLeaf) → IsFitLeaf part → string_bytes (leaf_with e part) ≡ with_ending e (string_bytes part)
    bytes-with (Data b) p = sym (kept e (b ∷ []) (plain_no_feed b p, tt))
    bytes-with (Escape b) p = sym (kept e (b ∷ []) (plain_no_feed b p, tt))
    bytes-with (Character bytes) p = absurd (true≢false p)
    bytes-with (LineEnd code) p = eol-with e code p.1
    bytes-with other p = refl

    all_bytes-with : (parts : List InlineLeaf) → Each IsFitLeaf parts
        → flat_map string_bytes (map (leaf_with e) parts) ≡ with_ending e (flat_map string_bytes parts)
    all_bytes-with [] p = refl
    all_bytes-with (part ∷ parts) p =
        ap (λ first. first ++ flat_map string_bytes (map (leaf_with e) parts)) (bytes-with part p.0)
        ∙ ap (λ more. with_ending e (string_bytes part) ++ more) (all_bytes-with parts p.1)
        ∙ sym (with-append e (string_bytes part) (flat_map string_bytes parts))

    -- the text of a string has its line endings
    pub string_text-with : (cs : List ℕ) → Each Single cs → string_text on names (codes_with e cs) ≡ with_ending e (string_text on names cs)
    string_text-with cs p = ap (flat_map string_bytes) (parts-with 0 cs) ∙ all_bytes-with (string_parts on names 0 cs) (parts_fit 0 cs p)

  -- ---- what is said

  abbrev pub SaidWith : PrintedPart → PrintedPart → Type 0
  SaidWith other one = said_bytes other ≡ with_ending e (said_bytes one)

  abbrev pub SaidsWith : List PrintedPart → List PrintedPart → Type 0
  SaidsWith others ones = flat_map said_bytes others ≡ with_ending e (flat_map said_bytes ones)

  -- bytes one after another
  pub then-with : (xs' xs ys' ys : List ℕ) → xs' ≡ with_ending e xs → ys' ≡ with_ending e ys → xs' ++ ys' ≡ with_ending e (xs ++ ys)
  then-with xs' xs ys' ys p q = ap (λ first. first ++ ys') p ∙ ap (λ more. with_ending e xs ++ more) q ∙ sym (with-append e xs ys)

  pub says_more : (s' s : PrintedPart) (ss' ss : List PrintedPart) → SaidWith s' s → SaidsWith ss' ss → SaidsWith (s' ∷ ss') (s ∷ ss)
  says_more s' s ss' ss p q = then-with (said_bytes s') (said_bytes s) (flat_map said_bytes ss') (flat_map said_bytes ss) p q

  pub says_one : (s' s : PrintedPart) → SaidWith s' s → SaidsWith (s' ∷ []) (s ∷ [])
  says_one s' s p = says_more s' s [] [] p refl

  pub says_append : (xs' xs ys' ys : List PrintedPart) → SaidsWith xs' xs → SaidsWith ys' ys → SaidsWith (xs' ++ ys') (xs ++ ys)
  says_append xs' xs ys' ys p q =
      flat_map-append said_bytes xs' ys'
      ∙ then-with (flat_map said_bytes xs') (flat_map said_bytes xs) (flat_map said_bytes ys') (flat_map said_bytes ys) p q
      ∙ sym (ap (with_ending e) (flat_map-append said_bytes xs ys))

  pub words-kept : (text : List ℕ) → Each IsNoFeed text → SaidWith (Words text) (Words text)
  words-kept text p = ap encode (sym (kept e text p)) ∙ encode-with e text

  pub words-codes : (cs : List ℕ) → Each IsNoFeed cs → SaidWith (Words (codes_with e cs)) (Words cs)
  words-codes cs p = ap encode (codes-kept cs p) ∙ words-kept cs p

  -- ---- raw HTML

  -- the tags around HTML that is kept by the list hold no LF
  marked-kept : (html : List ℕ) → Each IsNoFeed html → SaidWith (Marked html) (Marked html)
  marked-kept [] p = refl
  marked-kept (b ∷ bs) p =
      let text = encode (b ∷ bs) in
      then-with (codes "<>") (codes "<>") (text ++ codes "</>") (text ++ codes "</>") refl
      (then-with text text (codes "</>") (codes "</>") (words-kept (b ∷ bs) p) refl)

  module _ (described : Bool) (options : CompileOptions) where
    pub raw-kept : (html : List ℕ) → Each IsNoFeed html → SaidWith (raw_html described options html) (raw_html described options html)
    raw-kept html p =
        let text = filter_if options html in
        let unmarked = cond options.allow_dangerous_html (AsItIs text) (Words html) in
        cond_both (keeps_listed_html options && not described) (Marked html) unmarked (λ s. SaidWith s s) (λ _. marked-kept html p)
        (λ _.
        cond_both options.allow_dangerous_html (AsItIs text) (Words html) (λ s. SaidWith s s)
        (λ _. ap plain (sym (kept e text (filtered_no_feed options html p))) ∙ plain-with e text) (λ _. words-kept html p))

    abbrev HtmlLineFits : HtmlLine → Type 0
    HtmlLineFits l = Each IsNoFeed l.line × Each Single l.ending

    first_fits : (c : ℕ) (ls : List HtmlLine) → IsNoFeed c → Each HtmlLineFits ls → Each HtmlLineFits (in_first_line c ls)
    first_fits c [] h p = (((h, tt), tt), tt)
    first_fits c (first ∷ others) h p = (((h, p.0.0), p.0.1), p.1)

    html_lines_fit : (html : List ℕ) → Each Single html → Each HtmlLineFits (html_lines html)
    html_lines_fit [] p = tt
    html_lines_fit (c ∷ cs) p =
        let more = html_lines_fit cs p.1 in
        cond_both (is_eol c) (html_text_line [] (c ∷ []) ∷ html_lines cs) (in_first_line c (html_lines cs)) (Each HtmlLineFits)
        (λ _. ((tt, (p.0, tt)), more)) (λ h. first_fits c (html_lines cs) (ending_no_feed c h) more)

    abbrev html_line_with : HtmlLine → HtmlLine
    html_line_with l = html_text_line l.line (codes_with e l.ending)

    first-with : (c : ℕ) (ls : List HtmlLine) → in_first_line c (map html_line_with ls) ≡ map html_line_with (in_first_line c ls)
    first-with c [] = refl
    first-with c (first ∷ others) = refl

    html_lines_by : (c : ℕ) (ls : List HtmlLine) (ends : Bool) → is_eol c ≡ ends
        → cond ends (html_text_line [] (code_with e c ∷ []) ∷ map html_line_with ls) (in_first_line (code_with e c) (map html_line_with ls))
        ≡ map html_line_with (cond ends (html_text_line [] (c ∷ []) ∷ ls) (in_first_line c ls))
    html_lines_by c ls true h = refl
    html_lines_by c ls false h = ap (λ code. in_first_line code (map html_line_with ls)) (same_byte e c (ending_no_feed c h)) ∙ first-with c ls

    html_lines-with : (html : List ℕ) → html_lines (codes_with e html) ≡ map html_line_with (html_lines html)
    html_lines-with [] = refl
    html_lines-with (c ∷ cs) =
        let made : Bool → List HtmlLine → List HtmlLine =
        λ ends ls. cond ends (html_text_line [] (code_with e c ∷ []) ∷ ls) (in_first_line (code_with e c) ls) in
        ap (λ ends. made ends (html_lines (codes_with e cs))) (same_code e is_eol c refl refl)
        ∙ ap (made (is_eol c)) (html_lines-with cs)
        ∙ html_lines_by c (html_lines cs) (is_eol c) refl

    endings-with : (ending : List ℕ) → Each Single ending → SaidsWith (map EndOfLine (codes_with e ending)) (map EndOfLine ending)
    endings-with [] p = refl
    endings-with (c ∷ cs) p =
        says_more (EndOfLine (code_with e c)) (EndOfLine c) (map EndOfLine (codes_with e cs)) (map EndOfLine cs) (eol-with e c p.0.1) (endings-with cs p.1)

    line_says-with : (line ending : List ℕ) → Each IsNoFeed line → Each Single ending
        → SaidsWith (html_line_says described options line (codes_with e ending)) (html_line_says described options line ending)
    line_says-with line ending p q =
        let html = raw_html described options (bytes_of line) in
        says_more html html (map EndOfLine (codes_with e ending)) (map EndOfLine ending) (raw-kept (bytes_of line) (each_filter IsNoFeed is_byte line p))
        (endings-with ending q)

    later_says-with : (ls : List HtmlLine) → Each HtmlLineFits ls
        → SaidsWith (flat_map (later_line_says described options) (map html_line_with ls)) (flat_map (later_line_says described options) ls)
    later_says-with [] p = refl
    later_says-with (l ∷ ls) p =
        says_append (later_line_says described options (html_line_with l)) (later_line_says described options l) (flat_map (later_line_says described options) (map html_line_with ls))
        (flat_map (later_line_says described options) ls) (line_says-with (bare l.line) l.ending (each-drop IsNoFeed (indent l.line) l.line p.0.0) p.0.1)
        (later_says-with ls p.1)

    lines_say-with : (ls : List HtmlLine) → Each HtmlLineFits ls → SaidsWith (html_lines_say described options (map html_line_with ls)) (html_lines_say described options ls)
    lines_say-with [] p = refl
    lines_say-with (first ∷ others) p =
        says_append (html_line_says described options first.line (codes_with e first.ending)) (html_line_says described options first.line first.ending)
        (flat_map (later_line_says described options) (map html_line_with others)) (flat_map (later_line_says described options) others)
        (line_says-with first.line first.ending p.0.0 p.0.1) (later_says-with others p.1)

    pub html_says-with : (html : List ℕ) → Each Single html → SaidsWith (html_says described options (codes_with e html)) (html_says described options html)
    html_says-with html p =
        ap (λ ls. flat_map said_bytes (html_lines_say described options ls)) (html_lines-with html) ∙ lines_say-with (html_lines html) (html_lines_fit html p)
