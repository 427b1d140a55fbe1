-- What stands at the end of a line: its ending alone.
use Rattle.std.proofs.Common.{inl, inr, ◌≡◌, ℕ, zero, suc, ◌+◌, ◌<◌, Bool, true, false, cond, not, ◌&&◌, List, [], ◌∷◌, map, Option, None, Some, take}
use Rattle.std.proofs.Common.{drop, replicate, refl, sym, ap, ◌∙◌, subst, arith}
use Rattle.parse_written.proofs.Prelude.{and_parts, AreCodes, AreSpaces, autolink_after, autolink_at, bare, both_ways, cases_Bool, code_text_at, codes}
use Rattle.parse_written.proofs.Prelude.{codes_of, common_steps, cond-false, cond-true, cond_both, Constructs, drop-codes_of, Emphasis, ends_here, eqb-true}
use Rattle.parse_written.proofs.Prelude.{Escape, escape_at, escaped_break_at, EscapedBreak, Found, here_fits, html_byte, html_end, html_leaf, html_text_at}
use Rattle.parse_written.proofs.Prelude.{indent, InlineCode, InlineContext, InlineLeaf, is_ascii_punctuation, is_eol, is_marker, is_trailing_break, is_white}
use Rattle.parse_written.proofs.Prelude.{IsFound, IsSequence, leaf, leaf_at, leaf_here, line_spaces_at, LineEnd, literal_at, math_text_at, may_open_math}
use Rattle.parse_written.proofs.Prelude.{Names, nat_le, of_marker, or_else, ParseOptions, raw_at, raw_leaf, reference_after, reference_at, reference_of, run}
use Rattle.parse_written.proofs.Prelude.{run_of, SpanKind, StartsSpan, Strong, TrailingBreak, up_to, WhereSome, ◌==◌}
use Rattle.std.specs.Str.{bytes_eq}
use Rattle.definition_inline.specs.HardBreak.{ends_inner_line}
use Rattle.parse_written.specs.Written.{IsText}

-- ---- spaces stand before the end of a line

spaces_before : (on : Constructs) (content : List ℕ) → WhereSome (λ (found : Found). ends_here (drop found.size content) ≡ true) (line_spaces_at on content)
spaces_before on content =
    cond_both (nat_le 1 (indent content) && ends_here (bare content))
    (Some (leaf (cond (on.hard_break_trailing && is_trailing_break content) (TrailingBreak ∷ []) []) (indent content))) None
    (WhereSome (λ (found : Found). ends_here (drop found.size content) ≡ true))
    (λ e. (and_parts (nat_le 1 (indent content)) (ends_here (bare content)) e).1) (λ _. tt)

pub spaces_end : (on : Constructs) (a b : List InlineCode) → AreSpaces on a b → ends_here (codes_of b) ≡ true
spaces_end on a b spaces =
    let Ends : Option Found → Type 0 = WhereSome (λ (found : Found). ends_here (drop found.size (codes_of a)) ≡ true) in
    let ends : ends_here (drop spaces.size (codes_of a)) ≡ true = subst Ends spaces.here (spaces_before on (codes_of a)) in
    ap (λ xs. ends_here (codes_of xs)) spaces.after ∙ subst (λ xs. ends_here xs ≡ true) (sym (drop-codes_of spaces.size a)) ends

-- a code that ends a line is no other
other_than : (m k : ℕ) → is_eol m ≡ true → is_eol k ≡ false → (m == k) ≡ false
other_than m k ends inline = elim (cases_Bool (m == k)) [
  | inl same ↦ absurd (both_ways (is_eol k) inline (subst (λ b. is_eol b ≡ true) (eqb-true m k same) ends))
  | inr other ↦ other
]

other_from : (m k : ℕ) → is_eol m ≡ true → is_eol k ≡ false → (k == m) ≡ false
other_from m k ends inline = elim (cases_Bool (k == m)) [
  | inl same ↦ absurd (both_ways (is_eol k) inline (subst (λ b. is_eol b ≡ true) (sym (eqb-true k m same)) ends))
  | inr other ↦ other
]

no_white : (c : ℕ) → is_eol c ≡ true → is_white c ≡ false
no_white c ends = grind (arith, common_steps)

-- no spaces stand at the end of a line
no_spaces : (on : Constructs) (content : List ℕ) → ends_here content ≡ true → line_spaces_at on content ≡ None
no_spaces on [] ends = refl
no_spaces on (c ∷ cs) ends =
    let content = c ∷ cs in
    let none : indent content ≡ 0 = cond-false (is_white c) (1 + indent cs) 0 (no_white c ends) in
    let test : (nat_le 1 (indent content) && ends_here (bare content)) ≡ false = ap (λ n. nat_le 1 n && ends_here (bare content)) none in
    cond-false (nat_le 1 (indent content) && ends_here (bare content))
    (Some (leaf (cond (on.hard_break_trailing && is_trailing_break content) (TrailingBreak ∷ []) []) (indent content))) None test

pub spaces_first : (on : Constructs) (a b : List InlineCode) → AreSpaces on a b → ends_here (codes_of a) ≡ false
spaces_first on a b spaces = elim (cases_Bool (ends_here (codes_of a))) [
  | inl ends ↦ absurd (let no : Some (leaf [] spaces.size) ≡ None = sym spaces.here ∙ no_spaces on (codes_of a) ends in cc)
  | inr goes_on ↦ goes_on
]

-- ---- a line ending is the leaf that is found there

off : (on : Bool) (found : Option Found) → cond (on && false) found None ≡ None
off true found = refl
off false found = refl

no_escape : (on : Constructs) (m : ℕ) (cs : List ℕ) → (m == 92) ≡ false → escape_at on (m ∷ cs) ≡ None
no_escape on m [] other = refl
no_escape on m (next ∷ cs) other =
    ap (λ b. cond (on.character_escape && (b && is_ascii_punctuation next)) (Some (leaf (Escape next ∷ []) 2)) None) other
    ∙ off on.character_escape (Some (leaf (Escape next ∷ []) 2))

no_break : (on : Constructs) (m : ℕ) (cs : List ℕ) → (m == 92) ≡ false → escaped_break_at on (m ∷ cs) ≡ None
no_break on m cs other =
    ap (λ b. cond (on.hard_break_escape && (b && ends_inner_line cs)) (Some (leaf (EscapedBreak ∷ []) 1)) None) other
    ∙ off on.hard_break_escape (Some (leaf (EscapedBreak ∷ []) 1))

no_reference : (on : Constructs) (names : Names) (m : ℕ) (cs : List ℕ) → (m == 38) ≡ false → reference_at on names (m ∷ cs) ≡ None
no_reference on names m cs other =
    ap (λ b. cond on.character_reference (reference_of names (m ∷ cs) (cond b (reference_after cs) None)) None) other ∙ neither on.character_reference
  where
    nothing : Option Found
    nothing = None

    neither : (test : Bool) → cond test nothing nothing ≡ nothing
    neither true = refl
    neither false = refl

no_raw : (marker : ℕ) (may_open : Bool) (m : ℕ) (cs : List ℕ) → (m == marker) ≡ false → raw_at marker may_open (m ∷ cs) ≡ None
no_raw marker may_open m cs other =
    let content = m ∷ cs in
    let found : ℕ → Option Found = λ n. Some (raw_leaf marker n content (up_to (drop n content) (run_of marker n false (drop n content)))) in
    let none : run marker content ≡ 0 = cond-false (m == marker) (1 + run marker cs) 0 other in
    ap (λ n. cond (may_open && not (n == 0)) (found n) None) none ∙ off may_open (found 0)

no_autolink : (on : Constructs) (m : ℕ) (cs : List ℕ) → (60 == m) ≡ false → autolink_at on (m ∷ cs) ≡ None
no_autolink on m cs other =
    ap (λ b. cond (on.autolink && (b && bytes_eq [] (take 0 cs))) (autolink_after cs) None) other ∙ off on.autolink (autolink_after cs)

no_html : (on : Constructs) (m : ℕ) (cs : List ℕ) → (60 == m) ≡ false → html_text_at on (m ∷ cs) ≡ None
no_html on m cs other =
    let found = html_leaf (m ∷ cs) (html_end (map html_byte (m ∷ cs))) in
    ap (λ b. cond (on.html_text && (b && bytes_eq [] (take 0 cs))) found None) other ∙ off on.html_text found

passed : (a b : Option Found) → a ≡ None → or_else a b ≡ b
passed a b none = ap (λ o. or_else o b) none

ending_leaf : (context : InlineContext) (m : ℕ) (cs : List ℕ) → is_eol m ≡ true → leaf_at context (m ∷ cs) ≡ Some (leaf (LineEnd m ∷ []) (1 + indent cs))
ending_leaf context m cs ends =
    let on = context.options.constructs in
    let content = m ∷ cs in
    let backslash = other_than m 92 ends refl in
    let angle = other_from m 60 ends refl in
    passed (escape_at on content) _ (no_escape on m cs backslash)
    ∙ passed (escaped_break_at on content) _ (no_break on m cs backslash)
    ∙ passed (reference_at on context.names content) _ (no_reference on context.names m cs (other_than m 38 ends refl))
    ∙ passed (code_text_at on content) _ (no_raw 96 on.code_text m cs (other_than m 96 ends refl))
    ∙ passed (math_text_at context.options content) _ (no_raw 36 (may_open_math context.options (run 36 content)) m cs (other_than m 36 ends refl))
    ∙ passed (autolink_at on content) _ (no_autolink on m cs angle)
    ∙ passed (html_text_at on content) _ (no_html on m cs angle)
    ∙ ap (λ o. or_else o (line_spaces_at on content)) (cond-true (is_eol m) (Some (leaf (LineEnd m ∷ []) (1 + indent cs))) None ends)

abbrev parts_or_none : Option Found → List InlineLeaf
parts_or_none None = []
parts_or_none (Some found) = found.parts

pub line_end_found : (context : InlineContext) (part : InlineLeaf) (from to : List InlineCode) → IsFound context part from to → ends_here (codes_of from) ≡ true
    → (code : ℕ) × (part ≡ LineEnd code)
line_end_found context part [] to is ends =
    let fits = here_fits context [] (leaf (part ∷ []) is.size) is.here in
    let some = fits.some in
    let within = fits.within in
    absurd (omega arith)
line_end_found context part (c ∷ cs) to is ends =
    let literal = literal_at context.options.constructs (c ∷ cs) in
    let end : leaf_here context (c ∷ cs) ≡ Some (leaf (LineEnd c.code ∷ []) (1 + indent (codes_of cs))) =
    ap (λ o. or_else o literal) (ending_leaf context c.code (codes_of cs) ends) in
    let both : part ∷ [] ≡ LineEnd c.code ∷ [] = ap parts_or_none (sym is.here ∙ end) in
    (c.code, let one : part ≡ LineEnd c.code = cc in one)

-- ---- what begins with another code

pub codes_first : (x : ℕ) (xs : List ℕ) (from to : List InlineCode) → AreCodes (x ∷ xs) from to → is_eol x ≡ false → ends_here (codes_of from) ≡ false
codes_first x xs [] to codes inline = absurd codes
codes_first x xs (c ∷ cs) to codes inline = subst (λ b. is_eol b ≡ false) (sym codes.0) inline

pub text_first : (text : List ℕ) (from to : List InlineCode) → IsText text from to → ends_here (codes_of from) ≡ false
text_first [] from to is = let some = is.some in absurd (omega arith)
text_first (x ∷ xs) from to is = codes_first x xs from to is.codes is.inline.0

-- a sequence has a byte at least
sequence_some : (options : ParseOptions) (kind : SpanKind) (marker size : ℕ) → IsSequence options kind marker size → 0 < size
sequence_some options Emphasis marker size is = let one : size ≡ 1 = is.1 in omega arith
sequence_some options Strong marker size is = let two : size ≡ 2 = is.1 in omega arith
sequence_some options other marker size is = let whole = is.0 in let sized = is.1 in grind (arith, common_steps)

marks_first : (options : ParseOptions) (marker size : ℕ) (from to : List InlineCode) → 0 < size → is_marker options marker ≡ true
    → AreCodes (replicate size marker) from to → ends_here (codes_of from) ≡ false
marks_first options marker zero from to some marks codes = absurd (omega arith)
marks_first options marker (suc n) from to some marks codes =
    codes_first marker (replicate n marker) from to codes
    (of_marker options (λ code. is_eol code ≡ false) (λ _. refl) (λ _. refl) (λ _. refl) (λ _. refl) marker marks)

pub start_first : (options : ParseOptions) (kind : SpanKind) (marker size : ℕ) (from to : List InlineCode) → StartsSpan options kind marker size from to
    → ends_here (codes_of from) ≡ false
start_first options kind marker size from to start =
    marks_first options marker size from to (sequence_some options kind marker size start.sized) start.marks start.codes

-- that at its end
pub end_first : (options : ParseOptions) (kind : SpanKind) (marker size : ℕ) (from inside end to : List InlineCode)
    → StartsSpan options kind marker size from inside → AreCodes (replicate size marker) end to → ends_here (codes_of end) ≡ false
end_first options kind marker size from inside end to start codes =
    marks_first options marker size end to (sequence_some options kind marker size start.sized) start.marks codes
