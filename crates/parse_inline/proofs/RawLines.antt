-- What is written of a part of a line of raw text, or of a line ending in it (CommonMark 6.1 and 6.6).
use Rattle.std.proofs.Common.{inl, inr, ◌≡◌, ℕ, zero, suc, ◌+◌, ◌≤◌, ◌<◌, Bool, true, false, not, cond, ◌||◌, List, [], ◌∷◌, ◌++◌, refl, sym, ap, ap₂}
use Rattle.std.proofs.Common.{None, subst, ◌∙◌, append_assoc, take, drop, length, map, arith}
use Rattle.std.specs.List.{flat_map}
use Rattle.std.specs.Str.{IsCharBoundary, IsUtf8}
use Rattle.event_tokens.specs.Tokens.{is_token}
use Rattle.parse_output.specs.Joined.{text_between}
use Rattle.parse_lines.specs.Content.{HasBytes}
use Rattle.parse_lines.proofs.Bytes.{ending_may}
use Rattle.parse_inline.proofs.Prelude.{after_bytes, after_return_code, append, append-nil, AreBytes, AreCutBetween, AreNamed, AreNext, AreQuiet, Around, bare}
use Rattle.parse_inline.proofs.Prelude.{begins_with_eol, BeginsDark, cases_Bool, code_part, code_parts, code_space, cond-false, cond-true, cond_both, Cons}
use Rattle.parse_inline.proofs.Prelude.{content_codes, contents_both, default_constructs, Each, End, end_after, end_at, end_in, Ending, ending_bytes}
use Rattle.parse_inline.proofs.Prelude.{ending_step, ends_line, enter_at, eqb-true, exit_at, Html, html_leaves, html_part, html_parts, indent, is_eol}
use Rattle.parse_inline.proofs.Prelude.{is_listed, is_white, IsApart, IsChunk, IsCodeChunk, IsInLine, leaves, length-append, length-take-le}
use Rattle.parse_inline.proofs.Prelude.{line_ending_code, line_in_content, line_names, LineEnd, LineEnding, list_any, map-append, Name, Names, nat_tests, Nil}
use Rattle.parse_inline.proofs.Prelude.{Node, node_name, Nodes, one, or_from, or_parts, plain_both, plain_none, plain_one, plain_void, position_or_len}
use Rattle.parse_inline.proofs.Prelude.{prefix_len-le-length, ReadsEnding, same_end, same_name, sought_names, spaced_text_of, standing, StandsInContent, Stop}
use Rattle.parse_inline.proofs.Prelude.{take-append-drop, take-append_seam, text_of, the_type, token_text, true≢false, void_nodes, Walk, whole_end}
use Rattle.parse_inline.proofs.Prelude.{WritesEndingIn, WritesInContent, WritesLine, ◌==◌}
use Rattle.std.proofs.Math.Seq.{drop-append-add, take-append-add}
use Rattle.std.proofs.lemmas.Bool.{cases_lt, not-false}
use Rattle.std.proofs.lemmas.List.Sums.{prefix_len_stops}
use Rattle.std.proofs.lemmas.Str.{IsCharBoundary-before_ascii, IsCharBoundary-end, IsUtf8-take}
use denote.Enum.Bare.{true_same}
use Rattle.markdown_options.specs.declared.line_ending.LineEnding.TheVariants as endings
use Rattle.engine_events.specs.declared.event.Name.TheVariants as n
use Rattle.definition_text.specs.Lines.{in_first_line, lines, text_line}
use Rattle.definition_text.proofs.ContentBytes.{codes_in_line}
use Rattle.definition_inline.specs.Inline as inline
use Rattle.event_meaning.specs.Texts.{html_data, html_line}
use Rattle.event_meaning.specs.Texts as texts
use Rattle.inline_leaves.proofs.Codes.{boundary_after_byte}
use Rattle.parse_strings.proofs.Characters.{fits_data}
use Rattle.parse_inline.proofs.Fronts.{WritesNext, next_here}
use Rattle.parse_inline.proofs.HtmlLines.{BeginsBare, BeginsEnding, EndsNoLine, IsWhite, html_chunk, html_ending}
use Rattle.parse_inline.proofs.Kids.{codes_same, html_append, named_both, void_some}
use Rattle.event_grammar.specs.declared.slot.Between.{Between}
use Rattle.event_grammar.specs.declared.slot.Between.TheVariants.{Lines}
use Rattle.event_grammar.specs.declared.slot.Form.TheVariants.{Plain}
use Rattle.event_grammar.specs.Grammar.{row}
use Rattle.event_grammar.specs.Slots.{may_end}
use Rattle.parse_slots.specs.Left.{Fill}
use Rattle.parse_slots.proofs.Steps.{fill_both, fill_taken, filled_void, may_lines}
use Rattle.parse_slots.proofs.Voids.{void_between}
use Rattle.parse_inline.proofs.LineEnds.{ending_any, ending_between, ending_leaves, ending_plain, indent_all, indent_parts, indent_size, indent_dark, space_in}
use Rattle.parse_inline.proofs.Spaced.{spaced_token}

-- ---- names

pub chunk_data : (name : Name) → IsChunk name → same_name name n.Data ≡ false
chunk_data name (inl (inl is)) = ap (λ x. same_name x n.Data) is
chunk_data name (inl (inr is)) = ap (λ x. same_name x n.Data) is
chunk_data name (inr is) = ap (λ x. same_name x n.Data) is

pub chunk_prefix : (name : Name) → IsChunk name → same_name name n.BlockQuotePrefix ≡ false
chunk_prefix name (inl (inl is)) = ap (λ x. same_name x n.BlockQuotePrefix) is
chunk_prefix name (inl (inr is)) = ap (λ x. same_name x n.BlockQuotePrefix) is
chunk_prefix name (inr is) = ap (λ x. same_name x n.BlockQuotePrefix) is

-- a chunk may be what data may be
chunk_may : {A : Type 0} (name : Name) → IsChunk name → (text : List ℕ) (size : ℕ) (w : Walk A) → HasBytes text n.Data size w → HasBytes text name size w
chunk_may name (inl (inl is)) text size w has =
    ap (λ x. is_token x (text_between text (end_in w.out) (end_after (end_in w.out) size))) is ∙ has
chunk_may name (inl (inr is)) text size w has =
    ap (λ x. is_token x (text_between text (end_in w.out) (end_after (end_in w.out) size))) is ∙ has
chunk_may name (inr is) text size w has =
    ap (λ x. is_token x (text_between text (end_in w.out) (end_after (end_in w.out) size))) is ∙ has

pub chunk_sought : (name : Name) → IsChunk name → is_listed sought_names name ≡ false
chunk_sought name (inl (inl is)) = ap (is_listed sought_names) is
chunk_sought name (inl (inr is)) = ap (is_listed sought_names) is
chunk_sought name (inr is) = ap (is_listed sought_names) is

chunk_void : (name : Name) → IsChunk name → may_end (row name Plain) ≡ true
chunk_void name (inl (inl is)) = ap (λ x. may_end (row x Plain)) is
chunk_void name (inl (inr is)) = ap (λ x. may_end (row x Plain)) is
chunk_void name (inr is) = ap (λ x. may_end (row x Plain)) is

chunk_named : (name : Name) → is_listed (line_names name) name ≡ true
chunk_named name = ap (λ t. t || is_listed (n.LineEnding ∷ n.SpaceOrTab ∷ n.BlockQuotePrefix ∷ []) name) (true_same the_type name name refl)

either_way : (t : Bool) → (t || true) ≡ true
either_way true = refl
either_way false = refl

-- names among those of lines, whatever the text is called
listed_behind : (name other : Name) → is_listed (n.LineEnding ∷ n.SpaceOrTab ∷ n.BlockQuotePrefix ∷ []) other ≡ true → is_listed (line_names name) other ≡ true
listed_behind name other listed = ap (λ t. same_name name other || t) listed ∙ either_way (same_name name other)

quiet_named : (name : Name) (ns : Nodes) → AreQuiet ns → AreNamed (line_names name) ns
quiet_named name Nil are = tt
quiet_named name (Cons node ns) (inl is, are) =
    (ap (is_listed (line_names name)) is.0 ∙ listed_behind name n.SpaceOrTab refl, quiet_named name ns are)
quiet_named name (Cons node ns) (inr is, are) =
    (ap (is_listed (line_names name)) is.0 ∙ listed_behind name n.BlockQuotePrefix refl, quiet_named name ns are)

-- ---- what nodes spell

module _ (names : Names) (text : List ℕ) where
  quiet_code : (ns : Nodes) → AreQuiet ns → code_parts names text ns ≡ []
  quiet_code Nil are = refl
  quiet_code (Cons node ns) (inl is, are) = ap₂ (λ (xs ys : List ℕ). xs ++ ys) (ap (λ name. code_part names text name node) is.0) (quiet_code ns are)
  quiet_code (Cons node ns) (inr is, are) = ap₂ (λ (xs ys : List ℕ). xs ++ ys) (ap (λ name. code_part names text name node) is.0) (quiet_code ns are)

  quiet_html : (ns : Nodes) → AreQuiet ns → html_parts names text ns ≡ inline.Nil
  quiet_html Nil are = refl
  quiet_html (Cons node ns) (inl is, are) = ap₂ texts.append (ap (λ name. html_part names text name (text_of text node)) is.0) (quiet_html ns are)
  quiet_html (Cons node ns) (inr is, are) = ap₂ texts.append (ap (λ name. html_part names text name (text_of text node)) is.0) (quiet_html ns are)

  -- the text of code
  chunk_code : (name : Name) (node : Node) → IsCodeChunk name → node_name node ≡ name → code_parts names text (one node) ≡ spaced_text_of text node
  chunk_code name node (inl is) named = ap (λ x. code_part names text x node ++ []) (named ∙ is) ∙ append-nil (spaced_text_of text node)
  chunk_code name node (inr is) named = ap (λ x. code_part names text x node ++ []) (named ∙ is) ∙ append-nil (spaced_text_of text node)

-- ---- bytes of a line

dark_line : (bs : List ℕ) → list_any ends_line bs ≡ false → IsInLine bs
dark_line [] dark = tt
dark_line (b ∷ bs) dark = let parts = or_parts (ends_line b) (list_any ends_line bs) dark in (parts.0, dark_line bs parts.1)

each_small : (bs : List ℕ) → AreBytes bs → Each (λ b. b < 256) bs
each_small [] small = tt
each_small (b ∷ bs) small = (small 0, each_small bs (λ k. small (suc k)))

small_take : (k : ℕ) (bs : List ℕ) → Each (λ b. b < 256) bs → Each (λ b. b < 256) (take k bs)
small_take zero bs small = tt
small_take (suc k) [] small = tt
small_take (suc k) (b ∷ bs) small = (small.0, small_take k bs small.1)

no_eol : (b : ℕ) → b < 256 → ends_line b ≡ false → is_eol b ≡ false
no_eol b small dark = grind (arith, nat_tests)

each_no_eol : (bs : List ℕ) → Each (λ b. b < 256) bs → IsInLine bs → Each EndsNoLine bs
each_no_eol [] small inline = tt
each_no_eol (b ∷ bs) small inline = (no_eol b small.0 inline.0, each_no_eol bs small.1 inline.1)

-- the bytes before the first LF or CR
line_dark : (bs : List ℕ) → list_any ends_line (take (position_or_len ends_line bs) bs) ≡ false
line_dark [] = refl
line_dark (b ∷ bs) = elim (cases_Bool (ends_line b)) [
  | inl ends ↦ ap (λ k. list_any ends_line (take k (b ∷ bs))) (cond-false (not (ends_line b)) (1 + position_or_len ends_line bs) 0 (ap not ends))
  | inr goes ↦
      let size : position_or_len ends_line (b ∷ bs) ≡ suc (position_or_len ends_line bs) =
      cond-true (not (ends_line b)) (1 + position_or_len ends_line bs) 0 (ap not goes) ∙ omega arith in
      ap (λ k. list_any ends_line (take k (b ∷ bs))) size
      ∙ or_from (ends_line b) (list_any ends_line (take (position_or_len ends_line bs) bs)) goes (line_dark bs)
]

ends_ascii : (b : ℕ) → ends_line b ≡ true → b < 128
ends_ascii b ends = grind (arith, nat_tests)

-- they are cut between characters
line_cut : (bs : List ℕ) → IsCharBoundary bs (position_or_len ends_line bs)
line_cut bs = elim (cases_lt (position_or_len ends_line bs) (length bs)) [
  | inl within ↦
      IsCharBoundary-before_ascii bs (position_or_len ends_line bs) within
      (ends_ascii _ (not-false _ (prefix_len_stops (λ b. not (ends_line b)) bs 0 within)))
  | inr all ↦
      let is : length bs ≡ position_or_len ends_line bs = omega (arith, all, prefix_len-le-length (λ b. not (ends_line b)) bs) in
      subst (IsCharBoundary bs) is (IsCharBoundary-end bs)
]

-- what follows them
abbrev FirstEnds : List ℕ → Type 0
FirstEnds [] = Unit {0}
FirstEnds (b ∷ bs) = ends_line b ≡ true

line_stops : (bs : List ℕ) → FirstEnds (drop (position_or_len ends_line bs) bs)
line_stops [] = tt
line_stops (b ∷ bs) = elim (cases_Bool (ends_line b)) [
  | inl ends ↦
      subst (λ k. FirstEnds (drop k (b ∷ bs))) (sym (cond-false (not (ends_line b)) (1 + position_or_len ends_line bs) 0 (ap not ends))) ends
  | inr goes ↦
      let size : position_or_len ends_line (b ∷ bs) ≡ suc (position_or_len ends_line bs) =
      cond-true (not (ends_line b)) (1 + position_or_len ends_line bs) 0 (ap not goes) ∙ omega arith in
      subst (λ k. FirstEnds (drop k (b ∷ bs))) (sym size) (line_stops bs)
]

-- CR begins the code of a line ending
return_codes : (P : List ℕ → Type 0) (bs : List ℕ) → ((cs : List ℕ) → P (257 ∷ cs)) → ((cs : List ℕ) → P (13 ∷ cs))
    → P (after_return_code bs (content_codes bs))
return_codes P [] both alone = alone []
return_codes P (b ∷ bs) both alone = elim (b == 10) as (λ t. P (cond t (257 ∷ drop 1 (content_codes (b ∷ bs))) (13 ∷ content_codes (b ∷ bs)))) [
  | true ↦ both (drop 1 (content_codes (b ∷ bs)))
  | false ↦ alone (content_codes (b ∷ bs))
]

first_code : (P : List ℕ → Type 0) (b : ℕ) (bs : List ℕ) → ((cs : List ℕ) → P (257 ∷ cs)) → ((cs : List ℕ) → P (13 ∷ cs)) → ((b == 13) ≡ false
    → P (b ∷ content_codes bs))
    → P (content_codes (b ∷ bs))
first_code P b bs both alone other = elim (cases_Bool (b == 13)) [
  | inl return ↦ subst P (sym (cond-true (b == 13) (after_return_code bs (content_codes bs)) (b ∷ content_codes bs) return)) (return_codes P bs both alone)
  | inr apart ↦ subst P (sym (cond-false (b == 13) (after_return_code bs (content_codes bs)) (b ∷ content_codes bs) apart)) (other apart)
]

ends_eol : (b : ℕ) → ends_line b ≡ true → is_eol b ≡ true
ends_eol b ends = grind (arith, nat_tests)

codes_ending : (bs : List ℕ) → FirstEnds bs → BeginsEnding (content_codes bs)
codes_ending [] ends = tt
codes_ending (b ∷ bs) ends = first_code BeginsEnding b bs (λ cs. refl) (λ cs. refl) (λ apart. ends_eol b ends)

codes_bare : (bs : List ℕ) → BeginsDark bs → BeginsBare (content_codes bs)
codes_bare [] dark = tt
codes_bare (b ∷ bs) dark = first_code BeginsBare b bs (λ cs. refl) (λ cs. refl) (λ apart. dark)

ends_dark : (b : ℕ) → ends_line b ≡ true → is_white b ≡ false
ends_dark b ends = grind (arith, nat_tests)

stops_dark : (bs : List ℕ) → FirstEnds bs → BeginsDark bs
stops_dark [] ends = tt
stops_dark (b ∷ bs) ends = ends_dark b ends

pub bare_dark : (bs : List ℕ) → BeginsDark (bare bs)
bare_dark [] = tt
bare_dark (b ∷ bs) = elim (cases_Bool (is_white b)) [
  | inl white ↦
      let size : indent (b ∷ bs) ≡ suc (indent bs) = cond-true (is_white b) (1 + indent bs) 0 white ∙ omega arith in
      subst (λ k. BeginsDark (drop k (b ∷ bs))) (sym size) (bare_dark bs)
  | inr other ↦ subst (λ k. BeginsDark (drop k (b ∷ bs))) (sym (cond-false (is_white b) (1 + indent bs) 0 other)) other
]

indent_white : (bs : List ℕ) → Each IsWhite (take (indent bs) bs)
indent_white [] = tt
indent_white (b ∷ bs) = elim (cases_Bool (is_white b)) [
  | inl white ↦
      let size : indent (b ∷ bs) ≡ suc (indent bs) = cond-true (is_white b) (1 + indent bs) 0 white ∙ omega arith in
      subst (λ k. Each IsWhite (take k (b ∷ bs))) (sym size) (white, indent_white bs)
  | inr other ↦ subst (λ k. Each IsWhite (take k (b ∷ bs))) (sym (cond-false (is_white b) (1 + indent bs) 0 other)) tt
]

-- the first byte of a line, where no ending comes first
some_line : (bs : List ℕ) → 0 < length bs → begins_with_eol (content_codes bs) ≡ false → 0 < position_or_len ends_line bs
some_line [] some dark = absurd (omega (arith, some))
some_line (b ∷ bs) some dark = elim (cases_Bool (ends_line b)) [
  | inl ends ↦ absurd (eol_first (codes_ending (b ∷ bs) ends))
  | inr goes ↦ omega (arith, cond-true (not (ends_line b)) (1 + position_or_len ends_line bs) 0 (ap not goes))
]
  where
    at_first : (cs : List ℕ) → 0 < length cs → BeginsEnding cs → begins_with_eol cs ≡ true
    at_first [] none ends = absurd (omega (arith, none))
    at_first (c ∷ cs) more ends = ends

    filled : 0 < length (content_codes (b ∷ bs))
    filled = first_code (λ cs. 0 < length cs) b bs (λ cs. omega arith) (λ cs. omega arith) (λ apart. omega arith)

    eol_first : BeginsEnding (content_codes (b ∷ bs)) → ⊥
    eol_first ends = true≢false (sym (at_first (content_codes (b ∷ bs)) filled ends) ∙ dark)

-- ---- no line ending is cut

pub cut_tail : (b : ℕ) (bs content : List ℕ) → AreCutBetween (b ∷ bs) content → AreCutBetween bs content
cut_tail b [] content cut = refl
cut_tail b (x ∷ xs) content cut =
    let more = content_codes ((x ∷ xs) ++ content) in
    let inner = content_codes (x ∷ xs) in
    let after = content_codes content in
    elim (cases_Bool (b == 13)) [
      | inr apart ↦
          let all : b ∷ more ≡ b ∷ (inner ++ after) =
          sym (cond-false (b == 13) (after_return_code ((x ∷ xs) ++ content) more) (b ∷ more) apart)
          ∙ cut
          ∙ ap (λ cs. cs ++ after) (cond-false (b == 13) (after_return_code (x ∷ xs) inner) (b ∷ inner) apart) in
          cc
      | inl return ↦
          let both : after_return_code ((x ∷ xs) ++ content) more ≡ after_return_code (x ∷ xs) inner ++ after =
          sym (cond-true (b == 13) (after_return_code ((x ∷ xs) ++ content) more) (b ∷ more) return)
          ∙ cut
          ∙ ap (λ cs. cs ++ after) (cond-true (b == 13) (after_return_code (x ∷ xs) inner) (b ∷ inner) return) in
          elim (cases_Bool (x == 10)) [
            | inr other ↦
                let all : 13 ∷ more ≡ 13 ∷ (inner ++ after) =
                sym (cond-false (x == 10) (257 ∷ drop 1 more) (13 ∷ more) other)
                ∙ both
                ∙ ap (λ cs. cs ++ after) (cond-false (x == 10) (257 ∷ drop 1 inner) (13 ∷ inner) other) in
                cc
            | inl feed ↦
                let all : 257 ∷ drop 1 more ≡ 257 ∷ (drop 1 inner ++ after) =
                sym (cond-true (x == 10) (257 ∷ drop 1 more) (13 ∷ more) feed)
                ∙ both
                ∙ ap (λ cs. cs ++ after) (cond-true (x == 10) (257 ∷ drop 1 inner) (13 ∷ inner) feed) in
                let left : drop 1 more ≡ drop 1 inner ++ after = cc in
                let single : (x == 13) ≡ false = ap (λ y. y == 13) (eqb-true x 10 feed) in
                let first : more ≡ x ∷ content_codes (xs ++ content) =
                cond-false (x == 13) (after_return_code (xs ++ content) (content_codes (xs ++ content))) (x ∷ content_codes (xs ++ content)) single in
                let second : inner ≡ x ∷ content_codes xs = cond-false (x == 13) (after_return_code xs (content_codes xs)) (x ∷ content_codes xs) single in
                first
                ∙ ap (λ cs. x ∷ cs) (sym (ap (drop 1) first) ∙ left ∙ ap (λ cs. drop 1 cs ++ after) second)
                ∙ ap (λ cs. cs ++ after) (sym second)
          ]
    ]

pub cut_rest : (front rest content : List ℕ) → AreCutBetween (front ++ rest) content → AreCutBetween rest content
cut_rest [] rest content cut = cut
cut_rest (b ∷ front) rest content cut = cut_rest front rest content (cut_tail b (front ++ rest) content cut)

-- ---- a part of a line

codes_alone : (bs : List ℕ) → IsInLine bs → content_codes bs ≡ bs
codes_alone bs inline = ap content_codes (sym (append-nil bs)) ∙ codes_in_line bs [] inline ∙ append-nil bs

chunk_leaves : (front others : List ℕ) → 0 < length front → Each EndsNoLine front → BeginsEnding others
    → html_leaves (front ++ others) ≡ Html front ∷ html_leaves others
chunk_leaves [] others some inline ends = absurd (omega (arith, some))
chunk_leaves (c ∷ line) others some inline ends = html_chunk c line others inline ends

in_line : (b : ℕ) (bs : List ℕ) → ends_line b ≡ false → lines (b ∷ bs) ≡ in_first_line b (lines bs)
in_line b bs inline =
    let parts = or_parts (b == 10) (b == 13) inline in
    cond-false (b == 10) _ _ parts.0 ∙ cond-false (b == 13) _ _ parts.1

one_line : (b : ℕ) (bs : List ℕ) → IsInLine (b ∷ bs) → lines (b ∷ bs) ≡ text_line (b ∷ bs) None ∷ []
one_line b [] inline = in_line b [] inline.0
one_line b (c ∷ cs) inline = in_line b (c ∷ cs) inline.0 ∙ ap (in_first_line b) (one_line c cs inline.1)

-- data without a line ending is one piece
data_leaves : (front : List ℕ) → 0 < length front → IsInLine front → html_data front ≡ Html (content_codes front) ∷ []
data_leaves [] some inline = absurd (omega (arith, some))
data_leaves (b ∷ bs) some inline = ap (flat_map html_line) (one_line b bs inline)

-- ---- a line ending

ending_space : (e : LineEnding) → code_space (line_ending_code e) ≡ 32
ending_space endings.LineFeed = refl
ending_space endings.CarriageReturn = refl
ending_space endings.CarriageReturnLineFeed = refl

ending_eol : (e : LineEnding) → is_eol (line_ending_code e) ≡ true
ending_eol endings.LineFeed = refl
ending_eol endings.CarriageReturn = refl
ending_eol endings.CarriageReturnLineFeed = refl

white_html : (names : Names) (text : List ℕ) (from to : End) → html_parts names text (void_nodes text n.SpaceOrTab from to) ≡ inline.Nil
white_html names text from to =
    cond_both (same_end to from) Nil (one (Around (enter_at text n.SpaceOrTab from) Nil (exit_at text n.SpaceOrTab to)))
    (λ ns. html_parts names text ns ≡ inline.Nil)
    (λ _. refl) (λ _. refl)

white_named : (name : Name) (text : List ℕ) (from to : End) → AreNamed (line_names name) (void_nodes text n.SpaceOrTab from to)
white_named name text from to =
    cond_both (same_end to from) Nil (one (Around (enter_at text n.SpaceOrTab from) Nil (exit_at text n.SpaceOrTab to))) (AreNamed (line_names name))
    (λ _. tt) (λ _. (listed_behind name n.SpaceOrTab refl, tt))

-- a call writes the ending of a line
abbrev pub EndsNext : {A : Type 0} → List ℕ → ℕ → Walk A → Walk A → Type 0
EndsNext text size a b =
    (content : List ℕ) (stop : Stop) (ending : LineEnding) → size ≡ length (ending_bytes ending) → IsApart ending content
    → same_name n.LineEnding n.Data ≡ false → same_name n.LineEnding n.BlockQuotePrefix ≡ false → is_token n.LineEnding (ending_bytes ending) ≡ true
    → StandsInContent text (ending_bytes ending ++ content) stop a → WritesEndingIn text n.LineEnding ending content stop a b

module _ {A : Type 0} (names : Names) (text : List ℕ) (stop : Stop) where
  pub chunk_line : (a b : Walk A) (name : Name) (indented : Bool) (bytes content : List ℕ) (size : ℕ) → IsChunk name → AreBytes bytes → IsUtf8 bytes
      → 0 < length bytes → begins_with_eol (content_codes bytes) ≡ false → size ≡ position_or_len ends_line bytes
      → StandsInContent text (bytes ++ content) stop a → standing b ≡ standing a → WritesNext text name size a b → WritesLine names text name indented size bytes content stop a b
  chunk_line a b name indented bytes content size chunk bytes_small utf8 filled no_end is st same written =
      let within : size ≤ length bytes = subst (λ k. k ≤ length bytes) (sym is) (prefix_len-le-length (λ b. not (ends_line b)) bytes) in
      let some : 0 < size = subst (λ k. 0 < k) (sym is) (some_line bytes filled no_end) in
      let front = take size bytes in
      let rest = drop size bytes in
      let length_is : size ≡ length front = sym (length-take-le size bytes within) in
      let dark : list_any ends_line front ≡ false = ap (λ k. list_any ends_line (take k bytes)) is ∙ line_dark bytes in
      let stops = subst (λ k. FirstEnds (drop k bytes)) (sym is) (line_stops bytes) in
      let parts : bytes ≡ front ++ rest = sym (take-append-drop size bytes) in
      let at = subst (λ xs. StandsInContent text xs stop a) (ap (λ xs. xs ++ content) parts ∙ append_assoc front rest content) st in
      let ahead = line_in_content text stop a front (rest ++ content) at dark in
      let cut : IsCharBoundary bytes size = subst (IsCharBoundary bytes) (sym is) (line_cut bytes) in
      let may = fits_data text front ahead.line size a length_is ahead.stands (IsUtf8-take bytes size utf8 cut) dark in
      let w =
      written front ahead.line length_is (chunk_prefix name chunk) ahead.stands (chunk_may name chunk text size a may) in
      let e = end_in a.out in
      let node = Around (enter_at text name e) Nil (exit_at text name (end_after e size)) in
      let inline_front = dark_line front dark in
      let small = small_take size bytes (each_small bytes bytes_small) in
      let codes : content_codes bytes ≡ front ++ content_codes rest = ap content_codes parts ∙ codes_in_line front rest inline_front in
      let next : AreNext text e (front ++ ahead.line) = subst (λ x. AreNext text x (front ++ ahead.line)) (sym ahead.stands.at) ahead.stands.next in
      let spaced : spaced_text_of text node ≡ front =
      ap (λ k. spaced_text_of text (Around (enter_at text name e) Nil (exit_at text name (end_after e k)))) length_is
      ∙ spaced_token text name e front ahead.line next in
      let inner = html_leaves (content_codes rest) in
      record {
        some = some;
        within = within;
        nodes = one node;
        writes =
            subst (λ ns. WritesInContent text front ns (rest ++ content) stop a b) (void_some text name e size some (chunk_data name chunk))
            (ahead.lifts _ b same w);
        named = (chunk_named name, tt);
        plain = plain_one node (chunk_sought name chunk) plain_none;
        stops = λ _. stops_dark rest stops;
        code = λ flat raw.
            ap (λ xs. xs ++ map code_space (content_codes rest)) (chunk_code names text name node raw refl ∙ spaced)
            ∙ sym (ap (map code_space) codes ∙ map-append code_space front (content_codes rest)
            ∙ ap (λ xs. xs ++ map code_space (content_codes rest)) (codes_same front small inline_front));
        html = λ on html_is whole.
            let read : text_of text node ≡ front =
            ap (λ k. text_of text (Around (enter_at text name e) Nil (exit_at text name (end_after e k)))) length_is
            ∙ ap (λ x. text_of text (Around (enter_at text name x) Nil (exit_at text name (end_after x (length front))))) (whole_end e whole)
            ∙ ap (λ y. text_of text (Around (enter_at text name (end_at e.index 0)) Nil (exit_at text name y))) (after_bytes e.index (length front))
            ∙ token_text text name e.index front ahead.line (next_here text (front ++ ahead.line) a ahead.stands whole) in
            ap (λ x. texts.append (texts.append (html_part names text x (text_of text node)) inline.Nil) (leaves inner)) html_is
            ∙ ap (λ t. texts.append (texts.append (leaves (html_data t)) inline.Nil) (leaves inner)) read
            ∙ ap (λ ls. texts.append (texts.append (leaves ls) inline.Nil) (leaves inner)) (data_leaves front (omega (arith, some, length_is)) inline_front)
            ∙ ap (λ cs. leaves (Html cs ∷ inner)) (codes_alone front inline_front)
            ∙ sym (ap (λ cs. leaves (html_leaves cs)) codes
            ∙ ap leaves (chunk_leaves front (content_codes rest) (omega (arith, some, length_is)) (each_no_eol front small inline_front)
            (codes_ending rest stops)));
        fill = λ around slots takes none may.
            fill_taken around slots name Plain slots node refl takes (filled_void around Plain name node refl refl (chunk_void name chunk));
        cut = λ _. cut;
      }

  -- the ending that bytes begin with
  pub record EndsBytes (bytes content : List ℕ) (found : Ending) (a b : Walk A) : Type 0 where
    pub parts : bytes ≡ ending_bytes found.ending ++ drop found.size bytes
    pub is : found.size ≡ length (ending_bytes found.ending)
    pub ends : WritesEndingIn text n.LineEnding found.ending (drop found.size bytes ++ content) stop a b
    pub cut : IsUtf8 bytes → IsCharBoundary bytes (found.size + indent (drop found.size bytes))

  pub ends_bytes : (a b : Walk A) (bytes content : List ℕ) (found : Ending) → AreBytes bytes → ReadsEnding bytes found → AreCutBetween bytes content
      → StandsInContent text (bytes ++ content) stop a → EndsNext text found.size a b → EndsBytes bytes content found a b
  ends_bytes a b bytes content found small reads cut st ends =
      let step = ending_step default_constructs names bytes found small reads in
      let eb = ending_bytes found.ending in
      let rest = drop found.size bytes in
      let ahead : bytes ++ content ≡ eb ++ (rest ++ content) = ap (λ xs. xs ++ content) step.parts ∙ append_assoc eb rest content in
      let later : AreCutBetween rest content = cut_rest eb rest content (subst (λ xs. AreCutBetween xs content) step.parts cut) in
      let apart : IsApart found.ending (rest ++ content) =
      ap content_codes (sym ahead) ∙ cut ∙ ap (λ cs. cs ++ content_codes content) reads.codes ∙ ap (λ cs. line_ending_code found.ending ∷ cs) (sym later) in
      record {
        parts = step.parts;
        is = step.is;
        ends = ends (rest ++ content) stop found.ending step.is apart refl refl (ending_may found.ending) (subst (λ xs. StandsInContent text xs stop a) ahead st);
        cut = step.cut;
      }

  ending_named : (name : Name) (a b : Walk A) (ending : LineEnding) (content : List ℕ) (w : WritesEndingIn text n.LineEnding ending content stop a b)
      → AreNamed (line_names name) (Cons w.node w.quiet)
  ending_named name a b ending content w =
      (ap (is_listed (line_names name)) w.named ∙ listed_behind name n.LineEnding refl, quiet_named name w.quiet w.are_quiet)

  pub ending_line : (a b : Walk A) (name : Name) (indented : Bool) (bytes content : List ℕ) (found : Ending) → indented ≡ false → ReadsEnding bytes found
      → EndsBytes bytes content found a b → WritesLine names text name indented found.size bytes content stop a b
  ending_line a b name indented bytes content found flat reads e =
      let eb = ending_bytes found.ending in
      let rest = drop found.size bytes in
      let front : take found.size bytes ≡ eb = ap₂ (λ k (xs : List ℕ). take k xs) e.is e.parts ∙ take-append_seam eb rest in
      let w = e.ends in
      record {
        some = reads.some;
        within = reads.within;
        nodes = Cons w.node w.quiet;
        writes = subst (λ xs. WritesInContent text xs (Cons w.node w.quiet) (rest ++ content) stop a b) (sym front) w.writes;
        named = ending_named name a b found.ending (rest ++ content) w;
        plain = ending_plain text stop a b found.ending (rest ++ content) w;
        stops = λ on. absurd (true≢false (sym on ∙ flat));
        code = λ _ raw.
            ap₂ (λ (xs ys : List ℕ). (xs ++ ys) ++ map code_space (content_codes rest)) (ap (λ x. code_part names text x w.node) w.named)
            (quiet_code names text w.quiet w.are_quiet)
            ∙ ap (λ c. c ∷ map code_space (content_codes rest)) (sym (ending_space found.ending))
            ∙ sym (ap (map code_space) reads.codes);
        html = λ on. absurd (true≢false (sym on ∙ flat));
        fill = λ around slots takes none may.
            subst (λ (b : Between). Fill b slots (Cons w.node w.quiet) slots)
            (sym (may_lines around (take found.size bytes)
            (ap (list_any ends_line) (front ∙ sym (append-nil eb)) ∙ ending_any found.ending []) may))
            (ending_between text stop a b found.ending (rest ++ content) w slots none);
        cut = λ utf8. boundary_after_byte bytes found.size utf8 reads.some reads.within reads.ascii;
      }

  pub ending_white : (a b c : Walk A) (name : Name) (indented : Bool) (bytes content : List ℕ) (found : Ending) (white size : ℕ) → indented ≡ true
      → ReadsEnding bytes found
      → EndsBytes bytes content found a b → white ≡ indent (drop found.size bytes) → size ≡ found.size + white → standing c ≡ standing b
      → WritesNext text n.SpaceOrTab white b c → WritesLine names text name indented size bytes content stop a c
  ending_white a b c name indented bytes content found white size on reads e white_is size_is same written =
      let eb = ending_bytes found.ending in
      let ec = line_ending_code found.ending in
      let rest = drop found.size bytes in
      let more = take (indent rest) rest in
      let total : size ≡ length eb + indent rest = omega (arith, size_is, white_is, e.is) in
      let front : take size bytes ≡ eb ++ more = ap₂ (λ k (xs : List ℕ). take k xs) total e.parts ∙ take-append-add eb rest (indent rest) in
      let left : drop size bytes ≡ bare rest = ap₂ (λ k (xs : List ℕ). drop k xs) total e.parts ∙ drop-append-add eb rest (indent rest) in
      let w = e.ends in
      let split : rest ++ content ≡ more ++ (bare rest ++ content) =
      ap (λ xs. xs ++ content) (sym (indent_parts rest)) ∙ append_assoc more (bare rest) content in
      let at = subst (λ xs. StandsInContent text xs stop b) split w.writes.stands in
      let (spaces, _) = space_in text stop b c more (bare rest ++ content) white (white_is ∙ indent_size rest) (indent_dark rest) (indent_all rest) at same written in
      let first = subst (λ xs. WritesInContent text eb (Cons w.node w.quiet) xs stop a b) split w.writes in
      let b_end = end_in b.out in
      let c_end = end_after b_end white in
      let u = void_nodes text n.SpaceOrTab b_end c_end in
      let ns = append (Cons w.node w.quiet) u in
      let all = contents_both text stop a b c eb more (bare rest ++ content) (Cons w.node w.quiet) u first spaces in
      let codes : content_codes bytes ≡ ec ∷ (more ++ content_codes (bare rest)) =
      reads.codes ∙ ap (λ cs. ec ∷ cs) (ap content_codes (sym (indent_parts rest)) ∙ codes_in_line more (bare rest) (dark_line more (indent_dark rest))) in
      let ending_is : html_parts names text (Cons w.node w.quiet) ≡ leaves (LineEnd ec ∷ []) =
      ap₂ texts.append (ap (λ x. html_part names text x (text_of text w.node)) w.named ∙ ap texts.endings w.bytes) (quiet_html names text w.quiet w.are_quiet)
      ∙ ending_leaves found.ending in
      let html_is : html_parts names text ns ≡ leaves (LineEnd ec ∷ []) =
      html_append names text (Cons w.node w.quiet) u ∙ ap₂ texts.append ending_is (white_html names text b_end c_end) in
      record {
        some = omega (arith, size_is, reads.some);
        within = omega (arith, total, ap length e.parts, length-append eb rest, prefix_len-le-length is_white rest);
        nodes = ns;
        writes =
            subst (λ xs. WritesInContent text (take size bytes) ns (xs ++ content) stop a c) (sym left)
            (subst (λ xs. WritesInContent text xs ns (bare rest ++ content) stop a c) (sym front) all);
        named =
            named_both (line_names name) (Cons w.node w.quiet) u (ending_named name a b found.ending (rest ++ content) w) (white_named name text b_end c_end);
        plain =
            plain_both (Cons w.node w.quiet) u (ending_plain text stop a b found.ending (rest ++ content) w)
            (plain_void text n.SpaceOrTab b_end c_end refl refl);
        stops = λ _. subst BeginsDark (sym left) (bare_dark rest);
        code = λ flat. absurd (true≢false (sym on ∙ flat));
        html = λ _ chunk whole.
            ap₂ (λ is (xs : List ℕ). texts.append is (leaves (html_leaves (content_codes xs)))) html_is left
            ∙ sym (ap (λ cs. leaves (html_leaves cs)) codes
            ∙ ap leaves (html_ending ec more (content_codes (bare rest)) (ending_eol found.ending) (indent_white rest)
            (codes_bare (bare rest) (bare_dark rest))));
        fill = λ around slots takes none may.
            subst (λ (b : Between). Fill b slots ns slots)
            (sym (may_lines around (take size bytes) (ap (list_any ends_line) front ∙ ending_any found.ending more) may))
            (fill_both (ending_between text stop a b found.ending (rest ++ content) w slots none)
            (void_between Lines slots n.SpaceOrTab text b_end c_end refl none.space refl refl));
        cut = λ utf8.
            let sum : found.size + indent rest ≡ size = omega (arith, size_is, white_is) in
            subst (IsCharBoundary bytes) sum (e.cut utf8);
      }
