-- The leaf that the definition finds has its form there.
use Rattle.std.proofs.Common.{inl, inr, ◌≡◌, ℕ, zero, suc, ◌+◌, ◌-◌, ◌<◌, Bool, true, false, cond, not, ◌&&◌, ◌||◌, List, [], ◌∷◌, ◌++◌, map, Option, None}
use Rattle.std.proofs.Common.{Some, length, take, drop, replicate, refl, sym, ap, ◌∙◌, subst, arith, append_assoc}
use Rattle.parse_written.proofs.Prelude.{after_all, after_run, and_parts, AreCodes, Autolink, autolink_after, autolink_at, bare, begins_with, both_ways}
use Rattle.parse_written.proofs.Prelude.{cases_Bool, Character, CharacterReference, closed_autolink, Code, code_text, code_text_at, codes, codes_of}
use Rattle.parse_written.proofs.Prelude.{cond-false, cond-true, cond_both, Data, drop-codes_of, drop-drop, Each, each-append, email_end, EndNoLine, ends_here}
use Rattle.parse_written.proofs.Prelude.{eqb-true, Escape, escape_at, escaped_break_at, EscapedBreak, Found, Html, html_byte, html_end, html_leaf}
use Rattle.parse_written.proofs.Prelude.{html_text_at, indent, InlineCode, InlineContext, InlineLeaf, is_ascii_punctuation, is_eol, is_trailing_break}
use Rattle.parse_written.proofs.Prelude.{is_white, IsFound, leaf, leaf_at, leaf_here, length-append, line_end_at, line_spaces_at, LineEnd, Literal, literal_at}
use Rattle.parse_written.proofs.Prelude.{Math, math_text_at, may_open_math, nat_le, or_else, part, Part, prefix_len, raw_at, raw_leaf, raw_part}
use Rattle.parse_written.proofs.Prelude.{reference_after, reference_at, reference_form, reference_leaf, reference_of, reference_text, run, run_of, run_size}
use Rattle.parse_written.proofs.Prelude.{take-append-drop, take-append_seam, text_before, TrailingBreak, true≢false, up_to, uri_end, WhereSome, ◌==◌}
use Rattle.std.specs.Char.{is_ascii_digit, is_ascii_hexdigit, is_ascii_alphanumeric}
use Rattle.std.specs.List.{take_while, list_all}
use Rattle.std.proofs.lemmas.Bool.{leb-true}
use Rattle.std.proofs.lemmas.List.Folds.{length-prefix_len}
use Rattle.definition_text.specs.Bytes.{begins_with_letter}
use Rattle.definition_inline.specs.Autolink.{is_scheme_byte, is_uri_byte, is_email_byte, is_domain, is_domain_byte, begins_with_scheme, after_uri, domain_end}
use Rattle.definition_inline.specs.CharacterReference.{character_reference, before_semicolon, part_to_semicolon, reference_by_number}
use Rattle.definition_inline.specs.CharacterReference.{reference_by_name, number_reference}
use Rattle.definition_inline.specs.Inline.{TaskCheck}
use Rattle.definition_inline.proofs.GfmAutolinkLiteral.{any_literal}
use Rattle.parse_written.specs.Laws.{LeafLaw}
use Rattle.event_tokens.specs.Tokens.{is_email, is_uri}
use Rattle.parse_written.specs.Leaves.{Lacks, IsReference, IsRaw, HasForm, is_target}
use Rattle.parse_written.proofs.Autolinks.{email_whole, uri_whole}
use Rattle.parse_written.proofs.Passed.{passed_all}
use Rattle.parse_written.proofs.Codes.{codes_dropped, run_marks}
use Rattle.parse_written.proofs.HtmlEnds.{EndsWith, html_closed, html_closes, taken_begins}
use Rattle.parse_written.proofs.Leaves.{is_its_text, codes_of_take}

-- ---- codes at the front

-- codes that a content begins with, and what follows them
pub front_codes : (xs rest : List ℕ) (from : List InlineCode) → codes_of from ≡ xs ++ rest
    → AreCodes xs from (drop (length xs) from) × (codes_of (drop (length xs) from) ≡ rest)
front_codes [] rest from is = (refl, is)
front_codes (x ∷ xs) rest [] is = absurd cc
front_codes (x ∷ xs) rest (c ∷ cs) is =
    let first : c.code ≡ x = cc in
    let later : codes_of cs ≡ xs ++ rest = cc in
    let others = front_codes xs rest cs later in
    ((first, others.0), others.1)

pub run_of_codes : (m : ℕ) (a : List InlineCode) → run m (codes_of a) ≡ run_size m a
run_of_codes m [] = refl
run_of_codes m (c ∷ cs) = ap (λ n. cond (c.code == m) (1 + n) 0) (run_of_codes m cs)

-- this code passes no such test
pub differs : (test : ℕ → Bool) (c k : ℕ) → test c ≡ true → test k ≡ false → (c == k) ≡ false
differs test c k passes fails = elim (cases_Bool (c == k)) [
  | inl same ↦ absurd (both_ways (test k) fails (subst (λ x. test x ≡ true) (eqb-true c k same) passes))
  | inr other ↦ other
]

-- a test that no line ending passes
record IsInline (test : ℕ → Bool) : Type 0 where
  feed : test 10 ≡ false
  return : test 13 ≡ false
  both : test 257 ≡ false

inline_code : (test : ℕ → Bool) (c : ℕ) → IsInline test → test c ≡ true → is_eol c ≡ false
inline_code test c tells passes =
    ap (λ b. b || (c == 13) || (c == 257)) (differs test c 10 passes tells.feed) ∙ ap (λ b. false || b || (c == 257)) (differs test c 13 passes tells.return)
    ∙ ap (λ b. false || false || b) (differs test c 257 passes tells.both)

-- codes that pass a test, as many as come first
each_passed : (P : ℕ → Type 0) (test : ℕ → Bool) → ((c : ℕ) → test c ≡ true → P c) → (xs : List ℕ) → Each P (take (prefix_len test xs) xs)
each_passed P test h [] = tt
each_passed P test h (x ∷ xs) =
    cond_both (test x) (1 + prefix_len test xs) 0 (λ n. Each P (take n (x ∷ xs)))
    (λ passes. one (1 + prefix_len test xs) (prefix_len test xs) (omega arith) (h x passes) (each_passed P test h xs)) (λ _. tt)
  where
    one : (n m : ℕ) → n ≡ suc m → P x → Each P (take m xs) → Each P (take n (x ∷ xs))
    one n m is first others = subst (λ k. Each P (take k (x ∷ xs))) (sym is) (first, others)

abbrev InLine : List ℕ → Type 0
InLine xs = Each (λ c. is_eol c ≡ false) xs

end_no_line : (xs : List ℕ) → InLine xs → EndNoLine xs
end_no_line [] p = tt
end_no_line (x ∷ xs) p = (p.0, end_no_line xs p.1)

passed_inline : (test : ℕ → Bool) → IsInline test → (xs : List ℕ) → InLine (take (prefix_len test xs) xs)
passed_inline test tells xs = each_passed (λ c. is_eol c ≡ false) test (λ c passes. inline_code test c tells passes) xs

-- the text before what is left
pub text_of_parts : (content front rest : List ℕ) → content ≡ front ++ rest → text_before content rest ≡ front
text_of_parts content front rest is =
    let size : length content - length rest ≡ length front = omega (arith, ap length is, length-append front rest) in
    ap (λ n. take n content) size ∙ ap (take (length front)) is ∙ take-append_seam front rest

-- a run of exactly so many that was found
pub record IsNextRun (marker n : ℕ) (content rest : List ℕ) : Type 0 where
  pub front : List ℕ
  pub parts : content ≡ front ++ rest
  pub size : run marker rest ≡ n

pub next_run : (marker n : ℕ) (within : Bool) (content : List ℕ) → WhereSome (IsNextRun marker n content) (run_of marker n within content)
next_run marker n within [] = tt
next_run marker n within (c ∷ cs) =
    cond_both (not within && (run marker (c ∷ cs) == n)) (Some (c ∷ cs)) (run_of marker n (c == marker) cs) (WhereSome (IsNextRun marker n (c ∷ cs)))
    (λ e. record { front = []; parts = refl; size = eqb-true (run marker (c ∷ cs)) n (and_parts (not within) _ e).1 })
    (λ _. later (run_of marker n (c == marker) cs) (next_run marker n (c == marker) cs))
  where
    later : (o : Option (List ℕ)) → WhereSome (IsNextRun marker n cs) o → WhereSome (IsNextRun marker n (c ∷ cs)) o
    later None p = tt
    later (Some rest) p = record { front = c ∷ p.front; parts = ap (λ xs. c ∷ xs) p.parts; size = p.size }

-- ---- what begins at a place

module _ (context : InlineContext) where
  abbrev Formed : List InlineCode → List InlineLeaf → ℕ → Type 0
  Formed from [] size = Unit {0}
  Formed from (part ∷ []) size = is_its_text part ≡ false → HasForm context part from (drop size from)
  Formed from (part ∷ other ∷ others) size = Unit {0}

  abbrev Begins : List InlineCode → Option Found → Type 0
  Begins from o = WhereSome (λ (found : Found). Formed from found.parts found.size) o

  either_begins : (from : List InlineCode) (a b : Option Found) → Begins from a → Begins from b → Begins from (or_else a b)
  either_begins from None b p q = q
  either_begins from (Some found) b p q = p

  begins_if : (from : List InlineCode) (test : Bool) (part : InlineLeaf) (size : ℕ) → (test ≡ true → HasForm context part from (drop size from))
      → Begins from (cond test (Some (leaf (part ∷ []) size)) None)
  begins_if from test part size h = cond_both test (Some (leaf (part ∷ []) size)) None (Begins from) (λ e _. h e) (λ _. tt)

  data_formed : (from : List InlineCode) (xs : List ℕ) (size : ℕ) → Formed from (map Data xs) size
  data_formed from [] size = tt
  data_formed from (x ∷ []) size = λ other. absurd (both_ways true other refl)
  data_formed from (x ∷ y ∷ ys) size = tt

  -- ---- escapes, breaks and line endings

  escape_begins : (from : List InlineCode) → Begins from (escape_at context.options.constructs (codes_of from))
  escape_begins [] = tt
  escape_begins (c ∷ []) = tt
  escape_begins (c ∷ next ∷ cs) =
      let on = context.options.constructs.character_escape in
      begins_if (c ∷ next ∷ cs) (on && ((c.code == 92) && is_ascii_punctuation next.code)) (Escape next.code) 2
      (λ e.
      let both = and_parts (c.code == 92) (is_ascii_punctuation next.code) (and_parts on _ e).1 in
      record {
        text = record {
          codes = (eqb-true c.code 92 both.0, (refl, refl));
          some = omega arith;
          inline = (refl, (inline_code is_ascii_punctuation next.code (record { feed = refl; return = refl; both = refl }) both.1, tt));
        };
        mark = both.1;
      })

  break_begins : (from : List InlineCode) → Begins from (escaped_break_at context.options.constructs (codes_of from))
  break_begins [] = tt
  break_begins (c ∷ cs) =
      let on = context.options.constructs.hard_break_escape in
      begins_if (c ∷ cs) _ EscapedBreak 1
      (λ e. record {
        codes = (eqb-true c.code 92 (and_parts (c.code == 92) _ (and_parts on _ e).1).0, refl);
        some = omega arith;
        inline = (refl, tt);
      })

  line_end_begins : (from : List InlineCode) → Begins from (line_end_at (codes_of from))
  line_end_begins [] = tt
  line_end_begins (c ∷ cs) =
      let n = indent (codes_of cs) in
      begins_if (c ∷ cs) (is_eol c.code) (LineEnd c.code) (1 + n)
      (λ e. record { rest = cs; ends = e; ending = (refl, refl); after = ap (λ k. drop k (c ∷ cs)) (let one : 1 + n ≡ suc n = omega arith in one) })

  all_spaces : (from : List InlineCode) → list_all (λ c. c == 32) (take_while is_white (codes_of from)) ≡ true
      → AreCodes (replicate (indent (codes_of from)) 32) from (drop (indent (codes_of from)) from)
  all_spaces [] e = refl
  all_spaces (c ∷ cs) e = elim (cases_Bool (is_white c.code)) [
    | inl white ↦
        let n = indent (codes_of cs) in
        let size : indent (codes_of (c ∷ cs)) ≡ suc n =
        cond-true (is_white c.code) (1 + n) 0 white ∙ (let one : 1 + n ≡ suc n = omega arith in one) in
        let taken : take_while is_white (codes_of (c ∷ cs)) ≡ c.code ∷ take_while is_white (codes_of cs) =
        ap (λ k. take k (codes_of (c ∷ cs))) size in
        let both = and_parts (c.code == 32) _ (subst (λ xs. list_all (λ b. b == 32) xs ≡ true) taken e) in
        subst (λ k. AreCodes (replicate k 32) (c ∷ cs) (drop k (c ∷ cs))) (sym size) (eqb-true c.code 32 both.0, all_spaces cs both.1)
    | inr other ↦
        let size : indent (codes_of (c ∷ cs)) ≡ 0 = cond-false (is_white c.code) (1 + indent (codes_of cs)) 0 other in
        subst (λ k. AreCodes (replicate k 32) (c ∷ cs) (drop k (c ∷ cs))) (sym size) refl
  ]

  spaces_begin : (from : List InlineCode) → Begins from (line_spaces_at context.options.constructs (codes_of from))
  spaces_begin from =
      let on = context.options.constructs in
      let content = codes_of from in
      let size = indent content in
      let breaks = on.hard_break_trailing && is_trailing_break content in
      cond_both (nat_le 1 size && ends_here (bare content)) (Some (leaf (cond breaks (TrailingBreak ∷ []) []) size)) None (Begins from)
      (λ _. cond_both breaks (TrailingBreak ∷ []) [] (λ parts. Formed from parts size)
      (λ e _.
      let trailing = and_parts (nat_le 2 size) _ (and_parts on.hard_break_trailing (is_trailing_break content) e).1 in
      record {
        size = size;
        some = omega (arith, leb-true 2 size trailing.0);
        all = refl;
        codes = all_spaces from (and_parts (list_all (λ c. c == 32) (take_while is_white content)) _ trailing.1).0;
      })
      (λ _. tt))
      (λ _. tt)

  -- ---- raw text

  raw_form : (marker : ℕ) (from : List InlineCode) (rest : List ℕ) → 0 < run marker (codes_of from)
      → run_of marker (run marker (codes_of from)) false (codes_of (drop (run marker (codes_of from)) from)) ≡ Some rest
      → IsNextRun marker (run marker (codes_of from)) (codes_of (drop (run marker (codes_of from)) from)) rest
      → (text : List ℕ) → text ≡ text_before (codes_of (drop (run marker (codes_of from)) from)) rest
      → IsRaw marker (code_text text) from (drop (run marker (codes_of from) + length text + run marker (codes_of from)) from)
  raw_form marker from rest some found p text is =
      let n = run marker (codes_of from) in
      let inside = drop n from in
      let front = p.front in
      let split = front_codes front rest inside p.parts in
      let k = length front in
      let end = drop k inside in
      let front_is : text ≡ front = is ∙ text_of_parts (codes_of inside) front rest p.parts in
      let end_is : codes_of end ≡ rest = split.1 in
      let closing_size : run_size marker end ≡ n = sym (run_of_codes marker end) ∙ ap (run marker) end_is ∙ p.size in
      let last : drop n end ≡ drop (n + length text + n) from =
      ap (drop n) (drop-drop k n from) ∙ drop-drop n (n + k) from ∙ ap (λ m. drop (n + m + n) from) (ap length (sym front_is)) in
      record {
        size = n;
        some = some;
        whole = refl;
        inside = inside;
        opening = subst (λ m. AreCodes (replicate m marker) from (drop m from)) (sym (run_of_codes marker from)) (run_marks marker from);
        end = end;
        next = found ∙ ap Some (sym end_is);
        closing = subst (λ x. AreCodes (replicate n marker) end x) last
            (subst (λ m. AreCodes (replicate m marker) end (drop m end)) closing_size (run_marks marker end));
        read = ap code_text (ap (text_before (codes_of inside)) end_is ∙ sym is);
      }

  -- what a run of this byte makes has this form
  abbrev MakesRaw : ℕ → Type 0
  MakesRaw marker = (text : List ℕ) (from to : List InlineCode) → IsRaw marker (code_text text) from to → HasForm context (raw_part marker text) from to

  raw_leaf_formed : (marker : ℕ) → MakesRaw marker → (from : List InlineCode) (o : Option (List ℕ)) → 0 < run marker (codes_of from)
      → run_of marker (run marker (codes_of from)) false (after_run marker (codes_of from)) ≡ o
      → WhereSome (IsNextRun marker (run marker (codes_of from)) (after_run marker (codes_of from))) o
      → Begins from (Some (raw_leaf marker (run marker (codes_of from)) (codes_of from) (up_to (after_run marker (codes_of from)) o)))
  raw_leaf_formed marker makes from None some found p =
      data_formed from (take (run marker (codes_of from)) (codes_of from)) (run marker (codes_of from))
  raw_leaf_formed marker makes from (Some rest) some found p =
      let n = run marker (codes_of from) in
      let inner = after_run marker (codes_of from) in
      let same : codes_of (drop n from) ≡ inner = drop-codes_of n from in
      let text = text_before inner rest in
      λ _. makes text from (drop (n + length text + n) from)
      (raw_form marker from rest some (ap (run_of marker n false) same ∙ found) (subst (λ xs. IsNextRun marker n xs rest) (sym same) p) text
      (ap (λ xs. text_before xs rest) (sym same)))

  raw_begins : (marker : ℕ) (may_open : Bool) → MakesRaw marker → (from : List InlineCode) → Begins from (raw_at marker may_open (codes_of from))
  raw_begins marker may_open makes from =
      let n = run marker (codes_of from) in
      let inner = after_run marker (codes_of from) in
      cond_both (may_open && not (n == 0)) (Some (raw_leaf marker n (codes_of from) (up_to inner (run_of marker n false inner)))) None (Begins from)
      (λ e. raw_leaf_formed marker makes from (run_of marker n false inner) (positive n (and_parts may_open (not (n == 0)) e).1) refl
      (next_run marker n false inner))
      (λ _. tt)
    where
      positive : (n : ℕ) → not (n == 0) ≡ true → 0 < n
      positive zero e = absurd (true≢false (sym e))
      positive (suc n) e = omega arith

  -- ---- references

  -- a part before a `;`
  abbrev IsPlain : ℕ → Type 0
  IsPlain c = ((c == 59) ≡ false) × (is_eol c ≡ false)

  record IsPart (content : List ℕ) (p : Part) : Type 0 where
    parts : content ≡ p.text ++ 59 ∷ p.rest
    plain : Each IsPlain p.text

  record IsWritten (content : List ℕ) (r : CharacterReference) : Type 0 where
    written : List ℕ
    parts : content ≡ written ++ 59 ∷ r.rest
    plain : Each IsPlain written

  plain_lacks : (xs : List ℕ) → Each IsPlain xs → Lacks 59 xs
  plain_lacks [] p = tt
  plain_lacks (x ∷ xs) p = (p.0.0, plain_lacks xs p.1)

  plain_inline : (xs : List ℕ) → Each IsPlain xs → EndNoLine xs
  plain_inline [] p = tt
  plain_inline (x ∷ xs) p = (p.0.1, plain_inline xs p.1)

  record IsPlainTest (test : ℕ → Bool) : Type 0 where
    inline : IsInline test
    semicolon : test 59 ≡ false

  plain_code : (test : ℕ → Bool) → IsPlainTest test → (c : ℕ) → test c ≡ true → IsPlain c
  plain_code test tells c passes = (differs test c 59 passes tells.semicolon, inline_code test c tells.inline passes)

  part_before : (content text rest : List ℕ) → text ++ rest ≡ content → Each IsPlain text → WhereSome (IsPart content) (before_semicolon text rest)
  part_before content text [] is plain = tt
  part_before content text (c ∷ cs) is plain =
      cond_both (c == 59) (Some (part text cs)) None (WhereSome (IsPart content))
      (λ e. record { parts = sym is ∙ ap (λ x. text ++ x ∷ cs) (eqb-true c 59 e); plain = plain }) (λ _. tt)

  part_found : (test : ℕ → Bool) → IsPlainTest test → (most : ℕ) (content : List ℕ) → WhereSome (IsPart content) (part_to_semicolon test most content)
  part_found test tells most content =
      let size = prefix_len test content in
      cond_both (nat_le 1 size && nat_le size most) (before_semicolon (take size content) (drop size content)) None (WhereSome (IsPart content))
      (λ _. part_before content (take size content) (drop size content) (take-append-drop size content)
      (each_passed IsPlain test (plain_code test tells) content))
      (λ _. tt)

  numbered : (base : ℕ) (content : List ℕ) (o : Option Part) → WhereSome (IsPart content) o → WhereSome (IsWritten content) (reference_by_number base o)
  numbered base content None p = tt
  numbered base content (Some digits) p = record { written = digits.text; parts = p.parts; plain = p.plain }

  named : (content : List ℕ) (o : Option Part) → WhereSome (IsPart content) o → WhereSome (IsWritten content) (reference_by_name o)
  named content None p = tt
  named content (Some name) p = record { written = name.text; parts = p.parts; plain = p.plain }

  after_code : (c : ℕ) (cs : List ℕ) (o : Option CharacterReference) → IsPlain c → WhereSome (IsWritten cs) o → WhereSome (IsWritten (c ∷ cs)) o
  after_code c cs None plain p = tt
  after_code c cs (Some r) plain p = record { written = c ∷ p.written; parts = ap (λ xs. c ∷ xs) p.parts; plain = (plain, p.plain) }

  digit_plain : IsPlainTest is_ascii_digit
  digit_plain = record { inline = record { feed = refl; return = refl; both = refl }; semicolon = refl }

  hexdigit_plain : IsPlainTest is_ascii_hexdigit
  hexdigit_plain = record { inline = record { feed = refl; return = refl; both = refl }; semicolon = refl }

  alphanumeric_plain : IsPlainTest is_ascii_alphanumeric
  alphanumeric_plain = record { inline = record { feed = refl; return = refl; both = refl }; semicolon = refl }

  plain_of : (test : ℕ → Bool) → test 10 ≡ false → test 13 ≡ false → test 257 ≡ false → test 59 ≡ false → (c : ℕ) → test c ≡ true → IsPlain c
  plain_of test feed return both semicolon c passes =
      plain_code test (record { inline = record { feed = feed; return = return; both = both }; semicolon = semicolon }) c passes

  number_written : (content : List ℕ) → WhereSome (IsWritten content) (number_reference content)
  number_written [] = tt
  number_written (c ∷ cs) =
      cond_both ((c == 120) || (c == 88)) (reference_by_number 16 (part_to_semicolon is_ascii_hexdigit 6 cs))
      (reference_by_number 10 (part_to_semicolon is_ascii_digit 7 (c ∷ cs))) (WhereSome (IsWritten (c ∷ cs)))
      (λ e. after_code c cs (reference_by_number 16 (part_to_semicolon is_ascii_hexdigit 6 cs))
      (plain_of (λ b. (b == 120) || (b == 88)) refl refl refl refl c e)
      (numbered 16 cs (part_to_semicolon is_ascii_hexdigit 6 cs) (part_found is_ascii_hexdigit hexdigit_plain 6 cs)))
      (λ _. numbered 10 (c ∷ cs) (part_to_semicolon is_ascii_digit 7 (c ∷ cs)) (part_found is_ascii_digit digit_plain 7 (c ∷ cs)))

  after_written : (content : List ℕ) → WhereSome (IsWritten content) (reference_after content)
  after_written [] = tt
  after_written (c ∷ cs) =
      let name = part_to_semicolon is_ascii_alphanumeric 31 (c ∷ cs) in
      cond_both (c == 35) (number_reference cs) (reference_by_name name) (WhereSome (IsWritten (c ∷ cs)))
      (λ e. after_code c cs (number_reference cs) (plain_of (λ b. b == 35) refl refl refl refl c e) (number_written cs))
      (λ _. named (c ∷ cs) name (part_found is_ascii_alphanumeric alphanumeric_plain 31 (c ∷ cs)))

  form_written : (content : List ℕ) → WhereSome (IsWritten content) (reference_form content)
  form_written [] = tt
  form_written (c ∷ cs) =
      cond_both (c == 38) (reference_after cs) None (WhereSome (IsWritten (c ∷ cs)))
      (λ e. after_code c cs (reference_after cs) (plain_of (λ b. b == 38) refl refl refl refl c e) (after_written cs)) (λ _. tt)

  text_formed : (from : List InlineCode) (r : CharacterReference) → reference_form (codes_of from) ≡ Some r → IsWritten (codes_of from) r
      → (t : Option (List ℕ)) → reference_text context.names r.name ≡ t
      → Begins from (reference_leaf (length (codes_of from) - length r.rest) t)
  text_formed from r form p None known = tt
  text_formed from r form p (Some text) known =
      let content = codes_of from in
      let front = p.written ++ 59 ∷ [] in
      let parts : content ≡ front ++ r.rest = p.parts ∙ sym (append_assoc p.written (59 ∷ []) r.rest) in
      let size : length content - length r.rest ≡ length front = omega (arith, ap length parts, length-append front r.rest) in
      let split = front_codes front r.rest from parts in
      let written : IsReference context text from (drop (length front) from) = record {
        written = p.written;
        codes = split.0;
        first = plain_lacks p.written p.plain;
        inline = plain_inline p.written p.plain;
        name = r.name;
        form = form ∙ ap (λ rest. Some (character_reference r.name rest)) (sym split.1);
        known = known;
      } in
      λ _. subst (λ n. IsReference context text from (drop n from)) (sym size) written

  reference_formed : (from : List InlineCode) (o : Option CharacterReference) → reference_form (codes_of from) ≡ o → WhereSome (IsWritten (codes_of from)) o
      → Begins from (reference_of context.names (codes_of from) o)
  reference_formed from None form p = tt
  reference_formed from (Some r) form p = text_formed from r form p (reference_text context.names r.name) refl

  reference_begins : (from : List InlineCode) → Begins from (reference_at context.options.constructs context.names (codes_of from))
  reference_begins from =
      let form = reference_form (codes_of from) in
      cond_both context.options.constructs.character_reference (reference_of context.names (codes_of from) form) None (Begins from)
      (λ _. reference_formed from form refl (form_written (codes_of from))) (λ _. tt)

  -- ---- autolinks and raw HTML

  record IsInner (content rest : List ℕ) : Type 0 where
    text : List ℕ
    parts : content ≡ text ++ rest
    inline : InLine text

  -- what passes a test, then more
  abbrev inner_more : (content middle rest : List ℕ) → IsInner content middle → IsInner middle rest → IsInner content rest
  inner_more content middle rest p q =
      record {
        text = p.text ++ q.text;
        parts = p.parts ∙ ap (λ xs. p.text ++ xs) q.parts ∙ sym (append_assoc p.text q.text rest);
        inline = each-append (λ c. is_eol c ≡ false) p.text q.text p.inline q.inline;
      }

  inner_passed : (test : ℕ → Bool) → IsInline test → (content : List ℕ) → IsInner content (after_all test content)
  inner_passed test tells content =
      let size = prefix_len test content in
      record { text = take size content; parts = sym (take-append-drop size content); inline = passed_inline test tells content }

  abbrev inner_code : (k : ℕ) (content : List ℕ) → is_eol k ≡ false → begins_with (k ∷ []) content ≡ true → IsInner content (drop 1 content)
  inner_code k [] inline e = absurd (true≢false (sym e))
  inner_code k (c ∷ cs) inline e =
      let same : k ≡ c = eqb-true k c (and_parts (k == c) _ e).0 in
      record { text = c ∷ []; parts = refl; inline = (subst (λ b. is_eol b ≡ false) same inline, tt) }

  -- a code at least
  record IsFilled (content rest : List ℕ) : Type 0 where
    inner : IsInner content rest
    some : 0 < length inner.text

  filled_code : (k : ℕ) (content : List ℕ) → is_eol k ≡ false → begins_with (k ∷ []) content ≡ true → IsFilled content (drop 1 content)
  filled_code k [] inline e = absurd (true≢false (sym e))
  filled_code k (c ∷ cs) inline e = record { inner = inner_code k (c ∷ cs) inline e; some = omega arith }

  filled_before : (content middle rest : List ℕ) → IsInner content middle → IsFilled middle rest → IsFilled content rest
  filled_before content middle rest p q =
      record { inner = inner_more content middle rest p q.inner; some = omega (arith, length-append p.text q.inner.text, q.some) }

  filled_more : (content middle rest : List ℕ) → IsFilled content middle → IsInner middle rest → IsFilled content rest
  filled_more content middle rest p q =
      record { inner = inner_more content middle rest p.inner q; some = omega (arith, length-append p.inner.text q.text, p.some) }

  uri_inner : (content : List ℕ) → WhereSome (IsFilled content) (uri_end content)
  uri_inner content =
      let rest = after_all is_scheme_byte content in
      cond_both (begins_with_scheme content && begins_with (codes ":") rest) (Some (after_uri rest)) None (WhereSome (IsFilled content))
      (λ e. filled_before content rest (after_uri rest) (inner_passed is_scheme_byte (record { feed = refl; return = refl; both = refl }) content)
      (filled_more rest (drop 1 rest) (after_uri rest) (filled_code 58 rest refl (and_parts (begins_with_scheme content) _ e).1)
      (inner_passed is_uri_byte (record { feed = refl; return = refl; both = refl }) (drop 1 rest))))
      (λ _. tt)

  domain_inner : (content : List ℕ) → WhereSome (IsInner content) (domain_end content)
  domain_inner content =
      cond_both _ (Some (after_all is_domain_byte content)) None (WhereSome (IsInner content))
      (λ _. inner_passed is_domain_byte (record { feed = refl; return = refl; both = refl }) content) (λ _. tt)

  inner_after : (content middle : List ℕ) (o : Option (List ℕ)) → IsFilled content middle → WhereSome (IsInner middle) o → WhereSome (IsFilled content) o
  inner_after content middle None p q = tt
  inner_after content middle (Some rest) p q = filled_more content middle rest p q

  email_inner : (content : List ℕ) → WhereSome (IsFilled content) (email_end content)
  email_inner content =
      let rest = after_all is_email_byte content in
      let test = nat_le 1 (prefix_len is_email_byte content) in
      cond_both (test && begins_with (codes "@") rest) (domain_end (drop 1 rest)) None (WhereSome (IsFilled content))
      (λ e. inner_after content (drop 1 rest) (domain_end (drop 1 rest))
      (filled_before content rest (drop 1 rest) (inner_passed is_email_byte (record { feed = refl; return = refl; both = refl }) content)
      (filled_code 64 rest refl (and_parts test _ e).1))
      (domain_inner (drop 1 rest)))
      (λ _. tt)

  begun_by : (k : ℕ) (content : List ℕ) → begins_with (k ∷ []) content ≡ true → content ≡ k ∷ drop 1 content
  begun_by k [] e = absurd (true≢false (sym e))
  begun_by k (c ∷ cs) e = ap (λ x. x ∷ cs) (sym (eqb-true k c (and_parts (k == c) _ e).0))

  -- ---- they are read alone, too

  abbrev IsReadAlone : Bool → List ℕ → List ℕ → Type 0
  IsReadAlone email content rest = is_target email (text_before content rest) ≡ true

  letter_first : (scheme others rest : List ℕ) → begins_with_letter ((scheme ++ 58 ∷ others) ++ rest) ≡ true → begins_with_letter (scheme ++ 58 ∷ others) ≡ true
  letter_first [] others rest is = is
  letter_first (x ∷ xs) others rest is = is

  uri_alone : (content : List ℕ) → WhereSome (IsReadAlone false content) (uri_end content)
  uri_alone content =
      let scheme = take_while is_scheme_byte content in
      let rest = after_all is_scheme_byte content in
      let others = take_while is_uri_byte (drop 1 rest) in
      let left = after_uri rest in
      cond_both (begins_with_scheme content && begins_with (codes ":") rest) (Some left) None (WhereSome (IsReadAlone false content))
      (λ e.
      let begins = and_parts (begins_with_scheme content) _ e in
      let letter = and_parts (begins_with_letter content) _ begins.0 in
      let sized = and_parts (nat_le 2 (prefix_len is_scheme_byte content)) _ letter.1 in
      let size : length scheme ≡ prefix_len is_scheme_byte content = length-prefix_len is_scheme_byte content in
      let parts : content ≡ (scheme ++ 58 ∷ others) ++ left =
      sym (take-append-drop (prefix_len is_scheme_byte content) content)
      ∙ ap (λ xs. scheme ++ xs)
      (begun_by 58 rest begins.1 ∙ ap (λ xs. 58 ∷ xs) (sym (take-append-drop (prefix_len is_uri_byte (drop 1 rest)) (drop 1 rest))))
      ∙ sym (append_assoc scheme (58 ∷ others) left) in
      ap is_uri (text_of_parts content (scheme ++ 58 ∷ others) left parts)
      ∙ uri_whole scheme others (letter_first scheme others left (subst (λ xs. begins_with_letter xs ≡ true) parts letter.0))
      (omega (arith, size, leb-true 2 (prefix_len is_scheme_byte content) sized.0))
      (omega (arith, size, leb-true (prefix_len is_scheme_byte content) 32 sized.1))
      (passed_all is_scheme_byte content) (passed_all is_uri_byte (drop 1 rest)))
      (λ _. tt)

  email_alone : (content : List ℕ) → WhereSome (IsReadAlone true content) (email_end content)
  email_alone content =
      let user = take_while is_email_byte content in
      let rest = after_all is_email_byte content in
      let domain = take_while is_domain_byte (drop 1 rest) in
      let left = after_all is_domain_byte (drop 1 rest) in
      let test = nat_le 1 (prefix_len is_email_byte content) in
      cond_both (test && begins_with (codes "@") rest) (domain_end (drop 1 rest)) None (WhereSome (IsReadAlone true content))
      (λ e. cond_both (is_domain domain) (Some left) None (WhereSome (IsReadAlone true content))
      (λ is.
      let begins = and_parts test _ e in
      let size : length user ≡ prefix_len is_email_byte content = length-prefix_len is_email_byte content in
      let parts : content ≡ (user ++ 64 ∷ domain) ++ left =
      sym (take-append-drop (prefix_len is_email_byte content) content)
      ∙ ap (λ xs. user ++ xs)
      (begun_by 64 rest begins.1 ∙ ap (λ xs. 64 ∷ xs) (sym (take-append-drop (prefix_len is_domain_byte (drop 1 rest)) (drop 1 rest))))
      ∙ sym (append_assoc user (64 ∷ domain) left) in
      ap is_email (text_of_parts content (user ++ 64 ∷ domain) left parts)
      ∙ email_whole user domain (omega (arith, size, leb-true 1 (prefix_len is_email_byte content) begins.0))
      (passed_all is_email_byte content) (passed_all is_domain_byte (drop 1 rest)) is)
      (λ _. tt))
      (λ _. tt)

  closed_begins : (c : InlineCode) (cs : List InlineCode) → c.code ≡ 60 → (email : Bool) (o : Option (List ℕ)) → WhereSome (IsFilled (codes_of cs)) o
      → WhereSome (IsReadAlone email (codes_of cs)) o → Begins (c ∷ cs) (closed_autolink email (codes_of cs) o)
  closed_begins c cs first email None p alone = tt
  closed_begins c cs first email (Some rest) p alone =
      let content = codes_of cs in
      let text = text_before content rest in
      let inner = p.inner in
      let same : text ≡ inner.text = text_of_parts content inner.text rest inner.parts in
      begins_if (c ∷ cs) (begins_with (codes ">") rest) (Autolink email text) (length text + 2)
      (λ e.
      let front = 60 ∷ (text ++ 62 ∷ []) in
      let closed : content ≡ text ++ 62 ∷ drop 1 rest = inner.parts ∙ ap (λ xs. xs ++ rest) (sym same) ∙ ap (λ xs. text ++ xs) (begun_by 62 rest e) in
      let parts : codes_of (c ∷ cs) ≡ front ++ drop 1 rest =
      ap (λ x. x ∷ content) first ∙ ap (λ xs. 60 ∷ xs) (closed ∙ sym (append_assoc text (62 ∷ []) (drop 1 rest))) in
      let size : length text + 2 ≡ length front = omega (arith, length-append text (62 ∷ [])) in
      let split = front_codes front (drop 1 rest) (c ∷ cs) parts in
      record {
        codes = subst (λ n. AreCodes front (c ∷ cs) (drop n (c ∷ cs))) (sym size) split.0;
        some = subst (λ (xs : List ℕ). 0 < length xs) (sym same) p.some;
        inline = end_no_line text (subst InLine (sym same) inner.inline);
        target = alone;
      })

  autolink_begins : (from : List InlineCode) → Begins from (autolink_at context.options.constructs (codes_of from))
  autolink_begins [] =
      cond_both (context.options.constructs.autolink && false) (autolink_after []) None (Begins [])
      (λ e. absurd (true≢false (sym (and_parts context.options.constructs.autolink false e).1))) (λ _. tt)
  autolink_begins (c ∷ cs) =
      let content = codes_of cs in
      let on = context.options.constructs.autolink in
      let first = begins_with (codes "<") (c.code ∷ content) in
      cond_both (on && first) (autolink_after content) None (Begins (c ∷ cs))
      (λ e.
      let is : c.code ≡ 60 = sym (eqb-true 60 c.code (and_parts (60 == c.code) _ (and_parts on first e).1).0) in
      either_begins (c ∷ cs) (closed_autolink false content (uri_end content)) (closed_autolink true content (email_end content))
      (closed_begins c cs is false (uri_end content) (uri_inner content) (uri_alone content))
      (closed_begins c cs is true (email_end content) (email_inner content) (email_alone content)))
      (λ _. tt)

  html_formed : (from : List InlineCode) (o : Option (List ℕ)) → begins_with (codes "<") (codes_of from) ≡ true
      → WhereSome (λ rest. EndsWith (map html_byte (codes_of from)) (62 ∷ rest)) o
      → Begins from (html_leaf (codes_of from) o)
  html_formed from None begins closes = tt
  html_formed from (Some rest) begins closes =
      let n = length (codes_of from) - length rest in
      let ends = html_closed (codes_of from) rest closes in
      λ _. record {
        codes = subst (λ text. AreCodes text from (drop n from)) (codes_of_take n from) (codes_dropped n from);
        opened = taken_begins n (codes_of from) ends.0 ends.1 begins;
        front = ends.0;
        closed = ends.1;
      }

  html_begins : (from : List InlineCode) → Begins from (html_text_at context.options.constructs (codes_of from))
  html_begins from =
      let rest = html_end (map html_byte (codes_of from)) in
      cond_both (context.options.constructs.html_text && begins_with (codes "<") (codes_of from)) (html_leaf (codes_of from) rest) None (Begins from)
      (λ is. html_formed from rest (and_parts context.options.constructs.html_text (begins_with (codes "<") (codes_of from)) is).1
      (html_closes (map html_byte (codes_of from)))) (λ _. tt)

  -- ---- any construct

  leaf_begins : (from : List InlineCode) → Begins from (leaf_here context from)
  leaf_begins from =
      let on = context.options.constructs in
      let content = codes_of from in
      let math = may_open_math context.options (run 36 content) in
      either_begins from (leaf_at context content) (literal_at on from)
      (either_begins from (escape_at on content) _ (escape_begins from)
      (either_begins from (escaped_break_at on content) _ (break_begins from)
      (either_begins from (reference_at on context.names content) _ (reference_begins from)
      (either_begins from (code_text_at on content) _ (raw_begins 96 on.code_text (λ text a b is. is) from)
      (either_begins from (math_text_at context.options content) _ (raw_begins 36 math (λ text a b is. is) from)
      (either_begins from (autolink_at on content) _ (autolink_begins from)
      (either_begins from (html_text_at on content) _ (html_begins from)
      (either_begins from (line_end_at content) (line_spaces_at on content) (line_end_begins from) (spaces_begin from)))))))))
      (any_literal (Begins from) on from tt (λ kind text size is other. absurd (both_ways true other refl)))

  found_form : (part : InlineLeaf) (from to : List InlineCode) → IsFound context part from to → is_its_text part ≡ false → HasForm context part from to
  found_form part from to is other =
      let formed : Formed from (part ∷ []) is.size = subst (Begins from) is.here (leaf_begins from) in
      subst (λ x. HasForm context part from x) (sym is.after) (formed other)

pub leaf_law : LeafLaw
leaf_law context (Data b) from to is = is
leaf_law context (Literal kind text) from to is = is
leaf_law context (Escape b) from to is = found_form context (Escape b) from to is refl
leaf_law context (Character text) from to is = found_form context (Character text) from to is refl
leaf_law context (Code text) from to is = found_form context (Code text) from to is refl
leaf_law context (Math text) from to is = found_form context (Math text) from to is refl
leaf_law context (Autolink email text) from to is = found_form context (Autolink email text) from to is refl
leaf_law context (Html text) from to is = found_form context (Html text) from to is refl
leaf_law context EscapedBreak from to is = found_form context EscapedBreak from to is refl
leaf_law context TrailingBreak from to is = found_form context TrailingBreak from to is refl
leaf_law context (LineEnd code) from to is = found_form context (LineEnd code) from to is refl
leaf_law context (TaskCheck done) from to is = found_form context (TaskCheck done) from to is refl
