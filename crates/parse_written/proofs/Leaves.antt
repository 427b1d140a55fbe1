-- Each construct that holds no other is read as its tokens.
use Rattle.std.proofs.Common.{inl, inr, ◌≡◌, ℕ, zero, suc, ◌+◌, ◌-◌, Bool, true, false, cond, ◌&&◌, List, [], ◌∷◌, map, Option, None, Some, length, take}
use Rattle.std.proofs.Common.{drop, refl, sym, ap, ◌∙◌, subst, arith}
use Rattle.parse_written.proofs.Prelude.{after_run, AreCodes, AsLeaf, Autolink, autolink_after, autolink_at, bare, both_ways, cases_Bool, Character}
use Rattle.parse_written.proofs.Prelude.{CharacterReference, closed_autolink, Code, code_text, code_text_at, codes_of, cond-true, cond_both, Constructs, Data}
use Rattle.parse_written.proofs.Prelude.{email_end, EndNoLine, ends_here, eqb-true, Escape, escape_at, escaped_break_at, EscapedBreak, Found, Html, html_byte}
use Rattle.parse_written.proofs.Prelude.{html_end, html_leaf, html_text_at, indent, InlineCode, InlineContext, InlineLeaf, is_eol, is_trailing_break, IsFound}
use Rattle.parse_written.proofs.Prelude.{IsLeafWritten, Item, Leaf, leaf, leaf_at, leaf_here, leaf_tokens, line_end_at, line_spaces_at, LineEnd, Literal}
use Rattle.parse_written.proofs.Prelude.{literal_at, Math, math_text_at, may_open_math, Names, nat_le, or_else, Part, raw_at, raw_leaf, raw_part, reference_at}
use Rattle.parse_written.proofs.Prelude.{reference_form, reference_leaf, reference_of, reference_text, run, run_of, text_before, TrailingBreak, up_to, uri_end}
use Rattle.parse_written.proofs.Prelude.{where_passed, WhereSome, ◌==◌}
use Rattle.parse_written.proofs.Codes.{codes_dropped}
use Rattle.parse_written.proofs.Between.{byte_written, AreRead, NoTokens, SomeSpaces, OnePart, one_part}

-- a leaf that is written as its text
abbrev pub is_its_text : InlineLeaf → Bool
is_its_text (Data b) = true
is_its_text (Literal kind text) = true
is_its_text other = false

-- what a construct finds: no part before the end of a line, one leaf that isn't its text, or a run of a byte as text
pub data IsForm (on : Constructs) (content : List ℕ) : Found → Type 0 where
  NoPart : (size : ℕ) → line_spaces_at on content ≡ Some (leaf [] size) → IsForm on content (leaf [] size)
  OnlyPart : (part : InlineLeaf) (size : ℕ) → is_its_text part ≡ false → IsForm on content (leaf (part ∷ []) size)
  RunOfBytes : (marker : ℕ) → is_eol marker ≡ false → IsForm on content (leaf (map Data (take (run marker content) content)) (run marker content))

module _ (on : Constructs) (content : List ℕ) where
  abbrev pub MayForm : Option Found → Type 0
  MayForm o = WhereSome (IsForm on content) o

  pub either_forms : (a b : Option Found) → MayForm a → MayForm b → MayForm (or_else a b)
  either_forms None b p q = q
  either_forms (Some found) b p q = p

  form_if : (test : Bool) (part : InlineLeaf) (size : ℕ) → is_its_text part ≡ false → MayForm (cond test (Some (leaf (part ∷ []) size)) None)
  form_if test part size other = where_passed (IsForm on content) test (leaf (part ∷ []) size) (OnlyPart part size other)

form_escape : (on : Constructs) (content : List ℕ) → MayForm on content (escape_at on content)
form_escape on [] = tt
form_escape on (c ∷ []) = tt
form_escape on (c ∷ next ∷ cs) = form_if on (c ∷ next ∷ cs) _ (Escape next) 2 refl

form_break : (on : Constructs) (content : List ℕ) → MayForm on content (escaped_break_at on content)
form_break on [] = tt
form_break on (c ∷ cs) = form_if on (c ∷ cs) _ EscapedBreak 1 refl

form_text : (on : Constructs) (content : List ℕ) (size : ℕ) (text : Option (List ℕ)) → MayForm on content (reference_leaf size text)
form_text on content size None = tt
form_text on content size (Some text) = OnlyPart (Character text) size refl

form_reference_of : (on : Constructs) (names : Names) (content : List ℕ) (found : Option CharacterReference)
    → MayForm on content (reference_of names content found)
form_reference_of on names content None = tt
form_reference_of on names content (Some found) = form_text on content (length content - length found.rest) (reference_text names found.name)

form_reference : (on : Constructs) (names : Names) (content : List ℕ) → MayForm on content (reference_at on names content)
form_reference on names content =
    cond_both on.character_reference (reference_of names content (reference_form content)) None (MayForm on content)
    (λ _. form_reference_of on names content (reference_form content)) (λ _. tt)

form_line_end : (on : Constructs) (content : List ℕ) → MayForm on content (line_end_at content)
form_line_end on [] = tt
form_line_end on (c ∷ cs) = form_if on (c ∷ cs) (is_eol c) (LineEnd c) (1 + indent cs) refl

form_spaces : (on : Constructs) (content : List ℕ) → MayForm on content (line_spaces_at on content)
form_spaces on content =
    let size = indent content in
    let breaks = on.hard_break_trailing && is_trailing_break content in
    let test = nat_le 1 size && ends_here (bare content) in
    let parts = cond breaks (TrailingBreak ∷ []) [] in
    cond_both test (Some (leaf parts size)) None (MayForm on content)
    (λ e. line_spaces on content size breaks (cond-true test (Some (leaf parts size)) None e)) (λ _. tt)
  where
    line_spaces : (on : Constructs) (content : List ℕ) (size : ℕ) (breaks : Bool)
        → line_spaces_at on content ≡ Some (leaf (cond breaks (TrailingBreak ∷ []) []) size)
        → IsForm on content (leaf (cond breaks (TrailingBreak ∷ []) []) size)
    line_spaces on content size true is = OnlyPart TrailingBreak size refl
    line_spaces on content size false is = NoPart size is

raw_is_other : (marker : ℕ) (text : List ℕ) → is_its_text (raw_part marker text) ≡ false
raw_is_other marker text =
    cond_both (marker == 36) (Math (code_text text)) (Code (code_text text)) (λ part. is_its_text part ≡ false) (λ _. refl) (λ _. refl)

form_raw_leaf : (on : Constructs) (marker : ℕ) (content : List ℕ) (found : Option Part) → is_eol marker ≡ false
    → IsForm on content (raw_leaf marker (run marker content) content found)
form_raw_leaf on marker content None inline = RunOfBytes marker inline
form_raw_leaf on marker content (Some found) inline =
    OnlyPart (raw_part marker found.text) (run marker content + length found.text + run marker content) (raw_is_other marker found.text)

form_raw : (on : Constructs) (marker : ℕ) (may_open : Bool) (content : List ℕ) → is_eol marker ≡ false → MayForm on content (raw_at marker may_open content)
form_raw on marker may_open content inline =
    let found : Option Part = up_to (after_run marker content) (run_of marker (run marker content) false (after_run marker content)) in
    where_passed (IsForm on content) _ (raw_leaf marker (run marker content) content found) (form_raw_leaf on marker content found inline)

form_closed : (on : Constructs) (content : List ℕ) (is_email : Bool) (inner : List ℕ) (rest : Option (List ℕ))
    → MayForm on content (closed_autolink is_email inner rest)
form_closed on content is_email inner None = tt
form_closed on content is_email inner (Some rest) =
    form_if on content _ (Autolink is_email (text_before inner rest)) (length (text_before inner rest) + 2) refl

form_autolink : (on : Constructs) (content : List ℕ) → MayForm on content (autolink_at on content)
form_autolink on content =
    let inner = drop 1 content in
    cond_both (on.autolink && _) (autolink_after inner) None (MayForm on content)
    (λ _. either_forms on content (closed_autolink false inner (uri_end inner)) (closed_autolink true inner (email_end inner))
    (form_closed on content false inner (uri_end inner)) (form_closed on content true inner (email_end inner)))
    (λ _. tt)

form_html_leaf : (on : Constructs) (content : List ℕ) (rest : Option (List ℕ)) → MayForm on content (html_leaf content rest)
form_html_leaf on content None = tt
form_html_leaf on content (Some rest) = OnlyPart (Html (take (length content - length rest) content)) (length content - length rest) refl

form_html : (on : Constructs) (content : List ℕ) → MayForm on content (html_text_at on content)
form_html on content =
    let rest = html_end (map html_byte content) in
    cond_both (on.html_text && _) (html_leaf content rest) None (MayForm on content) (λ _. form_html_leaf on content rest) (λ _. tt)

-- each construct but a literal
pub leaf_forms : (context : InlineContext) (content : List ℕ) → MayForm context.options.constructs content (leaf_at context content)
leaf_forms context content =
    let on = context.options.constructs in
    let math = may_open_math context.options (run 36 content) in
    either_forms on content (escape_at on content) _ (form_escape on content)
    (either_forms on content (escaped_break_at on content) _ (form_break on content)
    (either_forms on content (reference_at on context.names content) _ (form_reference on context.names content)
    (either_forms on content (code_text_at on content) _ (form_raw on 96 on.code_text content refl)
    (either_forms on content (math_text_at context.options content) _ (form_raw on 36 math content refl)
    (either_forms on content (autolink_at on content) _ (form_autolink on content)
    (either_forms on content (html_text_at on content) _ (form_html on content)
    (either_forms on content (line_end_at content) (line_spaces_at on content) (form_line_end on content) (form_spaces on content))))))))

-- ---- their tokens

run_inline : (marker : ℕ) (content : List ℕ) → is_eol marker ≡ false → EndNoLine (take (run marker content) content)
run_inline marker [] inline = tt
run_inline marker (c ∷ cs) inline =
    cond_both (c == marker) (1 + run marker cs) 0 (λ n. EndNoLine (take n (c ∷ cs)))
    (λ same. one (1 + run marker cs) (run marker cs) (omega arith) (subst (λ b. is_eol b ≡ false) (sym (eqb-true c marker same)) inline)
    (run_inline marker cs inline))
    (λ _. tt)
  where
    one : (n m : ℕ) → n ≡ suc m → is_eol c ≡ false → EndNoLine (take m cs) → EndNoLine (take n (c ∷ cs))
    one n m is first others = subst (λ k. EndNoLine (take k (c ∷ cs))) (sym is) (first, others)

pub codes_of_take : (n : ℕ) (content : List InlineCode) → codes_of (take n content) ≡ take n (codes_of content)
codes_of_take zero content = refl
codes_of_take (suc n) [] = refl
codes_of_take (suc n) (c ∷ cs) = ap (λ codes. c.code ∷ codes) (codes_of_take n cs)

module _ (context : InlineContext) where
  -- text as bytes
  pub bytes_read : (text : List ℕ) (a b : List InlineCode) → AreCodes text a b → EndNoLine text
      → AreRead context (map (λ (part : InlineLeaf). Item (Leaf part)) (map Data text)) a b
  bytes_read [] a b is inline = subst (λ k. AreRead context [] a k) is (NoTokens a)
  bytes_read (x ∷ xs) [] b is inline = absurd is
  bytes_read (x ∷ xs) (c ∷ cs) b is inline =
      OnePart (Leaf (Data x)) _ (c ∷ cs) cs b (byte_written context x c cs is.0 inline.0) (bytes_read xs cs b is.1 inline.1)

  found_written : (part : InlineLeaf) (a b : List InlineCode) → is_its_text part ≡ false → IsFound context part a b → IsLeafWritten context part a b
  found_written (Data x) a b other is = absurd (both_ways true other refl)
  found_written (Literal kind text) a b other is = absurd (both_ways true other refl)
  found_written part a b other is = is

  form_read : (content : List InlineCode) (found : Found) → leaf_here context content ≡ Some found
      → IsForm context.options.constructs (codes_of content) found
      → AreRead context (leaf_tokens found) content (drop found.size content)
  form_read content _ here (NoPart size is) =
      let next = drop size content in SomeSpaces [] content next next (record { size = size; here = is; after = refl }) (NoTokens next)
  form_read content _ here (OnlyPart part size other) =
      let next = drop size content in
      let is : IsFound context part content next = record { size = size; here = here; after = refl } in
      one_part context (Leaf part) content next (AsLeaf part content next (found_written part content next other is))
  form_read content _ here (RunOfBytes marker inline) =
      let n = run marker (codes_of content) in
      bytes_read (take n (codes_of content)) content (drop n content)
      (subst (λ text. AreCodes text content (drop n content)) (codes_of_take n content) (codes_dropped n content))
      (run_inline marker (codes_of content) inline)

  -- how literals are read
  abbrev pub LiteralsRead : Type 0
  LiteralsRead = (content : List InlineCode) (found : Found) → literal_at context.options.constructs content ≡ Some found
      → AreRead context (leaf_tokens found) content (drop found.size content)

  module _ (literals : LiteralsRead) where
    either_read : (content : List InlineCode) (found : Found) (o : Option Found) → leaf_at context (codes_of content) ≡ o
        → MayForm context.options.constructs (codes_of content) o
        → leaf_here context content ≡ Some found → or_else o (literal_at context.options.constructs content) ≡ Some found
        → AreRead context (leaf_tokens found) content (drop found.size content)
    either_read content found None is form here either = literals content found either
    either_read content found (Some other) is form here either =
        form_read content found here (subst (λ o. WhereSome (IsForm context.options.constructs (codes_of content)) o) either form)

    -- what begins here is read as its tokens
    pub leaf_read : (content : List InlineCode) (found : Found) → leaf_here context content ≡ Some found
        → AreRead context (leaf_tokens found) content (drop found.size content)
    leaf_read content found here =
        either_read content found (leaf_at context (codes_of content)) refl (leaf_forms context (codes_of content)) here here

-- ---- where nothing begins

none_after : (a b : Option Found) → or_else a b ≡ None → b ≡ None
none_after None b e = e
none_after (Some found) b e = absurd (let no : Some found ≡ None = e in cc)

none_first : (a b : Option Found) → or_else a b ≡ None → a ≡ None
none_first None b e = refl
none_first (Some found) b e = e

-- no line ends where nothing begins
pub bare_inline : (context : InlineContext) (c : InlineCode) (cs : List InlineCode) → leaf_here context (c ∷ cs) ≡ None → is_eol c.code ≡ false
bare_inline context c cs none =
    let on = context.options.constructs in
    let content = codes_of (c ∷ cs) in
    let no_leaf = none_first (leaf_at context content) (literal_at on (c ∷ cs)) none in
    let no_end : or_else (line_end_at content) (line_spaces_at on content) ≡ None =
    none_after (html_text_at on content) _ (none_after (autolink_at on content) _ (none_after (math_text_at context.options content) _
    (none_after (code_text_at on content) _ (none_after (reference_at on context.names content) _ (none_after (escaped_break_at on content) _
    (none_after (escape_at on content) _ no_leaf)))))) in
    let here : line_end_at content ≡ None = none_first (line_end_at content) (line_spaces_at on content) no_end in
    elim (cases_Bool (is_eol c.code)) [
      | inl ends ↦
          let some : line_end_at content ≡ Some (leaf (LineEnd c.code ∷ []) (1 + indent (codes_of cs))) =
          cond-true (is_eol c.code) (Some (leaf (LineEnd c.code ∷ []) (1 + indent (codes_of cs)))) None ends in
          absurd (let no : Some (leaf (LineEnd c.code ∷ []) (1 + indent (codes_of cs))) ≡ None = sym some ∙ here in cc)
      | inr inline ↦ inline
    ]
