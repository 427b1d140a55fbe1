-- Text in a content: what the scan makes of it, and what stands after it.
use Rattle.std.proofs.Common.{◌≡◌, ℕ, zero, suc, ◌+◌, ◌-◌, ◌<◌, ◌≤◌, List, [], ◌∷◌, ◌++◌, Bool, true, false, not, eqb, leb, ◌||◌, ◌&&◌, Option, None, Some}
use Rattle.std.proofs.Common.{refl, sym, ap, ◌∙◌, get_or, length, map, drop, take, arith, subst, ◌⊎◌, inl, inr}
use Rattle.std.proofs.lemmas.Bool.{cases_Bool, cond-false, cond-true, eqb-true, eq-eqb, ne_eqb, le-leb, false≢true, true≢false, not-true, not-false, or_parts}
use Rattle.std.proofs.lemmas.Bool.{or_cases, or_from, and_left, and_right, and_from, and_parts}
use Rattle.std.proofs.lemmas.List.{append-nil, append_assoc, get_or-drop, length-drop, drop-drop}
use Rattle.markdown_options.specs.declared.configuration.Constructs.{Constructs}
use Rattle.markdown_options.specs.declared.configuration.ParseOptions.{ParseOptions}
use Rattle.definition_text.specs.Columns.{is_white, indent, bare}
use Rattle.definition_text.specs.Content.{content_codes, is_eol}
use Rattle.definition_inline.specs.HardBreak.{ends_here, escaped_break_at, line_end_at, line_spaces_at}
use Rattle.std.specs.Prelude.{codes}
use Rattle.definition_text.specs.Bytes.{begins_with}
use Rattle.definition_inline.specs.GfmLabelStartFootnote.{starts_call}
use Rattle.definition_inline.specs.Strings.{begins_with_eol}
use Rattle.definition_inline.specs.CharacterEscape.{escape_at}
use Rattle.definition_inline.specs.CharacterReference.{reference_at, reference_of}
use Rattle.definition_inline.specs.CodeText.{code_text_at}
use Rattle.definition_inline.specs.MathText.{may_open_math, math_text_at}
use Rattle.definition_text.specs.Runs.{run}
use Rattle.definition_inline.specs.Autolink.{autolink_at}
use Rattle.definition_inline.specs.HtmlText.{html_text_at}
use Rattle.definition_inline.specs.GfmAutolinkLiteral.{literal_at}
use Rattle.inline_literals.specs.Literals.{may_begin}
use Rattle.inline_literals.proofs.Found.{may_letter}
use Rattle.definition_text.specs.InlineCode.{InlineCode, codes_of}
use Rattle.definition_inline.specs.Inline.{Data, Found, leaf, LineEnd, or_else}
use Rattle.definition_inline.specs.Mark.{is_equals}
use Rattle.definition_inline.specs.Attention.{run_at}
use Rattle.definition_inline.specs.Spans.{Token}
use Rattle.definition_inline.specs.Scan.{InlineContext, leaf_at, leaf_here, label_start_at, text, Reading, reading, read_tokens, Next, step, scan}
use Rattle.definition_inline.proofs.Scanning.{scan_step, step_last, step_leaf}
use Rattle.inline_leaves.specs.Leaves.{leaf_items, text_items, IsAfter, IsWhite}
use Rattle.inline_leaves.specs.Scanned.{leaf_in, without_labels}
use Rattle.inline_leaves.proofs.Codes.{plain_code, plain_drop, at_return, is_after, cut_plain, cut_after_byte}
use Rattle.inline_text.specs.Plain.{is_special, starts, begins_more, front_leaf, goes_on, is_front_at, is_soft_at, is_text_at}

-- ---- a code at which nothing starts

-- a code that isn't one of these
pub record IsOther (c : ℕ) : Type 0 where
  pub backslash : eqb c 92 ≡ false
  pub ampersand : eqb c 38 ≡ false
  pub backtick : eqb c 96 ≡ false
  pub dollar : eqb c 36 ≡ false
  pub less : eqb c 60 ≡ false
  pub star : eqb c 42 ≡ false
  pub underscore : eqb c 95 ≡ false
  pub tilde : eqb c 126 ≡ false
  pub exclamation : eqb c 33 ≡ false
  pub opening : eqb c 91 ≡ false
  pub closing : eqb c 93 ≡ false
  pub ending : is_eol c ≡ false

pub is_other : (c : ℕ) → starts c ≡ false → IsOther c
is_other c h =
    let p = or_parts (is_special c) (is_eol c) h in
    let a = or_parts (eqb c 92) _ p.0 in
    let b = or_parts (eqb c 38) _ a.1 in
    let d = or_parts (eqb c 96) _ b.1 in
    let dollar = or_parts (eqb c 36) _ d.1 in
    let e = or_parts (eqb c 60) _ dollar.1 in
    let f = or_parts (eqb c 42) _ e.1 in
    let g = or_parts (eqb c 95) _ f.1 in
    let tilde = or_parts (eqb c 126) _ g.1 in
    let i = or_parts (eqb c 33) _ tilde.1 in
    let j = or_parts (eqb c 91) (eqb c 93) i.1 in
    record {
      backslash = a.0;
      ampersand = b.0;
      backtick = d.0;
      dollar = dollar.0;
      less = e.0;
      star = f.0;
      underscore = g.0;
      tilde = tilde.0;
      exclamation = i.0;
      opening = j.0;
      closing = j.1;
      ending = p.1;
    }

-- a space, a tab or a column of a tab
white_cases : (c : ℕ) → is_white c ≡ true → (c ≡ 32) ⊎ ((c ≡ 9) ⊎ (c ≡ 256))
white_cases c h =
    elim (or_cases (eqb c 32 || eqb c 9) (eqb c 256) h) [
      | inl p ↦
          elim (or_cases (eqb c 32) (eqb c 9) p) [
            | inl q ↦ inl (eqb-true c 32 q)
            | inr q ↦ inr (inl (eqb-true c 9 q))
          ]
      | inr p ↦ inr (inr (eqb-true c 256 p))
    ]

pub white_starts_not : (c : ℕ) → is_white c ≡ true → starts c ≡ false
white_starts_not c h = elim (white_cases c h) [
  | inl e ↦ ap starts e
  | inr p ↦ elim p [
    | inl e ↦ ap starts e
    | inr e ↦ ap starts e
  ]
]

-- what text is: nothing starts at it, and it isn't white space at the end of its line
pub text_is : (c : ℕ) (cs : List ℕ) → is_text_at (c ∷ cs) ≡ true → (starts c ≡ false) × ((leb 1 (indent (c ∷ cs)) && ends_here (bare (c ∷ cs))) ≡ false)
text_is c cs h = elim (cases_Bool (is_white c)) [
  | inl white ↦ (
    white_starts_not c white,
    and_right (leb 1 (indent (c ∷ cs))) _ (not-true _ (sym (cond-true (is_white c) _ _ white) ∙ h)),
  )
  | inr dark ↦ (
    not-true _ (sym (cond-false (is_white c) _ _ dark) ∙ h),
    and_left (leb 1 (indent (c ∷ cs))) _ (ap (λ k. leb 1 k) (cond-false (is_white c) _ _ dark)),
  )
]

flip : (a b : ℕ) → eqb a b ≡ false → eqb b a ≡ false
flip a b h = ne_eqb b a (λ e. true≢false (sym (eq-eqb a b (sym e)) ∙ h))

-- ---- each construct

no_escape : (on : Constructs) (c : ℕ) (cs : List ℕ) → eqb c 92 ≡ false → escape_at on (c ∷ cs) ≡ None
no_escape on c [] h = refl
no_escape on c (next ∷ cs) h = cond-false _ _ _ (and_right on.character_escape _ (and_left (eqb c 92) _ h))

no_escaped_break : (on : Constructs) (c : ℕ) (cs : List ℕ) → eqb c 92 ≡ false → escaped_break_at on (c ∷ cs) ≡ None
no_escaped_break on c cs h = cond-false _ _ _ (and_right on.hard_break_escape _ (and_left (eqb c 92) _ h))

no_reference : (on : Constructs) (names : List ℕ → Option (List ℕ)) (c : ℕ) (cs : List ℕ) → eqb c 38 ≡ false → reference_at on names (c ∷ cs) ≡ None
no_reference on names c cs h = elim (cases_Bool on.character_reference) [
  | inl is ↦ cond-true on.character_reference _ _ is ∙ ap (reference_of names (c ∷ cs)) (cond-false (eqb c 38) _ _ h)
  | inr isnt ↦ cond-false on.character_reference _ _ isnt
]

no_code : (on : Constructs) (c : ℕ) (cs : List ℕ) → eqb c 96 ≡ false → code_text_at on (c ∷ cs) ≡ None
no_code on c cs h = cond-false _ _ _ (and_right on.code_text _ (ap (λ n. not (eqb n 0)) (cond-false (eqb c 96) _ 0 h)))

no_math : (options : ParseOptions) (c : ℕ) (cs : List ℕ) → eqb c 36 ≡ false → math_text_at options (c ∷ cs) ≡ None
no_math options c cs h = cond-false _ _ _ (and_right (may_open_math options (run 36 (c ∷ cs))) _ (ap (λ n. not (eqb n 0)) (cond-false (eqb c 36) _ 0 h)))

no_autolink : (on : Constructs) (c : ℕ) (cs : List ℕ) → eqb c 60 ≡ false → autolink_at on (c ∷ cs) ≡ None
no_autolink on c cs h = cond-false _ _ _ (and_right on.autolink _ (and_left (eqb 60 c) _ (flip c 60 h)))

no_html : (on : Constructs) (c : ℕ) (cs : List ℕ) → eqb c 60 ≡ false → html_text_at on (c ∷ cs) ≡ None
no_html on c cs h = cond-false _ _ _ (and_right on.html_text _ (and_left (eqb 60 c) _ (flip c 60 h)))

or_none : (one other : Option Found) → one ≡ None → or_else one other ≡ other
or_none one other h = ap (λ o. or_else o other) h

pub text_leaf : (context : InlineContext) (c : ℕ) (cs : List ℕ) → is_text_at (c ∷ cs) ≡ true → leaf_at context (c ∷ cs) ≡ None
text_leaf context c cs h =
    let is = text_is c cs h in
    let o = is_other c is.0 in
    let on = context.options.constructs in
    or_none (escape_at on (c ∷ cs)) _ (no_escape on c cs o.backslash)
    ∙ or_none (escaped_break_at on (c ∷ cs)) _ (no_escaped_break on c cs o.backslash)
    ∙ or_none (reference_at on context.names (c ∷ cs)) _ (no_reference on context.names c cs o.ampersand)
    ∙ or_none (code_text_at on (c ∷ cs)) _ (no_code on c cs o.backtick)
    ∙ or_none (math_text_at context.options (c ∷ cs)) _ (no_math context.options c cs o.dollar)
    ∙ or_none (autolink_at on (c ∷ cs)) _ (no_autolink on c cs o.less)
    ∙ or_none (html_text_at on (c ∷ cs)) _ (no_html on c cs o.less)
    ∙ or_none (line_end_at (c ∷ cs)) _ (cond-false (is_eol c) _ _ o.ending)
    ∙ cond-false _ _ _ is.1

pub text_run : (options : ParseOptions) (c : InlineCode) (cs : List InlineCode) → starts c.code ≡ false
    → (options.constructs.mark && is_equals c.code) ≡ false → run_at options (c ∷ cs) ≡ None
text_run options c cs h unmarked =
    let on = options.constructs in
    let o = is_other c.code h in
    let emphasis = on.attention && (eqb c.code 42 || eqb c.code 95) in
    let strikes = on.gfm_strikethrough && eqb c.code 126 in
    let marks = on.mark && is_equals c.code in
    cond-false _ _ _
    (or_from emphasis (strikes || marks) (and_right on.attention _ (or_from (eqb c.code 42) (eqb c.code 95) o.star o.underscore))
    (or_from strikes marks (and_right on.gfm_strikethrough _ o.tilde) unmarked))

pub text_start : (on : Constructs) (c : ℕ) (cs : List ℕ) → starts c ≡ false → label_start_at on (c ∷ cs) ≡ None
text_start on c cs h =
    let o = is_other c h in
    let opening = flip c 91 o.opening in
    let image = and_right on.label_start_image (begins_with (codes "![") (c ∷ cs)) (and_left (eqb 33 c) _ (flip c 33 o.exclamation)) in
    cond-false _ _ _ (and_left (on.label_start_image && begins_with (codes "![") (c ∷ cs)) _ image)
    ∙ cond-false _ _ _
    (or_from (on.label_start_link && begins_with (codes "[") (c ∷ cs)) (starts_call on (c ∷ cs))
    (and_right on.label_start_link _ (and_left (eqb 91 c) _ opening)) (and_right on.gfm_label_start_footnote _ (and_left (eqb 91 c) _ opening)))

-- ---- what the scan makes of text

-- where no other construct begins, and no literal
pub none_here : (context : InlineContext) (content : List InlineCode) → leaf_at context (codes_of content) ≡ None
    → literal_at context.options.constructs content ≡ None → leaf_here context content ≡ None
none_here context content none no_literal = ap (λ o. or_else o (literal_at context.options.constructs content)) none ∙ no_literal

-- one code of text
pub text_step : (context : InlineContext) (r : Reading) (c : InlineCode) (cs : List InlineCode) → is_text_at (codes_of (c ∷ cs)) ≡ true
    → literal_at context.options.constructs (c ∷ cs) ≡ None → (context.options.constructs.mark && is_equals c.code) ≡ false → step context r c cs ≡ Next 0 (read_tokens (text_items (c.code ∷ [])) r)
text_step context r c cs h no_literal unmarked =
    let free = (text_is c.code (codes_of cs) h).0 in
    step_last context r c cs (none_here context (c ∷ cs) (text_leaf context c.code (codes_of cs) h) no_literal) (text_run context.options c cs free unmarked)
    (text_start context.options.constructs c.code (codes_of cs) free)
    ∙ cond-false _ _ _ (and_right context.options.constructs.label_end _ (is_other c.code free).closing)

-- an LF that no white space follows is a soft line break
soft_leaf : (context : InlineContext) (cs : List ℕ) → indent cs ≡ 0 → leaf_at context (10 ∷ cs) ≡ Some (leaf (LineEnd 10 ∷ []) 1)
soft_leaf context cs none =
    let on = context.options.constructs in
    or_none (escape_at on (10 ∷ cs)) _ (no_escape on 10 cs refl)
    ∙ or_none (escaped_break_at on (10 ∷ cs)) _ (no_escaped_break on 10 cs refl)
    ∙ or_none (reference_at on context.names (10 ∷ cs)) _ (no_reference on context.names 10 cs refl)
    ∙ or_none (code_text_at on (10 ∷ cs)) _ (no_code on 10 cs refl)
    ∙ or_none (math_text_at context.options (10 ∷ cs)) _ (no_math context.options 10 cs refl)
    ∙ or_none (autolink_at on (10 ∷ cs)) _ (no_autolink on 10 cs refl)
    ∙ or_none (html_text_at on (10 ∷ cs)) _ (no_html on 10 cs refl)
    ∙ ap (λ n. Some (leaf (LineEnd 10 ∷ []) (1 + n))) none

pub soft_step : (context : InlineContext) (r : Reading) (c : InlineCode) (cs : List InlineCode) → is_soft_at (codes_of (c ∷ cs)) ≡ true
    → step context r c cs ≡ Next 0 (read_tokens (leaf_items (LineEnd 10 ∷ [])) r)
soft_step context r c cs soft =
    let parts = and_parts (eqb c.code 10) (eqb (indent (codes_of cs)) 0) soft in
    step_leaf context r c cs (leaf (LineEnd 10 ∷ []) 1)
    (ap (λ o. or_else o (literal_at context.options.constructs (c ∷ cs)))
    (ap (λ b. leaf_at context (b ∷ codes_of cs)) (eqb-true c.code 10 parts.0)
    ∙ soft_leaf context (codes_of cs) (eqb-true (indent (codes_of cs)) 0 parts.1)))

-- tokens that are read one after another
pub read_none : (r : Reading) → read_tokens [] r ≡ r
read_none r = ap (λ tokens. reading (text tokens r.now.holds_link) r.open_labels) (append-nil r.now.tokens)

pub read_more : (first more : List Token) (r : Reading) → read_tokens more (read_tokens first r) ≡ read_tokens (first ++ more) r
read_more first more r = ap (λ tokens. reading (text tokens r.now.holds_link) r.open_labels) (append_assoc r.now.tokens first more)

-- one code of text, or a soft line break
front_step : (soft : Bool) (context : InlineContext) (r : Reading) (c : InlineCode) (cs : List InlineCode) → is_front_at soft (codes_of (c ∷ cs)) ≡ true
    → literal_at context.options.constructs (c ∷ cs) ≡ None → (context.options.constructs.mark && is_equals c.code) ≡ false
    → step context r c cs ≡ Next 0 (read_tokens (leaf_items (front_leaf soft c.code ∷ [])) r)
front_step soft context r c cs h no_literal unmarked = elim (or_cases (is_text_at (codes_of (c ∷ cs))) (soft && is_soft_at (codes_of (c ∷ cs))) h) [
  | inl text ↦
      let ending = (is_other c.code (text_is c.code (codes_of cs) text).0).ending in
      let no_feed = (or_parts (eqb c.code 10) (eqb c.code 13) (or_parts (eqb c.code 10 || eqb c.code 13) (eqb c.code 257) ending).0).0 in
      text_step context r c cs text no_literal unmarked
      ∙ ap (λ part. Next 0 (read_tokens (leaf_items (part ∷ [])) r)) (sym (cond-false _ (LineEnd 10) (Data c.code) (and_right soft (eqb c.code 10) no_feed)))
  | inr end ↦
      let parts = and_parts soft (is_soft_at (codes_of (c ∷ cs))) end in
      let feed = (and_parts (eqb c.code 10) (eqb (indent (codes_of cs)) 0) parts.1).0 in
      soft_step context r c cs parts.1
      ∙ ap (λ part. Next 0 (read_tokens (leaf_items (part ∷ [])) r))
      (sym (cond-true _ (LineEnd 10) (Data c.code) (and_from soft (eqb c.code 10) parts.0 feed)))
]

-- codes of text and soft line breaks
pub front_steps : (soft : Bool) (context : InlineContext) (n : ℕ) (r : Reading) (content : List InlineCode)
    → ((k : ℕ) → k < n → is_front_at soft (drop k (codes_of content)) ≡ true)
    → ((k : ℕ) → k < n → literal_at context.options.constructs (drop k content) ≡ None)
    → ((k : ℕ) → k < n → (context.options.constructs.mark && is_equals (get_or (codes_of content) k 0)) ≡ false)
    → scan context 0 r content ≡ scan context 0 (read_tokens (leaf_items (map (front_leaf soft) (take n (codes_of content)))) r) (drop n content)
front_steps soft context zero r content h no_literal unmarked = ap (λ x. scan context 0 x content) (sym (read_none r))
front_steps soft context (suc n) r [] h no_literal unmarked = ap (λ x. scan context 0 x []) (sym (read_none r))
front_steps soft context (suc n) r (c ∷ cs) h no_literal unmarked =
    let first = leaf_items (front_leaf soft c.code ∷ []) in
    let next = read_tokens first r in
    scan_step context r next c cs 0 (front_step soft context r c cs (h 0 (omega arith)) (no_literal 0 (omega arith)) (unmarked 0 (omega arith)))
    ∙ front_steps soft context n next cs (λ k lt. h (suc k) (omega arith)) (λ k lt. no_literal (suc k) (omega arith)) (λ k lt. unmarked (suc k) (omega arith))
    ∙ ap (λ x. scan context 0 x (drop n cs)) (read_more first (leaf_items (map (front_leaf soft) (take n (codes_of cs)))) r)

-- a code at which a construct may start, but none does
pub other_step : (context : InlineContext) (r : Reading) (c : InlineCode) (cs : List InlineCode) → leaf_here context (c ∷ cs) ≡ None
    → run_at context.options (c ∷ cs) ≡ None → label_start_at context.options.constructs (codes_of (c ∷ cs)) ≡ None
    → (context.options.constructs.label_end && eqb c.code 93) ≡ false
    → scan context 0 r (c ∷ cs) ≡ scan context 0 (read_tokens (text_items (c.code ∷ [])) r) cs
other_step context r c cs no_leaf no_run no_start no_end =
    scan_step context r (read_tokens (text_items (c.code ∷ [])) r) c cs 0 (step_last context r c cs no_leaf no_run no_start ∙ cond-false _ _ _ no_end)

-- ---- a code that isn't text, where no leaf begins

abbrev is_there : Option Found → Bool
is_there None = false
is_there (Some found) = true

there_not : (one : Option Found) → is_there one ≡ true → one ≡ None → ⊥
there_not one is none = false≢true (sym (ap is_there none) ∙ is)

else_none : (one other : Option Found) → or_else one other ≡ None → other ≡ None
else_none None other h = h
else_none (Some found) other h = absurd (there_not (Some found) refl h)

last_leaves : (context : InlineContext) (codes : List ℕ) → leaf_at context codes ≡ None
    → or_else (line_end_at codes) (line_spaces_at context.options.constructs codes) ≡ None
last_leaves context codes h =
    let on = context.options.constructs in
    else_none (html_text_at on codes) _ (else_none (autolink_at on codes) _
    (else_none (math_text_at context.options codes) _ (else_none (code_text_at on codes) _
    (else_none (reference_at on context.names codes) _ (else_none (escaped_break_at on codes) _ (else_none (escape_at on codes) _ h))))))

no_leaf_no_eol : (context : InlineContext) (c : ℕ) (cs : List ℕ) → leaf_at context (c ∷ cs) ≡ None → is_eol c ≡ false
no_leaf_no_eol context c cs h = elim (cases_Bool (is_eol c)) [
  | inl is ↦
      absurd (there_not _ (ap (λ o. is_there (or_else o (line_spaces_at context.options.constructs (c ∷ cs)))) (cond-true (is_eol c) _ _ is))
      (last_leaves context (c ∷ cs) h))
  | inr isnt ↦ isnt
]

pub special_first : (context : InlineContext) (c : ℕ) (cs : List ℕ) → is_text_at (c ∷ cs) ≡ false → leaf_at context (c ∷ cs) ≡ None
    → (starts c ≡ true) × (is_eol c ≡ false)
special_first context c cs h none = elim (cases_Bool (is_white c)) [
  | inl white ↦
      let ends : ends_here (bare (c ∷ cs)) ≡ true = not-false _ (sym (cond-true (is_white c) _ _ white) ∙ h) in
      let size : indent (c ∷ cs) ≡ 1 + indent cs = cond-true (is_white c) _ _ white in
      let some : leb 1 (indent (c ∷ cs)) ≡ true = le-leb 1 (indent (c ∷ cs)) (omega arith) in
      absurd (there_not (line_spaces_at context.options.constructs (c ∷ cs)) (ap is_there (cond-true _ _ _ (and_from (leb 1 (indent (c ∷ cs))) _ some ends)))
      (else_none (line_end_at (c ∷ cs)) _ (last_leaves context (c ∷ cs) none)))
  | inr dark ↦ (not-false _ (sym (cond-false (is_white c) _ _ dark) ∙ h), no_leaf_no_eol context c cs none)
]

-- ---- bytes

special_ascii : (c : ℕ) → is_special c ≡ true → c < 128
special_ascii c h = elim (cases_Bool (leb 128 c)) [
  | inl high ↦ absurd (false≢true (sym (not_special c high) ∙ h))
  | inr low ↦ below c low
]
  where
    below : (c : ℕ) → leb 128 c ≡ false → c < 128
    below c low = grind arith

    not_special : (c : ℕ) → leb 128 c ≡ true → is_special c ≡ false
    not_special c high =
        let le : 128 ≤ c = grind arith in
        or_from (eqb c 92) _ (ne_eqb c 92 (λ e. omega arith))
        (or_from (eqb c 38) _ (ne_eqb c 38 (λ e. omega arith))
        (or_from (eqb c 96) _ (ne_eqb c 96 (λ e. omega arith))
        (or_from (eqb c 36) _ (ne_eqb c 36 (λ e. omega arith))
        (or_from (eqb c 60) _ (ne_eqb c 60 (λ e. omega arith))
        (or_from (eqb c 42) _ (ne_eqb c 42 (λ e. omega arith))
        (or_from (eqb c 95) _ (ne_eqb c 95 (λ e. omega arith))
        (or_from (eqb c 126) _ (ne_eqb c 126 (λ e. omega arith))
        (or_from (eqb c 33) _ (ne_eqb c 33 (λ e. omega arith))
        (or_from (eqb c 91) (eqb c 93) (ne_eqb c 91 (λ e. omega arith)) (ne_eqb c 93 (λ e. omega arith)))))))))))

-- each of so many bytes at the front is a code that passes a test
pub record IsFilled (test : List ℕ → Bool) (bytes : List ℕ) (size : ℕ) : Type 0 where
  pub within : size ≤ length bytes
  pub text : (k : ℕ) → k < size → test (drop k (content_codes bytes)) ≡ true
  pub plain : (k : ℕ) → k < size → get_or bytes k 0 ≡ 13 → ⊥

-- so many are text
abbrev pub IsText : List ℕ → ℕ → Type 0
IsText bytes size = IsFilled is_text_at bytes size

pub no_text : (bytes : List ℕ) → IsText bytes 0
no_text bytes = record { within = omega arith; text = λ k lt. absurd (omega arith); plain = λ k lt. absurd (omega arith) }

-- some bytes, and more of them
pub more_text : {test : List ℕ → Bool} → (bytes : List ℕ) (at size next : ℕ) → next ≡ at + size → IsFilled test bytes at
    → IsFilled test (drop at bytes) size → IsFilled test bytes next
more_text {test} bytes at size next e first more = record {
  within = omega (arith, e, first.within, more.within, length-drop at bytes);
  text = λ k lt. elim (cases_Bool (leb at k)) [
    | inl after ↦
        let le : at ≤ k = grind arith in
        let there : at + (k - at) ≡ k = omega arith in
        ap test (ap (λ n. drop n (content_codes bytes)) (sym there) ∙ sym (drop-drop (k - at) at (content_codes bytes))
        ∙ ap (drop (k - at)) (plain_drop at bytes first.within first.plain))
        ∙ more.text (k - at) (omega (arith, lt, e))
    | inr before ↦ first.text k (grind arith)
  ];
  plain = λ k lt. elim (cases_Bool (leb at k)) [
    | inl after ↦
        let le : at ≤ k = grind arith in
        let there : at + (k - at) ≡ k = omega arith in
        λ return. more.plain (k - at) (omega (arith, lt, e)) (get_or-drop at bytes (k - at) 0 ∙ ap (λ n. get_or bytes n 0) there ∙ return)
    | inr before ↦ first.plain k (grind arith)
  ];
}

-- a byte at which nothing starts
pub byte_text : (b : ℕ) (bs : List ℕ) → is_white b ≡ false → starts b ≡ false → IsText (b ∷ bs) 1
byte_text b bs dark free = record {
  within = omega arith;
  text = λ k lt. here k (omega arith);
  plain = λ k lt. no_return k (omega arith);
}
  where
    apart : b ≡ 13 → ⊥
    apart e = false≢true (sym (is_other b free).ending ∙ ap is_eol e)

    here : (k : ℕ) → k ≡ 0 → is_text_at (drop k (content_codes (b ∷ bs))) ≡ true
    here k e = ap (λ n. is_text_at (drop n (content_codes (b ∷ bs)))) e ∙ ap is_text_at (plain_code b bs apart) ∙ cond-false (is_white b) _ _ dark ∙ ap not free

    no_return : (k : ℕ) → k ≡ 0 → get_or (b ∷ bs) k 0 ≡ 13 → ⊥
    no_return k e return = apart (ap (λ n. get_or (b ∷ bs) n 0) (sym e) ∙ return)

-- white space before something else on its line
white_at : (codes : List ℕ) (k : ℕ) → k < indent codes → ends_here (bare codes) ≡ false → is_text_at (drop k codes) ≡ true
white_at [] k lt on = absurd (omega arith)
white_at (c ∷ cs) zero lt on = elim (cases_Bool (is_white c)) [
  | inl white ↦ cond-true (is_white c) _ _ white ∙ ap not on
  | inr dark ↦ let e : indent (c ∷ cs) ≡ 0 = cond-false (is_white c) _ _ dark in absurd (omega arith)
]
white_at (c ∷ cs) (suc k) lt on = elim (cases_Bool (is_white c)) [
  | inl white ↦
      let e : indent (c ∷ cs) ≡ 1 + indent cs = cond-true (is_white c) _ _ white in
      let f : indent (c ∷ cs) ≡ suc (indent cs) = omega arith in
      white_at cs k (omega arith) (sym (ap (λ n. ends_here (drop n (c ∷ cs))) f) ∙ on)
  | inr dark ↦ let e : indent (c ∷ cs) ≡ 0 = cond-false (is_white c) _ _ dark in absurd (omega arith)
]

pub white_text : (bytes : List ℕ) (size : ℕ) → IsWhite bytes size → ends_here (content_codes (drop size bytes)) ≡ false → IsText bytes size
white_text bytes size white on = record {
  within = white.within;
  text = λ k lt. white_at (content_codes bytes) k (omega (arith, lt, white.indent)) (ap ends_here (sym white.bare) ∙ on);
  plain = λ k lt e. false≢true (ap is_white (sym e) ∙ white.passes k lt);
}

-- ---- where text ends

-- white space at the end of its line
pub white_stop : (b : ℕ) (bs : List ℕ) (size : ℕ) → IsWhite (b ∷ bs) size → is_white b ≡ true → ends_here (content_codes (drop size (b ∷ bs))) ≡ true
    → is_text_at (content_codes (b ∷ bs)) ≡ false
white_stop b bs size is white ends =
    let same = plain_code b bs (λ e. false≢true (ap is_white (sym e) ∙ white)) in
    ap is_text_at same ∙ cond-true (is_white b) _ _ white
    ∙ ap not (ap (λ cs. ends_here (bare cs)) (sym same) ∙ ap ends_here (sym is.bare) ∙ ends)

-- a byte at which something may start
pub special_stop : (b : ℕ) (bs : List ℕ) → is_white b ≡ false → starts b ≡ true → is_text_at (content_codes (b ∷ bs)) ≡ false
special_stop b bs dark special = elim (cases_Bool (eqb b 13)) [
  | inl h ↦
      ap (λ x. is_text_at (content_codes (x ∷ bs))) (eqb-true b 13 h)
      ∙ at_return is_text_at false bs (λ cs. refl) (λ cs. refl)
  | inr h ↦ ap is_text_at (cond-false (eqb b 13) _ _ h) ∙ cond-false (is_white b) _ _ dark ∙ ap not special
]

-- the end of text that isn't empty
pub text_end : {test : List ℕ → Bool} → (bytes : List ℕ) (size : ℕ) → IsFilled test bytes size → 0 < size → IsAfter bytes (drop size bytes)
text_end bytes size is some = is_after bytes (drop size bytes) size refl some is.within (cut_plain bytes size is.within is.plain)

-- the first byte where text ends and no leaf begins: ASCII, no line ending, and one code
pub record IsSpecial (bytes : List ℕ) : Type 0 where
  pub ascii : get_or bytes 0 0 < 128
  pub apart_return : get_or bytes 0 0 ≡ 13 → ⊥
  pub apart_feed : get_or bytes 0 0 ≡ 10 → ⊥
  pub place : IsAfter bytes (drop 1 bytes)

pub special_byte : (options : ParseOptions) (names : List ℕ → Option (List ℕ)) (bytes : List ℕ) → 0 < length bytes
    → is_text_at (content_codes bytes) ≡ false → leaf_in options names (content_codes bytes) ≡ None → IsSpecial bytes
special_byte options names [] some stop none = absurd (omega arith)
special_byte options names (b ∷ bs) some stop none = elim (cases_Bool (eqb b 13)) [
  | inl h ↦ absurd (returned (eqb-true b 13 h))
  | inr h ↦ other (λ e. true≢false (sym (ap (λ x. eqb x 13) e) ∙ h))
]
  where
    context : InlineContext
    context = without_labels options names

    ends : (codes : List ℕ) → is_text_at codes ≡ false → leaf_at context codes ≡ None → begins_with_eol codes ≡ true → ⊥
    ends [] stop none eol = false≢true eol
    ends (c ∷ cs) stop none eol = false≢true (sym (special_first context c cs stop none).1 ∙ eol)

    returned : b ≡ 13 → ⊥
    returned e = ends (content_codes (b ∷ bs)) stop none (ap (λ x. begins_with_eol (content_codes (x ∷ bs))) e
        ∙ at_return begins_with_eol true bs (λ cs. refl) (λ cs. refl))

    other : (b ≡ 13 → ⊥) → IsSpecial (b ∷ bs)
    other apart =
        let same = plain_code b bs apart in
        let first = special_first context b (content_codes bs) (ap is_text_at (sym same) ∙ stop) (ap (leaf_at context) (sym same) ∙ none) in
        let special : is_special b ≡ true = elim (or_cases (is_special b) (is_eol b) first.0) [
          | inl is ↦ is
          | inr eol ↦ absurd (false≢true (sym first.1 ∙ eol))
        ] in
        record {
          ascii = special_ascii b special;
          apart_return = apart;
          apart_feed = λ e. false≢true (sym first.1 ∙ ap is_eol e);
          place = is_after (b ∷ bs) bs 1 refl (omega arith) (omega arith) (cut_after_byte (b ∷ bs) 1 (omega arith) apart);
        }

-- where marked text or a literal begins: an ASCII byte after the space
pub more_byte : (on m : Bool) (bytes : List ℕ) → begins_more on m bytes ≡ true → (32 < get_or bytes 0 0) × (get_or bytes 0 0 < 128)
more_byte on m bytes more = elim (or_cases (m && is_equals (get_or bytes 0 0)) (on && may_begin bytes) more) [
  | inl equals ↦
      let is : get_or bytes 0 0 ≡ 61 = eqb-true (get_or bytes 0 0) 61 (and_parts m _ equals).1 in
      (omega (arith, is), omega (arith, is))
  | inr letters ↦
      let letter = (may_letter bytes (and_parts on _ letters).1).1 in
      (omega (arith, letter.0), letter.1)
]

started_byte : (on m : Bool) (bytes : List ℕ) → 0 < length bytes → begins_more on m bytes ≡ true → IsSpecial bytes
started_byte on m bytes some more =
    let byte = more_byte on m bytes more in
    let apart : get_or bytes 0 0 ≡ 13 → ⊥ = λ e. omega (arith, e, byte.0) in
    record {
      ascii = byte.1;
      apart_return = apart;
      apart_feed = λ e. omega (arith, e, byte.0);
      place = is_after bytes (drop 1 bytes) 1 refl (omega arith) (omega (arith, some)) (cut_after_byte bytes 1 (omega (arith, some)) apart);
    }

-- a place at which text ends
pub text_stops : {test : List ℕ → Bool} → (bytes : List ℕ) (size : ℕ) → IsFilled test bytes size → is_text_at (content_codes (drop size bytes)) ≡ false
    → is_text_at (drop size (content_codes bytes)) ≡ false
text_stops bytes size is stop = ap is_text_at (plain_drop size bytes is.within is.plain) ∙ stop

-- no text at the front: a construct may start there
pub nothing_is_text : (on m : Bool) (bytes : List ℕ) (size : ℕ) → size ≡ 0 → 0 < length bytes
    → (size < length bytes → (is_text_at (drop size (content_codes bytes)) ≡ false)
    ⊎ ((begins_more on m (drop size bytes) ≡ true) ⊎ ((0 < size) × (goes_on on (get_or bytes size 0) ≡ true))))
    → (is_text_at (content_codes bytes) ≡ false) ⊎ (begins_more on m bytes ≡ true)
nothing_is_text on m bytes size e some stops = elim (stops (omega (arith, e, some))) [
  | inl stop ↦ inl (subst (λ n. is_text_at (drop n (content_codes bytes)) ≡ false) e stop)
  | inr other ↦ elim other [
    | inl more ↦ inr (subst (λ n. begins_more on m (drop n bytes) ≡ true) e more)
    | inr later ↦ absurd (omega (arith, e, later.0))
  ]
]

-- a place at which nothing is text and no leaf begins
pub stopped : (on m : Bool) (options : ParseOptions) (names : List ℕ → Option (List ℕ)) (bytes : List ℕ) → 0 < length bytes
    → (is_text_at (content_codes bytes) ≡ false) ⊎ (begins_more on m bytes ≡ true) → leaf_in options names (content_codes bytes) ≡ None → IsSpecial bytes
stopped on m options names bytes some stops none = elim stops [
  | inl stop ↦ special_byte options names bytes some stop none
  | inr more ↦ started_byte on m bytes some more
]
