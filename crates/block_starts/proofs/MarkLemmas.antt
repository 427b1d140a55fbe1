-- Rests without a marker, and lines of items.
use Rattle.std.proofs.Common.{◌≡◌, ℕ, ◌<◌, ◌≤◌, ◌^◌, ◌+◌, [], ◌∷◌, Bool, true, false, ◌&&◌, ◌||◌, not, Option, None, Some, inl, inr, eqb, leb, refl, sym, ap}
use Rattle.std.proofs.Common.{◌∙◌, length, drop, min, arith}
use Rattle.std.specs.List.{list_all, prefix_len}
use Rattle.std.proofs.Math.Nat.{pow-le-pow_right}
use Rattle.std.proofs.lemmas.Bool.{cases_Bool, cond-true, cond-false, cond_both, eq-eqb, ne_eqb, and_parts, or_parts, or_from, leb-true}
use Rattle.std.proofs.lemmas.List.{drop_min}
use Rattle.markdown_options.specs.declared.configuration.Constructs.{Constructs}
use Rattle.definition_text.specs.Columns.{Rest, bare, indent, is_white, is_blank}
use Rattle.definition_text.specs.Indents.{outdent, small_indent}
use Rattle.definition_block.specs.BlockQuote.{after_byte, after_mark, quote_prefix}
use Rattle.definition_block.specs.ContainerStart.{ContainerStart}
use Rattle.definition_block.specs.ThematicBreak.{is_break}
use Rattle.definition_block.specs.ListItem.{is_digit, bullet, after_number, marker, item_after, item_start, is_inside}
use Rattle.definition_block.specs.GfmFootnoteDefinition.{after_open, after_bracket, footnote_mark, footnote_of, footnote_start}
use Rattle.definition_block.specs.Containers.{quote_or, footnote_or, starts}
use Rattle.block_starts.specs.Marks.{NoMark, is_mark, begins_with_caret, begins_with_marker, container_may_start, footnote_may_start, may_start}

-- ---- no marker

other_byte : (b byte : ℕ) → is_mark b ≡ false → is_mark byte ≡ true → eqb b byte ≡ false
other_byte b byte never mark = ne_eqb b byte (λ e. let wrong : false ≡ true = sym never ∙ ap is_mark e ∙ mark in cc)

pub after_byte_none : (byte : ℕ) (rest : Rest) → is_mark byte ≡ true → NoMark rest → after_byte byte rest ≡ None
after_byte_none byte [] mark never = refl
after_byte_none byte (b ∷ bs) mark never = cond-false (eqb b byte) _ _ (other_byte b byte (never b bs refl) mark)

pub quote_none : (on : Constructs) (rest : Rest) → NoMark (bare rest) → quote_prefix on rest ≡ None
quote_none on rest never =
    elim (cases_Bool (on.block_quote && small_indent on rest)) [
      | inl h ↦ cond-true (on.block_quote && small_indent on rest) _ _ h ∙ ap after_mark (after_byte_none 62 (bare rest) refl never)
      | inr h ↦ cond-false (on.block_quote && small_indent on rest) _ _ h
    ]

pub bullet_none : (rest : Rest) → NoMark rest → bullet rest ≡ None
bullet_none [] never = refl
bullet_none (b ∷ bs) never =
    let none = never b bs refl in
    cond-false (eqb b 45 || eqb b 43 || eqb b 42) _ _
    (or_from (eqb b 45 || eqb b 43) (eqb b 42) (or_from (eqb b 45) (eqb b 43) (other_byte b 45 none refl) (other_byte b 43 none refl))
    (other_byte b 42 none refl))

pub delimiter_none : (number digits : ℕ) (rest : Rest) → NoMark rest → after_number number digits rest ≡ None
delimiter_none number digits [] never = refl
delimiter_none number digits (b ∷ bs) never =
    let none = never b bs refl in
    cond-false (eqb b 46 || eqb b 41) _ _ (or_from (eqb b 46) (eqb b 41) (other_byte b 46 none refl) (other_byte b 41 none refl))

-- ---- the columns of an item

-- a blank rest is all white
pub indent_blank : (rest : Rest) → is_blank rest ≡ true → indent rest ≡ length rest
indent_blank [] h = refl
indent_blank (b ∷ bs) h =
    let parts = and_parts (is_white b) (list_all is_white bs) h in
    let more = indent_blank bs parts.1 in
    cond-true (is_white b) (1 + indent bs) 0 parts.0 ∙ omega (arith, more)

pub outdented_inside : (size : ℕ) (began_blank : Bool) (rest : Rest) → is_inside size began_blank rest ≡ true → outdent size rest ≡ drop size rest
outdented_inside size began_blank rest h =
    elim (cases_Bool (is_blank rest)) [
      | inl blank ↦ ap (λ n. drop (min size n) rest) (indent_blank rest blank) ∙ drop_min size rest
      | inr other ↦
          let le = leb-true size (indent rest) (sym (cond-false (is_blank rest) (not began_blank) (leb size (indent rest)) other) ∙ h) in
          let e : min size (indent rest) ≡ size = omega arith in
          ap (λ n. drop n rest) e
    ]

-- ---- nine digits

pub eight_digits : (n i : ℕ) → n < 10 ^ i → i < 9 → n < 100000000
eight_digits n i lt le =
    let ten : 0 < 10 = omega arith in
    let fits : i ≤ 8 = omega arith in
    let e : 10 ^ i ≤ 10 ^ 8 = pow-le-pow_right ten {i = i} {j = 8} fits in
    omega (arith, e)

-- ---- footnote definitions

other_start : (rest : Rest) → may_start rest ≡ false → (after_byte 62 rest ≡ None) × (marker rest ≡ None)
other_start [] h = (refl, refl)
other_start (c ∷ cs) h =
    let last = or_parts (eqb c 62 || eqb c 45 || eqb c 43 || eqb c 42) (is_digit c) h in
    let star = or_parts (eqb c 62 || eqb c 45 || eqb c 43) (eqb c 42) last.0 in
    let plus = or_parts (eqb c 62 || eqb c 45) (eqb c 43) star.0 in
    let dash = or_parts (eqb c 62) (eqb c 45) plus.0 in
    let digits : prefix_len is_digit (c ∷ cs) ≡ 0 = cond-false (is_digit c) _ _ last.1 in (
      cond-false (eqb c 62) _ _ dash.0,
      cond-true (eqb (prefix_len is_digit (c ∷ cs)) 0) _ _ (eq-eqb (prefix_len is_digit (c ∷ cs)) 0 digits)
          ∙ cond-false (eqb c 45 || eqb c 43 || eqb c 42) _ _ (or_from (eqb c 45 || eqb c 43) (eqb c 42) (or_from (eqb c 45) (eqb c 43) dash.1 plus.1) star.1),
    )

-- where neither may, nothing else does
pub only_footnote : (on : Constructs) (interrupts : Bool) (rest : Rest) → may_start (bare rest) ≡ false → footnote_start on rest ≡ starts on interrupts rest
only_footnote on interrupts rest h =
    let none = other_start (bare rest) h in
    let no_quote : quote_prefix on rest ≡ None =
    cond_both (on.block_quote && small_indent on rest) (after_mark (after_byte 62 (bare rest))) None (λ o. o ≡ None) (λ _. ap after_mark none.0) (λ _. refl) in
    let no_item : item_start on interrupts rest ≡ None =
    cond_both (on.list_item && small_indent on rest && not (is_break on rest)) (item_after (indent rest) interrupts (marker (bare rest))) None (λ o. o ≡ None)
    (λ _. ap (item_after (indent rest) interrupts) none.1) (λ _. refl) in
    sym (ap (quote_or (footnote_or (item_start on interrupts rest) (footnote_start on rest))) no_quote
    ∙ ap (λ o. footnote_or o (footnote_start on rest)) no_item ∙ alone (footnote_start on rest))
  where
    alone : (o : Option ContainerStart) → footnote_or None o ≡ o
    alone None = refl
    alone (Some s) = refl

-- a rest that doesn't begin with `[^` has no marker of one
no_caret_none : (rest : Rest) → begins_with_caret rest ≡ false → after_bracket (Some rest) ≡ None
no_caret_none [] h = refl
no_caret_none (c ∷ cs) h = ap after_open (cond-false (eqb c 94) _ _ h)

pub no_marker_none : (rest : Rest) → begins_with_marker rest ≡ false → footnote_mark rest ≡ None
no_marker_none [] h = refl
no_marker_none (c ∷ cs) h =
    cond_both (eqb c 91) (Some cs) None (λ o. after_bracket o ≡ None) (λ is. no_caret_none cs (ap (λ b. b && begins_with_caret cs) (sym is) ∙ h)) (λ _. refl)

-- where a footnote definition may not start, none does
no_footnote_ahead : (on : Constructs) (rest : Rest) → footnote_may_start on rest ≡ false → footnote_start on rest ≡ None
no_footnote_ahead on rest h =
    cond_both (on.gfm_footnote_definition && small_indent on rest) (footnote_of (footnote_mark (bare rest))) None (λ o. o ≡ None)
    (λ both. let is_on = (and_parts on.gfm_footnote_definition (small_indent on rest) both).0 in
    ap footnote_of (no_marker_none (bare rest) (ap (λ b. b && begins_with_marker (bare rest)) (sym is_on) ∙ h))) (λ _. refl)

-- no container does
pub none_starts : (on : Constructs) (interrupts : Bool) (rest : Rest) → container_may_start on rest ≡ false → starts on interrupts rest ≡ None
none_starts on interrupts rest h =
    let none = or_parts (may_start (bare rest)) (footnote_may_start on rest) h in
    sym (only_footnote on interrupts rest none.0) ∙ no_footnote_ahead on rest none.1
