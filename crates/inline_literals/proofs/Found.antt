-- A literal at a place of a content, in bytes and in codes.
use Rattle.std.proofs.Common.{◌≡◌, ℕ, zero, suc, ◌+◌, ◌-◌, ◌<◌, ◌≤◌, List, [], ◌∷◌, ◌++◌, Bool, true, false, cond, not, ◌&&◌, ◌||◌, eqb, Option, None, Some}
use Rattle.std.proofs.Common.{refl, sym, ap, ◌∙◌, get_or, length, take, drop, arith, inl, inr, subst}
use Rattle.std.specs.Prelude.{codes, slice_index_or, reverse, nat_lt, is_some}
use Rattle.std.specs.Str.{IsCharBoundary}
use Rattle.std.specs.Char.{to_ascii_lowercase}
use Rattle.std.proofs.lemmas.Bool.{cases_Bool, cond_both, cond-true, cond-false, eqb-true, eqb-false, ne_eqb, or_cases, or_from, or_parts, and_parts}
use Rattle.std.proofs.lemmas.Bool.{ltb-true, ltb-false, true≢false}
use Rattle.std.proofs.lemmas.List.{length-drop, length-take-le, length-reverse, drop-map, get_or-drop, get_or-take}
use Rattle.std.proofs.Math.Seq.{take-add}
use Rattle.markdown_options.specs.declared.configuration.Constructs.{Constructs}
use Rattle.markdown_options.specs.declared.beside.Kind.{Kind}
use Rattle.markdown_options.specs.declared.beside.Kind.TheVariants.{Whitespace}
use Rattle.definition_text.specs.Content.{is_eol, content_codes}
use Rattle.definition_text.specs.InlineCode.{InlineCode, codes_of, first_kind, inline_code}
use Rattle.definition_inline.specs.Attention.{is_other}
use Rattle.definition_inline.specs.Inline.{Found, leaf, Literal}
use Rattle.definition_inline.specs.GfmAutolinkLiteral as literal
use Rattle.definition_inline.specs.GfmAutolinkLiteral.{LiteralStart, begins_caselessly}
use Rattle.definition_inline.specs.GfmAutolinkLiteral.{is_control_or_ending, domain, ends_literal, has_low_line, without_tail, literal_run}
use Rattle.definition_inline.specs.GfmAutolinkLiteral.{literal_name, literal_start_at, named_literal, literal_after, literal_at}
use Rattle.definition_inline.proofs.GfmAutolinkLiteral.{no_start_at}
use Rattle.inline_content.specs.declared.mark.Mark.{Mark}
use Rattle.inline_content.specs.View.{width, line_rest, kind_after, kind_before, kind_between, previous_after, previous_from, view_from, codes_with_marks}
use Rattle.inline_content.specs.Marks.{kind_at}
use Rattle.inline_content.proofs.Places.{codes_append}
use Rattle.inline_content.proofs.Runs.{text_is}
use Rattle.inline_links.specs.Codes.{IsRest}
use Rattle.inline_links.proofs.Cuts.{codes_some}
use Rattle.inline_content.proofs.Views.{widths, codes_from, view_drop, view_is, after_at}
use Rattle.inline_leaves.specs.Leaves.{IsPlain, IsAfter, IsEnd, size_before}
use Rattle.inline_leaves.proofs.Codes.{at_return, plain_code, plain_codes, plain_drop, plain_take, plain_size, size_plain, cut_plain, is_after, end_after}
use Rattle.inline_leaves.proofs.Codes.{plain_join}
use Rattle.inline_literals.specs.Literals.{StartsLiteral, IsNameEnd, may_begin, size_after, begins_name, begins_domain, domain_size}
use Rattle.inline_literals.proofs.Names.{run_ends, no_return}
use Rattle.inline_literals.proofs.Starts.{start_codes}
use Rattle.definition_inline.proofs.InlineSizes.{tail_fits}

-- the bytes up to what ends a literal are codes
record IsRun (xs : List ℕ) : Type 0 where
  size : ℕ
  run : literal_run (content_codes xs) ≡ take size xs
  plain : IsPlain xs size

run_is : (xs : List ℕ) → IsRun xs
run_is [] = record { size = 0; run = refl; plain = record { within = omega arith; plain = λ k lt. absurd (omega (arith, lt)) } }
run_is (b ∷ bs) = elim (cases_Bool (ends_literal b (content_codes bs))) [
  | inl ends ↦ record { size = 0; run = run_ends b bs ends; plain = record { within = omega arith; plain = λ k lt. absurd (omega (arith, lt)) } }
  | inr goes ↦
      let later = run_is bs in
      let apart = no_return b (content_codes bs) goes in
      record {
        size = suc later.size;
        run = ap literal_run (plain_code b bs apart) ∙ cond-false (ends_literal b (content_codes bs)) _ _ goes ∙ ap (λ l. b ∷ l) later.run;
        plain = record { within = omega (arith, later.plain.within); plain = each b bs later.size apart later.plain.plain };
      }
]
  where
    each : (b : ℕ) (bs : List ℕ) (n : ℕ) → (b ≡ 13 → ⊥) → ((k : ℕ) → k < n → get_or bs k 0 ≡ 13 → ⊥) → (k : ℕ) → k < suc n → get_or (b ∷ bs) k 0 ≡ 13 → ⊥
    each b bs n apart rest zero lt = apart
    each b bs n apart rest (suc k) lt = rest k (omega (arith, lt))

-- the bytes of a name are codes
pub name_plain : (xs : List ℕ) → IsPlain xs (length (literal_name (content_codes xs)))
name_plain xs =
    let r = run_is xs in
    let run = literal_run (content_codes xs) in
    let count : length run ≡ r.size = ap length r.run ∙ length-take-le r.size xs r.plain.within in
    let le : length (literal_name (content_codes xs)) ≤ r.size =
    omega (arith, count, length-reverse (without_tail 0 (reverse run)), tail_fits 0 (reverse run), length-reverse run) in
    record { within = omega (arith, le, r.plain.within); plain = λ k lt. r.plain.plain k (omega (arith, le, lt)) }

module _ (p : ℕ → Bool) (end : Kind) (marks : List Mark) where
  -- the kind of the character that bytes begin with
  abbrev kind_of : List ℕ → Kind
  kind_of xs = first_kind p end (line_rest (content_codes xs))

  -- of bytes, of which there is one, whatever stands after the content
  same_kind : (b : ℕ) (bs : List ℕ) → kind_of (b ∷ bs) ≡ first_kind p Whitespace (line_rest (content_codes (b ∷ bs)))
  same_kind b bs =
      let first = codes_some b bs in
      ap (λ l. first_kind p end (line_rest l)) first.2 ∙ sym (ap (λ l. first_kind p Whitespace (line_rest l)) first.2)

  -- no line ending belongs to a domain
  no_ending : (b : ℕ) (bs : List ℕ) → (b ≡ 13 → ⊥) → is_eol b ≡ true → begins_domain p b bs ≡ false
  no_ending b bs apart h = elim (or_cases (eqb b 10 || eqb b 13) (eqb b 257) h) [
    | inl lines ↦ elim (or_cases (eqb b 10) (eqb b 13) lines) [
      | inl feed ↦ ap (λ x. begins_domain p x bs) (eqb-true b 10 feed)
      | inr return ↦ absurd (apart (eqb-true b 13 return))
    ]
    | inr both ↦ ap (λ x. begins_domain p x bs) (eqb-true b 257 both)
  ]

  -- a domain
  pub domains : (n : ℕ) (xs : List ℕ) (place : ℕ) (previous : Option ℕ) (before : Kind) → IsPlain xs n
      → domain (kind_of xs) (take n (view_from p end marks place previous before (content_codes xs))) ≡ take (domain_size p n xs) xs
  domains zero xs place previous before plain = refl
  domains (suc n) [] place previous before plain = absurd (omega (arith, plain.within))
  domains (suc n) (b ∷ bs) place previous before plain =
      let cs = content_codes bs in
      let next : List ℕ → List InlineCode =
      view_from p end marks (place + width b) (previous_after b) (kind_before p marks (place + width b) before b (line_rest cs)) in
      let apart : b ≡ 13 → ⊥ = plain.plain 0 (omega arith) in
      let code : content_codes (b ∷ bs) ≡ b ∷ cs = plain_code b bs apart in
      let later : IsPlain bs n = record { within = omega (arith, plain.within); plain = λ k lt. plain.plain (suc k) (omega (arith, lt)) } in
      ap (λ k. domain k (take (suc n) (view_from p end marks place previous before (content_codes (b ∷ bs))))) (same_kind b bs)
      ∙ ap (λ l. domain (first_kind p Whitespace (line_rest (content_codes (b ∷ bs)))) (take (suc n) (view_from p end marks place previous before l))) code
      ∙ elim (cases_Bool (begins_domain p b bs)) [
        | inr none ↦ cond-false (begins_domain p b bs) _ _ none ∙ ap (λ k. take k (b ∷ bs))
            (sym (cond-false (begins_domain p b bs) (1 + domain_size p n bs) 0 none))
        | inl some ↦
            let line : is_eol b ≡ false = no_line b bs apart some in
            cond-true (begins_domain p b bs) _ _ some
            ∙ ap (λ k. b ∷ domain k (take n (next cs))) (cond-false (is_eol b) end (first_kind p end (line_rest cs)) line)
            ∙ ap (λ l. b ∷ l) (domains n bs (place + width b) (previous_after b) (kind_before p marks (place + width b) before b (line_rest cs)) later)
            ∙ ap (λ k. take k (b ∷ bs)) (one (domain_size p n bs) ∙ sym (cond-true (begins_domain p b bs) (1 + domain_size p n bs) 0 some))
      ]
    where
      no_line : (b : ℕ) (bs : List ℕ) → (b ≡ 13 → ⊥) → begins_domain p b bs ≡ true → is_eol b ≡ false
      no_line b bs apart some = elim (cases_Bool (is_eol b)) [
        | inl line ↦ absurd (true≢false (sym some ∙ no_ending b bs apart line))
        | inr other ↦ other
      ]

      one : (k : ℕ) → suc k ≡ 1 + k
      one k = omega arith

  -- what may come first after a literal's start
  pub names_begin : (xs : List ℕ) (place : ℕ) (previous : Option ℕ) (before : Kind)
      → literal.begins_name (kind_of xs) (view_from p end marks place previous before (content_codes xs)) ≡ begins_name p xs
  names_begin [] place previous before = refl
  names_begin (b ∷ bs) place previous before =
      let codes_side : List ℕ → Bool = λ cs. literal.begins_name (first_kind p end (line_rest cs)) (view_from p end marks place previous before cs) in
      let bytes_side : ℕ → List ℕ → Bool = λ c cs. is_other (first_kind p Whitespace (line_rest cs)) && not (is_control_or_ending c) in
      elim (cases_Bool (eqb b 13)) [
        | inl h ↦
            let e = eqb-true b 13 h in
            ap (λ x. codes_side (content_codes (x ∷ bs))) e ∙ at_return codes_side false bs (λ cs. refl) (λ cs. refl)
            ∙ sym (ap (λ x. bytes_side x (content_codes (x ∷ bs))) e ∙ at_return (bytes_side 13) false bs (λ cs. refl) (λ cs. refl))
        | inr h ↦
            let code = plain_code b bs (eqb-false b 13 h) in
            ap codes_side code ∙ sym (ap (bytes_side b) code)
      ]

  -- the kind of the character after a literal's start
  kind_after_start : (xs : List ℕ) (size place : ℕ) (previous : Option ℕ) (before : Kind) (d : InlineCode) → StartsLiteral xs size
      → (get_or (view_from p end marks place previous before (content_codes xs)) (size - 1) d).after ≡ kind_of (drop size xs)
  kind_after_start xs size place previous before d s =
      let cs = content_codes xs in
      let some : size - 1 < size = omega (arith, s.some) in
      let long = plain_size size xs s.plain.within s.plain.plain in
      let byte : get_or cs (size - 1) 0 ≡ get_or xs (size - 1) 0 =
      sym (get_or-take size cs (size - 1) 0 some) ∙ ap (λ l. get_or l (size - 1) 0) (plain_take size xs s.plain.within s.plain.plain)
      ∙ get_or-take size xs (size - 1) 0 some in
      let b = get_or xs (size - 1) 0 in
      let line : is_eol b ≡ false =
      or_from (eqb b 10 || eqb b 13) (eqb b 257) (or_from (eqb b 10) (eqb b 13) (ne_eqb b 10 s.inside) (ne_eqb b 13 (s.plain.plain (size - 1) some)))
      (ne_eqb b 257 (λ e. omega (arith, e, s.ascii))) in
      let next : suc (size - 1) ≡ size = omega (arith, s.some) in
      after_at p end marks place previous before cs (size - 1) d (omega (arith, long, s.some))
      ∙ ap (λ k. kind_after p end (get_or cs (size - 1) 0) (line_rest (drop k cs))) next
      ∙ ap (λ k. kind_after p end k (line_rest (drop size cs))) byte
      ∙ cond-false (is_eol b) end _ line
      ∙ ap (λ l. first_kind p end (line_rest l)) (plain_drop size xs s.plain.within s.plain.plain)

  -- what is left after a literal's start
  left_after_start : (xs : List ℕ) (size place : ℕ) (previous : Option ℕ) (before : Kind) → StartsLiteral xs size
      → drop size (view_from p end marks place previous before (content_codes xs))
      ≡ view_from p end marks (place + widths (take size xs)) (previous_from previous (take size xs))
      (kind_between p marks place before (take size xs) (content_codes (drop size xs))) (content_codes (drop size xs))
  left_after_start xs size place previous before s =
      let front = take size xs in
      let after = content_codes (drop size xs) in
      let count : size ≡ length front = sym (length-take-le size xs s.plain.within) in
      ap (λ cs. drop size (view_from p end marks place previous before cs)) (plain_codes size xs s.plain.within s.plain.plain)
      ∙ ap (λ k. drop k (view_from p end marks place previous before (front ++ after))) count
      ∙ view_drop p end marks place previous before front after

  -- the literal of a start
  abbrev pub literal_of : LiteralStart → List ℕ → Option Found
  literal_of start xs =
      let after = drop start.size xs in
      let name = literal_name (content_codes after) in
      cond (begins_name p after && not (has_low_line (take (domain_size p (length name) after) after)))
      (Some (leaf (Literal start.kind (take start.size xs ++ name) ∷ []) (start.size + length name))) None

  pub named : (xs : List ℕ) (start : LiteralStart) (place : ℕ) (previous : Option ℕ) (before : Kind) (d : InlineCode) → StartsLiteral xs start.size
      → named_literal start (view_from p end marks place previous before (content_codes xs))
      (slice_index_or (view_from p end marks place previous before (content_codes xs)) (start.size - 1) d)
      (literal_name (drop start.size (codes_of (view_from p end marks place previous before (content_codes xs)))))
      ≡ literal_of start xs
  named xs start place previous before d s =
      let size = start.size in
      let view = view_from p end marks place previous before (content_codes xs) in
      let after = drop size xs in
      let name = literal_name (content_codes after) in
      let left = view_from p end marks (place + widths (take size xs)) (previous_from previous (take size xs))
      (kind_between p marks place before (take size xs) (content_codes after)) (content_codes after) in
      let made : Kind → List InlineCode → List ℕ → List ℕ → Option Found =
      λ kind rest cs named.
      cond (literal.begins_name kind rest && not (has_low_line (domain kind (take (length named) rest))))
      (Some (leaf (Literal start.kind (take size cs ++ named) ∷ []) (size + length named))) None in
      let last = slice_index_or view (size - 1) d in
      let codes_are : codes_of view ≡ content_codes xs = codes_from p end marks place previous before (content_codes xs) in
      let name_is : literal_name (drop size (codes_of view)) ≡ name =
      ap (λ cs. literal_name (drop size cs)) codes_are ∙ ap literal_name (plain_drop size xs s.plain.within s.plain.plain) in
      ap (λ n. made last.after (drop size view) (codes_of view) n) name_is
      ∙ ap (λ cs. made last.after (drop size view) cs name) codes_are
      ∙ ap (λ k. made k (drop size view) (content_codes xs) name) (kind_after_start xs size place previous before d s)
      ∙ ap (λ l. made (kind_of after) l (content_codes xs) name) (left_after_start xs size place previous before s)
      ∙ ap (λ t. cond (t && not (has_low_line (domain (kind_of after) (take (length name) left))))
      (Some (leaf (Literal start.kind (take size (content_codes xs) ++ name) ∷ []) (size + length name))) None)
      (names_begin after (place + widths (take size xs)) (previous_from previous (take size xs))
      (kind_between p marks place before (take size xs) (content_codes after)))
      ∙ ap (λ l. cond (begins_name p after && not (has_low_line l))
      (Some (leaf (Literal start.kind (take size (content_codes xs) ++ name) ∷ []) (size + length name))) None)
      (domains (length name) after (place + widths (take size xs)) (previous_from previous (take size xs))
      (kind_between p marks place before (take size xs) (content_codes after)) (name_plain after))
      ∙ ap (λ l. cond (begins_name p after && not (has_low_line (take (domain_size p (length name) after) after)))
      (Some (leaf (Literal start.kind (l ++ name) ∷ []) (size + length name))) None)
      (plain_take size xs s.plain.within s.plain.plain)

  -- ---- at a place

  -- a start that was found
  pub found_start : (on : Constructs) (b : ℕ) (bs : List ℕ) (start : LiteralStart) (place : ℕ) (previous : Option ℕ) (before : Kind)
      → on.gfm_autolink_literal ≡ true
      → literal_start_at previous (b ∷ bs) ≡ Some start → StartsLiteral (b ∷ bs) start.size
      → literal_at on (view_from p end marks place previous before (content_codes (b ∷ bs))) ≡ literal_of start (b ∷ bs)
  found_start on b bs start place previous before is found s =
      let xs = b ∷ bs in
      let code : content_codes xs ≡ b ∷ content_codes bs = plain_code b bs (s.plain.plain 0 s.some) in
      let view : List ℕ → List InlineCode = view_from p end marks place previous before in
      let c = inline_code b previous before (kind_after p end b (line_rest (content_codes bs))) in
      let cs = view_from p end marks (place + width b) (previous_after b) (kind_before p marks (place + width b) before b (line_rest (content_codes bs)))
      (content_codes bs) in
      let same : codes_of (c ∷ cs) ≡ content_codes xs = codes_from p end marks place previous before (b ∷ content_codes bs) ∙ sym code in
      ap (λ l. literal_at on (view l)) code
      ∙ cond-true on.gfm_autolink_literal (literal_after c cs (literal_start_at previous (codes_of (c ∷ cs)))) None is
      ∙ ap (λ l. literal_after c cs (literal_start_at previous l)) same
      ∙ ap (literal_after c cs) (start_codes previous xs ∙ found)
      ∙ ap (λ l. named_literal start (view l) (slice_index_or (view l) (start.size - 1) c) (literal_name (drop start.size (codes_of (view l))))) (sym code)
      ∙ named xs start place previous before c s

abbrev nothing : Option Found
nothing = None

-- none where no start is found
pub none_found : (on : Constructs) (v : List InlineCode) (xs : List ℕ) → codes_of v ≡ content_codes xs
    → ((previous : Option ℕ) → literal_start_at previous xs ≡ None) → literal_at on v ≡ None
none_found on [] xs same none = refl
none_found on (c ∷ cs) xs same none =
    ap (λ o. cond on.gfm_autolink_literal (literal_after c cs o) None) (ap (literal_start_at c.previous) same ∙ start_codes c.previous xs ∙ none c.previous)
    ∙ both on.gfm_autolink_literal
  where
    both : (t : Bool) → cond t nothing nothing ≡ nothing
    both true = refl
    both false = refl

-- ---- the first two bytes

-- a letter, by its lower case
letter_is : (b t : ℕ) → 64 < t → t < 128 → to_ascii_lowercase b ≡ t → (64 < b) × (b < 128)
letter_is b t low high =
    cond_both (nat_lt b 65) b (cond (nat_lt b 91) (b + 32) b) (λ l. l ≡ t → (64 < b) × (b < 128)) (λ _ e. (omega (arith, e, low), omega (arith, e, high)))
    (λ from. cond_both (nat_lt b 91) (b + 32) b (λ l. l ≡ t → (64 < b) × (b < 128))
    (λ to e. (omega (arith, ltb-false b 65 from), omega (arith, ltb-true b 91 to)))
    (λ _ e. (omega (arith, e, low), omega (arith, e, high))))

-- a letter comes first
pub may_letter : (xs : List ℕ) → may_begin xs ≡ true → (0 < length xs) × ((64 < get_or xs 0 0) × (get_or xs 0 0 < 128))
may_letter [] h = absurd (true≢false (sym h))
may_letter (b ∷ bs) h = elim (or_cases (begins_caselessly (codes "ww") (b ∷ bs)) (begins_caselessly (codes "ht") (b ∷ bs)) h) [
  | inl ww ↦
      (omega arith, letter_is b 119 (omega arith) (omega arith) (sym (eqb-true 119 (to_ascii_lowercase b) (and_parts (eqb 119 (to_ascii_lowercase b)) _ ww).0)))
  | inr ht ↦
      (omega arith, letter_is b 104 (omega arith) (omega arith) (sym (eqb-true 104 (to_ascii_lowercase b) (and_parts (eqb 104 (to_ascii_lowercase b)) _ ht).0)))
]

letter_first : (b : ℕ) (bs : List ℕ) → may_begin (b ∷ bs) ≡ true → 64 < b
letter_first b bs h = (may_letter (b ∷ bs) h).1.0

-- two bytes that don't come first begin no longer text
none_start : (previous : Option ℕ) (xs : List ℕ) → may_begin xs ≡ false → literal_start_at previous xs ≡ None
none_start previous xs h =
    let parts = or_parts (begins_caselessly (codes "ww") xs) (begins_caselessly (codes "ht") xs) h in
    no_start_at previous xs
    (record {
      www = longer 119 119 (codes "w.") xs parts.0;
      http = longer 104 116 (codes "tp://") xs parts.1;
      https = longer 104 116 (codes "tps://") xs parts.1;
    })
  where
    both : (a b more : Bool) → (a && (b && true)) ≡ false → (a && (b && more)) ≡ false
    both true true more h = absurd (true≢false h)
    both true false more h = refl
    both false b more h = refl

    longer : (a b : ℕ) (more xs : List ℕ) → begins_caselessly (a ∷ b ∷ []) xs ≡ false → begins_caselessly (a ∷ b ∷ more) xs ≡ false
    longer a b more [] h = refl
    longer a b more (x ∷ []) h = both (eqb (to_ascii_lowercase a) (to_ascii_lowercase x)) false false h
    longer a b more (x ∷ y ∷ ys) h =
        both (eqb (to_ascii_lowercase a) (to_ascii_lowercase x)) (eqb (to_ascii_lowercase b) (to_ascii_lowercase y)) (begins_caselessly more ys) h

-- none where they don't come first
pub none_first : (on : Constructs) (v : List InlineCode) (xs : List ℕ) → codes_of v ≡ content_codes xs → may_begin xs ≡ false → literal_at on v ≡ None
none_first on v xs same h = none_found on v xs same (λ previous. none_start previous xs h)

-- ---- at a place of a content

module _ (p : ℕ → Bool) (end : Kind) (marks : List Mark) (text : List ℕ) where
  abbrev front : List ℕ → List ℕ
  front rest = content_codes (take (length text - length rest) text)

  abbrev view : List ℕ → List InlineCode
  view rest = drop (length (content_codes text) - length (content_codes rest)) (codes_with_marks p end marks text)

  pub view_codes : (rest : List ℕ) → codes_of (view rest) ≡ drop (length (content_codes text) - length (content_codes rest)) (content_codes text)
  view_codes rest =
      let n = length (content_codes text) - length (content_codes rest) in
      sym (drop-map (λ (c : InlineCode). c.code) n (codes_with_marks p end marks text))
      ∙ ap (drop n) (codes_from p end marks 0 None (kind_at marks 0) (content_codes text))

  view_here : (b : ℕ) (bs : List ℕ) → IsRest text (b ∷ bs) → (b ≡ 10 → ⊥)
      → view (b ∷ bs)
      ≡ view_from p end marks (widths (front (b ∷ bs))) (previous_from None (front (b ∷ bs)))
      (kind_between p marks 0 (kind_at marks 0) (front (b ∷ bs)) (content_codes (b ∷ bs))) (content_codes (b ∷ bs))
  view_here b bs r apart =
      view_is p end marks text (b ∷ bs) (front (b ∷ bs)) (ap content_codes (text_is text (b ∷ bs) r)
      ∙ codes_append (take (length text - length (b ∷ bs)) text) b bs apart)

  pub at_found : (on : Constructs) (rest : List ℕ) (start : LiteralStart) → IsRest text rest → may_begin rest ≡ true → on.gfm_autolink_literal ≡ true
      → literal_start_at (previous_from None (front rest)) rest ≡ Some start → StartsLiteral rest start.size
      → literal_at on (view rest) ≡ literal_of p end marks start rest
  at_found on [] start r may is found s = absurd (true≢false (sym may))
  at_found on (b ∷ bs) start r may is found s =
      let first = letter_first b bs may in
      ap (literal_at on) (view_here b bs r (λ e. omega (arith, e, first)))
      ∙ found_start p end marks on b bs start (widths (front (b ∷ bs))) (previous_from None (front (b ∷ bs)))
      (kind_between p marks 0 (kind_at marks 0) (front (b ∷ bs)) (content_codes (b ∷ bs))) is found s

  pub at_none : (on : Constructs) (rest : List ℕ) → IsRest text rest → may_begin rest ≡ true → literal_start_at (previous_from None (front rest)) rest ≡ None
      → literal_at on (view rest) ≡ None
  at_none on [] r may none = absurd (true≢false (sym may))
  at_none on (b ∷ bs) r may none =
      let first = letter_first b bs may in
      let place = widths (front (b ∷ bs)) in
      let previous = previous_from None (front (b ∷ bs)) in
      let before = kind_between p marks 0 (kind_at marks 0) (front (b ∷ bs)) (content_codes (b ∷ bs)) in
      let code : content_codes (b ∷ bs) ≡ b ∷ content_codes bs = plain_code b bs (λ e. omega (arith, e, first)) in
      let c = inline_code b previous before (kind_after p end b (line_rest (content_codes bs))) in
      let cs = view_from p end marks (place + width b) (previous_after b) (kind_before p marks (place + width b) before b (line_rest (content_codes bs)))
      (content_codes bs) in
      let same : codes_of (c ∷ cs) ≡ content_codes (b ∷ bs) = codes_from p end marks place previous before (b ∷ content_codes bs) ∙ sym code in
      ap (literal_at on) (view_here b bs r (λ e. omega (arith, e, first)) ∙ ap (view_from p end marks place previous before) code)
      ∙ ap (λ o. cond on.gfm_autolink_literal (literal_after c cs o) None) (ap (literal_start_at previous) same ∙ start_codes previous (b ∷ bs) ∙ none)
      ∙ either on.gfm_autolink_literal
    where
      either : (t : Bool) → cond t nothing nothing ≡ nothing
      either true = refl
      either false = refl

  -- ---- a literal whose name may stand there

  pub no_size : (start : LiteralStart) (xs : List ℕ) → size_after p (drop start.size xs) ≡ None → literal_of p end marks start xs ≡ None
  no_size start xs none =
      let after = drop start.size xs in
      let name = literal_name (content_codes after) in
      let test = begins_name p after && not (has_low_line (take (domain_size p (length name) after) after)) in
      elim (cases_Bool test) [
        | inl is ↦ absurd (true≢false (ap is_some (sym (cond-true test (Some (length name)) None is) ∙ none)))
        | inr other ↦ cond-false test _ None other
      ]

  pub with_size : (start : LiteralStart) (xs : List ℕ) (size : ℕ) → size_after p (drop start.size xs) ≡ Some size → StartsLiteral xs start.size
      → IsNameEnd (drop start.size xs) size
      → literal_of p end marks start xs ≡ Some (leaf (Literal start.kind (take (start.size + size) xs) ∷ []) (start.size + size))
  with_size start xs size found s end =
      let after = drop start.size xs in
      let name = literal_name (content_codes after) in
      let test = begins_name p after && not (has_low_line (take (domain_size p (length name) after) after)) in
      let count : length name ≡ size = ap length (sym end.name) ∙ length-take-le size after end.plain.within in
      elim (cases_Bool test) [
        | inr other ↦ absurd (true≢false (ap is_some (sym found ∙ cond-false test (Some (length name)) None other)))
        | inl is ↦
            cond-true test _ None is
            ∙ ap (λ l. Some (leaf (Literal start.kind (take start.size xs ++ l) ∷ []) (start.size + length name))) (sym end.name)
            ∙ ap (λ l. Some (leaf (Literal start.kind l ∷ []) (start.size + length name))) (sym (take-add start.size size xs))
            ∙ ap (λ k. Some (leaf (Literal start.kind (take (start.size + size) xs) ∷ []) (start.size + k))) count
      ]

-- the bytes of a literal are codes
pub all_plain : (xs : List ℕ) (start size : ℕ) → StartsLiteral xs start → IsNameEnd (drop start xs) size → IsPlain xs (start + size)
all_plain xs start size s end = plain_join xs start size s.plain end.plain

pub after_literal : (xs rest : List ℕ) (start size : ℕ) → rest ≡ drop (start + size) xs → StartsLiteral xs start → IsNameEnd (drop start xs) size
    → IsAfter xs rest
after_literal xs rest start size e s end =
    let plain = all_plain xs start size s end in
    is_after xs rest (start + size) e (omega (arith, s.some)) plain.within (cut_plain xs (start + size) plain.within plain.plain)

pub size_of_literal : (xs rest : List ℕ) (start size : ℕ) → rest ≡ drop (start + size) xs → StartsLiteral xs start → IsNameEnd (drop start xs) size
    → size_before xs rest ≡ start + size
size_of_literal xs rest start size e s end =
    let plain = all_plain xs start size s end in
    size_plain (start + size) xs rest e plain.within plain.plain

-- a literal ends with a whole character
pub literal_boundary : (xs : List ℕ) (start size : ℕ) → StartsLiteral xs start → IsNameEnd (drop start xs) size → IsCharBoundary xs (start + size)
literal_boundary xs start size s end =
    let plain = all_plain xs start size s end in
    let same = get_or-drop start xs size 0 in
    (plain.within, λ lt wide. subst (λ b. 192 ≤ b) same (end.boundary.1 (omega (arith, length-drop start xs)) (subst (λ b. 128 ≤ b) (sym same) wide)))

pub start_end : (xs : List ℕ) (size : ℕ) → StartsLiteral xs size → IsEnd xs size
start_end xs size s = end_after xs size s.some s.plain.within s.ascii (s.plain.plain (size - 1) (omega (arith, s.some)))
