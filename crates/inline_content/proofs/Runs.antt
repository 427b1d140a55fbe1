-- The run that a rest of a content begins with.
use Rattle.std.proofs.Common.{◌≡◌, ℕ, zero, suc, ◌+◌, ◌-◌, ◌<◌, ◌≤◌, Bool, true, false, cond, eqb, ◌==◌, ◌||◌, ◌&&◌, ◌⊎◌, List, [], ◌∷◌, ◌++◌, Option, None}
use Rattle.std.proofs.Common.{Some, inl, inr, refl, sym, ap, ◌∙◌, get_or, length, take, drop, subst, arith}
use Rattle.inline_content.proofs.Prelude.{and_parts, and_right, cases_Bool, codes_of, codes_with_marks, cond-false, cond-true, content_codes, drop_all}
use Rattle.inline_content.proofs.Prelude.{drop_at, eq-eqb, eqb-true, first_kind, inline_code, InlineCode, is_eol, is_marker, IsUtf8, Kind, kind_after, kind_at}
use Rattle.inline_content.proofs.Prelude.{kind_between, length-append, line_rest, Mark, ne_eqb, or_cases, or_from, or_parts, prefix_len, previous_from}
use Rattle.inline_content.proofs.Prelude.{run_between, take-append-drop, true≢false, view_from}
use Rattle.std.proofs.lemmas.List.{drop-map}
use Rattle.std.proofs.lemmas.List.Sums.{prefix_len_passes, prefix_len-le-length}
use Rattle.std.specs.Str.{IsCharBoundary}
use Rattle.std.proofs.lemmas.Str.{IsCharBoundary-after_ascii}
use Rattle.markdown_options.specs.declared.configuration.ParseOptions.{ParseOptions}
use Rattle.definition_inline.specs.Attention.{run_size, run_at}
use Rattle.definition_inline.proofs.Markers.{of_marker}
use Rattle.inline_links.specs.Codes.{IsRest}
use Rattle.inline_content.proofs.Views.{widths, codes_from, after_at, view_is}
use Rattle.inline_content.proofs.Places.{codes_append, split_codes}

-- ---- the byte of a run

-- a byte whose runs may form spans with some options
abbrev pub may_mark : ℕ → Bool
may_mark b = (eqb b 42 || eqb b 95) || (eqb b 126 || eqb b 61)

marker_may : (options : ParseOptions) (b : ℕ) → is_marker options b ≡ true → may_mark b ≡ true
marker_may options = of_marker options (λ b. may_mark b ≡ true) (λ on. refl) (λ on. refl) (λ on. refl) (λ on. refl)

-- it is no other byte
pub marker_at : (options : ParseOptions) (b n : ℕ) → is_marker options b ≡ true → may_mark n ≡ false → b ≡ n → ⊥
marker_at options b n h other e = true≢false (sym (marker_may options b h) ∙ ap may_mark e ∙ other)

pub marker_ascii : (options : ParseOptions) (b : ℕ) → is_marker options b ≡ true → b < 128
marker_ascii options = of_marker options (λ b. b < 128) (λ on. omega arith) (λ on. omega arith) (λ on. omega arith) (λ on. omega arith)

pub no_marker : (options : ParseOptions) (c : ℕ) → may_mark c ≡ false → is_marker options c ≡ false
no_marker options c h = elim (cases_Bool (is_marker options c)) [
  | inl is ↦ absurd (true≢false (sym (marker_may options c is) ∙ h))
  | inr isnt ↦ isnt
]

within_line : (options : ParseOptions) (b : ℕ) → is_marker options b ≡ true → is_eol b ≡ false
within_line options = of_marker options (λ b. is_eol b ≡ false) (λ on. refl) (λ on. refl) (λ on. refl) (λ on. refl)

-- ---- no run

no_run_codes : (options : ParseOptions) (v : List InlineCode) → ((c : ℕ) (cs : List ℕ) → codes_of v ≡ c ∷ cs → is_marker options c ≡ false)
    → run_at options v ≡ None
no_run_codes options [] h = refl
no_run_codes options (c ∷ cs) h = cond-false (is_marker options c.code) _ _ (h c.code (codes_of cs) refl)

head_is : (c d : ℕ) (cs ds : List ℕ) → c ∷ cs ≡ d ∷ ds → c ≡ d
head_is c d cs ds e = ap (λ l. get_or l 0 0) e

-- the first code of bytes that don't begin with a marker
first_code_is : (options : ParseOptions) (b : ℕ) (bs : List ℕ) → is_marker options b ≡ false → (c : ℕ) (cs : List ℕ) → content_codes (b ∷ bs) ≡ c ∷ cs
    → is_marker options c ≡ false
first_code_is options b bs h c cs e = elim (cases_Bool (eqb b 13)) [
  | inl r ↦ go bs (eqb-true b 13 r) e
  | inr o ↦ subst (λ x. is_marker options x ≡ false) (head_is b c (content_codes bs) cs (sym (cond-false (eqb b 13) _ _ o) ∙ e)) h
]
  where
    go : (bs : List ℕ) → b ≡ 13 → content_codes (b ∷ bs) ≡ c ∷ cs → is_marker options c ≡ false
    go [] r e =
        let first = head_is 13 c [] cs (ap (λ x. content_codes (x ∷ [])) (sym r) ∙ e) in
        no_marker options c (ap may_mark (sym first))
    go (d ∷ ds) r e = elim (cases_Bool (eqb d 10)) [
      | inl f ↦
          let first = head_is 257 c (drop 1 (content_codes (d ∷ ds))) cs (sym (cond-true (eqb d 10) _ _ f) ∙ ap (λ x. content_codes (x ∷ d ∷ ds)) (sym r)
          ∙ e) in
          no_marker options c (ap may_mark (sym first))
      | inr n ↦
          let first = head_is 13 c (content_codes (d ∷ ds)) cs (sym (cond-false (eqb d 10) _ _ n) ∙ ap (λ x. content_codes (x ∷ d ∷ ds)) (sym r) ∙ e) in
          no_marker options c (ap may_mark (sym first))
    ]

-- the text is what stands before a rest, and the rest
pub text_is : (text rest : List ℕ) → IsRest text rest → text ≡ take (length text - length rest) text ++ rest
text_is text rest h = let n = length text - length rest in sym (take-append-drop n text) ∙ ap (λ l. take n text ++ l) (sym h.place)

module _ (p : ℕ → Bool) (end : Kind) (marks : List Mark) (options : ParseOptions) where
  pub rest_of_view : (text rest : List ℕ) → codes_of (drop (length (content_codes text) - length (content_codes rest)) (codes_with_marks p end marks text))
      ≡ drop (length (content_codes text) - length (content_codes rest)) (content_codes text)
  rest_of_view text rest =
      let n = length (content_codes text) - length (content_codes rest) in
      sym (drop-map (λ (c : InlineCode). c.code) n (codes_with_marks p end marks text))
      ∙ ap (drop n) (codes_from p end marks 0 None (kind_at marks 0) (content_codes text))

  pub no_run : (text rest : List ℕ) → IsRest text rest → (0 < length rest → is_marker options (get_or rest 0 0) ≡ false)
      → None ≡ run_at options (drop (length (content_codes text) - length (content_codes rest)) (codes_with_marks p end marks text))
  no_run text [] r h =
      let n = length (content_codes text) in
      sym (no_run_codes options (drop (n - 0) (codes_with_marks p end marks text))
      (λ c cs e. absurd (omega (arith, ap length (sym e ∙ rest_of_view text [] ∙ drop_all (n - 0) (content_codes text) (omega arith))))))
  no_run text (y ∷ ys) r h =
      let codes = content_codes text in
      let n = length codes - length (content_codes (y ∷ ys)) in
      let zs = take (length text - length (y ∷ ys)) text in
      let whole = ap content_codes (text_is text (y ∷ ys) r) in
      sym
      (no_run_codes options (drop n (codes_with_marks p end marks text))
      (λ c cs e.
      let here : drop n codes ≡ c ∷ cs = sym (rest_of_view text (y ∷ ys)) ∙ e in
      elim (split_codes zs y ys) [
        | inl cut ↦
            let all = whole ∙ cut in
            let size = ap length all ∙ length-append (content_codes zs) (content_codes (y ∷ ys)) in
            let at : n ≡ length (content_codes zs) = omega (arith, size) in
            first_code_is options y ys (h (omega arith)) c cs
            (sym (drop_at (content_codes zs) (content_codes (y ∷ ys)) (length (content_codes zs)) refl) ∙ ap (drop (length (content_codes zs))) (sym all)
            ∙ ap (λ k. drop k codes) (sym at) ∙ here)
        | inr inside ↦
            let all = whole ∙ inside.2 in
            let size = ap length all ∙ length-append inside.0 (257 ∷ inside.1) in
            let long = inside.3 in
            let at : n ≡ length inside.0 = omega (arith, size, long) in
            let first = head_is 257 c inside.1 cs (sym (drop_at inside.0 (257 ∷ inside.1) (length inside.0) refl) ∙ ap (drop (length inside.0)) (sym all)
            ∙ ap (λ k. drop k codes) (sym at) ∙ here) in
            no_marker options c (ap may_mark (sym first))
      ]))

  -- ---- a run

  -- how many of its byte there are
  size_codes : (m : ℕ) (v : List InlineCode) → run_size m v ≡ prefix_len (λ b. b == m) (codes_of v)
  size_codes m [] = refl
  size_codes m (c ∷ cs) = ap (λ k. cond (eqb c.code m) (1 + k) 0) (size_codes m cs)

  size_bytes : (m : ℕ) (xs : List ℕ) → (m ≡ 13 → ⊥) → (m ≡ 257 → ⊥) → prefix_len (λ b. b == m) (content_codes xs) ≡ prefix_len (λ b. b == m) xs
  size_bytes m [] a b = refl
  size_bytes m (x ∷ xs) a b = elim (cases_Bool (eqb x 13)) [
    | inl h ↦
        let r = eqb-true x 13 h in
        ap (λ y. prefix_len (λ b. b == m) (content_codes (y ∷ xs))) r ∙ none xs
        ∙ sym (cond-false (eqb x m) (1 + prefix_len (λ b. b == m) xs) 0 (ne_eqb x m (λ e. a (sym e ∙ r))))
    | inr o ↦ ap (prefix_len (λ b. b == m)) (cond-false (eqb x 13) _ _ o) ∙ ap (λ k. cond (eqb x m) (1 + k) 0) (size_bytes m xs a b)
  ]
    where
      no_return : (cs : List ℕ) → prefix_len (λ b. b == m) (13 ∷ cs) ≡ 0
      no_return cs = cond-false (eqb 13 m) _ 0 (ne_eqb 13 m (λ e. a (sym e)))

      none : (xs : List ℕ) → prefix_len (λ b. b == m) (content_codes (13 ∷ xs)) ≡ 0
      none [] = no_return []
      none (d ∷ ds) = elim (cases_Bool (eqb d 10)) [
        | inl f ↦ ap (prefix_len (λ b. b == m)) (cond-true (eqb d 10) _ _ f) ∙ cond-false (eqb 257 m) _ 0 (ne_eqb 257 m (λ e. b (sym e)))
        | inr n ↦ ap (prefix_len (λ b. b == m)) (cond-false (eqb d 10) _ _ n) ∙ no_return (content_codes (d ∷ ds))
      ]

  -- the codes after it
  drop_bytes : (m : ℕ) (n : ℕ) (xs : List ℕ) → (m ≡ 13 → ⊥) → n ≤ prefix_len (λ b. b == m) xs → drop n (content_codes xs) ≡ content_codes (drop n xs)
  drop_bytes m zero xs a le = refl
  drop_bytes m (suc n) [] a le = absurd (omega (arith, le))
  drop_bytes m (suc n) (x ∷ xs) a le =
      let is : x ≡ m = eqb-true x m (prefix_len_passes (λ b. b == m) (x ∷ xs) 0 0 (omega (arith, le))) in
      let one : prefix_len (λ b. b == m) (x ∷ xs) ≡ 1 + prefix_len (λ b. b == m) xs = cond-true (eqb x m) _ 0 (eq-eqb x m is) in
      ap (drop (suc n)) (cond-false (eqb x 13) _ _ (ne_eqb x 13 (λ e. a (sym is ∙ e)))) ∙ drop_bytes m n xs a (omega (arith, le, one))

  same_run : (m s t : ℕ) (a b e f : Kind) → s ≡ t → a ≡ b → e ≡ f → run_between options m s a e ≡ run_between options m t b f
  same_run m s t a b e f h k l = ap (λ n. run_between options m n a e) h ∙ ap (λ x. run_between options m t x e) k ∙ ap (run_between options m t b) l

  -- a run of codes
  run_of_codes : (place : ℕ) (previous : Option ℕ) (kind : Kind) (b : ℕ) (bs : List ℕ) (size : ℕ) (before after : Kind) → is_marker options b ≡ true
      → size ≡ prefix_len (λ x. x == b) (b ∷ bs) → before ≡ kind → after ≡ first_kind p end (line_rest (content_codes (drop size (b ∷ bs))))
      → Some (run_between options b size before after) ≡ run_at options (view_from p end marks place previous kind (b ∷ content_codes bs))
  run_of_codes place previous kind b bs size before after h sized is_before is_after =
      let v = view_from p end marks place previous kind (b ∷ content_codes bs) in
      let codes = b ∷ content_codes bs in
      let return : b ≡ 13 → ⊥ = marker_at options b 13 h refl in
      let both : b ≡ 257 → ⊥ = marker_at options b 257 h refl in
      let plain : content_codes (b ∷ bs) ≡ codes = cond-false (eqb b 13) _ _ (ne_eqb b 13 return) in
      let count : size ≡ run_size b v =
      sized ∙ sym (size_bytes b (b ∷ bs) return both) ∙ ap (prefix_len (λ x. x == b)) (plain ∙ sym (codes_from p end marks place previous kind codes))
      ∙ sym (size_codes b v) in
      let first : prefix_len (λ x. x == b) (b ∷ bs) ≡ 1 + prefix_len (λ x. x == b) bs = cond-true (eqb b b) _ 0 (eq-eqb b b refl) in
      let in_codes : size ≡ prefix_len (λ x. x == b) codes = sized ∙ sym (size_bytes b (b ∷ bs) return both) ∙ ap (prefix_len (λ x. x == b)) plain in
      let le = prefix_len-le-length (λ x. x == b) codes in
      let at_end : get_or codes (size - 1) 0 ≡ b =
      eqb-true (get_or codes (size - 1) 0) b (prefix_len_passes (λ x. x == b) codes (size - 1) 0 (omega (arith, in_codes, sized, first))) in
      let d = inline_code b previous kind (kind_after p end b (line_rest (content_codes bs))) in
      let next : suc (size - 1) ≡ size = omega (arith, sized, first) in
      let past : drop (suc (size - 1)) codes ≡ content_codes (drop size (b ∷ bs)) =
      ap (λ k. drop k codes) next ∙ ap (drop size) (sym plain) ∙ drop_bytes b size (b ∷ bs) return (omega (arith, sized)) in
      let last : after ≡ (get_or v (size - 1) d).after =
      is_after
      ∙ sym (cond-false (is_eol b) end _ (within_line options b h))
      ∙ ap (λ l. kind_after p end b (line_rest l)) (sym past)
      ∙ ap (λ x. kind_after p end x (line_rest (drop (suc (size - 1)) codes))) (sym at_end)
      ∙ sym (after_at p end marks place previous kind codes (size - 1) d (omega (arith, in_codes, le, sized, first))) in
      ap Some (same_run b size (run_size b v) before kind after (get_or v (run_size b v - 1) d).after count is_before
      (last ∙ ap (λ k. (get_or v (k - 1) d).after) count))
      ∙ sym (cond-true (is_marker options b) _ None h)

  pub a_run : (text rest : List ℕ) (size : ℕ) (before after : Kind) → IsRest text rest → 0 < length rest → is_marker options (get_or rest 0 0) ≡ true
      → size ≡ prefix_len (λ x. x == get_or rest 0 0) rest
      → before ≡ kind_between p marks 0 (kind_at marks 0) (content_codes (take (length text - length rest) text)) (content_codes rest)
      → after ≡ first_kind p end (line_rest (content_codes (drop size rest)))
      → Some (run_between options (get_or rest 0 0) size before after) ≡ run_at options
      (drop (length (content_codes text) - length (content_codes rest)) (codes_with_marks p end marks text))
  a_run text [] size before after r some h sized is_before is_after = absurd (omega (arith, some))
  a_run text (b ∷ bs) size before after r some h sized is_before is_after =
      let rest = b ∷ bs in
      let zs = take (length text - length rest) text in
      let front = content_codes zs in
      let plain : content_codes rest ≡ b ∷ content_codes bs = cond-false (eqb b 13) _ _ (ne_eqb b 13 (marker_at options b 13 h refl)) in
      let whole : content_codes text ≡ front ++ content_codes rest =
      ap content_codes (text_is text rest r) ∙ codes_append zs b bs (marker_at options b 10 h refl) in
      run_of_codes (widths front) (previous_from None front) (kind_between p marks 0 (kind_at marks 0) front (content_codes rest)) b bs size before after h
      sized is_before is_after
      ∙ ap (λ cs. run_at options (view_from p end marks (widths front) (previous_from None front)
      (kind_between p marks 0 (kind_at marks 0) front (content_codes rest)) cs)) (sym plain)
      ∙ ap (run_at options) (sym (view_is p end marks text rest front whole))

-- a text may be cut after a run
pub run_boundary : (options : ParseOptions) (rest : List ℕ) (size : ℕ) → IsUtf8 rest → is_marker options (get_or rest 0 0) ≡ true
    → size ≡ prefix_len (λ x. x == get_or rest 0 0) rest → 0 < size → IsCharBoundary rest size
run_boundary options rest size u h sized some =
    let m = get_or rest 0 0 in
    let le = prefix_len-le-length (λ x. x == m) rest in
    let is : get_or rest (size - 1) 0 ≡ m =
    eqb-true (get_or rest (size - 1) 0) m (prefix_len_passes (λ x. x == m) rest (size - 1) 0 (omega (arith, sized, some))) in
    let low : m < 128 = marker_ascii options m h in
    let e : size - 1 + 1 ≡ size = omega (arith, some) in
    subst (IsCharBoundary rest) e (IsCharBoundary-after_ascii rest (size - 1) u (omega (arith, sized, le, some)) (omega (arith, is, low)))
