-- The codes of a content, cut between two of them, and what stands beside them.
use Rattle.std.proofs.Common.{◌≡◌, ℕ, zero, suc, ◌+◌, ◌-◌, ◌<◌, Bool, true, List, [], ◌∷◌, ◌++◌, Option, None, refl, ap, ◌∙◌, get_or, length, drop}
use Rattle.std.proofs.Common.{append_assoc, arith}
use Rattle.inline_content.proofs.Prelude.{codes_of, codes_with_marks, cond-true, content_codes, InlineCode, is_eol, Kind, kind_after, kind_at, kind_before}
use Rattle.inline_content.proofs.Prelude.{kind_between, length-append, line_rest, Mark, previous_after, previous_from, view_from, width}
use Rattle.inline_content.specs.declared.content.Content.{Content}
use Rattle.inline_content.specs.View.{content_view}

-- how many bytes codes are
abbrev pub widths : List ℕ → ℕ
widths [] = 0
widths (c ∷ cs) = width c + widths cs

module _ (p : ℕ → Bool) (end : Kind) (marks : List Mark) where
  -- the codes are those of the text
  pub codes_from : (place : ℕ) (previous : Option ℕ) (before : Kind) (cs : List ℕ) → codes_of (view_from p end marks place previous before cs) ≡ cs
  codes_from place previous before [] = refl
  codes_from place previous before (c ∷ cs) =
      ap (λ x. c ∷ x) (codes_from (place + width c) (previous_after c) (kind_before p marks (place + width c) before c (line_rest cs)) cs)

  -- ---- what is left after some codes

  pub view_drop : (place : ℕ) (previous : Option ℕ) (before : Kind) (front cs : List ℕ)
      → drop (length front) (view_from p end marks place previous before (front ++ cs))
      ≡ view_from p end marks (place + widths front) (previous_from previous front) (kind_between p marks place before front cs) cs
  view_drop place previous before [] cs = ap (λ n. view_from p end marks n previous before cs) (omega arith)
  view_drop place previous before (c ∷ front) cs =
      let next = kind_before p marks (place + width c) before c (line_rest (front ++ cs)) in
      let e : place + width c + widths front ≡ place + (width c + widths front) = omega arith in
      view_drop (place + width c) (previous_after c) next front cs
      ∙ ap (λ n. view_from p end marks n (previous_from (previous_after c) front) (kind_between p marks (place + width c) next front cs) cs) e

  -- the character after a code
  pub after_at : (place : ℕ) (previous : Option ℕ) (before : Kind) (cs : List ℕ) (n : ℕ) (d : InlineCode) → n < length cs
      → (get_or (view_from p end marks place previous before cs) n d).after ≡ kind_after p end (get_or cs n 0) (line_rest (drop (suc n) cs))
  after_at place previous before [] n d h = absurd (omega (arith, h))
  after_at place previous before (c ∷ cs) zero d h = refl
  after_at place previous before (c ∷ cs) (suc n) d h =
      after_at (place + width c) (previous_after c) (kind_before p marks (place + width c) before c (line_rest cs)) cs n d (omega (arith, h))

module _ (p : ℕ → Bool) (marks : List Mark) where
  -- ---- the character before a place

  pub between_append : (place : ℕ) (before : Kind) (xs ys cs : List ℕ)
      → kind_between p marks place before (xs ++ ys) cs ≡ kind_between p marks (place + widths xs) (kind_between p marks place before xs (ys ++ cs)) ys cs
  between_append place before [] ys cs = ap (λ n. kind_between p marks n before ys cs) (omega arith)
  between_append place before (c ∷ xs) ys cs =
      let left = line_rest ((xs ++ ys) ++ cs) in
      let next = kind_before p marks (place + width c) before c left in
      let same = line_rest (xs ++ (ys ++ cs)) in
      let is : left ≡ same = ap line_rest (append_assoc xs ys cs) in
      let e : place + width c + widths xs ≡ place + (width c + widths xs) = omega arith in
      between_append (place + width c) next xs ys cs
      ∙ ap (λ l. kind_between p marks (place + width c + widths xs) (kind_between p marks (place + width c)
      (kind_before p marks (place + width c) before c l) xs (ys ++ cs)) ys cs) is
      ∙ ap (λ n. kind_between p marks n (kind_between p marks (place + width c) (kind_before p marks (place + width c) before c same) xs (ys ++ cs)) ys cs) e

  -- after a line ending a line starts
  pub between_ending : (place : ℕ) (before : Kind) (xs : List ℕ) (e : ℕ) (cs : List ℕ) → is_eol e ≡ true
      → kind_between p marks place before (xs ++ e ∷ []) cs ≡ kind_at marks (place + (widths xs + width e))
  between_ending place before xs e cs h =
      let n : place + widths xs + width e ≡ place + (widths xs + width e) = omega arith in
      between_append place before xs (e ∷ []) cs ∙ cond-true (is_eol e) _ _ h ∙ ap (kind_at marks) n

-- ---- the bytes of codes

pub widths_append : (xs ys : List ℕ) → widths (xs ++ ys) ≡ widths xs + widths ys
widths_append [] ys = omega arith
widths_append (x ∷ xs) ys = let k = widths_append xs ys in omega (arith, k)

pub codes_of_view : (p : ℕ → Bool) (content : Content) → codes_of (content_view p content) ≡ content_codes content.text.now
codes_of_view p content = codes_from p content.after content.marks.now 0 None (kind_at content.marks.now 0) (content_codes content.text.now)

-- the codes from a rest on, and what stands before them
pub view_is : (p : ℕ → Bool) (end : Kind) (marks : List Mark) (text rest front : List ℕ) → content_codes text ≡ front ++ content_codes rest
    → drop (length (content_codes text) - length (content_codes rest)) (codes_with_marks p end marks text)
    ≡ view_from p end marks (widths front) (previous_from None front) (kind_between p marks 0 (kind_at marks 0) front (content_codes rest)) (content_codes rest)
view_is p end marks text rest front e =
    let sizes : length (content_codes text) ≡ length front + length (content_codes rest) = ap length e ∙ length-append front (content_codes rest) in
    let n : length (content_codes text) - length (content_codes rest) ≡ length front = omega (arith, sizes) in
    ap (λ k. drop k (codes_with_marks p end marks text)) n
    ∙ ap (λ cs. drop (length front) (view_from p end marks 0 None (kind_at marks 0) cs)) e
    ∙ view_drop p end marks 0 None (kind_at marks 0) front (content_codes rest)
    ∙ ap (λ k. view_from p end marks k (previous_from None front) (kind_between p marks 0 (kind_at marks 0) front (content_codes rest)) (content_codes rest))
    (omega arith)
