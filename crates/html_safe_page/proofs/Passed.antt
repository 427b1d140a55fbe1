-- Letters are passed in runs, and references whole.
use Rattle.std.proofs.Common.{◌≡◌, ℕ, suc, ◌+◌, ◌<◌, ◌≤◌, List, [], ◌∷◌, ◌++◌, Bool, true, false, not, ◌&&◌, ◌||◌, cond, eqb, Option, None, Some, Bor, codes, length}
use Rattle.std.proofs.Common.{drop, refl, sym, ap, ◌∙◌, subst, inl, inr, arith}
use Rattle.std.specs.Prelude.{◌==◌}
use Rattle.std.specs.List.{position_or_len, starts_with}
use Rattle.std.specs.Option.{IfSome, is_some, option_copied, option_or}
use Rattle.std.proofs.lemmas.Bool.{cases_Bool, cond-true, cond-false, true≢false, false≢true, eq-eqb, ne_eqb}
use Rattle.html_safe_page.specs.SafePage.{Kind, And, Quote, Less, Greater, Plain, kind}
use Rattle.html_safe_page.specs.Reader.{strip, read_text}
use Rattle.html_safe_page.specs.Machine.{begins_reference, stands, may_stand, is_mark, after_plain, after_reference, after_letters}
use Rattle.html_safe_page.proofs.Options.{else_if, weaker}
use Rattle.html_safe_page.proofs.Text.{by_kind, is_plain, plain_other, strip_sound}
use Rattle.html_safe_page.proofs.Steps.{text_more}

-- ---- what a letter begins no more

abbrev pub is_stuck : List ℕ → Bool
is_stuck [] = true
is_stuck (b ∷ bs) = not (may_stand b bs)

-- no byte that is one of none of the four comes first
abbrev pub stops : List ℕ → Bool
stops [] = true
stops (b ∷ bs) = not (is_plain (kind b))

cond_case : (t : Bool) (P : List ℕ → Type 0) (a b : List ℕ) → (t ≡ true → P a) → (t ≡ false → P b) → P (cond t a b)
cond_case true P a b h k = h refl
cond_case false P a b h k = k refl

pub letters_stuck : (bytes : List ℕ) → is_stuck (after_letters bytes) ≡ true
letters_stuck [] = refl
letters_stuck (b ∷ bs) =
    cond_case (may_stand b bs) (λ x. is_stuck x ≡ true) (after_letters bs) (b ∷ bs) (λ _. letters_stuck bs) (λ h. ap not h)

pub not_true : (t : Bool) → not t ≡ true → t ≡ false
not_true true h = absurd (false≢true h)
not_true false h = refl

stuck_stops_kind : (k : Kind) (bs : List ℕ) → stands k bs ≡ false → not (is_plain k) ≡ true
stuck_stops_kind And bs h = refl
stuck_stops_kind Quote bs h = refl
stuck_stops_kind Less bs h = refl
stuck_stops_kind Greater bs h = refl
stuck_stops_kind Plain bs h = absurd (true≢false h)

pub stuck_stops : (bytes : List ℕ) → is_stuck bytes ≡ true → stops bytes ≡ true
stuck_stops [] h = refl
stuck_stops (b ∷ bs) h = stuck_stops_kind (kind b) bs (not_true (may_stand b bs) h)

-- ---- plain bytes

mark_kind : (b : ℕ) → is_mark b ≡ not (is_plain (kind b))
mark_kind b =
    by_kind (λ b. is_mark b ≡ not (is_plain (kind b))) refl refl refl refl
    (λ b k.
    ap (λ x. ((x || eqb b 34) || eqb b 60) || eqb b 62) (plain_other b 38 k refl)
    ∙ ap (λ x. (x || eqb b 60) || eqb b 62) (plain_other b 34 k refl)
    ∙ ap (λ x. x || eqb b 62) (plain_other b 60 k refl)
    ∙ plain_other b 62 k refl
    ∙ ap (λ k. not (is_plain k)) (sym k))
    b

plain_stands : (k : Kind) (bs : List ℕ) → not (is_plain k) ≡ false → stands k bs ≡ true
plain_stands And bs h = absurd (true≢false h)
plain_stands Quote bs h = absurd (true≢false h)
plain_stands Less bs h = absurd (true≢false h)
plain_stands Greater bs h = absurd (true≢false h)
plain_stands Plain bs h = refl

pub letters_plain : (bytes : List ℕ) → after_letters (after_plain bytes) ≡ after_letters bytes
letters_plain [] = refl
letters_plain (b ∷ bs) =
    cond_case (is_mark b) (λ x. after_letters x ≡ after_letters (b ∷ bs)) (b ∷ bs) (after_plain bs) (λ _. refl)
    (λ h. letters_plain bs
    ∙ sym (cond-true (may_stand b bs) (after_letters bs) (b ∷ bs) (plain_stands (kind b) bs (sym (mark_kind b) ∙ h))))

pub plain_stops : (bytes : List ℕ) → stops (after_plain bytes) ≡ true
plain_stops [] = refl
plain_stops (b ∷ bs) =
    cond_case (is_mark b) (λ x. stops x ≡ true) (b ∷ bs) (after_plain bs) (λ h. sym (mark_kind b) ∙ h) (λ _. plain_stops bs)

pub plain_shorter : (bytes : List ℕ) → length (after_plain bytes) ≤ length bytes
plain_shorter [] = omega arith
plain_shorter (b ∷ bs) =
    let less = plain_shorter bs in
    cond_case (is_mark b) (λ x. length x ≤ length (b ∷ bs)) (b ∷ bs) (after_plain bs) (λ _. omega arith) (λ _. omega (arith, less))

pub letters_shorter : (bytes : List ℕ) → length (after_letters bytes) ≤ length bytes
letters_shorter [] = omega arith
letters_shorter (b ∷ bs) =
    let less = letters_shorter bs in
    cond_case (may_stand b bs) (λ x. length x ≤ length (b ∷ bs)) (after_letters bs) (b ∷ bs) (λ _. omega (arith, less)) (λ _. omega arith)

-- the place where they end
pub plain_place : (bytes : List ℕ) → drop (position_or_len is_mark bytes) bytes ≡ after_plain bytes
plain_place [] = refl
plain_place (b ∷ bs) =
    let n = position_or_len is_mark bs in
    let more : 1 + n ≡ suc n = omega arith in
    elim (cases_Bool (is_mark b)) [
      | inl e ↦ ap (λ t. drop (cond (not t) (1 + n) 0) (b ∷ bs)) e ∙ sym (cond-true (is_mark b) (b ∷ bs) (after_plain bs) e)
      | inr e ↦
          ap (λ t. drop (cond (not t) (1 + n) 0) (b ∷ bs)) e
          ∙ ap (λ m. drop m (b ∷ bs)) more
          ∙ plain_place bs
          ∙ sym (cond-false (is_mark b) (b ∷ bs) (after_plain bs) e)
    ]

-- ---- references

abbrev IsReferred : List ℕ → List ℕ → Type 0
IsReferred bytes next = (after_letters bytes ≡ after_letters next) × (length next < length bytes)

referred : (name : List ℕ) → ((next : List ℕ) → IsReferred (name ++ next) next) → (bytes : List ℕ) → IfSome (strip name bytes) (IsReferred bytes)
referred name h bytes =
    weaker (strip name bytes) (λ next. name ++ next ≡ bytes) (IsReferred bytes) (λ next e. subst (λ x. IsReferred x next) e (h next)) (strip_sound name bytes)

reference_referred : (bytes : List ℕ) → IfSome (after_reference bytes) (IsReferred bytes)
reference_referred bytes =
    else_if (option_or (option_or (strip (codes "&amp;") bytes) (strip (codes "&quot;") bytes)) (strip (codes "&lt;") bytes)) (strip (codes "&gt;") bytes)
    (IsReferred bytes)
    (else_if (option_or (strip (codes "&amp;") bytes) (strip (codes "&quot;") bytes)) (strip (codes "&lt;") bytes) (IsReferred bytes)
    (else_if (strip (codes "&amp;") bytes) (strip (codes "&quot;") bytes) (IsReferred bytes)
    (referred (codes "&amp;") (λ next. (refl, omega arith)) bytes)
    (referred (codes "&quot;") (λ next. (refl, omega arith)) bytes))
    (referred (codes "&lt;") (λ next. (refl, omega arith)) bytes))
    (referred (codes "&gt;") (λ next. (refl, omega arith)) bytes)

is_referred : (bytes next : List ℕ) → Some next ≡ after_reference bytes → IsReferred bytes next
is_referred bytes next h = subst (λ o. IfSome o (IsReferred bytes)) (sym h) (reference_referred bytes)

pub letters_reference : (bytes next : List ℕ) → Some next ≡ after_reference bytes → after_letters bytes ≡ after_letters next
letters_reference bytes next h = (is_referred bytes next h).0

pub reference_shorter : (bytes next : List ℕ) → Some next ≡ after_reference bytes → length next < length bytes
reference_shorter bytes next h = (is_referred bytes next h).1

-- a reference begins with `&`
pub no_and : (bytes : List ℕ) → starts_with eqb bytes (38 ∷ []) ≡ false → None ≡ after_reference bytes
no_and [] h = refl
no_and (b ∷ bs) h =
    let other : eqb b 38 ≡ false = ne_eqb b 38 (λ e. true≢false (sym (ap (λ x. x && true) (eq-eqb 38 b (sym e))) ∙ h)) in
    sym (ap (λ t. option_or (option_or (option_or (cond t (strip (codes "amp;") bs) None) (cond t (strip (codes "quot;") bs) None))
    (cond t (strip (codes "lt;") bs) None)) (cond t (strip (codes "gt;") bs) None)) other)

copied_or : (a b : Option (Bor (List ℕ))) → option_copied (option_or a b) ≡ option_or (option_copied a) (option_copied b)
copied_or None b = refl
copied_or (Some a) b = refl

pub copied_any : (a b c d : Option (Bor (List ℕ))) (w x y z : Option (List ℕ))
    → option_copied a ≡ w → option_copied b ≡ x → option_copied c ≡ y → option_copied d ≡ z
    → option_copied (option_or (option_or (option_or a b) c) d) ≡ option_or (option_or (option_or w x) y) z
copied_any a b c d w x y z p q r s =
    copied_or (option_or (option_or a b) c) d
    ∙ ap (λ o. option_or o (option_copied d)) (copied_or (option_or a b) c ∙ ap (λ o. option_or o (option_copied c)) (copied_or a b))
    ∙ ap (λ o. option_or (option_or (option_or o (option_copied b)) (option_copied c)) (option_copied d)) p
    ∙ ap (λ o. option_or (option_or (option_or w o) (option_copied c)) (option_copied d)) q
    ∙ ap (λ o. option_or (option_or (option_or w x) o) (option_copied d)) r
    ∙ ap (λ o. option_or (option_or (option_or w x) y) o) s

-- where no reference begins, letters end
any_of : {A : Type 0} (a b c d : Option A) → is_some (option_or (option_or (option_or a b) c) d) ≡ (((is_some a || is_some b) || is_some c) || is_some d)
any_of (Some a) b c d = refl
any_of None (Some b) c d = refl
any_of None None (Some c) d = refl
any_of None None None d = refl

no_reference : (bs : List ℕ) → None ≡ after_reference (38 ∷ bs) → begins_reference bs ≡ false
no_reference bs h =
    sym (any_of (strip (codes "amp;") bs) (strip (codes "quot;") bs) (strip (codes "lt;") bs) (strip (codes "gt;") bs)) ∙ ap is_some (sym h)

pub letters_end : (bytes : List ℕ) → stops bytes ≡ true → None ≡ after_reference bytes → after_letters bytes ≡ bytes
letters_end [] s h = refl
letters_end (b ∷ bs) s h =
    cond-false (may_stand b bs) (after_letters bs) (b ∷ bs)
    (by_kind (λ b. stops (b ∷ bs) ≡ true → None ≡ after_reference (b ∷ bs) → may_stand b bs ≡ false)
    (λ _ h. no_reference bs h) (λ _ _. refl) (λ _ _. refl) (λ _ _. refl)
    (λ b k s _. absurd (false≢true (sym (ap (λ k. not (is_plain k)) k) ∙ s)))
    b s h)

-- ---- texts

pub text_letters : (bytes : List ℕ) → is_some (read_text bytes) ≡ (length (after_letters bytes) == 0)
text_letters [] = refl
text_letters (b ∷ bs) =
    elim (cases_Bool (may_stand b bs)) [
      | inl e ↦
          text_more b bs
          ∙ ap (λ t. t && is_some (read_text bs)) e
          ∙ text_letters bs
          ∙ ap (λ x. length x == 0) (sym (cond-true (may_stand b bs) (after_letters bs) (b ∷ bs) e))
      | inr e ↦
          text_more b bs
          ∙ ap (λ t. t && is_some (read_text bs)) e
          ∙ sym (ne_eqb (length (b ∷ bs)) 0 (λ z. omega (arith, z)))
          ∙ ap (λ x. length x == 0) (sym (cond-false (may_stand b bs) (after_letters bs) (b ∷ bs) e))
    ]
