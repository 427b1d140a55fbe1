-- Searches that find nothing.
use Rattle.std.proofs.Common.{◌≡◌, ℕ, zero, suc, ◌+◌, ◌-◌, ◌≤◌, List, [], ◌∷◌, true, false, cond, None, Some, refl, sym, ap, ◌∙◌, length, drop, arith, inl, inr}
use Rattle.inline_constructs.proofs.Prelude.{after_text, begins_with, begins_with_letter, begun, cases_Bool, cdata, codes, comment_rest, cond-false, cond-true}
use Rattle.inline_constructs.proofs.Prelude.{Constructs, content_codes, drop-drop, false≢true, html_after, html_text_at, IsRest, length-append, option_or}
use Rattle.std.proofs.lemmas.Option.{none-some}
use Rattle.inline_constructs.specs.Searched.{Lacks}
use Rattle.inline_leaves.proofs.Codes.{rest_of_rest}
use Rattle.inline_constructs.proofs.HtmlTextLemmas.{AreBytes, html_off, html_other, html_none}

-- what stands nowhere stands nowhere later
later_none : (text xs : List ℕ) (k : ℕ) → after_text text xs ≡ None → after_text text (drop k xs) ≡ None
later_none text xs zero h = h
later_none text [] (suc k) h = refl
later_none text (b ∷ bs) (suc k) h = elim (cases_Bool (begins_with text (b ∷ bs))) [
  | inl there ↦ absurd (none-some _ (sym h ∙ cond-true (begins_with text (b ∷ bs)) (Some (drop (length text) (b ∷ bs))) (after_text text bs) there))
  | inr other ↦ later_none text bs k (sym (cond-false (begins_with text (b ∷ bs)) (Some (drop (length text) (b ∷ bs))) (after_text text bs) other) ∙ h)
]

pub known_none : (text content rest : List ℕ) (known : ℕ) → Lacks text content known → IsRest content rest → length rest ≤ known → after_text text rest ≡ None
known_none text content rest known lacks place short =
    let more = (length content - length rest) - (length content - known) in
    let e : length content - known + more ≡ length content - length rest = omega arith in
    ap (after_text text) (place.place ∙ ap (λ k. drop k content) (sym e) ∙ sym (drop-drop more (length content - known) content))
    ∙ later_none text (drop (length content - known) content) more lacks

pub now_known : (text content rest : List ℕ) → IsRest content rest → None ≡ after_text text rest → Lacks text content (length rest)
now_known text content rest place none = ap (after_text text) (sym place.place) ∙ sym none

-- ---- raw HTML that nothing closes

pub no_comment_end : (xs : List ℕ) → begins_with (codes "<!--") xs ≡ true → begins_with (codes ">") (drop 4 xs) ≡ false
    → begins_with (codes "->") (drop 4 xs) ≡ false
    → after_text (codes "-->") (drop 4 xs) ≡ None → html_after xs ≡ None
no_comment_end xs opens short dash none =
    let e = begun (codes "<!--") xs opens in
    let rest : comment_rest (drop 4 xs) ≡ None = cond-false _ _ _ short ∙ cond-false _ _ _ dash ∙ none in
    ap html_after e ∙ ap (λ o. option_or o None) rest

pub no_instruction_end : (xs : List ℕ) → begins_with (codes "<?") xs ≡ true → after_text (codes "?>") (drop 2 xs) ≡ None → html_after xs ≡ None
no_instruction_end xs opens none = ap html_after (begun (codes "<?") xs opens) ∙ ap (λ o. option_or o None) none

pub no_cdata_end : (xs : List ℕ) → begins_with (codes "<![CDATA[") xs ≡ true → after_text (codes "]]>") (drop 9 xs) ≡ None → html_after xs ≡ None
no_cdata_end xs opens none = ap html_after (begun (codes "<![CDATA[") xs opens) ∙ none

pub no_declaration_end : (xs : List ℕ) → begins_with (codes "<!") xs ≡ true → begins_with_letter (drop 2 xs) ≡ true → after_text (codes ">") (drop 2 xs) ≡ None
    → html_after xs ≡ None
no_declaration_end xs opens letter none =
    let e = begun (codes "<!") xs opens in
    by_rest (drop 2 xs) letter none (ap html_after e)
  where
    by_rest : (ys : List ℕ) → begins_with_letter ys ≡ true → after_text (codes ">") ys ≡ None → html_after xs ≡ html_after (60 ∷ 33 ∷ ys)
        → html_after xs ≡ None
    by_rest ys letter none e =
        e ∙ ap (λ o. option_or o (option_or (cond (begins_with_letter ys) (after_text (codes ">") ys) None) (cdata (60 ∷ 33 ∷ ys))))
        (cond-false _ _ _ (not_comment ys letter))
        ∙ ap (λ o. option_or o (cdata (60 ∷ 33 ∷ ys))) (cond-true (begins_with_letter ys) _ _ letter ∙ none)
        ∙ cond-false _ _ _ (not_cdata ys letter)
      where
        not_comment : (ys : List ℕ) → begins_with_letter ys ≡ true → begins_with (codes "--") ys ≡ false
        not_comment ys letter = elim (cases_Bool (begins_with (codes "--") ys)) [
          | inl h ↦ absurd (false≢true (sym (ap begins_with_letter (begun (codes "--") ys h)) ∙ letter))
          | inr h ↦ h
        ]

        not_cdata : (ys : List ℕ) → begins_with_letter ys ≡ true → begins_with (codes "[CDATA[") ys ≡ false
        not_cdata ys letter = elim (cases_Bool (begins_with (codes "[CDATA[") ys)) [
          | inl h ↦ absurd (false≢true (sym (ap begins_with_letter (begun (codes "[CDATA[") ys h)) ∙ letter))
          | inr h ↦ h
        ]

pub html_lacks : (on : Constructs) (xs : List ℕ) → AreBytes xs → html_after xs ≡ None → html_text_at on (content_codes xs) ≡ None
html_lacks on xs bytes none = elim (cases_Bool on.html_text) [
  | inr off ↦ html_off on xs off
  | inl is_on ↦ elim (cases_Bool (begins_with (codes "<") xs)) [
    | inr other ↦ html_other on xs other
    | inl less ↦ html_none on xs bytes is_on less (sym none)
  ]
]

pub rest_after_text : (content text bytes rest : List ℕ) → IsRest content bytes → begins_with text bytes ≡ true → rest ≡ drop (length text) bytes
    → IsRest content rest
rest_after_text content text bytes rest place there e =
    let size : length bytes ≡ length text + length (drop (length text) bytes) =
    ap length (begun text bytes there) ∙ length-append text (drop (length text) bytes) in
    rest_of_rest content bytes rest (length text) place (omega arith) e
