-- A text is spelled in one way, and read back.
use Rattle.std.proofs.Common.{◌≡◌, ℕ, List, [], ◌∷◌, ◌++◌, Bool, true, false, eqb, Option, None, Some, codes, refl, sym, ap, ◌∙◌, subst, inl, inr, append_assoc}
use Rattle.std.specs.Option.{IfSome, option_and_then, option_map}
use Rattle.std.proofs.lemmas.Bool.{cases_Bool, cond-true, cond-false, eqb-true, ne_eqb, false≢true}
use Rattle.html_safe_page.specs.SafePage.{Kind, And, Quote, Less, Greater, Plain, kind, spell_kind, spell_letter, spell_text}
use Rattle.html_safe_page.specs.Reader.{strip, replace, join_kind, read_text, QuotedText, longer, before_quote}
use Rattle.html_safe_page.proofs.Options.{then_if, else_if, map_if}

-- a fact of each byte, where it holds of the four and of the others
pub by_kind : (P : ℕ → Type 0) → P 38 → P 34 → P 60 → P 62 → ((b : ℕ) → kind b ≡ Plain → P b) → (b : ℕ) → P b
by_kind P and quote less greater plain b =
    elim (cases_Bool (eqb b 38)) [
      | inl e ↦ subst P (sym (eqb-true b 38 e)) and
      | inr a ↦ elim (cases_Bool (eqb b 34)) [
        | inl e ↦ subst P (sym (eqb-true b 34 e)) quote
        | inr q ↦ elim (cases_Bool (eqb b 60)) [
          | inl e ↦ subst P (sym (eqb-true b 60 e)) less
          | inr l ↦ elim (cases_Bool (eqb b 62)) [
            | inl e ↦ subst P (sym (eqb-true b 62 e)) greater
            | inr g ↦ plain b
                (cond-false (eqb b 38) And _ a ∙ cond-false (eqb b 34) Quote _ q ∙ cond-false (eqb b 60) Less _ l ∙ cond-false (eqb b 62) Greater Plain g)
          ]
        ]
      ]
    ]

abbrev pub is_plain : Kind → Bool
is_plain And = false
is_plain Quote = false
is_plain Less = false
is_plain Greater = false
is_plain Plain = true

pub plain_other : (b n : ℕ) → kind b ≡ Plain → is_plain (kind n) ≡ false → eqb b n ≡ false
plain_other b n h k = ne_eqb b n (λ e. false≢true (sym k ∙ ap (λ x. is_plain (kind x)) (sym e) ∙ ap is_plain h))

-- ---- texts

abbrev feed : List ℕ → Option (List ℕ) → Option (List ℕ)
feed [] o = o
feed (b ∷ bs) o = option_and_then (join_kind (kind b) b) (feed bs o)

pub read_spelled : (text : List ℕ) → read_text (spell_text text []) ≡ Some text
read_spelled [] = refl
read_spelled (b ∷ bs) =
    let more = spell_text bs [] in
    let known : read_text more ≡ Some bs = read_spelled bs in
    by_kind (λ b. read_text (spell_letter b ++ more) ≡ Some (b ∷ bs))
    (ap (feed (codes "&amp;")) known)
    (ap (feed (codes "&quot;")) known)
    (ap (feed (codes "&lt;")) known)
    (ap (feed (codes "&gt;")) known)
    (λ b h.
    ap (λ k. read_text (spell_kind k b ++ more)) h
    ∙ (ap (λ k. option_and_then (join_kind k b) (read_text more)) h
    ∙ ap (option_and_then (join_kind Plain b)) known))
    b

pub strip_sound : (prefix bytes : List ℕ) → IfSome (strip prefix bytes) (λ rest. prefix ++ rest ≡ bytes)
strip_sound [] bytes = refl
strip_sound (p ∷ ps) [] = tt
strip_sound (p ∷ ps) (b ∷ bs) =
    let P = λ (rest : List ℕ). (p ∷ ps) ++ rest ≡ b ∷ bs in
    elim (cases_Bool (eqb b p)) [
      | inl e ↦
          subst (λ o. IfSome o P) (sym (cond-true (eqb b p) (strip ps bs) None e))
          (subst (λ (o : Option (List ℕ)). IfSome o P) (option_same (strip ps bs))
          (map_if (strip ps bs) (λ (r : List ℕ). r) (λ rest. ps ++ rest ≡ bs) P (strip_sound ps bs)
          (λ rest h. ap (λ x. x ∷ (ps ++ rest)) (sym (eqb-true b p e)) ∙ ap (λ x. b ∷ x) h)))
      | inr e ↦ subst (λ o. IfSome o P) (sym (cond-false (eqb b p) (strip ps bs) None e)) tt
    ]
  where
    option_same : (o : Option (List ℕ)) → option_map (λ (r : List ℕ). r) o ≡ o
    option_same None = refl
    option_same (Some r) = refl

-- the text that follows `&`, with a reference's name ahead
reference_sound : (c : ℕ) (name text bytes : List ℕ) → spell_text text [] ≡ bytes
    → ((rest : List ℕ) → spell_text (c ∷ rest) [] ≡ 38 ∷ spell_text (name ++ rest) [])
    → IfSome (replace c (strip name text)) (λ v. spell_text v [] ≡ 38 ∷ bytes)
reference_sound c name text bytes h same =
    map_if (strip name text) (λ rest. c ∷ rest) (λ rest. name ++ rest ≡ text) (λ v. spell_text v [] ≡ 38 ∷ bytes) (strip_sound name text)
    (λ rest e. same rest ∙ ap (λ x. 38 ∷ spell_text x []) e ∙ ap (λ x. 38 ∷ x) h)

pub text_sound : (bytes : List ℕ) → IfSome (read_text bytes) (λ v. spell_text v [] ≡ bytes)
text_sound [] = refl
text_sound (b ∷ bs) =
    then_if (read_text bs) (join_kind (kind b) b) (λ v. spell_text v [] ≡ bs) (λ w. spell_text w [] ≡ b ∷ bs) (text_sound bs)
    (λ v h. by_kind (λ b. IfSome (join_kind (kind b) b v) (λ w. spell_text w [] ≡ b ∷ bs))
    (else_if (replace 38 (strip (codes "amp;") v)) _ (λ w. spell_text w [] ≡ 38 ∷ bs) (reference_sound 38 (codes "amp;") v bs h (λ rest. refl))
    (else_if (replace 34 (strip (codes "quot;") v)) _ (λ w. spell_text w [] ≡ 38 ∷ bs) (reference_sound 34 (codes "quot;") v bs h (λ rest. refl))
    (else_if (replace 60 (strip (codes "lt;") v)) _ (λ w. spell_text w [] ≡ 38 ∷ bs) (reference_sound 60 (codes "lt;") v bs h (λ rest. refl))
    (reference_sound 62 (codes "gt;") v bs h (λ rest. refl)))))
    tt tt tt
    (λ b k. subst (λ kind. IfSome (join_kind kind b v) (λ w. spell_text w [] ≡ b ∷ bs)) (sym k)
    (ap (λ kind. spell_kind kind b ++ spell_text v []) k ∙ ap (λ x. b ∷ x) h))
    b)

-- ---- quotes

abbrev feed_quoted : List ℕ → Option QuotedText → Option QuotedText
feed_quoted [] o = o
feed_quoted (b ∷ bs) o = option_map (longer b) (feed_quoted bs o)

abbrev pub split : List ℕ → List ℕ → QuotedText
split inside rest = record { inside = inside; rest = rest }

pub quoted_spelled : (text rest : List ℕ) → before_quote (spell_text text (34 ∷ rest)) ≡ Some (split (spell_text text []) rest)
quoted_spelled [] rest = refl
quoted_spelled (b ∷ bs) rest =
    let more = spell_text bs (34 ∷ rest) in
    let known : before_quote more ≡ Some (split (spell_text bs []) rest) = quoted_spelled bs rest in
    by_kind (λ b. before_quote (spell_letter b ++ more) ≡ Some (split (spell_letter b ++ spell_text bs []) rest))
    (ap (feed_quoted (codes "&amp;")) known)
    (ap (feed_quoted (codes "&quot;")) known)
    (ap (feed_quoted (codes "&lt;")) known)
    (ap (feed_quoted (codes "&gt;")) known)
    (λ b h.
    ap (λ k. before_quote (spell_kind k b ++ more)) h
    ∙ (cond-false (eqb b 34) (Some (split [] more)) (option_map (longer b) (before_quote more)) (plain_other b 34 h refl)
    ∙ (ap (option_map (longer b)) known
    ∙ ap (λ k. Some (split (spell_kind k b ++ spell_text bs []) rest)) (sym h))))
    b

pub quoted_sound : (bytes : List ℕ) → IfSome (before_quote bytes) (λ q. q.inside ++ (34 ∷ q.rest) ≡ bytes)
quoted_sound [] = tt
quoted_sound (b ∷ bs) =
    let P = λ (q : QuotedText). q.inside ++ (34 ∷ q.rest) ≡ b ∷ bs in
    elim (cases_Bool (eqb b 34)) [
      | inl e ↦ subst (λ o. IfSome o P) (sym (cond-true (eqb b 34) (Some (split [] bs)) (option_map (longer b) (before_quote bs)) e))
          (ap (λ x. x ∷ bs) (sym (eqb-true b 34 e)))
      | inr e ↦
          subst (λ o. IfSome o P) (sym (cond-false (eqb b 34) (Some (split [] bs)) (option_map (longer b) (before_quote bs)) e))
          (map_if (before_quote bs) (longer b) (λ q. q.inside ++ (34 ∷ q.rest) ≡ bs) P (quoted_sound bs) (λ q h. ap (λ x. b ∷ x) h))
    ]

-- a text before other bytes
pub spell_text-append : (text after : List ℕ) → spell_text text [] ++ after ≡ spell_text text after
spell_text-append [] after = refl
spell_text-append (b ∷ bs) after = append_assoc (spell_letter b) (spell_text bs []) after ∙ ap (λ x. spell_letter b ++ x) (spell_text-append bs after)
