-- The codes of a content before a place, and after it.
use Rattle.std.proofs.Common.{◌≡◌, ℕ, zero, suc, ◌+◌, ◌<◌, ◌≤◌, Bool, true, false, eqb, List, [], ◌∷◌, ◌++◌, inl, inr, refl, sym, ap, ◌∙◌, get_or, length, take}
use Rattle.std.proofs.Common.{drop, subst, arith, ◌⊎◌}
use Rattle.std.specs.Char.{encode_utf8}
use Rattle.inline_content.proofs.Prelude.{append-nil, cases_Bool, character_kind, cond-false, cond-true, content_codes, drop_at, ends_line, eqb-true}
use Rattle.inline_content.proofs.Prelude.{first_kind, is_eol, Kind, kind_at, kind_between, length-append, line_rest, Mark, ne_eqb, or_cases, true≢false, width}
use Rattle.std.proofs.lemmas.Bool.{cases_eq}
use Rattle.std.proofs.lemmas.List.{take_at, get_or_at, drop-drop}
use Rattle.markdown_options.specs.declared.beside.Kind.TheVariants.{Whitespace}
use Rattle.inline_links.specs.Codes.{IsCut}
use Rattle.inline_links.proofs.Cuts.{cut_at, two_bytes}
use Rattle.inline_content.proofs.Views.{widths, widths_append, between_append, between_ending}
use Rattle.inline_content.proofs.Characters.{spelled, between_character, kind_ahead}

-- ---- codes of bytes one after another

-- a byte that isn't CR is a code
plain_code : (b : ℕ) (bs : List ℕ) → (b ≡ 13 → ⊥) → content_codes (b ∷ bs) ≡ b ∷ content_codes bs
plain_code b bs apart = cond-false (eqb b 13) _ _ (ne_eqb b 13 apart)

not_return : (b : ℕ) → is_eol b ≡ false → b ≡ 13 → ⊥
not_return b h e = true≢false (sym (ap is_eol e) ∙ h)

not_feed : (b : ℕ) → is_eol b ≡ false → b ≡ 10 → ⊥
not_feed b h e = true≢false (sym (ap is_eol e) ∙ h)

plain_bytes : (ys zs : List ℕ) → ((k : ℕ) → k < length ys → (128 ≤ get_or ys k 0) × (get_or ys k 0 < 192)) → content_codes (ys ++ zs) ≡ ys ++ content_codes zs
plain_bytes [] zs h = refl
plain_bytes (y ∷ ys) zs h =
    plain_code y (ys ++ zs) (λ e. omega (arith, e, (h 0 (omega arith)).0)) ∙ ap (λ cs. y ∷ cs) (plain_bytes ys zs (λ k lt. h (suc k) (omega (arith, lt))))

-- bytes before others that don't begin with LF
pub codes_append : (zs : List ℕ) (y : ℕ) (ys : List ℕ) → (y ≡ 10 → ⊥) → content_codes (zs ++ y ∷ ys) ≡ content_codes zs ++ content_codes (y ∷ ys)
codes_append [] y ys apart = refl
codes_append (z ∷ zs) y ys apart =
    let all = (z ∷ zs) ++ y ∷ ys in
    let n = length (z ∷ zs) in
    let cut = cut_at all n (length zs) (omega arith) (λ return feed. apart (sym (get_or_at (z ∷ zs) y ys 0 n refl) ∙ feed)) in
    cut ∙ ap (λ xs. content_codes xs ++ content_codes (drop n all)) (take_at (z ∷ zs) (y ∷ ys) n refl)
    ∙ ap (λ xs. content_codes (z ∷ zs) ++ content_codes xs) (drop_at (z ∷ zs) (y ∷ ys) n refl)

-- the codes of a character that ends no line
pub character_codes : (c : ℕ) (zs : List ℕ) → c < 2097152 → ends_line c ≡ false → content_codes (encode_utf8 c ++ zs) ≡ encode_utf8 c ++ content_codes zs
character_codes c zs small h =
    let s = spelled c small h in
    ap (λ bs. content_codes (bs ++ zs)) s.same
    ∙ plain_code s.head (s.others ++ zs) (not_return s.head s.clear)
    ∙ ap (λ cs. s.head ∷ cs) (plain_bytes s.others zs s.rest)
    ∙ ap (λ bs. bs ++ content_codes zs) (sym s.same)

character_alone : (c : ℕ) → c < 2097152 → ends_line c ≡ false → content_codes (encode_utf8 c) ≡ encode_utf8 c
character_alone c small h = ap content_codes (sym (append-nil (encode_utf8 c))) ∙ character_codes c [] small h ∙ append-nil (encode_utf8 c)

pub before_character : (c : ℕ) (zs : List ℕ) → c < 2097152 → ends_line c ≡ false → content_codes (zs ++ encode_utf8 c) ≡ content_codes zs ++ encode_utf8 c
before_character c zs small h =
    let s = spelled c small h in
    ap (λ bs. content_codes (zs ++ bs)) s.same
    ∙ codes_append zs s.head s.others (not_feed s.head s.clear)
    ∙ ap (λ bs. content_codes zs ++ content_codes bs) (sym s.same)
    ∙ ap (λ cs. content_codes zs ++ cs) (character_alone c small h)

-- ---- how many bytes codes are

pub all_widths : (bs : List ℕ) → ((k : ℕ) → get_or bs k 0 < 256) → widths (content_codes bs) ≡ length bs
all_widths [] h = refl
all_widths (b ∷ []) h = elim (cases_Bool (eqb b 13)) [
  | inl r ↦ ap widths (cond-true (eqb b 13) _ _ r)
  | inr o ↦ ap widths (cond-false (eqb b 13) _ _ o) ∙ ap (λ n. n + 0) (cond-false (eqb b 257) 2 1 (ne_eqb b 257 (λ e. omega (arith, e, h 0))))
]
all_widths (b ∷ d ∷ bs) h = elim (cases_Bool (eqb b 13)) [
  | inl r ↦ elim (cases_Bool (eqb d 10)) [
    | inl f ↦
        let ten = eqb-true d 10 f in
        let next : content_codes (d ∷ bs) ≡ d ∷ content_codes bs = plain_code d bs (λ e. omega (arith, e, ten)) in
        let k = all_widths bs (λ k. h (suc (suc k))) in
        ap widths (cond-true (eqb b 13) _ _ r ∙ cond-true (eqb d 10) _ _ f ∙ ap (λ x. 257 ∷ drop 1 x) next) ∙ omega (arith, k)
    | inr n ↦
        let k = all_widths (d ∷ bs) (λ k. h (suc k)) in
        ap widths (cond-true (eqb b 13) _ _ r ∙ cond-false (eqb d 10) _ _ n) ∙ omega (arith, k)
  ]
  | inr o ↦
      let one : width b ≡ 1 = cond-false (eqb b 257) 2 1 (ne_eqb b 257 (λ e. omega (arith, e, h 0))) in
      let k = all_widths (d ∷ bs) (λ k. h (suc k)) in
      ap widths (cond-false (eqb b 13) _ _ o) ∙ omega (arith, one, k)
]

-- ---- after a line ending

-- the last code is a line ending
pub record EndsLine (cs : List ℕ) : Type 0 where
  pub front : List ℕ
  pub ending : ℕ
  pub same : cs ≡ front ++ ending ∷ []
  pub is : is_eol ending ≡ true

pub ends_with_return : (zs : List ℕ) → EndsLine (content_codes (zs ++ 13 ∷ []))
ends_with_return zs = record { front = content_codes zs; ending = 13; same = codes_append zs 13 [] (λ e. omega (arith, e)); is = refl }

pub ends_with_feed : (zs : List ℕ) → EndsLine (content_codes (zs ++ 10 ∷ []))
ends_with_feed [] = record { front = []; ending = 10; same = refl; is = refl }
ends_with_feed (z ∷ []) = elim (cases_Bool (eqb z 13)) [
  | inl r ↦ record { front = []; ending = 257; same = cond-true (eqb z 13) _ _ r; is = refl }
  | inr o ↦ record { front = z ∷ []; ending = 10; same = cond-false (eqb z 13) _ _ o; is = refl }
]
ends_with_feed (z ∷ w ∷ ws) =
    let k = ends_with_feed (w ∷ ws) in
    elim (cases_Bool (eqb z 13)) [
      | inl r ↦ elim (cases_Bool (eqb w 10)) [
        | inl f ↦
            let ten = eqb-true w 10 f in
            let l = ends_with_feed ws in
            let next : content_codes (w ∷ ws ++ 10 ∷ []) ≡ w ∷ content_codes (ws ++ 10 ∷ []) = plain_code w (ws ++ 10 ∷ []) (λ e. omega (arith, e, ten)) in
            record {
              front = 257 ∷ l.front;
              ending = l.ending;
              same = cond-true (eqb z 13) _ _ r ∙ cond-true (eqb w 10) _ _ f ∙ ap (λ x. 257 ∷ drop 1 x) next ∙ ap (λ x. 257 ∷ x) l.same;
              is = l.is;
            }
        | inr n ↦ record {
          front = 13 ∷ k.front;
          ending = k.ending;
          same = cond-true (eqb z 13) _ _ r ∙ cond-false (eqb w 10) _ _ n ∙ ap (λ x. 13 ∷ x) k.same;
          is = k.is;
        }
      ]
      | inr o ↦ record {
        front = z ∷ k.front;
        ending = k.ending;
        same = cond-false (eqb z 13) _ _ o ∙ ap (λ x. z ∷ x) k.same;
        is = k.is;
      }
    ]

-- ---- the kinds beside a place

module _ (p : ℕ → Bool) (marks : List Mark) where
  after_ending : (front cs : List ℕ) (place : ℕ) → EndsLine front → widths front ≡ place
      → kind_at marks place ≡ kind_between p marks 0 (kind_at marks 0) front cs
  after_ending front cs place h w =
      let same : widths h.front + width h.ending ≡ place = let e = widths_append h.front (h.ending ∷ []) in let f = ap widths h.same in
      omega (arith, e, f, w) in
      let n : 0 + (widths h.front + width h.ending) ≡ place = omega (arith, same) in
      sym (ap (λ x. kind_between p marks 0 (kind_at marks 0) x cs) h.same ∙ between_ending p marks 0 (kind_at marks 0) h.front h.ending cs h.is
      ∙ ap (kind_at marks) n)

  -- at the start of the content
  pub place_none : (xs cs : List ℕ) (place : ℕ) → length xs ≡ 0 → length xs ≡ place
      → kind_at marks place ≡ kind_between p marks 0 (kind_at marks 0) (content_codes xs) cs
  place_none [] cs place h w = ap (kind_at marks) (sym w)
  place_none (x ∷ xs) cs place h w = absurd (omega (arith, h))

  place_feed : (xs zs cs : List ℕ) (place : ℕ) → xs ≡ zs ++ encode_utf8 10 → ((k : ℕ) → get_or xs k 0 < 256) → length xs ≡ place
      → kind_at marks place ≡ kind_between p marks 0 (kind_at marks 0) (content_codes xs) cs
  unfolding encode_utf8
  place_feed xs zs cs place e bytes w =
      after_ending (content_codes xs) cs place (subst (λ l. EndsLine (content_codes l)) (sym e) (ends_with_feed zs)) (all_widths xs bytes ∙ w)

  place_return : (xs zs cs : List ℕ) (place : ℕ) → xs ≡ zs ++ encode_utf8 13 → ((k : ℕ) → get_or xs k 0 < 256) → length xs ≡ place
      → kind_at marks place ≡ kind_between p marks 0 (kind_at marks 0) (content_codes xs) cs
  unfolding encode_utf8
  place_return xs zs cs place e bytes w =
      after_ending (content_codes xs) cs place (subst (λ l. EndsLine (content_codes l)) (sym e) (ends_with_return zs)) (all_widths xs bytes ∙ w)

  pub place_ending : (xs zs cs : List ℕ) (c place : ℕ) → xs ≡ zs ++ encode_utf8 c → (c ≡ 10) ⊎ (c ≡ 13) → ((k : ℕ) → get_or xs k 0 < 256) → length xs ≡ place
      → kind_at marks place ≡ kind_between p marks 0 (kind_at marks 0) (content_codes xs) cs
  place_ending xs zs cs c place e (inl feed) bytes w = place_feed xs zs cs place (e ∙ ap (λ x. zs ++ encode_utf8 x) feed) bytes w
  place_ending xs zs cs c place e (inr return) bytes w = place_return xs zs cs place (e ∙ ap (λ x. zs ++ encode_utf8 x) return) bytes w

  pub place_character : (xs zs cs : List ℕ) (c : ℕ) → xs ≡ zs ++ encode_utf8 c → c < 2097152 → ends_line c ≡ false
      → character_kind p c ≡ kind_between p marks 0 (kind_at marks 0) (content_codes xs) cs
  place_character xs zs cs c e small h =
      sym
      (ap (λ l. kind_between p marks 0 (kind_at marks 0) (content_codes l) cs) e
      ∙ ap (λ l. kind_between p marks 0 (kind_at marks 0) l cs) (before_character c zs small h)
      ∙ between_append p marks 0 (kind_at marks 0) (content_codes zs) (encode_utf8 c) cs
      ∙ between_character p marks (0 + widths (content_codes zs)) (kind_between p marks 0 (kind_at marks 0) (content_codes zs) (encode_utf8 c ++ cs)) c cs small
      h)

-- the kind of the character that a rest begins with
pub rest_kind : (p : ℕ → Bool) (end : Kind) (rest others : List ℕ) (c : ℕ) → rest ≡ encode_utf8 c ++ others → c < 2097152
    → character_kind p c ≡ first_kind p end (line_rest (content_codes rest))
unfolding encode_utf8
rest_kind p end rest others c e small = elim (cases_Bool (ends_line c)) [
  | inl h ↦ elim (or_cases (eqb c 10) (eqb c 13) h) [
    | inl f ↦
        let ten = eqb-true c 10 f in
        ap (character_kind p) ten ∙ sym (ap (λ l. first_kind p end (line_rest (content_codes l))) (e ∙ ap (λ x. encode_utf8 x ++ others) ten))
    | inr r ↦
        let thirteen = eqb-true c 13 r in
        ap (character_kind p) thirteen ∙ sym (ap (λ l. first_kind p end (line_rest (content_codes l))) (e ∙ ap (λ x. encode_utf8 x ++ others) thirteen)
        ∙ at_return p others)
  ]
  | inr h ↦
      sym
      (ap (λ l. first_kind p end (line_rest (content_codes l))) e
      ∙ ap (λ l. first_kind p end (line_rest l)) (character_codes c others small h)
      ∙ kind_ahead p end c (content_codes others) small h)
]
  where
    at_return : (p : ℕ → Bool) (bs : List ℕ) → first_kind p end (line_rest (content_codes (13 ∷ bs))) ≡ Whitespace
    at_return p [] = refl
    at_return p (b ∷ bs) = elim (cases_Bool (eqb b 10)) [
      | inl f ↦ ap (λ l. first_kind p end (line_rest l)) (cond-true (eqb b 10) _ _ f)
      | inr n ↦ ap (λ l. first_kind p end (line_rest l)) (cond-false (eqb b 10) _ _ n)
    ]

-- ---- a rest of a content

cut_before_return : (xs : List ℕ) (at : ℕ) → get_or xs at 0 ≡ 13 → IsCut xs at
cut_before_return xs zero r = refl
cut_before_return xs (suc m) r = cut_at xs (suc m) m (omega arith) (λ return feed. omega (arith, r, feed))

-- the codes of a front and those of what follows it, unless they part CR LF, whose one code comes first then
pub split_codes : (zs : List ℕ) (y : ℕ) (ys : List ℕ)
    → (content_codes (zs ++ y ∷ ys) ≡ content_codes zs ++ content_codes (y ∷ ys))
    ⊎ ((front : List ℕ) × (cs : List ℕ) × (content_codes (zs ++ y ∷ ys) ≡ front ++ 257 ∷ cs) × (length (content_codes (y ∷ ys)) ≡ suc (length cs)))
split_codes [] y ys = inl refl
split_codes (z ∷ zs) y ys =
    let all = (z ∷ zs) ++ y ∷ ys in
    let at = length zs in
    let n = length (z ∷ zs) in
    let here : get_or all n 0 ≡ y = get_or_at (z ∷ zs) y ys 0 n refl in
    elim (cases_eq (get_or all at 0) 13) [
      | inl r ↦ elim (cases_eq y 10) [
        | inl f ↦
            let next : at + 1 ≡ n = omega arith in
            let feed : get_or all (at + 1) 0 ≡ 10 = ap (λ k. get_or all k 0) next ∙ here ∙ f in
            let size = length-append (z ∷ zs) (y ∷ ys) in
            let two = two_bytes all at (omega (arith, size)) r feed in
            let past : at + 2 ≡ n + 1 = omega arith in
            let left : drop (at + 2) all ≡ ys = ap (λ k. drop k all) past ∙ sym (drop-drop 1 n all) ∙ ap (drop 1) (drop_at (z ∷ zs) (y ∷ ys) n refl) in
            inr (
              content_codes (take at all),
              content_codes ys,
              cut_before_return all at r
                  ∙ ap (λ cs. content_codes (take at all) ++ cs) (two ∙ ap (λ l. 257 ∷ content_codes l) left),
              ap length (plain_code y ys (λ e. omega (arith, e, f))),
            )
        | inr apart ↦ inl (codes_append (z ∷ zs) y ys apart)
      ]
      | inr other ↦
          inl
          (cut_at all n at (omega arith) (λ return feed. other return)
          ∙ ap (λ xs. content_codes xs ++ content_codes (drop n all)) (take_at (z ∷ zs) (y ∷ ys) n refl)
          ∙ ap (λ xs. content_codes (z ∷ zs) ++ content_codes xs) (drop_at (z ∷ zs) (y ∷ ys) n refl))
    ]
