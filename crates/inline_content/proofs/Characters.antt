-- What the bytes of a character say (UTF-8).
use Rattle.std.proofs.Common.{◌≡◌, ℕ, zero, suc, ◌+◌, ◌-◌, ◌*◌, ◌/◌, ◌%◌, ◌<◌, ◌≤◌, Bool, true, false, cond, eqb, ltb, leb, List, [], ◌∷◌, ◌++◌, inl, inr, refl}
use Rattle.std.proofs.Common.{sym, ap, ◌∙◌, arith, ◌||◌, length, get_or}
use Rattle.std.specs.Char.{encode_utf8}
use Rattle.inline_content.proofs.Prelude.{and_right, cases_lt, character_kind, cond-false, cond-true, ends_line, first_kind, is_eol, Kind, kind_before}
use Rattle.inline_content.proofs.Prelude.{kind_between, le-ltb, line_rest, lt-ltb, Mark, ne_eqb, or_from, width}
use Rattle.std.proofs.lemmas.Bool.{le-leb, and_left, and_from, lt-leb}
use Rattle.definition_text.specs.InlineCode.{first_character, is_continuation}

-- ---- bytes above 127

high : (x : ℕ) → 128 ≤ x → x < 257 → is_eol x ≡ false
high x h l =
    or_from (eqb x 10 || eqb x 13) (eqb x 257) (or_from (eqb x 10) (eqb x 13) (ne_eqb x 10 (λ e. omega (arith, e, h))) (ne_eqb x 13 (λ e. omega (arith, e, h))))
    (ne_eqb x 257 (λ e. omega (arith, e, l)))

goes_on : (x : ℕ) → 128 ≤ x → x < 192 → is_continuation x ≡ true
goes_on x h l = and_from (leb 128 x) (ltb x 192) (le-leb 128 x h) (lt-ltb x 192 l)

starts_low : (x : ℕ) → x < 128 → is_continuation x ≡ false
starts_low x l = and_left (leb 128 x) (ltb x 192) (lt-leb 128 x l)

starts_high : (x : ℕ) → 192 ≤ x → is_continuation x ≡ false
starts_high x h = and_right (leb 128 x) (ltb x 192) (le-ltb x 192 h)

line_more : (y : ℕ) (ys : List ℕ) → is_eol y ≡ false → line_rest (y ∷ ys) ≡ y ∷ line_rest ys
line_more y ys h = ap (λ l. y ∷ l) (cond-false (is_eol y) [] (line_rest ys) h)

-- ---- the number of a character

first_one : (c : ℕ) (l : List ℕ) → c < 128 → first_character (c ∷ l) ≡ c
first_one c l h = cond-true (ltb c 128) _ _ (lt-ltb c 128 h)

first_two : (x b : ℕ) (l : List ℕ) → 128 ≤ x → x < 224 → first_character (x ∷ b ∷ l) ≡ (x - 192) * 64 + (b - 128)
first_two x b l h k = cond-false (ltb x 128) _ _ (le-ltb x 128 h) ∙ cond-true (ltb x 224) _ _ (lt-ltb x 224 k)

first_three : (x b d : ℕ) (l : List ℕ) → 224 ≤ x → x < 240 → first_character (x ∷ b ∷ d ∷ l) ≡ ((x - 224) * 64 + (b - 128)) * 64 + (d - 128)
first_three x b d l h k =
    cond-false (ltb x 128) _ _ (le-ltb x 128 (omega (arith, h))) ∙ cond-false (ltb x 224) _ _ (le-ltb x 224 h) ∙ cond-true (ltb x 240) _ _ (lt-ltb x 240 k)

first_four : (x b d e : ℕ) (l : List ℕ) → 240 ≤ x → first_character (x ∷ b ∷ d ∷ e ∷ l) ≡ (((x - 240) * 64 + (b - 128)) * 64 + (d - 128)) * 64 + (e - 128)
first_four x b d e l h =
    cond-false (ltb x 128) _ _ (le-ltb x 128 (omega (arith, h))) ∙ cond-false (ltb x 224) _ _ (le-ltb x 224 (omega (arith, h)))
    ∙ cond-false (ltb x 240) _ _ (le-ltb x 240 h)

-- ---- the kinds beside a character

module _ (p : ℕ → Bool) (marks : List Mark) where
  -- after the first byte of a character
  lead : (place : ℕ) (before : Kind) (x : ℕ) (left : List ℕ) → is_eol x ≡ false → is_continuation x ≡ false
      → kind_before p marks place before x left ≡ character_kind p (first_character (x ∷ left))
  lead place before x left h k =
      cond-false (is_eol x) _ _ h ∙ cond-false (is_continuation x) _ _ k ∙ cond-false (is_eol x) _ _ h

  -- after another byte of it
  more : (place : ℕ) (before : Kind) (x : ℕ) (left : List ℕ) → 128 ≤ x → x < 192 → kind_before p marks place before x left ≡ before
  more place before x left h k = cond-false (is_eol x) _ _ (high x h (omega (arith, k))) ∙ cond-true (is_continuation x) _ _ (goes_on x h k)

-- ---- a whole character

-- the bytes of a character that ends no line
pub first_is : (c : ℕ) (l : List ℕ) → c < 2097152 → ends_line c ≡ false → first_character (line_rest (encode_utf8 c ++ l)) ≡ c
unfolding encode_utf8
first_is c l small h = elim (cases_lt c 128) [
  | inl a ↦
      ap (λ bs. first_character (line_rest (bs ++ l))) (cond-true (ltb c 128) _ _ (lt-ltb c 128 a))
      ∙ first_one c (cond (is_eol c) [] (line_rest l)) a
  | inr a ↦ elim (cases_lt c 2048) [
    | inl b ↦
        let x = 192 + c / 64 in
        let y = 128 + c % 64 in
        ap (λ bs. first_character (line_rest (bs ++ l))) (cond-false (ltb c 128) _ _ (le-ltb c 128 a) ∙ cond-true (ltb c 2048) _ _ (lt-ltb c 2048 b))
        ∙ ap first_character (line_more x (y ∷ l) (high x (omega arith) (omega (arith, b))))
        ∙ first_two x y (cond (is_eol y) [] (line_rest l)) (omega arith) (omega (arith, b)) ∙ omega (arith, a, b)
    | inr b ↦ elim (cases_lt c 65536) [
      | inl d ↦
          let x = 224 + c / 4096 in
          let y = 128 + c / 64 % 64 in
          let z = 128 + c % 64 in
          ap (λ bs. first_character (line_rest (bs ++ l)))
          (cond-false (ltb c 128) _ _ (le-ltb c 128 a) ∙ cond-false (ltb c 2048) _ _ (le-ltb c 2048 b) ∙ cond-true (ltb c 65536) _ _ (lt-ltb c 65536 d))
          ∙ ap first_character
          (line_more x (y ∷ z ∷ l) (high x (omega arith) (omega (arith, d)))
          ∙ ap (λ k. x ∷ k) (line_more y (z ∷ l) (high y (omega arith) (omega arith))))
          ∙ first_three x y z (cond (is_eol z) [] (line_rest l)) (omega arith) (omega (arith, d)) ∙ omega (arith, a, b, d)
      | inr d ↦
          let x = 240 + c / 262144 in
          let y = 128 + c / 4096 % 64 in
          let z = 128 + c / 64 % 64 in
          let w = 128 + c % 64 in
          ap (λ bs. first_character (line_rest (bs ++ l)))
          (cond-false (ltb c 128) _ _ (le-ltb c 128 a) ∙ cond-false (ltb c 2048) _ _ (le-ltb c 2048 b) ∙ cond-false (ltb c 65536) _ _ (le-ltb c 65536 d))
          ∙ ap first_character
          (line_more x (y ∷ z ∷ w ∷ l) (high x (omega arith) (omega (arith, small)))
          ∙ ap (λ k. x ∷ k) (line_more y (z ∷ w ∷ l) (high y (omega arith) (omega arith))
          ∙ ap (λ k. y ∷ k) (line_more z (w ∷ l) (high z (omega arith) (omega arith)))))
          ∙ first_four x y z w (cond (is_eol w) [] (line_rest l)) (omega arith) ∙ omega (arith, a, b, d)
    ]
  ]
]

-- a character begins with a byte that begins one and ends no line, and its other bytes go on
pub record Spelled (bs : List ℕ) : Type 0 where
  pub head : ℕ
  pub others : List ℕ
  pub same : bs ≡ head ∷ others
  pub clear : is_eol head ≡ false
  pub starts : is_continuation head ≡ false
  pub plain : head < 256
  pub rest : (k : ℕ) → k < length others → (128 ≤ get_or others k 0) × (get_or others k 0 < 192)

pub spelled : (c : ℕ) → c < 2097152 → ends_line c ≡ false → Spelled (encode_utf8 c)
unfolding encode_utf8
spelled c small h = elim (cases_lt c 128) [
  | inl a ↦ record {
    head = c;
    others = [];
    same = cond-true (ltb c 128) _ _ (lt-ltb c 128 a);
    clear = or_from (ends_line c) (eqb c 257) h (ne_eqb c 257 (λ e. omega (arith, e, a)));
    starts = starts_low c a;
    plain = omega (arith, a);
    rest = λ k lt. absurd (omega (arith, lt));
  }
  | inr a ↦ elim (cases_lt c 2048) [
    | inl b ↦ record {
      head = 192 + c / 64;
      others = (128 + c % 64) ∷ [];
      same = cond-false (ltb c 128) _ _ (le-ltb c 128 a) ∙ cond-true (ltb c 2048) _ _ (lt-ltb c 2048 b);
      clear = high (192 + c / 64) (omega arith) (omega (arith, b));
      starts = starts_high (192 + c / 64) (omega arith);
      plain = omega (arith, b);
      rest = all_one (128 + c % 64) (omega arith) (omega arith);
    }
    | inr b ↦ elim (cases_lt c 65536) [
      | inl d ↦ record {
        head = 224 + c / 4096;
        others = (128 + c / 64 % 64) ∷ (128 + c % 64) ∷ [];
        same = cond-false (ltb c 128) _ _ (le-ltb c 128 a) ∙ cond-false (ltb c 2048) _ _ (le-ltb c 2048 b) ∙ cond-true (ltb c 65536) _ _ (lt-ltb c 65536 d);
        clear = high (224 + c / 4096) (omega arith) (omega (arith, d));
        starts = starts_high (224 + c / 4096) (omega arith);
        plain = omega (arith, d);
        rest = all_more (128 + c / 64 % 64) ((128 + c % 64) ∷ []) (omega arith) (omega arith) (all_one (128 + c % 64) (omega arith) (omega arith));
      }
      | inr d ↦ record {
        head = 240 + c / 262144;
        others = (128 + c / 4096 % 64) ∷ (128 + c / 64 % 64) ∷ (128 + c % 64) ∷ [];
        same = cond-false (ltb c 128) _ _ (le-ltb c 128 a) ∙ cond-false (ltb c 2048) _ _ (le-ltb c 2048 b) ∙ cond-false (ltb c 65536) _ _ (le-ltb c 65536 d);
        clear = high (240 + c / 262144) (omega arith) (omega (arith, small));
        starts = starts_high (240 + c / 262144) (omega arith);
        plain = omega (arith, small);
        rest =
            all_more (128 + c / 4096 % 64) ((128 + c / 64 % 64) ∷ (128 + c % 64) ∷ []) (omega arith) (omega arith)
            (all_more (128 + c / 64 % 64) ((128 + c % 64) ∷ []) (omega arith) (omega arith) (all_one (128 + c % 64) (omega arith) (omega arith)));
      }
    ]
  ]
]
  where
    all_one : (x : ℕ) → 128 ≤ x → x < 192 → (k : ℕ) → k < 1 → (128 ≤ get_or (x ∷ []) k 0) × (get_or (x ∷ []) k 0 < 192)
    all_one x l h zero lt = (l, h)
    all_one x l h (suc k) lt = absurd (omega (arith, lt))

    all_more : (x : ℕ) (xs : List ℕ) → 128 ≤ x → x < 192 → ((k : ℕ) → k < length xs → (128 ≤ get_or xs k 0) × (get_or xs k 0 < 192))
        → (k : ℕ) → k < length (x ∷ xs) → (128 ≤ get_or (x ∷ xs) k 0) × (get_or (x ∷ xs) k 0 < 192)
    all_more x xs l h others zero lt = (l, h)
    all_more x xs l h others (suc k) lt = others k (omega (arith, lt))

module _ (p : ℕ → Bool) (marks : List Mark) where
  -- after the other bytes of a character
  same_between : (place : ℕ) (before : Kind) (ys cs : List ℕ) → ((k : ℕ) → k < length ys → (128 ≤ get_or ys k 0) × (get_or ys k 0 < 192))
      → kind_between p marks place before ys cs ≡ before
  same_between place before [] cs h = refl
  same_between place before (y ∷ ys) cs h =
      let y_more = more p marks (place + width y) before y (line_rest (ys ++ cs)) (h 0 (omega arith)).0 (h 0 (omega arith)).1 in
      ap (λ b. kind_between p marks (place + width y) b ys cs) y_more
      ∙ same_between (place + width y) before ys cs (λ k lt. h (suc k) (omega (arith, lt)))

  -- the kind after a character that ends no line
  pub between_character : (place : ℕ) (before : Kind) (c : ℕ) (cs : List ℕ) → c < 2097152 → ends_line c ≡ false
      → kind_between p marks place before (encode_utf8 c) cs ≡ character_kind p c
  between_character place before c cs small h =
      let s = spelled c small h in
      let left = line_rest (s.others ++ cs) in
      let first : first_character (s.head ∷ left) ≡ c =
      ap first_character (sym (line_more s.head (s.others ++ cs) s.clear)) ∙ ap (λ bs. first_character (line_rest (bs ++ cs))) (sym s.same)
      ∙ first_is c cs small h in
      ap (λ bs. kind_between p marks place before bs cs) s.same
      ∙ same_between (place + width s.head) (kind_before p marks (place + width s.head) before s.head left) s.others cs s.rest
      ∙ lead p marks (place + width s.head) before s.head left s.clear s.starts
      ∙ ap (character_kind p) first

-- the kind before a character that ends no line
pub kind_ahead : (p : ℕ → Bool) (end : Kind) (c : ℕ) (cs : List ℕ) → c < 2097152 → ends_line c ≡ false
    → first_kind p end (line_rest (encode_utf8 c ++ cs)) ≡ character_kind p c
kind_ahead p end c cs small h =
    let s = spelled c small h in
    let left = line_rest (s.others ++ cs) in
    let line : line_rest (encode_utf8 c ++ cs) ≡ s.head ∷ left = ap (λ bs. line_rest (bs ++ cs)) s.same ∙ line_more s.head (s.others ++ cs) s.clear in
    ap (first_kind p end) line ∙ cond-false (is_eol s.head) _ _ s.clear ∙ ap (λ l. character_kind p (first_character l)) (sym line)
    ∙ ap (character_kind p) (first_is c cs small h)
