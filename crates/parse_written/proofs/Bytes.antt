-- Codes that are at a place are bytes.
use Rattle.std.proofs.Common.{inl, inr, ◌≡◌, ◌<◌, ℕ, suc, true, false, List, [], ◌∷◌, ◌++◌, drop, refl, sym, ap, ◌∙◌, subst, arith}
use Rattle.std.specs.Prelude.{◌==◌, slice_index}
use Rattle.std.proofs.lemmas.Bool.{both_ways, cases_Bool, cond-true, cond-false, eqb-true, false≢true}
use Rattle.definition_text.specs.Content.{after_return_code, content_codes, is_eol}
use Rattle.definition_text.specs.InlineCode.{InlineCode, codes_of}
use Rattle.parse_written.proofs.Codes.{codes_are}
use Rattle.parse_written.specs.Bytes.{AreBytesAt, Passes, IsFront}
use Rattle.parse_written.specs.RowLaws.{InlineBytesLaw, FrontBytesLaw, TextBytesLaw}

-- a byte more
one_more : (b : ℕ) (text bytes : List ℕ) (to : List InlineCode) → Passes text bytes to → Passes (b ∷ text) (b ∷ bytes) to
one_more b text bytes to p = record { front = ap (λ xs. b ∷ xs) p.front; left = p.left }

byte_more : (b : ℕ) (text bytes rest : List ℕ) → IsFront text bytes rest → IsFront (b ∷ text) (b ∷ bytes) rest
byte_more b text bytes rest p = record { front = ap (λ xs. b ∷ xs) p.front; left = p.left }

none_passed : (bytes : List ℕ) (from to : List InlineCode) → AreBytesAt bytes from → from ≡ to → Passes [] bytes to
none_passed bytes from to is same = record { front = refl; left = subst (λ x. AreBytesAt bytes x) same is }

-- ---- where no line ends

-- what CR begins is the code of a line ending
return_ends : (bs : List ℕ) (c : ℕ) (cs : List ℕ) → c ∷ cs ≡ after_return_code bs (content_codes bs) → is_eol c ≡ true
return_ends [] c cs is = let same : c ≡ 13 = cc in ap is_eol same
return_ends (b ∷ bs) c cs is = elim (cases_Bool (b == 10)) [
  | inl feed ↦
      let all = is ∙ cond-true (b == 10) (257 ∷ drop 1 (content_codes (b ∷ bs))) (13 ∷ content_codes (b ∷ bs)) feed in
      let same : c ≡ 257 = cc in
      ap is_eol same
  | inr other ↦
      let all = is ∙ cond-false (b == 10) (257 ∷ drop 1 (content_codes (b ∷ bs))) (13 ∷ content_codes (b ∷ bs)) other in
      let same : c ≡ 13 = cc in
      ap is_eol same
]

-- the first byte, where no line ends
first_byte : (bytes : List ℕ) (c : InlineCode) (cs : List InlineCode) → AreBytesAt bytes (c ∷ cs) → is_eol c.code ≡ false
    → (bs : List ℕ) × (bytes ≡ c.code ∷ bs) × AreBytesAt bs cs
first_byte [] c cs is inline = absurd cc
first_byte (b ∷ bs) c cs is inline = elim (cases_Bool (b == 13)) [
  | inl return ↦
      absurd (both_ways (is_eol c.code) inline
      (return_ends bs c.code (codes_of cs) (is ∙ cond-true (b == 13) (after_return_code bs (content_codes bs)) (b ∷ content_codes bs) return)))
  | inr other ↦
      let all : c.code ∷ codes_of cs ≡ b ∷ content_codes bs =
      is ∙ cond-false (b == 13) (after_return_code bs (content_codes bs)) (b ∷ content_codes bs) other in
      let first : c.code ≡ b = cc in
      let later : codes_of cs ≡ content_codes bs = cc in
      (bs, ap (λ x. x ∷ bs) (sym first), later)
]

pub inline_bytes_law : InlineBytesLaw
inline_bytes_law [] bytes from to is codes inline = none_passed bytes from to is codes
inline_bytes_law (x ∷ xs) bytes [] to is codes inline = absurd codes
inline_bytes_law (x ∷ xs) bytes (c ∷ cs) to is codes inline =
    let (bs, whole, left) = first_byte bytes c cs is (ap is_eol codes.0 ∙ inline.0) in
    let later = inline_bytes_law xs bs cs to left codes.1 inline.1 in
    subst (λ b. Passes (b ∷ xs) bytes to) codes.0 (subst (λ all. Passes (c.code ∷ xs) all to) (sym whole) (one_more c.code xs bs to later))

-- ---- where lines may end

abbrev pub AreSmall : List ℕ → Type 0
AreSmall bytes = (k : ℕ) → slice_index bytes k < 256

-- the bytes of a code that comes first: one, or CR LF
data FirstCode (c : ℕ) (others bytes : List ℕ) : Type 0 where
  OneByte : (bs : List ℕ) → bytes ≡ c ∷ bs → others ≡ content_codes bs → (c ≡ 257 → ⊥) → FirstCode c others bytes
  TwoBytes : (bs : List ℕ) → c ≡ 257 → bytes ≡ 13 ∷ 10 ∷ bs → others ≡ content_codes bs → FirstCode c others bytes

return_first : (bs : List ℕ) (c : ℕ) (others : List ℕ) → c ∷ others ≡ after_return_code bs (content_codes bs) → FirstCode c others (13 ∷ bs)
return_first [] c others is =
    let same : c ≡ 13 = cc in
    let none : others ≡ [] = cc in
    OneByte [] (ap (λ x. x ∷ []) (sym same)) none (λ e. false≢true (ap (λ x. x == 257) (sym same ∙ e)))
return_first (b ∷ bs) c others is = elim (cases_Bool (b == 10)) [
  | inl feed ↦
      let all : c ∷ others ≡ 257 ∷ drop 1 (content_codes (b ∷ bs)) =
      is ∙ cond-true (b == 10) (257 ∷ drop 1 (content_codes (b ∷ bs))) (13 ∷ content_codes (b ∷ bs)) feed in
      let same : c ≡ 257 = cc in
      let later : others ≡ drop 1 (content_codes (b ∷ bs)) = cc in
      let ten = eqb-true b 10 feed in
      TwoBytes bs same (ap (λ x. 13 ∷ x ∷ bs) ten) (later ∙ ap (λ x. drop 1 (content_codes (x ∷ bs))) ten)
  | inr other ↦
      let all : c ∷ others ≡ 13 ∷ content_codes (b ∷ bs) =
      is ∙ cond-false (b == 10) (257 ∷ drop 1 (content_codes (b ∷ bs))) (13 ∷ content_codes (b ∷ bs)) other in
      let same : c ≡ 13 = cc in
      let later : others ≡ content_codes (b ∷ bs) = cc in
      OneByte (b ∷ bs) (ap (λ x. x ∷ b ∷ bs) (sym same)) later (λ e. false≢true (ap (λ x. x == 257) (sym same ∙ e)))
]

first_code : (bytes : List ℕ) → AreSmall bytes → (c : ℕ) (others : List ℕ) → c ∷ others ≡ content_codes bytes → FirstCode c others bytes
first_code [] small c others is = absurd cc
first_code (b ∷ bs) small c others is = elim (cases_Bool (b == 13)) [
  | inl return ↦
      let all : c ∷ others ≡ after_return_code bs (content_codes bs) =
      is ∙ cond-true (b == 13) (after_return_code bs (content_codes bs)) (b ∷ content_codes bs) return in
      subst (λ x. FirstCode c others (x ∷ bs)) (sym (eqb-true b 13 return)) (return_first bs c others all)
  | inr other ↦
      let all : c ∷ others ≡ b ∷ content_codes bs =
      is ∙ cond-false (b == 13) (after_return_code bs (content_codes bs)) (b ∷ content_codes bs) other in
      let same : c ≡ b = cc in
      let later : others ≡ content_codes bs = cc in
      let bound : b < 256 = small 0 in
      OneByte bs (ap (λ x. x ∷ bs) (sym same)) later (λ e. let big : b ≡ 257 = sym same ∙ e in omega arith)
]

no_bytes : (bytes : List ℕ) → AreSmall bytes → [] ≡ content_codes bytes → bytes ≡ []
no_bytes [] small is = refl
no_bytes (b ∷ bs) small is = elim (cases_Bool (b == 13)) [
  | inl return ↦ returns bs (is ∙ cond-true (b == 13) (after_return_code bs (content_codes bs)) (b ∷ content_codes bs) return)
  | inr other ↦
      let all : [] ≡ b ∷ content_codes bs = is ∙ cond-false (b == 13) (after_return_code bs (content_codes bs)) (b ∷ content_codes bs) other in absurd cc
]
  where
    returns : (xs : List ℕ) → [] ≡ after_return_code xs (content_codes xs) → b ∷ bs ≡ []
    returns [] e = absurd cc
    returns (x ∷ xs) e = elim (cases_Bool (x == 10)) [
      | inl feed ↦
          let all : [] ≡ 257 ∷ drop 1 (content_codes (x ∷ xs)) =
          e ∙ cond-true (x == 10) (257 ∷ drop 1 (content_codes (x ∷ xs))) (13 ∷ content_codes (x ∷ xs)) feed in
          absurd cc
      | inr other ↦
          let all : [] ≡ 13 ∷ content_codes (x ∷ xs) =
          e ∙ cond-false (x == 10) (257 ∷ drop 1 (content_codes (x ∷ xs))) (13 ∷ content_codes (x ∷ xs)) other in
          absurd cc
    ]

small_after : (x : ℕ) (xs all : List ℕ) → all ≡ x ∷ xs → AreSmall all → AreSmall xs
small_after x xs all is small k = subst (λ ys. slice_index ys (suc k) < 256) is (small (suc k))

-- codes that are a text's, and others after them
front_passed : (codes rest text bytes : List ℕ) → AreSmall text → AreSmall bytes → codes ≡ content_codes text → codes ++ rest ≡ content_codes bytes
    → IsFront text bytes rest
front_passed [] rest text bytes small within is at =
    subst (λ xs. IsFront xs bytes rest) (sym (no_bytes text small is)) (record { front = refl; left = sym at })
front_passed (x ∷ xs) rest text bytes small within is at =
    both (λ ts bs small_text small_bytes left more. front_passed xs rest ts bs small_text small_bytes left more) (first_code text small x xs is)
    (first_code bytes within x (xs ++ rest) at)
  where
    both : ((ts bs : List ℕ) → AreSmall ts → AreSmall bs → xs ≡ content_codes ts → xs ++ rest ≡ content_codes bs → IsFront ts bs rest)
        → FirstCode x xs text → FirstCode x (xs ++ rest) bytes → IsFront text bytes rest
    both passed (OneByte ts text_is left single) (OneByte bs bytes_is more other) =
        let later = passed ts bs (small_after x ts text text_is small) (small_after x bs bytes bytes_is within) left more in
        subst (λ all. IsFront all bytes rest) (sym text_is)
        (subst (λ all. IsFront (x ∷ ts) all rest) (sym bytes_is) (byte_more x ts bs rest later))
    both passed (OneByte ts text_is left single) (TwoBytes bs two bytes_is more) = absurd (single two)
    both passed (TwoBytes ts two text_is left) (OneByte bs bytes_is more other) = absurd (other two)
    both passed (TwoBytes ts two text_is left) (TwoBytes bs again bytes_is more) =
        let small_text = small_after 10 ts (10 ∷ ts) refl (small_after 13 (10 ∷ ts) text text_is small) in
        let small_bytes = small_after 10 bs (10 ∷ bs) refl (small_after 13 (10 ∷ bs) bytes bytes_is within) in
        let later = passed ts bs small_text small_bytes left more in
        subst (λ all. IsFront all bytes rest) (sym text_is)
        (subst (λ all. IsFront (13 ∷ 10 ∷ ts) all rest) (sym bytes_is) (byte_more 13 (10 ∷ ts) (10 ∷ bs) rest (byte_more 10 ts bs rest later)))

pub front_bytes_law : FrontBytesLaw
front_bytes_law text bytes rest small within is = front_passed (content_codes text) rest text bytes small within refl (sym is)

pub text_bytes_law : TextBytesLaw
text_bytes_law text bytes from to small within at codes =
    let front = front_bytes_law text bytes (codes_of to) small within (sym at ∙ codes_are (content_codes text) from to codes) in
    record { front = front.front; left = sym front.left }
