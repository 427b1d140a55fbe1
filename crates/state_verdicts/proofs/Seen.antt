-- What is known of a code by the byte by which it is seen.
use Rattle.std.proofs.Common.{◌≡◌, ◌∙◌, ℕ, Bool, true, false, ◌==◌, ◌||◌, if◌then◌else◌, inl, inr, refl, sym, ap}
use Rattle.state_verdicts.proofs.Prelude.{code_byte, eqb-true, is_ascii_punctuation, is_eol, or_cases, or_parts, text_byte}
use Rattle.state_verdicts.proofs.BlockPrelude.{is_space_or_tab, is_white}

-- a sort that has a column of a tab just where it has a space has a byte exactly if it has the code, line endings aside
column_by : (is : ℕ → Bool) (c : ℕ) (b : Bool) → is 32 ≡ is 256 → (c == 256) ≡ b → is (if b then 32 else c) ≡ is c
column_by is c true same h = same ∙ sym (ap is (eqb-true c 256 h))
column_by is c false same h = refl

pub seen_column : (is : ℕ → Bool) → is 32 ≡ is 256 → (c : ℕ) → is (code_byte c) ≡ is c
seen_column is same c = column_by is c (c == 256) same refl

-- a sort without line endings has a byte exactly if it has the code
sort_by : (is : ℕ → Bool) (c : ℕ) (b : Bool) → is 10 ≡ false → is 13 ≡ false → is 257 ≡ false → is 32 ≡ is 256 → is_eol c ≡ b
    → is (if b then 10 else code_byte c) ≡ is c
sort_by is c true feed back both same h = elim (or_cases ((c == 10) || (c == 13)) (c == 257) h) [
  | inl l ↦ elim (or_cases (c == 10) (c == 13) l) [ inl e ↦ ap is (sym (eqb-true c 10 e)) | inr e ↦ feed ∙ sym (ap is (eqb-true c 13 e) ∙ back) ]
  | inr e ↦ feed ∙ sym (ap is (eqb-true c 257 e) ∙ both)
]
sort_by is c false feed back both same h = seen_column is same c

pub seen_sort : (is : ℕ → Bool) → is 10 ≡ false → is 13 ≡ false → is 257 ≡ false → is 32 ≡ is 256 → (c : ℕ) → is (text_byte c) ≡ is c
seen_sort is feed back both same c = sort_by is c (is_eol c) feed back both same refl

-- a code is ASCII punctuation exactly if its byte is
pub seen_punctuation : (c : ℕ) → is_ascii_punctuation (text_byte c) ≡ is_ascii_punctuation c
seen_punctuation c = seen_sort is_ascii_punctuation refl refl refl refl c

feed_by : (c : ℕ) (b : Bool) → is_eol c ≡ b → ((if b then 10 else code_byte c) == 10) ≡ b
feed_by c true h = refl
feed_by c false h = seen_column (λ b. b == 10) refl c ∙ (or_parts (c == 10) (c == 13) (or_parts ((c == 10) || (c == 13)) (c == 257) h).0).0

-- a code is a line ending exactly if its byte is a line feed
pub seen_feed : (c : ℕ) → (text_byte c == 10) ≡ is_eol c
seen_feed c = feed_by c (is_eol c) refl

-- ASCII punctuation is no line feed
pub no_feed : (b : ℕ) (is : Bool) → (b == 10) ≡ is → is_ascii_punctuation b ≡ true → is ≡ false
no_feed b true h k = absurd (let f : is_ascii_punctuation 10 ≡ true = ap is_ascii_punctuation (sym (eqb-true b 10 h)) ∙ k in let g : false ≡ true = f in cc)
no_feed b false h k = refl

-- a line ending is seen as a line feed
pub seen_eol : (c : ℕ) → is_eol c ≡ true → text_byte c ≡ 10
seen_eol c h = ap (λ (b : Bool). if b then 10 else code_byte c) h

-- another code as its byte
pub seen_inner : (c : ℕ) → is_eol c ≡ false → text_byte c ≡ code_byte c
seen_inner c h = ap (λ (b : Bool). if b then 10 else code_byte c) h

-- a space or a tab is seen exactly where the code is white
white_is : (c : ℕ) → is_space_or_tab (code_byte c) ≡ is_white c
white_is c = white_by c (c == 256) refl
  where
    white_by : (c : ℕ) (b : Bool) → (c == 256) ≡ b → is_space_or_tab (if b then 32 else c) ≡ ((c == 32) || (c == 9) || b)
    white_by c true h = by_parts (c == 32) (c == 9)
      where
        by_parts : (a b : Bool) → true ≡ (a || b || true)
        by_parts true b = refl
        by_parts false true = refl
        by_parts false false = refl
    white_by c false h = by_parts (c == 32) (c == 9)
      where
        by_parts : (a b : Bool) → (b || a) ≡ (a || b || false)
        by_parts true true = refl
        by_parts true false = refl
        by_parts false true = refl
        by_parts false false = refl

-- a line ending is not white
pub eol_white : (c : ℕ) → is_eol c ≡ true → is_white c ≡ false
eol_white c h = elim (or_cases ((c == 10) || (c == 13)) (c == 257) h) [
  | inl l ↦ elim (or_cases (c == 10) (c == 13) l) [ inl e ↦ ap is_white (eqb-true c 10 e) | inr e ↦ ap is_white (eqb-true c 13 e) ]
  | inr e ↦ ap is_white (eqb-true c 257 e)
]

seen_white_by : (c : ℕ) (b : Bool) → is_eol c ≡ b → is_space_or_tab (text_byte c) ≡ is_white c
seen_white_by c true h = ap is_space_or_tab (seen_eol c h) ∙ sym (eol_white c h)
seen_white_by c false h = ap is_space_or_tab (seen_inner c h) ∙ white_is c

pub seen_white : (c : ℕ) → is_space_or_tab (text_byte c) ≡ is_white c
seen_white c = seen_white_by c (is_eol c) refl

-- what is white ends no line
pub white_inner : (c : ℕ) → is_white c ≡ true → is_eol c ≡ false
white_inner c h = inner_by (is_eol c) refl
  where
    inner_by : (b : Bool) → is_eol c ≡ b → b ≡ false
    inner_by true k = absurd (let f : true ≡ false = sym h ∙ eol_white c k in cc)
    inner_by false k = refl
