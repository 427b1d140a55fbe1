-- A name of letters and digits stands in the bytes as it stands in the codes.
use Rattle.std.proofs.Common.{◌≡◌, ◌∙◌, ℕ, zero, suc, ◌+◌, ◌-◌, ◌<◌, ◌≤◌, Bool, true, false, ◌==◌, ◌&&◌, ◌||◌, if◌then◌else◌, List, [], ◌∷◌, length, take, drop}
use Rattle.std.proofs.Common.{get_or, is_some, Option, Some, None, inl, inr, refl, sym, ap, subst, arith}
use Rattle.state_verdicts.proofs.Prelude.{and_parts, as_byte, byte, cases_lt, code_byte, ended, is_ascii_alphanumeric, is_eol, is_in_range, is_name, le-leb}
use Rattle.state_verdicts.proofs.Prelude.{leb-true, longer, nothing, or_cases, Point, Sees, Shows, Stretch, tab, Text, text_byte, VirtualByte}
use Rattle.std.proofs.lemmas.List.{drop_more, get_or_past}
use Rattle.std.proofs.lemmas.Str.{IsUtf8-from_ascii, is_utf8-from_IsUtf8}
use Rattle.std.specs.Str.{IsAscii}
use Rattle.engine_events.specs.Columns.{between}
use Rattle.state_leaves.specs.CharacterReference.{has_text}
use Rattle.state_verdicts.specs.TextBytes.{StandsAt}

-- what lies in a range lies between these
in_range : (a z b : ℕ) → 0 < a → z < 128 → is_in_range a z b ≡ true → (0 < b) × (b < 128)
in_range a z b low high h = let e = and_parts _ _ h in let f = leb-true a b e.0 in let g = leb-true b z e.1 in (omega (arith, low, f), omega (arith, high, g))

letter_range : (b : ℕ) → is_ascii_alphanumeric b ≡ true → (0 < b) × (b < 128)
letter_range b h = elim (or_cases (is_in_range 48 57 b || is_in_range 65 90 b) (is_in_range 97 122 b) h) [
  | inl l ↦ elim (or_cases (is_in_range 48 57 b) (is_in_range 65 90 b) l) [
    | inl d ↦ in_range 48 57 b (omega arith) (omega arith) d
    | inr u ↦ in_range 65 90 b
        (omega arith) (omega arith) u
  ]
  | inr l ↦ in_range 97 122 b (omega arith) (omega arith) l
]

more_ascii : (b : ℕ) (bs : List ℕ) → b < 128 → IsAscii bs → IsAscii (b ∷ bs)
more_ascii b bs h k zero = h
more_ascii b bs h k (suc i) = k i

no_ascii : IsAscii []
no_ascii i = omega arith

code_by : (c b : ℕ) (is : Bool) → (if is then 32 else c) ≡ b → is_ascii_alphanumeric b ≡ true → c ≡ b
code_by c b true e k = absurd (let f : is_ascii_alphanumeric 32 ≡ true = ap is_ascii_alphanumeric e ∙ k in let g : false ≡ true = f in cc)
code_by c b false e k = e

code_of : (c b : ℕ) (is : Bool) → is_eol c ≡ is → (if is then 10 else code_byte c) ≡ b → is_ascii_alphanumeric b ≡ true → c ≡ b
code_of c b true h e k = absurd (let f : is_ascii_alphanumeric 10 ≡ true = ap is_ascii_alphanumeric e ∙ k in let g : false ≡ true = f in cc)
code_of c b false h e k = code_by c b (c == 256) e k

module _ (bytes : List ℕ) (text : Text) (shows : Shows bytes text) where
  -- so many bytes from a place on are the first of these codes
  pub record IsWord (q : Point) (n : ℕ) (cs : List ℕ) (end : Point) : Type 0 where
    pub index : (text.start end).index ≡ (text.start q).index + n
    pub within : 0 < n → (text.start q).index + n ≤ length bytes
    pub same : take n (drop (text.start q).index bytes) ≡ take n cs
    pub ascii : IsAscii (take n cs)

  there : (p r : Point) (b : ℕ) → StandsAt bytes text p r b → 0 < b → p.index < length bytes
  there p r b at some = elim (cases_lt p.index (length bytes)) [
    | inl h ↦ h
    | inr h ↦ absurd (let e : get_or bytes p.index 0 ≡ 0 = get_or_past bytes p.index 0 h in let f : get_or bytes p.index 0 ≡ b = at.byte in
        omega (arith, e, f, some))
  ]

  first_of : (n : ℕ) (c : ℕ) (cs : List ℕ) → take (n + 1) (c ∷ cs) ≡ c ∷ take n cs
  first_of n c cs = ap (λ (m : ℕ). take m (c ∷ cs)) (let e : n + 1 ≡ suc n = omega arith in e)

  word_more : (n b c : ℕ) (q r end : Point) (cs : List ℕ) → StandsAt bytes text (text.start q) r b → is_ascii_alphanumeric b ≡ true → c ≡ b → text.start r ≡ r
      → IsWord r n cs end → IsWord q (n + 1) (c ∷ cs) end
  word_more n b c q r end cs at letter code on w =
      let range = letter_range b letter in
      let i = (text.start q).index in
      let next : (text.start r).index ≡ i + 1 = ap (λ (p : Point). p.index) on ∙ at.index in
      let here = there (text.start q) r b at range.0 in
      record {
        index = (let e = w.index in omega (arith, e, next));
        within = λ h. elim (cases_lt 0 n) [ inl some ↦ (let e = w.within some in omega (arith, e, next)) | inr none ↦ omega (arith, none, here) ];
        same =
            ap (take (n + 1)) (drop_more bytes i 0 here)
            ∙ (first_of n (get_or bytes i 0) (drop (i + 1) bytes)
            ∙ (ap (λ (a : ℕ). a ∷ take n (drop (i + 1) bytes)) (at.byte ∙ sym code)
            ∙ (ap (λ (k : ℕ). c ∷ take n (drop k bytes)) (sym next)
            ∙ (ap (λ (l : List ℕ). c ∷ l) w.same ∙ sym (first_of n c cs)))));
        ascii = subst IsAscii (sym (first_of n c cs)) (more_ascii c (take n cs) (let r = range.1 in omega (arith, r, code)) w.ascii);
      }

  pub word : {n : ℕ} {q end : Point} → Stretch text is_ascii_alphanumeric n q end → (cs : List ℕ) → Sees text q cs → 0 < (text.start q).column
      → IsWord q n cs end
  word (ended h) cs s column = record { index = omega arith; within = λ h. absurd (omega (arith, h)); same = refl; ascii = no_ascii }
  word {q = q} (longer {b = b} {q = r} e k rest) [] (nothing f) column = absurd (let g : Some (as_byte b r) ≡ None = sym e ∙ f in cc)
  word {end = end} (longer {n = n} {b = b} {p = q} {q = r} e k rest) (c ∷ cs) (byte {q = t} apart f s) column =
      let g : Some (as_byte b r) ≡ Some (as_byte (text_byte c) t) = sym e ∙ f in
      let same : as_byte b r ≡ as_byte (text_byte c) t = cc in
      let at = shows q r b e k in
      let place : t ≡ r = sym (ap (λ (v : VirtualByte). v.next) same) in
      let on = at.on column in
      let further : 0 < (text.start r).column = (let one = at.column in let two = ap (λ (p : Point). p.column) on in omega (arith, one, two)) in
      word_more n b c q r end cs at k (code_of c b (is_eol c) refl (sym (ap (λ (v : VirtualByte). v.byte) same)) k) on
      (word rest cs (subst (λ (p : Point). Sees text p cs) place s) further)
  word (longer {b = b} {q = r} e k rest) (c ∷ cs) (tab {q = t} few f g s) column =
      absurd (let h : Some (as_byte b r) ≡ Some (as_byte 9 t) = sym e ∙ f in let same : as_byte b r ≡ as_byte 9 t = cc in
      let i : is_ascii_alphanumeric 9 ≡ true = ap is_ascii_alphanumeric (sym (ap (λ (v : VirtualByte). v.byte) same)) ∙ k in let j : false ≡ true = i in cc)

  pub word_known : (texts : List ℕ → Option (List ℕ)) (q end : Point) (n : ℕ) (cs : List ℕ) → IsWord q n cs end → 0 < n
      → is_name texts bytes n (text.start end).index ≡ is_some (texts (take n cs))
  word_known texts q end n cs w some =
      let i = (text.start q).index in
      ap (is_name texts bytes n) w.index
      ∙ (ap (λ (b : Bool). b && has_text texts (between (i + n - n) (i + n) bytes)) (le-leb (i + n) (length bytes) (w.within some))
      ∙ (ap (λ (k : ℕ). has_text texts (take (i + n - k) (drop k bytes))) (let e : i + n - n ≡ i = omega arith in e)
      ∙ (ap (λ (k : ℕ). has_text texts (take k (drop i bytes))) (let e : i + n - i ≡ n = omega arith in e)
      ∙ (ap (has_text texts) w.same
      ∙ ap (λ (b : Bool). b && is_some (texts (take n cs))) (is_utf8-from_IsUtf8 (take n cs) (IsUtf8-from_ascii (take n cs) w.ascii))))))
