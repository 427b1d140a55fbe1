-- A written string stands for its text (CommonMark 2.4 and 2.5).
use Rattle.std.proofs.Common.{◌≡◌, ◌<◌, ◌≤◌, ℕ, ◌+◌, ◌-◌, ◌==◌, Bool, true, false, ◌||◌, ◌&&◌, if◌then◌else◌, List, [], ◌∷◌, ◌++◌, length, drop, Option, None}
use Rattle.std.proofs.Common.{Some, refl, sym, ap, ◌∙◌, subst, arith}
use Rattle.std.specs.Prelude.{codes, nat_le}
use Rattle.std.specs.Char.{is_ascii_punctuation, encode_utf8}
use Rattle.std.specs.Fmt.{decimal, digits}
use Rattle.std.specs.List.{flat_map}
use Rattle.std.proofs.lemmas.Bool.{eqb-true, or_parts}
use Rattle.markdown_options.specs.Defaults.{default_constructs}
use Rattle.definition_text.specs.Ascii.{ampersand, backslash, carriage_return}
use Rattle.definition_text.specs.Columns.{Code, is_white, indent}
use Rattle.definition_text.specs.Content.{content_codes, after_return_code, is_eol}
use Rattle.definition_inline.specs.CharacterReference.{Names, reference_after, reference_of, reference_at}
use Rattle.definition_inline.specs.CharacterEscape.{escape_at}
use Rattle.definition_inline.specs.HardBreak.{line_end_at}
use Rattle.definition_inline.specs.Inline.{Found, Escape, LineEnd, leaf, or_else}
use Rattle.definition_inline.specs.Strings.{begins_with_eol, string_leaf_at, or_byte, string_parts, string_bytes, string_text, spaces_at}
use Rattle.event_meaning.specs.Strings.{is_told, written_byte, written}

-- either of three, as `is_white` and `is_eol` say it
abbrev or_white : Bool → Bool → Bool → Bool
or_white a b c = a || b || c

-- what holds of the eight codes that are told holds of each that is told
told_each : (P : ℕ → Type 0) → P 32 → P 9 → P 256 → P 10 → P 13 → P 257 → P 38 → P 92 → (b : ℕ) → is_told b ≡ true → P b
told_each P p32 p9 p256 p10 p13 p257 p38 p92 b h =
    by_told (b == 32) (b == 9) (b == 256) (b == 10) (b == 13) (b == 257) (b == 38) (b == 92) refl refl refl refl refl refl refl refl h
  where
    one : (k : ℕ) → P k → (b == k) ≡ true → P b
    one k p e = subst P (sym (eqb-true b k e)) p

    by_told : (a c d e f g i j : Bool) → (b == 32) ≡ a → (b == 9) ≡ c → (b == 256) ≡ d → (b == 10) ≡ e → (b == 13) ≡ f → (b == 257) ≡ g → (b == 38) ≡ i
        → (b == 92) ≡ j → or_white a c d || (or_white e f g || (i || j)) ≡ true → P b
    by_told true c d e f g i j s t u v w x y z h = one 32 p32 s
    by_told false true d e f g i j s t u v w x y z h = one 9 p9 t
    by_told false false true e f g i j s t u v w x y z h = one 256 p256 u
    by_told false false false true f g i j s t u v w x y z h = one 10 p10 v
    by_told false false false false true g i j s t u v w x y z h = one 13 p13 w
    by_told false false false false false true i j s t u v w x y z h = one 257 p257 x
    by_told false false false false false false true j s t u v w x y z h = one 38 p38 y
    by_told false false false false false false false true s t u v w x y z h = one 92 p92 z
    by_told false false false false false false false false s t u v w x y z h = absurd (let f : false ≡ true = h in cc)

-- ---- the codes of a written string are its bytes: there are no line endings in it

codes_of_told : (xs : List ℕ) (b : ℕ) → is_told b ≡ true
    → content_codes ((codes "&#" ++ decimal b ++ codes ";") ++ xs) ≡ (codes "&#" ++ decimal b ++ codes ";") ++ content_codes xs
unfolding digits
codes_of_told xs b h =
    told_each (λ b. content_codes ((codes "&#" ++ decimal b ++ codes ";") ++ xs) ≡ (codes "&#" ++ decimal b ++ codes ";") ++ content_codes xs)
    refl refl refl refl refl refl refl refl b h

return_by : (b : ℕ) (t : Bool) → (b == carriage_return) ≡ t → is_told b ≡ false → t ≡ false
return_by b false e h = refl
return_by b true e h =
    let is : b ≡ 13 = eqb-true b 13 e in
    absurd (let f : true ≡ false = sym (ap is_told is) ∙ h in cc)

return_told : (b : ℕ) (t : Bool) → (b == carriage_return) ≡ t → is_told b ≡ false → (b == carriage_return) ≡ false
return_told b t e h = e ∙ return_by b t e h

codes_of_plain : (xs : List ℕ) (b : ℕ) → is_told b ≡ false → content_codes (b ∷ xs) ≡ b ∷ content_codes xs
codes_of_plain xs b h =
    ap (λ (z : Bool). if z then after_return_code xs (content_codes xs) else b ∷ content_codes xs) (return_told b (b == carriage_return) refl h)

codes_of_byte : (xs : List ℕ) (b : ℕ) (t : Bool) → is_told b ≡ t → content_codes (written_byte b ++ xs) ≡ written_byte b ++ content_codes xs
codes_of_byte xs b true h =
    ap (λ (t : Bool). content_codes ((if t then codes "&#" ++ decimal b ++ codes ";" else b ∷ []) ++ xs)) h
    ∙ codes_of_told xs b h
    ∙ ap (λ (t : Bool). (if t then codes "&#" ++ decimal b ++ codes ";" else b ∷ []) ++ content_codes xs) (sym h)
codes_of_byte xs b false h =
    ap (λ (t : Bool). content_codes ((if t then codes "&#" ++ decimal b ++ codes ";" else b ∷ []) ++ xs)) h
    ∙ codes_of_plain xs b h
    ∙ ap (λ (t : Bool). (if t then codes "&#" ++ decimal b ++ codes ";" else b ∷ []) ++ content_codes xs) (sym h)

pub written_codes : (text : List ℕ) → content_codes (written text) ≡ written text
written_codes [] = refl
written_codes (b ∷ bs) = codes_of_byte (written bs) b (is_told b) refl ∙ ap (λ (z : List ℕ). written_byte b ++ z) (written_codes bs)

-- ---- a written string stands for its text, by whatever names, where escapes and references are on

module _ (names : Names) where
  abbrev stands_for : List Code → List ℕ
  stands_for = string_text default_constructs names

  abbrev rest_of : ℕ → List Code → List ℕ
  rest_of k cs = flat_map string_bytes (string_parts default_constructs names k cs)

  size_four : (a b c d : Code) (cs : List Code) → length (a ∷ b ∷ c ∷ d ∷ cs) - length cs - 1 ≡ 3
  size_four a b c d cs = omega arith

  size_five : (a b c d e : Code) (cs : List Code) → length (a ∷ b ∷ c ∷ d ∷ e ∷ cs) - length cs - 1 ≡ 4
  size_five a b c d e cs = omega arith

  abbrev Told : ℕ → Type 0
  Told b = b < 256 → (cs : List Code) → stands_for ((codes "&#" ++ decimal b ++ codes ";") ++ cs) ≡ b ∷ stands_for cs

  told_tab : Told 9
  unfolding digits encode_utf8
  told_tab l cs = ap (λ k. 9 ∷ rest_of k (35 ∷ 57 ∷ 59 ∷ cs)) (size_four 38 35 57 59 cs)

  told_feed : Told 10
  unfolding digits encode_utf8
  told_feed l cs = ap (λ k. 10 ∷ rest_of k (35 ∷ 49 ∷ 48 ∷ 59 ∷ cs)) (size_five 38 35 49 48 59 cs)

  told_return : Told 13
  unfolding digits encode_utf8
  told_return l cs = ap (λ k. 13 ∷ rest_of k (35 ∷ 49 ∷ 51 ∷ 59 ∷ cs)) (size_five 38 35 49 51 59 cs)

  told_space : Told 32
  unfolding digits encode_utf8
  told_space l cs = ap (λ k. 32 ∷ rest_of k (35 ∷ 51 ∷ 50 ∷ 59 ∷ cs)) (size_five 38 35 51 50 59 cs)

  told_ampersand : Told 38
  unfolding digits encode_utf8
  told_ampersand l cs = ap (λ k. 38 ∷ rest_of k (35 ∷ 51 ∷ 56 ∷ 59 ∷ cs)) (size_five 38 35 51 56 59 cs)

  told_backslash : Told 92
  unfolding digits encode_utf8
  told_backslash l cs = ap (λ k. 92 ∷ rest_of k (35 ∷ 57 ∷ 50 ∷ 59 ∷ cs)) (size_five 38 35 57 50 59 cs)

  no_byte : (b : ℕ) → 256 ≤ b → Told b
  no_byte b m l = absurd (omega arith)

  told_text : (b : ℕ) → is_told b ≡ true → Told b
  told_text b h =
      told_each Told told_space told_tab (no_byte 256 (omega arith)) told_feed told_return (no_byte 257 (omega arith)) told_ampersand told_backslash b h

  -- a byte that isn't told stands for itself
  no_escape : (b : ℕ) (cs : List Code) → (b == backslash) ≡ false → escape_at default_constructs (b ∷ cs) ≡ None
  no_escape b [] h = refl
  no_escape b (c ∷ cs) h = ap (λ (t : Bool). if t && is_ascii_punctuation c then Some (leaf (Escape c ∷ []) 2) else None) h

  no_reference : (b : ℕ) (cs : List Code) → (b == ampersand) ≡ false → reference_at default_constructs names (b ∷ cs) ≡ None
  no_reference b cs h = ap (λ (t : Bool). reference_of names (b ∷ cs) (if t then reference_after cs else None)) h

  no_line_end : (b : ℕ) (cs : List Code) → is_eol b ≡ false → line_end_at (b ∷ cs) ≡ None
  no_line_end b cs h = ap (λ (t : Bool). if t then Some (leaf (LineEnd b ∷ []) (1 + indent cs)) else None) h

  no_indent : (b : ℕ) (cs : List Code) → is_white b ≡ false → indent (b ∷ cs) ≡ 0
  no_indent b cs h = ap (λ (t : Bool). if t then 1 + indent cs else 0) h

  no_spaces : (b : ℕ) (cs : List Code) → is_white b ≡ false → spaces_at (b ∷ cs) ≡ None
  no_spaces b cs h =
      ap (λ (k : ℕ). if nat_le 1 k && begins_with_eol (drop k (b ∷ cs)) then Some (leaf [] k) else None) (no_indent b cs h)

  no_leaf : (b : ℕ) (cs : List Code) → is_told b ≡ false → string_leaf_at default_constructs names (b ∷ cs) ≡ None
  no_leaf b cs h =
      let white = or_parts (is_white b) (is_eol b || ((b == ampersand) || (b == backslash))) h in
      let ending = or_parts (is_eol b) ((b == ampersand) || (b == backslash)) white.1 in
      let others = or_parts (b == ampersand) (b == backslash) ending.1 in
      ap (λ (o : Option Found). or_else o (or_else (reference_at default_constructs names (b ∷ cs)) (or_else (line_end_at (b ∷ cs)) (spaces_at (b ∷ cs)))))
      (no_escape b cs others.1)
      ∙ ap (λ (o : Option Found). or_else o (or_else (line_end_at (b ∷ cs)) (spaces_at (b ∷ cs)))) (no_reference b cs others.0)
      ∙ ap (λ (o : Option Found). or_else o (spaces_at (b ∷ cs))) (no_line_end b cs ending.0)
      ∙ no_spaces b cs white.0

  plain_text : (b : ℕ) (cs : List Code) → is_told b ≡ false → stands_for (b ∷ cs) ≡ b ∷ stands_for cs
  plain_text b cs h =
      ap (λ (o : Option Found). flat_map string_bytes ((or_byte b o).parts ++ string_parts default_constructs names ((or_byte b o).size - 1) cs))
      (no_leaf b cs h)

  byte_text : (b : ℕ) (cs : List Code) (t : Bool) → is_told b ≡ t → b < 256 → stands_for (written_byte b ++ cs) ≡ b ∷ stands_for cs
  byte_text b cs true h l = ap (λ (t : Bool). stands_for ((if t then codes "&#" ++ decimal b ++ codes ";" else b ∷ []) ++ cs)) h ∙ told_text b h l cs
  byte_text b cs false h l = ap (λ (t : Bool). stands_for ((if t then codes "&#" ++ decimal b ++ codes ";" else b ∷ []) ++ cs)) h ∙ plain_text b cs h

  abbrev AreBytes : List ℕ → Type 0
  AreBytes [] = Unit {0}
  AreBytes (b ∷ bs) = (b < 256) × AreBytes bs

  -- The law of written strings: a written string stands for its text.
  pub written_text : (text : List ℕ) → AreBytes text → stands_for (written text) ≡ text
  written_text [] h = refl
  written_text (b ∷ bs) h = byte_text b (written bs) (is_told b) refl h.0 ∙ ap (λ (z : List ℕ). b ∷ z) (written_text bs h.1)
