-- Where the label of a footnote definition ends.
use Rattle.std.proofs.Common.{◌≡◌, ℕ, zero, ◌+◌, ◌<◌, suc, Bool, if◌then◌else◌, ◌==◌, true, false, ◌&&◌, ◌||◌, not, List, [], ◌∷◌, ◌++◌, Option}
use Rattle.std.proofs.Common.{None, Some, inl, inr, eqb, refl, sym, ap, ◌∙◌, length, get_or, take, drop, arith, nat_le, subst}
use Rattle.std.specs.List.{list_any}
use Rattle.std.specs.Option.{option_map}
use Rattle.std.proofs.lemmas.Bool.{cases_Bool, cond-true, cond-false, eqb-true, ne_eqb, or_parts, or_from}
use Rattle.definition_text.specs.Columns.{Rest, codes_from, is_white}
use Rattle.definition_text.specs.Content.{part, is_eol, is_space, may_escape, text_before, closed_by}
use Rattle.definition_inline.specs.Label.{ends_label, label_end, has_text, label_size, is_label}
use Rattle.definition_inline.proofs.DefinitionParts.{before_rest}
use Rattle.definition_block.specs.BlockQuote.{after_byte}
use Rattle.definition_block.specs.GfmFootnoteDefinition.{is_footnote_label, label_before, with_colon}
use Rattle.block_starts.proofs.Views.{view}
use Rattle.block_starts.specs.Labels.{label_len, is_short, NoLabel, IsLabelBefore}

-- ---- bytes

no_tab : (b : ℕ) → is_space b ≡ false → eqb b 9 ≡ false
no_tab b dark = ne_eqb b 9 (λ e. let wrong : true ≡ false = ap is_space (sym e) ∙ dark in cc)

no_eol : (b : ℕ) → is_space b ≡ false → is_eol b ≡ false
no_eol b dark = (or_parts (is_white b) (is_eol b) dark).1

no_bracket : (escaped : Bool) (c : ℕ) → is_space c ≡ true → ends_label escaped c ≡ false
no_bracket escaped c h =
    let other : (n : ℕ) → is_space n ≡ false → eqb c n ≡ false = λ n dark. ne_eqb c n (λ e. let wrong : true ≡ false = sym h ∙ ap is_space e ∙ dark in cc) in
    ap (λ x. x && not escaped) (or_from (eqb c 91) (eqb c 93) (other 91 refl) (other 93 refl))

-- ---- labels without white space

size_is_length : (text : List ℕ) → list_any is_space text ≡ false → label_size false text ≡ length text
size_is_length [] h = refl
size_is_length (c ∷ cs) h =
    let parts = or_parts (is_space c) (list_any is_space cs) h in
    let eol = no_eol c parts.0 in
    let more = size_is_length cs parts.1 in
    ap (λ x. (if x || (false && is_white c) then 0 else 1) + label_size (x || (false && is_white c)) cs) eol ∙ omega (arith, more)

has_some : (text : List ℕ) → list_any is_space text ≡ false → has_text text ≡ not (eqb (length text) 0)
has_some [] h = refl
has_some (c ∷ cs) h =
    let parts = or_parts (is_space c) (list_any is_space cs) h in
    let some : eqb (length (c ∷ cs)) 0 ≡ false = ne_eqb (length (c ∷ cs)) 0 (λ e. omega (arith, e)) in
    ap (λ x. not x || has_text cs) parts.0 ∙ sym (ap not some)

short_label : (text : List ℕ) → list_any is_space text ≡ false → is_footnote_label text ≡ is_short text
short_label text h =
    ap (λ x. is_label text && not x) h ∙ and_true (is_label text)
    ∙ ap (λ n. has_text text && nat_le n 999) (size_is_length text h) ∙ ap (λ x. x && nat_le (length text) 999) (has_some text h)
  where
    and_true : (x : Bool) → (x && true) ≡ x
    and_true true = refl
    and_true false = refl

-- ---- a label that is found

suc_found : (o : Option ℕ) (n : ℕ) → option_map suc o ≡ Some n → (m : ℕ) × (o ≡ Some m) × (n ≡ suc m)
suc_found None n h = let wrong : None ≡ Some n = h in cc
suc_found (Some m) n h = let e : Some (suc m) ≡ Some n = h in (m, refl, cc)

-- where the `]` of a label stands, and that no white space is before it
pub record Found (escaped : Bool) (column : ℕ) (bs : List ℕ) (n : ℕ) : Type 0 where
  pub closes : label_end escaped (codes_from column bs) ≡ Some (93 ∷ codes_from (column + n + 1) (drop (n + 1) bs))
  pub parts : codes_from column bs ≡ take n bs ++ 93 ∷ codes_from (column + n + 1) (drop (n + 1) bs)
  pub dark : list_any is_space (take n bs) ≡ false
  pub within : n < length bs
  pub bracket : get_or bs n 0 ≡ 93

found_first : (escaped : Bool) (column b : ℕ) (bs : List ℕ) (n : ℕ) → is_space b ≡ false → ends_label escaped b ≡ true
    → (if b == 93 then Some 0 else None) ≡ Some n → Found escaped column (b ∷ bs) n
found_first escaped column b bs n dark ends h =
    let first : codes_from column (b ∷ bs) ≡ b ∷ codes_from (column + 1) bs = cond-false (eqb b 9) _ _ (no_tab b dark) in
    elim (cases_Bool (eqb b 93)) [
      | inl e ↦
          let is : b ≡ 93 = eqb-true b 93 e in
          let zero : n ≡ 0 = let z : Some 0 ≡ Some n = sym (cond-true (eqb b 93) _ _ e) ∙ h in cc in
          let at : column + 1 ≡ column + n + 1 = omega (arith, zero) in
          let rest : codes_from (column + 1) bs ≡ codes_from (column + n + 1) (drop (n + 1) (b ∷ bs)) =
          ap (λ k. codes_from k bs) at ∙ ap (λ k. codes_from (column + n + 1) (drop (k + 1) (b ∷ bs))) (sym zero) in
          let code : codes_from column (b ∷ bs) ≡ 93 ∷ codes_from (column + n + 1) (drop (n + 1) (b ∷ bs)) =
          first ∙ ap (λ x. x ∷ codes_from (column + 1) bs) is ∙ ap (λ r. 93 ∷ r) rest in
          record {
            closes =
                ap (label_end escaped) first
                ∙ cond-true (ends_label escaped b) _ _ ends ∙ cond-true (eqb b 93) _ _ e ∙ ap Some (sym first ∙ code);
            parts = code ∙ ap (λ k. take k (b ∷ bs) ++ 93 ∷ codes_from (column + n + 1) (drop (n + 1) (b ∷ bs))) (sym zero);
            dark = ap (λ k. list_any is_space (take k (b ∷ bs))) zero;
            within = omega (arith, zero);
            bracket = ap (λ k. get_or (b ∷ bs) k 0) zero ∙ is;
          }
      | inr e ↦ let wrong : None ≡ Some n = sym (cond-false (eqb b 93) _ _ e) ∙ h in cc
    ]

found_later : (escaped : Bool) (column b : ℕ) (bs : List ℕ) (m n : ℕ) → is_space b ≡ false → ends_label escaped b ≡ false → n ≡ suc m
    → Found (may_escape escaped b) (column + 1) bs m → Found escaped column (b ∷ bs) n
found_later escaped column b bs m n dark other more f =
    let first : codes_from column (b ∷ bs) ≡ b ∷ codes_from (column + 1) bs = cond-false (eqb b 9) _ _ (no_tab b dark) in
    let at : column + 1 + m + 1 ≡ column + suc m + 1 = omega arith in
    let next : suc (m + 1) ≡ suc m + 1 = omega arith in
    let rest : codes_from (column + 1 + m + 1) (drop (m + 1) bs) ≡ codes_from (column + n + 1) (drop (n + 1) (b ∷ bs)) =
    ap (λ k. codes_from k (drop (m + 1) bs)) at ∙ ap (λ k. codes_from (column + suc m + 1) (drop k (b ∷ bs))) next
    ∙ ap (λ k. codes_from (column + k + 1) (drop (k + 1) (b ∷ bs))) (sym more) in
    record {
      closes = ap (label_end escaped) first ∙ cond-false (ends_label escaped b) _ _ other ∙ f.closes ∙ ap (λ r. Some (93 ∷ r)) rest;
      parts =
          first ∙ ap (λ r. b ∷ r) f.parts ∙ ap (λ r. b ∷ (take m bs ++ 93 ∷ r)) rest
          ∙ ap (λ k. take k (b ∷ bs) ++ 93 ∷ codes_from (column + n + 1) (drop (n + 1) (b ∷ bs))) (sym more);
      dark = ap (λ k. list_any is_space (take k (b ∷ bs))) more ∙ or_from (is_space b) (list_any is_space (take m bs)) dark f.dark;
      within = omega (arith, more, f.within);
      bracket = ap (λ k. get_or (b ∷ bs) k 0) more ∙ f.bracket;
    }

pub label_found : (escaped : Bool) (column : ℕ) (bs : List ℕ) (n : ℕ) → label_len escaped bs ≡ Some n → Found escaped column bs n
label_found escaped column [] n h = let wrong : None ≡ Some n = h in cc
label_found escaped column (b ∷ bs) n h =
    elim (cases_Bool (is_space b)) [
      | inl white ↦ let wrong : None ≡ Some n = sym (cond-true (is_space b) _ _ white) ∙ h in cc
      | inr dark ↦
          let next = sym (cond-false (is_space b) _ _ dark) ∙ h in
          elim (cases_Bool (ends_label escaped b)) [
            | inl ends ↦ found_first escaped column b bs n dark ends (sym (cond-true (ends_label escaped b) _ _ ends) ∙ next)
            | inr other ↦
                let later = suc_found (label_len (may_escape escaped b) bs) n (sym (cond-false (ends_label escaped b) _ _ other) ∙ next) in
                found_later escaped column b bs later.0 n dark other later.2 (label_found (may_escape escaped b) (column + 1) bs later.0 later.1)
          ]
    ]

pub is_label_before : (column : ℕ) (bs : List ℕ) (n : ℕ) → Found false column bs n
    → IsLabelBefore (codes_from column bs) (take n bs) (codes_from (column + n + 1) (drop (n + 1) bs))
is_label_before column bs n f =
    let text = take n bs in
    let after = codes_from (column + n + 1) (drop (n + 1) bs) in
    ap (λ o. with_colon (closed_by (codes_from column bs) o)) f.closes
    ∙ ap (λ x. with_colon (Some (part (text_before x (93 ∷ after)) after))) f.parts
    ∙ ap (λ x. with_colon (Some (part x after))) (before_rest text (93 ∷ after))
    ∙ ap (λ x. if x then label_before text (after_byte 58 after) else None) (short_label text f.dark)

-- ---- a label that isn't there

-- white space stands before the bracket that closes a label
abbrev HasSpaceBefore : Bool → Rest → Type 0
HasSpaceBefore escaped rest = (r : Rest) → label_end escaped rest ≡ Some r → (front : List ℕ) × (rest ≡ front ++ r) × (list_any is_space front ≡ true)

end_of : (escaped : Bool) (rest r : Rest) → label_end escaped rest ≡ Some r → (front : List ℕ) × (rest ≡ front ++ r)
end_of escaped [] r h = let wrong : None ≡ Some r = h in cc
end_of escaped (c ∷ cs) r h =
    elim (cases_Bool (ends_label escaped c)) [
      | inl ends ↦
          let e = sym (cond-true (ends_label escaped c) _ _ ends) ∙ h in
          elim (cases_Bool (eqb c 93)) [
            | inl close ↦ let all : Some (c ∷ cs) ≡ Some r = sym (cond-true (eqb c 93) _ _ close) ∙ e in ([], cc)
            | inr open_bracket ↦ let wrong : None ≡ Some r = sym (cond-false (eqb c 93) _ _ open_bracket) ∙ e in cc
          ]
      | inr other ↦
          let more = end_of (may_escape escaped c) cs r (sym (cond-false (ends_label escaped c) _ _ other) ∙ h) in
          (c ∷ more.0, ap (λ x. c ∷ x) more.1)
    ]

pub space_first : (escaped : Bool) (c : ℕ) (cs : Rest) → is_space c ≡ true → HasSpaceBefore escaped (c ∷ cs)
space_first escaped c cs white r h =
    let more = end_of (may_escape escaped c) cs r (sym (cond-false (ends_label escaped c) _ _ (no_bracket escaped c white)) ∙ h) in
    (c ∷ more.0, ap (λ x. c ∷ x) more.1, ap (λ x. x || list_any is_space more.0) white)

none_later : (o : Option ℕ) → option_map suc o ≡ None → o ≡ None
none_later None h = refl
none_later (Some n) h = let wrong : Some (suc n) ≡ None = h in cc

space_codes : (escaped : Bool) (column b : ℕ) (bs : List ℕ) → is_space b ≡ true → HasSpaceBefore escaped (codes_from column (b ∷ bs))
space_codes escaped column b bs white =
    elim (cases_Bool (eqb b 9)) [
      | inl tab ↦ subst (HasSpaceBefore escaped) (sym (cond-true (eqb b 9) _ _ tab)) (space_first escaped 9 _ refl)
      | inr other ↦ subst (HasSpaceBefore escaped) (sym (cond-false (eqb b 9) _ _ other)) (space_first escaped b (codes_from (column + 1) bs) white)
    ]

pub space_before : (escaped : Bool) (column : ℕ) (bs : List ℕ) → label_len escaped bs ≡ None → HasSpaceBefore escaped (codes_from column bs)
space_before escaped column [] h r e = let wrong : None ≡ Some r = e in cc
space_before escaped column (b ∷ bs) h r e =
    elim (cases_Bool (is_space b)) [
      | inl white ↦ space_codes escaped column b bs white r e
      | inr dark ↦
          let first : codes_from column (b ∷ bs) ≡ b ∷ codes_from (column + 1) bs = cond-false (eqb b 9) _ _ (no_tab b dark) in
          let e2 = sym (ap (label_end escaped) first) ∙ e in
          let h2 = sym (cond-false (is_space b) _ _ dark) ∙ h in
          elim (cases_Bool (ends_label escaped b)) [
            | inl ends ↦
                let e3 = sym (cond-true (ends_label escaped b) _ _ ends) ∙ e2 in
                let h3 = sym (cond-true (ends_label escaped b) _ _ ends) ∙ h2 in
                elim (cases_Bool (eqb b 93)) [
                  | inl close ↦ let wrong : Some 0 ≡ None = sym (cond-true (eqb b 93) _ _ close) ∙ h3 in cc
                  | inr open_bracket ↦ let wrong : None ≡ Some r = sym (cond-false (eqb b 93) _ _ open_bracket) ∙ e3 in cc
                ]
            | inr other ↦
                let vain = none_later (label_len (may_escape escaped b) bs) (sym (cond-false (ends_label escaped b) _ _ other) ∙ h2) in
                let more = space_before (may_escape escaped b) (column + 1) bs vain r (sym (cond-false (ends_label escaped b) _ _ other) ∙ e2) in
                (b ∷ more.0, first ∙ ap (λ x. b ∷ x) more.1, or_second (is_space b) (list_any is_space more.0) more.2)
          ]
    ]
  where
    or_second : (x y : Bool) → y ≡ true → (x || y) ≡ true
    or_second true y h = refl
    or_second false y h = h

no_label_at : (rest : Rest) (o : Option Rest) → ((r : Rest) → o ≡ Some r → (front : List ℕ) × (rest ≡ front ++ r) × (list_any is_space front ≡ true))
    → with_colon (closed_by rest o) ≡ None
no_label_at rest None h = refl
no_label_at rest (Some r) h =
    let front = h r refl in
    let text : text_before rest r ≡ front.0 = ap (λ x. text_before x r) front.1 ∙ before_rest front.0 r in
    let none : is_footnote_label (text_before rest r) ≡ false =
    ap is_footnote_label text ∙ ap (λ x. is_label front.0 && not x) front.2 ∙ and_false (is_label front.0) in
    cond-false (is_footnote_label (text_before rest r)) _ _ none
  where
    and_false : (x : Bool) → (x && false) ≡ false
    and_false true = refl
    and_false false = refl

pub no_label : (rest : Rest) → HasSpaceBefore false rest → NoLabel rest
no_label rest h = no_label_at rest (label_end false rest) h

-- columns left of a tab are white space
pub no_label_owed : (owed column : ℕ) (bs : List ℕ) → 0 < owed → NoLabel (view owed column bs)
no_label_owed zero column bs some = absurd (omega arith)
no_label_owed (suc owed) column bs some = no_label (view (suc owed) column bs) (space_first false 256 (view owed column bs) refl)

-- ---- byte by byte

-- what is left of a search, from a byte on
abbrev pub LabelFrom : List ℕ → ℕ → Bool → Type 0
LabelFrom bs i escaped = label_len false bs ≡ option_map (λ n. i + n) (label_len escaped (drop i bs))
