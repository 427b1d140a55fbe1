-- The bytes of a row of delimiters are bars, white space and delimiters.
use Rattle.std.proofs.Common.{◌≡◌, ℕ, zero, suc, ◌+◌, ◌-◌, ◌<◌, Bool, true, false, not, ◌&&◌, List, [], ◌∷◌, ◌++◌, Option, None, Some, drop, take, length, get_or, replicate, inl, inr, refl, sym, ap, ap₂, subst, ◌∙◌, arith, eqb, append_assoc, length-drop}
use Rattle.parse_tables.proofs.Prelude.{AlignKind, alignment, alignments_of, all_prefix, and_alignment, and_parts, append-nil, AreDelimiters, bar}
use Rattle.parse_tables.proofs.Prelude.{begins_other, cases_Bool, Cell, cell, cells, colon_if, column, column_delimiter, cond-false, cond-true}
use Rattle.parse_tables.proofs.Prelude.{delimiters, eqb-true, in_first_cell, is_bar, is_bar_or_colon, is_blank, is_white, Kind, list_all}
use Rattle.parse_tables.proofs.Prelude.{list_any, may_escape, ne_eqb, none, parts, prefix_len, run, some_alignments, suffix_len, take-append-drop, trim}
use Rattle.parse_tables.proofs.Prelude.{true≢false, white, without_blank_first, without_blank_last}
use Rattle.std.specs.Prelude.{codes, reverse}
use Rattle.std.specs.Option.{option_map}
use Rattle.std.proofs.lemmas.List.{get_or-reverse}
use Rattle.std.proofs.Common.{get_or-drop}
use Rattle.std.proofs.lemmas.List.Sums.{list_all-from_AllPass, prefix_len_passes, suffix_len-le-length}
use Rattle.std.proofs.lemmas.Slice.Eq.{bytes_eq-Decides}
use Rattle.markdown_options.specs.declared.beside.Kind.TheVariants.{Punctuation, Whitespace}
use Rattle.definition_text.specs.Bytes.{begins_with}
use Rattle.definition_text.specs.Runs.{after_run}
use Rattle.definition_block.specs.GfmTable.{after_dashes}
use Rattle.definition_block.specs.GfmTable.{right_colon}

-- ---- a line as its parts

abbrev joined : List Cell → List ℕ
joined [] = []
joined (c ∷ []) = c.codes
joined (c ∷ d ∷ cs) = c.codes ++ 124 ∷ joined (d ∷ cs)

abbrev IsSome : List Cell → Type 0
IsSome [] = ⊥
IsSome (c ∷ cs) = Unit {0}

joined_first : (c : ℕ) (before : Kind) (ps : List Cell) → IsSome ps → (joined (in_first_cell c before ps) ≡ c ∷ joined ps) × IsSome (in_first_cell c before ps)
joined_first c before [] h = absurd h
joined_first c before (p ∷ []) h = (refl, tt)
joined_first c before (p ∷ q ∷ ps) h = (refl, tt)

joined_bar : (before : Kind) (ps : List Cell) → IsSome ps → joined (cell [] before Punctuation ∷ ps) ≡ 124 ∷ joined ps
joined_bar before [] h = absurd h
joined_bar before (p ∷ ps) h = refl

parts_joined : (before : Kind) (escaped : Bool) (cs : List ℕ) → (joined (parts before escaped cs) ≡ cs) × IsSome (parts before escaped cs)
parts_joined before escaped [] = (refl, tt)
parts_joined before escaped (c ∷ cs) = elim (cases_Bool (is_bar escaped c)) [
  | inl h ↦
      let is : c ≡ 124 = eqb-true c 124 (and_parts (eqb c 124) (not escaped) h).0 in
      let more = parts_joined Punctuation false cs in
      let same = cond-true (is_bar escaped c) (cell [] before Punctuation ∷ parts Punctuation false cs) _ h in (
        ap joined same ∙ joined_bar before (parts Punctuation false cs) more.1 ∙ ap₂ (λ (x : ℕ) xs. x ∷ xs) (sym is) more.0,
        subst IsSome (sym same) tt,
      )
  | inr h ↦
      let more = parts_joined before (may_escape escaped c) cs in
      let same = cond-false (is_bar escaped c) _ (in_first_cell c before (parts before (may_escape escaped c) cs)) h in
      let first = joined_first c before (parts before (may_escape escaped c) cs) more.1 in
      (ap joined same ∙ first.0 ∙ ap (λ xs. c ∷ xs) more.0, subst IsSome (sym same) first.1)
]

-- ---- white space

whites : (w rest : List ℕ) (aligns : List AlignKind) → list_all is_white w ≡ true → AreDelimiters rest aligns → AreDelimiters (w ++ rest) aligns
whites [] rest aligns h d = d
whites (b ∷ w) rest aligns h d = let both = and_parts (is_white b) (list_all is_white w) h in white both.0 (whites w rest aligns both.1 d)

-- white space at the end of a text
white_end : (text : List ℕ) → list_all is_white (drop (length text - suffix_len is_white text) text) ≡ true
white_end text =
    let size = length text - suffix_len is_white text in
    let within = suffix_len-le-length is_white text in
    list_all-from_AllPass is_white (drop size text)
    (λ k d lt.
    let length_is = length-drop size text in
    let all : size + k < length text = omega (arith, lt, length_is, within) in
    let back : length text - 1 - (size + k) < suffix_len is_white text = omega (arith, all, within) in
    let far : length text - 1 - (size + k) < length text = omega (arith, all) in
    let there : length text - 1 - (length text - 1 - (size + k)) ≡ size + k = omega (arith, all) in
    ap is_white (get_or-drop size text k d ∙ sym (ap (λ (j : ℕ). get_or text j d) there) ∙ sym (get_or-reverse text (length text - 1 - (size + k)) d far))
    ∙ prefix_len_passes is_white (reverse text) (length text - 1 - (size + k)) d back)

-- a text is what is left of it between white space
record IsTrimmed (text : List ℕ) : Type 0 where
  first : List ℕ
  last : List ℕ
  same : text ≡ first ++ (trim text ++ last)
  white_first : list_all is_white first ≡ true
  white_last : list_all is_white last ≡ true

trimmed : (text : List ℕ) → IsTrimmed text
trimmed text =
    let k = prefix_len is_white text in
    let rest = drop k text in
    let m = length rest - suffix_len is_white rest in
    record {
      first = take k text;
      last = drop m rest;
      same = sym (take-append-drop k text) ∙ ap (λ xs. take k text ++ xs) (sym (take-append-drop m rest));
      white_first = all_prefix is_white k text (omega arith);
      white_last = white_end rest;
    }

-- ---- a delimiter

dashes : (text : List ℕ) → text ≡ replicate (run 45 text) 45 ++ after_run 45 text
dashes [] = refl
dashes (b ∷ bs) = elim (cases_Bool (eqb b 45)) [
  | inl h ↦
      let is : b ≡ 45 = eqb-true b 45 h in
      let size : run 45 (b ∷ bs) ≡ suc (run 45 bs) = cond-true (eqb b 45) _ 0 h ∙ omega arith in
      ap₂ (λ (x : ℕ) xs. x ∷ xs) is (dashes bs) ∙ ap (λ (k : ℕ). replicate k 45 ++ drop k (b ∷ bs)) (sym size)
  | inr h ↦ ap (λ (k : ℕ). replicate k 45 ++ drop k (b ∷ bs)) (sym (cond-false (eqb b 45) _ 0 h))
]

record IsColumn (text : List ℕ) (a : AlignKind) : Type 0 where
  left : Bool
  right : Bool
  n : ℕ
  same : text ≡ colon_if left ++ (45 ∷ (replicate n 45 ++ colon_if right))
  is : a ≡ alignment left right

colon_right : (text : List ℕ) (right : Bool) → right_colon text ≡ Some right → text ≡ colon_if right
colon_right [] right h = let is : false ≡ right = cc in ap colon_if is
colon_right (c ∷ []) right h = elim (cases_Bool (eqb c 58)) [
  | inl e ↦
      let is : true ≡ right = (let some : Some true ≡ Some right = sym (cond-true (eqb c 58) (Some true) None e) ∙ h in cc) in
      ap (λ x. x ∷ []) (eqb-true c 58 e) ∙ ap colon_if is
  | inr e ↦ absurd (let wrong : None ≡ Some right = sym (cond-false (eqb c 58) (Some true) None e) ∙ h in cc)
]
colon_right (c ∷ d ∷ cs) right h = absurd (cc)

some_dash : (n : ℕ) → eqb (suc n) 0 ≡ false
some_dash n = ne_eqb (suc n) 0 (λ e. omega (arith, e))

dashes_column : (left : Bool) (text : List ℕ) (a : AlignKind) → after_dashes left text ≡ Some a → IsColumn (colon_if left ++ text) a
dashes_column left text a h = by_size (run 45 text) refl (right_colon (after_run 45 text)) refl
  where
    by_size : (k : ℕ) → run 45 text ≡ k → (found : Option Bool) → right_colon (after_run 45 text) ≡ found → IsColumn (colon_if left ++ text) a
    by_size zero size found is = absurd (let wrong : None ≡ Some a = sym (cond-true (eqb (run 45 text) 0) None _ (ap (λ (k : ℕ). eqb k 0) size)) ∙ h in cc)
    by_size (suc n) size None is =
        absurd (let wrong : None ≡ Some a = sym (ap (option_map (alignment left)) is) ∙ sym (cond-false (eqb (run 45 text) 0) None _ (ap (λ (k : ℕ). eqb k 0) size ∙ some_dash n)) ∙ h in cc)
    by_size (suc n) size (Some right) is =
        let same : Some (alignment left right) ≡ Some a =
        sym (ap (option_map (alignment left)) is) ∙ sym (cond-false (eqb (run 45 text) 0) None _ (ap (λ (k : ℕ). eqb k 0) size ∙ some_dash n)) ∙ h in
        record {
          left = left;
          right = right;
          n = n;
          same = ap (λ xs. colon_if left ++ xs) (dashes text ∙ ap₂ (λ (k : ℕ) xs. replicate k 45 ++ xs) size (colon_right (after_run 45 text) right is));
          is = cc;
        }

colon_first : (text : List ℕ) → begins_with (codes ":") text ≡ true → text ≡ 58 ∷ drop 1 text
colon_first [] h = let wrong : false ≡ true = h in absurd (cc)
colon_first (b ∷ bs) h =
    let e = (bytes_eq-Decides (58 ∷ []) (b ∷ [])).0 h in
    ap (λ x. x ∷ bs) (sym (ap (λ l. get_or l 0 0) e))

column_is : (text : List ℕ) (a : AlignKind) → column_delimiter text ≡ Some a → IsColumn text a
column_is text a h = elim (cases_Bool (begins_with (codes ":") text)) [
  | inl e ↦
      subst (λ t. IsColumn t a) (sym (colon_first text e))
      (dashes_column true (drop 1 text) a (sym (cond-true (begins_with (codes ":") text) _ _ e) ∙ h))
  | inr e ↦ dashes_column false text a (sym (cond-false (begins_with (codes ":") text) _ _ e) ∙ h)
]

-- ---- cells

-- no delimiter goes on there
abbrev IsBarOrEnd : List ℕ → Type 0
IsBarOrEnd [] = Unit {0}
IsBarOrEnd (b ∷ bs) = b ≡ 124

other_after : (w rest : List ℕ) → list_all is_white w ≡ true → IsBarOrEnd rest → begins_other (w ++ rest) ≡ true
other_after [] [] h e = refl
other_after [] (b ∷ rest) h e = ap (λ x. begins_other (x ∷ rest)) e
other_after (b ∷ w) rest h e =
    let both = and_parts (is_white b) (list_all is_white w) h in
    white_other b (w ++ rest) both.0
  where
    white_other : (b : ℕ) (bs : List ℕ) → is_white b ≡ true → begins_other (b ∷ bs) ≡ true
    white_other b bs h = elim (cases_Bool (eqb b 58)) [
      | inl e ↦ absurd (true≢false (sym h ∙ ap is_white (eqb-true b 58 e)))
      | inr e ↦ elim (cases_Bool (eqb b 45)) [
        | inl f ↦ absurd (true≢false (sym h ∙ ap is_white (eqb-true b 45 f)))
        | inr f ↦ ap₂ (λ x y. not x && not y) e f
      ]
    ]

cell_delimited : (codes rest : List ℕ) (a : AlignKind) (aligns : List AlignKind) → column_delimiter (trim codes) ≡ Some a → IsBarOrEnd rest → AreDelimiters rest aligns
    → AreDelimiters (codes ++ rest) (a ∷ aligns)
cell_delimited codes rest a aligns h e d =
    let t = trimmed codes in
    let c = column_is (trim codes) a h in
    let tail = t.last ++ rest in
    let inner : AreDelimiters (trim codes ++ tail) (alignment c.left c.right ∷ aligns) =
    column c.left c.right c.n (shape codes c.left c.right c.n c.same tail) (other_after t.last rest t.white_last e) (whites t.last rest aligns t.white_last d) in
    let all : codes ++ rest ≡ t.first ++ (trim codes ++ tail) =
    ap (λ xs. xs ++ rest) t.same ∙ append_assoc t.first (trim codes ++ t.last) rest ∙ ap (λ xs. t.first ++ xs) (append_assoc (trim codes) t.last rest) in
    subst (λ x. AreDelimiters (codes ++ rest) (x ∷ aligns)) (sym c.is)
    (subst (λ xs. AreDelimiters xs (alignment c.left c.right ∷ aligns)) (sym all) (whites t.first (trim codes ++ tail) (alignment c.left c.right ∷ aligns) t.white_first inner))
  where
    shape : (codes : List ℕ) (left right : Bool) (n : ℕ) → trim codes ≡ colon_if left ++ (45 ∷ (replicate n 45 ++ colon_if right)) → (tail : List ℕ)
        → trim codes ++ tail ≡ colon_if left ++ (45 ∷ (replicate n 45 ++ (colon_if right ++ tail)))
    shape codes left right n same tail =
        ap (λ xs. xs ++ tail) same
        ∙ append_assoc (colon_if left) (45 ∷ (replicate n 45 ++ colon_if right)) tail
        ∙ ap (λ xs. colon_if left ++ (45 ∷ xs)) (append_assoc (replicate n 45) (colon_if right) tail)

-- one more alignment before others
record AreMore (first : Option AlignKind) (others : Option (List AlignKind)) (aligns : List AlignKind) : Type 0 where
  a : AlignKind
  more : List AlignKind
  first_is : first ≡ Some a
  others_are : others ≡ Some more
  same : aligns ≡ a ∷ more

are_more : (first : Option AlignKind) (others : Option (List AlignKind)) (aligns : List AlignKind) → and_alignment first others ≡ Some aligns → AreMore first others aligns
are_more None others aligns h = absurd (let wrong : None ≡ Some aligns = h in cc)
are_more (Some a) None aligns h = absurd (let wrong : None ≡ Some aligns = h in cc)
are_more (Some a) (Some more) aligns h = record { a = a; more = more; first_is = refl; others_are = refl; same = (let s : Some (a ∷ more) ≡ Some aligns = h in cc) }

blank_delimited : (w : List ℕ) (aligns : List AlignKind) → list_all is_white w ≡ true → (let all : Option (List AlignKind) = Some [] in all ≡ Some aligns) → AreDelimiters w aligns
blank_delimited w aligns h e =
    let is : [] ≡ aligns = cc in
    subst (AreDelimiters w) is (subst (λ xs. AreDelimiters xs []) (append-nil w) (whites w [] [] h none))

last_delimited : (ps : List Cell) (aligns : List AlignKind) → alignments_of (without_blank_last ps) ≡ Some aligns → AreDelimiters (joined ps) aligns
last_delimited [] aligns h = let is : [] ≡ aligns = cc in subst (AreDelimiters []) is none
last_delimited (c ∷ []) aligns h = elim (cases_Bool (is_blank c.codes)) [
  | inl e ↦ blank_delimited c.codes aligns e (sym (ap alignments_of (cond-true (is_blank c.codes) [] (c ∷ []) e)) ∙ h)
  | inr e ↦
      let m = are_more (column_delimiter (trim c.codes)) (Some []) aligns (sym (ap alignments_of (cond-false (is_blank c.codes) [] (c ∷ []) e)) ∙ h) in
      let last : [] ≡ m.more = (let s = m.others_are in cc) in
      subst (AreDelimiters c.codes) (ap (λ xs. m.a ∷ xs) last ∙ sym m.same)
      (subst (λ xs. AreDelimiters xs (m.a ∷ [])) (append-nil c.codes) (cell_delimited c.codes [] m.a [] m.first_is tt none))
]
last_delimited (c ∷ d ∷ cs) aligns h =
    let m = are_more (column_delimiter (trim c.codes)) (alignments_of (without_blank_last (d ∷ cs))) aligns h in
    subst (AreDelimiters (c.codes ++ 124 ∷ joined (d ∷ cs))) (sym m.same)
    (cell_delimited c.codes (124 ∷ joined (d ∷ cs)) m.a m.more m.first_is refl (bar (last_delimited (d ∷ cs) m.more m.others_are)))

first_delimited : (ps : List Cell) (aligns : List AlignKind) → alignments_of (without_blank_last (without_blank_first ps)) ≡ Some aligns → AreDelimiters (joined ps) aligns
first_delimited [] aligns h = last_delimited [] aligns h
first_delimited (c ∷ cs) aligns h = elim (cases_Bool (is_blank c.codes)) [
  | inl e ↦ after_blank c cs e (sym (ap (λ xs. alignments_of (without_blank_last xs)) (cond-true (is_blank c.codes) cs (c ∷ cs) e)) ∙ h)
  | inr e ↦ last_delimited (c ∷ cs) aligns (sym (ap (λ xs. alignments_of (without_blank_last xs)) (cond-false (is_blank c.codes) cs (c ∷ cs) e)) ∙ h)
]
  where
    after_blank : (c : Cell) (cs : List Cell) → is_blank c.codes ≡ true → alignments_of (without_blank_last cs) ≡ Some aligns → AreDelimiters (joined (c ∷ cs)) aligns
    after_blank c [] e k = blank_delimited c.codes aligns e k
    after_blank c (d ∷ cs) e k = whites c.codes (124 ∷ joined (d ∷ cs)) aligns e (bar (last_delimited (d ∷ cs) aligns k))

some_are : (found : Option (List AlignKind)) (aligns : List AlignKind) → some_alignments found ≡ Some aligns → found ≡ Some aligns
some_are None aligns h = absurd (let wrong : None ≡ Some aligns = h in cc)
some_are (Some []) aligns h = absurd (let wrong : None ≡ Some aligns = h in cc)
some_are (Some (a ∷ more)) aligns h = h

-- The bytes of a row of delimiters.
pub row_delimited : (bytes : List ℕ) (aligns : List AlignKind) → delimiters bytes ≡ Some aligns → AreDelimiters bytes aligns
row_delimited bytes aligns h =
    let all = parts_joined Whitespace false bytes in
    elim (cases_Bool (list_any is_bar_or_colon bytes)) [
      | inl e ↦
          subst (λ xs. AreDelimiters xs aligns) all.0
          (first_delimited (parts Whitespace false bytes) aligns
          (some_are (alignments_of (cells Whitespace bytes)) aligns (sym (cond-true (list_any is_bar_or_colon bytes) (some_alignments (alignments_of (cells Whitespace bytes))) None e) ∙ h)))
      | inr e ↦ absurd (let wrong : None ≡ Some aligns = sym (cond-false (list_any is_bar_or_colon bytes) _ None e) ∙ h in cc)
    ]

none_aligned : (found : Option (List AlignKind)) (aligns : List AlignKind) → some_alignments found ≡ Some aligns → aligns ≡ [] → ⊥
none_aligned None aligns h empty = absurd (let wrong : None ≡ Some aligns = h in cc)
none_aligned (Some []) aligns h empty = absurd (let wrong : None ≡ Some aligns = h in cc)
none_aligned (Some (a ∷ more)) aligns h empty =
    let same : a ∷ more ≡ aligns = (let all : Some (a ∷ more) ≡ Some aligns = h in cc) in
    let size = ap length (same ∙ empty) in
    absurd (omega (arith, size))

-- A row of delimiters has some columns.
pub some_columns : (bytes : List ℕ) (aligns : List AlignKind) → delimiters bytes ≡ Some aligns → aligns ≡ [] → ⊥
some_columns bytes aligns h empty = elim (cases_Bool (list_any is_bar_or_colon bytes)) [
  | inl e ↦
      none_aligned (alignments_of (cells Whitespace bytes)) aligns
      (sym (cond-true (list_any is_bar_or_colon bytes) (some_alignments (alignments_of (cells Whitespace bytes))) None e) ∙ h) empty
  | inr e ↦ absurd (let wrong : None ≡ Some aligns = sym (cond-false (list_any is_bar_or_colon bytes) _ None e) ∙ h in cc)
]
