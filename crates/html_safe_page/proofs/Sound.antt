-- What the reader finds is a reading.
use Rattle.std.proofs.Common.{◌≡◌, ℕ, List, [], ◌∷◌, ◌++◌, Bool, true, ◌&&◌, eqb, Option, None, Some, codes, refl, sym, ap, ◌∙◌, subst, inl, inr, append_assoc}
use Rattle.std.specs.List.{list_any}
use Rattle.std.specs.Option.{IfSome, option_map}
use Rattle.std.specs.Str.{bytes_eq}
use Rattle.std.proofs.lemmas.Bool.{cases_Bool, cond-true, cond-false, eqb-true, and_parts, and_from}
use Rattle.html_safe_page.specs.Table.{Row, start_rows_of, void_rows_of}
use Rattle.html_safe_page.specs.SafePage.{Kind, And, Quote, Less, Greater, Plain, kind, spell_kind, spell_letter, spell_text, Attribute, Tag, Items, End}
use Rattle.html_safe_page.specs.SafePage.{Letter, Void, Element, attribute_start, spell_attributes, spell_tag, void_end, spell_before, is_of_row, is_tag_of}
use Rattle.html_safe_page.specs.SafePage.{is_safe_by, IsReadingBy}
use Rattle.html_safe_page.specs.Reader.{read_tag, Rest, Last, Then, Reading, Nowhere, Outside, Inside, at_first, strip_letters, replace_letters, join_letters}
use Rattle.html_safe_page.specs.Reader.{outside, join_rest, open_tag, open_or, read_opening, read_mark, step, read, whole, read_page}
use Rattle.html_safe_page.proofs.Options.{else_if, map_if}
use Rattle.html_safe_page.proofs.Text.{by_kind}
use Rattle.html_safe_page.proofs.Spelled.{all_values, same_bytes, IsRead, tag_sound}
use Rattle.html_safe_page.specs.declared.table.TagTable.{TagTable}

abbrev pub spell_rest : Rest → List ℕ
spell_rest (Last items) = spell_before items []
spell_rest (Then items name r) = spell_before items (60 ∷ 47 ∷ (name ++ (62 ∷ spell_rest r)))

-- ---- letters

abbrev letters : List ℕ → Items → Items
letters [] items = items
letters (b ∷ bs) items = Letter b (letters bs items)

letters_sound : (prefix : List ℕ) (items : Items) → IfSome (strip_letters prefix items) (λ rest. letters prefix rest ≡ items)
letters_sound [] items = refl
letters_sound (p ∷ ps) End = tt
letters_sound (p ∷ ps) (Void tag items) = tt
letters_sound (p ∷ ps) (Element tag inside items) = tt
letters_sound (p ∷ ps) (Letter b items) =
    let P = λ (rest : Items). letters (p ∷ ps) rest ≡ Letter b items in
    elim (cases_Bool (eqb b p)) [
      | inl e ↦
          subst (λ o. IfSome o P) (sym (cond-true (eqb b p) (strip_letters ps items) None e))
          (subst (λ o. IfSome o P) (option_same (strip_letters ps items))
          (map_if (strip_letters ps items) (λ (r : Items). r) (λ rest. letters ps rest ≡ items) P (letters_sound ps items)
          (λ rest h. ap (λ x. Letter x (letters ps rest)) (sym (eqb-true b p e)) ∙ ap (Letter b) h)))
      | inr e ↦ subst (λ o. IfSome o P) (sym (cond-false (eqb b p) (strip_letters ps items) None e)) tt
    ]
  where
    option_same : (o : Option Items) → option_map (λ (r : Items). r) o ≡ o
    option_same None = refl
    option_same (Some r) = refl

-- ---- tags

attributes_append : (attributes : List Attribute) (x y : List ℕ) → spell_attributes attributes (x ++ y) ≡ spell_attributes attributes x ++ y
attributes_append [] x y = refl
attributes_append (a ∷ others) x y =
    let start = attribute_start a.name in
    let rest = 34 ∷ spell_attributes others x in
    ap (λ z. start ++ spell_text a.value (34 ∷ z)) (attributes_append others x y)
    ∙ (ap (λ z. start ++ z) (text_append a.value rest y)
    ∙ sym (append_assoc start (spell_text a.value rest) y))
  where
    text_append : (text x y : List ℕ) → spell_text text (x ++ y) ≡ spell_text text x ++ y
    text_append [] x y = refl
    text_append (b ∷ bs) x y = ap (λ z. spell_letter b ++ z) (text_append bs x y) ∙ sym (append_assoc (spell_letter b) (spell_text bs x) y)

pub tag_append : (tag : Tag) (x y : List ℕ) → spell_tag tag (x ++ y) ≡ spell_tag tag x ++ y
tag_append tag x y = ap (λ z. tag.name ++ z) (attributes_append tag.attributes x y) ∙ sym (append_assoc tag.name (spell_attributes tag.attributes x) y)

read_is_tag : (rows : List Row) (ending bytes : List ℕ) (tag : Tag) → IsRead rows ending bytes tag → is_tag_of rows tag ≡ true
read_is_tag rows ending bytes tag h = and_from (list_any (is_of_row tag) rows) (all_values tag.name tag.attributes) h.listed h.values

module _ (table : TagTable) where
  abbrev pub is_safe_rest : Rest → Bool
  is_safe_rest (Last items) = is_safe_by table items
  is_safe_rest (Then items name r) = is_safe_by table items && is_safe_rest r

  pub record IsRest (bytes : List ℕ) (r : Rest) : Type 0 where
    pub spelling : spell_rest r ≡ bytes
    pub safe : is_safe_rest r ≡ true

  -- what is read table of bytes spells them
  abbrev pub IsSound : List ℕ → Reading → Type 0
  IsSound bytes Nowhere = Unit {0}
  IsSound bytes (Outside r) = IsRest bytes r
  IsSound bytes (Inside inner r) = (inner ++ (62 ∷ spell_rest r) ≡ bytes) × (is_safe_rest r ≡ true)

  -- ---- letters

  -- items that a reference begins, in place of those that follow its `&`
  record IsJoined (items joined : Items) : Type 0 where
    spelling : (after : List ℕ) → spell_before joined after ≡ 38 ∷ spell_before items after
    safe : is_safe_by table joined ≡ is_safe_by table items

  replaced : (c : ℕ) (name : List ℕ) (items : Items)
      → ((rest : Items) (after : List ℕ) → spell_before (Letter c rest) after ≡ 38 ∷ spell_before (letters name rest) after)
      → ((rest : Items) → is_safe_by table rest ≡ is_safe_by table (letters name rest))
      → IfSome (replace_letters c (strip_letters name items)) (IsJoined items)
  replaced c name items same safe =
      map_if (strip_letters name items) (Letter c) (λ rest. letters name rest ≡ items) (IsJoined items) (letters_sound name items)
      (λ rest e. record {
        spelling = λ after. same rest after ∙ ap (λ i. 38 ∷ spell_before i after) e;
        safe = safe rest ∙ ap (is_safe_by table) e;
      })

  joined : (items : Items) → IfSome (join_letters items) (IsJoined items)
  joined items =
      else_if (replace_letters 38 (strip_letters (codes "amp;") items)) _ (IsJoined items)
      (replaced 38 (codes "amp;") items (λ rest after. refl) (λ rest. refl))
      (else_if (replace_letters 34 (strip_letters (codes "quot;") items)) _ (IsJoined items)
      (replaced 34 (codes "quot;") items (λ rest after. refl) (λ rest. refl))
      (else_if (replace_letters 60 (strip_letters (codes "lt;") items)) _ (IsJoined items) (replaced 60 (codes "lt;") items (λ rest after. refl) (λ rest. refl))
      (replaced 62 (codes "gt;") items (λ rest after. refl) (λ rest. refl))))

  -- a rest that there may be
  outside_sound : (bytes : List ℕ) (o : Option Rest) → IfSome o (IsRest bytes) → IsSound bytes (outside o)
  outside_sound bytes None h = tt
  outside_sound bytes (Some r) h = h

  and_sound : (bytes : List ℕ) (r : Rest) → IsRest bytes r → IfSome (join_rest r) (IsRest (38 ∷ bytes))
  and_sound bytes (Last items) h =
      map_if (join_letters items) (λ i. Last i) (IsJoined items) (IsRest (38 ∷ bytes)) (joined items)
      (λ i j. record { spelling = j.spelling [] ∙ ap (λ x. 38 ∷ x) h.spelling; safe = j.safe ∙ h.safe })
  and_sound bytes (Then items name r) h =
      map_if (join_letters items) (λ i. Then i name r) (IsJoined items) (IsRest (38 ∷ bytes)) (joined items)
      (λ i j. record {
        spelling = j.spelling (60 ∷ 47 ∷ (name ++ (62 ∷ spell_rest r))) ∙ ap (λ x. 38 ∷ x) h.spelling;
        safe = ap (λ x. x && is_safe_rest r) j.safe ∙ h.safe;
      })

  plain_sound : (b : ℕ) (bytes : List ℕ) (r : Rest) → kind b ≡ Plain → IsRest bytes r → IsRest (b ∷ bytes) (at_first (Letter b) r)
  plain_sound b bytes (Last items) k h =
      record { spelling = ap (λ k. spell_kind k b ++ spell_before items []) k ∙ ap (λ x. b ∷ x) h.spelling; safe = h.safe }
  plain_sound b bytes (Then items name r) k h =
      record {
        spelling = ap (λ k. spell_kind k b ++ spell_before items (60 ∷ 47 ∷ (name ++ (62 ∷ spell_rest r)))) k ∙ ap
            (λ x. b ∷ x) h.spelling;
        safe = h.safe;
      }

  -- ---- tags

  void_sound : (bytes : List ℕ) (tag : Tag) (r : Rest) → is_safe_rest r ≡ true → IsRead (void_rows_of table) void_end bytes tag
      → IsRest (60 ∷ (bytes ++ (62 ∷ spell_rest r))) (at_first (Void tag) r)
  void_sound bytes tag (Last items) s h =
      record {
        spelling = ap (λ x. 60 ∷ x) (tag_append tag void_end (62 ∷ spell_before items []) ∙ ap (λ x. x ++ (62 ∷ spell_before items [])) h.spelling);
        safe = and_from (is_tag_of (void_rows_of table) tag) (is_safe_by table items) (read_is_tag (void_rows_of table) void_end bytes tag h) s;
      }
  void_sound bytes tag (Then items name r) s h =
      let parts = and_parts (is_safe_by table items) (is_safe_rest r) s in
      let rest = spell_before items (60 ∷ 47 ∷ (name ++ (62 ∷ spell_rest r))) in
      record {
        spelling = ap (λ x. 60 ∷ x) (tag_append tag void_end (62 ∷ rest) ∙ ap (λ x. x ++ (62 ∷ rest)) h.spelling);
        safe = and_from (is_tag_of (void_rows_of table) tag && is_safe_by table items) (is_safe_rest r)
            (and_from (is_tag_of (void_rows_of table) tag) (is_safe_by table items) (read_is_tag (void_rows_of table) void_end bytes tag h) parts.0) parts.1;
      }

  filled_sound : (bytes : List ℕ) (tag : Tag) (inside : Items) (r : Rest) → is_safe_by table inside ≡ true → is_safe_rest r ≡ true
      → IsRead (start_rows_of table) [] bytes tag
      → IsRest (60 ∷ (bytes ++ (62 ∷ spell_rest (Then inside tag.name r)))) (at_first (Element tag inside) r)
  filled_sound bytes tag inside (Last items) si s h =
      let rest = spell_before inside (60 ∷ 47 ∷ (tag.name ++ (62 ∷ spell_before items []))) in
      record {
        spelling = ap (λ x. 60 ∷ x) (tag_append tag [] (62 ∷ rest) ∙ ap (λ x. x ++ (62 ∷ rest)) h.spelling);
        safe = and_from (is_tag_of (start_rows_of table) tag) (is_safe_by table inside && is_safe_by table items)
            (read_is_tag (start_rows_of table) [] bytes tag h)
            (and_from (is_safe_by table inside) (is_safe_by table items) si s);
      }
  filled_sound bytes tag inside (Then items name r) si s h =
      let parts = and_parts (is_safe_by table items) (is_safe_rest r) s in
      let rest = spell_before inside (60 ∷ 47 ∷ (tag.name ++ (62 ∷ spell_before items (60 ∷ 47 ∷ (name ++ (62 ∷ spell_rest r)))))) in
      record {
        spelling = ap (λ x. 60 ∷ x) (tag_append tag [] (62 ∷ rest) ∙ ap (λ x. x ++ (62 ∷ rest)) h.spelling);
        safe =
            and_from (is_tag_of (start_rows_of table) tag && (is_safe_by table inside && is_safe_by table items)) (is_safe_rest r)
            (and_from (is_tag_of (start_rows_of table) tag) (is_safe_by table inside && is_safe_by table items)
            (read_is_tag (start_rows_of table) [] bytes tag h)
            (and_from (is_safe_by table inside) (is_safe_by table items) si parts.0))
            parts.1;
      }

  start_sound : (bytes : List ℕ) (tag : Tag) (r : Rest) → is_safe_rest r ≡ true → IsRead (start_rows_of table) [] bytes tag
      → IfSome (open_tag tag r) (IsRest (60 ∷ (bytes ++ (62 ∷ spell_rest r))))
  start_sound bytes tag (Last items) s h = tt
  start_sound bytes tag (Then inside name r) s h =
      let P = IsRest (60 ∷ (bytes ++ (62 ∷ spell_rest (Then inside name r)))) in
      let parts = and_parts (is_safe_by table inside) (is_safe_rest r) s in
      let here = at_first (Element tag inside) r in
      elim (cases_Bool (bytes_eq name tag.name)) [
        | inl e ↦
            subst (λ o. IfSome o P) (sym (cond-true (bytes_eq name tag.name) (Some here) None e))
            (subst (λ n. IsRest (60 ∷ (bytes ++ (62 ∷ spell_rest (Then inside n r)))) here) (sym (same_bytes name tag.name e))
            (filled_sound bytes tag inside r parts.0 parts.1 h))
        | inr e ↦ subst (λ o. IfSome o P) (sym (cond-false (bytes_eq name tag.name) (Some here) None e)) tt
      ]

  open_sound : (bytes : List ℕ) (start void : Option Tag) (r : Rest) → is_safe_rest r ≡ true → IfSome start (IsRead (start_rows_of table) [] bytes)
      → IfSome void (IsRead (void_rows_of table) void_end bytes)
      → IfSome (open_or start void r) (IsRest (60 ∷ (bytes ++ (62 ∷ spell_rest r))))
  open_sound bytes (Some tag) void r s h k = start_sound bytes tag r s h
  open_sound bytes None (Some tag) r s h k = void_sound bytes tag r s k
  open_sound bytes None None r s h k = tt

  opening_sound : (bytes : List ℕ) (r : Rest) → is_safe_rest r ≡ true → IfSome (read_opening table bytes r) (IsRest (60 ∷ (bytes ++ (62 ∷ spell_rest r))))
  opening_sound bytes r s =
      open_sound bytes (read_tag (start_rows_of table) [] bytes) (read_tag (void_rows_of table) void_end bytes) r s (tag_sound (start_rows_of table) [] bytes)
      (tag_sound (void_rows_of table) void_end bytes)

  mark_sound : (bytes : List ℕ) (r : Rest) → is_safe_rest r ≡ true → IfSome (read_mark table bytes r) (IsRest (60 ∷ (bytes ++ (62 ∷ spell_rest r))))
  mark_sound [] r s = tt
  mark_sound (b ∷ bs) r s =
      let P = IsRest (60 ∷ ((b ∷ bs) ++ (62 ∷ spell_rest r))) in
      elim (cases_Bool (eqb b 47)) [
        | inl e ↦
            subst (λ o. IfSome o P) (sym (cond-true (eqb b 47) (Some (Then End bs r)) (read_opening table (b ∷ bs) r) e))
            (record { spelling = ap (λ x. 60 ∷ x ∷ (bs ++ (62 ∷ spell_rest r))) (sym (eqb-true b 47 e)); safe = s })
        | inr e ↦ subst (λ o. IfSome o P) (sym (cond-false (eqb b 47) (Some (Then End bs r)) (read_opening table (b ∷ bs) r) e)) (opening_sound (b ∷ bs) r s)
      ]

  -- ---- pages

  nowhere : (k : Kind) (b : ℕ) → step table k b Nowhere ≡ Nowhere
  nowhere And b = refl
  nowhere Quote b = refl
  nowhere Less b = refl
  nowhere Greater b = refl
  nowhere Plain b = refl

  step_sound : (b : ℕ) (bytes : List ℕ) (reading : Reading) → IsSound bytes reading → IsSound (b ∷ bytes) (step table (kind b) b reading)
  step_sound b bytes Nowhere h = subst (IsSound (b ∷ bytes)) (sym (nowhere (kind b) b)) tt
  step_sound b bytes (Outside r) h =
      by_kind (λ b. IsSound (b ∷ bytes) (step table (kind b) b (Outside r)))
      (outside_sound (38 ∷ bytes) (join_rest r) (and_sound bytes r h))
      tt tt
      (ap (λ x. 62 ∷ x) h.spelling, h.safe)
      (λ b k. subst (λ kind. IsSound (b ∷ bytes) (step table kind b (Outside r))) (sym k) (plain_sound b bytes r k h))
      b
  step_sound b bytes (Inside inner r) h =
      by_kind (λ b. IsSound (b ∷ bytes) (step table (kind b) b (Inside inner r)))
      (ap (λ x. 38 ∷ x) h.0, h.1)
      (ap (λ x. 34 ∷ x) h.0, h.1)
      (outside_sound (60 ∷ bytes) (read_mark table inner r) (subst (λ x. IfSome (read_mark table inner r) (IsRest (60 ∷ x))) h.0 (mark_sound inner r h.1)))
      tt
      (λ b k. subst (λ kind. IsSound (b ∷ bytes) (step table kind b (Inside inner r))) (sym k) (ap (λ x. b ∷ x) h.0, h.1))
      b

  pub read_sound : (page : List ℕ) → IsSound page (read table page)
  read_sound [] = record { spelling = refl; safe = refl }
  read_sound (b ∷ bs) = step_sound b bs (read table bs) (read_sound bs)

  whole_sound : (page : List ℕ) (reading : Reading) → IsSound page reading → IfSome (whole reading) (IsReadingBy table page)
  whole_sound page Nowhere h = tt
  whole_sound page (Inside bytes r) h = tt
  whole_sound page (Outside (Last items)) h = (h.safe, h.spelling)
  whole_sound page (Outside (Then items name r)) h = tt

  pub page_sound : (page : List ℕ) → IfSome (read_page table page) (IsReadingBy table page)
  page_sound page = whole_sound page (read table page) (read_sound page)
