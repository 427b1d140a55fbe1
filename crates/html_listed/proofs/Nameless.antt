-- Elements without a name: what they are in a page's parts, and which items follow them.
use Rattle.std.proofs.Common.{◌≡◌, ℕ, zero, suc, ◌+◌, ◌-◌, ◌≤◌, Bool, true, false, ◌&&◌, cond, eqb, List, [], ◌∷◌, ◌++◌, codes, length, take, drop}
use Rattle.std.proofs.Common.{refl, sym, ap, ◌∙◌, subst, inl, inr, ◌⊎◌, append_assoc, arith}
use Rattle.std.specs.Prelude.{unwrap_or}
use Rattle.std.specs.List.{list_all, prefix_len, take_while}
use Rattle.std.proofs.lemmas.Bool.{cases_Bool, cond-true, cond-false, cond_both, false≢true, true≢false, and_parts, and_from, or_cases, eqb-true, ne_eqb}
use Rattle.std.proofs.lemmas.List.{length-append, take-append-drop}
use Rattle.definition_text.specs.Bytes.{begins_with, after_all}
use Rattle.definition_text.specs.Content.{Part, part}
use Rattle.definition_text.specs.Lines.{ends_line}
use Rattle.html_safe_page.specs.Table.{start_rows_of, void_rows_of}
use Rattle.html_safe_page.specs.declared.table.TagTable.{TagTable}
use Rattle.html_safe_page.specs.SafePage.{spell_kind, spell_letter, Attribute, Tag, spell_tag, void_end, Items, End, Letter, Void, Element, spell_before, spell}
use Rattle.html_safe_page.specs.SafePage.{is_tag_of}
use Rattle.html_safe_page.specs.Reader.{read_text, tag_of}
use Rattle.html_safe_page.proofs.Text.{by_kind, plain_other}
use Rattle.html_safe_page.proofs.Spelled.{is_word_byte, starts_word, same_bytes}
use Rattle.html_safe_page.proofs.Pages.{start_worded_by, void_worded_by}
use Rattle.html_safe_page.proofs.Inserted.{spelled_append}
use Rattle.definition_html.specs.PageParts.{Raw, is_in_text, is_in_tag, after_tag, after_element, raw_run, page_parts_after, page_parts}
use Rattle.html_listed.specs.Mixed.{tags_of}
use Rattle.html_listed.specs.MarkedPage.{has_none, is_nameless, are_letters, is_marked}
use Rattle.html_listed.proofs.PageParts.{passed, skipped, other_first, in_both, letter_in_text, tag_starts}

-- ---- what a run leaves

-- bytes end other bytes
abbrev IsEndOf : List ℕ → List ℕ → Type 0
IsEndOf rest bytes = (front : List ℕ) × (bytes ≡ front ++ rest)

end_of_end : (a b c : List ℕ) → IsEndOf a b → IsEndOf b c → IsEndOf a c
end_of_end a b c h k = (k.0 ++ h.0, k.1 ∙ ap (λ x. k.0 ++ x) h.1 ∙ sym (append_assoc k.0 h.0 a))

dropped : (n : ℕ) (bytes : List ℕ) → IsEndOf (drop n bytes) bytes
dropped n bytes = (take n bytes, sym (take-append-drop n bytes))

run_step : (most : ℕ) (bytes : List ℕ) → ((b : List ℕ) → IsEndOf (raw_run most b).rest b) → IsEndOf (raw_run (suc most) bytes).rest (drop 2 bytes)
run_step most bytes more =
    let inside = drop 2 bytes in
    let text = take_while is_in_text inside in
    let rest = after_element bytes in
    let next = after_all ends_line rest in
    let others = raw_run most next in
    let end = after_all is_in_text inside in
    let tag = end_of_end rest (after_all is_in_tag end) end (dropped 1 (after_all is_in_tag end)) (dropped (prefix_len is_in_tag end) end) in
    let here = end_of_end rest end inside tag (dropped (prefix_len is_in_text inside) inside) in
    cond_both (begins_with (codes "<>") next) (part (text ++ take_while ends_line rest ++ others.text) others.rest) (part text rest)
    (λ (p : Part). IsEndOf p.rest inside)
    (λ _. end_of_end others.rest next inside (more next) (end_of_end next rest inside (dropped (prefix_len ends_line rest) rest) here))
    (λ _. here)

run_end : (most : ℕ) (bytes : List ℕ) → IsEndOf (raw_run most bytes).rest bytes
run_end zero bytes = ([], refl)
run_end (suc most) bytes = end_of_end (raw_run (suc most) bytes).rest (drop 2 bytes) bytes (run_step most bytes (run_end most)) (dropped 2 bytes)

-- elements in a row, from the inside of the first one on
abbrev pub run_of : List ℕ → Part
run_of inside = raw_run (suc (length inside)) (60 ∷ 62 ∷ inside)

-- they are one part
pub run_part : (inside : List ℕ) → page_parts (60 ∷ 62 ∷ inside) ≡ Raw (unwrap_or (read_text (run_of inside).text) []) ∷ page_parts (run_of inside).rest
run_part inside =
    let run = run_of inside in
    let raw = Raw (unwrap_or (read_text run.text) []) in
    let h = run_step (length inside) (60 ∷ 62 ∷ inside) (run_end (length inside)) in
    let all : length inside ≡ length h.0 + length run.rest = ap length h.1 ∙ length-append h.0 run.rest in
    let size : length (60 ∷ 62 ∷ inside) - length run.rest - 1 ≡ length (62 ∷ h.0) = omega (arith, all) in
    ap (λ n. raw ∷ page_parts_after n (62 ∷ inside)) size
    ∙ ap (λ x. raw ∷ page_parts_after (length (62 ∷ h.0)) (62 ∷ x)) h.1
    ∙ ap (λ ps. raw ∷ ps) (skipped (62 ∷ h.0) run.rest)

-- ---- what is ahead

-- how many items there are
abbrev pub size : Items → ℕ
size End = 0
size (Letter b items) = size items + 1
size (Void tag items) = size items + 1
size (Element tag inside items) = size inside + size items + 1

-- nothing or an end tag comes after items
abbrev pub IsStop : List ℕ → Type 0
IsStop after = (after ≡ []) ⊎ ((rest : List ℕ) × (after ≡ 60 ∷ 47 ∷ rest))

abbrev pub nameless : Tag
nameless = tag_of [] []

pub is_the_nameless : (t : Tag) → is_nameless t ≡ true → t ≡ nameless
is_the_nameless t h =
    let parts = and_parts _ (has_none t.attributes) h in
    ap (λ n. tag_of n t.attributes) (same_bytes t.name [] parts.0) ∙ ap (tag_of []) (none t.attributes parts.1)
  where
    none : (attributes : List Attribute) → has_none attributes ≡ true → attributes ≡ []
    none [] h = refl
    none (a ∷ others) h = absurd (false≢true h)

-- a start tag with a name
pub no_nameless : (bytes : List ℕ) → starts_word bytes ≡ true → begins_with (codes "<>") (60 ∷ bytes) ≡ false
no_nameless [] h = absurd (false≢true h)
no_nameless (b ∷ bs) h = other_first 62 b _ (ne_eqb b 62 (λ e. true≢false (sym h ∙ ap is_word_byte e)))

not_passed : (b : ℕ) (bs : List ℕ) → ends_line b ≡ false → after_all ends_line (b ∷ bs) ≡ b ∷ bs
not_passed b bs h = ap (λ n. drop n (b ∷ bs)) (cond-false (ends_line b) (1 + prefix_len ends_line bs) 0 h)

line_passed : (b : ℕ) (bs : List ℕ) → ends_line b ≡ true → after_all ends_line (b ∷ bs) ≡ after_all ends_line bs
line_passed b bs h =
    let n = prefix_len ends_line bs in
    let one : 1 + n ≡ suc n = omega arith in
    ap (λ n. drop n (b ∷ bs)) (cond-true (ends_line b) (1 + n) 0 h ∙ one)

module _ (table : TagTable) where
  -- the first element, which has no name, and the items after it, once line endings are passed
  record IsNamelessAhead (items : Items) (after : List ℕ) : Type 0 where
    inside : Items
    later : Items
    letters : are_letters inside ≡ true
    marked : is_marked table later ≡ true
    smaller : size inside + size later + 1 ≤ size items
    own : tags_of later ≡ tags_of items
    spelling : after_all ends_line (spell_before items after) ≡ spell_before (Element nameless inside later) after

  abbrev IsAhead : Items → List ℕ → Type 0
  IsAhead items after = (begins_with (codes "<>") (after_all ends_line (spell_before items after)) ≡ false) ⊎ IsNamelessAhead items after

  after_line : (b : ℕ) (items : Items) (after : List ℕ) → ends_line b ≡ true → spell_letter b ≡ b ∷ [] → IsAhead items after → IsAhead (Letter b items) after
  after_line b items after h s a =
      let passes : after_all ends_line (spell_before (Letter b items) after) ≡ after_all ends_line (spell_before items after) =
      ap (λ x. after_all ends_line (x ++ spell_before items after)) s ∙ line_passed b (spell_before items after) h in
      elim a [
        | inl e ↦ inl (ap (begins_with (codes "<>")) passes ∙ e)
        | inr r ↦ inr (record {
          inside = r.inside;
          later = r.later;
          letters = r.letters;
          marked = r.marked;
          smaller = omega arith;
          own = r.own;
          spelling = passes ∙ r.spelling;
        })
      ]

  ahead : (items : Items) (after : List ℕ) → is_marked table items ≡ true → IsStop after → IsAhead items after
  ahead End after h stop = elim stop [
    | inl e ↦ inl (ap (λ x. begins_with (codes "<>") (after_all ends_line x)) e)
    | inr r ↦ inl (ap (λ x. begins_with (codes "<>") (after_all ends_line x)) r.1)
  ]
  ahead (Letter b items) after h stop =
      elim (cases_Bool (ends_line b)) [
        | inl e ↦ elim (or_cases (eqb b 10) (eqb b 13) e) [
          | inl feed ↦ after_line b items after e (ap spell_letter (eqb-true b 10 feed) ∙ ap (λ b. b ∷ []) (sym (eqb-true b 10 feed))) (ahead items after h stop)
          | inr return ↦
              after_line b items after e (ap spell_letter (eqb-true b 13 return) ∙ ap (λ b. b ∷ []) (sym (eqb-true b 13 return))) (ahead items after h stop)
        ]
        | inr e ↦
            let x = spell_before items after in
            inl (by_kind (λ b. ends_line b ≡ false → begins_with (codes "<>") (after_all ends_line (spell_letter b ++ x)) ≡ false)
            (λ _. refl) (λ _. refl) (λ _. refl) (λ _. refl)
            (λ b k e.
            ap (λ kind. begins_with (codes "<>") (after_all ends_line (spell_kind kind b ++ x))) k
            ∙ ap (begins_with (codes "<>")) (not_passed b x e)
            ∙ other_first 60 b _ (plain_other b 60 k refl))
            b e)
      ]
  ahead (Void t items) after h stop =
      let parts = and_parts (is_tag_of (void_rows_of table) t) (is_marked table items) h in
      let rest = void_end ++ (62 ∷ spell_before items after) in
      inl (no_nameless (spell_tag t rest) (tag_starts t rest ((void_worded_by table) t parts.0)))
  ahead (Element t inside items) after h stop =
      let own = is_tag_of (start_rows_of table) t && is_marked table inside in
      let parts = and_parts (cond (is_nameless t) (are_letters inside) own) (is_marked table items) h in
      elim (cases_Bool (is_nameless t)) [
        | inl e ↦ inr (record {
          inside = inside;
          later = items;
          letters = sym (cond-true (is_nameless t) (are_letters inside) own e) ∙ parts.0;
          marked = parts.1;
          smaller = omega arith;
          own = sym (cond-true (is_nameless t) (tags_of items) (Element t (tags_of inside) (tags_of items)) e);
          spelling = ap (λ t. spell_before (Element t inside items) after) (is_the_nameless t e);
        })
        | inr e ↦
            let named = and_parts (is_tag_of (start_rows_of table) t) (is_marked table inside) (sym (cond-false (is_nameless t) (are_letters inside) own e) ∙ parts.0) in
            let rest = 62 ∷ spell_before inside (60 ∷ 47 ∷ (t.name ++ (62 ∷ spell_before items after))) in
            inl (no_nameless (spell_tag t rest) (tag_starts t rest ((start_worded_by table) t named.0)))
      ]

  -- ---- the items after elements without a name

  -- bytes are some last ones of these items
  pub record AreLater (items : Items) (after bytes : List ℕ) : Type 0 where
    pub later : Items
    pub marked : is_marked table later ≡ true
    pub smaller : size later ≤ size items
    pub own : tags_of later ≡ tags_of items
    pub spelling : bytes ≡ spell_before later after

  letters_in_text : (items : Items) → are_letters items ≡ true → list_all is_in_text (spell items) ≡ true
  letters_in_text End h = refl
  letters_in_text (Letter b items) h = in_both is_in_text (spell_letter b) (spell items) (letter_in_text b) (letters_in_text items h)
  letters_in_text (Void t items) h = absurd (false≢true h)
  letters_in_text (Element t inside items) h = absurd (false≢true h)

  element_passed : (inside items : Items) (after : List ℕ) → are_letters inside ≡ true
      → after_element (spell_before (Element nameless inside items) after) ≡ spell_before items after
  element_passed inside items after h =
      let end = 60 ∷ 47 ∷ 62 ∷ spell_before items after in
      ap (λ x. after_tag (after_all is_in_text x)) (spelled_append inside [] end)
      ∙ ap after_tag (passed is_in_text (spell inside) 60 (47 ∷ 62 ∷ spell_before items after) (letters_in_text inside h) refl)

  cond_rest : (t : Bool) (p q : Part) → (cond t p q).rest ≡ cond t p.rest q.rest
  cond_rest true p q = refl
  cond_rest false p q = refl

  -- what a run leaves, given what follows its first element
  abbrev left_by : ℕ → List ℕ → List ℕ
  left_by most rest = cond (begins_with (codes "<>") (after_all ends_line rest)) (raw_run most (after_all ends_line rest)).rest rest

  run_left : (most : ℕ) (bytes : List ℕ) → (raw_run (suc most) bytes).rest ≡ left_by most (after_element bytes)
  run_left most bytes =
      let rest = after_element bytes in
      let others = raw_run most (after_all ends_line rest) in
      let text = take_while is_in_text (drop 2 bytes) in
      cond_rest (begins_with (codes "<>") (after_all ends_line rest)) (part (text ++ take_while ends_line rest ++ others.text) others.rest) (part text rest)

  -- an element, given what a run leaves that begins with the next one
  run_first : (most : ℕ) (inside items : Items) (after : List ℕ) → are_letters inside ≡ true → is_marked table items ≡ true → IsStop after
      → ((r : IsNamelessAhead items after) → AreLater items after (raw_run most (spell_before (Element nameless r.inside r.later) after)).rest)
      → AreLater items after (raw_run (suc most) (spell_before (Element nameless inside items) after)).rest
  run_first most inside items after h m stop more =
      let x = spell_before items after in
      let begins = begins_with (codes "<>") (after_all ends_line x) in
      let others = (raw_run most (after_all ends_line x)).rest in
      let bytes = spell_before (Element nameless inside items) after in
      subst (AreLater items after) (sym (run_left most bytes ∙ ap (left_by most) (element_passed inside items after h)))
      (elim (ahead items after m stop) [
        | inl e ↦ record { later = items; marked = m; smaller = omega arith; own = refl; spelling = cond-false begins others x e }
        | inr r ↦
            let found : begins ≡ true = ap (begins_with (codes "<>")) r.spelling in
            subst (AreLater items after) (sym (cond-true begins others x found ∙ ap (λ y. (raw_run most y).rest) r.spelling)) (more r)
      ])

  pub run_items : (most : ℕ) (inside items : Items) (after : List ℕ) → are_letters inside ≡ true → is_marked table items ≡ true → IsStop after
      → AreLater items after (raw_run (suc most) (spell_before (Element nameless inside items) after)).rest
  run_items zero inside items after h m stop =
      run_first zero inside items after h m stop (λ r. record {
        later = Element nameless r.inside r.later;
        marked = and_from (are_letters r.inside) (is_marked table r.later) r.letters r.marked;
        smaller = r.smaller;
        own = r.own;
        spelling = refl;
      })
  run_items (suc most) inside items after h m stop =
      run_first (suc most) inside items after h m stop (λ r.
      let more = run_items most r.inside r.later after r.letters r.marked stop in
      record { later = more.later; marked = more.marked; smaller = omega arith; own = more.own ∙ r.own; spelling = more.spelling })
