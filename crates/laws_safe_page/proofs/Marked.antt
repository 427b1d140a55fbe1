-- Safe pages, in which raw HTML may stand as text in elements without a name where marks are allowed: what they are made of.
use Rattle.std.proofs.Common.{◌≡◌, ℕ, Bool, true, false, not, ◌&&◌, cond, List, [], ◌∷◌, ◌++◌, codes, refl, sym, ap, ◌∙◌, subst, inl, inr, ◌⊎◌, append_assoc}
use Rattle.std.specs.Prelude.{if◌then◌else◌}
use Rattle.std.specs.List.{list_all}
use Rattle.std.proofs.lemmas.Bool.{cases_Bool, cond-true, cond-false, false≢true, true≢false, and_parts, and_from, ne_eqb}
use Rattle.definition_text.specs.Bytes.{begins_with}
use Rattle.definition_text.specs.Encode.{encode, plain}
use Rattle.definition_page.specs.Tags.{marked}
use Rattle.definition_html.specs.PageParts.{is_in_text}
use Rattle.html_safe_page.specs.Table.{start_rows_of, void_rows_of}
use Rattle.html_safe_page.specs.declared.table.TagTable.{TagTable}
use Rattle.html_safe_page.specs.SafePage.{spell_letter, spell_text, Attribute, Tag, attribute_start, spell_attributes, spell_tag, void_end}
use Rattle.html_safe_page.specs.SafePage.{Items, End, Letter, Void, Element, spell_before, spell, join, is_tag_of, is_safe_by, IsSafePageBy}
use Rattle.html_safe_page.specs.Closed.{element, void}
use Rattle.html_safe_page.proofs.Spelled.{is_word_byte, is_word, word_bytes, is_worded_list, is_worded}
use Rattle.html_safe_page.proofs.Pages.{start_worded_by, void_worded_by}
use Rattle.html_safe_page.proofs.Sound.{tag_append}
use Rattle.html_safe_page.proofs.Inserted.{spelled_append}
use Rattle.html_safe_page.proofs.Closing.{encode_spelled}
use Rattle.html_listed.specs.MarkedPage.{is_nameless, are_letters, is_marked, IsMarkedPage}
use Rattle.html_listed.proofs.PageParts.{in_both, letter_in_text}
use Rattle.html_listed.proofs.Nameless.{nameless, is_the_nameless}

-- items of such a page by a table
abbrev pub is_page : Bool → TagTable → Items → Bool
is_page marks table End = true
is_page marks table (Letter b items) = is_page marks table items
is_page marks table (Void tag items) = is_tag_of (void_rows_of table) tag && is_page marks table items
is_page marks table (Element tag inside items) =
    (if marks && is_nameless tag then are_letters inside else is_tag_of (start_rows_of table) tag && is_page marks table inside) && is_page marks table items

-- such items are a reading of a page
abbrev pub IsPage : Bool → TagTable → List ℕ → Type 0
IsPage marks table page = (items : Items) × (is_page marks table items ≡ true) × (spell items ≡ page)

-- ---- how items are spelled

-- items in a row are spelled one after another
spell_join : (a b : Items) (after : List ℕ) → spell_before (join a b) after ≡ spell_before a (spell_before b after)
spell_join End b after = refl
spell_join (Letter c items) b after = ap (λ x. spell_letter c ++ x) (spell_join items b after)
spell_join (Void tag items) b after = ap (λ x. 60 ∷ spell_tag tag (void_end ++ (62 ∷ x))) (spell_join items b after)
spell_join (Element tag inside items) b after =
    ap (λ x. 60 ∷ spell_tag tag (62 ∷ spell_before inside (60 ∷ 47 ∷ (tag.name ++ (62 ∷ x))))) (spell_join items b after)

abbrev letters : List ℕ → Items
letters [] = End
letters (b ∷ bs) = Letter b (letters bs)

letters_spelled : (text : List ℕ) → spell (letters text) ≡ spell_text text []
letters_spelled [] = refl
letters_spelled (b ∷ bs) = ap (λ x. spell_letter b ++ x) (letters_spelled bs)

-- ---- with marks and without

module _ (table : TagTable) where
  items_safe : (items : Items) → is_page false table items ≡ true → is_safe_by table items ≡ true
  items_safe End h = refl
  items_safe (Letter b items) h = items_safe items h
  items_safe (Void tag items) h =
      let parts = and_parts (is_tag_of (void_rows_of table) tag) (is_page false table items) h in
      and_from (is_tag_of (void_rows_of table) tag) (is_safe_by table items) parts.0 (items_safe items parts.1)
  items_safe (Element tag inside items) h =
      let own = is_tag_of (start_rows_of table) tag in
      let parts = and_parts (own && is_page false table inside) (is_page false table items) h in
      let first = and_parts own (is_page false table inside) parts.0 in
      and_from own (is_safe_by table inside && is_safe_by table items) first.0
      (and_from (is_safe_by table inside) (is_safe_by table items) (items_safe inside first.1) (items_safe items parts.1))

  items_marked : (items : Items) → is_page true table items ≡ true → is_marked table items ≡ true
  items_marked End h = refl
  items_marked (Letter b items) h = items_marked items h
  items_marked (Void tag items) h =
      let parts = and_parts (is_tag_of (void_rows_of table) tag) (is_page true table items) h in
      and_from (is_tag_of (void_rows_of table) tag) (is_marked table items) parts.0 (items_marked items parts.1)
  items_marked (Element tag inside items) h =
      let own = is_tag_of (start_rows_of table) tag in
      let no_name = is_nameless tag in
      let here = cond no_name (are_letters inside) (own && is_page true table inside) in
      let parts = and_parts here (is_page true table items) h in
      and_from (cond no_name (are_letters inside) (own && is_marked table inside)) (is_marked table items)
      (elim (cases_Bool no_name) [
        | inl e ↦
            cond-true no_name (are_letters inside) (own && is_marked table inside) e
            ∙ sym (cond-true no_name (are_letters inside) (own && is_page true table inside) e)
            ∙ parts.0
        | inr e ↦
            let first = and_parts own (is_page true table inside)
            (sym (cond-false no_name (are_letters inside) (own && is_page true table inside) e) ∙ parts.0) in
            cond-false no_name (are_letters inside) (own && is_marked table inside) e
            ∙ and_from own (is_marked table inside) first.0 (items_marked inside first.1)
      ])
      (items_marked items parts.1)

  pub page_safe : (page : List ℕ) → IsPage false table page → IsSafePageBy table page
  page_safe page p = (p.0, (items_safe p.0 p.1, p.2))

  pub page_marked : (page : List ℕ) → IsPage true table page → IsMarkedPage table page
  page_marked page p = (p.0, items_marked p.0 p.1, p.2)

-- ---- bytes without `<`

word_in_text : (bytes : List ℕ) → list_all is_word_byte bytes ≡ true → list_all is_in_text bytes ≡ true
word_in_text [] h = refl
word_in_text (b ∷ bs) h =
    let parts = and_parts (is_word_byte b) (list_all is_word_byte bs) h in
    and_from (is_in_text b) (list_all is_in_text bs) (ap not (ne_eqb b 60 (λ e. true≢false (sym parts.0 ∙ ap is_word_byte e)))) (word_in_text bs parts.1)

name_in_text : (name : List ℕ) → is_word name ≡ true → list_all is_in_text name ≡ true
name_in_text name h = word_in_text name (word_bytes name h)

value_in_text : (text after : List ℕ) → list_all is_in_text after ≡ true → list_all is_in_text (spell_text text after) ≡ true
value_in_text [] after h = h
value_in_text (b ∷ bs) after h = in_both is_in_text (spell_letter b) (spell_text bs after) (letter_in_text b) (value_in_text bs after h)

attributes_in_text : (attributes : List Attribute) (after : List ℕ) → is_worded_list attributes ≡ true → list_all is_in_text after ≡ true
    → list_all is_in_text (spell_attributes attributes after) ≡ true
attributes_in_text [] after w h = h
attributes_in_text (a ∷ others) after w h =
    let parts = and_parts (is_word a.name) (is_worded_list others) w in
    in_both is_in_text (attribute_start a.name) (spell_text a.value (34 ∷ spell_attributes others after))
    (in_both is_in_text a.name (codes "=\"") (name_in_text a.name parts.0) refl)
    (value_in_text a.value (34 ∷ spell_attributes others after) (attributes_in_text others after parts.1 h))

tag_in_text : (t : Tag) (after : List ℕ) → is_worded t ≡ true → list_all is_in_text after ≡ true → list_all is_in_text (spell_tag t after) ≡ true
tag_in_text t after w h =
    let parts = and_parts (is_word t.name) (is_worded_list t.attributes) w in
    in_both is_in_text t.name (spell_attributes t.attributes after) (name_in_text t.name parts.0) (attributes_in_text t.attributes after parts.1 h)

letters_in_text : (items : Items) → are_letters items ≡ true → list_all is_in_text (spell items) ≡ true
letters_in_text End h = refl
letters_in_text (Letter b items) h = in_both is_in_text (spell_letter b) (spell items) (letter_in_text b) (letters_in_text items h)
letters_in_text (Void t items) h = absurd (false≢true h)
letters_in_text (Element t inside items) h = absurd (false≢true h)

-- the tags of an element have none behind their first byte
record HasTags (t : Tag) : Type 0 where
  start : list_all is_in_text (spell_tag t (62 ∷ [])) ≡ true
  end : list_all is_in_text (47 ∷ (t.name ++ (62 ∷ []))) ≡ true

worded_tags : (t : Tag) → is_worded t ≡ true → HasTags t
worded_tags t w = record {
  start = tag_in_text t (62 ∷ []) w refl;
  end = in_both is_in_text t.name (62 ∷ []) (name_in_text t.name (and_parts (is_word t.name) (is_worded_list t.attributes) w).0) refl;
}

nameless_tags : (t : Tag) → is_nameless t ≡ true → HasTags t
nameless_tags t e = subst HasTags (sym (is_the_nameless t e)) (record { start = refl; end = refl })

abbrev head : List ℕ → ℕ
head [] = 0
head (b ∷ bs) = b

abbrev tail : List ℕ → List ℕ
tail [] = []
tail (b ∷ bs) = bs

-- a `<` behind such bytes
past : (front x before after : List ℕ) → list_all is_in_text front ≡ true → front ++ x ≡ before ++ 60 ∷ after
    → (later : List ℕ) × (before ≡ front ++ later) × (x ≡ later ++ 60 ∷ after)
past [] x before after h e = (before, refl, e)
past (b ∷ bs) x [] after h e = absurd (false≢true (sym (ap is_in_text (ap head e)) ∙ (and_parts (is_in_text b) (list_all is_in_text bs) h).0))
past (b ∷ bs) x (c ∷ cs) after h e =
    let more = past bs x cs after (and_parts (is_in_text b) (list_all is_in_text bs) h).1 (ap tail e) in
    (more.0, ap (λ y. c ∷ y) more.1 ∙ ap (λ y. y ∷ (bs ++ more.0)) (sym (ap head e)), more.2)

-- one behind the `<` and the bytes of a tag
past_tag : (t : Tag) (end x : List ℕ) (c : ℕ) (cs after : List ℕ) → list_all is_in_text (spell_tag t end) ≡ true
    → 60 ∷ spell_tag t (end ++ x) ≡ c ∷ (cs ++ 60 ∷ after) → (later : List ℕ) × (c ∷ cs ≡ 60 ∷ spell_tag t (end ++ later)) × (x ≡ later ++ 60 ∷ after)
past_tag t end x c cs after h e =
    let p = past (spell_tag t end) x cs after h (sym (tag_append t end x) ∙ ap tail e) in
    (p.0, ap (λ y. y ∷ cs) (sym (ap head e)) ∙ ap (λ y. 60 ∷ y) (p.1 ∙ sym (tag_append t end p.0)), p.2)

-- ---- several in a row

module _ (marks : Bool) (table : TagTable) where
  -- what an element has between its tags
  abbrev holds : Tag → Items → Bool
  holds tag inside = cond (marks && is_nameless tag) (are_letters inside) (is_tag_of (start_rows_of table) tag && is_page marks table inside)

  joined : (a b : Items) → is_page marks table a ≡ true → is_page marks table b ≡ true → is_page marks table (join a b) ≡ true
  joined End b h k = k
  joined (Letter c items) b h k = joined items b h k
  joined (Void tag items) b h k =
      let parts = and_parts (is_tag_of (void_rows_of table) tag) (is_page marks table items) h in
      and_from (is_tag_of (void_rows_of table) tag) (is_page marks table (join items b)) parts.0 (joined items b parts.1 k)
  joined (Element tag inside items) b h k =
      let parts = and_parts (holds tag inside) (is_page marks table items) h in
      and_from (holds tag inside) (is_page marks table (join items b)) parts.0 (joined items b parts.1 k)

  pub in_a_row : (one other : List ℕ) → IsPage marks table one → IsPage marks table other → IsPage marks table (one ++ other)
  in_a_row one other p q = (
    join p.0 q.0,
    joined p.0 q.0 p.1 q.1,
    spell_join p.0 q.0 [] ∙ spelled_append p.0 [] (spell q.0) ∙ ap (λ x. x ++ spell q.0) p.2 ∙ ap (λ x. one ++ x) q.2,
  )

  -- ---- texts and tags

  letters_good : (text : List ℕ) → is_page marks table (letters text) ≡ true
  letters_good [] = refl
  letters_good (b ∷ bs) = letters_good bs

  pub text_page : (text : List ℕ) → IsPage marks table (spell_text text [])
  text_page text = (letters text, letters_good text, letters_spelled text)

  pub void_page : (tag : Tag) → is_tag_of (void_rows_of table) tag ≡ true → IsPage marks table (void tag)
  void_page tag h = (Void tag End, and_from (is_tag_of (void_rows_of table) tag) true h refl, refl)

  around_spelled : (tag : Tag) (items : Items) (inside : List ℕ) → spell items ≡ inside → spell (Element tag items End) ≡ element tag inside
  around_spelled tag items inside e =
      let end = 60 ∷ 47 ∷ (tag.name ++ codes ">") in ap (λ x. 60 ∷ spell_tag tag (62 ∷ x)) (spelled_append items [] end ∙ ap (λ x. x ++ end) e)

  -- a tag of the table has a name
  named : (tag : Tag) → is_tag_of (start_rows_of table) tag ≡ true → (marks && is_nameless tag) ≡ false
  named tag h = elim (cases_Bool (marks && is_nameless tag)) [
    | inl e ↦
        let none = is_the_nameless tag (and_parts marks (is_nameless tag) e).1 in
        absurd (false≢true (sym (ap is_worded none) ∙ start_worded_by table tag h))
    | inr e ↦ e
  ]

  pub element_page : (tag : Tag) (inside : List ℕ) → is_tag_of (start_rows_of table) tag ≡ true → IsPage marks table inside
      → IsPage marks table (element tag inside)
  element_page tag inside h p =
      let own = is_tag_of (start_rows_of table) tag && is_page marks table p.0 in (
        Element tag p.0 End,
        and_from (holds tag p.0) true
            (cond-false (marks && is_nameless tag) (are_letters p.0) own (named tag h)
            ∙ and_from (is_tag_of (start_rows_of table) tag) (is_page marks table p.0) h p.1)
            refl,
        around_spelled tag p.0 inside p.2,
      )

  -- ---- a page put in before a tag of another one

  module _ (inner : Items) (is_inner : is_page marks table inner ≡ true) (after : List ℕ) (no_mark : begins_with (codes "/>") after ≡ false) where
    -- what stands from that tag on, with the page before it
    abbrev put : List ℕ
    put = spell inner ++ 60 ∷ after

    -- the tag is one of these items, before other bytes: with the page before it they are these
    record IsAmong (rest before : List ℕ) : Type 0 where
      whole : Items
      good : is_page marks table whole ≡ true
      spelling : spell_before whole rest ≡ before ++ put

    -- or it comes after these items
    record IsBehind (items : Items) (rest before : List ℕ) : Type 0 where
      later : List ℕ
      parted : before ≡ spell_before items later
      follows : rest ≡ later ++ 60 ∷ after

    abbrev IsPlaced : Items → List ℕ → List ℕ → Type 0
    IsPlaced items rest before = IsAmong rest before ⊎ IsBehind items rest before

    -- in items after one
    after_one : (one items : Items) (rest before later : List ℕ) → is_page marks table one ≡ true → before ≡ spell_before one later
        → IsPlaced items rest later → IsPlaced (join one items) rest before
    after_one one items rest before later h e p = elim p [
      | inl w ↦ inl (record {
        whole = join one w.whole;
        good = joined one w.whole h w.good;
        spelling =
            spell_join one w.whole rest ∙ ap (spell_before one) w.spelling ∙ spelled_append one later put ∙ ap (λ x. x ++ put) (sym e);
      })
      | inr r ↦
          inr (record { later = r.later; parted = e ∙ ap (spell_before one) r.parted ∙ sym (spell_join one items r.later); follows = r.follows })
    ]

    -- at the first item
    at_first : (items : Items) (rest : List ℕ) → is_page marks table items ≡ true → spell_before items rest ≡ 60 ∷ after → IsAmong rest []
    at_first items rest h e = record {
      whole = join inner items;
      good = joined inner items is_inner h;
      spelling = spell_join inner items rest ∙ spelled_append inner [] (spell_before items rest) ∙ ap (λ x. spell inner ++ x) e;
    }

    -- an element, what follows its items, and the bytes before the place
    module _ (t : Tag) (inside items : Items) (rest before : List ℕ) (tags : HasTags t) where
      abbrev end : List ℕ
      end = 60 ∷ 47 ∷ (t.name ++ (62 ∷ spell_before items rest))

      -- after the items inside: at the end tag, or after it
      at_end : (later : List ℕ) → holds t inside ≡ true → before ≡ 60 ∷ spell_tag t (62 ∷ spell_before inside later) → end ≡ later ++ 60 ∷ after
          → (later ≡ [] → end ≡ 60 ∷ after → IsPlaced (Element t inside items) rest before)
          → ((l : List ℕ) → spell_before items rest ≡ l ++ 60 ∷ after → IsPlaced items rest l) → IsPlaced (Element t inside items) rest before
      at_end [] h e f here more = here refl f
      at_end (c ∷ cs) h e f here more =
          let name = 47 ∷ (t.name ++ (62 ∷ [])) in
          let p = past name (spell_before items rest) cs after tags.end
          (ap (λ x. 47 ∷ x) (append_assoc t.name (62 ∷ []) (spell_before items rest)) ∙ ap tail f) in
          let bytes : c ∷ cs ≡ 60 ∷ 47 ∷ (t.name ++ (62 ∷ p.0)) =
          ap (λ y. y ∷ cs) (sym (ap head f)) ∙ ap (λ y. 60 ∷ y) (p.1 ∙ ap (λ y. 47 ∷ y) (append_assoc t.name (62 ∷ []) p.0)) in
          after_one (Element t inside End) items rest before p.0 (and_from (holds t inside) true h refl)
          (e ∙ ap (λ x. 60 ∷ spell_tag t (62 ∷ spell_before inside x)) bytes) (more p.0 p.2)

      -- among the items inside
      within : (first : List ℕ) → is_tag_of (start_rows_of table) t ≡ true → is_page marks table items ≡ true → before ≡ 60 ∷ spell_tag t (62 ∷ first)
          → IsAmong end first → IsPlaced (Element t inside items) rest before
      within first own h e w = inl (record {
        whole = Element t w.whole items;
        good =
            and_from (holds t w.whole) (is_page marks table items)
            (cond-false (marks && is_nameless t) (are_letters w.whole) (is_tag_of (start_rows_of table) t && is_page marks table w.whole) (named t own)
            ∙ and_from (is_tag_of (start_rows_of table) t) (is_page marks table w.whole) own w.good)
            h;
        spelling =
            ap (λ x. 60 ∷ spell_tag t (62 ∷ x)) w.spelling ∙ ap (λ x. 60 ∷ x) (tag_append t (62 ∷ first) put) ∙ ap (λ x. x ++ put) (sym e);
      })

    placed : (items : Items) (rest before : List ℕ) → is_page marks table items ≡ true → spell_before items rest ≡ before ++ 60 ∷ after
        → IsPlaced items rest before
    placed items rest [] h e = inl (at_first items rest h e)
    placed End rest (c ∷ cs) h e = inr (record { later = c ∷ cs; parted = refl; follows = e })
    placed (Letter b items) rest (c ∷ cs) h e =
        let p = past (spell_letter b) (spell_before items rest) (c ∷ cs) after (letter_in_text b) e in
        after_one (Letter b End) items rest (c ∷ cs) p.0 refl p.1 (placed items rest p.0 h p.2)
    placed (Void t items) rest (c ∷ cs) h e =
        let parts = and_parts (is_tag_of (void_rows_of table) t) (is_page marks table items) h in
        let ending = void_end ++ (62 ∷ []) in
        let p = past_tag t ending (spell_before items rest) c cs after (tag_in_text t ending (void_worded_by table t parts.0) refl) e in
        after_one (Void t End) items rest (c ∷ cs) p.0 (and_from (is_tag_of (void_rows_of table) t) true parts.0 refl) p.1 (placed items rest p.0 parts.1 p.2)
    placed (Element t inside items) rest (c ∷ cs) h e =
        let before = c ∷ cs in
        let no_name = marks && is_nameless t in
        let own = is_tag_of (start_rows_of table) t && is_page marks table inside in
        let parts = and_parts (holds t inside) (is_page marks table items) h in
        let more = λ (l : List ℕ) (g : spell_before items rest ≡ l ++ 60 ∷ after). placed items rest l parts.1 g in
        let closing = 60 ∷ 47 ∷ (t.name ++ (62 ∷ spell_before items rest)) in
        elim (cases_Bool no_name) [
          | inl k ↦
              let none = (and_parts marks (is_nameless t) k).1 in
              let tags = nameless_tags t none in
              let text = letters_in_text inside (sym (cond-true no_name (are_letters inside) own k) ∙ parts.0) in
              let p = past_tag t (62 ∷ []) (spell_before inside closing) c cs after tags.start e in
              let q = past (spell inside) closing p.0 after text (sym (spelled_append inside [] closing) ∙ p.2) in
              let no_place = λ (_ : q.0 ≡ []) (f : closing ≡ 60 ∷ after).
              absurd (true≢false (ap (λ t. begins_with (codes "/>") (47 ∷ (t.name ++ (62 ∷ spell_before items rest)))) (sym (is_the_nameless t none))
              ∙ ap (λ x. begins_with (codes "/>") (tail x)) f ∙ no_mark)) in
              at_end t inside items rest before tags q.0 parts.0
              (p.1 ∙ ap (λ x. 60 ∷ spell_tag t (62 ∷ x)) (q.1 ∙ sym (spelled_append inside [] q.0))) q.2 no_place more
          | inr k ↦
              let first = and_parts (is_tag_of (start_rows_of table) t) (is_page marks table inside)
              (sym (cond-false no_name (are_letters inside) own k) ∙ parts.0) in
              let tags = worded_tags t (start_worded_by table t first.0) in
              let p = past_tag t (62 ∷ []) (spell_before inside closing) c cs after tags.start e in
              elim (placed inside closing p.0 first.1 p.2) [
                | inl w ↦ within t inside items rest before tags p.0 first.0 parts.1 p.1 w
                | inr r ↦
                    at_end t inside items rest before tags r.later parts.0 (p.1 ∙ ap (λ x. 60 ∷ spell_tag t (62 ∷ x)) r.parted) r.follows
                    (λ none f.
                    within t inside items rest before tags p.0 first.0 parts.1 p.1 (record {
                      whole = join inside inner;
                      good = joined inside inner first.1 is_inner;
                      spelling =
                          spell_join inside inner closing
                          ∙ ap (spell_before inside) (spelled_append inner [] closing ∙ ap (λ x. spell inner ++ x) f)
                          ∙ spelled_append inside [] put
                          ∙ ap (λ x. x ++ put) (sym (r.parted ∙ ap (spell_before inside) none));
                    }))
                    more
              ]
        ]

  -- before a tag that ends no element without a name
  pub put_in : (before after inner : List ℕ) → begins_with (codes "/>") after ≡ false → IsPage marks table (before ++ 60 ∷ after) → IsPage marks table inner
      → IsPage marks table (before ++ (inner ++ 60 ∷ after))
  put_in before after inner no_mark page within =
      elim (placed within.0 within.1 after no_mark page.0 [] before page.1 page.2) [
        | inl w ↦ (w.whole, w.good, w.spelling ∙ ap (λ x. before ++ (x ++ 60 ∷ after)) within.2)
        | inr r ↦ absurd (not_nothing r.later r.follows)
      ]
    where
      not_nothing : (bytes : List ℕ) → [] ≡ bytes ++ 60 ∷ after → ⊥
      not_nothing [] e = absurd (cc)
      not_nothing (b ∷ bs) e = absurd (cc)

-- ---- raw HTML

letters_are : (text : List ℕ) → are_letters (letters text) ≡ true
letters_are [] = refl
letters_are (b ∷ bs) = letters_are bs

pub marked_page : (marks : Bool) (table : TagTable) (html : List ℕ) → marks ≡ true → IsPage marks table (marked html)
marked_page marks table [] e = text_page marks table []
marked_page marks table (b ∷ bs) e =
    let text = plain (b ∷ bs) in
    subst (λ marks. IsPage marks table (marked (b ∷ bs))) (sym e) (
      Element nameless (letters text) End,
      and_from (are_letters (letters text)) true (letters_are text) refl,
      around_spelled true table nameless (letters text) (encode (b ∷ bs)) (letters_spelled text ∙ sym (encode_spelled (b ∷ bs))),
    )
