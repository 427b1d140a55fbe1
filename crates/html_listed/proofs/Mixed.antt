-- Pages whose tags are the page's own or raw: texts, tags, elements, and several in a row.
use Rattle.std.proofs.Common.{◌≡◌, ℕ, Bool, true, not, ◌&&◌, List, [], ◌∷◌, ◌++◌, codes, refl, sym, ap, ◌∙◌, append-nil}
use Rattle.std.proofs.lemmas.Bool.{and_parts, and_from, or_left, or_right}
use Rattle.definition_text.specs.Encode.{encode, plain}
use Rattle.html_safe_page.specs.Table.{start_rows_of, void_rows_of}
use Rattle.html_safe_page.specs.declared.table.TagTable.{TagTable}
use Rattle.html_safe_page.specs.SafePage.{spell_letter, spell_text, Tag, spell_tag, void_end, Items, End, Letter, Void, Element, spell_before, spell, join, is_tag_of}
use Rattle.html_safe_page.specs.Closed.{element, void as void_bytes}
use Rattle.html_safe_page.proofs.Closing.{encode_spelled}
use Rattle.html_safe_page.proofs.Inserted.{spelled_append}
use Rattle.definition_html.specs.State.{Level, level, begins_with_frame}
use Rattle.html_listed.specs.ListedPage.{is_listed_start, is_listed_void, is_start, is_void, have_tags}
use Rattle.html_listed.specs.Mixed.{Mixed, Done, Char, OwnTag, OwnElement, RawTag, RawElement, all_items, own_items, own_may_begin, raw_may_begin, level_in, stand_in}

-- ---- items in a row

pub join_end : (a : Items) → join a End ≡ a
join_end End = refl
join_end (Letter b items) = ap (Letter b) (join_end items)
join_end (Void tag items) = ap (Void tag) (join_end items)
join_end (Element tag inside items) = ap (Element tag inside) (join_end items)

pub join_more : (a b c : Items) → join (join a b) c ≡ join a (join b c)
join_more End b c = refl
join_more (Letter x items) b c = ap (Letter x) (join_more items b c)
join_more (Void tag items) b c = ap (Void tag) (join_more items b c)
join_more (Element tag inside items) b c = ap (Element tag inside) (join_more items b c)

-- items in a row are spelled one after another
spell_join : (a b : Items) (after : List ℕ) → spell_before (join a b) after ≡ spell_before a (spell_before b after)
spell_join End b after = refl
spell_join (Letter c items) b after = ap (λ x. spell_letter c ++ x) (spell_join items b after)
spell_join (Void tag items) b after = ap (λ x. 60 ∷ spell_tag tag (void_end ++ (62 ∷ x))) (spell_join items b after)
spell_join (Element tag inside items) b after =
    ap (λ x. 60 ∷ spell_tag tag (62 ∷ spell_before inside (60 ∷ 47 ∷ (tag.name ++ (62 ∷ x))))) (spell_join items b after)

abbrev joined : Mixed → Mixed → Mixed
joined Done q = q
joined (Char b items) q = Char b (joined items q)
joined (OwnTag tag items) q = OwnTag tag (joined items q)
joined (OwnElement tag inside items) q = OwnElement tag inside (joined items q)
joined (RawTag tag items) q = RawTag tag (joined items q)
joined (RawElement tag inside items) q = RawElement tag inside (joined items q)

all_joined : (p q : Mixed) → all_items (joined p q) ≡ join (all_items p) (all_items q)
all_joined Done q = refl
all_joined (Char b items) q = ap (Letter b) (all_joined items q)
all_joined (OwnTag tag items) q = ap (Void tag) (all_joined items q)
all_joined (OwnElement tag inside items) q = ap (Element tag (all_items inside)) (all_joined items q)
all_joined (RawTag tag items) q = ap (Void tag) (all_joined items q)
all_joined (RawElement tag inside items) q = ap (Element tag (all_items inside)) (all_joined items q)

own_joined : (p q : Mixed) → own_items (joined p q) ≡ join (own_items p) (own_items q)
own_joined Done q = refl
own_joined (Char b items) q = own_joined items q
own_joined (OwnTag tag items) q = ap (Void tag) (own_joined items q)
own_joined (OwnElement tag inside items) q = ap (Element tag (own_items inside)) (own_joined items q)
own_joined (RawTag tag items) q = own_joined items q
own_joined (RawElement tag inside items) q =
    ap (join (own_items inside)) (own_joined items q) ∙ sym (join_more (own_items inside) (own_items items) (own_items q))

-- what comes before a test of what follows
and_later : (here within rest : Bool) {more : Bool} → (here && (within && rest)) ≡ true → (rest ≡ true → more ≡ true) → (here && (within && more)) ≡ true
and_later here within rest {more} h go =
    let parts = and_parts here (within && rest) h in
    let both = and_parts within rest parts.1 in and_from here (within && more) parts.0 (and_from within more both.0 (go both.1))

and_last : (here rest : Bool) {more : Bool} → (here && rest) ≡ true → (rest ≡ true → more ≡ true) → (here && more) ≡ true
and_last here rest {more} h go = let parts = and_parts here rest h in and_from here more parts.0 (go parts.1)

module _ (table : TagTable) where
  stand_joined : (l : Level) (p q : Mixed) → stand_in table l p ≡ true → stand_in table l q ≡ true → stand_in table l (joined p q) ≡ true
  stand_joined l Done q h k = k
  stand_joined l (Char b items) q h k = stand_joined l items q h k
  stand_joined l (OwnTag tag items) q h k =
      and_last (is_tag_of (void_rows_of table) tag && not (begins_with_frame l.names)) (stand_in table l items) h (λ e. stand_joined l items q e k)
  stand_joined l (OwnElement tag inside items) q h k =
      and_later (is_tag_of (start_rows_of table) tag && own_may_begin l.names tag.name) (stand_in table (level_in l tag.name) inside) (stand_in table l items) h
      (λ e. stand_joined l items q e k)
  stand_joined l (RawTag tag items) q h k =
      and_last (is_listed_void tag && not (begins_with_frame l.names)) (stand_in table l items) h (λ e. stand_joined l items q e k)
  stand_joined l (RawElement tag inside items) q h k =
      and_later (is_listed_start tag && raw_may_begin l tag.name) (stand_in table (level l.in_heading (tag.name ∷ l.names)) inside) (stand_in table l items) h
      (λ e. stand_joined l items q e k)

  -- ---- tags

  pub mixed_tags : (l : Level) (p : Mixed) → stand_in table l p ≡ true → have_tags (is_start table) (is_void table) (all_items p) ≡ true
  mixed_tags l Done h = refl
  mixed_tags l (Char b items) h = mixed_tags l items h
  mixed_tags l (OwnTag tag items) h =
      let here = is_tag_of (void_rows_of table) tag && not (begins_with_frame l.names) in
      let parts = and_parts here (stand_in table l items) h in
      let own = (and_parts (is_tag_of (void_rows_of table) tag) (not (begins_with_frame l.names)) parts.0).0 in
      and_from ((is_void table) tag) (have_tags (is_start table) (is_void table) (all_items items)) (or_right (is_listed_void tag) (is_tag_of (void_rows_of table) tag) own)
      (mixed_tags l items parts.1)
  mixed_tags l (OwnElement tag inside items) h =
      let here = is_tag_of (start_rows_of table) tag && own_may_begin l.names tag.name in
      let within = stand_in table (level_in l tag.name) inside in
      let parts = and_parts here (within && stand_in table l items) h in
      let both = and_parts within (stand_in table l items) parts.1 in
      let own = (and_parts (is_tag_of (start_rows_of table) tag) (own_may_begin l.names tag.name) parts.0).0 in
      let all_inside = have_tags (is_start table) (is_void table) (all_items inside) in
      let all_after = have_tags (is_start table) (is_void table) (all_items items) in
      and_from ((is_start table) tag) (all_inside && all_after) (or_right (is_listed_start tag) (is_tag_of (start_rows_of table) tag) own)
      (and_from all_inside all_after (mixed_tags (level_in l tag.name) inside both.0) (mixed_tags l items both.1))
  mixed_tags l (RawTag tag items) h =
      let here = is_listed_void tag && not (begins_with_frame l.names) in
      let parts = and_parts here (stand_in table l items) h in
      let raw = (and_parts (is_listed_void tag) (not (begins_with_frame l.names)) parts.0).0 in
      and_from ((is_void table) tag) (have_tags (is_start table) (is_void table) (all_items items)) (or_left (is_listed_void tag) (is_tag_of (void_rows_of table) tag) raw)
      (mixed_tags l items parts.1)
  mixed_tags l (RawElement tag inside items) h =
      let here = is_listed_start tag && raw_may_begin l tag.name in
      let next = level l.in_heading (tag.name ∷ l.names) in
      let within = stand_in table next inside in
      let parts = and_parts here (within && stand_in table l items) h in
      let both = and_parts within (stand_in table l items) parts.1 in
      let raw = (and_parts (is_listed_start tag) (raw_may_begin l tag.name) parts.0).0 in
      let all_inside = have_tags (is_start table) (is_void table) (all_items inside) in
      let all_after = have_tags (is_start table) (is_void table) (all_items items) in
      and_from ((is_start table) tag) (all_inside && all_after) (or_left (is_listed_start tag) (is_tag_of (start_rows_of table) tag) raw)
      (and_from all_inside all_after (mixed_tags next inside both.0) (mixed_tags l items both.1))

  -- ---- pages

  -- in a level, where raw elements of these names are open, bytes are items with these tags of the page's own
  abbrev pub IsMixedIn : Bool → List (List ℕ) → Items → List ℕ → Type 0
  IsMixedIn in_heading names own page =
      (p : Mixed) × (stand_in table (level in_heading names) p ≡ true) × (own_items p ≡ own) × (spell (all_items p) ≡ page)

  abbrev chars : List ℕ → Mixed
  chars [] = Done
  chars (b ∷ bs) = Char b (chars bs)

  module _ (in_heading : Bool) (names : List (List ℕ)) where
    chars_stand : (text : List ℕ) → stand_in table (level in_heading names) (chars text) ≡ true
    chars_stand [] = refl
    chars_stand (b ∷ bs) = chars_stand bs

    chars_own : (text : List ℕ) → own_items (chars text) ≡ End
    chars_own [] = refl
    chars_own (b ∷ bs) = chars_own bs

    chars_spelled : (text : List ℕ) → spell (all_items (chars text)) ≡ spell_text text []
    chars_spelled [] = refl
    chars_spelled (b ∷ bs) = ap (λ x. spell_letter b ++ x) (chars_spelled bs)

    pub mixed_nothing : IsMixedIn in_heading names End []
    mixed_nothing = (Done, refl, refl, refl)

    pub mixed_text : (text : List ℕ) → IsMixedIn in_heading names End (encode text)
    mixed_text text = (chars (plain text), chars_stand (plain text), chars_own (plain text), chars_spelled (plain text) ∙ sym (encode_spelled text))

    pub mixed_letter : (b : ℕ) → IsMixedIn in_heading names End (spell_letter b)
    mixed_letter b = (Char b Done, refl, refl, append-nil (spell_letter b))

    pub mixed_append : (a b : Items) (one other : List ℕ) → IsMixedIn in_heading names a one → IsMixedIn in_heading names b other
        → IsMixedIn in_heading names (join a b) (one ++ other)
    mixed_append a b one other p q = (
      joined p.0 q.0,
      stand_joined (level in_heading names) p.0 q.0 p.1 q.1,
      own_joined p.0 q.0 ∙ ap (λ x. join x (own_items q.0)) p.2 ∙ ap (join a) q.2,
      ap spell (all_joined p.0 q.0)
          ∙ spell_join (all_items p.0) (all_items q.0) []
          ∙ spelled_append (all_items p.0) [] (spell (all_items q.0))
          ∙ ap (λ x. x ++ spell (all_items q.0)) p.3
          ∙ ap (λ x. one ++ x) q.3,
    )

    around_spelled : (tag : Tag) (items : Items) (inside : List ℕ) → spell items ≡ inside → spell (Element tag items End) ≡ element tag inside
    around_spelled tag items inside e =
        let end = 60 ∷ 47 ∷ (tag.name ++ codes ">") in
        ap (λ x. 60 ∷ spell_tag tag (62 ∷ x)) (spelled_append items [] end ∙ ap (λ x. x ++ end) e)

    pub mixed_raw : (tag : Tag) (own : Items) (inside : List ℕ) → is_listed_start tag ≡ true → raw_may_begin (level in_heading names) tag.name ≡ true
        → IsMixedIn in_heading (tag.name ∷ names) own inside → IsMixedIn in_heading names own (element tag inside)
    mixed_raw tag own inside h k p =
        let within = stand_in table (level in_heading (tag.name ∷ names)) p.0 in
        let may = raw_may_begin (level in_heading names) tag.name in (
          RawElement tag p.0 Done,
          and_from (is_listed_start tag && may) (within && true) (and_from (is_listed_start tag) may h k) (and_from within true p.1 refl),
          join_end (own_items p.0) ∙ p.2,
          around_spelled tag (all_items p.0) inside p.3,
        )

    pub mixed_raw_tag : (tag : Tag) → is_listed_void tag ≡ true → not (begins_with_frame names) ≡ true → IsMixedIn in_heading names End (void_bytes tag)
    mixed_raw_tag tag h k =
        let may = not (begins_with_frame names) in
        (RawTag tag Done, and_from (is_listed_void tag && may) true (and_from (is_listed_void tag) may h k) refl, refl, refl)

    pub mixed_own : (tag : Tag) (own : Items) (inside : List ℕ) → is_tag_of (start_rows_of table) tag ≡ true → own_may_begin names tag.name ≡ true
        → IsMixedIn (let l = level_in (level in_heading names) tag.name in l.in_heading) [] own inside
        → IsMixedIn in_heading names (Element tag own End) (element tag inside)
    mixed_own tag own inside h k p =
        let within = stand_in table (level_in (level in_heading names) tag.name) p.0 in
        let may = own_may_begin names tag.name in (
          OwnElement tag p.0 Done,
          and_from (is_tag_of (start_rows_of table) tag && may) (within && true) (and_from (is_tag_of (start_rows_of table) tag) may h k) (and_from within true p.1 refl),
          ap (λ x. Element tag x End) p.2,
          around_spelled tag (all_items p.0) inside p.3,
        )

    pub mixed_own_tag : (tag : Tag) → is_tag_of (void_rows_of table) tag ≡ true → not (begins_with_frame names) ≡ true
        → IsMixedIn in_heading names (Void tag End) (void_bytes tag)
    mixed_own_tag tag h k =
        let may = not (begins_with_frame names) in
        (OwnTag tag Done, and_from (is_tag_of (void_rows_of table) tag && may) true (and_from (is_tag_of (void_rows_of table) tag) may h k) refl, refl, refl)
