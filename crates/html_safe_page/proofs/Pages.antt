-- A page that is spelled is read back, so it has one reading.
use Rattle.std.proofs.Common.{◌≡◌, ℕ, List, [], ◌∷◌, ◌++◌, Bool, true, false, ◌&&◌, eqb, Option, None, Some, codes, refl, sym, ap, ◌∙◌}
use Rattle.std.specs.List.{list_any, list_all}
use Rattle.std.specs.Option.{IfSome}
use Rattle.std.specs.Str.{bytes_eq}
use Rattle.std.proofs.lemmas.Bool.{cond-true, cond-false, true≢false, false≢true, and_parts, and_from, ne_eqb}
use Rattle.std.proofs.lemmas.List.{append-nil}
use Rattle.std.proofs.lemmas.List.Folds.{list_all-append}
use Rattle.html_safe_page.specs.Table.{start_rows, start_rows_of, more_start_rows, void_rows, void_rows_of, more_void_rows}
use Rattle.html_safe_page.specs.SafePage.{Kind, And, Quote, Less, Greater, Plain, kind, spell_kind, spell_letter, spell_text, Attribute, Tag, Items, End}
use Rattle.html_safe_page.specs.SafePage.{Letter, Void, Element, attribute_start, spell_attributes, spell_tag, void_end, spell_before, spell, join, is_of_row}
use Rattle.html_safe_page.specs.SafePage.{is_tag_of, is_safe_by, OneReading}
use Rattle.html_safe_page.specs.Reader.{read_tag, Rest, Last, Then, Reading, Outside, Inside, at_first, outside, open_tag, open_or, read_opening, read_mark}
use Rattle.html_safe_page.specs.Reader.{step, read, whole, read_page}
use Rattle.html_safe_page.proofs.Options.{weaker}
use Rattle.html_safe_page.proofs.Text.{by_kind, is_plain}
use Rattle.html_safe_page.proofs.Spelled.{is_word_byte, is_word, starts_word, is_worded_row, is_worded_list, is_worded, all_values, bytes_same, IsRead}
use Rattle.html_safe_page.proofs.Spelled.{tag_sound, tag_spelled, tags_same, listed_worded}
use Rattle.html_safe_page.specs.declared.table.TagTable.{TagTable}
use Rattle.html_safe_page.specs.declared.table.TagTable.TheVariants.{Basic, Extended}

-- ---- the bytes of a tag

abbrev pub is_inner : Kind → Bool
is_inner And = true
is_inner Quote = true
is_inner Less = false
is_inner Greater = false
is_inner Plain = true

abbrev pub all_inner : List ℕ → Bool
all_inner bytes = list_all (λ b. is_inner (kind b)) bytes

letter_inner : (b : ℕ) → all_inner (spell_letter b) ≡ true
letter_inner b =
    by_kind (λ b. all_inner (spell_letter b) ≡ true) refl refl refl refl
    (λ b h. ap (λ k. all_inner (spell_kind k b)) h ∙ ap (λ k. is_inner k && true) h) b

plain_inner : (k : Kind) → is_plain k ≡ true → is_inner k ≡ true
plain_inner And h = refl
plain_inner Quote h = refl
plain_inner Less h = h
plain_inner Greater h = h
plain_inner Plain h = refl

word_inner : (bytes : List ℕ) → list_all is_word_byte bytes ≡ true → all_inner bytes ≡ true
word_inner [] h = refl
word_inner (b ∷ bs) h =
    let parts = and_parts (is_word_byte b) (list_all is_word_byte bs) h in
    and_from (is_inner (kind b)) (all_inner bs) (plain_inner (kind b) (and_parts (is_plain (kind b)) _ parts.0).0) (word_inner bs parts.1)

pub name_inner : (name : List ℕ) → is_word name ≡ true → all_inner name ≡ true
name_inner [] h = refl
name_inner (b ∷ bs) h = word_inner (b ∷ bs) h

start_inner : (name : List ℕ) → is_word name ≡ true → all_inner (attribute_start name) ≡ true
start_inner name h = list_all-append (λ b. is_inner (kind b)) name (codes "=\"") ∙ ap (λ x. x && true) (name_inner name h)

-- ---- marks

name_starts : (name rest : List ℕ) → is_word name ≡ true → starts_word (name ++ rest) ≡ true
name_starts [] rest h = absurd (false≢true h)
name_starts (b ∷ bs) rest h = (and_parts (is_word_byte b) (list_all is_word_byte bs) h).0

tag_starts : (tag : Tag) (x : List ℕ) → is_worded tag ≡ true → starts_word (spell_tag tag x) ≡ true
tag_starts tag x h = name_starts tag.name (spell_attributes tag.attributes x) (and_parts (is_word tag.name) (is_worded_list tag.attributes) h).0

-- the names in both tables are words
pub start_words : (table : TagTable) → list_all is_worded_row (start_rows_of table) ≡ true
unfolding start_rows more_start_rows
start_words Basic = refl
start_words Extended = refl

void_words : (table : TagTable) → list_all is_worded_row (void_rows_of table) ≡ true
unfolding void_rows more_void_rows
void_words Basic = refl
void_words Extended = refl

pub start_worded_by : (table : TagTable) (tag : Tag) → is_tag_of (start_rows_of table) tag ≡ true → is_worded tag ≡ true
start_worded_by table tag h =
    let rows = start_rows_of table in
    listed_worded rows tag (start_words table) (and_parts (list_any (is_of_row tag) rows) (all_values tag.name tag.attributes) h).0

pub start_worded : (tag : Tag) → is_tag_of start_rows tag ≡ true → is_worded tag ≡ true
start_worded tag h = start_worded_by Basic tag h

pub void_worded_by : (table : TagTable) (tag : Tag) → is_tag_of (void_rows_of table) tag ≡ true → is_worded tag ≡ true
void_worded_by table tag h =
    let rows = void_rows_of table in
    listed_worded rows tag (void_words table) (and_parts (list_any (is_of_row tag) rows) (all_values tag.name tag.attributes) h).0

pub void_worded : (tag : Tag) → is_tag_of void_rows tag ≡ true → is_worded tag ≡ true
void_worded tag h = void_worded_by Basic tag h

open_same : (tag : Tag) (inside : Items) (r : Rest) → open_tag tag (Then inside tag.name r) ≡ Some (at_first (Element tag inside) r)
open_same tag inside r = cond-true (bytes_eq tag.name tag.name) (Some (at_first (Element tag inside) r)) None (bytes_same tag.name)

nothing : {A : Type 0} (o : Option A) → IfSome o (λ _. ⊥) → o ≡ None
nothing None h = refl
nothing (Some a) h = absurd h

abbrev is_empty : List ℕ → Bool
is_empty [] = true
is_empty (b ∷ bs) = false

-- ---- items

pub join_end : (items : Items) → join items End ≡ items
join_end End = refl
join_end (Letter b items) = ap (Letter b) (join_end items)
join_end (Void tag items) = ap (Void tag) (join_end items)
join_end (Element tag inside items) = ap (Element tag inside) (join_end items)

first_end : (r : Rest) → at_first (join End) r ≡ r
first_end (Last items) = refl
first_end (Then items name r) = refl

first_twice : (f g : Items → Items) (r : Rest) → at_first f (at_first g r) ≡ at_first (λ i. f (g i)) r
first_twice f g (Last items) = refl
first_twice f g (Then items name r) = refl

abbrev items_of : Option Items → Items
items_of None = End
items_of (Some items) = items

module _ (table : TagTable) where
  -- ---- the bytes of a tag

  inner_step : (k : Kind) (b : ℕ) (bytes : List ℕ) (r : Rest) → is_inner k ≡ true → step table k b (Inside bytes r) ≡ Inside (b ∷ bytes) r
  inner_step And b bytes r h = refl
  inner_step Quote b bytes r h = refl
  inner_step Less b bytes r h = absurd (false≢true h)
  inner_step Greater b bytes r h = absurd (false≢true h)
  inner_step Plain b bytes r h = refl

  inner_read : (m x bytes : List ℕ) (r : Rest) → all_inner m ≡ true → read table x ≡ Inside bytes r → read table (m ++ x) ≡ Inside (m ++ bytes) r
  inner_read [] x bytes r h e = e
  inner_read (b ∷ bs) x bytes r h e =
      let parts = and_parts (is_inner (kind b)) (all_inner bs) h in
      ap (step table (kind b) b) (inner_read bs x bytes r parts.1 e) ∙ inner_step (kind b) b (bs ++ bytes) r parts.0

  text_read : (text x bytes : List ℕ) (r : Rest) → read table x ≡ Inside bytes r → read table (spell_text text x) ≡ Inside (spell_text text bytes) r
  text_read [] x bytes r e = e
  text_read (b ∷ bs) x bytes r e = inner_read (spell_letter b) (spell_text bs x) (spell_text bs bytes) r (letter_inner b) (text_read bs x bytes r e)

  attributes_read : (attributes : List Attribute) (x bytes : List ℕ) (r : Rest) → is_worded_list attributes ≡ true
      → read table x ≡ Inside bytes r → read table (spell_attributes attributes x) ≡ Inside (spell_attributes attributes bytes) r
  attributes_read [] x bytes r h e = e
  attributes_read (a ∷ others) x bytes r h e =
      let parts = and_parts (is_word a.name) (is_worded_list others) h in
      let more = attributes_read others x bytes r parts.1 e in
      let closed : read table (34 ∷ spell_attributes others x) ≡ Inside (34 ∷ spell_attributes others bytes) r = ap (step table Quote 34) more in
      inner_read (attribute_start a.name) (spell_text a.value (34 ∷ spell_attributes others x)) (spell_text a.value (34 ∷ spell_attributes others bytes)) r
      (start_inner a.name parts.0) (text_read a.value (34 ∷ spell_attributes others x) (34 ∷ spell_attributes others bytes) r closed)

  tag_read : (tag : Tag) (x bytes : List ℕ) (r : Rest) → is_worded tag ≡ true → read table x ≡ Inside bytes r
      → read table (spell_tag tag x) ≡ Inside (spell_tag tag bytes) r
  tag_read tag x bytes r h e =
      let parts = and_parts (is_word tag.name) (is_worded_list tag.attributes) h in
      inner_read tag.name (spell_attributes tag.attributes x) (spell_attributes tag.attributes bytes) r (name_inner tag.name parts.0)
      (attributes_read tag.attributes x bytes r parts.1 e)

  -- ---- marks

  opening_mark : (bytes : List ℕ) (r : Rest) → starts_word bytes ≡ true → read_mark table bytes r ≡ read_opening table bytes r
  opening_mark [] r h = absurd (false≢true h)
  opening_mark (b ∷ bs) r h =
      cond-false (eqb b 47) (Some (Then End bs r)) (read_opening table (b ∷ bs) r) (ne_eqb b 47 (λ e. true≢false (sym h ∙ ap is_word_byte e)))

  start_opens : (tag : Tag) (inside : Items) (r : Rest) → is_tag_of (start_rows_of table) tag ≡ true
      → read_opening table (spell_tag tag []) (Then inside tag.name r) ≡ Some (at_first (Element tag inside) r)
  start_opens tag inside r h =
      let parts = and_parts (list_any (is_of_row tag) (start_rows_of table)) (all_values tag.name tag.attributes) h in
      let rest = Then inside tag.name r in
      let other = read_tag (void_rows_of table) void_end (spell_tag tag []) in
      ap (λ o. open_or o other rest) (tag_spelled (start_rows_of table) tag [] (start_words table) (start_worded_by table tag h) refl refl parts.0 parts.1)
      ∙ open_same tag inside r

  -- a void tag isn't a start tag
  void_not_start : (tag : Tag) → is_worded tag ≡ true → read_tag (start_rows_of table) [] (spell_tag tag void_end) ≡ None
  void_not_start tag h =
      nothing (read_tag (start_rows_of table) [] (spell_tag tag void_end))
      (weaker (read_tag (start_rows_of table) [] (spell_tag tag void_end)) (IsRead (start_rows_of table) [] (spell_tag tag void_end)) (λ _. ⊥)
      (λ other found. true≢false (ap is_empty (tags_same other tag [] void_end
      (listed_worded (start_rows_of table) other (start_words table) found.listed) h refl refl refl refl found.spelling).1))
      (tag_sound (start_rows_of table) [] (spell_tag tag void_end)))

  void_opens : (tag : Tag) (r : Rest) → is_tag_of (void_rows_of table) tag ≡ true → read_opening table (spell_tag tag void_end) r ≡ Some (at_first (Void tag) r)
  void_opens tag r h =
      let parts = and_parts (list_any (is_of_row tag) (void_rows_of table)) (all_values tag.name tag.attributes) h in
      let bytes = spell_tag tag void_end in
      ap (λ o. open_or o (read_tag (void_rows_of table) void_end bytes) r) (void_not_start tag (void_worded_by table tag h))
      ∙ ap (λ o. open_or None o r) (tag_spelled (void_rows_of table) tag void_end (void_words table) (void_worded_by table tag h) refl refl parts.0 parts.1)

  -- ---- items

  abbrev steps : List ℕ → Reading → Reading
  steps [] reading = reading
  steps (b ∷ bs) reading = step table (kind b) b (steps bs reading)

  letter_read : (b : ℕ) (x : List ℕ) (r : Rest) → read table x ≡ Outside r → read table (spell_letter b ++ x) ≡ Outside (at_first (Letter b) r)
  letter_read b x (Last items) e =
      by_kind (λ b. read table (spell_letter b ++ x) ≡ Outside (Last (Letter b items)))
      (ap (steps (codes "&amp;")) e) (ap (steps (codes "&quot;")) e) (ap (steps (codes "&lt;")) e) (ap (steps (codes "&gt;")) e)
      (λ b h. ap (λ k. read table (spell_kind k b ++ x)) h ∙ (ap (λ k. step table k b (read table x)) h ∙ ap (step table Plain b) e)) b
  letter_read b x (Then items name r) e =
      by_kind (λ b. read table (spell_letter b ++ x) ≡ Outside (Then (Letter b items) name r))
      (ap (steps (codes "&amp;")) e) (ap (steps (codes "&quot;")) e) (ap (steps (codes "&lt;")) e) (ap (steps (codes "&gt;")) e)
      (λ b h. ap (λ k. read table (spell_kind k b ++ x)) h ∙ (ap (λ k. step table k b (read table x)) h ∙ ap (step table Plain b) e)) b

  void_read : (tag : Tag) (x : List ℕ) (r : Rest) → is_tag_of (void_rows_of table) tag ≡ true → read table x ≡ Outside r
      → read table (60 ∷ spell_tag tag (void_end ++ (62 ∷ x))) ≡ Outside (at_first (Void tag) r)
  void_read tag x r h e =
      let ended : read table (void_end ++ (62 ∷ x)) ≡ Inside void_end r = ap (steps (codes " />")) e in
      ap (step table Less 60) (tag_read tag (void_end ++ (62 ∷ x)) void_end r (void_worded_by table tag h) ended)
      ∙ (ap outside (opening_mark (spell_tag tag void_end) r (tag_starts tag void_end (void_worded_by table tag h)))
      ∙ ap outside (void_opens tag r h))

  start_read : (tag : Tag) (x : List ℕ) (inside : Items) (r : Rest) → is_tag_of (start_rows_of table) tag ≡ true
      → read table x ≡ Outside (Then inside tag.name r)
      → read table (60 ∷ spell_tag tag (62 ∷ x)) ≡ Outside (at_first (Element tag inside) r)
  start_read tag x inside r h e =
      let rest = Then inside tag.name r in
      let ended : read table (62 ∷ x) ≡ Inside [] rest = ap (step table Greater 62) e in
      ap (step table Less 60) (tag_read tag (62 ∷ x) [] rest (start_worded_by table tag h) ended)
      ∙ (ap outside (opening_mark (spell_tag tag []) rest (tag_starts tag [] (start_worded_by table tag h)))
      ∙ ap outside (start_opens tag inside r h))

  end_read : (tag : Tag) (x : List ℕ) (r : Rest) → is_worded tag ≡ true → read table x ≡ Outside r
      → read table (60 ∷ 47 ∷ (tag.name ++ (62 ∷ x))) ≡ Outside (Then End tag.name r)
  end_read tag x r h e =
      let name = tag.name in
      let ended : read table (62 ∷ x) ≡ Inside [] r = ap (step table Greater 62) e in
      let named = inner_read name (62 ∷ x) [] r (name_inner name (and_parts (is_word name) (is_worded_list tag.attributes) h).0) ended in
      ap (λ s. step table Less 60 (step table Plain 47 s)) named ∙ ap (λ n. Outside (Then End n r)) (append-nil name)

  pub items_read : (items : Items) (x : List ℕ) (r : Rest) → is_safe_by table items ≡ true → read table x ≡ Outside r
      → read table (spell_before items x) ≡ Outside (at_first (join items) r)
  items_read End x r h e = e ∙ ap Outside (sym (first_end r))
  items_read (Letter b items) x r h e =
      letter_read b (spell_before items x) (at_first (join items) r) (items_read items x r h e) ∙ ap Outside (first_twice (Letter b) (join items) r)
  items_read (Void tag items) x r h e =
      let parts = and_parts (is_tag_of (void_rows_of table) tag) (is_safe_by table items) h in
      void_read tag (spell_before items x) (at_first (join items) r) parts.0 (items_read items x r parts.1 e) ∙ ap Outside
      (first_twice (Void tag) (join items) r)
  items_read (Element tag inside items) x r h e =
      let parts = and_parts (is_tag_of (start_rows_of table) tag) (is_safe_by table inside && is_safe_by table items) h in
      let both = and_parts (is_safe_by table inside) (is_safe_by table items) parts.1 in
      let after = at_first (join items) r in
      let rest = 60 ∷ 47 ∷ (tag.name ++ (62 ∷ spell_before items x)) in
      let ended = end_read tag (spell_before items x) after (start_worded_by table tag parts.0) (items_read items x r both.1 e) in
      let filled : read table (spell_before inside rest) ≡ Outside (Then inside tag.name after) =
      items_read inside rest (Then End tag.name after) both.0 ended ∙ ap (λ i. Outside (Then i tag.name after)) (join_end inside) in
      start_read tag (spell_before inside rest) inside after parts.0 filled ∙ ap Outside (first_twice (Element tag inside) (join items) r)

  -- the reader finds each reading
  pub page_spelled : (items : Items) → is_safe_by table items ≡ true → read_page table (spell items) ≡ Some items
  page_spelled items h = ap whole (items_read items [] (Last End) h refl) ∙ ap (λ i. Some i) (join_end items)

  pub unique : (a b : Items) → is_safe_by table a ≡ true → is_safe_by table b ≡ true → spell a ≡ spell b → a ≡ b
  unique a b ha hb e = ap items_of (sym (page_spelled a ha) ∙ ap (read_page table) e ∙ page_spelled b hb)

pub one_reading : OneReading
one_reading table page a b ra rb = unique table a b ra.0 rb.0 (ra.1 ∙ sym rb.1)
