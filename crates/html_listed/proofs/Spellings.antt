-- Items whose names are words have one spelling each.
use Rattle.std.proofs.Common.{◌≡◌, ℕ, Bool, true, false, ◌&&◌, cond, eqb, List, [], ◌∷◌, ◌++◌, refl, sym, ap, ◌∙◌}
use Rattle.std.specs.List.{list_all}
use Rattle.std.proofs.lemmas.Bool.{cond-false, true≢false, false≢true, and_parts, and_from, or_from, eqb-false, ne_eqb, not_from_false}
use Rattle.definition_inline.specs.HtmlTags.{is_tag_name_byte}
use Rattle.html_safe_page.specs.SafePage.{kind, spell_kind, spell_letter, Attribute, Tag, spell_tag, Items, End, Letter, Void, Element, void_end, spell_before}
use Rattle.html_safe_page.proofs.Text.{by_kind, is_plain, plain_other}
use Rattle.html_safe_page.proofs.Spelled.{is_word_byte, is_word, starts_word, is_worded_list, is_worded, tags_same}
use Rattle.html_listed.specs.ListedPage.{is_start, is_void, have_tags}
use Rattle.html_listed.specs.Laws.{is_name, has_names, OneSpelling, OneListedReading}
use Rattle.html_listed.proofs.Words.{tag_starts, start_is_worded, void_is_worded}

-- ---- what bytes begin with

-- 1 for a start tag, 2 for a letter, 0 for an end tag or nothing
abbrev after_less : List ℕ → ℕ
after_less [] = 1
after_less (b ∷ bs) = cond (eqb b 47) 0 1

abbrev mark : List ℕ → ℕ
mark [] = 0
mark (b ∷ bs) = cond (eqb b 60) (after_less bs) 2

-- bytes that begin otherwise are others
clash : {A : Type 0} (m n : ℕ) (x y : List ℕ) → mark x ≡ m → mark y ≡ n → eqb m n ≡ false → x ≡ y → A
clash m n x y p q d e = absurd (eqb-false m n d (sym p ∙ ap mark e ∙ q))

letter_mark : (b : ℕ) (x : List ℕ) → mark (spell_letter b ++ x) ≡ 2
letter_mark b x =
    by_kind (λ b. mark (spell_letter b ++ x) ≡ 2) refl refl refl refl
    (λ b k. ap (λ kind. mark (spell_kind kind b ++ x)) k ∙ cond-false (eqb b 60) (after_less x) 2 (plain_other b 60 k refl)) b

word_mark : (bytes : List ℕ) → starts_word bytes ≡ true → after_less bytes ≡ 1
word_mark [] h = refl
word_mark (b ∷ bs) h = cond-false (eqb b 47) 0 1 (ne_eqb b 47 (λ e. true≢false (sym h ∙ ap is_word_byte e)))

tag_mark : (t : Tag) (x : List ℕ) → is_worded t ≡ true → mark (60 ∷ spell_tag t x) ≡ 1
tag_mark t x h = word_mark (spell_tag t x) (tag_starts t x h)

-- ---- letters

abbrev tail : List ℕ → List ℕ
tail [] = []
tail (b ∷ bs) = bs

abbrev head : List ℕ → ℕ
head [] = 0
head (b ∷ bs) = b

cancel : (p x y : List ℕ) → p ++ x ≡ p ++ y → x ≡ y
cancel [] x y e = e
cancel (b ∷ bs) x y e = cancel bs x y (ap tail e)

-- the byte that a reference after its `&` stands for
abbrev referred : List ℕ → ℕ
referred [] = 0
referred (b ∷ bs) = cond (eqb b 97) 38 (cond (eqb b 113) 34 (cond (eqb b 108) 60 62))

abbrev letter : List ℕ → ℕ
letter [] = 0
letter (b ∷ bs) = cond (eqb b 38) (referred bs) b

letter_found : (b : ℕ) (x : List ℕ) → letter (spell_letter b ++ x) ≡ b
letter_found b x =
    by_kind (λ b. letter (spell_letter b ++ x) ≡ b) refl refl refl refl
    (λ b k. ap (λ kind. letter (spell_kind kind b ++ x)) k ∙ cond-false (eqb b 38) (referred x) b (plain_other b 38 k refl)) b

letters_same : (c d : ℕ) (x y : List ℕ) → spell_letter c ++ x ≡ spell_letter d ++ y → (c ≡ d) × (x ≡ y)
letters_same c d x y e =
    let same : c ≡ d = sym (letter_found c x) ∙ ap letter e ∙ letter_found d y in
    (same, cancel (spell_letter c) x y (e ∙ ap (λ b. spell_letter b ++ y) (sym same)))

-- ---- items

-- what follows a void tag, and an element
abbrev void_rest : Items → List ℕ → List ℕ
void_rest items x = void_end ++ (62 ∷ spell_before items x)

abbrev end_rest : Tag → Items → List ℕ → List ℕ
end_rest t items x = 60 ∷ 47 ∷ (t.name ++ (62 ∷ spell_before items x))

abbrev worded : Items → Bool
worded items = have_tags is_worded is_worded items

pub items_same : (a b : Items) (x y : List ℕ) → worded a ≡ true → worded b ≡ true → mark x ≡ 0 → mark y ≡ 0
    → spell_before a x ≡ spell_before b y → (a ≡ b) × (x ≡ y)
items_same End End x y ha hb mx my e = (refl, e)
items_same End (Letter d bs) x y ha hb mx my e = clash 0 2 x (spell_before (Letter d bs) y) mx (letter_mark d (spell_before bs y)) refl e
items_same End (Void u bs) x y ha hb mx my e =
    clash 0 1 x (spell_before (Void u bs) y) mx (tag_mark u (void_rest bs y) (and_parts (is_worded u) (worded bs) hb).0) refl e
items_same End (Element u ib bs) x y ha hb mx my e =
    clash 0 1 x (spell_before (Element u ib bs) y) mx
    (tag_mark u (62 ∷ spell_before ib (end_rest u bs y)) (and_parts (is_worded u) (worded ib && worded bs) hb).0) refl e
items_same (Letter c xs) End x y ha hb mx my e = clash 2 0 (spell_before (Letter c xs) x) y (letter_mark c (spell_before xs x)) my refl e
items_same (Letter c xs) (Letter d bs) x y ha hb mx my e =
    let first = letters_same c d (spell_before xs x) (spell_before bs y) e in
    let more = items_same xs bs x y ha hb mx my first.1 in
    (ap (λ c. Letter c xs) first.0 ∙ ap (Letter d) more.0, more.1)
items_same (Letter c xs) (Void u bs) x y ha hb mx my e =
    clash 2 1 (spell_before (Letter c xs) x) (spell_before (Void u bs) y) (letter_mark c (spell_before xs x))
    (tag_mark u (void_rest bs y) (and_parts (is_worded u) (worded bs) hb).0) refl e
items_same (Letter c xs) (Element u ib bs) x y ha hb mx my e =
    clash 2 1 (spell_before (Letter c xs) x) (spell_before (Element u ib bs) y) (letter_mark c (spell_before xs x))
    (tag_mark u (62 ∷ spell_before ib (end_rest u bs y)) (and_parts (is_worded u) (worded ib && worded bs) hb).0) refl e
items_same (Void t xs) End x y ha hb mx my e =
    clash 1 0 (spell_before (Void t xs) x) y (tag_mark t (void_rest xs x) (and_parts (is_worded t) (worded xs) ha).0) my refl e
items_same (Void t xs) (Letter d bs) x y ha hb mx my e =
    clash 1 2 (spell_before (Void t xs) x) (spell_before (Letter d bs) y) (tag_mark t (void_rest xs x) (and_parts (is_worded t) (worded xs) ha).0)
    (letter_mark d (spell_before bs y)) refl e
items_same (Void t xs) (Void u bs) x y ha hb mx my e =
    let pa = and_parts (is_worded t) (worded xs) ha in
    let pb = and_parts (is_worded u) (worded bs) hb in
    let tags = tags_same t u (void_rest xs x) (void_rest bs y) pa.0 pb.0 refl refl refl refl (ap tail e) in
    let more = items_same xs bs x y pa.1 pb.1 mx my (ap (λ z. tail (tail (tail z))) tags.1) in
    (ap (λ t. Void t xs) tags.0 ∙ ap (Void u) more.0, more.1)
items_same (Void t xs) (Element u ib bs) x y ha hb mx my e =
    let pa = and_parts (is_worded t) (worded xs) ha in
    let pb = and_parts (is_worded u) (worded ib && worded bs) hb in
    let inside = spell_before ib (end_rest u bs y) in
    let tags = tags_same t u (void_rest xs x) (62 ∷ inside) pa.0 pb.0 refl refl refl refl (ap tail e) in
    absurd (eqb-false 32 62 refl (ap head tags.1))
items_same (Element t ia xs) End x y ha hb mx my e =
    clash 1 0 (spell_before (Element t ia xs) x) y
    (tag_mark t (62 ∷ spell_before ia (end_rest t xs x)) (and_parts (is_worded t) (worded ia && worded xs) ha).0) my refl e
items_same (Element t ia xs) (Letter d bs) x y ha hb mx my e =
    clash 1 2 (spell_before (Element t ia xs) x) (spell_before (Letter d bs) y)
    (tag_mark t (62 ∷ spell_before ia (end_rest t xs x)) (and_parts (is_worded t) (worded ia && worded xs) ha).0)
    (letter_mark d (spell_before bs y)) refl e
items_same (Element t ia xs) (Void u bs) x y ha hb mx my e =
    let pa = and_parts (is_worded t) (worded ia && worded xs) ha in
    let pb = and_parts (is_worded u) (worded bs) hb in
    let inside = spell_before ia (end_rest t xs x) in
    let tags = tags_same t u (62 ∷ inside) (void_rest bs y) pa.0 pb.0 refl refl refl refl (ap tail e) in
    absurd (eqb-false 62 32 refl (ap head tags.1))
items_same (Element t ia xs) (Element u ib bs) x y ha hb mx my e =
    let pa = and_parts (is_worded t) (worded ia && worded xs) ha in
    let pb = and_parts (is_worded u) (worded ib && worded bs) hb in
    let both_a = and_parts (worded ia) (worded xs) pa.1 in
    let both_b = and_parts (worded ib) (worded bs) pb.1 in
    let rest_a = end_rest t xs x in
    let rest_b = end_rest u bs y in
    let tags = tags_same t u (62 ∷ spell_before ia rest_a) (62 ∷ spell_before ib rest_b) pa.0 pb.0 refl refl refl refl (ap tail e) in
    let inner = items_same ia ib rest_a rest_b both_a.0 both_b.0 refl refl (ap tail tags.1) in
    let after = cancel t.name (62 ∷ spell_before xs x) (62 ∷ spell_before bs y)
    (ap (λ z. tail (tail z)) inner.1 ∙ ap (λ (v : Tag). v.name ++ (62 ∷ spell_before bs y)) (sym tags.0)) in
    let more = items_same xs bs x y both_a.1 both_b.1 mx my (ap tail after) in
    (ap (λ t. Element t ia xs) tags.0 ∙ ap (λ i. Element u i xs) inner.0 ∙ ap (Element u ib) more.0, more.1)

-- ---- tests that pass words

-- items pass weaker tests, too
pub weaker_tags : (start void more_start more_void : Tag → Bool) → ((t : Tag) → start t ≡ true → more_start t ≡ true)
    → ((t : Tag) → void t ≡ true → more_void t ≡ true) → (items : Items) → have_tags start void items ≡ true
    → have_tags more_start more_void items ≡ true
weaker_tags start void more_start more_void f g End h = refl
weaker_tags start void more_start more_void f g (Letter b items) h = weaker_tags start void more_start more_void f g items h
weaker_tags start void more_start more_void f g (Void t items) h =
    let parts = and_parts (void t) (have_tags start void items) h in
    and_from (more_void t) (have_tags more_start more_void items) (g t parts.0) (weaker_tags start void more_start more_void f g items parts.1)
weaker_tags start void more_start more_void f g (Element t inside items) h =
    let parts = and_parts (start t) (have_tags start void inside && have_tags start void items) h in
    let both = and_parts (have_tags start void inside) (have_tags start void items) parts.1 in
    and_from (more_start t) (have_tags more_start more_void inside && have_tags more_start more_void items) (f t parts.0)
    (and_from (have_tags more_start more_void inside) (have_tags more_start more_void items)
    (weaker_tags start void more_start more_void f g inside both.0) (weaker_tags start void more_start more_void f g items both.1))

-- letters, digits and `-`
name_byte_is_word : (b : ℕ) → is_tag_name_byte b ≡ true → is_word_byte b ≡ true
name_byte_is_word b h =
    let no = λ (n : ℕ) (k : is_tag_name_byte n ≡ false) (b : ℕ) (h : is_tag_name_byte b ≡ true).
    ne_eqb b n (λ e. false≢true (sym k ∙ ap is_tag_name_byte (sym e) ∙ h)) in
    by_kind (λ b. is_tag_name_byte b ≡ true → is_word_byte b ≡ true)
    (λ e. absurd (false≢true e)) (λ e. absurd (false≢true e)) (λ e. absurd (false≢true e)) (λ e. absurd (false≢true e))
    (λ b k h. and_from (is_plain (kind b)) _ (ap is_plain k)
    (not_from_false _
    (or_from _ (eqb b 0) (or_from _ (eqb b 47) (or_from (eqb b 32) (eqb b 61) (no 32 refl b h) (no 61 refl b h)) (no 47 refl b h)) (no 0 refl b h))))
    b h

bytes_are_word : (bytes : List ℕ) → list_all is_tag_name_byte bytes ≡ true → list_all is_word_byte bytes ≡ true
bytes_are_word [] h = refl
bytes_are_word (b ∷ bs) h =
    let parts = and_parts (is_tag_name_byte b) (list_all is_tag_name_byte bs) h in
    and_from (is_word_byte b) (list_all is_word_byte bs) (name_byte_is_word b parts.0) (bytes_are_word bs parts.1)

name_is_word : (name : List ℕ) → is_name name ≡ true → is_word name ≡ true
name_is_word [] h = absurd (false≢true h)
name_is_word (b ∷ bs) h = bytes_are_word (b ∷ bs) h

names_are_words : (attributes : List Attribute) → list_all (λ a. is_name a.name) attributes ≡ true → is_worded_list attributes ≡ true
names_are_words [] h = refl
names_are_words (a ∷ others) h =
    let parts = and_parts (is_name a.name) (list_all (λ a. is_name a.name) others) h in
    and_from (is_word a.name) (is_worded_list others) (name_is_word a.name parts.0) (names_are_words others parts.1)

named_is_worded : (t : Tag) → has_names t ≡ true → is_worded t ≡ true
named_is_worded t h =
    let parts = and_parts (is_name t.name) (list_all (λ a. is_name a.name) t.attributes) h in
    and_from (is_word t.name) (is_worded_list t.attributes) (name_is_word t.name parts.0) (names_are_words t.attributes parts.1)

pub one_spelling : OneSpelling
one_spelling a b ha hb e =
    (items_same a b [] [] (weaker_tags has_names has_names is_worded is_worded named_is_worded named_is_worded a ha)
    (weaker_tags has_names has_names is_worded is_worded named_is_worded named_is_worded b hb) refl refl e).0

-- ---- listed pages

pub one_listed_reading : OneListedReading
one_listed_reading table page a b ra rb =
    let start = is_start table in
    let void = is_void table in
    (items_same a b [] [] (weaker_tags start void is_worded is_worded (start_is_worded table) (void_is_worded table) a ra.0)
    (weaker_tags start void is_worded is_worded (start_is_worded table) (void_is_worded table) b rb.0) refl refl (ra.1 ∙ sym rb.1)).0
