-- A tag is spelled in one way, and read back.
use Rattle.std.proofs.Common.{◌≡◌, ℕ, List, [], ◌∷◌, ◌++◌, Bool, true, false, not, ◌&&◌, ◌||◌, cond, eqb, Option, None, Some, codes, refl, sym, ap, ◌∙◌, subst}
use Rattle.std.proofs.Common.{inl, inr, append_assoc}
use Rattle.std.specs.List.{list_any, list_all}
use Rattle.std.specs.Option.{IfSome, option_and_then, option_map, option_or}
use Rattle.std.specs.Str.{bytes_eq}
use Rattle.std.proofs.lemmas.Bool.{cases_Bool, cond-true, cond-false, true≢false, false≢true, eq-eqb, and_parts, and_from}
use Rattle.std.proofs.lemmas.Slice.Eq.{bytes_eq-Decides}
use Rattle.html_safe_page.specs.Table.{Row}
use Rattle.html_safe_page.specs.SafePage.{kind, spell_text, Attribute, Tag, attribute_start, spell_attributes, spell_tag, are_named, is_of_row, is_value}
use Rattle.html_safe_page.specs.Reader.{strip, read_text, QuotedText, before_quote, quoted_value, read_value, attribute, read_attributes, tag_of, read_row}
use Rattle.html_safe_page.specs.Reader.{read_tag}
use Rattle.html_safe_page.proofs.Options.{then_if, else_if, weaker, map_if}
use Rattle.html_safe_page.proofs.Text.{is_plain, read_spelled, strip_sound, text_sound, split, quoted_spelled, quoted_sound, spell_text-append}

pub same_bytes : (xs ys : List ℕ) → bytes_eq xs ys ≡ true → xs ≡ ys
same_bytes xs ys h = (bytes_eq-Decides xs ys).0 h

pub bytes_same : (xs : List ℕ) → bytes_eq xs xs ≡ true
bytes_same xs = (bytes_eq-Decides xs xs).1 refl

pub strip_spelled : (prefix rest : List ℕ) → strip prefix (prefix ++ rest) ≡ Some rest
strip_spelled [] rest = refl
strip_spelled (p ∷ ps) rest = cond-true (eqb p p) (strip ps (ps ++ rest)) None (eq-eqb p p refl) ∙ strip_spelled ps rest

-- the attributes of a tag of this name have values that they may have
abbrev pub all_values : List ℕ → List Attribute → Bool
all_values tag attributes = list_all (λ a. is_value tag a.name a.value) attributes

-- ---- what is read is what was spelled

pub record AreRead (tag : List ℕ) (names : List (List ℕ)) (ending bytes : List ℕ) (attributes : List Attribute) : Type 0 where
  pub spelling : spell_attributes attributes ending ≡ bytes
  pub named : are_named names attributes ≡ true
  pub values : all_values tag attributes ≡ true

pub record IsRead (rows : List Row) (ending bytes : List ℕ) (tag : Tag) : Type 0 where
  pub spelling : spell_tag tag ending ≡ bytes
  pub listed : list_any (is_of_row tag) rows ≡ true
  pub values : all_values tag.name tag.attributes ≡ true

value_sound : (tag name bytes : List ℕ) → IfSome (read_value tag name bytes) (λ v. (spell_text v [] ≡ bytes) × (is_value tag name v ≡ true))
value_sound tag name bytes =
    then_if (read_text bytes) (λ v. cond (is_value tag name v) (Some v) None) (λ v. spell_text v [] ≡ bytes) (λ v. (spell_text v [] ≡ bytes)
    × (is_value tag name v ≡ true)) (text_sound bytes)
    (λ v h.
    let P = λ (v : List ℕ). (spell_text v [] ≡ bytes) × (is_value tag name v ≡ true) in
    elim (cases_Bool (is_value tag name v)) [
      | inl e ↦ subst (λ o. IfSome o P) (sym (cond-true (is_value tag name v) (Some v) None e)) (h, e)
      | inr e ↦ subst (λ o. IfSome o P) (sym (cond-false (is_value tag name v) (Some v) None e)) tt
    ])

abbrev after_value : List ℕ → List ℕ → List (List ℕ) → List ℕ → List ℕ → List ℕ → Option (List Attribute)
after_value tag n ns ending rest v = option_map (λ others. attribute n v ∷ others) (read_attributes tag ns ending rest)

abbrev after_quoted : List ℕ → List ℕ → List (List ℕ) → List ℕ → QuotedText → Option (List Attribute)
after_quoted tag n ns ending q = option_and_then (after_value tag n ns ending q.rest) (read_value tag n q.inside)

quoted_value_sound : (name bytes : List ℕ) → IfSome (quoted_value name bytes) (λ q. attribute_start name ++ (q.inside ++ (34 ∷ q.rest)) ≡ bytes)
quoted_value_sound name bytes =
    let P = λ (q : QuotedText). attribute_start name ++ (q.inside ++ (34 ∷ q.rest)) ≡ bytes in
    then_if (strip (attribute_start name) bytes) before_quote (λ start. attribute_start name ++ start ≡ bytes) P (strip_sound (attribute_start name) bytes)
    (λ start h.
    weaker (before_quote start) (λ q. q.inside ++ (34 ∷ q.rest) ≡ start) P (λ q k. ap (λ x. attribute_start name ++ x) k ∙ h) (quoted_sound start))

pub attributes_sound : (tag : List ℕ) (names : List (List ℕ)) (ending bytes : List ℕ)
    → IfSome (read_attributes tag names ending bytes) (AreRead tag names ending bytes)
attributes_sound tag [] ending bytes =
    elim (cases_Bool (bytes_eq bytes ending)) [
      | inl e ↦
          subst (λ o. IfSome o (AreRead tag [] ending bytes)) (sym (cond-true (bytes_eq bytes ending) (Some []) None e))
          (record { spelling = sym (same_bytes bytes ending e); named = refl; values = refl })
      | inr e ↦ subst (λ o. IfSome o (AreRead tag [] ending bytes)) (sym (cond-false (bytes_eq bytes ending) (Some []) None e)) tt
    ]
attributes_sound tag (n ∷ ns) ending bytes =
    let P = AreRead tag (n ∷ ns) ending bytes in
    then_if (quoted_value n bytes) (after_quoted tag n ns ending) (λ q. attribute_start n ++ (q.inside ++ (34 ∷ q.rest)) ≡ bytes) P
    (quoted_value_sound n bytes) (λ q from_quoted.
    then_if (read_value tag n q.inside) (after_value tag n ns ending q.rest) (λ v. (spell_text v [] ≡ q.inside)
    × (is_value tag n v ≡ true)) P (value_sound tag n q.inside) (λ v from_value.
    map_if (read_attributes tag ns ending q.rest) (λ others. attribute n v ∷ others) (AreRead tag ns ending q.rest) P
    (attributes_sound tag ns ending q.rest) (λ others h.
    record {
      spelling =
          ap (λ x. attribute_start n ++ spell_text v (34 ∷ x)) h.spelling
          ∙ ap (λ x. attribute_start n ++ x) (sym (spell_text-append v (34 ∷ q.rest)))
          ∙ ap (λ x. attribute_start n ++ (x ++ (34 ∷ q.rest))) from_value.0
          ∙ from_quoted;
      named = and_from (bytes_eq n n) (are_named ns others) (bytes_same n) h.named;
      values = and_from (is_value tag n v) (all_values tag others) from_value.1 h.values;
    })))

record IsReadRow (row : Row) (ending bytes : List ℕ) (tag : Tag) : Type 0 where
  spelling : spell_tag tag ending ≡ bytes
  listed : is_of_row tag row ≡ true
  values : all_values tag.name tag.attributes ≡ true

row_sound : (row : Row) (ending bytes : List ℕ) → IfSome (read_row ending bytes row) (IsReadRow row ending bytes)
row_sound row ending bytes =
    then_if (strip row.name bytes) (λ rest. option_map (tag_of row.name) (read_attributes row.name row.attributes ending rest)) (λ rest. row.name ++ rest ≡ bytes)
    (IsReadRow row ending bytes) (strip_sound row.name bytes) (λ rest from_name.
    map_if (read_attributes row.name row.attributes ending rest) (tag_of row.name) (AreRead row.name row.attributes ending rest) (IsReadRow row ending bytes)
    (attributes_sound row.name row.attributes ending rest)
    (λ attributes h. record {
      spelling = ap (λ x. row.name ++ x) h.spelling ∙ from_name;
      listed = and_from (bytes_eq row.name row.name) (are_named row.attributes attributes) (bytes_same row.name) h.named;
      values = h.values;
    }))

or_right : (a b : Bool) → b ≡ true → (a || b) ≡ true
or_right true b h = refl
or_right false b h = h

pub tag_sound : (rows : List Row) (ending bytes : List ℕ) → IfSome (read_tag rows ending bytes) (IsRead rows ending bytes)
tag_sound [] ending bytes = tt
tag_sound (row ∷ rows) ending bytes =
    else_if (read_row ending bytes row) (read_tag rows ending bytes) (IsRead (row ∷ rows) ending bytes)
    (weaker (read_row ending bytes row) (IsReadRow row ending bytes) (IsRead (row ∷ rows) ending bytes)
    (λ tag h. record { spelling = h.spelling; listed = ap (λ x. x || list_any (is_of_row tag) rows) h.listed; values = h.values })
    (row_sound row ending bytes))
    (weaker (read_tag rows ending bytes) (IsRead rows ending bytes) (IsRead (row ∷ rows) ending bytes)
    (λ tag h. record { spelling = h.spelling; listed = or_right (is_of_row tag row) (list_any (is_of_row tag) rows) h.listed; values = h.values })
    (tag_sound rows ending bytes))

-- ---- what is spelled is read

pub attributes_spelled : (tag : List ℕ) (names : List (List ℕ)) (attributes : List Attribute) (ending : List ℕ) → are_named names attributes ≡ true
    → all_values tag attributes ≡ true
    → read_attributes tag names ending (spell_attributes attributes ending) ≡ Some attributes
attributes_spelled tag [] [] ending h k = cond-true (bytes_eq ending ending) (Some []) None (bytes_same ending)
attributes_spelled tag [] (a ∷ others) ending h k = absurd (false≢true h)
attributes_spelled tag (n ∷ ns) [] ending h k = absurd (false≢true h)
attributes_spelled tag (n ∷ ns) (a ∷ others) ending h k =
    let named = and_parts (bytes_eq n a.name) (are_named ns others) h in
    let valued = and_parts (is_value tag a.name a.value) (all_values tag others) k in
    let rest = spell_attributes others ending in
    let start = spell_text a.value (34 ∷ rest) in
    let text = spell_text a.value [] in
    let value : read_value tag a.name text ≡ Some a.value =
    ap (option_and_then (λ v. cond (is_value tag a.name v) (Some v) None)) (read_spelled a.value)
    ∙ cond-true (is_value tag a.name a.value) (Some a.value) None valued.0 in
    subst (λ m. read_attributes tag (m ∷ ns) ending (attribute_start a.name ++ start) ≡ Some (a ∷ others)) (sym (same_bytes n a.name named.0))
    (ap (λ o. option_and_then (after_quoted tag a.name ns ending) (option_and_then before_quote o)) (strip_spelled (attribute_start a.name) start)
    ∙ (ap (option_and_then (after_quoted tag a.name ns ending)) (quoted_spelled a.value rest)
    ∙ (ap (option_and_then (after_value tag a.name ns ending rest)) value
    ∙ ap (option_map (λ others. attribute a.name a.value ∷ others)) (attributes_spelled tag ns others ending named.1 valued.1))))

row_spelled : (row : Row) (tag : Tag) (ending : List ℕ) → is_of_row tag row ≡ true → all_values tag.name tag.attributes ≡ true
    → read_row ending (spell_tag tag ending) row ≡ Some tag
row_spelled row tag ending h k =
    let parts = and_parts (bytes_eq row.name tag.name) (are_named row.attributes tag.attributes) h in
    let rest = spell_attributes tag.attributes ending in
    let after = λ (name : List ℕ) (rest : List ℕ). option_map (tag_of name) (read_attributes name row.attributes ending rest) in
    subst (λ name. option_and_then (after name) (strip name (tag.name ++ rest)) ≡ Some tag) (sym (same_bytes row.name tag.name parts.0))
    (ap (option_and_then (after tag.name)) (strip_spelled tag.name rest)
    ∙ ap (option_map (tag_of tag.name)) (attributes_spelled tag.name row.attributes tag.attributes ending parts.1 k))

-- ---- tags with the same spelling

abbrev pub is_word_byte : ℕ → Bool
is_word_byte b = is_plain (kind b) && not (eqb b 32 || eqb b 61 || eqb b 47 || eqb b 0)

abbrev pub is_word : List ℕ → Bool
is_word [] = false
is_word (b ∷ bs) = is_word_byte b && list_all is_word_byte bs

abbrev pub starts_word : List ℕ → Bool
starts_word [] = false
starts_word (b ∷ bs) = is_word_byte b

abbrev pub starts_attribute : List ℕ → Bool
starts_attribute [] = false
starts_attribute (b ∷ bs) = eqb b 32 && starts_word bs

abbrev pub is_worded_row : Row → Bool
is_worded_row row = is_word row.name && list_all is_word row.attributes

abbrev pub is_worded_list : List Attribute → Bool
is_worded_list attributes = list_all (λ a. is_word a.name) attributes

abbrev pub is_worded : Tag → Bool
is_worded tag = is_word tag.name && is_worded_list tag.attributes

abbrev head : List ℕ → ℕ
head [] = 0
head (b ∷ bs) = b

abbrev tail : List ℕ → List ℕ
tail [] = []
tail (b ∷ bs) = bs

pub word_bytes : (word : List ℕ) → is_word word ≡ true → list_all is_word_byte word ≡ true
word_bytes [] h = refl
word_bytes (b ∷ bs) h = h

words_same : (a b x y : List ℕ) → list_all is_word_byte a ≡ true → list_all is_word_byte b ≡ true → starts_word x ≡ false → starts_word y ≡ false
    → a ++ x ≡ b ++ y → (a ≡ b) × (x ≡ y)
words_same [] [] x y ha hb hx hy e = (refl, e)
words_same [] (b ∷ bs) x y ha hb hx hy e =
    absurd (true≢false (sym (and_parts (is_word_byte b) (list_all is_word_byte bs) hb).0 ∙ ap starts_word (sym e) ∙ hx))
words_same (a ∷ others) [] x y ha hb hx hy e =
    absurd (true≢false (sym (and_parts (is_word_byte a) (list_all is_word_byte others) ha).0 ∙ ap starts_word e ∙ hy))
words_same (a ∷ others) (b ∷ bs) x y ha hb hx hy e =
    let more = words_same others bs x y (and_parts (is_word_byte a) (list_all is_word_byte others) ha).1
    (and_parts (is_word_byte b) (list_all is_word_byte bs) hb).1 hx hy (ap tail e) in
    let first : a ≡ b = ap head e in
    (ap (λ x. x ∷ others) first ∙ ap (λ x. b ∷ x) more.0, more.1)

abbrev get : Option QuotedText → QuotedText
get None = split [] []
get (Some q) = q

abbrev get_text : Option (List ℕ) → List ℕ
get_text None = []
get_text (Some text) = text

texts_same : (v w x y : List ℕ) → spell_text v (34 ∷ x) ≡ spell_text w (34 ∷ y) → (v ≡ w) × (x ≡ y)
texts_same v w x y e =
    let both : split (spell_text v []) x ≡ split (spell_text w []) y = ap get (sym (quoted_spelled v x) ∙ ap before_quote e ∙ quoted_spelled w y) in
    (ap get_text (sym (read_spelled v) ∙ ap (λ q. read_text q.inside) both ∙ read_spelled w), ap (λ q. q.rest) both)

attribute_starts : (name rest : List ℕ) → is_word name ≡ true → starts_attribute (attribute_start name ++ rest) ≡ true
attribute_starts [] rest h = absurd (false≢true h)
attribute_starts (b ∷ bs) rest h = (and_parts (is_word_byte b) (list_all is_word_byte bs) h).0

attributes_same : (one other : List Attribute) (x y : List ℕ) → is_worded_list one ≡ true → is_worded_list other ≡ true
    → starts_attribute x ≡ false → starts_attribute y ≡ false → spell_attributes one x ≡ spell_attributes other y → (one ≡ other) × (x ≡ y)
attributes_same [] [] x y ha hb hx hy e = (refl, e)
attributes_same [] (b ∷ bs) x y ha hb hx hy e =
    let word = (and_parts (is_word b.name) (is_worded_list bs) hb).0 in
    absurd (true≢false (sym (attribute_starts b.name (spell_text b.value (34 ∷ spell_attributes bs y)) word) ∙ ap starts_attribute (sym e) ∙ hx))
attributes_same (a ∷ others) [] x y ha hb hx hy e =
    let word = (and_parts (is_word a.name) (is_worded_list others) ha).0 in
    absurd (true≢false (sym (attribute_starts a.name (spell_text a.value (34 ∷ spell_attributes others x)) word) ∙ ap starts_attribute e ∙ hy))
attributes_same (a ∷ others) (b ∷ bs) x y ha hb hx hy e =
    let worded_a = and_parts (is_word a.name) (is_worded_list others) ha in
    let worded_b = and_parts (is_word b.name) (is_worded_list bs) hb in
    let text_a = spell_text a.value (34 ∷ spell_attributes others x) in
    let text_b = spell_text b.value (34 ∷ spell_attributes bs y) in
    let names =
    words_same a.name b.name (codes "=\"" ++ text_a) (codes "=\"" ++ text_b) (word_bytes a.name worded_a.0) (word_bytes b.name worded_b.0) refl refl
    (sym (append_assoc a.name (codes "=\"") text_a) ∙ ap tail e ∙ append_assoc b.name (codes "=\"") text_b) in
    let texts = texts_same a.value b.value (spell_attributes others x) (spell_attributes bs y) (ap (λ z. tail (tail z)) names.1) in
    let more = attributes_same others bs x y worded_a.1 worded_b.1 hx hy texts.1 in
    (ap (λ n. attribute n a.value ∷ others) names.0 ∙ ap (λ v. attribute b.name v ∷ others) texts.0 ∙ ap (λ z. b ∷ z) more.0, more.1)

no_word : (attributes : List Attribute) (x : List ℕ) → starts_word x ≡ false → starts_word (spell_attributes attributes x) ≡ false
no_word [] x h = h
no_word (a ∷ others) x h = refl

-- what may end a tag
abbrev pub is_ending : List ℕ → Bool
is_ending x = not (starts_word x) && not (starts_attribute x)

pub tags_same : (t u : Tag) (x y : List ℕ) → is_worded t ≡ true → is_worded u ≡ true
    → starts_word x ≡ false → starts_word y ≡ false → starts_attribute x ≡ false → starts_attribute y ≡ false
    → spell_tag t x ≡ spell_tag u y → (t ≡ u) × (x ≡ y)
tags_same t u x y ht hu wx wy ax ay e =
    let worded_t = and_parts (is_word t.name) (is_worded_list t.attributes) ht in
    let worded_u = and_parts (is_word u.name) (is_worded_list u.attributes) hu in
    let names =
    words_same t.name u.name (spell_attributes t.attributes x) (spell_attributes u.attributes y) (word_bytes t.name worded_t.0) (word_bytes u.name worded_u.0)
    (no_word t.attributes x wx) (no_word u.attributes y wy) e in
    let more = attributes_same t.attributes u.attributes x y worded_t.1 worded_u.1 ax ay names.1 in
    (ap (λ n. tag_of n t.attributes) names.0 ∙ ap (λ a. tag_of u.name a) more.0, more.1)

-- ---- tags of rows of words

named_worded : (names : List (List ℕ)) (attributes : List Attribute) → list_all is_word names ≡ true → are_named names attributes ≡ true
    → is_worded_list attributes ≡ true
named_worded [] [] h k = refl
named_worded [] (a ∷ others) h k = absurd (false≢true k)
named_worded (n ∷ ns) [] h k = absurd (false≢true k)
named_worded (n ∷ ns) (a ∷ others) h k =
    let words = and_parts (is_word n) (list_all is_word ns) h in
    let named = and_parts (bytes_eq n a.name) (are_named ns others) k in
    and_from (is_word a.name) (is_worded_list others) (subst (λ m. is_word m ≡ true) (same_bytes n a.name named.0) words.0)
    (named_worded ns others words.1 named.1)

pub row_worded : (row : Row) (tag : Tag) → is_worded_row row ≡ true → is_of_row tag row ≡ true → is_worded tag ≡ true
row_worded row tag h k =
    let words = and_parts (is_word row.name) (list_all is_word row.attributes) h in
    let parts = and_parts (bytes_eq row.name tag.name) (are_named row.attributes tag.attributes) k in
    and_from (is_word tag.name) (is_worded_list tag.attributes) (subst (λ m. is_word m ≡ true) (same_bytes row.name tag.name parts.0) words.0)
    (named_worded row.attributes tag.attributes words.1 parts.1)

pub listed_worded : (rows : List Row) (tag : Tag) → list_all is_worded_row rows ≡ true → list_any (is_of_row tag) rows ≡ true → is_worded tag ≡ true
listed_worded [] tag h k = absurd (false≢true k)
listed_worded (row ∷ rows) tag h k =
    let words = and_parts (is_worded_row row) (list_all is_worded_row rows) h in
    elim (cases_Bool (is_of_row tag row)) [
      | inl e ↦ row_worded row tag words.0 e
      | inr e ↦ listed_worded rows tag words.1 (ap (λ x. x || list_any (is_of_row tag) rows) (sym e) ∙ k)
    ]

abbrev is_found : Option Tag → Bool
is_found None = false
is_found (Some t) = true

-- the row that is found gives the tag, or a later one does
found : (rows : List Row) (row : Row) (tag : Tag) (ending : List ℕ) (o : Option Tag) → is_worded_row row ≡ true → is_worded tag ≡ true
    → starts_word ending ≡ false → starts_attribute ending ≡ false
    → IfSome o (IsReadRow row ending (spell_tag tag ending)) → (is_of_row tag row ≡ true → o ≡ Some tag)
    → (is_of_row tag row ≡ false → read_tag rows ending (spell_tag tag ending) ≡ Some tag)
    → option_or o (read_tag rows ending (spell_tag tag ending)) ≡ Some tag
found rows row tag ending None hr ht w a sound here later =
    elim (cases_Bool (is_of_row tag row)) [
      | inl e ↦ absurd (false≢true (ap is_found (here e)))
      | inr e ↦ later e
    ]
found rows row tag ending (Some other) hr ht w a sound here later =
    ap (λ t. Some t) (tags_same other tag ending ending (row_worded row other hr sound.listed) ht w w a a sound.spelling).0

pub tag_spelled : (rows : List Row) (tag : Tag) (ending : List ℕ) → list_all is_worded_row rows ≡ true → is_worded tag ≡ true
    → starts_word ending ≡ false → starts_attribute ending ≡ false → list_any (is_of_row tag) rows ≡ true → all_values tag.name tag.attributes ≡ true
    → read_tag rows ending (spell_tag tag ending) ≡ Some tag
tag_spelled [] tag ending h t w a k v = absurd (false≢true k)
tag_spelled (row ∷ rows) tag ending h t w a k v =
    let words = and_parts (is_worded_row row) (list_all is_worded_row rows) h in
    found rows row tag ending (read_row ending (spell_tag tag ending) row) words.0 t w a (row_sound row ending (spell_tag tag ending))
    (λ e. row_spelled row tag ending e v)
    (λ e. tag_spelled rows tag ending words.1 t w a (ap (λ x. x || list_any (is_of_row tag) rows) (sym e) ∙ k) v)
