-- The names of tags and attributes of a listed page.
use Rattle.std.proofs.Common.{◌≡◌, ℕ, List, [], ◌∷◌, ◌++◌, true, false, not, eqb, codes, refl, sym, ap, ◌∙◌, append_assoc}
use Rattle.std.specs.List.{list_all}
use Rattle.std.proofs.lemmas.Bool.{false≢true, and_parts, and_from, ne_eqb}
use Rattle.std.proofs.lemmas.List.{append-nil}
use Rattle.html_safe_page.specs.SafePage.{Attribute, Tag, attribute_start, spell_text, spell_attributes, spell_tag}
use Rattle.html_safe_page.proofs.Text.{spell_text-append}
use Rattle.html_safe_page.proofs.Spelled.{is_word_byte, is_word, is_worded_list, is_worded, word_bytes}
use Rattle.html_listed_page.specs.Tags.{lacks}
use Rattle.html_listed_page.proofs.Cuts.{lacks_append, last, last_after}
use Rattle.html_listed_page.proofs.Texts.{greater_spared, text_lacks}

-- ---- bytes of words

pub word_lacks : (c : ℕ) → is_word_byte c ≡ false → (word : List ℕ) → list_all is_word_byte word ≡ true → lacks c word ≡ true
word_lacks c h [] k = refl
word_lacks c h (b ∷ bs) k =
    let parts = and_parts (is_word_byte b) (list_all is_word_byte bs) k in
    and_from (not (eqb b c)) (lacks c bs) (ap not (ne_eqb b c (λ e. false≢true (sym h ∙ ap is_word_byte (sym e) ∙ parts.0)))) (word_lacks c h bs parts.1)

pub name_lacks : (c : ℕ) → is_word_byte c ≡ false → (name : List ℕ) → is_word name ≡ true → lacks c name ≡ true
name_lacks c h name k = word_lacks c h name (word_bytes name k)

attributes_lack : (attributes : List Attribute) (x : List ℕ) → is_worded_list attributes ≡ true → lacks 62 x ≡ true
    → lacks 62 (spell_attributes attributes x) ≡ true
attributes_lack [] x h k = k
attributes_lack (a ∷ others) x h k =
    let parts = and_parts (is_word a.name) (is_worded_list others) h in
    lacks_append 62 (attribute_start a.name) (spell_text a.value (34 ∷ spell_attributes others x))
    (lacks_append 62 a.name (codes "=\"") (name_lacks 62 refl a.name parts.0) refl)
    (text_lacks 62 greater_spared a.value (34 ∷ spell_attributes others x) (attributes_lack others x parts.1 k))

-- a tag has no `>`
pub tag_lacks : (t : Tag) (x : List ℕ) → is_worded t ≡ true → lacks 62 x ≡ true → lacks 62 (spell_tag t x) ≡ true
tag_lacks t x h k =
    let parts = and_parts (is_word t.name) (is_worded_list t.attributes) h in
    lacks_append 62 t.name (spell_attributes t.attributes x) (name_lacks 62 refl t.name parts.0) (attributes_lack t.attributes x parts.1 k)

-- ---- the last byte of a start tag

last_of_word : (word : List ℕ) → list_all is_word_byte word ≡ true → eqb (last word) 47 ≡ false
last_of_word [] h = refl
last_of_word (b ∷ []) h = ne_eqb b 47 (λ e. false≢true (ap is_word_byte (sym e) ∙ (and_parts (is_word_byte b) true h).0))
last_of_word (b ∷ d ∷ bs) h = last_of_word (d ∷ bs) (and_parts (is_word_byte b) (list_all is_word_byte (d ∷ bs)) h).1

last_attribute : (a : Attribute) (x : List ℕ) → last (attribute_start a.name ++ spell_text a.value (34 ∷ x)) ≡ last (34 ∷ x)
last_attribute a x =
    ap (λ y. last (attribute_start a.name ++ y)) (sym (spell_text-append a.value (34 ∷ x)))
    ∙ ap last (sym (append_assoc (attribute_start a.name) (spell_text a.value []) (34 ∷ x)))
    ∙ last_after (attribute_start a.name ++ spell_text a.value []) 34 x

last_of_attributes : (a : Attribute) (others : List Attribute) → last (spell_attributes (a ∷ others) []) ≡ 34
last_of_attributes a [] = last_attribute a []
last_of_attributes a (b ∷ others) = last_attribute a (spell_attributes (b ∷ others) []) ∙ last_of_attributes b others

last_of_named : (name : List ℕ) (attributes : List Attribute) → is_word name ≡ true → eqb (last (name ++ spell_attributes attributes [])) 47 ≡ false
last_of_named name [] h = ap (λ x. eqb (last x) 47) (append-nil name) ∙ last_of_word name (word_bytes name h)
last_of_named name (a ∷ others) h =
    let rest = a.name ++ codes "=\"" in
    ap (λ b. eqb b 47)
    (last_after name 32 (rest ++ spell_text a.value (34 ∷ spell_attributes others [])) ∙ last_of_attributes a others)

-- a start tag doesn't end with `/`
pub last_of_tag : (t : Tag) → is_worded t ≡ true → eqb (last (spell_tag t [])) 47 ≡ false
last_of_tag t h = last_of_named t.name t.attributes (and_parts (is_word t.name) (is_worded_list t.attributes) h).0
