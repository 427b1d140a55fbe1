-- The parts that the bytes and tags of a page are.
use Rattle.std.proofs.Common.{◌≡◌, ℕ, zero, suc, ◌+◌, ◌-◌, Bool, true, false, not, ◌&&◌, cond, eqb, List, [], ◌∷◌, ◌++◌, codes, length}
use Rattle.std.proofs.Common.{take, drop, refl, sym, ap, ◌∙◌, subst, inl, inr, append_assoc, append-nil, arith}
use Rattle.std.specs.List.{list_all, prefix_len, take_while}
use Rattle.std.specs.Str.{bytes_eq}
use Rattle.std.proofs.lemmas.Bool.{cases_Bool, cond-true, cond-false, false≢true, true≢false, and_parts, and_from, and_left, not-true}
use Rattle.std.proofs.lemmas.Bool.{eqb-false}
use Rattle.std.proofs.lemmas.Bool.{ne_eqb}
use Rattle.std.proofs.lemmas.List.{length-append}
use Rattle.std.proofs.lemmas.List.Folds.{list_all-append}
use Rattle.definition_text.specs.Bytes.{is_letter_or_digit, begins_with, after_all}
use Rattle.definition_inline.specs.GfmAutolinkLiteral.{ends_with}
use Rattle.html_safe_page.specs.SafePage.{spell_kind, spell_letter, spell_text, Attribute, Tag, attribute_start, spell_attributes, spell_tag, void_end}
use Rattle.html_safe_page.proofs.Text.{by_kind, plain_other, spell_text-append}
use Rattle.html_safe_page.proofs.Spelled.{is_word_byte, is_word, word_bytes, starts_word, is_worded_list, is_worded, bytes_same, same_bytes}
use Rattle.html_safe_page.proofs.Sound.{tag_append}
use Rattle.definition_html.specs.PageParts.{Own, OwnVoid, OwnEnd, Byte, FoundPart, found_part, is_in_text, raw_run, raw_found}
use Rattle.definition_html.specs.PageParts.{own_part, own_found, is_in_tag, page_parts_after, page_parts}

-- ---- runs of bytes

-- what passes a test, before a byte that doesn't
run_size : (test : ℕ → Bool) (m : List ℕ) (b : ℕ) (bs : List ℕ) → list_all test m ≡ true → test b ≡ false → prefix_len test (m ++ b ∷ bs) ≡ length m
run_size test [] b bs h k = cond-false (test b) (1 + prefix_len test bs) 0 k
run_size test (c ∷ cs) b bs h k =
    let parts = and_parts (test c) (list_all test cs) h in
    let more = run_size test cs b bs parts.1 k in
    let n = prefix_len test (cs ++ b ∷ bs) in
    let one : 1 + n ≡ suc n = omega arith in
    cond-true (test c) (1 + n) 0 parts.0 ∙ one ∙ ap suc more

take_run : (m rest : List ℕ) → take (length m) (m ++ rest) ≡ m
take_run [] rest = refl
take_run (b ∷ bs) rest = ap (λ x. b ∷ x) (take_run bs rest)

drop_run : (m rest : List ℕ) → drop (length m) (m ++ rest) ≡ rest
drop_run [] rest = refl
drop_run (b ∷ bs) rest = drop_run bs rest

pub taken : (test : ℕ → Bool) (m : List ℕ) (b : ℕ) (bs : List ℕ) → list_all test m ≡ true → test b ≡ false → take_while test (m ++ b ∷ bs) ≡ m
taken test m b bs h k = ap (λ n. take n (m ++ b ∷ bs)) (run_size test m b bs h k) ∙ take_run m (b ∷ bs)

pub passed : (test : ℕ → Bool) (m : List ℕ) (b : ℕ) (bs : List ℕ) → list_all test m ≡ true → test b ≡ false → after_all test (m ++ b ∷ bs) ≡ b ∷ bs
passed test m b bs h k = ap (λ n. drop n (m ++ b ∷ bs)) (run_size test m b bs h k) ∙ drop_run m (b ∷ bs)

-- ---- parts

pub skipped : (m rest : List ℕ) → page_parts_after (length m) (m ++ rest) ≡ page_parts rest
skipped [] rest = refl
skipped (b ∷ bs) rest = skipped bs rest

pub other_first : (n b : ℕ) (x : Bool) → eqb b n ≡ false → (eqb n b && x) ≡ false
other_first n b x h = and_left (eqb n b) x (ne_eqb n b (λ e. eqb-false b n h (sym e)))

-- a byte that begins no tag
pub byte_part : (b : ℕ) (bs : List ℕ) → eqb b 60 ≡ false → page_parts (b ∷ bs) ≡ Byte b ∷ page_parts bs
byte_part b bs h =
    let run = raw_found (b ∷ bs) (raw_run (length bs) (b ∷ bs)) in
    let other = cond (eqb b 60) (own_found (take_while is_in_tag bs)) (found_part (Byte b) 1) in
    ap (λ (found : FoundPart). found.part ∷ page_parts_after (found.size - 1) bs)
    (cond-false (begins_with (codes "<>") (b ∷ bs)) run other (other_first 60 b _ h)
    ∙ cond-false (eqb b 60) (own_found (take_while is_in_tag bs)) (found_part (Byte b) 1) h)

-- a tag with something in it
pub tag_part : (inside after : List ℕ) → list_all is_in_tag inside ≡ true → (inside ≡ [] → ⊥)
    → page_parts (60 ∷ (inside ++ (62 ∷ after))) ≡ own_part inside ∷ page_parts after
tag_part [] after h k = absurd (k refl)
tag_part (c ∷ cs) after h k =
    let inside = c ∷ cs in
    let bs = inside ++ (62 ∷ after) in
    let ended = inside ++ (62 ∷ []) in
    let first = not-true (eqb c 62) (and_parts (is_in_tag c) (list_all is_in_tag cs) h).0 in
    let size : length inside + 2 - 1 ≡ length ended = omega (arith, length-append inside (62 ∷ [])) in
    ap (λ (found : FoundPart). found.part ∷ page_parts_after (found.size - 1) bs)
    (cond-false (begins_with (codes "<>") (60 ∷ bs)) (raw_found (60 ∷ bs) (raw_run (length bs) (60 ∷ bs))) (own_found (take_while is_in_tag bs))
    (other_first 62 c _ first)
    ∙ ap own_found (taken is_in_tag inside 62 after h refl))
    ∙ ap (λ n. own_part inside ∷ page_parts_after n bs) size
    ∙ ap (λ x. own_part inside ∷ page_parts_after (length ended) x) (sym (append_assoc inside (62 ∷ []) after))
    ∙ ap (λ ps. own_part inside ∷ ps) (skipped ended after)

-- ---- the bytes of tags

word_in_tag : (bytes : List ℕ) → list_all is_word_byte bytes ≡ true → list_all is_in_tag bytes ≡ true
word_in_tag [] h = refl
word_in_tag (b ∷ bs) h =
    let parts = and_parts (is_word_byte b) (list_all is_word_byte bs) h in
    and_from (is_in_tag b) (list_all is_in_tag bs) (ap not (ne_eqb b 62 (λ e. true≢false (sym parts.0 ∙ ap is_word_byte e)))) (word_in_tag bs parts.1)

pub name_in_tag : (name : List ℕ) → is_word name ≡ true → list_all is_in_tag name ≡ true
name_in_tag name h = word_in_tag name (word_bytes name h)

pub in_both : (test : ℕ → Bool) (a b : List ℕ) → list_all test a ≡ true → list_all test b ≡ true → list_all test (a ++ b) ≡ true
in_both test a b h k = list_all-append test a b ∙ and_from (list_all test a) (list_all test b) h k

-- a letter has neither `<` nor `>`
letter_in_tag : (b : ℕ) → list_all is_in_tag (spell_letter b) ≡ true
letter_in_tag b =
    by_kind (λ b. list_all is_in_tag (spell_letter b) ≡ true) refl refl refl refl
    (λ b k. ap (λ kind. list_all is_in_tag (spell_kind kind b)) k ∙ and_from (is_in_tag b) true (ap not (plain_other b 62 k refl)) refl) b

pub letter_in_text : (b : ℕ) → list_all is_in_text (spell_letter b) ≡ true
letter_in_text b =
    by_kind (λ b. list_all is_in_text (spell_letter b) ≡ true) refl refl refl refl
    (λ b k. ap (λ kind. list_all is_in_text (spell_kind kind b)) k ∙ and_from (is_in_text b) true (ap not (plain_other b 60 k refl)) refl) b

text_in_tag : (text after : List ℕ) → list_all is_in_tag after ≡ true → list_all is_in_tag (spell_text text after) ≡ true
text_in_tag [] after h = h
text_in_tag (b ∷ bs) after h = in_both is_in_tag (spell_letter b) (spell_text bs after) (letter_in_tag b) (text_in_tag bs after h)

attributes_in_tag : (attributes : List Attribute) (after : List ℕ) → is_worded_list attributes ≡ true → list_all is_in_tag after ≡ true
    → list_all is_in_tag (spell_attributes attributes after) ≡ true
attributes_in_tag [] after w h = h
attributes_in_tag (a ∷ others) after w h =
    let parts = and_parts (is_word a.name) (is_worded_list others) w in
    in_both is_in_tag (attribute_start a.name) (spell_text a.value (34 ∷ spell_attributes others after))
    (in_both is_in_tag a.name (codes "=\"") (name_in_tag a.name parts.0) refl)
    (text_in_tag a.value (34 ∷ spell_attributes others after) (attributes_in_tag others after parts.1 h))

pub tag_in_tag : (t : Tag) (after : List ℕ) → is_worded t ≡ true → list_all is_in_tag after ≡ true → list_all is_in_tag (spell_tag t after) ≡ true
tag_in_tag t after w h =
    let parts = and_parts (is_word t.name) (is_worded_list t.attributes) w in
    in_both is_in_tag t.name (spell_attributes t.attributes after) (name_in_tag t.name parts.0) (attributes_in_tag t.attributes after parts.1 h)

-- ---- kinds of tags

pub tag_starts : (t : Tag) (after : List ℕ) → is_worded t ≡ true → starts_word (spell_tag t after) ≡ true
tag_starts t after w = name_starts t.name (spell_attributes t.attributes after) (and_parts (is_word t.name) (is_worded_list t.attributes) w).0
  where
    name_starts : (name rest : List ℕ) → is_word name ≡ true → starts_word (name ++ rest) ≡ true
    name_starts [] rest h = absurd (false≢true h)
    name_starts (b ∷ bs) rest h = (and_parts (is_word_byte b) (list_all is_word_byte bs) h).0

pub not_nothing : (bytes : List ℕ) → starts_word bytes ≡ true → bytes ≡ [] → ⊥
not_nothing bytes h e = false≢true (sym (ap starts_word e) ∙ h)

no_slash : (inside : List ℕ) → starts_word inside ≡ true → begins_with (codes "/") inside ≡ false
no_slash [] h = absurd (false≢true h)
no_slash (b ∷ bs) h = other_first 47 b _ (ne_eqb b 47 (λ e. true≢false (sym h ∙ ap is_word_byte e)))

void_ends : (front : List ℕ) → ends_with (codes " /") (front ++ codes " /") ≡ true
void_ends front =
    let text = front ++ codes " /" in
    let size : length text - 2 ≡ length front = omega (arith, length-append front (codes " /")) in
    ap (λ n. bytes_eq (codes " /") (drop n text)) size ∙ ap (bytes_eq (codes " /")) (drop_run front (codes " /")) ∙ bytes_same (codes " /")

-- bytes don't end with a slash
abbrev ends_well : List ℕ → Bool
ends_well [] = true
ends_well (b ∷ []) = not (eqb b 47)
ends_well (b ∷ c ∷ cs) = ends_well (c ∷ cs)

well_dropped : (n : ℕ) (bytes : List ℕ) → ends_well bytes ≡ true → ends_well (drop n bytes) ≡ true
well_dropped zero bytes h = h
well_dropped (suc n) [] h = refl
well_dropped (suc n) (b ∷ []) h = well_dropped n [] refl
well_dropped (suc n) (b ∷ c ∷ cs) h = well_dropped n (c ∷ cs) h

well_after : (m : List ℕ) (b : ℕ) (bs : List ℕ) → ends_well (b ∷ bs) ≡ true → ends_well (m ++ b ∷ bs) ≡ true
well_after [] b bs h = h
well_after (c ∷ []) b bs h = h
well_after (c ∷ d ∷ ds) b bs h = well_after (d ∷ ds) b bs h

well_word : (bytes : List ℕ) → list_all is_word_byte bytes ≡ true → ends_well bytes ≡ true
well_word [] h = refl
well_word (b ∷ []) h = ap not (ne_eqb b 47 (λ e. true≢false (sym (and_parts (is_word_byte b) true h).0 ∙ ap is_word_byte e)))
well_word (b ∷ c ∷ cs) h = well_word (c ∷ cs) (and_parts (is_word_byte b) (list_all is_word_byte (c ∷ cs)) h).1

-- after the quote that ends a value
well_quoted : (attributes : List Attribute) → ends_well (34 ∷ spell_attributes attributes []) ≡ true
well_quoted [] = refl
well_quoted (a ∷ others) =
    let rest = 34 ∷ spell_attributes others [] in
    let front = 34 ∷ (attribute_start a.name ++ spell_text a.value []) in
    subst (λ x. ends_well x ≡ true)
    (ap (λ x. 34 ∷ x)
    (append_assoc (attribute_start a.name) (spell_text a.value []) rest ∙ ap (λ x. attribute_start a.name ++ x) (spell_text-append a.value rest)))
    (well_after front 34 (spell_attributes others []) (well_quoted others))

well_tag : (name : List ℕ) (attributes : List Attribute) → is_word name ≡ true → ends_well (name ++ spell_attributes attributes []) ≡ true
well_tag name [] w = subst (λ x. ends_well x ≡ true) (sym (append-nil name)) (well_word name (word_bytes name w))
well_tag name (a ∷ others) w = well_after name 32 _ (well_quoted (a ∷ others))

start_ends : (t : Tag) → is_worded t ≡ true → ends_with (codes " /") (spell_tag t []) ≡ false
start_ends t w =
    let text = spell_tag t [] in
    let n = length text - 2 in
    let well = well_dropped n text (well_tag t.name t.attributes (and_parts (is_word t.name) (is_worded_list t.attributes) w).0) in
    elim (cases_Bool (bytes_eq (codes " /") (drop n text))) [
      | inl e ↦ absurd (false≢true (ap ends_well (same_bytes (codes " /") (drop n text) e) ∙ well))
      | inr e ↦ e
    ]

-- a tag between its `<` and `>`
abbrev pub in_brackets : List ℕ → List ℕ
in_brackets inside = codes "<" ++ inside ++ codes ">"

abbrev pub name_ahead : List ℕ → List ℕ
name_ahead inside = take_while is_letter_or_digit inside

pub start_is_own : (t : Tag) → is_worded t ≡ true → own_part (spell_tag t []) ≡ Own (in_brackets (spell_tag t [])) (name_ahead (spell_tag t []))
start_is_own t w =
    let inside = spell_tag t [] in
    let bytes = in_brackets inside in
    let name = name_ahead inside in
    cond-false (begins_with (codes "/") inside) (OwnEnd bytes) (cond (ends_with (codes " /") inside) (OwnVoid bytes name) (Own bytes name))
    (no_slash inside (tag_starts t [] w))
    ∙ cond-false (ends_with (codes " /") inside) (OwnVoid bytes name) (Own bytes name) (start_ends t w)

pub void_is_own : (t : Tag) → is_worded t ≡ true
    → own_part (spell_tag t void_end) ≡ OwnVoid (in_brackets (spell_tag t void_end)) (name_ahead (spell_tag t void_end))
void_is_own t w =
    let inside = spell_tag t void_end in
    let bytes = in_brackets inside in
    let name = name_ahead inside in
    cond-false (begins_with (codes "/") inside) (OwnEnd bytes) (cond (ends_with (codes " /") inside) (OwnVoid bytes name) (Own bytes name))
    (no_slash inside (tag_starts t void_end w))
    ∙ cond-true (ends_with (codes " /") inside) (OwnVoid bytes name) (Own bytes name)
    (ap (ends_with (codes " /")) (tag_append t [] void_end) ∙ void_ends (spell_tag t []))
