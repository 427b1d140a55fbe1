-- Attributes are taken off a tag one by one, along the names of the list.
use Rattle.std.proofs.Common.{◌≡◌, ◌↔◌, ℕ, zero, suc, ◌+◌, ◌<◌, List, [], ◌∷◌, ◌++◌, Bool, true, ◌&&◌}
use Rattle.std.proofs.Common.{cond, eqb, Bor, codes, length, get_or, drop}
use Rattle.std.proofs.Common.{refl, sym, ap, ◌∙◌, subst, inl, inr, append_assoc, arith}
use Rattle.std.specs.List.{list_all}
use Rattle.std.specs.Str.{bytes_eq}
use Rattle.std.proofs.lemmas.Bool.{cond_both, false≢true, and_parts, and_from, or_cases, or_left, or_right, eqb-true}
use Rattle.std.proofs.lemmas.List.{append-nil, drop_more}
use Rattle.std.proofs.lemmas.List.Folds.{list_all-append}
use Rattle.definition_html.specs.Listing.{listed_attributes}
use Rattle.definition_page.specs.Urls.{permits, href_protocols, src_protocols}
use Rattle.html_safe_page.specs.SafePage.{spell_text, Attribute, attribute_start, spell_attributes}
use Rattle.html_safe_page.specs.Reader.{attribute}
use Rattle.html_safe_page.specs.Views.{names_of}
use Rattle.html_safe_page.proofs.Text.{spell_text-append}
use Rattle.html_safe_page.proofs.Spelled.{same_bytes, bytes_same}
use Rattle.html_safe_page.proofs.Values.{value_spelled}
use Rattle.html_listed.specs.ListedPage.{url_names, attribute_names, are_some_of, is_listed_value}
use Rattle.html_listed_page.specs.Tags.{lacks, IsText, are_names, HasAttributes}
use Rattle.html_listed_page.proofs.Outcomes.{both_ways}
use Rattle.html_listed_page.proofs.Cuts.{tail, one_cut}
use Rattle.html_listed_page.proofs.Texts.{quote_spared, text_lacks}

-- ---- values

-- a value is of the list as its spelling is
pub value_same : (name text : List ℕ) → is_listed_value name text ≡ is_listed_value name (spell_text text [])
value_same name text =
    let spelled = spell_text text [] in
    let href : permits href_protocols text ≡ permits href_protocols spelled = value_spelled [] (codes "href") text in
    let src : permits src_protocols text ≡ permits src_protocols spelled = value_spelled [] (codes "src") text in
    ap (λ x. cond (bytes_eq name (codes "href")) x (cond (bytes_eq name (codes "src")) (permits src_protocols text) true)) href
    ∙ ap (λ x. cond (bytes_eq name (codes "href")) (permits href_protocols spelled) (cond (bytes_eq name (codes "src")) x true)) src

-- ---- one attribute

start_cut : (a n x y : List ℕ) → lacks 61 a ≡ true → lacks 61 n ≡ true → attribute_start a ++ x ≡ attribute_start n ++ y → (a ≡ n) × (x ≡ y)
start_cut a n x y la ln e =
    let same = one_cut 61 a n (61 ∷ 34 ∷ x) (61 ∷ 34 ∷ y) la ln refl refl
    (sym (append_assoc a (codes "=\"") x) ∙ ap tail e ∙ append_assoc n (codes "=\"") y) in
    (same.0, ap (λ z. tail (tail z)) same.1)

value_cut : (text value x y : List ℕ) → lacks 34 value ≡ true → spell_text text (34 ∷ x) ≡ value ++ (34 ∷ y) → (spell_text text [] ≡ value) × (x ≡ y)
value_cut text value x y l e =
    let same = one_cut 34 (spell_text text []) value (34 ∷ x) (34 ∷ y) (text_lacks 34 quote_spared text [] refl) l refl refl
    (spell_text-append text (34 ∷ x) ∙ e) in
    (same.0, ap tail same.1)

-- ---- some of names

no_attributes : (names : List (List ℕ)) → are_some_of names [] ≡ true
no_attributes [] = refl
no_attributes (n ∷ ns) = refl

one_more : (n : List ℕ) (names : List (List ℕ)) (attributes : List Attribute) → are_some_of names attributes ≡ true → are_some_of (n ∷ names) attributes ≡ true
one_more n names [] h = refl
one_more n names (a ∷ others) h = or_right (bytes_eq n a.name && are_some_of names others) (are_some_of names (a ∷ others)) h

one_less : (names : List (List ℕ)) (a : Attribute) (others : List Attribute) → are_some_of names (a ∷ others) ≡ true → are_some_of names others ≡ true
one_less [] a others h = absurd (false≢true h)
one_less (n ∷ ns) a others h =
    elim (or_cases (bytes_eq n a.name && are_some_of ns others) (are_some_of ns (a ∷ others)) h) [
      | inl e ↦ one_more n ns others (and_parts (bytes_eq n a.name) (are_some_of ns others) e).1
      | inr e ↦ one_more n ns others (one_less ns a others e)
    ]

first_lacks : (names : List (List ℕ)) (a : Attribute) (others : List Attribute) → are_names names ≡ true → are_some_of names (a ∷ others) ≡ true
    → lacks 61 a.name ≡ true
first_lacks [] a others h k = absurd (false≢true k)
first_lacks (n ∷ ns) a others h k =
    let parts = and_parts (lacks 61 n) (are_names ns) h in
    elim (or_cases (bytes_eq n a.name && are_some_of ns others) (are_some_of ns (a ∷ others)) k) [
      | inl e ↦ subst (λ m. lacks 61 m ≡ true) (same_bytes n a.name (and_parts (bytes_eq n a.name) (are_some_of ns others) e).0) parts.0
      | inr e ↦ first_lacks ns a others parts.1 e
    ]

-- attributes of the first name, or of later ones
first_or_later : {A : Type 0} (n : List ℕ) (names : List (List ℕ)) (a : Attribute) (others : List Attribute) → are_some_of (n ∷ names) (a ∷ others) ≡ true
    → (n ≡ a.name → are_some_of names others ≡ true → A) → (are_some_of names (a ∷ others) ≡ true → A) → A
first_or_later n names a others h f g =
    elim (or_cases (bytes_eq n a.name && are_some_of names others) (are_some_of names (a ∷ others)) h) [
      | inl e ↦ let parts = and_parts (bytes_eq n a.name) (are_some_of names others) e in f (same_bytes n a.name parts.0) parts.1
      | inr e ↦ g e
    ]

abbrev are_values : List Attribute → Bool
are_values attributes = list_all (λ a. is_listed_value a.name a.value) attributes

-- ---- an attribute that is taken off

found_in : (n text value after : List ℕ) (more : List (List ℕ)) → are_names (n ∷ more) ≡ true → lacks 34 value ≡ true
    → attribute_start n ++ (value ++ (34 ∷ after)) ≡ text → (attributes : List Attribute) → are_some_of (n ∷ more) attributes ≡ true
    → are_values attributes ≡ true → spell_attributes attributes [] ≡ text → HasAttributes more after
found_in n text value after more words l e [] h v k = let bad : [] ≡ attribute_start n ++ (value ++ (34 ∷ after)) = k ∙ sym e in cc
found_in n text value after more words l e (a ∷ others) h v k =
    let same = start_cut a.name n (spell_text a.value (34 ∷ spell_attributes others [])) (value ++ (34 ∷ after))
    (first_lacks (n ∷ more) a others words h) (and_parts (lacks 61 n) (are_names more) words).0 (k ∙ sym e) in
    record {
      attributes = others;
      named = first_or_later n more a others h (λ _ m. m) (λ m. one_less more a others m);
      values = (and_parts (is_listed_value a.name a.value) (are_values others) v).1;
      spelling = (value_cut a.value value (spell_attributes others []) after l same.1).1;
    }

pub taken : (n text value after : List ℕ) → lacks 34 value ≡ true → attribute_start n ++ (value ++ (34 ∷ after)) ≡ text → is_listed_value n value ≡ true
    → IsText value → (more : List (List ℕ)) → are_names (n ∷ more) ≡ true → HasAttributes (n ∷ more) text ↔ HasAttributes more after
taken n text value after l e v t more words = (
  λ h. found_in n text value after more words l e h.attributes h.named h.values h.spelling,
  λ r. record {
    attributes = attribute n t.0 ∷ r.attributes;
    named = or_left (bytes_eq n n && are_some_of more r.attributes) (are_some_of more (attribute n t.0 ∷ r.attributes))
        (and_from (bytes_eq n n) (are_some_of more r.attributes) (bytes_same n) r.named);
    values = and_from (is_listed_value n t.0) (are_values r.attributes) (value_same n t.0 ∙ ap (is_listed_value n) t.1 ∙ v) r.values;
    spelling =
        ap (λ z. attribute_start n ++ spell_text t.0 (34 ∷ z)) r.spelling
        ∙ ap (λ z. attribute_start n ++ z) (sym (spell_text-append t.0 (34 ∷ after)))
        ∙ ap (λ z. attribute_start n ++ (z ++ (34 ∷ after))) t.1
        ∙ e;
  },
)

-- ---- a name that is passed

passed_in : (n text : List ℕ) → ((v after : List ℕ) → attribute_start n ++ spell_text v (34 ∷ after) ≡ text → is_listed_value n v ≡ true → ⊥)
    → (more : List (List ℕ)) (attributes : List Attribute) → are_some_of (n ∷ more) attributes ≡ true → are_values attributes ≡ true
    → spell_attributes attributes [] ≡ text → are_some_of more attributes ≡ true
passed_in n text none more [] h v k = no_attributes more
passed_in n text none more (a ∷ others) h v k =
    first_or_later n more a others h
    (λ e m. absurd (none a.value (spell_attributes others []) (ap (λ z. attribute_start z ++ spell_text a.value (34 ∷ spell_attributes others [])) e ∙ k)
    (ap (λ z. is_listed_value z a.value) e ∙ (and_parts (is_listed_value a.name a.value) (are_values others) v).0)))
    (λ m. m)

pub passed : (n text : List ℕ) → ((v after : List ℕ) → attribute_start n ++ spell_text v (34 ∷ after) ≡ text → is_listed_value n v ≡ true → ⊥)
    → (more : List (List ℕ)) → HasAttributes (n ∷ more) text ↔ HasAttributes more text
passed n text none more = (
  λ h. record {
    attributes = h.attributes;
    named = passed_in n text none more h.attributes h.named h.values h.spelling;
    values = h.values;
    spelling = h.spelling;
  },
  λ h. record { attributes = h.attributes; named = one_more n more h.attributes h.named; values = h.values; spelling = h.spelling },
)

-- no attribute of the name stands there
pub absent : (n text : List ℕ) → ((value after : List ℕ) → attribute_start n ++ (value ++ (34 ∷ after)) ≡ text → ⊥)
    → (more : List (List ℕ)) → HasAttributes (n ∷ more) text ↔ HasAttributes more text
absent n text none more =
    passed n text (λ v after e _. none (spell_text v []) after (ap (λ z. attribute_start n ++ z) (spell_text-append v (34 ∷ after)) ∙ e)) more

-- or its value isn't of the list
pub refused : (n text value after : List ℕ) → lacks 34 value ≡ true → attribute_start n ++ (value ++ (34 ∷ after)) ≡ text
    → (is_listed_value n value ≡ true → IsText value → ⊥)
    → (more : List (List ℕ)) → are_names (n ∷ more) ≡ true → HasAttributes (n ∷ more) text ↔ HasAttributes more text
refused n text value after l e none more words =
    let word = (and_parts (lacks 61 n) (are_names more) words).0 in
    passed n text
    (λ v other k h.
    let same = value_cut v value other after l (start_cut n n (spell_text v (34 ∷ other)) (value ++ (34 ∷ after)) word word (k ∙ sym e)).1 in
    none (ap (is_listed_value n) (sym same.0) ∙ sym (value_same n v) ∙ h) (v, same.0))
    more

-- ---- all names

pub names_left : (names : List (Bor (List ℕ))) (i : ℕ) (more : List (List ℕ)) → are_names (names_of names ++ more) ≡ true
    → are_names (names_of (drop i names) ++ more) ≡ true
names_left names zero more h = h
names_left [] (suc i) more h = h
names_left (n ∷ ns) (suc i) more h = names_left ns i more (and_parts (lacks 61 n.now) (are_names (names_of ns ++ more)) h).1

pub next_name : (names : List (Bor (List ℕ))) (i : ℕ) (d : Bor (List ℕ)) (more : List (List ℕ)) → i < length names
    → names_of (drop i names) ++ more ≡ (get_or names i d).now ∷ (names_of (drop (i + 1) names) ++ more)
next_name names i d more l = ap (λ ns. names_of ns ++ more) (drop_more names i d l)

nothing_in : (bytes : List ℕ) (attributes : List Attribute) → are_some_of [] attributes ≡ true → spell_attributes attributes [] ≡ bytes → bytes ≡ []
nothing_in bytes [] h e = sym e
nothing_in bytes (a ∷ others) h e = absurd (false≢true h)

pub nothing_left : (bytes : List ℕ) → HasAttributes [] bytes ↔ (bytes ≡ [])
nothing_left bytes = (
  λ h. nothing_in bytes h.attributes h.named h.spelling,
  λ e. record { attributes = []; named = refl; values = refl; spelling = sym e },
)

empty_is : (bytes : List ℕ) (t : Bool) → t ≡ eqb (length bytes) 0 → (t ≡ true) ↔ (bytes ≡ [])
empty_is [] t h = ((λ _. refl), λ _. h)
empty_is (b ∷ bs) t h = (
  (λ e. let none : length (b ∷ bs) ≡ 0 = eqb-true (length (b ∷ bs)) 0 (sym h ∙ e) in absurd (omega (arith, none))),
  λ e. cc,
)

url_fit : (name : List ℕ) → are_names (url_names name) ≡ true
url_fit name =
    cond_both (bytes_eq name (codes "a")) (codes "href" ∷ []) _ (λ names. are_names names ≡ true) (λ _. refl)
    (λ _. cond_both (bytes_eq name (codes "img")) (codes "src" ∷ []) [] (λ names. are_names names ≡ true) (λ _. refl) (λ _. refl))

listed_fit : are_names listed_attributes ≡ true
unfolding listed_attributes
listed_fit = refl

pub all_fit : (name : List ℕ) → are_names (url_names name ++ listed_attributes) ≡ true
all_fit name =
    list_all-append (lacks 61) (url_names name) listed_attributes
    ∙ and_from (are_names (url_names name)) (are_names listed_attributes) (url_fit name) listed_fit

pub others_fit : are_names (listed_attributes ++ []) ≡ true
others_fit = ap are_names (append-nil listed_attributes) ∙ listed_fit

-- all attributes of a tag are taken off
pub all_taken : (name text rest end : List ℕ) (t : Bool) → HasAttributes (attribute_names name) text ↔ HasAttributes listed_attributes rest
    → HasAttributes (listed_attributes ++ []) rest ↔ HasAttributes [] end → t ≡ eqb (length end) 0 → (t ≡ true) ↔ HasAttributes (attribute_names name) text
all_taken name text rest end t p q h =
    let empty : (end ≡ []) ↔ (t ≡ true) = ((empty_is end t h).1, (empty_is end t h).0) in
    let ends = both_ways (nothing_left end) empty in (
      λ e. p.1 (subst (λ ns. HasAttributes ns rest) (append-nil listed_attributes) (q.1 (ends.1 e))),
      λ a. ends.0 (q.0 (subst (λ ns. HasAttributes ns rest) (sym (append-nil listed_attributes)) (p.0 a))),
    )
