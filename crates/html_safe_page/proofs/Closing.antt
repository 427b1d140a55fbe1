-- What safe pages are made of.
use Rattle.std.proofs.Common.{◌≡◌, ℕ, List, [], ◌∷◌, ◌++◌, true, ◌&&◌, eqb, codes, refl, sym, ap, ◌∙◌, subst, inl, inr, append_assoc}
use Rattle.std.proofs.lemmas.Bool.{cases_Bool, cond-false, and_parts, and_from, eqb-true}
use Rattle.definition_text.specs.Encode.{encode, encoded_byte, plain, plain_byte, replacement_character}
use Rattle.html_safe_page.specs.Table.{start_rows_of, void_rows_of}
use Rattle.html_safe_page.specs.SafePage.{Plain, kind, spell_kind, spell_letter, spell_text, Tag, spell_tag, Items, End, Letter, Void, Element, void_end}
use Rattle.html_safe_page.specs.SafePage.{spell_before, spell, join, is_tag_of, is_safe_by, IsSafePageBy}
use Rattle.html_safe_page.specs.Closed.{element, void, Closure}
use Rattle.html_safe_page.proofs.Text.{by_kind, plain_other}
use Rattle.html_safe_page.proofs.Inserted.{spelled_append, put_in}
use Rattle.html_safe_page.specs.declared.table.TagTable.{TagTable}

spell_join : (a b : Items) (after : List ℕ) → spell_before (join a b) after ≡ spell_before a (spell_before b after)
spell_join End b after = refl
spell_join (Letter c items) b after = ap (λ x. spell_letter c ++ x) (spell_join items b after)
spell_join (Void tag items) b after = ap (λ x. 60 ∷ spell_tag tag (void_end ++ (62 ∷ x))) (spell_join items b after)
spell_join (Element tag inside items) b after =
    ap (λ x. 60 ∷ spell_tag tag (62 ∷ spell_before inside (60 ∷ 47 ∷ (tag.name ++ (62 ∷ x))))) (spell_join items b after)

letters : List ℕ → Items
letters [] = End
letters (b ∷ bs) = Letter b (letters bs)

letters_spelled : (text : List ℕ) → spell (letters text) ≡ spell_text text []
unfolding letters
letters_spelled [] = refl
letters_spelled (b ∷ bs) = ap (λ x. spell_letter b ++ x) (letters_spelled bs)

pub texts_append : (a b : List ℕ) → spell_text (a ++ b) [] ≡ spell_text a [] ++ spell_text b []
texts_append [] b = refl
texts_append (c ∷ cs) b = ap (λ x. spell_letter c ++ x) (texts_append cs b) ∙ sym (append_assoc (spell_letter c) (spell_text cs []) (spell_text b []))

encoded_plain : (b : ℕ) → kind b ≡ Plain → encoded_byte b ≡ spell_text (plain_byte b) []
encoded_plain b k =
    elim (cases_Bool (eqb b 0)) [
      | inl e ↦ subst (λ n. encoded_byte n ≡ spell_text (plain_byte n) []) (sym (eqb-true b 0 e)) refl
      | inr e ↦
          cond-false (eqb b 0) replacement_character _ e
          ∙ cond-false (eqb b 34) (codes "&quot;") _ (plain_other b 34 k refl)
          ∙ cond-false (eqb b 38) (codes "&amp;") _ (plain_other b 38 k refl)
          ∙ cond-false (eqb b 60) (codes "&lt;") _ (plain_other b 60 k refl)
          ∙ cond-false (eqb b 62) (codes "&gt;") (b ∷ []) (plain_other b 62 k refl)
          ∙ ap (λ kind. spell_kind kind b ++ []) (sym k)
          ∙ ap (λ x. spell_text x []) (sym (cond-false (eqb b 0) replacement_character (b ∷ []) e))
    ]

encoded_spelled : (b : ℕ) → encoded_byte b ≡ spell_text (plain_byte b) []
encoded_spelled b = by_kind (λ b. encoded_byte b ≡ spell_text (plain_byte b) []) refl refl refl refl encoded_plain b

pub encode_spelled : (text : List ℕ) → encode text ≡ spell_text (plain text) []
encode_spelled [] = refl
encode_spelled (b ∷ bs) =
    ap (λ x. x ++ encode bs) (encoded_spelled b)
    ∙ ap (λ x. spell_text (plain_byte b) [] ++ x) (encode_spelled bs)
    ∙ sym (texts_append (plain_byte b) (plain bs))

module _ (table : TagTable) where
  join_safe : (a b : Items) → is_safe_by table a ≡ true → is_safe_by table b ≡ true → is_safe_by table (join a b) ≡ true
  join_safe End b h k = k
  join_safe (Letter c items) b h k = join_safe items b h k
  join_safe (Void tag items) b h k =
      let parts = and_parts (is_tag_of (void_rows_of table) tag) (is_safe_by table items) h in
      and_from (is_tag_of (void_rows_of table) tag) (is_safe_by table (join items b)) parts.0 (join_safe items b parts.1 k)
  join_safe (Element tag inside items) b h k =
      let parts = and_parts (is_tag_of (start_rows_of table) tag) (is_safe_by table inside && is_safe_by table items) h in
      let both = and_parts (is_safe_by table inside) (is_safe_by table items) parts.1 in
      and_from (is_tag_of (start_rows_of table) tag) (is_safe_by table inside && is_safe_by table (join items b)) parts.0
      (and_from (is_safe_by table inside) (is_safe_by table (join items b)) both.0 (join_safe items b both.1 k))

  letters_safe : (text : List ℕ) → is_safe_by table (letters text) ≡ true
  unfolding letters
  letters_safe [] = refl
  letters_safe (b ∷ bs) = letters_safe bs

  pub safe_text : (text : List ℕ) → IsSafePageBy table (spell_text text [])
  safe_text text = (letters text, (letters_safe text, letters_spelled text))

  safe_element : (tag : Tag) (inside : List ℕ) → is_tag_of (start_rows_of table) tag ≡ true → IsSafePageBy table inside
      → IsSafePageBy table (element tag inside)
  safe_element tag inside h page =
      let end = 60 ∷ 47 ∷ (tag.name ++ codes ">") in (
        Element tag page.0 End,
        (
          and_from (is_tag_of (start_rows_of table) tag) (is_safe_by table page.0 && true) h (and_from (is_safe_by table page.0) true page.1.0 refl),
          ap (λ x. 60 ∷ spell_tag tag (62 ∷ x)) (spelled_append page.0 [] end ∙ ap (λ x. x ++ end) page.1.1),
        ),
      )

  safe_void : (tag : Tag) → is_tag_of (void_rows_of table) tag ≡ true → IsSafePageBy table (void tag)
  safe_void tag h = (Void tag End, (and_from (is_tag_of (void_rows_of table) tag) true h refl, refl))

  safe_append : (one other : List ℕ) → IsSafePageBy table one → IsSafePageBy table other → IsSafePageBy table (one ++ other)
  safe_append one other a b = (
    join a.0 b.0,
    (
      join_safe a.0 b.0 a.1.0 b.1.0,
      spell_join a.0 b.0 [] ∙ spelled_append a.0 [] (spell b.0) ∙ ap (λ x. x ++ spell b.0) a.1.1 ∙ ap (λ x. one ++ x) b.1.1,
    ),
  )

  pub closed : Closure table
  closed = record {
    nothing = safe_text [];
    line_feed = safe_text (10 ∷ []);
    carriage_return = safe_text (13 ∷ []);
    both = safe_text (13 ∷ 10 ∷ []);
    text = λ text. subst (IsSafePageBy table) (sym (encode_spelled text)) (safe_text (plain text));
    void_tag = safe_void;
    tags_around = safe_element;
    in_a_row = safe_append;
    put_in = put_in table;
  }
