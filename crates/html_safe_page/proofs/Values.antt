-- A value is tested as it is spelled.
use Rattle.std.proofs.Common.{◌≡◌, ℕ, ◌+◌, suc, List, [], ◌∷◌, ◌++◌, Bool, true, false, not, ◌&&◌, ◌||◌, cond, eqb, Option, None, Some, codes, drop, refl}
use Rattle.std.proofs.Common.{sym, ap, ap₂}
use Rattle.std.proofs.Common.{◌<◌, ◌∙◌, Bor, get_or, inl, inr, length, arith}
use Rattle.std.specs.Char.{to_ascii_lowercase}
use Rattle.std.specs.List.{list_any, list_all, prefix_len, take_while}
use Rattle.std.specs.Option.{IfSome, is_some, option_and_then, option_map}
use Rattle.std.specs.Str.{bytes_eq}
use Rattle.std.proofs.lemmas.Bool.{cases_Bool, cond_both, cond-true, cond-false, true≢false, false≢true, and_parts, ne_eqb}
use Rattle.std.proofs.lemmas.List.{drop_more}
use Rattle.std.proofs.lemmas.Slice.Eq.{bytes_eq-Decides}
use Rattle.std.proofs.lemmas.List.Sums.{take_while-cons}
use Rattle.definition_text.specs.Bytes.{lower, after_all}
use Rattle.definition_page.specs.Urls.{in_protocol, protocol, begins_with_colon, is_permitted, permits, href_protocols, src_protocols}
use Rattle.html_safe_page.specs.SafePage.{Kind, And, Quote, Less, Greater, Plain, kind, spell_kind, spell_letter, spell_text, Attribute, begins_with}
use Rattle.html_safe_page.specs.SafePage.{language, class_of, is_class, alignments, empty_names, is_value}
use Rattle.html_safe_page.specs.Reader.{strip, quoted_value, read_text, read_value, read_attributes, attribute}
use Rattle.html_safe_page.specs.Machine.{after_attribute}
use Rattle.html_safe_page.specs.Views.{names_of}
use Rattle.html_safe_page.proofs.Text.{by_kind, is_plain, plain_other, text_sound}
use Rattle.html_safe_page.proofs.Steps.{some_mapped}

-- ---- protocols

passes : (b : ℕ) (bs : List ℕ) → in_protocol b ≡ true → after_all in_protocol (b ∷ bs) ≡ after_all in_protocol bs
passes b bs h =
    let n = prefix_len in_protocol bs in
    let more : 1 + n ≡ suc n = omega arith in
    ap (λ t. drop (cond t (1 + n) 0) (b ∷ bs)) h ∙ ap (λ m. drop m (b ∷ bs)) more

fails : (b : ℕ) (bs : List ℕ) → in_protocol b ≡ false → after_all in_protocol (b ∷ bs) ≡ b ∷ bs
fails b bs h = ap (λ t. drop (cond t (1 + prefix_len in_protocol bs) 0) (b ∷ bs)) h

mapped_if : (t : Bool) (b : ℕ) (n : List ℕ) → cond t (Some (b ∷ n)) None ≡ option_map (λ m. b ∷ m) (cond t (Some n) None)
mapped_if true b n = refl
mapped_if false b n = refl

in_more : (b : ℕ) (bs : List ℕ) → in_protocol b ≡ true → protocol (b ∷ bs) ≡ option_map (λ n. b ∷ n) (protocol bs)
in_more b bs h =
    let name : take_while in_protocol (b ∷ bs) ≡ b ∷ take_while in_protocol bs =
    take_while-cons in_protocol b bs ∙ cond-true (in_protocol b) (b ∷ take_while in_protocol bs) [] h in
    ap (λ x. cond (begins_with_colon x) (Some (take_while in_protocol (b ∷ bs))) None) (passes b bs h)
    ∙ ap (λ n. cond (begins_with_colon (after_all in_protocol bs)) (Some n) None) name
    ∙ mapped_if (begins_with_colon (after_all in_protocol bs)) b (take_while in_protocol bs)

out : (b : ℕ) (bs : List ℕ) → in_protocol b ≡ false → protocol (b ∷ bs) ≡ cond (eqb b 58) (Some []) None
out b bs h =
    ap (λ x. cond (begins_with_colon x) (Some (take_while in_protocol (b ∷ bs))) None) (fails b bs h)
    ∙ ap (λ n. cond (eqb b 58) (Some n) None) (take_while-cons in_protocol b bs ∙ cond-false (in_protocol b) (b ∷ take_while in_protocol bs) [] h)

abbrev sp : List ℕ → List ℕ
sp text = spell_text text []

none_ahead : (o : Option (List ℕ)) → o ≡ option_map (λ n. [] ++ n) o
none_ahead None = refl
none_ahead (Some n) = refl

one_ahead : (b : ℕ) (m : List ℕ) (o : Option (List ℕ)) → option_map (λ n. b ∷ n) (option_map (λ n. m ++ n) o) ≡ option_map (λ n. (b ∷ m) ++ n) o
one_ahead b m None = refl
one_ahead b m (Some n) = refl

in_all : (m x : List ℕ) → list_all in_protocol m ≡ true → protocol (m ++ x) ≡ option_map (λ n. m ++ n) (protocol x)
in_all [] x h = none_ahead (protocol x)
in_all (b ∷ bs) x h =
    let parts = and_parts (in_protocol b) (list_all in_protocol bs) h in
    in_more b (bs ++ x) parts.0 ∙ ap (option_map (λ n. b ∷ n)) (in_all bs x parts.1) ∙ one_ahead b bs (protocol x)

letter_in : (b : ℕ) → in_protocol b ≡ true → list_all in_protocol (spell_letter b) ≡ true
letter_in b h =
    by_kind (λ b. in_protocol b ≡ true → list_all in_protocol (spell_letter b) ≡ true) (λ _. refl) (λ _. refl) (λ _. refl) (λ _. refl)
    (λ b k h. ap (λ kind. list_all in_protocol (spell_kind kind b)) k ∙ ap (λ x. x && true) h) b h

letter_ahead : (b : ℕ) (o : Option (List ℕ)) → option_map (λ n. spell_letter b ++ n) (option_map sp o) ≡ option_map sp (option_map (λ n. b ∷ n) o)
letter_ahead b None = refl
letter_ahead b (Some n) = refl

empty_spelled : (t : Bool) → cond t (Some []) None ≡ option_map sp (cond t (Some []) None)
empty_spelled true = refl
empty_spelled false = refl

protocol_spelled : (text : List ℕ) → protocol (sp text) ≡ option_map sp (protocol text)
protocol_spelled [] = refl
protocol_spelled (b ∷ bs) =
    elim (cases_Bool (in_protocol b)) [
      | inl h ↦
          in_all (spell_letter b) (sp bs) (letter_in b h)
          ∙ ap (option_map (λ n. spell_letter b ++ n)) (protocol_spelled bs)
          ∙ letter_ahead b (protocol bs)
          ∙ ap (option_map sp) (sym (in_more b bs h))
      | inr h ↦
          by_kind (λ b. in_protocol b ≡ false → protocol (spell_letter b ++ sp bs) ≡ option_map sp (protocol (b ∷ bs)))
          (λ e. absurd (true≢false e)) (λ e. absurd (true≢false e)) (λ e. absurd (true≢false e)) (λ e. absurd (true≢false e))
          (λ b k e. ap (λ kind. protocol (spell_kind kind b ++ sp bs)) k ∙ out b (sp bs) e ∙ empty_spelled (eqb b 58) ∙ ap (option_map sp) (sym (out b bs e)))
          b h
    ]

abbrev all_plain : List ℕ → Bool
all_plain name = list_all (λ b. is_plain (kind b)) name

plain_is : (k : Kind) → is_plain k ≡ true → k ≡ Plain
plain_is And h = absurd (false≢true h)
plain_is Quote h = absurd (false≢true h)
plain_is Less h = absurd (false≢true h)
plain_is Greater h = absurd (false≢true h)
plain_is Plain h = refl

name_same : (p n : List ℕ) → all_plain p ≡ true → bytes_eq p (lower (sp n)) ≡ bytes_eq p (lower n)
name_same [] [] h = refl
name_same [] (b ∷ bs) h =
    by_kind (λ b. bytes_eq [] (lower (spell_letter b ++ sp bs)) ≡ false) refl refl refl refl
    (λ b k. ap (λ kind. bytes_eq [] (lower (spell_kind kind b ++ sp bs))) k) b
name_same (c ∷ cs) [] h = refl
name_same (c ∷ cs) (b ∷ bs) h =
    let parts = and_parts (is_plain (kind c)) (all_plain cs) h in
    let no = λ (m : ℕ) (k : is_plain (kind m) ≡ false) (x : List ℕ). ap (λ t. t && bytes_eq cs (lower x)) (plain_other c m (plain_is (kind c) parts.0) k) in
    by_kind (λ b. bytes_eq (c ∷ cs) (lower (spell_letter b ++ sp bs)) ≡ bytes_eq (c ∷ cs) (lower (b ∷ bs)))
    (no 38 refl (codes "amp;" ++ sp bs) ∙ sym (no 38 refl bs))
    (no 38 refl (codes "quot;" ++ sp bs) ∙ sym (no 34 refl bs))
    (no 38 refl (codes "lt;" ++ sp bs) ∙ sym (no 60 refl bs))
    (no 38 refl (codes "gt;" ++ sp bs) ∙ sym (no 62 refl bs))
    (λ b k. ap (λ kind. bytes_eq (c ∷ cs) (lower (spell_kind kind b ++ sp bs))) k ∙ ap (λ x. eqb c (to_ascii_lowercase b) && x) (name_same cs bs parts.1))
    b

names_same : (protocols : List (List ℕ)) (n : List ℕ) → list_all all_plain protocols ≡ true
    → list_any (λ p. bytes_eq p (lower (sp n))) protocols ≡ list_any (λ p. bytes_eq p (lower n)) protocols
names_same [] n h = refl
names_same (p ∷ ps) n h =
    let parts = and_parts (all_plain p) (list_all all_plain ps) h in
    ap (λ x. x || list_any (λ p. bytes_eq p (lower (sp n))) ps) (name_same p n parts.0) ∙ ap (λ x. bytes_eq p (lower n) || x) (names_same ps n parts.1)

permitted_option : (protocols : List (List ℕ)) (o : Option (List ℕ)) → list_all all_plain protocols ≡ true
    → is_permitted protocols (option_map sp o) ≡ is_permitted protocols o
permitted_option protocols None h = refl
permitted_option protocols (Some n) h = names_same protocols n h

permitted_spelled : (protocols : List (List ℕ)) (text : List ℕ) → list_all all_plain protocols ≡ true → permits protocols (sp text) ≡ permits protocols text
permitted_spelled protocols text h = ap (is_permitted protocols) (protocol_spelled text) ∙ permitted_option protocols (protocol text) h

href_plain : list_all all_plain href_protocols ≡ true
unfolding href_protocols
href_plain = refl

src_plain : list_all all_plain src_protocols ≡ true
unfolding src_protocols
src_plain = refl

-- ---- fixed texts

text_same : (p text : List ℕ) → all_plain p ≡ true → bytes_eq p (sp text) ≡ bytes_eq p text
text_same [] [] h = refl
text_same [] (b ∷ bs) h =
    by_kind (λ b. bytes_eq [] (spell_letter b ++ sp bs) ≡ false) refl refl refl refl (λ b k. ap (λ kind. bytes_eq [] (spell_kind kind b ++ sp bs)) k) b
text_same (c ∷ cs) [] h = refl
text_same (c ∷ cs) (b ∷ bs) h =
    let parts = and_parts (is_plain (kind c)) (all_plain cs) h in
    let no = λ (m : ℕ) (k : is_plain (kind m) ≡ false) (x : List ℕ). ap (λ t. t && bytes_eq cs x) (plain_other c m (plain_is (kind c) parts.0) k) in
    by_kind (λ b. bytes_eq (c ∷ cs) (spell_letter b ++ sp bs) ≡ bytes_eq (c ∷ cs) (b ∷ bs))
    (no 38 refl (codes "amp;" ++ sp bs) ∙ sym (no 38 refl bs))
    (no 38 refl (codes "quot;" ++ sp bs) ∙ sym (no 34 refl bs))
    (no 38 refl (codes "lt;" ++ sp bs) ∙ sym (no 60 refl bs))
    (no 38 refl (codes "gt;" ++ sp bs) ∙ sym (no 62 refl bs))
    (λ b k. ap (λ kind. bytes_eq (c ∷ cs) (spell_kind kind b ++ sp bs)) k ∙ ap (λ x. eqb c b && x) (text_same cs bs parts.1))
    b

texts_same : (texts : List (List ℕ)) (text : List ℕ) → list_all all_plain texts ≡ true
    → list_any (λ p. bytes_eq p (sp text)) texts ≡ list_any (λ p. bytes_eq p text) texts
texts_same [] text h = refl
texts_same (p ∷ ps) text h =
    let parts = and_parts (all_plain p) (list_all all_plain ps) h in
    ap (λ x. x || list_any (λ p. bytes_eq p (sp text)) ps) (text_same p text parts.0) ∙ ap (λ x. bytes_eq p text || x) (texts_same ps text parts.1)

plain_before : (b n : ℕ) → kind b ≡ Plain → is_plain (kind n) ≡ false → eqb n b ≡ false
plain_before b n h k = ne_eqb n b (λ e. false≢true (sym k ∙ ap (λ x. is_plain (kind x)) e ∙ ap is_plain h))

start_same : (p text : List ℕ) → all_plain p ≡ true → begins_with p (sp text) ≡ begins_with p text
start_same [] text h = refl
start_same (c ∷ cs) [] h = refl
start_same (c ∷ cs) (b ∷ bs) h =
    let parts = and_parts (is_plain (kind c)) (all_plain cs) h in
    let no = λ (m : ℕ) (k : is_plain (kind m) ≡ false) (x : List ℕ). ap (λ t. cond t (begins_with cs x) false)
    (plain_before c m (plain_is (kind c) parts.0) k) in
    by_kind (λ b. begins_with (c ∷ cs) (spell_letter b ++ sp bs) ≡ begins_with (c ∷ cs) (b ∷ bs))
    (no 38 refl (codes "amp;" ++ sp bs) ∙ sym (no 38 refl bs))
    (no 38 refl (codes "quot;" ++ sp bs) ∙ sym (no 34 refl bs))
    (no 38 refl (codes "lt;" ++ sp bs) ∙ sym (no 60 refl bs))
    (no 38 refl (codes "gt;" ++ sp bs) ∙ sym (no 62 refl bs))
    (λ b k. ap (λ kind. begins_with (c ∷ cs) (spell_kind kind b ++ sp bs)) k ∙ ap (λ x. cond (eqb b c) x false) (start_same cs bs parts.1))
    b

pub stripped : (p text : List ℕ) → is_some (strip p text) ≡ begins_with p text
stripped [] text = refl
stripped (c ∷ cs) [] = refl
stripped (c ∷ cs) (b ∷ bs) =
    elim (cases_Bool (eqb b c)) [
      | inl e ↦
          ap (λ t. is_some (cond t (strip cs bs) None)) e ∙ stripped cs bs ∙ sym (ap (λ t. cond t (begins_with cs bs) false) e)
      | inr e ↦ ap (λ t. is_some (cond t (strip cs bs) None)) e ∙ sym (ap (λ t. cond t (begins_with cs bs) false) e)
    ]

class_plain : (tag : List ℕ) → all_plain (class_of tag) ≡ true
class_plain tag =
    cond_both (bytes_eq tag (codes "h2")) (codes "sr-only") _ (λ c. all_plain c ≡ true) (λ _. refl)
    (λ _. cond_both (bytes_eq tag (codes "section")) (codes "footnotes") (codes "data-footnote-backref") (λ c. all_plain c ≡ true) (λ _. refl) (λ _. refl))

class_same : (tag text : List ℕ) → is_class tag text ≡ is_class tag (sp text)
class_same tag text =
    let code = bytes_eq tag (codes "code") in
    ap (λ x. cond code x (bytes_eq (class_of tag) text)) (sym (start_same language text refl))
    ∙ ap (λ x. cond code (begins_with language (sp text)) x) (sym (text_same (class_of tag) text (class_plain tag)))

pub value_spelled : (tag name text : List ℕ) → is_value tag name text ≡ is_value tag name (sp text)
value_spelled tag name text =
    let choose = λ (word : List ℕ) (x y : Bool). cond (bytes_eq name word) x y in
    let is_empty_name = list_any (λ n. bytes_eq n name) empty_names in
    let after_loading = λ (t : List ℕ). cond is_empty_name (bytes_eq [] t) true in
    let after_align = λ (t : List ℕ). choose (codes "loading") (bytes_eq (codes "lazy") t) (after_loading t) in
    let after_type = λ (t : List ℕ). choose (codes "align") (list_any (λ a. bytes_eq a t) alignments) (after_align t) in
    let after_class = λ (t : List ℕ). choose (codes "type") (bytes_eq (codes "checkbox") t) (after_type t) in
    let after_src = λ (t : List ℕ). choose (codes "class") (is_class tag t) (after_class t) in
    let after_href = λ (t : List ℕ). choose (codes "src") (permits src_protocols t) (after_src t) in
    let same_after_loading : after_loading text ≡ after_loading (sp text) = ap (λ x. cond is_empty_name x true) (sym (text_same [] text refl)) in
    let same_after_align : after_align text ≡ after_align (sp text) = ap₂ (choose (codes "loading"))
    (sym (text_same (codes "lazy") text refl)) same_after_loading in
    let same_after_type : after_type text ≡ after_type (sp text) = ap₂ (choose (codes "align")) (sym (texts_same alignments text refl)) same_after_align in
    let same_after_class : after_class text ≡ after_class (sp text) = ap₂ (choose (codes "type"))
    (sym (text_same (codes "checkbox") text refl)) same_after_type in
    let same_after_src : after_src text ≡ after_src (sp text) = ap₂ (choose (codes "class")) (class_same tag text) same_after_class in
    let same_after_href : after_href text ≡ after_href (sp text) = ap₂ (choose (codes "src"))
    (sym (permitted_spelled src_protocols text src_plain)) same_after_src in
    ap₂ (choose (codes "href")) (sym (permitted_spelled href_protocols text href_plain)) same_after_href

-- an attribute of another name
no_word : (name word : List ℕ) → (name ≡ word → ⊥) → bytes_eq name word ≡ false
no_word name word other = elim (cases_Bool (bytes_eq name word)) [
  | inl e ↦ absurd (other ((bytes_eq-Decides name word).0 e))
  | inr e ↦ e
]

not_empty : (value : List ℕ) → eqb (length value) 0 ≡ false → bytes_eq [] value ≡ false
not_empty [] h = absurd (true≢false h)
not_empty (b ∷ bs) h = refl

turned : (t : Bool) → not t ≡ cond t false true
turned true = refl
turned false = refl

pub other_value : (tag name value : List ℕ) (is_empty is_listed : Bool) → (name ≡ codes "href" → ⊥) → (name ≡ codes "src" → ⊥)
    → (name ≡ codes "class" → ⊥) → (name ≡ codes "type" → ⊥) → (name ≡ codes "align" → ⊥) → (name ≡ codes "loading" → ⊥) → is_empty ≡ eqb (length value) 0
    → is_empty ≡ false
    → is_listed ≡ list_any (λ n. bytes_eq n name) empty_names → not is_listed ≡ is_value tag name value
other_value tag name value is_empty is_listed href src class type align loading size full listed =
    turned is_listed
    ∙ ap (λ x. cond is_listed x true) (sym (not_empty value (sym size ∙ full)))
    ∙ ap (λ t. cond t (bytes_eq [] value) true) listed
    ∙ sym (cond-false (bytes_eq name (codes "href")) (permits href_protocols value) _ (no_word name (codes "href") href)
    ∙ cond-false (bytes_eq name (codes "src")) (permits src_protocols value) _ (no_word name (codes "src") src)
    ∙ cond-false (bytes_eq name (codes "class")) (is_class tag value) _ (no_word name (codes "class") class)
    ∙ cond-false (bytes_eq name (codes "type")) (bytes_eq (codes "checkbox") value) _ (no_word name (codes "type") type)
    ∙ cond-false (bytes_eq name (codes "align")) (list_any (λ a. bytes_eq a value) alignments) _ (no_word name (codes "align") align)
    ∙ cond-false (bytes_eq name (codes "loading")) (bytes_eq (codes "lazy") value) _ (no_word name (codes "loading") loading))

-- ---- values

some_if : {A : Type 0} (t : Bool) (a : A) → is_some (cond t (Some a) None) ≡ t
some_if true a = refl
some_if false a = refl

value_read : (tag name bytes : List ℕ) (o : Option (List ℕ)) → IfSome o (λ v. spell_text v [] ≡ bytes)
    → is_some (option_and_then (λ v. cond (is_value tag name v) (Some v) None) o) ≡ (is_some o && is_value tag name bytes)
value_read tag name bytes None h = refl
value_read tag name bytes (Some v) h = some_if (is_value tag name v) v ∙ value_spelled tag name v ∙ ap (is_value tag name) h

pub value_more : (tag name bytes : List ℕ) → is_some (read_value tag name bytes) ≡ (is_some (read_text bytes) && is_value tag name bytes)
value_more tag name bytes = value_read tag name bytes (read_text bytes) (text_sound bytes)

-- ---- attributes

under : {A B C : Type 0} (o : Option A) (f : A → Option B) (g : A → Option C) (h : C → Option B)
    → ((a : A) → is_some (f a) ≡ is_some (option_and_then h (g a)))
    → is_some (option_and_then f o) ≡ is_some (option_and_then h (option_and_then g o))
under None f g h k = refl
under (Some a) f g h k = k a

last : (n rest : List ℕ) (o : Option (List ℕ)) (next : List ℕ → Option (List Attribute))
    → is_some (option_and_then (λ v. option_map (λ others. attribute n v ∷ others) (next rest)) o)
    ≡ is_some (option_and_then next (cond (is_some o) (Some rest) None))
last n rest None next = refl
last n rest (Some v) next = some_mapped (λ others. attribute n v ∷ others) (next rest)

pub attribute_more : (tag n : List ℕ) (ns : List (List ℕ)) (ending bytes : List ℕ)
    → is_some (read_attributes tag (n ∷ ns) ending bytes) ≡ is_some (option_and_then (read_attributes tag ns ending) (after_attribute tag n bytes))
attribute_more tag n ns ending bytes =
    under (quoted_value n bytes)
    (λ q. option_and_then (λ v. option_map (λ others. attribute n v ∷ others) (read_attributes tag ns ending q.rest)) (read_value tag n q.inside))
    (λ q. cond (is_some (read_value tag n q.inside)) (Some q.rest) None)
    (read_attributes tag ns ending)
    (λ q. last n q.rest (read_value tag n q.inside) (read_attributes tag ns ending))

-- the attributes of names from one place on
pub names_left : (tag : List ℕ) (names : List (Bor (List ℕ))) (i : ℕ) (d : Bor (List ℕ)) (ending rest : List ℕ) → i < length names
    → is_some (read_attributes tag (names_of (drop i names)) ending rest)
    ≡ is_some (option_and_then (read_attributes tag (names_of (drop (i + 1) names)) ending) (after_attribute tag (get_or names i d).now rest))
names_left tag names i d ending rest before =
    ap (λ ns. is_some (read_attributes tag (names_of ns) ending rest)) (drop_more names i d before)
    ∙ attribute_more tag (get_or names i d).now (names_of (drop (i + 1) names)) ending rest
