-- Raw HTML in codes and in bytes.
use Rattle.std.proofs.Common.{◌≡◌, ℕ, zero, suc, ◌+◌, ◌-◌, ◌<◌, ◌≤◌, List, [], ◌∷◌, Bool, true, false, not, cond, ◌&&◌, ◌||◌, eqb, Option, None, Some, refl}
use Rattle.std.proofs.Common.{sym, ap, ◌∙◌, get_or, length, drop, take, map, arith, inl, inr}
use Rattle.inline_constructs.proofs.Prelude.{after_text, and_from, and_left, and_right, at_return, begins_with, begins_with_letter, begun, cases_Bool, cdata}
use Rattle.inline_constructs.proofs.Prelude.{codes, comment_rest, cond-false, cond-true, Constructs, content_codes, drop-drop, end_after, eqb-false, eqb-true}
use Rattle.inline_constructs.proofs.Prelude.{false≢true, get_or-drop, Html, html_after, html_text_at, is_end, is_eol, IsClosed, IsEnd, leaf, length-append}
use Rattle.inline_constructs.proofs.Prelude.{length-drop, list_all, ne_eqb, next, option_map, option_or, or_from, plain_code, size_before, tag_after, take_at}
use Rattle.inline_constructs.proofs.Prelude.{true≢false}
use Rattle.std.proofs.lemmas.Bool.{and_parts}
use Rattle.std.proofs.lemmas.Bool.{not-true}
use Rattle.std.proofs.lemmas.List.{drop_more, length-map, get_or_append_left}
use Rattle.definition_text.specs.Columns.{code_byte}
use Rattle.definition_text.specs.Bytes.{is_letter}
use Rattle.definition_inline.specs.HtmlTags.{is_tag_space, is_tag_name_byte, begins_attribute, is_attribute_byte, is_unquoted, open_tag, closing_tag, open_rest}
use Rattle.definition_inline.specs.HtmlTags.{closing_rest}
use Rattle.definition_inline.specs.HtmlText.{html_byte, comment, instruction, declaration, marked_html, html_end, html_leaf}
use Rattle.inline_tags.specs.Places.{Place, NameStart, Name, Space, Attribute, AttributeSpace, Equals, Unquoted, DoubleQuoted, SingleQuoted, Quoted, Slash}
use Rattle.inline_tags.specs.Places.{ClosingStart, ClosingName, ClosingSpace, End, Nowhere, at_end, after_part, after_attribute, after_closing_name}
use Rattle.inline_tags.specs.Places.{tag_rest, rest_after}
use Rattle.inline_tags.proofs.Grammar.{open_reads, closing_reads}
use Rattle.inline_constructs.specs.HtmlText.{html_bytes, ending_as_feed, open_after, closing_after, ClosesText}

-- bytes, each below 256
abbrev pub AreBytes : List ℕ → Type 0
AreBytes [] = Unit {0}
AreBytes (b ∷ bs) = (b < 256) × AreBytes bs

pub are_bytes : (xs : List ℕ) → ((k : ℕ) → get_or xs k 0 < 256) → AreBytes xs
are_bytes [] h = tt
are_bytes (b ∷ bs) h = (h zero, are_bytes bs (λ k. h (suc k)))

-- ---- the first byte

plain_byte : (b : ℕ) → (b ≡ 13 → ⊥) → b < 256 → html_byte b ≡ b
plain_byte b apart byte = elim (cases_Bool (eqb b 10)) [
  | inl h ↦ ap html_byte (eqb-true b 10 h) ∙ sym (eqb-true b 10 h)
  | inr h ↦
      cond-false (is_eol b) 10 (code_byte b) (or_from (eqb b 10 || eqb b 13) (eqb b 257) (or_from (eqb b 10) (eqb b 13) h (ne_eqb b 13 apart))
      (ne_eqb b 257 (λ e. omega arith)))
      ∙ cond-false (eqb b 256) 32 b (ne_eqb b 256 (λ e. omega arith))
]

html_plain : (b : ℕ) (bs : List ℕ) → (b ≡ 13 → ⊥) → b < 256 → html_bytes (b ∷ bs) ≡ b ∷ html_bytes bs
html_plain b bs apart byte = ap (map html_byte) (plain_code b bs apart) ∙ ap (λ x. x ∷ html_bytes bs) (plain_byte b apart byte)

-- a CR and what its ending leaves
after_feed : List ℕ → List ℕ
after_feed [] = []
after_feed (b ∷ bs) = cond (eqb b 10) bs (b ∷ bs)

html_return : (bs : List ℕ) → html_bytes (13 ∷ bs) ≡ 10 ∷ html_bytes (after_feed bs)
unfolding after_feed
html_return [] = refl
html_return (d ∷ ds) = elim (cases_Bool (eqb d 10)) [
  | inl h ↦
      let e = eqb-true d 10 h in
      ap (map html_byte) (cond-true (eqb d 10) _ _ h)
      ∙ ap (λ cs. 10 ∷ map html_byte (drop 1 cs)) (plain_code d ds (λ f. omega arith))
      ∙ ap (λ cs. 10 ∷ html_bytes cs) (sym (cond-true (eqb d 10) ds (d ∷ ds) h))
  | inr h ↦
      ap (map html_byte) (cond-false (eqb d 10) _ _ h)
      ∙ ap (λ cs. 10 ∷ html_bytes cs) (sym (cond-false (eqb d 10) ds (d ∷ ds) h))
]

-- ---- texts without line endings

-- no CR and no LF
abbrev is_ink : List ℕ → Bool
is_ink text = list_all (λ t. not (eqb t 10) && not (eqb t 13)) text

no_return : (t : ℕ) → not (eqb t 10) && not (eqb t 13) ≡ true → (eqb t 10 ≡ false) × (eqb t 13 ≡ false)
no_return t h = let parts = and_parts (not (eqb t 10)) (not (eqb t 13)) h in (not-true (eqb t 10) parts.0, not-true (eqb t 13) parts.1)

pub begins_html : (text xs : List ℕ) → is_ink text ≡ true → AreBytes xs → begins_with text (html_bytes xs) ≡ begins_with text xs
begins_html [] xs ink bytes = refl
begins_html (t ∷ ts) [] ink bytes = refl
begins_html (t ∷ ts) (x ∷ xs) ink bytes =
    let parts = and_parts _ _ ink in
    let t_is = no_return t parts.0 in
    elim (cases_Bool (eqb x 13)) [
      | inl h ↦
          let e = eqb-true x 13 h in
          ap (λ y. begins_with (t ∷ ts) (html_bytes (y ∷ xs))) e ∙ ap (begins_with (t ∷ ts)) (html_return xs)
          ∙ and_left (eqb t 10) _ t_is.0 ∙ sym (and_left (eqb t x) _ (ap (eqb t) e ∙ t_is.1))
      | inr h ↦
          ap (begins_with (t ∷ ts)) (html_plain x xs (eqb-false x 13 h) bytes.0)
          ∙ ap (λ b. eqb t x && b) (begins_html ts xs parts.1 bytes.1)
    ]

pub drop_html : (text xs : List ℕ) → is_ink text ≡ true → AreBytes xs → begins_with text xs ≡ true
    → drop (length text) (html_bytes xs) ≡ html_bytes (drop (length text) xs)
drop_html [] xs ink bytes there = refl
drop_html (t ∷ ts) [] ink bytes there = refl
drop_html (t ∷ ts) (x ∷ xs) ink bytes there =
    let parts = and_parts _ _ ink in
    let same = and_parts (eqb t x) (begins_with ts xs) there in
    let e = eqb-true t x same.0 in
    let apart : x ≡ 13 → ⊥ = λ f. eqb-false t 13 (no_return t parts.0).1 (e ∙ f) in
    ap (drop (length (t ∷ ts))) (html_plain x xs apart bytes.0) ∙ drop_html ts xs parts.1 bytes.1 same.1

dropped_bytes : (n : ℕ) (xs : List ℕ) → AreBytes xs → AreBytes (drop n xs)
dropped_bytes zero xs bytes = bytes
dropped_bytes (suc n) [] bytes = tt
dropped_bytes (suc n) (x ∷ xs) bytes = dropped_bytes n xs bytes.1

-- the first place of a text
first_step : (t : ℕ) (ts : List ℕ) (b : ℕ) (bs : List ℕ) → eqb t b ≡ false → after_text (t ∷ ts) (b ∷ bs) ≡ after_text (t ∷ ts) bs
first_step t ts b bs h = cond-false _ _ _ (and_left (eqb t b) _ h)

first_plain : (t : ℕ) (ts : List ℕ) (b : ℕ) (bs : List ℕ) → (b ≡ 13 → ⊥) → is_ink (t ∷ ts) ≡ true → AreBytes (b ∷ bs)
    → after_text (t ∷ ts) (html_bytes bs) ≡ option_map html_bytes (after_text (t ∷ ts) bs)
    → after_text (t ∷ ts) (html_bytes (b ∷ bs)) ≡ option_map html_bytes (after_text (t ∷ ts) (b ∷ bs))
first_plain t ts b bs apart ink bytes later =
    let text = t ∷ ts in
    let same = html_plain b bs apart bytes.0 in
    ap (after_text text) same
    ∙ ap (λ x. cond x (Some (drop (length text) (b ∷ html_bytes bs))) (after_text text (html_bytes bs)))
    (ap (begins_with text) (sym same) ∙ begins_html text (b ∷ bs) ink bytes)
    ∙ elim (cases_Bool (begins_with text (b ∷ bs))) [
      | inl h ↦
          cond-true _ _ _ h ∙ ap Some (ap (drop (length text)) (sym same) ∙ drop_html text (b ∷ bs) ink bytes h)
          ∙ ap (option_map html_bytes) (sym (cond-true (begins_with text (b ∷ bs)) (Some (drop (length text) (b ∷ bs))) (after_text text bs) h))
      | inr h ↦
          cond-false _ _ _ h ∙ later
          ∙ ap (option_map html_bytes) (sym (cond-false (begins_with text (b ∷ bs)) (Some (drop (length text) (b ∷ bs))) (after_text text bs) h))
    ]

pub first_html : (t : ℕ) (ts xs : List ℕ) → is_ink (t ∷ ts) ≡ true → AreBytes xs
    → after_text (t ∷ ts) (html_bytes xs) ≡ option_map html_bytes (after_text (t ∷ ts) xs)
unfolding after_feed
first_html t ts [] ink bytes = refl
first_html t ts (b ∷ []) ink bytes = elim (cases_Bool (eqb b 13)) [
  | inl h ↦
      let e = eqb-true b 13 h in
      let t_is = no_return t (and_parts _ _ ink).0 in
      ap (λ x. after_text (t ∷ ts) (html_bytes (x ∷ []))) e ∙ first_step t ts 10 [] t_is.0
      ∙ ap (option_map html_bytes) (sym (first_step t ts b [] (ap (eqb t) e ∙ t_is.1)))
  | inr h ↦ first_plain t ts b [] (eqb-false b 13 h) ink bytes refl
]
first_html t ts (b ∷ d ∷ ds) ink bytes = elim (cases_Bool (eqb b 13)) [
  | inl h ↦
      let e = eqb-true b 13 h in
      let t_is = no_return t (and_parts _ _ ink).0 in
      let there : after_text (t ∷ ts) (b ∷ d ∷ ds) ≡ after_text (t ∷ ts) (d ∷ ds) = first_step t ts b (d ∷ ds) (ap (eqb t) e ∙ t_is.1) in
      ap (λ x. after_text (t ∷ ts) (html_bytes (x ∷ d ∷ ds))) e
      ∙ ap (after_text (t ∷ ts)) (html_return (d ∷ ds))
      ∙ first_step t ts 10 (html_bytes (after_feed (d ∷ ds))) t_is.0
      ∙ elim (cases_Bool (eqb d 10)) [
        | inl k ↦
            let f = eqb-true d 10 k in
            ap (λ y. after_text (t ∷ ts) (html_bytes y)) (cond-true (eqb d 10) ds (d ∷ ds) k)
            ∙ first_html t ts ds ink bytes.1.1
            ∙ ap (option_map html_bytes) (sym (there ∙ first_step t ts d ds (ap (eqb t) f ∙ t_is.0)))
        | inr k ↦
            ap (λ y. after_text (t ∷ ts) (html_bytes y)) (cond-false (eqb d 10) ds (d ∷ ds) k)
            ∙ first_html t ts (d ∷ ds) ink bytes.1
            ∙ ap (option_map html_bytes) (sym there)
      ]
  | inr h ↦ first_plain t ts b (d ∷ ds) (eqb-false b 13 h) ink bytes (first_html t ts (d ∷ ds) ink bytes.1)
]

-- ---- marked HTML

-- what is natural in line endings
abbrev Reads : (List ℕ → Option (List ℕ)) → List ℕ → Type 0
Reads part xs = part (html_bytes xs) ≡ option_map html_bytes (part xs)

map_cond : (t : Bool) (a x : Option (List ℕ)) → a ≡ option_map html_bytes x → cond t a None ≡ option_map html_bytes (cond t x None)
map_cond true a x e = e
map_cond false a x e = refl

-- a text first, and then a part, which is another in bytes
text_then : (text xs : List ℕ) (part other : List ℕ → Option (List ℕ)) → is_ink text ≡ true → AreBytes xs
    → part (html_bytes (drop (length text) xs)) ≡ option_map html_bytes (other (drop (length text) xs))
    → cond (begins_with text (html_bytes xs)) (part (drop (length text) (html_bytes xs))) None
    ≡ option_map html_bytes (cond (begins_with text xs) (other (drop (length text) xs)) None)
text_then text xs part other ink bytes reads =
    ap (λ t. cond t (part (drop (length text) (html_bytes xs))) None) (begins_html text xs ink bytes)
    ∙ elim (cases_Bool (begins_with text xs)) [
      | inl h ↦
          cond-true _ _ _ h ∙ ap part (drop_html text xs ink bytes h) ∙ reads
          ∙ ap (option_map html_bytes) (sym (cond-true (begins_with text xs) (other (drop (length text) xs)) None h))
      | inr h ↦ cond-false _ _ _ h ∙ ap (option_map html_bytes) (sym (cond-false (begins_with text xs) (other (drop (length text) xs)) None h))
    ]

-- a text first, or else a part
text_or : (text xs : List ℕ) (a x : Option (List ℕ)) → is_ink text ≡ true → AreBytes xs → a ≡ option_map html_bytes x
    → cond (begins_with text (html_bytes xs)) (Some (drop (length text) (html_bytes xs))) a
    ≡ option_map html_bytes (cond (begins_with text xs) (Some (drop (length text) xs)) x)
text_or text xs a x ink bytes reads =
    ap (λ t. cond t (Some (drop (length text) (html_bytes xs))) a) (begins_html text xs ink bytes)
    ∙ elim (cases_Bool (begins_with text xs)) [
      | inl h ↦
          cond-true _ _ _ h ∙ ap Some (drop_html text xs ink bytes h)
          ∙ ap (option_map html_bytes) (sym (cond-true (begins_with text xs) (Some (drop (length text) xs)) x h))
      | inr h ↦ cond-false _ _ _ h ∙ reads ∙ ap (option_map html_bytes) (sym (cond-false (begins_with text xs) (Some (drop (length text) xs)) x h))
    ]

comment_reads : (xs : List ℕ) → AreBytes xs → Reads comment xs
comment_reads xs bytes =
    let rest = drop 4 xs in
    let more = dropped_bytes 4 xs bytes in
    text_then (codes "<!--") xs comment_rest comment_rest refl bytes
    (text_or (codes ">") rest _ _ refl more (text_or (codes "->") rest _ _ refl more (first_html 45 (codes "->") rest refl more)))

instruction_reads : (xs : List ℕ) → AreBytes xs → Reads instruction xs
instruction_reads xs bytes = text_then (codes "<?") xs (after_text (codes "?>")) (after_text (codes "?>")) refl bytes
    (first_html 63 (codes ">") (drop 2 xs) refl (dropped_bytes 2 xs bytes))

cdata_reads : (xs : List ℕ) → AreBytes xs → Reads cdata xs
cdata_reads xs bytes = text_then (codes "<![CDATA[") xs (after_text (codes "]]>")) (after_text (codes "]]>")) refl bytes
    (first_html 93 (codes "]>") (drop 9 xs) refl (dropped_bytes 9 xs bytes))

letter_html : (xs : List ℕ) → AreBytes xs → begins_with_letter (html_bytes xs) ≡ begins_with_letter xs
letter_html [] bytes = refl
letter_html (b ∷ bs) bytes = elim (cases_Bool (eqb b 13)) [
  | inl h ↦
      let e = eqb-true b 13 h in
      ap (λ x. begins_with_letter (html_bytes (x ∷ bs))) e ∙ ap begins_with_letter (html_return bs) ∙ sym (ap (λ x. begins_with_letter (x ∷ bs)) e)
  | inr h ↦ ap begins_with_letter (html_plain b bs (eqb-false b 13 h) bytes.0)
]

declaration_reads : (xs : List ℕ) → AreBytes xs → Reads declaration xs
declaration_reads xs bytes =
    let more = dropped_bytes 2 xs bytes in
    elim (cases_Bool (begins_with (codes "<!") xs)) [
      | inl h ↦
          let rest = drop_html (codes "<!") xs refl bytes h in
          ap (λ t. cond (t && begins_with_letter (drop 2 (html_bytes xs))) (after_text (codes ">") (drop 2 (html_bytes xs))) None)
          (begins_html (codes "<!") xs refl bytes)
          ∙ ap (λ r. cond (begins_with (codes "<!") xs && begins_with_letter r) (after_text (codes ">") r) None) rest
          ∙ ap (λ t. cond (begins_with (codes "<!") xs && t) (after_text (codes ">") (html_bytes (drop 2 xs))) None) (letter_html (drop 2 xs) more)
          ∙ map_cond (begins_with (codes "<!") xs && begins_with_letter (drop 2 xs)) _ _ (first_html 62 [] (drop 2 xs) refl more)
      | inr h ↦
          cond-false _ _ _ (and_left _ _ (begins_html (codes "<!") xs refl bytes ∙ h))
          ∙ ap (option_map html_bytes) (sym (cond-false (begins_with (codes "<!") xs && begins_with_letter (drop 2 xs))
          (after_text (codes ">") (drop 2 xs)) None (and_left _ _ h)))
    ]

or_reads : (a b x y : Option (List ℕ)) → a ≡ option_map html_bytes x → b ≡ option_map html_bytes y → option_or a b ≡ option_map html_bytes (option_or x y)
or_reads a b None y e f = ap (λ o. option_or o b) e ∙ f
or_reads a b (Some x) y e f = ap (λ o. option_or o b) e

marked_reads : (xs : List ℕ) → AreBytes xs → Reads marked_html xs
marked_reads xs bytes =
    or_reads _ _ (comment xs) _ (comment_reads xs bytes)
    (or_reads _ _ (instruction xs) _ (instruction_reads xs bytes) (or_reads _ _ (declaration xs) (cdata xs) (declaration_reads xs bytes)
    (cdata_reads xs bytes)))

-- ---- tags

-- a place after a byte, with what follows read either way
tag_maps : (place : Place) (bs : List ℕ) (a x : Option (List ℕ)) → (is_end place ≡ false → a ≡ option_map html_bytes x)
    → tag_rest place (html_bytes bs) a ≡ option_map html_bytes (tag_rest place bs x)
tag_maps NameStart bs a x h = h refl
tag_maps Name bs a x h = h refl
tag_maps Space bs a x h = h refl
tag_maps Attribute bs a x h = h refl
tag_maps AttributeSpace bs a x h = h refl
tag_maps Equals bs a x h = h refl
tag_maps Unquoted bs a x h = h refl
tag_maps DoubleQuoted bs a x h = h refl
tag_maps SingleQuoted bs a x h = h refl
tag_maps Quoted bs a x h = h refl
tag_maps Slash bs a x h = h refl
tag_maps ClosingStart bs a x h = h refl
tag_maps ClosingName bs a x h = h refl
tag_maps ClosingSpace bs a x h = h refl
tag_maps End bs a x h = refl
tag_maps Nowhere bs a x h = refl

-- after a line ending in a tag, the tag isn't at its end, and another one changes nothing
feed_goes_on : (place : Place) → is_end place ≡ false → is_end (next place 10) ≡ false
feed_goes_on NameStart h = refl
feed_goes_on Name h = refl
feed_goes_on Space h = refl
feed_goes_on Attribute h = refl
feed_goes_on AttributeSpace h = refl
feed_goes_on Equals h = refl
feed_goes_on Unquoted h = refl
feed_goes_on DoubleQuoted h = refl
feed_goes_on SingleQuoted h = refl
feed_goes_on Quoted h = refl
feed_goes_on Slash h = refl
feed_goes_on ClosingStart h = refl
feed_goes_on ClosingName h = refl
feed_goes_on ClosingSpace h = refl
feed_goes_on End h = absurd (true≢false h)
feed_goes_on Nowhere h = refl

feed_twice : (place : Place) → is_end place ≡ false → next (next place 10) 10 ≡ next place 10
feed_twice NameStart h = refl
feed_twice Name h = refl
feed_twice Space h = refl
feed_twice Attribute h = refl
feed_twice AttributeSpace h = refl
feed_twice Equals h = refl
feed_twice Unquoted h = refl
feed_twice DoubleQuoted h = refl
feed_twice SingleQuoted h = refl
feed_twice Quoted h = refl
feed_twice Slash h = refl
feed_twice ClosingStart h = refl
feed_twice ClosingName h = refl
feed_twice ClosingSpace h = refl
feed_twice End h = refl
feed_twice Nowhere h = refl

-- where the tag isn't at its end, the bytes themselves don't matter
rest_of_goes_on : (place : Place) (bs cs : List ℕ) (x : Option (List ℕ)) → is_end place ≡ false → tag_rest place bs x ≡ tag_rest place cs x
rest_of_goes_on NameStart bs cs x h = refl
rest_of_goes_on Name bs cs x h = refl
rest_of_goes_on Space bs cs x h = refl
rest_of_goes_on Attribute bs cs x h = refl
rest_of_goes_on AttributeSpace bs cs x h = refl
rest_of_goes_on Equals bs cs x h = refl
rest_of_goes_on Unquoted bs cs x h = refl
rest_of_goes_on DoubleQuoted bs cs x h = refl
rest_of_goes_on SingleQuoted bs cs x h = refl
rest_of_goes_on Quoted bs cs x h = refl
rest_of_goes_on Slash bs cs x h = refl
rest_of_goes_on ClosingStart bs cs x h = refl
rest_of_goes_on ClosingName bs cs x h = refl
rest_of_goes_on ClosingSpace bs cs x h = refl
rest_of_goes_on End bs cs x h = absurd (true≢false h)
rest_of_goes_on Nowhere bs cs x h = refl

twice_rest : (place : Place) (bs : List ℕ) (x : Option (List ℕ)) → is_end place ≡ false → tag_rest place bs (tag_rest place bs x) ≡ tag_rest place bs x
twice_rest NameStart bs x h = refl
twice_rest Name bs x h = refl
twice_rest Space bs x h = refl
twice_rest Attribute bs x h = refl
twice_rest AttributeSpace bs x h = refl
twice_rest Equals bs x h = refl
twice_rest Unquoted bs x h = refl
twice_rest DoubleQuoted bs x h = refl
twice_rest SingleQuoted bs x h = refl
twice_rest Quoted bs x h = refl
twice_rest Slash bs x h = refl
twice_rest ClosingStart bs x h = refl
twice_rest ClosingName bs x h = refl
twice_rest ClosingSpace bs x h = refl
twice_rest End bs x h = absurd (true≢false h)
twice_rest Nowhere bs x h = refl

-- a tag reads CR LF as it reads LF
after_two : (place : Place) (ds : List ℕ) → is_end place ≡ false → tag_after place (13 ∷ 10 ∷ ds) ≡ tag_after place (10 ∷ ds)
after_two place ds h =
    let q = next place 10 in
    let on = feed_goes_on place h in
    ap (λ p. tag_rest q (10 ∷ ds) (tag_rest p ds (tag_after p ds))) (feed_twice place h)
    ∙ rest_of_goes_on q (10 ∷ ds) ds (tag_rest q ds (tag_after q ds)) on
    ∙ twice_rest q ds (tag_after q ds) on

pub tag_reads : (xs : List ℕ) (place : Place) → AreBytes xs → is_end place ≡ false
    → rest_after place (html_bytes xs) ≡ option_map html_bytes (tag_after place xs)
unfolding after_feed
tag_reads [] place bytes goes_on = refl
tag_reads (b ∷ []) place bytes goes_on = elim (cases_Bool (eqb b 13)) [
  | inl h ↦
      let e = eqb-true b 13 h in
      ap (λ x. rest_after place (html_bytes (x ∷ []))) e
      ∙ tag_maps (next place 10) [] None None (λ k. refl)
      ∙ ap (λ x. option_map html_bytes (tag_after place (x ∷ []))) (sym e)
  | inr h ↦
      ap (rest_after place) (html_plain b [] (eqb-false b 13 h) bytes.0)
      ∙ tag_maps (next place b) [] None None (λ k. refl)
      ∙ ap (λ x. option_map html_bytes (tag_rest (next place x) [] None)) (sym (cond-false (eqb b 13) 10 b h))
]
tag_reads (b ∷ d ∷ ds) place bytes goes_on = elim (cases_Bool (eqb b 13)) [
  | inl h ↦
      let e = eqb-true b 13 h in
      let q = next place 10 in
      let on = feed_goes_on place goes_on in
      ap (λ x. rest_after place (html_bytes (x ∷ d ∷ ds))) e
      ∙ ap (rest_after place) (html_return (d ∷ ds))
      ∙ elim (cases_Bool (eqb d 10)) [
        | inl k ↦
            let f = eqb-true d 10 k in
            ap (λ y. rest_after place (10 ∷ html_bytes y)) (cond-true (eqb d 10) ds (d ∷ ds) k)
            ∙ tag_maps q ds (rest_after q (html_bytes ds)) (tag_after q ds) (λ l. tag_reads ds q bytes.1.1 l)
            ∙ ap (option_map html_bytes) (sym (ap (λ y. tag_after place (13 ∷ y ∷ ds)) f ∙ after_two place ds goes_on))
        | inr k ↦
            ap (λ y. rest_after place (10 ∷ html_bytes y)) (cond-false (eqb d 10) ds (d ∷ ds) k)
            ∙ tag_maps q (d ∷ ds) (rest_after q (html_bytes (d ∷ ds))) (tag_after q (d ∷ ds)) (λ l. tag_reads (d ∷ ds) q bytes.1 l)
      ]
      ∙ ap (λ x. option_map html_bytes (tag_after place (x ∷ d ∷ ds))) (sym e)
  | inr h ↦
      let q = next place b in
      ap (rest_after place) (html_plain b (d ∷ ds) (eqb-false b 13 h) bytes.0)
      ∙ tag_maps q (d ∷ ds) (rest_after q (html_bytes (d ∷ ds))) (tag_after q (d ∷ ds)) (λ l. tag_reads (d ∷ ds) q bytes.1 l)
      ∙ ap (λ x. option_map html_bytes (tag_rest (next place x) (d ∷ ds) (tag_after (next place x) (d ∷ ds)))) (sym (cond-false (eqb b 13) 10 b h))
]

open_tag_html : (xs : List ℕ) → AreBytes xs → open_tag (html_bytes xs) ≡ option_map html_bytes (open_after xs)
open_tag_html xs bytes =
    text_then (codes "<") xs open_rest (tag_after NameStart) refl bytes (sym (open_reads (html_bytes (drop 1 xs)))
    ∙ tag_reads (drop 1 xs) NameStart (dropped_bytes 1 xs bytes) refl)

closing_tag_html : (xs : List ℕ) → AreBytes xs → closing_tag (html_bytes xs) ≡ option_map html_bytes (closing_after xs)
closing_tag_html xs bytes =
    text_then (codes "</") xs closing_rest (tag_after ClosingStart) refl bytes
    (sym (closing_reads (html_bytes (drop 2 xs))) ∙ tag_reads (drop 2 xs) ClosingStart (dropped_bytes 2 xs bytes) refl)

pub html_reads : (xs : List ℕ) → AreBytes xs → html_end (html_bytes xs) ≡ option_map html_bytes (html_after xs)
html_reads xs bytes = or_reads _ _ (open_after xs) _ (open_tag_html xs bytes)
    (or_reads _ _ (closing_after xs) (marked_html xs) (closing_tag_html xs bytes) (marked_reads xs bytes))

-- ---- where raw HTML ends

-- only `>` ends a tag
choose : (t : Bool) (x y : Place) → is_end x ≡ false → is_end y ≡ false → is_end (cond t x y) ≡ false
choose true x y h k = h
choose false x y h k = k

end_no : (b : ℕ) → eqb b 62 ≡ false → is_end (at_end b) ≡ false
end_no b h = ap (λ t. is_end (cond t End Nowhere)) h

part_no : (b : ℕ) → eqb b 62 ≡ false → is_end (after_part b) ≡ false
part_no b h = choose (is_tag_space b) Space (cond (eqb b 47) Slash (at_end b)) refl (choose (eqb b 47) Slash (at_end b) refl (end_no b h))

attribute_no : (b : ℕ) → eqb b 62 ≡ false → is_end (after_attribute b) ≡ false
attribute_no b h = choose (is_tag_space b) AttributeSpace (cond (eqb b 61) Equals (after_part b)) refl
    (choose (eqb b 61) Equals (after_part b) refl (part_no b h))

closing_no : (b : ℕ) → eqb b 62 ≡ false → is_end (after_closing_name b) ≡ false
closing_no b h = choose (is_tag_space b) ClosingSpace (at_end b) refl (end_no b h)

no_end : (place : Place) (b : ℕ) → is_end place ≡ false → eqb b 62 ≡ false → is_end (next place b) ≡ false
no_end NameStart b goes_on h = choose (is_letter b) Name Nowhere refl refl
no_end Name b goes_on h = choose (is_tag_name_byte b) Name (after_part b) refl (part_no b h)
no_end Space b goes_on h = choose (begins_attribute b) Attribute (after_part b) refl (part_no b h)
no_end Attribute b goes_on h = choose (is_attribute_byte b) Attribute (after_attribute b) refl (attribute_no b h)
no_end AttributeSpace b goes_on h = choose (begins_attribute b) Attribute (after_attribute b) refl (attribute_no b h)
no_end Equals b goes_on h =
    choose (is_tag_space b) Equals (cond (eqb b 34) DoubleQuoted (cond (eqb b 39) SingleQuoted (cond (is_unquoted b) Unquoted Nowhere))) refl
    (choose (eqb b 34) DoubleQuoted (cond (eqb b 39) SingleQuoted (cond (is_unquoted b) Unquoted Nowhere)) refl
    (choose (eqb b 39) SingleQuoted (cond (is_unquoted b) Unquoted Nowhere) refl (choose (is_unquoted b) Unquoted Nowhere refl refl)))
no_end Unquoted b goes_on h = choose (is_unquoted b) Unquoted (after_part b) refl (part_no b h)
no_end DoubleQuoted b goes_on h = choose (eqb b 34) Quoted DoubleQuoted refl refl
no_end SingleQuoted b goes_on h = choose (eqb b 39) Quoted SingleQuoted refl refl
no_end Quoted b goes_on h = part_no b h
no_end Slash b goes_on h = end_no b h
no_end ClosingStart b goes_on h = choose (is_letter b) ClosingName Nowhere refl refl
no_end ClosingName b goes_on h = choose (is_tag_name_byte b) ClosingName (after_closing_name b) refl (closing_no b h)
no_end ClosingSpace b goes_on h = closing_no b h
no_end End b goes_on h = absurd (true≢false goes_on)
no_end Nowhere b goes_on h = refl

pub ends_at_greater : (place : Place) (b : ℕ) → is_end place ≡ false → is_end (next place (ending_as_feed b)) ≡ true → b ≡ 62
ends_at_greater place b goes_on ends = elim (cases_Bool (eqb b 62)) [
  | inl h ↦ eqb-true b 62 h
  | inr h ↦ absurd (false≢true (sym (no_end place (ending_as_feed b) goes_on (other h)) ∙ ends))
]
  where
    other : eqb b 62 ≡ false → eqb (ending_as_feed b) 62 ≡ false
    other h = elim (cases_Bool (eqb b 13)) [
      | inl k ↦ ap (λ x. eqb x 62) (cond-true (eqb b 13) 10 b k)
      | inr k ↦ ap (λ x. eqb x 62) (cond-false (eqb b 13) 10 b k) ∙ h
    ]

-- a text that stands at a place, and is closed by `>`
pub closed_at : (text xs : List ℕ) (i : ℕ) → i ≤ length xs → ClosesText text → begins_with text (drop i xs) ≡ true → IsClosed xs (i + length text)
closed_at text xs i le closes there =
    let ys = drop i xs in
    let e = begun text ys there in
    let size : length ys ≡ length text + length (drop (length text) ys) = ap length e ∙ length-append text (drop (length text) ys) in
    let n = length text - 1 in
    let place : i + n ≡ i + length text - 1 = omega (arith, closes.some) in
    let last : get_or xs (i + length text - 1) 0 ≡ get_or text n 0 =
    ap (λ k. get_or xs k 0) (sym place) ∙ sym (get_or-drop i xs n 0) ∙ ap (λ zs. get_or zs n 0) e
    ∙ get_or_append_left text (drop (length text) ys) 0 n (omega (arith, closes.some)) in
    record {
      some = omega (arith, closes.some);
      within = omega (arith, length-drop i xs);
      greater = last ∙ closes.greater;
    }

-- the search goes on
pub first_later : (text xs : List ℕ) (i : ℕ) → i < length xs → begins_with text (drop i xs) ≡ false
    → after_text text (drop (i + 1) xs) ≡ after_text text (drop i xs)
first_later text xs i lt h =
    let e : drop i xs ≡ get_or xs i 0 ∷ drop (i + 1) xs = drop_more xs i 0 lt in
    sym (ap (after_text text) e ∙ cond-false _ _ _ (ap (begins_with text) (sym e) ∙ h))

pub short_comment : (xs : List ℕ) → begins_with (codes "<!--") xs ≡ true → begins_with (codes ">") (drop 4 xs) ≡ true → Some (drop 5 xs) ≡ comment xs
short_comment xs opens closes = sym (cond-true _ _ _ opens ∙ cond-true _ _ _ closes ∙ ap Some (drop-drop 1 4 xs))

pub dash_comment : (xs : List ℕ) → begins_with (codes "<!--") xs ≡ true → begins_with (codes ">") (drop 4 xs) ≡ false
    → begins_with (codes "->") (drop 4 xs) ≡ true → Some (drop 6 xs) ≡ comment xs
dash_comment xs opens other closes = sym (cond-true _ _ _ opens ∙ cond-false _ _ _ other ∙ cond-true _ _ _ closes ∙ ap Some (drop-drop 2 4 xs))

-- ---- the whole

less_codes : (xs : List ℕ) → begins_with (codes "<") (content_codes xs) ≡ begins_with (codes "<") xs
less_codes [] = refl
less_codes (b ∷ bs) = elim (cases_Bool (eqb b 13)) [
  | inl h ↦
      let e = eqb-true b 13 h in
      ap (λ x. begins_with (codes "<") (content_codes (x ∷ bs))) e ∙ at_return (begins_with (codes "<")) false bs (λ cs. refl) (λ cs. refl)
      ∙ sym (ap (λ x. begins_with (codes "<") (x ∷ bs)) e)
  | inr h ↦ ap (begins_with (codes "<")) (plain_code b bs (eqb-false b 13 h))
]

pub html_off : (on : Constructs) (xs : List ℕ) → on.html_text ≡ false → html_text_at on (content_codes xs) ≡ None
html_off on xs off = cond-false _ _ _ (and_left on.html_text _ off)

pub html_other : (on : Constructs) (xs : List ℕ) → begins_with (codes "<") xs ≡ false → html_text_at on (content_codes xs) ≡ None
html_other on xs other = cond-false _ _ _ (and_right on.html_text _ (less_codes xs ∙ other))

pub html_none : (on : Constructs) (xs : List ℕ) → AreBytes xs → on.html_text ≡ true → begins_with (codes "<") xs ≡ true → None ≡ html_after xs
    → html_text_at on (content_codes xs) ≡ None
html_none on xs bytes is_on less none =
    cond-true _ _ _ (and_from on.html_text _ is_on (less_codes xs ∙ less))
    ∙ ap (html_leaf (content_codes xs)) (html_reads xs bytes ∙ ap (option_map html_bytes) (sym none))

pub html_some : (on : Constructs) (xs rest : List ℕ) (n : ℕ) → AreBytes xs → on.html_text ≡ true → begins_with (codes "<") xs ≡ true → IsEnd xs n
    → rest ≡ drop n xs
    → Some (drop n xs) ≡ html_after xs → Some (leaf (Html (content_codes (take n xs)) ∷ []) (size_before xs rest)) ≡ html_text_at on (content_codes xs)
html_some on xs rest n bytes is_on less end after found =
    let all = content_codes xs in
    let front = content_codes (take n xs) in
    let back = content_codes (drop n xs) in
    let size : length all - length (html_bytes (drop n xs)) ≡ size_before xs rest =
    ap (λ k. length all - k) (length-map back html_byte ∙ ap (λ r. length (content_codes r)) (sym after)) in
    let fronts : size_before xs rest ≡ length front =
    ap (λ r. length all - length (content_codes r)) after ∙ omega (arith, ap length end.cut, length-append front back) in
    let text : take (size_before xs rest) all ≡ front =
    ap (λ k. take k all) fronts ∙ ap (take (length front)) end.cut ∙ take_at front back (length front) refl in
    sym (cond-true _ _ _ (and_from on.html_text _ is_on (less_codes xs ∙ less))
    ∙ ap (html_leaf all) (html_reads xs bytes ∙ ap (option_map html_bytes) (sym found))
    ∙ ap (λ k. Some (leaf (Html (take k all) ∷ []) k)) size
    ∙ ap (λ t. Some (leaf (Html t ∷ []) (size_before xs rest))) text)

pub closed_end : (xs : List ℕ) (n : ℕ) → IsClosed xs n → IsEnd xs n
closed_end xs n closed = end_after xs n closed.some closed.within (omega (arith, closed.greater)) (λ e. omega (arith, closed.greater))
