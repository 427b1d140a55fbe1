-- The markers of items and footnote definitions in a line.
use Rattle.std.proofs.Common.{◌≡◌, ℕ, ◌+◌, ◌-◌, ◌<◌, ◌≤◌, suc, Bool, true, false, ◌&&◌, ◌||◌, not, List, [], ◌∷◌, ◌++◌, None, Some, leb, inl, inr, refl, sym, ap, ap₂, ◌∙◌}
use Rattle.std.proofs.Common.{subst, arith, drop, take, length, length-append, get_or}
use Rattle.parse_lines.proofs.Prelude.{after_bracket, after_byte, after_number, after_open, and_parts, asterisk, bare, bullet, bytes_of, caret, cases_Bool}
use Rattle.parse_lines.proofs.Prelude.{closed_by, colon, cond-false, cond-true, Constructs, Container, container_start, ContainerLine, ContainerStart, dot}
use Rattle.parse_lines.proofs.Prelude.{ends_label, eqb-true, Footnote, footnote_mark, footnote_of, footnote_or, footnote_start, gap, hyphen, indent, is_break}
use Rattle.parse_lines.proofs.Prelude.{is_byte, is_digit, is_eol, is_footnote_label, is_item, is_space, is_white, item, Item, item_after, item_start}
use Rattle.parse_lines.proofs.Prelude.{ItemParts, Kind, label_before, label_end, left_bracket, list_any, Marker, marker, marker_of, may_escape, nat_tests}
use Rattle.parse_lines.proofs.Prelude.{number_of, Option, or_parts, ordered_marker, Part, plus, prefix_len, Quote, quote_or, quote_prefix, Rest, right_bracket}
use Rattle.parse_lines.proofs.Prelude.{right_parenthesis, small_indent, starts, take-append_seam, true≢false, with_colon, ◌==◌}
use Rattle.std.specs.Prelude.{codes}
use Rattle.std.proofs.lemmas.Bool.{leb-true}
use Rattle.event_tokens.specs.Tokens.{is_among}
use Rattle.definition_inline.specs.Label.{is_label}
use Rattle.parse_lines.proofs.Columns.{dark_is_byte}
use Rattle.parse_lines.proofs.Suffixes.{after_byte_is}

-- ---- a marker

-- digits, a byte that is none, and the rest
pub record IsMarked (start : Rest) (m : Marker) : Type 0 where
  pub code : ℕ
  pub after : drop (prefix_len is_digit start) start ≡ code ∷ m.rest
  pub dark : is_white code ≡ false
  pub other : is_digit code ≡ false
  pub is_marker : is_among (codes "-+*.)") code ≡ true
  pub few : prefix_len is_digit start ≤ 9
  pub number : (k : ℕ) → m.number ≡ Some k → (k ≡ number_of (take (prefix_len is_digit start) start)) × (0 < prefix_len is_digit start)
  pub bullet : m.number ≡ None → prefix_len is_digit start ≡ 0

bullet_marked : (start : Rest) (m : Marker) → prefix_len is_digit start ≡ 0 → bullet start ≡ Some m → IsMarked start m
bullet_marked [] m none is = absurd (cc)
bullet_marked (code ∷ codes) m none is =
    elim (cases_Bool ((code == hyphen) || (code == plus) || (code == asterisk))) [
      | inl h ↦
          let e : Some (marker_of code None 1 codes) ≡ Some m = sym (cond-true ((code == hyphen) || (code == plus) || (code == asterisk)) _ _ h) ∙ is in
          let same : marker_of code None 1 codes ≡ m = cc in
          let dark : is_white code ≡ false = grind (arith, nat_tests, h) in
          let other : is_digit code ≡ false = grind (arith, nat_tests, h) in
          record {
            code = code;
            after = ap (λ (k : ℕ). drop k (code ∷ codes)) none ∙ ap (λ (x : Marker). code ∷ x.rest) same;
            dark = dark;
            other = other;
            is_marker = grind (arith, nat_tests, h);
            few = omega (arith, none);
            number = λ k e2. let no : None ≡ Some k = ap (λ (x : Marker). x.number) same ∙ e2 in absurd (cc);
            bullet = λ e2. none;
          }
      | inr h ↦ let e : None ≡ Some m = sym (cond-false ((code == hyphen) || (code == plus) || (code == asterisk)) _ _ h) ∙ is in absurd (cc)
    ]

number_marked : (start rest : Rest) (m : Marker) → 0 < prefix_len is_digit start → prefix_len is_digit start ≤ 9 → drop (prefix_len is_digit start) start ≡ rest
    → after_number (number_of (take (prefix_len is_digit start) start)) (prefix_len is_digit start) rest ≡ Some m → IsMarked start m
number_marked start [] m some few at is = absurd (cc)
number_marked start (code ∷ codes) m some few at is =
    let number = number_of (take (prefix_len is_digit start) start) in
    let digits = prefix_len is_digit start in
    elim (cases_Bool ((code == dot) || (code == right_parenthesis))) [
      | inl h ↦
          let e : Some (marker_of code (Some number) (digits + 1) codes) ≡ Some m = sym (cond-true ((code == dot) || (code == right_parenthesis)) _ _ h) ∙ is in
          let same : marker_of code (Some number) (digits + 1) codes ≡ m = cc in
          let dark : is_white code ≡ false = grind (arith, nat_tests, h) in
          let other : is_digit code ≡ false = grind (arith, nat_tests, h) in
          record {
            code = code;
            after = at ∙ ap (λ (x : Marker). code ∷ x.rest) same;
            dark = dark;
            other = other;
            is_marker = grind (arith, nat_tests, h);
            few = few;
            number = λ k e2. let both : Some number ≡ Some k = ap (λ (x : Marker). x.number) same ∙ e2 in let is_k : k ≡ number = cc in (is_k, some);
            bullet = λ e2. let no : Some number ≡ None = ap (λ (x : Marker). x.number) same ∙ e2 in absurd (cc);
          }
      | inr h ↦ let e : None ≡ Some m = sym (cond-false ((code == dot) || (code == right_parenthesis)) _ _ h) ∙ is in absurd (cc)
    ]

pub marked : (start : Rest) (m : Marker) → marker start ≡ Some m → IsMarked start m
marked start m is =
    let digits = prefix_len is_digit start in
    elim (cases_Bool (digits == 0)) [
      | inl h ↦ bullet_marked start m (eqb-true digits 0 h) (sym (cond-true (digits == 0) _ _ h) ∙ is)
      | inr h ↦
          let ordered : ordered_marker digits start ≡ Some m = sym (cond-false (digits == 0) _ _ h) ∙ is in
          let some : 0 < digits = grind (arith, nat_tests, h) in
          (elim (cases_Bool (leb digits 9)) [
            | inl t ↦ number_marked start (drop digits start) m some (leb-true digits 9 t) refl (sym (cond-true (leb digits 9) _ _ t) ∙ ordered)
            | inr t ↦ let e : None ≡ Some m = sym (cond-false (leb digits 9) _ _ t) ∙ ordered in absurd (cc)
          ])
    ]

-- the digits and the byte after them, as bytes of the line
pub record AreDigits (start : Rest) (digits : ℕ) (rest : Rest) : Type 0 where
  pub within : digits + 1 ≤ length start
  pub dark : list_any is_white (take (digits + 1) start) ≡ false
  pub rest_is : drop (digits + 1) start ≡ rest
  pub count : prefix_len is_digit (bytes_of start) ≡ digits

digit_dark : (code : ℕ) → is_digit code ≡ true → is_white code ≡ false
digit_dark code is = grind (arith, nat_tests, is)

byte_first : (x : ℕ) (xs : Rest) → is_white x ≡ false → bytes_of (x ∷ xs) ≡ x ∷ bytes_of xs
byte_first x xs dark = cond-true (is_byte x) _ _ (ap (λ (b : Bool). not b) (dark_is_byte x dark))

pub digits_are : (start : Rest) (code : ℕ) (rest : Rest) → drop (prefix_len is_digit start) start ≡ code ∷ rest → is_white code ≡ false → is_digit code ≡ false
    → AreDigits start (prefix_len is_digit start) rest
digits_are [] code rest is dark other = absurd (cc)
digits_are (x ∷ xs) code rest is dark other =
    elim (cases_Bool (is_digit x)) [
      | inl t ↦
          let size : prefix_len is_digit (x ∷ xs) ≡ 1 + prefix_len is_digit xs = cond-true (is_digit x) _ _ t in
          let one : prefix_len is_digit (x ∷ xs) ≡ suc (prefix_len is_digit xs) = omega (arith, size) in
          let later : drop (prefix_len is_digit xs) xs ≡ code ∷ rest = ap (λ (k : ℕ). drop k (x ∷ xs)) (sym one) ∙ is in
          let more = digits_are xs code rest later dark other in
          let x_dark = digit_dark x t in
          let next : suc (prefix_len is_digit xs) + 1 ≡ suc (prefix_len is_digit xs + 1) = omega arith in
          let first = byte_first x xs x_dark in
          subst (λ (k : ℕ). AreDigits (x ∷ xs) k rest) (sym one) (record {
            within = omega (arith, more.within);
            dark =
                ap (λ (k : ℕ). list_any is_white (take k (x ∷ xs))) next ∙ ap₂ (λ (a b : Bool). a || b) x_dark more.dark;
            rest_is = ap (λ (k : ℕ). drop k (x ∷ xs)) next ∙ more.rest_is;
            count =
                let all : prefix_len is_digit (x ∷ bytes_of xs) ≡ 1 + prefix_len is_digit (bytes_of xs) = cond-true (is_digit x) _ _ t in
                omega (arith, ap (prefix_len is_digit) first, all, more.count);
          })
      | inr t ↦
          let size : prefix_len is_digit (x ∷ xs) ≡ 0 = cond-false (is_digit x) _ _ t in
          let here : x ∷ xs ≡ code ∷ rest = ap (λ (k : ℕ). drop k (x ∷ xs)) (sym size) ∙ is in
          let same : x ≡ code = ap (λ (ys : Rest). get_or ys 0 0) here in
          let x_dark : is_white x ≡ false = ap is_white same ∙ dark in
          let first = byte_first x xs x_dark in
          subst (λ (k : ℕ). AreDigits (x ∷ xs) k rest) (sym size) (record {
            within = omega arith;
            dark = ap (λ (b : Bool). b || false) x_dark;
            rest_is = ap (drop 1) here;
            count = ap (prefix_len is_digit) first ∙ cond-false (is_digit x) _ _ t;
          })
    ]

-- ---- an item that starts

pub record IsItemStart (start : Rest) (i : ItemParts) (rest : Rest) : Type 0 where
  pub m : Marker
  pub marker_is : marker (bare start) ≡ Some m
  pub number_is : i.number ≡ m.number
  pub rest_is : rest ≡ drop (gap m.rest) m.rest

item_parts : Container → Option ItemParts
item_parts Quote = None
item_parts (Item i) = Some i
item_parts (Footnote label) = None

found_item : Option ContainerStart → Option ItemParts
found_item None = None
found_item (Some found) = item_parts found.container

found_rest : Option ContainerStart → Rest
found_rest None = []
found_rest (Some found) = found.rest

item_marked : (start : Rest) (columns : ℕ) (o : Option Marker) (i : ItemParts) (rest : Rest) (before : Kind) → marker (bare start) ≡ o
    → item_after columns false o ≡ Some (container_start (Item i) rest before) → IsItemStart start i rest
unfolding found_item found_rest item_parts
item_marked start columns None i rest before at is = absurd (cc)
item_marked start columns (Some m) i rest before at is =
    elim (cases_Bool (is_item false m)) [
      | inl t ↦
          let e : Some (item columns m) ≡ Some (container_start (Item i) rest before) = sym (cond-true (is_item false m) _ _ t) ∙ is in
          let parts : Some (record { marker = m.byte; number = m.number; size = columns + m.size + gap m.rest }) ≡ Some i = ap found_item e in
          let same : record { marker = m.byte; number = m.number; size = columns + m.size + gap m.rest } ≡ i = cc in
          record { m = m; marker_is = at; number_is = sym (ap (λ (x : ItemParts). x.number) same); rest_is = sym (ap found_rest e) }
      | inr t ↦ let e : None ≡ Some (container_start (Item i) rest before) = sym (cond-false (is_item false m) _ _ t) ∙ is in absurd (cc)
    ]

item_found : (on : Constructs) (start : Rest) (i : ItemParts) (rest : Rest) (before : Kind)
    → item_start on false start ≡ Some (container_start (Item i) rest before)
    → IsItemStart start i rest
item_found on start i rest before is =
    let t = on.list_item && small_indent on start && not (is_break on start) in
    elim (cases_Bool t) [
      | inl h ↦ item_marked start (indent start) (marker (bare start)) i rest before refl (sym (cond-true t _ _ h) ∙ is)
      | inr h ↦ let e : None ≡ Some (container_start (Item i) rest before) = sym (cond-false t _ _ h) ∙ is in absurd (cc)
    ]

-- ---- a footnote definition that starts

pub record IsFootnoteStart (start label rest : Rest) : Type 0 where
  pub after : Rest
  pub start_is : bare start ≡ 91 ∷ 94 ∷ (label ++ 93 ∷ 58 ∷ after)
  pub dark : list_any is_space label ≡ false
  pub rest_is : rest ≡ bare after

label_parts : Container → Option (List ℕ)
label_parts Quote = None
label_parts (Item i) = None
label_parts (Footnote label) = Some label

found_label : Option ContainerStart → Option (List ℕ)
found_label None = None
found_label (Some found) = label_parts found.container

part_text : Option Part → List ℕ
part_text None = []
part_text (Some p) = p.text

part_rest : Option Part → List ℕ
part_rest None = []
part_rest (Some p) = p.rest

-- the bracket that closes a label
record IsClosed (rest found : Rest) : Type 0 where
  front : Rest
  parts : rest ≡ front ++ found
  first : found ≡ 93 ∷ drop 1 found

label_closed : (escaped : Bool) (rest found : Rest) → label_end escaped rest ≡ Some found → IsClosed rest found
label_closed escaped [] found is = absurd (cc)
label_closed escaped (c ∷ cs) found is =
    elim (cases_Bool (ends_label escaped c)) [
      | inl h ↦
          let e = sym (cond-true (ends_label escaped c) _ _ h) ∙ is in
          (elim (cases_Bool (c == right_bracket)) [
            | inl k ↦
                let f : Some (c ∷ cs) ≡ Some found = sym (cond-true (c == right_bracket) _ _ k) ∙ e in
                let same : c ∷ cs ≡ found = cc in
                record {
                  front = [];
                  parts = same;
                  first = sym same ∙ ap₂ (λ (x : ℕ) (xs : Rest). x ∷ xs) (eqb-true c 93 k) (ap (drop 1) same);
                }
            | inr k ↦ let f : None ≡ Some found = sym (cond-false (c == right_bracket) _ _ k) ∙ e in absurd (cc)
          ])
      | inr h ↦
          let more = label_closed (may_escape escaped c) cs found (sym (cond-false (ends_label escaped c) _ _ h) ∙ is) in
          record { front = c ∷ more.front; parts = ap (λ (xs : Rest). c ∷ xs) more.parts; first = more.first }
    ]

front_before : (front found : Rest) → take (length (front ++ found) - length found) (front ++ found) ≡ front
front_before front found =
    let size : length (front ++ found) - length found ≡ length front = omega (arith, length-append front found) in
    ap (λ (k : ℕ). take k (front ++ found)) size ∙ take-append_seam front found

not_true : (b : Bool) → not b ≡ true → b ≡ false
not_true true h = absurd (true≢false (sym h))
not_true false h = refl

-- what has no white space has no spaces and tabs
pub any_white : (xs : Rest) → list_any is_space xs ≡ false → list_any is_white xs ≡ false
any_white [] h = refl
any_white (x ∷ xs) h =
    let parts = or_parts (is_space x) (list_any is_space xs) h in
    ap₂ (λ (a b : Bool). a || b) (or_parts (is_white x) (is_eol x) parts.0).0 (any_white xs parts.1)

-- the text of a label with `]:` after it
record IsLabelled (content : Rest) (p : Part) : Type 0 where
  parts : content ≡ p.text ++ 93 ∷ 58 ∷ p.rest
  dark : list_any is_space p.text ≡ false

colon_after : (text : Rest) (o : Option Rest) (p : Part) → label_before text o ≡ Some p → (o ≡ Some p.rest) × (text ≡ p.text)
unfolding part_text part_rest
colon_after text None p is = absurd (cc)
colon_after text (Some r) p is = (ap Some (ap part_rest is), ap part_text is)

labelled : (content : Rest) (o : Option Rest) (p : Part) → ((r : Rest) → o ≡ Some r → IsClosed content r) → with_colon (closed_by content o) ≡ Some p
    → IsLabelled content p
labelled content None p closes is = absurd (cc)
labelled content (Some r) p closes is =
    let text = take (length content - length r) content in
    let closed = closes r refl in
    elim (cases_Bool (is_footnote_label text)) [
      | inl t ↦
          let found = colon_after text (after_byte colon (drop 1 r)) p (sym (cond-true (is_footnote_label text) _ _ t) ∙ is) in
          let front : text ≡ closed.front = ap (λ (xs : Rest). take (length xs - length r) xs) closed.parts ∙ front_before closed.front r in
          let label : closed.front ≡ p.text = sym front ∙ found.1 in
          let tail : r ≡ 93 ∷ 58 ∷ p.rest = closed.first ∙ ap (λ (xs : Rest). 93 ∷ xs) (after_byte_is colon (drop 1 r) p.rest found.0) in
          let spaces = (and_parts (is_label text) (not (list_any is_space text)) t).1 in
          record {
            parts = closed.parts ∙ ap₂ (λ (xs ys : Rest). xs ++ ys) label tail;
            dark = ap (list_any is_space) (sym found.1) ∙ not_true (list_any is_space text) spaces;
          }
      | inr t ↦ let e : None ≡ Some p = sym (cond-false (is_footnote_label text) _ _ t) ∙ is in absurd (cc)
    ]

opened_label : (o : Option Rest) (p : Part) → after_open o ≡ Some p → (content : Rest) × (o ≡ Some content) × IsLabelled content p
opened_label None p is = absurd (cc)
opened_label (Some r) p is = (r, refl, labelled r (label_end false r) p (λ x e. label_closed false r x e) is)

bracketed : (o : Option Rest) (p : Part) → after_bracket o ≡ Some p → (content : Rest) × (o ≡ Some (94 ∷ content)) × IsLabelled content p
bracketed None p is = absurd (cc)
bracketed (Some r) p is =
    let more = opened_label (after_byte caret r) p is in
    (more.0, ap Some (after_byte_is caret r more.0 more.1), more.2)

mark_found : (start : Rest) (o : Option Part) (label rest : Rest) (before : Kind) → footnote_mark (bare start) ≡ o
    → footnote_of o ≡ Some (container_start (Footnote label) rest before) → IsFootnoteStart start label rest
unfolding found_label label_parts found_rest
mark_found start None label rest before at is = absurd (cc)
mark_found start (Some p) label rest before at is =
    let more = bracketed (after_byte left_bracket (bare start)) p at in
    let text : Some p.text ≡ Some label = ap found_label is in
    let same : p.text ≡ label = cc in
    record {
      after = p.rest;
      start_is =
          after_byte_is left_bracket (bare start) (94 ∷ more.0) more.1
          ∙ ap (λ (xs : Rest). 91 ∷ 94 ∷ xs) (more.2.parts ∙ ap (λ (xs : Rest). xs ++ 93 ∷ 58 ∷ p.rest) same);
      dark = ap (list_any is_space) (sym same) ∙ more.2.dark;
      rest_is = sym (ap found_rest is);
    }

footnote_found : (on : Constructs) (start label rest : Rest) (before : Kind)
    → footnote_start on start ≡ Some (container_start (Footnote label) rest before) → IsFootnoteStart start label rest
footnote_found on start label rest before is =
    let t = on.gfm_footnote_definition && small_indent on start in
    elim (cases_Bool t) [
      | inl h ↦ mark_found start (footnote_mark (bare start)) label rest before refl (sym (cond-true t _ _ h) ∙ is)
      | inr h ↦ let e : None ≡ Some (container_start (Footnote label) rest before) = sym (cond-false t _ _ h) ∙ is in absurd (cc)
    ]

-- ---- the one or the other starts

of_mark : (o : Option Part) → found_item (footnote_of o) ≡ None
unfolding found_item item_parts
of_mark None = refl
of_mark (Some mark) = refl

of_marker : (columns : ℕ) (o : Option Marker) → found_label (item_after columns false o) ≡ None
unfolding found_label label_parts
of_marker columns None = refl
of_marker columns (Some m) =
    elim (cases_Bool (is_item false m)) [
      | inl t ↦ ap found_label (cond-true (is_item false m) _ _ t)
      | inr t ↦ ap found_label (cond-false (is_item false m) _ _ t)
    ]

no_item : (on : Constructs) (start : Rest) → found_item (footnote_start on start) ≡ None
unfolding found_item item_parts
no_item on start =
    let t = on.gfm_footnote_definition && small_indent on start in
    elim (cases_Bool t) [
      | inl h ↦ ap found_item (cond-true t _ _ h) ∙ of_mark (footnote_mark (bare start))
      | inr h ↦ ap found_item (cond-false t _ _ h)
    ]

no_label : (on : Constructs) (start : Rest) → found_label (item_start on false start) ≡ None
unfolding found_label label_parts
no_label on start =
    let t = on.list_item && small_indent on start && not (is_break on start) in
    elim (cases_Bool t) [
      | inl h ↦ ap found_label (cond-true t _ _ h) ∙ of_marker (indent start) (marker (bare start))
      | inr h ↦ ap found_label (cond-false t _ _ h)
    ]

item_or : (item footnote : Option ContainerStart) (o : Option ContainerLine) (i : ItemParts) (rest : Rest) (before : Kind) → found_item footnote ≡ None
    → quote_or (footnote_or item footnote) o ≡ Some (container_start (Item i) rest before) → item ≡ Some (container_start (Item i) rest before)
unfolding found_item item_parts
item_or item footnote (Some line) i rest before none is = let no : None ≡ Some i = ap found_item is in absurd (cc)
item_or item None None i rest before none is = is
item_or item (Some found) None i rest before none is = let no : None ≡ Some i = sym none ∙ ap found_item is in absurd (cc)

footnote_or_is : (item footnote : Option ContainerStart) (o : Option ContainerLine) (label rest : Rest) (before : Kind) → found_label item ≡ None
    → quote_or (footnote_or item footnote) o ≡ Some (container_start (Footnote label) rest before)
    → footnote ≡ Some (container_start (Footnote label) rest before)
unfolding found_label label_parts
footnote_or_is item footnote (Some line) label rest before none is = let no : None ≡ Some label = ap found_label is in absurd (cc)
footnote_or_is item None None label rest before none is = let no : None ≡ Some label = sym none ∙ ap found_label is in absurd (cc)
footnote_or_is item (Some found) None label rest before none is = is

-- the marker of an item that starts
pub item_starts : (on : Constructs) (start : Rest) (i : ItemParts) (rest : Rest) (before : Kind)
    → starts on false start ≡ Some (container_start (Item i) rest before)
    → IsItemStart start i rest
item_starts on start i rest before is =
    item_found on start i rest before (item_or (item_start on false start) (footnote_start on start) (quote_prefix on start) i rest before
    (no_item on start) is)

-- the label of a footnote definition that starts
pub footnote_starts : (on : Constructs) (start label rest : Rest) (before : Kind) → starts on false start ≡ Some (container_start (Footnote label) rest before)
    → IsFootnoteStart start label rest
footnote_starts on start label rest before is =
    footnote_found on start label rest before
    (footnote_or_is (item_start on false start) (footnote_start on start) (quote_prefix on start) label rest before (no_label on start) is)
