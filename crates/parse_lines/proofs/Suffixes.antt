-- What containers leave of a line is its end, from a column on.
use Rattle.std.proofs.Common.{◌≡◌, ℕ, ◌+◌, Bool, true, false, ◌&&◌, ◌||◌, not, List, [], ◌∷◌, Option, None, Some, eqb, refl, sym, ap, ◌∙◌, inl, inr, drop, take}
use Rattle.std.proofs.Common.{leb, ap₂}
use Rattle.parse_lines.proofs.Prelude.{after_bracket, after_byte, after_number, after_open, asterisk, bare, bullet, caret, cases_Bool, closed_by, colon}
use Rattle.parse_lines.proofs.Prelude.{cond-false, cond-true, Constructs, Container, container_line, container_start, ContainerLine, ContainerStart, continues}
use Rattle.parse_lines.proofs.Prelude.{dot, drop-drop, ends_label, eqb-true, Footnote, footnote_mark, footnote_of, footnote_or, footnote_start, gap, going_on}
use Rattle.parse_lines.proofs.Prelude.{hyphen, InAll, indent, InSome, into, is_blank, is_break, is_digit, is_footnote_label, is_item, is_quote, is_white, item}
use Rattle.parse_lines.proofs.Prelude.{Item, item_after, item_start, Kind, label_before, label_end, left_bracket, line_left, LineRest, list_all, Marker}
use Rattle.parse_lines.proofs.Prelude.{marker, marker_of, may_escape, number_of, ordered_marker, Part, plus, prefix_len, prefixed, Prefixed, Quote, quote_or}
use Rattle.parse_lines.proofs.Prelude.{quote_prefix, Rest, right_bracket, right_parenthesis, small_indent, starts, with_colon, ◌==◌}
use Rattle.std.specs.Prelude.{min}
use Rattle.std.proofs.Math.Nat.{min-le_right}
use Rattle.std.proofs.lemmas.Bool.{false≢true, leb-true}
use Rattle.parse_lines.proofs.White.{all_prefix, all_take}
use Rattle.definition_text.specs.Indents.{outdent}
use Rattle.definition_block.specs.BlockQuote.{after_mark}
use Rattle.markdown_options.specs.declared.beside.Kind.TheVariants.{Whitespace}
use Rattle.definition_block.specs.ListItem.{is_inside, item_continues}

-- a rest that is the end of another
abbrev pub IsEnd : Rest → Rest → Type 0
IsEnd rest whole = (n : ℕ) × (rest ≡ drop n whole)

pub ends_in : (a b c : Rest) → IsEnd a b → IsEnd b c → IsEnd a c
ends_in a b c p q = (q.0 + p.0, p.1 ∙ ap (drop p.0) q.1 ∙ drop-drop p.0 q.0 c)

-- the rest of what is found, if anything is
abbrev rest_in : Option ContainerStart → Rest
rest_in None = []
rest_in (Some found) = found.rest

abbrev part_rest : Option Part → Rest
part_rest None = []
part_rest (Some p) = p.rest

-- ---- containers that go on

after_byte_end : (byte : ℕ) (rest found : Rest) → after_byte byte rest ≡ Some found → IsEnd found rest
after_byte_end byte [] found is = absurd (cc)
after_byte_end byte (code ∷ codes) found is =
    elim (cases_Bool (eqb code byte)) [
      | inl h ↦ let e : Some codes ≡ Some found = sym (cond-true (eqb code byte) _ _ h) ∙ is in (1, cc)
      | inr h ↦ let e : None ≡ Some found = sym (cond-false (eqb code byte) _ _ h) ∙ is in absurd (cc)
    ]

after_mark_end : (rest : Option Rest) (whole : Rest) (line : ContainerLine) → ((found : Rest) → rest ≡ Some found → IsEnd found whole)
    → after_mark rest ≡ Some line → IsEnd line.rest whole
after_mark_end None whole line h is = absurd (cc)
after_mark_end (Some found) whole line h is =
    let e : line.rest ≡ outdent 1 found = cc in
    ends_in line.rest found whole (min 1 (indent found), e) (h found refl)

quote_end : (on : Constructs) (rest : Rest) (line : ContainerLine) → quote_prefix on rest ≡ Some line → IsEnd line.rest rest
quote_end on rest line is =
    elim (cases_Bool (on.block_quote && small_indent on rest)) [
      | inl h ↦
          after_mark_end (after_byte 62 (bare rest)) rest line
          (λ found e. ends_in found (bare rest) rest (after_byte_end 62 (bare rest) found e) (indent rest, refl))
          (sym (cond-true (on.block_quote && small_indent on rest) _ _ h) ∙ is)
      | inr h ↦ let e : None ≡ Some line = sym (cond-false (on.block_quote && small_indent on rest) _ _ h) ∙ is in absurd (cc)
    ]

-- the parts of a quote's prefix: white space, the mark, and what belongs to it
pub record QuoteParts (start rest : Rest) : Type 0 where
  pub codes : Rest
  pub mark : bare start ≡ 62 ∷ codes
  pub end : IsEnd rest codes
  pub white : list_all is_white (take end.0 codes) ≡ true

-- the byte that is first
pub after_byte_is : (byte : ℕ) (rest found : Rest) → after_byte byte rest ≡ Some found → rest ≡ byte ∷ found
after_byte_is byte [] found is = absurd (cc)
after_byte_is byte (code ∷ codes) found is =
    elim (cases_Bool (eqb code byte)) [
      | inl h ↦ let e : Some codes ≡ Some found = sym (cond-true (eqb code byte) _ _ h) ∙ is in let same = eqb-true code byte h in cc
      | inr h ↦ let e : None ≡ Some found = sym (cond-false (eqb code byte) _ _ h) ∙ is in absurd (cc)
    ]

mark_parts : (start : Rest) (o : Option Rest) (line : ContainerLine) → ((found : Rest) → o ≡ Some found → bare start ≡ 62 ∷ found)
    → after_mark o ≡ Some line → QuoteParts start line.rest
mark_parts start None line h is = absurd (cc)
mark_parts start (Some found) line h is =
    let e : line.rest ≡ outdent 1 found = cc in
    record {
      codes = found;
      mark = h found refl;
      end = (min 1 (indent found), e);
      white = all_prefix is_white (min 1 (indent found)) found (min-le_right 1 (indent found));
    }

pub quote_parts : (on : Constructs) (start : Rest) (line : ContainerLine) → quote_prefix on start ≡ Some line → QuoteParts start line.rest
quote_parts on start line is =
    elim (cases_Bool (on.block_quote && small_indent on start)) [
      | inl h ↦
          mark_parts start (after_byte 62 (bare start)) line (λ found e. after_byte_is 62 (bare start) found e)
          (sym (cond-true (on.block_quote && small_indent on start) _ _ h) ∙ is)
      | inr h ↦ let e : None ≡ Some line = sym (cond-false (on.block_quote && small_indent on start) _ _ h) ∙ is in absurd (cc)
    ]

item_end : (size : ℕ) (blank : Bool) (rest : Rest) (line : ContainerLine) → item_continues size blank rest ≡ Some line → IsEnd line.rest rest
item_end size blank rest line is =
    elim (cases_Bool (is_inside size blank rest)) [
      | inl h ↦ let e = sym (cond-true (is_inside size blank rest) _ _ h) ∙ is in (size, cc)
      | inr h ↦ let e : None ≡ Some line = sym (cond-false (is_inside size blank rest) _ _ h) ∙ is in absurd (cc)
    ]

pub continues_end : (on : Constructs) (c : Container) (rest : Rest) (line : ContainerLine) → continues on c false rest ≡ Some line → IsEnd line.rest rest
continues_end on Quote rest line is = quote_end on rest line is
continues_end on (Item item) rest line is = item_end item.size false rest line is
continues_end on (Footnote label) rest line is = item_end 4 false rest line is

-- a rest after white space
pub record IsAfterWhite (rest start : Rest) : Type 0 where
  pub count : ℕ
  pub is : rest ≡ drop count start
  pub white : list_all is_white (take count start) ≡ true

item_white : (size : ℕ) (rest : Rest) → is_inside size false rest ≡ true → list_all is_white (take size rest) ≡ true
item_white size rest inside =
    elim (cases_Bool (is_blank rest)) [
      | inl blank ↦ all_take is_white size rest blank
      | inr dark ↦ all_prefix is_white size rest (leb-true size (indent rest) (sym (cond-false (is_blank rest) _ _ dark) ∙ inside))
    ]

item_after_white : (size : ℕ) (rest : Rest) (line : ContainerLine) → item_continues size false rest ≡ Some line → IsAfterWhite line.rest rest
item_after_white size rest line is =
    elim (cases_Bool (is_inside size false rest)) [
      | inl h ↦
          let e : Some (container_line (drop size rest) Whitespace) ≡ Some line = sym (cond-true (is_inside size false rest) _ _ h) ∙ is in
          let same : line.rest ≡ drop size rest = cc in
          record { count = size; is = same; white = item_white size rest h }
      | inr h ↦ let e : None ≡ Some line = sym (cond-false (is_inside size false rest) _ _ h) ∙ is in absurd (cc)
    ]

-- an item and a footnote definition have white space on a later line
pub continues_white : (on : Constructs) (c : Container) (rest : Rest) (line : ContainerLine) → is_quote c ≡ false → continues on c false rest ≡ Some line
    → IsAfterWhite line.rest rest
continues_white on Quote rest line other is = absurd (false≢true (sym other))
continues_white on (Item item) rest line other is = item_after_white item.size rest line is
continues_white on (Footnote label) rest line other is = item_after_white 4 rest line is

-- ---- containers that start

bullet_end : (rest : Rest) (m : Marker) → bullet rest ≡ Some m → IsEnd m.rest rest
bullet_end [] m is = absurd (cc)
bullet_end (code ∷ codes) m is =
    elim (cases_Bool ((code == hyphen) || (code == plus) || (code == asterisk))) [
      | inl h ↦
          let e : Some (marker_of code None 1 codes) ≡ Some m = sym (cond-true ((code == hyphen) || (code == plus) || (code == asterisk)) _ _ h) ∙ is in
          (1, cc)
      | inr h ↦ let e : None ≡ Some m = sym (cond-false ((code == hyphen) || (code == plus) || (code == asterisk)) _ _ h) ∙ is in absurd (cc)
    ]

after_number_end : (number digits : ℕ) (rest : Rest) (m : Marker) → after_number number digits rest ≡ Some m → IsEnd m.rest rest
after_number_end number digits [] m is = absurd (cc)
after_number_end number digits (code ∷ codes) m is =
    elim (cases_Bool ((code == dot) || (code == right_parenthesis))) [
      | inl h ↦
          let e : Some (marker_of code (Some number) (digits + 1) codes) ≡ Some m = sym (cond-true ((code == dot) || (code == right_parenthesis)) _ _ h) ∙ is in
          (1, cc)
      | inr h ↦ let e : None ≡ Some m = sym (cond-false ((code == dot) || (code == right_parenthesis)) _ _ h) ∙ is in absurd (cc)
    ]

ordered_end : (digits : ℕ) (rest : Rest) (m : Marker) → ordered_marker digits rest ≡ Some m → IsEnd m.rest rest
ordered_end digits rest m is =
    elim (cases_Bool (leb digits 9)) [
      | inl h ↦
          let e = sym (cond-true (leb digits 9) _ _ h) ∙ is in
          ends_in m.rest (drop digits rest) rest (after_number_end (number_of (take digits rest)) digits (drop digits rest) m e) (digits, refl)
      | inr h ↦ let e : None ≡ Some m = sym (cond-false (leb digits 9) _ _ h) ∙ is in absurd (cc)
    ]

marker_end : (rest : Rest) (m : Marker) → marker rest ≡ Some m → IsEnd m.rest rest
marker_end rest m is =
    elim (cases_Bool (prefix_len is_digit rest == 0)) [
      | inl h ↦ bullet_end rest m (sym (cond-true (prefix_len is_digit rest == 0) _ _ h) ∙ is)
      | inr h ↦ ordered_end (prefix_len is_digit rest) rest m (sym (cond-false (prefix_len is_digit rest == 0) _ _ h) ∙ is)
    ]

item_after_end : (columns : ℕ) (o : Option Marker) (whole : Rest) (found : ContainerStart) → ((m : Marker) → o ≡ Some m → IsEnd m.rest whole)
    → item_after columns false o ≡ Some found → IsEnd found.rest whole
item_after_end columns None whole found h is = absurd (cc)
item_after_end columns (Some m) whole found h is =
    elim (cases_Bool (is_item false m)) [
      | inl t ↦
          let e : Some (item columns m) ≡ Some found = sym (cond-true (is_item false m) _ _ t) ∙ is in
          let rest : found.rest ≡ drop (gap m.rest) m.rest = ap rest_in (sym e) in
          ends_in found.rest m.rest whole (gap m.rest, rest) (h m refl)
      | inr t ↦ let e : None ≡ Some found = sym (cond-false (is_item false m) _ _ t) ∙ is in absurd (cc)
    ]

item_start_end : (on : Constructs) (rest : Rest) (found : ContainerStart) → item_start on false rest ≡ Some found → IsEnd found.rest rest
item_start_end on rest found is =
    elim (cases_Bool (on.list_item && small_indent on rest && not (is_break on rest))) [
      | inl h ↦
          item_after_end (indent rest) (marker (bare rest)) rest found
          (λ m e. ends_in m.rest (bare rest) rest (marker_end (bare rest) m e) (indent rest, refl))
          (sym (cond-true (on.list_item && small_indent on rest && not (is_break on rest)) _ _ h) ∙ is)
      | inr h ↦
          let e : None ≡ Some found = sym (cond-false (on.list_item && small_indent on rest && not (is_break on rest)) _ _ h) ∙ is in
          absurd (cc)
    ]

label_end_end : (escaped : Bool) (rest found : Rest) → label_end escaped rest ≡ Some found → IsEnd found rest
label_end_end escaped [] found is = absurd (cc)
label_end_end escaped (c ∷ cs) found is =
    elim (cases_Bool (ends_label escaped c)) [
      | inl h ↦
          let e = sym (cond-true (ends_label escaped c) _ _ h) ∙ is in
          (elim (cases_Bool (c == right_bracket)) [
            | inl k ↦ let f : Some (c ∷ cs) ≡ Some found = sym (cond-true (c == right_bracket) _ _ k) ∙ e in (0, cc)
            | inr k ↦ let f : None ≡ Some found = sym (cond-false (c == right_bracket) _ _ k) ∙ e in absurd (cc)
          ])
      | inr h ↦
          let more = label_end_end (may_escape escaped c) cs found (sym (cond-false (ends_label escaped c) _ _ h) ∙ is) in
          ends_in found cs (c ∷ cs) more (1, refl)
    ]

closed_end : (content : Rest) (o : Option Rest) (p : Part) → ((r : Rest) → o ≡ Some r → IsEnd r content) → closed_by content o ≡ Some p
    → IsEnd p.rest content
closed_end content None p h is = absurd (cc)
closed_end content (Some r) p h is =
    let rest : p.rest ≡ drop 1 r = ap part_rest (sym is) in
    ends_in p.rest r content (1, rest) (h r refl)

label_before_end : (label : Rest) (o : Option Rest) (p : Part) → label_before label o ≡ Some p → o ≡ Some p.rest
label_before_end label None p is = absurd (cc)
label_before_end label (Some r) p is = ap Some (sym (ap part_rest (sym is)))

with_colon_end : (o : Option Part) (whole : Rest) (p : Part) → ((label : Part) → o ≡ Some label → IsEnd label.rest whole) → with_colon o ≡ Some p
    → IsEnd p.rest whole
with_colon_end None whole p h is = absurd (cc)
with_colon_end (Some label) whole p h is =
    elim (cases_Bool (is_footnote_label label.text)) [
      | inl t ↦
          let e = sym (cond-true (is_footnote_label label.text) _ _ t) ∙ is in
          ends_in p.rest label.rest whole (after_byte_end colon label.rest p.rest (label_before_end label.text (after_byte colon label.rest) p e))
          (h label refl)
      | inr t ↦ let e : None ≡ Some p = sym (cond-false (is_footnote_label label.text) _ _ t) ∙ is in absurd (cc)
    ]

after_open_end : (o : Option Rest) (whole : Rest) (p : Part) → ((r : Rest) → o ≡ Some r → IsEnd r whole) → after_open o ≡ Some p → IsEnd p.rest whole
after_open_end None whole p h is = absurd (cc)
after_open_end (Some r) whole p h is =
    ends_in p.rest r whole
    (with_colon_end (closed_by r (label_end false r)) r p (λ label e. closed_end r (label_end false r) label (label_end_end false r) e) is)
    (h r refl)

after_bracket_end : (o : Option Rest) (whole : Rest) (p : Part) → ((r : Rest) → o ≡ Some r → IsEnd r whole) → after_bracket o ≡ Some p → IsEnd p.rest whole
after_bracket_end None whole p h is = absurd (cc)
after_bracket_end (Some r) whole p h is =
    after_open_end (after_byte caret r) whole p (λ x e. ends_in x r whole (after_byte_end caret r x e) (h r refl)) is

footnote_of_end : (o : Option Part) (whole : Rest) (found : ContainerStart) → ((p : Part) → o ≡ Some p → IsEnd p.rest whole) → footnote_of o ≡ Some found
    → IsEnd found.rest whole
footnote_of_end None whole found h is = absurd (cc)
footnote_of_end (Some mark) whole found h is =
    let rest : found.rest ≡ bare mark.rest = ap rest_in (sym is) in
    ends_in found.rest mark.rest whole (indent mark.rest, rest) (h mark refl)

footnote_end : (on : Constructs) (rest : Rest) (found : ContainerStart) → footnote_start on rest ≡ Some found → IsEnd found.rest rest
footnote_end on rest found is =
    elim (cases_Bool (on.gfm_footnote_definition && small_indent on rest)) [
      | inl h ↦
          footnote_of_end (footnote_mark (bare rest)) rest found
          (λ p e.
          ends_in p.rest (bare rest) rest
          (after_bracket_end (after_byte left_bracket (bare rest)) (bare rest) p (after_byte_end left_bracket (bare rest)) e)
          (indent rest, refl))
          (sym (cond-true (on.gfm_footnote_definition && small_indent on rest) _ _ h) ∙ is)
      | inr h ↦ let e : None ≡ Some found = sym (cond-false (on.gfm_footnote_definition && small_indent on rest) _ _ h) ∙ is in absurd (cc)
    ]

quote_or_end : (other : Option ContainerStart) (o : Option ContainerLine) (whole : Rest) (found : ContainerStart)
    → ((line : ContainerLine) → o ≡ Some line → IsEnd line.rest whole) → (other ≡ Some found → IsEnd found.rest whole) → quote_or other o ≡ Some found
    → IsEnd found.rest whole
quote_or_end other None whole found h k is = k is
quote_or_end other (Some line) whole found h k is =
    let rest : found.rest ≡ line.rest = ap rest_in (sym is) in
    let end = h line refl in
    (end.0, rest ∙ end.1)

footnote_or_end : (other o : Option ContainerStart) (whole : Rest) (found : ContainerStart) → (o ≡ Some found → IsEnd found.rest whole)
    → (other ≡ Some found → IsEnd found.rest whole) → footnote_or other o ≡ Some found → IsEnd found.rest whole
footnote_or_end other None whole found h k is = k is
footnote_or_end other (Some footnote) whole found h k is = h is

pub starts_end : (on : Constructs) (rest : Rest) (found : ContainerStart) → starts on false rest ≡ Some found → IsEnd found.rest rest
starts_end on rest found is =
    quote_or_end (footnote_or (item_start on false rest) (footnote_start on rest)) (quote_prefix on rest) rest found (quote_end on rest)
    (footnote_or_end (item_start on false rest) (footnote_start on rest) rest found (footnote_end on rest found) (item_start_end on rest found))
    is

-- ---- a quote starts where its prefix is

abbrev quote_in : Option ContainerStart → Bool
quote_in None = false
quote_in (Some found) = is_quote found.container

abbrev before_in : Option ContainerStart → Kind
before_in None = Whitespace
before_in (Some found) = found.before

item_after_other : (columns : ℕ) (o : Option Marker) → quote_in (item_after columns false o) ≡ false
item_after_other columns None = refl
item_after_other columns (Some m) =
    elim (cases_Bool (is_item false m)) [
      | inl t ↦ ap quote_in (cond-true (is_item false m) _ _ t)
      | inr t ↦ ap quote_in (cond-false (is_item false m) _ _ t)
    ]

item_other : (on : Constructs) (rest : Rest) → quote_in (item_start on false rest) ≡ false
item_other on rest =
    elim (cases_Bool (on.list_item && small_indent on rest && not (is_break on rest))) [
      | inl h ↦
          ap quote_in (cond-true (on.list_item && small_indent on rest && not (is_break on rest)) _ _ h)
          ∙ item_after_other (indent rest) (marker (bare rest))
      | inr h ↦ ap quote_in (cond-false (on.list_item && small_indent on rest && not (is_break on rest)) _ _ h)
    ]

footnote_of_other : (o : Option Part) → quote_in (footnote_of o) ≡ false
footnote_of_other None = refl
footnote_of_other (Some mark) = refl

footnote_other : (on : Constructs) (rest : Rest) → quote_in (footnote_start on rest) ≡ false
footnote_other on rest =
    elim (cases_Bool (on.gfm_footnote_definition && small_indent on rest)) [
      | inl h ↦ ap quote_in (cond-true (on.gfm_footnote_definition && small_indent on rest) _ _ h) ∙ footnote_of_other (footnote_mark (bare rest))
      | inr h ↦ ap quote_in (cond-false (on.gfm_footnote_definition && small_indent on rest) _ _ h)
    ]

footnote_or_other : (other o : Option ContainerStart) → quote_in other ≡ false → quote_in o ≡ false → quote_in (footnote_or other o) ≡ false
footnote_or_other other None h k = h
footnote_or_other other (Some footnote) h k = k

prefix_of_quote : (other : Option ContainerStart) (o : Option ContainerLine) (rest : Rest) (before : Kind) → quote_in other ≡ false
    → quote_or other o ≡ Some (container_start Quote rest before) → o ≡ Some (container_line rest before)
prefix_of_quote other None rest before h is = absurd (false≢true (sym h ∙ ap quote_in is))
prefix_of_quote other (Some line) rest before h is = ap Some (ap₂ container_line (ap rest_in is) (ap before_in is))

pub quote_starts : (on : Constructs) (start rest : Rest) (before : Kind) → starts on false start ≡ Some (container_start Quote rest before)
    → quote_prefix on start ≡ Some (container_line rest before)
quote_starts on start rest before is =
    prefix_of_quote (footnote_or (item_start on false start) (footnote_start on start)) (quote_prefix on start) rest before
    (footnote_or_other (item_start on false start) (footnote_start on start) (item_other on start) (footnote_other on start))
    is

-- ---- all open containers

-- what is left of a line: its end, and the same ending after it
pub record Follows (line here : LineRest) : Type 0 where
  pub end : IsEnd here.rest line.rest
  pub ending : here.beside.ending ≡ line.beside.ending

going_on_follows : (line : LineRest) (more : Option ContainerLine) → ((found : ContainerLine) → more ≡ Some found → IsEnd found.rest line.rest)
    → Follows line (line_left (going_on more line))
going_on_follows line None h = record { end = (0, refl); ending = refl }
going_on_follows line (Some found) h = record { end = h found refl; ending = refl }

into_follows : (on : Constructs) (c : Container) (line : LineRest) (here : Prefixed) → Follows line (line_left here) → Follows line (line_left (into on c here))
into_follows on c line (InAll here) f =
    let g = going_on_follows here (continues on c false here.rest) (λ found e. continues_end on c here.rest found e) in
    record { end = ends_in _ here.rest line.rest g.end f.end; ending = g.ending ∙ f.ending }
into_follows on c line (InSome here) f = f

pub prefixed_follows : (on : Constructs) (containers : List Container) (line : LineRest) → Follows line (line_left (prefixed on containers line))
prefixed_follows on [] line = record { end = (0, refl); ending = refl }
prefixed_follows on (c ∷ around) line = into_follows on c line (prefixed on around line) (prefixed_follows on around line)
