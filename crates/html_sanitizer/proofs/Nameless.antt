-- A page with raw HTML in elements without a name, as the code cuts it.
use Rattle.std.proofs.Common.{◌≡◌, ℕ, zero, suc, ◌+◌, ◌-◌, ◌<◌, ◌≤◌, Bool, true, false, not, ◌&&◌, ◌||◌, cond, eqb, List, [], ◌∷◌, ◌++◌, Option, None, Some}
use Rattle.std.proofs.Common.{codes, length, take, drop, refl, sym, ap, ◌∙◌, arith, inl, inr, get_or, append_assoc, append-nil}
use Rattle.std.specs.Prelude.{unwrap_or}
use Rattle.std.specs.List.{fold, list_all, prefix_len, take_while}
use Rattle.std.specs.Option.{IfSome, is_some, option_and_then, option_map}
use Rattle.std.specs.Str.{IsCharBoundary, IsUtf8}
use Rattle.std.proofs.lemmas.Bool.{cases_Bool, cond-true, cond-false, eqb-true, false≢true, and_parts, and_from}
use Rattle.std.proofs.lemmas.Bool.Decides.{nat_tests}
use Rattle.std.proofs.lemmas.List.{length-append, length-drop, take-append-drop}
use Rattle.std.proofs.lemmas.List.Sums.{prefix_len-le-length}
use Rattle.markdown_compile_options.specs.declared.configuration.CompileOptions.{CompileOptions}
use Rattle.definition_text.specs.Bytes.{begins_with, after_all, is_letter_or_digit}
use Rattle.definition_text.specs.Content.{Part, part}
use Rattle.definition_text.specs.Lines.{ends_line}
use Rattle.definition_inline.specs.CharacterReference.{Names}
use Rattle.definition_inline.specs.GfmAutolinkLiteral.{ends_with}
use Rattle.html_safe_page.specs.SafePage.{kind, Plain}
use Rattle.html_safe_page.specs.Machine.{is_mark, may_stand}
use Rattle.html_safe_page.specs.Reader.{strip, join_kind, read_text}
use Rattle.html_safe_page.proofs.Text.{by_kind, is_plain, plain_other, strip_sound}
use Rattle.html_safe_page.proofs.Steps.{text_more}
use Rattle.definition_html.specs.PageParts.{PagePart, FoundPart, is_in_text, is_in_tag, after_tag, raw_run, raw_found, own_part, own_found}
use Rattle.definition_html.specs.PageParts.{page_parts_after, page_parts}
use Rattle.definition_html.specs.State.{State, says, with_room, entered, left, all_ended}
use Rattle.definition_html.specs.Listed.{page_part}
use Rattle.html_listed.proofs.Pass.{bytes_run}
use Rattle.html_listed.proofs.Nameless.{run_part}
use Rattle.html_sanitizer.specs.Elements.{is_letter, begins_marked, run_at, in_brackets, first_name, own_printed, parts_after}
use Rattle.html_sanitizer.specs.Sanitized.{page_after}
use Rattle.html_sanitizer.proofs.Reading.{front_boundary, stop_boundary}

-- ---- where a page may be cut

text_small : (b : ℕ) → is_in_text b ≡ false → b < 256 → b < 128
text_small b h lt = grind (arith, nat_tests)

tag_small : (b : ℕ) → is_in_tag b ≡ false → b < 256 → b < 128
tag_small b h lt = grind (arith, nat_tests)

letter_small : (b : ℕ) → is_letter b ≡ false → b < 256 → b < 128
letter_small b h lt = grind (arith, nat_tests)

line_small : (b : ℕ) → ends_line b ≡ true → b < 256 → b < 128
line_small b h lt = grind (arith, nat_tests)

name_small : (b : ℕ) → is_letter_or_digit b ≡ true → b < 256 → b < 128
name_small b h lt = grind (arith, nat_tests)

module _ (text : List ℕ) (bytes : (k : ℕ) → get_or text k 0 < 256) (utf8 : IsUtf8 text) where
  pub text_boundary : IsCharBoundary text (prefix_len is_in_text text)
  text_boundary = stop_boundary is_in_text text text_small bytes utf8

  pub tag_boundary : IsCharBoundary text (prefix_len is_in_tag text)
  tag_boundary = stop_boundary is_in_tag text tag_small bytes utf8

  pub letter_boundary : IsCharBoundary text (prefix_len is_letter text)
  letter_boundary = stop_boundary is_letter text letter_small bytes utf8

  pub line_boundary : IsCharBoundary text (prefix_len ends_line text)
  line_boundary = front_boundary ends_line text line_small bytes utf8

  pub name_boundary : IsCharBoundary text (prefix_len is_letter_or_digit text)
  name_boundary = front_boundary is_letter_or_digit text name_small bytes utf8

-- equal tests
prefix_same : (p q : ℕ → Bool) (xs : List ℕ) → ((b : ℕ) → p b ≡ q b) → prefix_len p xs ≡ prefix_len q xs
prefix_same p q [] h = refl
prefix_same p q (x ∷ xs) h = ap (λ t. cond t (1 + prefix_len p xs) 0) (h x) ∙ ap (λ n. cond (q x) (1 + n) 0) (prefix_same p q xs h)

or_same : (a : Bool) → (a || a) ≡ a
or_same true = refl
or_same false = refl

-- a pair of equal bytes
pub one_byte : (n : ℕ) (xs : List ℕ) → prefix_len (λ b. not (eqb b n || eqb b n)) xs ≡ prefix_len (λ b. not (eqb b n)) xs
one_byte n xs = prefix_same (λ b. not (eqb b n || eqb b n)) (λ b. not (eqb b n)) xs (λ b. ap not (or_same (eqb b n)))

-- ---- runs of bytes

one_more : (n : ℕ) → 1 + n ≡ suc n
one_more n = omega arith

module _ (p : ℕ → Bool) where
  passed_one : (b : ℕ) (bs : List ℕ) → p b ≡ true → after_all p (b ∷ bs) ≡ after_all p bs
  passed_one b bs h = ap (λ n. drop n (b ∷ bs)) (cond-true (p b) (1 + prefix_len p bs) 0 h ∙ one_more (prefix_len p bs))

  stopped_one : (b : ℕ) (bs : List ℕ) → p b ≡ false → after_all p (b ∷ bs) ≡ b ∷ bs
  stopped_one b bs h = ap (λ n. drop n (b ∷ bs)) (cond-false (p b) (1 + prefix_len p bs) 0 h)

  pub all_pass : (xs : List ℕ) → list_all p (take_while p xs) ≡ true
  all_pass [] = refl
  all_pass (x ∷ xs) = elim (cases_Bool (p x)) [
    | inl h ↦
        ap (λ k. list_all p (take k (x ∷ xs))) (cond-true (p x) (1 + prefix_len p xs) 0 h ∙ one_more (prefix_len p xs))
        ∙ and_from (p x) (list_all p (take_while p xs)) h (all_pass xs)
    | inr h ↦ ap (λ k. list_all p (take k (x ∷ xs))) (cond-false (p x) (1 + prefix_len p xs) 0 h)
  ]

  pub both_parts : (xs : List ℕ) → take_while p xs ++ after_all p xs ≡ xs
  both_parts xs = take-append-drop (prefix_len p xs) xs

  pub no_longer : (xs : List ℕ) → length (after_all p xs) ≤ length xs
  no_longer xs = omega (arith, length-drop (prefix_len p xs) xs)

pub tag_no_longer : (xs : List ℕ) → length (after_tag xs) ≤ length xs
tag_no_longer xs = omega (arith, length-drop 1 (after_all is_in_tag xs), no_longer is_in_tag xs)

-- no `>` is left
pub no_end : (xs : List ℕ) → ((rest : List ℕ) → after_all is_in_tag xs ≡ 62 ∷ rest → ⊥) → [] ≡ after_tag xs
no_end [] none = refl
no_end (x ∷ xs) none = elim (cases_Bool (eqb x 62)) [
  | inl h ↦ absurd (none xs (stopped_one is_in_tag x xs (ap not h) ∙ ap (λ b. b ∷ xs) (eqb-true x 62 h)))
  | inr h ↦
      let more = passed_one is_in_tag x xs (ap not h) in no_end xs (λ rest e. none rest (more ∙ e)) ∙ ap (drop 1) (sym more)
]

-- what follows a text is nothing, or begins with `<`
pub sign_after : (xs : List ℕ) → (length (after_all is_in_text xs) ≡ 0 → ⊥) → begins_with (codes "<") (after_all is_in_text xs) ≡ true
sign_after [] some = absurd (some refl)
sign_after (x ∷ xs) some = elim (cases_Bool (eqb x 60)) [
  | inl h ↦ ap (begins_with (codes "<")) (stopped_one is_in_text x xs (ap not h) ∙ ap (λ b. b ∷ xs) (eqb-true x 60 h))
  | inr h ↦
      let more = passed_one is_in_text x xs (ap not h) in
      ap (begins_with (codes "<")) more ∙ sign_after xs (λ none. some (ap length more ∙ none))
]

-- what follows letters is nothing, or begins with another byte
pub mark_after : (xs : List ℕ) → (length (after_all is_letter xs) ≡ 0 → ⊥) → begins_marked (after_all is_letter xs) ≡ true
mark_after [] some = absurd (some refl)
mark_after (x ∷ xs) some = elim (cases_Bool (is_mark x)) [
  | inl h ↦ ap begins_marked (stopped_one is_letter x xs (ap not h)) ∙ h
  | inr h ↦
      let more = passed_one is_letter x xs (ap not h) in
      ap begins_marked more ∙ mark_after xs (λ none. some (ap length more ∙ none))
]

-- ---- letters and references

not_mark : (b : ℕ) → is_letter b ≡ true → kind b ≡ Plain
not_mark b = by_kind (λ b. is_letter b ≡ true → kind b ≡ Plain)
    (λ h. absurd (false≢true h)) (λ h. absurd (false≢true h)) (λ h. absurd (false≢true h)) (λ h. absurd (false≢true h)) (λ b k h. k) b

pub map_none : (o : Option (List ℕ)) → o ≡ option_map (λ t. [] ++ t) o
map_none None = refl
map_none (Some t) = refl

map_letter : (b : ℕ) (bs : List ℕ) (o : Option (List ℕ))
    → option_and_then (join_kind Plain b) (option_map (λ t. bs ++ t) o) ≡ option_map (λ t. (b ∷ bs) ++ t) o
map_letter b bs None = refl
map_letter b bs (Some t) = refl

letters_read : (m rest : List ℕ) → list_all is_letter m ≡ true → read_text (m ++ rest) ≡ option_map (λ t. m ++ t) (read_text rest)
letters_read [] rest h = map_none (read_text rest)
letters_read (b ∷ bs) rest h =
    let parts = and_parts (is_letter b) (list_all is_letter bs) h in
    ap (λ k. option_and_then (join_kind k b) (read_text (bs ++ rest))) (not_mark b parts.0)
    ∙ ap (option_and_then (join_kind Plain b)) (letters_read bs rest parts.1)
    ∙ map_letter b bs (read_text rest)

pub front_read : (text : List ℕ) → read_text text ≡ option_map (λ t. take_while is_letter text ++ t) (read_text (after_all is_letter text))
front_read text =
    ap read_text (sym (both_parts is_letter text))
    ∙ letters_read (take_while is_letter text) (after_all is_letter text) (all_pass is_letter text)

no_strip : (name bytes : List ℕ) → ((rest : List ℕ) → 38 ∷ bytes ≡ 38 ∷ (name ++ rest) → ⊥) → is_some (strip name bytes) ≡ false
no_strip name bytes none = by_case (strip name bytes) (strip_sound name bytes)
  where
    by_case : (o : Option (List ℕ)) → IfSome o (λ rest. name ++ rest ≡ bytes) → is_some o ≡ false
    by_case None h = refl
    by_case (Some rest) h = absurd (none rest (ap (λ x. 38 ∷ x) (sym h)))

none_of : (o : Option (List ℕ)) → is_some o ≡ false → None ≡ o
none_of None h = refl
none_of (Some t) h = absurd (false≢true (sym h))

no_plain : (b : ℕ) → is_mark b ≡ true → kind b ≡ Plain → ⊥
no_plain b = by_kind (λ b. is_mark b ≡ true → kind b ≡ Plain → ⊥) (λ h k. false≢true (ap is_plain k)) (λ h k. false≢true (ap is_plain k))
    (λ h k. false≢true (ap is_plain k)) (λ h k. false≢true (ap is_plain k))
    (λ b e h k. false≢true (sym (and_left_false (eqb b 38) (eqb b 34) (eqb b 60) (eqb b 62) (plain_other b 38 k refl) (plain_other b 34 k refl)
    (plain_other b 60 k refl) (plain_other b 62 k refl)) ∙ h)) b
  where
    and_left_false : (p q r s : Bool) → p ≡ false → q ≡ false → r ≡ false → s ≡ false → (p || q || r || s) ≡ false
    and_left_false p q r s h i j k =
        ap (λ t. t || q || r || s) h ∙ ap (λ t. t || r || s) i ∙ ap (λ t. t || s) j ∙ k

-- a byte that begins no reference
pub stray_read : (text : List ℕ) → begins_marked text ≡ true → ((rest : List ℕ) → text ≡ codes "&amp;" ++ rest → ⊥)
    → ((rest : List ℕ) → text ≡ codes "&quot;" ++ rest → ⊥) → ((rest : List ℕ) → text ≡ codes "&lt;" ++ rest → ⊥)
    → ((rest : List ℕ) → text ≡ codes "&gt;" ++ rest → ⊥) → None ≡ read_text text
stray_read [] h amp quot lt gt = absurd (false≢true h)
stray_read (b ∷ bs) h amp quot lt gt =
    none_of (read_text (b ∷ bs)) (text_more b bs ∙ ap (λ t. t && is_some (read_text bs)) (cannot b h amp quot lt gt))
  where
    cannot : (b : ℕ) → is_mark b ≡ true → ((rest : List ℕ) → b ∷ bs ≡ codes "&amp;" ++ rest → ⊥) → ((rest : List ℕ) → b ∷ bs ≡ codes "&quot;" ++ rest → ⊥)
        → ((rest : List ℕ) → b ∷ bs ≡ codes "&lt;" ++ rest → ⊥) → ((rest : List ℕ) → b ∷ bs ≡ codes "&gt;" ++ rest → ⊥) → may_stand b bs ≡ false
    cannot b = by_kind (λ b. is_mark b ≡ true → ((rest : List ℕ) → b ∷ bs ≡ codes "&amp;" ++ rest → ⊥)
        → ((rest : List ℕ) → b ∷ bs ≡ codes "&quot;" ++ rest → ⊥)
        → ((rest : List ℕ) → b ∷ bs ≡ codes "&lt;" ++ rest → ⊥) → ((rest : List ℕ) → b ∷ bs ≡ codes "&gt;" ++ rest → ⊥) → may_stand b bs ≡ false)
        (λ h amp quot lt gt. ap (λ t. t || is_some (strip (codes "quot;") bs) || is_some (strip (codes "lt;") bs) || is_some (strip (codes "gt;") bs))
        (no_strip (codes "amp;") bs amp)
        ∙ ap (λ t. t || is_some (strip (codes "lt;") bs) || is_some (strip (codes "gt;") bs)) (no_strip (codes "quot;") bs quot)
        ∙ ap (λ t. t || is_some (strip (codes "gt;") bs)) (no_strip (codes "lt;") bs lt)
        ∙ no_strip (codes "gt;") bs gt)
        (λ h amp quot lt gt. refl) (λ h amp quot lt gt. refl) (λ h amp quot lt gt. refl)
        (λ b k h. absurd (no_plain b h k)) b

-- what was read, and what is read next
pub read_three : (a b c : List ℕ) (o : Option (List ℕ))
    → option_map (λ t. ((a ++ b) ++ c) ++ t) o ≡ option_map (λ t. a ++ t) (option_map (λ t. b ++ t) (option_map (λ t. c ++ t) o))
read_three a b c None = refl
read_three a b c (Some t) = ap Some (append_assoc (a ++ b) c t ∙ append_assoc a b (c ++ t))

-- nothing is left to read
pub read_all : (out rest text : List ℕ) → length rest ≡ 0 → option_map (λ t. out ++ t) (read_text rest) ≡ read_text text → out ≡ unwrap_or (read_text text) []
read_all out [] text none e = sym (append-nil out) ∙ ap (λ o. unwrap_or o []) e
read_all out (b ∷ bs) text none e = absurd (omega arith)

read_two : (a b : List ℕ) (o : Option (List ℕ)) → option_map (λ t. (a ++ b) ++ t) o ≡ option_map (λ t. a ++ t) (option_map (λ t. b ++ t) o)
read_two a b None = refl
read_two a b (Some t) = ap Some (append_assoc a b t)

front_at : (letters marked rest : List ℕ) → letters ≡ take_while is_letter rest → marked ≡ after_all is_letter rest
    → option_map (λ t. letters ++ t) (read_text marked) ≡ read_text rest
front_at letters marked rest is after =
    ap (λ x. option_map (λ t. x ++ t) (read_text marked)) is
    ∙ ap (λ x. option_map (λ t. take_while is_letter rest ++ t) (read_text x)) after
    ∙ sym (front_read rest)

-- only letters were left
pub read_last : (out letters marked rest text : List ℕ) → length marked ≡ 0 → letters ≡ take_while is_letter rest → marked ≡ after_all is_letter rest
    → option_map (λ t. out ++ t) (read_text rest) ≡ read_text text → out ++ letters ≡ unwrap_or (read_text text) []
read_last out letters [] rest text none is after e =
    sym (append-nil (out ++ letters))
    ∙ ap (λ o. unwrap_or o []) (read_two out letters (read_text []) ∙ ap (option_map (λ t. out ++ t)) (front_at letters [] rest is after) ∙ e)
read_last out letters (b ∷ bs) rest text none is after e = absurd (omega arith)

-- a letter is read
pub read_step : (out letters marked letter after rest text : List ℕ) → letters ≡ take_while is_letter rest → marked ≡ after_all is_letter rest
    → option_map (λ t. letter ++ t) (read_text after) ≡ read_text marked
    → option_map (λ t. out ++ t) (read_text rest) ≡ read_text text
    → option_map (λ t. ((out ++ letters) ++ letter) ++ t) (read_text after) ≡ read_text text
read_step out letters marked letter after rest text is place found e =
    read_three out letters letter (read_text after)
    ∙ ap (λ o. option_map (λ t. out ++ t) (option_map (λ t. letters ++ t) o)) found
    ∙ ap (option_map (λ t. out ++ t)) (front_at letters marked rest is place)
    ∙ e

-- other bytes follow
pub read_none : (out marked rest text : List ℕ) → marked ≡ after_all is_letter rest → None ≡ read_text marked
    → option_map (λ t. out ++ t) (read_text rest) ≡ read_text text → [] ≡ unwrap_or (read_text text) []
read_none out marked rest text place none e =
    ap (λ o. unwrap_or o []) (ap (λ o. option_map (λ t. out ++ t) (option_map (λ t. take_while is_letter rest ++ t) o)) (none ∙ ap read_text place)
    ∙ ap (option_map (λ t. out ++ t)) (sym (front_read rest)) ∙ e)

-- ---- elements without a name

abbrev next_of : List ℕ → List ℕ
next_of inside = after_all ends_line (after_tag (after_all is_in_text inside))

-- the elements that are left to read make the run of the page
pub record IsInRun (page old out rest : List ℕ) : Type 0 where
  pub most : ℕ
  pub enough : length rest ≤ suc most
  pub begins : begins_with (codes "<>") rest ≡ true
  pub said : out ++ (let run = raw_run most rest in run.text) ≡ old ++ (let run = run_at page in run.text)
  pub place : (let run = raw_run most rest in run.rest) ≡ (let run = run_at page in run.rest)
  pub shorter : length rest ≤ length page

pub whole_run : (page old : List ℕ) → begins_with (codes "<>") page ≡ true → IsInRun page old old page
whole_run page old h = record { most = length page - 1; enough = omega arith; begins = h; said = refl; place = refl; shorter = omega arith }

run_cases : (most : ℕ) (inside : List ℕ) → raw_run (suc most) (60 ∷ 62 ∷ inside) ≡ cond (begins_with (codes "<>") (next_of inside))
    (let others = raw_run most (next_of inside) in
    part (take_while is_in_text inside ++ take_while ends_line (after_tag (after_all is_in_text inside)) ++ others.text) others.rest)
    (part (take_while is_in_text inside) (after_tag (after_all is_in_text inside)))
run_cases most inside = refl

fewer : (most : ℕ) (inside : List ℕ) → length (60 ∷ 62 ∷ inside) ≤ suc most → most ≡ suc (most - 1)
fewer most inside h = omega arith

module _ (page old out rest inside : List ℕ) (so : IsInRun page old out rest) (is : rest ≡ codes "<>" ++ inside) where
  at_most : raw_run so.most rest ≡ raw_run (suc (so.most - 1)) (60 ∷ 62 ∷ inside)
  at_most =
      let size = so.enough in
      let long = ap length is in
      let more : so.most ≡ suc (so.most - 1) = omega arith in
      ap (λ x. raw_run so.most x) is ∙ ap (λ n. raw_run n (60 ∷ 62 ∷ inside)) more

  -- the last element
  pub run_ends : (after text : List ℕ) → begins_with (codes "<>") (next_of inside) ≡ false → text ≡ take_while is_in_text inside
      → after ≡ after_tag (after_all is_in_text inside)
      → (out ++ text ≡ old ++ (let run = run_at page in run.text)) × (after ≡ (let run = run_at page in run.rest))
  run_ends after text h said place =
      let last : raw_run so.most rest ≡ part (take_while is_in_text inside) (after_tag (after_all is_in_text inside)) =
      at_most ∙ cond-false (begins_with (codes "<>") (next_of inside)) _ (part (take_while is_in_text inside) (after_tag (after_all is_in_text inside))) h in (
        ap (λ x. out ++ x) (said ∙ sym (ap (λ (p : Part). p.text) last)) ∙ so.said,
        place ∙ sym (ap (λ (p : Part). p.rest) last) ∙ so.place,
      )

  -- one more follows
  pub run_goes_on : (text lines next : List ℕ) → begins_with (codes "<>") next ≡ true → text ≡ take_while is_in_text inside
      → lines ≡ take_while ends_line (after_tag (after_all is_in_text inside)) → next ≡ next_of inside → IsInRun page old ((out ++ text) ++ lines) next
  run_goes_on text lines next h said ended place =
      let others = raw_run (so.most - 1) (next_of inside) in
      let front = take_while is_in_text inside in
      let between = take_while ends_line (after_tag (after_all is_in_text inside)) in
      let more : raw_run so.most rest ≡ part (front ++ between ++ others.text) others.rest =
      at_most ∙ cond-true (begins_with (codes "<>") (next_of inside)) (part (front ++ between ++ others.text) others.rest) _
      (ap (begins_with (codes "<>")) (sym place) ∙ h) in
      let same : raw_run (so.most - 1) next ≡ others = ap (raw_run (so.most - 1)) place in
      let size = so.enough in
      let within = so.shorter in
      let long = ap length is in
      let less = no_longer ends_line (after_tag (after_all is_in_text inside)) in
      let less_tag = tag_no_longer (after_all is_in_text inside) in
      let less_text = no_longer is_in_text inside in
      let next_long = ap length place in
      record {
        most = so.most - 1;
        enough = omega arith;
        begins = h;
        said = ap (λ (p : Part). ((out ++ text) ++ lines) ++ p.text) same
            ∙ ap (λ x. ((out ++ x) ++ lines) ++ others.text) said
            ∙ ap (λ x. ((out ++ front) ++ x) ++ others.text) ended
            ∙ ap (λ x. x ++ others.text) (append_assoc out front between)
            ∙ append_assoc out (front ++ between) others.text
            ∙ ap (λ x. out ++ x) (sym (ap (λ (p : Part). p.text) more))
            ∙ so.said;
        place = ap (λ (p : Part). p.rest) same ∙ sym (ap (λ (p : Part). p.rest) more) ∙ so.place;
        shorter = omega arith;
      }

  pub after_less : length (after_tag (after_all is_in_text inside)) < length page
  after_less =
      let within = so.shorter in
      let long = ap length is in
      let less_tag = tag_no_longer (after_all is_in_text inside) in
      let less_text = no_longer is_in_text inside in
      omega arith

  pub next_less : (next : List ℕ) → next ≡ next_of inside → length next < length rest
  next_less next place =
      let long = ap length is in
      let less = no_longer ends_line (after_tag (after_all is_in_text inside)) in
      let less_tag = tag_no_longer (after_all is_in_text inside) in
      let less_text = no_longer is_in_text inside in
      let next_long = ap length place in
      omega arith

-- an element always follows
pub run_there : (rest : List ℕ) → begins_with (codes "<>") rest ≡ true → ((inside : List ℕ) → rest ≡ codes "<>" ++ inside → ⊥) → ⊥
run_there [] h none = false≢true h
run_there (b ∷ []) h none = false≢true (sym (and_none (eqb 60 b)) ∙ h)
  where
    and_none : (a : Bool) → (a && false) ≡ false
    and_none true = refl
    and_none false = refl
run_there (b ∷ c ∷ cs) h none =
    let one = and_parts (eqb 60 b) (eqb 62 c && true) h in
    let two = and_parts (eqb 62 c) true one.1 in
    none cs (ap (λ x. x ∷ c ∷ cs) (sym (eqb-true 60 b one.0)) ∙ ap (λ x. 60 ∷ x ∷ cs) (sym (eqb-true 62 c two.0)))

-- ---- parts

taken_parts : (n : ℕ) (bs : List ℕ) → page_parts_after n bs ≡ page_parts (drop n bs)
taken_parts zero bs = refl
taken_parts (suc n) [] = refl
taken_parts (suc n) (b ∷ bs) = taken_parts n bs

drop_more : (n : ℕ) (bs : List ℕ) → drop (suc n) bs ≡ drop 1 (drop n bs)
drop_more zero bs = refl
drop_more (suc n) [] = refl
drop_more (suc n) (b ∷ bs) = drop_more n bs

module _ (names : Names) (options : CompileOptions) where
  -- the text at the front of a page
  pub text_passed : (s : State) (text : List ℕ)
      → parts_after names options (says (take_while is_in_text text) s) (after_all is_in_text text) ≡ parts_after names options s text
  text_passed s text =
      sym (bytes_run names options (take_while is_in_text text) (after_all is_in_text text) s (all_pass is_in_text text))
      ∙ ap (parts_after names options s) (both_parts is_in_text text)

  -- a tag of the page's own
  own_first : (bs : List ℕ) → begins_with (codes "<>") (60 ∷ bs) ≡ false
      → page_parts (60 ∷ bs) ≡ own_part (take_while is_in_tag bs) ∷ page_parts (after_tag bs)
  own_first bs h =
      let inside = take_while is_in_tag bs in
      let n = prefix_len is_in_tag bs in
      let within = prefix_len-le-length is_in_tag bs in
      let both = ap length (both_parts is_in_tag bs) in
      let sum = length-append inside (after_all is_in_tag bs) in
      let rest = length-drop n bs in
      let size : length inside + 2 - 1 ≡ suc n = omega arith in
      ap (λ (found : FoundPart). found.part ∷ page_parts_after (found.size - 1) bs)
      (cond-false (begins_with (codes "<>") (60 ∷ bs)) (raw_found (60 ∷ bs) (raw_run (length bs) (60 ∷ bs))) (own_found inside) h)
      ∙ ap (λ k. own_part inside ∷ page_parts_after k bs) size
      ∙ ap (λ ps. own_part inside ∷ ps) (taken_parts (suc n) bs ∙ ap page_parts (drop_more n bs))

  own_step : (s : State) (inside : List ℕ) → page_part names options s (own_part inside) ≡ own_printed s inside
  own_step s inside = by_case (begins_with (codes "/") inside) (ends_with (codes " /") inside)
    where
      by_case : (end void : Bool) → page_part names options s (cond end (PagePart.OwnEnd (in_brackets inside))
          (cond void (PagePart.OwnVoid (in_brackets inside) (first_name inside)) (PagePart.Own (in_brackets inside) (first_name inside))))
          ≡ cond end (says (in_brackets inside) (left (all_ended s))) (cond void (says (in_brackets inside) (with_room (first_name inside) s))
          (entered (first_name inside) (says (in_brackets inside) (with_room (first_name inside) s))))
      by_case true void = refl
      by_case false true = refl
      by_case false false = refl

  pub own_passed : (s t : State) (rest bs inside after : List ℕ) → begins_with (codes "<>") rest ≡ false → rest ≡ 60 ∷ bs
      → inside ≡ take_while is_in_tag bs → after ≡ after_tag bs → t ≡ own_printed s inside
      → parts_after names options t after ≡ parts_after names options s rest
  own_passed s t rest bs inside after h is within place printed =
      ap (λ u. parts_after names options u after) (printed ∙ ap (own_printed s) within ∙ sym (own_step s (take_while is_in_tag bs)))
      ∙ ap (parts_after names options (page_part names options s (own_part (take_while is_in_tag bs)))) place
      ∙ sym (ap (fold (page_part names options) s) (ap page_parts is ∙ own_first bs (ap (begins_with (codes "<>")) (sym is) ∙ h)))

  -- raw HTML
  pub raw_passed : (s t : State) (rest inside text html after : List ℕ) → rest ≡ codes "<>" ++ inside → text ≡ (let run = run_at rest in run.text)
      → after ≡ (let run = run_at rest in run.rest) → html ≡ unwrap_or (read_text text) [] → t ≡ page_after names options s html
      → parts_after names options t after ≡ parts_after names options s rest
  raw_passed s t rest inside text html after is said place read printed =
      let page = 60 ∷ 62 ∷ inside in
      let fuel : length page - 1 ≡ suc (length inside) = omega arith in
      let run : run_at rest ≡ raw_run (suc (length inside)) page = ap run_at is ∙ ap (λ n. raw_run n page) fuel in
      let html_is = read ∙ ap (λ x. unwrap_or (read_text x) []) (said ∙ ap (λ (p : Part). p.text) run) in
      ap (λ u. parts_after names options u after) (printed ∙ ap (page_after names options s) html_is)
      ∙ ap (λ x. fold (page_part names options) (page_after names options s (unwrap_or (read_text (let p = raw_run (suc (length inside)) page in p.text)) []))
      (page_parts x)) (place ∙ ap (λ (p : Part). p.rest) run)
      ∙ sym (ap (fold (page_part names options) s) (ap page_parts is ∙ run_part inside))

  -- nothing is left
  pub page_done : (s : State) (rest : List ℕ) → length rest ≡ 0 → parts_after names options s rest ≡ s
  page_done s [] h = refl
  page_done s (b ∷ bs) h = absurd (omega arith)

-- the inside of an element, if there is one
pub run_inside : (rest : List ℕ) → begins_with (codes "<>") rest ≡ true → (inside : List ℕ) × (rest ≡ codes "<>" ++ inside)
run_inside [] h = absurd (false≢true h)
run_inside (b ∷ []) h = absurd (run_there (b ∷ []) h (λ inside e. no_more b inside (ap length e)))
  where
    no_more : (b : ℕ) (inside : List ℕ) → length (b ∷ []) ≡ length (60 ∷ 62 ∷ inside) → ⊥
    no_more b inside e = omega arith
run_inside (b ∷ c ∷ cs) h =
    let one = and_parts (eqb 60 b) (eqb 62 c && true) h in
    let two = and_parts (eqb 62 c) true one.1 in
    (cs, ap (λ x. x ∷ c ∷ cs) (sym (eqb-true 60 b one.0)) ∙ ap (λ x. 60 ∷ x ∷ cs) (sym (eqb-true 62 c two.0)))
