-- The parts of a heading's line, and what the resolver knows after them.
use Rattle.std.proofs.Common.{◌≡◌, ◌∙◌, ℕ, suc, ◌+◌, Bool, true, false, not, ◌==◌, ◌&&◌, ◌||◌, if◌then◌else◌, List, [], ◌∷◌, ◌++◌, length}
use Rattle.std.proofs.Common.{drop, Option, Some, None, inl, inr, refl, sym, ap, subst, arith, append_assoc, append-nil, length-append}
use Rattle.std.proofs.lemmas.Bool.{and_from, and_parts, cases_Bool, eqb-true, or_parts}
use Rattle.std.specs.List.{list_all, prefix_len, suffix_len}
use Rattle.definition_block.specs.HeadingAtx.{ends_apart}
use Rattle.definition_text.specs.Columns.{indent, is_white, trim}
use Rattle.definition_text.specs.Content.{is_eol}
use Rattle.engine_events.specs.Events.{event, point_of}
use Rattle.engine_events.specs.declared.event.Content.TheVariants as contents
use Rattle.engine_events.specs.declared.event.Event.{Event}
use Rattle.engine_events.specs.declared.event.Kind.TheVariants.{Enter, Exit}
use Rattle.engine_events.specs.declared.event.Name.TheVariants as names
use Rattle.engine_events.specs.declared.place.Point.{Point}
use Rattle.engine_programs.specs.Bodies.{has}
use Rattle.markdown_engine.specs.Reading.{byte_of}
use Rattle.markdown_engine.specs.VirtualText.{Text, as_byte}
use Rattle.markdown_engine.specs.declared.virtual_text.VirtualByte.{VirtualByte}
use Rattle.state_edits_blocks.specs.HeadingAtx.{nothing as nothing_known, seen}
use Rattle.state_table.specs.BlockWords.{chunk_of, is_white as is_white_byte}
use Rattle.state_verdicts.specs.Codes.{Sees, byte, nothing, tab, text_byte}
use Rattle.state_verdicts.specs.HeadingAtx.{Signs, White, Words, part_events}
use Rattle.state_verdicts.specs.HeadingAtxText.{signs_if}
use Rattle.state_verdicts.specs.Lines.{is_filled}
use Rattle.state_verdicts.specs.Stretch.{Stretch, ended, longer}
use Rattle.state_verdicts.specs.WhiteSpace.{white_if}
use Rattle.state_verdicts.proofs.EventWalks.{TypeOf}
use Rattle.state_verdicts.proofs.HeadingAtxContent.{EndsWithWord, gap_apart, is_sign, sign_suffix, trim_is, word_suffix}
use Rattle.state_verdicts.proofs.Markers.{flop}
use Rattle.state_verdicts.proofs.Seen.{seen_feed, seen_white}

-- ---- the codes of a part

-- a stretch has one end
unique : {text : Text} {is : ℕ → Bool} {n m : ℕ} {q r s : Point} → Stretch text is n q r → Stretch text is m q s → r ≡ s
unique (ended h) (ended k) = refl
unique {text = text} {is = is} (ended h) (longer e k st) = absurd (let f : true ≡ false = sym (ap (λ v. has is (byte_of v)) e ∙ k) ∙ h in cc)
unique {text = text} {is = is} (longer e k st) (ended h) = absurd (let f : true ≡ false = sym (ap (λ v. has is (byte_of v)) e ∙ k) ∙ h in cc)
unique {text = text} {is = is} {s = s} (longer {b = b} {q = q} e k st) (longer {n = m} {b = c} {q = r} f l su) =
    let same : Some (as_byte b q) ≡ Some (as_byte c r) = sym e ∙ f in
    let bytes : as_byte b q ≡ as_byte c r = cc in
    unique st (subst (λ (z : Point). Stretch text is m z s) (sym (ap (λ (v : VirtualByte). v.next) bytes)) su)

-- codes of a sort, and then others
pub record Split (sort : ℕ → Bool) (codes : List ℕ) : Type 0 where
  pub part : List ℕ
  pub rest : List ℕ
  pub is : codes ≡ part ++ rest
  pub all : list_all sort part ≡ true
  pub stop : prefix_len sort rest ≡ 0
  pub rest_is : drop (prefix_len sort codes) codes ≡ rest
  pub some : (c : ℕ) (cs : List ℕ) → codes ≡ c ∷ cs → sort c ≡ true → is_filled part ≡ true

split : (sort : ℕ → Bool) (codes : List ℕ) → Split sort codes
split sort [] = record {
  part = [];
  rest = [];
  is = refl;
  all = refl;
  stop = refl;
  rest_is = refl;
  some = λ c cs h k. absurd (cc);
}
split sort (c ∷ cs) = elim (cases_Bool (sort c)) [
  | inl h ↦ let f = split sort cs in record {
    part = c ∷ f.part;
    rest = f.rest;
    is = ap (λ (l : List ℕ). c ∷ l) f.is;
    all = and_from (sort c) (list_all sort f.part) h f.all;
    stop = f.stop;
    rest_is = ap (λ (b : Bool). drop (if b then 1 + prefix_len sort cs else 0) (c ∷ cs)) h
        ∙ (ap (λ (n : ℕ). drop n (c ∷ cs)) (let e : 1 + prefix_len sort cs ≡ suc (prefix_len sort cs) = omega arith in e) ∙ f.rest_is);
    some = λ d ds e k. refl;
  }
  | inr h ↦ record {
    part = [];
    rest = c ∷ cs;
    is = refl;
    all = refl;
    stop = ap (λ (b : Bool). if b then 1 + prefix_len sort cs else 0) h;
    rest_is = ap (λ (b : Bool). drop (if b then 1 + prefix_len sort cs else 0) (c ∷ cs)) h;
    some = λ d ds e k. absurd (let f : c ≡ d = cc in let g : true ≡ false = sym k ∙ (ap sort (sym f) ∙ h) in cc);
  }
]

-- the codes that give the bytes of a part
pub record PartOf (text : Text) (sort : ℕ → Bool) (codes : List ℕ) (r : Point) : Type 0 where
  pub first : ℕ
  pub more : List ℕ
  pub rest : List ℕ
  pub is : codes ≡ (first ∷ more) ++ rest
  pub all : list_all sort (first ∷ more) ≡ true
  pub stop : prefix_len sort rest ≡ 0
  pub sees : Sees text r rest

module _ (text : Text) (is : ℕ → Bool) where
  abbrev pub sight : ℕ → Bool
  sight c = is (text_byte c)

  -- the first code has the first byte
  pub record First (b : ℕ) (codes : List ℕ) : Type 0 where
    pub code : ℕ
    pub more : List ℕ
    pub begins : codes ≡ code ∷ more
    pub byte : text_byte code ≡ b

  pub first_of : {b : ℕ} {p q : Point} (codes : List ℕ) → text.byte (text.start p) ≡ Some (as_byte b q) → Sees text p codes → First b codes
  first_of [] e (nothing none) = absurd (let f = sym none ∙ e in cc)
  first_of {b} {p} {q} (c ∷ cs) e (byte {q = r} apart f s) =
      let same : Some (as_byte (text_byte c) r) ≡ Some (as_byte b q) = sym f ∙ e in
      let bytes : as_byte (text_byte c) r ≡ as_byte b q = cc in record { code = c; more = cs; begins = refl; byte = ap (λ (v : VirtualByte). v.byte) bytes }
  first_of {b} {p} {q} (c ∷ cs) e (tab {q = r} few f g s) =
      let same : Some (as_byte 9 r) ≡ Some (as_byte b q) = sym f ∙ e in
      let bytes : as_byte 9 r ≡ as_byte b q = cc in record { code = 9; more = cs; begins = refl; byte = ap (λ (v : VirtualByte). v.byte) bytes }

  by_part : (codes : List ℕ) (r : Point) (f : Split sight codes) (part : List ℕ) → f.part ≡ part → is_filled f.part ≡ true → Sees text r f.rest
      → PartOf text sight codes r
  by_part codes r f [] e some sees = absurd (let g : false ≡ true = sym (ap is_filled e) ∙ some in cc)
  by_part codes r f (c ∷ cs) e some sees = record {
    first = c;
    more = cs;
    rest = f.rest;
    is = f.is ∙ ap (λ (l : List ℕ). l ++ f.rest) e;
    all = sym (ap (list_all sight) e) ∙ f.all;
    stop = f.stop;
    sees = sees;
  }

  pub of_split : {b : ℕ} {p q r s : Point} {n m : ℕ} (codes : List ℕ) → text.byte (text.start p) ≡ Some (as_byte b q) → is b ≡ true → Stretch text is n q r
      → Sees text p codes → Stretch text is m p s → Sees text s (drop (prefix_len sight codes) codes) → PartOf text sight codes r
  of_split {r = r} {s = s} codes e k st seen tt sees =
      let f = split sight codes in
      let one = first_of codes e seen in
      by_part codes r f f.part refl (f.some one.code one.more one.begins (ap is one.byte ∙ k))
      (subst (λ (z : Point). Sees text z f.rest) (sym (unique (longer e k st) tt)) (subst (λ (l : List ℕ). Sees text s l) f.rest_is sees))

all_same : (f g : ℕ → Bool) → ((c : ℕ) → f c ≡ g c) → (xs : List ℕ) → list_all f xs ≡ list_all g xs
all_same f g same [] = refl
all_same f g same (x ∷ xs) = ap (λ (b : Bool). b && list_all f xs) (same x) ∙ ap (λ (b : Bool). g x && b) (all_same f g same xs)

prefix_same : (f g : ℕ → Bool) → ((c : ℕ) → f c ≡ g c) → (xs : List ℕ) → prefix_len f xs ≡ prefix_len g xs
prefix_same f g same [] = refl
prefix_same f g same (x ∷ xs) = ap (λ (b : Bool). if b then 1 + prefix_len f xs else 0) (same x)
    ∙ ap (λ (n : ℕ). if g x then 1 + n else 0) (prefix_same f g same xs)

pub resort : {text : Text} {codes : List ℕ} {r : Point} (f g : ℕ → Bool) → ((c : ℕ) → f c ≡ g c) → PartOf text f codes r → PartOf text g codes r
resort f g same p = record {
  first = p.first;
  more = p.more;
  rest = p.rest;
  is = p.is;
  all = sym (all_same f g same (p.first ∷ p.more)) ∙ p.all;
  stop = sym (prefix_same f g same p.rest) ∙ p.stop;
  sees = p.sees;
}

-- a code of a word
abbrev pub is_word : ℕ → Bool
is_word c = not (is_white c || is_eol c)

pub word_seen : (c : ℕ) → not (is_white_byte (text_byte c)) ≡ is_word c
word_seen c = ap (λ (b : Bool). not (b || (text_byte c == 10))) (seen_white c) ∙ ap (λ (b : Bool). not (is_white c || b)) (seen_feed c)

-- ---- what is known after some events

-- what the resolver knows of a heading
abbrev pub Heading : Type 0
Heading = TypeOf nothing_known

abbrev pub seen_after : Heading → ℕ → List Event → Heading
seen_after h j [] = h
seen_after h j (e ∷ es) = seen_after (seen h e j) (suc j) es

pub seen_both : (h : Heading) (j : ℕ) (xs ys : List Event) → seen_after h j (xs ++ ys) ≡ seen_after (seen_after h j xs) (j + length xs) ys
seen_both h j [] ys = ap (λ (i : ℕ). seen_after h i ys) (let e : j ≡ j + 0 = omega arith in e)
seen_both h j (x ∷ xs) ys =
    seen_both (seen h x j) (suc j) xs ys
    ∙ ap (λ (i : ℕ). seen_after (seen_after (seen h x j) (suc j) xs) i ys) (let e : suc j + length xs ≡ j + suc (length xs) = omega arith in e)

abbrev pub knows : Option ℕ → Option ℕ → Option ℕ → Heading
knows first last closing = record { is_opened = true; first = first; last = last; closing = closing }

white_adds : (first last closing : Option ℕ) (j : ℕ) (p q : Point)
    → seen_after (knows first last closing) j (part_events White p q) ≡ knows first last closing
white_adds None last closing j p q = refl
white_adds (Some a) last closing j p q = refl

-- ---- lists

-- it begins with something other than white space
pub record Black (xs : List ℕ) : Type 0 where
  pub first : ℕ
  pub more : List ℕ
  pub is : xs ≡ first ∷ more
  pub black : is_white first ≡ false

black_more : (xs ys : List ℕ) → Black xs → Black (xs ++ ys)
black_more xs ys b = record { first = b.first; more = b.more ++ ys; is = ap (λ (l : List ℕ). l ++ ys) b.is; black = b.black }

pub black_indent : (xs ys : List ℕ) → Black xs → indent (xs ++ ys) ≡ 0
black_indent xs ys b = ap (λ (l : List ℕ). indent (l ++ ys)) b.is ∙ ap (λ (w : Bool). if w then 1 + indent (b.more ++ ys) else 0) b.black

pub black_filled : (xs : List ℕ) → Black xs → is_filled xs ≡ true
black_filled xs b = ap is_filled b.is

-- events of which the first and the last are at places
pub record Bounded (text : Text) (own : List Event) (from to : Point) : Type 0 where
  pub first : Event
  pub more : List Event
  pub begins : own ≡ first ∷ more
  pub first_at : point_of first ≡ text.start from
  pub before : List Event
  pub last : Event
  pub ends : own ≡ before ++ last ∷ []
  pub last_at : point_of last ≡ text.start to

regroup : (a b c : List ℕ) → (a ++ (b ++ [])) ++ c ≡ a ++ (b ++ c)
regroup a b c = simp (append_assoc, append-nil) refl

group : (a b c d : List Event) → (a ++ (b ++ c)) ++ d ≡ a ++ (b ++ (c ++ d))
group a b c d = simp append_assoc refl

join_codes : (a b c d : List ℕ) → (a ++ (b ++ c)) ++ d ≡ a ++ ((b ++ (c ++ d)) ++ [])
join_codes a b c d = simp (append_assoc, append-nil) refl

join_events : (a b c d : List Event) → (a ++ (b ++ c)) ++ d ≡ a ++ ((b ++ (c ++ d)) ++ [])
join_events a b c d = simp (append_assoc, append-nil) refl

pub join_rest : (a b c d : List ℕ) → a ++ (b ++ (c ++ d)) ≡ (a ++ (b ++ c)) ++ d
join_rest a b c d = simp append_assoc refl

-- it ends with signs
pub closed_suffix : (body gap signs : List ℕ) → is_filled signs ≡ true → list_all is_sign signs ≡ true → suffix_len is_white (body ++ (gap ++ signs)) ≡ 0
closed_suffix body gap [] some all = absurd (let f : false ≡ true = some in cc)
closed_suffix body gap (s ∷ signs) some all =
    ap (suffix_len is_white) (sym (append_assoc body gap (s ∷ signs))) ∙ sign_suffix (body ++ gap) signs s all

pub join_two : (a b c d : List ℕ) → (a ++ (b ++ c)) ++ d ≡ a ++ (b ++ (c ++ d))
join_two a b c d = simp append_assoc refl

pub join_four : (a b c d e f : List ℕ) → (a ++ ((b ++ (c ++ d)) ++ e)) ++ f ≡ a ++ (b ++ (c ++ (d ++ (e ++ f))))
join_four a b c d e f = simp append_assoc refl

pub join_parts : (a b c d e : List Event) → a ++ ((b ++ (c ++ d)) ++ e) ≡ a ++ (b ++ (c ++ (d ++ e)))
join_parts a b c d e = simp append_assoc refl

pub white_no_sign : (c : ℕ) → is_white c ≡ true → is_sign c ≡ false
white_no_sign c h = elim (cases_Bool (is_sign c)) [
  | inl is ↦ absurd (let f : is_white 35 ≡ true = ap is_white (sym (eqb-true c 35 is)) ∙ h in let g : false ≡ true = f in cc)
  | inr other ↦ other
]

pub signs_indent : (signs rest : List ℕ) → is_filled signs ≡ true → list_all is_sign signs ≡ true → indent (signs ++ rest) ≡ 0
signs_indent [] rest some all = absurd (let f : false ≡ true = some in cc)
signs_indent (s ∷ signs) rest some all =
    let is = eqb-true s 35 (and_parts (is_sign s) (list_all is_sign signs) all).0 in ap (λ (i : ℕ). if is_white i then 1 + indent (signs ++ rest) else 0) is

pub signs_if_is : (text : Text) (signs : List ℕ) (p q : Point) → is_filled signs ≡ true
    → signs_if (is_filled signs) (text.start p) (text.start q) ≡ part_events Signs (text.start p) (text.start q)
signs_if_is text signs p q some = ap (λ (b : Bool). signs_if b (text.start p) (text.start q)) some

-- a code of a word is neither white nor an ending
pub word_not : (c : ℕ) → is_word c ≡ true → (is_white c ≡ false) × (is_eol c ≡ false)
word_not c h = or_parts (is_white c) (is_eol c) (flop (is_white c || is_eol c) h)

all_words : (xs : List ℕ) → list_all is_word xs ≡ true → list_all (λ b. not (is_white b)) xs ≡ true
all_words [] h = refl
all_words (x ∷ xs) h =
    let parts = and_parts (is_word x) (list_all is_word xs) h in
    and_from (not (is_white x)) (list_all (λ b. not (is_white b)) xs) (ap not (word_not x parts.0).0) (all_words xs parts.1)

-- white space from a place to another, if there is any
pub record Spaced (lead rest : List ℕ) (p q : Point) : Type 0 where
  pub white : list_all is_white lead ≡ true
  pub apart : is_filled lead ≡ true → indent rest ≡ 0
  pub same : is_filled lead ≡ false → p ≡ q

bounded_on : {text : Text} {own : List Event} {from to past : Point} (middle : List Event) (a b : Event) → Bounded text own from to
    → point_of b ≡ text.start past → Bounded text (own ++ (middle ++ (a ∷ b ∷ []))) from past
bounded_on {own = own} middle a b bounded at = record {
  first = bounded.first;
  more = bounded.more ++ (middle ++ (a ∷ b ∷ []));
  begins = ap (λ (l : List Event). l ++ (middle ++ (a ∷ b ∷ []))) bounded.begins;
  first_at = bounded.first_at;
  before = own ++ (middle ++ a ∷ []);
  last = b;
  ends = parted own middle a b;
  last_at = at;
}
  where
    parted : (l m : List Event) (a b : Event) → l ++ (m ++ (a ∷ b ∷ [])) ≡ (l ++ (m ++ a ∷ [])) ++ b ∷ []
    parted l m a b = simp append_assoc refl

pub no_space : (rest : List ℕ) (p : Point) → Spaced [] rest p p
no_space rest p = record { white = refl; apart = λ h. absurd (let f : false ≡ true = h in cc); same = λ h. refl }

module _ (text : Text) where
  abbrev pub white_at : List ℕ → Point → Point → List Event
  white_at lead p q = white_if (is_filled lead) (text.start p) (text.start q)

  -- more white space where there is none yet
  record MoreWhite (lead part rest : List ℕ) (p q r : Point) : Type 0 where
    pub empty : lead ≡ []
    pub spaced : Spaced part rest p r
    pub events : white_at lead p q ++ part_events White (text.start q) (text.start r) ≡ white_at part p r

  more_white : (lead codes : List ℕ) (p q r : Point) → Spaced lead codes p q → (part : PartOf text is_white codes r)
      → MoreWhite lead (part.first ∷ part.more) part.rest p q r
  more_white [] codes p q r s part = record {
    empty = refl;
    spaced = record { white = part.all; apart = λ h. part.stop; same = λ h. absurd (let f : true ≡ false = h in cc) };
    events = ap (λ (z : Point). part_events White (text.start z) (text.start r)) (sym (s.same refl));
  }
  more_white (c ∷ cs) codes p q r s part =
      let none = s.apart refl in
      let white = (and_parts (is_white part.first) (list_all is_white part.more) part.all).0 in
      absurd (let some : indent codes ≡ 1 + prefix_len is_white (part.more ++ part.rest) = ap indent part.is
      ∙ ap (λ (b : Bool). if b then 1 + prefix_len is_white (part.more ++ part.rest) else 0) white in omega (arith, none, some))

  -- ---- shapes

  module _ (j0 : ℕ) (mid : Point) where
    -- the text so far: none, or one with these events that ends at an index
    pub data Own (a : ℕ) : List ℕ → Point → Point → List Event → Option ℕ → Type 0 where
      no_text : {q : Point} → Own a [] q q [] None
      some_text : {body : List ℕ} {from to : Point} {own : List Event} {l : ℕ} → Black body → Bounded text own from to → l + 1 ≡ a + length own
          → Own a body from to own (Some l)

    -- nothing but white space was read of the line, before these codes and this place, with these events, and this is known
    pub record Blank (read codes : List ℕ) (p : Point) (events : List Event) (h : Heading) : Type 0 where
      pub spaced : Spaced read codes mid p
      pub events_are : events ≡ white_at read mid p
      pub known : h ≡ knows None None None

    -- a text that ends with a word was read
    pub record Worded (read codes : List ℕ) (p : Point) (events : List Event) (h : Heading) : Type 0 where
      pub lead : List ℕ
      pub body : List ℕ
      pub tail : List ℕ
      pub from : Point
      pub to : Point
      pub own : List Event
      pub l : ℕ
      pub white : list_all is_white lead ≡ true
      pub same : is_filled lead ≡ false → mid ≡ from
      pub black : Black body
      pub word : EndsWithWord body
      pub bounded : Bounded text own from to
      pub spaced : Spaced tail codes to p
      pub apart : is_filled tail ≡ false → prefix_len is_word codes ≡ 0
      pub last : l + 1 ≡ j0 + length (white_at lead mid from) + length own
      pub sees_from : Sees text from (body ++ (tail ++ codes))
      pub sees_to : Sees text to (tail ++ codes)
      pub is : read ≡ lead ++ (body ++ tail)
      pub events_are : events ≡ white_at lead mid from ++ (own ++ white_at tail to p)
      pub known : h ≡ knows (Some (j0 + length (white_at lead mid from))) (Some l) None

    -- a run of `#` was read after a text, or after none
    pub record Closed (read codes : List ℕ) (p : Point) (events : List Event) (h : Heading) : Type 0 where
      pub lead : List ℕ
      pub body : List ℕ
      pub gap : List ℕ
      pub signs : List ℕ
      pub tail : List ℕ
      pub from : Point
      pub to : Point
      pub close : Point
      pub past : Point
      pub own : List Event
      pub last : Option ℕ
      pub z : ℕ
      pub white : list_all is_white lead ≡ true
      pub same : is_filled lead ≡ false → mid ≡ from
      pub text_is : Own (j0 + length (white_at lead mid from)) body from to own last
      pub gap_white : list_all is_white gap ≡ true
      pub gap_same : is_filled gap ≡ false → to ≡ close
      pub some : is_filled signs ≡ true
      pub all : list_all is_sign signs ≡ true
      pub black : Black (body ++ (gap ++ signs))
      pub apart : ends_apart (body ++ gap) ≡ true
      pub trims : trim (body ++ gap) ≡ body
      pub bounded : Bounded text (own ++ (white_at gap to close ++ part_events Signs (text.start close) (text.start past))) from past
      pub spaced : Spaced tail codes past p
      pub over : is_filled tail ≡ false → prefix_len is_sign codes ≡ 0
      pub closing : z + 1 ≡ j0 + length (white_at lead mid from)
          + length (own ++ (white_at gap to close ++ part_events Signs (text.start close) (text.start past)))
      pub sees_from : Sees text from (body ++ (gap ++ (signs ++ (tail ++ codes))))
      pub sees_to : Sees text to (gap ++ (signs ++ (tail ++ codes)))
      pub sees_close : Sees text close (signs ++ (tail ++ codes))
      pub sees_past : Sees text past (tail ++ codes)
      pub is : read ≡ lead ++ ((body ++ (gap ++ signs)) ++ tail)
      pub events_are : events ≡ white_at lead mid from
          ++ ((own ++ (white_at gap to close ++ part_events Signs (text.start close) (text.start past))) ++ white_at tail past p)
      pub known : h ≡ knows (Some (j0 + length (white_at lead mid from))) last (Some z)

    pub data Shape (read codes : List ℕ) (p : Point) (events : List Event) (h : Heading) : Type 0 where
      blank : Blank read codes p events h → Shape read codes p events h
      worded : Worded read codes p events h → Shape read codes p events h
      closed : Closed read codes p events h → Shape read codes p events h

    -- ---- one more part

    module _ (read codes : List ℕ) (p r : Point) (events : List Event) (h : Heading) where
      -- white space
      module _ (part : PartOf text is_white codes r) where
        abbrev pub w : List ℕ
        w = part.first ∷ part.more

        abbrev pub MoreSpace : Type 0
        MoreSpace = Shape (read ++ w) part.rest r (events ++ part_events White (text.start p) (text.start r))
            (seen_after h (j0 + length events) (part_events White (text.start p) (text.start r)))

        pub blank_white : Blank read codes p events h → MoreSpace
        blank_white b =
            let m = more_white read codes mid p r b.spaced part in blank (record {
              spaced = subst (λ (l : List ℕ). Spaced l part.rest mid r) (sym (ap (λ (l : List ℕ). l ++ w) m.empty)) m.spaced;
              events_are = ap (λ (l : List Event). l ++ part_events White (text.start p) (text.start r)) b.events_are
                  ∙ (m.events ∙ ap (λ (l : List ℕ). white_at (l ++ w) mid r) (sym m.empty));
              known = ap (λ (k : Heading). seen_after k (j0 + length events) (part_events White (text.start p) (text.start r))) b.known
                  ∙ white_adds None None None (j0 + length events) (text.start p) (text.start r);
            })

        pub worded_white : Worded read codes p events h → MoreSpace
        worded_white b =
            let m = more_white b.tail codes b.to p r b.spaced part in worded (record {
              lead = b.lead;
              body = b.body;
              tail = w;
              from = b.from;
              to = b.to;
              own = b.own;
              l = b.l;
              white = b.white;
              same = b.same;
              black = b.black;
              word = b.word;
              bounded = b.bounded;
              spaced = m.spaced;
              apart = λ e. absurd (let f : true ≡ false = e in cc);
              last = b.last;
              sees_from = subst (λ (l : List ℕ). Sees text b.from (b.body ++ l)) (ap (λ (t : List ℕ). t ++ codes) m.empty ∙ part.is) b.sees_from;
              sees_to = subst (λ (l : List ℕ). Sees text b.to l) (ap (λ (t : List ℕ). t ++ codes) m.empty ∙ part.is) b.sees_to;
              is = ap (λ (l : List ℕ). l ++ w) b.is ∙ (ap (λ (t : List ℕ). (b.lead ++ (b.body ++ t)) ++ w) m.empty ∙ regroup b.lead b.body w);
              events_are = ap (λ (l : List Event). l ++ part_events White (text.start p) (text.start r)) b.events_are
                  ∙ (group (white_at b.lead mid b.from) b.own (white_at b.tail b.to p) (part_events White (text.start p) (text.start r))
                  ∙ ap (λ (l : List Event). white_at b.lead mid b.from ++ (b.own ++ l)) m.events);
              known = ap (λ (k : Heading). seen_after k (j0 + length events) (part_events White (text.start p) (text.start r))) b.known
                  ∙ white_adds (Some (j0 + length (white_at b.lead mid b.from))) (Some b.l) None (j0 + length events) (text.start p) (text.start r);
            })

        pub closed_white : Closed read codes p events h → MoreSpace
        closed_white b =
            let m = more_white b.tail codes b.past p r b.spaced part in
            let rest : b.tail ++ codes ≡ w ++ part.rest = ap (λ (t : List ℕ). t ++ codes) m.empty ∙ part.is in closed (record {
              lead = b.lead;
              body = b.body;
              gap = b.gap;
              signs = b.signs;
              tail = w;
              from = b.from;
              to = b.to;
              close = b.close;
              past = b.past;
              own = b.own;
              last = b.last;
              z = b.z;
              white = b.white;
              same = b.same;
              text_is = b.text_is;
              gap_white = b.gap_white;
              gap_same = b.gap_same;
              some = b.some;
              all = b.all;
              black = b.black;
              apart = b.apart;
              trims = b.trims;
              bounded = b.bounded;
              spaced = m.spaced;
              over = λ e. absurd (let f : true ≡ false = e in cc);
              closing = b.closing;
              sees_from = subst (λ (l : List ℕ). Sees text b.from (b.body ++ (b.gap ++ (b.signs ++ l)))) rest b.sees_from;
              sees_to = subst (λ (l : List ℕ). Sees text b.to (b.gap ++ (b.signs ++ l))) rest b.sees_to;
              sees_close = subst (λ (l : List ℕ). Sees text b.close (b.signs ++ l)) rest b.sees_close;
              sees_past = subst (λ (l : List ℕ). Sees text b.past l) rest b.sees_past;
              is = ap (λ (l : List ℕ). l ++ w) b.is
                  ∙ (ap (λ (t : List ℕ). (b.lead ++ ((b.body ++ (b.gap ++ b.signs)) ++ t)) ++ w) m.empty ∙ regroup b.lead (b.body ++ (b.gap ++ b.signs)) w);
              events_are = ap (λ (l : List Event). l ++ part_events White (text.start p) (text.start r)) b.events_are
                  ∙ (group (white_at b.lead mid b.from) (b.own ++ (white_at b.gap b.to b.close ++ part_events Signs (text.start b.close) (text.start b.past)))
                  (white_at b.tail b.past p) (part_events White (text.start p) (text.start r))
                  ∙ ap (λ (l : List Event). white_at b.lead mid b.from
                  ++ ((b.own ++ (white_at b.gap b.to b.close ++ part_events Signs (text.start b.close) (text.start b.past))) ++ l)) m.events);
              known = ap (λ (k : Heading). seen_after k (j0 + length events) (part_events White (text.start p) (text.start r))) b.known
                  ∙ white_adds (Some (j0 + length (white_at b.lead mid b.from))) b.last (Some b.z) (j0 + length events) (text.start p) (text.start r);
            })

      -- a run of `#`
      module _ (sees : Sees text p codes) (part : PartOf text is_sign codes r) where
        abbrev pub run_is : List ℕ
        run_is = part.first ∷ part.more

        abbrev pub run_events : List Event
        run_events = part_events Signs (text.start p) (text.start r)

        abbrev pub MoreSigns : Type 0
        MoreSigns = Shape (read ++ run_is) part.rest r (events ++ run_events) (seen_after h (j0 + length events) run_events)

        is_it : is_sign part.first ≡ true
        is_it = (and_parts (is_sign part.first) (list_all is_sign part.more) part.all).0

        run_black : Black run_is
        run_black = record { first = part.first; more = part.more; is = refl; black = ap is_white (eqb-true part.first 35 is_it) }

        pub blank_signs : Blank read codes p events h → MoreSigns
        blank_signs b =
            let size = ap length b.events_are in closed (record {
              lead = read;
              body = [];
              gap = [];
              signs = run_is;
              tail = [];
              from = p;
              to = p;
              close = p;
              past = r;
              own = [];
              last = None;
              z = suc (j0 + length events);
              white = b.spaced.white;
              same = b.spaced.same;
              text_is = no_text;
              gap_white = refl;
              gap_same = λ e. refl;
              some = refl;
              all = part.all;
              black = run_black;
              apart = refl;
              trims = refl;
              bounded = record {
                first = event Enter names.HeadingAtxSequence (text.start p) None;
                more = event Exit names.HeadingAtxSequence (text.start r) None ∷ [];
                begins = refl;
                first_at = refl;
                before = event Enter names.HeadingAtxSequence (text.start p) None ∷ [];
                last = event Exit names.HeadingAtxSequence (text.start r) None;
                ends = refl;
                last_at = refl;
              };
              spaced = no_space part.rest r;
              over = λ e. part.stop;
              closing = omega (arith, size);
              sees_from = subst (λ (l : List ℕ). Sees text p l) part.is sees;
              sees_to = subst (λ (l : List ℕ). Sees text p l) part.is sees;
              sees_close = subst (λ (l : List ℕ). Sees text p l) part.is sees;
              sees_past = part.sees;
              is = ap (λ (l : List ℕ). read ++ l) (sym (append-nil run_is));
              events_are = ap (λ (l : List Event). l ++ run_events) b.events_are;
              known = ap (λ (k : Heading). seen_after k (j0 + length events) run_events) b.known
                  ∙ ap (λ (i : ℕ). knows (Some (j0 + i)) None (Some (suc (j0 + length events)))) size;
            })

        -- after a text and white space
        after_text : (lead body tail : List ℕ) (from to : Point) (own : List Event) (l : ℕ) → list_all is_white lead ≡ true
            → (is_filled lead ≡ false → mid ≡ from) → Black body → suffix_len is_white body ≡ 0 → Bounded text own from to → Spaced tail codes to p
            → is_filled tail ≡ true → l + 1 ≡ j0 + length (white_at lead mid from) + length own → Sees text from (body ++ (tail ++ codes))
            → Sees text to (tail ++ codes) → read ≡ lead ++ (body ++ tail) → events ≡ white_at lead mid from ++ (own ++ white_at tail to p)
            → seen_after h (j0 + length events) run_events
            ≡ knows (Some (j0 + length (white_at lead mid from))) (Some l) (Some (suc (j0 + length events))) → MoreSigns
        after_text lead body [] from to own l white same black ends bounded spaced some last sees_from sees_to is events_are known =
            absurd (let f : false ≡ true = some in cc)
        after_text lead body (g ∷ gs) from to own l white same black ends bounded spaced some last sees_from sees_to is events_are known =
            let gap = g ∷ gs in
            let space = white_at (g ∷ gs) to p in
            let size = ap length events_are in
            let one = length-append (white_at lead mid from) (own ++ space) in
            let two = length-append own space in
            let three = length-append own (space ++ run_events) in
            let four = length-append space run_events in closed (record {
              lead = lead;
              body = body;
              gap = gap;
              signs = run_is;
              tail = [];
              from = from;
              to = to;
              close = p;
              past = r;
              own = own;
              last = Some l;
              z = suc (j0 + length events);
              white = white;
              same = same;
              text_is = some_text black bounded last;
              gap_white = spaced.white;
              gap_same = spaced.same;
              some = refl;
              all = part.all;
              black = black_more body (gap ++ run_is) black;
              apart = gap_apart body gs g spaced.white;
              trims = trim_is [] body gap refl (black_indent body gap black) ends spaced.white;
              bounded = bounded_on space (event Enter names.HeadingAtxSequence (text.start p) None) (event Exit names.HeadingAtxSequence (text.start r) None)
                  bounded refl;
              spaced = no_space part.rest r;
              over = λ e. part.stop;
              closing = omega (arith, size, one, two, three, four);
              sees_from = subst (λ (l : List ℕ). Sees text from (body ++ (gap ++ l))) part.is sees_from;
              sees_to = subst (λ (l : List ℕ). Sees text to (gap ++ l)) part.is sees_to;
              sees_close = subst (λ (l : List ℕ). Sees text p l) part.is sees;
              sees_past = part.sees;
              is = ap (λ (l : List ℕ). l ++ run_is) is ∙ join_codes lead body gap run_is;
              events_are = ap (λ (l : List Event). l ++ run_events) events_are ∙ join_events (white_at lead mid from) own space run_events;
              known = known;
            })

        pub worded_signs : Worded read codes p events h → MoreSigns
        worded_signs b =
            after_text b.lead b.body b.tail b.from b.to b.own b.l b.white b.same b.black (word_suffix b.body b.word) b.bounded b.spaced
            (by_tail (is_filled b.tail) refl) b.last b.sees_from b.sees_to b.is b.events_are
            (ap (λ (k : Heading). seen_after k (j0 + length events) run_events) b.known)
          where
            by_tail : (some : Bool) → is_filled b.tail ≡ some → some ≡ true
            by_tail true e = refl
            by_tail false e =
                let none = b.apart e in
                let first : is_word part.first ≡ true = ap is_word (eqb-true part.first 35 is_it) in
                absurd (let some : prefix_len is_word codes ≡ 1 + prefix_len is_word (part.more ++ part.rest) = ap (prefix_len is_word) part.is
                ∙ ap (λ (w : Bool). if w then 1 + prefix_len is_word (part.more ++ part.rest) else 0) first in omega (arith, none, some))

        pub closed_signs : Closed read codes p events h → MoreSigns
        closed_signs b =
            after_text b.lead (b.body ++ (b.gap ++ b.signs)) b.tail b.from b.past
            (b.own ++ (white_at b.gap b.to b.close ++ part_events Signs (text.start b.close) (text.start b.past))) b.z b.white b.same b.black
            (closed_suffix b.body b.gap b.signs b.some b.all) b.bounded b.spaced (by_tail (is_filled b.tail) refl) b.closing
            (subst (λ (l : List ℕ). Sees text b.from l) (join_rest b.body b.gap b.signs (b.tail ++ codes)) b.sees_from) b.sees_past b.is b.events_are
            (ap (λ (k : Heading). seen_after k (j0 + length events) run_events) b.known)
          where
            by_tail : (some : Bool) → is_filled b.tail ≡ some → some ≡ true
            by_tail true e = refl
            by_tail false e =
                let none = b.over e in
                absurd (let some : prefix_len is_sign codes ≡ 1 + prefix_len is_sign (part.more ++ part.rest) = ap (prefix_len is_sign) part.is
                ∙ ap (λ (w : Bool). if w then 1 + prefix_len is_sign (part.more ++ part.rest) else 0) is_it in omega (arith, none, some))

      -- a word
      module _ (sees : Sees text p codes) (part : PartOf text is_word codes r) (no_sign : is_sign part.first ≡ false) where
        abbrev pub word_is : List ℕ
        word_is = part.first ∷ part.more

        abbrev pub word_events : List Event
        word_events = part_events Words (text.start p) (text.start r)

        abbrev pub MoreWords : Type 0
        MoreWords = Shape (read ++ word_is) part.rest r (events ++ word_events) (seen_after h (j0 + length events) word_events)

        not_white : is_white part.first ≡ false
        not_white = (word_not part.first (and_parts (is_word part.first) (list_all is_word part.more) part.all).0).0

        ends_with : (before : List ℕ) → EndsWithWord (before ++ word_is)
        ends_with before = record {
          before = before;
          first = part.first;
          more = part.more;
          is = refl;
          black = not_white;
          no_sign = no_sign;
          no_white = all_words part.more (and_parts (is_word part.first) (list_all is_word part.more) part.all).1;
        }

        pub blank_words : Blank read codes p events h → MoreWords
        blank_words b =
            let size = ap length b.events_are in worded (record {
              lead = read;
              body = word_is;
              tail = [];
              from = p;
              to = r;
              own = word_events;
              l = suc (j0 + length events);
              white = b.spaced.white;
              same = b.spaced.same;
              black = record { first = part.first; more = part.more; is = refl; black = not_white };
              word = ends_with [];
              bounded = record {
                first = event Enter names.Data (text.start p) (Some (chunk_of contents.Text));
                more = event Exit names.Data (text.start r) None ∷ [];
                begins = refl;
                first_at = refl;
                before = event Enter names.Data (text.start p) (Some (chunk_of contents.Text)) ∷ [];
                last = event Exit names.Data (text.start r) None;
                ends = refl;
                last_at = refl;
              };
              spaced = no_space part.rest r;
              apart = λ e. part.stop;
              last = omega (arith, size);
              sees_from = subst (λ (l : List ℕ). Sees text p l) part.is sees;
              sees_to = part.sees;
              is = ap (λ (l : List ℕ). read ++ l) (sym (append-nil word_is));
              events_are = ap (λ (l : List Event). l ++ word_events) b.events_are;
              known = ap (λ (k : Heading). seen_after k (j0 + length events) word_events) b.known
                  ∙ ap (λ (i : ℕ). knows (Some (j0 + i)) (Some (suc (j0 + length events))) None) size;
            })

        -- after a text
        text_on : (lead body tail : List ℕ) (from to : Point) (own : List Event) → list_all is_white lead ≡ true → (is_filled lead ≡ false → mid ≡ from)
            → Black body → Bounded text own from to → Sees text from (body ++ (tail ++ codes)) → read ≡ lead ++ (body ++ tail)
            → events ≡ white_at lead mid from ++ (own ++ white_at tail to p)
            → seen_after h (j0 + length events) word_events ≡ knows (Some (j0 + length (white_at lead mid from))) (Some (suc (j0 + length events))) None
            → MoreWords
        text_on lead body tail from to own white same black bounded sees_from is events_are known =
            let space = white_at tail to p in
            let size = ap length events_are in
            let one = length-append (white_at lead mid from) (own ++ space) in
            let two = length-append own space in
            let three = length-append own (space ++ word_events) in
            let four = length-append space word_events in worded (record {
              lead = lead;
              body = body ++ (tail ++ word_is);
              tail = [];
              from = from;
              to = r;
              own = own ++ (space ++ word_events);
              l = suc (j0 + length events);
              white = white;
              same = same;
              black = black_more body (tail ++ word_is) black;
              word = subst (λ (l : List ℕ). EndsWithWord l) (append_assoc body tail word_is) (ends_with (body ++ tail));
              bounded = bounded_on space (event Enter names.Data (text.start p) (Some (chunk_of contents.Text))) (event Exit names.Data (text.start r) None)
                  bounded refl;
              spaced = no_space part.rest r;
              apart = λ e. part.stop;
              last = omega (arith, size, one, two, three, four);
              sees_from = subst (λ (l : List ℕ). Sees text from l) (ap (λ (l : List ℕ). body ++ (tail ++ l)) part.is
                  ∙ join_rest body tail word_is part.rest) sees_from;
              sees_to = part.sees;
              is = ap (λ (l : List ℕ). l ++ word_is) is ∙ join_codes lead body tail word_is;
              events_are = ap (λ (l : List Event). l ++ word_events) events_are ∙ join_events (white_at lead mid from) own space word_events;
              known = known;
            })

        pub worded_words : Worded read codes p events h → MoreWords
        worded_words b =
            text_on b.lead b.body b.tail b.from b.to b.own b.white b.same b.black b.bounded b.sees_from b.is b.events_are
            (ap (λ (k : Heading). seen_after k (j0 + length events) word_events) b.known)

        pub closed_words : Closed read codes p events h → MoreWords
        closed_words b =
            text_on b.lead (b.body ++ (b.gap ++ b.signs)) b.tail b.from b.past
            (b.own ++ (white_at b.gap b.to b.close ++ part_events Signs (text.start b.close) (text.start b.past))) b.white b.same b.black b.bounded
            (subst (λ (l : List ℕ). Sees text b.from l) (join_rest b.body b.gap b.signs (b.tail ++ codes)) b.sees_from) b.is b.events_are
            (ap (λ (k : Heading). seen_after k (j0 + length events) word_events) b.known)
