-- The test's steps.
use Rattle.std.proofs.Common.{◌≡◌, ℕ, List, [], ◌∷◌, ◌++◌, Bool, true, false, ◌&&◌, ◌||◌, ◌↔◌, cond, eqb, Option, None, Some, codes, refl, sym, ap, ◌∙◌, inl}
use Rattle.std.proofs.Common.{inr}
use Rattle.std.specs.Prelude.{IsTrue}
use Rattle.std.specs.List.{list_all}
use Rattle.std.specs.Option.{IfSome, is_some, option_and_then, option_map, option_or}
use Rattle.std.specs.Str.{bytes_eq}
use Rattle.std.proofs.lemmas.Bool.{cases_Bool, cond-true, cond-false, true≢false, false≢true, and_parts, and_right, ne_eqb, eqb-true}
use Rattle.html_safe_page.specs.Table.{start_rows_of, void_rows_of}
use Rattle.html_safe_page.specs.SafePage.{Kind, And, Quote, Less, Greater, Plain, kind, spell_kind, spell_letter, spell_text, Tag, Items, End, Letter, Void}
use Rattle.html_safe_page.specs.SafePage.{Element, void_end, spell_before, IsReadingBy, IsSafePageBy}
use Rattle.html_safe_page.specs.Reader.{strip, replace, join_reference, join_kind, read_text, QuotedText, longer, read_tag, Rest, Last, Then}
use Rattle.html_safe_page.specs.Reader.{Reading, Nowhere, Outside, Inside, at_first, strip_letters, replace_letters, join_letters, outside, join_rest, open_or}
use Rattle.html_safe_page.specs.Reader.{read_mark, step, read, whole, read_page}
use Rattle.html_safe_page.specs.Machine.{begins_reference, stands, may_stand, split_tag, close, with_open_tag, follows}
use Rattle.html_safe_page.proofs.Text.{by_kind, is_plain, plain_other, text_sound}
use Rattle.html_safe_page.proofs.Pages.{is_inner, page_spelled}
use Rattle.html_safe_page.proofs.Sound.{spell_rest, IsRest, IsSound, read_sound, page_sound}
use Rattle.html_safe_page.specs.declared.table.TagTable.{TagTable}

-- ---- references

four : {A : Type 0} (a b c d : Option A) → is_some (option_or a (option_or b (option_or c d))) ≡ (((is_some a || is_some b) || is_some c) || is_some d)
four (Some a) b c d = refl
four None (Some b) c d = refl
four None None (Some c) d = refl
four None None None d = refl

same_cond : {A B : Type 0} (t : Bool) (a : Option A) (b : Option B) → is_some a ≡ is_some b → is_some (cond t a None) ≡ is_some (cond t b None)
same_cond true a b h = h
same_cond false a b h = refl

pub some_mapped : {A B : Type 0} (f : A → B) (o : Option A) → is_some (option_map f o) ≡ is_some o
some_mapped f None = refl
some_mapped f (Some a) = refl

abbrev pub all_plain : List ℕ → Bool
all_plain name = list_all (λ b. is_plain (kind b)) name

-- a byte that isn't plain begins no name
no_plain : (b p : ℕ) → is_plain (kind b) ≡ false → is_plain (kind p) ≡ true → eqb b p ≡ false
no_plain b p h k = ne_eqb b p (λ e. true≢false (sym k ∙ ap (λ x. is_plain (kind x)) (sym e) ∙ h))

pub not_here : {A : Type 0} (b p : ℕ) (o : Option A) → is_plain (kind b) ≡ false → is_plain (kind p) ≡ true → is_some (cond (eqb b p) o None) ≡ false
not_here b p o h k = ap (λ t. is_some (cond t o None)) (no_plain b p h k)

strip_text : (name text : List ℕ) → all_plain name ≡ true → is_some (strip name text) ≡ is_some (strip name (spell_text text []))
strip_text [] text h = refl
strip_text (p ∷ ps) [] h = refl
strip_text (p ∷ ps) (b ∷ bs) h =
    let parts = and_parts (is_plain (kind p)) (all_plain ps) h in
    let more = spell_text bs [] in
    by_kind (λ b. is_some (strip (p ∷ ps) (b ∷ bs)) ≡ is_some (strip (p ∷ ps) (spell_letter b ++ more)))
    (not_here 38 p (strip ps bs) refl parts.0 ∙ sym (not_here 38 p (strip ps (codes "amp;" ++ more)) refl parts.0))
    (not_here 34 p (strip ps bs) refl parts.0 ∙ sym (not_here 38 p (strip ps (codes "quot;" ++ more)) refl parts.0))
    (not_here 60 p (strip ps bs) refl parts.0 ∙ sym (not_here 38 p (strip ps (codes "lt;" ++ more)) refl parts.0))
    (not_here 62 p (strip ps bs) refl parts.0 ∙ sym (not_here 38 p (strip ps (codes "gt;" ++ more)) refl parts.0))
    (λ b k. same_cond (eqb b p) (strip ps bs) (strip ps more) (strip_text ps bs parts.1)
    ∙ ap (λ kind. is_some (strip (p ∷ ps) (spell_kind kind b ++ more))) (sym k))
    b

abbrev stops : List ℕ → Bool
stops [] = true
stops (b ∷ bs) = eqb b 60

strip_stops : (p : ℕ) (ps after : List ℕ) → is_plain (kind p) ≡ true → stops after ≡ true → false ≡ is_some (strip (p ∷ ps) after)
strip_stops p ps [] h k = refl
strip_stops p ps (b ∷ bs) h k = sym (not_here b p (strip ps bs) (ap (λ x. is_plain (kind x)) (eqb-true b 60 k)) h)

strip_items : (name : List ℕ) (items : Items) (after : List ℕ) → all_plain name ≡ true → stops after ≡ true
    → is_some (strip_letters name items) ≡ is_some (strip name (spell_before items after))
strip_items [] items after h k = refl
strip_items (p ∷ ps) End after h k = strip_stops p ps after (and_parts (is_plain (kind p)) (all_plain ps) h).0 k
strip_items (p ∷ ps) (Void tag items) after h k = strip_stops p ps (spell_before (Void tag items) after) (and_parts (is_plain (kind p)) (all_plain ps) h).0 refl
strip_items (p ∷ ps) (Element tag inside items) after h k =
    strip_stops p ps (spell_before (Element tag inside items) after) (and_parts (is_plain (kind p)) (all_plain ps) h).0 refl
strip_items (p ∷ ps) (Letter b items) after h k =
    let parts = and_parts (is_plain (kind p)) (all_plain ps) h in
    let more = spell_before items after in
    by_kind (λ b. is_some (strip_letters (p ∷ ps) (Letter b items)) ≡ is_some (strip (p ∷ ps) (spell_letter b ++ more)))
    (not_here 38 p (strip_letters ps items) refl parts.0 ∙ sym (not_here 38 p (strip ps (codes "amp;" ++ more)) refl parts.0))
    (not_here 34 p (strip_letters ps items) refl parts.0 ∙ sym (not_here 38 p (strip ps (codes "quot;" ++ more)) refl parts.0))
    (not_here 60 p (strip_letters ps items) refl parts.0 ∙ sym (not_here 38 p (strip ps (codes "lt;" ++ more)) refl parts.0))
    (not_here 62 p (strip_letters ps items) refl parts.0 ∙ sym (not_here 38 p (strip ps (codes "gt;" ++ more)) refl parts.0))
    (λ b e. same_cond (eqb b p) (strip_letters ps items) (strip ps more) (strip_items ps items after parts.1 k)
    ∙ ap (λ kind. is_some (strip (p ∷ ps) (spell_kind kind b ++ more))) (sym e))
    b

either : (a b c d x y z w : Bool) → a ≡ x → b ≡ y → c ≡ z → d ≡ w → (((a || b) || c) || d) ≡ (((x || y) || z) || w)
either a b c d x y z w p q r s = ap (λ a. ((a || b) || c) || d) p ∙ ap (λ b. ((x || b) || c) || d) q ∙ ap (λ c. ((x || y) || c) || d) r
    ∙ ap (λ d. ((x || y) || z) || d) s

text_reference : (text bytes : List ℕ) → spell_text text [] ≡ bytes → is_some (join_reference text) ≡ begins_reference bytes
text_reference text bytes e =
    let one = λ (c : ℕ) (name : List ℕ) (h : all_plain name ≡ true). some_mapped (λ bs. c ∷ bs) (strip name text) ∙ strip_text name text h
    ∙ ap (λ x. is_some (strip name x)) e in
    four (replace 38 (strip (codes "amp;") text)) (replace 34 (strip (codes "quot;") text)) (replace 60 (strip (codes "lt;") text))
    (replace 62 (strip (codes "gt;") text))
    ∙ either _ _ _ _ _ _ _ _ (one 38 (codes "amp;") refl) (one 34 (codes "quot;") refl) (one 60 (codes "lt;") refl) (one 62 (codes "gt;") refl)

items_reference : (items : Items) (after bytes : List ℕ) → stops after ≡ true → spell_before items after ≡ bytes
    → is_some (join_letters items) ≡ begins_reference bytes
items_reference items after bytes k e =
    let one = λ (c : ℕ) (name : List ℕ) (h : all_plain name ≡ true). some_mapped (Letter c) (strip_letters name items) ∙ strip_items name items after h k
    ∙ ap (λ x. is_some (strip name x)) e in
    four (replace_letters 38 (strip_letters (codes "amp;") items)) (replace_letters 34 (strip_letters (codes "quot;") items))
    (replace_letters 60 (strip_letters (codes "lt;") items)) (replace_letters 62 (strip_letters (codes "gt;") items))
    ∙ either _ _ _ _ _ _ _ _ (one 38 (codes "amp;") refl) (one 34 (codes "quot;") refl) (one 60 (codes "lt;") refl) (one 62 (codes "gt;") refl)

-- ---- texts

and_true : (a : Bool) → a ≡ (a && true)
and_true true = refl
and_true false = refl

text_step : (b : ℕ) (bytes : List ℕ) (o : Option (List ℕ)) → IfSome o (λ v. spell_text v [] ≡ bytes)
    → is_some (option_and_then (join_kind (kind b) b) o) ≡ (may_stand b bytes && is_some o)
text_step b bytes None h = sym (and_right (may_stand b bytes) false refl)
text_step b bytes (Some v) h =
    by_kind (λ b. is_some (join_kind (kind b) b v) ≡ (may_stand b bytes && true))
    (text_reference v bytes h ∙ and_true (begins_reference bytes)) refl refl refl
    (λ b k. ap (λ kind. is_some (join_kind kind b v)) k ∙ ap (λ kind. stands kind bytes && true) (sym k))
    b

pub text_more : (b : ℕ) (bytes : List ℕ) → is_some (read_text (b ∷ bytes)) ≡ (may_stand b bytes && is_some (read_text bytes))
text_more b bytes = text_step b bytes (read_text bytes) (text_sound bytes)

-- ---- open tags

-- what follows ends these tags, the first first
abbrev pub are_ends : Rest → List (List ℕ) → Bool
are_ends (Last items) [] = true
are_ends (Last items) (n ∷ ns) = false
are_ends (Then items name r) [] = false
are_ends (Then items name r) (n ∷ ns) = bytes_eq name n && are_ends r ns

abbrev pub closes : Reading → List (List ℕ) → Bool
closes Nowhere ns = false
closes (Outside r) ns = are_ends r ns
closes (Inside bytes r) ns = false

pub ends_first : (f : Items → Items) (r : Rest) (ns : List (List ℕ)) → are_ends (at_first f r) ns ≡ are_ends r ns
ends_first f (Last items) [] = refl
ends_first f (Last items) (n ∷ ns) = refl
ends_first f (Then items name r) [] = refl
ends_first f (Then items name r) (n ∷ ns) = refl

-- ---- letters

joined_last : (o : Option Items) (ns : List (List ℕ)) (items : Items) → closes (outside (option_map (λ i. Last i) o)) ns
    ≡ (is_some o && are_ends (Last items) ns)
joined_last None ns items = refl
joined_last (Some i) ns items = ends_first (λ _. i) (Last items) ns

joined_then : (o : Option Items) (ns : List (List ℕ)) (items : Items) (name : List ℕ) (r : Rest)
    → closes (outside (option_map (λ i. Then i name r) o)) ns ≡ (is_some o && are_ends (Then items name r) ns)
joined_then None ns items name r = refl
joined_then (Some i) ns items name r = ends_first (λ _. i) (Then items name r) ns

-- ---- tags

abbrev go : Option (List (List ℕ)) → Reading → Bool
go None s = false
go (Some ns) s = closes s ns

go_nowhere : (o : Option (List (List ℕ))) → go o Nowhere ≡ false
go_nowhere None = refl
go_nowhere (Some ns) = refl

go_inside : (o : Option (List (List ℕ))) (bytes : List ℕ) (r : Rest) → go o (Inside bytes r) ≡ false
go_inside None bytes r = refl
go_inside (Some ns) bytes r = refl

go_if : (t : Bool) (ns : List (List ℕ)) (r : Rest) → (t && are_ends r ns) ≡ go (cond t (Some ns) None) (Outside r)
go_if true ns r = refl
go_if false ns r = refl

opens : (t : Bool) (f : Items → Items) (r : Rest) (ns : List (List ℕ)) → closes (outside (cond t (Some (at_first f r)) None)) ns ≡ (t && are_ends r ns)
opens true f r ns = ends_first f r ns
opens false f r ns = refl

opening_more : (start void : Option Tag) (r : Rest) (ns : List (List ℕ)) → closes (outside (open_or start void r)) ns
    ≡ go (with_open_tag start void ns) (Outside r)
opening_more (Some tag) void (Last items) ns = refl
opening_more (Some tag) void (Then inside name r) ns = opens (bytes_eq name tag.name) (Element tag inside) r ns
opening_more None (Some tag) r ns = ends_first (Void tag) r ns
opening_more None None r ns = refl

ending_more : (name : List ℕ) (r : Rest) (ns : List (List ℕ)) → are_ends (Then End name r) ns ≡ go (close name ns) (Outside r)
ending_more name r [] = refl
ending_more name r (n ∷ ns) = go_if (bytes_eq name n) ns r

record InTag : Type 0 where
  bytes : List ℕ
  rest : Rest

abbrev in_tag : List ℕ → Reading → Option InTag
in_tag bytes Nowhere = None
in_tag bytes (Outside r) = Some (record { bytes = bytes; rest = r })
in_tag bytes (Inside inner r) = None

abbrev inside_of : Reading → Option InTag
inside_of Nowhere = None
inside_of (Outside r) = None
inside_of (Inside inner r) = Some (record { bytes = inner; rest = r })

abbrev longer_tag : ℕ → InTag → InTag
longer_tag b t = record { bytes = b ∷ t.bytes; rest = t.rest }

inside_outside : (o : Option Rest) → inside_of (outside o) ≡ None
inside_outside None = refl
inside_outside (Some r) = refl

in_longer : (b : ℕ) (bytes : List ℕ) (s : Reading) → option_map (longer_tag b) (in_tag bytes s) ≡ in_tag (b ∷ bytes) s
in_longer b bytes Nowhere = refl
in_longer b bytes (Outside r) = refl
in_longer b bytes (Inside inner r) = refl

-- ---- pages

whole_closes : (s : Reading) → closes s [] ≡ is_some (whole s)
whole_closes Nowhere = refl
whole_closes (Inside bytes r) = refl
whole_closes (Outside (Last items)) = refl
whole_closes (Outside (Then items name r)) = refl

module _ (table : TagTable) where
  -- ---- letters

  and_more : (bytes : List ℕ) (r : Rest) (ns : List (List ℕ)) → IsRest table bytes r
      → closes (outside (join_rest r)) ns ≡ (begins_reference bytes && are_ends r ns)
  and_more bytes (Last items) ns h =
      joined_last (join_letters items) ns items ∙ ap (λ x. x && are_ends (Last items) ns) (items_reference items [] bytes refl h.spelling)
  and_more bytes (Then items name r) ns h =
      joined_then (join_letters items) ns items name r
      ∙ ap (λ x. x && are_ends (Then items name r) ns) (items_reference items (60 ∷ 47 ∷ (name ++ (62 ∷ spell_rest r))) bytes refl h.spelling)

  letter_step : (b : ℕ) (bytes : List ℕ) (s : Reading) (ns : List (List ℕ)) → IsSound table bytes s → eqb b 60 ≡ false
      → closes (step table (kind b) b s) ns ≡ (may_stand b bytes && closes s ns)
  letter_step b bytes Nowhere ns h e =
      by_kind (λ b. closes (step table (kind b) b Nowhere) ns ≡ (may_stand b bytes && false))
      (sym (and_right (begins_reference bytes) false refl)) refl refl refl
      (λ b k. ap (λ kind. closes (step table kind b Nowhere) ns) k ∙ ap (λ kind. stands kind bytes && false) (sym k))
      b
  letter_step b bytes (Inside inner r) ns h e =
      by_kind (λ b. eqb b 60 ≡ false → closes (step table (kind b) b (Inside inner r)) ns ≡ (may_stand b bytes && false))
      (λ _. sym (and_right (begins_reference bytes) false refl)) (λ _. refl) (λ e. absurd (true≢false e)) (λ _. refl)
      (λ b k _. ap (λ kind. closes (step table kind b (Inside inner r)) ns) k ∙ ap (λ kind. stands kind bytes && false) (sym k))
      b e
  letter_step b bytes (Outside r) ns h e =
      by_kind (λ b. closes (step table (kind b) b (Outside r)) ns ≡ (may_stand b bytes && are_ends r ns))
      (and_more bytes r ns h) refl refl refl
      (λ b k. ap (λ kind. closes (step table kind b (Outside r)) ns) k ∙ ends_first (Letter b) r ns ∙ ap (λ kind. stands kind bytes && are_ends r ns) (sym k))
      b

  pub letter_more : (b : ℕ) (bytes : List ℕ) (ns : List (List ℕ)) → eqb b 60 ≡ false
      → closes (read table (b ∷ bytes)) ns ≡ (may_stand b bytes && closes (read table bytes) ns)
  letter_more b bytes ns e = letter_step b bytes (read table bytes) ns (read_sound table bytes) e

  -- ---- tags

  mark_more : (bytes : List ℕ) (r : Rest) (ns : List (List ℕ)) → closes (outside (read_mark table bytes r)) ns ≡ go (follows table bytes ns) (Outside r)
  mark_more [] r ns = refl
  mark_more (b ∷ bs) r ns =
      let start = read_tag (start_rows_of table) [] (b ∷ bs) in
      let void = read_tag (void_rows_of table) void_end (b ∷ bs) in
      elim (cases_Bool (eqb b 47)) [
        | inl e ↦
            ap (λ o. closes (outside o) ns) (cond-true (eqb b 47) (Some (Then End bs r)) (open_or start void r) e)
            ∙ ending_more bs r ns
            ∙ ap (λ o. go o (Outside r)) (sym (cond-true (eqb b 47) (close bs ns) (with_open_tag start void ns) e))
        | inr e ↦
            ap (λ o. closes (outside o) ns) (cond-false (eqb b 47) (Some (Then End bs r)) (open_or start void r) e)
            ∙ opening_more start void r ns
            ∙ ap (λ o. go o (Outside r)) (sym (cond-false (eqb b 47) (close bs ns) (with_open_tag start void ns) e))
      ]

  inside_more : (k : Kind) (b : ℕ) (s : Reading) → is_inner k ≡ true → inside_of (step table k b s) ≡ option_map (longer_tag b) (inside_of s)
  inside_more And b Nowhere h = refl
  inside_more And b (Outside r) h = inside_outside (join_rest r)
  inside_more And b (Inside bytes r) h = refl
  inside_more Quote b Nowhere h = refl
  inside_more Quote b (Outside r) h = refl
  inside_more Quote b (Inside bytes r) h = refl
  inside_more Less b s h = absurd (false≢true h)
  inside_more Greater b s h = absurd (false≢true h)
  inside_more Plain b Nowhere h = refl
  inside_more Plain b (Outside r) h = refl
  inside_more Plain b (Inside bytes r) h = refl

  inside_end : (s : Reading) → inside_of (step table Greater 62 s) ≡ in_tag [] s
  inside_end Nowhere = refl
  inside_end (Outside r) = refl
  inside_end (Inside bytes r) = refl

  inside_start : (s : Reading) → inside_of (step table Less 60 s) ≡ None
  inside_start Nowhere = refl
  inside_start (Outside r) = refl
  inside_start (Inside bytes r) = inside_outside (read_mark table bytes r)

  abbrev tagged : Option QuotedText → Option InTag
  tagged None = None
  tagged (Some q) = in_tag q.inside (read table q.rest)

  tagged_longer : (b : ℕ) (o : Option QuotedText) → option_map (longer_tag b) (tagged o) ≡ tagged (option_map (longer b) o)
  tagged_longer b None = refl
  tagged_longer b (Some q) = in_longer b q.inside (read table q.rest)

  inside_is : (bytes : List ℕ) → inside_of (read table bytes) ≡ tagged (split_tag bytes)
  inside_is [] = refl
  inside_is (b ∷ bs) =
      let known : option_map (longer_tag b) (inside_of (read table bs)) ≡ tagged (option_map (longer b) (split_tag bs)) =
      ap (option_map (longer_tag b)) (inside_is bs) ∙ tagged_longer b (split_tag bs) in
      by_kind (λ b. option_map (longer_tag b) (inside_of (read table bs)) ≡ tagged (option_map (longer b) (split_tag bs))
      → inside_of (step table (kind b) b (read table bs)) ≡ tagged (split_tag (b ∷ bs)))
      (λ known. inside_more And 38 (read table bs) refl ∙ known)
      (λ known. inside_more Quote 34 (read table bs) refl ∙ known)
      (λ _. inside_start (read table bs))
      (λ _. inside_end (read table bs))
      (λ b k known.
      ap (λ kind. inside_of (step table kind b (read table bs))) k ∙ inside_more Plain b (read table bs) refl ∙ known
      ∙ ap tagged (sym (cond-false (eqb b 62) _ (cond (eqb b 60) None (option_map (longer b) (split_tag bs))) (plain_other b 62 k refl)
      ∙ cond-false (eqb b 60) None (option_map (longer b) (split_tag bs)) (plain_other b 60 k refl))))
      b known

  abbrev closes_in : Option InTag → List (List ℕ) → Bool
  closes_in None ns = false
  closes_in (Some t) ns = closes (outside (read_mark table t.bytes t.rest)) ns

  less_closes : (s : Reading) (ns : List (List ℕ)) → closes (step table Less 60 s) ns ≡ closes_in (inside_of s) ns
  less_closes Nowhere ns = refl
  less_closes (Outside r) ns = refl
  less_closes (Inside bytes r) ns = refl

  in_goes : (bytes : List ℕ) (s : Reading) (ns : List (List ℕ)) → closes_in (in_tag bytes s) ns ≡ go (follows table bytes ns) s
  in_goes bytes Nowhere ns = sym (go_nowhere (follows table bytes ns))
  in_goes bytes (Outside r) ns = mark_more bytes r ns
  in_goes bytes (Inside inner r) ns = sym (go_inside (follows table bytes ns) inner r)

  tag_is : (bytes : List ℕ) (ns : List (List ℕ)) → closes (read table (60 ∷ bytes)) ns ≡ closes_in (tagged (split_tag bytes)) ns
  tag_is bytes ns = less_closes (read table bytes) ns ∙ ap (λ o. closes_in o ns) (inside_is bytes)

  pub no_tag : (bytes : List ℕ) (ns : List (List ℕ)) → split_tag bytes ≡ None → closes (read table (60 ∷ bytes)) ns ≡ false
  no_tag bytes ns h = tag_is bytes ns ∙ ap (λ o. closes_in (tagged o) ns) h

  split_goes : (bytes : List ℕ) (ns : List (List ℕ)) (q : QuotedText) → split_tag bytes ≡ Some q
      → closes (read table (60 ∷ bytes)) ns ≡ go (follows table q.inside ns) (read table q.rest)
  split_goes bytes ns q h = tag_is bytes ns ∙ ap (λ o. closes_in (tagged o) ns) h ∙ in_goes q.inside (read table q.rest) ns

  pub bad_tag : (bytes : List ℕ) (ns : List (List ℕ)) (q : QuotedText) → split_tag bytes ≡ Some q → follows table q.inside ns ≡ None
      → closes (read table (60 ∷ bytes)) ns ≡ false
  bad_tag bytes ns q h k = split_goes bytes ns q h ∙ ap (λ o. go o (read table q.rest)) k

  pub good_tag : (bytes : List ℕ) (ns more : List (List ℕ)) (q : QuotedText) → split_tag bytes ≡ Some q → follows table q.inside ns ≡ Some more
      → closes (read table (60 ∷ bytes)) ns ≡ closes (read table q.rest) more
  good_tag bytes ns more q h k = split_goes bytes ns q h ∙ ap (λ o. go o (read table q.rest)) k

  -- ---- pages

  has_reading : (page : List ℕ) (o : Option Items) → IfSome o (IsReadingBy table page) → is_some o ≡ true → IsSafePageBy table page
  has_reading page None h k = absurd (false≢true k)
  has_reading page (Some items) h k = (items, h)

  -- what the test says
  pub decided : (page : List ℕ) (safe : Bool) → closes (read table page) [] ≡ safe → IsTrue safe ↔ IsSafePageBy table page
  decided page safe h = (
    λ t. has_reading page (read_page table page) (page_sound table page) (sym (whole_closes (read table page)) ∙ h ∙ t),
    λ r. sym h ∙ whole_closes (read table page) ∙ ap (λ p. is_some (read_page table p)) (sym r.1.1) ∙ ap is_some (page_spelled table r.0 r.1.0),
  )
