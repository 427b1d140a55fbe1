-- Text and tags of the page's own are printed as they are.
use Rattle.std.proofs.Common.{◌≡◌, ℕ, ◌+◌, ◌-◌, ◌<◌, ◌≤◌, Bool, true, false, not, ◌&&◌, cond, eqb, List, [], ◌∷◌, ◌++◌, codes, length, take, drop}
use Rattle.std.proofs.Common.{refl, sym, ap, ◌∙◌, Bor, arith, append_assoc, length-append, subst, inl, inr}
use Rattle.std.specs.List.{prefix_len, take_while}
use Rattle.std.specs.Str.{IsCharBoundary, IsUtf8}
use Rattle.std.proofs.Math.Seq.{take-append_seam}
use Rattle.std.proofs.lemmas.Bool.{cases_Bool, cond-true, cond-false, eqb-false, ne_eqb, true≢false}
use Rattle.std.proofs.lemmas.Str.{IsCharBoundary-at_seam}
use Rattle.definition_text.specs.Bytes.{after_all, begins_with}
use Rattle.definition_inline.specs.GfmAutolinkLiteral.{ends_with}
use Rattle.definition_html.specs.Listing.{is_in, heading_names}
use Rattle.definition_html.specs.PageParts.{after_tag, is_in_tag, is_in_text}
use Rattle.definition_html.specs.State.{State, Level, state, level, says, with_room, entered, left, all_ended}
use Rattle.html_safe_page.specs.Views.{open_names}
use Rattle.html_sanitizer.specs.Elements.{IsOwnTag, IsPlain, first_name, in_brackets, own_printed, parts_after}
use Rattle.html_sanitizer.proofs.Nameless.{both_parts, no_longer, sign_after, text_passed, own_passed}

-- ---- tags

-- where no raw element is open, there is room for each element
room_there : (s : State) (t : Bool) → cond t s s ≡ s
room_there s true = refl
room_there s false = refl

none_open : (items : List (Bor (List ℕ))) → length items ≡ 0 → open_names items ≡ []
none_open [] h = refl
none_open (x ∷ xs) h = absurd (omega (arith, h))

module _ (run inside out : List ℕ) (heading : Bool) (around : List Level) where
  abbrev at : List (List ℕ) → State
  at names = state out (level heading names) around

  abbrev tag : List ℕ
  tag = in_brackets inside

  abbrev name : List ℕ
  name = first_name inside

  abbrev before : State
  before = says run (at [])

  joined : (s : List ℕ → State) → s (out ++ (run ++ tag)) ≡ s ((out ++ run) ++ tag)
  joined s = ap s (sym (append_assoc out run tag))

  room : with_room name before ≡ before
  room = room_there before (is_in heading_names name)

  end_printed : begins_with (codes "/") inside ≡ true → says (run ++ tag) (left (at [])) ≡ own_printed before inside
  end_printed h = left_printed around ∙ sym (cond-true (begins_with (codes "/") inside) (says tag (left (all_ended before))) _ h)
    where
      left_printed : (levels : List Level) → says (run ++ tag) (left (state out (level heading []) levels))
          ≡ says tag (left (all_ended (says run (state out (level heading []) levels))))
      left_printed [] = joined (λ o. state o (level heading []) [])
      left_printed (l ∷ ls) = joined (λ o. state o l ls)

  void_printed : begins_with (codes "/") inside ≡ false → ends_with (codes " /") inside ≡ true → says (run ++ tag) (at []) ≡ own_printed before inside
  void_printed h v =
      joined (λ o. state o (level heading []) around)
      ∙ ap (says tag) (sym room)
      ∙ sym (cond-true (ends_with (codes " /") inside) (says tag (with_room name before)) _ v)
      ∙ sym (cond-false (begins_with (codes "/") inside) (says tag (left (all_ended before))) _ h)

  start_printed : begins_with (codes "/") inside ≡ false → ends_with (codes " /") inside ≡ false
      → says (run ++ tag) (entered name (at [])) ≡ own_printed before inside
  start_printed h v =
      let s = entered name (at []) in
      joined (λ o. state o s.level s.around)
      ∙ ap (λ t. entered name (says tag t)) (sym room)
      ∙ sym (cond-false (ends_with (codes " /") inside) (says tag (with_room name before)) _ v)
      ∙ sym (cond-false (begins_with (codes "/") inside) (says tag (left (all_ended before))) _ h)

  -- the same where the names of the raw elements are given
  module _ (items : List (Bor (List ℕ))) (none : length items ≡ 0) where
    abbrev here : State
    here = at (open_names items)

    pub end_plain : begins_with (codes "/") inside ≡ true → says (run ++ tag) (left here) ≡ own_printed (says run here) inside
    end_plain h =
        subst (λ (names : List (List ℕ)). says (run ++ tag) (left (at names)) ≡ own_printed (says run (at names)) inside) (sym (none_open items none))
        (end_printed h)

    pub void_plain : begins_with (codes "/") inside ≡ false → ends_with (codes " /") inside ≡ true
        → says (run ++ tag) here ≡ own_printed (says run here) inside
    void_plain h v =
        subst (λ (names : List (List ℕ)). says (run ++ tag) (at names) ≡ own_printed (says run (at names)) inside) (sym (none_open items none))
        (void_printed h v)

    pub start_plain : begins_with (codes "/") inside ≡ false → ends_with (codes " /") inside ≡ false
        → says (run ++ tag) (entered name here) ≡ own_printed (says run here) inside
    start_plain h v =
        subst (λ (names : List (List ℕ)). says (run ++ tag) (entered name (at names)) ≡ own_printed (says run (at names)) inside)
        (sym (none_open items none)) (start_printed h v)

named_by : (tag : List ℕ) → eqb (length (take_while is_in_tag tag)) 0 ≡ false → begins_with (codes "<>") (60 ∷ tag) ≡ false
named_by [] h = absurd (true≢false h)
named_by (c ∷ cs) h = elim (cases_Bool (eqb c 62)) [
  | inl e ↦ absurd (true≢false (sym (ap (λ t. eqb (length (take (cond (not t) (1 + prefix_len is_in_tag cs) 0) (c ∷ cs))) 0) e) ∙ h))
  | inr e ↦ ap (λ t. t && true) (ne_eqb 62 c (λ k. eqb-false c 62 e (sym k)))
]

pub own_tag : (text tag inside end after : List ℕ) → text ≡ 60 ∷ tag → inside ≡ take_while is_in_tag tag → end ≡ after_all is_in_tag tag
    → end ≡ 62 ∷ after → eqb (length inside) 0 ≡ false → IsOwnTag text inside after
own_tag text tag inside end after is within beyond ended some =
    let place = ap (drop 1) is in
    record {
      spelling = is
          ∙ ap (λ x. 60 ∷ x) (sym (both_parts is_in_tag tag) ∙ ap (λ x. x ++ after_all is_in_tag tag) (sym within)
          ∙ ap (λ x. inside ++ x) (sym beyond ∙ ended) ∙ sym (append_assoc inside (codes ">") after));
      named = ap (begins_with (codes "<>")) is ∙ named_by tag (ap (λ x. eqb (length x) 0) (sym within) ∙ some);
      cut = within ∙ ap (take_while is_in_tag) (sym place);
      rest = ap (drop 1) (sym ended ∙ beyond) ∙ ap after_tag (sym place);
    }

-- ---- from left to right

pub plain_text : (s : State) (text rest : List ℕ) → rest ≡ after_all is_in_text text → IsPlain s s text rest
plain_text s text rest is = record {
  run = take_while is_in_text text;
  whole = sym (both_parts is_in_text text) ∙ ap (λ x. take_while is_in_text text ++ x) (sym is);
  passed = λ names options. ap (parts_after names options (says (take_while is_in_text text) s)) is ∙ text_passed names options s text;
  stops = λ some. ap (begins_with (codes "<")) is ∙ sign_after text (λ none. some (ap length is ∙ none));
}

module _ (before s t : State) (text rest inside after next : List ℕ) (so : IsPlain before s text rest) (own : IsOwnTag rest inside after)
    (printed : (run : List ℕ) → says (run ++ in_brackets inside) t ≡ own_printed (says run s) inside) (is : next ≡ after_all is_in_text after) where
  abbrev letters : List ℕ
  letters = take_while is_in_text after

  abbrev written : List ℕ
  written = in_brackets inside

  pub plain_tag : IsPlain before t text next
  unfolding plain_text
  plain_tag =
      let more = plain_text (says (so.run ++ written) t) after next is in
      record {
        run = (so.run ++ written) ++ letters;
        whole = so.whole
            ∙ ap (λ x. so.run ++ x) (own.spelling ∙ ap (λ x. written ++ x) more.whole)
            ∙ sym (append_assoc so.run written (letters ++ next))
            ∙ sym (append_assoc (so.run ++ written) letters next);
        passed = λ names options.
            ap (λ o. parts_after names options (state o t.level t.around) next) (sym (append_assoc t.out (so.run ++ written) letters))
            ∙ more.passed names options
            ∙ own_passed names options (says so.run s) (says (so.run ++ written) t) rest (inside ++ 62 ∷ after) inside after own.named
            (tag_spelled own.spelling) (own.cut ∙ ap (take_while is_in_tag) cut_one) (own.rest ∙ ap after_tag cut_one) (printed so.run)
            ∙ so.passed names options;
        stops = more.stops;
      }
    where
      tag_spelled : rest ≡ written ++ after → rest ≡ 60 ∷ (inside ++ 62 ∷ after)
      tag_spelled e = e ∙ ap (λ x. 60 ∷ x) (append_assoc inside (codes ">") after)

      cut_one : drop 1 rest ≡ inside ++ 62 ∷ after
      cut_one = ap (drop 1) (tag_spelled own.spelling)

  pub plain_less : length next < length rest
  plain_less =
      let long = ap length own.spelling ∙ length-append written after in
      let some = length-append (codes "<") (inside ++ codes ">") in
      let less = no_longer is_in_text after in
      let same = ap length is in
      omega (arith, long, some, less, same)

-- ---- cuts

pub front_size : (text run rest : List ℕ) → text ≡ run ++ rest → length text - length rest ≡ length run
front_size text run rest e = omega (arith, ap length e, length-append run rest)

pub front_less : (text run rest : List ℕ) → text ≡ run ++ rest → length rest ≤ length text
front_less text run rest e = omega (arith, ap length e, length-append run rest)

pub front_taken : (text run rest : List ℕ) → text ≡ run ++ rest → take (length text - length rest) text ≡ run
front_taken text run rest e = ap (λ n. take n text) (front_size text run rest e) ∙ ap (take (length run)) e ∙ take-append_seam run rest

pub front_cut : (text run rest : List ℕ) → text ≡ run ++ rest → IsUtf8 rest → IsCharBoundary text (length text - length rest)
front_cut text run rest e utf8 = subst (IsCharBoundary text) (sym (front_size text run rest e)) (IsCharBoundary-at_seam text run rest e utf8)
