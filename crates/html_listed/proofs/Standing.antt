-- In what is made of any HTML elements stand where they may.
use Rattle.std.proofs.Common.{◌≡◌, ℕ, suc, ◌+◌, ◌<◌, ◌≤◌, Bool, true, false, not, ◌&&◌, ◌||◌, cond, List, [], ◌∷◌, ◌++◌, codes, length, drop, refl, sym}
use Rattle.std.proofs.Common.{ap, ◌∙◌, subst}
use Rattle.std.proofs.Common.{inl, inr, ◌⊎◌, arith}
use Rattle.std.specs.Prelude.{nat_lt, nat_le}
use Rattle.std.specs.List.{list_any, list_all, prefix_len}
use Rattle.std.specs.Str.{bytes_eq}
use Rattle.std.proofs.lemmas.Bool.{cases_Bool, cond-true, cond-false, cond_both, false≢true, true≢false, and_parts, and_from, and_left, or_cases, or_from}
use Rattle.std.proofs.lemmas.Bool.{not-true}
use Rattle.std.proofs.lemmas.Bool.{leb-false, lt-ltb, le-ltb}
use Rattle.std.proofs.lemmas.List.{length-append}
use Rattle.html_safe_page.proofs.Spelled.{same_bytes}
use Rattle.definition_html.specs.Listing.{is_in, is_part, parents_of, part_rows, heading_names, frame_names, deepest}
use Rattle.definition_html.specs.State.{State, ended_to, count_to, begins_with_frame, without_frame, with_room}
use Rattle.html_listed.specs.Standing.{is_right_in, may_stand, may_begin}
use Rattle.html_listed.proofs.Open.{AreFit, names_ended, fit_ended}

-- ---- the last open element of some names

record IsFound (wanted names : List (List ℕ)) : Type 0 where
  front : List (List ℕ)
  name : List ℕ
  rest : List (List ℕ)
  parts : names ≡ front ++ name ∷ rest
  here : is_in wanted name ≡ true
  count : prefix_len (λ n. not (is_in wanted n)) names ≡ length front

abbrev IsNone : List (List ℕ) → List (List ℕ) → Type 0
IsNone wanted names = (prefix_len (λ n. not (is_in wanted n)) names ≡ length names) × (list_any (is_in wanted) names ≡ false)

found_or_none : (wanted names : List (List ℕ)) → IsNone wanted names ⊎ IsFound wanted names
found_or_none wanted [] = inl (refl, refl)
found_or_none wanted (n ∷ ns) =
    let more = prefix_len (λ n. not (is_in wanted n)) ns in
    let one : 1 + more ≡ suc more = omega arith in
    elim (cases_Bool (is_in wanted n)) [
      | inl e ↦ inr (record { front = []; name = n; rest = ns; parts = refl; here = e; count = ap (λ t. cond (not t) (1 + more) 0) e })
      | inr e ↦
          let passes : prefix_len (λ n. not (is_in wanted n)) (n ∷ ns) ≡ suc more = ap (λ t. cond (not t) (1 + more) 0) e ∙ one in
          elim (found_or_none wanted ns) [
            | inl h ↦ inl (passes ∙ ap suc h.0, or_from (is_in wanted n) (list_any (is_in wanted) ns) e h.1)
            | inr r ↦ inr (record {
              front = n ∷ r.front;
              name = r.name;
              rest = r.rest;
              parts = ap (λ x. n ∷ x) r.parts;
              here = r.here;
              count = passes ∙ ap suc r.count;
            })
          ]
    ]

none_counted : (wanted names : List (List ℕ)) → IsNone wanted names → count_to wanted names ≡ 0
none_counted wanted names h =
    let above = prefix_len (λ n. not (is_in wanted n)) names in
    let same = h.0 in
    let most : length names ≤ above = omega arith in
    cond-false (nat_lt above (length names)) (above + 1) 0 (le-ltb above (length names) most)

found_counted : (wanted names : List (List ℕ)) (r : IsFound wanted names) → count_to wanted names ≡ suc (length r.front)
found_counted wanted names r =
    let above = prefix_len (λ n. not (is_in wanted n)) names in
    let all : length names ≡ length r.front + length (r.name ∷ r.rest) = ap length r.parts ∙ length-append r.front (r.name ∷ r.rest) in
    let same = r.count in
    let fewer : above < length names = omega arith in
    let one : above + 1 ≡ suc (length r.front) = omega arith in
    cond-true (nat_lt above (length names)) (above + 1) 0 (lt-ltb above (length names) fewer) ∙ one

-- up to this element, and with it
left_before : (wanted names : List (List ℕ)) (r : IsFound wanted names) → drop (length r.front) names ≡ r.name ∷ r.rest
left_before wanted names r = ap (drop (length r.front)) r.parts ∙ names_run r.front (r.name ∷ r.rest)
  where
    names_run : (m rest : List (List ℕ)) → drop (length m) (m ++ rest) ≡ rest
    names_run [] rest = refl
    names_run (n ∷ ns) rest = names_run ns rest

left_after : (wanted names : List (List ℕ)) (r : IsFound wanted names) → drop (count_to wanted names) names ≡ r.rest
left_after wanted names r =
    ap (λ n. drop n names) (found_counted wanted names r)
    ∙ ap (drop (suc (length r.front))) r.parts
    ∙ names_run r.front r.name r.rest
  where
    names_run : (m : List (List ℕ)) (n : List ℕ) (rest : List (List ℕ)) → drop (suc (length m)) (m ++ n ∷ rest) ≡ rest
    names_run [] n rest = refl
    names_run (m ∷ ms) n rest = names_run ms n rest

-- ---- what stands below

fits_later : (front names : List (List ℕ)) → AreFit (front ++ names) → AreFit names
fits_later [] names h = h
fits_later (n ∷ ns) names h = fits_later ns names h.1

-- an open element stands where it may
found_stands : (wanted names : List (List ℕ)) (r : IsFound wanted names) → AreFit names → may_stand r.rest r.name ≡ true
found_stands wanted names r fit =
    (and_parts (nat_lt (length r.rest) deepest) (may_stand r.rest r.name) (fits_later r.front (r.name ∷ r.rest) (subst AreFit r.parts fit)).0).1

-- an element that is no part stands in no frame, and as a heading in no heading
pub record StandsFree (names : List (List ℕ)) (name : List ℕ) : Type 0 where
  pub no_frame : begins_with_frame names ≡ false
  pub no_heading : (is_in heading_names name && list_any (is_in heading_names) names) ≡ false

stands_free : (names : List (List ℕ)) (name : List ℕ) → is_part name ≡ false → may_stand names name ≡ true → StandsFree names name
stands_free names name other h =
    let in_heading = is_in heading_names name && list_any (is_in heading_names) names in
    let free = not (begins_with_frame names) && not in_heading in
    let parts = and_parts (not (begins_with_frame names)) (not in_heading)
    (sym (cond-false (is_part name) (is_right_in (parents_of name) names) free other) ∙ h) in
    record { no_frame = not-true (begins_with_frame names) parts.0; no_heading = not-true in_heading parts.1 }

free_stands : (names : List (List ℕ)) (name : List ℕ) → is_part name ≡ false → StandsFree names name → may_stand names name ≡ true
free_stands names name other h =
    let in_heading = is_in heading_names name && list_any (is_in heading_names) names in
    cond-false (is_part name) (is_right_in (parents_of name) names) _ other
    ∙ and_from (not (begins_with_frame names)) (not in_heading) (ap not h.no_frame) (ap not h.no_heading)

-- ---- frames

abbrev table : List (List ℕ)
table = codes "table" ∷ []

-- a frame that is no table is a part of frames
abbrev IsPartOfFrames : List ℕ → Type 0
IsPartOfFrames name = (is_part name ≡ true) × (list_all (is_in frame_names) (parents_of name) ≡ true)

frame_kind : (name : List ℕ) → is_in frame_names name ≡ true → (codes "table" ≡ name) ⊎ IsPartOfFrames name
unfolding frame_names part_rows
frame_kind name h =
    elim (or_cases (bytes_eq (codes "table") name) _ h) [
      | inl e ↦ inl (same_bytes (codes "table") name e)
      | inr h ↦ elim (or_cases (bytes_eq (codes "thead") name) _ h) [
        | inl e ↦ inr (subst IsPartOfFrames (same_bytes (codes "thead") name e) (refl, refl))
        | inr h ↦ elim (or_cases (bytes_eq (codes "tbody") name) _ h) [
          | inl e ↦ inr (subst IsPartOfFrames (same_bytes (codes "tbody") name e) (refl, refl))
          | inr h ↦ elim (or_cases (bytes_eq (codes "tfoot") name) _ h) [
            | inl e ↦ inr (subst IsPartOfFrames (same_bytes (codes "tfoot") name e) (refl, refl))
            | inr h ↦ elim (or_cases (bytes_eq (codes "tr") name) _ h) [
              | inl e ↦ inr (subst IsPartOfFrames (same_bytes (codes "tr") name e) (refl, refl))
              | inr h ↦ absurd (false≢true h)
            ]
          ]
        ]
      ]
    ]

table_is_no_part : is_part (codes "table") ≡ false
unfolding part_rows
table_is_no_part = refl

in_frame : (names : List (List ℕ)) (name : List ℕ) → list_all (is_in frame_names) names ≡ true → is_in names name ≡ true → is_in frame_names name ≡ true
in_frame [] name h k = absurd (false≢true k)
in_frame (n ∷ ns) name h k =
    let parts = and_parts (is_in frame_names n) (list_all (is_in frame_names) ns) h in
    elim (or_cases (bytes_eq n name) (is_in ns name) k) [
      | inl e ↦ subst (λ m. is_in frame_names m ≡ true) (same_bytes n name e) parts.0
      | inr e ↦ in_frame ns name parts.1 e
    ]

right_in_frame : (wanted names : List (List ℕ)) → list_all (is_in frame_names) wanted ≡ true → is_right_in wanted names ≡ true → begins_with_frame names ≡ true
right_in_frame wanted [] h k = absurd (false≢true k)
right_in_frame wanted (n ∷ ns) h k = in_frame wanted n h k

-- under a frame is a table
frame_has_table : (names : List (List ℕ)) → AreFit names → begins_with_frame names ≡ true → list_any (is_in table) names ≡ true
frame_has_table [] fit h = absurd (false≢true h)
frame_has_table (n ∷ ns) fit h =
    elim (frame_kind n h) [
      | inl e ↦ subst (λ m. list_any (is_in table) (m ∷ ns) ≡ true) e refl
      | inr part ↦
          let stands = (and_parts (nat_lt (length ns) deepest) (may_stand ns n) fit.0).1 in
          let right = sym (cond-true (is_part n) (is_right_in (parents_of n) ns) _ part.0) ∙ stands in
          or_right_any (is_in table n) (frame_has_table ns fit.1 (right_in_frame (parents_of n) ns part.1 right))
    ]
  where
    or_right_any : (a : Bool) {b : Bool} → b ≡ true → (a || b) ≡ true
    or_right_any true h = refl
    or_right_any false h = h

is_table : (name : List ℕ) → is_in table name ≡ true → codes "table" ≡ name
is_table name h = elim (or_cases (bytes_eq (codes "table") name) false h) [
  | inl e ↦ same_bytes (codes "table") name e
  | inr e ↦ absurd (false≢true e)
]

-- once its table ends, no frame is left
frame_ended : (names : List (List ℕ)) → AreFit names → begins_with_frame names ≡ true → begins_with_frame (drop (count_to table names) names) ≡ false
frame_ended names fit h =
    elim (found_or_none table names) [
      | inl none ↦ absurd (true≢false (sym (frame_has_table names fit h) ∙ none.1))
      | inr r ↦
          ap begins_with_frame (left_after table names r)
          ∙ (stands_free r.rest r.name (ap is_part (sym (is_table r.name r.here)) ∙ table_is_no_part) (found_stands table names r fit)).no_frame
    ]

no_frame : (s : State) → AreFit s.level.names → begins_with_frame (without_frame s).level.names ≡ false
no_frame s fit =
    cond_both (begins_with_frame s.level.names) (ended_to table s) s (λ (t : State). begins_with_frame t.level.names ≡ false)
    (λ e. ap begins_with_frame (names_ended (count_to table s.level.names) s.level.names s) ∙ frame_ended s.level.names fit e)
    (λ e. e)

-- ---- headings

pub heading_is_no_part : (name : List ℕ) → is_in heading_names name ≡ true → is_part name ≡ false
unfolding heading_names part_rows
heading_is_no_part name h =
    let at = λ (n : List ℕ) (k : is_part n ≡ false) (e : bytes_eq n name ≡ true). subst (λ m. is_part m ≡ false) (same_bytes n name e) k in
    elim (or_cases (bytes_eq (codes "h1") name) _ h) [
      | inl e ↦ at (codes "h1") refl e
      | inr h ↦ elim (or_cases (bytes_eq (codes "h2") name) _ h) [
        | inl e ↦ at (codes "h2") refl e
        | inr h ↦ elim (or_cases (bytes_eq (codes "h3") name) _ h) [
          | inl e ↦ at (codes "h3") refl e
          | inr h ↦ elim (or_cases (bytes_eq (codes "h4") name) _ h) [
            | inl e ↦ at (codes "h4") refl e
            | inr h ↦ elim (or_cases (bytes_eq (codes "h5") name) _ h) [
              | inl e ↦ at (codes "h5") refl e
              | inr h ↦ elim (or_cases (bytes_eq (codes "h6") name) _ h) [
                | inl e ↦ at (codes "h6") refl e
                | inr h ↦ absurd (false≢true h)
              ]
            ]
          ]
        ]
      ]
    ]

-- once a heading ends, neither a frame nor a heading is left
heading_ended : (names : List (List ℕ)) (name : List ℕ) → AreFit names → begins_with_frame names ≡ false
    → StandsFree (drop (count_to heading_names names) names) name
heading_ended names name fit h =
    elim (found_or_none heading_names names) [
      | inl none ↦
          subst (λ n. StandsFree (drop n names) name) (sym (none_counted heading_names names none))
          (record { no_frame = h; no_heading = and_right_any (is_in heading_names name) none.1 })
      | inr r ↦
          let free = stands_free r.rest r.name (heading_is_no_part r.name r.here) (found_stands heading_names names r fit) in
          let none = sym (ap (λ t. t && list_any (is_in heading_names) r.rest) r.here) ∙ free.no_heading in
          subst (λ left. StandsFree left name) (sym (left_after heading_names names r))
          (record { no_frame = free.no_frame; no_heading = and_right_any (is_in heading_names name) none })
    ]
  where
    and_right_any : (a : Bool) {b : Bool} → b ≡ false → (a && b) ≡ false
    and_right_any true h = h
    and_right_any false h = refl

frame_fit : (s : State) → AreFit s.level.names → AreFit (without_frame s).level.names
frame_fit s fit =
    cond_both (begins_with_frame s.level.names) (ended_to table s) s (λ (t : State). AreFit t.level.names)
    (λ _. fit_ended (count_to table s.level.names) s.level.names s fit) (λ _. fit)

-- an element that is no part has room
pub has_room : (name : List ℕ) (s : State) → AreFit s.level.names → StandsFree (with_room name s).level.names name
has_room name s fit =
    let t = without_frame s in
    let free = no_frame s fit in
    cond_both (is_in heading_names name) (ended_to heading_names t) t (λ (u : State). StandsFree u.level.names name)
    (λ _.
    subst (λ left. StandsFree left name) (sym (names_ended (count_to heading_names t.level.names) t.level.names t))
    (heading_ended t.level.names name (frame_fit s fit) free))
    (λ e. record { no_frame = free; no_heading = and_left (is_in heading_names name) (list_any (is_in heading_names) t.level.names) e })

-- ---- where elements begin

not_deep : (n : ℕ) → nat_le deepest n ≡ false → nat_lt n deepest ≡ true
not_deep n h = lt-ltb n deepest (leb-false deepest n h)

pub part_fits : (name : List ℕ) (names : List (List ℕ)) (above : ℕ) → is_part name ≡ true → count_to (parents_of name) names ≡ suc above
    → nat_le deepest (length (drop above names)) ≡ false → may_begin (drop above names) name ≡ true
part_fits name names above part k deep =
    elim (found_or_none (parents_of name) names) [
      | inl none ↦ let zero_is = sym (none_counted (parents_of name) names none) ∙ k in absurd (omega arith)
      | inr r ↦
          let count = sym (found_counted (parents_of name) names r) ∙ k in
          let same : length r.front ≡ above = omega arith in
          let left : drop above names ≡ r.name ∷ r.rest = ap (λ n. drop n names) (sym same) ∙ left_before (parents_of name) names r in
          and_from (nat_lt (length (drop above names)) deepest) (may_stand (drop above names) name) (not_deep (length (drop above names)) deep)
          (cond-true (is_part name) (is_right_in (parents_of name) (drop above names)) _ part ∙ ap (is_right_in (parents_of name)) left ∙ r.here)
    ]

pub other_fits : (name : List ℕ) (s : State) → AreFit s.level.names → is_part name ≡ false → nat_le deepest (length (with_room name s).level.names) ≡ false
    → may_begin (with_room name s).level.names name ≡ true
other_fits name s fit other deep =
    let names = (with_room name s).level.names in
    and_from (nat_lt (length names) deepest) (may_stand names name) (not_deep (length names) deep) (free_stands names name other (has_room name s fit))
