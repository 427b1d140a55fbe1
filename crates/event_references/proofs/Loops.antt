-- Events, one after another.
use Rattle.std.proofs.Common.{◌≡◌, ◌<◌, ℕ, ◌+◌, Bool, true, false, ◌&&◌, ◌||◌, if◌then◌else◌, List, [], ◌∷◌, ◌++◌, Option, None, Some}
use Rattle.std.proofs.Common.{refl, zero, suc, sym, ap, ◌∙◌, subst, get_or, drop-cons, add-one, append_assoc, drop, take, ◌-◌, length, OnOk, arith}
use Rattle.event_references.proofs.Prelude.{around, Event, is_enter, is_listed, is_part, Kind, label_of, leads, length-append, lost_from, lost_next, map}
use Rattle.event_references.proofs.Prelude.{map-append, Media, media_names, Name, new_media, no_event, noted, reverse, same_name, Spot, spot_of, text_after}
use Rattle.event_references.proofs.Prelude.{text_at, text_of, texts_of}
use Rattle.std.specs.Prelude.{Result, Ok}
use Rattle.std.proofs.lemmas.List.{length-map, reverse-append, take_rest, drop_all}
use Rattle.definition_text.specs.Content.{content_codes}
use Rattle.engine_events.specs.declared.event.Kind.TheVariants.{Enter, Exit}
use denote.Enum.Bare.{same_true}
use Rattle.engine_events.specs.contracts.event.Name.{the_type}
use Rattle.inline_labels.specs.Table.{HasLabels, AddsLabel}
use Rattle.inline_labels.specs.declared.table.LabelTable.{LabelTable}
use Rattle.event_grammar.specs.Marked.{defines_label, is_marked, marked_from}
use Rattle.event_references.specs.Views.{text_first}
use Rattle.event_references.proofs.Parts.{noted_none}
use Rattle.event_references.specs.Lost.{lost_exit}

pub drop_next : (events : List Event) (i : ℕ) → i < length events → drop i events ≡ get_or events i no_event ∷ drop (i + 1) events
drop_next events i l = let f : drop i events ≡ get_or events i no_event ∷ drop (i + 1) events = rw (add-one, drop-cons events i no_event l) in f

-- a table has the labels of a name before a place
abbrev pub HasFront : {A : Type 0} → List ℕ → Name → List Event → ℕ → LabelTable A → ℕ → Type 0
HasFront bytes name events i table count =
    (front : List (List ℕ)) × HasLabels table (map content_codes front) × (count ≡ length front)
    × (front ++ texts_of bytes name (drop i events) ≡ texts_of bytes name events)

module _ (bytes : List ℕ) (name : Name) (events : List Event) where
  texts_next : (i : ℕ) (b : Bool) → i < length events → (is_enter (get_or events i no_event).kind && same_name (get_or events i no_event).name name) ≡ b
      → texts_of bytes name (drop i events)
      ≡ (if b then text_of bytes (get_or events i no_event) (drop (i + 1) events) ∷ texts_of bytes name (drop (i + 1) events)
      else texts_of bytes name (drop (i + 1) events))
  texts_next i b l h =
      let e = get_or events i no_event in
      let es = drop (i + 1) events in
      ap (texts_of bytes name) (drop_next events i l)
      ∙ ap (λ (t : Bool). if t then text_of bytes e es ∷ texts_of bytes name es else texts_of bytes name es) h

  pub text_read : (i : ℕ) (items : List ℕ) (at : Spot) → items ≡ [] → at ≡ spot_of (get_or events i no_event)
      → items ++ text_after bytes 0 0 at (take (length events - (i + 1)) (drop (i + 1) events)) ≡ text_of bytes (get_or events i no_event) (drop (i + 1) events)
  text_read i items at h k =
      ap (λ (z : List ℕ). z ++ text_after bytes 0 0 at (take (length events - (i + 1)) (drop (i + 1) events))) h
      ∙ ap (λ (z : Spot). text_after bytes 0 0 z (take (length events - (i + 1)) (drop (i + 1) events))) k
      ∙ ap (text_after bytes 0 0 (spot_of (get_or events i no_event))) (take_rest events (i + 1))

  pub front_same : {A : Type 0} (i : ℕ) (table : LabelTable A) (count : ℕ) → i < length events
      → (is_enter (get_or events i no_event).kind && same_name (get_or events i no_event).name name) ≡ false
      → HasFront bytes name events i table count → HasFront bytes name events (i + 1) table count
  front_same i table count l h k =
      (k.0, k.1, k.2, ap (λ (z : List (List ℕ)). k.0 ++ z) (sym (texts_next i false l h)) ∙ k.3)

  pub front_more : {A B C : Type 0} (i : ℕ) (old new : LabelTable A) (result : Result B C) (ok : B) (count : ℕ) (text : List ℕ) → i < length events
      → (is_enter (get_or events i no_event).kind && same_name (get_or events i no_event).name name) ≡ true
      → text ≡ text_of bytes (get_or events i no_event) (drop (i + 1) events) → result ≡ Ok ok → AddsLabel old result new count text
      → HasFront bytes name events i old count → HasFront bytes name events (i + 1) new (count + 1)
  front_more i old new result ok count text l h t r added k =
      let front = k.0 in
      let all = front ++ text ∷ [] in
      let has = subst (λ z. OnOk z (HasLabels new (map content_codes front ++ content_codes text ∷ []))) r
      (added (map content_codes front) k.1 (k.2 ∙ sym (length-map front content_codes))) in (
        all,
        subst (HasLabels new) (sym (map-append content_codes front (text ∷ []))) has,
        (let n = length-append front (text ∷ []) in let m = k.2 in omega (arith, n, m)),
        append_assoc front (text ∷ []) (texts_of bytes name (drop (i + 1) events))
            ∙ ap (λ (z : List ℕ). front ++ (z ∷ texts_of bytes name (drop (i + 1) events))) t
            ∙ ap (λ (z : List (List ℕ)). front ++ z) (sym (texts_next i true l h))
            ∙ k.3,
      )

both_no : (a b : Bool) → (a || b) ≡ false → (a ≡ false) × (b ≡ false)
both_no false false h = (refl, refl)
both_no true b h = absurd (let f : true ≡ false = h in cc)
both_no false true h = absurd (let f : true ≡ false = h in cc)

-- ---- what leads nowhere

module _ (bytes : List ℕ) (links footnotes : List (List ℕ)) (events : List Event) where
  abbrev run : Media → List Media → ℕ → List Event → Option ℕ
  run = lost_from bytes links footnotes

  abbrev event_at : ℕ → Event
  event_at i = get_or events i no_event

  abbrev text_there : ℕ → List ℕ
  text_there i = text_of bytes (event_at i) (drop (i + 1) events)

  -- what an event comes to, given what those after it come to
  abbrev next_at : Kind → ℕ → Media → List Media → (Media → List Media → Option ℕ) → Option ℕ
  next_at kind i m ms others = lost_next bytes links footnotes kind (event_at i).name (text_there i) m ms i others

  abbrev after : ℕ → Media → List Media → Option ℕ
  after i next others = run next others (i + 1) (drop (i + 1) events)

  by_next : (i : ℕ) (m : Media) (ms : List Media) → i < length events → run m ms i (drop i events) ≡ next_at (event_at i).kind i m ms (after i)
  by_next i m ms l = ap (run m ms i) (drop_next events i l)

  other_next : (kind : Kind) (i : ℕ) (m : Media) (ms : List Media) (others : Media → List Media → Option ℕ)
      → (is_listed media_names (event_at i).name ≡ false) × (is_part (event_at i).name ≡ false) → next_at kind i m ms others ≡ others m ms
  other_next Enter i m ms others t =
      ap (λ (z : Bool). if z then others new_media (m ∷ ms) else others (noted (event_at i).name (text_there i) m) ms) t.0
      ∙ ap (λ (z : Media). others z ms) (noted_none (event_at i).name (text_there i) m t.1)
  other_next Exit i m ms others t =
      ap (λ (z : Bool). if z then lost_exit bytes links footnotes (leads links footnotes (event_at i).name (label_of m)) ms i others else others m ms) t.0

  -- what is no link, image or call, and no part of one that tells its label, changes nothing
  skip : (i : ℕ) (m : Media) (ms : List Media) → i < length events → is_marked (event_at i).name ≡ false
      → run m ms i (drop i events) ≡ run m ms (i + 1) (drop (i + 1) events)
  skip i m ms l h =
      by_next i m ms l
      ∙ other_next (event_at i).kind i m ms (after i)
      (let no = both_no (is_listed media_names (event_at i).name) (is_part (event_at i).name || defines_label (event_at i).name) h in
      (no.0, (both_no (is_part (event_at i).name) (defines_label (event_at i).name) no.1).0))

  -- so only the marked events are asked
  abbrev pub run_marks : Media → List Media → List ℕ → Option ℕ
  run_marks m ms [] = None
  run_marks m ms (i ∷ is) = next_at (event_at i).kind i m ms (λ next others. run_marks next others is)

  if_same : (b : Bool) (x y z w : Option ℕ) → x ≡ z → y ≡ w → (if b then x else y) ≡ (if b then z else w)
  if_same true x y z w h k = h
  if_same false x y z w h k = k

  next_same : (kind : Kind) (i : ℕ) (m : Media) (ms : List Media) (f g : Media → List Media → Option ℕ)
      → ((next : Media) (others : List Media) → f next others ≡ g next others) → next_at kind i m ms f ≡ next_at kind i m ms g
  next_same Enter i m ms f g h =
      if_same (is_listed media_names (event_at i).name) _ _ _ _ (h new_media (m ∷ ms)) (h (noted (event_at i).name (text_there i) m) ms)
  next_same Exit i m ms f g h =
      if_same (is_listed media_names (event_at i).name) _ _ _ _
      (if_same (leads links footnotes (event_at i).name (label_of m)) _ _ _ _ (h (around ms) (drop 1 ms)) refl) (h m ms)

  abbrev MarksFrom : ℕ → Type 0
  MarksFrom i = (m : Media) (ms : List Media) → run m ms i (drop i events) ≡ run_marks m ms (marked_from i (drop i events))

  marks_at : (b : Bool) (i : ℕ) → i < length events → is_marked (event_at i).name ≡ b
      → marked_from i (drop i events) ≡ (if b then i ∷ [] else []) ++ marked_from (i + 1) (drop (i + 1) events)
  marks_at b i l h =
      ap (marked_from i) (drop_next events i l)
      ∙ ap (λ (z : Bool). (if z then i ∷ [] else []) ++ marked_from (i + 1) (drop (i + 1) events)) h

  marks_by : (b : Bool) (i : ℕ) → i < length events → is_marked (event_at i).name ≡ b → MarksFrom (i + 1) → MarksFrom i
  marks_by true i l h others m ms =
      by_next i m ms l
      ∙ (next_same (event_at i).kind i m ms _ _ others
      ∙ sym (ap (run_marks m ms) (marks_at true i l h)))
  marks_by false i l h others m ms = skip i m ms l h ∙ (others m ms ∙ sym (ap (run_marks m ms) (marks_at false i l h)))

  marks_law : (n i : ℕ) → i + n ≡ length events → MarksFrom i
  marks_law zero i h m ms =
      let none = drop_all i events (omega (arith, h)) in
      ap (run m ms i) none ∙ sym (ap (λ (z : List Event). run_marks m ms (marked_from i z)) none)
  marks_law (suc n) i h m ms =
      marks_by (is_marked (event_at i).name) i (omega (arith, h)) refl (λ next others. marks_law n (i + 1) (omega (arith, h)) next others) m ms

  pub all_marks : (m : Media) (ms : List Media) → run m ms 0 events ≡ run_marks m ms (marked_from 0 events)
  all_marks m ms = marks_law (length events) 0 (omega arith) m ms

  -- each is the index of an event
  abbrev pub AreBelow : ℕ → List ℕ → Type 0
  AreBelow size [] = Unit {0}
  AreBelow size (i ∷ is) = (i < size) × AreBelow size is

  below_by : (b : Bool) (i : ℕ) (is : List ℕ) → i < length events → AreBelow (length events) is → AreBelow (length events) ((if b then i ∷ [] else []) ++ is)
  below_by true i is l h = (l, h)
  below_by false i is l h = h

  below_law : (n i : ℕ) → i + n ≡ length events → AreBelow (length events) (marked_from i (drop i events))
  below_law zero i h = subst (λ (z : List Event). AreBelow (length events) (marked_from i z)) (sym (drop_all i events (omega (arith, h)))) tt
  below_law (suc n) i h =
      let l : i < length events = omega (arith, h) in
      subst (AreBelow (length events)) (sym (marks_at (is_marked (event_at i).name) i l refl))
      (below_by (is_marked (event_at i).name) i (marked_from (i + 1) (drop (i + 1) events)) l (below_law n (i + 1) (omega (arith, h))))

  pub all_below : AreBelow (length events) (marked_from 0 events)
  all_below = below_law (length events) 0 (omega arith)

  -- ---- the same by what the code holds

  module _ {M : Type 0} (v : M → Media) where
    abbrev views : List M → List Media
    views ms = map v (reverse ms)

    first_view : (xs : List M) → map v (drop 1 xs) ≡ drop 1 (map v xs)
    first_view [] = refl
    first_view (x ∷ xs) = refl

    pushed : (outer others : List M) (inner : M) → others ≡ outer ++ inner ∷ [] → views others ≡ v inner ∷ views outer
    pushed outer others inner h = ap views h ∙ ap (map v) (reverse-append outer (inner ∷ []))

    text_same : (i : ℕ) → i < length events → text_at bytes events i ≡ text_there i
    text_same i l = ap (text_first bytes) (drop_next events i l)

    pub enter_on : (b : Bool) (i : ℕ) (inner next : M) (outer others : List M) (f : Media → List Media → Option ℕ)
        → is_listed media_names (event_at i).name ≡ b → i < length events
        → (is_listed media_names (event_at i).name ≡ true → (v next ≡ new_media) × (others ≡ outer ++ inner ∷ []))
        → (is_listed media_names (event_at i).name ≡ false → (v next ≡ noted (event_at i).name (text_at bytes events i) (v inner)) × (others ≡ outer))
        → f (v next) (views others) ≡ next_at Enter i (v inner) (views outer) f
    enter_on true i inner next outer others f t l media other =
        let k = media t in
        ap (λ (z : Media). f z (views others)) k.0
        ∙ ap (λ (z : List Media). f new_media z) (pushed outer others inner k.1)
        ∙ sym (ap (λ (z : Bool). if z then f new_media (v inner ∷ views outer) else f (noted (event_at i).name (text_there i) (v inner)) (views outer)) t)
    enter_on false i inner next outer others f t l media other =
        let k = other t in
        ap (λ (z : Media). f z (views others)) k.0
        ∙ ap (λ (z : List ℕ). f (noted (event_at i).name z (v inner)) (views others)) (text_same i l)
        ∙ ap (λ (z : List M). f (noted (event_at i).name (text_there i) (v inner)) (views z)) k.1
        ∙ sym (ap (λ (z : Bool). if z then f new_media (v inner ∷ views outer) else f (noted (event_at i).name (text_there i) (v inner)) (views outer)) t)

    abbrev exit_by : ℕ → Media → List Media → (Media → List Media → Option ℕ) → Bool → Option ℕ
    exit_by i m ms f is_media =
        if is_media then lost_exit bytes links footnotes (leads links footnotes (event_at i).name (label_of m)) ms i f else f m ms

    pub exit_media : (i : ℕ) (m : Media) (ms : List Media) (f : Media → List Media → Option ℕ) (there : Bool) → is_listed media_names (event_at i).name ≡ true
        → leads links footnotes (event_at i).name (label_of m) ≡ there → next_at Exit i m ms f ≡ (if there then f (around ms) (drop 1 ms) else Some i)
    exit_media i m ms f there t k =
        ap (exit_by i m ms f) t ∙ ap (λ (z : Bool). if z then f (around ms) (drop 1 ms) else Some i) k

    pub exit_other : (i : ℕ) (m : Media) (ms : List Media) (f : Media → List Media → Option ℕ) → is_listed media_names (event_at i).name ≡ false
        → next_at Exit i m ms f ≡ f m ms
    exit_other i m ms f t = ap (exit_by i m ms f) t

    pub exit_on : (i : ℕ) (inner next : M) (outer others : List M) (f : Media → List Media → Option ℕ)
        → is_listed media_names (event_at i).name ≡ true → leads links footnotes (event_at i).name (label_of (v inner)) ≡ true
        → v next ≡ around (views outer) → reverse others ≡ drop 1 (reverse outer)
        → f (v next) (views others) ≡ next_at Exit i (v inner) (views outer) f
    exit_on i inner next outer others f t k n o =
        ap (λ (z : Media). f z (views others)) n
        ∙ ap (λ (z : List Media). f (around (views outer)) z) (ap (map v) o ∙ first_view (reverse outer))
        ∙ sym (exit_media i (v inner) (views outer) f true t k)

    -- the first of those that are left
    pub first_mark : (kind : Kind) (i : ℕ) (is left : List ℕ) (m : Media) (ms : List Media) (all : Option ℕ) → left ≡ i ∷ is → (event_at i).kind ≡ kind
        → run_marks m ms left ≡ all → next_at kind i m ms (λ next others. run_marks next others is) ≡ all
    first_mark kind i is left m ms all h k e =
        sym (ap (λ (z : Kind). next_at z i m ms (λ next others. run_marks next others is)) k) ∙ (sym (ap (run_marks m ms) h) ∙ e)

-- ---- the labels of definitions, by the marked events

third : (a b c : Bool) → c ≡ true → (a || (b || c)) ≡ true
third true b c h = refl
third false true c h = refl
third false false c h = h

no_second : (a b m : Bool) → (b ≡ true → m ≡ true) → m ≡ false → (a && b) ≡ false
no_second false b m h k = refl
no_second true false m h k = refl
no_second true true m h k = absurd (let f : true ≡ false = sym (h refl) ∙ k in cc)

module _ (bytes : List ℕ) (name : Name) (events : List Event) where
  abbrev here : ℕ → Event
  here i = get_or events i no_event

  abbrev is_one : ℕ → Bool
  is_one i = is_enter (here i).kind && same_name (here i).name name

  -- the texts of the events of the name among these
  abbrev pub marked_texts : List ℕ → List (List ℕ)
  marked_texts [] = []
  marked_texts (i ∷ is) = if is_one i then text_of bytes (here i) (drop (i + 1) events) ∷ marked_texts is else marked_texts is

  -- an event of the name is marked
  marked_name : (other : Name) → defines_label name ≡ true → same_name other name ≡ true → is_marked other ≡ true
  marked_name other d h =
      subst (λ z. is_marked z ≡ true) (sym (same_true the_type tt other name h)) (third (is_listed media_names name) (is_part name) (defines_label name) d)

  not_one : (i : ℕ) → defines_label name ≡ true → is_marked (here i).name ≡ false → is_one i ≡ false
  not_one i d h =
      no_second (is_enter (here i).kind) (same_name (here i).name name) (is_marked (here i).name) (marked_name (here i).name d) h

  marks_there : (b : Bool) (i : ℕ) → i < length events → is_marked (here i).name ≡ b
      → marked_from i (drop i events) ≡ (if b then i ∷ [] else []) ++ marked_from (i + 1) (drop (i + 1) events)
  marks_there b i l h =
      ap (marked_from i) (drop_next events i l)
      ∙ ap (λ (z : Bool). (if z then i ∷ [] else []) ++ marked_from (i + 1) (drop (i + 1) events)) h

  abbrev TextsFrom : ℕ → Type 0
  TextsFrom i = texts_of bytes name (drop i events) ≡ marked_texts (marked_from i (drop i events))

  texts_by : (b : Bool) (i : ℕ) → i < length events → defines_label name ≡ true → is_marked (here i).name ≡ b → TextsFrom (i + 1) → TextsFrom i
  texts_by true i l d h others =
      texts_next bytes name events i (is_one i) l refl
      ∙ ap (λ (z : List (List ℕ)). if is_one i then text_of bytes (here i) (drop (i + 1) events) ∷ z else z) others
      ∙ sym (ap marked_texts (marks_there true i l h))
  texts_by false i l d h others =
      texts_next bytes name events i false l (not_one i d h) ∙ (others ∙ sym (ap marked_texts (marks_there false i l h)))

  texts_law : (n i : ℕ) → i + n ≡ length events → defines_label name ≡ true → TextsFrom i
  texts_law zero i h d =
      let none = drop_all i events (omega (arith, h)) in
      ap (texts_of bytes name) none ∙ sym (ap (λ (z : List Event). marked_texts (marked_from i z)) none)
  texts_law (suc n) i h d = texts_by (is_marked (here i).name) i (omega (arith, h)) d refl (texts_law n (i + 1) (omega (arith, h)) d)

  pub all_texts : defines_label name ≡ true → texts_of bytes name events ≡ marked_texts (marked_from 0 events)
  all_texts d = texts_law (length events) 0 (omega arith) d

  -- a table has the labels of the name before these marks
  abbrev pub HasMarked : {A : Type 0} → LabelTable A → ℕ → List ℕ → Type 0
  HasMarked table count left =
      (front : List (List ℕ)) × HasLabels table (map content_codes front) × (count ≡ length front) × (front ++ marked_texts left ≡ texts_of bytes name events)

  left_next : (left is : List ℕ) (i : ℕ) (b : Bool) → left ≡ i ∷ is → is_one i ≡ b
      → marked_texts left ≡ (if b then text_of bytes (here i) (drop (i + 1) events) ∷ marked_texts is else marked_texts is)
  left_next left is i b h k =
      ap marked_texts h ∙ ap (λ (t : Bool). if t then text_of bytes (here i) (drop (i + 1) events) ∷ marked_texts is else marked_texts is) k

  pub marked_same : {A : Type 0} (left is : List ℕ) (i : ℕ) (table : LabelTable A) (count : ℕ) → left ≡ i ∷ is → is_one i ≡ false
      → HasMarked table count left → HasMarked table count is
  marked_same left is i table count h n k =
      (k.0, k.1, k.2, ap (λ (z : List (List ℕ)). k.0 ++ z) (sym (left_next left is i false h n)) ∙ k.3)

  pub marked_more : {A B C : Type 0} (left is : List ℕ) (i : ℕ) (old new : LabelTable A) (result : Result B C) (ok : B) (count : ℕ) (text : List ℕ)
      → left ≡ i ∷ is → is_one i ≡ true → text ≡ text_of bytes (here i) (drop (i + 1) events) → result ≡ Ok ok → AddsLabel old result new count text
      → HasMarked old count left → HasMarked new (count + 1) is
  marked_more left is i old new result ok count text h n t r added k =
      let front = k.0 in
      let has = subst (λ z. OnOk z (HasLabels new (map content_codes front ++ content_codes text ∷ []))) r
      (added (map content_codes front) k.1 (k.2 ∙ sym (length-map front content_codes))) in (
        front ++ text ∷ [],
        subst (HasLabels new) (sym (map-append content_codes front (text ∷ []))) has,
        (let n = length-append front (text ∷ []) in let m = k.2 in omega (arith, n, m)),
        append_assoc front (text ∷ []) (marked_texts is)
            ∙ ap (λ (z : List ℕ). front ++ (z ∷ marked_texts is)) t
            ∙ ap (λ (z : List (List ℕ)). front ++ z) (sym (left_next left is i true h n))
            ∙ k.3,
      )
