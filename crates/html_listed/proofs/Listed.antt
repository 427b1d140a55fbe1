-- The pass over a page with raw HTML gives a page of its own tags and raw ones, each where it may stand.
use Rattle.std.proofs.Common.{◌≡◌, ℕ, zero, suc, ◌+◌, ◌≤◌, Bool, true, false, not, ◌&&◌, cond, List, [], ◌∷◌, ◌++◌, length, take, refl, sym, ap, ◌∙◌}
use Rattle.std.proofs.Common.{subst, inl, inr, append_assoc, append-nil, arith}
use Rattle.std.specs.Prelude.{unwrap_or}
use Rattle.std.specs.List.{fold, list_all, list_any, prefix_len, take_while}
use Rattle.std.proofs.lemmas.Bool.{cases_Bool, cond-true, cond-false, false≢true, and_parts, and_from, or_cases}
use Rattle.markdown_compile_options.specs.declared.configuration.CompileOptions.{CompileOptions}
use Rattle.definition_text.specs.Bytes.{is_letter_or_digit}
use Rattle.definition_inline.specs.CharacterReference.{Names}
use Rattle.html_safe_page.specs.Table.{Row, start_rows, more_start_rows, start_rows_of, void_rows_of}
use Rattle.html_safe_page.specs.declared.table.TagTable.{TagTable}
use Rattle.html_safe_page.specs.declared.table.TagTable.TheVariants.{Basic, Extended}
use Rattle.html_safe_page.specs.SafePage.{spell_letter, Attribute, Tag, spell_tag, spell_attributes, void_end, Items, End, Letter, Void, Element, spell_before, join}
use Rattle.html_safe_page.specs.SafePage.{is_of_row, is_value, is_tag_of}
use Rattle.html_safe_page.specs.Reader.{read_text}
use Rattle.html_safe_page.proofs.Spelled.{is_word, is_worded_list, same_bytes}
use Rattle.html_safe_page.proofs.Pages.{start_worded_by, void_worded_by}
use Rattle.html_safe_page.proofs.Sound.{tag_append}
use Rattle.definition_html.specs.Listing.{is_in, heading_names}
use Rattle.definition_html.specs.Raw.{raw_parts}
use Rattle.definition_html.specs.State.{State, level, state, nothing_open, begins_with_frame, says, with_room, entered, left_to, left, all_ended}
use Rattle.definition_html.specs.Listed.{raw_part, page_part, listed}
use Rattle.html_listed.specs.ListedPage.{IsListedReading}
use Rattle.html_listed.specs.MarkedPage.{is_nameless, are_letters, is_marked, IsMarkedPage}
use Rattle.html_listed.specs.Mixed.{own_may_begin, tags_of, all_items}
use Rattle.html_listed.specs.Laws.{HaveSafeProtocols, ListedLaw, StandingLaw}
use Rattle.html_listed.proofs.Open.{AreFit}
use Rattle.html_listed.proofs.Standing.{StandsFree, has_room}
use Rattle.html_listed.proofs.Mixed.{join_end, mixed_tags, mixed_letter, mixed_own, mixed_own_tag, IsMixedIn}
use Rattle.html_listed.proofs.Within.{Adds, page_ahead, both_steps, no_step, says_page, ends, room_step, parts_step, level_page}
use Rattle.html_listed.proofs.Parts.{parts_good}
use Rattle.html_listed.proofs.PageParts.{letter_in_text, tag_in_tag, tag_starts, not_nothing, in_brackets, name_ahead, start_is_own}
use Rattle.html_listed.proofs.PageParts.{void_is_own, name_in_tag, taken}
use Rattle.html_listed.proofs.Pass.{run, bytes_run, tag_run}
use Rattle.html_listed.proofs.Nameless.{size, IsStop, is_the_nameless, run_of, run_part, AreLater, run_items}
use Rattle.html_listed.proofs.Spellings.{one_listed_reading}

-- ---- names of the page's own elements

abbrev is_short_row : Row → Bool
is_short_row row = list_all is_letter_or_digit row.name

start_short : (table : TagTable) → list_all is_short_row (start_rows_of table) ≡ true
unfolding start_rows more_start_rows
start_short Basic = refl
start_short Extended = refl

row_short : (rows : List Row) (t : Tag) → list_all is_short_row rows ≡ true → list_any (is_of_row t) rows ≡ true → list_all is_letter_or_digit t.name ≡ true
row_short [] t h k = absurd (false≢true k)
row_short (row ∷ rows) t h k =
    let parts = and_parts (is_short_row row) (list_all is_short_row rows) h in
    elim (or_cases (is_of_row t row) (list_any (is_of_row t) rows) k) [
      | inl e ↦ subst (λ n. list_all is_letter_or_digit n ≡ true) (same_bytes row.name t.name (and_parts _ _ e).0) parts.0
      | inr e ↦ row_short rows t parts.1 e
    ]

all_taken : (p : ℕ → Bool) (m : List ℕ) → list_all p m ≡ true → take_while p m ≡ m
all_taken p [] h = refl
all_taken p (b ∷ bs) h =
    let parts = and_parts (p b) (list_all p bs) h in
    let one : 1 + prefix_len p bs ≡ suc (prefix_len p bs) = omega arith in
    ap (λ k. take k (b ∷ bs)) (cond-true (p b) (1 + prefix_len p bs) 0 parts.0 ∙ one) ∙ ap (λ x. b ∷ x) (all_taken p bs parts.1)

module _ (table : TagTable) where
  -- the name of a tag
  own_name : (t : Tag) → is_tag_of (start_rows_of table) t ≡ true → name_ahead (spell_tag t []) ≡ t.name
  own_name t h =
      let short = row_short (start_rows_of table) t (start_short table) (and_parts (list_any (is_of_row t) (start_rows_of table)) (list_all (λ a. is_value t.name a.name a.value) t.attributes) h).0 in
      by_attributes t.attributes short
    where
      by_attributes : (attributes : List Attribute) → list_all is_letter_or_digit t.name ≡ true
          → take_while is_letter_or_digit (t.name ++ spell_attributes attributes []) ≡ t.name
      by_attributes [] short = ap (take_while is_letter_or_digit) (append-nil t.name) ∙ all_taken is_letter_or_digit t.name short
      by_attributes (a ∷ others) short = taken is_letter_or_digit t.name 32 _ short refl

  -- ---- the page's own elements

  free_begins : (names : List (List ℕ)) (name : List ℕ) → StandsFree names name → own_may_begin names name ≡ true
  free_begins names name free =
      and_from (not (begins_with_frame names)) (not (is_in heading_names name && list_any (is_in heading_names) names)) (ap not free.no_frame)
      (ap not free.no_heading)

  void_step : (t : Tag) (name : List ℕ) (s : State) → AreFit s.level.names → is_tag_of (void_rows_of table) t ≡ true
      → Adds table (Void t End) s (says (in_brackets (spell_tag t void_end)) (with_room name s))
  void_step t name s fit h =
      let room = with_room name s in
      let bytes = in_brackets (spell_tag t void_end) in
      let own = Void t End in
      let made = room_step table name s fit in
      both_steps table End own s room (says bytes room) made
      (says_page table own room bytes made.fit
      (subst (IsMixedIn table room.level.in_heading room.level.names own) (ap (λ x. 60 ∷ x) (tag_append t void_end (62 ∷ [])))
      (mixed_own_tag table room.level.in_heading room.level.names t h (ap not (has_room name s fit).no_frame))))

  -- an element begins, and ends table after what is in it
  abbrev begun_own : Tag → List ℕ → State → State
  begun_own t name s = entered name (says (in_brackets (spell_tag t [])) (with_room name s))

  abbrev ended_own : Tag → State → State
  ended_own t s = says (in_brackets (47 ∷ t.name)) (left (all_ended s))

  own_step : (t : Tag) (own : Items) (s within : State) → AreFit s.level.names → is_tag_of (start_rows_of table) t ≡ true
      → Adds table own (begun_own t t.name s) within → Adds table (Element t own End) s (ended_own t within)
  own_step t own s within fit h inner =
      let room = with_room t.name s in
      let begun = begun_own t t.name s in
      let last = all_ended within in
      let start = in_brackets (spell_tag t []) in
      let end = in_brackets (47 ∷ t.name) in
      let made = room_step table t.name s fit in
      let f = both_steps table own End begun within last inner (ends table (length within.level.names) within inner.fit) in
      let rest = f.added ++ end in
      let closed = state (last.out ++ end) room.level room.around in
      let element_of = Element t own End in
      let filled = subst (λ o. IsMixedIn table begun.level.in_heading [] o f.added) (join_end own) (level_page table (join own End) begun within refl f) in
      let page = subst (IsMixedIn table room.level.in_heading room.level.names element_of)
      (ap (λ x. 60 ∷ x) (tag_append t [] (62 ∷ rest) ∙ sym (append_assoc (spell_tag t []) (62 ∷ []) rest)))
      (mixed_own table room.level.in_heading room.level.names t own f.added h (free_begins room.level.names t.name (has_room t.name s fit)) filled) in
      let step : Adds table element_of room closed = record {
        added = start ++ rest;
        printed = ap (λ x. x ++ end) f.printed ∙ append_assoc (room.out ++ start) f.added end ∙ append_assoc room.out start rest;
        closes = λ o bytes k. page_ahead table room.level.in_heading element_of o (start ++ rest) bytes room.level.names page k;
        fit = made.fit;
        around = refl;
        heading = refl;
      } in
      subst (Adds table element_of s) (sym (ap (λ levels. says end (left_to levels last)) f.around))
      (both_steps table End element_of s room closed made step)

  abbrev is_nil : List ℕ → Bool
  is_nil [] = true
  is_nil (b ∷ bs) = false

  module _ (names : Names) (options : CompileOptions) (safe_protocols : HaveSafeProtocols options) where
    -- ---- the pass over items

    -- the pass over bytes is one step with these own tags, and then the pass over the rest
    abbrev Runs : Items → List ℕ → List ℕ → State → Type 0
    Runs own bytes after s = (to : State) × Adds table own s to × (run names options s bytes ≡ run names options to after)

    go_on : (a b : Items) (s t : State) (bytes between after : List ℕ) → Adds table a s t → run names options s bytes ≡ run names options t between
        → Runs b between after t → Runs (join a b) bytes after s
    go_on a b s t bytes between after step e r = (r.0, both_steps table a b s t r.0 step r.1, e ∙ r.2)

    runs : (most : ℕ) (items : Items) (after : List ℕ) (s : State) → AreFit s.level.names → size items ≤ most → is_marked table items ≡ true
        → IsStop after → Runs (tags_of items) (spell_before items after) after s
    runs most End after s fit le m stop = (s, no_step table s fit, refl)
    runs zero (Letter b items) after s fit le m stop = absurd (omega arith)
    runs zero (Void t items) after s fit le m stop = absurd (omega arith)
    runs zero (Element t inside items) after s fit le m stop = absurd (omega arith)
    runs (suc most) (Letter b items) after s fit le m stop =
        let x = spell_before items after in
        let next = says (spell_letter b) s in
        let step = says_page table End s (spell_letter b) fit (mixed_letter table s.level.in_heading s.level.names b) in
        go_on End (tags_of items) s next (spell_letter b ++ x) x after step
        (bytes_run names options (spell_letter b) x s (letter_in_text b)) (runs most items after next step.fit (omega arith) m stop)
    runs (suc most) (Void t items) after s fit le m stop =
        let parts = and_parts (is_tag_of (void_rows_of table) t) (is_marked table items) m in
        let worded = (void_worded_by table) t parts.0 in
        let inside = spell_tag t void_end in
        let x = spell_before items after in
        let name = name_ahead inside in
        let next = says (in_brackets inside) (with_room name s) in
        let step = void_step t name s fit parts.0 in
        go_on (Void t End) (tags_of items) s next (spell_before (Void t items) after) x after step
        (ap (λ y. run names options s (60 ∷ y)) (tag_append t void_end (62 ∷ x))
        ∙ tag_run names options inside x s (tag_in_tag t void_end worded refl) (not_nothing inside (tag_starts t void_end worded))
        ∙ ap (λ p. run names options (page_part names options s p) x) (void_is_own t worded))
        (runs most items after next step.fit (omega arith) parts.1 stop)
    runs (suc most) (Element t inside items) after s fit le m stop =
        let own = is_tag_of (start_rows_of table) t && is_marked table inside in
        let parts = and_parts (cond (is_nameless t) (are_letters inside) own) (is_marked table items) m in
        let x = spell_before items after in
        elim (cases_Bool (is_nameless t)) [
          | inl e ↦
              let text = spell_before inside (60 ∷ 47 ∷ 62 ∷ x) in
              let later : AreLater table items after (run_of text).rest =
              run_items table (length text) inside items after (sym (cond-true (is_nameless t) (are_letters inside) own e) ∙ parts.0) parts.1 stop in
              let html = unwrap_or (read_text (run_of text).text) [] in
              let raw = raw_parts names options html in
              let next = fold raw_part s raw in
              let good = parts_good names options safe_protocols html in
              let step = parts_step table raw s fit good in
              let rest = subst (λ o. Runs o (spell_before later.later after) after next) later.own
              (runs most later.later after next step.fit (omega arith) later.marked stop) in
              subst (λ o. Runs o (spell_before (Element t inside items) after) after s)
              (sym (cond-true (is_nameless t) (tags_of items) (Element t (tags_of inside) (tags_of items)) e))
              (subst (λ t. Runs (tags_of items) (spell_before (Element t inside items) after) after s) (sym (is_the_nameless t e))
              (go_on End (tags_of items) s next (60 ∷ 62 ∷ text) (spell_before later.later after) after step
              (ap (fold (page_part names options) s) (run_part text) ∙ ap (run names options next) later.spelling)
              rest))
          | inr e ↦
              let named = and_parts (is_tag_of (start_rows_of table) t) (is_marked table inside) (sym (cond-false (is_nameless t) (are_letters inside) own e) ∙ parts.0) in
              let worded = (start_worded_by table) t named.0 in
              let word = (and_parts (is_word t.name) (is_worded_list t.attributes) worded).0 in
              let bytes = spell_tag t [] in
              let end = 60 ∷ 47 ∷ (t.name ++ (62 ∷ x)) in
              let text = spell_before inside end in
              let first = begun_own t t.name s in
              let within = runs most inside end first tt (omega arith) named.1 (inr (t.name ++ (62 ∷ x), refl)) in
              let closed = ended_own t within.0 in
              let step = own_step t (tags_of inside) s within.0 fit named.0 within.1 in
              subst (λ o. Runs o (spell_before (Element t inside items) after) after s)
              (sym (cond-false (is_nameless t) (tags_of items) (Element t (tags_of inside) (tags_of items)) e))
              (go_on (Element t (tags_of inside) End) (tags_of items) s closed (spell_before (Element t inside items) after) x after step
              (ap (λ y. run names options s (60 ∷ y)) (tag_append t [] (62 ∷ text))
              ∙ tag_run names options bytes text s (tag_in_tag t [] worded refl) (not_nothing bytes (tag_starts t [] worded))
              ∙ ap (λ p. run names options (page_part names options s p) text) (start_is_own t worded)
              ∙ ap (λ n. run names options (begun_own t n s) text) (own_name t named.0)
              ∙ within.2
              ∙ tag_run names options (47 ∷ t.name) x within.0 (name_in_tag t.name word) (λ k. false≢true (ap is_nil k)))
              (runs most items after closed step.fit (omega arith) parts.1 stop))
        ]

    mixed_page : (page : List ℕ) (marked : IsMarkedPage table page) → IsMixedIn table false [] (tags_of marked.0) (listed names options page)
    mixed_page page marked =
        let items = marked.0 in
        let r = runs (size items) items [] nothing_open tt (omega arith) marked.1 (inl refl) in
        let own = tags_of items in
        let f = both_steps table own End nothing_open r.0 (all_ended r.0) r.1 (ends table (length r.0.level.names) r.0 r.1.fit) in
        let same = sym f.printed ∙ sym (ap (λ t. let u = all_ended t in u.out) (ap (run names options nothing_open) (sym marked.2) ∙ r.2)) in
        subst (IsMixedIn table false [] own) same
        (subst (λ o. IsMixedIn table false [] o f.added) (join_end own) (level_page table (join own End) nothing_open r.0 refl f))

pub standing_law : StandingLaw
standing_law names options table page safe_protocols marked =
    let p = mixed_page table names options safe_protocols page marked in
    record { items = p.0; spelling = p.3; stands = p.1; own = p.2 }

pub listed_law : ListedLaw
listed_law names options table page safe_protocols marked =
    let p = mixed_page table names options safe_protocols page marked in
    let reading : IsListedReading table (listed names options page) (all_items p.0) = (mixed_tags table (level false []) p.0 p.1, p.3) in
    record {
      items = all_items p.0;
      is_reading = reading;
      is_only = λ other h. one_listed_reading table (listed names options page) other (all_items p.0) h reading;
    }
