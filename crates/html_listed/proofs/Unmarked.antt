-- A safe page without raw HTML stays as it is.
use Rattle.std.proofs.Common.{◌≡◌, ℕ, Bool, true, false, ◌&&◌, List, [], ◌∷◌, ◌++◌, refl, sym, ap, ◌∙◌, append_assoc}
use Rattle.std.proofs.lemmas.Bool.{cond_both, false≢true, and_parts}
use Rattle.markdown_compile_options.specs.declared.configuration.CompileOptions.{CompileOptions}
use Rattle.definition_inline.specs.CharacterReference.{Names}
use Rattle.html_safe_page.specs.Table.{start_rows_of, void_rows_of}
use Rattle.html_safe_page.specs.declared.table.TagTable.{TagTable}
use Rattle.html_safe_page.specs.SafePage.{spell_letter, spell_tag, Items, End, Letter, Void, Element, void_end, spell_before, spell, is_tag_of, is_safe_by}
use Rattle.html_safe_page.proofs.Spelled.{is_word, is_worded_list}
use Rattle.html_safe_page.proofs.Pages.{start_worded_by, void_worded_by}
use Rattle.html_safe_page.proofs.Sound.{tag_append}
use Rattle.html_safe_page.proofs.Inserted.{spelled_append}
use Rattle.definition_html.specs.Listing.{is_in, heading_names}
use Rattle.definition_html.specs.State.{State, Level, level, state, nothing_open, says, ended_to, with_room, entered, all_ended}
use Rattle.definition_html.specs.Listed.{page_part}
use Rattle.html_listed.specs.Laws.{UnmarkedLaw}
use Rattle.html_listed.proofs.Open.{says_nothing}
use Rattle.html_listed.proofs.PageParts.{letter_in_text, tag_in_tag, tag_starts, not_nothing, in_brackets, name_ahead, start_is_own, void_is_own, name_in_tag}
use Rattle.html_listed.proofs.Pass.{run, bytes_run, tag_run}

abbrev is_nil : List ℕ → Bool
is_nil [] = true
is_nil (b ∷ bs) = false

-- a state in whose level no raw element is open
abbrev clear : List ℕ → Bool → List Level → State
clear out in_heading around = state out (level in_heading []) around

has_room : (name : List ℕ) (out : List ℕ) (in_heading : Bool) (around : List Level) → with_room name (clear out in_heading around) ≡ clear out in_heading around
has_room name out in_heading around =
    let s = clear out in_heading around in
    cond_both (is_in heading_names name) (ended_to heading_names s) s (λ t. t ≡ s) (λ _. refl) (λ _. refl)

module _ (table : TagTable) (names : Names) (options : CompileOptions) where
  -- items are printed as they are
  as_spelled : (items : Items) (after out : List ℕ) (in_heading : Bool) (around : List Level) → is_safe_by table items ≡ true
      → run names options (clear out in_heading around) (spell_before items after)
      ≡ run names options (clear (out ++ spell items) in_heading around) after
  as_spelled End after out in_heading around h = ap (λ s. run names options s after) (says_nothing (clear out in_heading around))
  as_spelled (Letter b items) after out in_heading around h =
      bytes_run names options (spell_letter b) (spell_before items after) (clear out in_heading around) (letter_in_text b)
      ∙ as_spelled items after (out ++ spell_letter b) in_heading around h
      ∙ ap (λ x. run names options (clear x in_heading around) after) (append_assoc out (spell_letter b) (spell items))
  as_spelled (Void t items) after out in_heading around h =
      let parts = and_parts (is_tag_of (void_rows_of table) t) (is_safe_by table items) h in
      let worded = (void_worded_by table) t parts.0 in
      let inside = spell_tag t void_end in
      let x = spell_before items after in
      let bytes = in_brackets inside in
      let s = clear out in_heading around in
      ap (λ y. run names options s (60 ∷ y)) (tag_append t void_end (62 ∷ x))
      ∙ tag_run names options inside x s (tag_in_tag t void_end worded refl) (not_nothing inside (tag_starts t void_end worded))
      ∙ ap (λ p. run names options (page_part names options s p) x) (void_is_own t worded)
      ∙ ap (λ s. run names options (says bytes s) x) (has_room (name_ahead inside) out in_heading around)
      ∙ as_spelled items after (out ++ bytes) in_heading around parts.1
      ∙ ap (λ y. run names options (clear y in_heading around) after)
      (append_assoc out bytes (spell items)
      ∙ ap (λ y. out ++ (60 ∷ y)) (append_assoc inside (62 ∷ []) (spell items) ∙ sym (tag_append t void_end (62 ∷ spell items))))
  as_spelled (Element t inside items) after out in_heading around h =
      let parts = and_parts (is_tag_of (start_rows_of table) t) (is_safe_by table inside && is_safe_by table items) h in
      let both = and_parts (is_safe_by table inside) (is_safe_by table items) parts.1 in
      let worded = (start_worded_by table) t parts.0 in
      let word = (and_parts (is_word t.name) (is_worded_list t.attributes) worded).0 in
      let bytes = spell_tag t [] in
      let start = in_brackets bytes in
      let end = in_brackets (47 ∷ t.name) in
      let x = spell_before items after in
      let closing = 60 ∷ 47 ∷ (t.name ++ (62 ∷ x)) in
      let text = spell_before inside closing in
      let s = clear out in_heading around in
      let first = entered (name_ahead bytes) (says start s) in
      let filled = (out ++ start) ++ spell inside in
      let rest = spell items in
      ap (λ y. run names options s (60 ∷ y)) (tag_append t [] (62 ∷ text))
      ∙ tag_run names options bytes text s (tag_in_tag t [] worded refl) (not_nothing bytes (tag_starts t [] worded))
      ∙ ap (λ p. run names options (page_part names options s p) text) (start_is_own t worded)
      ∙ ap (λ s. run names options (entered (name_ahead bytes) (says start s)) text) (has_room (name_ahead bytes) out in_heading around)
      ∙ as_spelled inside closing (out ++ start) first.level.in_heading (level in_heading [] ∷ around) both.0
      ∙ tag_run names options (47 ∷ t.name) x (clear filled first.level.in_heading (level in_heading [] ∷ around)) (name_in_tag t.name word)
      (λ k. false≢true (ap is_nil k))
      ∙ as_spelled items after (filled ++ end) in_heading around both.1
      ∙ ap (λ y. run names options (clear y in_heading around) after)
      (append_assoc filled end rest
      ∙ append_assoc (out ++ start) (spell inside) (end ++ rest)
      ∙ append_assoc out start (spell inside ++ (end ++ rest))
      ∙ ap (λ y. out ++ y)
      (ap (λ y. 60 ∷ y) (append_assoc bytes (62 ∷ []) (spell inside ++ (end ++ rest)) ∙ sym (tag_append t [] (62 ∷ (spell inside ++ (end ++ rest)))))
      ∙ ap (λ y. 60 ∷ spell_tag t (62 ∷ y)) (sym (spelled_append inside [] (end ++ rest)))
      ∙ ap (λ y. 60 ∷ spell_tag t (62 ∷ spell_before inside (60 ∷ 47 ∷ y))) (append_assoc t.name (62 ∷ []) rest)))

pub unmarked_law : UnmarkedLaw
unmarked_law names options table page safe =
    let items = safe.0 in
    let whole = ap (run names options nothing_open) (sym safe.1.1) ∙ as_spelled table names options items [] [] false [] safe.1.0 in
    ap (λ t. let u = all_ended t in u.out) whole ∙ safe.1.1
