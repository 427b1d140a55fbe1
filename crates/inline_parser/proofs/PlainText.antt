-- A content that is text alone, but for spaces and tabs at its end.
use Rattle.std.proofs.Common.{◌≡◌, ℕ, ◌+◌, ◌-◌, ◌<◌, ◌≤◌, Bool, true, false, List, [], ◌∷◌, ◌++◌, ◌||◌, ◌⊎◌, inl, inr, Option, Some, refl, sym, ap, ap₂}
use Rattle.std.proofs.Common.{◌∙◌, get_or, length, drop, take, map, eqb, leb, subst, arith}
use Rattle.std.specs.List.{list_all, take_while}
use Rattle.inline_parser.proofs.Prelude.{and_parts, append-nil, cond-false, cond-true, Constructs, Content, content_codes, context_by, eqb-true, inline_rows}
use Rattle.inline_parser.proofs.Prelude.{InlineContext, InlineLeaf, is_white, IsAfter, IsPlace, Item, leaf, Leaf, leaf_in, leaf_items, ParseOptions}
use Rattle.inline_parser.proofs.Prelude.{plain_code, read_tokens, row_view, size_before, spans_from, Targets, true≢false, view_at, whole_text, with_spans}
use Rattle.std.proofs.lemmas.Bool.{and_from, and_right, cases_lt, le-leb, or_cases}
use Rattle.std.proofs.lemmas.List.{drop_all, get_or-drop}
use Rattle.definition_text.specs.Columns.{bare, indent, is_blank}
use Rattle.definition_inline.specs.HardBreak.{ends_here, ends_inner_line, line_spaces_at}
use Rattle.definition_inline.specs.Inline.{Target, LinkTexts}
use Rattle.definition_inline.specs.Scan as scan
use Rattle.inline_constructs.proofs.FirstBytes.{by_white}
use Rattle.inline_rows.specs.InlineRows.{Part}
use Rattle.inline_rows.specs.declared.row.InlineRow.{InlineRow}
use Rattle.inline_rows.specs.Container.{Parts}
use Rattle.inline_rows.proofs.Container as container
use Rattle.inline_rows.proofs.Runs.{all_told, none_told}
use Rattle.inline_text.specs.declared.plain.Front.{Front}
use Rattle.inline_text.specs.Fronts.{IsTextOf}
use Rattle.inline_text.specs.Plain.{front_leaf}
use Rattle.inline_parser.proofs.Follow as follow
use Rattle.inline_parser.proofs.Placed.{place_after}
use Rattle.inline_parser.proofs.Whole as whole

-- before anything is read
abbrev start : scan.Reading
start = scan.reading (scan.text [] false) []

-- a row of leaves alone
told : (leads : Target → LinkTexts) (at : ℕ → LinkTexts) (row : InlineRow) (leaves : List InlineLeaf) → row_view at row ≡ map Part leaves
    → row_view at row ≡ inline_rows leads (with_spans (leaf_items leaves))
told leads at row leaves same =
    let rows = row ∷ [] in
    let items = map (λ part. Leaf part) leaves in
    let tokens = map (λ i. Item i) items ++ [] in
    let is = Parts rows [] 0 [] [] items [] (container.leaf_row leads at row leaves same) (container.none leads at (0 + length rows)) in
    sym (append-nil (row_view at row))
    ∙ (all_told leads at [] rows tokens [] [] 0 rows (omega arith) is (none_told leads at [] rows tokens [] [] rows refl is)).told
    ∙ ap (λ ts. inline_rows leads (with_spans ts)) (append-nil (leaf_items leaves))

-- ---- spaces and tabs at the end

white_codes : (xs : List ℕ) → is_blank xs ≡ true → content_codes xs ≡ xs
white_codes [] blank = refl
white_codes (x ∷ xs) blank =
    let parts = and_parts (is_white x) (list_all is_white xs) blank in
    plain_code x xs (λ e. true≢false (sym parts.0 ∙ ap is_white e)) ∙ ap (λ cs. x ∷ cs) (white_codes xs parts.1)

white_indent : (xs : List ℕ) → is_blank xs ≡ true → indent xs ≡ length xs
white_indent [] blank = refl
white_indent (x ∷ xs) blank =
    let parts = and_parts (is_white x) (list_all is_white xs) blank in
    let more = white_indent xs parts.1 in
    cond-true (is_white x) (1 + indent xs) 0 parts.0 ∙ omega (arith, more)

-- they make nothing
white_leaf : (on : Constructs) (xs : List ℕ) → is_blank xs ≡ true → 0 < length xs → line_spaces_at on xs ≡ Some (leaf [] (length xs))
white_leaf on xs blank some =
    let all = white_indent xs blank in
    let none : bare xs ≡ [] = ap (λ k. drop k xs) all ∙ drop_all (length xs) xs (omega arith) in
    let first = and_from (leb 1 (indent xs)) (ends_here (bare xs)) (le-leb 1 (indent xs) (omega (arith, all, some))) (ap ends_here none) in
    let broken = and_right on.hard_break_trailing _
    (and_right (leb 2 (indent xs)) _ (and_right (list_all (λ c. eqb c 32) (take_while is_white xs)) _ (ap ends_inner_line none))) in
    cond-true _ _ _ first ∙ ap₂ (λ parts size. Some (leaf parts size)) (cond-false _ _ _ broken) all

first_white : (b : ℕ) → b < 256 → is_white b ≡ true → (b ≡ 9) ⊎ (b ≡ 32)
first_white b byte white = elim (or_cases (eqb b 32 || eqb b 9) (eqb b 256) white) [
  | inl h ↦ elim (or_cases (eqb b 32) (eqb b 9) h) [ inl space ↦ inr (eqb-true b 32 space) | inr tab ↦ inl (eqb-true b 9 tab) ]
  | inr h ↦ absurd (omega (arith, byte, eqb-true b 256 h))
]

white_first : (xs : List ℕ) → is_blank xs ≡ true → 0 < length xs → is_white (get_or xs 0 0) ≡ true
white_first [] blank some = absurd (omega (arith, some))
white_first (x ∷ xs) blank some = (and_parts (is_white x) (list_all is_white xs) blank).0

module _ (xs : List ℕ) (blank : is_blank xs ≡ true) (some : 0 < length xs) (bytes : (k : ℕ) → get_or xs k 0 < 256) where
  white_found : (options : ParseOptions) (names : List ℕ → Option (List ℕ)) → Some (leaf [] (size_before xs [])) ≡ leaf_in options names (content_codes xs)
  white_found options names =
      let codes = white_codes xs blank in
      let size : size_before xs [] ≡ length xs = omega (arith, ap length codes) in
      ap (λ n. Some (leaf [] n)) size
      ∙ sym (by_white options names xs (first_white (get_or xs 0 0) (bytes 0) (white_first xs blank some))
      ∙ ap (line_spaces_at options.constructs) codes ∙ white_leaf options.constructs xs blank some)

  white_after : IsAfter xs []
  white_after =
      let codes = white_codes xs blank in
      record {
        shorter = some;
        place = sym (drop_all (length xs - length {A = ℕ} []) xs (omega arith));
        fewer = omega (arith, ap length codes, some);
        codes = sym (drop_all (size_before xs []) (content_codes xs) (omega arith));
      }

module _ (options : ParseOptions) (names : List ℕ → Option (List ℕ)) (p : ℕ → Bool) (ds : Targets) (content : Content) where
  abbrev context : InlineContext
  context = context_by options names ds

  -- spaces and tabs that are left make nothing
  at_white : (rest : List ℕ) (now final : scan.Reading) → IsPlace content.text.now rest → is_blank rest ≡ true → ((k : ℕ) → get_or rest k 0 < 256)
      → scan.scan context 0 now (view_at p content rest) ≡ final → final ≡ now
  at_white rest now final place blank bytes same = elim (cases_lt 0 (length rest)) [
    | inl some ↦
        let made = follow.leaf_follows options names p ds content rest [] [] now final place (white_found rest blank some bytes options names)
        (white_after rest blank some bytes) same in
        sym made
        ∙ ap (scan.scan context 0 (read_tokens [] now)) (whole.last_view p content [] refl)
        ∙ ap (λ ts. scan.reading (scan.text ts now.now.holds_link) now.open_labels) (append-nil now.now.tokens)
    | inr none ↦ sym same ∙ ap (scan.scan context 0 now) (whole.last_view p content rest (no_bytes rest none))
  ] where
    no_bytes : (xs : List ℕ) → length xs ≤ 0 → xs ≡ []
    no_bytes [] h = refl
    no_bytes (x ∷ xs) h = absurd (omega (arith, h))

  module _ (rest : List ℕ) (front : Front) (is : IsTextOf options.constructs rest front) (some : 0 < front.size)
      (blank : is_blank (drop front.size rest) ≡ true) (bytes : (k : ℕ) → get_or rest k 0 < 256) where
    abbrev leaves : List ℕ → List InlineLeaf
    leaves text = map (front_leaf front.is_verbatim) text

    -- all that is read of a text with spaces and tabs at its end
    read : IsPlace content.text.now rest
        → scan.scan context 0 start (view_at p content rest) ≡ read_tokens (leaf_items (leaves (take front.size rest))) start
    read place =
        let n = front.size in
        let after = is.ending some in
        let next = read_tokens (leaf_items (leaves (take n rest))) start in
        at_white (drop n rest) next (scan.scan context 0 start (view_at p content rest)) (place_after content.text.now rest (drop n rest) place after) blank
        (λ k. subst (λ b. b < 256) (sym (get_or-drop n rest k 0)) (bytes (n + k)))
        (follow.front_follows options names p ds content front.is_verbatim rest n start (scan.scan context 0 start (view_at p content rest)) place is.within
        is.text is.plain is.bare after refl)

    -- its row
    pub front_row : (leads : Target → LinkTexts) (at : ℕ → LinkTexts) (row : InlineRow) (text : List ℕ) → text ≡ take front.size rest
        → row_view at row ≡ map Part (leaves text) → IsPlace content.text.now rest
        → row_view at row ≡ inline_rows leads (spans_from context (view_at p content rest))
    front_row leads at row text cut same place =
        told leads at row (leaves text) same
        ∙ ap (λ bs. inline_rows leads (with_spans (leaf_items (leaves bs)))) cut
        ∙ ap (λ r. inline_rows leads (with_spans (whole_text r).tokens)) (sym (read place))
