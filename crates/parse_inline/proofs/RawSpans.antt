-- What is written of code and math (CommonMark 6.1).
use Rattle.std.proofs.Common.{inl, inr, ◌≡◌, ◌⊎◌, ℕ, suc, ◌+◌, ◌-◌, ◌≤◌, ◌<◌, Bool, true, false, not, ◌&&◌, ◌||◌, List, [], ◌∷◌, ◌++◌, Some, refl}
use Rattle.std.proofs.Common.{sym, ap, ap₂, subst, ◌∙◌, append_assoc, drop, take, length, arith}
use Rattle.std.specs.Prelude.{codes}
use Rattle.markdown_options.specs.declared.configuration.Constructs.{Constructs}
use Rattle.event_tokens.specs.Tokens.{is_token}
use Rattle.parse_lines.proofs.Runs.{run_fits}
use Rattle.parse_inline.proofs.Prelude.{after_return_code, and_parts, Anywhere, append, AreBytesAt, AreCutBetween, ArePartsAlike, Around, cases_Bool, code_of}
use Rattle.parse_inline.proofs.Prelude.{cond-false, cond-true, content_codes, contents_around, contents_both, End, end_in, ends_line, enter_at, EntersInLine}
use Rattle.parse_inline.proofs.Prelude.{eqb-true, exit_at, ExitsInLine, InlineCode, inlines_of, is_listed, is_white, IsChunk, IsCodeChunk, IsUtf8, IsWhole}
use Rattle.parse_inline.proofs.Prelude.{leaves, length-append, length-take-le, line_enters, line_exits, line_names, list_any, Meaning, Name, Names, nat_tests}
use Rattle.parse_inline.proofs.Prelude.{Nodes, one, or_from, or_parts, plain_both, plain_none, plain_one, prefix_len-le-length, run, run_of, same_name}
use Rattle.parse_inline.proofs.Prelude.{sought_names, standing, StandsInContent, StandsInLine, Stop, take-append-drop, take-append_seam, the_type, token}
use Rattle.parse_inline.proofs.Prelude.{unwrap_or, Walk, without_padding, WritesInContent, WritesLeaves, WritesLines, ◌==◌}
use denote.Enum.Bare.{same_true}
use Rattle.std.proofs.Common.{get_or}
use Rattle.std.proofs.Math.Seq.{get_or-append_seam}
use Rattle.std.proofs.lemmas.List.Sums.{prefix_len_passes}
use Rattle.std.proofs.lemmas.Str.{IsCharBoundary-before_ascii, IsUtf8-drop, IsUtf8-take}
use Rattle.inline_leaves.proofs.Codes.{boundary_after_byte}
use Rattle.engine_events.specs.declared.event.Name.TheVariants as n
use Rattle.definition_text.specs.Runs.{after_run}
use Rattle.definition_inline.specs.CodeText.{code_text}
use Rattle.definition_inline.specs.Inline as inline
use Rattle.parse_written.specs.Bytes.{IsRawInBytes}
use Rattle.event_grammar.specs.declared.slot.Between.{Between}
use Rattle.event_grammar.specs.declared.slot.Between.TheVariants.{Lines}
use Rattle.event_grammar.specs.declared.slot.Form.TheVariants.{Plain}
use Rattle.event_grammar.specs.declared.slot.Slot.{Slot}
use Rattle.event_grammar.specs.Grammar.{many, one as one_slot, one_line_names, row, text_row}
use Rattle.event_grammar.specs.Slots.{may_end, take_child}
use Rattle.parse_slots.specs.Left.{IsFilled, MayEndLines, TakesNoBetween, took}
use Rattle.parse_slots.proofs.Steps.{fill_both, fill_taken, may_both}
use Rattle.parse_references.specs.Sound.{asked_names}
use Rattle.parse_references.proofs.Rows.{is_without}
use Rattle.parse_references.proofs.Sound.{sound_filled, sound_one}
use Rattle.parse_strings.proofs.Fills.{token_taken}
use Rattle.parse_inline.specs.Lines.{FillsLines, are_raw_names, is_raw_marker, raw_leaf}
use Rattle.parse_inline.proofs.Fills.{filled_around}
use Rattle.parse_inline.proofs.Fronts.{WritesNext, token_in}
use Rattle.parse_inline.proofs.Kids.{code_between}
use Rattle.parse_inline.proofs.LeavesAlike.{leaf_alike}
use Rattle.parse_inline.proofs.Places.{byte_at}
use Rattle.parse_inline.proofs.Plain.{cut_one}
use Rattle.parse_inline.proofs.RawTexts.{dark_whole}

-- ---- names

either_true : (a b : Bool) → (a || b) ≡ true → (a ≡ true) ⊎ (b ≡ true)
either_true true b is = inl refl
either_true false b is = inr is

raw_by : (P : ℕ → Name → Name → Name → Type 0) (marker : ℕ) (text sequence chunk : Name) → are_raw_names marker text sequence chunk ≡ true
    → P 96 n.CodeText n.CodeTextSequence n.CodeTextData
    → P 36 n.MathText n.MathTextSequence n.MathTextData → P marker text sequence chunk
raw_by P marker text sequence chunk are code math =
    elim (either_true ((marker == 96) && (same_name text n.CodeText && (same_name sequence n.CodeTextSequence && same_name chunk n.CodeTextData))) _ are) [
      | inl is ↦
          let marked = and_parts (marker == 96) _ is in
          let one = and_parts (same_name text n.CodeText) _ marked.1 in
          let two = and_parts (same_name sequence n.CodeTextSequence) _ one.1 in
          subst (λ m. P m text sequence chunk) (sym (eqb-true marker 96 marked.0))
          (subst (λ x. P 96 x sequence chunk) (sym (same_true the_type tt text n.CodeText one.0))
          (subst (λ x. P 96 n.CodeText x chunk) (sym (same_true the_type tt sequence n.CodeTextSequence two.0))
          (subst (λ x. P 96 n.CodeText n.CodeTextSequence x) (sym (same_true the_type tt chunk n.CodeTextData two.1)) code)))
      | inr is ↦
          let marked = and_parts (marker == 36) _ is in
          let one = and_parts (same_name text n.MathText) _ marked.1 in
          let two = and_parts (same_name sequence n.MathTextSequence) _ one.1 in
          subst (λ m. P m text sequence chunk) (sym (eqb-true marker 36 marked.0))
          (subst (λ x. P 36 x sequence chunk) (sym (same_true the_type tt text n.MathText one.0))
          (subst (λ x. P 36 n.MathText x chunk) (sym (same_true the_type tt sequence n.MathTextSequence two.0))
          (subst (λ x. P 36 n.MathText n.MathTextSequence x) (sym (same_true the_type tt chunk n.MathTextData two.1)) math)))
    ]

-- what is left of a row after its first sequence
abbrev raw_slots : Name → Name → List Slot
raw_slots sequence chunk = many chunk ∷ one_slot sequence ∷ []

-- an event of a text that holds a sequence, chunks, and the sequence again
record HasRawRow (text sequence chunk : Name) : Type 0 where
  row_is : row text Plain ≡ one_slot sequence ∷ raw_slots sequence chunk
  lines : is_listed one_line_names text ≡ false
  taken : take_child text_row text ≡ Some (took Plain text_row)
  void : may_end (row sequence Plain) ≡ true
  takes_first : take_child (one_slot sequence ∷ raw_slots sequence chunk) sequence ≡ Some (took Plain (raw_slots sequence chunk))
  takes_chunk : take_child (raw_slots sequence chunk) chunk ≡ Some (took Plain (raw_slots sequence chunk))
  takes_last : take_child (raw_slots sequence chunk) sequence ≡ Some (took Plain [])
  between : TakesNoBetween (raw_slots sequence chunk)
  unasked : is_without asked_names 2 Plain text ≡ true

raw_filled : (around : Between) (name sequence chunk : Name) (bytes text : List ℕ) (i j size last_size : ℕ) (ns : Nodes) (from to : End)
    → HasRawRow name sequence chunk → FillsLines chunk bytes ns → MayEndLines around bytes
    → IsFilled around Plain
    (Around (enter_at text name from) (append (one (token text sequence i size)) (append ns (one (token text sequence j last_size)))) (exit_at text name to))
raw_filled around name sequence chunk bytes text i j size last_size ns from to has lines may =
    let slots = raw_slots sequence chunk in
    let kids = append (one (token text sequence i size)) (append ns (one (token text sequence j last_size))) in
    let node = Around (enter_at text name from) kids (exit_at text name to) in
    filled_around around Plain name (one_slot sequence ∷ slots) [] bytes node refl has.row_is refl has.lines may
    (fill_both (token_taken around (one_slot sequence ∷ slots) sequence slots text i size has.takes_first has.void)
    (fill_both (lines around slots has.takes_chunk has.between may) (token_taken around slots sequence [] text j last_size has.takes_last has.void))) refl

-- what is known of them
record RawNames (marker : ℕ) (text sequence chunk : Name) : Type 0 where
  chunks : IsCodeChunk chunk
  has_row : HasRawRow text sequence chunk
  text_data : same_name text n.Data ≡ false
  text_prefix : same_name text n.BlockQuotePrefix ≡ false
  text_sought : is_listed sought_names text ≡ false
  sequence_data : same_name sequence n.Data ≡ false
  sequence_prefix : same_name sequence n.BlockQuotePrefix ≡ false
  sequence_sought : is_listed sought_names sequence ≡ false
  sequence_other : is_listed (line_names chunk) sequence ≡ false
  sequence_may : (bytes : List ℕ) (size : ℕ) → 0 < size → size ≤ run marker bytes → is_token sequence (take size bytes) ≡ true
  spells : (names : Names) (bytes : List ℕ) (linked : Bool) (from to : End) (kids : Nodes)
      → inlines_of names bytes linked (one (Around (enter_at bytes text from) kids (exit_at bytes text to))) ≡ leaves (raw_leaf text (code_of names bytes sequence kids) ∷ [])
  alike : (m m' : Meaning) (printed : List ℕ) → ArePartsAlike m m' (leaves (raw_leaf text printed ∷ [])) (leaves (raw_leaf text printed ∷ []))

raw_names : (marker : ℕ) (text sequence chunk : Name) → are_raw_names marker text sequence chunk ≡ true → RawNames marker text sequence chunk
raw_names marker text sequence chunk are =
    raw_by RawNames marker text sequence chunk are
    (record {
      chunks = inl refl;
      has_row = record {
        row_is = refl;
        lines = refl;
        taken = refl;
        void = refl;
        takes_first = refl;
        takes_chunk = refl;
        takes_last = refl;
        between = record { space = refl; ending = refl; blank = refl; quote = refl };
        unasked = refl;
      };
      text_data = refl;
      text_prefix = refl;
      text_sought = refl;
      sequence_data = refl;
      sequence_prefix = refl;
      sequence_sought = refl;
      sequence_other = refl;
      sequence_may = λ bytes size some few. run_fits (codes "`") 96 bytes size refl some few;
      spells = λ names bytes linked from to kids. refl;
      alike = λ m m' printed. leaf_alike m m' (inline.Code printed) (leaves (inline.Code printed ∷ [])) refl;
    })
    (record {
      chunks = inr refl;
      has_row = record {
        row_is = refl;
        lines = refl;
        taken = refl;
        void = refl;
        takes_first = refl;
        takes_chunk = refl;
        takes_last = refl;
        between = record { space = refl; ending = refl; blank = refl; quote = refl };
        unasked = refl;
      };
      text_data = refl;
      text_prefix = refl;
      text_sought = refl;
      sequence_data = refl;
      sequence_prefix = refl;
      sequence_sought = refl;
      sequence_other = refl;
      sequence_may = λ bytes size some few. run_fits (codes "$") 36 bytes size refl some few;
      spells = λ names bytes linked from to kids. refl;
      alike = λ m m' printed. leaf_alike m m' (inline.Math printed) (leaves (inline.Math printed ∷ [])) refl;
    })

-- ---- runs

marker_dark : (m : ℕ) → is_raw_marker m ≡ true → ends_line m ≡ false
marker_dark m is = grind (arith, nat_tests)

marker_ascii : (m : ℕ) → is_raw_marker m ≡ true → m < 128
marker_ascii m is = grind (arith, nat_tests)

marker_black : (m : ℕ) → is_raw_marker m ≡ true → is_white m ≡ false
marker_black m is = grind (arith, nat_tests)

run_dark : (m : ℕ) (xs : List ℕ) → ends_line m ≡ false → list_any ends_line (take (run m xs) xs) ≡ false
run_dark m [] dark = refl
run_dark m (x ∷ xs) dark = elim (cases_Bool (x == m)) [
  | inl same ↦
      let size : run m (x ∷ xs) ≡ suc (run m xs) = cond-true (x == m) (1 + run m xs) 0 same ∙ omega arith in
      ap (λ k. list_any ends_line (take k (x ∷ xs))) size
      ∙ or_from (ends_line x) (list_any ends_line (take (run m xs) xs)) (ap ends_line (eqb-true x m same) ∙ dark) (run_dark m xs dark)
  | inr other ↦ ap (λ k. list_any ends_line (take k (x ∷ xs))) (cond-false (x == m) (1 + run m xs) 0 other)
]

-- a run begins with its byte
run_first : (m : ℕ) (xs : List ℕ) → 0 < run m xs → (others : List ℕ) × (xs ≡ m ∷ others)
run_first m [] some = absurd (omega (arith, some))
run_first m (x ∷ xs) some = elim (cases_Bool (x == m)) [
  | inl same ↦ (xs, ap (λ y. y ∷ xs) (eqb-true x m same))
  | inr other ↦ absurd (omega (arith, some, cond-false (x == m) (1 + run m xs) 0 other))
]

-- bytes from a run on are characters
pub raw_characters : (content : List ℕ) (place marker : ℕ) (printed bytes : List ℕ) (to : List InlineCode) → IsRawInBytes marker printed bytes to
    → bytes ≡ drop place content → is_raw_marker marker ≡ true → IsUtf8 content → IsUtf8 bytes
raw_characters content place marker printed bytes to raw is marks utf8 =
    let (others, begins) = run_first marker bytes raw.some in
    let at = byte_at content place marker others (sym begins ∙ is) in
    subst IsUtf8 (sym is)
    (IsUtf8-drop content place utf8
    (IsCharBoundary-before_ascii content place at.within (subst (λ b. b < 128) (sym at.byte) (marker_ascii marker marks))))

-- bytes between two runs, too
inner_characters : (m size : ℕ) (bytes inside front others : List ℕ) → m < 128 → IsUtf8 bytes → 0 < size → size ≡ run m bytes → inside ≡ drop size bytes
    → inside ≡ front ++ m ∷ others → IsUtf8 front
inner_characters m size bytes inside front others ascii utf8 some size_is inside_is parts =
    let last : get_or bytes (size - 1) 0 ≡ m =
    eqb-true (get_or bytes (size - 1) 0) m (prefix_len_passes (λ x. x == m) bytes (size - 1) 0 (omega (arith, some, size_is))) in
    let within : size ≤ length bytes = subst (λ k. k ≤ length bytes) (sym size_is) (prefix_len-le-length (λ x. x == m) bytes) in
    let after : IsUtf8 inside =
    subst IsUtf8 (sym inside_is)
    (IsUtf8-drop bytes size utf8 (boundary_after_byte bytes size utf8 some within (subst (λ b. b < 128) (sym last) ascii))) in
    let next : get_or inside (length front) 0 ≡ m = ap (λ xs. get_or xs (length front) 0) parts ∙ get_or-append_seam front m others 0 in
    let before : length front < length inside = omega (arith, ap length parts, length-append front (m ∷ others)) in
    subst IsUtf8 (ap (take (length front)) parts ∙ take-append_seam front (m ∷ others))
    (IsUtf8-take inside (length front) after
    (IsCharBoundary-before_ascii inside (length front) before (subst (λ b. b < 128) (sym next) ascii)))

-- the next run is in the bytes, and has its size
pub record NextRun (m size : ℕ) (xs end : List ℕ) : Type 0 where
  pub front : List ℕ
  pub parts : xs ≡ front ++ end
  pub size_is : run m end ≡ size

next_run : (m size : ℕ) (within : Bool) (xs end : List ℕ) → run_of m size within xs ≡ Some end → NextRun m size xs end
next_run m size within [] end is = absurd cc
next_run m size within (x ∷ xs) end is = elim (cases_Bool (not within && (run m (x ∷ xs) == size))) [
  | inl here ↦
      let some : Some (x ∷ xs) ≡ Some end = sym (cond-true (not within && (run m (x ∷ xs) == size)) (Some (x ∷ xs)) (run_of m size (x == m) xs) here) ∙ is in
      let same : x ∷ xs ≡ end = cc in
      record {
        front = [];
        parts = same;
        size_is = ap (run m) (sym same) ∙ eqb-true (run m (x ∷ xs)) size (and_parts (not within) _ here).1;
      }
  | inr later ↦
      let p = next_run m size (x == m) xs end
      (sym (cond-false (not within && (run m (x ∷ xs) == size)) (Some (x ∷ xs)) (run_of m size (x == m) xs) later) ∙ is) in
      record { front = x ∷ p.front; parts = ap (λ ys. x ∷ ys) p.parts; size_is = p.size_is }
]

-- no line ending is cut before a byte that is none
pub cut_before : (bytes : List ℕ) (m : ℕ) (others : List ℕ) → ends_line m ≡ false → AreCutBetween bytes (m ∷ others)
cut_before [] m others dark = refl
cut_before (b ∷ bs) m others dark =
    let after = content_codes (m ∷ others) in
    let more = content_codes (bs ++ m ∷ others) in
    let inner = content_codes bs in
    let later : more ≡ inner ++ after = cut_before bs m others dark in
    elim (cases_Bool (b == 13)) [
      | inr apart ↦
          cond-false (b == 13) (after_return_code (bs ++ m ∷ others) more) (b ∷ more) apart
          ∙ ap (λ cs. b ∷ cs) later
          ∙ ap (λ cs. cs ++ after) (sym (cond-false (b == 13) (after_return_code bs inner) (b ∷ inner) apart))
      | inl return ↦
          cond-true (b == 13) (after_return_code (bs ++ m ∷ others) more) (b ∷ more) return
          ∙ behind bs later
          ∙ ap (λ cs. cs ++ after) (sym (cond-true (b == 13) (after_return_code bs inner) (b ∷ inner) return))
    ]
  where
    behind : (xs : List ℕ) → content_codes (xs ++ m ∷ others) ≡ content_codes xs ++ content_codes (m ∷ others)
        → after_return_code (xs ++ m ∷ others) (content_codes (xs ++ m ∷ others)) ≡ after_return_code xs (content_codes xs) ++ content_codes (m ∷ others)
    behind [] is =
        cond-false (m == 10) (257 ∷ drop 1 (content_codes (m ∷ others))) (13 ∷ content_codes (m ∷ others)) (or_parts (m == 10) (m == 13) dark).0
    behind (x ∷ xs) is =
        let all = content_codes ((x ∷ xs) ++ m ∷ others) in
        let inner = content_codes (x ∷ xs) in
        elim (cases_Bool (x == 10)) [
          | inr other ↦
              cond-false (x == 10) (257 ∷ drop 1 all) (13 ∷ all) other
              ∙ ap (λ cs. 13 ∷ cs) is
              ∙ ap (λ cs. cs ++ content_codes (m ∷ others)) (sym (cond-false (x == 10) (257 ∷ drop 1 inner) (13 ∷ inner) other))
          | inl feed ↦
              let single : (x == 13) ≡ false = ap (λ y. y == 13) (eqb-true x 10 feed) in
              let first : inner ≡ x ∷ content_codes xs = cond-false (x == 13) (after_return_code xs (content_codes xs)) (x ∷ content_codes xs) single in
              cond-true (x == 10) (257 ∷ drop 1 all) (13 ∷ all) feed
              ∙ ap (λ cs. 257 ∷ drop 1 cs) (is ∙ ap (λ cs. cs ++ content_codes (m ∷ others)) first)
              ∙ ap (λ cs. (257 ∷ drop 1 cs) ++ content_codes (m ∷ others)) (sym first)
              ∙ ap (λ cs. cs ++ content_codes (m ∷ others)) (sym (cond-true (x == 10) (257 ∷ drop 1 inner) (13 ∷ inner) feed))
        ]

module _ {A : Type 0} (names : Names) (text : List ℕ) (stop : Stop) where
  pub raw_written : (on : Constructs) (a b c d e f : Walk A) (name sequence chunk : Name) (marker : ℕ) (printed bytes inside end inner : List ℕ) (to : List InlineCode) (size : ℕ)
      → are_raw_names marker name sequence chunk ≡ true → is_raw_marker marker ≡ true → IsRawInBytes marker printed bytes to → IsUtf8 bytes
      → size ≡ run marker bytes
      → inside ≡ drop size bytes
      → (0 < size → end ≡ unwrap_or (run_of marker size false inside) []) → inner ≡ take (length inside - length end) inside → StandsInContent text bytes stop a
      → IsWhole a → standing b ≡ standing a → ((line : List ℕ) → StandsInLine text line a → EntersInLine text name line a b) → standing c ≡ standing b
      → WritesNext text sequence size b c
      → ((content : List ℕ) → IsChunk chunk → IsUtf8 inner → AreCutBetween inner content → StandsInContent text (inner ++ content) stop c
      → WritesLines names text chunk false inner content stop c d)
      → standing e ≡ standing d → WritesNext text sequence size d e → standing f ≡ standing e
      → ((line : List ℕ) → StandsInLine text line e → ExitsInLine text name line e f)
      → WritesLeaves on names text bytes Anywhere (raw_leaf name printed ∷ []) to stop a f
  raw_written on a b c d e f name sequence chunk marker printed bytes inside end inner to size are marks raw utf8 size_is inside_is end_is inner_is st whole
      same_b enters same_c first lines same_e second same_f exits =
      let known = raw_names marker name sequence chunk are in
      let dark = marker_dark marker marks in
      let some : 0 < size = omega (arith, raw.some, size_is) in
      let inside_at : inside ≡ after_run marker bytes = inside_is ∙ ap (λ k. drop k bytes) size_is in
      let found : run_of marker size false inside ≡ Some raw.end = ap₂ (λ k (xs : List ℕ). run_of marker k false xs) size_is inside_at ∙ raw.next in
      let last : end ≡ raw.end = end_is some ∙ ap (λ o. unwrap_or o []) found in
      let next = next_run marker size false inside raw.end found in
      let end_size : length inside - length end ≡ length next.front =
      omega (arith, ap length next.parts, length-append next.front raw.end, ap length last) in
      let inner_at : inner ≡ next.front = inner_is ∙ ap₂ (λ k (xs : List ℕ). take k xs) end_size next.parts ∙ take-append_seam next.front raw.end in
      let opening = take size bytes in
      let closing = take size raw.end in
      let after = drop size raw.end in
      let opening_size : size ≡ length opening =
      sym (length-take-le size bytes (subst (λ k. k ≤ length bytes) (sym size_is) (prefix_len-le-length (λ x. x == marker) bytes))) in
      let closing_size : size ≡ length closing =
      sym (length-take-le size raw.end (subst (λ k. k ≤ length raw.end) next.size_is (prefix_len-le-length (λ x. x == marker) raw.end))) in
      let opening_dark : list_any ends_line opening ≡ false = ap (λ k. list_any ends_line (take k bytes)) size_is ∙ run_dark marker bytes dark in
      let closing_dark : list_any ends_line closing ≡ false = ap (λ k. list_any ends_line (take k raw.end)) (sym next.size_is) ∙ run_dark marker raw.end dark in
      let end_parts : raw.end ≡ closing ++ after = sym (take-append-drop size raw.end) in
      let inside_parts : inside ≡ inner ++ (closing ++ after) = next.parts ∙ ap₂ (λ (xs ys : List ℕ). xs ++ ys) (sym inner_at) end_parts in
      let front = opening ++ (inner ++ closing) in
      let tail = inner ++ (closing ++ after) in
      let parts : bytes ≡ opening ++ tail =
      sym (take-append-drop size bytes) ∙ ap (λ xs. opening ++ xs) (sym inside_is ∙ inside_parts) in
      let entered = line_enters text stop a b name bytes st same_b enters in
      let t =
      token_in names text stop b c sequence opening tail size opening_size
      (omega (arith, some, opening_size)) opening_dark known.sequence_data known.sequence_prefix
      (known.sequence_may bytes size some (omega (arith, size_is)))
      (subst (λ xs. StandsInContent text xs stop b) parts entered.stands) (ap (λ (x : End). x.owed) entered.end ∙ whole) same_c first in
      let (others, begins) = run_first marker raw.end (omega (arith, next.size_is, some)) in
      let cut : AreCutBetween inner (closing ++ after) =
      subst (AreCutBetween inner) (sym begins ∙ end_parts) (cut_before inner marker others dark) in
      let characters : IsUtf8 inner =
      subst IsUtf8 (sym inner_at)
      (inner_characters marker size bytes inside next.front others (marker_ascii marker marks) utf8 some size_is inside_is
      (next.parts ∙ ap (λ xs. next.front ++ xs) begins)) in
      let w = lines (closing ++ after) (inl known.chunks) characters cut t.writes.stands in
      let whole_d =
      dark_whole text marker others stop d (marker_black marker marks)
      (subst (λ xs. StandsInContent text xs stop d) (sym end_parts ∙ begins) w.writes.stands) in
      let u =
      token_in names text stop d e sequence closing after size closing_size
      (omega (arith, some, closing_size)) closing_dark known.sequence_data known.sequence_prefix
      (known.sequence_may raw.end size some (omega (arith, next.size_is)))
      w.writes.stands whole_d same_e second in
      let exited = line_exits text stop e f name after u.writes.stands same_f exits in
      let t_node = token text sequence (end_in b.out).index (length opening) in
      let u_node = token text sequence (end_in d.out).index (length closing) in
      let kids = append (one t_node) (append w.nodes (one u_node)) in
      let inner_written = contents_both text stop c d e inner closing after w.nodes (one u_node) w.writes u.writes in
      let joined : tail ≡ (inner ++ closing) ++ after = sym (append_assoc inner closing after) in
      let kids_written = contents_both text stop b c e opening (inner ++ closing) after (one t_node) (append w.nodes (one u_node))
      (subst (λ xs. WritesInContent text opening (one t_node) xs stop b c) joined t.writes) inner_written in
      let all : bytes ≡ front ++ after = parts ∙ ap (λ xs. opening ++ xs) joined ∙ sym (append_assoc opening (inner ++ closing) after) in
      let entered_here = line_enters text stop a b name (front ++ after) (subst (λ xs. StandsInContent text xs stop a) all st) same_b enters in
      let node = Around (enter_at text name (end_in a.out)) kids (exit_at text name (end_in e.out)) in
      let filled : (around : Between) → MayEndLines around inner → IsFilled around Plain node =
      λ around. raw_filled around name sequence chunk inner text (end_in b.out).index (end_in d.out).index (length opening) (length closing) w.nodes
      (end_in a.out) (end_in e.out) known.has_row w.fill in
      let read : code_of names text sequence kids ≡ printed =
      code_between names text (line_names chunk) sequence t_node u_node w.nodes w.named known.sequence_other refl refl
      ∙ ap without_padding (w.code refl known.chunks)
      ∙ ap (λ xs. code_text (content_codes xs)) (inner_is ∙ ap₂ (λ (x y : List ℕ). take (length x - length y) x) inside_at last)
      ∙ raw.read in
      record {
        front = front;
        after = after;
        parts = all;
        left = subst (λ k. AreBytesAt (drop k raw.end) to) (sym size_is) raw.left;
        nodes = one node;
        writes =
            subst (λ ns. WritesInContent text front ns after stop a f)
            (cut_one (enter_at text name (end_in a.out)) (exit_at text name (end_in e.out)) kids known.text_data)
            (contents_around text stop a b e f name front after kids entered_here kids_written exited known.text_prefix);
        whole = ap (λ (x : End). x.owed) exited.end ∙ u.whole;
        plain =
            plain_one node known.text_sought
            (plain_both (one t_node) (append w.nodes (one u_node)) (plain_one t_node known.sequence_sought plain_none)
            (plain_both w.nodes (one u_node) w.plain (plain_one u_node known.sequence_sought plain_none)));
        spells = λ linked may m m'.
            subst (ArePartsAlike m m' (leaves (raw_leaf name printed ∷ [])))
            (sym (known.spells names text linked (end_in a.out) (end_in e.out) kids ∙ ap (λ p. leaves (raw_leaf name p ∷ [])) read))
            (known.alike m m' printed);
        fill = λ around may.
            fill_taken around text_row name Plain text_row node refl known.has_row.taken
            (filled around (may_both around inner closing (may_both around opening (inner ++ closing) may).1).0);
        sound = sound_one on names text node (sound_filled on names text 2 Lines Plain name node refl known.has_row.unasked (filled Lines tt));
      }
