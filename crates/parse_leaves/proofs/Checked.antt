-- A text that may begin with a check (GFM 5.3).
use Rattle.std.proofs.Common.{◌≡◌, ℕ, zero, suc, ◌+◌, ◌-◌, ◌<◌, arith, Bool, ◌&&◌, if◌then◌else◌, List, [], ◌∷◌, ◌++◌, None, Some, refl, sym, ap, ◌∙◌, inl, inr, subst, get_or, length, take, drop}
use Rattle.parse_leaves.proofs.Prelude.{append_inlines, cases_Bool, check_of, codes_of, codes_of_view, cond-false, cond-true, Constructs, Content}
use Rattle.parse_leaves.proofs.Prelude.{content_codes, content_view, context_of, drop-drop, Inlines, inlines_from, is_white, IsAfterCheck, IsWhole}
use Rattle.parse_leaves.proofs.Prelude.{length-take-le, prefix_len, read_content, Reading, StandsInContent, StandsInText, Stop, take-append-drop, view_at}
use Rattle.parse_leaves.proofs.Prelude.{Walk, without_white, WritesText, WritesWhite}
use Rattle.definition_inline.specs.GfmTaskListItem.{check_at, check_size}
use Rattle.definition_inline.specs.Inline.{Leaf, TaskCheck}
use Rattle.definition_inline.specs.Scan.{without_indent}
use Rattle.definition_page.specs.Read.{checked_text}
use Rattle.definition_text.specs.InlineCode.{InlineCode}
use Rattle.event_meaning.specs.Texts.{part}
use Rattle.inline_parser.specs.Scanned.{IsPlace}
use Rattle.inline_parser.proofs.Placed.{place_after}
use Rattle.inline_parser.proofs.Views.{after_next, codes_left, view_next}
use Rattle.parse_leaves.specs.Texts.{WritesStructure}
use Rattle.parse_leaves.proofs.Decoded.{bytes_single}
use Rattle.parse_leaves.proofs.JoinedTexts.{quiet_then, texts_both}
use Rattle.parse_leaves.proofs.Starts.{start_is, white_count}

white_codes : (view : List InlineCode) → prefix_len (λ (c : InlineCode). is_white c.code) view ≡ white_count (codes_of view)
white_codes [] = refl
white_codes (c ∷ cs) = ap (λ n. if is_white c.code then 1 + n else 0) (white_codes cs)

codes_drop : (n : ℕ) (view : List InlineCode) → codes_of (drop n view) ≡ drop n (codes_of view)
codes_drop zero view = refl
codes_drop (suc n) [] = refl
codes_drop (suc n) (c ∷ cs) = codes_drop n cs

check_found : (on : Constructs) (first : Bool) (codes : List ℕ) (done : Bool) → Some done ≡ check_at on first codes → check_of codes ≡ Some done
check_found on first codes done found = elim (cases_Bool (first && on.gfm_task_list_item)) [
  | inl may ↦ sym (found ∙ cond-true (first && on.gfm_task_list_item) (check_of codes) None may)
  | inr not ↦
      let none : Some done ≡ None = found ∙ cond-false (first && on.gfm_task_list_item) (check_of codes) None not in
      absurd (some_none done none)
]
  where
    some_none : (done : Bool) → Some done ≡ None → ⊥
    some_none done h = cc

module _ (r : Reading) (content : Content) (start : List ℕ) (place : IsPlace content.text.now start)
    (view : view_at r.tables.is_punctuation content start ≡ without_indent (content_view r.tables.is_punctuation content)) where
  -- the codes from the start on
  start_codes : codes_of (without_indent (content_view r.tables.is_punctuation content)) ≡ content_codes start
  start_codes = sym (ap codes_of view) ∙ codes_left r.tables.is_punctuation content start place

  -- the start of a content is what follows its spaces and tabs
  pub start_bare : ((k : ℕ) → get_or content.text.now k 0 < 256) → start ≡ without_white content.text.now
  start_bare bytes =
      let all = content_view r.tables.is_punctuation content in
      let codes = codes_of_view r.tables.is_punctuation content in
      start_is content.text.now start (bytes_single content.text.now bytes) place.rest_of
      (sym start_codes ∙ codes_drop (prefix_len (λ (c : InlineCode). is_white c.code) all) all ∙ ap (λ n. drop n (codes_of all)) (white_codes all)
      ∙ ap (λ (cs : List ℕ). drop (white_count cs) cs) codes)

  -- a text without a check
  pub read_bare : (first : Bool) → None ≡ check_at r.parse.constructs first (content_codes start)
      → inlines_from (context_of r) (view_at r.tables.is_punctuation content start) ≡ read_content r first (content_view r.tables.is_punctuation content)
  read_bare first none =
      let bare = without_indent (content_view r.tables.is_punctuation content) in
      ap (inlines_from (context_of r)) view
      ∙ ap (checked_text r bare) (none ∙ ap (check_at r.parse.constructs first) (sym start_codes))

  -- a text after its check
  pub read_checked : (first done : Bool) (after : List ℕ) → Some done ≡ check_at r.parse.constructs first (content_codes start) → IsAfterCheck start after
      → append_inlines (part (Leaf (TaskCheck done))) (inlines_from (context_of r) (view_at r.tables.is_punctuation content after))
      ≡ read_content r first (content_view r.tables.is_punctuation content)
  read_checked first done after found is_after =
      let bare = without_indent (content_view r.tables.is_punctuation content) in
      let next = view_next r.tables.is_punctuation content start after place (after_next start after is_after.after) in
      let rest : view_at r.tables.is_punctuation content after ≡ drop check_size bare =
      sym next ∙ ap (λ n. drop n (view_at r.tables.is_punctuation content start)) is_after.size ∙ ap (drop check_size) view in
      ap (λ v. append_inlines (part (Leaf (TaskCheck done))) (inlines_from (context_of r) v)) rest
      ∙ ap (checked_text r bare) (found ∙ ap (check_at r.parse.constructs first) (sym start_codes))

  module _ {A : Type 0} (text : List ℕ) (stop : Stop) (old mid : Walk A) (bare : start ≡ without_white content.text.now)
      (white : WritesWhite text content.text.now stop old mid) where
    -- after the white space the walk stands in the text
    pub stands_at_start : StandsInText text content.text.now start (view_at r.tables.is_punctuation content start) stop mid
    stands_at_start = record {
      stands = subst (λ bs. StandsInContent text bs stop mid) (sym bare) white.writes.stands;
      whole = white.whole;
      ahead = bare ∙ white.ahead;
      codes = codes_left r.tables.is_punctuation content start place;
    }

    -- what follows the white space is written after it
    pub after_white : (new : Walk A) (is : Inlines) → WritesText r.parse.constructs r.tables.names text start is [] stop mid new
        → WritesText r.parse.constructs r.tables.names text (drop old.place content.text.now) is [] stop old new
    after_white new is written =
        subst (λ bs. WritesText r.parse.constructs r.tables.names text bs is [] stop old new) (sym white.parts)
        (quiet_then r.parse.constructs r.tables.names text stop old mid new white.front (without_white content.text.now) white.nodes is white.quiet white.fill
        white.writes
        (subst (λ bs. WritesText r.parse.constructs r.tables.names text bs is [] stop mid new) bare written))

    -- a check, and the text after it
    pub after_check : (checked new : Walk A) (first done : Bool) (after : List ℕ) → Some done ≡ check_at r.parse.constructs first (content_codes start)
        → IsAfterCheck start after
        → ((front : List ℕ) → start ≡ front ++ after → check_of (content_codes start) ≡ Some done → StandsInContent text start stop mid → IsWhole mid
        → WritesText r.parse.constructs r.tables.names text front (part (Leaf (TaskCheck done))) after stop mid checked × IsWhole checked)
        → WritesStructure r content.text.now after (view_at r.tables.is_punctuation content after) checked new
        → WritesText r.parse.constructs r.tables.names text (drop old.place content.text.now)
        (read_content r first (content_view r.tables.is_punctuation content)) [] stop old new
    after_check checked new first done after found is_after check structure =
        let n = length start - length after in
        let front = take n start in
        let parts : start ≡ front ++ after =
        sym (take-append-drop n start) ∙ ap (λ (bs : List ℕ). front ++ bs) (sym is_after.after.place) in
        let here = stands_at_start in
        let one = check front parts (check_found r.parse.constructs first (content_codes start) done found) here.stands here.whole in
        let is = inlines_from (context_of r) (view_at r.tables.is_punctuation content after) in
        let size : length front ≡ n = length-front in
        let two =
        structure text stop (record {
          stands = one.0.writes.stands;
          whole = one.1;
          ahead =
              is_after.after.place ∙ ap (drop n) here.ahead ∙ drop-drop n mid.place content.text.now
              ∙ ap (λ k. drop k content.text.now) (ap (λ k. mid.place + k) (sym size) ∙ sym one.0.writes.place);
          codes = codes_left r.tables.is_punctuation content after (place_after content.text.now start after place is_after.after);
        }) in
        subst (λ js. WritesText r.parse.constructs r.tables.names text (drop old.place content.text.now) js [] stop old new)
        (read_checked first done after found is_after)
        (after_white new (append_inlines (part (Leaf (TaskCheck done))) is)
        (subst (λ bs. WritesText r.parse.constructs r.tables.names text bs (append_inlines (part (Leaf (TaskCheck done))) is) [] stop mid new) (sym parts)
        (texts_both r.parse.constructs r.tables.names text stop mid checked new front after (part (Leaf (TaskCheck done))) is one.0 two)))
      where
        length-front : length (take (length start - length after) start) ≡ length start - length after
        length-front = length-take-le (length start - length after) start (omega arith)
