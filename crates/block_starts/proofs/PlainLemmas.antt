-- Nothing begins with a plain rest but text: a lemma for each construct.
use Rattle.std.proofs.Common.{inl, inr, ◌≡◌, ℕ, ◌+◌, ◌-◌, Bool, true, false, cond, not, ◌&&◌, ◌||◌, List, [], ◌∷◌, Option, None, refl, sym, ap, ◌∙◌, subst}
use Rattle.std.proofs.Common.{length, drop, take, zero, suc, arith}
use Rattle.std.specs.Prelude.{◌==◌, leb, codes}
use Rattle.std.specs.List.{list_any, prefix_len, suffix_len}
use Rattle.std.proofs.lemmas.Bool.{cases_Bool, cond-true, cond-false, cond_both, and_left, and_right, and_parts, eqb-true, or_parts, or_from, ne_eqb, leb-true}
use Rattle.std.proofs.Math.ListN.{drop_of_length-le}
use Rattle.markdown_options.specs.declared.configuration.Constructs.{Constructs}
use Rattle.markdown_options.specs.declared.beside.Kind.{Kind}
use Rattle.markdown_options.specs.declared.beside.Kind.TheVariants.{Whitespace}
use Rattle.definition_text.specs.Columns.{Rest, is_white, is_blank, indent, bare, is_byte, bytes_of, trim}
use Rattle.definition_text.specs.Content.{may_escape}
use Rattle.definition_text.specs.Indents.{small_indent}
use Rattle.definition_text.specs.Bytes.{begins_with}
use Rattle.definition_text.specs.Runs.{run}
use Rattle.definition_inline.specs.HtmlTags.{open_tag, closing_tag}
use Rattle.definition_block.specs.ListItem.{is_digit}
use Rattle.definition_block.specs.GfmFootnoteDefinition.{footnote_mark, footnote_of}
use Rattle.definition_block.specs.Containers.{starts}
use Rattle.definition_block.specs.CodeIndented.{starts_code_indented}
use Rattle.definition_block.specs.CodeFenced.{fence_of, fence_start}
use Rattle.definition_block.specs.MathFlow.{math_fence_of, math_start}
use Rattle.definition_block.specs.HtmlFlow.{starts_raw, starts_declaration, starts_basic, starts_complete, stands_alone, html_kind, html_start}
use Rattle.definition_block.specs.HeadingAtx.{atx_of, heading_atx}
use Rattle.definition_block.specs.HeadingSetext.{underline_of, underline}
use Rattle.definition_block.specs.ThematicBreak.{is_break_text, is_break}
use Rattle.definition_block.specs.GfmTable.{Cell, cell, in_first_cell, is_bar, parts, without_blank_first, without_blank_last, column_delimiter}
use Rattle.definition_block.specs.GfmTable.{and_alignment, alignments_of, is_bar_or_colon, some_alignments, delimiters, delimiter_row}
use Rattle.block_starts.specs.Marks.{begins_with_marker, may_start}
use Rattle.block_starts.specs.Plain.{begins_block, begins_extension, begins_footnote, begins_standard_block, is_plain_byte, begins_plain}
use Rattle.block_starts.proofs.MarkLemmas.{only_footnote, indent_blank, no_marker_none}

-- ---- tests that fail

unless : {A : Type 0} (b : Bool) (o : Option A) → o ≡ None → cond b o None ≡ None
unless b o none = cond_both b o None (λ x. x ≡ None) (λ _. none) (λ _. refl)

-- where a construct is on, and its test holds, there is nothing
where_on : {A : Type 0} (is_on test : Bool) (o : Option A) → (is_on ≡ true → o ≡ None) → cond (is_on && test) o None ≡ None
where_on true test o none = unless test o (none refl)
where_on false test o none = refl

-- ---- a plain text begins with no byte of a block

module _ (on : Constructs) where
  other : (b byte : ℕ) → is_plain_byte on b ≡ true → is_plain_byte on byte ≡ false → (b == byte) ≡ false
  other b byte plain mark = ne_eqb b byte (λ e. let wrong : true ≡ false = sym plain ∙ ap (is_plain_byte on) e ∙ mark in cc)

  plain_false : (b : ℕ) → is_plain_byte on b ≡ true → (is_white b || begins_block on b) ≡ false
  plain_false b plain =
      elim (cases_Bool (is_white b || begins_block on b)) [
        | inl some ↦ let wrong : false ≡ true = ap not (sym some) ∙ plain in cc
        | inr none ↦ none
      ]

  no_white : (b : ℕ) → is_plain_byte on b ≡ true → is_white b ≡ false
  no_white b plain = (or_parts (is_white b) (begins_block on b) (plain_false b plain)).0

  no_digit : (b : ℕ) → is_plain_byte on b ≡ true → is_digit b ≡ false
  no_digit b plain =
      let block = or_parts (begins_standard_block b) (begins_extension on b) (or_parts (is_white b) (begins_block on b) (plain_false b plain)).1 in
      (or_parts _ (is_digit b) block.0).1

  -- the same the other way round
  another : (b byte : ℕ) → is_plain_byte on b ≡ true → is_plain_byte on byte ≡ false → (byte == b) ≡ false
  another b byte plain mark = ne_eqb byte b (λ e. let wrong : true ≡ false = sym plain ∙ ap (is_plain_byte on) (sym e) ∙ mark in cc)

  no_run : (x b : ℕ) (bs : List ℕ) → is_plain_byte on b ≡ true → is_plain_byte on x ≡ false → run x (b ∷ bs) ≡ 0
  no_run x b bs plain mark = cond-false (b == x) _ 0 (other b x plain mark)

  -- the byte that comes first
  first_plain : (b : ℕ) (bs : List ℕ) → begins_plain on (b ∷ bs) ≡ true → is_plain_byte on b ≡ true
  first_plain b bs plain = (and_parts (is_plain_byte on b) (not (begins_footnote on b bs)) plain).0

  -- no marker of a footnote definition
  plain_marker : (c : ℕ) (cs : Rest) → on.gfm_footnote_definition ≡ true → not (begins_footnote on c (bytes_of cs)) ≡ true
      → begins_with_marker (c ∷ cs) ≡ false
  plain_marker c cs footnotes plain =
      elim (cases_Bool ((c == 91) && begins_with (codes "^") (bytes_of cs))) [
        | inl some ↦
            let wrong : false ≡ true = sym (ap (λ f. not (f && ((c == 91) && begins_with (codes "^") (bytes_of cs)))) footnotes ∙ ap not some) ∙ plain in cc
        | inr none ↦ with_caret cs none
      ]
    where
      with_caret : (cs : Rest) → ((c == 91) && begins_with (codes "^") (bytes_of cs)) ≡ false → begins_with_marker (c ∷ cs) ≡ false
      with_caret [] none = and_right (c == 91) false refl
      with_caret (d ∷ ds) none =
          elim (cases_Bool (d == 94)) [
            | inl caret ↦
                let same : begins_with (codes "^") (bytes_of (d ∷ ds)) ≡ true =
                ap (λ e. begins_with (codes "^") (bytes_of (e ∷ ds))) (eqb-true d 94 caret) in
                ap (λ b. (c == 91) && b) caret ∙ sym (ap (λ b. (c == 91) && b) same) ∙ none
            | inr other ↦ and_right (c == 91) (d == 94) other
          ]

  -- the first code after the indent is the first byte
  first_code : (P : Rest → Type 0) (r : Rest) → begins_plain on (bytes_of (bare r)) ≡ true
      → ((c : ℕ) (cs : Rest) → begins_plain on (c ∷ bytes_of cs) ≡ true → P (c ∷ cs)) → P (bare r)
  first_code P [] plain k = let wrong : false ≡ true = plain in cc
  first_code P (c ∷ cs) plain k =
      elim (cases_Bool (is_white c)) [
        | inl white ↦
            let more : prefix_len is_white (c ∷ cs) ≡ suc (prefix_len is_white cs) = let one = cond-true (is_white c) (1 + prefix_len is_white cs) 0 white in
            omega arith in
            let same : bare (c ∷ cs) ≡ bare cs = ap (λ n. drop n (c ∷ cs)) more in
            subst P (sym same) (first_code P cs (ap (λ bs. begins_plain on (bytes_of bs)) (sym same) ∙ plain) k)
        | inr dark ↦
            let same : bare (c ∷ cs) ≡ c ∷ cs = ap (λ n. drop n (c ∷ cs)) (cond-false (is_white c) (1 + prefix_len is_white cs) 0 dark) in
            let byte : is_byte c ≡ true = ap not (or_parts ((c == 32) || (c == 9)) (c == 256) dark).1 in
            let first : bytes_of (c ∷ cs) ≡ c ∷ bytes_of cs = cond-true (is_byte c) _ _ byte in
            subst P (sym same) (k c cs (sym (ap (λ bs. begins_plain on (bytes_of bs)) same ∙ ap (begins_plain on) first) ∙ plain))
      ]

  -- ---- containers

  no_container : (interrupts : Bool) (r : Rest) → (may_start (bare r) ≡ false) × (on.gfm_footnote_definition ≡ true → footnote_mark (bare r) ≡ None)
      → starts on interrupts r ≡ None
  no_container interrupts r none =
      sym (only_footnote on interrupts r none.0) ∙ where_on on.gfm_footnote_definition (small_indent on r) _ (λ footnotes. ap footnote_of (none.1 footnotes))

  no_first : (c : ℕ) (cs : Rest) → begins_plain on (c ∷ bytes_of cs) ≡ true
      → (may_start (c ∷ cs) ≡ false) × (on.gfm_footnote_definition ≡ true → footnote_mark (c ∷ cs) ≡ None)
  no_first c cs first =
      let parts = and_parts (is_plain_byte on c) (not (begins_footnote on c (bytes_of cs))) first in
      let plain = parts.0 in (
        or_from ((c == 62) || (c == 45) || (c == 43) || (c == 42)) _
            (or_from ((c == 62) || (c == 45) || (c == 43)) _
            (or_from ((c == 62) || (c == 45)) _ (or_from (c == 62) _ (other c 62 plain refl) (other c 45 plain refl)) (other c 43 plain refl))
            (other c 42 plain refl))
            (no_digit c plain),
        (λ footnotes. no_marker_none (c ∷ cs) (plain_marker c cs footnotes parts.1)),
      )

  pub plain_starts : (interrupts : Bool) (r : Rest) → begins_plain on (bytes_of (bare r)) ≡ true → starts on interrupts r ≡ None
  plain_starts interrupts r plain =
      no_container interrupts r (first_code (λ b. (may_start b ≡ false) × (on.gfm_footnote_definition ≡ true → footnote_mark b ≡ None)) r plain no_first)

  -- ---- leaves

  pub plain_not_blank : (r : Rest) → begins_plain on (bytes_of (bare r)) ≡ true → is_blank r ≡ false
  plain_not_blank r plain =
      elim (cases_Bool (is_blank r)) [
        | inl blank ↦
            let none : bare r ≡ [] = drop_of_length-le r (omega (arith, indent_blank r blank)) in
            let wrong : false ≡ true = sym (ap (λ b. begins_plain on (bytes_of b)) none) ∙ plain in cc
        | inr some ↦ some
      ]

  pub plain_not_code : (r : Rest) (text : Bool) → leb (indent r) 3 ≡ true → (starts_code_indented on r && not text) ≡ false
  plain_not_code r text small =
      elim (cases_Bool (leb 4 (indent r))) [
        | inl deep ↦ absurd (omega (arith, leb-true 4 (indent r) deep, leb-true (indent r) 3 small))
        | inr near ↦ and_left _ _ (and_right on.code_indented (leb 4 (indent r)) near)
      ]

  no_fence_of : (columns : ℕ) (text : List ℕ) → begins_plain on text ≡ true → fence_of columns text ≡ None
  no_fence_of columns [] plain = let wrong : false ≡ true = plain in cc
  no_fence_of columns (b ∷ bs) first =
      let plain = first_plain b bs first in
      cond-false _ _ _ (and_left (leb 3 (run 96 (b ∷ bs))) _ (ap (leb 3) (no_run 96 b bs plain refl)))
      ∙ cond-false _ _ _ (ap (leb 3) (no_run 126 b bs plain refl))

  no_math_of : (columns : ℕ) (text : List ℕ) → on.math_flow ≡ true → begins_plain on text ≡ true → math_fence_of columns text ≡ None
  no_math_of columns [] math plain = let wrong : false ≡ true = plain in cc
  no_math_of columns (b ∷ bs) math first =
      let plain = first_plain b bs first in
      cond-false _ _ _ (and_left (leb 2 (run 36 (b ∷ bs))) _ (ap (leb 2) (no_run 36 b bs plain (ap (λ m. not (m || false)) math))))

  module _ (b : ℕ) (bs : List ℕ) (plain : is_plain_byte on b ≡ true) where
    abbrev here : List ℕ
    here = b ∷ bs

    no_angle : (60 == b) ≡ false
    no_angle = another b 60 plain refl

    no_opening : begins_with (codes "<") here ≡ false
    no_opening = and_left (60 == b) _ no_angle

    no_open_tag : open_tag here ≡ None
    no_open_tag = cond-false _ _ _ no_opening

    no_closing_tag : closing_tag here ≡ None
    no_closing_tag = cond-false _ _ _ (and_left (60 == b) _ no_angle)

    no_complete : starts_complete here ≡ false
    no_complete = or_from _ _ (and_left (stands_alone (open_tag here)) _ (ap stands_alone no_open_tag)) (ap stands_alone no_closing_tag)

    no_kind_here : (paragraph : Bool) → html_kind paragraph here ≡ None
    no_kind_here paragraph =
        cond-false (starts_raw here) _ _ (and_left (begins_with (codes "<") here) _ no_opening)
        ∙ cond-false (begins_with (codes "<!--") here) _ _ (and_left (60 == b) _ no_angle)
        ∙ cond-false (begins_with (codes "<?") here) _ _ (and_left (60 == b) _ no_angle)
        ∙ cond-false (starts_declaration here) _ _ (and_left (begins_with (codes "<!") here) _ (and_left (60 == b) _ no_angle))
        ∙ cond-false (begins_with (codes "<![CDATA[") here) _ _ (and_left (60 == b) _ no_angle)
        ∙ cond-false (starts_basic here) _ _ (and_left (begins_with (codes "<") here) _ no_opening)
        ∙ cond-false (not paragraph && starts_complete here) _ _ (and_right (not paragraph) _ no_complete)

  no_kind : (paragraph : Bool) (text : List ℕ) → begins_plain on text ≡ true → html_kind paragraph text ≡ None
  no_kind paragraph [] plain = let wrong : false ≡ true = plain in cc
  no_kind paragraph (b ∷ bs) first = let plain = first_plain b bs first in no_kind_here b bs plain paragraph

  no_rank : (text : List ℕ) → begins_plain on text ≡ true → atx_of text ≡ None
  no_rank [] plain = let wrong : false ≡ true = plain in cc
  no_rank (b ∷ bs) first = let plain = first_plain b bs first in cond-false _ _ _ (and_left _ _ (and_left (leb 1 (run 35 (b ∷ bs))) _ (ap (leb 1) (no_run 35 b bs plain refl))))

  no_underline_of : (text : List ℕ) → begins_plain on text ≡ true → underline_of text ≡ None
  no_underline_of [] plain = let wrong : false ≡ true = plain in cc
  no_underline_of (b ∷ bs) first =
      let plain = first_plain b bs first in
      cond-false _ _ _ (and_left (leb 1 (run 61 (b ∷ bs))) _ (ap (leb 1) (no_run 61 b bs plain refl)))
      ∙ cond-false _ _ _ (and_left (leb 1 (run 45 (b ∷ bs))) _ (ap (leb 1) (no_run 45 b bs plain refl)))

  no_break_text : (text : List ℕ) → begins_plain on text ≡ true → is_break_text text ≡ false
  no_break_text [] plain = let wrong : false ≡ true = plain in cc
  no_break_text (b ∷ bs) first =
      let plain = first_plain b bs first in
      and_left ((b == 42) || (b == 45) || (b == 95)) _
      (or_from ((b == 42) || (b == 45)) _ (or_from (b == 42) _ (other b 42 plain refl) (other b 45 plain refl)) (other b 95 plain refl))

  -- ---- rows of delimiters

  module _ (table : on.gfm_table ≡ true) where
    -- a cell that begins with such a byte is no delimiter
    no_delimiter : (b : ℕ) (bs : List ℕ) → is_plain_byte on b ≡ true → column_delimiter (trim (b ∷ bs)) ≡ None
    no_delimiter b bs plain =
        let same : drop (prefix_len is_white (b ∷ bs)) (b ∷ bs) ≡ b ∷ bs = ap (λ n. drop n (b ∷ bs)) (cond-false (is_white b) _ 0 (no_white b plain)) in
        ap (λ rest. column_delimiter (take (length rest - suffix_len is_white rest) rest)) same ∙ front (length (b ∷ bs) - suffix_len is_white (b ∷ bs))
      where
        front : (n : ℕ) → column_delimiter (take n (b ∷ bs)) ≡ None
        front zero = refl
        front (suc n) =
            cond-false (begins_with (codes ":") (b ∷ take n bs)) _ _ (and_left (58 == b) _ (another b 58 plain (ap (λ t. not t) table)))
            ∙ cond-true (run 45 (b ∷ take n bs) == 0) _ _ (ap (λ k. k == 0) (no_run 45 b (take n bs) plain refl))

    -- nor is the first of some cells
    no_alignment : (b : ℕ) (bs : List ℕ) (after : Kind) (others : List Cell) → is_plain_byte on b ≡ true
        → some_alignments (alignments_of (cell (b ∷ bs) Whitespace after ∷ others)) ≡ None
    no_alignment b bs after others plain = ap (λ o. some_alignments (and_alignment o (alignments_of others))) (no_delimiter b bs plain)

    without_last : (b : ℕ) (bs : List ℕ) (after : Kind) (others : List Cell) → is_plain_byte on b ≡ true
        → some_alignments (alignments_of (without_blank_last (cell (b ∷ bs) Whitespace after ∷ others))) ≡ None
    without_last b bs after [] plain =
        ap (λ cs. some_alignments (alignments_of cs)) (cond-false (is_blank (b ∷ bs)) _ _ (and_left (is_white b) _ (no_white b plain)))
        ∙ no_alignment b bs after [] plain
    without_last b bs after (c ∷ cs) plain = no_alignment b bs after (without_blank_last (c ∷ cs)) plain

    in_first : (b : ℕ) (others : List Cell) → is_plain_byte on b ≡ true
        → some_alignments (alignments_of (without_blank_last (without_blank_first (in_first_cell b Whitespace others)))) ≡ None
    in_first b [] plain = refl
    in_first b (c ∷ cs) plain =
        let kept = cond-false (is_blank (b ∷ c.codes)) _ _ (and_left (is_white b) _ (no_white b plain)) in
        ap (λ all. some_alignments (alignments_of (without_blank_last all))) kept ∙ without_last b c.codes c.after cs plain

    no_delimiters : (text : List ℕ) → begins_plain on text ≡ true → delimiters text ≡ None
    no_delimiters [] plain = let wrong : false ≡ true = plain in cc
    no_delimiters (b ∷ bs) first =
        let plain = first_plain b bs first in
        let no_bar : is_bar false b ≡ false = and_left (b == 124) _ (other b 124 plain (ap (λ t. not t) table)) in
        unless (list_any is_bar_or_colon (b ∷ bs)) _
        (ap (λ cs. some_alignments (alignments_of (without_blank_last (without_blank_first cs)))) (cond-false (is_bar false b) _ _ no_bar)
        ∙ in_first b (parts Whitespace (may_escape false b) bs) plain)

  -- ---- a plain rest

  module _ (r : Rest) (plain : begins_plain on (bytes_of (bare r)) ≡ true) where
    pub plain_fence : fence_start on r ≡ None
    plain_fence = unless (on.code_fenced && small_indent on r) _ (no_fence_of (indent r) (bytes_of (bare r)) plain)

    pub plain_math : math_start on r ≡ None
    plain_math = where_on on.math_flow (small_indent on r) _ (λ math. no_math_of (indent r) (bytes_of (bare r)) math plain)

    pub plain_html : (paragraph : Bool) → html_start on paragraph r ≡ None
    plain_html paragraph = unless (on.html_flow && small_indent on r) _ (no_kind paragraph (bytes_of (bare r)) plain)

    pub plain_heading : heading_atx on r ≡ None
    plain_heading = unless (on.heading_atx && small_indent on r) _ (no_rank (bytes_of (bare r)) plain)

    pub plain_underline : underline on r ≡ None
    plain_underline = unless (on.heading_setext && small_indent on r) _ (no_underline_of (bytes_of (bare r)) plain)

    pub plain_break : is_break on r ≡ false
    plain_break = and_right (on.thematic_break && small_indent on r) _ (no_break_text (bytes_of (bare r)) plain)

    pub plain_delimiters : delimiter_row on r ≡ None
    plain_delimiters = where_on on.gfm_table (small_indent on r) _ (λ table. no_delimiters table (bytes_of (bare r)) plain)
