-- From before all rows of a text to after them.
use Rattle.std.proofs.Common.{◌≡◌, ◌+◌, ◌≤◌, ◌||◌, ℕ, zero, suc, true, false, List, [], ◌∷◌, ◌++◌, inl, inr, drop, length, map, refl, sym, ap, subst, ◌∙◌, arith}
use Rattle.std.proofs.Common.{ap₂, Bool}
use Rattle.std.specs.Prelude.{◌&&◌}
use Rattle.std.specs.List.{list_all}
use Rattle.parse_lines.specs.Content.{HasBytes, StandsInLine}
use Rattle.parse_lines.proofs.Bytes.{has_kind}
use Rattle.parse_inline.proofs.Prelude.{append-nil, AreBytesAt, AreLaid, ArePartsAlike, AreWritten, Around, cases_Bool, codes_of, cond-false, cond-true}
use Rattle.parse_inline.proofs.Prelude.{cond_both, Constructs, content_codes, End, end_after, end_in, ends_line, enter_at, eqb-true, exit_at, filled}
use Rattle.parse_inline.proofs.Prelude.{held_levels, hole_of, indent, InlineCode, InlineContext, InlineRow, Inlines, inlines_from, inlines_of, is_eol}
use Rattle.parse_inline.proofs.Prelude.{is_white, IsInRows, IsReadBy, laid_levels, Level, line_bytes, list_any, Names, Nil, no_ends, one, or_from, Outside}
use Rattle.parse_inline.proofs.Prelude.{PassesRow, plain_void, same_end, Setting, StandsInContent, StandsInText, Step, steps_of, void_nodes}
use Rattle.parse_inline.proofs.Prelude.{Walk, WritesInContent, WritesParts, WritesText, ◌==◌}
use Rattle.std.proofs.lemmas.Bool.{or_cases}
use Rattle.engine_events.specs.declared.event.Name.TheVariants as n
use Rattle.definition_inline.specs.Inline as inline
use Rattle.inline_rows.specs.InlineRows.{inline_rows}
use Rattle.inline_rows.specs.View.{rows_view}
use Rattle.laws_inline.proofs.NestedLinks.{links_hold_no_links_from}
use Rattle.parse_written.specs.Rows.{step_row}
use Rattle.parse_written.proofs.Parts.{spaces_after}
use Rattle.parse_written.proofs.Steps.{rows_of_steps}
use Rattle.parse_written.specs.Laid.{MayBeSpaces}
use Rattle.parse_written.proofs.Contents.{written_from_law}
use Rattle.parse_written.proofs.Laid.{laid_law}
use Rattle.event_grammar.specs.Grammar.{text_row}
use Rattle.parse_slots.specs.Left.{MayEndLines}
use Rattle.parse_slots.proofs.Steps.{may_space}
use Rattle.parse_slots.proofs.Voids.{void_between}
use Rattle.parse_references.proofs.Sound.{void_sound}
use Rattle.parse_inline.specs.declared.opened.Open as opened
use Rattle.parse_inline.proofs.Calls.{DoesText, texting}
use Rattle.parse_inline.proofs.Holes.{filled_whole, linkable_steps}
use Rattle.parse_inline.proofs.LeavesAlike.{append_none}
use Rattle.parse_inline.proofs.Levels.{more_parts, no_parts, outside_written}

-- ---- what the loops over rows keep

-- all before these rows is written, where a text is read by these
pub record GoesOver {A : Type 0} (on : Constructs) (names : Names) (content : List ℕ) (rows left : List InlineRow) (held : List opened.Open)
    (first now : Walk A) : Type 0 where
  pub goes : (s : Setting) (from : List InlineCode) → IsReadBy on names content s → s.is ≡ inlines_from s.context from
      → rows_view s.at rows ≡ inline_rows s.leads (inlines_from s.context from) → StandsInText s.text s.content s.bytes from s.stop first
      → IsInRows s first (rows_view s.at left) held now

-- ---- before all rows

pub all_before : {A : Type 0} (s : Setting) (from : List InlineCode) (rows : List InlineRow) (held : List opened.Open) (w : Walk A) → held ≡ []
    → s.is ≡ inlines_from s.context from → rows_view s.at rows ≡ inline_rows s.leads (inlines_from s.context from)
    → StandsInText s.text s.content s.bytes from s.stop w → IsInRows s w (rows_view s.at rows) held w
all_before s from rows held w none is same st =
    let kids = inlines_from s.context from in
    record {
      levels = [];
      kids = inline.Nil;
      left = s.bytes;
      place = from;
      steps = steps_of kids;
      held = none;
      written = Outside inline.Nil s.bytes w (no_parts s.context s.text s.stop false s.bytes w st.stands);
      stands = st;
      tree = filled_whole kids ∙ sym is;
      linkable = linkable_steps kids (links_hold_no_links_from s.context from);
      same = same ∙ rows_of_steps s.leads kids;
      laid = laid_law s.context kids from [] (written_from_law s.context from);
    }

-- ---- after all rows

-- all are written, nothing is open, and spaces may be left
pub record AreDone {A : Type 0} (s : Setting) (first : Walk A) (held : List opened.Open) (w : Walk A) : Type 0 where
  pub none : held ≡ []
  pub left : List ℕ
  pub place : List InlineCode
  pub parts : WritesParts s.context s.text false s.is s.bytes left s.stop first w
  pub stands : StandsInText s.text s.content left place s.stop w
  pub spaces : MayBeSpaces s.context.options.constructs place []

pub all_done : {A : Type 0} (s : Setting) (first : Walk A) (held : List opened.Open) (w : Walk A) → IsInRows s first [] held w → AreDone s first held w
all_done {A} s first held w st = done st.levels st.kids st.left st.place st.steps st.held st.written st.stands st.tree st.same st.laid
  where
    done : (levels : List Level) (kids : Inlines) (left : List ℕ) (place : List InlineCode) (steps : List Step) → held ≡ held_levels levels
        → AreWritten s.context s.text s.bytes s.stop first levels kids left w → StandsInText s.text s.content left place s.stop w
        → filled (map hole_of levels) kids steps ≡ s.is → [] ≡ map (step_row s.leads) steps → AreLaid s.context (laid_levels levels) steps place []
        → AreDone s first held w
    done levels kids left place (step ∷ steps) held_is written stands tree same laid = absurd cc
    done (l ∷ ls) kids left place [] held_is written stands tree same laid = absurd laid
    done [] kids left place [] held_is written stands tree same laid = record {
      none = held_is;
      left = left;
      place = place;
      parts =
          subst (λ is. WritesParts s.context s.text false is s.bytes left s.stop first w) tree
          (outside_written s.context s.text s.stop s.bytes first kids left w written);
      stands = stands;
      spaces = laid;
    }

-- so are all rows
pub record IsOver {A : Type 0} (on : Constructs) (names : Names) (content : List ℕ) (rows : List InlineRow) (held : List opened.Open) (first now : Walk A)
    : Type 0 where
  pub over : (s : Setting) (from : List InlineCode) → IsReadBy on names content s → s.is ≡ inlines_from s.context from
      → rows_view s.at rows ≡ inline_rows s.leads (inlines_from s.context from) → StandsInText s.text s.content s.bytes from s.stop first
      → AreDone s first held now

pub goes_on : {A : Type 0} (on : Constructs) (names : Names) (content : List ℕ) (rows : List InlineRow) (i : ℕ) (row : InlineRow)
    (held after : List opened.Open)
    (first old new : Walk A) → drop i rows ≡ row ∷ drop (i + 1) rows → GoesOver on names content rows (drop i rows) held first old
    → PassesRow on names content row held after old new → GoesOver on names content rows (drop (i + 1) rows) after first new
goes_on on names content rows i row held after first old new next g p = record {
  goes = λ s from by is same st.
      p.passes s first (rows_view s.at (drop (i + 1) rows)) by
      (subst (λ left. IsInRows s first (rows_view s.at left) held old) next (g.goes s from by is same st));
}

pub goes_first : {A : Type 0} (on : Constructs) (names : Names) (content : List ℕ) (rows : List InlineRow) (held : List opened.Open) (w : Walk A) → held ≡ []
    → GoesOver on names content rows (drop 0 rows) held w w
goes_first on names content rows held w none = record { goes = λ s from by is same st. all_before s from rows held w none is same st }

pub goes_over : {A : Type 0} (on : Constructs) (names : Names) (content : List ℕ) (rows left : List InlineRow) (held : List opened.Open) (first now : Walk A)
    → left ≡ []
    → GoesOver on names content rows left held first now → IsOver on names content rows held first now
goes_over on names content rows left held first now none g = record {
  over = λ s from by is same st. all_done s first held now (subst (λ xs. IsInRows s first (rows_view s.at xs) held now) none (g.goes s from by is same st));
}

-- nothing that is open is left
pub no_more : {A : Type 0} (on : Constructs) (names : Names) (content : List ℕ) (rows : List InlineRow) (others after : List opened.Open) (o : opened.Open)
    (first old new : Walk A) → IsOver on names content rows (others ++ o ∷ []) first old → IsOver on names content rows after first new
no_more on names content rows others after o first old new p = record {
  over = λ s from by is same st. absurd (some others (p.over s from by is same st).none);
}
  where
    some : (xs : List opened.Open) → xs ++ o ∷ [] ≡ [] → ⊥
    some [] same = absurd cc
    some (x ∷ xs) same = absurd cc

-- ---- the spaces at the end

white_no_end : (b : ℕ) → is_white b ≡ true → is_eol b ≡ false
white_no_end b white = elim (or_cases ((b == 32) || (b == 9)) (b == 256) white) [
  | inl h ↦ elim (or_cases (b == 32) (b == 9) h) [
    | inl space ↦ ap is_eol (eqb-true b 32 space)
    | inr tab ↦ ap is_eol (eqb-true b 9 tab)
  ]
  | inr column ↦ ap is_eol (eqb-true b 256 column)
]

white_left : (xs : List InlineCode) → [] ≡ drop (indent (codes_of xs)) xs → list_any is_eol (codes_of xs) ≡ false
white_left [] none = refl
white_left (c ∷ cs) none = elim (cases_Bool (is_white c.code)) [
  | inl white ↦
      let more : indent (codes_of (c ∷ cs)) ≡ suc (indent (codes_of cs)) =
      cond-true (is_white c.code) (1 + indent (codes_of cs)) 0 white ∙ (let one : 1 + indent (codes_of cs) ≡ suc (indent (codes_of cs)) = omega arith in one) in
      or_from (is_eol c.code) (list_any is_eol (codes_of cs)) (white_no_end c.code white) (white_left cs (none ∙ ap (λ n. drop n (c ∷ cs)) more))
  | inr other ↦
      let first : indent (codes_of (c ∷ cs)) ≡ 0 = cond-false (is_white c.code) (1 + indent (codes_of cs)) 0 other in
      let empty : [] ≡ c ∷ cs = none ∙ ap (λ n. drop n (c ∷ cs)) first in
      absurd cc
]

white_all : (xs : List InlineCode) → [] ≡ drop (indent (codes_of xs)) xs → list_all is_white (codes_of xs) ≡ true
white_all [] none = refl
white_all (c ∷ cs) none = elim (cases_Bool (is_white c.code)) [
  | inl white ↦
      let more : indent (codes_of (c ∷ cs)) ≡ suc (indent (codes_of cs)) =
      cond-true (is_white c.code) (1 + indent (codes_of cs)) 0 white ∙ (let one : 1 + indent (codes_of cs) ≡ suc (indent (codes_of cs)) = omega arith in one) in
      ap₂ (λ (s t : Bool). s && t) white (white_all cs (none ∙ ap (λ n. drop n (c ∷ cs)) more))
  | inr other ↦
      let first : indent (codes_of (c ∷ cs)) ≡ 0 = cond-false (is_white c.code) (1 + indent (codes_of cs)) 0 other in
      let empty : [] ≡ c ∷ cs = none ∙ ap (λ n. drop n (c ∷ cs)) first in
      absurd cc
]

left_white : (context : InlineContext) (left : List ℕ) (place : List InlineCode) → AreBytesAt left place → MayBeSpaces context.options.constructs place []
    → list_all is_white left ≡ true
left_white context left place at spaces =
    let codes : list_any is_eol (content_codes left) ≡ false = ap (list_any is_eol) (sym at) ∙ none place spaces in
    ap (list_all is_white) (sym (line_bytes left codes) ∙ sym at) ∙ all place spaces
  where
    none : (xs : List InlineCode) → MayBeSpaces context.options.constructs xs [] → list_any is_eol (codes_of xs) ≡ false
    none xs (inl empty) = ap (λ ys. list_any is_eol (codes_of ys)) empty
    none xs (inr spaces) = white_left xs (spaces_after context xs [] spaces)

    all : (xs : List InlineCode) → MayBeSpaces context.options.constructs xs [] → list_all is_white (codes_of xs) ≡ true
    all xs (inl empty) = ap (λ ys. list_all is_white (codes_of ys)) empty
    all xs (inr spaces) = white_all xs (spaces_after context xs [] spaces)

left_dark : (context : InlineContext) (left : List ℕ) (place : List InlineCode) → AreBytesAt left place → MayBeSpaces context.options.constructs place []
    → list_any ends_line left ≡ false
left_dark context left place at spaces =
    let white : list_any is_eol (codes_of place) ≡ false = none place spaces in
    let codes : list_any is_eol (content_codes left) ≡ false = ap (list_any is_eol) (sym at) ∙ white in
    no_ends left (ap (list_any is_eol) (sym (line_bytes left codes)) ∙ codes)
  where
    none : (xs : List InlineCode) → MayBeSpaces context.options.constructs xs [] → list_any is_eol (codes_of xs) ≡ false
    none xs (inl empty) = ap (λ ys. list_any is_eol (codes_of ys)) empty
    none xs (inr spaces) = white_left xs (spaces_after context xs [] spaces)

-- white space spells nothing
white_spells : (names : Names) (text : List ℕ) (from to : End) → inlines_of names text false (void_nodes text n.SpaceOrTab from to) ≡ inline.Nil
white_spells names text from to =
    cond_both (same_end to from) Nil (one (Around (enter_at text n.SpaceOrTab from) Nil (exit_at text n.SpaceOrTab to)))
    (λ ns. inlines_of names text false ns ≡ inline.Nil) (λ _. refl) (λ _. refl)

-- the text is written with them
pub all_written : {A : Type 0} (s : Setting) (first : Walk A) (held : List opened.Open) (old new : Walk A) (size : ℕ) (d : AreDone s first held old)
    → size ≡ length d.left → DoesText n.SpaceOrTab size old new
    → WritesText s.context.options.constructs s.context.names s.text s.bytes s.is [] s.stop first new
all_written s first held old new size d is does =
    let dark = left_dark s.context d.left d.place d.stands.codes d.spaces in
    let st : StandsInContent s.text (d.left ++ []) s.stop old = subst (λ bs. StandsInContent s.text bs s.stop old) (sym (append-nil d.left)) d.stands.stands in
    let white = left_white s.context d.left d.place d.stands.codes d.spaces in
    let may : (line : List ℕ) → StandsInLine s.text (d.left ++ line) old → HasBytes s.text n.SpaceOrTab size old =
    λ line here. has_kind s.text d.left line size old is_white is here white in
    let w = texting s.text s.stop old new n.SpaceOrTab size d.left [] is dark refl may does st in
    let ns = void_nodes s.text n.SpaceOrTab (end_in old.out) (end_after (end_in old.out) (length d.left)) in
    let all =
    more_parts s.context s.text s.stop false s.is inline.Nil s.bytes d.left d.left [] first old new ns d.parts (sym (append-nil d.left)) w.writes
    (λ m m' meant. white_spells s.context.names s.text (end_in old.out) (end_after (end_in old.out) (length d.left)))
    (plain_void s.text n.SpaceOrTab (end_in old.out) (end_after (end_in old.out) (length d.left)) refl refl)
    (λ around may.
    void_between around text_row n.SpaceOrTab s.text (end_in old.out) (end_after (end_in old.out) (length d.left)) refl refl (may_space around d.left may)
    refl) (void_sound s.context.options.constructs s.context.names s.text n.SpaceOrTab (end_in old.out) (end_after (end_in old.out) (length d.left)) refl) in
    record {
      nodes = all.nodes;
      writes = subst (λ bs. WritesInContent s.text bs all.nodes [] s.stop first new) (sym (all.both ∙ append-nil all.front)) all.writes;
      spells = λ m m' meant.
          subst (λ is. ArePartsAlike m m' is (inlines_of s.context.names s.text false all.nodes)) (append_none s.is) (all.spells m m' meant);
      plain = all.plain;
      fill = λ around may. all.fill around (subst (MayEndLines around) (all.both ∙ append-nil all.front) may);
      sound = all.sound;
    }

-- nothing is left of a list after its end
pub drop_past : {B : Type 0} (xs : List B) (i : ℕ) → length xs ≤ i → drop i xs ≡ []
drop_past [] zero past = refl
drop_past [] (suc i) past = refl
drop_past (x ∷ xs) zero past = absurd (omega (arith, past))
drop_past (x ∷ xs) (suc i) past = drop_past xs i (omega (arith, past))
