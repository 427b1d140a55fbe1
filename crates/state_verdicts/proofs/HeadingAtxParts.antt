-- The text of a heading among the events of its line.
use Rattle.std.proofs.Common.{◌≡◌, ◌∙◌, ℕ, suc, ◌+◌, Bool, true, false, not, ◌==◌, ◌||◌, nat_lt, if◌then◌else◌, List, [], ◌∷◌, ◌++◌, length, take}
use Rattle.std.proofs.Common.{drop, Option, Some, None, ◌⊎◌, inl, inr, refl, sym, ap, ap₂, subst, arith, append_assoc, append-nil}
use Rattle.std.proofs.lemmas.Bool.{and_from, and_parts, cases_Bool, eqb-true, lt-ltb}
use Rattle.std.specs.List.{list_all}
use Rattle.definition_block.specs.HeadingAtx.{without_closing}
use Rattle.definition_text.specs.Columns.{bare, indent, is_blank, is_white, trim}
use Rattle.definition_text.specs.Content.{is_eol}
use Rattle.definition_text.specs.Runs.{after_run, run}
use Rattle.engine_events.specs.declared.event.Event.{Event}
use Rattle.engine_events.specs.declared.place.Point.{Point}
use Rattle.engine_programs.specs.Bodies.{has}
use Rattle.markdown_engine.specs.Reading.{byte_of}
use Rattle.markdown_engine.specs.VirtualText.{Text}
use Rattle.state_table.specs.Words.{is_space_or_tab}
use Rattle.state_verdicts.specs.Codes.{Sees, byte, tab, text_byte}
use Rattle.state_verdicts.specs.HeadingAtx.{HeadingPart, HeadingParts, Signs, White, Words, further, goes_on_with, over, part_events, part_of}
use Rattle.state_verdicts.specs.HeadingAtxText.{ClosingEvents, signs_if}
use Rattle.state_verdicts.specs.Lines.{LineEnds, is_filled, is_inner, line_of}
use Rattle.state_verdicts.specs.Stretch.{Stretch}
use Rattle.state_verdicts.specs.WhiteSpace.{white_events, white_if}
use Rattle.state_verdicts.proofs.HeadingAtxContent.{is_sign, signs_close, trim_is, word_keeps, word_suffix}
use Rattle.state_verdicts.proofs.ListParts.{all_both, drop_over, prefix_over, take_over}
use Rattle.state_verdicts.proofs.HeadingAtxShape.{black_filled, black_indent, Blank, blank, blank_signs, blank_white, blank_words, Bounded, closed, Closed}
use Rattle.state_verdicts.proofs.HeadingAtxShape.{closed_signs, closed_suffix, closed_white, closed_words, first_of, is_word, join_four, join_parts}
use Rattle.state_verdicts.proofs.HeadingAtxShape.{join_rest, join_two, knows, no_space, no_text, of_split, Own, PartOf, resort, seen_after, seen_both}
use Rattle.state_verdicts.proofs.HeadingAtxShape.{Shape, signs_if_is, signs_indent, some_text, white_at, white_no_sign, word_not, word_seen, Worded}
use Rattle.state_verdicts.proofs.HeadingAtxShape.{worded, worded_signs, worded_white, worded_words}
use Rattle.state_verdicts.proofs.HeadingAtxShape.{Heading}
use Rattle.state_verdicts.proofs.LineCodes.{line_more, line_none}
use Rattle.state_verdicts.proofs.Markers.{flip, flop}
use Rattle.state_verdicts.proofs.Seen.{eol_white, seen_feed, seen_white, white_inner}
use Rattle.state_verdicts.proofs.Stretches.{eol_differs, part_seen, seen_as_itself, some_seen}

-- ---- the parts one after another

not_eol : (m c : ℕ) → is_eol m ≡ false → (c == m) ≡ true → is_eol c ≡ false
not_eol m c plain h = ap is_eol (eqb-true c m h) ∙ plain

all_inner : (sort : ℕ → Bool) → ((c : ℕ) → sort c ≡ true → is_eol c ≡ false) → (xs : List ℕ) → list_all sort xs ≡ true → list_all is_inner xs ≡ true
all_inner sort inner [] h = refl
all_inner sort inner (x ∷ xs) h =
    let parts = and_parts (sort x) (list_all sort xs) h in
    and_from (is_inner x) (list_all is_inner xs) (ap not (inner x parts.0)) (all_inner sort inner xs parts.1)

-- the line is over
record LineOver (codes : List ℕ) : Type 0 where
  pub line : line_of codes ≡ []
  pub no_white : indent codes ≡ 0
  pub no_sign : run 35 codes ≡ 0

line_over : (text : Text) (p : Point) (codes : List ℕ) → LineEnds text p → Sees text p codes → LineOver codes
line_over text p [] ends s = record { line = refl; no_white = refl; no_sign = refl }
line_over text p (c ∷ cs) ends (byte apart e s) =
    let eol : is_eol c ≡ true = sym (seen_feed c) ∙ flip (text_byte c == 10) (sym (ap (λ v. has (λ b. not (b == 10)) (byte_of v)) e) ∙ ends) in record {
      line = line_none c cs eol;
      no_white = ap (λ (b : Bool). if b then 1 + indent cs else 0) (eol_white c eol);
      no_sign = ap (λ (b : Bool). if b then 1 + run 35 cs else 0) (eol_differs 35 c refl eol);
    }
line_over text p (c ∷ cs) ends (tab few e f s) =
    absurd (let g : true ≡ false = sym (ap (λ v. has (λ b. not (b == 10)) (byte_of v)) e) ∙ ends in cc)

line_on : (read codes : List ℕ) → list_all is_inner read ≡ true → line_of codes ≡ [] → line_of (read ++ codes) ≡ read
line_on [] codes h done = done
line_on (c ∷ cs) codes h done =
    let parts = and_parts (is_inner c) (list_all is_inner cs) h in
    line_more c (cs ++ codes) (flop (is_eol c) parts.0) ∙ ap (λ (l : List ℕ). c ∷ l) (line_on cs codes parts.1 done)

filled_size : (lead : List ℕ) → nat_lt 0 (length lead) ≡ is_filled lead
filled_size [] = refl
filled_size (c ∷ cs) = lt-ltb 0 (suc (length cs)) (omega arith)

-- what a heading is in the end: where its text is, and what is known of that
pub record Known (content : List ℕ) (j0 : ℕ) (lead : List Event) (text : Text) (from to : Point) (own : List Event) (h : Heading) : Type 0 where
  pub a : ℕ
  pub l : ℕ
  pub closing : Option ℕ
  pub filled : is_filled content ≡ true
  pub first : a ≡ j0 + length lead
  pub last : l + 1 ≡ a + length own
  pub bounded : Bounded text own from to
  pub is : h ≡ knows (Some a) (Some l) closing

pub record Unknown (content : List ℕ) (h : Heading) : Type 0 where
  pub first : Option ℕ
  pub closing : Option ℕ
  pub empty : content ≡ []
  pub is : h ≡ knows first None closing

pub record Final (text : Text) (content codes : List ℕ) (j0 : ℕ) (mid : Point) (inside : List Event) (end : Point) (h : Heading) : Type 0 where
  pub from : Point
  pub to : Point
  pub own : List Event
  pub closing : List Event
  pub parts : inside ≡ white_events codes (text.start mid) (text.start from) ++ (own ++ closing)
  pub sees_from : Sees text from (bare codes)
  pub is : take (length content) (bare codes) ≡ content
  pub sees_to : Sees text to (drop (length content) (bare codes))
  pub none : is_filled content ≡ false → own ≡ []
  pub closes : ClosingEvents text (drop (length content) (bare codes)) to closing end
  pub knowing : Known content j0 (white_events codes (text.start mid) (text.start from)) text from to own h ⊎ Unknown content h

module _ (text : Text) where
  -- white space before something else
  white_is : (lead rest : List ℕ) (p q : Point) → list_all is_white lead ≡ true → indent rest ≡ 0
      → white_events (lead ++ rest) (text.start p) (text.start q) ≡ white_at text lead p q
  white_is lead rest p q h none =
      ap (λ (n : ℕ). white_if (nat_lt 0 n) (text.start p) (text.start q)) (prefix_over is_white lead rest h none)
      ∙ ap (λ (b : Bool). white_if b (text.start p) (text.start q)) (filled_size lead)

  bare_is : (lead rest : List ℕ) → list_all is_white lead ≡ true → indent rest ≡ 0 → bare (lead ++ rest) ≡ rest
  bare_is lead rest h none = ap (λ (n : ℕ). drop n (lead ++ rest)) (prefix_over is_white lead rest h none) ∙ drop_over lead rest

  -- what closes a heading: white space, signs, and white space
  closing_is : (gap signs tail rest : List ℕ) (to close past end : Point) → LineOver rest → list_all is_white gap ≡ true → list_all is_sign signs ≡ true
      → list_all is_white tail ≡ true → indent (signs ++ (tail ++ rest)) ≡ 0 → Sees text close (signs ++ (tail ++ rest)) → Sees text past (tail ++ rest)
      → ClosingEvents text (gap ++ (signs ++ (tail ++ rest))) to
      (white_at text gap to close ++ (signs_if (is_filled signs) (text.start close) (text.start past) ++ white_at text tail past end)) end
  closing_is gap signs tail rest to close past end done gap_white all tail_white none sees_close sees_past =
      let codes = gap ++ (signs ++ (tail ++ rest)) in
      let cut : bare codes ≡ signs ++ (tail ++ rest) = bare_is gap (signs ++ (tail ++ rest)) gap_white none in
      let no_run : run 35 (tail ++ rest) ≡ 0 = no_signs tail rest tail_white done.no_sign in
      let size : run 35 (signs ++ (tail ++ rest)) ≡ length signs = prefix_over is_sign signs (tail ++ rest) all no_run in
      let past_is : after_run 35 (bare codes) ≡ tail ++ rest = ap (after_run 35) cut
      ∙ (ap (λ (n : ℕ). drop n (signs ++ (tail ++ rest))) size ∙ drop_over signs (tail ++ rest)) in record {
        mid = close;
        last = past;
        sees_mid = subst (λ (l : List ℕ). Sees text close l) (sym cut) sees_close;
        sees_last = subst (λ (l : List ℕ). Sees text past l) (sym past_is) sees_past;
        blank = ap (λ (l : List ℕ). is_blank (line_of l)) past_is
            ∙ (ap is_blank (line_on tail rest (all_inner is_white white_inner tail tail_white) done.line) ∙ tail_white);
        events = ap₂ (λ (x y : List Event). x ++ y) (sym (white_is gap (signs ++ (tail ++ rest)) to close gap_white none))
            (ap₂ (λ (x y : List Event). x ++ y)
            (ap (λ (b : Bool). signs_if b (text.start close) (text.start past)) (sym (ap (nat_lt 0) (ap (run 35) cut ∙ size) ∙ filled_size signs)))
            (sym (ap (λ (l : List ℕ). white_events l (text.start past) (text.start end)) past_is ∙ white_is tail rest past end tail_white done.no_white)));
      }
    where
      no_signs : (tail rest : List ℕ) → list_all is_white tail ≡ true → run 35 rest ≡ 0 → run 35 (tail ++ rest) ≡ 0
      no_signs [] rest h none = none
      no_signs (c ∷ cs) rest h none =
          ap (λ (b : Bool). if b then 1 + run 35 (cs ++ rest) else 0) (white_no_sign c (and_parts (is_white c) (list_all is_white cs) h).0)

  module _ (codes : List ℕ) (j0 : ℕ) (mid : Point) where
    abbrev h0 : Heading
    h0 = knows None None None

    abbrev content : List ℕ
    content = without_closing (trim (line_of codes))

    module _ (read rest : List ℕ) (end : Point) (events : List Event) (h : Heading) (is : codes ≡ read ++ rest) (inner : list_all is_inner read ≡ true)
        (done : LineOver rest) (sees : Sees text end rest) where
      line_is : line_of codes ≡ read
      line_is = ap line_of is ∙ line_on read rest inner done.line

      -- the text of a heading, by its parts
      finished : (lead body gap signs tail : List ℕ) (from to close past : Point) (own : List Event) → list_all is_white lead ≡ true
          → indent (body ++ (gap ++ (signs ++ (tail ++ rest)))) ≡ 0 → content ≡ body → codes ≡ lead ++ (body ++ (gap ++ (signs ++ (tail ++ rest))))
          → list_all is_white gap ≡ true → list_all is_sign signs ≡ true → list_all is_white tail ≡ true → indent (signs ++ (tail ++ rest)) ≡ 0
          → Sees text from (body ++ (gap ++ (signs ++ (tail ++ rest)))) → Sees text to (gap ++ (signs ++ (tail ++ rest)))
          → Sees text close (signs ++ (tail ++ rest)) → Sees text past (tail ++ rest)
          → events ≡ white_at text lead mid from
          ++ (own ++ (white_at text gap to close ++ (signs_if (is_filled signs) (text.start close) (text.start past) ++ white_at text tail past end)))
          → (is_filled body ≡ false → own ≡ [])
          → (Known content j0 (white_at text lead mid from) text from to own h ⊎ Unknown content h) → Final text content codes j0 mid events end h
      finished lead body gap signs tail from to close past own white none content_is codes_are gap_white all tail_white no_white sees_from sees_to sees_close
          sees_past events_are empty knowing =
          let after = gap ++ (signs ++ (tail ++ rest)) in
          let bare_codes : bare codes ≡ body ++ after = ap bare codes_are ∙ bare_is lead (body ++ after) white none in
          let space : white_events codes (text.start mid) (text.start from) ≡ white_at text lead mid from =
          ap (λ (l : List ℕ). white_events l (text.start mid) (text.start from)) codes_are ∙ white_is lead (body ++ after) mid from white none in
          let dropped : drop (length content) (bare codes) ≡ after = ap₂ (λ (l m : List ℕ). drop (length l) m) content_is bare_codes ∙ drop_over body after in
          record {
            from = from;
            to = to;
            own = own;
            closing = white_at text gap to close ++ (signs_if (is_filled signs) (text.start close) (text.start past) ++ white_at text tail past end);
            parts = events_are ∙ ap (λ (l : List Event). l
                ++ (own ++ (white_at text gap to close ++ (signs_if (is_filled signs) (text.start close) (text.start past) ++ white_at text tail past end))))
                (sym space);
            sees_from = subst (λ (l : List ℕ). Sees text from l) (sym bare_codes) sees_from;
            is = ap₂ (λ (l m : List ℕ). take (length l) m) content_is bare_codes ∙ (take_over body after ∙ sym content_is);
            sees_to = subst (λ (l : List ℕ). Sees text to l) (sym dropped) sees_to;
            none = λ e. empty (sym (ap is_filled content_is) ∙ e);
            closes = subst (λ (l : List ℕ). ClosingEvents text l to
                (white_at text gap to close ++ (signs_if (is_filled signs) (text.start close) (text.start past) ++ white_at text tail past end)) end) (sym dropped)
                (closing_is gap signs tail rest to close past end done gap_white all tail_white no_white sees_close sees_past);
            knowing = subst (λ (l : List Event). Known content j0 l text from to own h ⊎ Unknown content h) (sym space) knowing;
          }

      blank_end : Blank text j0 mid read rest end events h → Final text content codes j0 mid events end h
      blank_end b =
          let content_is : content ≡ [] = ap (λ (l : List ℕ). without_closing (trim l)) (line_is ∙ sym (append-nil read))
          ∙ ap without_closing (trim_is read [] [] b.spaced.white refl refl refl) in
          finished read [] [] [] [] end end end end [] b.spaced.white done.no_white content_is is refl refl refl done.no_white sees sees sees sees
          (b.events_are ∙ sym (append-nil (white_at text read mid end))) (λ e. refl) (inr (record { first = None; closing = None; empty = content_is; is = b.known }))

      worded_end : Worded text j0 mid read rest end events h → Final text content codes j0 mid events end h
      worded_end b =
          let content_is : content ≡ b.body = ap (λ (l : List ℕ). without_closing (trim l)) (line_is ∙ b.is)
          ∙ (ap without_closing (trim_is b.lead b.body b.tail b.white (black_indent b.body b.tail b.black) (word_suffix b.body b.word) b.spaced.white)
          ∙ word_keeps b.body b.word) in
          finished b.lead b.body b.tail [] [] b.from b.to end end b.own b.white (black_indent b.body (b.tail ++ rest) b.black) content_is
          (is ∙ (ap (λ (l : List ℕ). l ++ rest) b.is ∙ join_two b.lead b.body b.tail rest)) b.spaced.white refl refl done.no_white b.sees_from b.sees_to sees sees
          (b.events_are ∙ ap (λ (l : List Event). white_at text b.lead mid b.from ++ (b.own ++ l)) (sym (append-nil (white_at text b.tail b.to end))))
          (λ e. absurd (let f : true ≡ false = sym (black_filled b.body b.black) ∙ e in cc))
          (inl (record {
            a = j0 + length (white_at text b.lead mid b.from);
            l = b.l;
            closing = None;
            filled = ap is_filled content_is ∙ black_filled b.body b.black;
            first = refl;
            last = b.last;
            bounded = b.bounded;
            is = b.known;
          }))

      closed_end : Closed text j0 mid read rest end events h → Final text content codes j0 mid events end h
      closed_end b =
          let signs_are = signs_if_is text b.signs b.close b.past b.some in
          let content_is : content ≡ b.body = ap (λ (l : List ℕ). without_closing (trim l)) (line_is ∙ b.is)
          ∙ (ap without_closing (trim_is b.lead (b.body ++ (b.gap ++ b.signs)) b.tail b.white (black_indent (b.body ++ (b.gap ++ b.signs)) b.tail b.black)
          (closed_suffix b.body b.gap b.signs b.some b.all) b.spaced.white)
          ∙ (ap without_closing (sym (append_assoc b.body b.gap b.signs)) ∙ signs_close (b.body ++ b.gap) b.signs b.body b.apart b.all b.trims)) in
          finished b.lead b.body b.gap b.signs b.tail b.from b.to b.close b.past b.own b.white
          (ap indent (join_rest b.body b.gap b.signs (b.tail ++ rest)) ∙ black_indent (b.body ++ (b.gap ++ b.signs)) (b.tail ++ rest) b.black) content_is
          (is ∙ (ap (λ (l : List ℕ). l ++ rest) b.is ∙ join_four b.lead b.body b.gap b.signs b.tail rest)) b.gap_white b.all b.spaced.white
          (signs_indent b.signs (b.tail ++ rest) b.some b.all) b.sees_from b.sees_to b.sees_close b.sees_past
          (b.events_are ∙ (join_parts (white_at text b.lead mid b.from) b.own (white_at text b.gap b.to b.close)
          (part_events Signs (text.start b.close) (text.start b.past)) (white_at text b.tail b.past end)
          ∙ ap (λ (l : List Event). white_at text b.lead mid b.from
          ++ (b.own ++ (white_at text b.gap b.to b.close ++ (l ++ white_at text b.tail b.past end)))) (sym signs_are)))
          (by_own b.text_is) (by_text b.lead content_is b.known b.text_is)
        where
          by_own : {a : ℕ} {body : List ℕ} {from to : Point} {own : List Event} {last : Option ℕ} → Own text j0 mid a body from to own last
              → is_filled body ≡ false → own ≡ []
          by_own no_text e = refl
          by_own {body = body} (some_text black bounded last) e = absurd (let f : true ≡ false = sym (black_filled body black) ∙ e in cc)

          by_text : (lead : List ℕ) {body : List ℕ} {from to : Point} {own : List Event} {last : Option ℕ} {z : ℕ} → content ≡ body
              → h ≡ knows (Some (j0 + length (white_at text lead mid from))) last (Some z)
              → Own text j0 mid (j0 + length (white_at text lead mid from)) body from to own last
              → Known content j0 (white_at text lead mid from) text from to own h ⊎ Unknown content h
          by_text lead {from = from} {z = z} content_is known no_text =
              inr (record { first = Some (j0 + length (white_at text lead mid from)); closing = Some z; empty = content_is; is = known })
          by_text lead {body} {from = from} {z = z} content_is known (some_text {l = l} black bounded last) = inl (record {
            a = j0 + length (white_at text lead mid from);
            l = l;
            closing = Some z;
            filled = ap is_filled content_is ∙ black_filled body black;
            first = refl;
            last = last;
            bounded = bounded;
            is = known;
          })

      shape_end : Shape text j0 mid read rest end events h → Final text content codes j0 mid events end h
      shape_end (blank b) = blank_end b
      shape_end (worded b) = worded_end b
      shape_end (closed b) = closed_end b

    -- what the rest of the line comes to
    abbrev Going : Point → List Event → Point → Type 0
    Going p more end = (read rest : List ℕ) (events : List Event) → codes ≡ read ++ rest → list_all is_inner read ≡ true → Sees text p rest
        → Shape text j0 mid read rest p events (seen_after h0 j0 events) → Final text content codes j0 mid (events ++ more) end (seen_after h0 j0 (events ++ more))

    -- the rest of the line
    finish : {p end : Point} {more : List Event} → HeadingParts text p more end → (read rest : List ℕ) (events : List Event) → codes ≡ read ++ rest
        → list_all is_inner read ≡ true → Sees text p rest → Shape text j0 mid read rest p events (seen_after h0 j0 events)
        → Final text content codes j0 mid (events ++ more) end (seen_after h0 j0 (events ++ more))
    finish {p} (over ends) read rest events is inner sees shape =
        subst (λ (l : List Event). Final text content codes j0 mid l p (seen_after h0 j0 l)) (sym (append-nil events))
        (shape_end read rest p events (seen_after h0 j0 events) is inner (line_over text p rest ends sees) sees shape)
    finish {p} {end} (further {b = b} {n = n} {q = q} {r = r} {events = more} e not_feed stretch parts) read rest events is inner sees shape =
        let go : Going r more end = λ read2 rest2 events2 is2 inner2 sees2 shape2. finish parts read2 rest2 events2 is2 inner2 sees2 shape2 in
        elim (cases_Bool (is_space_or_tab b)) [
          | inl white ↦
              let kind : part_of b ≡ White = ap (λ (w : Bool). if w then White else (if b == 35 then Signs else Words)) white in
              let st = subst (λ (k : HeadingPart). Stretch text (goes_on_with k) n q r) kind stretch in
              let whole = part_seen text is_space_or_tab refl refl rest sees in
              let part = resort (λ c. is_space_or_tab (text_byte c)) is_white seen_white
              (of_split text is_space_or_tab rest e white st sees whole.stretch whole.sees) in
              on go White kind part.first part.more part.rest part.is (all_inner is_white white_inner (part.first ∷ part.more) part.all) part.sees
              (by_white part shape)
          | inr dark ↦ elim (cases_Bool (b == 35)) [
            | inl sign ↦
                let kind : part_of b ≡ Signs = ap (λ (w : Bool). if w then White else (if b == 35 then Signs else Words)) dark
                ∙ ap (λ (w : Bool). if w then Signs else Words) sign in
                let st = subst (λ (k : HeadingPart). Stretch text (goes_on_with k) n q r) kind stretch in
                let whole = some_seen text is_sign refl rest sees in
                let part = resort (λ c. is_sign (text_byte c)) is_sign (seen_as_itself 35 refl refl)
                (of_split text is_sign rest e sign st sees whole.stretch whole.sees) in
                on go Signs kind part.first part.more part.rest part.is (all_inner is_sign (λ c h. not_eol 35 c refl h) (part.first ∷ part.more) part.all) part.sees
                (by_signs part shape)
            | inr other ↦
                let kind : part_of b ≡ Words = ap (λ (w : Bool). if w then White else (if b == 35 then Signs else Words)) dark
                ∙ ap (λ (w : Bool). if w then Signs else Words) other in
                let st = subst (λ (k : HeadingPart). Stretch text (goes_on_with k) n q r) kind stretch in
                let whole = some_seen text (goes_on_with Words) refl rest sees in
                let is_it : goes_on_with Words b ≡ true = ap (λ (w : Bool). not (w || (b == 10))) dark ∙ ap not not_feed in
                let seen_part = of_split text (goes_on_with Words) rest e is_it st sees whole.stretch whole.sees in
                let part = resort (λ c. goes_on_with Words (text_byte c)) is_word word_seen seen_part in
                let one = first_of text (goes_on_with Words) rest e sees in
                let same : part.first ≡ one.code = (let l : (part.first ∷ part.more) ++ part.rest ≡ one.code ∷ one.more = sym part.is ∙ one.begins in cc) in
                on go Words kind part.first part.more part.rest part.is (all_inner is_word (λ c h. (word_not c h).1) (part.first ∷ part.more) part.all) part.sees
                (by_words part (sym (seen_as_itself 35 refl refl part.first) ∙ (ap (λ (c : ℕ). text_byte c == 35) same ∙ (ap is_sign one.byte ∙ other))) shape)
          ]
        ]
      where
        by_white : (part : PartOf text is_white rest r) → Shape text j0 mid read rest p events (seen_after h0 j0 events)
            → Shape text j0 mid (read ++ (part.first ∷ part.more)) part.rest r (events ++ part_events White (text.start p) (text.start r))
            (seen_after (seen_after h0 j0 events) (j0 + length events) (part_events White (text.start p) (text.start r)))
        by_white part (blank b) = blank_white text j0 mid read rest p r events (seen_after h0 j0 events) part b
        by_white part (worded b) = worded_white text j0 mid read rest p r events (seen_after h0 j0 events) part b
        by_white part (closed b) = closed_white text j0 mid read rest p r events (seen_after h0 j0 events) part b

        by_signs : (part : PartOf text is_sign rest r) → Shape text j0 mid read rest p events (seen_after h0 j0 events)
            → Shape text j0 mid (read ++ (part.first ∷ part.more)) part.rest r (events ++ part_events Signs (text.start p) (text.start r))
            (seen_after (seen_after h0 j0 events) (j0 + length events) (part_events Signs (text.start p) (text.start r)))
        by_signs part (blank b) = blank_signs text j0 mid read rest p r events (seen_after h0 j0 events) sees part b
        by_signs part (worded b) = worded_signs text j0 mid read rest p r events (seen_after h0 j0 events) sees part b
        by_signs part (closed b) = closed_signs text j0 mid read rest p r events (seen_after h0 j0 events) sees part b

        by_words : (part : PartOf text is_word rest r) → is_sign part.first ≡ false → Shape text j0 mid read rest p events (seen_after h0 j0 events)
            → Shape text j0 mid (read ++ (part.first ∷ part.more)) part.rest r (events ++ part_events Words (text.start p) (text.start r))
            (seen_after (seen_after h0 j0 events) (j0 + length events) (part_events Words (text.start p) (text.start r)))
        by_words part no_sign (blank b) = blank_words text j0 mid read rest p r events (seen_after h0 j0 events) sees part no_sign b
        by_words part no_sign (worded b) = worded_words text j0 mid read rest p r events (seen_after h0 j0 events) sees part no_sign b
        by_words part no_sign (closed b) = closed_words text j0 mid read rest p r events (seen_after h0 j0 events) sees part no_sign b

        on : Going r more end → (kind : HeadingPart) → part_of b ≡ kind → (first : ℕ) (others left : List ℕ) → rest ≡ (first ∷ others) ++ left
            → list_all is_inner (first ∷ others) ≡ true → Sees text r left
            → Shape text j0 mid (read ++ (first ∷ others)) left r (events ++ part_events kind (text.start p) (text.start r))
            (seen_after (seen_after h0 j0 events) (j0 + length events) (part_events kind (text.start p) (text.start r)))
            → Final text content codes j0 mid (events ++ (part_events (part_of b) (text.start p) (text.start r) ++ more)) end
            (seen_after h0 j0 (events ++ (part_events (part_of b) (text.start p) (text.start r) ++ more)))
        on go kind kind_is first others left rest_is all sees_left shape =
            subst (λ (k : HeadingPart). Final text content codes j0 mid (events ++ (part_events k (text.start p) (text.start r) ++ more)) end
            (seen_after h0 j0 (events ++ (part_events k (text.start p) (text.start r) ++ more)))) (sym kind_is)
            (subst (λ (l : List Event). Final text content codes j0 mid l end (seen_after h0 j0 l))
            (append_assoc events (part_events kind (text.start p) (text.start r)) more)
            (go (read ++ (first ∷ others)) left (events ++ part_events kind (text.start p) (text.start r))
            (is ∙ (ap (λ (l : List ℕ). read ++ l) rest_is ∙ sym (append_assoc read (first ∷ others) left))) (all_both is_inner read (first ∷ others) inner all) sees_left
            (subst (λ (k : Heading). Shape text j0 mid (read ++ (first ∷ others)) left r (events ++ part_events kind (text.start p) (text.start r)) k)
            (sym (seen_both h0 j0 events (part_events kind (text.start p) (text.start r)))) shape)))

    -- from the end of the opening sequence
    pub text_parts : {end : Point} {inside : List Event} → HeadingParts text mid inside end → Sees text mid codes
        → Final text content codes j0 mid inside end (seen_after h0 j0 inside)
    text_parts parts sees = finish parts [] codes [] refl refl sees (blank (record { spaced = no_space codes mid; events_are = refl; known = refl }))
