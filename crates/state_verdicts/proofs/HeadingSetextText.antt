-- The edits of an underline make a heading of the paragraph before it.
use Rattle.std.proofs.Common.{◌≡◌, ◌∙◌, ℕ, suc, ◌+◌, ◌^◌, ◌<◌, Bool, true, false, not, ◌&&◌, nat_lt, if◌then◌else◌, List, [], ◌∷◌, ◌++◌, length}
use Rattle.std.proofs.Common.{Option, Some, None, refl, ap, ap₂, arith, append_assoc, length-append}
use Rattle.std.proofs.lemmas.Bool.{and_parts}
use Rattle.std.specs.List.{list_all}
use Rattle.definition_text.specs.Columns.{indent}
use Rattle.engine_edits.specs.Edits.{EditAt}
use Rattle.engine_events.specs.Events.{event}
use Rattle.engine_events.specs.declared.event.Event.{Event}
use Rattle.engine_events.specs.declared.event.Kind.TheVariants.{Enter, Exit}
use Rattle.engine_events.specs.declared.event.Name.TheVariants as names
use Rattle.engine_events.specs.declared.place.Point.{Point}
use Rattle.state_edits_blocks.specs.HeadingSetext.{after_event, after_if, heading_edit, last, nothing as no_paragraph, setext_edits}
use Rattle.state_edits_data.specs.Each.{is_bound, is_event, later, place_at, place_of}
use Rattle.state_verdicts.specs.HeadingSetext.{underline_events}
use Rattle.state_verdicts.specs.HeadingSetextText.{HeadingSetextTextVerdict, heading_edits, paragraph_events, stays_apart}
use Rattle.state_verdicts.specs.WhiteSpace.{white_events, white_if}
use Rattle.state_verdicts.proofs.EventWalks.{TypeOf, event_at, past_one, size_one}
use Rattle.state_verdicts.proofs.Markers.{flop}

-- what the resolver knows of a paragraph
abbrev Paragraph : Type 0
Paragraph = TypeOf no_paragraph

abbrev stands : ℕ → ℕ → Paragraph
stands enter exit = record { enter = Some enter; exit = Some exit }

-- an event that is none of them leaves the paragraph
record Apart (e : Event) : Type 0 where
  pub enter : is_event Enter names.Paragraph e ≡ false
  pub exit : is_event Exit names.Paragraph e ≡ false
  pub underline : is_event Exit names.HeadingSetextUnderline e ≡ false

apart : (e : Event) → stays_apart e ≡ true → Apart e
apart e h =
    let one = and_parts (not (is_event Enter names.Paragraph e)) (not (is_event Exit names.Paragraph e) && not (is_event Exit names.HeadingSetextUnderline e)) h in
    let two = and_parts (not (is_event Exit names.Paragraph e)) (not (is_event Exit names.HeadingSetextUnderline e)) one.1 in record {
      enter = flop (is_event Enter names.Paragraph e) one.0;
      exit = flop (is_event Exit names.Paragraph e) two.0;
      underline = flop (is_event Exit names.HeadingSetextUnderline e) two.1;
    }

leaves : (p : Paragraph) (e : Event) (i : ℕ) → Apart e → after_event p e i ≡ p
leaves p e i h = rw (h.enter, h.exit, h.underline) refl

module _ (all : List Event) where
  last_one : (before after : List Event) (e : Event) → all ≡ before ++ (e ∷ after)
      → last all (suc (length before)) ≡ after_event (last all (length before)) e (length before)
  unfolding last
  last_one before after e is = ap (after_if (last all (length before)) (length before)) (event_at all before after e (length before) is refl)

  edits_one : (before after : List Event) (e : Event) → all ≡ before ++ (e ∷ after) → setext_edits all (suc (length before))
      ≡ (if is_event Exit names.HeadingSetextUnderline e then heading_edit all (last all (length before)) (length before) (setext_edits all (length before))
      else setext_edits all (length before))
  unfolding setext_edits
  edits_one before after e is =
      ap (λ (o : Option Event). if is_bound Exit names.HeadingSetextUnderline o
      then heading_edit all (last all (length before)) (length before) (setext_edits all (length before)) else setext_edits all (length before))
      (event_at all before after e (length before) is refl)

  -- over events that are none of them
  record Over (es before : List Event) : Type 0 where
    pub last_is : last all (length before + length es) ≡ last all (length before)
    pub edits_are : setext_edits all (length before + length es) ≡ setext_edits all (length before)

  over : (es before after : List Event) → all ≡ before ++ (es ++ after) → list_all stays_apart es ≡ true → Over es before
  over [] before after is h = let e : length before + 0 ≡ length before = omega arith in record { last_is = ap (last all) e; edits_are = ap (setext_edits all) e }
  over (e ∷ es) before after is h =
      let parts = and_parts (stays_apart e) (list_all stays_apart es) h in
      let a = apart e parts.0 in
      let size = size_one before e in
      let f = over es (before ++ e ∷ []) after (is ∙ past_one before (es ++ after) e) parts.1 in
      let i : length before + suc (length es) ≡ length (before ++ e ∷ []) + length es = omega (arith, size) in record {
        last_is = ap (last all) i ∙ (f.last_is ∙ (ap (last all) size
            ∙ (last_one before (es ++ after) e is ∙ leaves (last all (length before)) e (length before) a)));
        edits_are = ap (setext_edits all) i ∙ (f.edits_are ∙ (ap (setext_edits all) size ∙ (edits_one before (es ++ after) e is
            ∙ ap (λ (b : Bool). if b then heading_edit all (last all (length before)) (length before) (setext_edits all (length before))
            else setext_edits all (length before)) a.underline)));
      }

module _ (before inside between after : List Event) (from to p mid end : Point) (rest : List ℕ) (inside_apart : list_all stays_apart inside ≡ true)
    (between_apart : list_all stays_apart between ≡ true) where
  abbrev all : List Event
  all = before ++ (paragraph_events from inside to ++ (between ++ (underline_events rest p mid end ++ after)))

  abbrev i : ℕ
  i = length before

  abbrev enter : Event
  enter = event Enter names.Paragraph from None

  abbrev exit : Event
  exit = event Exit names.Paragraph to None

  abbrev under : Event
  under = event Exit names.HeadingSetextUnderline end None

  -- the events of the underline but its end
  abbrev line : List Event
  line = event Enter names.HeadingSetextUnderline p None ∷ event Enter names.HeadingSetextUnderlineSequence p None
      ∷ event Exit names.HeadingSetextUnderlineSequence mid None ∷ white_events rest mid end

  line_apart : (b : Bool) → list_all stays_apart (event Enter names.HeadingSetextUnderline p None ∷ event Enter names.HeadingSetextUnderlineSequence p None
      ∷ event Exit names.HeadingSetextUnderlineSequence mid None ∷ white_if b mid end) ≡ true
  line_apart true = refl
  line_apart false = refl

  -- the lists before each event that counts
  abbrev one : List Event
  one = before ++ enter ∷ []

  abbrev two : List Event
  two = one ++ inside

  abbrev three : List Event
  three = two ++ exit ∷ []

  abbrev four : List Event
  four = three ++ between

  abbrev five : List Event
  five = four ++ line

  cut_under : all ≡ five ++ (under ∷ after)
  cut_under = cut before enter inside exit between (event Enter names.HeadingSetextUnderline p None) (event Enter names.HeadingSetextUnderlineSequence p None)
      (event Exit names.HeadingSetextUnderlineSequence mid None) (white_events rest mid end) under after
    where
      cut : (a : List Event) (b : Event) (c : List Event) (d : Event) (e : List Event) (x y z : Event) (w : List Event) (u : Event) (v : List Event)
          → a ++ ((b ∷ (c ++ d ∷ [])) ++ (e ++ ((x ∷ y ∷ z ∷ (w ++ u ∷ [])) ++ v)))
          ≡ ((((a ++ b ∷ []) ++ c) ++ d ∷ []) ++ e) ++ (x ∷ y ∷ z ∷ w) ++ (u ∷ v)
      cut a b c d e x y z w u v = simp append_assoc refl

  cut_line : all ≡ four ++ (line ++ (under ∷ after))
  cut_line = cut_under ∙ append_assoc four line (under ∷ after)

  cut_between : all ≡ three ++ (between ++ (line ++ (under ∷ after)))
  cut_between = cut_line ∙ append_assoc three between (line ++ (under ∷ after))

  cut_exit : all ≡ two ++ (exit ∷ (between ++ (line ++ (under ∷ after))))
  cut_exit = cut_between ∙ append_assoc two (exit ∷ []) (between ++ (line ++ (under ∷ after)))

  cut_inside : all ≡ one ++ (inside ++ (exit ∷ (between ++ (line ++ (under ∷ after)))))
  cut_inside = cut_exit ∙ append_assoc one inside (exit ∷ (between ++ (line ++ (under ∷ after))))

  cut_enter : all ≡ before ++ (enter ∷ (inside ++ (exit ∷ (between ++ (line ++ (under ∷ after))))))
  cut_enter = cut_inside ∙ append_assoc before (enter ∷ []) (inside ++ (exit ∷ (between ++ (line ++ (under ∷ after)))))

  in_one : length one ≡ suc i
  in_one = size_one before enter

  in_two : length two ≡ suc i + length inside
  in_two = length-append one inside ∙ ap (λ (n : ℕ). n + length inside) in_one

  in_three : length three ≡ suc (length two)
  in_three = size_one two exit

  last_two : last all (length two) ≡ record { enter = Some i; exit = None }
  last_two =
      ap (last all) (length-append one inside) ∙ ((over all inside one (exit ∷ (between ++ (line ++ (under ∷ after)))) cut_inside inside_apart).last_is
      ∙ (ap (last all) in_one ∙ last_one all before (inside ++ (exit ∷ (between ++ (line ++ (under ∷ after))))) enter cut_enter))

  last_three : last all (length three) ≡ stands i (length two)
  last_three =
      ap (last all) in_three ∙ (last_one all two (between ++ (line ++ (under ∷ after))) exit cut_exit
      ∙ ap (λ (q : Paragraph). after_event q exit (length two)) last_two)

  last_five : last all (length five) ≡ stands i (length two)
  last_five =
      ap (last all) (length-append four line) ∙ ((over all line four (under ∷ after) cut_line (line_apart (nat_lt 0 (indent rest)))).last_is
      ∙ (ap (last all) (length-append three between)
      ∙ ((over all between three (line ++ (under ∷ after)) cut_between between_apart).last_is ∙ last_three)))

  edits_five : setext_edits all (length five) ≡ setext_edits all i
  edits_five =
      ap (setext_edits all) (length-append four line) ∙ ((over all line four (under ∷ after) cut_line (line_apart (nat_lt 0 (indent rest)))).edits_are
      ∙ (ap (setext_edits all) (length-append three between)
      ∙ ((over all between three (line ++ (under ∷ after)) cut_between between_apart).edits_are
      ∙ (ap (setext_edits all) in_three ∙ (edits_one all two (between ++ (line ++ (under ∷ after))) exit cut_exit
      ∙ (ap (setext_edits all) (length-append one inside)
      ∙ ((over all inside one (exit ∷ (between ++ (line ++ (under ∷ after)))) cut_inside inside_apart).edits_are
      ∙ (ap (setext_edits all) in_one ∙ edits_one all before (inside ++ (exit ∷ (between ++ (line ++ (under ∷ after))))) enter cut_enter))))))))

  from_is : place_at all i ≡ from
  from_is = ap place_of (event_at all before (inside ++ (exit ∷ (between ++ (line ++ (under ∷ after))))) enter i cut_enter refl)

  to_is : place_at all (length two) ≡ to
  to_is = ap place_of (event_at all two (between ++ (line ++ (under ∷ after))) exit (length two) cut_exit refl)

  end_is : place_at all (length five) ≡ end
  end_is = ap place_of (event_at all five after under (length five) cut_under refl)

  abbrev count : ℕ
  count = i + (2 + length inside + length between + length (underline_events rest p mid end))

  count_is : count ≡ suc (length five)
  count_is =
      let white = length-append (white_events rest mid end) (under ∷ []) in
      let a = length-append four line in
      let b = length-append three between in
      let c = in_three in
      let d = in_two in omega (arith, white, a, b, c, d)

  made : length all < 2 ^ 64 → setext_edits all count ≡ heading_edits i (i + 1 + length inside) count from to end (setext_edits all i)
  made few =
      let size = count_is in
      let whole = ap length cut_under ∙ length-append five (under ∷ after) in
      let next : later 1 (length five) ≡ count = omega (arith, size, whole, few) in
      let at_exit : length two ≡ i + 1 + length inside = let d = in_two in omega (arith, d) in
      ap (setext_edits all) size ∙ (edits_one all five after under cut_under
      ∙ (ap₂ (λ (q : Paragraph) (edits : List EditAt). heading_edit all q (length five) edits) last_five edits_five
      ∙ (ap (λ (n : ℕ). heading_edits i (length two) n (place_at all i) (place_at all (length two)) (place_at all (length five)) (setext_edits all i)) next
      ∙ (ap (λ (q : Point). heading_edits i (length two) count q (place_at all (length two)) (place_at all (length five)) (setext_edits all i)) from_is
      ∙ (ap (λ (q : Point). heading_edits i (length two) count from q (place_at all (length five)) (setext_edits all i)) to_is
      ∙ (ap (λ (q : Point). heading_edits i (length two) count from to q (setext_edits all i)) end_is
      ∙ ap (λ (n : ℕ). heading_edits i n count from to end (setext_edits all i)) at_exit))))))

pub heading_setext_text_verdict : HeadingSetextTextVerdict
heading_setext_text_verdict before inside between after from to p mid end rest inside_apart between_apart few =
    made before inside between after from to p mid end rest inside_apart between_apart few
