-- The edit of a heading makes a text of what the definition has as its content.
use Rattle.std.proofs.Common.{◌≡◌, ◌∙◌, ℕ, suc, ◌+◌, ◌-◌, ◌^◌, ◌<◌, Bool, true, false, not, if◌then◌else◌, List, [], ◌∷◌, ◌++◌, length, drop}
use Rattle.std.proofs.Common.{Option, Some, None, inl, inr, refl, sym, ap, ap₂, subst, arith, append_assoc, length-append}
use Rattle.std.proofs.lemmas.Bool.{and_parts, eqb-true}
use Rattle.std.specs.List.{list_all}
use Rattle.definition_block.specs.HeadingAtx.{without_closing}
use Rattle.definition_text.specs.Columns.{trim}
use Rattle.definition_text.specs.Content.{is_eol}
use Rattle.definition_text.specs.Runs.{after_run, run}
use Rattle.engine_edits.specs.Edits.{EditAt, with_edit}
use Rattle.engine_events.specs.Events.{event}
use Rattle.engine_events.specs.declared.event.Event.{Event}
use Rattle.engine_events.specs.declared.event.Kind.TheVariants.{Enter, Exit}
use Rattle.engine_events.specs.declared.event.Name.TheVariants as names
use Rattle.engine_events.specs.declared.place.Point.{Point}
use Rattle.markdown_engine.specs.VirtualText.{Text}
use Rattle.state_edits_blocks.specs.HeadingAtx.{atx_edits, known, seen_if, text_edit, text_events}
use Rattle.state_edits_data.specs.Each.{is_bound, is_event, later, place_at, place_of}
use Rattle.state_verdicts.specs.HeadingAtx.{HeadingPart, HeadingParts, Signs, White, Words, further, over, part_events, part_of}
use Rattle.state_verdicts.specs.HeadingAtxText.{HeadingAtxTextVerdict, TextEdit, edit_if, heading_events}
use Rattle.state_verdicts.specs.Lines.{is_filled, line_of}
use Rattle.state_verdicts.specs.WhiteSpace.{white_events}
use Rattle.state_verdicts.proofs.EventWalks.{event_at, past_one, size_one}
use Rattle.state_verdicts.proofs.HeadingAtxContent.{heading_is, is_sign}
use Rattle.state_verdicts.proofs.HeadingAtxParts.{Final, Known, Unknown, text_parts}
use Rattle.state_verdicts.proofs.HeadingAtxShape.{Heading, knows, seen_after}
use Rattle.state_verdicts.proofs.LineCodes.{line_rest, prefix_line}
use Rattle.state_verdicts.proofs.Markers.{flop}

-- an event that ends no heading
abbrev stays_open : Event → Bool
stays_open e = not (is_event Exit names.HeadingAtx e)

open_part : (kind : HeadingPart) (p q : Point) (events : List Event) → list_all stays_open events ≡ true
    → list_all stays_open (part_events kind p q ++ events) ≡ true
open_part White p q events h = h
open_part Signs p q events h = h
open_part Words p q events h = h

open_parts : {text : Text} {p end : Point} {events : List Event} → HeadingParts text p events end → list_all stays_open events ≡ true
open_parts (over ends) = refl
open_parts {text} (further {b = b} {p = p} {r = r} {events = events} e inner stretch parts) =
    open_part (part_of b) (text.start p) (text.start r) events (open_parts parts)

-- ---- one event after another

module _ (all : List Event) where
  known_one : (before after : List Event) (e : Event) → all ≡ before ++ (e ∷ after)
      → known all (suc (length before)) ≡ seen_if (known all (length before)) (length before) (Some e)
  unfolding known
  known_one before after e is = ap (seen_if (known all (length before)) (length before)) (event_at all before after e (length before) is refl)

  edits_one : (before after : List Event) (e : Event) → all ≡ before ++ (e ∷ after) → atx_edits all (suc (length before))
      ≡ (if is_event Exit names.HeadingAtx e then text_edit all (known all (length before)) (atx_edits all (length before))
      else atx_edits all (length before))
  unfolding atx_edits
  edits_one before after e is =
      ap (λ (o : Option Event). if is_bound Exit names.HeadingAtx o then text_edit all (known all (length before)) (atx_edits all (length before))
      else atx_edits all (length before)) (event_at all before after e (length before) is refl)

  known_over : (es before after : List Event) → all ≡ before ++ (es ++ after)
      → known all (length before + length es) ≡ seen_after (known all (length before)) (length before) es
  known_over [] before after is = ap (known all) (let e : length before + 0 ≡ length before = omega arith in e)
  known_over (e ∷ es) before after is =
      let size = size_one before e in
      ap (known all) (let i : length before + suc (length es) ≡ length (before ++ e ∷ []) + length es = omega (arith, size) in i)
      ∙ (known_over es (before ++ e ∷ []) after (is ∙ past_one before (es ++ after) e)
      ∙ (ap (λ (i : ℕ). seen_after (known all i) i es) size
      ∙ ap (λ (h : Heading). seen_after h (suc (length before)) es) (known_one before (es ++ after) e is)))

  edits_over : (es before after : List Event) → all ≡ before ++ (es ++ after) → list_all stays_open es ≡ true
      → atx_edits all (length before + length es) ≡ atx_edits all (length before)
  edits_over [] before after is opens = ap (atx_edits all) (let e : length before + 0 ≡ length before = omega arith in e)
  edits_over (e ∷ es) before after is opens =
      let size = size_one before e in
      let parts = and_parts (stays_open e) (list_all stays_open es) opens in
      ap (atx_edits all) (let i : length before + suc (length es) ≡ length (before ++ e ∷ []) + length es = omega (arith, size) in i)
      ∙ (edits_over es (before ++ e ∷ []) after (is ∙ past_one before (es ++ after) e) parts.1
      ∙ (ap (atx_edits all) size ∙ (edits_one before (es ++ after) e is
      ∙ ap (λ (b : Bool). if b then text_edit all (known all (length before)) (atx_edits all (length before)) else atx_edits all (length before))
      (flop (is_event Exit names.HeadingAtx e) parts.0))))

-- ---- the edit

module _ (text : Text) (p mid end : Point) (inside before after : List Event) (content codes : List ℕ) (parts : HeadingParts text mid inside end) where
  abbrev exit : Event
  exit = event Exit names.HeadingAtx (text.start end) None

  abbrev opening : List Event
  opening = event Enter names.HeadingAtx p None ∷ event Enter names.HeadingAtxSequence p None ∷ event Exit names.HeadingAtxSequence (text.start mid) None ∷ []

  abbrev all : List Event
  all = before ++ (heading_events p (text.start mid) inside (text.start end) ++ after)

  abbrev i : ℕ
  i = length before

  abbrev h : Heading
  h = seen_after (knows None None None) (i + 3) inside

  -- the events up to the text
  abbrev ahead : List Event
  ahead = before ++ opening

  cut_opening : all ≡ before ++ (opening ++ (inside ++ (exit ∷ after)))
  cut_opening = cut before opening inside (exit ∷ []) after
    where
      cut : (a b c d e : List Event) → a ++ ((b ++ (c ++ d)) ++ e) ≡ a ++ (b ++ (c ++ (d ++ e)))
      cut a b c d e = simp append_assoc refl

  cut_inside : all ≡ ahead ++ (inside ++ (exit ∷ after))
  cut_inside = cut_opening ∙ sym (append_assoc before opening (inside ++ (exit ∷ after)))

  cut_exit : all ≡ (ahead ++ inside) ++ (exit ∷ after)
  cut_exit = cut_inside ∙ sym (append_assoc ahead inside (exit ∷ after))

  ahead_size : length ahead ≡ i + 3
  ahead_size = length-append before opening

  exit_size : length (ahead ++ inside) ≡ i + 3 + length inside
  exit_size = length-append ahead inside ∙ ap (λ (n : ℕ). n + length inside) ahead_size

  known_opening : known all (i + 3) ≡ knows None None None
  known_opening = known_over all opening before (inside ++ (exit ∷ after)) cut_opening

  known_exit : known all (length (ahead ++ inside)) ≡ h
  known_exit =
      ap (known all) (length-append ahead inside) ∙ (known_over all inside ahead (exit ∷ after) cut_inside
      ∙ (ap (λ (n : ℕ). seen_after (known all n) n inside) ahead_size ∙ ap (λ (k : Heading). seen_after k (i + 3) inside) known_opening))

  edits_exit : atx_edits all (length (ahead ++ inside)) ≡ atx_edits all i
  edits_exit =
      ap (atx_edits all) (length-append ahead inside) ∙ (edits_over all inside ahead (exit ∷ after) cut_inside (open_parts parts)
      ∙ (ap (atx_edits all) ahead_size ∙ edits_over all opening before (inside ++ (exit ∷ after)) cut_opening refl))

  edits_are : atx_edits all (i + (4 + length inside)) ≡ text_edit all h (atx_edits all i)
  edits_are =
      ap (atx_edits all) (let size = exit_size in let e : i + (4 + length inside) ≡ suc (length (ahead ++ inside)) = omega (arith, size) in e)
      ∙ (edits_one all (ahead ++ inside) after exit cut_exit ∙ ap₂ (λ (k : Heading) (edits : List EditAt). text_edit all k edits) known_exit edits_exit)

  module _ (f : Final text content codes (i + 3) mid inside end h) (few : length all < 2 ^ 64) where
    abbrev lead : List Event
    lead = white_events codes (text.start mid) (text.start f.from)

    -- the edit of a text
    module _ (k : Known content (i + 3) lead text f.from f.to f.own h) where
      from_is : place_at all k.a ≡ text.start f.from
      from_is =
          let size = length-append ahead lead in
          let there = ahead_size in
          let first = k.first in
          ap place_of (event_at all (ahead ++ lead) (k.bounded.more ++ (f.closing ++ (exit ∷ after))) k.bounded.first k.a
          (cut_inside ∙ (ap (λ (l : List Event). ahead ++ (l ++ (exit ∷ after))) (f.parts ∙ ap (λ (l : List Event). lead ++ (l ++ f.closing)) k.bounded.begins)
          ∙ cut ahead lead (k.bounded.first ∷ k.bounded.more) f.closing (exit ∷ after))) (omega (arith, size, there, first))) ∙ k.bounded.first_at
        where
          cut : (a b c d e : List Event) → a ++ ((b ++ (c ++ d)) ++ e) ≡ (a ++ b) ++ (c ++ (d ++ e))
          cut a b c d e = simp append_assoc refl

      to_is : place_at all k.l ≡ text.start f.to
      to_is =
          let size = length-append (ahead ++ lead) k.bounded.before in
          let shorter = length-append ahead lead in
          let there = ahead_size in
          let first = k.first in
          let last = k.last in
          let own = ap length k.bounded.ends ∙ length-append k.bounded.before (k.bounded.last ∷ []) in
          ap place_of (event_at all ((ahead ++ lead) ++ k.bounded.before) (f.closing ++ (exit ∷ after)) k.bounded.last k.l
          (cut_inside ∙ (ap (λ (l : List Event). ahead ++ (l ++ (exit ∷ after))) (f.parts ∙ ap (λ (l : List Event). lead ++ (l ++ f.closing)) k.bounded.ends)
          ∙ cut ahead lead k.bounded.before (k.bounded.last ∷ []) f.closing (exit ∷ after))) (omega (arith, size, shorter, there, first, last, own)))
          ∙ k.bounded.last_at
        where
          cut : (a b c d e z : List Event) → a ++ ((b ++ ((c ++ d) ++ e)) ++ z) ≡ ((a ++ b) ++ c) ++ (d ++ (e ++ z))
          cut a b c d e z = simp append_assoc refl

      size_is : later 1 k.l - k.a ≡ length f.own
      size_is =
          let own = ap length f.parts ∙ (length-append lead (f.own ++ f.closing) ∙ ap (λ (n : ℕ). length lead + n) (length-append f.own f.closing)) in
          let whole = ap length cut_inside ∙ (length-append ahead (inside ++ (exit ∷ after)) ∙ ap (λ (n : ℕ). length ahead + n)
          (length-append inside (exit ∷ after))) in
          let there = ahead_size in
          let first = k.first in
          let last = k.last in
          let room : k.l + 1 < 2 ^ 64 = omega (arith, own, whole, there, first, last, few) in
          let next : later 1 k.l ≡ k.l + 1 = omega (arith, room) in omega (arith, next, last)

      text_is : text_edit all h (atx_edits all i)
          ≡ edit_if (is_filled content) (i + 3 + length lead) (length f.own) (text.start f.from) (text.start f.to) (atx_edits all i)
      text_is =
          ap (λ (z : Heading). text_edit all z (atx_edits all i)) k.is
          ∙ (ap (λ (n : ℕ). with_edit false k.a n (text_events (place_at all k.a) (place_at all k.l)) (atx_edits all i)) size_is
          ∙ (ap₂ (λ (y z : Point). with_edit false k.a (length f.own) (text_events y z) (atx_edits all i)) from_is to_is
          ∙ (ap (λ (n : ℕ). with_edit false n (length f.own) (text_events (text.start f.from) (text.start f.to)) (atx_edits all i)) k.first
          ∙ ap (λ (b : Bool). edit_if b (i + 3 + length lead) (length f.own) (text.start f.from) (text.start f.to) (atx_edits all i)) (sym k.filled))))

    -- there is none
    none_is : Unknown content h → text_edit all h (atx_edits all i)
        ≡ edit_if (is_filled content) (i + 3 + length lead) (length f.own) (text.start f.from) (text.start f.to) (atx_edits all i)
    none_is u =
        ap (λ (z : Heading). text_edit all z (atx_edits all i)) u.is ∙ (by_first u.first u.closing
        ∙ ap (λ (l : List ℕ). edit_if (is_filled l) (i + 3 + length lead) (length f.own) (text.start f.from) (text.start f.to) (atx_edits all i)) (sym u.empty))
      where
        by_first : (first closing : Option ℕ) → text_edit all (knows first None closing) (atx_edits all i) ≡ atx_edits all i
        by_first None closing = refl
        by_first (Some a) closing = refl

    edit_is : TextEdit text content codes mid inside end all i
    edit_is = record {
      from = f.from;
      to = f.to;
      own = f.own;
      closing = f.closing;
      parts = f.parts;
      sees_from = f.sees_from;
      is = f.is;
      sees_to = f.sees_to;
      none = f.none;
      closes = f.closes;
      edits = edits_are ∙ (elim f.knowing [ inl k ↦ text_is k | inr u ↦ none_is u ]);
    }

pub heading_atx_text_verdict : HeadingAtxTextVerdict
heading_atx_text_verdict text p mid end inside before after heading codes is sees parts few =
    let both = heading_is (line_of codes) heading is in
    let sign_inner : (c : ℕ) → is_sign c ≡ true → is_eol c ≡ false = λ c h. ap is_eol (eqb-true c 35 h) in
    let size : heading.rank ≡ run 35 codes = both.0 ∙ prefix_line is_sign sign_inner codes in
    let line : line_of (drop heading.rank codes) ≡ after_run 35 (line_of codes) =
    ap (λ (n : ℕ). line_of (drop n codes)) size ∙ line_rest is_sign sign_inner codes in
    let content : without_closing (trim (line_of (drop heading.rank codes))) ≡ heading.content =
    ap (λ (l : List ℕ). without_closing (trim l)) line ∙ sym both.1 in
    subst (λ (l : List ℕ). TextEdit text l (drop heading.rank codes) mid inside end
    (before ++ (heading_events p (text.start mid) inside (text.start end) ++ after)) (length before)) content
    (edit_is text p mid end inside before after (without_closing (trim (line_of (drop heading.rank codes)))) (drop heading.rank codes) parts
    (text_parts text (drop heading.rank codes) (length before + 3) mid parts sees) few)
