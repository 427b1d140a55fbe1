-- The states of the starts of labels read what the definition calls one, and nothing else.
use Rattle.std.proofs.Common.{◌≡◌, ◌∙◌, ℕ, Bool, true, false, not, ◌==◌, ◌&&◌, if◌then◌else◌, List, [], ◌∷◌, ◌++◌, drop, Option, Some, None, codes}
use Rattle.std.proofs.Common.{inl, inr, refl, sym, ap, subst, append_assoc}
use Rattle.state_verdicts.proofs.Prelude.{as_byte, at_byte, byte, cases_Bool, Config, Context, eqb-true, event, Event, EventName, feed, has, Inlines}
use Rattle.state_verdicts.proofs.Prelude.{is_feed}
use Rattle.state_verdicts.proofs.Prelude.{Name, nothing, past_byte, plain, Point, run, Sees, tab, Text, text_byte, with_enter, with_exit}
use Rattle.definition_text.specs.Bytes.{begins_with}
use Rattle.engine_events.specs.declared.event.Kind.TheVariants.{Enter, Exit}
use Rattle.engine_events.specs.declared.event.Name.TheVariants as names
use Rattle.engine_programs.specs.Bodies.{Body}
use Rattle.engine_states.specs.declared.label.LabelKind.{LabelKind}
use Rattle.engine_states.specs.declared.label.LabelKind.TheVariants as kinds
use Rattle.engine_states.specs.declared.resolve.Name.{Name as Resolver}
use Rattle.engine_states.specs.declared.resolve.Name.TheVariants as resolvers
use Rattle.engine_states.specs.declared.state.Inline.TheVariants as state_inline
use Rattle.engine_states.specs.declared.state.Name.TheVariants.{Inline}
use Rattle.engine_states.specs.declared.state.State.{State}
use Rattle.engine_states.specs.declared.state.State.TheVariants as states
use Rattle.markdown_engine.specs.Machine.{to_run_first}
use Rattle.markdown_engine.specs.Resolvers.{with_first}
use Rattle.state_inline.specs.Inlines.{bodies}
use Rattle.state_verdicts.specs.Beginnings.{Beginning, attempt, beginning}
use Rattle.state_verdicts.specs.GfmLabelStartFootnote.{CallStartVerdict, call_events}
use Rattle.state_verdicts.specs.LabelStartImage.{ImageStartVerdict, image_events}
use Rattle.state_verdicts.specs.LabelStartLink.{LinkStartVerdict, link_events}
use Rattle.state_verdicts.specs.LabelStarts.{StartVerdict, starting}
use Rattle.state_verdicts.specs.Machines.{AtHand, GoesOnBy, ReadsBy}
use Rattle.state_verdicts.specs.Verdicts.{Leaves, Reads}
use Rattle.state_verdicts.proofs.Markers.{swap}
use Rattle.state_verdicts.proofs.MachineTurns.{and_on, byte_at, does, does_next, end_at, ends_well, fails, fed}
use Rattle.state_verdicts.proofs.Seen.{seen_sort}
use Rattle.state_verdicts.proofs.Standing.{Here, around_here, enters, exits, fed_here}
use Rattle.state_verdicts.proofs.WhiteLines.{and_true}

-- the start is kept, and the resolver registered
abbrev begun : LabelKind → ℕ → Config Inlines → Config Inlines
begun kind size e = to_run_first resolvers.Label (record e { tokenize_state = starting kind size e.events e.tokenize_state })

four : (l : List Event) (a b e f : Event) → (((l ++ a ∷ []) ++ b ∷ []) ++ e ∷ []) ++ f ∷ [] ≡ l ++ (a ∷ b ∷ e ∷ f ∷ [])
four l a b e f = simp append_assoc refl

six : (l : List Event) (a b e f g h : Event)
    → (((((l ++ a ∷ []) ++ b ∷ []) ++ e ∷ []) ++ f ∷ []) ++ g ∷ []) ++ h ∷ [] ≡ l ++ (a ∷ b ∷ e ∷ f ∷ g ∷ h ∷ [])
six l a b e f g h = simp append_assoc refl

-- an event round the byte
abbrev rounded : EventName → Config Inlines → Config Inlines
rounded name c = with_exit name (past_byte (with_enter name None c))

itself : (m : ℕ) → (10 == m) ≡ false → (13 == m) ≡ false → (257 == m) ≡ false → (32 == m) ≡ (256 == m) → (c : ℕ) → (text_byte c == m) ≡ (c == m)
itself m feed back both same = seen_sort (λ b. b == m) feed back both same

module _ {T : Type 0} (texts : List ℕ → Option (List ℕ)) (is_punctuation : ℕ → Bool) (x : Context T) (text : Text) where
  abbrev machine : Name → Body Inlines
  machine = bodies texts is_punctuation x

  as_reads : (c d : Config Inlines) (s : State) (w : Bool) → ReadsBy machine text c s d w → Reads texts is_punctuation x text c s d w
  unfolding Reads ReadsBy
  as_reads c d s w r = r

  -- ---- what the states do

  link_does : (c : Config Inlines) (on : Bool) → c.current ≡ Some 91 → x.options.constructs.label_start_link ≡ on
      → run (machine (Inline state_inline.LabelStartLinkStart)) c
      ≡ (if on then plain (begun kinds.Link 4 (with_exit names.LabelLink (rounded names.LabelMarker (with_enter names.LabelLink None c)))) states.Ok
      else plain c states.Nok)
  unfolding bodies
  link_does c on h k = rw (h, k) refl

  call_does : (c : Config Inlines) (on : Bool) → c.current ≡ Some 91 → x.options.constructs.gfm_label_start_footnote ≡ on
      → run (machine (Inline state_inline.GfmLabelStartFootnoteStart)) c
      ≡ (if on then plain (rounded names.LabelMarker (with_enter names.GfmFootnoteCallLabel None c))
      (states.Next (Inline state_inline.GfmLabelStartFootnoteOpen)) else plain c states.Nok)
  unfolding bodies
  call_does c on h k = rw (h, k) refl

  call_none : (c : Config Inlines) → c.current ≡ None → run (machine (Inline state_inline.GfmLabelStartFootnoteOpen)) c ≡ plain c states.Nok
  unfolding bodies
  call_none c h = rw h refl

  call_open : (b : ℕ) (c : Config Inlines) (is : Bool) → c.current ≡ Some b → (b == 94) ≡ is
      → run (machine (Inline state_inline.GfmLabelStartFootnoteOpen)) c
      ≡ (if is then plain (begun kinds.GfmFootnote 6 (with_exit names.GfmFootnoteCallLabel (rounded names.GfmFootnoteCallMarker c))) states.Ok
      else plain c states.Nok)
  unfolding bodies
  call_open b c is h k = rw (h, k) refl

  image_does : (c : Config Inlines) (on : Bool) → c.current ≡ Some 33 → x.options.constructs.label_start_image ≡ on
      → run (machine (Inline state_inline.LabelStartImageStart)) c
      ≡ (if on then plain (rounded names.LabelImageMarker (with_enter names.LabelImage None c)) (states.Next (Inline state_inline.LabelStartImageOpen))
      else plain c states.Nok)
  unfolding bodies
  image_does c on h k = rw (h, k) refl

  image_none : (c : Config Inlines) → c.current ≡ None → run (machine (Inline state_inline.LabelStartImageOpen)) c ≡ plain c states.Nok
  unfolding bodies
  image_none c h = rw h refl

  image_open : (b : ℕ) (c : Config Inlines) (is : Bool) → c.current ≡ Some b → (b == 91) ≡ is
      → run (machine (Inline state_inline.LabelStartImageOpen)) c
      ≡ (if is then plain (with_exit names.LabelImage (rounded names.LabelMarker c)) (states.Next (Inline state_inline.LabelStartImageAfter))
      else plain c states.Nok)
  unfolding bodies
  image_open b c is h k = rw (h, k) refl

  image_after : (c : Config Inlines) (caret footnotes : Bool) → has (λ b. b == 94) c.current ≡ caret
      → x.options.constructs.gfm_label_start_footnote ≡ footnotes
      → run (machine (Inline state_inline.LabelStartImageAfter)) c ≡ (if caret && footnotes then plain c states.Nok else plain (begun kinds.Image 6 c)
      states.Ok)
  unfolding bodies
  image_after c true true h k = rw (h, k) refl
  image_after c true false h k = rw (h, k) refl
  image_after c false footnotes h k = rw h refl

  -- ---- reading

  -- what a start leaves
  leaves : (c0 : Config Inlines) (kind : LabelKind) (size : ℕ) (es added : List Event) (e : Config Inlines) (end : Point)
      → Here text c0 es c0.tokenize_state e → es ≡ c0.events ++ added → e.point ≡ end
      → Leaves (to_run_first resolvers.Label c0) (begun kind size e) (starting kind size (c0.events ++ added) c0.tokenize_state) added end
  leaves c0 kind size es added e end h eq at = record {
    events = h.events ∙ eq;
    point = at;
    kept = ap (λ (l : List Event). starting kind size l e.tokenize_state) (h.events ∙ eq) ∙ ap (starting kind size (c0.events ++ added)) h.kept;
    map = h.map;
    resolvers = ap (λ (l : List Resolver). with_first resolvers.Label l) h.resolvers;
  }

  started : (c0 : Config Inlines) → Here text c0 c0.events c0.tokenize_state c0
  started c0 = record { events = refl; kept = refl; map = refl; resolvers = refl }

  module _ (c : Config Inlines) (p q : Point) (cs : List ℕ) (s : Sees text q cs) where
    -- at a byte of the text
    abbrev at : ℕ → Config Inlines
    at b = at_byte c p b q

    abbrev here : ℕ → Beginning T
    here b = beginning texts is_punctuation x text c b p q cs

    abbrev link_start : Name
    link_start = Inline state_inline.LabelStartLinkStart

    link_by : (on : Bool) → x.options.constructs.label_start_link ≡ on
        → StartVerdict (here 91) (attempt (here 91) state_inline.LabelStartLinkStart) kinds.Link 1 (link_events p) (λ end. end) (on && true)
    link_by true h =
        let entered = enters text (at 91) names.LabelLink (started (at 91)) refl in
        let rounded_is = around_here text (at 91) names.LabelMarker entered refl refl refl in
        let exited = exits text (at 91) names.LabelLink rounded_is refl refl in (
          _,
          q,
          as_reads (at 91) _ (states.Retry link_start) true
              (ends_well machine text (at 91) _ (states.Retry link_start) (does machine text link_start (at 91) _ states.Ok (link_does (at 91) true refl h))),
          leaves (at 91) kinds.Link 4 _ (link_events p q) _ q exited (four c.events (event Enter names.LabelLink p None) (event Enter names.LabelMarker p None)
              (event Exit names.LabelMarker q None) (event Exit names.LabelLink q None)) refl,
          s,
        )
    link_by false h = (
      at 91,
      as_reads (at 91) (at 91) (states.Retry link_start) false (fails machine text (at 91) (at 91) (states.Retry link_start)
          (does machine text link_start (at 91) (at 91) states.Nok (link_does (at 91) false refl h))),
    )

    -- ---- a call

    abbrev call_start : Name
    call_start = Inline state_inline.GfmLabelStartFootnoteStart

    abbrev call_next : Name
    call_next = Inline state_inline.GfmLabelStartFootnoteOpen

    abbrev called : Config Inlines
    called = rounded names.LabelMarker (with_enter names.GfmFootnoteCallLabel None (at 91))

    abbrev Calls : Bool → Type 0
    Calls is = StartVerdict (here 91) (attempt (here 91) state_inline.GfmLabelStartFootnoteStart) kinds.GfmFootnote 2 (call_events p q (text.start q))
        (λ end. end) is

    second_at : AtHand text (feed text called) q
    second_at = fed text called q refl

    call_goes : x.options.constructs.gfm_label_start_footnote ≡ true
        → GoesOnBy machine text (at 91) (states.Retry call_start) (feed text called) (states.Retry call_next)
    call_goes on = does_next machine text call_start call_next (at 91) called (call_does (at 91) true refl on)

    call_fails : x.options.constructs.gfm_label_start_footnote ≡ true → run (machine call_next) (feed text called) ≡ plain (feed text called) states.Nok →
        Calls false
    call_fails on h = (
      feed text called,
      as_reads (at 91) (feed text called) (states.Retry call_start) false (fails machine text (at 91) (feed text called) (states.Retry call_start)
          (and_on machine text (call_goes on) (does machine text call_next (feed text called) (feed text called) states.Nok h))),
    )

    call_by : (code : ℕ) (r : Point) (ds : List ℕ) → cs ≡ code ∷ ds → text.byte (text.start q) ≡ Some (as_byte (text_byte code) r) → Sees text r ds
        → x.options.constructs.gfm_label_start_footnote ≡ true → (is : Bool) → (code == 94) ≡ is → Calls (is && true)
    call_by code r ds now e t on true h =
        let caret : (text_byte code == 94) ≡ true = itself 94 refl refl refl refl code ∙ h in
        let first = around_here text (at 91) names.LabelMarker (enters text (at 91) names.GfmFootnoteCallLabel (started (at 91)) refl) refl refl refl in
        let apart : is_feed (feed text called).current ≡ false =
        ap is_feed (byte_at second_at e) ∙ ap (λ (b : ℕ). b == 10) (eqb-true (text_byte code) 94 caret) in
        let second = around_here text (at 91) names.GfmFootnoteCallMarker (fed_here text (at 91) first) second_at.point (second_at.next _ e) apart in
        let third = exits text (at 91) names.GfmFootnoteCallLabel second apart (second_at.next _ e) in (
          _,
          r,
          as_reads (at 91) _ (states.Retry call_start) true (ends_well machine text (at 91) _ (states.Retry call_start) (and_on machine text (call_goes on)
              (does machine text call_next (feed text called) _ states.Ok (call_open (text_byte code) (feed text called) true (byte_at second_at e) caret)))),
          leaves (at 91) kinds.GfmFootnote 6 _ (call_events p q (text.start q) r) _ r third (six c.events (event Enter names.GfmFootnoteCallLabel p None)
              (event Enter names.LabelMarker p None) (event Exit names.LabelMarker q None) (event Enter names.GfmFootnoteCallMarker (text.start q) None)
              (event Exit names.GfmFootnoteCallMarker r None) (event Exit names.GfmFootnoteCallLabel r None)) (second_at.next _ e),
          subst (λ (l : List ℕ). Sees text r (drop 1 l)) (sym now) t,
        )
    call_by code r ds now e t on false h =
        call_fails on (call_open (text_byte code) (feed text called) false (byte_at second_at e) (itself 94 refl refl refl refl code ∙ h))

    call_seen : (l : List ℕ) → cs ≡ l → Sees text q l → (on : Bool) → x.options.constructs.gfm_label_start_footnote ≡ on
        → Calls (on && begins_with (codes "[^") (91 ∷ l))
    call_seen l now t false h = (
      at 91,
      as_reads (at 91) (at 91) (states.Retry call_start) false (fails machine text (at 91) (at 91) (states.Retry call_start)
          (does machine text call_start (at 91) (at 91) states.Nok (call_does (at 91) false refl h))),
    )
    call_seen [] now (nothing e) true h = call_fails h (call_none (feed text called) (end_at second_at e))
    call_seen (code ∷ ds) now (byte {q = r} apart e t) true h =
        subst (λ (b : Bool). Calls (b && true)) (swap code 94) (call_by code r ds now e t h (code == 94) refl)
    call_seen (code ∷ ds) now (tab {q = r} most e f t) true h = call_fails h (call_open 9 (feed text called) false (byte_at second_at e) refl)

    -- ---- an image

    abbrev image_start : Name
    image_start = Inline state_inline.LabelStartImageStart

    abbrev image_next : Name
    image_next = Inline state_inline.LabelStartImageOpen

    abbrev image_last : Name
    image_last = Inline state_inline.LabelStartImageAfter

    abbrev imaged : Config Inlines
    imaged = rounded names.LabelImageMarker (with_enter names.LabelImage None (at 33))

    abbrev Images : Bool → Type 0
    Images is = StartVerdict (here 33) (attempt (here 33) state_inline.LabelStartImageStart) kinds.Image 2 (image_events p q (text.start q)) text.start is

    image_at : AtHand text (feed text imaged) q
    image_at = fed text imaged q refl

    image_goes : x.options.constructs.label_start_image ≡ true
        → GoesOnBy machine text (at 33) (states.Retry image_start) (feed text imaged) (states.Retry image_next)
    image_goes on = does_next machine text image_start image_next (at 33) imaged (image_does (at 33) true refl on)

    image_fails : x.options.constructs.label_start_image ≡ true → run (machine image_next) (feed text imaged) ≡ plain (feed text imaged) states.Nok → Images
        false
    image_fails on h = (
      feed text imaged,
      as_reads (at 33) (feed text imaged) (states.Retry image_start) false (fails machine text (at 33) (feed text imaged) (states.Retry image_start)
          (and_on machine text (image_goes on) (does machine text image_next (feed text imaged) (feed text imaged) states.Nok h))),
    )

    -- after the `[`
    abbrev bracketed : Config Inlines
    bracketed = with_exit names.LabelImage (rounded names.LabelMarker (feed text imaged))

    module _ (r : Point) (ds : List ℕ) (now : cs ≡ 91 ∷ ds) (e : text.byte (text.start q) ≡ Some (as_byte 91 r)) (t : Sees text r ds)
        (on : x.options.constructs.label_start_image ≡ true) where
      bracket_goes : GoesOnBy machine text (at 33) (states.Retry image_start) (feed text bracketed) (states.Retry image_last)
      bracket_goes = and_on machine text (image_goes on) (does_next machine text image_next image_last (feed text imaged) bracketed
          (image_open 91 (feed text imaged) true (byte_at image_at e) refl))

      last_at : AtHand text (feed text bracketed) r
      last_at = fed text bracketed r (image_at.next (as_byte 91 r) e)

      image_starts : run (machine image_last) (feed text bracketed) ≡ plain (begun kinds.Image 6 (feed text bracketed)) states.Ok → Images true
      image_starts h =
          let first = around_here text (at 33) names.LabelImageMarker (enters text (at 33) names.LabelImage (started (at 33)) refl) refl refl refl in
          let apart : is_feed (feed text imaged).current ≡ false = ap is_feed (byte_at image_at e) in
          let second = around_here text (at 33) names.LabelMarker (fed_here text (at 33) first) image_at.point (image_at.next (as_byte 91 r) e) apart in
          let third = exits text (at 33) names.LabelImage second apart (image_at.next (as_byte 91 r) e) in (
            begun kinds.Image 6 (feed text bracketed),
            r,
            as_reads (at 33) (begun kinds.Image 6 (feed text bracketed)) (states.Retry image_start) true
                (ends_well machine text (at 33) (begun kinds.Image 6 (feed text bracketed)) (states.Retry image_start) (and_on machine text bracket_goes
                (does machine text image_last (feed text bracketed) (begun kinds.Image 6 (feed text bracketed)) states.Ok h))),
            leaves (at 33) kinds.Image 6 _ (image_events p q (text.start q) r) (feed text bracketed) (text.start r) (fed_here text (at 33) third)
                (six c.events (event Enter names.LabelImage p None) (event Enter names.LabelImageMarker p None) (event Exit names.LabelImageMarker q None)
                (event Enter names.LabelMarker (text.start q) None) (event Exit names.LabelMarker r None) (event Exit names.LabelImage r None)) last_at.point,
            subst (λ (l : List ℕ). Sees text r (drop 1 l)) (sym now) t,
          )

      image_by : (caret footnotes : Bool) → has (λ b. b == 94) (feed text bracketed).current ≡ caret → x.options.constructs.gfm_label_start_footnote ≡ footnotes
          → Images (not (footnotes && caret))
      image_by true true h k = (
        feed text bracketed,
        as_reads (at 33) (feed text bracketed) (states.Retry image_start) false (fails machine text (at 33) (feed text bracketed) (states.Retry image_start)
            (and_on machine text bracket_goes (does machine text image_last (feed text bracketed) (feed text bracketed) states.Nok
            (image_after (feed text bracketed) true true h k)))),
      )
      image_by true false h k = image_starts (image_after (feed text bracketed) true false h k)
      image_by false true h k = image_starts (image_after (feed text bracketed) false true h k)
      image_by false false h k = image_starts (image_after (feed text bracketed) false false h k)

      image_ends : (l : List ℕ) → Sees text r l → Images (not (x.options.constructs.gfm_label_start_footnote && begins_with (codes "![^") (33 ∷ 91 ∷ l)))
      image_ends [] (nothing f) =
          image_by false x.options.constructs.gfm_label_start_footnote (ap (has (λ b. b == 94)) (end_at last_at f)) refl
      image_ends (code ∷ l) (byte apart f u) =
          subst (λ (b : Bool). Images (not (x.options.constructs.gfm_label_start_footnote && b))) (sym (and_true (94 == code) ∙ swap 94 code))
          (image_by (code == 94) x.options.constructs.gfm_label_start_footnote
          (ap (has (λ b. b == 94)) (byte_at last_at f) ∙ itself 94 refl refl refl refl code) refl)
      image_ends (code ∷ l) (tab most f g u) =
          image_by false x.options.constructs.gfm_label_start_footnote (ap (has (λ b. b == 94)) (byte_at last_at f)) refl

    image_seen : (l : List ℕ) → cs ≡ l → Sees text q l → (on : Bool) → x.options.constructs.label_start_image ≡ on
        → Images ((on && begins_with (codes "![") (33 ∷ l)) && not (x.options.constructs.gfm_label_start_footnote && begins_with (codes "![^") (33 ∷ l)))
    image_seen l now t false h = (
      at 33,
      as_reads (at 33) (at 33) (states.Retry image_start) false (fails machine text (at 33) (at 33) (states.Retry image_start)
          (does machine text image_start (at 33) (at 33) states.Nok (image_does (at 33) false refl h))),
    )
    image_seen [] now (nothing e) true h = image_fails h (image_none (feed text imaged) (end_at image_at e))
    image_seen (code ∷ ds) now (byte {q = r} apart e t) true h = elim (cases_Bool (code == 91)) [
      | inl is ↦
          let code_is = eqb-true code 91 is in
          subst (λ (i : ℕ). Images (((91 == i) && true)
          && not (x.options.constructs.gfm_label_start_footnote && begins_with (codes "![^") (33 ∷ i ∷ ds)))) (sym code_is)
          (image_ends r ds (now ∙ ap (λ (i : ℕ). i ∷ ds) code_is) (e ∙ ap (λ (i : ℕ). Some (as_byte (text_byte i) r)) code_is) t h ds t)
      | inr is ↦
          subst (λ (b : Bool). Images ((b && true)
          && not (x.options.constructs.gfm_label_start_footnote && begins_with (codes "![^") (33 ∷ code ∷ ds)))) (sym (swap 91 code ∙ is))
          (image_fails h (image_open (text_byte code) (feed text imaged) false (byte_at image_at e) (itself 91 refl refl refl refl code ∙ is)))
    ]
    image_seen (code ∷ ds) now (tab most e f t) true h = image_fails h (image_open 9 (feed text imaged) false (byte_at image_at e) refl)

pub link_verdict : (T : Type 0) → LinkStartVerdict T
link_verdict T texts is_punctuation x text c p q cs s = link_by texts is_punctuation x text c p q cs s x.options.constructs.label_start_link refl

pub call_verdict : (T : Type 0) → CallStartVerdict T
call_verdict T texts is_punctuation x text c p q cs s =
    call_seen texts is_punctuation x text c p q cs s cs refl s x.options.constructs.gfm_label_start_footnote refl

pub image_verdict : (T : Type 0) → ImageStartVerdict T
image_verdict T texts is_punctuation x text c p q cs s = image_seen texts is_punctuation x text c p q cs s cs refl s x.options.constructs.label_start_image refl
