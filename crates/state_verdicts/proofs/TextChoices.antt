-- Before each part of a text the construct is attempted that its byte may begin.
use Rattle.std.proofs.Common.{◌≡◌, ◌∙◌, ℕ, Bool, true, false, List, ◌∷◌, Option, None, Some, refl, ap, subst}
use Rattle.definition_text.specs.Ascii.{ampersand, backslash, backtick, dollar, exclamation_mark, left_bracket, less_than}
use Rattle.state_verdicts.proofs.Prelude.{as_byte, at_byte, break_events, byte_at, Chooses, Config, Context, ends_apart, escape_at, escape_events}
use Rattle.state_verdicts.proofs.Prelude.{escaped_break_at, Found, GoesOn, hand_on, InlineName, Inlines, next, Point, retry, run, Sees, Text, tries, Verdict}
use Rattle.engine_states.specs.declared.state.Inline.TheVariants as state_inline
use Rattle.engine_states.specs.declared.state.Name.TheVariants.{Inline}
use Rattle.state_inline.specs.Inlines.{bodies}
use Rattle.state_verdicts.specs.Autolink.{AutolinkChoice}
use Rattle.state_verdicts.specs.Beginnings.{beginning}
use Rattle.state_verdicts.specs.CharacterEscape.{EscapeChoice}
use Rattle.state_verdicts.specs.CharacterReference.{CharacterReferenceChoice}
use Rattle.state_verdicts.specs.CodeText.{CodeTextChoice}
use Rattle.state_verdicts.specs.GfmLabelStartFootnote.{CallStartChoice}
use Rattle.state_verdicts.specs.HardBreakEscape.{BreakChoice}
use Rattle.state_verdicts.specs.LabelStartImage.{ImageStartChoice}
use Rattle.state_verdicts.specs.LabelStartLink.{LinkStartChoice}
use Rattle.state_verdicts.specs.MathText.{MathTextChoice}
use Rattle.state_verdicts.specs.Text.{BackslashChoice}
use Rattle.state_verdicts.proofs.AutolinkReads.{autolink_verdict}
use Rattle.state_verdicts.proofs.BreakReads.{break_verdict}
use Rattle.state_verdicts.proofs.ChoiceReads.{and_on, choice, of_autolink, of_leaf, of_reference, of_span, of_start}
use Rattle.state_verdicts.proofs.CodeReads.{code_text, math_text}
use Rattle.state_verdicts.proofs.EscapeReads.{escape_verdict}
use Rattle.state_verdicts.proofs.LabelStartReads.{call_verdict, image_verdict, link_verdict}
use Rattle.state_verdicts.proofs.ReferenceReads.{reference_verdict}

module _ {T : Type 0} (texts : List ℕ → Option (List ℕ)) (is_punctuation : ℕ → Bool) (x : Context T) (text : Text) (c : Config Inlines) (q : Point) where
  -- at this byte a state attempts this one, and then goes on with another where that isn't there
  abbrev Attempts : ℕ → InlineName → InlineName → InlineName → Type 0
  Attempts b s start other = run (bodies texts is_punctuation x (Inline s)) (byte_at text c b q)
      ≡ tries (next state_inline.TextBefore) (next other) (byte_at text c b q) (retry start)

  at_escape : Attempts backslash state_inline.TextBefore state_inline.CharacterEscapeStart state_inline.TextBeforeHardBreakEscape
  unfolding bodies
  at_escape = refl

  at_break : Attempts backslash state_inline.TextBeforeHardBreakEscape state_inline.HardBreakEscapeStart state_inline.TextBeforeData
  unfolding bodies
  at_break = refl

  at_reference : Attempts ampersand state_inline.TextBefore state_inline.CharacterReferenceStart state_inline.TextBeforeData
  unfolding bodies
  at_reference = refl

  at_autolink : Attempts less_than state_inline.TextBefore state_inline.AutolinkStart state_inline.TextBeforeHtml
  unfolding bodies
  at_autolink = refl

  at_code : Attempts backtick state_inline.TextBefore state_inline.RawTextStart state_inline.TextBeforeData
  unfolding bodies
  at_code = refl

  at_math : Attempts dollar state_inline.TextBefore state_inline.RawTextStart state_inline.TextBeforeData
  unfolding bodies
  at_math = refl

module _ {T : Type 0} (texts : List ℕ → Option (List ℕ)) (is_punctuation : ℕ → Bool) (x : Context T) (text : Text) (c : Config Inlines) (q : Point) where
  at_call : Attempts texts is_punctuation x text c q left_bracket state_inline.TextBefore state_inline.GfmLabelStartFootnoteStart
      state_inline.TextBeforeLabelStartLink
  unfolding bodies
  at_call = refl

  at_link : Attempts texts is_punctuation x text c q left_bracket state_inline.TextBeforeLabelStartLink state_inline.LabelStartLinkStart
      state_inline.TextBeforeData
  unfolding bodies
  at_link = refl

  at_image : Attempts texts is_punctuation x text c q exclamation_mark state_inline.TextBefore state_inline.LabelStartImageStart state_inline.TextBeforeData
  unfolding bodies
  at_image = refl

pub call_choice : (T : Type 0) → CallStartChoice T
call_choice T texts is_punctuation x text c q cs h s =
    of_start text _ _
    (choice texts is_punctuation x text c (Some (as_byte left_bracket q)) state_inline.TextBefore state_inline.TextBeforeLabelStartLink
    (retry state_inline.GfmLabelStartFootnoteStart) h (at_call texts is_punctuation x text c q))
    (beginning texts is_punctuation x text c left_bracket (text.start c.point) q cs) _ 2 _ _ _
    (call_verdict T texts is_punctuation x text c (text.start c.point) q cs s)

pub link_choice : (T : Type 0) → LinkStartChoice T
link_choice T texts is_punctuation x text c q cs h s =
    of_start text _ _
    (choice texts is_punctuation x text c (Some (as_byte left_bracket q)) state_inline.TextBeforeLabelStartLink state_inline.TextBeforeData
    (retry state_inline.LabelStartLinkStart) h (at_link texts is_punctuation x text c q))
    (beginning texts is_punctuation x text c left_bracket (text.start c.point) q cs) _ 1 _ _ _
    (link_verdict T texts is_punctuation x text c (text.start c.point) q cs s)

pub image_choice : (T : Type 0) → ImageStartChoice T
image_choice T texts is_punctuation x text c q cs h s =
    of_start text _ _
    (choice texts is_punctuation x text c (Some (as_byte exclamation_mark q)) state_inline.TextBefore state_inline.TextBeforeData
    (retry state_inline.LabelStartImageStart) h (at_image texts is_punctuation x text c q))
    (beginning texts is_punctuation x text c exclamation_mark (text.start c.point) q cs) _ 2 _ _ _
    (image_verdict T texts is_punctuation x text c (text.start c.point) q cs s)

pub escape_choice : (T : Type 0) → EscapeChoice T
escape_choice T texts is_punctuation x text c q cs h s =
    of_leaf text _ _
    (choice texts is_punctuation x text c (Some (as_byte backslash q)) state_inline.TextBefore state_inline.TextBeforeHardBreakEscape
    (retry state_inline.CharacterEscapeStart) h (at_escape texts is_punctuation x text c q))
    _ _ _ _ _ (escape_verdict T texts is_punctuation x text c (text.start c.point) q cs s)

pub break_choice : (T : Type 0) → BreakChoice T
break_choice T texts is_punctuation x text c q cs h s apart =
    of_leaf text _ _
    (choice texts is_punctuation x text c (Some (as_byte backslash q)) state_inline.TextBeforeHardBreakEscape state_inline.TextBeforeData
    (retry state_inline.HardBreakEscapeStart) h (at_break texts is_punctuation x text c q))
    _ _ _ _ _ (break_verdict T texts is_punctuation x text c (text.start c.point) q cs s apart)

pub reference_choice : (T : Type 0) → CharacterReferenceChoice T
reference_choice T texts is_punctuation x text c q cs shows column h s =
    of_reference text _ _
    (choice texts is_punctuation x text c (Some (as_byte ampersand q)) state_inline.TextBefore state_inline.TextBeforeData
    (retry state_inline.CharacterReferenceStart) h (at_reference texts is_punctuation x text c q))
    _ _ _ _ _ (reference_verdict T texts is_punctuation x text c (text.start c.point) q cs shows column s)

pub autolink_choice : (T : Type 0) → AutolinkChoice T
autolink_choice T texts is_punctuation x text c q cs are h s =
    of_autolink text _ _
    (choice texts is_punctuation x text c (Some (as_byte less_than q)) state_inline.TextBefore state_inline.TextBeforeHtml
    (retry state_inline.AutolinkStart) h (at_autolink texts is_punctuation x text c q))
    _ _ _ _ _ (autolink_verdict T texts is_punctuation x text c (text.start c.point) q cs are s)

pub code_choice : (T : Type 0) → CodeTextChoice T
code_choice T texts is_punctuation x text c q cs few h s =
    of_span text _ _
    (choice texts is_punctuation x text c (Some (as_byte backtick q)) state_inline.TextBefore state_inline.TextBeforeData (retry state_inline.RawTextStart) h
    (at_code texts is_punctuation x text c q))
    _ _ _ _ _ _ _ (code_text T texts is_punctuation x text c (text.start c.point) q cs few s)

pub math_choice : (T : Type 0) → MathTextChoice T
math_choice T texts is_punctuation x text c q cs few h s =
    of_span text _ _
    (choice texts is_punctuation x text c (Some (as_byte dollar q)) state_inline.TextBefore state_inline.TextBeforeData (retry state_inline.RawTextStart) h
    (at_math texts is_punctuation x text c q))
    _ _ _ _ _ _ _ (math_text T texts is_punctuation x text c (text.start c.point) q cs few s)

module _ {T : Type 0} (texts : List ℕ → Option (List ℕ)) (is_punctuation : ℕ → Bool) (x : Context T) (text : Text) (c : Config Inlines) (q : Point)
    (cs : List ℕ) (still : text.start (text.start c.point) ≡ text.start c.point) (stands : text.byte (text.start c.point) ≡ Some (as_byte backslash q))
    (sees : Sees text q cs) (apart : ends_apart cs ≡ true) where
  -- back at the backslash, after an escape was attempted
  abbrev back : Config Inlines → Config Inlines
  back e = hand_on (byte_at text c backslash q) e

  -- what is said of a hard break from there
  abbrev Break_from : Config Inlines → InlineName → Config Inlines → Point → Type 0
  Break_from d s at p =
      Verdict text (Chooses texts is_punctuation x text d s at state_inline.TextBeforeData) at (backslash ∷ cs)
      (λ end. break_events p (text.start end)) text.start (escaped_break_at x.options.constructs (backslash ∷ cs))

  break_from : (e : Config Inlines) → Break_from (back e) state_inline.TextBeforeHardBreakEscape (back e) (text.start c.point)
  break_from e =
      subst (λ (p : Point). Break_from (back e) state_inline.TextBeforeHardBreakEscape (at_byte (back e) p backslash q) p) still
      (break_choice T texts is_punctuation x text (back e) q cs (ap text.byte still ∙ stands) sees apart)

  from_escape : (e : Config Inlines)
      → GoesOn texts is_punctuation x text c (next state_inline.TextBefore) (back e) (next state_inline.TextBeforeHardBreakEscape)
      → (d : Config Inlines) (w : Bool)
      → Chooses texts is_punctuation x text (back e) state_inline.TextBeforeHardBreakEscape (back e) state_inline.TextBeforeData d w
      → Chooses texts is_punctuation x text c state_inline.TextBefore (back e) state_inline.TextBeforeData d w
  from_escape e first d true second = and_on texts is_punctuation x text first second
  from_escape e first d false second = and_on texts is_punctuation x text first second

  by_escape : (o : Option Found) → o ≡ None
      → Verdict text (Chooses texts is_punctuation x text c state_inline.TextBefore (byte_at text c backslash q) state_inline.TextBeforeHardBreakEscape)
      (byte_at text c backslash q) (backslash ∷ cs) (escape_events (text.start c.point) q (text.start q)) (λ end. end) o
      → (e : Config Inlines) × Break_from c state_inline.TextBefore (back e) (text.start c.point)
  by_escape None h (e, first) = (e, of_leaf text _ _ (from_escape e first) _ _ _ _ _ (break_from e))
  by_escape (Some leaf) h r = absurd (let f : Some leaf ≡ None = h in cc)

pub backslash_choice : (T : Type 0) → BackslashChoice T
backslash_choice T texts is_punctuation x text c q cs still stands sees apart none =
    by_escape texts is_punctuation x text c q cs still stands sees apart (escape_at x.options.constructs (backslash ∷ cs)) none
    (escape_choice T texts is_punctuation x text c q cs stands sees)
