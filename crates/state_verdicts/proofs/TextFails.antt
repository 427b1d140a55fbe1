-- An attempt at a construct of a text fails at a byte with which the construct may not begin.
use Rattle.std.proofs.Common.{◌≡◌, ℕ, Bool, true, false, ◌==◌, ◌||◌, List, Option, Some, refl}
use Rattle.state_verdicts.proofs.Prelude.{Config, Context, Inlines, or_parts, plain, run}
use Rattle.engine_states.specs.declared.state.State.TheVariants as states
use Rattle.state_inline.specs.Inlines.{bodies}
use Rattle.state_verdicts.specs.TextChoices.{Attention, Autolink, Escape, Footnote, HardBreak, Html, Image, LabelEnd, Link, PartStart, Protocol, RawText}
use Rattle.state_verdicts.specs.TextChoices.{Reference, TextFailsLaw, Www, begins, looks_at_byte, may_begin}
use Rattle.state_verdicts.proofs.MachineTurns.{does, fails}

module _ {T : Type 0} (texts : List ℕ → Option (List ℕ)) (is_punctuation : ℕ → Bool) (x : Context T) (c : Config Inlines) (b : ℕ) (here : c.current ≡ Some b) where
  -- the start of the construct fails at the byte
  abbrev Stops : PartStart → Type 0
  Stops s = run (bodies texts is_punctuation x (begins s)) c ≡ plain c states.Nok

  image_stops : (b == 33) ≡ false → Stops Image
  unfolding bodies
  image_stops h = rw (here, h) refl

  raw_text_stops : (b == 36) ≡ false → (b == 96) ≡ false → Stops RawText
  unfolding bodies
  raw_text_stops h1 h2 = rw (here, h1, h2) refl

  reference_stops : (b == 38) ≡ false → Stops Reference
  unfolding bodies
  reference_stops h = rw (here, h) refl

  attention_stops : (b == 42) ≡ false → (b == 95) ≡ false → (b == 126) ≡ false → (b == 61) ≡ false → Stops Attention
  unfolding bodies
  attention_stops h1 h2 h3 h4 = rw (here, h1, h2, h3, h4) refl

  autolink_stops : (b == 60) ≡ false → Stops Autolink
  unfolding bodies
  autolink_stops h = rw (here, h) refl

  html_stops : (b == 60) ≡ false → Stops Html
  unfolding bodies
  html_stops h = rw (here, h) refl

  footnote_stops : (b == 91) ≡ false → Stops Footnote
  unfolding bodies
  footnote_stops h = rw (here, h) refl

  link_stops : (b == 91) ≡ false → Stops Link
  unfolding bodies
  link_stops h = rw (here, h) refl

  escape_stops : (b == 92) ≡ false → Stops Escape
  unfolding bodies
  escape_stops h = rw (here, h) refl

  hard_break_stops : (b == 92) ≡ false → Stops HardBreak
  unfolding bodies
  hard_break_stops h = rw (here, h) refl

  label_end_stops : (b == 93) ≡ false → Stops LabelEnd
  unfolding bodies
  label_end_stops h = rw (here, h) refl

  stops : (s : PartStart) → looks_at_byte s ≡ true → may_begin s b ≡ false → Stops s
  stops Image k h = image_stops h
  stops RawText k h = let apart = or_parts (b == 36) (b == 96) h in raw_text_stops apart.0 apart.1
  stops Reference k h = reference_stops h
  stops Attention k h =
      let three = or_parts ((b == 42) || (b == 95) || (b == 126)) (b == 61) h in
      let two = or_parts ((b == 42) || (b == 95)) (b == 126) three.0 in
      let one = or_parts (b == 42) (b == 95) two.0 in attention_stops one.0 one.1 two.1 three.1
  stops Autolink k h = autolink_stops h
  stops Html k h = html_stops h
  stops Protocol k h = absurd (let f : false ≡ true = k in cc)
  stops Www k h = absurd (let f : false ≡ true = k in cc)
  stops Footnote k h = footnote_stops h
  stops Link k h = link_stops h
  stops Escape k h = escape_stops h
  stops HardBreak k h = hard_break_stops h
  stops LabelEnd k h = label_end_stops h

pub text_fails_law : (T : Type 0) → TextFailsLaw T
text_fails_law T texts is_punctuation x text c b here s k h = (
  c,
  fails (bodies texts is_punctuation x) text c c (states.Retry (begins s)) (does (bodies texts is_punctuation x) text (begins s) c c states.Nok
      (stops texts is_punctuation x c b here s k h)),
)
