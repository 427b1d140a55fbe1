-- What a state of a text comes to that attempts a construct.
use Rattle.std.specs.Prelude.{ℕ, Bool, true, false, List, Option}
use Rattle.engine_events.specs.declared.place.Point.{Point}
use Rattle.engine_states.specs.declared.state.Inline.{Inline as InlineName}
use Rattle.engine_states.specs.declared.state.Inline.TheVariants as state_inline
use Rattle.engine_states.specs.declared.state.State.{State}
use Rattle.markdown_engine.specs.Context.{Context}
use Rattle.markdown_engine.specs.Reading.{Config, hand_on}
use Rattle.markdown_engine.specs.VirtualText.{Text}
use Rattle.state_table.specs.Words.{next}
use Rattle.state_inline.specs.declared.inlines.Inlines.{Inlines}
use Rattle.state_verdicts.specs.Verdicts.{Reads, at_byte}

-- the next byte of the text is handed in
abbrev pub byte_at : Text → Config Inlines → ℕ → Point → Config Inlines
byte_at text c b q = at_byte c (text.start c.point) b q

module _ {T : Type 0} (texts : List ℕ → Option (List ℕ)) (is_punctuation : ℕ → Bool) (x : Context T) (text : Text) where
  -- reading comes to whatever it comes to from there, and to nothing else
  pub record GoesOn (c : Config Inlines) (s : State) (d : Config Inlines) (t : State) : Type 0 where
    pub there : (e : Config Inlines) (w : Bool) → Reads texts is_punctuation x text d t e w → Reads texts is_punctuation x text c s e w
    pub only : (e : Config Inlines) (w : Bool) → Reads texts is_punctuation x text c s e w → Reads texts is_punctuation x text d t e w

  -- after an attempt that went well reading goes on before the next part; otherwise with the next choice, back at the byte and with the events of then
  abbrev pub Chooses : Config Inlines → InlineName → Config Inlines → InlineName → Config Inlines → Bool → Type 0
  Chooses c s at other d true = GoesOn c (next s) d (next state_inline.TextBefore)
  Chooses c s at other d false = GoesOn c (next s) (hand_on at d) (next other)
