-- Bytes with which a construct may begin, and what is said of each of them.
use Rattle.std.specs.Prelude.{◌≡◌, ℕ, Bool, List, ◌∷◌, Option, Some}
use Rattle.engine_events.specs.declared.place.Point.{Point}
use Rattle.engine_states.specs.declared.state.Inline.{Inline as InlineName}
use Rattle.markdown_engine.specs.Context.{Context}
use Rattle.markdown_engine.specs.Reading.{Config}
use Rattle.markdown_engine.specs.VirtualText.{Text, as_byte}
use Rattle.state_table.specs.Words.{retry}
use Rattle.state_inline.specs.declared.inlines.Inlines.{Inlines}
use Rattle.state_verdicts.specs.Codes.{Sees}
use Rattle.state_verdicts.specs.Choices.{Chooses}
use Rattle.state_verdicts.specs.Verdicts.{Comes, Reads, at_byte}

-- this holds by all texts of names, all tables of punctuation and whatever else a text is read with, of each text and of whatever reading has come to
abbrev pub Wherever : (T : Type 0) → ((List ℕ → Option (List ℕ)) → (ℕ → Bool) → Context T → Text → Config Inlines → Type 0) → Type 0
Wherever T says =
    (texts : List ℕ → Option (List ℕ)) (is_punctuation : ℕ → Bool) (x : Context T) (text : Text) (c : Config Inlines) → says texts is_punctuation x text c

-- a byte with which a construct may begin: what the text is read with, the text, what reading has come to, the byte, where it stands, the place after it, and
-- the codes after it
pub record Beginning (T : Type 0) : Type 0 where
  pub texts : List ℕ → Option (List ℕ)
  pub is_punctuation : ℕ → Bool
  pub context : Context T
  pub text : Text
  pub config : Config Inlines
  pub byte : ℕ
  pub place : Point
  pub after : Point
  pub rest : List ℕ

module _ {T : Type 0} (texts : List ℕ → Option (List ℕ)) (is_punctuation : ℕ → Bool) (x : Context T) (text : Text) (c : Config Inlines) where
  abbrev pub beginning : ℕ → Point → Point → List ℕ → Beginning T
  beginning b p q cs = record {
    texts = texts;
    is_punctuation = is_punctuation;
    context = x;
    text = text;
    config = c;
    byte = b;
    place = p;
    after = q;
    rest = cs;
  }

-- this holds wherever such a byte may be at hand
abbrev pub AtByte : (T : Type 0) → ℕ → (Beginning T → Type 0) → Type 0
AtByte T b says = Wherever T (λ texts is_punctuation x text c. (p q : Point) (cs : List ℕ) → says (beginning texts is_punctuation x text c b p q cs))

-- this holds wherever such a byte may come next
abbrev pub BeforeByte : (T : Type 0) → ℕ → (Beginning T → Type 0) → Type 0
BeforeByte T b says = Wherever T (λ texts is_punctuation x text c. (q : Point) (cs : List ℕ) → says
    (beginning texts is_punctuation x text c b (text.start c.point) q cs))

module _ {T : Type 0} (here : Beginning T) where
  -- the byte is at hand
  abbrev pub at_hand : Config Inlines
  at_hand = at_byte here.config here.place here.byte here.after

  -- the byte and the codes after it
  abbrev pub all_codes : List ℕ
  all_codes = here.byte ∷ here.rest

  -- the codes after the byte are seen
  abbrev pub AreSeen : Type 0
  AreSeen = Sees here.text here.after here.rest

  -- the byte is the next one of the text
  abbrev pub ComesNext : Type 0
  ComesNext = here.text.byte (here.text.start here.config.point) ≡ Some (as_byte here.byte here.after)

  -- what an attempt at the byte comes to that begins with a state
  abbrev pub attempt : InlineName → Comes
  attempt start = Reads here.texts here.is_punctuation here.context here.text at_hand (retry start)

  -- what a state comes to by an attempt at a configuration, or else by another state
  abbrev pub choice_at : InlineName → Config Inlines → InlineName → Comes
  choice_at s at other = Chooses here.texts here.is_punctuation here.context here.text here.config s at other

  -- the same, where the byte is at hand
  abbrev pub choice : InlineName → InlineName → Comes
  choice s other = choice_at s at_hand other
