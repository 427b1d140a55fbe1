-- What the states of autolinks do at each byte.
use Rattle.std.proofs.Common.{◌≡◌, ℕ, Bool, nat_lt, ◌==◌, ◌||◌, if◌then◌else◌, List, Option, Some, None, refl}
use Rattle.state_verdicts.proofs.Prelude.{Config, Context, Effect, ends_url, InlineName, Inlines, is_ascii_alphabetic, is_ascii_alphanumeric, is_atext, more}
use Rattle.state_verdicts.proofs.Prelude.{next, past_byte, plain, retry, run, with_enter, with_exit}
use Rattle.engine_events.specs.declared.event.Name.TheVariants as names
use Rattle.engine_states.specs.declared.state.Inline.TheVariants as state_inline
use Rattle.engine_states.specs.declared.state.Name.TheVariants.{Inline}
use Rattle.engine_states.specs.declared.state.State.TheVariants as states
use Rattle.state_inline.specs.Inlines.{bodies}

-- over the `<`
abbrev pub autolink_begun : Config Inlines → Config Inlines
autolink_begun c =
    with_enter names.AutolinkProtocol None
    (with_exit names.AutolinkMarker (past_byte (with_enter names.AutolinkMarker None (with_enter names.Autolink None c))))

-- over the `>`
abbrev pub autolink_closed : Config Inlines → Config Inlines
autolink_closed c =
    with_exit names.Autolink (with_exit names.AutolinkMarker (past_byte (with_enter names.AutolinkMarker None (with_exit names.AutolinkProtocol c))))

abbrev pub sized : ℕ → Config Inlines → Config Inlines
sized n c = record c { tokenize_state = record c.tokenize_state { size = n } }

-- over a byte that is counted
abbrev pub counted : Config Inlines → Config Inlines
counted c = past_byte (sized (more c.tokenize_state.size) c)

abbrev pub is_scheme : ℕ → Bool
is_scheme b = (b == 43) || (b == 45) || (b == 46) || is_ascii_alphanumeric b

module _ {T : Type 0} (texts : List ℕ → Option (List ℕ)) (is_punctuation : ℕ → Bool) (x : Context T) where
  abbrev pub does : InlineName → Config Inlines → Effect Inlines
  does n c = run (bodies texts is_punctuation x (Inline n)) c

  pub starts : (c : Config Inlines) (on : Bool) → c.current ≡ Some 60 → x.options.constructs.autolink ≡ on
      → does state_inline.AutolinkStart c ≡ (if on then plain (autolink_begun c) (next state_inline.AutolinkOpen) else plain c states.Nok)
  unfolding bodies
  starts c on h k = rw (h, k) refl

  pub open_ends : (c : Config Inlines) → c.current ≡ None → does state_inline.AutolinkOpen c ≡ plain c states.Nok
  unfolding bodies
  open_ends c h = rw h refl

  pub open_by : (b : ℕ) (c : Config Inlines) (letter at : Bool) → c.current ≡ Some b → is_ascii_alphabetic b ≡ letter → (b == 64) ≡ at
      → does state_inline.AutolinkOpen c
      ≡ (if letter then plain (past_byte c) (next state_inline.AutolinkSchemeOrEmailAtext) else if at then plain c states.Nok
      else plain c (retry state_inline.AutolinkEmailAtext))
  unfolding bodies
  open_by b c letter at h k l = rw (h, k, l) refl

  pub second_ends : (c : Config Inlines) → c.current ≡ None → does state_inline.AutolinkSchemeOrEmailAtext c ≡ plain c states.Nok
  unfolding bodies
  second_ends c h = rw h refl

  pub second_by : (b : ℕ) (c : Config Inlines) (scheme : Bool) → c.current ≡ Some b → is_scheme b ≡ scheme
      → does state_inline.AutolinkSchemeOrEmailAtext c ≡ (if scheme then plain (sized 1 c) (retry state_inline.AutolinkSchemeInsideOrEmailAtext)
      else plain c (retry state_inline.AutolinkEmailAtext))
  unfolding bodies
  second_by b c scheme h k = rw (h, k) refl

  pub scheme_ends : (c : Config Inlines) → c.current ≡ None → does state_inline.AutolinkSchemeInsideOrEmailAtext c ≡ plain c states.Nok
  unfolding bodies
  scheme_ends c h = rw h refl

  pub scheme_by : (b : ℕ) (c : Config Inlines) (colon scheme few : Bool) → c.current ≡ Some b → (b == 58) ≡ colon → is_scheme b ≡ scheme
      → nat_lt c.tokenize_state.size 32 ≡ few
      → does state_inline.AutolinkSchemeInsideOrEmailAtext c
      ≡ (if colon then plain (past_byte c) (next state_inline.AutolinkUrlInside)
      else if scheme then (if few then plain (counted c) (next state_inline.AutolinkSchemeInsideOrEmailAtext)
      else plain c (retry state_inline.AutolinkEmailAtext))
      else plain c (retry state_inline.AutolinkEmailAtext))
  unfolding bodies
  scheme_by b c colon scheme few h k l m = rw (h, k, l, m) refl

  pub url_ends : (c : Config Inlines) → c.current ≡ None → does state_inline.AutolinkUrlInside c ≡ plain c states.Nok
  unfolding bodies
  url_ends c h = rw h refl

  pub url_by : (b : ℕ) (c : Config Inlines) (closes ends : Bool) → c.current ≡ Some b → (b == 62) ≡ closes → ends_url b ≡ ends
      → does state_inline.AutolinkUrlInside c ≡ (if closes then plain (autolink_closed c) states.Ok else if ends then plain c states.Nok
      else plain (past_byte c) (next state_inline.AutolinkUrlInside))
  unfolding bodies
  url_by b c closes ends h k l = rw (h, k, l) refl

  pub name_ends : (c : Config Inlines) → c.current ≡ None → does state_inline.AutolinkEmailAtext c ≡ plain c states.Nok
  unfolding bodies
  name_ends c h = rw h refl

  pub name_by : (b : ℕ) (c : Config Inlines) (at name : Bool) → c.current ≡ Some b → (b == 64) ≡ at → is_atext b ≡ name
      → does state_inline.AutolinkEmailAtext c
      ≡ (if at then plain (past_byte (sized 0 c)) (next state_inline.AutolinkEmailAtSignOrDot) else if name
      then plain (past_byte c) (next state_inline.AutolinkEmailAtext) else plain c states.Nok)
  unfolding bodies
  name_by b c at name h k l = rw (h, k, l) refl

  pub label_start_ends : (c : Config Inlines) → c.current ≡ None → does state_inline.AutolinkEmailAtSignOrDot c ≡ plain c states.Nok
  unfolding bodies
  label_start_ends c h = rw h refl

  pub label_starts_by : (b : ℕ) (c : Config Inlines) (letter : Bool) → c.current ≡ Some b → is_ascii_alphanumeric b ≡ letter
      → does state_inline.AutolinkEmailAtSignOrDot c ≡ (if letter then plain c (retry state_inline.AutolinkEmailValue) else plain c states.Nok)
  unfolding bodies
  label_starts_by b c letter h k = rw (h, k) refl

  pub label_ends : (c : Config Inlines) → c.current ≡ None → does state_inline.AutolinkEmailLabel c ≡ plain c states.Nok
  unfolding bodies
  label_ends c h = rw h refl

  pub label_by : (b : ℕ) (c : Config Inlines) (dot closes : Bool) → c.current ≡ Some b → (b == 46) ≡ dot → (b == 62) ≡ closes
      → does state_inline.AutolinkEmailLabel c
      ≡ (if dot then plain (past_byte (sized 0 c)) (next state_inline.AutolinkEmailAtSignOrDot) else if closes then plain (autolink_closed c) states.Ok
      else plain c (retry state_inline.AutolinkEmailValue))
  unfolding bodies
  label_by b c dot closes h k l = rw (h, k, l) refl

  pub value_ends : (c : Config Inlines) → c.current ≡ None → does state_inline.AutolinkEmailValue c ≡ plain c states.Nok
  unfolding bodies
  value_ends c h = rw h refl

  pub value_by : (b : ℕ) (c : Config Inlines) (dash letter few : Bool) → c.current ≡ Some b → (b == 45) ≡ dash → is_ascii_alphanumeric b ≡ letter
      → nat_lt c.tokenize_state.size 63 ≡ few
      → does state_inline.AutolinkEmailValue c
      ≡ (if dash then (if few then plain (counted c) (next state_inline.AutolinkEmailValue) else plain c states.Nok)
      else if letter then (if few then plain (counted c) (next state_inline.AutolinkEmailLabel) else plain c states.Nok)
      else plain c states.Nok)
  unfolding bodies
  value_by b c dash letter few h k l m = rw (h, k, l, m) refl
