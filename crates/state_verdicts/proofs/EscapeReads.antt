-- The states of an escape read what the definition calls one, and nothing else.
use Rattle.std.proofs.Common.{◌≡◌, ◌∙◌, ℕ, Bool, true, false, ◌==◌, ◌&&◌, if◌then◌else◌, List, [], ◌∷◌, Option, Some, None, refl, append_assoc}
use Rattle.state_verdicts.proofs.Prelude.{as_byte, byte, Config, Context, Effect, ends-nok, ends-ok, escape_at, escape_events, Found, Inlines}
use Rattle.state_verdicts.proofs.Prelude.{is_ascii_punctuation, leaf, LeavesEvents, nothing, past_byte, plain, Point, run, Sees, tab, Text, text_byte, Verdict}
use Rattle.state_verdicts.proofs.Prelude.{VirtualByte, with_byte, with_enter, with_exit}
use Rattle.definition_inline.specs.Inline.{Escape}
use Rattle.engine_events.specs.declared.event.Name.TheVariants as names
use Rattle.engine_states.specs.declared.state.Inline.TheVariants as state_inline
use Rattle.engine_states.specs.declared.state.Name.TheVariants.{Inline}
use Rattle.engine_states.specs.declared.state.State.TheVariants as states
use Rattle.state_inline.specs.Inlines.{bodies}
use Rattle.state_verdicts.specs.CharacterEscape.{EscapeVerdict}
use Rattle.state_verdicts.specs.Verdicts.{Reads}
use Rattle.state_verdicts.proofs.Turns.{RunsOn, on_next, on_retry}
use Rattle.state_verdicts.proofs.Seen.{no_feed, seen_punctuation}

-- after the backslash
opened : Config Inlines → Config Inlines
opened c = with_exit names.CharacterEscapeMarker (past_byte (with_enter names.CharacterEscapeMarker None (with_enter names.CharacterEscape None c)))

-- after what it escapes
closed : Config Inlines → Config Inlines
closed c = with_exit names.CharacterEscape (with_exit names.CharacterEscapeValue (past_byte (with_enter names.CharacterEscapeValue None c)))

module _ {T : Type 0} (texts : List ℕ → Option (List ℕ)) (is_punctuation : ℕ → Bool) (x : Context T) (text : Text) where
  -- at a backslash
  at_mark : Config Inlines → Point → Point → Config Inlines
  at_mark c p q = with_byte c p (Some (as_byte 92 q))

  -- the second state is at this byte, or at the text's end
  at_second : Config Inlines → Point → Point → Option VirtualByte → Config Inlines
  at_second c p q v = with_byte (opened (at_mark c p q)) (text.start q) v

  starts : (c : Config Inlines) (p q : Point) (on : Bool) → x.options.constructs.character_escape ≡ on
      → run (bodies texts is_punctuation x (Inline state_inline.CharacterEscapeStart)) (at_mark c p q)
      ≡ (if on then plain (opened (at_mark c p q)) (states.Next (Inline state_inline.CharacterEscapeInside)) else plain (at_mark c p q) states.Nok)
  unfolding bodies opened at_mark
  starts c p q on h = rw h refl

  -- where escapes are off
  refused : (c : Config Inlines) (p q : Point) → x.options.constructs.character_escape ≡ false
      → Reads texts is_punctuation x text (at_mark c p q) (states.Retry (Inline state_inline.CharacterEscapeStart)) (at_mark c p q) false
  refused c p q off = on_retry texts is_punctuation x text (Inline state_inline.CharacterEscapeStart) (at_mark c p q) (at_mark c p q) false
      (plain (at_mark c p q) states.Nok) (starts c p q false off) ends-nok

  begins : (c d : Config Inlines) (p q : Point) (w : Bool) → x.options.constructs.character_escape ≡ true
      → Reads texts is_punctuation x text (opened (at_mark c p q)) (states.Next (Inline state_inline.CharacterEscapeInside)) d w
      → Reads texts is_punctuation x text (at_mark c p q) (states.Retry (Inline state_inline.CharacterEscapeStart)) d w
  unfolding Reads
  begins c d p q w on r = on_retry texts is_punctuation x text (Inline state_inline.CharacterEscapeStart) (at_mark c p q) d w
      (plain (opened (at_mark c p q)) (states.Next (Inline state_inline.CharacterEscapeInside))) (starts c p q true on) r

  none_does : (c : Config Inlines) (p q : Point) → run (bodies texts is_punctuation x (Inline state_inline.CharacterEscapeInside)) (at_second c p q None)
      ≡ plain (at_second c p q None) states.Nok
  unfolding bodies at_second
  none_does c p q = refl

  second_does : (c : Config Inlines) (p q : Point) (v : VirtualByte) (is : Bool) → is_ascii_punctuation v.byte ≡ is
      → run (bodies texts is_punctuation x (Inline state_inline.CharacterEscapeInside)) (at_second c p q (Some v))
      ≡ (if is then plain (closed (at_second c p q (Some v))) states.Ok else plain (at_second c p q (Some v)) states.Nok)
  unfolding bodies at_second closed
  second_does c p q v is h = rw h refl

  at_place : (c : Config Inlines) (p q : Point) → (opened (at_mark c p q)).point ≡ q
  unfolding opened at_mark
  at_place c p q = refl

  goes_on : (c d : Config Inlines) (p q : Point) (v : Option VirtualByte) (w : Bool) (e : Effect Inlines) → x.options.constructs.character_escape ≡ true
      → text.byte (text.start q) ≡ v
      → run (bodies texts is_punctuation x (Inline state_inline.CharacterEscapeInside)) (at_second c p q v) ≡ e → RunsOn texts is_punctuation x text e d w
      → Reads texts is_punctuation x text (at_mark c p q) (states.Retry (Inline state_inline.CharacterEscapeStart)) d w
  unfolding opened at_mark at_second
  goes_on c d p q v w e on h k r =
      begins c d p q w on (on_next texts is_punctuation x text (Inline state_inline.CharacterEscapeInside) (opened (at_mark c p q)) d v w e h k r)

  fails_at_end : (c : Config Inlines) (p q : Point) → x.options.constructs.character_escape ≡ true → text.byte (text.start q) ≡ None
      → Reads texts is_punctuation x text (at_mark c p q) (states.Retry (Inline state_inline.CharacterEscapeStart)) (at_second c p q None) false
  fails_at_end c p q on h = goes_on c (at_second c p q None) p q None false (plain (at_second c p q None) states.Nok) on h (none_does c p q) ends-nok

  fails : (c : Config Inlines) (p q : Point) (v : VirtualByte) → x.options.constructs.character_escape ≡ true → text.byte (text.start q) ≡ Some v
      → is_ascii_punctuation v.byte ≡ false
      → Reads texts is_punctuation x text (at_mark c p q) (states.Retry (Inline state_inline.CharacterEscapeStart)) (at_second c p q (Some v)) false
  fails c p q v on h k = goes_on c (at_second c p q (Some v)) p q (Some v) false (plain (at_second c p q (Some v)) states.Nok) on h
      (second_does c p q v false k) ends-nok

  goes : (c : Config Inlines) (p q : Point) (v : VirtualByte) → x.options.constructs.character_escape ≡ true → text.byte (text.start q) ≡ Some v
      → is_ascii_punctuation v.byte ≡ true
      → Reads texts is_punctuation x text (at_mark c p q) (states.Retry (Inline state_inline.CharacterEscapeStart)) (closed (at_second c p q (Some v))) true
  goes c p q v on h k = goes_on c (closed (at_second c p q (Some v))) p q (Some v) true (plain (closed (at_second c p q (Some v))) states.Ok) on h
      (second_does c p q v true k) ends-ok

  made : (c : Config Inlines) (p q r : Point) (b : ℕ) → (b == 10) ≡ false
      → LeavesEvents (at_mark c p q) (closed (at_second c p q (Some (as_byte b r)))) (escape_events p q (text.start q) r) r
  unfolding at_mark at_second opened closed
  made c p q r b f = record { events = rw f (simp append_assoc refl); point = refl; kept = refl; map = refl; resolvers = refl }

  The_verdict : Config Inlines → Point → Point → List ℕ → Option Found → Type 0
  The_verdict c p q cs leaf = Verdict text (Reads texts is_punctuation x text (at_mark c p q) (states.Retry (Inline state_inline.CharacterEscapeStart)))
      (at_mark c p q) (92 ∷ cs) (escape_events p q (text.start q)) (λ end. end) leaf

  by_second : (c : Config Inlines) (p q r : Point) (code : ℕ) (cs : List ℕ) (on is : Bool) → x.options.constructs.character_escape ≡ on
      → is_ascii_punctuation code ≡ is
      → text.byte (text.start q) ≡ Some (as_byte (text_byte code) r) → Sees text r cs
      → The_verdict c p q (code ∷ cs) (if on && is then Some (leaf (Escape code ∷ []) 2) else None)
  unfolding The_verdict
  by_second c p q r code cs true true h k e s =
      let punctuation : is_ascii_punctuation (text_byte code) ≡ true = seen_punctuation code ∙ k in (
        _,
        r,
        goes c p q (as_byte (text_byte code) r) h e punctuation,
        made c p q r (text_byte code) (no_feed (text_byte code) (text_byte code == 10) refl punctuation),
        s,
      )
  by_second c p q r code cs true false h k e s =
      (_, fails c p q (as_byte (text_byte code) r) h e (seen_punctuation code ∙ k))
  by_second c p q r code cs false is h k e s = (_, refused c p q h)

  at_end : (c : Config Inlines) (p q : Point) (on : Bool) → x.options.constructs.character_escape ≡ on → text.byte (text.start q) ≡ None
      → The_verdict c p q [] None
  unfolding The_verdict
  at_end c p q true h e = (_, fails_at_end c p q h e)
  at_end c p q false h e = (_, refused c p q h)

  at_tab : (c : Config Inlines) (p q r : Point) (cs : List ℕ) (on : Bool) → x.options.constructs.character_escape ≡ on
      → text.byte (text.start q) ≡ Some (as_byte 9 r)
      → The_verdict c p q (9 ∷ cs) (if on && false then Some (leaf (Escape 9 ∷ []) 2) else None)
  unfolding The_verdict
  at_tab c p q r cs true h e = (_, fails c p q (as_byte 9 r) h e refl)
  at_tab c p q r cs false h e = (_, refused c p q h)

  by_sight : (c : Config Inlines) (p q : Point) (cs : List ℕ) → Sees text q cs → The_verdict c p q cs (escape_at x.options.constructs (92 ∷ cs))
  by_sight c p q [] (nothing e) = at_end c p q x.options.constructs.character_escape refl e
  by_sight c p q (code ∷ cs) (byte {q = r} apart e s) =
      by_second c p q r code cs x.options.constructs.character_escape (is_ascii_punctuation code) refl refl e s
  by_sight c p q (code ∷ cs) (tab {q = r} few e _ s) = at_tab c p q r cs x.options.constructs.character_escape refl e

pub escape_verdict : (T : Type 0) → EscapeVerdict T
unfolding The_verdict at_mark
escape_verdict T texts is_punctuation x text c p q cs s = by_sight texts is_punctuation x text c p q cs s
