-- The states of a hard break by a backslash read what the definition calls one, and nothing else.
use Rattle.std.proofs.Common.{◌≡◌, ◌∙◌, ℕ, Bool, true, false, ◌==◌, ◌&&◌, if◌then◌else◌, List, [], ◌∷◌, Option, Some, None, refl, sym, subst, append_assoc}
use Rattle.state_verdicts.proofs.Prelude.{as_byte, break_events, byte, Config, Context, Effect, ends-nok, ends-ok, ends_apart, escaped_break_at, Found}
use Rattle.state_verdicts.proofs.Prelude.{Inlines, is_eol, leaf, LeavesEvents, not-true, nothing, past_byte, plain, Point, run, Sees, tab, Text, text_byte}
use Rattle.state_verdicts.proofs.Prelude.{Verdict, VirtualByte, with_byte, with_enter, with_exit}
use Rattle.definition_inline.specs.Inline.{EscapedBreak}
use Rattle.engine_events.specs.declared.event.Name.TheVariants as names
use Rattle.engine_states.specs.declared.state.Inline.TheVariants as state_inline
use Rattle.engine_states.specs.declared.state.Name.TheVariants.{Inline}
use Rattle.engine_states.specs.declared.state.State.TheVariants as states
use Rattle.state_inline.specs.Inlines.{bodies}
use Rattle.state_verdicts.specs.HardBreakEscape.{BreakVerdict}
use Rattle.state_verdicts.specs.Verdicts.{Reads}
use Rattle.state_verdicts.proofs.Turns.{RunsOn, on_next, on_retry}
use Rattle.state_verdicts.proofs.Seen.{seen_feed}

-- after the backslash
opened : Config Inlines → Config Inlines
opened c = past_byte (with_enter names.HardBreakEscape None c)

module _ {T : Type 0} (texts : List ℕ → Option (List ℕ)) (is_punctuation : ℕ → Bool) (x : Context T) (text : Text) where
  -- at a backslash
  at_mark : Config Inlines → Point → Point → Config Inlines
  at_mark c p q = with_byte c p (Some (as_byte 92 q))

  -- the second state is at this byte, or at the text's end
  at_second : Config Inlines → Point → Point → Option VirtualByte → Config Inlines
  at_second c p q v = with_byte (opened (at_mark c p q)) (text.start q) v

  starts : (c : Config Inlines) (p q : Point) (on : Bool) → x.options.constructs.hard_break_escape ≡ on
      → run (bodies texts is_punctuation x (Inline state_inline.HardBreakEscapeStart)) (at_mark c p q)
      ≡ (if on then plain (opened (at_mark c p q)) (states.Next (Inline state_inline.HardBreakEscapeAfter)) else plain (at_mark c p q) states.Nok)
  unfolding bodies opened at_mark
  starts c p q on h = rw h refl

  -- where such breaks are off
  refused : (c : Config Inlines) (p q : Point) → x.options.constructs.hard_break_escape ≡ false
      → Reads texts is_punctuation x text (at_mark c p q) (states.Retry (Inline state_inline.HardBreakEscapeStart)) (at_mark c p q) false
  refused c p q off = on_retry texts is_punctuation x text (Inline state_inline.HardBreakEscapeStart) (at_mark c p q) (at_mark c p q) false
      (plain (at_mark c p q) states.Nok) (starts c p q false off) ends-nok

  begins : (c d : Config Inlines) (p q : Point) (w : Bool) → x.options.constructs.hard_break_escape ≡ true
      → Reads texts is_punctuation x text (opened (at_mark c p q)) (states.Next (Inline state_inline.HardBreakEscapeAfter)) d w
      → Reads texts is_punctuation x text (at_mark c p q) (states.Retry (Inline state_inline.HardBreakEscapeStart)) d w
  unfolding Reads
  begins c d p q w on r = on_retry texts is_punctuation x text (Inline state_inline.HardBreakEscapeStart) (at_mark c p q) d w
      (plain (opened (at_mark c p q)) (states.Next (Inline state_inline.HardBreakEscapeAfter))) (starts c p q true on) r

  none_does : (c : Config Inlines) (p q : Point) → run (bodies texts is_punctuation x (Inline state_inline.HardBreakEscapeAfter)) (at_second c p q None)
      ≡ plain (at_second c p q None) states.Nok
  unfolding bodies at_second
  none_does c p q = refl

  second_does : (c : Config Inlines) (p q : Point) (v : VirtualByte) (is : Bool) → (v.byte == 10) ≡ is
      → run (bodies texts is_punctuation x (Inline state_inline.HardBreakEscapeAfter)) (at_second c p q (Some v))
      ≡ (if is then plain (with_exit names.HardBreakEscape (at_second c p q (Some v))) states.Ok else plain (at_second c p q (Some v)) states.Nok)
  unfolding bodies at_second
  second_does c p q v is h = rw h refl

  goes_on : (c d : Config Inlines) (p q : Point) (v : Option VirtualByte) (w : Bool) (e : Effect Inlines) → x.options.constructs.hard_break_escape ≡ true
      → text.byte (text.start q) ≡ v
      → run (bodies texts is_punctuation x (Inline state_inline.HardBreakEscapeAfter)) (at_second c p q v) ≡ e → RunsOn texts is_punctuation x text e d w
      → Reads texts is_punctuation x text (at_mark c p q) (states.Retry (Inline state_inline.HardBreakEscapeStart)) d w
  unfolding opened at_mark at_second
  goes_on c d p q v w e on h k r =
      begins c d p q w on (on_next texts is_punctuation x text (Inline state_inline.HardBreakEscapeAfter) (opened (at_mark c p q)) d v w e h k r)

  goes : (c : Config Inlines) (p q : Point) (v : VirtualByte) → x.options.constructs.hard_break_escape ≡ true → text.byte (text.start q) ≡ Some v
      → (v.byte == 10) ≡ true
      → Reads texts is_punctuation x text (at_mark c p q) (states.Retry (Inline state_inline.HardBreakEscapeStart))
      (with_exit names.HardBreakEscape (at_second c p q (Some v))) true
  goes c p q v on h k = goes_on c (with_exit names.HardBreakEscape (at_second c p q (Some v))) p q (Some v) true
      (plain (with_exit names.HardBreakEscape (at_second c p q (Some v))) states.Ok) on h (second_does c p q v true k) ends-ok

  made : (c : Config Inlines) (p q : Point) (v : VirtualByte)
      → LeavesEvents (at_mark c p q) (with_exit names.HardBreakEscape (at_second c p q (Some v))) (break_events p (text.start q)) (text.start q)
  unfolding at_mark at_second opened
  made c p q v = record { events = simp append_assoc refl; point = refl; kept = refl; map = refl; resolvers = refl }

  The_verdict : Config Inlines → Point → Point → List ℕ → Option Found → Type 0
  The_verdict c p q cs leaf = Verdict text (Reads texts is_punctuation x text (at_mark c p q) (states.Retry (Inline state_inline.HardBreakEscapeStart)))
      (at_mark c p q) (92 ∷ cs) (λ end. break_events p (text.start end)) text.start leaf

  -- the second byte is no line feed, or there is none
  Differs : Option VirtualByte → Type 0
  Differs None = Unit {0}
  Differs (Some v) = (v.byte == 10) ≡ false

  none_there : (c : Config Inlines) (p q : Point) (v : Option VirtualByte) (cs : List ℕ) (on : Bool) → x.options.constructs.hard_break_escape ≡ on
      → text.byte (text.start q) ≡ v → Differs v → The_verdict c p q cs None
  unfolding The_verdict Differs
  none_there c p q None cs true h e k =
      (_, goes_on c (at_second c p q None) p q None false (plain (at_second c p q None) states.Nok) h e (none_does c p q) ends-nok)
  none_there c p q (Some v) cs true h e k =
      (_, goes_on c (at_second c p q (Some v)) p q (Some v) false (plain (at_second c p q (Some v)) states.Nok) h e (second_does c p q v false k) ends-nok)
  none_there c p q v cs false h e k = (_, refused c p q h)

  by_second : (c : Config Inlines) (p q r : Point) (code : ℕ) (cs : List ℕ) (on is : Bool) → x.options.constructs.hard_break_escape ≡ on → is_eol code ≡ is
      → text.byte (text.start q) ≡ Some (as_byte (text_byte code) r) → Sees text q (code ∷ cs)
      → The_verdict c p q (code ∷ cs) (if on && is then Some (leaf (EscapedBreak ∷ []) 1) else None)
  unfolding The_verdict Differs
  by_second c p q r code cs true true h k e s =
      (_, q, goes c p q (as_byte (text_byte code) r) h e (seen_feed code ∙ k), made c p q (as_byte (text_byte code) r), s)
  by_second c p q r code cs true false h k e s = none_there c p q (Some (as_byte (text_byte code) r)) (code ∷ cs) true h e (seen_feed code ∙ k)
  by_second c p q r code cs false is h k e s = (_, refused c p q h)

  no_break : (on : Bool) → (on && false) ≡ false
  no_break true = refl
  no_break false = refl

  nothing_by : (c : Config Inlines) (p q : Point) (v : Option VirtualByte) (cs : List ℕ) → text.byte (text.start q) ≡ v → Differs v
      → The_verdict c p q cs (if x.options.constructs.hard_break_escape && false then Some (leaf (EscapedBreak ∷ []) 1) else None)
  nothing_by c p q v cs e k =
      subst (λ (b : Bool). The_verdict c p q cs (if b then Some (leaf (EscapedBreak ∷ []) 1) else None)) (sym (no_break x.options.constructs.hard_break_escape))
      (none_there c p q v cs x.options.constructs.hard_break_escape refl e k)

  by_code : (c : Config Inlines) (p q r : Point) (code : ℕ) (cs : List ℕ) → text.byte (text.start q) ≡ Some (as_byte (text_byte code) r)
      → Sees text q (code ∷ cs)
      → ends_apart (code ∷ cs) ≡ true
      → The_verdict c p q (code ∷ cs) (escaped_break_at x.options.constructs (92 ∷ code ∷ cs))
  unfolding Differs
  by_code c p q r code [] e s apart = nothing_by c p q (Some (as_byte (text_byte code) r)) (code ∷ []) e (seen_feed code ∙ not-true (is_eol code) apart)
  by_code c p q r code (d ∷ cs) e s apart = by_second c p q r code (d ∷ cs) x.options.constructs.hard_break_escape (is_eol code) refl refl e s

  at_tab : (c : Config Inlines) (p q r : Point) (cs : List ℕ) → text.byte (text.start q) ≡ Some (as_byte 9 r)
      → The_verdict c p q (9 ∷ cs) (escaped_break_at x.options.constructs (92 ∷ 9 ∷ cs))
  unfolding Differs
  at_tab c p q r [] e = nothing_by c p q (Some (as_byte 9 r)) (9 ∷ []) e refl
  at_tab c p q r (d ∷ cs) e = nothing_by c p q (Some (as_byte 9 r)) (9 ∷ d ∷ cs) e refl

  by_sight : (c : Config Inlines) (p q : Point) (cs : List ℕ) → Sees text q cs → ends_apart cs ≡ true
      → The_verdict c p q cs (escaped_break_at x.options.constructs (92 ∷ cs))
  unfolding Differs
  by_sight c p q [] (nothing e) apart = nothing_by c p q None [] e tt
  by_sight c p q (code ∷ cs) (byte {q = r} no_tab e s) apart = by_code c p q r code cs e (byte no_tab e s) apart
  by_sight c p q (code ∷ cs) (tab {q = r} few e _ s) apart = at_tab c p q r cs e

pub break_verdict : (T : Type 0) → BreakVerdict T
unfolding The_verdict at_mark
break_verdict T texts is_punctuation x text c p q cs s apart = by_sight texts is_punctuation x text c p q cs s apart
