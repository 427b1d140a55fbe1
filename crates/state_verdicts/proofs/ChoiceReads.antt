-- A choice comes to what its attempt comes to, and then to what reading on from there does.
use Rattle.std.proofs.Common.{◌≡◌, ℕ, Bool, true, false, List, Option, Some, None, sym, subst}
use Rattle.state_verdicts.proofs.Prelude.{AddressVerdict, Chooses, Config, Context, Effect, Event, feed, Found, GoesOn, hand_on, InlineName, Inlines, plain}
use Rattle.state_verdicts.proofs.Prelude.{Point, ReferenceVerdict, run, SpanNames, SpanVerdict, State, Text, tries, Verdict, VirtualByte, with_byte}
use Rattle.engine_states.specs.declared.label.LabelKind.{LabelKind}
use Rattle.engine_states.specs.declared.state.Inline.TheVariants as state_inline
use Rattle.engine_states.specs.declared.state.Name.TheVariants.{Inline}
use Rattle.engine_states.specs.declared.state.State.TheVariants as states
use Rattle.markdown_engine.specs.Reading.{first, next, second}
use Rattle.markdown_engine.specs.ReadingLaws.{one_outcome}
use Rattle.state_inline.specs.Inlines.{bodies}
use Rattle.state_verdicts.specs.Beginnings.{Beginning}
use Rattle.state_verdicts.specs.LabelStarts.{StartVerdict}
use Rattle.state_verdicts.specs.Verdicts.{Comes, Reads}
use Rattle.state_verdicts.proofs.Turns.{RunsOn, on_next}

module _ {T : Type 0} (texts : List ℕ → Option (List ℕ)) (is_punctuation : ℕ → Bool) (x : Context T) (text : Text) where
  -- what a state comes to is what it comes to from the next byte
  from_next : (n : InlineName) (c e : Config Inlines) (w : Bool) → Reads texts is_punctuation x text c (states.Next (Inline n)) e w
      → RunsOn texts is_punctuation x text (run (bodies texts is_punctuation x (Inline n)) (feed text c)) e w
  unfolding Reads
  from_next n c e w (next r) = r

  on_byte : (s : InlineName) (c e : Config Inlines) (v : Option VirtualByte) (w : Bool) (f : Effect Inlines) → text.byte (text.start c.point) ≡ v
      → run (bodies texts is_punctuation x (Inline s)) (with_byte c (text.start c.point) v) ≡ f
      → Reads texts is_punctuation x text c (states.Next (Inline s)) e w → RunsOn texts is_punctuation x text f e w
  on_byte s c e v w f stands does r =
      subst (λ (z : Effect Inlines). RunsOn texts is_punctuation x text z e w) does
      (subst (λ (z : Option VirtualByte). RunsOn texts is_punctuation x text
      (run (bodies texts is_punctuation x (Inline s)) (with_byte c (text.start c.point) z)) e w) stands (from_next s c e w r))

  -- a state that makes no attempt goes on by what it does
  pub go_on : (c d : Config Inlines) (s : InlineName) (v : Option VirtualByte) (t : State) → text.byte (text.start c.point) ≡ v
      → run (bodies texts is_punctuation x (Inline s)) (with_byte c (text.start c.point) v) ≡ plain d t
      → GoesOn texts is_punctuation x text c (states.Next (Inline s)) d t
  unfolding Reads
  go_on c d s v t stands does = record {
    there = λ e w r. on_next texts is_punctuation x text (Inline s) c e v w (plain d t) stands does r;
    only = λ e w r. on_byte s c e v w (plain d t) stands does r;
  }

  -- reading goes on from where it goes on
  pub and_on : {c d e : Config Inlines} {s t u : State} → GoesOn texts is_punctuation x text c s d t → GoesOn texts is_punctuation x text d t e u
      → GoesOn texts is_punctuation x text c s e u
  and_on first_part second_part = record {
    there = λ f w r. first_part.there f w (second_part.there f w r);
    only = λ f w r. second_part.only f w (first_part.only f w r);
  }

  -- before the next part
  abbrev onward : State
  onward = states.Next (Inline state_inline.TextBefore)

  -- an attempt that went well is behind
  past_attempt : (at d e : Config Inlines) (start nok : State) (w : Bool) → Reads texts is_punctuation x text at start d true
      → RunsOn texts is_punctuation x text (tries onward nok at start) e w → Reads texts is_punctuation x text d onward e w
  unfolding Reads
  past_attempt at d e start nok w r (first q k) = subst (λ (z : Config Inlines). Reads texts is_punctuation x text z onward e w) (sym (one_outcome r q).0) k
  past_attempt at d e start nok w r (second q k) = absurd (let f : true ≡ false = (one_outcome r q).1 in cc)

  -- one that failed is, too
  past_failure : (at d e : Config Inlines) (start nok : State) (w : Bool) → Reads texts is_punctuation x text at start d false
      → RunsOn texts is_punctuation x text (tries onward nok at start) e w → Reads texts is_punctuation x text (hand_on at d) nok e w
  unfolding Reads
  past_failure at d e start nok w r (first q k) = absurd (let f : false ≡ true = (one_outcome r q).1 in cc)
  past_failure at d e start nok w r (second q k) =
      subst (λ (z : Config Inlines). Reads texts is_punctuation x text (hand_on at z) nok e w) (sym (one_outcome r q).0) k

  module _ (c : Config Inlines) (v : Option VirtualByte) (s other : InlineName) (start : State) (stands : text.byte (text.start c.point) ≡ v)
      (does : run (bodies texts is_punctuation x (Inline s)) (with_byte c (text.start c.point) v)
      ≡ tries onward (states.Next (Inline other)) (with_byte c (text.start c.point) v) start) where
    abbrev at : Config Inlines
    at = with_byte c (text.start c.point) v

    abbrev nok : State
    nok = states.Next (Inline other)

    abbrev Attempt : Config Inlines → Bool → Type 0
    Attempt e w = RunsOn texts is_punctuation x text (tries onward nok at start) e w

    by_attempt : (e : Config Inlines) (w : Bool) → Attempt e w → Reads texts is_punctuation x text c (states.Next (Inline s)) e w
    by_attempt e w r = on_next texts is_punctuation x text (Inline s) c e v w (tries onward nok at start) stands does r

    to_attempt : (e : Config Inlines) (w : Bool) → Reads texts is_punctuation x text c (states.Next (Inline s)) e w → Attempt e w
    to_attempt e w r = on_byte s c e v w (tries onward nok at start) stands does r

    -- a state that makes an attempt comes to what reading on does once the attempt was made
    pub choice : (d : Config Inlines) (w : Bool) → Reads texts is_punctuation x text at start d w → Chooses texts is_punctuation x text c s at other d w
    unfolding Reads
    choice d true r = record {
      there = λ e w k. by_attempt e w (first r k);
      only = λ e w k. past_attempt at d e start nok w r (to_attempt e w k);
    }
    choice d false r = record {
      there = λ e w k. by_attempt e w (second r k);
      only = λ e w k. past_failure at d e start nok w r (to_attempt e w k);
    }

-- whatever follows from what an attempt comes to may be said in its place
module _ (text : Text) (old new : Comes) (follows : (d : Config Inlines) (w : Bool) → old d w → new d w) where
  pub of_leaf : (c : Config Inlines) (cs : List ℕ) (events : Point → List Event) (stands : Point → Point) (leaf : Option Found)
      → Verdict text old c cs events stands leaf → Verdict text new c cs events stands leaf
  of_leaf c cs events stands None (d, r) = (d, follows d false r)
  of_leaf c cs events stands (Some leaf) (d, end, r, leaves, sees) = (d, end, follows d true r, leaves, sees)

  pub of_start : {T : Type 0} (here : Beginning T) (kind : LabelKind) (size : ℕ) (events : Point → List Event) (stands : Point → Point) (is : Bool)
      → StartVerdict here old kind size events stands is → StartVerdict here new kind size events stands is
  of_start here kind size events stands true (d, end, r, leaves, sees) = (d, end, follows d true r, leaves, sees)
  of_start here kind size events stands false (d, r) = (d, follows d false r)

  pub of_reference : (c : Config Inlines) (p q : Point) (cs : List ℕ) (leaf : Option Found) → ReferenceVerdict text old c p q cs leaf
      → ReferenceVerdict text new c p q cs leaf
  of_reference c p q cs None (d, r) = (d, follows d false r)
  of_reference c p q cs (Some leaf) (d, marker, size, added, end, r, is, leaves, sees) =
      (d, marker, size, added, end, follows d true r, is, leaves, sees)

  pub of_autolink : (c : Config Inlines) (p q : Point) (cs : List ℕ) (leaf : Option Found) → AddressVerdict text old c p q cs leaf
      → AddressVerdict text new c p q cs leaf
  of_autolink c p q cs None (d, r) = (d, follows d false r)
  of_autolink c p q cs (Some leaf) (d, size, to, end, r, closes, leaves, sees) =
      (d, size, to, end, follows d true r, closes, leaves, sees)

  pub of_span : (given : SpanNames) (marker : ℕ) (c : Config Inlines) (p q : Point) (cs : List ℕ) (leaf : Option Found)
      → SpanVerdict text old given marker c p q cs leaf → SpanVerdict text new given marker c p q cs leaf
  of_span given marker c p q cs None (d, r) = (d, follows d false r)
  of_span given marker c p q cs (Some leaf) (d, size, added, end, r, is, leaves, sees) =
      (d, size, added, end, follows d true r, is, leaves, sees)
