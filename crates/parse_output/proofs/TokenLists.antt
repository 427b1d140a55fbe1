-- Tokens and more tokens.
use Rattle.std.proofs.Common.{◌≡◌, ℕ, List, [], ◌∷◌, ◌++◌, None, inl, inr, refl, sym, ap, subst, ◌∙◌, append_assoc, length, ◌<◌, take, drop}
use Rattle.parse_output.proofs.Prelude.{ArePlaced, event, Event, fold, IsPlace, IsTold, mark_size, Name, next_spot, place, Place, point_at, Spot, spot_at}
use Rattle.parse_output.proofs.Prelude.{sub_self}
use Rattle.std.proofs.Math.Nat.{lt_irrefl}
use Rattle.engine_events.specs.declared.event.Kind.TheVariants as kind
use Rattle.parse_output.specs.Tokens.{Token, Enter, Exit, Void, AreOnward, GoesOn, IsWhole, token_end, token_events, tokens_end, tokens_events}
use Rattle.parse_output.specs.Placed.{beginning}

pub end-append : (text : List ℕ) (p : Place) (ts us : List Token) → tokens_end text p (ts ++ us) ≡ tokens_end text (tokens_end text p ts) us
end-append text p [] us = refl
end-append text p (t ∷ ts) us = end-append text (token_end text p t) ts us

pub events-append : (text : List ℕ) (p : Place) (ts us : List Token)
    → tokens_events text p (ts ++ us) ≡ tokens_events text p ts ++ tokens_events text (tokens_end text p ts) us
events-append text p [] us = refl
events-append text p (t ∷ ts) us =
    ap (λ es. token_events text p t ++ es) (events-append text (token_end text p t) ts us)
    ∙ sym (append_assoc (token_events text p t) (tokens_events text (token_end text p t) ts) (tokens_events text (tokens_end text p (t ∷ ts)) us))

pub onward-append : (text : List ℕ) (p : Place) (ts us : List Token)
    → AreOnward text p ts → AreOnward text (tokens_end text p ts) us → AreOnward text p (ts ++ us)
onward-append text p [] us first second = second
onward-append text p (Enter name ∷ ts) us first second = onward-append text p ts us first second
onward-append text p (Exit name ∷ ts) us first second = onward-append text p ts us first second
onward-append text p (Void name index vs ∷ ts) us first second =
    (first.0, first.1, onward-append text (place (spot_at text index p.spot) vs) ts us first.2 second)

abbrev enter_event : Name → Place → Event
enter_event name p = event kind.Enter name (point_at p) None

abbrev exit_event : Name → Place → Event
exit_event name p = event kind.Exit name (point_at p) None

module _ (text : List ℕ) where
  -- tokens from a text's start, and more after them
  joined : (ts us : List Token) (p q : Place) → AreOnward text beginning ts → tokens_end text beginning ts ≡ p → AreOnward text p us
      → tokens_end text p us ≡ q → IsTold text (tokens_events text beginning ts ++ tokens_events text p us) q
  joined ts us p q first at second reaches = record {
    tokens = ts ++ us;
    onward = onward-append text beginning ts us first (subst (λ r. AreOnward text r us) (sym at) second);
    each = ap (λ r. tokens_events text beginning ts ++ tokens_events text r us) (sym at) ∙ sym (events-append text beginning ts us);
    end = end-append text beginning ts us ∙ ap (λ r. tokens_end text r us) at ∙ reaches;
  }

  -- after one more event
  pub enters : (es : List Event) (p : Place) (name : Name) → IsTold text es p → IsTold text (es ++ enter_event name p ∷ []) p
  enters es p name is =
      subst (λ x. IsTold text (x ++ enter_event name p ∷ []) p) (sym is.each) (joined is.tokens (Enter name ∷ []) p p is.onward is.end tt refl)

  pub exits : (es : List Event) (p : Place) (name : Name) → IsTold text es p → IsTold text (es ++ exit_event name p ∷ []) p
  exits es p name is =
      subst (λ x. IsTold text (x ++ exit_event name p ∷ []) p) (sym is.each) (joined is.tokens (Exit name ∷ []) p p is.onward is.end tt refl)

  -- after the two of what holds no other
  pub passes : (es : List Event) (p q : Place) (name : Name) → IsTold text es p → GoesOn text p q
      → IsTold text ((es ++ enter_event name p ∷ []) ++ exit_event name q ∷ []) q
  passes es p q name is goes =
      let there : place (spot_at text q.spot.index p.spot) q.vs ≡ q = ap (λ s. place s q.vs) (sym goes.spot) in
      let before = tokens_events text beginning is.tokens in
      subst (λ x. IsTold text x q)
      (ap (λ r. before ++ enter_event name p ∷ exit_event name r ∷ []) there
      ∙ sym (append_assoc before (enter_event name p ∷ []) (exit_event name q ∷ []))
      ∙ ap (λ x. (x ++ enter_event name p ∷ []) ++ exit_event name q ∷ []) (sym is.each))
      (joined is.tokens (Void name q.spot.index q.vs ∷ []) p q is.onward is.end (goes.onward, subst (IsWhole text) (sym there) goes.whole, tt) there)

  -- events up to the end of the text
  pub no_tab_at_end : (p : Place) → IsWhole text p → p.spot.index ≡ length text → p.vs ≡ 0
  no_tab_at_end p (inl none) at_end = none
  no_tab_at_end p (inr tab) at_end = absurd (lt_irrefl (length text) (subst (λ n. n < length text) at_end tab.within))

  pub all_placed : (es : List Event) (p : Place) → IsTold text es p → IsPlace text p → p.spot.index ≡ length text → ArePlaced text es
  all_placed es p is here at_end = record {
    tokens = is.tokens;
    onward = is.onward;
    each = is.each;
    index = ap (λ q. q.spot.index) is.end ∙ at_end;
    vs = ap (λ q. q.vs) is.end ∙ no_tab_at_end p here.whole at_end;
  }

  pub rest_placed : (es : List Event) (p q : Place) (outer inner : Name) → IsTold text es p → GoesOn text p q → IsPlace text q
      → q.spot.index ≡ length text
      → ArePlaced text ((((es ++ enter_event outer p ∷ []) ++ enter_event inner p ∷ []) ++ exit_event inner q ∷ []) ++ exit_event outer q ∷ [])
  rest_placed es p q outer inner is goes here at_end =
      let once = es ++ enter_event outer p ∷ [] in
      let all = (once ++ enter_event inner p ∷ []) ++ exit_event inner q ∷ [] in
      all_placed (all ++ exit_event outer q ∷ []) q (exits all q outer (passes once p q inner (enters es p outer is) goes)) here at_end

  -- no bytes are passed
  pub stays : (s : Spot) → s ≡ spot_at text s.index s
  stays s = ap (λ n. fold (next_spot (mark_size text)) s (take n (drop s.index text))) (sym (sub_self s.index))

  pub nothing_told : IsTold text [] beginning
  nothing_told = record { tokens = []; onward = tt; each = refl; end = refl }
