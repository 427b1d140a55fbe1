-- The states of autolinks read what the definition calls one, and nothing else.
use Rattle.std.proofs.Common.{◌≡◌, ◌∙◌, ℕ, ◌+◌, ◌<◌, ◌≤◌, Bool, true, false, not, nat_lt, ◌==◌, ◌&&◌, if◌then◌else◌, List, [], ◌∷◌, ◌++◌, Option, Some, None}
use Rattle.std.proofs.Common.{inl, inr, refl, sym, ap, subst, arith, append_assoc}
use Rattle.state_verdicts.proofs.Prelude.{AddressVerdict, and_parts, as_byte, autolink_after, byte, cases_Bool, Config, Context, ends-nok, ends-ok, ends_url}
use Rattle.state_verdicts.proofs.Prelude.{eqb-true, event, Event, feed, Found, InlineName, Inlines, is_ascii_alphabetic, is_ascii_alphanumeric, is_atext}
use Rattle.state_verdicts.proofs.Prelude.{is_code, is_email_byte, is_feed, is_letter, is_scheme_byte, is_uri_byte, KeptState, list_all, ltb-true, more, next}
use Rattle.state_verdicts.proofs.Prelude.{nothing, past_byte, plain, Point, retry, Sees, State, tab, Text, text_byte, with_byte}
use Rattle.engine_events.specs.declared.event.Kind.TheVariants.{Enter, Exit}
use Rattle.engine_events.specs.declared.event.Name.TheVariants as names
use Rattle.engine_states.specs.declared.state.Inline.TheVariants as state_inline
use Rattle.engine_states.specs.declared.state.Name.TheVariants.{Inline}
use Rattle.engine_states.specs.declared.state.State.TheVariants as states
use Rattle.state_verdicts.specs.Autolink.{AutolinkVerdict, autolink_events}
use Rattle.state_verdicts.specs.Verdicts.{Reads}
use Rattle.state_verdicts.proofs.AutolinkBytes.{name_byte, scheme_byte, uri_byte}
use Rattle.state_verdicts.proofs.AutolinkDomains.{Place, domain_read, past_greater, size_at, starting, within}
use Rattle.state_verdicts.proofs.AutolinkStates
use Rattle.state_verdicts.proofs.AutolinkTexts.{address_read, autolink_left, email_read, left, scheme_read, second_read, uri_read}
use Rattle.state_verdicts.proofs.Loops.{At, byte_at, end_at, fed, goes_to, stays_to, still_at}
use Rattle.state_verdicts.proofs.ReferenceValues.{apart}
use Rattle.state_verdicts.proofs.Seen.{seen_sort}
use Rattle.state_verdicts.proofs.Standing.{Here, around_here, exits, fed_here, keeping_here, past_here}
use Rattle.state_verdicts.proofs.Stretches.{rest_more, rest_none, seen_as_itself}
use Rattle.state_verdicts.proofs.Turns.{on_retry}

-- the state that is at a place of a domain
abbrev state_at : Place → InlineName
state_at starting = state_inline.AutolinkEmailAtSignOrDot
state_at (within n true) = state_inline.AutolinkEmailValue
state_at (within n false) = state_inline.AutolinkEmailLabel

-- what is read of a label from a byte on
abbrev label_read : ℕ → ℕ → List ℕ → Option (List ℕ)
label_read n c cs =
    if c == 45 then (if nat_lt n 63 then domain_read (within (n + 1) true) cs else None)
    else if is_ascii_alphanumeric c then (if nat_lt n 63 then domain_read (within (n + 1) false) cs else None)
    else None

dashed : (n c : ℕ) (cs : List ℕ) → domain_read (within n true) (c ∷ cs) ≡ label_read n c cs
dashed n c cs = elim (cases_Bool (c == 46)) [
  | inl h ↦ let same : c ≡ 46 = eqb-true c 46 h in ap (λ (b : ℕ). domain_read (within n true) (b ∷ cs)) same ∙ sym (ap (λ (b : ℕ). label_read n b cs) same)
  | inr dot ↦ elim (cases_Bool (c == 62)) [
    | inl h ↦ let same : c ≡ 62 = eqb-true c 62 h in ap (λ (b : ℕ). domain_read (within n true) (b ∷ cs)) same ∙ sym (ap (λ (b : ℕ). label_read n b cs) same)
    | inr greater ↦ rw (dot, greater) refl
  ]
]

lettered : (n c : ℕ) (cs : List ℕ) → (c == 46) ≡ false → (c == 62) ≡ false → domain_read (within n false) (c ∷ cs) ≡ label_read n c cs
lettered n c cs dot greater = rw (dot, greater) refl

first_letter : (c : ℕ) (cs : List ℕ) → is_ascii_alphanumeric c ≡ true → label_read 0 c cs ≡ domain_read (within 1 false) cs
first_letter c cs h = rw (apart is_ascii_alphanumeric 45 c refl h, h) refl

-- the events at the end of an autolink
abbrev closing : List Event → Point → Point → List Event
closing es to end =
    (((es ++ event Exit names.AutolinkProtocol to None ∷ []) ++ event Enter names.AutolinkMarker to None ∷ []) ++ event Exit names.AutolinkMarker end None ∷ [])
    ++ event Exit names.Autolink end None ∷ []

module _ {T : Type 0} (texts : List ℕ → Option (List ℕ)) (is_punctuation : ℕ → Bool) (x : Context T) (text : Text) (c0 : Config Inlines) (es : List Event) where
  abbrev sized : ℕ → KeptState
  sized n = record c0.tokenize_state { size = n }

  -- these events stand and this is kept, and reading isn't right after a line ending
  abbrev Within : KeptState → Config Inlines → Type 0
  Within k c = Here text c0 es k c × (is_feed c.previous ≡ false)

  abbrev Reads_from : Config Inlines → State → Config Inlines → Bool → Type 0
  Reads_from = Reads texts is_punctuation x text

  -- reading goes well, up to after a `>` that stands before these codes
  record GoesWell (c : Config Inlines) (s : State) (rest : List ℕ) : Type 0 where
    pub config : Config Inlines
    pub size : ℕ
    pub to : Point
    pub end : Point
    pub reads : Reads texts is_punctuation x text c s config true
    pub greater : text.byte (text.start to) ≡ Some (as_byte 62 end)
    pub here : Here text c0 (closing es (text.start to) end) (sized size) config
    pub point : config.point ≡ end
    pub sees : Sees text end rest

  abbrev Outcome : Config Inlines → State → Option (List ℕ) → Type 0
  Outcome c s None = (d : Config Inlines) × Reads texts is_punctuation x text c s d false
  Outcome c s (Some rest) = GoesWell c s rest

  -- a state reads what this finds in the codes
  abbrev Goes : InlineName → KeptState → (List ℕ → Option (List ℕ)) → List ℕ → Type 0
  Goes n k read cs = (c : Config Inlines) (q : Point) → Within k c → At text c q → Sees text q cs → Outcome c (retry n) (read cs)

  -- ---- turns

  after : (c e : Config Inlines) (s t : State) (o : Option (List ℕ)) → ((d : Config Inlines) (w : Bool) → Reads_from e t d w → Reads_from c s d w)
      → Outcome e t o → Outcome c s o
  after c e s t None back (d, r) = (d, back d false r)
  after c e s t (Some rest) back f =
      record {
        config = f.config;
        size = f.size;
        to = f.to;
        end = f.end;
        reads = back f.config true f.reads;
        greater = f.greater;
        here = f.here;
        point = f.point;
        sees = f.sees;
      }

  stops : (n : InlineName) (c : Config Inlines) → AutolinkStates.does texts is_punctuation x n c ≡ plain c states.Nok → Outcome c (retry n) None
  stops n c h = (c, on_retry texts is_punctuation x text (Inline n) c c false (plain c states.Nok) h ends-nok)

  goes : (m n : InlineName) (c e : Config Inlines) (o : Option (List ℕ)) → AutolinkStates.does texts is_punctuation x m c ≡ plain e (next n)
      → Outcome (feed text e) (retry n) o → Outcome c (retry m) o
  goes m n c e o h = after c (feed text e) (retry m) (retry n) o (λ d w r. goes_to texts is_punctuation x text (Inline m) (Inline n) c e d w h r)

  hands : (m n : InlineName) (c e : Config Inlines) (o : Option (List ℕ)) → AutolinkStates.does texts is_punctuation x m c ≡ plain e (retry n)
      → Outcome e (retry n) o → Outcome c (retry m) o
  hands m n c e o h = after c e (retry m) (retry n) o (λ d w r. stays_to texts is_punctuation x text (Inline m) (Inline n) c e d w h r)

  -- over the `>`
  closes : (n : InlineName) (k : ℕ) (c : Config Inlines) (q r : Point) (cs : List ℕ)
      → AutolinkStates.does texts is_punctuation x n c ≡ plain (AutolinkStates.autolink_closed c) states.Ok → Within (sized k) c → At text c q
      → text.byte (text.start q) ≡ Some (as_byte 62 r) → Sees text r cs → GoesWell c (retry n) cs
  closes n k c q r cs h here at e s =
      let calm : is_feed c.current ≡ false = ap is_feed (byte_at at e) in
      let place = at.next (as_byte 62 r) e in
      let one = exits text c0 names.AutolinkProtocol here.0 here.1 at.point in
      let two = around_here text c0 names.AutolinkMarker one at.point place calm in
      record {
        config = AutolinkStates.autolink_closed c;
        size = k;
        to = q;
        end = r;
        reads = on_retry texts is_punctuation x text (Inline n) c (AutolinkStates.autolink_closed c) true
            (plain (AutolinkStates.autolink_closed c) states.Ok) h ends-ok;
        greater = e;
        here = exits text c0 names.Autolink two calm place;
        point = place;
        sees = s;
      }

  -- over a byte that ends no line
  past : (k : KeptState) (c : Config Inlines) → Within k c → is_feed c.current ≡ false → Within k (feed text (past_byte c))
  past k c h calm = (fed_here text c0 (past_here text c0 h.0), calm)

  resized : (k : KeptState) (n : ℕ) (c : Config Inlines) → record k { size = n } ≡ sized n → Within k c → Within (sized n) (AutolinkStates.sized n c)
  resized k n c e h = (keeping_here text c0 (λ (i : KeptState). record i { size = n }) (sized n) e h.0, h.1)

  one_more : (n : ℕ) → n < 63 → more n ≡ n + 1
  one_more n few = omega (arith, few)

  past_counted : (n : ℕ) (c : Config Inlines) → n < 63 → Within (sized n) c → is_feed c.current ≡ false
      → Within (sized (n + 1)) (feed text (AutolinkStates.counted c))
  past_counted n c few h calm = (
    fed_here text c0 (past_here text c0 (keeping_here text c0 (λ (i : KeptState). record i { size = more i.size }) (sized (n + 1))
        (ap (λ (m : ℕ). sized m) (one_more n few)) h.0)),
    calm,
  )

  few_by : (n most : ℕ) (c : Config Inlines) (less : Bool) → Within (sized n) c → nat_lt n most ≡ less → nat_lt c.tokenize_state.size most ≡ less
  few_by n most c less h is = ap (λ (i : KeptState). nat_lt i.size most) h.0.kept ∙ is

  -- the next byte once one was read
  next_at : (c e : Config Inlines) (q r : Point) (b : ℕ) → At text c q → text.byte (text.start q) ≡ Some (as_byte b r) → e.point ≡ c.next
      → At text (feed text e) r
  next_at c e q r b at h p = fed text e r (p ∙ at.next (as_byte b r) h)

  -- no byte of a sort ends a line
  calm_by : (is : ℕ → Bool) (b : ℕ) (c : Config Inlines) → is 10 ≡ false → is b ≡ true → c.current ≡ Some b → is_feed c.current ≡ false
  calm_by is b c none h e = ap is_feed e ∙ apart is 10 b none h

  -- ---- URIs

  url_reads : (cs : List ℕ) (k : ℕ) → list_all is_code cs ≡ true → Goes state_inline.AutolinkUrlInside (sized k) uri_read cs
  url_reads [] k are d q h at (nothing e) = stops state_inline.AutolinkUrlInside d (AutolinkStates.url_ends texts is_punctuation x d (end_at at e))
  url_reads (c ∷ cs) k are d q h at (byte {q = r} no_tab e s) =
      let parts = and_parts (is_code c) (list_all is_code cs) are in
      elim (cases_Bool (c == 62)) [
        | inl is ↦
            let same : c ≡ 62 = eqb-true c 62 is in
            let f : text.byte (text.start q) ≡ Some (as_byte 62 r) = e ∙ ap (λ (b : ℕ). Some (as_byte (text_byte b) r)) same in
            subst (λ (o : Option (List ℕ)). Outcome d (retry state_inline.AutolinkUrlInside) o) (sym (ap (λ (b : ℕ). uri_read (b ∷ cs)) same))
            (closes state_inline.AutolinkUrlInside k d q r cs (AutolinkStates.url_by texts is_punctuation x 62 d true (ends_url 62) (byte_at at f) refl refl) h
            at f s)
        | inr other ↦
            let ends = uri_byte c parts.0 other in
            elim (cases_Bool (is_uri_byte c)) [
              | inl is ↦
                  let calm = calm_by is_uri_byte (text_byte c) d refl (seen_sort is_uri_byte refl refl refl refl c ∙ is) (byte_at at e) in
                  subst (λ (l : List ℕ). Outcome d (retry state_inline.AutolinkUrlInside) (past_greater l)) (sym (rest_more is_uri_byte c cs is))
                  (goes state_inline.AutolinkUrlInside state_inline.AutolinkUrlInside d (past_byte d) (uri_read cs)
                  (AutolinkStates.url_by texts is_punctuation x (text_byte c) d false false (byte_at at e) (seen_as_itself 62 refl refl c ∙ other)
                  (ends ∙ ap not is))
                  (url_reads cs k parts.1 (feed text (past_byte d)) r (past (sized k) d h calm) (next_at d (past_byte d) q r (text_byte c) at e refl) s))
              | inr is ↦
                  subst (λ (l : List ℕ). Outcome d (retry state_inline.AutolinkUrlInside) (past_greater l)) (sym (rest_none is_uri_byte c cs is))
                  (subst (λ (b : Bool). Outcome d (retry state_inline.AutolinkUrlInside) (if b then Some cs else None)) (sym other)
                  (stops state_inline.AutolinkUrlInside d (AutolinkStates.url_by texts is_punctuation x (text_byte c) d false true (byte_at at e)
                  (seen_as_itself 62 refl refl c ∙ other) (ends ∙ ap not is))))
            ]
      ]
  url_reads (c ∷ cs) k are d q h at (tab {q = r} few e f s) =
      stops state_inline.AutolinkUrlInside d (AutolinkStates.url_by texts is_punctuation x 9 d false true (byte_at at e) refl refl)

  -- ---- domains

  -- after such codes a domain is read on from any place
  abbrev Domains : List ℕ → Type 0
  Domains cs = (at : Place) → size_at at ≤ 63 → Goes (state_at at) (sized (size_at at)) (domain_read at) cs

  label_longer : (n c : ℕ) (dash : Bool) (d : Config Inlines) (q r : Point) (cs : List ℕ) → Domains cs → Within (sized n) d → At text d q
      → text.byte (text.start q) ≡ Some (as_byte (text_byte c) r) → Sees text r cs
      → is_feed d.current ≡ false
      → ((few : Bool) → nat_lt n 63 ≡ few → AutolinkStates.does texts is_punctuation x state_inline.AutolinkEmailValue d
      ≡ (if few then plain (AutolinkStates.counted d) (next (state_at (within (n + 1) dash))) else plain d states.Nok))
      → Outcome d (retry state_inline.AutolinkEmailValue) (if nat_lt n 63 then domain_read (within (n + 1) dash) cs else None)
  label_longer n c dash d q r cs rest h at e s calm does_so = elim (cases_Bool (nat_lt n 63)) [
    | inl less ↦
        let few = ltb-true n 63 less in
        subst (λ (b : Bool). Outcome d (retry state_inline.AutolinkEmailValue) (if b then domain_read (within (n + 1) dash) cs else None)) (sym less)
        (goes state_inline.AutolinkEmailValue (state_at (within (n + 1) dash)) d (AutolinkStates.counted d) (domain_read (within (n + 1) dash) cs)
        (does_so true less)
        (rest (within (n + 1) dash) (omega (arith, few)) (feed text (AutolinkStates.counted d)) r (past_counted n d few h calm)
        (next_at d (AutolinkStates.counted d) q r (text_byte c) at e refl) s))
    | inr full ↦
        subst (λ (b : Bool). Outcome d (retry state_inline.AutolinkEmailValue) (if b then domain_read (within (n + 1) dash) cs else None)) (sym full)
        (stops state_inline.AutolinkEmailValue d (does_so false full))
  ]

  label_reads : (n c : ℕ) (d : Config Inlines) (q r : Point) (cs : List ℕ) → Domains cs → Within (sized n) d → At text d q
      → text.byte (text.start q) ≡ Some (as_byte (text_byte c) r) → Sees text r cs
      → Outcome d (retry state_inline.AutolinkEmailValue) (label_read n c cs)
  label_reads n c d q r cs rest h at e s = elim (cases_Bool (c == 45)) [
    | inl is ↦
        let same : (text_byte c == 45) ≡ true = seen_as_itself 45 refl refl c ∙ is in
        subst (λ (b : Bool). Outcome d (retry state_inline.AutolinkEmailValue) (if b then (if nat_lt n 63 then domain_read (within (n + 1) true) cs else None)
        else if is_ascii_alphanumeric c then (if nat_lt n 63 then domain_read (within (n + 1) false) cs else None) else None)) (sym is)
        (label_longer n c true d q r cs rest h at e s (calm_by (λ (b : ℕ). b == 45) (text_byte c) d refl same (byte_at at e))
        (λ few less. AutolinkStates.value_by texts is_punctuation x (text_byte c) d true (is_ascii_alphanumeric (text_byte c)) few (byte_at at e) same refl
        (few_by n 63 d few h less)))
    | inr dash ↦
        let apart_dash : (text_byte c == 45) ≡ false = seen_as_itself 45 refl refl c ∙ dash in
        subst (λ (b : Bool). Outcome d (retry state_inline.AutolinkEmailValue) (if b then (if nat_lt n 63 then domain_read (within (n + 1) true) cs else None)
        else if is_ascii_alphanumeric c then (if nat_lt n 63 then domain_read (within (n + 1) false) cs else None) else None)) (sym dash)
        (elim (cases_Bool (is_ascii_alphanumeric c)) [
          | inl is ↦
              let same : is_ascii_alphanumeric (text_byte c) ≡ true = seen_sort is_ascii_alphanumeric refl refl refl refl c ∙ is in
              subst (λ (b : Bool). Outcome d (retry state_inline.AutolinkEmailValue) (if b
              then (if nat_lt n 63 then domain_read (within (n + 1) false) cs else None) else None)) (sym is)
              (label_longer n c false d q r cs rest h at e s (calm_by is_ascii_alphanumeric (text_byte c) d refl same (byte_at at e))
              (λ few less. AutolinkStates.value_by texts is_punctuation x (text_byte c) d false true few (byte_at at e) apart_dash same
              (few_by n 63 d few h less)))
          | inr is ↦
              subst (λ (b : Bool). Outcome d (retry state_inline.AutolinkEmailValue) (if b
              then (if nat_lt n 63 then domain_read (within (n + 1) false) cs else None) else None)) (sym is)
              (stops state_inline.AutolinkEmailValue d
              (AutolinkStates.value_by texts is_punctuation x (text_byte c) d false false (nat_lt d.tokenize_state.size 63) (byte_at at e) apart_dash
              (seen_sort is_ascii_alphanumeric refl refl refl refl c ∙ is) refl))
        ])
  ]

  -- after the last byte
  domain_ends : (at : Place) (d : Config Inlines) → d.current ≡ None → Outcome d (retry (state_at at)) None
  domain_ends starting d e = stops state_inline.AutolinkEmailAtSignOrDot d (AutolinkStates.label_start_ends texts is_punctuation x d e)
  domain_ends (within n true) d e = stops state_inline.AutolinkEmailValue d (AutolinkStates.value_ends texts is_punctuation x d e)
  domain_ends (within n false) d e = stops state_inline.AutolinkEmailLabel d (AutolinkStates.label_ends texts is_punctuation x d e)

  -- at a tab
  domain_stops : (at : Place) (d : Config Inlines) → d.current ≡ Some 9 → Outcome d (retry (state_at at)) None
  domain_stops starting d e = stops state_inline.AutolinkEmailAtSignOrDot d (AutolinkStates.label_starts_by texts is_punctuation x 9 d false e refl)
  domain_stops (within n true) d e =
      stops state_inline.AutolinkEmailValue d (AutolinkStates.value_by texts is_punctuation x 9 d false false
      (nat_lt d.tokenize_state.size 63) e refl refl refl)
  domain_stops (within n false) d e =
      hands state_inline.AutolinkEmailLabel state_inline.AutolinkEmailValue d d None
      (AutolinkStates.label_by texts is_punctuation x 9 d false false e refl refl)
      (stops state_inline.AutolinkEmailValue d (AutolinkStates.value_by texts is_punctuation x 9 d false false
      (nat_lt d.tokenize_state.size 63) e refl refl refl))

  none_after : (at : Place) (cs : List ℕ) → None ≡ domain_read at (9 ∷ cs)
  none_after starting cs = refl
  none_after (within n dash) cs = refl

  start_reads : (c : ℕ) (d : Config Inlines) (q r : Point) (cs : List ℕ) → Domains cs → Within (sized 0) d → At text d q
      → text.byte (text.start q) ≡ Some (as_byte (text_byte c) r) → Sees text r cs
      → Outcome d (retry state_inline.AutolinkEmailAtSignOrDot) (domain_read starting (c ∷ cs))
  start_reads c d q r cs rest h at e s = elim (cases_Bool (is_ascii_alphanumeric c)) [
    | inl is ↦
        subst (λ (b : Bool). Outcome d (retry state_inline.AutolinkEmailAtSignOrDot) (if b then domain_read (within 1 false) cs else None)) (sym is)
        (subst (λ (o : Option (List ℕ)). Outcome d (retry state_inline.AutolinkEmailAtSignOrDot) o) (first_letter c cs is)
        (hands state_inline.AutolinkEmailAtSignOrDot state_inline.AutolinkEmailValue d d (label_read 0 c cs)
        (AutolinkStates.label_starts_by texts is_punctuation x (text_byte c) d true (byte_at at e) (seen_sort is_ascii_alphanumeric refl refl refl refl c ∙ is))
        (label_reads 0 c d q r cs rest h at e s)))
    | inr is ↦
        subst (λ (b : Bool). Outcome d (retry state_inline.AutolinkEmailAtSignOrDot) (if b then domain_read (within 1 false) cs else None)) (sym is)
        (stops state_inline.AutolinkEmailAtSignOrDot d (AutolinkStates.label_starts_by texts is_punctuation x (text_byte c) d false (byte_at at e)
        (seen_sort is_ascii_alphanumeric refl refl refl refl c ∙ is)))
  ]

  letter_reads : (n c : ℕ) (d : Config Inlines) (q r : Point) (cs : List ℕ) → Domains cs → Within (sized n) d → At text d q
      → text.byte (text.start q) ≡ Some (as_byte (text_byte c) r) → Sees text r cs
      → Outcome d (retry state_inline.AutolinkEmailLabel) (domain_read (within n false) (c ∷ cs))
  letter_reads n c d q r cs rest h at e s = elim (cases_Bool (c == 46)) [
    | inl is ↦
        let same : (text_byte c == 46) ≡ true = seen_as_itself 46 refl refl c ∙ is in
        let calm = calm_by (λ (b : ℕ). b == 46) (text_byte c) d refl same (byte_at at e) in
        let f = AutolinkStates.sized 0 d in
        subst (λ (o : Option (List ℕ)). Outcome d (retry state_inline.AutolinkEmailLabel) o)
        (sym (ap (λ (b : ℕ). domain_read (within n false) (b ∷ cs)) (eqb-true c 46 is)))
        (goes state_inline.AutolinkEmailLabel state_inline.AutolinkEmailAtSignOrDot d (past_byte f) (domain_read starting cs)
        (AutolinkStates.label_by texts is_punctuation x (text_byte c) d true (text_byte c == 62) (byte_at at e) same refl)
        (rest starting (omega arith) (feed text (past_byte f)) r (past (sized 0) f (resized (sized n) 0 d refl h) calm)
        (next_at d (past_byte f) q r (text_byte c) at e refl) s))
    | inr dot ↦ elim (cases_Bool (c == 62)) [
      | inl is ↦
          let same : c ≡ 62 = eqb-true c 62 is in
          let f : text.byte (text.start q) ≡ Some (as_byte 62 r) = e ∙ ap (λ (b : ℕ). Some (as_byte (text_byte b) r)) same in
          subst (λ (o : Option (List ℕ)). Outcome d (retry state_inline.AutolinkEmailLabel) o)
          (sym (ap (λ (b : ℕ). domain_read (within n false) (b ∷ cs)) same))
          (closes state_inline.AutolinkEmailLabel n d q r cs (AutolinkStates.label_by texts is_punctuation x 62 d false true (byte_at at f) refl refl) h at f
          s)
      | inr greater ↦
          subst (λ (o : Option (List ℕ)). Outcome d (retry state_inline.AutolinkEmailLabel) o) (sym (lettered n c cs dot greater))
          (hands state_inline.AutolinkEmailLabel state_inline.AutolinkEmailValue d d (label_read n c cs)
          (AutolinkStates.label_by texts is_punctuation x (text_byte c) d false false (byte_at at e) (seen_as_itself 46 refl refl c ∙ dot)
          (seen_as_itself 62 refl refl c ∙ greater)) (label_reads n c d q r cs rest h at e s))
    ]
  ]

  domain_reads : (cs : List ℕ) → Domains cs
  domain_reads [] at few d q h there (nothing e) = domain_ends at d (end_at there e)
  domain_reads (c ∷ cs) starting few d q h there (byte {q = r} no_tab e s) = start_reads c d q r cs (domain_reads cs) h there e s
  domain_reads (c ∷ cs) (within n true) few d q h there (byte {q = r} no_tab e s) =
      subst (λ (o : Option (List ℕ)). Outcome d (retry state_inline.AutolinkEmailValue) o) (sym (dashed n c cs))
      (label_reads n c d q r cs (domain_reads cs) h there e s)
  domain_reads (c ∷ cs) (within n false) few d q h there (byte {q = r} no_tab e s) = letter_reads n c d q r cs (domain_reads cs) h there e s
  domain_reads (c ∷ cs) at few d q h there (tab {q = r} low e f s) =
      subst (λ (o : Option (List ℕ)). Outcome d (retry (state_at at)) o) (none_after at cs) (domain_stops at d (byte_at there e))

  -- ---- emails

  email_reads : (cs : List ℕ) (k : KeptState) → record k { size = 0 } ≡ sized 0 → Goes state_inline.AutolinkEmailAtext k email_read cs
  email_reads [] k resets d q h at (nothing e) = stops state_inline.AutolinkEmailAtext d (AutolinkStates.name_ends texts is_punctuation x d (end_at at e))
  email_reads (c ∷ cs) k resets d q h at (byte {q = r} no_tab e s) = elim (cases_Bool (c == 64)) [
    | inl is ↦
        let same : (text_byte c == 64) ≡ true = seen_as_itself 64 refl refl c ∙ is in
        let calm = calm_by (λ (b : ℕ). b == 64) (text_byte c) d refl same (byte_at at e) in
        let f = AutolinkStates.sized 0 d in
        subst (λ (b : Bool). Outcome d (retry state_inline.AutolinkEmailAtext) (if b then domain_read starting cs else if is_email_byte c then email_read cs
        else None)) (sym is)
        (goes state_inline.AutolinkEmailAtext state_inline.AutolinkEmailAtSignOrDot d (past_byte f) (domain_read starting cs)
        (AutolinkStates.name_by texts is_punctuation x (text_byte c) d true (is_atext (text_byte c)) (byte_at at e) same refl)
        (domain_reads cs starting (omega arith) (feed text (past_byte f)) r (past (sized 0) f (resized k 0 d resets h) calm)
        (next_at d (past_byte f) q r (text_byte c) at e refl) s))
    | inr other ↦
        let same : is_atext (text_byte c) ≡ is_email_byte c = name_byte (text_byte c) ∙ seen_sort is_email_byte refl refl refl refl c in
        let apart_at : (text_byte c == 64) ≡ false = seen_as_itself 64 refl refl c ∙ other in
        subst (λ (b : Bool). Outcome d (retry state_inline.AutolinkEmailAtext) (if b then domain_read starting cs else if is_email_byte c then email_read cs
        else None)) (sym other)
        (elim (cases_Bool (is_email_byte c)) [
          | inl is ↦
              let calm = calm_by is_atext (text_byte c) d refl (same ∙ is) (byte_at at e) in
              subst (λ (b : Bool). Outcome d (retry state_inline.AutolinkEmailAtext) (if b then email_read cs else None)) (sym is)
              (goes state_inline.AutolinkEmailAtext state_inline.AutolinkEmailAtext d (past_byte d) (email_read cs)
              (AutolinkStates.name_by texts is_punctuation x (text_byte c) d false true (byte_at at e) apart_at (same ∙ is))
              (email_reads cs k resets (feed text (past_byte d)) r (past k d h calm) (next_at d (past_byte d) q r (text_byte c) at e refl) s))
          | inr is ↦
              subst (λ (b : Bool). Outcome d (retry state_inline.AutolinkEmailAtext) (if b then email_read cs else None)) (sym is)
              (stops state_inline.AutolinkEmailAtext d (AutolinkStates.name_by texts is_punctuation x (text_byte c) d false false (byte_at at e) apart_at
              (same ∙ is)))
        ])
  ]
  email_reads (c ∷ cs) k resets d q h at (tab {q = r} few e f s) =
      stops state_inline.AutolinkEmailAtext d (AutolinkStates.name_by texts is_punctuation x 9 d false false (byte_at at e) refl refl)

  -- ---- schemes

  scheme_longer : (cs : List ℕ) (n c : ℕ) → Goes state_inline.AutolinkSchemeInsideOrEmailAtext (sized (n + 1)) (scheme_read (n + 1)) cs
      → (d : Config Inlines) (q r : Point) → Within (sized n) d → At text d q
      → (c == 9) ≡ false → text.byte (text.start q) ≡ Some (as_byte (text_byte c) r) → Sees text r cs → is_scheme_byte c ≡ true → (c == 58) ≡ false
      → Outcome d (retry state_inline.AutolinkSchemeInsideOrEmailAtext) (if nat_lt n 32 then scheme_read (n + 1) cs else email_read (c ∷ cs))
  scheme_longer cs n c rest d q r h at no_tab e s is colon =
      let same : AutolinkStates.is_scheme (text_byte c) ≡ true = scheme_byte (text_byte c) ∙ (seen_sort is_scheme_byte refl refl refl refl c ∙ is) in
      let apart_colon : (text_byte c == 58) ≡ false = seen_as_itself 58 refl refl c ∙ colon in
      let calm = calm_by is_scheme_byte (text_byte c) d refl (seen_sort is_scheme_byte refl refl refl refl c ∙ is) (byte_at at e) in
      elim (cases_Bool (nat_lt n 32)) [
        | inl less ↦
            let few = ltb-true n 32 less in
            subst (λ (b : Bool). Outcome d (retry state_inline.AutolinkSchemeInsideOrEmailAtext) (if b then scheme_read (n + 1) cs else email_read (c ∷ cs)))
            (sym less)
            (goes state_inline.AutolinkSchemeInsideOrEmailAtext state_inline.AutolinkSchemeInsideOrEmailAtext d (AutolinkStates.counted d)
            (scheme_read (n + 1) cs)
            (AutolinkStates.scheme_by texts is_punctuation x (text_byte c) d false true true (byte_at at e) apart_colon same (few_by n 32 d true h less))
            (rest (feed text (AutolinkStates.counted d)) r (past_counted n d (omega (arith, few)) h calm)
            (next_at d (AutolinkStates.counted d) q r (text_byte c) at e refl) s))
        | inr full ↦
            subst (λ (b : Bool). Outcome d (retry state_inline.AutolinkSchemeInsideOrEmailAtext) (if b then scheme_read (n + 1) cs else email_read (c ∷ cs)))
            (sym full)
            (hands state_inline.AutolinkSchemeInsideOrEmailAtext state_inline.AutolinkEmailAtext d d (email_read (c ∷ cs))
            (AutolinkStates.scheme_by texts is_punctuation x (text_byte c) d false true false (byte_at at e) apart_colon same (few_by n 32 d false h full))
            (email_reads (c ∷ cs) (sized n) refl d q h at (byte no_tab e s)))
      ]

  scheme_reads : (cs : List ℕ) (n : ℕ) → list_all is_code cs ≡ true → Goes state_inline.AutolinkSchemeInsideOrEmailAtext (sized n) (scheme_read n) cs
  scheme_reads [] n are d q h at (nothing e) =
      stops state_inline.AutolinkSchemeInsideOrEmailAtext d (AutolinkStates.scheme_ends texts is_punctuation x d (end_at at e))
  scheme_reads (c ∷ cs) n are d q h at (byte {q = r} no_tab e s) =
      let parts = and_parts (is_code c) (list_all is_code cs) are in
      elim (cases_Bool (c == 58)) [
        | inl is ↦
            let same : (text_byte c == 58) ≡ true = seen_as_itself 58 refl refl c ∙ is in
            let calm = calm_by (λ (b : ℕ). b == 58) (text_byte c) d refl same (byte_at at e) in
            subst (λ (o : Option (List ℕ)). Outcome d (retry state_inline.AutolinkSchemeInsideOrEmailAtext) o)
            (sym (ap (λ (b : ℕ). scheme_read n (b ∷ cs)) (eqb-true c 58 is)))
            (goes state_inline.AutolinkSchemeInsideOrEmailAtext state_inline.AutolinkUrlInside d (past_byte d) (uri_read cs)
            (AutolinkStates.scheme_by texts is_punctuation x (text_byte c) d true (AutolinkStates.is_scheme (text_byte c)) (nat_lt d.tokenize_state.size 32)
            (byte_at at e) same refl refl)
            (url_reads cs n parts.1 (feed text (past_byte d)) r (past (sized n) d h calm) (next_at d (past_byte d) q r (text_byte c) at e refl) s))
        | inr colon ↦
            subst (λ (b : Bool). Outcome d (retry state_inline.AutolinkSchemeInsideOrEmailAtext) (if b then uri_read cs else if is_scheme_byte c
            then (if nat_lt n 32 then scheme_read (n + 1) cs else email_read (c ∷ cs)) else email_read (c ∷ cs))) (sym colon)
            (elim (cases_Bool (is_scheme_byte c)) [
              | inl is ↦
                  subst (λ (b : Bool). Outcome d (retry state_inline.AutolinkSchemeInsideOrEmailAtext) (if b
                  then (if nat_lt n 32 then scheme_read (n + 1) cs else email_read (c ∷ cs)) else email_read (c ∷ cs))) (sym is)
                  (scheme_longer cs n c (scheme_reads cs (n + 1) parts.1) d q r h at no_tab e s is colon)
              | inr is ↦
                  let same : AutolinkStates.is_scheme (text_byte c) ≡ false = scheme_byte (text_byte c)
                  ∙ (seen_sort is_scheme_byte refl refl refl refl c ∙ is) in
                  subst (λ (b : Bool). Outcome d (retry state_inline.AutolinkSchemeInsideOrEmailAtext) (if b
                  then (if nat_lt n 32 then scheme_read (n + 1) cs else email_read (c ∷ cs)) else email_read (c ∷ cs))) (sym is)
                  (hands state_inline.AutolinkSchemeInsideOrEmailAtext state_inline.AutolinkEmailAtext d d (email_read (c ∷ cs))
                  (AutolinkStates.scheme_by texts is_punctuation x (text_byte c) d false false (nat_lt d.tokenize_state.size 32) (byte_at at e)
                  (seen_as_itself 58 refl refl c ∙ colon) same refl)
                  (email_reads (c ∷ cs) (sized n) refl d q h at (byte no_tab e s)))
            ])
      ]
  scheme_reads (c ∷ cs) n are d q h at (tab {q = r} few e f s) =
      hands state_inline.AutolinkSchemeInsideOrEmailAtext state_inline.AutolinkEmailAtext d d None
      (AutolinkStates.scheme_by texts is_punctuation x 9 d false false (nat_lt d.tokenize_state.size 32) (byte_at at e) refl refl refl)
      (stops state_inline.AutolinkEmailAtext d (AutolinkStates.name_by texts is_punctuation x 9 d false false (byte_at at e) refl refl))

  -- ---- the first bytes

  second_reads : (cs : List ℕ) → list_all is_code cs ≡ true → Goes state_inline.AutolinkSchemeOrEmailAtext c0.tokenize_state second_read cs
  second_reads [] are d q h at (nothing e) =
      stops state_inline.AutolinkSchemeOrEmailAtext d (AutolinkStates.second_ends texts is_punctuation x d (end_at at e))
  second_reads (c ∷ cs) are d q h at (byte {q = r} no_tab e s) = elim (cases_Bool (is_scheme_byte c)) [
    | inl is ↦
        let same : AutolinkStates.is_scheme (text_byte c) ≡ true = scheme_byte (text_byte c) ∙ (seen_sort is_scheme_byte refl refl refl refl c ∙ is) in
        let f = AutolinkStates.sized 1 d in
        subst (λ (b : Bool). Outcome d (retry state_inline.AutolinkSchemeOrEmailAtext) (if b then scheme_read 1 (c ∷ cs) else email_read (c ∷ cs))) (sym is)
        (hands state_inline.AutolinkSchemeOrEmailAtext state_inline.AutolinkSchemeInsideOrEmailAtext d f (scheme_read 1 (c ∷ cs))
        (AutolinkStates.second_by texts is_punctuation x (text_byte c) d true (byte_at at e) same)
        (scheme_reads (c ∷ cs) 1 are f q (resized c0.tokenize_state 1 d refl h) (still_at refl refl refl at) (byte no_tab e s)))
    | inr is ↦
        let same : AutolinkStates.is_scheme (text_byte c) ≡ false = scheme_byte (text_byte c) ∙ (seen_sort is_scheme_byte refl refl refl refl c ∙ is) in
        subst (λ (b : Bool). Outcome d (retry state_inline.AutolinkSchemeOrEmailAtext) (if b then scheme_read 1 (c ∷ cs) else email_read (c ∷ cs))) (sym is)
        (hands state_inline.AutolinkSchemeOrEmailAtext state_inline.AutolinkEmailAtext d d (email_read (c ∷ cs))
        (AutolinkStates.second_by texts is_punctuation x (text_byte c) d false (byte_at at e) same)
        (email_reads (c ∷ cs) c0.tokenize_state refl d q h at (byte no_tab e s)))
  ]
  second_reads (c ∷ cs) are d q h at (tab {q = r} few e f s) =
      hands state_inline.AutolinkSchemeOrEmailAtext state_inline.AutolinkEmailAtext d d None
      (AutolinkStates.second_by texts is_punctuation x 9 d false (byte_at at e) refl)
      (stops state_inline.AutolinkEmailAtext d (AutolinkStates.name_by texts is_punctuation x 9 d false false (byte_at at e) refl refl))

  address_reads : (cs : List ℕ) → list_all is_code cs ≡ true → Goes state_inline.AutolinkOpen c0.tokenize_state address_read cs
  address_reads [] are d q h at (nothing e) = stops state_inline.AutolinkOpen d (AutolinkStates.open_ends texts is_punctuation x d (end_at at e))
  address_reads (c ∷ cs) are d q h at (byte {q = r} no_tab e s) =
      let parts = and_parts (is_code c) (list_all is_code cs) are in
      elim (cases_Bool (is_letter c)) [
        | inl is ↦
            let same : is_ascii_alphabetic (text_byte c) ≡ true = seen_sort is_ascii_alphabetic refl refl refl refl c ∙ is in
            let calm = calm_by is_ascii_alphabetic (text_byte c) d refl same (byte_at at e) in
            subst (λ (b : Bool). Outcome d (retry state_inline.AutolinkOpen) (if b then second_read cs else if c == 64 then None else email_read (c ∷ cs)))
            (sym is)
            (goes state_inline.AutolinkOpen state_inline.AutolinkSchemeOrEmailAtext d (past_byte d) (second_read cs)
            (AutolinkStates.open_by texts is_punctuation x (text_byte c) d true (text_byte c == 64) (byte_at at e) same refl)
            (second_reads cs parts.1 (feed text (past_byte d)) r (past c0.tokenize_state d h calm) (next_at d (past_byte d) q r (text_byte c) at e refl) s))
        | inr is ↦
            let same : is_ascii_alphabetic (text_byte c) ≡ false = seen_sort is_ascii_alphabetic refl refl refl refl c ∙ is in
            subst (λ (b : Bool). Outcome d (retry state_inline.AutolinkOpen) (if b then second_read cs else if c == 64 then None else email_read (c ∷ cs)))
            (sym is)
            (elim (cases_Bool (c == 64)) [
              | inl sign ↦
                  subst (λ (b : Bool). Outcome d (retry state_inline.AutolinkOpen) (if b then None else email_read (c ∷ cs))) (sym sign)
                  (stops state_inline.AutolinkOpen d (AutolinkStates.open_by texts is_punctuation x (text_byte c) d false true (byte_at at e) same
                  (seen_as_itself 64 refl refl c ∙ sign)))
              | inr other ↦
                  subst (λ (b : Bool). Outcome d (retry state_inline.AutolinkOpen) (if b then None else email_read (c ∷ cs))) (sym other)
                  (hands state_inline.AutolinkOpen state_inline.AutolinkEmailAtext d d (email_read (c ∷ cs))
                  (AutolinkStates.open_by texts is_punctuation x (text_byte c) d false false (byte_at at e) same (seen_as_itself 64 refl refl c ∙ other))
                  (email_reads (c ∷ cs) c0.tokenize_state refl d q h at (byte no_tab e s)))
            ])
      ]
  address_reads (c ∷ cs) are d q h at (tab {q = r} few e f s) =
      hands state_inline.AutolinkOpen state_inline.AutolinkEmailAtext d d None
      (AutolinkStates.open_by texts is_punctuation x 9 d false false (byte_at at e) refl refl)
      (stops state_inline.AutolinkEmailAtext d (AutolinkStates.name_by texts is_punctuation x 9 d false false (byte_at at e) refl refl))

module _ {T : Type 0} (texts : List ℕ → Option (List ℕ)) (is_punctuation : ℕ
    → Bool) (x : Context T) (text : Text) (c : Config Inlines) (p q : Point) (cs : List ℕ)
    (are : list_all is_code cs ≡ true) (s : Sees text q cs) where
  abbrev at_mark : Config Inlines
  at_mark = with_byte c p (Some (as_byte 60 q))

  abbrev Verdict_by : Option Found → Type 0
  Verdict_by = AddressVerdict text (Reads texts is_punctuation x text at_mark (retry state_inline.AutolinkStart)) at_mark p q (60 ∷ cs)

  -- after the `<`
  abbrev begun : Config Inlines
  begun = feed text (AutolinkStates.autolink_begun at_mark)

  abbrev begun_events : List Event
  begun_events =
      (((c.events ++ event Enter names.Autolink p None ∷ []) ++ event Enter names.AutolinkMarker p None ∷ []) ++ event Exit names.AutolinkMarker q None ∷ [])
      ++ event Enter names.AutolinkProtocol q None ∷ []

  begun_here : Here text at_mark begun_events c.tokenize_state begun
  begun_here = record { events = refl; kept = refl; map = refl; resolvers = refl }

  events_are : (to end : Point) → closing begun_events to end ≡ c.events ++ autolink_events p q to end
  events_are to end = simp append_assoc refl

  abbrev Outcome_at : Option (List ℕ) → Type 0
  Outcome_at o = Outcome texts is_punctuation x text at_mark begun_events begun (retry state_inline.AutolinkOpen) o

  outcome : Outcome_at (address_read cs)
  outcome = address_reads texts is_punctuation x text at_mark begun_events cs are begun q (
    begun_here,
    refl,
  ) (fed text (AutolinkStates.autolink_begun at_mark) q refl) s

  by_switch : (on : Bool) → x.options.constructs.autolink ≡ on → Verdict_by (if on && true then autolink_after cs else None)
  by_switch true on = by_leaf (autolink_after cs) (subst (λ (o : Option (List ℕ)). Outcome_at o) (sym (autolink_left cs)) outcome)
    where
      back : (d : Config Inlines) (w : Bool) → Reads texts is_punctuation x text begun (retry state_inline.AutolinkOpen) d w
          → Reads texts is_punctuation x text at_mark (retry state_inline.AutolinkStart) d w
      back d w r =
          goes_to texts is_punctuation x text (Inline state_inline.AutolinkStart) (Inline state_inline.AutolinkOpen) at_mark
          (AutolinkStates.autolink_begun at_mark) d w
          (AutolinkStates.starts texts is_punctuation x at_mark true refl on) r

      by_leaf : (o : Option Found) → Outcome_at (left cs o) → Verdict_by o
      by_leaf None (d, r) = (d, back d false r)
      by_leaf (Some leaf) f = (
        f.config,
        f.size,
        f.to,
        f.end,
        back f.config true f.reads,
        f.greater,
        record {
          events = f.here.events ∙ events_are (text.start f.to) f.end;
          point = f.point;
          kept = f.here.kept;
          map = f.here.map;
          resolvers = f.here.resolvers;
        },
        f.sees,
      )
  by_switch false on = (
    at_mark,
    on_retry texts is_punctuation x text (Inline state_inline.AutolinkStart) at_mark at_mark false (plain at_mark states.Nok)
        (AutolinkStates.starts texts is_punctuation x at_mark false refl on) ends-nok,
  )

pub autolink_verdict : (T : Type 0) → AutolinkVerdict T
autolink_verdict T texts is_punctuation x text c p q cs are s = by_switch texts is_punctuation x text c p q cs are s x.options.constructs.autolink refl
