-- The state of a reference's value reads what the definition calls a value and its `;`.
use Rattle.std.proofs.Common.{◌≡◌, ◌∙◌, ℕ, suc, ◌+◌, ◌-◌, ◌<◌, ◌≤◌, Bool, true, false, not, nat_le, nat_lt, ◌==◌, ◌&&◌, ◌||◌, if◌then◌else◌, List, [], ◌∷◌}
use Rattle.std.proofs.Common.{◌++◌, length, take, drop, Option, Some, None, inl, inr, refl, sym, ap, subst, arith}
use Rattle.state_verdicts.proofs.Prelude.{and_from, and_left, and_right, as_byte, before_semicolon, byte, byte_of, cases_Bool, cases_lt, Config, Context}
use Rattle.state_verdicts.proofs.Prelude.{drop-drop, Effect, ends-nok, ends-ok, eqb-true, event, Event, feed, goes_on, has, Inlines, is_ascii_alphanumeric}
use Rattle.state_verdicts.proofs.Prelude.{is_ascii_digit, is_ascii_hexdigit, is_feed, is_known, is_name, is_value_known, KeptState, le-leb, le-ltb}
use Rattle.state_verdicts.proofs.Prelude.{length-drop, lt-leb, lt-ltb, more, ne_eqb, next, nothing, Part, part_to_semicolon, plain, Point, prefix_len}
use Rattle.state_verdicts.proofs.Prelude.{referring, retry, run, Sees, Stretch, tab, Text, text_byte}
use Rattle.definition_text.specs.Content.{part}
use Rattle.engine_events.specs.declared.event.Kind.TheVariants.{Enter, Exit}
use Rattle.engine_events.specs.declared.event.Name.TheVariants as names
use Rattle.engine_states.specs.declared.state.Inline.TheVariants as state_inline
use Rattle.engine_states.specs.declared.state.Name.TheVariants.{Inline}
use Rattle.engine_states.specs.declared.state.State.TheVariants as states
use Rattle.state_inline.specs.Inlines.{bodies}
use Rattle.state_verdicts.specs.Verdicts.{Reads}
use Rattle.state_verdicts.proofs.Loops.{At, StretchEnd, byte_at, end_at, over_capped, stops}
use Rattle.state_verdicts.proofs.ReferenceStates
use Rattle.state_verdicts.proofs.Runs.{IsRest}
use Rattle.state_verdicts.proofs.Seen.{seen_sort}
use Rattle.state_verdicts.proofs.Standing.{Here, around_here, exits, fed_here, keeping_here, past_here}
use Rattle.state_verdicts.proofs.Stretches.{Run, run_seen, seen_as_itself}
use Rattle.state_verdicts.proofs.Turns.{on_retry}

-- a kind of value: its byte that the states keep, how many bytes it may have, and which
pub record Kind : Type 0 where
  pub marker : ℕ
  pub most : ℕ
  pub sort : ℕ → Bool
  pub one : 1 ≤ most
  pub small : most ≤ 31
  pub goes : (size b : ℕ) → goes_on marker size b ≡ (nat_lt size most && sort b)
  pub no_tab : sort 9 ≡ false
  pub no_feed : sort 10 ≡ false
  pub no_return : sort 13 ≡ false
  pub no_both : sort 257 ≡ false
  pub no_column : sort 32 ≡ sort 256
  pub no_semicolon : sort 59 ≡ false

abbrev pub name_kind : Kind
name_kind = record {
  marker = 38;
  most = 31;
  sort = is_ascii_alphanumeric;
  one = omega arith;
  small = omega arith;
  goes = λ size b. refl;
  no_tab = refl;
  no_feed = refl;
  no_return = refl;
  no_both = refl;
  no_column = refl;
  no_semicolon = refl;
}

abbrev pub decimal_kind : Kind
decimal_kind = record {
  marker = 35;
  most = 7;
  sort = is_ascii_digit;
  one = omega arith;
  small = omega arith;
  goes = λ size b. refl;
  no_tab = refl;
  no_feed = refl;
  no_return = refl;
  no_both = refl;
  no_column = refl;
  no_semicolon = refl;
}

abbrev pub hexadecimal_kind : Kind
hexadecimal_kind = record {
  marker = 120;
  most = 6;
  sort = is_ascii_hexdigit;
  one = omega arith;
  small = omega arith;
  goes = λ size b. refl;
  no_tab = refl;
  no_feed = refl;
  no_return = refl;
  no_both = refl;
  no_column = refl;
  no_semicolon = refl;
}

-- a byte of a sort is no other
pub apart : (is : ℕ → Bool) (m b : ℕ) → is m ≡ false → is b ≡ true → (b == m) ≡ false
apart is m b none some = ne_eqb b m (λ e. absurd (let f : false ≡ true = sym none ∙ (ap is (sym e) ∙ some) in cc))

none_if : (b : Bool) (o : Option Part) → o ≡ None → (if b then o else None) ≡ None
none_if true o h = h
none_if false o h = refl

terminated_by : (sort : ℕ → Bool) (most total : ℕ) (whole rest : List ℕ) → prefix_len sort whole ≡ total → drop (prefix_len sort whole) whole ≡ rest
    → part_to_semicolon sort most whole ≡ (if nat_le 1 total && nat_le total most then before_semicolon (take total whole) rest else None)
terminated_by sort most total whole rest h k =
    ap (λ (r : List ℕ). if nat_le 1 (prefix_len sort whole) && nat_le (prefix_len sort whole) most then before_semicolon (take (prefix_len sort whole) whole) r
    else None) k
    ∙ ap (λ (n : ℕ). if nat_le 1 n && nat_le n most then before_semicolon (take n whole) rest else None) h

-- what is left of all is this rest
pub left_of : (all rest : List ℕ) → IsRest all rest → drop (length all - length rest) all ≡ rest
left_of all rest r = ap (λ (n : ℕ). drop n all) (let f = r.few in let e = ap length r.is in let g = length-drop r.count all in
    let z : length all - length rest ≡ r.count = omega (arith, e, f, g) in z) ∙ sym r.is

-- the events at the end of a reference
abbrev pub closing : List Event → Point → Point → List Event
closing es to end =
    (((es ++ event Exit names.CharacterReferenceValue to None ∷ []) ++ event Enter names.CharacterReferenceMarkerSemi to None ∷ [])
    ++ event Exit names.CharacterReferenceMarkerSemi end None ∷ [])
    ++ event Exit names.CharacterReference end None ∷ []

module _ {T : Type 0} (texts : List ℕ → Option (List ℕ)) (is_punctuation : ℕ → Bool) (x : Context T) (text : Text) (c0 : Config Inlines) (kind : Kind) where
  abbrev pub sized : ℕ → KeptState
  sized j = referring kind.marker j c0.tokenize_state

  abbrev pub Within : List Event → ℕ → Config Inlines → Type 0
  Within es j c = Here text c0 es (sized j) c × (is_feed c.previous ≡ false)

  abbrev does_at : Config Inlines → Effect Inlines
  does_at c = run (bodies texts is_punctuation x (Inline state_inline.CharacterReferenceValue)) c

  goes_by : (es : List Event) (j b : ℕ) (c : Config Inlines) → Within es j c
      → goes_on c.tokenize_state.marker c.tokenize_state.size b ≡ (nat_lt j kind.most && kind.sort b)
  goes_by es j b c h = ap (λ (k : KeptState). goes_on k.marker k.size b) h.0.kept ∙ kind.goes j b

  longer_does : (es : List Event) (j b : ℕ) (c : Config Inlines) → Within es j c → j < kind.most → c.current ≡ Some b → kind.sort b ≡ true
      → does_at c ≡ plain (ReferenceStates.value_longer c) (next state_inline.CharacterReferenceValue)
  longer_does es j b c h few e is =
      ReferenceStates.value_by texts is_punctuation x b c false true e (and_left (b == 59) (is_value_known texts x.bytes c)
      (apart kind.sort 59 b kind.no_semicolon is))
      (goes_by es j b c h ∙ and_from (nat_lt j kind.most) (kind.sort b) (lt-ltb j kind.most few) is)

  one_more : (j : ℕ) → j < kind.most → more j ≡ j + 1
  one_more j few = let s = kind.small in omega (arith, few, s)

  longer_keeps : (es : List Event) (j b : ℕ) (c : Config Inlines) → Within es j c → j < kind.most → c.current ≡ Some b → kind.sort b ≡ true
      → Within es (j + 1) (feed text (ReferenceStates.value_longer c))
  longer_keeps es j b c h few e is = (
    fed_here text c0 (past_here text c0 (keeping_here text c0 (λ (k : KeptState). record k { size = more k.size })
        (sized (j + 1)) (ap sized (one_more j few)) h.0)),
    ap is_feed e ∙ apart kind.sort 10 b kind.no_feed is,
  )

  module _ (es : List Event) (c : Config Inlines) (q : Point) (j : ℕ) (low : j ≤ kind.most) (h : Within es j c) (at : At text c q) (whole cs : List ℕ)
      (s : Sees text q cs) (known : List ℕ → Bool)
      (size_is : prefix_len kind.sort whole ≡ j + prefix_len kind.sort cs) (rest_is : drop (prefix_len kind.sort whole) whole
      ≡ drop (prefix_len kind.sort cs) cs)
      (knows : (k : ℕ) (end : Point) → Stretch text kind.sort k q end → 0 < j + k
      → is_known texts x.bytes kind.marker (j + k) (text.start end).index ≡ known (take (j + k) whole)) where
    -- reading goes well, up to after the `;`
    pub record GoesWell (rest : List ℕ) : Type 0 where
      pub config : Config Inlines
      pub count : ℕ
      pub to : Point
      pub end : Point
      pub reads : Reads texts is_punctuation x text c (retry state_inline.CharacterReferenceValue) config true
      pub value : Stretch text kind.sort count q to
      pub some : 0 < j + count
      pub few : j + count ≤ kind.most
      pub semicolon : text.byte (text.start to) ≡ Some (as_byte 59 end)
      pub here : Here text c0 (closing es (text.start to) end) (sized (j + count)) config
      pub point : config.point ≡ end
      pub sees : Sees text end rest
      pub rest_of : IsRest cs rest

    abbrev pub Fails : Type 0
    Fails = (d : Config Inlines) × Reads texts is_punctuation x text c (retry state_inline.CharacterReferenceValue) d false

    abbrev pub SettlesAs : Bool → List ℕ → Type 0
    SettlesAs true rest = GoesWell rest
    SettlesAs false rest = Fails

    abbrev pub Outcome : Option Part → Type 0
    Outcome None = Fails
    Outcome (Some part) = SettlesAs (known part.text) part.rest

    abbrev n : ℕ
    n = prefix_len kind.sort cs

    abbrev total : ℕ
    total = j + n

    value : Run text kind.sort q cs
    value = run_seen text kind.sort kind.no_tab (seen_sort kind.sort kind.no_feed kind.no_return kind.no_both kind.no_column) cs s

    capped : StretchEnd texts is_punctuation x text (Inline state_inline.CharacterReferenceValue) kind.sort kind.most (Within es) c total value.end
    capped =
        over_capped texts is_punctuation x text (Inline state_inline.CharacterReferenceValue) kind.sort kind.most ReferenceStates.value_longer (Within es)
        (longer_does es) (longer_keeps es) (λ d. refl) value.stretch j c h at low

    abbrev Back : Config Inlines → Type 0
    Back d = (e : Config Inlines) (w : Bool) → Reads texts is_punctuation x text d (retry state_inline.CharacterReferenceValue) e w
        → Reads texts is_punctuation x text c (retry state_inline.CharacterReferenceValue) e w

    fails : (d : Config Inlines) → Back d → does_at d ≡ plain d states.Nok → Fails
    fails d back e =
        (d, back d false (on_retry texts is_punctuation x text (Inline state_inline.CharacterReferenceValue) d d false (plain d states.Nok) e ends-nok))

    -- at a byte that neither goes on nor ends it
    fails_at : (d : Config Inlines) (k b : ℕ) → Back d → Within es k d → d.current ≡ Some b → ((b == 59) && is_value_known texts x.bytes d) ≡ false
        → (nat_lt k kind.most && kind.sort b) ≡ false → Fails
    fails_at d k b back w e f g = fails d back (ReferenceStates.value_by texts is_punctuation x b d false false e f (goes_by es k b d w ∙ g))

    abbrev ValueAtEnd : List ℕ → Option Part
    ValueAtEnd rest = if nat_le 1 total && nat_le total kind.most then before_semicolon (take total whole) rest else None

    none_ended : (rest : List ℕ) → before_semicolon (take total whole) rest ≡ None → Fails → Outcome (ValueAtEnd rest)
    none_ended rest e f = subst Outcome (sym (none_if (nat_le 1 total && nat_le total kind.most) (before_semicolon (take total whole) rest) e)) f

    -- at the byte after all of the sort
    abbrev Stands : Config Inlines → Type 0
    Stands d = Within es total d × At text d value.end × Back d

    no_more : (b : ℕ) (r : Point) → text.byte (text.start value.end) ≡ Some (as_byte b r) → kind.sort b ≡ false
    no_more b r e = sym (ap (λ v. has kind.sort (byte_of v)) e) ∙ stops value.stretch

    value_known : (d : Config Inlines) → Stands d → 0 < total → is_value_known texts x.bytes d ≡ known (take total whole)
    value_known d st some =
        ap (λ (k : KeptState). is_known texts x.bytes k.marker k.size d.point.index) st.0.0.kept
        ∙ (ap (λ (p : Point). is_known texts x.bytes kind.marker total p.index) st.1.point ∙ knows n value.end value.stretch some)

    none_known : (d : Config Inlines) → Stands d → total ≤ 0 → is_value_known texts x.bytes d ≡ false
    none_known d st none =
        ap (λ (k : KeptState). is_known texts x.bytes k.marker k.size d.point.index) st.0.0.kept
        ∙ ap (λ (b : Bool). b && (not (kind.marker == 38) || is_name texts x.bytes total d.point.index)) (le-ltb 0 total none)

    rest_after : (code : ℕ) (rest : List ℕ) → drop n cs ≡ code ∷ rest → IsRest cs rest
    rest_after code rest e =
        let f = ap length e in
        let g = length-drop n cs in
        let l : length (code ∷ rest) ≡ suc (length rest) = refl in
        let one : drop 1 (drop n cs) ≡ drop (n + 1) cs = drop-drop 1 n cs in
        record { count = n + 1; few = omega (arith, f, g, l); is = sym (ap (drop 1) e) ∙ one }

    -- the `;` is read
    closes : (d : Config Inlines) (r : Point) (code : ℕ) (rest : List ℕ) → Stands d → drop n cs ≡ code ∷ rest
        → text.byte (text.start value.end) ≡ Some (as_byte 59 r) → Sees text r rest → 0 < total → total ≤ kind.most
        → is_value_known texts x.bytes d ≡ true → GoesWell rest
    closes d r code rest st e f s some few is =
        let e59 = byte_at st.1 f in
        let calm : is_feed d.current ≡ false = ap is_feed e59 in
        let place = st.1.next (as_byte 59 r) f in
        let one = exits text c0 names.CharacterReferenceValue st.0.0 st.0.1 st.1.point in
        let two = around_here text c0 names.CharacterReferenceMarkerSemi one st.1.point place calm in
        record {
          config = ReferenceStates.value_closed d;
          count = n;
          to = value.end;
          end = r;
          reads =
              st.2 (ReferenceStates.value_closed d) true
              (on_retry texts is_punctuation x text (Inline state_inline.CharacterReferenceValue) d (ReferenceStates.value_closed d) true
              (plain (ReferenceStates.value_closed d) states.Ok)
              (ReferenceStates.value_by texts is_punctuation x 59 d true false e59 is
              (goes_by es total 59 d st.0 ∙ and_right (nat_lt total kind.most) (kind.sort 59) kind.no_semicolon)) ends-ok);
          value = value.stretch;
          some = some;
          few = few;
          semicolon = f;
          here = exits text c0 names.CharacterReference two calm place;
          point = place;
          sees = s;
          rest_of = rest_after code rest e;
        }

    at_semicolon : (d : Config Inlines) (r : Point) (code : ℕ) (rest : List ℕ) → Stands d → drop n cs ≡ code ∷ rest
        → text.byte (text.start value.end) ≡ Some (as_byte 59 r) → Sees text r rest → total ≤ kind.most
        → Outcome (if nat_le 1 total && nat_le total kind.most then Some (part (take total whole) rest) else None)
    at_semicolon d r code rest st e f s few = elim (cases_lt 0 total) [
      | inl some ↦
          subst (λ (b : Bool). Outcome (if b then Some (part (take total whole) rest) else None))
          (sym (and_from (nat_le 1 total) (nat_le total kind.most) (le-leb 1 total (omega (arith, some))) (le-leb total kind.most few)))
          (elim (cases_Bool (known (take total whole))) [
            | inl is ↦ subst (λ (b : Bool). SettlesAs b rest) (sym is) (closes d r code rest st e f s some few (value_known d st some ∙ is))
            | inr is ↦ subst (λ (b : Bool). SettlesAs b rest) (sym is) (fails_at d total 59 st.2 st.0 (byte_at st.1 f) (value_known d st some ∙ is)
                (and_right (nat_lt total kind.most) (kind.sort 59) kind.no_semicolon))
          ])
      | inr none ↦
          subst (λ (b : Bool). Outcome (if b then Some (part (take total whole) rest) else None))
          (sym (and_left (nat_le 1 total) (nat_le total kind.most) (lt-leb 1 total (omega (arith, none)))))
          (fails_at d total 59 st.2 st.0 (byte_at st.1 f) (none_known d st none) (and_right (nat_lt total kind.most) (kind.sort 59) kind.no_semicolon))
    ]

    at_other : (d : Config Inlines) (b : ℕ) (r : Point) (rest : List ℕ) → Stands d → text.byte (text.start value.end) ≡ Some (as_byte b r) → (b == 59) ≡ false
        → before_semicolon (take total whole) rest ≡ None → Outcome (ValueAtEnd rest)
    at_other d b r rest st e other none =
        none_ended rest none (fails_at d total b st.2 st.0 (byte_at st.1 e) (and_left (b == 59) (is_value_known texts x.bytes d) other)
        (and_right (nat_lt total kind.most) (kind.sort b) (no_more b r e)))

    no_end : (code : ℕ) (rest : List ℕ) → (code == 59) ≡ false → before_semicolon (take total whole) (code ∷ rest) ≡ None
    no_end code rest h = ap (λ (b : Bool). if b then Some (part (take total whole) rest) else None) h

    an_end : (code : ℕ) (rest : List ℕ) → (code == 59) ≡ true → before_semicolon (take total whole) (code ∷ rest) ≡ Some (part (take total whole) rest)
    an_end code rest h = ap (λ (b : Bool). if b then Some (part (take total whole) rest) else None) h

    by_rest : (d : Config Inlines) (rest : List ℕ) → drop n cs ≡ rest → Sees text value.end rest → Stands d → total ≤ kind.most → Outcome (ValueAtEnd rest)
    by_rest d [] is (nothing e) st few = none_ended [] refl (fails d st.2 (ReferenceStates.value_ends texts is_punctuation x d (end_at st.1 e)))
    by_rest d (code ∷ rest) is (byte {q = r} no_tab e s) st few = elim (cases_Bool (code == 59)) [
      | inl h ↦
          let f : text.byte (text.start value.end) ≡ Some (as_byte 59 r) = e ∙ ap (λ (b : ℕ). Some (as_byte (text_byte b) r)) (eqb-true code 59 h) in
          subst (λ (o : Option Part). Outcome (if nat_le 1 total && nat_le total kind.most then o else None)) (sym (an_end code rest h))
          (at_semicolon d r code rest st is f s few)
      | inr h ↦ at_other d (text_byte code) r (code ∷ rest) st e (seen_as_itself 59 refl refl code ∙ h) (no_end code rest h)
    ]
    by_rest d (code ∷ rest) is (tab {q = r} few e _ s) st most = at_other d 9 r (9 ∷ rest) st e refl refl

    -- where the value is too long
    too_long : kind.most < total → (v : Option ℕ) → capped.config.current ≡ v → has kind.sort v ≡ true → capped.count ≡ kind.most → Fails
    too_long long (Some b) e is full =
        fails_at capped.config kind.most b capped.back (subst (λ (k : ℕ). Within es k capped.config) full capped.held) e
        (and_left (b == 59) (is_value_known texts x.bytes capped.config) (apart kind.sort 59 b kind.no_semicolon is))
        (and_left (nat_lt kind.most kind.most) (kind.sort b) (le-ltb kind.most kind.most (omega arith)))
    too_long long None e is full = absurd (let f : false ≡ true = is in cc)

    value_ended : Outcome (ValueAtEnd (drop n cs))
    value_ended = elim capped.ends [
      | inl l ↦
          by_rest capped.config (drop n cs) refl value.sees
          (subst (λ (k : ℕ). Within es k capped.config) l.1 capped.held, subst (λ (p : Point). At text capped.config p) l.2 capped.at, capped.back) l.0
      | inr r ↦
          subst (λ (b : Bool). Outcome (if b then before_semicolon (take total whole) (drop n cs) else None))
          (sym (and_right (nat_le 1 total) (nat_le total kind.most) (lt-leb total kind.most r.0)))
          (too_long r.0 capped.config.current refl r.2 r.1)
    ]

    pub value_reads : Outcome (part_to_semicolon kind.sort kind.most whole)
    value_reads = subst Outcome (sym (terminated_by kind.sort kind.most total whole (drop n cs) size_is rest_is)) value_ended
