-- The states of character references read what the definition calls one, and nothing else.
use Rattle.std.proofs.Common.{◌≡◌, ◌∙◌, ℕ, ◌+◌, ◌-◌, ◌<◌, ◌≤◌, Bool, true, false, nat_le, ◌==◌, ◌&&◌, ◌||◌, if◌then◌else◌, List, [], ◌∷◌, ◌++◌, length, take}
use Rattle.std.proofs.Common.{drop, is_some, Option, Some, None, inl, inr, refl, sym, ap, subst, arith, append_assoc}
use Rattle.state_verdicts.proofs.Prelude.{as_byte, before_semicolon, byte, cases_Bool, Config, Context, ends-nok, eqb-true, event, Event, feed, Found}
use Rattle.state_verdicts.proofs.Prelude.{InlineLeaf, InlineName, Inlines, is_ascii_alphanumeric, is_ascii_digit, is_ascii_hexdigit, is_feed, is_known}
use Rattle.state_verdicts.proofs.Prelude.{is_name, KeptState, leaf, longer, lt-ltb, nothing, Part, part_to_semicolon, plain, Point, prefix_len}
use Rattle.state_verdicts.proofs.Prelude.{ReferenceVerdict, referring, retry, run, Sees, Shows, State, Stretch, tab, Text, text_byte, with_byte}
use Rattle.definition_inline.specs.CharacterReference.{reference_by_name, reference_by_number, numbered_text, number_of, number_reference}
use Rattle.definition_inline.specs.CharacterReference.{reference_after, reference_leaf, reference_of}
use Rattle.definition_inline.specs.Inline.{Character}
use Rattle.engine_events.specs.declared.event.Kind.TheVariants.{Enter, Exit}
use Rattle.engine_events.specs.declared.event.Name.TheVariants as names
use Rattle.engine_states.specs.declared.state.Inline.TheVariants as state_inline
use Rattle.engine_states.specs.declared.state.Name.TheVariants.{Inline}
use Rattle.engine_states.specs.declared.state.State.TheVariants as states
use Rattle.state_inline.specs.Inlines.{bodies}
use Rattle.state_verdicts.specs.CharacterReference.{CharacterReferenceVerdict, IsReference, decimal, hexadecimal}
use Rattle.state_verdicts.specs.CharacterReference.{named as by_name}
use Rattle.state_verdicts.specs.Verdicts.{Reads}
use Rattle.state_verdicts.proofs.Loops.{At, byte_at, end_at, fed, goes_to}
use Rattle.state_verdicts.proofs.NamesSeen.{word, word_known}
use Rattle.state_verdicts.proofs.ReferenceStates
use Rattle.state_verdicts.proofs.ReferenceValues.{GoesWell, Kind, Outcome, SettlesAs, Within, apart}
use Rattle.state_verdicts.proofs.ReferenceValues.{closing, decimal_kind, hexadecimal_kind, left_of, name_kind}
use Rattle.state_verdicts.proofs.ReferenceValues.{value_reads}
use Rattle.state_verdicts.proofs.Runs.{IsRest, one_further}
use Rattle.state_verdicts.proofs.Seen.{seen_sort}
use Rattle.state_verdicts.proofs.Standing.{Here, around_here, enters, fed_here, keeping_here, past_here}
use Rattle.state_verdicts.proofs.Stretches.{prefix_by, rest_more, seen_as_itself}
use Rattle.state_verdicts.proofs.Turns.{on_retry}

abbrev always : List ℕ → Bool
always text = true

-- a value by digits stands for something
number_known : (texts : List ℕ → Option (List ℕ)) (bytes : List ℕ) (m k i : ℕ) → (m == 38) ≡ false → 0 < k → is_known texts bytes m k i ≡ true
number_known texts bytes m k i e h = rw (lt-ltb 0 k h, e) refl

-- where the first code isn't of the sort
terminated_none : (sort : ℕ → Bool) (most c : ℕ) (cs : List ℕ) → sort c ≡ false → part_to_semicolon sort most (c ∷ cs) ≡ None
terminated_none sort most c cs h =
    ap (λ (n : ℕ). if nat_le 1 n && nat_le n most then before_semicolon (take n (c ∷ cs)) (drop n (c ∷ cs)) else None) (prefix_by sort c cs false h)

module _ {T : Type 0} (texts : List ℕ → Option (List ℕ)) (is_punctuation : ℕ
    → Bool) (x : Context T) (text : Text) (c : Config Inlines) (p q : Point) (cs : List ℕ)
    (shows : Shows x.bytes text) (column : 0 < (text.start q).column) (s : Sees text q cs) where
  abbrev at_mark : Config Inlines
  at_mark = with_byte c p (Some (as_byte 38 q))

  abbrev all : List ℕ
  all = 38 ∷ cs

  abbrev Verdict_by : Option Found → Type 0
  Verdict_by = ReferenceVerdict text (Reads texts is_punctuation x text at_mark (retry state_inline.CharacterReferenceStart)) at_mark p q all

  abbrev Reads_from : Config Inlines → State → Config Inlines → Bool → Type 0
  Reads_from = Reads texts is_punctuation x text

  -- after the `&`
  abbrev begun : Config Inlines
  begun = feed text (ReferenceStates.reference_begun at_mark)

  abbrev begun_events : List Event
  begun_events = ((c.events ++ event Enter names.CharacterReference p None ∷ []) ++ event Enter names.CharacterReferenceMarker p None ∷ [])
      ++ event Exit names.CharacterReferenceMarker q None ∷ []

  begun_here : Here text at_mark begun_events c.tokenize_state begun
  begun_here = record { events = refl; kept = refl; map = refl; resolvers = refl }

  begun_at : At text begun q
  begun_at = fed text (ReferenceStates.reference_begun at_mark) q refl

  fails : (d : Config Inlines) → Reads_from at_mark (retry state_inline.CharacterReferenceStart) d false → Verdict_by None
  fails d r = (d, r)

  -- what was read of the codes so far is this many
  abbrev IsRead : List ℕ → Type 0
  IsRead ds = (rest : List ℕ) → IsRest ds rest → IsRest all rest

  module _ (on : x.options.constructs.character_reference ≡ true) where
    abbrev From : Config Inlines → InlineName → Type 0
    From e n = (d : Config Inlines) (w : Bool) → Reads_from e (retry n) d w → Reads_from at_mark (retry state_inline.CharacterReferenceStart) d w

    from_open : From begun state_inline.CharacterReferenceOpen
    from_open d w r =
        goes_to texts is_punctuation x text (Inline state_inline.CharacterReferenceStart) (Inline state_inline.CharacterReferenceOpen) at_mark
        (ReferenceStates.reference_begun at_mark) d w
        (ReferenceStates.starts texts is_punctuation x at_mark true refl on) r

    stops_open : run (bodies texts is_punctuation x (Inline state_inline.CharacterReferenceOpen)) begun ≡ plain begun states.Nok → Verdict_by None
    stops_open e =
        fails begun (from_open begun false (on_retry texts is_punctuation x text (Inline state_inline.CharacterReferenceOpen) begun begun false
        (plain begun states.Nok) e ends-nok))

    -- ---- values

    module _ (kind : Kind) (es : List Event) (e : Config Inlines) (v : Point) (j : ℕ) (low : j ≤ kind.most)
        (h : Within texts is_punctuation x text at_mark kind es j e) (at : At text e v)
        (whole ds : List ℕ) (t : Sees text v ds) (known : List ℕ → Bool) (back : From e state_inline.CharacterReferenceValue) (read : IsRead ds)
        (size_is : prefix_len kind.sort whole ≡ j + prefix_len kind.sort ds) (rest_is : drop (prefix_len kind.sort whole) whole
        ≡ drop (prefix_len kind.sort ds) ds)
        (knows : (k : ℕ) (end : Point) → Stretch text kind.sort k v end → 0 < j + k
        → is_known texts x.bytes kind.marker (j + k) (text.start end).index ≡ known (take (j + k) whole)) where
      abbrev Value_good : List ℕ → Type 0
      Value_good = GoesWell texts is_punctuation x text at_mark kind es e v j low h at whole ds t known size_is rest_is knows

      abbrev Value_settled : Bool → List ℕ → Type 0
      Value_settled = SettlesAs texts is_punctuation x text at_mark kind es e v j low h at whole ds t known size_is rest_is knows

      abbrev Value_outcome : Option Part → Type 0
      Value_outcome = Outcome texts is_punctuation x text at_mark kind es e v j low h at whole ds t known size_is rest_is knows

      outcome : Value_outcome (part_to_semicolon kind.sort kind.most whole)
      outcome = value_reads texts is_punctuation x text at_mark kind es e v j low h at whole ds t known size_is rest_is knows

      -- these events and this kind are those of a reference
      abbrev Shapes : Type 0
      Shapes =
          (count : ℕ) (to end : Point) → Stretch text kind.sort count v to → 0 < j + count → j + count ≤ kind.most
          → text.byte (text.start to) ≡ Some (as_byte 59 end)
          → (added : List Event) × IsReference text p q kind.marker (j + count) added end × (closing es (text.start to) end ≡ c.events ++ added)

      goes_well : Shapes → (parts : List InlineLeaf) (rest : List ℕ) → Value_good rest → Verdict_by (Some (leaf parts (length all - length rest)))
      goes_well shapes parts rest g =
          let f = shapes g.count g.to g.end g.value g.some g.few g.semicolon in (
            g.config,
            kind.marker,
            j + g.count,
            f.0,
            g.end,
            back g.config true g.reads,
            f.1,
            record { events = g.here.events ∙ f.2; point = g.point; kept = g.here.kept; map = g.here.map; resolvers = g.here.resolvers },
            subst (λ (z : List ℕ). Sees text g.end z) (sym (left_of all rest (read rest g.rest_of))) g.sees,
          )

      by_text : Shapes → (rest : List ℕ) (found : Option (List ℕ)) → Value_settled (is_some found) rest
          → Verdict_by (reference_leaf (length all - length rest) found)
      by_text shapes rest None f = fails f.0 (back f.0 false f.1)
      by_text shapes rest (Some found) g = goes_well shapes (Character found ∷ []) rest g

      by_names : Shapes → ((word : List ℕ) → known word ≡ is_some (texts word))
          → Verdict_by (reference_of texts all (reference_by_name (part_to_semicolon kind.sort kind.most whole)))
      by_names shapes is = by_part (part_to_semicolon kind.sort kind.most whole) outcome
        where
          by_part : (o : Option Part) → Value_outcome o → Verdict_by (reference_of texts all (reference_by_name o))
          by_part None f = fails f.0 (back f.0 false f.1)
          by_part (Some part) g = by_text shapes part.rest (texts part.text) (subst (λ (b : Bool). Value_settled b part.rest) (is part.text) g)

      by_number : Shapes → ((word : List ℕ) → known word ≡ true) → (base : ℕ)
          → Verdict_by (reference_of texts all (reference_by_number base (part_to_semicolon kind.sort kind.most whole)))
      by_number shapes is base = by_part (part_to_semicolon kind.sort kind.most whole) outcome
        where
          by_part : (o : Option Part) → Value_outcome o → Verdict_by (reference_of texts all (reference_by_number base o))
          by_part None f = fails f.0 (back f.0 false f.1)
          by_part (Some part) g = by_text shapes part.rest (Some (numbered_text (number_of base part.text)))
              (subst (λ (b : Bool). Value_settled b part.rest) (is part.text) g)

    -- ---- a name

    by_letter : (code : ℕ) (ds : List ℕ) (r : Point) → cs ≡ code ∷ ds → text.byte (text.start q) ≡ Some (as_byte (text_byte code) r) → Sees text r ds
        → is_ascii_alphanumeric code ≡ true
        → Verdict_by (reference_of texts all (reference_by_name (part_to_semicolon is_ascii_alphanumeric 31 (code ∷ ds))))
    by_letter code ds r is e t letter =
        let same : is_ascii_alphanumeric (text_byte code) ≡ true = seen_sort is_ascii_alphanumeric refl refl refl refl code ∙ letter in
        let first = byte_at begun_at e in
        let d = ReferenceStates.value_begun 38 begun in
        let one : (k : ℕ) → k + 1 ≡ 1 + k = λ k. omega arith in
        by_names name_kind (begun_events ++ event Enter names.CharacterReferenceValue (text.start q) None ∷ []) (feed text d) r 1 (omega arith) (
          fed_here text at_mark (past_here text at_mark (enters text at_mark names.CharacterReferenceValue
              (keeping_here text at_mark (λ (k : KeptState). referring 38 1 k) (referring 38 1 c.tokenize_state) refl begun_here) begun_at.point)),
          ap is_feed first ∙ apart is_ascii_alphanumeric 10 (text_byte code) refl same,
        )
        (fed text d r (begun_at.next (as_byte (text_byte code) r) e)) (code ∷ ds) ds t (λ (word : List ℕ). is_some (texts word))
        (λ z w reads. from_open z w (goes_to texts is_punctuation x text (Inline state_inline.CharacterReferenceOpen)
        (Inline state_inline.CharacterReferenceValue) begun d z w
        (ReferenceStates.open_by texts is_punctuation x (text_byte code) begun true first
        (apart is_ascii_alphanumeric 35 (text_byte code) refl same) same) reads))
        (λ rest f. one_further 38 cs rest (subst (λ (l : List ℕ). IsRest l rest) (sym is) (one_further code ds rest f)))
        (prefix_by is_ascii_alphanumeric code ds true letter) (rest_more is_ascii_alphanumeric code ds letter)
        (λ k end st some. ap (λ (b : Bool). b && is_name texts x.bytes (1 + k) (text.start end).index) (lt-ltb 0 (1 + k) some)
        ∙ word_known x.bytes text shows texts q end (1 + k) (code ∷ ds) (word x.bytes text shows
        (subst (λ (n : ℕ). Stretch text is_ascii_alphanumeric n q end) (one k) (longer e same st)) (code ∷ ds)
        (subst (λ (l : List ℕ). Sees text q l) is s) column) some)
        (λ count to end st some few semicolon. (
          _,
          by_name (record {
            some = some;
            few = few;
            value = subst (λ (n : ℕ). Stretch text is_ascii_alphanumeric n q to) (one count) (longer e same st);
            semicolon = semicolon;
          }),
          simp append_assoc refl,
        ))
        (λ word. refl)

    -- ---- a number

    module _ (ds : List ℕ) (r : Point) (is : cs ≡ 35 ∷ ds) (e : text.byte (text.start q) ≡ Some (as_byte 35 r)) where
      abbrev hash : Config Inlines
      hash = feed text (ReferenceStates.numeric_begun begun)

      abbrev hash_events : List Event
      hash_events = (begun_events ++ event Enter names.CharacterReferenceMarkerNumeric (text.start q) None ∷ [])
          ++ event Exit names.CharacterReferenceMarkerNumeric r None ∷ []

      hash_here : Here text at_mark hash_events c.tokenize_state hash
      hash_here =
          fed_here text at_mark (around_here text at_mark names.CharacterReferenceMarkerNumeric begun_here begun_at.point (begun_at.next (as_byte 35 r) e)
          (ap is_feed (byte_at begun_at e)))

      hash_at : At text hash r
      hash_at = fed text (ReferenceStates.numeric_begun begun) r (begun_at.next (as_byte 35 r) e)

      from_hash : From hash state_inline.CharacterReferenceNumeric
      from_hash d w z =
          from_open d w (goes_to texts is_punctuation x text (Inline state_inline.CharacterReferenceOpen)
          (Inline state_inline.CharacterReferenceNumeric) begun (ReferenceStates.numeric_begun begun) d w
          (ReferenceStates.open_number texts is_punctuation x begun (byte_at begun_at e)) z)

      stops_hash : run (bodies texts is_punctuation x (Inline state_inline.CharacterReferenceNumeric)) hash ≡ plain hash states.Nok → Verdict_by None
      stops_hash f =
          fails hash (from_hash hash false (on_retry texts is_punctuation x text (Inline state_inline.CharacterReferenceNumeric) hash hash false
          (plain hash states.Nok) f ends-nok))

      hash_read : (code : ℕ) (es : List ℕ) → ds ≡ code ∷ es → IsRead es
      hash_read code es more rest f =
          one_further 38 cs rest (subst (λ (l : List ℕ). IsRest l rest) (sym is)
          (one_further 35 ds rest (subst (λ (l : List ℕ). IsRest l rest) (sym more) (one_further code es rest f))))

      by_digit : (code : ℕ) (es : List ℕ) (v : Point) → ds ≡ code ∷ es → text.byte (text.start r) ≡ Some (as_byte (text_byte code) v) → Sees text v es
          → ((code == 120) || (code == 88)) ≡ false → is_ascii_digit code ≡ true
          → Verdict_by (reference_of texts all (reference_by_number 10 (part_to_semicolon is_ascii_digit 7 (code ∷ es))))
      by_digit code es v more f t no_x digit =
          let same : is_ascii_digit (text_byte code) ≡ true = seen_sort is_ascii_digit refl refl refl refl code ∙ digit in
          let first = byte_at hash_at f in
          let d = ReferenceStates.value_begun 35 hash in
          let one : (k : ℕ) → k + 1 ≡ 1 + k = λ k. omega arith in
          by_number decimal_kind (hash_events ++ event Enter names.CharacterReferenceValue (text.start r) None ∷ []) (feed text d) v 1 (omega arith) (
            fed_here text at_mark (past_here text at_mark (enters text at_mark names.CharacterReferenceValue
                (keeping_here text at_mark (λ (k : KeptState). referring 35 1 k) (referring 35 1 c.tokenize_state) refl hash_here) hash_at.point)),
            ap is_feed first ∙ apart is_ascii_digit 10 (text_byte code) refl same,
          )
          (fed text d v (hash_at.next (as_byte (text_byte code) v) f)) (code ∷ es) es t always
          (λ z w reads. from_hash z w (goes_to texts is_punctuation x text (Inline state_inline.CharacterReferenceNumeric)
          (Inline state_inline.CharacterReferenceValue) hash d z w
          (ReferenceStates.numeric_by texts is_punctuation x (text_byte code) hash false true first
          (seen_sort (λ (b : ℕ). (b == 120) || (b == 88)) refl refl refl refl code ∙ no_x) same) reads))
          (hash_read code es more) (prefix_by is_ascii_digit code es true digit) (rest_more is_ascii_digit code es digit)
          (λ k end st some. number_known texts x.bytes 35 (1 + k) (text.start end).index refl some)
          (λ count to end st some few semicolon. (
            _,
            decimal e (record {
              some = some;
              few = few;
              value = subst (λ (n : ℕ). Stretch text is_ascii_digit n r to) (one count) (longer f same st);
              semicolon = semicolon;
            }),
            simp append_assoc refl,
          ))
          (λ word. refl) 10

      by_x : (code : ℕ) (es : List ℕ) (v : Point) → ds ≡ code ∷ es → text.byte (text.start r) ≡ Some (as_byte (text_byte code) v) → Sees text v es
          → ((code == 120) || (code == 88)) ≡ true
          → Verdict_by (reference_of texts all (reference_by_number 16 (part_to_semicolon is_ascii_hexdigit 6 es)))
      by_x code es v more f t is_x =
          let same : ((text_byte code == 120) || (text_byte code == 88)) ≡ true = seen_sort (λ (b : ℕ). (b == 120) || (b == 88)) refl refl refl refl code
          ∙ is_x in
          let first = byte_at hash_at f in
          let calm : is_feed hash.current ≡ false = ap is_feed first ∙ apart (λ (b : ℕ). (b == 120) || (b == 88)) 10 (text_byte code) refl same in
          let place = hash_at.next (as_byte (text_byte code) v) f in
          let d = ReferenceStates.hexadecimal_begun hash in
          let zero_more : (k : ℕ) → k ≡ 0 + k = λ k. omega arith in
          by_number hexadecimal_kind
          (((hash_events ++ event Enter names.CharacterReferenceMarkerHexadecimal (text.start r) None ∷ [])
          ++ event Exit names.CharacterReferenceMarkerHexadecimal v None ∷ []) ++ event Enter names.CharacterReferenceValue v None ∷ [])
          (feed text d) v 0 (omega arith) (
            fed_here text at_mark (enters text at_mark names.CharacterReferenceValue
                (around_here text at_mark names.CharacterReferenceMarkerHexadecimal
                (keeping_here text at_mark (λ (k : KeptState). referring 120 0 k) (referring 120 0 c.tokenize_state) refl hash_here) hash_at.point place calm)
                place),
            calm,
          )
          (fed text d v place) es es t always
          (λ z w reads. from_hash z w (goes_to texts is_punctuation x text (Inline state_inline.CharacterReferenceNumeric)
          (Inline state_inline.CharacterReferenceValue) hash d z w
          (ReferenceStates.numeric_by texts is_punctuation x (text_byte code) hash true (is_ascii_digit (text_byte code)) first same refl) reads))
          (hash_read code es more) (zero_more (prefix_len is_ascii_hexdigit es)) refl
          (λ k end st some. number_known texts x.bytes 120 (0 + k) (text.start end).index refl some)
          (λ count to end st some few semicolon. (
            _,
            hexadecimal e same f (record {
              some = some;
              few = few;
              value = subst (λ (n : ℕ). Stretch text is_ascii_hexdigit n v to) (zero_more count) st;
              semicolon = semicolon;
            }),
            simp append_assoc refl,
          ))
          (λ word. refl) 16

      -- at another byte, or at the end
      no_digit : (code : ℕ) (es : List ℕ) (b : ℕ) (v : Point) → text.byte (text.start r) ≡ Some (as_byte b v) → ((b == 120) || (b == 88)) ≡ false
          → is_ascii_digit b ≡ false → is_ascii_digit code ≡ false
          → Verdict_by (reference_of texts all (reference_by_number 10 (part_to_semicolon is_ascii_digit 7 (code ∷ es))))
      no_digit code es b v f no_x none same =
          subst (λ (o : Option Part). Verdict_by (reference_of texts all (reference_by_number 10 o))) (sym (terminated_none is_ascii_digit 7 code es same))
          (stops_hash (ReferenceStates.numeric_by texts is_punctuation x b hash false false (byte_at hash_at f) no_x none))

      by_numeric : (es : List ℕ) → ds ≡ es → Sees text r es → Verdict_by (reference_of texts all (number_reference es))
      by_numeric [] more (nothing f) = stops_hash (ReferenceStates.numeric_ends texts is_punctuation x hash (end_at hash_at f))
      by_numeric (code ∷ es) more (byte {q = v} apart f t) = elim (cases_Bool ((code == 120) || (code == 88))) [
        | inl h ↦ subst (λ (b : Bool). Verdict_by (reference_of texts all (if b then reference_by_number 16 (part_to_semicolon is_ascii_hexdigit 6 es)
            else reference_by_number 10 (part_to_semicolon is_ascii_digit 7 (code ∷ es))))) (sym h) (by_x code es v more f t h)
        | inr h ↦
            subst (λ (b : Bool). Verdict_by (reference_of texts all (if b then reference_by_number 16 (part_to_semicolon is_ascii_hexdigit 6 es)
            else reference_by_number 10 (part_to_semicolon is_ascii_digit 7 (code ∷ es))))) (sym h)
            (elim (cases_Bool (is_ascii_digit code)) [
              | inl k ↦ by_digit code es v more f t h k
              | inr k ↦ no_digit code es (text_byte code) v f (seen_sort (λ (b : ℕ). (b == 120) || (b == 88)) refl refl refl refl code ∙ h)
                  (seen_sort is_ascii_digit refl refl refl refl code ∙ k) k
            ])
      ]
      by_numeric (code ∷ es) more (tab {q = v} few f _ t) = no_digit 9 es 9 v f refl refl refl

    -- ---- after the `&`

    no_letter : (code : ℕ) (ds : List ℕ) (b : ℕ) (r : Point) → text.byte (text.start q) ≡ Some (as_byte b r) → (b == 35) ≡ false
        → is_ascii_alphanumeric b ≡ false → is_ascii_alphanumeric code ≡ false
        → Verdict_by (reference_of texts all (reference_by_name (part_to_semicolon is_ascii_alphanumeric 31 (code ∷ ds))))
    no_letter code ds b r e no_hash none same =
        subst (λ (o : Option Part). Verdict_by (reference_of texts all (reference_by_name o))) (sym (terminated_none is_ascii_alphanumeric 31 code ds same))
        (stops_open (ReferenceStates.open_by texts is_punctuation x b begun false (byte_at begun_at e) no_hash none))

    by_code : (ds : List ℕ) → cs ≡ ds → Sees text q ds → Verdict_by (reference_of texts all (reference_after ds))
    by_code [] is (nothing e) = stops_open (ReferenceStates.open_ends texts is_punctuation x begun (end_at begun_at e))
    by_code (code ∷ ds) is (byte {q = r} apart e t) = elim (cases_Bool (code == 35)) [
      | inl h ↦
          let same : code ≡ 35 = eqb-true code 35 h in
          subst (λ (b : Bool). Verdict_by (reference_of texts all (if b then number_reference ds
          else reference_by_name (part_to_semicolon is_ascii_alphanumeric 31 (code ∷ ds))))) (sym h)
          (by_numeric ds r (is ∙ ap (λ (k : ℕ). k ∷ ds) same) (e ∙ ap (λ (k : ℕ). Some (as_byte (text_byte k) r)) same) ds refl t)
      | inr h ↦
          subst (λ (b : Bool). Verdict_by (reference_of texts all (if b then number_reference ds
          else reference_by_name (part_to_semicolon is_ascii_alphanumeric 31 (code ∷ ds))))) (sym h)
          (elim (cases_Bool (is_ascii_alphanumeric code)) [
            | inl k ↦ by_letter code ds r is e t k
            | inr k ↦ no_letter code ds (text_byte code) r e (seen_as_itself 35 refl refl code ∙ h)
                (seen_sort is_ascii_alphanumeric refl refl refl refl code ∙ k) k
          ])
    ]
    by_code (code ∷ ds) is (tab {q = r} few e _ t) = no_letter 9 ds 9 r e refl refl refl

  by_switch : (on : Bool) → x.options.constructs.character_reference ≡ on → Verdict_by (if on then reference_of texts all (reference_after cs) else None)
  by_switch true h = by_code h cs refl s
  by_switch false h =
      fails at_mark (on_retry texts is_punctuation x text (Inline state_inline.CharacterReferenceStart) at_mark at_mark false (plain at_mark states.Nok)
      (ReferenceStates.starts texts is_punctuation x at_mark false refl h) ends-nok)

pub reference_verdict : (T : Type 0) → CharacterReferenceVerdict T
reference_verdict T texts is_punctuation x text c p q cs shows column s =
    by_switch texts is_punctuation x text c p q cs shows column s x.options.constructs.character_reference refl
