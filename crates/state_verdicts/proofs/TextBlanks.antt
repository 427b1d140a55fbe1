-- After spaces and tabs the line ends in the virtual text exactly if it does so in the bytes.
use Rattle.std.proofs.Common.{◌≡◌, ◌∙◌, ℕ, ◌+◌, ◌<◌, ◌≤◌, Bool, true, false, not, ◌==◌, ◌||◌, nat_lt, nat_le, if◌then◌else◌, List, [], ◌∷◌, length}
use Rattle.std.proofs.Common.{drop, get_or, Option, Some, None, inl, inr, refl, sym, ap, arith}
use Rattle.std.proofs.lemmas.Bool.{cases_Bool, cases_lt, eqb-true, le-ltb, ne_eqb, or_cases}
use Rattle.std.specs.Prelude.{slice_get}
use Rattle.std.proofs.lemmas.List.{drop_all, drop_more}
use Rattle.definition_text.specs.Columns.{indent, is_white}
use Rattle.definition_text.specs.Lines.{ends_line}
use Rattle.engine_events.specs.Columns.{tab_size}
use Rattle.engine_events.specs.declared.place.Point.{Point}
use Rattle.engine_programs.specs.Bodies.{has}
use Rattle.markdown_engine.specs.Reading.{byte_of}
use Rattle.markdown_engine.specs.declared.virtual_text.VirtualByte.{VirtualByte}
use Rattle.markdown_engine.specs.VirtualText.{Text, after_byte, as_byte, byte_given, feeds, in_line, in_tab, next_line}
use Rattle.markdown_engine.specs.VirtualText.{tab_column as column_given}
use Rattle.state_flow_leaves.specs.RawFlow.{ends_here}
use Rattle.state_table.specs.Words.{is_space_or_tab}
use Rattle.state_verdicts.specs.Stretch.{Stretch, ended, longer}
use Rattle.state_verdicts.specs.TextBlank.{TextBlankLaw, bytes_from, is_blank_from}
use Rattle.state_verdicts.specs.TextCodes.{AreBytes, whole_text}
use Rattle.state_verdicts.proofs.LineCodes.{prefix_more, prefix_none}
use Rattle.state_verdicts.proofs.TextSees.{byte_there, none_there, stays}

-- ---- lists of bytes

-- nothing but spaces and tabs is left of the line
abbrev is_blank_at : List ℕ → Bool
is_blank_at left = ends_here (slice_get left (indent left))

blank_more : (b : ℕ) (left : List ℕ) → is_white b ≡ true → is_blank_at (b ∷ left) ≡ is_blank_at left
blank_more b left h = ap (λ (n : ℕ). ends_here (slice_get (b ∷ left) n)) (prefix_more is_white b left h)

blank_none : (b : ℕ) (left : List ℕ) → is_white b ≡ false → is_blank_at (b ∷ left) ≡ ends_line b
blank_none b left h = ap (λ (n : ℕ). ends_here (slice_get (b ∷ left) n)) (prefix_none is_white b left h)

spaces_white : (b : ℕ) → is_space_or_tab b ≡ true → is_white b ≡ true
spaces_white b h = elim (or_cases (b == 9) (b == 32) h) [
  | inl e ↦ ap is_white (eqb-true b 9 e)
  | inr e ↦ ap is_white (eqb-true b 32 e)
]

module _ (bytes : List ℕ) (are : AreBytes bytes) where
  abbrev text : Text
  text = whole_text bytes

  -- the byte at an index
  abbrev byte_at : ℕ → ℕ
  byte_at i = get_or bytes i 0

  left_some : (i : ℕ) → i < length bytes → bytes_from bytes i ≡ byte_at i ∷ drop (i + 1) bytes
  left_some i h = ap (λ (b : Bool). if b then [] else drop i bytes) (le-ltb (length bytes) i (omega (arith, h))) ∙ drop_more bytes i 0 h

  left_after : (i : ℕ) → i < length bytes → bytes_from bytes (i + 1) ≡ drop (i + 1) bytes
  left_after i h = ap (λ (b : Bool). if b then [] else drop (i + 1) bytes) (le-ltb (length bytes) (i + 1) (omega (arith, h)))

  left_none : (i : ℕ) → length bytes ≤ i → bytes_from bytes i ≡ []
  left_none i h = elim (cases_Bool (nat_lt (length bytes) i)) [
    | inl e ↦ ap (λ (b : Bool). if b then [] else drop i bytes) e
    | inr e ↦ ap (λ (b : Bool). if b then [] else drop i bytes) e ∙ drop_all i bytes h
  ]

  -- over a byte of white space the line is as blank as before
  over_white : (i : ℕ) → i < length bytes → is_white (byte_at i) ≡ true → is_blank_from bytes i ≡ is_blank_from bytes (i + 1)
  over_white i h is =
      ap is_blank_at (left_some i h) ∙ (blank_more (byte_at i) (drop (i + 1) bytes) is ∙ ap is_blank_at (sym (left_after i h)))

  given : (b : ℕ) (p q : Point) → text.byte (text.start p) ≡ Some (as_byte b q) → p.index < length bytes
      → byte_given bytes p (byte_at p.index) ≡ as_byte b q
  given b p q e h =
      let f : Some (byte_given bytes p (byte_at p.index)) ≡ Some (as_byte b q) =
      sym (byte_there bytes p (byte_given bytes p (byte_at p.index)) h refl) ∙ e in cc

  within : (b : ℕ) (p q : Point) → text.byte (text.start p) ≡ Some (as_byte b q) → p.index < length bytes
  within b p q e = elim (cases_lt p.index (length bytes)) [
    | inl h ↦ h
    | inr h ↦ absurd (let f : None ≡ Some (as_byte b q) = sym (none_there bytes p h) ∙ e in cc)
  ]

  -- of the bytes of a line, which give themselves
  other_given : (p : Point) (v : ℕ) → (v == 9) ≡ false → (v == 10) ≡ false → (v == 13) ≡ false → byte_given bytes p v ≡ as_byte v (after_byte bytes p)
  other_given p v h k l = rw (h, k, l) refl

  feed_given : (p : Point) (v : ℕ) → (v == 9) ≡ false → (v == 10) ≡ true → byte_given bytes p v ≡ as_byte 10 (next_line 1 p)
  feed_given p v h k = rw (h, k) refl

  return_given : (p : Point) (v : ℕ) → (v == 9) ≡ false → (v == 10) ≡ false → (v == 13) ≡ true
      → byte_given bytes p v ≡ as_byte 10 (next_line (if feeds bytes (p.index + 1) then 2 else 1) p)
  return_given p v h k l = rw (h, k, l) refl

  tab_given : (p : Point) (v : ℕ) → (v == 9) ≡ true → byte_given bytes p v ≡ column_given p
  tab_given p v h = rw h refl

  -- over a space or a column of a tab
  step : (b : ℕ) (p q : Point) → text.byte (text.start p) ≡ Some (as_byte b q) → is_space_or_tab b ≡ true
      → is_blank_from bytes p.index ≡ is_blank_from bytes q.index
  step b p q e is =
      let h = within b p q e in
      let v = byte_at p.index in
      let g = given b p q e h in
      elim (cases_Bool (v == 9)) [
        | inl nine ↦ by_last ((tab_size p.column == 1) || nat_le 3 p.vs) refl (ap (λ (w : VirtualByte). w.next) (sym (tab_given p v nine) ∙ g)) h
            (ap is_white (eqb-true v 9 nine))
        | inr k ↦ elim (cases_Bool (v == 10)) [
          | inl l ↦
              let f : 10 ≡ b = ap (λ (w : VirtualByte). w.byte) (sym (feed_given p v k l) ∙ g) in
              absurd (let z : false ≡ true = ap is_space_or_tab f ∙ is in cc)
          | inr l ↦ elim (cases_Bool (v == 13)) [
            | inl r ↦
                let f : 10 ≡ b = ap (λ (w : VirtualByte). w.byte) (sym (return_given p v k l r) ∙ g) in
                absurd (let z : false ≡ true = ap is_space_or_tab f ∙ is in cc)
            | inr r ↦
                let f = sym (other_given p v k l r) ∙ g in
                let same : v ≡ b = ap (λ (w : VirtualByte). w.byte) f in
                let next : p.index + 1 ≡ q.index = ap (λ (w : VirtualByte). w.next.index) f in
                over_white p.index h (spaces_white v (ap is_space_or_tab same ∙ is)) ∙ ap (is_blank_from bytes) next
          ]
        ]
      ]
    where
      by_last : (last : Bool) → ((tab_size p.column == 1) || nat_le 3 p.vs) ≡ last
          → (if (tab_size p.column == 1) || nat_le 3 p.vs then in_line p else in_tab p) ≡ q → p.index < length bytes → is_white (byte_at p.index) ≡ true
          → is_blank_from bytes p.index ≡ is_blank_from bytes q.index
      by_last true k n h white =
          let f : in_line p ≡ q = ap (λ (b : Bool). if b then in_line p else in_tab p) (sym k) ∙ n in
          over_white p.index h white ∙ ap (λ (r : Point). is_blank_from bytes r.index) f
      by_last false k n h white =
          let f : in_tab p ≡ q = ap (λ (b : Bool). if b then in_line p else in_tab p) (sym k) ∙ n in
          ap (λ (r : Point). is_blank_from bytes r.index) f

  -- the line ends at a place of the text, or another byte is there
  abbrev ends_at : Point → Bool
  ends_at p = not (has (λ c. not (c == 10)) (byte_of (text.byte (text.start p))))

  -- where no white space is, the line ends in the text exactly if it does so in the bytes
  stop : (p : Point) → has is_space_or_tab (byte_of (text.byte (text.start p))) ≡ false → is_blank_from bytes p.index ≡ ends_at p
  stop p black = elim (cases_lt p.index (length bytes)) [
    | inl h ↦
        let v = byte_at p.index in
        let there : (w : VirtualByte) → byte_given bytes p v ≡ w → text.byte (text.start p) ≡ Some w = λ w g. byte_there bytes p w h g in
        let first : is_blank_from bytes p.index ≡ is_blank_at (v ∷ drop (p.index + 1) bytes) = ap is_blank_at (left_some p.index h) in
        elim (cases_Bool (v == 9)) [
          | inl nine ↦ absurd (let z : true ≡ false = sym (column_white (p.vs == 0))
              ∙ (ap (λ (o : Option VirtualByte). has is_space_or_tab (byte_of o)) (sym (there (column_given p) (tab_given p v nine))) ∙ black) in cc)
          | inr k ↦ elim (cases_Bool (v == 10)) [
            | inl l ↦
                let ten = eqb-true v 10 l in
                first ∙ (ap (λ (i : ℕ). is_blank_at (i ∷ drop (p.index + 1) bytes)) ten
                ∙ ap (λ (o : Option VirtualByte). not (has (λ c. not (c == 10)) (byte_of o))) (sym (there (as_byte 10 (next_line 1 p)) (feed_given p v k l))))
            | inr l ↦ elim (cases_Bool (v == 13)) [
              | inl r ↦
                  let thirteen = eqb-true v 13 r in
                  first ∙ (ap (λ (i : ℕ). is_blank_at (i ∷ drop (p.index + 1) bytes)) thirteen
                  ∙ ap (λ (o : Option VirtualByte). not (has (λ c. not (c == 10)) (byte_of o)))
                  (sym (there (as_byte 10 (next_line (if feeds bytes (p.index + 1) then 2 else 1) p)) (return_given p v k l r))))
              | inr r ↦
                  let byte_is = there (as_byte v (after_byte bytes p)) (other_given p v k l r) in
                  let no_space : is_space_or_tab v ≡ false = ap (λ (o : Option VirtualByte). has is_space_or_tab (byte_of o)) (sym byte_is) ∙ black in
                  first ∙ (blank_none v (drop (p.index + 1) bytes) (no_white v no_space (are p.index))
                  ∙ (ap (λ (b : Bool). b || (v == 13)) l ∙ (r ∙ (sym (ap (λ (b : Bool). not (not b)) l)
                  ∙ ap (λ (o : Option VirtualByte). not (has (λ c. not (c == 10)) (byte_of o))) (sym byte_is)))))
            ]
          ]
        ]
    | inr h ↦
        ap is_blank_at (left_none p.index h)
        ∙ ap (λ (o : Option VirtualByte). not (has (λ c. not (c == 10)) (byte_of o))) (sym (none_there bytes p h))
  ]
    where
      column_white : (b : Bool) → is_space_or_tab (if b then 9 else 32) ≡ true
      column_white true = refl
      column_white false = refl

      no_white : (v : ℕ) → is_space_or_tab v ≡ false → v < 256 → is_white v ≡ false
      no_white v h few =
          let apart : (v == 256) ≡ false = ne_eqb v 256 (λ e. omega (arith, e, few)) in
          by_parts (v == 9) (v == 32) (v == 256) h apart
        where
          by_parts : (a b c : Bool) → (a || b) ≡ false → c ≡ false → ((b || a) || c) ≡ false
          by_parts true b c h k = absurd (let f : true ≡ false = h in cc)
          by_parts false true c h k = absurd (let f : true ≡ false = h in cc)
          by_parts false false c h k = k

  along : {n : ℕ} {q end : Point} → Stretch text is_space_or_tab n q end → is_blank_from bytes q.index ≡ ends_at end
  along {q = q} (ended black) = stop q black
  along (longer {b = b} {p = p} {q = q} e is st) = step b p q e is ∙ along st

pub text_blank : TextBlankLaw
text_blank bytes are n b p q end e is st =
    ap (λ (r : Point). is_blank_from bytes r.index) (stays bytes p) ∙ (step bytes are b p q e is ∙ along bytes are st)
