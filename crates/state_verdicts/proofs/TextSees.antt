-- The virtual text of bytes gives their codes, byte by byte.
use Rattle.std.proofs.Common.{◌≡◌, ◌≢◌, ◌∙◌, ℕ, zero, suc, ◌+◌, ◌-◌, ◌^◌, ◌<◌, ◌≤◌, Bool, true, false, not, ◌==◌, ◌&&◌, ◌||◌, nat_lt, nat_le, if◌then◌else◌}
use Rattle.std.proofs.Common.{List, [], ◌∷◌}
use Rattle.std.proofs.Common.{◌++◌, length, drop, get_or, replicate, Some, None, inl, inr, refl, sym, ap, subst, add-one, arith}
use Rattle.std.proofs.lemmas.Bool.{cases_Bool, cases_lt, eqb-false, eqb-true, le-leb, le-ltb, leb-false, leb-true, lt-ltb, ne_eqb, or_cases, or_from, or_parts}
use Rattle.std.proofs.lemmas.List.{drop_all, drop_more, get_or_past}
use Rattle.std.proofs.lemmas.Option.{slice_get-get_or, slice_get_past}
use Rattle.definition_text.specs.Columns.{tab_column}
use Rattle.definition_text.specs.Content.{after_return_code, content_codes}
use Rattle.engine_events.specs.Columns.{tab_size}
use Rattle.engine_events.specs.declared.place.Point.{Point}
use Rattle.markdown_engine.specs.declared.virtual_text.VirtualByte.{VirtualByte}
use Rattle.markdown_engine.specs.VirtualText.{after_byte, as_byte, feeds, byte_given, in_line, in_tab, is_before, is_feed, next_line, one_more}
use Rattle.markdown_engine.specs.VirtualText.{tab_column as column_given}
use Rattle.state_verdicts.specs.Codes.{Fills, Sees, byte, column, full, nothing, tab, text_byte}
use Rattle.state_verdicts.specs.TextCodes.{TabCodesLaw, TextCodesLaw, columns_left, whole_text}

either_same : (b : Bool) (p : Point) → (if b then p else p) ≡ p
either_same true p = refl
either_same false p = refl

-- a tab that starts a column later has one fewer
next_size : (n : ℕ) → tab_size n ≢ 1 → tab_size (n + 1) + 1 ≡ tab_size n
next_size n more = omega (arith, more)

module _ (bytes : List ℕ) where
  -- nothing is skipped
  pub stays : (p : Point) → (whole_text bytes).start p ≡ p
  stays p = either_same (not (p.column == 1) || not (p.vs == 0)) p

  -- before the end there is a byte
  before_end : (p : Point) → p.index < length bytes → is_before (length bytes, 0) p ≡ true
  before_end p h = ap (λ (b : Bool). b || ((p.index == length bytes) && nat_lt p.vs 0)) (lt-ltb p.index (length bytes) h)

  no_column : (n : ℕ) → nat_lt n 0 ≡ false
  no_column n = le-ltb n 0 (omega arith)

  both_no : (a b : Bool) → b ≡ false → (a && b) ≡ false
  both_no true b h = h
  both_no false b h = refl

  at_end : (p : Point) → length bytes ≤ p.index → is_before (length bytes, 0) p ≡ false
  at_end p h = or_from (nat_lt p.index (length bytes)) ((p.index == length bytes) && nat_lt p.vs 0) (le-ltb p.index (length bytes) h)
      (both_no (p.index == length bytes) (nat_lt p.vs 0) (no_column p.vs))

  pub byte_there : (p : Point) (v : VirtualByte) → p.index < length bytes → byte_given bytes p (get_or bytes p.index 0) ≡ v
      → (whole_text bytes).byte ((whole_text bytes).start p) ≡ Some v
  byte_there p v h k =
      ap (whole_text bytes).byte (stays p) ∙ (ap (λ (b : Bool). if b then Some (byte_given bytes p (get_or bytes p.index 0)) else None) (before_end p h)
      ∙ ap (λ (w : VirtualByte). Some w) k)

  pub none_there : (p : Point) → length bytes ≤ p.index → (whole_text bytes).byte ((whole_text bytes).start p) ≡ None
  none_there p h = ap (whole_text bytes).byte (stays p) ∙ ap (λ (b : Bool). if b then Some (byte_given bytes p (get_or bytes p.index 0)) else None) (at_end p h)

  -- ---- tabs

  -- where a tab is left of which so many columns are to come, at most
  pub record TabEnd (p : Point) (most : ℕ) : Type 0 where
    pub count : ℕ
    pub end : Point
    pub few : count ≤ most
    pub all : p.column + 3 < 2 ^ 64 + p.vs → count ≡ columns_left p
    pub fills : Fills (whole_text bytes) count p end
    pub index : end.index ≡ p.index + 1
    pub vs : end.vs ≡ 0

  tab_given : (p : Point) → get_or bytes p.index 0 ≡ 9 → byte_given bytes p (get_or bytes p.index 0) ≡ column_given p
  tab_given p h = ap (byte_given bytes p) h

  -- a column after the first
  later_column : (p : Point) (last : Bool) → (p.vs == 0) ≡ false → ((tab_size p.column == 1) || nat_le 3 p.vs) ≡ last
      → column_given p ≡ as_byte 32 (if last then in_line p else in_tab p)
  later_column p last h k = rw (h, k) refl

  one_left : (p : Point) → p.vs ≤ 3 → ((tab_size p.column == 1) || nat_le 3 p.vs) ≡ true → 1 ≡ columns_left p
  one_left p low h = elim (or_cases (tab_size p.column == 1) (nat_le 3 p.vs) h) [
    | inl e ↦ (let one : tab_size p.column ≡ 1 = eqb-true (tab_size p.column) 1 e in omega (arith, one, low))
    | inr e ↦ (let three = leb-true 3 p.vs e in let some : 1 ≤ tab_size p.column = omega arith in omega (arith, three, low, some))
  ]

  one_fewer : (p : Point) → ((tab_size p.column == 1) || nat_le 3 p.vs) ≡ false → p.column + 3 < 2 ^ 64 + p.vs → columns_left (in_tab p) + 1 ≡ columns_left p
  one_fewer p h low =
      let parts = or_parts (tab_size p.column == 1) (nat_le 3 p.vs) h in
      let more : tab_size p.column ≢ 1 = eqb-false (tab_size p.column) 1 parts.0 in
      let few : p.vs < 3 = leb-false 3 p.vs parts.1 in
      let next : one_more p.column ≡ p.column + 1 = omega (arith, low, few) in
      let size : tab_size (one_more p.column) + 1 ≡ tab_size p.column = ap (λ (n : ℕ). tab_size n + 1) next ∙ next_size p.column more in
      omega (arith, size, few)

  last_tab_end : (p : Point) (most : ℕ) → p.vs ≤ 3 → p.index < length bytes → get_or bytes p.index 0 ≡ 9 → (p.vs == 0) ≡ false
      → ((tab_size p.column == 1) || nat_le 3 p.vs) ≡ true → TabEnd p (most + 1)
  last_tab_end p most low h tab_is vs last =
      record {
        count = 1;
        end = in_line p;
        few = omega arith;
        all = λ column. one_left p low last;
        fills = column (byte_there p (as_byte 32 (in_line p)) h (tab_given p tab_is ∙ later_column p true vs last)) full;
        index = refl;
        vs = refl;
      }

  narrower : (p : Point) → p.column + 3 < 2 ^ 64 + p.vs → (in_tab p).column + 3 < 2 ^ 64 + (in_tab p).vs
  narrower p low = omega (arith, low)

  more_tab_end : (p : Point) (most : ℕ) → p.index < length bytes → get_or bytes p.index 0 ≡ 9 → (p.vs == 0) ≡ false
      → ((tab_size p.column == 1) || nat_le 3 p.vs) ≡ false → TabEnd (in_tab p) most → TabEnd p (most + 1)
  more_tab_end p most h tab_is vs last f =
      record {
        count = f.count + 1;
        end = f.end;
        few = omega (arith, f.few);
        all = λ wide. (let e = f.all (narrower p wide) in ap (λ (n : ℕ). n + 1) e ∙ one_fewer p last wide);
        fills = column (byte_there p (as_byte 32 (in_tab p)) h (tab_given p tab_is ∙ later_column p false vs last)) f.fills;
        index = f.index;
        vs = f.vs;
      }

  not_first : (p : Point) → 0 < p.vs → (p.vs == 0) ≡ false
  not_first p h = elim (cases_Bool (p.vs == 0)) [ inl e ↦ absurd (let z : p.vs ≡ 0 = eqb-true p.vs 0 e in omega (arith, z, h)) | inr e ↦ e ]

  all_columns : (p : Point) → 3 ≤ p.vs → ((tab_size p.column == 1) || nat_le 3 p.vs) ≡ true
  all_columns p h = elim (cases_Bool (tab_size p.column == 1)) [
    | inl e ↦ rw e refl
    | inr e ↦ rw (e, le-leb 3 p.vs h) refl
  ]

  tab_end : (left : ℕ) (p : Point) → p.vs + left ≡ 3 → 0 < p.vs → p.index < length bytes → get_or bytes p.index 0 ≡ 9 → TabEnd p (left + 1)
  tab_end zero p e some h tab_is = last_tab_end p 0 (omega (arith, e)) h tab_is (not_first p some) (all_columns p (omega (arith, e)))
  tab_end (suc left) p e some h tab_is = elim (cases_Bool ((tab_size p.column == 1) || nat_le 3 p.vs)) [
    | inl last ↦ last_tab_end p (suc left) (omega (arith, e)) h tab_is (not_first p some) last
    | inr more ↦ more_tab_end p (suc left) h tab_is (not_first p some) more
        (subst (λ (n : ℕ). TabEnd (in_tab p) n) (omega arith) (tab_end left (in_tab p) (omega (arith, e)) (omega arith) h tab_is))
  ]

  -- the columns that are left of a tab are codes
  columns_seen : {n : ℕ} {p r : Point} {cs : List ℕ} → Fills (whole_text bytes) n p r → Sees (whole_text bytes) r cs
      → Sees (whole_text bytes) p (replicate n tab_column ++ cs)
  columns_seen full s = s
  columns_seen (column e f) s = rw add-one (byte refl e (columns_seen f s))

  -- a byte other than 0 is before the end
  there : (i b : ℕ) → get_or bytes i 0 ≡ b → 0 < b → i < length bytes
  there i b e some = elim (cases_lt i (length bytes)) [
    | inl h ↦ h
    | inr h ↦ absurd (let f : get_or bytes i 0 ≡ 0 = get_or_past bytes i 0 h in omega (arith, e, f, some))
  ]

  -- ---- codes

  -- the rest of the text is seen from each place after this index
  abbrev Rest : ℕ → Type 0
  Rest index = (q : Point) → index < q.index → q.vs ≡ 0 → Sees (whole_text bytes) q (content_codes (drop q.index bytes))

  first_column : (p : Point) (last : Bool) → p.vs ≡ 0 → ((tab_size p.column == 1) || nat_le 3 p.vs) ≡ last
      → column_given p ≡ as_byte 9 (if last then in_line p else in_tab p)
  first_column p last h k = rw (k, h) refl

  -- what comes after a tab
  on_tab : (p : Point) → p.index < length bytes → p.vs ≡ 0 → get_or bytes p.index 0 ≡ 9 → Rest p.index
      → Sees (whole_text bytes) p (9 ∷ content_codes (drop (p.index + 1) bytes))
  on_tab p h vs tab_is rest = elim (cases_Bool ((tab_size p.column == 1) || nat_le 3 p.vs)) [
    | inl last ↦ tab (omega arith) (byte_there p (as_byte 9 (in_line p)) h (tab_given p tab_is ∙ first_column p true vs last)) full
        (rest (in_line p) (omega arith) refl)
    | inr more ↦ let f = tab_end 2 (in_tab p) (omega (arith, vs)) (omega arith) h tab_is in
        tab f.few (byte_there p (as_byte 9 (in_tab p)) h (tab_given p tab_is ∙ first_column p false vs more)) f.fills
        (subst (λ (n : ℕ). Sees (whole_text bytes) f.end (content_codes (drop n bytes))) f.index (rest f.end (omega (arith, f.index)) f.vs))
  ]

  -- another byte than a tab and a CR
  plain_given : (p : Point) (b : ℕ) (is : Bool) → (b == 9) ≡ false → (b == 13) ≡ false → (b == 10) ≡ is
      → byte_given bytes p b ≡ as_byte b (if is then next_line 1 p else after_byte bytes p)
  plain_given p b true h k l = rw (h, l) (ap (λ (n : ℕ). as_byte n (next_line 1 p)) (sym (eqb-true b 10 l)))
  plain_given p b false h k l = rw (h, l, k) refl

  feed_seen : (b : ℕ) → (b == 10) ≡ true → b ≡ text_byte b
  feed_seen b h = eqb-true b 10 h ∙ sym (ap text_byte (eqb-true b 10 h))

  other_seen : (b : ℕ) → (b == 10) ≡ false → (b == 13) ≡ false → (b == 257) ≡ false → (b == 256) ≡ false → b ≡ text_byte b
  other_seen b h k l m = rw (h, k, l, m) refl

  -- a byte that is a code of its own
  on_plain : (p : Point) (b : ℕ) → p.index < length bytes → get_or bytes p.index 0 ≡ b → (b == 9) ≡ false → (b == 13) ≡ false → (b == 257) ≡ false
      → (b == 256) ≡ false → Rest p.index → Sees (whole_text bytes) p (b ∷ content_codes (drop (p.index + 1) bytes))
  on_plain p b h e no_tab no_return low whole rest = elim (cases_Bool (b == 10)) [
    | inl feed ↦ byte no_tab (byte_there p (as_byte (text_byte b) (next_line 1 p)) h
        (ap (byte_given bytes p) e ∙ (plain_given p b true no_tab no_return feed ∙ ap (λ (n : ℕ). as_byte n (next_line 1 p)) (feed_seen b feed))))
        (rest (next_line 1 p) (omega arith) refl)
    | inr other ↦ byte no_tab (byte_there p (as_byte (text_byte b) (after_byte bytes p)) h
        (ap (byte_given bytes p) e ∙ (plain_given p b false no_tab no_return other
        ∙ ap (λ (n : ℕ). as_byte n (after_byte bytes p)) (other_seen b other no_return low whole))))
        (rest (after_byte bytes p) (omega arith) refl)
  ]

  -- a CR, with the LF that may follow it
  return_given : (p : Point) (follows : Bool) → get_or bytes p.index 0 ≡ 13 → feeds bytes (p.index + 1) ≡ follows
      → byte_given bytes p (get_or bytes p.index 0) ≡ as_byte 10 (next_line (if follows then 2 else 1) p)
  return_given p follows h k = ap (byte_given bytes p) h ∙ ap (λ (b : Bool). as_byte 10 (next_line (if b then 2 else 1) p)) k

  feeds_there : (index : ℕ) → index < length bytes → feeds bytes index ≡ (get_or bytes index 0 == 10)
  feeds_there index h = ap is_feed (slice_get-get_or bytes index 0 h)

  alone : (p : Point) (cs : List ℕ) → p.index < length bytes → get_or bytes p.index 0 ≡ 13 → feeds bytes (p.index + 1) ≡ false
      → Sees (whole_text bytes) (next_line 1 p) cs → Sees (whole_text bytes) p (13 ∷ cs)
  alone p cs h e k s = byte refl (byte_there p (as_byte 10 (next_line 1 p)) h (return_given p false e k)) s

  with_feed : (p : Point) (cs : List ℕ) → p.index < length bytes → get_or bytes p.index 0 ≡ 13 → feeds bytes (p.index + 1) ≡ true
      → Sees (whole_text bytes) (next_line 2 p) cs → Sees (whole_text bytes) p (257 ∷ cs)
  with_feed p cs h e k s = byte refl (byte_there p (as_byte 10 (next_line 2 p)) h (return_given p true e k)) s

  no_byte : (index : ℕ) → length bytes ≤ index → feeds bytes index ≡ false
  no_byte index h = ap is_feed (slice_get_past bytes index h)

  on_return : (p : Point) → p.index < length bytes → get_or bytes p.index 0 ≡ 13 → Rest p.index
      → Sees (whole_text bytes) p (after_return_code (drop (p.index + 1) bytes) (content_codes (drop (p.index + 1) bytes)))
  on_return p h e rest = elim (cases_lt (p.index + 1) (length bytes)) [
    | inl more ↦
        let d = get_or bytes (p.index + 1) 0 in
        let here : drop (p.index + 1) bytes ≡ d ∷ drop (p.index + 1 + 1) bytes = drop_more bytes (p.index + 1) 0 more in
        subst (λ (bs : List ℕ). Sees (whole_text bytes) p (after_return_code bs (content_codes bs))) (sym here) (elim (cases_Bool (d == 10)) [
          | inl feed ↦ subst (λ (n : ℕ). Sees (whole_text bytes) p (after_return_code (n ∷ drop (p.index + 1 + 1) bytes)
              (content_codes (n ∷ drop (p.index + 1 + 1) bytes)))) (sym (eqb-true d 10 feed))
              (with_feed p (content_codes (drop (p.index + 1 + 1) bytes)) h e (feeds_there (p.index + 1) more ∙ feed)
              (subst (λ (n : ℕ). Sees (whole_text bytes) (next_line 2 p) (content_codes (drop n bytes))) (omega arith)
              (rest (next_line 2 p) (omega arith) refl)))
          | inr other ↦ subst (λ (b : Bool). Sees (whole_text bytes) p (if b then 257 ∷ drop 1 (content_codes (d ∷ drop (p.index + 1 + 1) bytes))
              else 13 ∷ content_codes (d ∷ drop (p.index + 1 + 1) bytes))) (sym other)
              (alone p (content_codes (d ∷ drop (p.index + 1 + 1) bytes)) h e (feeds_there (p.index + 1) more ∙ other)
              (subst (λ (bs : List ℕ). Sees (whole_text bytes) (next_line 1 p) (content_codes bs)) here (rest (next_line 1 p) (omega arith) refl)))
        ])
    | inr last ↦
        let gone : drop (p.index + 1) bytes ≡ [] = drop_all (p.index + 1) bytes last in
        subst (λ (bs : List ℕ). Sees (whole_text bytes) p (after_return_code bs (content_codes bs))) (sym gone)
        (alone p [] h e (no_byte (p.index + 1) last) (nothing (none_there (next_line 1 p) last)))
  ]

  codes_by : (b : ℕ) (bs : List ℕ) (is : Bool) → (b == 13) ≡ is → content_codes (b ∷ bs)
      ≡ (if is then after_return_code bs (content_codes bs) else b ∷ content_codes bs)
  codes_by b bs is h = ap (λ (t : Bool). if t then after_return_code bs (content_codes bs) else b ∷ content_codes bs) h

  module _ (low : (i : ℕ) → get_or bytes i 0 < 256) where
    no_other : (m i : ℕ) → 256 ≤ m → (get_or bytes i 0 == m) ≡ false
    no_other m i high = ne_eqb (get_or bytes i 0) m (λ e. let k = low i in let f : get_or bytes i 0 ≡ m = e in absurd (omega (arith, f, k, high)))

    -- the codes from a byte on
    on_byte : (p : Point) → p.index < length bytes → p.vs ≡ 0 → Rest p.index
        → Sees (whole_text bytes) p (content_codes (get_or bytes p.index 0 ∷ drop (p.index + 1) bytes))
    on_byte p h vs rest =
        let b = get_or bytes p.index 0 in
        let bs = drop (p.index + 1) bytes in
        elim (cases_Bool (b == 13)) [
          | inl back ↦ subst (λ (cs : List ℕ). Sees (whole_text bytes) p cs) (sym (codes_by b bs true back)) (on_return p h (eqb-true b 13 back) rest)
          | inr other ↦ subst (λ (cs : List ℕ). Sees (whole_text bytes) p cs) (sym (codes_by b bs false other)) (elim (cases_Bool (b == 9)) [
            | inl is ↦ subst (λ (n : ℕ). Sees (whole_text bytes) p (n ∷ content_codes bs)) (sym (eqb-true b 9 is)) (on_tab p h vs (eqb-true b 9 is) rest)
            | inr plain ↦ on_plain p b h refl plain other (no_other 257 p.index (omega arith)) (no_other 256 p.index (omega arith)) rest
          ])
        ]

    past_end : (p : Point) → length bytes ≤ p.index → Sees (whole_text bytes) p (content_codes (drop p.index bytes))
    past_end p h = subst (λ (bs : List ℕ). Sees (whole_text bytes) p (content_codes bs)) (sym (drop_all p.index bytes h)) (nothing (none_there p h))

    -- with at most so many bytes to come
    sees : (left : ℕ) (p : Point) → length bytes ≤ p.index + left → p.vs ≡ 0 → Sees (whole_text bytes) p (content_codes (drop p.index bytes))
    sees zero p fits vs = past_end p (omega (arith, fits))
    sees (suc left) p fits vs = elim (cases_lt p.index (length bytes)) [
      | inl h ↦ subst (λ (bs : List ℕ). Sees (whole_text bytes) p (content_codes bs)) (sym (drop_more bytes p.index 0 h))
          (on_byte p h vs (λ q less v. sees left q (omega (arith, fits, less)) v))
      | inr h ↦ past_end p h
    ]

    -- from inside of a tab
    inside : (p : Point) → get_or bytes p.index 0 ≡ 9 → 0 < p.vs → p.vs ≤ 3 → p.column + 3 < 2 ^ 64
        → Sees (whole_text bytes) p (replicate (columns_left p) tab_column ++ content_codes (drop (p.index + 1) bytes))
    inside p tab_is some few wide =
        let f = tab_end (3 - p.vs) p (omega (arith, few)) some (there p.index 9 tab_is (omega arith)) tab_is in
        subst (λ (n : ℕ). Sees (whole_text bytes) p (replicate n tab_column ++ content_codes (drop (p.index + 1) bytes))) (f.all (omega (arith, wide)))
        (columns_seen f.fills (subst (λ (n : ℕ). Sees (whole_text bytes) f.end (content_codes (drop n bytes))) f.index
        (sees (length bytes) f.end (omega arith) f.vs)))

pub text_codes : TextCodesLaw
text_codes bytes low p vs = sees bytes low (length bytes) p (omega arith) vs

pub tab_codes : TabCodesLaw
tab_codes bytes low p tab_is some few wide = inside bytes low p tab_is some few wide
