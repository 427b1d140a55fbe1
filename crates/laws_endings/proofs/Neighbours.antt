-- What stands beside the codes of a line with another ending: the same wherever a run may stand.
use Rattle.std.proofs.Common.{◌≡◌, ℕ, zero, suc, ◌+◌, ◌-◌, ◌*◌, ◌<◌, Bool, true, false, cond, eqb, ltb, ◌||◌, List, [], ◌∷◌, Option, None, Some, ⊎_elim}
use Rattle.std.proofs.Common.{refl, sym, ap, ap₂, ◌∙◌, subst, arith, drop, slice_index, slice_index_or}
use Rattle.laws_endings.proofs.Prelude.{and_then, AreAlike, both_ways, cases_Bool, code_with, codes_of, codes_with, cond-false, cond-true, content_with}
use Rattle.laws_endings.proofs.Prelude.{counts_after, eq-eqb, eqb-true, false_from_ne_true, goes_on, inline_code_with, InlineCode, InlineContext, inlines}
use Rattle.laws_endings.proofs.Prelude.{inlines_from, is_continuation, is_eol, is_marker, is_white, IsAlike, Kind, leaf_at, leaf_here, leaf_step, LineEnding}
use Rattle.laws_endings.proofs.Prelude.{linked_literals, may_mark, Next, option_map, or_else, or_left, ParseOptions, prefix_len, reading, Reading, Run, run_at}
use Rattle.laws_endings.proofs.Prelude.{run_between, run_size, scan, Step, step, text, true≢false, whole_text, with_kinds, with_spans, without_indent}
use Rattle.markdown_options.specs.declared.beside.Kind.TheVariants.{Whitespace}
use Rattle.definition_text.specs.InlineCode.{inline_code, first_character, character_kind, first_kind, next_kind}
use Rattle.definition_inline.proofs.Markers.{of_marker}
use Rattle.laws_endings.proofs.Codes.{same_code}
use Rattle.laws_endings.proofs.Leaves.{same_byte}
use Rattle.laws_endings.specs.Kinds.{KindsLaw}
use Rattle.laws_endings.proofs.Each.{Each}
use Rattle.laws_endings.proofs.AlikeLiterals.{alike_codes, alike_drop, alike_at, same_of, alike_literal}
use Rattle.laws_endings.proofs.Characters.{need, Begins, continues_one, IsWhole, AreWhole}

-- what passes a test that LF doesn't is no LF
pub no_feed : (test : ℕ → Bool) (c : ℕ) → test 10 ≡ false → test c ≡ true → eqb c 10 ≡ false
no_feed test c h k = false_from_ne_true (eqb c 10) (λ is. both_ways (test c) (ap test (eqb-true c 10 is) ∙ h) k)

-- ---- contents that are alike

alike_prefix : (test : ℕ → Bool) (one other : List InlineCode) → AreAlike one other
    → prefix_len (λ (c : InlineCode). test c.code) one ≡ prefix_len (λ (c : InlineCode). test c.code) other
alike_prefix test [] [] h = refl
alike_prefix test [] (b ∷ bs) h = absurd (true≢false h)
alike_prefix test (a ∷ rest) [] h = absurd (true≢false h)
alike_prefix test (a ∷ rest) (b ∷ bs) h =
    ap (λ code. cond (test code) (1 + prefix_len (λ (x : InlineCode). test x.code) rest) 0) h.0.code
    ∙ ap (λ n. cond (test b.code) (1 + n) 0) (alike_prefix test rest bs h.1)

pub alike_unindented : (one other : List InlineCode) → AreAlike one other → AreAlike (without_indent one) (without_indent other)
alike_unindented one other h =
    let n = prefix_len (λ (c : InlineCode). is_white c.code) one in
    subst (λ m. AreAlike (drop n one) (drop m other)) (alike_prefix is_white one other h) (alike_drop n one other h)

-- the last of the elements at the front that pass a test passes it
last_by : {A : Type 0} (test : A → Bool) (c x : A) (xs : List A) (d : A) (n : ℕ) → test c ≡ true → (passes : Bool) → test x ≡ passes
    → (passes ≡ true → test (slice_index_or (x ∷ xs) ((1 + n) - 1) d) ≡ true)
    → test (slice_index_or (c ∷ x ∷ xs) ((1 + cond passes (1 + n) 0) - 1) d) ≡ true
last_by test c x xs d n h true k more =
    let place : (1 + (1 + n)) - 1 ≡ suc ((1 + n) - 1) = omega arith in
    ap (λ m. test (slice_index_or (c ∷ x ∷ xs) m d)) place ∙ more refl
last_by test c x xs d n h false k more = h

last_passes : {A : Type 0} (test : A → Bool) (c : A) (cs : List A) (d : A) → test c ≡ true
    → test (slice_index_or (c ∷ cs) ((1 + prefix_len test cs) - 1) d) ≡ true
last_passes test c [] d h = h
last_passes test c (x ∷ xs) d h = last_by test c x xs d (prefix_len test xs) h (test x) refl (λ passes. last_passes test x xs d passes)

pub marker_marks : (options : ParseOptions) (code : ℕ) → is_marker options code ≡ true → may_mark code ≡ true
marker_marks options = of_marker options (λ code. may_mark code ≡ true) (λ on. refl) (λ on. refl) (λ on. refl) (λ on. refl)

module _ (options : ParseOptions) where
  -- the run of a marker
  alike_run : (a b : InlineCode) (rest bs : List InlineCode) → AreAlike (a ∷ rest) (b ∷ bs) → is_marker options a.code ≡ true
      → run_at options (a ∷ rest) ≡ run_at options (b ∷ bs)
  alike_run a b rest bs h is =
      let test : InlineCode → Bool = λ x. eqb x.code a.code in
      let made : ℕ → ℕ → Kind → Kind → Option Run =
      λ code size before after. cond (is_marker options code) (Some (run_between options code size before after)) None in
      let size = run_size a.code (a ∷ rest) in
      let last = slice_index_or (a ∷ rest) (size - 1) a in
      let other = slice_index_or (b ∷ bs) (size - 1) b in
      let same_first : eqb a.code a.code ≡ true = eq-eqb a.code a.code refl in
      let size_is : size ≡ 1 + prefix_len test rest = cond-true (eqb a.code a.code) (1 + prefix_len test rest) 0 same_first in
      let last_code : eqb last.code a.code ≡ true = ap (λ n. test (slice_index_or (a ∷ rest) (n - 1) a)) size_is ∙ last_passes test a rest a same_first in
      let low : counts_after last.code ≡ true =
      ap counts_after (eqb-true last.code a.code last_code) ∙ or_left (may_mark a.code) (eqb a.code 46 || eqb a.code 47) (marker_marks options a.code is) in
      let same = alike_at (size - 1) (a ∷ rest) (b ∷ bs) a b h (same_of a b rest h.0) in
      let size_same : size ≡ run_size b.code (b ∷ bs) =
      alike_prefix (λ code. eqb code a.code) (a ∷ rest) (b ∷ bs) h ∙ ap (λ code. run_size code (b ∷ bs)) h.0.code in
      ap (made a.code size a.before) (same.after low)
      ∙ ap (λ n. made a.code n a.before (slice_index_or (b ∷ bs) (n - 1) b).after) size_same
      ∙ ap₂ (λ code before. let n = run_size b.code (b ∷ bs) in made code n before (slice_index_or (b ∷ bs) (n - 1) b).after) h.0.code h.0.before

  alike_run_at : (a b : InlineCode) (rest bs : List InlineCode) → AreAlike (a ∷ rest) (b ∷ bs) → run_at options (a ∷ rest) ≡ run_at options (b ∷ bs)
  alike_run_at a b rest bs h =
      ⊎_elim (λ is. alike_run a b rest bs h is)
      (λ isnt. cond-false (is_marker options a.code) _ None isnt
      ∙ sym (cond-false (is_marker options b.code) _ None (ap (is_marker options) (sym h.0.code) ∙ isnt)))
      (cases_Bool (is_marker options a.code))

module _ (context : InlineContext) where
  alike_here : (one other : List InlineCode) → AreAlike one other → leaf_here context one ≡ leaf_here context other
  alike_here one other h =
      ap₂ (λ cs o. or_else (leaf_at context cs) o) (alike_codes one other h) (alike_literal context.options.constructs one other h)

  alike_step : (r : Reading) (a b : InlineCode) (rest bs : List InlineCode) → AreAlike (a ∷ rest) (b ∷ bs) → step context r a rest ≡ step context r b bs
  alike_step r a b rest bs h =
      ap (λ code. leaf_step context code (codes_of (a ∷ rest)) r (run_at context.options (a ∷ rest)) (leaf_here context (a ∷ rest))) h.0.code
      ∙ ap (λ all. leaf_step context b.code all r (run_at context.options (a ∷ rest)) (leaf_here context (a ∷ rest))) (alike_codes (a ∷ rest) (b ∷ bs) h)
      ∙ ap₂ (leaf_step context b.code (codes_of (b ∷ bs)) r) (alike_run_at context.options a b rest bs h) (alike_here (a ∷ rest) (b ∷ bs) h)

  then_same : (s : Step) (f g : ℕ → Reading → Reading) → ((k : ℕ) (r : Reading) → f k r ≡ g k r) → and_then s f ≡ and_then s g
  then_same (Next more r) f g h = h more r

  alike_scan : (k : ℕ) (r : Reading) (one other : List InlineCode) → AreAlike one other → scan context k r one ≡ scan context k r other
  alike_scan k r [] [] h = refl
  alike_scan k r [] (b ∷ bs) h = absurd (true≢false h)
  alike_scan k r (a ∷ rest) [] h = absurd (true≢false h)
  alike_scan zero r (a ∷ rest) (b ∷ bs) h =
      ap (λ s. and_then s (λ k next. scan context k next rest)) (alike_step r a b rest bs h)
      ∙ then_same (step context r b bs) (λ k next. scan context k next rest) (λ k next. scan context k next bs) (λ k next. alike_scan k next rest bs h.1)
  alike_scan (suc k) r (a ∷ rest) (b ∷ bs) h = alike_scan k r rest bs h.1

  pub alike_from : (one other : List InlineCode) → AreAlike one other → inlines_from context one ≡ inlines_from context other
  alike_from one other h = ap (λ r. linked_literals context.options.constructs (with_spans (whole_text r).tokens))
      (alike_scan 0 (reading (text [] false) []) one other h)

  pub alike_inlines : (one other : List InlineCode) → AreAlike one other → inlines context one ≡ inlines context other
  alike_inlines one other h = alike_from (without_indent one) (without_indent other) (alike_unindented one other h)

-- ---- kinds of whole characters

module _ (e : LineEnding) where
  byte_at : (n : ℕ) (cs : List ℕ) → Begins n cs → (k : ℕ) → k < n → slice_index (codes_with e cs) k ≡ slice_index cs k
  byte_at zero cs b k l = absurd (omega (arith, l))
  byte_at (suc n) [] b k l = refl
  byte_at (suc n) (c ∷ cs) b zero l = same_byte e c (no_feed is_continuation c refl b.0)
  byte_at (suc n) (c ∷ cs) b (suc k) l = byte_at n cs b.1 k (omega (arith, l))

  -- a character by the bytes after its first, of which so many tests say how many there are
  abbrev character_by : Bool → Bool → Bool → ℕ → List ℕ → ℕ
  character_by one two three c xs =
      let bits : ℕ → ℕ = λ k. slice_index xs k - 128 in
      cond one c (cond two ((c - 192) * 64 + bits 0)
      (cond three (((c - 224) * 64 + bits 0) * 64 + bits 1) ((((c - 240) * 64 + bits 0) * 64 + bits 1) * 64 + bits 2)))

  same_character : (one two three : Bool) (c : ℕ) (cs : List ℕ) → Begins (cond one 0 (cond two 1 (cond three 2 3))) cs
      → character_by one two three c (codes_with e cs) ≡ character_by one two three c cs
  same_character true two three c cs b = refl
  same_character false true three c cs b = ap (λ x. (c - 192) * 64 + (x - 128)) (byte_at 1 cs b 0 (omega arith))
  same_character false false true c cs b =
      ap (λ x. ((c - 224) * 64 + (x - 128)) * 64 + (slice_index (codes_with e cs) 1 - 128)) (byte_at 2 cs b 0 (omega arith))
      ∙ ap (λ x. ((c - 224) * 64 + (slice_index cs 0 - 128)) * 64 + (x - 128)) (byte_at 2 cs b 1 (omega arith))
  same_character false false false c cs b =
      let four : ℕ → ℕ → ℕ → ℕ = λ x y z. (((c - 240) * 64 + (x - 128)) * 64 + (y - 128)) * 64 + (z - 128) in
      let with = codes_with e cs in
      ap (λ x. four x (slice_index with 1) (slice_index with 2)) (byte_at 3 cs b 0 (omega arith))
      ∙ ap (λ y. four (slice_index cs 0) y (slice_index with 2)) (byte_at 3 cs b 1 (omega arith))
      ∙ ap (four (slice_index cs 0) (slice_index cs 1)) (byte_at 3 cs b 2 (omega arith))

  first_character-with : (c : ℕ) (cs : List ℕ) → Begins (need c) cs → first_character (c ∷ codes_with e cs) ≡ first_character (c ∷ cs)
  first_character-with c cs b = same_character (ltb c 128) (ltb c 224) (ltb c 240) c cs b

  module _ (p : ℕ → Bool) where
    kind_by : (k : Kind) (c : ℕ) (cs : List ℕ) → Begins (need c) cs → (ends : Bool) → is_eol c ≡ ends
        → cond ends Whitespace (character_kind p (first_character (codes_with e (c ∷ cs)))) ≡ cond ends Whitespace (character_kind p (first_character (c ∷ cs)))
    kind_by k c cs b true h = refl
    kind_by k c cs b false h =
        ap (λ code. character_kind p (first_character (code ∷ codes_with e cs)))
        (same_byte e c (false_from_ne_true (eqb c 10) (λ is. both_ways (is_eol c) h (ap is_eol (eqb-true c 10 is)))))
        ∙ ap (character_kind p) (first_character-with c cs b)

    first_kind-with : (k : Kind) (c : ℕ) (cs : List ℕ) → Begins (need c) cs → first_kind p k (codes_with e (c ∷ cs)) ≡ first_kind p k (c ∷ cs)
    first_kind-with k c cs b =
        ap (λ ends. cond ends Whitespace (character_kind p (first_character (codes_with e (c ∷ cs))))) (same_code e is_eol c refl refl)
        ∙ kind_by k c cs b (is_eol c) refl

    kind_ahead : (k : Kind) (cs : List ℕ) → continues_one cs ≡ false → AreWhole cs → first_kind p k (codes_with e cs) ≡ first_kind p k cs
    kind_ahead k [] h w = refl
    kind_ahead k (c ∷ cs) h w = first_kind-with k c cs (w.0.0 h)

    kind_before : (k : Kind) (c : ℕ) (cs : List ℕ) → IsWhole c cs → (continues : Bool) → is_continuation c ≡ continues
        → cond continues k (first_kind p k (codes_with e (c ∷ cs))) ≡ cond continues k (first_kind p k (c ∷ cs))
    kind_before k c cs w true h = refl
    kind_before k c cs w false h = first_kind-with k c cs (w.0 h)

    next_kind-with : (k : Kind) (c : ℕ) (cs : List ℕ) → IsWhole c cs → next_kind p k (codes_with e (c ∷ cs)) ≡ next_kind p k (c ∷ cs)
    next_kind-with k c cs w =
        ap (λ continues. cond continues k (first_kind p k (codes_with e (c ∷ cs)))) (same_code e is_continuation c refl refl)
        ∙ kind_before k c cs w (is_continuation c) refl

    -- a code with another ending after it, before others that go on alike
    goes_with : (q : Option ℕ) (k after : Kind) (cs : List ℕ) → goes_on (with_kinds p q k after (codes_with e cs)) ≡ continues_one cs
    goes_with q k after [] = refl
    goes_with q k after (c ∷ cs) = same_code e is_continuation c refl refl

    one-with : (q : Option ℕ) (k after : Kind) (c : ℕ) (cs : List ℕ) (others : List InlineCode) → goes_on others ≡ continues_one cs → IsWhole c cs → AreWhole cs
        → IsAlike (inline_code (code_with e c) (option_map (code_with e) q) k (first_kind p after (codes_with e cs)))
        (inline_code_with e (inline_code c q k (first_kind p after cs))) others
    one-with q k after c cs others on w ws = record {
      code = refl;
      previous = refl;
      before = refl;
      after = λ h. kind_ahead after cs
          (⊎_elim (λ counts. w.1 (sym (same_code e counts_after c refl refl) ∙ counts)) (λ whole. sym on ∙ whole) h) ws;
    }

    pub kinds-with : (q : Option ℕ) (k after : Kind) (cs : List ℕ) → AreWhole cs
        → AreAlike (with_kinds p (option_map (code_with e) q) k after (codes_with e cs)) (content_with e (with_kinds p q k after cs))
    kinds-with q k after [] w = refl
    kinds-with q k after (c ∷ cs) w =
        let next' = next_kind p k (codes_with e (c ∷ cs)) in (
          one-with q k after c cs (with_kinds p (Some (code_with e c)) next' after (codes_with e cs)) (goes_with (Some (code_with e c)) next' after cs) w.0 w.1,
          subst (λ before. AreAlike (with_kinds p (Some (code_with e c)) before after (codes_with e cs))
              (content_with e (with_kinds p (Some c) (next_kind p k (c ∷ cs)) after cs)))
              (sym (next_kind-with k c cs w.0)) (kinds-with (Some c) (next_kind p k (c ∷ cs)) after cs w.1),
        )

    -- codes without LF stay as they are
    pub kinds-kept : (q : Option ℕ) (k after : Kind) (cs : List ℕ) → option_map (code_with e) q ≡ q → Each (λ c. eqb c 10 ≡ false) cs
        → AreAlike (with_kinds p q k after cs) (content_with e (with_kinds p q k after cs))
    kinds-kept q k after [] same h = refl
    kinds-kept q k after (c ∷ cs) same h = (
      record { code = sym (same_byte e c h.0); previous = sym same; before = refl; after = λ _. refl },
      kinds-kept (Some c) (next_kind p k (c ∷ cs)) after cs (ap Some (same_byte e c h.0)) h.1,
    )

pub kinds_law : KindsLaw
kinds_law context one other h = alike_inlines context one other h
