-- A container is written as its tokens are read: each byte of a run is one of a sequence, or text.
use Rattle.std.proofs.Common.{inl, inr, ◌≡◌, ℕ, zero, suc, ◌+◌, ◌-◌, ◌<◌, ◌≤◌, List, [], ◌∷◌, ◌++◌, Bool, true, map, refl, sym, ap, ◌∙◌, length, reverse}
use Rattle.std.proofs.Common.{replicate, arith, subst, append_assoc, false}
use Rattle.parse_written.proofs.Prelude.{AreCodes, AreWritten, AsSpan, both_ways, cases_Bool, common_steps, cond-false, cond-true, Data, Delimiters, Each}
use Rattle.parse_written.proofs.Prelude.{each-append, Emphasis, eqb-true, followed_by, Inline, InlineCode, InlineContext, Inlines, is_eol, is_whole}
use Rattle.parse_written.proofs.Prelude.{IsSequence, IsWritten, Leaf, length-append, Nil, Nothing, Pair, pairs, reverse-append, reverse-reverse, Run}
use Rattle.parse_written.proofs.Prelude.{run_by_place, run_size, Span, SpanKind, StartsSpan, Strong, Token, with_spans, ◌==◌}
use Rattle.std.specs.Prelude.{if◌then◌else◌}
use Rattle.std.specs.List.{filter, fold}
use Rattle.std.proofs.lemmas.Bool.Decides.{eqb_tells}
use Rattle.std.proofs.lemmas.List.Sums.{fold-append, sum_by-cons, sum_by_push}
use Rattle.std.proofs.Math.Seq.{get_or-append_seam}
use Rattle.definition_inline.specs.GfmStrikethrough.{is_tilde}
use Rattle.definition_inline.specs.Mark.{is_equals}
use Rattle.definition_inline.specs.Inline.{Strikethrough, Mark}
use Rattle.definition_inline.specs.NextPair.{no_run}
use Rattle.definition_inline.specs.SpanRows.{SpanRow, Holds, Opens, Closes, bytes_taken, run_rows, OpenSpan, Nest, nest, leave, nest_row}
use Rattle.definition_inline.specs.Spans.{runs_of, span_of}
use Rattle.definition_inline.proofs.SpanRows.{rows_from, spans_by_rows}
use Rattle.parse_written.proofs.Codes.{marks_split, size_of_marks}
use Rattle.parse_written.proofs.Between.{IsRunBetween, AreRead, NoTokens, SomeSpaces, OnePart, OneRun, byte_written, followed, spaced}
use Rattle.definition_inline.proofs.PairsNested.{IsPair, AreNested, pairs_nested, is_open, is_around, closes_at, opens_at, closing, opening, none_open}
use Rattle.parse_written.proofs.Sides.{HasSides, RunFits, pairs_sided}
use Rattle.definition_inline.proofs.PairsTaken.{AreOrdered, pairs_ordered, taken_here, bytes_fit}

-- ---- lists of pairs

each_pair : (ps : List Pair) → AreNested ps → Each IsPair ps
each_pair [] all = tt
each_pair (p ∷ ps) all = (all.0, each_pair ps all.2)

each-reverse : (P : Pair → Type 0) (ps : List Pair) → Each P ps → Each P (reverse ps)
each-reverse P [] h = tt
each-reverse P (p ∷ ps) h =
    let back : reverse (p ∷ ps) ≡ reverse ps ++ p ∷ [] = reverse-append (p ∷ []) ps in
    subst (Each P) (sym back) (each-append P (reverse ps) (p ∷ []) (each-reverse P ps h.1) (h.0, tt))

bytes_cons : (p : Pair) (ps : List Pair) → bytes_taken (p ∷ ps) ≡ p.taken + bytes_taken ps
bytes_cons p ps = sum_by-cons (λ (q : Pair). q.taken) p ps

bytes-reverse : (ps : List Pair) → bytes_taken (reverse ps) ≡ bytes_taken ps
bytes-reverse [] = refl
bytes-reverse (p ∷ ps) =
    let back : reverse (p ∷ ps) ≡ reverse ps ++ p ∷ [] = reverse-append (p ∷ []) ps in
    let one : bytes_taken (reverse ps ++ p ∷ []) ≡ bytes_taken (reverse ps) + p.taken = sum_by_push (λ (q : Pair). q.taken) (reverse ps) p in
    let rest : bytes_taken (reverse ps) ≡ bytes_taken ps = bytes-reverse ps in
    ap bytes_taken back ∙ one ∙ omega (arith, bytes_cons p ps)

each_both : (P Q : Pair → Type 0) (ps : List Pair) → Each P ps → Each Q ps → Each (λ p. P p × Q p) ps
each_both P Q [] h k = tt
each_both P Q (p ∷ ps) h k = ((h.0, k.0), each_both P Q ps h.1 k.1)

-- those that pass, of which something holds
each_passes : (P : Pair → Type 0) (f : Pair → Bool) (ps : List Pair) → Each P ps → Each (λ p. P p × (f p ≡ true)) (filter f ps)
each_passes P f [] h = tt
each_passes P f (p ∷ ps) h = elim (cases_Bool (f p)) [
  | inl passes ↦
      subst (Each (λ q. P q × (f q ≡ true))) (sym (cond-true (f p) (p ∷ filter f ps) (filter f ps) passes)) ((h.0, passes), each_passes P f ps h.1)
  | inr fails ↦ subst (Each (λ q. P q × (f q ≡ true))) (sym (cond-false (f p) (p ∷ filter f ps) (filter f ps) fails)) (each_passes P f ps h.1)
]

each_gives : (P Q : Pair → Type 0) (ps : List Pair) → ((p : Pair) → P p → Q p) → Each P ps → Each Q ps
each_gives P Q [] gives h = tt
each_gives P Q (p ∷ ps) gives h = (gives p h.0, each_gives P Q ps gives h.1)

module _ (context : InlineContext) (runs : List Run) where
  -- a pair of these runs
  record IsGood (p : Pair) : Type 0 where
    pair : IsPair p
    sides : HasSides context.options runs p

  abbrev marker_of : Pair → ℕ
  marker_of p = (run_by_place runs p.opener).marker

  sequence : (p : Pair) → IsGood p → IsSequence context.options (span_of (marker_of p) p) (marker_of p) p.taken
  sequence p good =
      let m = marker_of p in
      let sized : SpanKind → Type 0 = λ s. IsSequence context.options s m p.taken in
      let other = if p.taken == 2 then Strong else Emphasis in
      let marks = if is_equals m then Mark else other in
      elim (cases_Bool (is_tilde m)) [
        | inl tilde ↦
            let whole : is_whole m ≡ true = grind (arith, common_steps) in
            subst sized (sym (cond-true (is_tilde m) Strikethrough marks tilde)) (tilde, (good.sides.whole whole).sized)
        | inr not_tilde ↦
            subst sized (sym (cond-false (is_tilde m) Strikethrough marks not_tilde))
            (elim (cases_Bool (is_equals m)) [
              | inl equals ↦
                  let whole : is_whole m ≡ true = grind (arith, common_steps) in
                  subst sized (sym (cond-true (is_equals m) Mark other equals)) (equals, (good.sides.whole whole).sized)
              | inr not_equals ↦
                  let parted : is_whole m ≡ false = grind (arith, common_steps) in
                  subst sized (sym (cond-false (is_equals m) Mark other not_equals))
                  (elim (eqb_tells p.taken 2) [
                    | inl two ↦ subst sized (sym (cond-true (p.taken == 2) Strong Emphasis two.0)) (parted, two.1)
                    | inr not_two ↦
                        subst sized (sym (cond-false (p.taken == 2) Strong Emphasis not_two.0))
                        (parted, elim good.pair.size [ inl one ↦ one | inr two ↦ absurd (not_two.1 two) ])
                  ])
            ])
      ]

  -- ---- what is read so far

  -- the opening sequence of a pair
  abbrev IsOpened : SpanKind → Pair → List InlineCode → List InlineCode → Type 0
  IsOpened kind p at inside = StartsSpan context.options kind (marker_of p) p.taken at inside

  -- the parts of the innermost span that is open, and the spans around it with their pairs, from the innermost to the outermost
  abbrev IsRead : Inlines → List OpenSpan → List Pair → List InlineCode → List InlineCode → Type 0
  IsRead now [] [] from here = AreWritten context now from here
  IsRead now [] (p ∷ ps) from here = ⊥
  IsRead now (o ∷ os) [] from here = ⊥
  IsRead now (o ∷ os) (p ∷ ps) from here =
      (at : List InlineCode) × (inside : List InlineCode) × IsRead o.before os ps from at × IsOpened o.kind p at inside × AreWritten context now inside here

  abbrev NestRead : Nest → List Pair → List InlineCode → List InlineCode → Type 0
  NestRead n ps from here = IsRead n.now n.around ps from here

  changed : (now next : Inlines) (os : List OpenSpan) (ps : List Pair) (from a b : List InlineCode)
      → ((start : List InlineCode) → AreWritten context now start a → AreWritten context next start b) → IsRead now os ps from a → IsRead next os ps from b
  changed now next [] [] from a b f r = f from r
  changed now next [] (p ∷ ps) from a b f r = absurd r
  changed now next (o ∷ os) [] from a b f r = absurd r
  changed now next (o ∷ os) (p ∷ ps) from a b f (at, inside, before, opened, held) = (at, inside, before, opened, f inside held)

  holds : (n : Nest) (ps : List Pair) (from a b : List InlineCode) (i : Inline) → IsWritten context i a b → NestRead n ps from a
      → NestRead (nest_row n (Holds i)) ps from b
  holds n ps from a b i one r = changed n.now (followed_by n.now i) n.around ps from a b (λ start w. followed context n.now i start a b w one) r

  closes_in : (now : Inlines) (around : List OpenSpan) (p : Pair) (ps : List Pair) (from a b : List InlineCode) → AreCodes (replicate p.taken (marker_of p)) a b
      → IsRead now around (p ∷ ps) from a → NestRead (leave now around) ps from b
  closes_in now [] p ps from a b marks r = absurd r
  closes_in now (o ∷ os) p ps from a b marks (at, inside, before, opened, held) =
      let span = AsSpan o.kind now (marker_of p) p.taken at inside a b opened held marks in
      let part = Span o.kind now in
      changed o.before (followed_by o.before part) os ps from at b (λ start w. followed context o.before part start at b w span) before

  -- ---- a run

  closes_all : (m : ℕ) (closed ps : List Pair) (n : Nest) (from a b : List InlineCode) → Each (λ p. marker_of p ≡ m) closed
      → AreCodes (replicate (bytes_taken closed) m) a b → NestRead n (closed ++ ps) from a
      → NestRead (fold nest_row n (map (λ (p : Pair). Closes) closed)) ps from b
  closes_all m [] ps n from a b same marks r = subst (NestRead n ps from) marks r
  closes_all m (p ∷ closed) ps n from a b same marks r =
      let (mid, here, later) = marks_split m p.taken (bytes_taken closed) (bytes_taken (p ∷ closed)) a b (bytes_cons p closed) marks in
      closes_all m closed ps (nest_row n Closes) from mid b same.1 later
      (closes_in n.now n.around p (closed ++ ps) from a mid (subst (λ k. AreCodes (replicate p.taken k) a mid) (sym same.0) here) r)

  holds_all : (m k : ℕ) (ps : List Pair) (n : Nest) (from a b : List InlineCode) → is_eol m ≡ false → AreCodes (replicate k m) a b → NestRead n ps from a
      → NestRead (fold nest_row n (replicate k (Holds (Leaf (Data m))))) ps from b
  holds_all m zero ps n from a b inline marks r = subst (NestRead n ps from) marks r
  holds_all m (suc k) ps n from [] b inline marks r = absurd marks
  holds_all m (suc k) ps n from (c ∷ cs) b inline marks r =
      holds_all m k ps (nest_row n (Holds (Leaf (Data m)))) from cs b inline marks.1
      (holds n ps from (c ∷ cs) cs (Leaf (Data m)) (byte_written context m c cs marks.0 inline) r)

  -- a pair that a run opens
  record OpensHere (run : Run) (p : Pair) : Type 0 where
    good : IsGood p
    marker : marker_of p ≡ run.marker
    all : is_whole run.marker ≡ true → p.taken ≡ run.left

  opens_all : (run : Run) (started ps : List Pair) (n : Nest) (from a b : List InlineCode) → Each (OpensHere run) started → bytes_taken started ≤ run.left
      → run_size run.marker b ≡ 0 → AreCodes (replicate (bytes_taken started) run.marker) a b → NestRead n ps from a
      → NestRead (fold nest_row n (map (λ (p : Pair). Opens (span_of run.marker p)) started)) (reverse started ++ ps) from b
  opens_all run [] ps n from a b opened fits stops marks r = subst (NestRead n ps from) marks r
  opens_all run (p ∷ started) ps n from a b opened fits stops marks r =
      let whole = bytes_cons p started in
      let here = opened.0 in
      let back : reverse (p ∷ started) ≡ reverse started ++ p ∷ [] = reverse-append (p ∷ []) started in
      let after = fold nest_row n (map (λ (q : Pair). Opens (span_of run.marker q)) (p ∷ started)) in
      let (mid, first, later) = marks_split run.marker p.taken (bytes_taken started) (bytes_taken (p ∷ started)) a b whole marks in
      let size : run_size run.marker a ≡ bytes_taken (p ∷ started) = size_of_marks (bytes_taken (p ∷ started)) run.marker a b marks stops in
      let sequence_here : IsSequence context.options (span_of run.marker p) (marker_of p) p.taken =
      subst (λ m. IsSequence context.options (span_of m p) (marker_of p) p.taken) here.marker (sequence p here.good) in
      let start : IsOpened (span_of run.marker p) p a mid =
      record {
        sized = sequence_here;
        marks = here.good.sides.marks;
        whole = λ w.
            let all = here.all (subst (λ m. is_whole m ≡ true) here.marker w) in
            ap (λ m. run_size m a) here.marker ∙ size ∙ omega arith;
        codes = subst (λ m. AreCodes (replicate p.taken m) a mid) (sym here.marker) first;
      } in
      let rest = opens_all run started (p ∷ ps) (nest_row n (Opens (span_of run.marker p))) from mid b opened.1 (omega arith) stops later
      (a, mid, r, start, Nothing mid) in
      subst (λ qs. NestRead after qs from b) (sym (ap (λ xs. xs ++ ps) back ∙ append_assoc (reverse started) (p ∷ []) ps)) rest

  module _ (ps : List Pair) (nested : AreNested ps) (sides : Each (HasSides context.options runs) ps) where
    -- the run at a place, whose pairs take no more than it has
    record IsPlaced (place : ℕ) (run : Run) : Type 0 where
      there : run_by_place runs place ≡ run
      fit : taken_here place ps ≤ run.left

    good_pairs : Each IsGood ps
    good_pairs =
        each_gives (λ p. IsPair p × HasSides context.options runs p) IsGood ps (λ p h. record { pair = h.0; sides = h.1 })
        (each_both IsPair (HasSides context.options runs) ps (each_pair ps nested) sides)

    closed_marker : (place : ℕ) (run : Run) → IsPlaced place run → Each (λ p. marker_of p ≡ run.marker) (filter (closes_at place) ps)
    closed_marker place run placed =
        each_gives (λ p. IsGood p × (closes_at place p ≡ true)) (λ p. marker_of p ≡ run.marker) (filter (closes_at place) ps)
        (λ p h.
        h.0.sides.marker ∙ ap (λ k. (run_by_place runs k).marker) (eqb-true p.closer place h.1) ∙ ap (λ (r : Run). r.marker) placed.there)
        (each_passes IsGood (closes_at place) ps good_pairs)

    started_here : (place : ℕ) (run : Run) → IsPlaced place run → Each (OpensHere run) (filter (opens_at place) ps)
    started_here place run placed =
        each_gives (λ p. IsGood p × (opens_at place p ≡ true)) (OpensHere run) (filter (opens_at place) ps)
        (λ p h.
        let there : run_by_place runs p.opener ≡ run = ap (run_by_place runs) (eqb-true p.opener place h.1) ∙ placed.there in
        let same : marker_of p ≡ run.marker = ap (λ (r : Run). r.marker) there in
        record {
          good = h.0;
          marker = same;
          all = λ whole. (h.0.sides.whole (subst (λ m. is_whole m ≡ true) (sym same) whole)).opener ∙ ap (λ (r : Run). r.left) there;
        })
        (each_passes IsGood (opens_at place) ps good_pairs)

    run_read : (place : ℕ) (run : Run) (n : Nest) (from a b : List InlineCode) → IsPlaced place run → IsRunBetween context.options run a b
        → NestRead n (filter (is_open place) ps) from a → NestRead (fold nest_row n (run_rows ps place run)) (filter (is_open (place + 1)) ps) from b
    run_read place run n from a b placed here r =
        let m = run.marker in
        let closed = filter (closes_at place) ps in
        let started = filter (opens_at place) ps in
        let stay = filter (is_around place) ps in
        let left = run.left - (bytes_taken closed + bytes_taken started) in
        let ends : List SpanRow = map (λ (p : Pair). Closes) closed in
        let texts : List SpanRow = replicate left (Holds (Leaf (Data m))) in
        let starts : List SpanRow = map (λ (p : Pair). Opens (span_of m p)) (reverse started) in
        let n1 = fold nest_row n ends in
        let n2 = fold nest_row n1 texts in
        let n3 = fold nest_row n2 starts in
        let fit = placed.fit in
        let same : bytes_taken (reverse started) ≡ bytes_taken started = bytes-reverse started in
        let (x, marks1, others) = marks_split m (bytes_taken closed) (left + bytes_taken (reverse started)) run.left a b (omega arith) here.marks in
        let (y, marks2, marks3) = marks_split m left (bytes_taken (reverse started)) (left + bytes_taken (reverse started)) x b refl others in
        let r1 : NestRead n1 stay from x =
        closes_all m closed stay n from a x (closed_marker place run placed) marks1 (subst (λ qs. NestRead n qs from a) (closing place ps nested) r) in
        let r2 : NestRead n2 stay from y = holds_all m left stay n1 from x y here.inline marks2 r1 in
        let r3 : NestRead n3 (reverse (reverse started) ++ stay) from b =
        opens_all run (reverse started) stay n2 from y b (each-reverse (OpensHere run) started (started_here place run placed)) (omega arith) here.stops
        marks3 r2 in
        let is_open_after : reverse (reverse started) ++ stay ≡ filter (is_open (place + 1)) ps =
        ap (λ xs. xs ++ stay) (reverse-reverse started) ∙ sym (opening place ps nested) in
        let rows : fold nest_row n (run_rows ps place run) ≡ n3 =
        fold-append nest_row n (ends ++ texts) starts ∙ ap (λ k. fold nest_row k starts) (fold-append nest_row n ends texts) in
        subst (λ k. NestRead k (filter (is_open (place + 1)) ps) from b) (sym rows) (subst (λ qs. NestRead n3 qs from b) is_open_after r3)

    -- ---- all tokens

    abbrev ArePlaced : ℕ → List Run → Type 0
    ArePlaced place [] = Unit {0}
    ArePlaced place (run ∷ others) = IsPlaced place run × ArePlaced (place + 1) others

    rows_read : (place : ℕ) (ts : List Token) (n : Nest) (from a b : List InlineCode) → ArePlaced place (runs_of ts) → AreRead context ts a b
        → NestRead n (filter (is_open place) ps) from a
        → NestRead (fold nest_row n (rows_from ps place ts)) (filter (is_open (place + length (runs_of ts))) ps) from b
    rows_read place _ n from _ _ placed (NoTokens a) r =
        let same : place ≡ place + 0 = omega arith in subst (λ k. NestRead n (filter (is_open k) ps) from a) same r
    rows_read place _ n from _ _ placed (SomeSpaces ts a next b spaces p) r =
        rows_read place ts n from next b placed p
        (changed n.now n.now n.around (filter (is_open place) ps) from a next (λ start w. spaced context n.now start a next w spaces) r)
    rows_read place _ n from _ _ placed (OnePart i ts a mid b one p) r =
        rows_read place ts (nest_row n (Holds i)) from mid b placed p (holds n (filter (is_open place) ps) from a mid i one r)
    rows_read place _ n from _ _ placed (OneRun run ts a mid b one p) r =
        let n1 = fold nest_row n (run_rows ps place run) in
        let later = rows_read (place + 1) ts n1 from mid b placed.1 p (run_read place run n from a mid placed.0 one r) in
        let rows : fold nest_row n (rows_from ps place (Delimiters run ∷ ts)) ≡ fold nest_row n1 (rows_from ps (place + 1) ts) =
        fold-append nest_row n (run_rows ps place run) (rows_from ps (place + 1) ts) in
        let count : place + 1 + length (runs_of ts) ≡ place + suc (length (runs_of ts)) = omega arith in
        subst (λ k. NestRead k (filter (is_open (place + suc (length (runs_of ts)))) ps) from b) (sym rows)
        (subst (λ c. NestRead (fold nest_row n1 (rows_from ps (place + 1) ts)) (filter (is_open c) ps) from b) count later)

-- ---- a container

-- each run at its place
placed_from : (context : InlineContext) (all before runs : List Run) (nested : AreNested (pairs all)) (sides : Each (HasSides context.options all) (pairs all))
    → all ≡ before ++ runs → ArePlaced context all (pairs all) nested sides (length before) runs
placed_from context all before [] nested sides e = tt
placed_from context all before (run ∷ runs) nested sides e =
    let here : run_by_place all (length before) ≡ run = ap (λ rs. run_by_place rs (length before)) e ∙ get_or-append_seam before run runs no_run in
    let count : length all ≡ length before + suc (length runs) = ap length e ∙ length-append before (run ∷ runs) in
    let fit = bytes_fit all (length before) no_run (omega arith) in
    let same : (run_by_place all (length before)).left ≡ run.left = ap (λ (r : Run). r.left) here in
    let more : length (before ++ run ∷ []) ≡ length before + 1 = length-append before (run ∷ []) in (
      record { there = here; fit = omega arith },
      subst (λ k. ArePlaced context all (pairs all) nested sides k runs) more
          (placed_from context all (before ++ run ∷ []) runs nested sides (e ∙ sym (append_assoc before (run ∷ []) runs))),
    )

-- past the last run none is open
none_last : (n : ℕ) (ps : List Pair) → AreOrdered n ps → filter (is_open n) ps ≡ []
none_last n [] ordered = refl
none_last n (p ∷ ps) ordered =
    let lt : p.closer < n = ordered.1 in
    let shut : is_open n p ≡ false = grind (arith, common_steps) in
    cond-false (is_open n p) (p ∷ filter (is_open n) ps) (filter (is_open n) ps) shut ∙ none_last n ps ordered.2

ends : (context : InlineContext) (runs : List Run) (now : Inlines) (around : List OpenSpan) (from to : List InlineCode)
    → IsRead context runs now around [] from to → AreWritten context now from to
ends context runs now [] from to r = r
ends context runs now (o ∷ os) from to r = absurd r

-- each run of tokens fits, and past the last one there is none
run_fits : (context : InlineContext) (ts : List Token) (from to : List InlineCode) → AreRead context ts from to
    → (place : ℕ) → RunFits context.options (runs_of ts) (run_by_place (runs_of ts) place)
run_fits context _ _ _ (NoTokens from) place = λ e. absurd (both_ways false refl e)
run_fits context _ _ _ (SomeSpaces ts from next to spaces p) place = run_fits context ts next to p place
run_fits context _ _ _ (OnePart i ts from mid to one p) place = run_fits context ts mid to p place
run_fits context _ _ _ (OneRun run ts from mid to one p) zero = λ opens. (one.marker, one.fits opens)
run_fits context _ _ _ (OneRun run ts from mid to one p) (suc place) = run_fits context ts mid to p place

-- the inline structure of a container is written as its tokens are read
pub spans_written : (context : InlineContext) (ts : List Token) (from to : List InlineCode) → AreRead context ts from to
    → AreWritten context (with_spans ts) from to
spans_written context ts from to tokens =
    let runs = runs_of ts in
    let ps = pairs runs in
    let nested = pairs_nested runs in
    let sides = pairs_sided context.options runs (run_fits context ts from to tokens) in
    let all = fold nest_row (nest Nil []) (rows_from ps 0 ts) in
    let start : NestRead context runs (nest Nil []) (filter (is_open 0) ps) from from =
    subst (λ qs. NestRead context runs (nest Nil []) qs from from) (sym (none_open ps)) (Nothing from) in
    let end = rows_read context runs ps nested sides 0 ts (nest Nil []) from from to (placed_from context runs [] runs nested sides refl) tokens start in
    let last : filter (is_open (0 + length runs)) ps ≡ [] =
    ap (λ k. filter (is_open k) ps) (let same : 0 + length runs ≡ length runs = omega arith in same) ∙ none_last (length runs) ps (pairs_ordered runs) in
    subst (λ is. AreWritten context is from to) (sym (spans_by_rows ts))
    (ends context runs all.now all.around from to (subst (λ qs. NestRead context runs all qs from to) last end))
