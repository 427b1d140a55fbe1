-- The spans of the definition are those of the rows from left to right.
use Rattle.std.proofs.Common.{◌⊎◌, inl, inr, ◌≡◌, ℕ, zero, suc, ◌+◌, ◌-◌, ◌<◌, ◌≤◌, List, [], ◌∷◌, ◌++◌, Bool, true, false, ◌&&◌, ◌||◌, map, refl, sym, ap, ap₂, ◌∙◌}
use Rattle.std.proofs.Common.{length, reverse, replicate, arith, subst, append_assoc}
use Rattle.std.specs.Prelude.{◌==◌, nat_lt}
use Rattle.std.specs.List.{filter, fold}
use Rattle.std.proofs.lemmas.Bool.{cases_lt, cases_Bool, cond-true, cond-false, both_ways, eqb-true, eq-eqb, ne_eqb, lt-ltb}
use Rattle.std.proofs.lemmas.List.{append-nil, map-append, reverse-append}
use Rattle.std.proofs.lemmas.List.Sums.{fold-append, sum_by-cons}
use Rattle.definition_inline.specs.Inline.{Inline, Leaf, Data, Span, SpanKind, Inlines, Nil, followed_by}
use Rattle.definition_inline.specs.Attention.{Run}
use Rattle.definition_inline.specs.Pairing.{Pair, OpenRun, without, pairs}
use Rattle.definition_inline.specs.NextPair.{is_within, is_inside, last_closer, AreNext, NoMore, NextIs}
use Rattle.definition_inline.specs.Spans.{Token, Item, Delimiters, runs_of, span_of, Piece, Whole, Left, pieces_from, with_piece, span_to_closer, with_span}
use Rattle.definition_inline.specs.Spans.{with_spans}
use Rattle.definition_inline.specs.SpanRows.{SpanRow, Holds, Opens, Closes, bytes_taken, run_rows, Nest, nest, OpenSpan, nest_row, nest_spans}
use Rattle.definition_text.proofs.Each.{Each}
use Rattle.definition_inline.proofs.NextPair.{are_next, none_past}
use Rattle.definition_inline.proofs.PairsNested.{AreNested, IsAround, pairs_nested}

-- ---- the rows of tokens and of pieces

-- the rows of tokens, of which the next run has this place
abbrev pub rows_from : List Pair → ℕ → List Token → List SpanRow
rows_from ps place [] = []
rows_from ps place (Item i ∷ ts) = Holds i ∷ rows_from ps place ts
rows_from ps place (Delimiters run ∷ ts) = run_rows ps place run ++ rows_from ps (place + 1) ts

abbrev rows_of : List Pair → List Piece → List SpanRow
rows_of ps [] = []
rows_of ps (Whole i ∷ xs) = Holds i ∷ rows_of ps xs
rows_of ps (Left r ∷ xs) = run_rows ps r.place r.run ++ rows_of ps xs

rows_of_tokens : (ps : List Pair) (place : ℕ) (ts : List Token) → rows_of ps (pieces_from place ts) ≡ rows_from ps place ts
rows_of_tokens ps place [] = refl
rows_of_tokens ps place (Item i ∷ ts) = ap (λ rows. Holds i ∷ rows) (rows_of_tokens ps place ts)
rows_of_tokens ps place (Delimiters run ∷ ts) = ap (λ rows. run_rows ps place run ++ rows) (rows_of_tokens ps (place + 1) ts)

-- bytes of text among rows
abbrev texts : ℕ → ℕ → List SpanRow
texts n marker = replicate n (Holds (Leaf (Data marker)))

held : (n : ℕ) (i : Inline) (now : Inlines) (around : List OpenSpan)
    → fold nest_row (nest now around) (replicate n (Holds i)) ≡ nest (fold followed_by now (replicate n i)) around
held zero i now around = refl
held (suc n) i now around = held n i (followed_by now i) around

-- what a run becomes that closes and opens these
abbrev shape : List Pair → List Pair → Run → List SpanRow
shape closed started run =
    map (λ (p : Pair). Closes) closed ++ texts (run.left - (bytes_taken closed + bytes_taken started)) run.marker
    ++ map (λ (p : Pair). Opens (span_of run.marker p)) (reverse started)

abbrev closed_at : ℕ → List Pair → List Pair
closed_at place ps = filter (λ (p : Pair). p.closer == place) ps

abbrev started_at : ℕ → List Pair → List Pair
started_at place ps = filter (λ (p : Pair). p.opener == place) ps

-- with no pairs it is text
plain_shape : (run : Run) → shape [] [] run ≡ texts run.left run.marker
plain_shape run =
    let all : run.left - 0 ≡ run.left = omega arith in append-nil (texts (run.left - 0) run.marker) ∙ ap (λ n. texts n run.marker) all

plain_rows : (ps : List Pair) (r : OpenRun) (xs : List Piece) (now : Inlines) (around : List OpenSpan) → closed_at r.place ps ≡ [] → started_at r.place ps ≡ []
    → fold nest_row (nest now around) (rows_of ps (Left r ∷ xs)) ≡ fold nest_row (nest (with_piece now (Left r)) around) (rows_of ps xs)
plain_rows ps r xs now around no_closed no_started =
    ap (λ rows. fold nest_row (nest now around) (rows ++ rows_of ps xs)) (ap₂ (λ cs ss. shape cs ss r.run) no_closed no_started ∙ plain_shape r.run)
    ∙ fold-append nest_row (nest now around) (texts r.run.left r.run.marker) (rows_of ps xs)
    ∙ ap (λ n. fold nest_row n (rows_of ps xs)) (held r.run.left (Leaf (Data r.run.marker)) now around)

-- pieces with no pairs are text
all_text : (xs : List Piece) (now : Inlines) (around : List OpenSpan) → fold nest_row (nest now around) (rows_of [] xs) ≡ nest (fold with_piece now xs) around
all_text [] now around = refl
all_text (Whole i ∷ xs) now around = all_text xs (followed_by now i) around
all_text (Left r ∷ xs) now around = plain_rows [] r xs now around refl refl ∙ all_text xs (with_piece now (Left r)) around

-- ---- the ends of one more pair

closed_other : (place : ℕ) (p : Pair) (ps : List Pair) → (p.closer ≡ place → ⊥) → closed_at place (p ∷ ps) ≡ closed_at place ps
closed_other place p ps h = cond-false (p.closer == place) (p ∷ closed_at place ps) (closed_at place ps) (ne_eqb p.closer place h)

started_other : (place : ℕ) (p : Pair) (ps : List Pair) → (p.opener ≡ place → ⊥) → started_at place (p ∷ ps) ≡ started_at place ps
started_other place p ps h = cond-false (p.opener == place) (p ∷ started_at place ps) (started_at place ps) (ne_eqb p.opener place h)

closed_here : (place : ℕ) (p : Pair) (ps : List Pair) → p.closer ≡ place → closed_at place (p ∷ ps) ≡ p ∷ closed_at place ps
closed_here place p ps h = cond-true (p.closer == place) (p ∷ closed_at place ps) (closed_at place ps) (eq-eqb p.closer place h)

started_here : (place : ℕ) (p : Pair) (ps : List Pair) → p.opener ≡ place → started_at place (p ∷ ps) ≡ p ∷ started_at place ps
started_here place p ps h = cond-true (p.opener == place) (p ∷ started_at place ps) (started_at place ps) (eq-eqb p.opener place h)

same_run : (p : Pair) (ps : List Pair) (r : OpenRun) → (p.opener ≡ r.place → ⊥) → (p.closer ≡ r.place → ⊥)
    → run_rows (p ∷ ps) r.place r.run ≡ run_rows ps r.place r.run
same_run p ps r not_opener not_closer =
    ap₂ (λ cs ss. shape cs ss r.run) (closed_other r.place p ps not_closer) (started_other r.place p ps not_opener)

close_shape : (p : Pair) (closed started : List Pair) (r : OpenRun) → shape (p ∷ closed) started r.run ≡ Closes ∷ shape closed started (without p.taken r).run
close_shape p closed started r =
    let whole : bytes_taken (p ∷ closed) ≡ p.taken + bytes_taken closed = sum_by-cons (λ (q : Pair). q.taken) p closed in
    let less : r.run.left - (bytes_taken (p ∷ closed) + bytes_taken started) ≡ r.run.left - p.taken - (bytes_taken closed + bytes_taken started) =
    omega (arith, whole) in
    ap (λ n. Closes ∷ (map (λ (q : Pair). Closes) closed ++ texts n r.run.marker ++ map (λ (q : Pair). Opens (span_of r.run.marker q)) (reverse started))) less

open_shape : (p : Pair) (closed started : List Pair) (r : OpenRun)
    → shape closed (p ∷ started) r.run ≡ shape closed started (without p.taken r).run ++ Opens (span_of r.run.marker p) ∷ []
open_shape p closed started r =
    let opens : Pair → SpanRow = λ (q : Pair). Opens (span_of r.run.marker q) in
    let ends = map (λ (q : Pair). Closes) closed in
    let n = r.run.left - p.taken - (bytes_taken closed + bytes_taken started) in
    let whole : bytes_taken (p ∷ started) ≡ p.taken + bytes_taken started = sum_by-cons (λ (q : Pair). q.taken) p started in
    let less : r.run.left - (bytes_taken closed + bytes_taken (p ∷ started)) ≡ n = omega (arith, whole) in
    let last : map opens (reverse (p ∷ started)) ≡ map opens (reverse started) ++ opens p ∷ [] =
    ap (map opens) (reverse-append (p ∷ []) started) ∙ map-append opens (reverse started) (p ∷ []) in
    ap₂ (λ m rows. ends ++ texts m r.run.marker ++ rows) less last
    ∙ sym (append_assoc (ends ++ texts n r.run.marker) (map opens (reverse started)) (opens p ∷ []))

-- ---- places

-- the places of runs ascend, from this one on
abbrev SortedFrom : ℕ → List Piece → Type 0
SortedFrom a [] = Unit {0}
SortedFrom a (Whole i ∷ xs) = SortedFrom a xs
SortedFrom a (Left r ∷ xs) = (a ≤ r.place) × SortedFrom (r.place + 1) xs

-- a run has this place
abbrev Has : ℕ → List Piece → Type 0
Has m [] = ⊥
Has m (Whole i ∷ xs) = Has m xs
Has m (Left r ∷ xs) = (r.place ≡ m) ⊎ Has m xs

has_from : (m a : ℕ) (xs : List Piece) → SortedFrom a xs → Has m xs → a ≤ m
has_from m a [] s h = absurd h
has_from m a (Whole i ∷ xs) s h = has_from m a xs s h
has_from m a (Left r ∷ xs) s (inl e) = let le : a ≤ r.place = s.0 in omega arith
has_from m a (Left r ∷ xs) s (inr h) = let le : a ≤ r.place = s.0 in let more = has_from m (r.place + 1) xs s.1 h in omega arith

sorted_weaker : (a b : ℕ) (xs : List Piece) → a ≤ b → SortedFrom b xs → SortedFrom a xs
sorted_weaker a b [] le s = tt
sorted_weaker a b (Whole i ∷ xs) le s = sorted_weaker a b xs le s
sorted_weaker a b (Left r ∷ xs) le s = (let from : b ≤ r.place = s.0 in omega arith, s.1)

sorted_tokens : (place : ℕ) (ts : List Token) → SortedFrom place (pieces_from place ts)
sorted_tokens place [] = tt
sorted_tokens place (Item i ∷ ts) = sorted_tokens place ts
sorted_tokens place (Delimiters run ∷ ts) = (omega arith, sorted_tokens (place + 1) ts)

has_tokens : (place : ℕ) (ts : List Token) (m : ℕ) → place ≤ m → m < place + length (runs_of ts) → Has m (pieces_from place ts)
has_tokens place [] m le lt = absurd (omega arith)
has_tokens place (Item i ∷ ts) m le lt = has_tokens place ts m le lt
has_tokens place (Delimiters run ∷ ts) m le lt =
    elim (cases_lt place m) [
      | inl below ↦ inr (has_tokens (place + 1) ts m (omega arith) (omega arith))
      | inr above ↦ inl (omega arith)
    ]

-- an end of a pair isn't strictly inside of another one
abbrev Beside : Pair → ℕ → Type 0
Beside p m = (m ≤ p.opener) ⊎ (p.closer ≤ m)

abbrev Apart : Pair → List Pair → Type 0
Apart p [] = Unit {0}
Apart p (q ∷ qs) = (Beside p q.opener × Beside p q.closer) × Apart p qs

not_inside : (p : Pair) (m place : ℕ) → Beside p m → p.opener < place → place < p.closer → m ≡ place → ⊥
not_inside p m place (inl h) after before e = omega arith
not_inside p m place (inr h) after before e = omega arith

none_inside : (p : Pair) (qs : List Pair) (place : ℕ) → Apart p qs → p.opener < place → place < p.closer
    → (closed_at place qs ≡ []) × (started_at place qs ≡ [])
none_inside p [] place h after before = (refl, refl)
none_inside p (q ∷ qs) place h after before =
    let more = none_inside p qs place h.1 after before in (
      closed_other place q qs (λ e. not_inside p q.closer place h.0.1 after before e) ∙ more.0,
      started_other place q qs (λ e. not_inside p q.opener place h.0.0 after before e) ∙ more.1,
    )

-- ---- one pair

-- past its closer
past : (p : Pair) (qs : List Pair) (a : ℕ) (xs : List Piece) → SortedFrom a xs → p.opener < a → p.closer < a → rows_of (p ∷ qs) xs ≡ rows_of qs xs
past p qs a [] s o c = refl
past p qs a (Whole i ∷ xs) s o c = ap (λ rows. Holds i ∷ rows) (past p qs a xs s o c)
past p qs a (Left r ∷ xs) s o c =
    let le : a ≤ r.place = s.0 in
    ap₂ (λ rows more. rows ++ more) (same_run p qs r (λ e. omega arith) (λ e. omega arith)) (past p qs (r.place + 1) xs s.1 (omega arith) (omega arith))

-- from its opener on
closing : (p : Pair) (qs : List Pair) (kind : SpanKind) (a : ℕ) (inside before : Inlines) (around : List OpenSpan) (xs : List Piece) → SortedFrom a xs
    → p.opener < a → Has p.closer xs → Apart p qs
    → fold nest_row (nest inside (record { kind = kind; before = before } ∷ around)) (rows_of (p ∷ qs) xs)
    ≡ fold nest_row (nest before around) (rows_of qs (span_to_closer kind p inside xs))
closing p qs kind a inside before around [] s o has apart = absurd has
closing p qs kind a inside before around (Whole i ∷ xs) s o has apart = closing p qs kind a (followed_by inside i) before around xs s o has apart
closing p qs kind a inside before around (Left r ∷ xs) s o has apart =
    let le : a ≤ r.place = s.0 in
    let open_now = nest inside (record { kind = kind; before = before } ∷ around) in
    let whole = Whole (Span kind inside) ∷ Left (without p.taken r) ∷ xs in
    let further = span_to_closer kind p (with_piece inside (Left r)) xs in
    elim (cases_Bool (r.place == p.closer)) [
      | inl here ↦
          let is : r.place ≡ p.closer = eqb-true r.place p.closer here in
          let closed = closed_at r.place qs in
          let started = started_at r.place qs in
          ap (fold nest_row open_now)
          (ap₂ (λ rows more. rows ++ more)
          (ap₂ (λ cs ss. shape cs ss r.run) (closed_here r.place p qs (sym is)) (started_other r.place p qs (λ e. omega arith)) ∙ close_shape p closed started r)
          (past p qs (r.place + 1) xs s.1 (omega arith) (omega arith)))
          ∙ sym (ap (λ ys. fold nest_row (nest before around) (rows_of qs ys)) (cond-true (r.place == p.closer) whole further here))
      | inr other ↦
          let isnt : r.place ≡ p.closer → ⊥ = λ e. both_ways (r.place == p.closer) other (eq-eqb r.place p.closer e) in
          let has_later : Has p.closer xs = elim has [ inl e ↦ absurd (isnt e) | inr h ↦ h ] in
          let later = has_from p.closer (r.place + 1) xs s.1 has_later in
          let none = none_inside p qs r.place apart (omega arith) (omega arith) in
          plain_rows (p ∷ qs) r xs inside (record { kind = kind; before = before } ∷ around)
          (closed_other r.place p qs (λ e. isnt (sym e)) ∙ none.0) (started_other r.place p qs (λ e. omega arith) ∙ none.1)
          ∙ closing p qs kind (r.place + 1) (with_piece inside (Left r)) before around xs s.1 (omega arith) has_later apart
          ∙ sym (ap (λ ys. fold nest_row (nest before around) (rows_of qs ys)) (cond-false (r.place == p.closer) whole further other))
    ]

-- the rows of pieces with a pair, and of pieces with its span
one_pair : (p : Pair) (qs : List Pair) (a : ℕ) (n : Nest) (xs : List Piece) → SortedFrom a xs → Has p.opener xs → Has p.closer xs → p.opener < p.closer
    → Apart p qs → fold nest_row n (rows_of (p ∷ qs) xs) ≡ fold nest_row n (rows_of qs (with_span xs p))
one_pair p qs a n [] s has has_closer order apart = absurd has
one_pair p qs a n (Whole i ∷ xs) s has has_closer order apart = one_pair p qs a (nest_row n (Holds i)) xs s has has_closer order apart
one_pair p qs a n (Left r ∷ xs) s has has_closer order apart =
    let le : a ≤ r.place = s.0 in
    let kind = span_of r.run.marker p in
    let here_rows = Left (without p.taken r) ∷ span_to_closer kind p Nil xs in
    let later_rows = Left r ∷ with_span xs p in
    elim (cases_Bool (r.place == p.opener)) [
      | inl here ↦
          let is : r.place ≡ p.opener = eqb-true r.place p.opener here in
          let closed = closed_at r.place qs in
          let started = started_at r.place qs in
          let rows = shape closed started (without p.taken r).run in
          let now = fold nest_row n rows in
          let closer_later : Has p.closer xs = elim has_closer [ inl e ↦ absurd (omega arith) | inr h ↦ h ] in
          ap (λ first. fold nest_row n (first ++ rows_of (p ∷ qs) xs))
          (ap₂ (λ cs ss. shape cs ss r.run) (closed_other r.place p qs (λ e. omega arith)) (started_here r.place p qs (sym is)) ∙ open_shape p closed started r)
          ∙ ap (fold nest_row n) (append_assoc rows (Opens kind ∷ []) (rows_of (p ∷ qs) xs))
          ∙ fold-append nest_row n rows (Opens kind ∷ rows_of (p ∷ qs) xs)
          ∙ closing p qs kind (r.place + 1) Nil now.now now.around xs s.1 (omega arith) closer_later apart
          ∙ sym (fold-append nest_row n rows (rows_of qs (span_to_closer kind p Nil xs)))
          ∙ sym (ap (λ ys. fold nest_row n (rows_of qs ys)) (cond-true (r.place == p.opener) here_rows later_rows here))
      | inr other ↦
          let isnt : r.place ≡ p.opener → ⊥ = λ e. both_ways (r.place == p.opener) other (eq-eqb r.place p.opener e) in
          let opener_later : Has p.opener xs = elim has [ inl e ↦ absurd (isnt e) | inr h ↦ h ] in
          let later = has_from p.opener (r.place + 1) xs s.1 opener_later in
          let closer_later : Has p.closer xs = elim has_closer [ inl e ↦ absurd (omega arith) | inr h ↦ h ] in
          let rows = run_rows qs r.place r.run in
          ap (λ first. fold nest_row n (first ++ rows_of (p ∷ qs) xs)) (same_run p qs r (λ e. isnt (sym e)) (λ e. omega arith))
          ∙ fold-append nest_row n rows (rows_of (p ∷ qs) xs)
          ∙ one_pair p qs (r.place + 1) (fold nest_row n rows) xs s.1 opener_later closer_later order apart
          ∙ sym (fold-append nest_row n rows (rows_of qs (with_span xs p)))
          ∙ sym (ap (λ ys. fold nest_row n (rows_of qs ys)) (cond-false (r.place == p.opener) here_rows later_rows other))
    ]

-- ---- what is left for the later pairs

sorted_to_closer : (kind : SpanKind) (p : Pair) (a : ℕ) (inside : Inlines) (xs : List Piece) → SortedFrom a xs → SortedFrom a (span_to_closer kind p inside xs)
sorted_to_closer kind p a inside [] s = tt
sorted_to_closer kind p a inside (Whole i ∷ xs) s = sorted_to_closer kind p a (followed_by inside i) xs s
sorted_to_closer kind p a inside (Left r ∷ xs) s =
    let le : a ≤ r.place = s.0 in
    let whole = Whole (Span kind inside) ∷ Left (without p.taken r) ∷ xs in
    let further = span_to_closer kind p (with_piece inside (Left r)) xs in
    elim (cases_Bool (r.place == p.closer)) [
      | inl here ↦ subst (SortedFrom a) (sym (cond-true (r.place == p.closer) whole further here)) (s.0, s.1)
      | inr other ↦
          subst (SortedFrom a) (sym (cond-false (r.place == p.closer) whole further other))
          (sorted_weaker a (r.place + 1) further (omega arith) (sorted_to_closer kind p (r.place + 1) (with_piece inside (Left r)) xs s.1))
    ]

sorted_after : (p : Pair) (a : ℕ) (xs : List Piece) → SortedFrom a xs → SortedFrom a (with_span xs p)
sorted_after p a [] s = tt
sorted_after p a (Whole i ∷ xs) s = sorted_after p a xs s
sorted_after p a (Left r ∷ xs) s =
    let kind = span_of r.run.marker p in
    let here_rows = Left (without p.taken r) ∷ span_to_closer kind p Nil xs in
    let later_rows = Left r ∷ with_span xs p in
    elim (cases_Bool (r.place == p.opener)) [
      | inl here ↦
          subst (SortedFrom a) (sym (cond-true (r.place == p.opener) here_rows later_rows here))
          (s.0, sorted_to_closer kind p (r.place + 1) Nil xs s.1)
      | inr other ↦
          subst (SortedFrom a) (sym (cond-false (r.place == p.opener) here_rows later_rows other)) (s.0, sorted_after p (r.place + 1) xs s.1)
    ]

has_to_closer : (kind : SpanKind) (p : Pair) (m a : ℕ) (inside : Inlines) (xs : List Piece) → SortedFrom a xs → p.closer ≤ m → Has p.closer xs → Has m xs
    → Has m (span_to_closer kind p inside xs)
has_to_closer kind p m a inside [] s le closer h = absurd h
has_to_closer kind p m a inside (Whole i ∷ xs) s le closer h = has_to_closer kind p m a (followed_by inside i) xs s le closer h
has_to_closer kind p m a inside (Left r ∷ xs) s le closer h =
    let whole = Whole (Span kind inside) ∷ Left (without p.taken r) ∷ xs in
    let further = span_to_closer kind p (with_piece inside (Left r)) xs in
    elim (cases_Bool (r.place == p.closer)) [
      | inl here ↦ subst (Has m) (sym (cond-true (r.place == p.closer) whole further here)) h
      | inr other ↦
          let isnt : r.place ≡ p.closer → ⊥ = λ e. both_ways (r.place == p.closer) other (eq-eqb r.place p.closer e) in
          let closer_later : Has p.closer xs = elim closer [ inl e ↦ absurd (isnt e) | inr k ↦ k ] in
          let past_it = has_from p.closer (r.place + 1) xs s.1 closer_later in
          let later : Has m xs = elim h [ inl e ↦ absurd (omega arith) | inr k ↦ k ] in
          subst (Has m) (sym (cond-false (r.place == p.closer) whole further other))
          (has_to_closer kind p m (r.place + 1) (with_piece inside (Left r)) xs s.1 le closer_later later)
    ]

-- a place from the opener on that isn't inside is at the closer or past it
beside_later : (p : Pair) (m : ℕ) → Beside p m → p.opener < m → p.closer ≤ m
beside_later p m (inl h) after = absurd (omega arith)
beside_later p m (inr h) after = h

has_after : (p : Pair) (m a : ℕ) (xs : List Piece) → SortedFrom a xs → p.opener < p.closer → Beside p m → Has p.opener xs → Has p.closer xs → Has m xs
    → Has m (with_span xs p)
has_after p m a [] s order beside opener closer h = absurd h
has_after p m a (Whole i ∷ xs) s order beside opener closer h = has_after p m a xs s order beside opener closer h
has_after p m a (Left r ∷ xs) s order beside opener closer h =
    let kind = span_of r.run.marker p in
    let here_rows = Left (without p.taken r) ∷ span_to_closer kind p Nil xs in
    let later_rows = Left r ∷ with_span xs p in
    elim (cases_Bool (r.place == p.opener)) [
      | inl here ↦
          let is : r.place ≡ p.opener = eqb-true r.place p.opener here in
          let closer_later : Has p.closer xs = elim closer [ inl e ↦ absurd (omega arith) | inr k ↦ k ] in
          subst (Has m) (sym (cond-true (r.place == p.opener) here_rows later_rows here))
          (elim h [
            | inl e ↦ inl e
            | inr k ↦
                let from = has_from m (r.place + 1) xs s.1 k in
                inr (has_to_closer kind p m (r.place + 1) Nil xs s.1 (beside_later p m beside (omega arith)) closer_later k)
          ])
      | inr other ↦
          let isnt : r.place ≡ p.opener → ⊥ = λ e. both_ways (r.place == p.opener) other (eq-eqb r.place p.opener e) in
          let opener_later : Has p.opener xs = elim opener [ inl e ↦ absurd (isnt e) | inr k ↦ k ] in
          let later = has_from p.opener (r.place + 1) xs s.1 opener_later in
          let closer_later : Has p.closer xs = elim closer [ inl e ↦ absurd (omega arith) | inr k ↦ k ] in
          subst (Has m) (sym (cond-false (r.place == p.opener) here_rows later_rows other))
          (elim h [ inl e ↦ inl e | inr k ↦ inr (has_after p m (r.place + 1) xs s.1 order beside opener_later closer_later k) ])
    ]

-- ---- all pairs

-- the runs of these pairs are there
abbrev AllHas : List Pair → List Piece → Type 0
AllHas [] xs = Unit {0}
AllHas (p ∷ ps) xs = (Has p.opener xs × Has p.closer xs) × AllHas ps xs

-- no pair begins or ends inside of one before it
beside : (p : Pair) (m : ℕ) → is_within m p ≡ false → Beside p m
beside p m out =
    elim (cases_lt p.opener m) [
      | inl after ↦
          elim (cases_lt m p.closer) [
            | inl before ↦
                let yes : is_within m p ≡ true =
                ap (λ b. b && nat_lt m p.closer) (lt-ltb p.opener m after) ∙ lt-ltb m p.closer before in
                absurd (both_ways (is_within m p) out yes)
            | inr past_it ↦ inr (omega arith)
          ]
      | inr upto ↦ inl (omega arith)
    ]

apart : (p : Pair) (qs : List Pair) → Each (IsAround p) qs → Apart p qs
apart p [] each = tt
apart p (q ∷ qs) each = ((beside p q.opener each.0.outside, inr each.0.later), apart p qs each.1)

all_have : (p : Pair) (qs : List Pair) (a : ℕ) (xs : List Piece) → SortedFrom a xs → p.opener < p.closer → Has p.opener xs → Has p.closer xs → Apart p qs
    → AllHas qs xs → AllHas qs (with_span xs p)
all_have p [] a xs s order opener closer apart h = tt
all_have p (q ∷ qs) a xs s order opener closer apart h = (
  (has_after p q.opener a xs s order apart.0.0 opener closer h.0.0, has_after p q.closer a xs s order apart.0.1 opener closer h.0.1),
  all_have p qs a xs s order opener closer apart.1 h.1,
)

all_pairs : (ps : List Pair) (a : ℕ) (n : Nest) (xs : List Piece) → SortedFrom a xs → AllHas ps xs → AreNested ps
    → fold nest_row n (rows_of ps xs) ≡ fold nest_row n (rows_of [] (fold with_span xs ps))
all_pairs [] a n xs s has nested = refl
all_pairs (p ∷ ps) a n xs s has nested =
    let order = nested.0.ordered in
    let beside_all = apart p ps nested.1 in
    one_pair p ps a n xs s has.0.0 has.0.1 order beside_all
    ∙ all_pairs ps a n (with_span xs p) (sorted_after p a xs s) (all_have p ps a xs s order has.0.0 has.0.1 beside_all has.1) nested.2

-- ---- the pairs of runs

has_all : (runs : List Run) (so_far qs : List Pair) (xs : List Piece) → AreNext runs so_far qs → ((m : ℕ) → m < length runs → Has m xs) → AllHas qs xs
has_all runs _ _ xs (NoMore so_far none) has = tt
has_all runs _ _ xs (NextIs so_far p others next rest) has =
    let order = next.eligible.ordered in
    let within : p.closer < length runs =
    elim (cases_lt p.closer (length runs)) [
      | inl below ↦ below
      | inr past_it ↦ absurd (none_past runs so_far p.opener p.closer (omega arith) next.eligible)
    ] in
    ((has p.opener (omega arith), has p.closer within), has_all runs (p ∷ so_far) others xs rest has)

-- the spans of a container, by its rows
pub spans_by_rows : (ts : List Token) → with_spans ts ≡ nest_spans (rows_from (pairs (runs_of ts)) 0 ts)
spans_by_rows ts =
    let runs = runs_of ts in
    let ps = pairs runs in
    let xs = pieces_from 0 ts in
    let next = are_next runs in
    let has = has_all runs [] ps xs next (λ m lt. has_tokens 0 ts m (omega arith) (omega arith)) in
    sym
    (ap (λ rows. nest_spans rows) (sym (rows_of_tokens ps 0 ts))
    ∙ ap (λ (n : Nest). n.now) (all_pairs ps 0 (nest Nil []) xs (sorted_tokens 0 ts) has (pairs_nested runs) ∙ all_text (fold with_span xs ps) Nil []))
