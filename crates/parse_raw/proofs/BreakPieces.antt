-- The pieces of a thematic break, one part after another (CommonMark 4.1).
use Rattle.std.proofs.Common.{◌≡◌, ℕ, ◌+◌, ◌<◌, zero, suc, Bool, true, false, not, ◌||◌, List, [], ◌∷◌, ◌++◌, inl, inr, refl, sym, ap, ap₂, ◌∙◌, subst, drop, take}
use Rattle.std.proofs.Common.{get_or, length, arith}
use Rattle.parse_raw.proofs.Prelude.{and_parts, cases_Bool, cond-false, cond-true, eqb-true, indent, is_tab_column, is_white, list_all, nat_tests, ne_eqb, run}
use Rattle.parse_raw.proofs.Prelude.{take-append-drop}
use Rattle.std.specs.Prelude.{◌==◌, if◌then◌else◌}
use Rattle.engine_events.specs.declared.event.Name.{Name}
use Rattle.engine_events.specs.declared.event.Name.TheVariants as n
use Rattle.event_definition.specs.Pieces.{Token, Around, Pieces, Nil, Cons, grouped, in_first, join, token}
use Rattle.event_definition.specs.ThematicBreak.{break_name}
use Rattle.parse_pieces.specs.Sizes.{code_size, codes_size, columns_of}
use Rattle.parse_pieces.specs.Written.{WritesPieces, passed}
use Rattle.parse_pieces.proofs.Written.{pieces_token}
use Rattle.parse_raw.proofs.Prelude.{AreLeft, End, end_at, length-take-le, Standing, standing, void_nodes, Walk, Writes, written_to}
use Rattle.event_tokens.specs.Tokens.{is_among}
use Rattle.parse_raw.specs.Bytes.{AreBreak, break_marks}
use Rattle.std.proofs.Common.{◌≤◌, ◌&&◌, length-drop}

-- ---- bytes

pub bytes_columns : (bs : List ℕ) → ((k : ℕ) → get_or bs k 0 < 256) → columns_of bs 0 ≡ 0
bytes_columns [] bytes = refl
bytes_columns (b ∷ bs) bytes =
    let less = bytes 0 in cond-false (is_tab_column b) _ _ (ne_eqb b 256 (λ (e : b ≡ 256). omega (arith, less, e)))

pub bytes_size : (bs : List ℕ) → ((k : ℕ) → get_or bs k 0 < 256) → codes_size bs ≡ length bs
bytes_size [] bytes = refl
bytes_size (b ∷ bs) bytes =
    let less = bytes 0 in
    let one : code_size b ≡ 1 =
    cond-false (is_tab_column b) _ _ (ne_eqb b 256 (λ (e : b ≡ 256). omega (arith, less, e)))
    ∙ cond-false (b == 257) _ _ (ne_eqb b 257 (λ (e : b ≡ 257). omega (arith, less, e))) in
    let more = bytes_size bs (λ k. bytes (suc k)) in
    omega (arith, one, more)

-- ---- parts of one name

-- the name of a byte, by whether it is white space
abbrev pub name_by : Bool → Name
name_by white = if white then n.SpaceOrTab else n.ThematicBreakSequence

no_white : (white : Bool) → not white ≡ true → white ≡ false
no_white true is = sym is
no_white false is = refl

named : (white : Bool) (c : ℕ) → (if white then is_white c else not (is_white c)) ≡ true → break_name c ≡ name_by white
named true c is = ap name_by is
named false c is = ap name_by (no_white (is_white c) is)

-- pieces don't begin with a token of this name
abbrev pub BeginsOther : Bool → Pieces → Type 0
BeginsOther white Nil = Unit {0}
BeginsOther white (Cons (Token name cs) ps) = name ≡ name_by (not white)
BeginsOther white (Cons (Around name kids) ps) = Unit {0}

first_apart : (white : Bool) (c : ℕ) (ps : Pieces) → BeginsOther white ps → in_first (name_by white) c ps ≡ Cons (Token (name_by white) (c ∷ [])) ps
first_apart white c Nil other = refl
first_apart white c (Cons (Around name kids) ps) other = refl
first_apart true c (Cons (Token name cs) ps) other =
    ap (λ (x : Name). in_first n.SpaceOrTab c (Cons (Token x cs) ps)) other
    ∙ ap (λ (x : Name). Cons (Token n.SpaceOrTab (c ∷ [])) (Cons (Token x cs) ps)) (sym other)
first_apart false c (Cons (Token name cs) ps) other =
    ap (λ (x : Name). in_first n.ThematicBreakSequence c (Cons (Token x cs) ps)) other
    ∙ ap (λ (x : Name). Cons (Token n.ThematicBreakSequence (c ∷ [])) (Cons (Token x cs) ps)) (sym other)

first_same : (white : Bool) (c : ℕ) (cs : List ℕ) (ps : Pieces)
    → in_first (name_by white) c (Cons (Token (name_by white) cs) ps) ≡ Cons (Token (name_by white) (c ∷ cs)) ps
first_same true c cs ps = refl
first_same false c cs ps = refl

-- bytes of one kind are one token
pub run_grouped : (white : Bool) (front rest : List ℕ) → list_all (λ b. if white then is_white b else not (is_white b)) front ≡ true
    → BeginsOther white (grouped break_name rest) → grouped break_name (front ++ rest) ≡ join (token (name_by white) front) (grouped break_name rest)
run_grouped white [] rest all other = refl
run_grouped white (c ∷ []) rest all other =
    ap (λ (x : Name). in_first x c (grouped break_name rest)) (named white c (and_parts _ true all).0) ∙ first_apart white c (grouped break_name rest) other
run_grouped white (c ∷ d ∷ ds) rest all other =
    let parts = and_parts (if white then is_white c else not (is_white c)) (list_all (λ b. if white then is_white b else not (is_white b)) (d ∷ ds)) all in
    ap₂ (λ (x : Name) (ps : Pieces). in_first x c ps) (named white c parts.0) (run_grouped white (d ∷ ds) rest parts.1 other)
    ∙ first_same white c (d ∷ ds) (grouped break_name rest)

-- ---- what comes first

first_step : (w v : Bool) (c : ℕ) (ds : List ℕ) (ps : Pieces)
    → (es : List ℕ) × (qs : Pieces) × (in_first (name_by w) c (Cons (Token (name_by v) ds) ps) ≡ Cons (Token (name_by w) es) qs)
first_step true true c ds ps = (c ∷ ds, ps, refl)
first_step true false c ds ps = (c ∷ [], Cons (Token n.ThematicBreakSequence ds) ps, refl)
first_step false true c ds ps = (c ∷ [], Cons (Token n.SpaceOrTab ds) ps, refl)
first_step false false c ds ps = (c ∷ ds, ps, refl)

first_is : (c : ℕ) (cs : List ℕ) → (ds : List ℕ) × (ps : Pieces) × (grouped break_name (c ∷ cs) ≡ Cons (Token (name_by (is_white c)) ds) ps)
first_is c [] = (c ∷ [], Nil, refl)
first_is c (d ∷ cs) =
    let next = first_is d cs in
    let step = first_step (is_white c) (is_white d) c next.0 next.1 in
    (step.0, step.1, ap (in_first (name_by (is_white c)) c) next.2 ∙ step.2)

begins_other : (white : Bool) (c : ℕ) (cs : List ℕ) → is_white c ≡ not white → BeginsOther white (grouped break_name (c ∷ cs))
begins_other white c cs is = let first = first_is c cs in subst (BeginsOther white) (sym first.2) (ap name_by is)

-- after white space
pub after_white : (bytes : List ℕ) → BeginsOther true (grouped break_name (drop (indent bytes) bytes))
after_white [] = tt
after_white (b ∷ bs) =
    elim (cases_Bool (is_white b)) [
      | inl h ↦
          let size : indent (b ∷ bs) ≡ suc (indent bs) = cond-true (is_white b) _ _ h ∙ (let one : 1 + indent bs ≡ suc (indent bs) = omega arith in one) in
          subst (λ (k : ℕ). BeginsOther true (grouped break_name (drop k (b ∷ bs)))) (sym size) (after_white bs)
      | inr h ↦
          let size : indent (b ∷ bs) ≡ 0 = cond-false (is_white b) _ _ h in
          subst (λ (k : ℕ). BeginsOther true (grouped break_name (drop k (b ∷ bs)))) (sym size) (begins_other true b bs h)
    ]

pub white_front : (bytes : List ℕ) (size : ℕ) → list_all is_white (take size bytes) ≡ true
    → BeginsOther true (grouped break_name (drop size bytes))
    → grouped break_name bytes ≡ join (token n.SpaceOrTab (take size bytes)) (grouped break_name (drop size bytes))
white_front bytes size white other =
    ap (grouped break_name) (sym (take-append-drop size bytes)) ∙ run_grouped true (take size bytes) (drop size bytes) white other

-- after markers
other_kind : (b marker : ℕ) → ((b == marker) || is_white b) ≡ true → (b == marker) ≡ false → is_white b ≡ true
other_kind b marker either other = ap (λ (t : Bool). t || is_white b) (sym other) ∙ either

pub after_markers : (marker : ℕ) (bytes : List ℕ) → list_all (λ b. (b == marker) || is_white b) bytes ≡ true
    → BeginsOther false (grouped break_name (drop (run marker bytes) bytes))
after_markers marker [] all = tt
after_markers marker (b ∷ bs) all =
    let parts = and_parts ((b == marker) || is_white b) (list_all (λ c. (c == marker) || is_white c) bs) all in
    elim (cases_Bool (b == marker)) [
      | inl h ↦
          let size : run marker (b ∷ bs) ≡ suc (run marker bs) = cond-true (b == marker) _ _ h ∙ (let one : 1 + run marker bs ≡ suc (run marker bs) = omega arith in one) in
          subst (λ (k : ℕ). BeginsOther false (grouped break_name (drop k (b ∷ bs)))) (sym size) (after_markers marker bs parts.1)
      | inr h ↦
          let size : run marker (b ∷ bs) ≡ 0 = cond-false (b == marker) _ _ h in
          subst (λ (k : ℕ). BeginsOther false (grouped break_name (drop k (b ∷ bs)))) (sym size) (begins_other false b bs (other_kind b marker parts.0 h))
    ]

dark_markers : (marker : ℕ) (bytes : List ℕ) → is_white marker ≡ false → list_all (λ b. not (is_white b)) (take (run marker bytes) bytes) ≡ true
dark_markers marker [] dark = refl
dark_markers marker (b ∷ bs) dark =
    elim (cases_Bool (b == marker)) [
      | inl h ↦
          let size : run marker (b ∷ bs) ≡ suc (run marker bs) = cond-true (b == marker) _ _ h ∙ (let one : 1 + run marker bs ≡ suc (run marker bs) = omega arith in one) in
          let own : not (is_white b) ≡ true = ap (λ (k : ℕ). not (is_white k)) (eqb-true b marker h) ∙ ap not dark in
          ap (λ (k : ℕ). list_all (λ c. not (is_white c)) (take k (b ∷ bs))) size
          ∙ ap (λ (t : Bool). t && list_all (λ c. not (is_white c)) (take (run marker bs) bs)) own ∙ dark_markers marker bs dark
      | inr h ↦
          let size : run marker (b ∷ bs) ≡ 0 = cond-false (b == marker) _ _ h in
          ap (λ (k : ℕ). list_all (λ c. not (is_white c)) (take k (b ∷ bs))) size
    ]

marker_dark : (marker : ℕ) → is_among break_marks marker ≡ true → is_white marker ≡ false
marker_dark marker is = grind (arith, nat_tests, is)

pub marker_front : (marker first size : ℕ) (bytes : List ℕ) → AreBreak marker bytes → indent bytes ≡ 0 → first ≡ get_or bytes 0 0 → size ≡ run first bytes
    → grouped break_name bytes ≡ join (token n.ThematicBreakSequence (take size bytes)) (grouped break_name (drop size bytes))
marker_front marker first size [] are none is sized =
    sym (ap (λ (k : ℕ). join (token n.ThematicBreakSequence (take k [])) (grouped break_name (drop k []))) sized)
marker_front marker first size (b ∷ bs) are none is sized =
    let all = are.1 in
    let one = (and_parts ((b == marker) || is_white b) (list_all (λ c. (c == marker) || is_white c) bs) all).0 in
    elim (cases_Bool (is_white b)) [
      | inl white ↦ let some : indent (b ∷ bs) ≡ 1 + indent bs = cond-true (is_white b) _ _ white in absurd (omega (arith, some, none))
      | inr dark ↦
          let same : (b == marker) ≡ true = grind (arith, nat_tests, one, dark) in
          let first_is : first ≡ marker = is ∙ eqb-true b marker same in
          let size_is : size ≡ run marker (b ∷ bs) = sized ∙ ap (λ (k : ℕ). run k (b ∷ bs)) first_is in
          let bytes = b ∷ bs in
          ap (grouped break_name) (sym (take-append-drop size bytes))
          ∙ run_grouped false (take size bytes) (drop size bytes)
          (ap (λ (k : ℕ). list_all (λ c. not (is_white c)) (take k bytes)) size_is ∙ dark_markers marker bytes (marker_dark marker are.0))
          (subst (λ (k : ℕ). BeginsOther false (grouped break_name (drop k bytes))) (sym size_is) (after_markers marker bytes all))
    ]

-- ---- in a walk

take_bytes : (bs : List ℕ) (size : ℕ) → ((k : ℕ) → get_or bs k 0 < 256) → (k : ℕ) → get_or (take size bs) k 0 < 256
take_bytes bs zero bytes k = omega arith
take_bytes [] (suc size) bytes k = omega arith
take_bytes (b ∷ bs) (suc size) bytes zero = bytes 0
take_bytes (b ∷ bs) (suc size) bytes (suc k) = take_bytes bs size (λ j. bytes (suc j)) k

pub part_exact : {A : Type 0} (text : List ℕ) (name : Name) (bytes : List ℕ) (size : ℕ) (a b : Walk A) → ((k : ℕ) → get_or bytes k 0 < 256)
    → size ≤ length bytes → AreLeft text bytes a → AreLeft text (drop size bytes) b → standing b ≡ standing a
    → Writes text a.out b.out (void_nodes text name (written_to a) (end_at ((written_to a).index + size) 0))
    → WritesPieces text (token name (take size bytes)) a.out b.out
part_exact text name bytes size a b are le before after same writes =
    let front = take size bytes in
    let small = take_bytes bytes size are in
    let line_end = ap (λ (s : Standing). s.line_end) same in
    let index_a = ap (λ (e : End). e.index) before.at in
    let index_b = ap (λ (e : End). e.index) after.at in
    let behind = length-drop size bytes in
    let to : (written_to a).index + size ≡ (written_to b).index = omega (arith, index_a, index_b, line_end, behind, before.within, le) in
    let owes_a : (written_to a).owed ≡ 0 = ap (λ (e : End). e.owed) before.at in
    let owes_b : (written_to b).owed ≡ 0 = ap (λ (e : End). e.owed) after.at in
    let end : end_at ((written_to a).index + size) 0 ≡ written_to b = ap₂ end_at to (sym owes_b) in
    let passed_a : passed (written_to a) ≡ (written_to a).index = ap (λ (o : ℕ). (written_to a).index + (if o == 0 then 0 else 1)) owes_a ∙ (let k : (written_to a).index + 0 ≡ (written_to a).index = omega arith in k) in
    let passed_b : passed (written_to b) ≡ (written_to b).index = ap (λ (o : ℕ). (written_to b).index + (if o == 0 then 0 else 1)) owes_b ∙ (let k : (written_to b).index + 0 ≡ (written_to b).index = omega arith in k) in
    let count : codes_size front ≡ size = bytes_size front small ∙ length-take-le size bytes le in
    pieces_token text name front a.out b.out (owes_a ∙ sym (ap (columns_of front) owes_b ∙ bytes_columns front small))
    (omega (arith, passed_a, passed_b, to, count)) (subst (λ (e : End). Writes text a.out b.out (void_nodes text name (written_to a) e)) end writes)

pub no_bytes_here : (bs : List ℕ) → length bs ≡ 0 → bs ≡ []
no_bytes_here [] none = refl
no_bytes_here (b ∷ bs) none = absurd (omega (arith, none))
