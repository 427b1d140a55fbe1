-- Between two places in order, between characters, stands a text.
use Rattle.std.proofs.Common.{◌≡◌, ◌<◌, ◌≤◌, ℕ, ◌+◌, ◌-◌, ◌==◌, Bool, true, false, ◌&&◌, ◌||◌, if◌then◌else◌, List, [], ◌∷◌, ◌++◌, drop, take, length, get_or}
use Rattle.std.proofs.Common.{drop-cons, lit<, add-one, refl, sym, ap, ◌∙◌, subst, arith}
use Rattle.compile_written.proofs.Prelude.{append-nil, AreTexts, Around, bytes_between, Cons, eqb-true, Event, events_of, is_utf8, leb-true, nat_le, Nil}
use Rattle.compile_written.proofs.Prelude.{Nodes, PlacesFit, slice_index, split, Spot, spot_of}
use Rattle.std.specs.Prelude.{nat_lt}
use Rattle.std.proofs.lemmas.Bool.{and_parts, ltb-true}
use Rattle.engine_events.specs.Columns.{tab_size}
use Rattle.event_grammar.specs.Points.{edge, reaches, is_spot, is_column, column_at}
use Rattle.compile_written.proofs.Characters.{text_more, ascii_byte}

module _ (bytes : List ℕ) where
  -- the bytes before the edge of a place are a text
  byte_there : (i b : ℕ) → nat_lt i (length bytes) ≡ true → (slice_index bytes i == b) ≡ true → take 1 (drop i bytes) ≡ b ∷ []
  byte_there i b l e =
      let lt : i < length bytes = ltb-true i (length bytes) l in
      let next : drop i bytes ≡ get_or bytes i 0 ∷ drop (i + 1) bytes = rw (add-one, drop-cons bytes i 0 lt) in
      ap (take 1) next ∙ ap (λ (z : ℕ). z ∷ []) (eqb-true (slice_index bytes i) b e)

  -- a tab is at the index of a place
  abbrev is_tab_at : Spot → Bool
  is_tab_at p = nat_lt p.index (length bytes) && (slice_index bytes p.index == 9)

  edge_by : (p : Spot) (b : Bool) → (p.vs == 0) ≡ b → is_utf8 (take p.index bytes) ≡ true → is_column bytes p ≡ true
      → is_utf8 (take (if b then p.index else p.index + 1) bytes) ≡ true
  edge_by p true z u c = u
  edge_by p false z u c =
      let column = is_tab_at p && nat_lt p.vs (tab_size (column_at bytes p.index)) in
      let is : column ≡ true = sym (ap (λ (t : Bool). t || column) z) ∙ c in
      let tab = and_parts (is_tab_at p) (nat_lt p.vs (tab_size (column_at bytes p.index))) is in
      let parts = and_parts (nat_lt p.index (length bytes)) (slice_index bytes p.index == 9) tab.0 in
      let one : p.index + 1 - p.index ≡ 1 = omega arith in
      text_more bytes p.index (p.index + 1) u (omega arith)
      ∙ ap (λ (z : ℕ). is_utf8 (take z (drop p.index bytes))) one
      ∙ ap is_utf8 (byte_there p.index 9 parts.0 parts.1)
      ∙ ascii_byte 9 (lit< tt)

  pub edge_text : (p : Spot) → is_spot bytes p ≡ true → is_utf8 (take (edge p) bytes) ≡ true
  edge_text p h =
      let parts = and_parts (nat_le p.index (length bytes) && is_utf8 (take p.index bytes)) (is_column bytes p) h in
      let more = and_parts (nat_le p.index (length bytes)) (is_utf8 (take p.index bytes)) parts.0 in
      edge_by p (p.vs == 0) refl more.1 parts.1

  -- a later place has a later edge
  edges_by : (i j v w : ℕ) (a b : Bool) → (v == 0) ≡ a → (w == 0) ≡ b → (nat_lt i j || ((i == j) && nat_le v w)) ≡ true
      → (if a then i else i + 1) ≤ (if b then j else j + 1)
  edges_by i j v w a b h k r = edges (nat_lt i j) (i == j) (nat_le v w) a b refl refl refl h k r
    where
      edges : (l e m a b : Bool) → nat_lt i j ≡ l → (i == j) ≡ e → nat_le v w ≡ m → (v == 0) ≡ a → (w == 0) ≡ b → (l || (e && m)) ≡ true
          → (if a then i else i + 1) ≤ (if b then j else j + 1)
      edges true e m true true p q s h k r = let x = ltb-true i j p in omega arith
      edges true e m true false p q s h k r = let x = ltb-true i j p in omega arith
      edges true e m false true p q s h k r = let x = ltb-true i j p in omega arith
      edges true e m false false p q s h k r = let x = ltb-true i j p in omega arith
      edges false true true true true p q s h k r = let x = eqb-true i j q in omega arith
      edges false true true true false p q s h k r = let x = eqb-true i j q in omega arith
      edges false true true false false p q s h k r = let x = eqb-true i j q in omega arith
      edges false true true false true p q s h k r =
          let x = eqb-true w 0 k in
          let y = leb-true v w s in
          let zero : v ≡ 0 = omega arith in
          absurd (let f : true ≡ false = sym (ap (λ (z : ℕ). z == 0) zero) ∙ h in cc)
      edges false true false a b p q s h k r = absurd (let f : false ≡ true = r in cc)
      edges false false m a b p q s h k r = absurd (let f : false ≡ true = r in cc)

  pub edges_reach : (p q : Spot) → reaches p q ≡ true → edge p ≤ edge q
  edges_reach p q r = edges_by p.index q.index p.vs q.vs (p.vs == 0) (q.vs == 0) refl refl r

  -- The bytes between two places are a text.
  pub between_text : (p q : Spot) → is_spot bytes p ≡ true → is_spot bytes q ≡ true → edge p ≤ edge q → is_utf8 (bytes_between bytes p q) ≡ true
  between_text p q h k l = sym (text_more bytes (edge p) (edge q) (edge_text p h) l) ∙ edge_text q k

  -- ---- places of nodes

  -- after some events the next ones fit on, no earlier than a place
  pub record FitOn (from : Spot) (events : List Event) : Type 0 where
    pub at : Spot
    pub later : edge from ≤ edge at
    pub fit : PlacesFit bytes at events

  pub texts_over : (ns : Nodes) (at : Spot) (es : List Event) → PlacesFit bytes at (events_of ns ++ es) → AreTexts bytes ns × FitOn at es
  texts_over Nil at es h = (tt, record { at = at; later = omega arith; fit = h })
  texts_over (Cons (Around enter kids exit) ns) at es h =
      let rest = events_of ns ++ es in
      let here : PlacesFit bytes at (enter ∷ (events_of kids ++ exit ∷ rest)) =
      subst (λ (l : List Event). PlacesFit bytes at (enter ∷ l)) (split kids ns exit es) h in
      let inner = texts_over kids (spot_of enter) (exit ∷ rest) here.2 in
      let on = inner.1 in
      let e = spot_of enter in
      let x = spot_of exit in
      let first = edges_reach at e here.0 in
      let last = edges_reach on.at x on.fit.0 in
      let order : edge e ≤ edge x = omega (arith, on.later, last) in
      let others = texts_over ns x es on.fit.2 in (
        ((between_text e x here.1 on.fit.1 order, inner.0), others.0),
        record { at = others.1.at; later = omega (arith, first, order, others.1.later); fit = others.1.fit },
      )

  pub texts_law : (ns : Nodes) (at : Spot) → PlacesFit bytes at (events_of ns) → AreTexts bytes ns
  texts_law ns at h = (texts_over ns at [] (subst (PlacesFit bytes at) (sym (append-nil (events_of ns))) h)).0

  -- The nodes of events whose places fit are texts.
  pub texts_within : (ns : Nodes) (at : Spot) (events es : List Event) → PlacesFit bytes at events → events ≡ events_of ns ++ es → AreTexts bytes ns
  texts_within ns at events es h k = (texts_over ns at es (subst (PlacesFit bytes at) k h)).0
