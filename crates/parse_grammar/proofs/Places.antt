-- Places that are told byte by byte are places of the grammar, since events that hold no other have whole characters.
use Rattle.std.proofs.Common.{◌≡◌, ◌≤◌, ◌<◌, ℕ, ◌+◌, ◌-◌, zero, suc, Bool, true, false, not, ◌==◌, ◌&&◌, ◌||◌, if◌then◌else◌, List, [], ◌∷◌}
use Rattle.std.proofs.Common.{refl, sym, ap, ap₂, ◌∙◌, subst, take, drop, length, arith, inl, inr, None}
use Rattle.std.specs.Prelude.{nat_le, nat_lt, slice_index}
use Rattle.std.specs.List.{fold}
use Rattle.std.specs.Str.{IsCharBoundary, IsUtf8, is_utf8}
use Rattle.std.proofs.Math.Bool.{or-true}
use Rattle.std.proofs.Math.Seq.{drop-nil, take-add}
use Rattle.std.proofs.lemmas.Bool.{and_from, and_parts, eq-eqb, le-leb, le-ltb, lt-ltb, ltb-false}
use Rattle.std.proofs.lemmas.Bool.Decides.{nat_tests}
use Rattle.std.proofs.lemmas.List.Sums.{fold-append}
use Rattle.std.proofs.lemmas.Str.{IsCharBoundary-before_ascii, IsCharBoundary-start, IsUtf8-from_is_utf8, IsUtf8-take, is_utf8-from_IsUtf8}
use denote.Enum.Bare.{true_same}
use Rattle.engine_events.specs.contracts.event.Name.{the_type}
use Rattle.engine_events.specs.Columns.{between, column_after, mark_size, tab_size}
use Rattle.engine_events.specs.Names.{same_name}
use Rattle.engine_events.specs.declared.event.Event.{Event}
use Rattle.engine_events.specs.declared.event.Kind.TheVariants as kind
use Rattle.engine_events.specs.declared.event.Name.{Name}
use Rattle.engine_events.specs.Events.{event}
use Rattle.event_grammar.specs.InGrammar.{PlacesFit}
use Rattle.event_grammar.specs.Points.{bytes_between, column_at, column_on, edge, is_column, is_spot, reaches, spot}
use Rattle.event_grammar.specs.Void.{is_void}
use Rattle.event_grammar.specs.declared.spot.Spot.{Spot}
use Rattle.event_tokens.specs.Bytes.{are_fit, is_fit, is_fit_at, same_spot}
use Rattle.event_tokens.specs.Tokens.{is_token}
use Rattle.event_tokens.proofs.Characters.{tokens_are_characters}
use Rattle.parse_output.proofs.Between.{edges}
use Rattle.parse_output.proofs.Characters.{characters_end, text_bytes}
use Rattle.parse_output.proofs.Ends.{spot_index}
use Rattle.parse_output.specs.Ends.{index_spot}
use Rattle.parse_output.specs.Placed.{beginning}
use Rattle.parse_output.specs.Spots.{next_spot, spot_at, start}
use Rattle.parse_output.specs.Spots as byte_by_byte
use Rattle.parse_output.specs.Tokens.{AreOnward, Enter, Exit, IsOnward, IsWhole, Token, Void, place, point_at, tokens_events}
use Rattle.parse_output.specs.declared.spot.Place.{Place}
use Rattle.parse_output.specs.declared.spot.Spot.{Spot as ByteSpot}
use Rattle.parse_grammar.specs.MatchLaws.{TokensFit}

-- ---- columns

by_kind : (in_mark feed return : Bool) (a b c d : ByteSpot) (k : ℕ) → in_mark ≡ false → b.column ≡ 1 → c.column ≡ 1 → d.column ≡ k
    → (if in_mark then a else (if feed then b else (if return then c else d))).column ≡ (if not (feed || return) then k else 1)
by_kind true feed return a b c d k past at-b at-c at-d = absurd (let f : true ≡ false = past in cc)
by_kind false true return a b c d k past at-b at-c at-d = at-b
by_kind false false true a b c d k past at-b at-c at-d = at-c
by_kind false false false a b c d k past at-b at-c at-d = at-d

in_mark_by : (in_mark : Bool) (a b : ByteSpot) (k : ℕ) → in_mark ≡ true → a.column ≡ k → (if in_mark then a else b).column ≡ k
in_mark_by true a b k in_it at = at
in_mark_by false a b k in_it at = absurd (let f : false ≡ true = in_it in cc)

index_by : (t u v : Bool) (a b c d : ByteSpot) (i : ℕ) → a.index ≡ i → b.index ≡ i → c.index ≡ i → d.index ≡ i
    → (if t then a else (if u then b else (if v then c else d))).index ≡ i
index_by true u v a b c d i at-a at-b at-c at-d = at-a
index_by false true v a b c d i at-a at-b at-c at-d = at-b
index_by false false true a b c d i at-a at-b at-c at-d = at-c
index_by false false false a b c d i at-a at-b at-c at-d = at-d

module _ (mark : ℕ) where
  next_index : (s : ByteSpot) (b : ℕ) → (next_spot mark s b).index ≡ s.index + 1
  next_index s b =
      index_by (nat_lt s.index mark) (b == 10) (b == 13)
      (byte_by_byte.spot s.line s.column (s.index + 1) false) (byte_by_byte.spot (if s.returned then s.line else s.line + 1) 1 (s.index + 1) false)
      (byte_by_byte.spot (s.line + 1) 1 (s.index + 1) true) (byte_by_byte.spot s.line (column_after b s.column) (s.index + 1) false)
      (s.index + 1) refl refl refl refl

  column_in_mark : (s : ByteSpot) (b : ℕ) → s.index < mark → (next_spot mark s b).column ≡ s.column
  column_in_mark s b before =
      in_mark_by (nat_lt s.index mark) (byte_by_byte.spot s.line s.column (s.index + 1) false)
      (if b == 10 then byte_by_byte.spot (if s.returned then s.line else s.line + 1) 1 (s.index + 1) false
      else (if b == 13 then byte_by_byte.spot (s.line + 1) 1 (s.index + 1) true
      else byte_by_byte.spot s.line (column_after b s.column) (s.index + 1) false))
      s.column (lt-ltb s.index mark before) refl

  column_past_mark : (s : ByteSpot) (b : ℕ) → mark ≤ s.index → (next_spot mark s b).column ≡ column_on s.column b
  column_past_mark s b after =
      by_kind (nat_lt s.index mark) (b == 10) (b == 13)
      (byte_by_byte.spot s.line s.column (s.index + 1) false) (byte_by_byte.spot (if s.returned then s.line else s.line + 1) 1 (s.index + 1) false)
      (byte_by_byte.spot (s.line + 1) 1 (s.index + 1) true) (byte_by_byte.spot s.line (column_after b s.column) (s.index + 1) false)
      (column_after b s.column) (le-ltb s.index mark after) refl refl refl

  -- the column after bytes, of which those of the mark have none
  columns_past : (left : ℕ) (bs : List ℕ) (s : ByteSpot) → left ≡ mark - s.index → (fold (next_spot mark) s bs).column ≡ fold column_on s.column (drop left bs)
  columns_past left [] s is = ap (fold column_on s.column) (sym (drop-nil left))
  columns_past zero (b ∷ bs) s is =
      let next = next_spot mark s b in
      let at : next.index ≡ s.index + 1 = next_index s b in
      columns_past zero bs next (omega arith) ∙ ap (λ (c : ℕ). fold column_on c bs) (column_past_mark s b (omega arith))
  columns_past (suc left) (b ∷ bs) s is =
      let next = next_spot mark s b in
      let at : next.index ≡ s.index + 1 = next_index s b in
      columns_past left bs next (omega arith) ∙ ap (λ (c : ℕ). fold column_on c (drop left bs)) (column_in_mark s b (omega arith))

module _ (text : List ℕ) where
  spot_column : (i : ℕ) → (index_spot text i).column ≡ column_at text i
  spot_column i =
      columns_past (mark_size text) (mark_size text - 0) (take (i - 0) text) start refl
      ∙ ap₂ (λ (m n : ℕ). fold column_on 1 (drop m (take n text))) (omega arith) (omega arith)

  -- from a spot on
  spot_on : (i j : ℕ) → i ≤ j → j ≤ length text → spot_at text j (index_spot text i) ≡ index_spot text j
  spot_on i j before within =
      let f = next_spot (mark_size text) in
      let here : (index_spot text i).index ≡ i - 0 = spot_index text i (omega (arith, before, within)) ∙ omega arith in
      let all : (i - 0) + (j - (i - 0)) ≡ j - 0 = omega (arith, before) in
      ap (λ (k : ℕ). fold f (index_spot text i) (take (j - k) (drop k text))) here
      ∙ sym (fold-append f start (take (i - 0) text) (take (j - (i - 0)) (drop (i - 0) text)))
      ∙ ap (fold f start) (sym (take-add (i - 0) (j - (i - 0)) text) ∙ ap (λ (k : ℕ). take k text) all)

-- ---- spots

reached_by : (a b v w : ℕ) (t : Bool) → nat_lt a b ≡ t → a ≤ b → (b ≡ a → v ≤ w) → reaches (spot a v) (spot b w) ≡ true
reached_by a b v w true is onward columns = ap (λ (z : Bool). z || ((a == b) && nat_le v w)) is
reached_by a b v w false is onward columns =
    let at : b ≤ a = ltb-false a b is in
    let same : b ≡ a = omega (arith, at, onward) in
    ap (λ (z : Bool). z || ((a == b) && nat_le v w)) is
    ∙ and_from (a == b) (nat_le v w) (eq-eqb a b (sym same)) (le-leb v w (columns same))

-- a spot that isn't before another is reached from it
reached : (a b v w : ℕ) → a ≤ b → (b ≡ a → v ≤ w) → reaches (spot a v) (spot b w) ≡ true
reached a b v w onward columns = reached_by a b v w (nat_lt a b) refl onward columns

either : (x y : Bool) → y ≡ true → (x || y) ≡ true
either x y is = ap (λ (z : Bool). x || z) is ∙ or-true x

-- A place of the text, which is told byte by byte.
record IsTold (text : List ℕ) (p : Place) : Type 0 where
  pub spot : p.spot ≡ index_spot text p.spot.index
  pub within : p.spot.index ≤ length text
  pub whole : IsWhole text p

-- the edge of a spot
whole_edge : (index vs : ℕ) → vs ≡ 0 → edge (spot index vs) ≡ index
whole_edge index vs none = grind (arith, nat_tests, none)

edge_most : (index vs : ℕ) → edge (spot index vs) ≤ index + 1
edge_most index vs = grind (arith, nat_tests)

module _ (text : List ℕ) (utf8 : IsUtf8 text) where
  whole_column : (p : Place) → p.spot ≡ index_spot text p.spot.index → IsWhole text p → is_column text (spot p.spot.index p.vs) ≡ true
  whole_column p at (inl none) =
      ap (λ (z : Bool). z || (nat_lt p.spot.index (length text) && (slice_index text p.spot.index == 9) && nat_lt p.vs (tab_size (column_at text p.spot.index))))
      (eq-eqb p.vs 0 none)
  whole_column p at (inr tab) =
      let column : p.spot.column ≡ column_at text p.spot.index = ap (λ (s : ByteSpot). s.column) at ∙ spot_column text p.spot.index in
      either (p.vs == 0) (nat_lt p.spot.index (length text) && (slice_index text p.spot.index == 9) && nat_lt p.vs (tab_size (column_at text p.spot.index)))
      (and_from (nat_lt p.spot.index (length text) && (slice_index text p.spot.index == 9)) (nat_lt p.vs (tab_size (column_at text p.spot.index)))
      (and_from (nat_lt p.spot.index (length text)) (slice_index text p.spot.index == 9)
      (lt-ltb p.spot.index (length text) tab.within) (eq-eqb (slice_index text p.spot.index) 9 tab.tab))
      (lt-ltb p.vs (tab_size (column_at text p.spot.index)) (subst (λ (c : ℕ). p.vs < tab_size c) column tab.before)))

  -- it is a spot of the grammar, if it isn't inside a character
  told_spot : (p : Place) → IsTold text p → IsCharBoundary text p.spot.index → is_spot text (spot p.spot.index p.vs) ≡ true
  told_spot p told between =
      and_from (nat_le p.spot.index (length text) && is_utf8 (take p.spot.index text)) (is_column text (spot p.spot.index p.vs))
      (and_from (nat_le p.spot.index (length text)) (is_utf8 (take p.spot.index text)) (le-leb p.spot.index (length text) told.within)
      (is_utf8-from_IsUtf8 (take p.spot.index text) (IsUtf8-take text p.spot.index utf8 between)))
      (whole_column p told.spot told.whole)

  -- the place that a token ends at
  told_on : (p : Place) (index vs : ℕ) → IsTold text p → IsOnward text p index vs → IsWhole text (place (spot_at text index p.spot) vs)
      → ((spot_at text index p.spot).index ≡ index) × IsTold text (place (spot_at text index p.spot) vs)
  told_on p index vs told onward whole =
      let there : spot_at text index p.spot ≡ index_spot text index =
      ap (λ (s : ByteSpot). spot_at text index s) told.spot ∙ spot_on text p.spot.index index onward.forward onward.within in
      let at : (spot_at text index p.spot).index ≡ index = ap (λ (s : ByteSpot). s.index) there ∙ spot_index text index onward.within in
      (at, record { spot = there ∙ ap (index_spot text) (sym at); within = omega (arith, at, onward.within); whole = whole })

  -- what is known of the place that is reached: no event before it ends inside a character
  record IsReached (p : Place) : Type 0 where
    pub told : IsTold text p
    pub between : IsCharBoundary text (edge (spot p.spot.index p.vs))

  edge_within : (p : Place) → IsTold text p → edge (spot p.spot.index p.vs) ≤ length text
  edge_within p told = by told.whole
    where
      by : IsWhole text p → edge (spot p.spot.index p.vs) ≤ length text
      by (inl none) = let at = whole_edge p.spot.index p.vs none in omega (arith, at, told.within)
      by (inr tab) = let most = edge_most p.spot.index p.vs in omega (arith, tab.within, most)

  -- its index is between characters, too
  at_index : (p : Place) → IsReached p → IsCharBoundary text p.spot.index
  at_index p is = by is.told.whole
    where
      by : IsWhole text p → IsCharBoundary text p.spot.index
      by (inl none) = subst (IsCharBoundary text) (whole_edge p.spot.index p.vs none) is.between
      by (inr tab) = IsCharBoundary-before_ascii text p.spot.index tab.within (omega (arith, tab.tab))

  reached_spot : (p : Place) → IsReached p → is_spot text (spot p.spot.index p.vs) ≡ true
  reached_spot p is = told_spot p is.told (at_index p is)

  -- the bytes of an event that holds no other
  void_token : (name : Name) (p q : Place) (others : List Event)
      → is_fit text (event kind.Enter name (point_at p) None) (event kind.Exit name (point_at q) None ∷ others) ≡ true
      → is_token name (bytes_between text (spot p.spot.index p.vs) (spot q.spot.index q.vs)) ≡ true
  void_token name p q others fit =
      let from = spot p.spot.index p.vs in
      let to = spot q.spot.index q.vs in
      let same : same_name name name ≡ true = true_same the_type name name refl in
      let both = sym (ap (λ (b : Bool). if b then is_fit_at text name from to else true) same) ∙ fit in
      (and_parts (is_token name (bytes_between text from to)) (not (is_void name && same_spot from to)) both).0

  tokens_fit : (ts : List Token) (p : Place) (from : Spot) → IsReached p → AreOnward text p ts → are_fit text (tokens_events text p ts) ≡ true
      → reaches from (spot p.spot.index p.vs) ≡ true → PlacesFit text from (tokens_events text p ts)
  tokens_fit [] p from is onward fit before = tt
  tokens_fit (Enter name ∷ ts) p from is onward fit before =
      let e = event kind.Enter name (point_at p) None in
      let others = tokens_events text p ts in
      let there = and_parts (is_fit text e others) (are_fit text others) fit in (
        before,
        reached_spot p is,
        tokens_fit ts p (spot p.spot.index p.vs) is onward there.1 (reached p.spot.index p.spot.index p.vs p.vs (omega arith) (λ same. omega arith)),
      )
  tokens_fit (Exit name ∷ ts) p from is onward fit before =
      let e = event kind.Exit name (point_at p) None in
      let others = tokens_events text p ts in
      let there = and_parts (is_fit text e others) (are_fit text others) fit in (
        before,
        reached_spot p is,
        tokens_fit ts p (spot p.spot.index p.vs) is onward there.1 (reached p.spot.index p.spot.index p.vs p.vs (omega arith) (λ same. omega arith)),
      )
  tokens_fit (Void name index vs ∷ ts) p from is onward fit before =
      let q = place (spot_at text index p.spot) vs in
      let on = told_on p index vs is.told onward.0 onward.1 in
      let e = event kind.Enter name (point_at p) None in
      let x = event kind.Exit name (point_at q) None in
      let others = tokens_events text q ts in
      let here = and_parts (is_fit text e (x ∷ others)) (are_fit text (x ∷ others)) fit in
      let there = and_parts (is_fit text x others) (are_fit text others) here.1 in
      let a = edge (spot p.spot.index p.vs) in
      let b = edge (spot q.spot.index vs) in
      let further : a ≤ b =
      edges p.spot.index p.vs q.spot.index vs (omega (arith, on.0, onward.0.forward)) (λ same. onward.0.columns (sym on.0 ∙ same)) in
      let chars =
      tokens_are_characters name (between a b text) (text_bytes text utf8 a b) (void_token name p q others here.0) in
      let next : IsReached q = record { told = on.1; between = characters_end text utf8 a b further (edge_within q on.1) is.between chars } in (
        before,
        reached_spot p is,
        (
          reached p.spot.index q.spot.index p.vs vs (omega (arith, on.0, onward.0.forward)) (λ same. onward.0.columns (sym on.0 ∙ same)),
          reached_spot q next,
          tokens_fit ts q (spot q.spot.index vs) next onward.2 there.1 (reached q.spot.index q.spot.index vs vs (omega arith) (λ same. omega arith)),
        ),
      )

pub places_fit : TokensFit
places_fit text events is_text placed fit =
    let utf8 = IsUtf8-from_is_utf8 text is_text in
    subst (PlacesFit text (spot 0 0)) (sym placed.each)
    (tokens_fit text utf8 placed.tokens beginning (spot 0 0)
    (record { told = record { spot = refl; within = omega arith; whole = inl refl }; between = IsCharBoundary-start text utf8 })
    placed.onward (subst (λ es. are_fit text es ≡ true) placed.each fit) refl)
