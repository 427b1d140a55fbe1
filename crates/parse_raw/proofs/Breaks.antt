-- The parts of a thematic break, and its row of the grammar (CommonMark 4.1).
use Rattle.std.proofs.Common.{◌≡◌, ◌⊎◌, ◌<◌, ◌≤◌, ◌+◌, ◌^◌, ℕ, zero, suc, true, List, [], ◌∷◌, inl, inr, refl, sym, ap, subst, ◌∙◌, arith, drop, length, take}
use Rattle.parse_raw.proofs.Prelude.{and_parts, append, AreLeft, end_at, false≢true, is_token, is_white, list_all, Nil, Nodes, standing, Walk, writes_none}
use Rattle.parse_raw.proofs.Prelude.{WritesUpTo, written_to}
use Rattle.engine_events.specs.declared.event.Name.TheVariants as n
use Rattle.event_grammar.specs.declared.slot.Between.TheVariants.{Lines}
use Rattle.event_grammar.specs.declared.slot.Form.TheVariants.{Plain}
use Rattle.event_grammar.specs.Grammar.{row}
use Rattle.parse_slots.specs.Left.{Fill}
use Rattle.parse_slots.proofs.Steps.{fill_both}
use Rattle.parse_slots.proofs.Voids.{further_apart, void_again, void_between, void_taken}
use Rattle.parse_raw.specs.Tokens.{BeginsDark, break_rest, PassesBreakPart, WritesTokens}
use Rattle.std.proofs.Common.{get_or}
use Rattle.parse_raw.proofs.Prelude.{indent, Writes}
use Rattle.event_definition.specs.Pieces.{Pieces, grouped, join, token}
use Rattle.event_definition.specs.Pieces as pieces
use Rattle.event_definition.specs.ThematicBreak.{break_name}
use Rattle.parse_pieces.proofs.Sizes.{join_assoc}
use Rattle.parse_pieces.proofs.Written.{pieces_both, pieces_none}
use Rattle.parse_pieces.specs.Written.{WritesPieces}
use Rattle.parse_raw.proofs.BreakPieces.{BeginsOther, after_white, part_exact, white_front}
use Rattle.parse_raw.proofs.Nodes.{raw_none}
use Rattle.parse_raw.proofs.Tokens.{token_void, tokens_joined}

-- white space comes first
no_dark : (size : ℕ) (bytes : List ℕ) → 0 < size → list_all is_white (take size bytes) ≡ true → BeginsDark bytes → ⊥
no_dark zero bytes some all dark = absurd (omega (arith, some))
no_dark (suc k) [] some all dark = dark
no_dark (suc k) (b ∷ bs) some all dark = absurd (false≢true (sym dark ∙ (and_parts (is_white b) (list_all is_white (take k bs)) all).0))

pub dark_some : (bytes : List ℕ) → BeginsDark bytes → 0 < length bytes
dark_some [] dark = absurd dark
dark_some (b ∷ bs) dark = omega arith

module _ {A : Type 0} where
  -- ---- parts

  pub space_part : (bytes : List ℕ) (size : ℕ) (a b : Walk A) → 0 < size → size ≤ length bytes → list_all is_white (take size bytes) ≡ true
      → ((k : ℕ) → get_or bytes k 0 < 256) → size ≡ indent bytes → standing b ≡ standing a
      → ((written_to a).index + size < 2 ^ 64 → written_to b ≡ end_at ((written_to a).index + size) 0)
      → ((written_to a).index + size < 2 ^ 64 → WritesUpTo n.SpaceOrTab (end_at ((written_to a).index + size) 0) a b)
      → PassesBreakPart bytes (drop size bytes) a b
  space_part bytes size a b some le white are sized same ends writes text left =
      let w =
      token_void n.SpaceOrTab bytes size a b (record { no_data = refl; no_definition = refl; no_code = refl; no_math = refl; unasked = refl }) le white same ends writes text left in
      record {
        tokens = w.tokens;
        more =
            subst (λ (ns : Nodes). Fill Lines break_rest ns break_rest) (sym w.is)
            (void_between Lines break_rest n.SpaceOrTab text (written_to a) (end_at ((written_to a).index + size) 0) refl refl refl refl);
        first = λ dark. absurd (no_dark size bytes some white dark);
        part = token n.SpaceOrTab (take size bytes);
        parts =
            white_front bytes size white
            (subst (λ (k : ℕ). BeginsOther true (grouped break_name (drop k bytes))) (sym sized) (after_white bytes));
        exact =
            part_exact text n.SpaceOrTab bytes size a b are le left w.tokens.after w.tokens.same (subst (Writes text a.out b.out) w.is w.tokens.writes);
      }

  pub sequence_part : (bytes : List ℕ) (size : ℕ) (a b : Walk A) → (BeginsDark bytes → 0 < size) → size ≤ length bytes
      → ((k : ℕ) → get_or bytes k 0 < 256)
      → grouped break_name bytes ≡ join (token n.ThematicBreakSequence (take size bytes)) (grouped break_name (drop size bytes)) → is_token n.ThematicBreakSequence (take size bytes) ≡ true → standing b ≡ standing a
      → ((written_to a).index + size < 2 ^ 64 → written_to b ≡ end_at ((written_to a).index + size) 0)
      → ((written_to a).index + size < 2 ^ 64 → WritesUpTo n.ThematicBreakSequence (end_at ((written_to a).index + size) 0) a b)
      → PassesBreakPart bytes (drop size bytes) a b
  sequence_part bytes size a b some le are parts may same ends writes text left =
      let w =
      token_void n.ThematicBreakSequence bytes size a b (record { no_data = refl; no_definition = refl; no_code = refl; no_math = refl; unasked = refl }) le may same ends writes
      text left in
      let from = written_to a in
      let to = end_at ((written_to a).index + size) 0 in
      record {
        tokens = w.tokens;
        more =
            subst (λ (ns : Nodes). Fill Lines break_rest ns break_rest) (sym w.is)
            (void_again Lines break_rest n.ThematicBreakSequence Plain text from to refl refl refl);
        first = λ dark.
            let more = some dark in
            subst (λ (ns : Nodes). Fill Lines (row n.ThematicBreak Plain) ns break_rest) (sym w.is)
            (void_taken Lines (row n.ThematicBreak Plain) n.ThematicBreakSequence Plain break_rest text from to (further_apart from to (omega (arith, more)))
            refl refl refl);
        part = token n.ThematicBreakSequence (take size bytes);
        parts = parts;
        exact =
            part_exact text n.ThematicBreakSequence bytes size a b are le left w.tokens.after w.tokens.same (subst (Writes text a.out b.out) w.is w.tokens.writes);
      }

  -- ---- one part after another

  -- nothing yet, or the first parts
  pub record WritesParts (text before after : List ℕ) (old new : Walk A) : Type 0 where
    pub tokens : WritesTokens text after old new
    pub fill : ((after ≡ before) × (tokens.nodes ≡ Nil)) ⊎ (BeginsDark before → Fill Lines (row n.ThematicBreak Plain) tokens.nodes break_rest)
    pub front : Pieces
    pub parts : grouped break_name before ≡ join front (grouped break_name after)
    pub exact : WritesPieces text front old.out new.out

  abbrev pub PassesParts : List ℕ → List ℕ → Walk A → Walk A → Type 0
  PassesParts before after old new = (text : List ℕ) → AreLeft text before old → WritesParts text before after old new

  pub parts_none : (bytes : List ℕ) (w : Walk A) → PassesParts bytes bytes w w
  parts_none bytes w text left = record {
    tokens = record { nodes = Nil; writes = writes_none text w.out left.order; raw = raw_none; same = refl; after = left };
    fill = inl (refl, refl);
    front = pieces.Nil;
    parts = refl;
    exact = pieces_none text w.out left.order;
  }

  pub parts_more : (xs ys zs : List ℕ) (a b c : Walk A) → PassesParts xs ys a b → PassesBreakPart ys zs b c → PassesParts xs zs a c
  parts_more xs ys zs a b c sofar part text left =
      let one = sofar text left in
      let two = part text one.tokens.after in
      record {
        tokens = tokens_joined text ys zs a b c one.tokens two.tokens;
        fill = inr (λ dark. elim (one.fill) [
          | inl none ↦
              subst (λ (ns : Nodes). Fill Lines (row n.ThematicBreak Plain) (append ns two.tokens.nodes) break_rest) (sym none.1)
              (two.first (subst BeginsDark (sym none.0) dark))
          | inr fill ↦ fill_both (fill dark) two.more
        ]);
        front = join one.front two.part;
        parts =
            one.parts ∙ ap (join one.front) two.parts ∙ sym (join_assoc one.front two.part (grouped break_name zs));
        exact = pieces_both text one.front two.part a.out b.out c.out one.exact two.exact;
      }

  -- all parts
  pub parts_filled : (text before after : List ℕ) (old new : Walk A) (parts : WritesParts text before after old new) → BeginsDark before → length after ≡ 0
      → Fill Lines (row n.ThematicBreak Plain) parts.tokens.nodes break_rest
  parts_filled text before after old new parts dark none =
      elim (parts.fill) [
        | inl same ↦ absurd (omega (arith, none, ap length same.0, dark_some before dark))
        | inr fill ↦ fill dark
      ]
