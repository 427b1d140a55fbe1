-- Tokens of a line that fill slots of a row, step by step.
use Rattle.std.proofs.Common.{◌≡◌, ℕ, ◌+◌, ◌^◌, ◌<◌, ◌≤◌, Bool, true, false, ◌&&◌, List, [], ◌∷◌, ◌++◌, None, Some, refl, sym, ap, subst, ◌∙◌, drop, take, length, arith}
use Rattle.parse_raw.proofs.Prelude.{AreLeft, Around, cond-false, cut, end_at, end_in, enter_at, Enters, exit_at, Exits, is_listed, is_nil, is_token}
use Rattle.parse_raw.proofs.Prelude.{IsInOrder, IsRawName, Name, named, Node, Nodes, one, same_name, standing, Walk, Writes, writes_around, WritesUpTo}
use Rattle.parse_raw.proofs.Prelude.{written_to}
use Rattle.engine_events.specs.declared.event.Name.TheVariants as n
use Rattle.event_grammar.specs.declared.slot.Between.TheVariants.{Lines, Spaces}
use Rattle.event_grammar.specs.declared.slot.Form.TheVariants.{Plain}
use Rattle.event_grammar.specs.declared.slot.Slot.{Slot}
use Rattle.event_grammar.specs.Grammar.{one_line_names, row}
use Rattle.event_grammar.specs.Slots.{may_end, take_child}
use Rattle.event_grammar.specs.Void.{is_empty}
use Rattle.parse_slots.specs.Left.{Fill, took}
use Rattle.parse_slots.proofs.Steps.{fill_both, filled_in_line}
use Rattle.parse_slots.proofs.Voids.{further_apart, void_between, void_taken}
use Rattle.parse_raw.specs.Tokens.{PassesEvent, WritesTokens}
use Rattle.parse_raw.proofs.Tokens.{all_void, left_same, token_void, tokens_joined}

module _ {A : Type 0} where
  -- nodes are written that lead a row from slots to others, and these bytes are left of the line then
  pub record WritesFilled (slots more : List Slot) (text left : List ℕ) (old new : Walk A) : Type 0 where
    pub tokens : WritesTokens text left old new
    pub fill : Fill Spaces slots tokens.nodes more

  abbrev pub LeadsFilled : List Slot → List Slot → List ℕ → List ℕ → Walk A → Walk A → Type 0
  LeadsFilled slots more before after old new = (text : List ℕ) → AreLeft text before old → WritesFilled slots more text after old new

  -- some, and then others
  pub filled_both : (slots mid more : List Slot) (xs ys zs : List ℕ) (a b c : Walk A) → LeadsFilled slots mid xs ys a b → LeadsFilled mid more ys zs b c
      → LeadsFilled slots more xs zs a c
  filled_both slots mid more xs ys zs a b c first second text left =
      let one = first text left in
      let two = second text one.tokens.after in
      record { tokens = tokens_joined text ys zs a b c one.tokens two.tokens; fill = fill_both one.fill two.fill }

  -- an event that holds no other, which the row takes
  pub token_filled : (name : Name) (slots more : List Slot) (bytes : List ℕ) (size : ℕ) (a b : Walk A) → IsRawName name → 0 < size → size ≤ length bytes
      → is_token name (take size bytes) ≡ true → standing b ≡ standing a
      → ((written_to a).index + size < 2 ^ 64 → written_to b ≡ end_at ((written_to a).index + size) 0)
      → ((written_to a).index + size < 2 ^ 64 → WritesUpTo name (end_at ((written_to a).index + size) 0) a b)
      → take_child slots name ≡ Some (took Plain more) → may_end (row name Plain) ≡ true → LeadsFilled slots more bytes (drop size bytes) a b
  token_filled name slots more bytes size a b raw some le may same ends writes takes void text left =
      let w = token_void name bytes size a b raw le may same ends writes text left in
      let from = written_to a in
      let to = end_at (from.index + size) 0 in
      record {
        tokens = w.tokens;
        fill =
            subst (λ (ns : Nodes). Fill Spaces slots ns more) (sym w.is)
            (void_taken Spaces slots name Plain more text from to (further_apart from to (omega (arith, some))) raw.no_data takes void);
      }

  -- white space up to the end of the line
  pub white_filled : (slots : List Slot) (bytes : List ℕ) (a b : Walk A) → is_token n.SpaceOrTab bytes ≡ true → standing b ≡ standing a
      → written_to b ≡ end_at a.line_end 0 → WritesUpTo n.SpaceOrTab (end_at a.line_end 0) a b → take_child slots n.SpaceOrTab ≡ None
      → LeadsFilled slots slots bytes [] a b
  white_filled slots bytes a b may same ends writes takes text left =
      let w =
      all_void n.SpaceOrTab bytes a b (record { no_data = refl; no_definition = refl; no_code = refl; no_math = refl; unasked = refl }) may same ends writes text left in
      record {
        tokens = w.tokens;
        fill =
            subst (λ (ns : Nodes). Fill Spaces slots ns slots) (sym w.is)
            (void_between Spaces slots n.SpaceOrTab text (written_to a) (end_at ((written_to a).index + length bytes) 0) refl takes refl refl);
      }

  -- an event around others
  pub event_filled : (name : Name) (more : List Slot) (xs ys : List ℕ) (a b c d : Walk A) → IsRawName name → is_empty (row name Plain) ≡ false
      → is_listed one_line_names name ≡ true
      → ((text : List ℕ) → IsInOrder text a.out → Enters text name a.out b.out) → standing b ≡ standing a → written_to b ≡ written_to a
      → LeadsFilled (row name Plain) more xs ys b c → may_end more ≡ true
      → ((text : List ℕ) → IsInOrder text c.out → Exits text name c.out d.out) → standing d ≡ standing c → written_to d ≡ written_to c
      → PassesEvent name xs ys a d
  event_filled name more xs ys a b c d raw some listed enters same_b end_b kids may exits same_d end_d text left =
      let entered = enters text left.order in
      let within = kids text (left_same text xs a b left entered.order same_b end_b) in
      let inner = within.tokens in
      let exited = exits text inner.writes.order in
      let node = Around (enter_at text name (end_in a.out)) inner.nodes (exit_at text name (end_in c.out)) in
      let whole : cut node ≡ one node =
      cond-false (same_name name n.Data && is_nil inner.nodes) _ _ (ap (λ (t : Bool). t && is_nil inner.nodes) raw.no_data) in
      record {
        tokens = record {
          nodes = one node;
          writes = subst (Writes text a.out d.out) whole (writes_around text a.out b.out c.out d.out name inner.nodes entered inner.writes exited);
          raw = record {
            definitions =
                ap (λ (ns : List Node). ns ++ [])
                (cond-false (same_name name n.Definition) (node ∷ named n.Definition inner.nodes) (named n.Definition inner.nodes) raw.no_definition
                ∙ inner.raw.definitions);
            code = cond-false (same_name name n.CodeFencedFence) _ _ raw.no_code;
            math = cond-false (same_name name n.MathFlowFence) _ _ raw.no_math;
          };
          same = same_d ∙ inner.same ∙ same_b;
          after = left_same text ys c d inner.after exited.order same_d end_d;
        };
        node = node;
        nodes_are = refl;
        named = refl;
        filled = filled_in_line Lines Plain name more node refl some listed within.fill may;
      }
