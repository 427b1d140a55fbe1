-- What is written of the bytes of a line, step by step.
use Rattle.std.proofs.Common.{◌≡◌, ℕ, ◌+◌, ◌-◌, ◌^◌, ◌<◌, ◌≤◌, true, List, [], ◌∷◌, eqb, inl, refl, sym, ap, subst, ◌∙◌, drop, take, length, length-drop}
use Rattle.std.proofs.Common.{get_or, arith}
use Rattle.parse_raw.proofs.Prelude.{append, AreLeft, cond-true, End, end_at, Follows, IsInOrder, Name, run, Standing, standing, void_nodes, Walk}
use Rattle.parse_raw.proofs.Prelude.{writes_both, WritesUpTo, written_to}
use Rattle.parse_raw.proofs.Prelude.{AreNext, end_after, is_token, length-take-le, next_after, take-append-drop, text_between}
use Rattle.std.proofs.lemmas.Bool.{eq-eqb}
use Rattle.std.proofs.lemmas.List.{drop_all}
use Rattle.std.proofs.Math.Seq.{take-length}
use Rattle.parse_lines.proofs.Bytes.{whole_between}
use Rattle.parse_raw.proofs.LineTokens.{after_first}
use Rattle.parse_raw.specs.Tokens.{WritesTokens}
use Rattle.parse_raw.proofs.Nodes.{IsRawName, raw_append, raw_void}

-- an index further on
pub index_follows : (text : List ℕ) (i j : ℕ) → i ≤ j → j ≤ length text → Follows text (end_at i 0) (end_at j 0)
index_follows text i j forward within = record { forward = forward; within = within; columns = λ same. omega arith; whole = inl refl }

module _ {A : Type 0} where
  -- some, and then others
  abbrev pub tokens_joined : (text ys zs : List ℕ) (a b c : Walk A) → WritesTokens text ys a b → WritesTokens text zs b c → WritesTokens text zs a c
  tokens_joined text ys zs a b c one two = record {
    nodes = append one.nodes two.nodes;
    writes = writes_both text a.out b.out c.out one.nodes two.nodes one.writes two.writes;
    raw = raw_append one.nodes two.nodes one.raw two.raw;
    same = two.same ∙ one.same;
    after = two.after;
  }

  -- an event that holds no other
  pub record WritesVoid (text : List ℕ) (name : Name) (after : List ℕ) (size : ℕ) (a b : Walk A) : Type 0 where
    pub tokens : WritesTokens text after a b
    pub is : tokens.nodes ≡ void_nodes text name (written_to a) (end_at ((written_to a).index + size) 0)

  pub token_void : (name : Name) (bytes : List ℕ) (size : ℕ) (a b : Walk A) → IsRawName name → size ≤ length bytes → is_token name (take size bytes) ≡ true
      → standing b ≡ standing a
      → ((written_to a).index + size < 2 ^ 64 → written_to b ≡ end_at ((written_to a).index + size) 0)
      → ((written_to a).index + size < 2 ^ 64 → WritesUpTo name (end_at ((written_to a).index + size) 0) a b)
      → (text : List ℕ) → AreLeft text bytes a → WritesVoid text name (drop size bytes) size a b
  token_void name bytes size a b raw le may same ends writes text left =
      let index = ap (λ (e : End). e.index) left.at in
      let line_end = ap (λ (s : Standing). s.line_end) same in
      let fits : (written_to a).index + size < 2 ^ 64 = omega (arith, index, left.within, left.end, left.fits, le) in
      let to = end_at ((written_to a).index + size) 0 in
      let reach : (written_to a).index + size ≤ length text = omega (arith, index, left.within, left.end, le) in
      let follows : Follows text (written_to a) to =
      subst (λ (e : End). Follows text e to) (sym left.at) (
      index_follows text (a.line_end - length bytes) ((written_to a).index + size) (omega (arith, index)) reach
      ) in
      let behind = length-drop size bytes in
      let there : (written_to a).index + size ≡ b.line_end - length (drop size bytes) = omega (arith, index, left.within, le, line_end, behind) in
      let front = take size bytes in
      let whole : (written_to a).owed ≡ 0 = ap (λ (e : End). e.owed) left.at in
      let next = subst (λ (bs : List ℕ). AreNext text (written_to a) bs) (sym (take-append-drop size bytes)) left.next in
      let count : length front ≡ size = length-take-le size bytes le in
      let reached : end_after (written_to a) (length front) ≡ to =
      after_first (written_to a) (length front) whole ∙ ap (λ (k : ℕ). end_at ((written_to a).index + k) 0) count in
      let between : text_between text (written_to a) to ≡ front =
      ap (text_between text (written_to a)) (sym reached) ∙ whole_between text (written_to a) front (drop size bytes) whole next in
      let done = writes fits text left.order (record { follows = follows; bytes = λ apart. ap (is_token name) between ∙ may }) in
      record {
        tokens = record {
          nodes = void_nodes text name (written_to a) to;
          writes = done;
          raw = raw_void text name (written_to a) to raw;
          same = same;
          after = record {
            order = done.order;
            at = ends fits ∙ ap (λ (k : ℕ). end_at k 0) there;
            next =
                subst (λ (e : End). AreNext text e (drop size bytes)) (reached ∙ sym (ends fits)) (next_after text front (drop size bytes) (written_to a) next);
            within = omega (arith, left.within, line_end, behind);
            end = omega (arith, left.end, line_end);
            fits = left.fits;
          };
        };
        is = refl;
      }

  -- all that is left
  pub all_void : (name : Name) (bytes : List ℕ) (a b : Walk A) → IsRawName name → is_token name bytes ≡ true → standing b ≡ standing a
      → written_to b ≡ end_at a.line_end 0 → WritesUpTo name (end_at a.line_end 0) a b
      → (text : List ℕ) → AreLeft text bytes a → WritesVoid text name [] (length bytes) a b
  all_void name bytes a b raw may same ends writes text left =
      let size = length bytes in
      let none : drop size bytes ≡ [] = drop_all size bytes (omega arith) in
      let all : take size bytes ≡ bytes = take-length bytes in
      let there : a.line_end ≡ (written_to a).index + size = omega (arith, ap (λ (e : End). e.index) left.at, left.within) in
      let ends_there : written_to b ≡ end_at ((written_to a).index + size) 0 = ends ∙ ap (λ (k : ℕ). end_at k 0) there in
      let writes_there = subst (λ (k : ℕ). WritesUpTo name (end_at k 0) a b) there writes in
      subst (λ (bs : List ℕ). WritesVoid text name bs size a b) none (
      token_void name bytes size a b raw (omega arith) (ap (is_token name) all ∙ may) same (λ fits. ends_there) (λ fits. writes_there) text left
      )

-- bytes begin with one or more of their first
pub run_some : (bytes : List ℕ) (first : ℕ) → 0 < length bytes → first ≡ get_or bytes 0 0 → 0 < run first bytes
run_some [] first some is = absurd (omega arith)
run_some (b ∷ bs) first some is =
    let one : run first (b ∷ bs) ≡ 1 + run first bs = cond-true (eqb b first) _ _ (eq-eqb b first (sym is)) in
    omega (arith, one)

module _ {A : Type 0} (text : List ℕ) where
  -- an event is entered or exited
  pub left_same : (bytes : List ℕ) (a b : Walk A) → AreLeft text bytes a → IsInOrder text b.out → standing b ≡ standing a → written_to b ≡ written_to a
      → AreLeft text bytes b
  left_same bytes a b left order same at =
      let line_end = ap (λ (s : Standing). s.line_end) same in
      record {
        order = order;
        at = at ∙ left.at ∙ ap (λ (k : ℕ). end_at (k - length bytes) 0) (sym line_end);
        next = subst (λ (e : End). AreNext text e bytes) (sym at) left.next;
        within = omega (arith, left.within, line_end);
        end = omega (arith, left.end, line_end);
        fits = left.fits;
      }

  -- nothing is left
  pub left_none : (bytes : List ℕ) (w : Walk A) → length bytes ≡ 0 → AreLeft text bytes w → written_to w ≡ end_at w.line_end 0
  left_none bytes w none left =
      let all : w.line_end - length bytes ≡ w.line_end = omega (arith, none) in
      left.at ∙ ap (λ (k : ℕ). end_at k 0) all
