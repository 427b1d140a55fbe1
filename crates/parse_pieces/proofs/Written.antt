-- What is written by pieces, one after another and in one another.
use Rattle.std.proofs.Common.{◌≡◌, ℕ, ◌+◌, ◌-◌, Bool, true, false, ◌&&◌, List, [], ◌∷◌, inl, inr, refl, sym, ap, ap₂, ◌∙◌, subst, arith}
use Rattle.std.specs.Prelude.{◌==◌, if◌then◌else◌}
use Rattle.std.proofs.lemmas.Bool.{cases_Bool, cond-false, cond-true, eq-eqb, eqb-true}
use Rattle.engine_events.specs.Names.{same_name}
use Rattle.engine_events.specs.declared.event.Name.{Name}
use Rattle.engine_events.specs.declared.event.Name.TheVariants as n
use Rattle.definition_text.specs.Columns.{Code}
use Rattle.event_definition.specs.Pieces.{Pieces, Nil, around, join, token}
use Rattle.event_grammar.specs.Trees.{Nodes}
use Rattle.event_grammar.specs.Trees as tree
use Rattle.parse_output.specs.declared.end.End.{End}
use Rattle.parse_output.specs.declared.output.Output.{Output}
use Rattle.parse_output.specs.Ends.{end_at, enter_at, exit_at, same_end}
use Rattle.parse_output.specs.Forest.{append, bytes_from, cut, is_nil, one, void_nodes}
use Rattle.parse_output.specs.Written.{Enters, Exits, IsInOrder, Writes, end_in}
use Rattle.parse_output.proofs.Forests.{append-nil}
use Rattle.parse_output.proofs.Written.{writes_around, writes_both, writes_none}
use Rattle.parse_pieces.specs.Nodes.{nodes}
use Rattle.parse_pieces.specs.Sizes.{codes_size, columns, columns_of, end_of, pieces_size}
use Rattle.parse_pieces.specs.Written.{WritesPieces, passed}
use Rattle.parse_pieces.proofs.Nodes.{nodes_join}
use Rattle.parse_pieces.proofs.Sizes.{columns_join, size_join}

-- an end, by the bytes before it and the columns after it
pub end_again : (e : End) → end_of (passed e) e.owed ≡ e
end_again e =
    elim (cases_Bool (e.owed == 0)) [
      | inl h ↦
          let none : e.owed ≡ 0 = eqb-true e.owed 0 h in
          let index : passed e ≡ e.index = ap (λ (t : Bool). e.index + (if t then 0 else 1)) h ∙ (let k : e.index + 0 ≡ e.index = omega arith in k) in
          cond-true (e.owed == 0) _ _ h ∙ ap₂ end_at index (sym none)
      | inr h ↦
          let index : passed e - 1 ≡ e.index =
          ap (λ (t : Bool). (e.index + (if t then 0 else 1)) - 1) h ∙ (let k : (e.index + 1) - 1 ≡ e.index = omega arith in k) in
          cond-false (e.owed == 0) _ _ h ∙ ap (λ (k : ℕ). end_at k e.owed) index
    ]

-- the same, where both are known
pub end_from : (e : End) (before columns : ℕ) → passed e ≡ before → e.owed ≡ columns → end_of before columns ≡ e
end_from e before columns size owed = ap₂ end_of (sym size) (sym owed) ∙ end_again e

-- a node that isn't data stays as it is
pub cut_other : (text : List ℕ) (name : Name) (from to : End) (ns : Nodes) → same_name name n.Data ≡ false
    → cut (tree.Around (enter_at text name from) ns (exit_at text name to)) ≡ one (tree.Around (enter_at text name from) ns (exit_at text name to))
cut_other text name from to ns other =
    let enter = enter_at text name from in
    let exit = exit_at text name to in
    ap (λ (same : Bool). if same && is_nil ns then bytes_from enter exit else one (tree.Around enter ns exit)) other

-- no node goes from an end to itself
void_self : (text : List ℕ) (name : Name) (from to : End) → from ≡ to → void_nodes text name from to ≡ tree.Nil
void_self text name from to same =
    let index : (to.index == from.index) ≡ true = eq-eqb to.index from.index (ap (λ (e : End). e.index) (sym same)) in
    let owed : (to.owed == from.owed) ≡ true = eq-eqb to.owed from.owed (ap (λ (e : End). e.owed) (sym same)) in
    cond-true (same_end to from) _ _ (ap₂ (λ (a b : Bool). a && b) index owed)

module _ {A : Type 0} (text : List ℕ) where
  -- nothing
  pub pieces_none : (a : Output A) → IsInOrder text a → WritesPieces text Nil a a
  pieces_none a order = record { begins = refl; writes = writes_none text a order; ends = let same : passed (end_in a) ≡ passed (end_in a) + 0 = omega arith in same }

  -- some pieces, and then others
  pub pieces_both : (ps qs : Pieces) (a b c : Output A) → WritesPieces text ps a b → WritesPieces text qs b c → WritesPieces text (join ps qs) a c
  pieces_both ps qs a b c first second =
      let after = (end_in c).owed in
      let before = passed (end_in a) in
      let same : append (nodes text before ps (end_in b).owed) (nodes text (passed (end_in b)) qs after) ≡ nodes text before (join ps qs) after =
      ap₂ (λ (k m : ℕ). append (nodes text before ps k) (nodes text m qs after)) second.begins first.ends ∙ sym (nodes_join text before ps qs after) in
      record {
        begins = first.begins ∙ ap (columns ps) second.begins ∙ sym (columns_join ps qs after);
        writes =
            subst (Writes text a c) same
            (writes_both text a b c (nodes text before ps (end_in b).owed) (nodes text (passed (end_in b)) qs after) first.writes second.writes);
        ends = omega (arith, first.ends, second.ends, size_join ps qs);
      }

  -- pieces in a name that is entered before them and exited after them
  pub pieces_around : (name : Name) (kids : Pieces) (a b c d : Output A) → same_name name n.Data ≡ false → Enters text name a b → end_in b ≡ end_in a
      → WritesPieces text kids b c → Exits text name c d → end_in d ≡ end_in c → WritesPieces text (around name kids) a d
  pieces_around name kids a b c d other enters end_b writes exits end_d =
      let before = passed (end_in a) in
      let after = (end_in d).owed in
      let inner = nodes text (passed (end_in b)) kids (end_in c).owed in
      let same : inner ≡ nodes text before kids after =
      ap₂ (λ (e f : End). nodes text (passed e) kids f.owed) end_b (sym end_d) in
      let begins : (end_in a).owed ≡ columns kids after =
      ap (λ (e : End). e.owed) (sym end_b) ∙ writes.begins ∙ ap (λ (e : End). columns kids e.owed) (sym end_d) in
      let ends : passed (end_in d) ≡ before + pieces_size kids =
      ap passed end_d ∙ writes.ends ∙ ap (λ (e : End). passed e + pieces_size kids) end_b in
      let first : end_in a ≡ end_of before (columns kids after) = sym (end_from (end_in a) before (columns kids after) refl begins) in
      let last : end_in c ≡ end_of (before + pieces_size kids) after = sym end_d ∙ sym (end_from (end_in d) (before + pieces_size kids) after ends refl) in
      let whole : Writes text a d (one (tree.Around (enter_at text name (end_in a)) inner (exit_at text name (end_in c)))) =
      subst (Writes text a d) (cut_other text name (end_in a) (end_in c) inner other) (writes_around text a b c d name inner enters writes.writes exits) in
      record {
        begins = begins;
        writes =
            subst (λ (ns : Nodes). Writes text a d (one (tree.Around (enter_at text name (end_of before (columns kids after))) ns (exit_at text name (end_of (before + pieces_size kids) after)))))
            same
            (subst (λ (e : End). Writes text a d (one (tree.Around (enter_at text name (end_of before (columns kids after))) inner (exit_at text name e)))) last
            (subst (λ (e : End). Writes text a d (one (tree.Around (enter_at text name e) inner (exit_at text name (end_in c))))) first whole));
        ends = omega (arith, ends);
      }

  -- what holds no other, with these codes; nothing without codes
  pub pieces_token : (name : Name) (cs : List Code) (a b : Output A) → (end_in a).owed ≡ columns_of cs (end_in b).owed
      → passed (end_in b) ≡ passed (end_in a) + codes_size cs → Writes text a b (void_nodes text name (end_in a) (end_in b)) → WritesPieces text (token name cs) a b
  pieces_token name [] a b begins ends writes =
      let size : passed (end_in a) ≡ passed (end_in b) = omega (arith, ends) in
      let same : end_in a ≡ end_in b = sym (end_from (end_in a) (passed (end_in b)) (end_in b).owed size begins) ∙ end_again (end_in b) in
      record {
        begins = begins;
        writes = subst (Writes text a b) (void_self text name (end_in a) (end_in b) same) writes;
        ends = ends;
      }
  pieces_token name (c ∷ cs) a b begins ends writes =
      let before = passed (end_in a) in
      let after = (end_in b).owed in
      let first : end_in a ≡ end_of before (columns_of (c ∷ cs) after) = sym (end_from (end_in a) before (columns_of (c ∷ cs) after) refl begins) in
      let last : end_in b ≡ end_of (before + codes_size (c ∷ cs)) after = sym (end_from (end_in b) (before + codes_size (c ∷ cs)) after ends refl) in
      let same : void_nodes text name (end_in a) (end_in b) ≡ nodes text before (token name (c ∷ cs)) after =
      ap₂ (void_nodes text name) first last
      ∙ sym (append-nil (void_nodes text name (end_of before (columns_of (c ∷ cs) after)) (end_of (before + codes_size (c ∷ cs)) after))) in
      record { begins = begins; writes = subst (Writes text a b) same writes; ends = omega (arith, ends) }
