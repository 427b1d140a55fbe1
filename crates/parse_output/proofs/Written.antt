-- What is written, step by step.
use Rattle.std.proofs.Common.{ℕ, List, sym, ap, ◌∙◌}
use Rattle.parse_output.proofs.Prelude.{append, Around, cut, end_in, enter_at, exit_at, exited, forest_in, growth, IsInOrder, Name, Nil, Nodes, Output}
use Rattle.parse_output.proofs.Prelude.{with_nodes, Writes}
use Rattle.parse_output.specs.Written.{Enters, Exits}
use Rattle.parse_output.proofs.Forests.{append-assoc, append-nil}

module _ {A : Type 0} (text : List ℕ) where
  -- nothing
  pub writes_none : (o : Output A) → IsInOrder text o → Writes text o o Nil
  writes_none o order = record { order = order; forest = ap (λ ns. growth ns (forest_in text o).outer) (sym (append-nil (forest_in text o).kids)) }

  -- some nodes, and then others
  pub writes_both : (a b c : Output A) (ns ms : Nodes) → Writes text a b ns → Writes text b c ms → Writes text a c (append ns ms)
  writes_both a b c ns ms first second = record {
    order = second.order;
    forest =
        second.forest ∙ ap (λ g. with_nodes g ms) first.forest
        ∙ ap (λ kids. growth kids (forest_in text a).outer) (append-assoc (forest_in text a).kids ns ms);
  }

  -- nodes in an event that is entered before them and exited after them
  pub writes_around : (a b c d : Output A) (name : Name) (ns : Nodes) → Enters text name a b → Writes text b c ns → Exits text name c d
      → Writes text a d (cut (Around (enter_at text name (end_in a)) ns (exit_at text name (end_in c))))
  writes_around a b c d name ns enters writes exits = record {
    order = exits.order;
    forest =
        exits.forest
        ∙ ap (λ g. exited g (exit_at text name (end_in c))) (writes.forest ∙ ap (λ g. with_nodes g ns) enters.forest);
  }
