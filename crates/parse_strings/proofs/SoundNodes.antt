-- Quiet nodes are sound, and endings with them.
use Rattle.std.proofs.Common.{◌≡◌, ℕ, List, [], refl, sym, ap, subst, ◌∙◌}
use Rattle.markdown_options.specs.declared.configuration.Constructs.{Constructs}
use Rattle.engine_events.specs.Names.{is_listed}
use Rattle.engine_events.specs.declared.event.Name.{Name}
use Rattle.engine_events.specs.declared.event.Name.TheVariants as n
use Rattle.event_grammar.specs.declared.slot.Between.TheVariants.{Lines}
use Rattle.parse_lines.proofs.Quiet.{quiet_fill}
use Rattle.parse_references.specs.Sound.{AreSound, IsSound, asked_names}
use Rattle.parse_references.proofs.Sound.{sound_around, sound_fill}
use Rattle.parse_strings.proofs.Prelude.{AreQuiet, Cons, kids_of, Names, Nil, Node, node_name, Nodes}
use Rattle.std.proofs.Common.{false}

module _ (on : Constructs) (names : Names) (text : List ℕ) where
  pub quiet_sound : (ns : Nodes) → AreQuiet ns → AreSound on names text ns
  quiet_sound ns are = sound_fill on names text 2 Lines [] [] ns refl (quiet_fill [] ns refl refl are) refl

  -- what holds no other
  pub empty_sound : (node : Node) (name : Name) → node_name node ≡ name → kids_of node ≡ Nil → is_listed asked_names name ≡ false → IsSound on names text node
  empty_sound node name is empty other =
      sound_around on names text node (ap (is_listed asked_names) is ∙ other) (subst (AreSound on names text) (sym empty) tt)

  -- the ending of a line, and quiet nodes on the next one
  pub ending_sound : (node : Node) (quiet : Nodes) → node_name node ≡ n.LineEnding → kids_of node ≡ Nil → AreQuiet quiet
      → AreSound on names text (Cons node quiet)
  ending_sound node quiet is empty are = (empty_sound node n.LineEnding is empty refl, quiet_sound quiet are)
