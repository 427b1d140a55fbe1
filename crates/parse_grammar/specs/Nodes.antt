-- Nodes whose constructs are on, at any depth.
use Rattle.std.specs.Prelude.{◌≡◌, true}
use Rattle.markdown_options.specs.declared.configuration.Constructs.{Constructs}
use Rattle.event_grammar.specs.Trees.{Node, Nodes, Around, Nil, Cons}
use Rattle.parse_grammar.specs.Constructs.{is_on}

abbrev mutual
  pub IsOn : Constructs → Node → Type 0
  IsOn on (Around enter kids exit) = (is_on on enter.name ≡ true) × AreOn on kids

  pub AreOn : Constructs → Nodes → Type 0
  AreOn on Nil = Unit {0}
  AreOn on (Cons node ns) = IsOn on node × AreOn on ns
