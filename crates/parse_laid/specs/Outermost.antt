-- Prefixes are read from the outermost container to the innermost (CommonMark 5.1 and 5.2).
use Rattle.std.specs.Prelude.{◌≡◌, List, reverse}
use Rattle.std.specs.List.{fold}
use Rattle.markdown_options.specs.declared.configuration.Constructs.{Constructs}
use Rattle.definition_block.specs.Container.{Container}
use Rattle.parse_laid.specs.Places.{LineRest, InAll, into, prefixed}

-- Where containers are given from the outermost to the innermost, their prefixes are read one after another.
pub record PrefixesAreInOrder : Type 0 where
  pub outermost : (on : Constructs) (containers : List Container) (line : LineRest)
      → prefixed on (reverse containers) line ≡ fold (λ here c. into on c here) (InAll line) containers
