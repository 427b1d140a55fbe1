use Rattle.std.proofs.Common.{◌≡◌, ℕ, List}
use Rattle.event_definition.specs.Pieces.{Pieces}
use Rattle.parse_pieces.specs.Written.{WritesPieces}
use Rattle.parse_lines.proofs.PrefixPieces.{IsSplit}
use Rattle.parse_lines.proofs.Prelude.{container_views, rest_of, standing, with_rest}
use Rattle.parse_lines.specs.Open.{still_open}
use Rattle.parse_lines.specs.Ends.{IsAfter, WritesPrefixes}
use Rattle.parse_lines.proofs.Prefixes.{IsRead}
use Rattle.parse_lines.proofs.walk.Walk.prefixes.Given as goal

abbrev pub invariant-loop-depth : goal.invariant-loop-depth
invariant-loop-depth g l =
    record {
      marks : still_open l.self ≡ still_open l.fn.self;
      stays : standing l.self ≡ with_rest (standing l.fn.self) (rest_of l.self.rest);
      writes : WritesPrefixes l.fn.self l.self;
      exact : (text before content after : List ℕ) (n : ℕ) → IsAfter text before content after n l.fn.self
          → (front : Pieces) × IsSplit l.fn.self.on.now (container_views l.fn.self.open.items) l.depth (rest_of l.fn.self.rest) (rest_of l.self.rest) front
          × WritesPieces text front l.fn.self.out l.self.out;
      reads : IsRead l.fn.self.on.now (container_views l.fn.self.open.items) l.depth (rest_of l.fn.self.rest) (rest_of l.self.rest);
    }
