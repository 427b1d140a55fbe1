use Rattle.std.proofs.Common.{◌≡◌, ◌<◌, ◌++◌, List, ℕ, true, length, map, take, drop}
use Rattle.std.specs.Char.{is_ascii_punctuation}
use Rattle.std.specs.List.{list_all}
use Rattle.markdown_options.specs.declared.configuration.Constructs.{Constructs}
use Rattle.parse_inline.proofs.Prelude.{Anywhere, Escape, escaped, IsWhole, Names, StandsInContent, still_open, Stop, WritesFront}
use Rattle.parse_inline.proofs.leaf.push_escapes.Given as goal

abbrev pub invariant-loop-done : goal.invariant-loop-done
invariant-loop-done g l = record {
  opened : still_open l.walk ≡ still_open l.fn.walk;
  written : (on : Constructs) (names : Names) (text front content : List ℕ) (stop : Stop) → l.count ≡ length front
      → (0 < length front → on.character_escape ≡ true) → list_all is_ascii_punctuation front ≡ true
      → StandsInContent text (escaped front ++ content) stop l.fn.walk → IsWhole l.fn.walk
      → WritesFront on names text (escaped (take l._done front)) (escaped (drop l._done front) ++ content) Anywhere (map Escape (take l._done front)) stop l.fn.walk l.walk;
}
