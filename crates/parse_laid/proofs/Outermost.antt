-- Prefixes are read from the outermost container to the innermost.
use Rattle.std.proofs.Common.{◌≡◌, List, [], ◌∷◌, ◌++◌, refl, sym, ap, ◌∙◌, append_assoc}
use Rattle.std.specs.Prelude.{reverse}
use Rattle.parse_laid.proofs.Prelude.{append-nil, Constructs, Container, fold, into, LineRest, prefixed}
use Rattle.std.proofs.lemmas.List.{reverse-append}
use Rattle.parse_laid.specs.Outermost.{PrefixesAreInOrder}

-- containers in others
inward : (on : Constructs) (containers around : List Container) (line : LineRest)
    → prefixed on (reverse containers ++ around) line ≡ fold (λ here c. into on c here) (prefixed on around line) containers
inward on [] around line = refl
inward on (c ∷ containers) around line =
    ap (λ cs. prefixed on (cs ++ around) line) (reverse-append (c ∷ []) containers)
    ∙ ap (λ cs. prefixed on cs line) (append_assoc (reverse containers) (c ∷ []) around)
    ∙ inward on containers (c ∷ around) line

pub prefixes_are_in_order : PrefixesAreInOrder
prefixes_are_in_order = record {
  outermost = λ on containers line.
      ap (λ cs. prefixed on cs line) (sym (append-nil (reverse containers))) ∙ inward on containers [] line;
}
