-- A heading is told by its first line.
use Rattle.std.proofs.Common.{◌≡◌, List, [], ◌∷◌, Some, sym, ap, ◌∙◌, arith}
use Rattle.parse_laid.proofs.Prelude.{AreText, AtEnding, Atx, Between, BlockLine, Constructs, Container, heading_atx, InAll, IsOn, line_left, LineRest}
use Rattle.parse_laid.proofs.Prelude.{none-some, Place, Prefixed, Within}
use Rattle.parse_laid.specs.HeadingSetext.{HeadingsAreTold}

-- something begins on one line
one_line : (on : Constructs) (around : List Container) (from : Place) (here other : Prefixed) (left more : List LineRest) → IsOn on around from here left
    → IsOn on around from other more → here ≡ other
one_line on around (Between []) here other left more p q = absurd p
one_line on around (Between (next ∷ others)) here other left more p q = sym p.0 ∙ q.0
one_line on around (Within line others) here other left more p q = sym p.0 ∙ q.0
one_line on around (AtEnding ending others) here other left more p q = absurd p

pub no_text : (on : Constructs) (around : List Container) (ls : List BlockLine) (from to : Place) (here : LineRest) (left : List LineRest) (found : Atx)
    → IsOn on around from (InAll here) left → heading_atx on here.rest ≡ Some found → AreText on around ls from to → ⊥
no_text on around [] from to here left found is e p = let some = p.0 in omega (arith, some)
no_text on around (line ∷ others) from to here left found is e p =
    let q = p.1 in
    let same = one_line on around from (InAll here) q.0 left q.1 is q.2 in
    none-some found (sym q.3.0.5 ∙ sym (ap (λ x. heading_atx on (line_left x).rest) same) ∙ e)

pub headings_are_told : HeadingsAreTold
headings_are_told = record {
  never_both = λ on around rank other ls others from to end p q. no_text on around q.0 from q.1 p.0 p.1 p.2 p.3 p.4 q.4;
}
