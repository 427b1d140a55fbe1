-- The bytes of a text between two ends.
use Rattle.parse_output.proofs.Prelude.{between, edge, End, end_columns, Follows, nat_tests, take-add}
use Rattle.std.proofs.Common.{◌≡◌, ◌≤◌, ◌+◌, ◌-◌, ℕ, List, ◌++◌, sym, ap, ◌∙◌, take, drop, arith}
use Rattle.std.proofs.lemmas.List.{drop-drop}
use Rattle.event_grammar.specs.Points.{spot}
use Rattle.parse_output.specs.Joined.{end_edge, text_between}

pub edges : (i v j w : ℕ) → i ≤ j → (j ≡ i → v ≤ w) → edge (spot i v) ≤ edge (spot j w)
edges i v j w forward columns = grind (arith, nat_tests)

-- bytes between places, and those after them
pub between_both : (text : List ℕ) (a b c : ℕ) → a ≤ b → b ≤ c → between a b text ++ between b c text ≡ between a c text
between_both text a b c first second =
    let on : a + (b - a) ≡ b = omega (arith, first) in
    let all : (b - a) + (c - b) ≡ c - a = omega (arith, first, second) in
    ap (λ (xs : List ℕ). take (b - a) (drop a text) ++ take (c - b) xs) (ap (λ (k : ℕ). drop k text) (sym on ∙ omega arith) ∙ sym (drop-drop (b - a) a text))
    ∙ sym (take-add (b - a) (c - b) (drop a text)) ∙ ap (λ (k : ℕ). take k (drop a text)) all

-- an end that follows isn't before
pub edges_follow : (text : List ℕ) (from to : End) → Follows text from to → end_edge text from ≤ end_edge text to
edges_follow text from to follows = edges from.index (end_columns text from) to.index (end_columns text to) follows.forward follows.columns

-- bytes up to an end, and from there to another
pub text_on : (text : List ℕ) (a b c : End) → Follows text a b → Follows text b c
    → text_between text a b ++ text_between text b c ≡ text_between text a c
text_on text a b c first second =
    between_both text (end_edge text a) (end_edge text b) (end_edge text c) (edges_follow text a b first) (edges_follow text b c second)
