-- A node by the events after its enter.
use Rattle.std.proofs.Common.{◌≡◌, ℕ, ◌+◌, ◌-◌, ◌<◌, ◌≤◌, List, [], ◌∷◌, ◌++◌, suc, drop, take, get_or, length, refl, sym, ap, ◌∙◌, arith}
use Rattle.compile_html.proofs.Prelude.{AreNodes, Around, drop-append_seam, Event, events_of, length-append, Nodes, Reads}
use Rattle.std.proofs.Math.Seq.{take-length}
use Rattle.engine_events.specs.declared.event.Kind.TheVariants.{Exit}
use Rattle.event_grammar.specs.Points.{spot_of}
use Rattle.compile_levels.specs.Siblings.{size_inside, inside, first_or}
use Rattle.compile_levels.specs.declared.node.Node.{Node}
use Rattle.compile_levels.proofs.SiblingLaw.{inside_law, after_law}

module _ (event exit : Event) (kids : Nodes) (after back : List Event) (k : AreNodes kids) (x : exit.kind ≡ Exit) (tail : after ≡ events_of kids ++ exit ∷ back)
  where
    rest_is : drop (size_inside 0 after) after ≡ exit ∷ back
    rest_is = ap (λ (es : List Event). drop (size_inside 0 es) es) tail ∙ after_law kids k exit back x

    pub reads_node : (node : Node) → node.name ≡ event.name → node.start ≡ spot_of event
        → node.end ≡ spot_of (first_or event (drop (size_inside 0 after) after)) → node.inside.now ≡ inside after → Reads node (Around event kids exit)
    reads_node node name start end within = (
      name,
      start,
      end ∙ ap (λ (es : List Event). spot_of (first_or event es)) rest_is,
      within ∙ ap inside tail ∙ inside_law kids k exit back x,
    )

    pub rest_after : drop 1 (drop (size_inside 0 after) after) ≡ back
    rest_after = ap (drop 1) rest_is

-- the events from an index on
pub from_index : (events front rest : List Event) (index : ℕ) → events ≡ front ++ rest → index ≡ length events - length rest → drop index events ≡ rest
from_index events front rest index split at =
    let size : length events ≡ length front + length rest = ap length split ∙ length-append front rest in
    let here : index ≡ length front = omega arith in
    ap (λ (i : ℕ). drop i events) here ∙ ap (drop (length front)) split ∙ drop-append_seam front rest

taken_all : (n : ℕ) (xs : List Event) → n ≡ length xs → take n xs ≡ xs
taken_all n xs h = ap (λ (k : ℕ). take k xs) h ∙ take-length xs

-- the first of some events and the others
pub first_and_rest : (events : List Event) (other : Event) (size : ℕ) → 1 ≤ length events → size ≡ length events
    → get_or events 0 other ∷ take (size - 1) (drop 1 events) ≡ events
first_and_rest [] other size some is = absurd (omega (arith, some))
first_and_rest (x ∷ xs) other size some is = ap (λ (es : List Event). x ∷ es) (taken_all (size - 1) xs (omega (arith, is)))

pub none_left : (events : List Event) → length events < 1 → events ≡ []
none_left [] h = refl
none_left (x ∷ xs) h = absurd (omega (arith, h))
