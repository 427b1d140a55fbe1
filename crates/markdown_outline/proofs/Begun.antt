-- Enters of the events of nodes: what begins with each.
use Rattle.std.proofs.Common.{◌≡◌, List, [], ◌∷◌, ◌++◌, sym, ap, ◌∙◌, subst}
use Rattle.std.proofs.lemmas.Bool.{false≢true}
use Rattle.engine_events.specs.declared.event.Event.{Event}
use Rattle.engine_events.specs.declared.event.Kind.{Kind}
use Rattle.engine_events.specs.declared.event.Kind.TheVariants.{Enter, Exit}
use Rattle.std.specs.Prelude.{ℕ}
use Rattle.event_grammar.specs.Trees.{Nodes, Around, Nil, Cons, events_of}
use Rattle.compile_levels.specs.Siblings.{is_exit}
use Rattle.compile_levels.proofs.SiblingLaw.{split}
use Rattle.compile_raw.specs.Sound.{AreSound}
use Rattle.compile_raw.proofs.Sound.{first_sound, inner_sound}
use Rattle.markdown_outline.specs.Listed.{BeginsSound}

-- with each enter among events a node of the grammar begins
abbrev pub AllBegin : List ℕ → List Event → Type 0
AllBegin bytes [] = Unit {0}
AllBegin bytes (e ∷ es) = (e.kind ≡ Enter → BeginsSound bytes e es) × AllBegin bytes es

no_enter : (kind : Kind) (T : Type 0) → kind ≡ Exit → kind ≡ Enter → T
no_enter kind T h k = absurd (false≢true (sym (ap is_exit k) ∙ ap is_exit h))

module _ (bytes : List ℕ) where
  pub all_begin : (ns : Nodes) (back : List Event) → AreSound bytes ns → AllBegin bytes back → AllBegin bytes (events_of ns ++ back)
  all_begin Nil back h k = k
  all_begin (Cons (Around enter kids exit) ns) back h k =
      let parts = first_sound bytes (Around enter kids exit) ns h in
      let others = events_of ns ++ back in
      let is : ((events_of kids ++ exit ∷ []) ++ events_of ns) ++ back ≡ events_of kids ++ exit ∷ others = split kids ns exit back in
      let exits : AllBegin bytes (exit ∷ others) =
      (λ enters. no_enter exit.kind (BeginsSound bytes exit others) parts.0.is_node.1 enters, all_begin ns back parts.1 k) in (
        λ enters. record { kids = kids; exit = exit; others = others; sound = parts.0; events = is },
        subst (AllBegin bytes) (sym is) (all_begin kids (exit ∷ others) (inner_sound bytes (Around enter kids exit) parts.0) exits),
      )
