-- Chains whose chunks lie in one event, and whose child events all have a place: events that are balanced stay so.
use Rattle.std.specs.Prelude.{◌≡◌, ℕ, ◌+◌, ◌-◌, List, [], ◌∷◌, drop, length, Option, take}
use Rattle.engine_events.specs.declared.event.Content.{Content}
use Rattle.engine_events.specs.declared.event.Event.{Event}
use Rattle.engine_edits.specs.Edits.{EditAt}
use Rattle.engine_chunks.specs.Chunks.{chunks, part_size}
use Rattle.engine_chunks.specs.Parts.{counts, with_division}
use Rattle.markdown_engine.specs.Chains.{Chain, Divides, Subtokenizes, chains}
use Rattle.markdown_engine.specs.Context.{Context}
use Rattle.markdown_engine.specs.Order.{IsBalanced}
use Rattle.markdown_engine.specs.Reading.{Steps}
use Rattle.markdown_engine.specs.Resolving.{FoundLabels, Resolves, found_both, nothing_found}

-- each of these chunks is balanced with the event after it, its exit; what stands before them, from an index on, is balanced, too
abbrev pub AreTogetherFrom : List Event → ℕ → List ℕ → Type 0
AreTogetherFrom events from [] = Unit {0}
AreTogetherFrom events from (k ∷ ks) = IsBalanced (take (k - from) (drop from events)) × IsBalanced (take 2 (drop k events)) × AreTogetherFrom events (k + 2) ks

-- so it is with the chunks of a chain, and what stands between them: they lie in one event
abbrev pub AreTogether : List Event → List ℕ → Type 0
AreTogether events [] = Unit {0}
AreTogether events (k ∷ ks) = IsBalanced (take 2 (drop k events)) × AreTogetherFrom events (k + 2) ks

abbrev pub EachTogether : List Event → List Chain → Type 0
EachTogether events [] = Unit {0}
EachTogether events (c ∷ cs) = AreTogether events (chunks events c.0) × EachTogether events cs

-- how many child events are up to the end of the last of these chunks
abbrev pub children_to : List Event → List ℕ → List Event → ℕ → ℕ
children_to events [] children from = from
children_to events (k ∷ ks) children from = children_to events ks children (from + part_size events k (drop from children))

module _ {M : Type 0} (step : Steps M) (resolve : Resolves M) (bytes : List ℕ) (machine : M) (old : List Event) where
  -- no child event is past the end of its chain
  abbrev pub EachHasPlace : (cs : List Chain) (acc : ℕ × ℕ) (edits all : List EditAt) (found total : FoundLabels)
      → Divides step resolve bytes machine old cs acc edits all found total → Type 0
  EachHasPlace [] acc edits all found total d = Unit {0}
  EachHasPlace (c ∷ cs) acc edits all found total d =
      (children_to old (chunks old c.0) d.0 0 ≡ length d.0)
      × EachHasPlace cs (counts old (chunks old c.0) d.0 0 acc.0 acc.1) (with_division old c.0 d.0 acc edits) all (found_both found d.1) total d.3

-- where so, events that were balanced are, whatever was read
abbrev pub StaysBalanced : {T M : Type 0} → (Context T → Steps M) → (Context T → Resolves M) → Context T → M → Option Content → List Event → List Event
    → FoundLabels
    → Type 0
StaysBalanced step resolve x machine filter old new found =
    IsBalanced old → EachTogether old (chains filter old) → (read : Subtokenizes (step x) (resolve x) x.bytes machine filter old new found)
    → EachHasPlace (step x) (resolve x) x.bytes machine old (chains filter old) (0, 0) [] read.edits nothing_found found read.divides → IsBalanced new
