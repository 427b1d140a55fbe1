-- Where the child events of chains stand, once they are in place of the chunks.
use Rattle.std.specs.Prelude.{◌≡◌, ℕ, List, [], ◌∷◌, slice_get, Option, Some}
use Rattle.engine_events.specs.declared.event.Content.{Content}
use Rattle.engine_events.specs.declared.event.Event.{Event}
use Rattle.engine_edits.specs.Edits.{EditAt}
use Rattle.engine_edits.specs.Replacement.{Places, with_new_links}
use Rattle.engine_chunks.specs.Chunks.{chunks}
use Rattle.engine_chunks.specs.Parts.{counts, with_division, places_of}
use Rattle.markdown_engine.specs.Chains.{Chain, chains, Divides, Subtokenizes}
use Rattle.markdown_engine.specs.Context.{Context}
use Rattle.markdown_engine.specs.Reading.{Steps}
use Rattle.markdown_engine.specs.Resolving.{FoundLabels, Resolves, found_both, nothing_found}

-- each child event that has a place stands there, and its links name the places of the others
abbrev pub StandAt : Places → List Event → List Event → Type 0
StandAt ps children new = (j p : ℕ) → slice_get ps j ≡ Some (Some p) → (e : Event) × (slice_get children j ≡ Some e)
    × (slice_get new p ≡ Some (with_new_links ps e))

module _ {M : Type 0} (step : Steps M) (resolve : Resolves M) (bytes : List ℕ) (machine : M) (old new : List Event) where
  -- so it is with the child events of each of these chains, before which so many events go and come
  abbrev pub EachStands : (cs : List Chain) (acc : ℕ × ℕ) (edits all : List EditAt) (found total : FoundLabels)
      → Divides step resolve bytes machine old cs acc edits all found total → Type 0
  EachStands [] acc edits all found total d = Unit {0}
  EachStands (c ∷ cs) acc edits all found total d =
      StandAt (places_of old (chunks old c.0) d.0 0 acc.0 acc.1) d.0 new
      × EachStands cs (counts old (chunks old c.0) d.0 0 acc.0 acc.1) (with_division old c.0 d.0 acc edits) all (found_both found d.1) total d.3

-- links of child events lead to where those events stand, whatever was read
abbrev pub LinksLead : {M : Type 0} → Steps M → Resolves M → List ℕ → M → Option Content → List Event → List Event → FoundLabels → Type 0
LinksLead step resolve bytes machine filter old new found =
    (read : Subtokenizes step resolve bytes machine filter old new found) → EachStands step resolve bytes machine old new (chains filter old) (
      0,
      0,
    ) [] read.edits nothing_found found read.divides

-- the same, with what a text is read with
abbrev pub LinksLeadIn : {T M : Type 0} → (Context T → Steps M) → (Context T → Resolves M) → Context T → M → Option Content → List Event → List Event
    → FoundLabels
    → Type 0
LinksLeadIn step resolve x machine filter old new found = LinksLead (step x) (resolve x) x.bytes machine filter old new found
