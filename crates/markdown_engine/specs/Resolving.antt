-- What resolvers do once a text is read.
use Rattle.std.specs.Prelude.{◌≡◌, ℕ, Bool, true, false, List, [], ◌∷◌, ◌++◌, length, map, string_bytes, Option, None, Some}
use Rattle.engine_states.specs.declared.resolve.Name.{Name as Resolver}
use Rattle.engine_states.specs.declared.state.Name.{Name}
use Rattle.engine_states.specs.declared.state.State.TheVariants as states
use Rattle.engine_states.specs.declared.subresult.Subresult.{Subresult}
use Rattle.engine_edits.specs.Replacement.{IsOrdered, events_after}
use Rattle.markdown_engine.specs.Context.{Context}
use Rattle.markdown_engine.specs.Laws.{HoldsAt, Holds}
use Rattle.markdown_engine.specs.Order.{AreWhole}
use Rattle.markdown_engine.specs.Reading.{Config, Effect, Steps}

-- the labels of the definitions that were found
pub record FoundLabels : Type 0 where
  pub definitions : List (List ℕ)
  pub footnotes : List (List ℕ)

abbrev pub nothing_found : FoundLabels
nothing_found = record { definitions = []; footnotes = [] }

abbrev pub found_both : FoundLabels → FoundLabels → FoundLabels
found_both f g = record { definitions = f.definitions ++ g.definitions; footnotes = f.footnotes ++ g.footnotes }

module _ {A : Type 0} where
  abbrev pub found_in : Subresult A → FoundLabels
  found_in r = record { definitions = map string_bytes r.definitions.items; footnotes = map string_bytes r.gfm_footnote_definitions.items }

  abbrev pub found_of : Option (Subresult A) → FoundLabels
  found_of None = nothing_found
  found_of (Some r) = found_in r

  -- something is left to be read
  abbrev pub IsNotDone : Subresult A → Type 0
  IsNotDone r = r.done ≡ false

  -- whether something is left stays
  abbrev pub KeepsDone : Subresult A → Subresult A → Type 0
  KeepsDone old new = new.done ≡ old.done

-- what a resolver leaves, and what it found
pub record ResolverResult (M : Type 0) : Type 0 where
  pub config : Config M
  pub found : FoundLabels

abbrev pub Resolves : Type 0 → Type 0
Resolves M = Config M → Resolver → ResolverResult M

module _ {M : Type 0} (resolve : Resolves M) where
  -- resolvers one after another; what they find comes after what was found
  abbrev pub resolve_each : List Resolver → Config M → FoundLabels → ResolverResult M
  resolve_each [] c found = record { config = c; found = found }
  resolve_each (n ∷ ns) c found = resolve_each ns (resolve c n).config (found_both found (resolve c n).found)

  -- the edits that were asked for are made
  abbrev pub with_edits : Config M → Config M
  with_edits c = record c { events = events_after c.map c.events; map = [] }

  -- all that are registered run in their order, and then the edits are made
  abbrev pub resolve_all : Config M → ResolverResult M
  resolve_all c = let r = resolve_each c.resolvers (record c { resolvers = [] }) nothing_found in record r { config = with_edits r.config }

  -- if that is asked for
  abbrev pub resolution : Bool → Config M → ResolverResult M
  resolution false c = record { config = c; found = nothing_found }
  resolution true c = resolve_all c

-- what holds of a configuration where these resolvers are still to run
abbrev pub SettlesAt : Type 0 → Type 1
SettlesAt M = Config M → List Resolver → Type 0

abbrev pub Settles : Type 0 → Type 0 → Type 1
Settles T M = Context T → SettlesAt M

pub record ResolvesAt {M : Type 0} (valid : HoldsAt M) (resolve : Resolves M) (settled : SettlesAt M) : Type 0 where
  -- with nothing that waits, reading goes well
  pub well : (c : Config M) → valid c [] states.Nok → ⊥
  pub begins : (c : Config M) → valid c [] states.Ok → settled (record c { resolvers = [] }) c.resolvers
  pub keeps : (c : Config M) (n : Resolver) (ns : List Resolver) → settled c (n ∷ ns) → settled (resolve c n).config ns
  -- the edits can be made, and leave events that are balanced and in order
  pub ordered : (c : Config M) → settled c [] → IsOrdered 0 c.map (length c.events)
  pub whole : (c : Config M) → settled c [] → AreWhole (events_after c.map c.events) c.point

abbrev pub Resolving : {T M : Type 0} → Holds T M → (Context T → Resolves M) → Settles T M → Type 0
Resolving {T} valid resolve settled = (x : Context T) → ResolvesAt (valid x) (resolve x) (settled x)

-- For machines that register no resolver and ask for no edit

abbrev pub IsUnresolved : {M : Type 0} → Config M → Type 0
IsUnresolved c = (c.map ≡ []) × (c.resolvers ≡ [])

-- what holds, and nothing is to be resolved
abbrev pub HoldsUnresolved : {M : Type 0} → HoldsAt M → HoldsAt M
HoldsUnresolved valid c stack s = valid c stack s × IsUnresolved c

-- a call leaves edits and resolvers as they are
abbrev pub LeavesAt : {M : Type 0} → Config M → Effect M → Type 0
LeavesAt c e = (e.config.map ≡ c.map) × (e.config.resolvers ≡ c.resolvers)

-- so do all
abbrev pub Leaves : {M : Type 0} → Steps M → Type 0
Leaves {M} step = (c : Config M) (n : Name) → LeavesAt c (step c n)

abbrev pub resolves_nothing : {M : Type 0} → Resolves M
resolves_nothing c n = record { config = c; found = nothing_found }

-- whatever is to run, there is no edit
abbrev pub settles_whole : {M : Type 0} → SettlesAt M
settles_whole c names = (c.map ≡ []) × AreWhole c.events c.point
