-- Containers on a line of which nothing is left.
use Rattle.std.proofs.Common.{◌≡◌, ℕ, suc, zero, false, [], ◌∷◌, Some, drop, refl, ap, ◌∙◌}
use Rattle.std.specs.List.{list_any}
use Rattle.parse_laid.proofs.Prelude.{beside_in, Constructs, Container, ContainerLine, continues, Footnote, going_on, into, Item, line_rest, Quote, true≢false}
use Rattle.std.proofs.lemmas.Bool.{or_parts}
use Rattle.parse_laid.specs.EmptyRests.{is_quote, NothingStaysNothing}

drop_nothing : (n : ℕ) → drop {A = ℕ} n [] ≡ []
drop_nothing zero = refl
drop_nothing (suc n) = refl

-- a container that is no quote goes on over nothing
goes_on : (on : Constructs) (c : Container) → is_quote c ≡ false → (line : ContainerLine) × (continues on c false [] ≡ Some line) × (line.rest ≡ [])
goes_on on Quote e = absurd (true≢false e)
goes_on on (Item item) e = (_, refl, drop_nothing item.size)
goes_on on (Footnote label) e = (_, refl, refl)

pub nothing_stays_nothing : NothingStaysNothing
nothing_stays_nothing on [] around line here e is none = (here, is, none)
nothing_stays_nothing on (c ∷ inner) around line here e is none =
    let parts = or_parts (is_quote c) (list_any is_quote inner) e in
    let outer = nothing_stays_nothing on inner around line here parts.1 is none in
    let more = goes_on on c parts.0 in
    let found : continues on c false outer.0.rest ≡ Some more.0 = ap (continues on c false) outer.2 ∙ more.1 in (
      line_rest more.0.rest (beside_in more.0.before outer.0.beside),
      ap (into on c) outer.1 ∙ ap (λ o. going_on o outer.0) found,
      more.2,
    )
