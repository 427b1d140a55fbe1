-- A byte order mark at the start of a text.
use Rattle.std.proofs.Common.{◌≡◌, ◌≢◌, ℕ, false, List, [], ◌∷◌, ◌&&◌, eqb, inl, inr, refl}
use Rattle.std.proofs.lemmas.Bool.{eqb-true, cases_Bool, and_parts}
use Rattle.definition_text.specs.Lines.{has_mark}

-- a text that doesn't begin with these bytes has no mark
pub no_mark : (text : List ℕ) → ((rest : List ℕ) → text ≢ 239 ∷ 187 ∷ 191 ∷ rest) → has_mark text ≡ false
no_mark [] other = refl
no_mark (a ∷ []) other = refl
no_mark (a ∷ b ∷ []) other = refl
no_mark (a ∷ b ∷ c ∷ rest) other =
    elim (cases_Bool (eqb a 239 && eqb b 187 && eqb c 191)) [
      | inl h ↦
          let front = and_parts (eqb a 239 && eqb b 187) (eqb c 191) h in
          let both = and_parts (eqb a 239) (eqb b 187) front.0 in
          let ea = eqb-true a 239 both.0 in
          let eb = eqb-true b 187 both.1 in
          let ec = eqb-true c 191 front.1 in
          let e : a ∷ b ∷ c ∷ rest ≡ 239 ∷ 187 ∷ 191 ∷ rest = cc in
          absurd (other rest e)
      | inr h ↦ h
    ]
