-- One chunk of a walk over a chain.
use Rattle.std.proofs.Common.{◌≡◌, ◌∙◌, ◌+◌, ◌-◌, ◌<◌, ◌++◌, ℕ, zero, suc, List, ◌∷◌, map, take, drop, Some, false, refl, sym, ap, subst, arith}
use Rattle.engine_events.specs.declared.event.Event.{Event}
use Rattle.engine_edits.specs.Edits.{EditAt, with_edit}
use Rattle.engine_edits.specs.Replacement.{Places, with_new_links}
use Rattle.engine_chunks.specs.Chunks.{chunks_from, next_chunk, part_size}
use Rattle.engine_chunks.specs.Parts.{places_of, counts, with_division_at}
use Rattle.std.specs.Prelude.{slice_get}

pub one_chunk : (n : ℕ) (events : List Event) (k : ℕ) → 0 < n → chunks_from n events (Some k) ≡ k ∷ chunks_from (n - 1) events (next_chunk (slice_get events k))
one_chunk zero events k h = absurd (omega arith)
one_chunk (suc n) events k h = let e : suc n - 1 ≡ n = omega arith in rw e refl

module _ (events children : List Event) where
  -- what the walk that finds places keeps
  pub record Placing (found : Places) (ks : List ℕ) (from removed added : ℕ) (all : Places) (counted : ℕ × ℕ) : Type 0 where
    pub places : found ++ places_of events ks children from removed added ≡ all
    pub counts : counts events ks children from removed added ≡ counted

  pub parting : (ps : Places) (edits edits' : List EditAt) (part : List Event) (ks rest : List ℕ) (k size from : ℕ) (all : List EditAt) → ks ≡ k ∷ rest
      → size ≡ part_size events k (drop from children)
      → part ≡ map (with_new_links ps) (take ((from + size) - from) (drop from children)) → edits' ≡ with_edit false k 2 part edits
      → with_division_at events ks children ps from edits ≡ all → with_division_at events rest children ps (from + size) edits' ≡ all
  parting ps edits edits' part ks rest k size from all eks es ep ee h =
      let n = part_size events k (drop from children) in
      let g = subst (λ (z : List ℕ). with_division_at events z children ps from edits ≡ all) eks h in
      let e : (from + size) - from ≡ size = omega arith in
      let p : part ≡ map (with_new_links ps) (take n (drop from children)) =
      ep ∙ ap (λ (z : ℕ). map (with_new_links ps) (take z (drop from children))) (e ∙ es) in
      let q : edits' ≡ with_edit false k 2 (map (with_new_links ps) (take n (drop from children))) edits =
      ee ∙ ap (λ (z : List Event). with_edit false k 2 z edits) p in
      subst (λ (z : ℕ). with_division_at events rest children ps (from + z) edits' ≡ all) (sym es)
      (ap (λ (z : List EditAt). with_division_at events rest children ps (from + n) z) q ∙ g)
