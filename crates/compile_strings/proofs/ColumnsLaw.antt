-- Columns that are counted on from a known index.
use Rattle.std.proofs.Common.{◌≡◌, ℕ, List, length, take, drop, min, sym, ap, arith}
use Rattle.compile_strings.proofs.Prelude.{drop_all, fold, phase_at}
use Rattle.std.proofs.lemmas.List.{take_min}
use Rattle.engine_events.specs.Columns.{mark_size}
use Rattle.event_grammar.specs.Points.{column_on}
use Rattle.event_grammar.specs.Phases.{phase}

-- at the start of a text there is none
pub start_phase : (bs : List ℕ) → 0 ≡ phase_at bs 0
start_phase bs = ap (λ (z : List ℕ). phase (fold column_on 1 z)) (sym (drop_all (mark_size bs) (take 0 bs) (omega arith)))

-- past the end of a text it is that of the end
pub end_phase : (bs : List ℕ) (i : ℕ) → phase_at bs (min i (length bs)) ≡ phase_at bs i
end_phase bs i = ap (λ (z : List ℕ). phase (fold column_on 1 (drop (mark_size bs) z))) (take_min i bs)
