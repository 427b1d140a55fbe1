use Rattle.std.proofs.Common.{ap, ◌∙◌, get_or, arith, eqb, length}
use Rattle.std.proofs.lemmas.Bool.{eqb-true}
use Rattle.std.proofs.lemmas.List.Sums.{prefix_len_passes}
use Rattle.definition_text.specs.Runs.{run}
use Rattle.text_bytes.proofs.Ascii.{boundary_after}
use Rattle.text_bytes.proofs.runs.split_run.Goals as goal

pub range_from-requires : goal.range_from-requires
range_from-requires c =
    let t = c.args.text.now in
    let b = c.args.byte in
    let e = c.run-count.ensures.size ∙ ap (run b) c.as_bytes.ensures.value in
    let len = ap length c.as_bytes.ensures.value in
    λ pos. boundary_after t c.run-count.result c.utf8.text (omega (arith, len, c.run-count.ensures.within))
    (λ k f. let same = eqb-true (get_or t k 0) b (prefix_len_passes (λ x. eqb x b) t k 0 (omega (arith, e))) in omega (arith, same, c.requires))
