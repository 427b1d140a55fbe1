use Rattle.std.proofs.lemmas.Simd.{run_in_chunk_le, run_in_chunk_fails, run_in_chunk_stops}
use Rattle.text_search.specs.Pairs.{is_of_pair}
use Rattle.text_search.proofs.pair.far_run.Goals as goal

pub returns-clause-within : goal.returns-clause-within
returns-clause-within c =
    run_in_chunk_le (is_of_pair c.args.pair) c.args.bytes.now c.args.at 32 c.far_lanes_before.result 0 c.requires c.far_lanes_before.ensures

pub returns-clause-passed : goal.returns-clause-passed
returns-clause-passed c =
    run_in_chunk_fails (is_of_pair c.args.pair) c.args.bytes.now c.args.at 32 c.far_lanes_before.result 0 c.requires c.far_lanes_before.ensures

pub returns-clause-hit : goal.returns-clause-hit
returns-clause-hit c =
    run_in_chunk_stops (is_of_pair c.args.pair) c.args.bytes.now c.args.at 32 c.far_lanes_before.result 0 c.requires c.far_lanes_before.ensures
