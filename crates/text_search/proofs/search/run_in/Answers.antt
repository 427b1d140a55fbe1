use Rattle.std.proofs.lemmas.Simd.{run_in_chunk_le, run_in_chunk_fails, run_in_chunk_stops}
use Rattle.text_search.proofs.search.run_in.Goals as goal

pub returns-clause-within : goal.returns-clause-within
returns-clause-within g c =
    let xs = c.args.bytes.now in
    run_in_chunk_le (g.T.ByteTest.passes c.args.test) xs c.args.at 16 c.lanes_before.result 0 c.requires
    c.lanes_before.ensures

pub returns-clause-passed : goal.returns-clause-passed
returns-clause-passed g c =
    let xs = c.args.bytes.now in
    run_in_chunk_fails (g.T.ByteTest.passes c.args.test) xs c.args.at 16 c.lanes_before.result 0 c.requires
    c.lanes_before.ensures

pub returns-clause-hit : goal.returns-clause-hit
returns-clause-hit g c =
    let xs = c.args.bytes.now in
    run_in_chunk_stops (g.T.ByteTest.passes c.args.test) xs c.args.at 16 c.lanes_before.result 0 c.requires
    c.lanes_before.ensures
