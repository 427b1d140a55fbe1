use Rattle.std.proofs.Common.{arith, vec_len, ◌∙◌}
use Rattle.std.proofs.lemmas.Result.{err_from_is_err_and}
use Rattle.markdown_devices.specs.declared.read.TheConstants.{SIZE_MAX}
use Rattle.markdown_devices.proofs.Transfers.{Consumes-next, Consumes-all_read, RefusesPast-after, still_going}
use Rattle.markdown_devices.proofs.read.read_chunks.Goals as goal

pub returns-in_err-read_chunk-clause-size : goal.returns-in_err-read_chunk-clause-size
returns-in_err-read_chunk-clause-size g c =
    let p = err_from_is_err_and c.from_residual.result c.from_residual.ensures.1 in
    let so_far = c.loop.invariant in
    rw (p.1, p.2) (RefusesPast-after _ _ _ c.loop.bytes.items SIZE_MAX (vec_len c.loop.bytes) _ c.loop.bytes.ok.0 so_far.fits so_far.known
    c.in_err-read_chunk.ensures.size)

pub returns-then-branch-eq0-clause-ok : goal.returns-then-branch-eq0-clause-ok
returns-then-branch-eq0-clause-ok g c =
    let k = c.in_ok-read_chunk.ensures in
    Consumes-all_read _ _ c.read_chunk.new.bytes.items
    (Consumes-next _ _ _ c.loop.bytes.items c.read_chunk.new.bytes.items c.loop.invariant.known k.appends k.known) (k.last c.if-branch-eq0.true)

pub returns-then-branch-eq0-clause-size : goal.returns-then-branch-eq0-clause-size
returns-then-branch-eq0-clause-size g c =
    let so_far = c.loop.invariant in
    RefusesPast-after _ _ _ c.loop.bytes.items SIZE_MAX (vec_len c.loop.bytes) _ c.loop.bytes.ok.0 so_far.fits so_far.known c.in_ok-read_chunk.ensures.size

pub loop-preserved : goal.loop-preserved
loop-preserved g c =
    let k = c.in_ok-read_chunk.ensures in
    let so_far = c.loop.invariant in
    record {
      working = k.read;
      fits = k.fits;
      counted = omega (arith, k.grows, c.if-branch-eq0.false);
      going = still_going _ _ _ k.end c.if-branch-eq0.false ∙ so_far.going;
      known = Consumes-next _ _ _ c.loop.bytes.items c.read_chunk.new.bytes.items so_far.known k.appends k.known;
    }
