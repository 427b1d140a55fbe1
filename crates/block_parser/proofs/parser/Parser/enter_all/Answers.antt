use Rattle.std.proofs.Common.{◌∷◌, true, false, sym, ap, ◌∙◌, length}
use Rattle.block_parser.proofs.Prelude.{container_start, container_view, level, Nil, nothing, rest_of, spine_after, started_if}
use Rattle.block_parser.proofs.Starting as starting
use Rattle.block_parser.proofs.parser.Parser.enter_all.Goals as goal

pub loop-container-smaller : goal.loop-container-smaller
loop-container-smaller g c =
    starting.start-shorter c.args.on.now false (rest_of c.loop-container.inside)
    (container_start (container_view c.in-Some.container) (rest_of c.in-Some.line.rest) c.in-Some.line.before)
    (sym c.starts.ensures ∙ ap started_if c.in-Some.is)

pub loop-container-preserved : goal.loop-container-preserved
loop-container-preserved g c = λ around kids h.
    let k = c.loop-container.invariant around kids h in
    let on = c.args.on.now in
    let rest = rest_of c.loop-container.inside in
    let s = container_start (container_view c.in-Some.container) (rest_of c.in-Some.line.rest) c.in-Some.line.before in
    record {
      inner = level (container_view c.in-Some.container) k.inner_kids ∷ k.inner;
      inner_kids = Nil;
      reads = c.in_ok-enter.ensures k.inner k.inner_kids k.reads;
      grows = k.grows ∙ starting.inside_more on c.loop-container.here k.inner k.inner_kids rest s (sym c.starts.ensures ∙ ap started_if c.in-Some.is);
    }

pub returns : goal.returns
returns g c = λ around kids h.
    let k = c.loop-container.invariant around kids h in
    let on = c.args.on.now in
    let rest = rest_of c.loop-container.inside in
    record {
      inner = k.inner;
      inner_kids = k.inner_kids;
      reads = k.reads;
      grows = k.grows ∙ ap (spine_after k.inner k.inner_kids) (starting.new_none on c.loop-container.here (length rest) true nothing rest
          (sym c.starts.ensures ∙ ap started_if c.in_default.is));
    }
