use Rattle.std.proofs.Common.{◌≡◌, ℕ, ◌-◌, List, ◌∷◌, sym, ap, ◌∙◌, subst, length}
use Rattle.engine_events.specs.declared.event.Name.TheVariants.{LineEnding}
use Rattle.parse_lines.proofs.Prelude.{Constructs, Container, End, line_after, lines, on_ok_weaker, standing, void_nodes, Writes, writes_both, written_to}
use Rattle.definition_text.specs.Content.{ending_code}
use Rattle.event_definition.specs.Containers.{begun}
use Rattle.event_definition.specs.Pieces.{token}
use Rattle.event_definition.specs.Written.{Between, Written}
use Rattle.parse_pieces.proofs.Written.{pieces_both}
use Rattle.parse_lines.specs.Pieces.{WritesUpToLine, left_between}
use Rattle.parse_lines.proofs.LinePieces.{ending_left, ending_written}
use Rattle.parse_lines.proofs.Written.{ending_end}
use Rattle.parse_lines.proofs.Steps.{line_passes}
use Rattle.parse_lines.proofs.walk.Walk.next_line.Goals as goal

pub returns-clause-passes : goal.returns-clause-passes
returns-clause-passes g c =
    let ended = c.in_ok-ending.ensures in
    on_ok_weaker c.begin_line.result
    (line_passes (standing c.args.self.now) (standing c.ending.new.self) (standing c.begin_line.new.self) ended.around.0 ended.around.1 ended.ends)
    c.begin_line.ensures.begins

pub returns-clause-written : goal.returns-clause-written
returns-clause-written g c =
    let old = c.args.self.now in
    let mid = c.ending.new.self in
    let new = c.begin_line.new.self in
    let ended = c.in_ok-ending.ensures in
    on_ok_weaker c.begin_line.result
    (λ line. λ text ending next others st order follows.
    let first = ended.written text ending (next ∷ others) st order follows in
    let more = line text next others (ended.ends text ending (next ∷ others) st) first.1 first.0.order in (
      more.0.nodes,
      writes_both text old.out mid.out new.out (void_nodes text LineEnding (written_to old) (line_after old)) more.0.nodes first.0 more.0.writes,
      more.0.quiet,
      more.0.white,
      more.1,
    ))
    c.begin_line.ensures.written

pub returns-clause-exact : goal.returns-clause-exact
returns-clause-exact g c =
    let old = c.args.self.now in
    let mid = c.ending.new.self in
    let new = c.begin_line.new.self in
    let ended = c.in_ok-ending.ensures in
    on_ok_weaker c.begin_line.result
    (λ line. λ text ending next others st at order follows.
    let first = ended.written text ending (next ∷ others) st order follows in
    let st_mid = ended.ends text ending (next ∷ others) st in
    let more = line text next others st_mid first.1 first.0.order in
    let size = ending_end text (standing old) st.line in
    let end_mid : written_to mid ≡ line_after old = first.1 ∙ ended.line in
    let token_written = ending_written text LineEnding old.ending old.line_end (old.size - length old.left.now) old.out mid.out size.0 at end_mid
    (subst (λ (e : End). Writes text old.out mid.out (void_nodes text LineEnding (written_to old) e)) (sym end_mid) first.0) in
    let kept = ending_left text (standing old) (standing mid) st.line (next ∷ others) st_mid ended.line in
    let outer = (standing mid).outermost in
    let same : begun mid.on.now outer (left_between (standing mid)) ≡ begun old.on.now (standing old).outermost (left_between (standing old)) =
    ap (λ (xs : List ℕ). begun mid.on.now outer (Between (lines xs))) kept
    ∙ ap (λ (x : Constructs). begun x outer (left_between (standing old))) ended.around.0
    ∙ ap (λ (cs : List Container). begun old.on.now cs (left_between (standing old))) ended.around.1 in
    let after = subst (λ (w : Written). WritesUpToLine text w mid new) same more in
    record {
      pieces = pieces_both text (token LineEnding (ending_code old.ending)) (begun old.on.now (standing old).outermost (left_between (standing old))).pieces
          old.out mid.out new.out token_written after.pieces;
      left = after.left;
    })
    c.begin_line.ensures.exact
