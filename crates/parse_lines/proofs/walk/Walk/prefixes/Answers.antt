use Rattle.std.proofs.Common.{◌≡◌, ◌+◌, ◌≤◌, ◌∷◌, List, sym, ap, ◌∙◌, subst, arith, drop, length, false, ℕ, refl}
use Rattle.parse_lines.proofs.Prelude.{Constructs, Container, container_line, container_view, container_views, continues, drop-drop, length-map, Rest, rest_of}
use Rattle.parse_lines.proofs.Prelude.{rest_start, standing, Standing, whole, with_rest}
use Rattle.block_starts.specs.View.{line_if}
use Rattle.parse_lines.proofs.Containers.{views_get, nothing_blank}
use Rattle.parse_lines.proofs.Prefixes.{IsRead, read_none, read_more, read_stopped, read_all, read_nothing}
use Rattle.parse_lines.proofs.Suffixes.{continues_end}
use Rattle.parse_lines.proofs.Quiet.{quiet_both, quiet_none}
use Rattle.event_definition.specs.Containers.{prefix_pieces, prefixed}
use Rattle.event_definition.specs.Pieces.{Nil, join}
use Rattle.parse_pieces.proofs.Written.{pieces_both, pieces_none}
use Rattle.parse_lines.proofs.PrefixPieces.{IsSplit, split_all, split_more, split_none, split_nothing, split_stopped, written_whole}
use Rattle.parse_lines.proofs.walk.Walk.prefixes.Goals as goal

pub returns-then-indent-eq0-clause-reads : goal.returns-then-indent-eq0-clause-reads
returns-then-indent-eq0-clause-reads g c line quotes e =
    let old = c.args.self.now in
    let now = c.loop-depth.self in
    let end : now.quotes_end ≡ old.quotes_end = ap (λ (s : Standing). s.quotes_end) c.loop-depth.invariant.stays in
    let le : now.quotes_end ≤ c.loop-depth.depth = c.if-depth-self.true in
    let blank = sym c.is_blank.ensures ∙ c.if-is_blank.true in
    let none = sym c.indent.ensures.same ∙ c.if-indent-eq0.true in
    read_nothing old.on.now (container_views old.open.items) old.quotes_end c.loop-depth.depth (rest_of old.rest) (rest_of now.rest) (omega arith) quotes
    (nothing_blank (rest_of now.rest) blank none) c.loop-depth.invariant.reads line e

pub returns-in_default-continues-clause-reads : goal.returns-in_default-continues-clause-reads
returns-in_default-continues-clause-reads g c line quotes e =
    let old = c.args.self.now in
    let now = c.loop-depth.self in
    let on = ap (λ (s : Standing). s.on) c.loop-depth.invariant.stays in
    let outermost = ap (λ (s : Standing). s.outermost) c.loop-depth.invariant.stays in
    let split = sym (ap (drop c.loop-depth.depth) outermost)
    ∙ views_get now.open.items c.deref.result.now c.loop-depth.depth c.get.result c.in-Some.container c.deref.ensures.value c.get.ensures.lookup.0
    c.get.ensures.lookup.1 c.in-Some.ensures
    ∙ ap (λ (cs : List Container). container_view c.in-Some.container ∷ drop (c.loop-depth.depth + 1) cs) outermost in
    let is = ap (λ (x : Constructs). continues x (container_view c.in-Some.container) false (rest_of now.rest)) (sym on)
    ∙ sym c.continues.ensures ∙ ap line_if c.in_default-continues.is in
    read_stopped old.on.now (container_views old.open.items) c.loop-depth.depth (container_view c.in-Some.container) (rest_of old.rest) (rest_of now.rest)
    split is c.loop-depth.invariant.reads line e

pub loop-depth-init : goal.loop-depth-init
loop-depth-init g c =
    let old = c.args.self.now in
    record {
      writes = λ text before content after n at. (quiet_none text old.out at.order, (n, at));
      marks = refl;
      stays = refl;
      exact = λ text before content after n at. (Nil, split_none old.on.now (container_views old.open.items) (rest_of old.rest), pieces_none text old.out at.order);
      reads = read_none old.on.now (container_views old.open.items) (rest_of old.rest);
    }

pub loop-depth-preserved : goal.loop-depth-preserved
loop-depth-preserved g c =
    let old = c.args.self.now in
    let now = c.loop-depth.self in
    let new = c.prefix.new.self in
    let more = c.in-Some-continues.line in
    let prefix = c.in_ok-prefix.ensures in
    let on = ap (λ (s : Standing). s.on) c.loop-depth.invariant.stays in
    let outermost = ap (λ (s : Standing). s.outermost) c.loop-depth.invariant.stays in
    let split = sym (ap (drop c.loop-depth.depth) outermost)
    ∙ views_get now.open.items c.deref.result.now c.loop-depth.depth c.get.result c.in-Some.container c.deref.ensures.value c.get.ensures.lookup.0
    c.get.ensures.lookup.1 c.in-Some.ensures
    ∙ ap (λ (cs : List Container). container_view c.in-Some.container ∷ drop (c.loop-depth.depth + 1) cs) outermost in
    let is = ap (λ (x : Constructs). continues x (container_view c.in-Some.container) false (rest_of now.rest)) (sym on)
    ∙ sym c.continues.ensures ∙ ap line_if c.in-Some-continues.is in
    let rest = ap (λ (s : Standing). s.rest) prefix.stays in
    let way = sym c.continues.ensures ∙ ap line_if c.in-Some-continues.is in
    let end = ap (λ (s : Standing). s.line_end) prefix.stays in
    record {
      writes = λ text before content after n at.
          let before_it = c.loop-depth.invariant.writes text before content after n at in
          let here = before_it.1.1 in
          let one = prefix.written text before content after before_it.1.0 more.before here way in
          let further = continues_end now.on.now (container_view c.in-Some.container) (rest_of now.rest)
          (container_line (rest_of more.rest) more.before) way in (
            quiet_both text old.out now.out new.out before_it.0 one.0,
            (
              before_it.1.0 + further.0,
              record {
                line = here.line;
                end = end ∙ here.end;
                rest = rest ∙ further.1 ∙ ap (drop further.0) here.rest ∙ drop-drop further.0 before_it.1.0 (whole content);
                written = one.1 ∙ ap (λ (k : ℕ). rest_start k (rest_of more.rest)) (sym end) ∙ ap (rest_start new.line_end) (sym rest);
                order = one.0.writes.order;
              },
            ),
          );
      marks = prefix.«open» ∙ c.loop-depth.invariant.marks;
      stays = prefix.stays ∙ ap (λ (s : Standing). with_rest s (rest_of more.rest)) c.loop-depth.invariant.stays
          ∙ ap (λ (r : Rest). with_rest (standing old) r) (sym rest);
      exact = λ text before content after n at.
          let here = (c.loop-depth.invariant.writes text before content after n at).1 in
          let front = c.loop-depth.invariant.exact text before content after n at in
          let own = container_view c.in-Some.container in
          let pieces = prefix_pieces own (rest_of now.rest) (rest_of more.rest) in (
            join front.0 pieces,
            subst (λ (r : Rest). IsSplit old.on.now (container_views old.open.items) (c.loop-depth.depth + 1) (rest_of old.rest) r (join front.0 pieces)) (sym rest)
                (split_more old.on.now (container_views old.open.items) c.loop-depth.depth own (rest_of old.rest) (rest_of now.rest) front.0
                (container_line (rest_of more.rest) more.before) split is front.1),
            pieces_both text front.0 pieces old.out now.out new.out front.2 (prefix.exact text before content after here.0 more.before here.1 way),
          );
      reads = subst (IsRead old.on.now (container_views old.open.items) (c.loop-depth.depth + 1) (rest_of old.rest)) (sym rest) (
          read_more old.on.now (container_views old.open.items) c.loop-depth.depth (container_view c.in-Some.container) (rest_of old.rest) (rest_of now.rest)
          (container_line (rest_of more.rest) more.before) split is c.loop-depth.invariant.reads
          );
    }

pub returns-clause-reads : goal.returns-clause-reads
returns-clause-reads g c line quotes e =
    let old = c.args.self.now in
    let now = c.loop-depth.self in
    let size : length (container_views old.open.items) ≡ length old.open.items = length-map old.open.items container_view in
    read_all old.on.now (container_views old.open.items) c.loop-depth.depth (rest_of old.rest) (rest_of now.rest) (omega arith)
    c.loop-depth.invariant.reads line e

pub returns-then-indent-eq0-clause-exact : goal.returns-then-indent-eq0-clause-exact
returns-then-indent-eq0-clause-exact g c text before content after n at quotes =
    let old = c.args.self.now in
    let now = c.loop-depth.self in
    let all = container_views old.open.items in
    let end : now.quotes_end ≡ old.quotes_end = ap (λ (s : Standing). s.quotes_end) c.loop-depth.invariant.stays in
    let le : now.quotes_end ≤ c.loop-depth.depth = c.if-depth-self.true in
    let blank = sym c.is_blank.ensures ∙ c.if-is_blank.true in
    let none = sym c.indent.ensures.same ∙ c.if-indent-eq0.true in
    let front = c.loop-depth.invariant.exact text before content after n at in
    written_whole text (prefixed old.on.now all (rest_of old.rest)) front.0 (rest_of now.rest) old.out now.out
    (split_nothing old.on.now all old.quotes_end c.loop-depth.depth (rest_of old.rest) (rest_of now.rest) front.0 (omega arith) quotes
    (nothing_blank (rest_of now.rest) blank none) front.1) front.2

pub returns-in_default-continues-clause-exact : goal.returns-in_default-continues-clause-exact
returns-in_default-continues-clause-exact g c text before content after n at quotes =
    let old = c.args.self.now in
    let now = c.loop-depth.self in
    let all = container_views old.open.items in
    let own = container_view c.in-Some.container in
    let on = ap (λ (s : Standing). s.on) c.loop-depth.invariant.stays in
    let outermost = ap (λ (s : Standing). s.outermost) c.loop-depth.invariant.stays in
    let split = sym (ap (drop c.loop-depth.depth) outermost)
    ∙ views_get now.open.items c.deref.result.now c.loop-depth.depth c.get.result c.in-Some.container c.deref.ensures.value c.get.ensures.lookup.0
    c.get.ensures.lookup.1 c.in-Some.ensures
    ∙ ap (λ (cs : List Container). own ∷ drop (c.loop-depth.depth + 1) cs) outermost in
    let is = ap (λ (x : Constructs). continues x own false (rest_of now.rest)) (sym on)
    ∙ sym c.continues.ensures ∙ ap line_if c.in_default-continues.is in
    let front = c.loop-depth.invariant.exact text before content after n at in
    written_whole text (prefixed old.on.now all (rest_of old.rest)) front.0 (rest_of now.rest) old.out now.out
    (split_stopped old.on.now all c.loop-depth.depth own (rest_of old.rest) (rest_of now.rest) front.0 split is front.1) front.2

pub returns-clause-exact : goal.returns-clause-exact
returns-clause-exact g c text before content after n at quotes =
    let old = c.args.self.now in
    let now = c.loop-depth.self in
    let all = container_views old.open.items in
    let size : length all ≡ length old.open.items = length-map old.open.items container_view in
    let front = c.loop-depth.invariant.exact text before content after n at in
    written_whole text (prefixed old.on.now all (rest_of old.rest)) front.0 (rest_of now.rest) old.out now.out
    (split_all old.on.now all c.loop-depth.depth (rest_of old.rest) (rest_of now.rest) front.0 (omega arith) front.1) front.2
