use Rattle.std.proofs.Common.{◌≡◌, ◌+◌, ◌∷◌, ◌++◌, [], List, ℕ, refl, sym, ap, subst, ◌∙◌, length, length-append, arith}
use Rattle.engine_events.specs.declared.event.Name.TheVariants as n
use Rattle.markdown_options.specs.declared.beside.Kind.TheVariants.{Whitespace}
use Rattle.parse_raw.proofs.Prelude.{append, Around, AtEnding, beside_line, Between, bytes_after, end_at, end_in, enter_at, exit_at, last_ending_or, line_rest}
use Rattle.parse_raw.proofs.Prelude.{LineRest, lines, Node, one, Standing, standing, StandsAt, TextLine, unread, whole, Within, writes_around, writes_both}
use Rattle.parse_raw.proofs.Prelude.{written_to}
use Rattle.parse_raw.proofs.Bytes.{line_ending_fits}
use Rattle.parse_raw.proofs.Blank.{end_written}
use Rattle.parse_raw.proofs.MetadataLines.{AreBytes, fence_line, front_filled, front_lines, line_bytes, mid_lines, text_lines, top_line}
use Rattle.parse_raw.proofs.NextLines.{all_ok, next_written}
use Rattle.parse_raw.proofs.Nodes.{raw_append}
use Rattle.parse_raw.proofs.frontmatter.push_frontmatter.Goals as goal

none_left : (ls : List TextLine) → unread Whitespace ls ≡ [] → ls ≡ []
none_left [] none = refl
none_left (l ∷ ls) none = cc

pub returns-clause-written : goal.returns-clause-written
returns-clause-written g c =
    let old = c.args.walk.now in
    let a = c.in_line.new.self in
    let b = c.enter.new.self in
    let f = c.push_metadata_fence.new.walk in
    let l = c.push_lines.new.walk in
    let x = c.next_line.new.self in
    let h = c.push_metadata_fence-2.new.walk in
    let e = c.exit.new.self in
    let d = c.ending.new.self in
    let line = c.in_ok-in_line.ensures in
    let enter = c.in_ok-enter.ensures in
    let next = c.in_ok-next_line.ensures in
    let exit = c.in_ok-exit.ensures in
    all_ok c.ending.result
    (λ ends written kept. λ text before front others size has st top at order.
    let all = lines old.left.now in
    let fl = front_lines old.on.now all others has.found in
    let left = unread Whitespace (fl.mids ++ fl.last ∷ others) in
    let first = line_rest (whole fl.first.content) (beside_line before fl.first) in
    let last = line_rest (whole fl.last.content) (beside_line Whitespace fl.last) in
    let sizes : length fl.mids + 2 ≡ length (lines c.args.text.now) =
    omega (arith, size, ap length has.parts, length-append front others, ap length fl.parts, length-append fl.mids (fl.last ∷ others)) in
    let st_old : StandsAt text (Between (first ∷ left)) (standing old) = subst (λ (ls : List TextLine). StandsAt text (Between (unread before ls)) (standing old)) fl.parts st in
    let st_a : StandsAt text (Within first left) (standing a) =
    subst (λ (r : LineRest). StandsAt text (Within r left) (standing a)) (top_line old.on.now (standing old).outermost first top) (
    line.begun text (Between (first ∷ left)) refl st_old
    ) in
    let begun = line.written text first left st_old at order in
    let entered = enter.enters text begun.0.writes.order in
    let bytes : AreBytes old.left.now = bytes_after st.before old.left.now (subst AreBytes st.parts st.over.bytes) in
    let first_bytes = line_bytes old.left.now [] fl.first (fl.mids ++ fl.last ∷ others) fl.parts bytes in
    let last_bytes = line_bytes old.left.now (fl.first ∷ fl.mids) fl.last others fl.parts bytes in
    let opening = fence_line text fl.first.content a b f first left st_a begun.1 begun.0.writes.order refl first_bytes fl.first_is entered.order enter.stays enter.end
    c.in_ok-push_metadata_fence.ensures.written in
    let same_f = opening.same ∙ enter.stays in
    let top_f : (standing f).outermost ≡ [] = ap (λ (s : Standing). s.outermost) same_f ∙ line.around.1 ∙ top in
    let count : c.saturating_sub.result ≡ length fl.mids = omega (arith, c.saturating_sub.ensures, c.line_count.ensures, sizes) in
    let mids = mid_lines text fl.first.ending fl.mids (fl.last ∷ others) c.saturating_sub.result f l top_f count opening.stands opening.written opening.writes.order
    c.in_ok-push_lines.ensures.written in
    let passed = next_written text l x (last_ending_or fl.first.ending (text_lines fl.mids)) last (unread Whitespace others) mids.stands mids.written mids.writes.order
    next.passes next.written in
    let top_l : (standing l).outermost ≡ [] = mids.around.1 ∙ top_f in
    let st_x : StandsAt text (Within last (unread Whitespace others)) (standing x) =
    subst (λ (r : LineRest). StandsAt text (Within r (unread Whitespace others)) (standing x)) (top_line l.on.now (standing l).outermost last top_l) passed.stands in
    let closing = fence_line text fl.last.content x x h last (unread Whitespace others) st_x passed.written passed.writes.order refl last_bytes fl.last_is
    passed.writes.order refl refl c.in_ok-push_metadata_fence-2.ensures.written in
    let kids = append opening.nodes (append mids.nodes (append passed.nodes closing.nodes)) in
    let all_kids = writes_both text b.out f.out h.out opening.nodes (append mids.nodes (append passed.nodes closing.nodes)) opening.writes (
    writes_both text f.out l.out h.out mids.nodes (append passed.nodes closing.nodes) mids.writes (
    writes_both text l.out x.out h.out passed.nodes closing.nodes passed.writes closing.writes
    )) in
    let raw = raw_append opening.nodes (append mids.nodes (append passed.nodes closing.nodes)) opening.raw (
    raw_append mids.nodes (append passed.nodes closing.nodes) mids.raw (raw_append passed.nodes closing.nodes passed.raw closing.raw)) in
    let exited = exit.exits text closing.writes.order in
    let node = Around (enter_at text n.Frontmatter (end_in a.out)) kids (exit_at text n.Frontmatter (end_in h.out)) in
    let whole_node = writes_around text a.out b.out h.out e.out n.Frontmatter kids entered all_kids exited in
    let st_e = subst (StandsAt text (AtEnding fl.last.ending (unread Whitespace others))) (sym exit.stays) closing.stands in
    let end_e : written_to e ≡ end_at e.line_end 0 =
    exit.end ∙ closing.written ∙ ap (λ (s : Standing). end_at s.line_end 0) (sym exit.stays) in
    let done = end_written text n.LineEnding e d fl.last.ending (unread Whitespace others) refl line_ending_fits st_e end_e exited.order written in
    record {
      before = begun.0.nodes;
      are_quiet = begun.0.quiet;
      node = node;
      is_front = refl;
      filled =
          front_filled text (end_in a.out) (end_in h.out) opening.nodes mids.nodes passed.nodes closing.nodes opening.fill mids.fill passed.fill closing.fill;
      definitions = ap (λ (ns : List Node). ns ++ []) raw.definitions;
      ending = fl.last.ending;
      nodes = done.nodes;
      are_ending = done.are_ending;
      last = λ none. none_left others (st_e.unread ∙ ap (λ (xs : List ℕ). unread Whitespace (lines xs)) (st_e.line.last (st_e.ending ∙ none)));
      writes = writes_both text old.out a.out d.out begun.0.nodes (append (one node) done.nodes) begun.0.writes (
          writes_both text a.out e.out d.out (one node) done.nodes whole_node done.writes);
      stands = ends text fl.last.ending (unread Whitespace others) st_e;
      around = (
        kept.0 ∙ ap (λ (s : Standing). s.on) (exit.stays ∙ closing.same) ∙ next.around.0 ∙ mids.around.0 ∙ ap (λ (s : Standing). s.on) same_f ∙ line.around.0,
        kept.1 ∙ ap (λ (s : Standing). s.outermost) (exit.stays ∙ closing.same) ∙ next.around.1 ∙ mids.around.1 ∙ ap (λ (s : Standing). s.outermost) same_f
            ∙ line.around.1,
      );
      written = done.written;
    })
    c.ending.ensures.ends c.ending.ensures.written c.ending.ensures.around
