use Rattle.std.proofs.Common.{◌≡◌, ℕ, List, refl, sym, ap, subst, ◌∙◌, arith, drop}
use Rattle.engine_events.specs.declared.event.Name.TheVariants as n
use Rattle.definition_page.specs.Page as page
use Rattle.parse_raw.proofs.Prelude.{AreLeft, bare, bytes_of, end_at, line_left, Prefixed, Rest, rest_of, standing, Standing}
use Rattle.parse_raw.specs.Bytes.{AreBreak}
use Rattle.event_grammar.specs.declared.slot.Between.TheVariants.{Lines}
use Rattle.event_grammar.specs.declared.slot.Form.TheVariants.{Plain}
use Rattle.parse_slots.proofs.Steps.{filled_by}
use Rattle.parse_references.proofs.Sound.{sound_filled}
use Rattle.parse_raw.proofs.Prelude.{Around, end_in, enter_at, exit_at}
use Rattle.parse_raw.specs.Tokens.{BeginsDark, break_rest, PassesBreakPart}
use Rattle.parse_raw.proofs.Breaks.{parts_filled, parts_more, parts_none}
use Rattle.parse_raw.proofs.LeafNodes.{leaf_written, stands_here, white_written}
use Rattle.parse_raw.proofs.NextLines.{all_ok, no_bytes_left, some_length}
use Rattle.parse_raw.proofs.Runs.{break_drop, break_of}
use Rattle.parse_raw.proofs.Tokens.{left_none, left_same}
use Rattle.std.proofs.Common.{[]}
use Rattle.event_definition.specs.Pieces.{Pieces, around, grouped, join, token}
use Rattle.event_definition.specs.ThematicBreak.{break_name}
use Rattle.event_definition.specs.Written.{before_rest}
use Rattle.parse_pieces.proofs.Sizes.{join_nil}
use Rattle.parse_pieces.proofs.Written.{pieces_around, pieces_both}
use Rattle.parse_pieces.specs.Written.{WritesPieces}
use Rattle.parse_lines.specs.Pieces.{left_at_ending}
use Rattle.parse_raw.proofs.BreakPieces.{no_bytes_here}
use Rattle.parse_raw.proofs.thematic_break.push_thematic_break.Goals as goal

pub loop-rest-init : goal.loop-rest-init
loop-rest-init g c = record { «open» = refl; on = λ marker are. (are, parts_none c.as_bytes-rest.result.now c.enter.new.self) }

pub loop-rest-preserved : goal.loop-rest-preserved
loop-rest-preserved g c =
    let part = c.in_ok-size.ensures in
    let rest = c.loop-rest.rest.now in
    let some = part.some (some_length rest c.loop-rest-test.ensures) in
    let max = c.max.ensures in
    let size : c.max.result ≡ c.in_ok-size.size = omega (arith, some, max) in
    let left : drop c.in_ok-size.size rest ≡ c.bytes_from-rest.result.now =
    ap (λ (k : ℕ). drop k rest) (sym size) ∙ sym c.bytes_from-rest.ensures.rest in
    record {
      «open» = part.open ∙ c.loop-rest.invariant.open;
      on = λ marker are.
          let before = c.loop-rest.invariant.on marker are in (
            subst (AreBreak marker) left (break_drop marker c.in_ok-size.size rest before.0),
            parts_more c.as_bytes-rest.result.now rest c.bytes_from-rest.result.now c.enter.new.self c.loop-rest.walk c.push_part.new.walk before.1
                (subst (λ (bs : List ℕ). PassesBreakPart rest bs c.loop-rest.walk c.push_part.new.walk) left (part.written marker before.0)),
          );
    }

pub returns-clause-written : goal.returns-clause-written
returns-clause-written g c =
    let old = c.args.walk.now in
    let a = c.white.new.self in
    let b = c.enter.new.self in
    let d = c.exit.new.self in
    let white = c.in_ok-white.ensures in
    let enter = c.in_ok-enter.ensures in
    all_ok c.exit.result
    (λ exits end stays. λ r first text top here left to st at order by laid.
    let space = white_written text old a here left st at order white.stays white.end white.written in
    let entered = enter.enters text space.quiet.writes.order in
    let bytes = c.as_bytes-rest.ensures.value ∙ white.bare in
    let left_b = left_same text _ a b space.after entered.order enter.stays enter.end in
    let rest_is : rest_of old.rest ≡ laid.0.rest = st.rest ∙ ap (λ (p : Prefixed). (line_left p).rest) laid.2.0 in
    let is = break_of old.on.now laid.0.rest laid.3 in
    let same_bytes = sym (bytes ∙ ap (λ (r : Rest). bytes_of (bare r)) rest_is) in
    let are = subst (AreBreak is.marker) same_bytes is.are in
    let parts = (c.loop-rest.invariant.on is.marker are).1 text (subst (λ (bs : List ℕ). AreLeft text bs b) (sym bytes) left_b) in
    let kids = parts.tokens in
    let same = stays ∙ kids.same ∙ enter.stays ∙ white.stays in
    let line_end = ap (λ (s : Standing). s.line_end) stays in
    let none = no_bytes_left c.loop-rest.rest.now c.loop-rest-test.ensures in
    let node = Around (enter_at text n.ThematicBreak (end_in a.out)) kids.nodes (exit_at text n.ThematicBreak (end_in c.loop-rest.walk.out)) in
    let filled = filled_by Lines Plain n.ThematicBreak break_rest node refl
    (parts_filled text c.as_bytes-rest.result.now c.loop-rest.rest.now b c.loop-rest.walk parts (subst BeginsDark same_bytes is.dark) none) refl in
    leaf_written text r.parse.constructs r.tables.names top page.Break to old a b c.loop-rest.walk d n.ThematicBreak kids.nodes space.quiet entered kids.writes
    (exits text kids.writes.order) refl refl refl kids.raw.definitions (λ m m'. (tt, tt))
    (stands_here text here laid.0 left laid.1 to (standing old) (standing d) st laid.2.0 laid.2.1 laid.4 same)
    (ap (λ (s : Standing). s.on) same, ap (λ (s : Standing). s.outermost) same) end
    (left_none text _ c.loop-rest.walk none kids.after ∙ ap (λ (k : ℕ). end_at k 0) (sym line_end)) space.starts space.begins
    filled (sound_filled r.parse.constructs r.tables.names text 2 Lines Plain n.ThematicBreak node refl refl filled))
    c.exit.ensures.exits c.exit.ensures.end c.exit.ensures.stays

pub returns-clause-exact : goal.returns-clause-exact
returns-clause-exact g c =
    let old = c.args.walk.now in
    let a = c.white.new.self in
    let b = c.enter.new.self in
    let l = c.loop-rest.walk in
    let d = c.exit.new.self in
    let white = c.in_ok-white.ensures in
    let enter = c.in_ok-enter.ensures in
    let start = rest_of old.rest in
    all_ok c.exit.result
    (λ exits end stays. λ r first text here left to st at order by laid.
    let space = white_written text old a here left st at order white.stays white.end white.written in
    let entered = enter.enters text space.quiet.writes.order in
    let bytes = c.as_bytes-rest.ensures.value ∙ white.bare in
    let left_b = left_same text _ a b space.after entered.order enter.stays enter.end in
    let rest_is : start ≡ laid.0.rest = st.rest ∙ ap (λ (p : Prefixed). (line_left p).rest) laid.2.0 in
    let is = break_of old.on.now laid.0.rest laid.3 in
    let same_bytes = sym (bytes ∙ ap (λ (r : Rest). bytes_of (bare r)) rest_is) in
    let parts = (c.loop-rest.invariant.on is.marker (subst (AreBreak is.marker) same_bytes is.are)).1 text
    (subst (λ (bs : List ℕ). AreLeft text bs b) (sym bytes) left_b) in
    let none : c.loop-rest.rest.now ≡ [] = no_bytes_here c.loop-rest.rest.now (no_bytes_left c.loop-rest.rest.now c.loop-rest-test.ensures) in
    let all : parts.front ≡ grouped break_name (bytes_of (bare start)) =
    sym (join_nil parts.front) ∙ ap (λ (bs : List ℕ). join parts.front (grouped break_name bs)) (sym none) ∙ sym parts.parts ∙ ap (grouped break_name) bytes in
    let kids = subst (λ (ps : Pieces). WritesPieces text ps b.out l.out) all parts.exact in
    let inner = pieces_around text n.ThematicBreak (grouped break_name (bytes_of (bare start))) a.out b.out l.out d.out refl entered enter.end kids
    (exits text parts.tokens.writes.order) end in
    let same = stays ∙ parts.tokens.same ∙ enter.stays ∙ white.stays in
    record {
      pieces =
          pieces_both text (token n.SpaceOrTab (before_rest start (bare start)))
          (around n.ThematicBreak (grouped break_name (bytes_of (bare start)))) old.out a.out d.out space.exact inner;
      left = ap left_at_ending same;
    })
    c.exit.ensures.exits c.exit.ensures.end c.exit.ensures.stays
