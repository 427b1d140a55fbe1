use Rattle.std.proofs.Common.{◌≡◌, ◌≤◌, ℕ, true, refl, sym, ap, ◌∙◌, subst, length, arith}
use Rattle.std.specs.Prelude.{◌-◌}
use Rattle.engine_events.specs.declared.event.Name.TheVariants.{SpaceOrTab}
use Rattle.parse_lines.proofs.Prelude.{bare, bytes_of, container_line, End, end_at, Follows, indent, is_white, list_all, Nil, Nodes, one, Rest, rest_of, rest_start}
use Rattle.parse_lines.proofs.Prelude.{Standing, text_between, Writes, writes_both, written_to}
use Rattle.parse_lines.proofs.Quiet.{no_void, quiet_both, quiet_prefix, quiet_space, white_self}
use Rattle.parse_lines.proofs.Steps.{both_ok}
use Rattle.parse_lines.proofs.Suffixes.{IsAfterWhite, quote_starts}
use Rattle.parse_lines.proofs.Written.{bare_follows, bare_follows_self, bare_start, bare_white, quote_inner, space_pieces}
use Rattle.parse_lines.proofs.White.{all_prefix}
use Rattle.event_definition.specs.BlockQuote.{quote_mark}
use Rattle.event_definition.specs.Pieces.{token}
use Rattle.event_definition.specs.Written.{white_ahead}
use Rattle.parse_pieces.proofs.Written.{pieces_both}
use Rattle.parse_pieces.specs.Written.{WritesPieces}
use Rattle.parse_lines.proofs.LinePieces.{before_take}
use Rattle.parse_lines.proofs.walk.Walk.quote_prefix.Goals as goal

pub returns-clause-written : goal.returns-clause-written
returns-clause-written g c =
    let old = c.args.self.now in
    let white = c.in_ok-_bare.ensures in
    let enter = c.in_ok-enter.ensures in
    let marker = c.in_ok-token.ensures in
    let space = c.in_ok-space_to.ensures in
    let start = rest_of old.rest in
    let rest = rest_of c.args.after in
    let end = ap (λ (s : Standing). s.line_end) (marker.stays ∙ enter.stays ∙ white.stays) in
    let to = ap (λ (k : ℕ). rest_start k rest) end in
    let bare_end = end_at (old.line_end - length (bytes_of (bare start))) 0 in
    both_ok c.exit.result
    (λ exits exit_end. λ text before content after n kind at is.
    let bare_is = bare_start text before content after n old.line_end start bare_end refl in
    let follows = bare_follows text before content after n old.line_end start bare_end at.line at.end at.rest bare_is in
    let onward = subst (λ (x : End). Follows text x bare_end) (sym at.written) follows in
    let white_is = subst (λ (x : End). list_all is_white (text_between text x bare_end) ≡ true) (sym at.written)
    (bare_white text before content after n old.line_end start bare_end at.line at.end at.rest bare_is) in
    let first = white.written text at.order (record { follows = onward; bytes = λ apart. white_is }) in
    let inner = quote_inner text before content after n old.line_end start rest old.on.now (container_line rest kind) c.white.new.self.out
    c.enter.new.self.out c.token.new.self.out c.space_to.new.self.out c.exit.new.self.out
    bare_end (rest_start c.token.new.self.line_end rest) at.line at.end at.rest first.order is refl refl to white.end (enter.enters text) enter.end
    (λ fits. marker.written fits text) marker.end (space.written text) (exits text) space.end exit_end in (
      quiet_both text old.out c.white.new.self.out c.exit.new.self.out (quiet_space text old.out c.white.new.self.out (written_to old) bare_end
          onward white_is first)
          (quiet_prefix text c.white.new.self.out c.exit.new.self.out inner.0 inner.1 inner.2),
      exit_end ∙ space.end ∙ to,
    ))
    c.exit.ensures.exits c.exit.ensures.end

pub returns-clause-marked : goal.returns-clause-marked
returns-clause-marked g c =
    let old = c.args.self.now in
    let white = c.in_ok-_bare.ensures in
    let enter = c.in_ok-enter.ensures in
    let marker = c.in_ok-token.ensures in
    let space = c.in_ok-space_to.ensures in
    let start = rest_of old.rest in
    let rest = rest_of c.args.after in
    let end = ap (λ (s : Standing). s.line_end) (marker.stays ∙ enter.stays ∙ white.stays) in
    let to = ap (λ (k : ℕ). rest_start k rest) end in
    let bare_end = end_at (old.line_end - length (bytes_of (bare start))) 0 in
    both_ok c.exit.result
    (λ exits exit_end. λ text before content after n kind line line_is at written order found.
    let is = quote_starts old.on.now start rest kind found in
    let bare_is = bare_start text before content after n old.line_end start bare_end refl in
    let from : written_to old ≡ bare_end = written ∙ sym bare_is in
    let follows = bare_follows_self text before content after n old.line_end start bare_end line line_is at bare_is in
    let first =
    white.written text order (record {
      follows = subst (λ (x : End). Follows text x bare_end) (sym from) follows;
      bytes = λ apart. white_self text (written_to old) bare_end from;
    }) in
    let none = subst (λ (ns : Nodes). Writes text old.out c.white.new.self.out ns) (no_void text SpaceOrTab (written_to old) bare_end from) first in
    let inner = quote_inner text before content after n old.line_end start rest old.on.now (container_line rest kind) c.white.new.self.out
    c.enter.new.self.out c.token.new.self.out c.space_to.new.self.out c.exit.new.self.out
    bare_end (rest_start c.token.new.self.line_end rest) line line_is at first.order is refl refl to white.end (enter.enters text) enter.end
    (λ fits. marker.written fits text) marker.end (space.written text) (exits text) space.end exit_end in (
      inner.0,
      inner.1,
      writes_both text old.out c.white.new.self.out c.exit.new.self.out Nil (one inner.0) none inner.2,
      exit_end ∙ space.end ∙ to,
    ))
    c.exit.ensures.exits c.exit.ensures.end

pub returns-clause-exact : goal.returns-clause-exact
returns-clause-exact g c =
    let old = c.args.self.now in
    let white = c.in_ok-_bare.ensures in
    let enter = c.in_ok-enter.ensures in
    let marker = c.in_ok-token.ensures in
    let space = c.in_ok-space_to.ensures in
    let start = rest_of old.rest in
    let rest = rest_of c.args.after in
    let end = ap (λ (s : Standing). s.line_end) (marker.stays ∙ enter.stays ∙ white.stays) in
    let to = ap (λ (k : ℕ). rest_start k rest) end in
    let bare_end = end_at (old.line_end - length (bytes_of (bare start))) 0 in
    both_ok c.exit.result
    (λ exits exit_end. λ text before content after n kind at is.
    let bare_is = bare_start text before content after n old.line_end start bare_end refl in
    let further : IsAfterWhite (bare start) start =
    record { count = indent start; is = refl; white = all_prefix is_white (indent start) start (let same : indent start ≤ indent start = omega arith in same) } in
    let first = space_pieces text before content after n old.line_end start (bare start) old.out c.white.new.self.out bare_end at.line at.end at.rest at.written
    at.order further bare_is (white.written text) white.end in
    let inner = quote_inner text before content after n old.line_end start rest old.on.now (container_line rest kind) c.white.new.self.out
    c.enter.new.self.out c.token.new.self.out c.space_to.new.self.out c.exit.new.self.out
    bare_end (rest_start c.token.new.self.line_end rest) at.line at.end at.rest first.writes.order is refl refl to white.end (enter.enters text) enter.end
    (λ fits. marker.written fits text) marker.end (space.written text) (exits text) space.end exit_end in
    pieces_both text (white_ahead start) (quote_mark (bare start) rest) old.out c.white.new.self.out c.exit.new.self.out
    (subst (λ (xs : Rest). WritesPieces text (token SpaceOrTab xs) old.out c.white.new.self.out) (before_take (indent start) start) first) inner.3)
    c.exit.ensures.exits c.exit.ensures.end
