use Rattle.std.proofs.Common.{◌≡◌, false, Some, refl, sym, subst}
use Rattle.parse_lines.proofs.Prelude.{CodeContainer, container_line, container_view, continues, rest_of, rest_start, Walk, WritesQuiet, written_to}
use Rattle.parse_lines.proofs.Suffixes.{continues_white}
use Rattle.parse_lines.proofs.Containers.{no_quote}
use Rattle.parse_lines.proofs.Written.{space_pieces, space_written}
use Rattle.event_definition.specs.Containers.{prefix_pieces}
use Rattle.event_definition.specs.Pieces.{Pieces}
use Rattle.parse_pieces.specs.Written.{WritesPieces}
use Rattle.parse_lines.proofs.LinePieces.{other_prefix}
use Rattle.parse_lines.proofs.walk.Walk.prefix.Goals as goal
use Rattle.parse_lines.proofs.walk.Walk.prefix.Goals.{in-Quote+in_ok-quote_prefix-in-Quote, in_default+in_ok-space_to-in_default}

pub returns-clause-written : goal.returns-clause-written
returns-clause-written g c text before content after n kind at is =
    let old = c.args.self.now in
    let rest = rest_of c.args.after in
    let to = rest_start old.line_end rest in
    elim c.match-container.branch [
      | in-Quote+in_ok-quote_prefix-in-Quote w ↦
          let way = subst
          (λ (k : CodeContainer). continues old.on.now (container_view k) false (rest_of old.rest) ≡ Some (container_line rest kind))
          w.in-Quote.is is in
          subst (λ (x : Walk g.row.A.Denot). WritesQuiet text old.out x.out × (written_to x ≡ to)) (sym w.self-is)
          (w.in_ok-quote_prefix-in-Quote.ensures.written text before content after n kind at way)
      | in_default+in_ok-space_to-in_default w ↦
          let space = w.in_ok-space_to-in_default.ensures in
          let other = no_quote c.args.container w.in_default.not-Quote in
          let further = continues_white old.on.now (container_view c.args.container) (rest_of old.rest) (container_line rest kind) other is in
          subst (λ (x : Walk g.row.A.Denot). WritesQuiet text old.out x.out × (written_to x ≡ to)) (sym w.self-is) (
            space_written text before content after n old.line_end (rest_of old.rest) rest old.out w.space_to.new.self.out to at.line at.end at.rest at.written
                at.order further refl (space.written text),
            space.end,
          )
    ]

pub returns-clause-exact : goal.returns-clause-exact
returns-clause-exact g c text before content after n kind at is =
    let old = c.args.self.now in
    let start = rest_of old.rest in
    let rest = rest_of c.args.after in
    elim c.match-container.branch [
      | in-Quote+in_ok-quote_prefix-in-Quote w ↦
          let way = subst
          (λ (k : CodeContainer). continues old.on.now (container_view k) false (rest_of old.rest) ≡ Some (container_line rest kind))
          w.in-Quote.is is in
          subst (λ (x : Walk g.row.A.Denot). WritesPieces text (prefix_pieces (container_view c.args.container) start rest) old.out x.out) (sym w.self-is)
          (subst (λ (k : CodeContainer). WritesPieces text (prefix_pieces (container_view k) start rest) old.out w.quote_prefix.new.self.out) (sym w.in-Quote.is)
          (w.in_ok-quote_prefix-in-Quote.ensures.exact text before content after n kind at way))
      | in_default+in_ok-space_to-in_default w ↦
          let space = w.in_ok-space_to-in_default.ensures in
          let other = no_quote c.args.container w.in_default.not-Quote in
          let further = continues_white old.on.now (container_view c.args.container) start (container_line rest kind) other is in
          subst (λ (x : Walk g.row.A.Denot). WritesPieces text (prefix_pieces (container_view c.args.container) start rest) old.out x.out) (sym w.self-is)
          (subst (λ (ps : Pieces). WritesPieces text ps old.out w.space_to.new.self.out) (sym (other_prefix (container_view c.args.container) start rest other))
          (space_pieces text before content after n old.line_end start rest old.out w.space_to.new.self.out (rest_start old.line_end rest) at.line at.end at.rest
          at.written at.order further refl (space.written text) space.end))
    ]
