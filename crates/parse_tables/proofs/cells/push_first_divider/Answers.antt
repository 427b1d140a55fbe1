use Rattle.std.proofs.Common.{ℕ, List, ap, sym, ◌∙◌}
use Rattle.parse_tables.proofs.Prelude.{slice_index}
use Rattle.parse_tables.proofs.CellsWritten.{first_bar, no_first_bar, token_ended}
use Rattle.parse_tables.proofs.cells.push_first_divider.Goals as goal

pub returns-then-first-ne124-clause-written : goal.returns-then-first-ne124-clause-written
returns-then-first-ne124-clause-written g c =
    no_first_bar c.args.bytes.now c.white_size-white.result c.white_size-white.ensures.size c.args.walk.now
    (λ bar. c.if-first-ne124.true (c.first.ensures ∙ ap (λ (xs : List ℕ). slice_index xs 0) c.bytes_from.ensures.rest ∙ bar))

pub returns-clause-written : goal.returns-clause-written
returns-clause-written g c =
    token_ended c.token-2.result c.token-2.ensures.stays c.token-2.ensures.end c.token-2.ensures.written
    (λ divider.
    first_bar c.args.bytes.now c.white_size-white.result c.white_size-white.ensures.size c.args.walk.now c.token.new.self c.token-2.new.self
    (ap (λ (xs : List ℕ). slice_index xs 0) (sym c.bytes_from.ensures.rest) ∙ sym c.first.ensures ∙ c.if-first-ne124.false)
    (let e = c.in_ok-token.ensures in record { stays = e.stays; end = e.end; written = e.written }) divider)
