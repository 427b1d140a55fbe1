use Rattle.std.proofs.Common.{◌<◌, ◌≤◌, length, subst, sym}
use Rattle.inline_addresses.specs.Addresses.{EndsLine}
use Rattle.inline_addresses.proofs.LineEnding.{feed_ends, no_feed}
use Rattle.inline_addresses.proofs.walk.first_line_feed.Goals as goal

pub returns-then-end-bytes : goal.returns-then-end-bytes
returns-then-end-bytes c =
    let bytes = c.args.bytes.now in
    subst (EndsLine bytes) (sym c.next_of-end.ensures) (feed_ends bytes (subst (λ n. n < length bytes) c.next_of-end.ensures c.if-end-bytes.true))

pub returns-else-end-bytes : goal.returns-else-end-bytes
returns-else-end-bytes c =
    let bytes = c.args.bytes.now in
    no_feed bytes (subst (λ n. length bytes ≤ n) c.next_of-end.ensures c.if-end-bytes.false)
