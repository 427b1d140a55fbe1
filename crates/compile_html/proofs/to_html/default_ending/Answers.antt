use Rattle.std.proofs.Common.{◌≡◌, ℕ, List, Option, Some, sym, ap, ◌∙◌, unwrap_or, drop}
use Rattle.compile_html.proofs.Prelude.{first_line, is_of_pair, LineEnding, position_or_len, without_mark}
use Rattle.compile_html.proofs.Endings.{ends, first_ending, ending_here, none_here, feed_at, both_at, alone_at, last_at}
use Rattle.compile_html.proofs.to_html.default_ending.Goals as goal
use Rattle.compile_html.proofs.to_html.default_ending.Goals.{else-end-bytes-2-via-then-end-bytes-2+else-bytes-end-eq10-2, else-end-bytes-2-via-else-end-bytes-2}

-- the ending by what the bytes from an index on begin with
found : (bytes : List ℕ) (k : ℕ) (o : Option LineEnding) (other : LineEnding) → k ≡ position_or_len (is_of_pair ends) bytes → ending_here (drop k bytes) ≡ o
    → unwrap_or o other ≡ unwrap_or (first_line (without_mark bytes)).ending other
found bytes k o other at here =
    sym (ap (λ (x : Option LineEnding). unwrap_or x other) (first_ending bytes ∙ ap (λ (i : ℕ). ending_here (drop i bytes)) (sym at) ∙ here))

pub returns-then-end-bytes : goal.returns-then-end-bytes
returns-then-end-bytes c =
    let bytes = c.args.bytes.now in
    found bytes c.next_of-end.result _ c.args.other c.next_of-end.ensures (none_here bytes c.next_of-end.result c.if-end-bytes.true)

pub returns-then-bytes-end-eq10 : goal.returns-then-bytes-end-eq10
returns-then-bytes-end-eq10 c =
    let bytes = c.args.bytes.now in
    found bytes c.next_of-end.result _ c.args.other c.next_of-end.ensures (feed_at bytes c.next_of-end.result c.if-end-bytes.false c.if-bytes-end-eq10.true)

pub returns-then-bytes-end-eq10-2 : goal.returns-then-bytes-end-eq10-2
returns-then-bytes-end-eq10-2 c =
    let bytes = c.args.bytes.now in
    found bytes c.next_of-end.result _ c.args.other c.next_of-end.ensures
    (both_at bytes c.next_of-end.result c.if-end-bytes-2.true c.if-bytes-end-eq10.false c.if-bytes-end-eq10-2.true)

pub returns-else-end-bytes-2 : goal.returns-else-end-bytes-2
returns-else-end-bytes-2 c =
    let bytes = c.args.bytes.now in
    let k = c.next_of-end.result in
    elim c.else-end-bytes-2.branch [
      | else-end-bytes-2-via-then-end-bytes-2+else-bytes-end-eq10-2 w ↦
          found bytes k _ c.args.other c.next_of-end.ensures (alone_at bytes k w.if-end-bytes-2.true c.if-bytes-end-eq10.false w.if-bytes-end-eq10-2.false)
      | else-end-bytes-2-via-else-end-bytes-2 w ↦
          found bytes k _ c.args.other c.next_of-end.ensures (last_at bytes k c.if-end-bytes.false w.if-end-bytes-2.false c.if-bytes-end-eq10.false)
    ]
