use Rattle.std.proofs.Common.{sym, ap, ◌∙◌, ◌+◌, false, arith}
use Rattle.std.proofs.lemmas.List.{take_rest}
use Rattle.block_cells.proofs.Prelude.{bar_at}
use Rattle.block_cells.proofs.Bars.{bar_from, no_bar, bar_first, bar_room}
use Rattle.block_cells.proofs.gfm_table.bar_place.Goals as goal
use Rattle.block_cells.proofs.gfm_table.bar_place.Goals.{else-place-bytes-via-then-place-bytes+else-bytes-place-eq92, else-place-bytes-via-else-place-bytes}

pub overflow_add-result : goal.overflow_add-result
overflow_add-result c =
    let bytes = c.args.bytes.now in
    let place = c.next_of-place.result in
    let rest = c.bar_place_one_by_one.ensures ∙ ap (bar_at false) (take_rest bytes place) in
    omega (arith, bar_room bytes place c.next_of-place.ensures, rest)

pub returns-then-bytes-place-eq92 : goal.returns-then-bytes-place-eq92
returns-then-bytes-place-eq92 c =
    let bytes = c.args.bytes.now in
    let place = c.next_of-place.result in
    let rest = c.bar_place_one_by_one.ensures ∙ ap (bar_at false) (take_rest bytes place) in
    ap (λ k. place + k) rest ∙ sym (bar_from bytes place c.next_of-place.ensures)

pub returns-else-place-bytes : goal.returns-else-place-bytes
returns-else-place-bytes c =
    let bytes = c.args.bytes.now in
    let place = c.next_of-place.result in
    elim c.else-place-bytes.branch [
      | else-place-bytes-via-then-place-bytes+else-bytes-place-eq92 w ↦ bar_first bytes place c.next_of-place.ensures w.if-place-bytes.true
          w.if-bytes-place-eq92.false
      | else-place-bytes-via-else-place-bytes w ↦ no_bar bytes place c.next_of-place.ensures w.if-place-bytes.false
    ]
