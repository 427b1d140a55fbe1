use Rattle.std.proofs.Common.{◌≡◌, ◌+◌, ◌∙◌, not, sym, ap, arith, inl, inr}
use Rattle.std.proofs.lemmas.Bool.{cases_lt}
use Rattle.std.proofs.lemmas.List.{take_rest}
use Rattle.std.proofs.lemmas.List.Sums.{position_or_len_is, prefix_len-le-length}
use Rattle.std.specs.List.{position_or_len}
use Rattle.text_search.specs.Pairs.{is_of_pair}
use Rattle.text_search.proofs.After.{first_from}
use Rattle.text_search.proofs.pair.next_far.Goals as goal

pub returns-then-run-lt-FAR_LANES : goal.returns-then-run-lt-FAR_LANES
returns-then-run-lt-FAR_LANES c =
    let run = c.far_run-run.ensures in
    sym (position_or_len_is (is_of_pair c.args.pair) c.args.bytes.now (c.by_block.at + c.far_run-run.result) 0
    (omega (arith, run.within, c.by_block.invariant.0, c.by_block-test.true))
    (λ k below. elim (cases_lt k c.by_block.at) [ inl early ↦ c.by_block.invariant.1 k early | inr late ↦ run.passed k late below ])
    (λ inside. run.hit c.if-run-lt-FAR_LANES.true))

pub overflow_add-result-2 : goal.overflow_add-result-2
overflow_add-result-2 c =
    let test = is_of_pair c.args.pair in
    let bytes = c.args.bytes.now in
    let at = c.by_block.at in
    let found : at + c.next_of.result ≡ position_or_len test bytes =
    first_from test bytes at c.next_of.result c.by_block.invariant.0 c.by_block.invariant.1
    (c.next_of.ensures ∙ ap (position_or_len test) (take_rest bytes at)) in
    omega (arith, found, prefix_len-le-length (λ byte. not (test byte)) bytes)

pub returns : goal.returns
returns c =
    let test = is_of_pair c.args.pair in
    let bytes = c.args.bytes.now in
    let at = c.by_block.at in
    first_from test bytes at c.next_of.result c.by_block.invariant.0 c.by_block.invariant.1
    (c.next_of.ensures ∙ ap (position_or_len test) (take_rest bytes at))
