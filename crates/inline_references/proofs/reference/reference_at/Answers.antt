use Rattle.std.proofs.Common.{◌≡◌, ◌<◌, ◌≤◌, ◌+◌, ◌-◌, true, length, get_or, drop, take, arith, subst, sym, ap, ◌∙◌}
use Rattle.std.specs.List.{list_all, prefix_len}
use Rattle.std.proofs.lemmas.Bool.Decides.{nat_tests}
use Rattle.std.proofs.lemmas.List.{length-drop, get_or-drop, take_rest}
use Rattle.std.proofs.lemmas.List.Sums.{prefix_len-le-length, prefix_len_passes}
use Rattle.inline_references.specs.Markers.{is_value_byte}
use Rattle.inline_references.proofs.Marked.{IsSized, closed_read, unclosed, unsized}
use Rattle.inline_references.proofs.Values.{value_byte_ascii}
use Rattle.inline_references.proofs.Written.{taken_pass}
use Rattle.inline_references.proofs.reference.reference_at.Goals as goal
use Rattle.inline_references.proofs.reference.reference_at.Goals.{else-size-ge1-via-then-size-ge1+then-size-value_max+then-end-bytes+else-bytes-end-eq59}
use Rattle.inline_references.proofs.reference.reference_at.Goals.{else-size-ge1-via-then-size-ge1+then-size-value_max+else-end-bytes}
use Rattle.inline_references.proofs.reference.reference_at.Goals.{else-size-ge1-via-then-size-ge1+else-size-value_max, else-size-ge1-via-else-size-ge1}

pub overflow_add-end : goal.overflow_add-end
overflow_add-end c =
    let bytes = c.args.bytes.now in
    let start = c.marker_size-start.result in
    let within = c.marker_of-marker.ensures.within in
    let rest = take_rest bytes start in
    let size : c.value_len-size.result ≤ length (drop start bytes) =
    subst (λ n. n ≤ length (drop start bytes)) (sym c.value_len-size.ensures)
    (rw rest (prefix_len-le-length (is_value_byte c.marker_of-marker.result) (drop start bytes))) in
    omega (arith, length-drop start bytes)

pub returns-then-bytes-end-eq59-clause-place : goal.returns-then-bytes-end-eq59-clause-place
returns-then-bytes-end-eq59-clause-place c =
    let bytes = c.args.bytes.now in
    let start = c.marker_size-start.result in
    let from = drop start bytes in
    let test = is_value_byte c.marker_of-marker.result in
    let size : c.value_len-size.result ≡ prefix_len test from = c.value_len-size.ensures ∙ ap (prefix_len test) (take_rest bytes start) in
    let passes : test (get_or from 0 0) ≡ true = prefix_len_passes test from 0 0 (omega arith) in
    let e : get_or from 0 0 ≡ get_or bytes (start + 0) 0 = get_or-drop start bytes 0 0 in
    let place : start + 0 ≡ start = omega arith in
    let taken : prefix_len test from ≡ start + c.value_len-size.result - start = omega arith in
    record {
      marker = c.marker_of-marker.ensures.marker;
      start = c.marker_size-start.ensures;
      nonempty = omega arith;
      bounded = omega arith;
      value = subst (λ n. list_all test (take n from) ≡ true) taken (taken_pass test from);
      within = omega arith;
      first = subst (λ b. b < 128) (e ∙ ap (λ k. get_or bytes k 0) place) (value_byte_ascii c.marker_of-marker.result _ passes);
      semicolon = c.if-bytes-end-eq59.true;
    }

pub returns-then-bytes-end-eq59-clause-read : goal.returns-then-bytes-end-eq59-clause-read
returns-then-bytes-end-eq59-clause-read c =
    let bytes = c.args.bytes.now in
    let start = c.marker_size-start.result in
    let test = is_value_byte c.marker_of-marker.result in
    let size : c.value_len-size.result ≡ prefix_len test (drop start bytes) = c.value_len-size.ensures ∙ ap (prefix_len test) (take_rest bytes start) in
    let taken : start + c.value_len-size.result - start ≡ c.value_len-size.result = omega arith in
    closed_read bytes _ (returns-then-bytes-end-eq59-clause-place c) (taken ∙ size)

pub returns-else-size-ge1-clause-read : goal.returns-else-size-ge1-clause-read
returns-else-size-ge1-clause-read c =
    let bytes = c.args.bytes.now in
    let marker = c.marker_of-marker.result in
    let start = c.marker_size-start.result in
    let size = c.value_len-size.result in
    let sized : IsSized bytes marker start size = record {
      marker_is = c.marker_of-marker.ensures.marker;
      start_is = c.marker_size-start.ensures;
      size_is = c.value_len-size.ensures ∙ ap (prefix_len (is_value_byte marker)) (take_rest bytes start);
    } in
    elim c.else-size-ge1.branch [
      | else-size-ge1-via-then-size-ge1+then-size-value_max+then-end-bytes+else-bytes-end-eq59 w ↦ unclosed bytes marker start size sized
          (λ lt e. w.if-bytes-end-eq59.false e)
      | else-size-ge1-via-then-size-ge1+then-size-value_max+else-end-bytes w ↦ unclosed bytes marker start size sized
          (λ lt e. omega (arith, w.if-end-bytes.false))
      | else-size-ge1-via-then-size-ge1+else-size-value_max w ↦ unsized bytes marker start size sized
          (grind (arith, nat_tests, w.value_max.ensures, w.if-size-value_max.false))
      | else-size-ge1-via-else-size-ge1 w ↦ unsized bytes marker start size sized (grind (arith, nat_tests, w.if-size-ge1.false))
    ]
