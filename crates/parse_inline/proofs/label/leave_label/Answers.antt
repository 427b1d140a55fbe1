use Rattle.std.proofs.Common.{◌≡◌, ◌+◌, sym, subst, ◌∙◌, arith}
use Rattle.parse_inline.proofs.Prelude.{AreBytesAt, codes_of, StandsInContent, text_before}
use Rattle.parse_inline.specs.Rows.{WritesBehind}
use Rattle.parse_inline.proofs.Behind.{bracket_first}
use Rattle.parse_inline.proofs.Calls.{exited_whole, exiting, on_ok_both}
use Rattle.parse_inline.proofs.label.leave_label.Goals as goal

pub returns-clause-written : goal.returns-clause-written
returns-clause-written g c =
    on_ok_both c.exit.result
    (λ stays written. λ context target text content inside from to stop on names ends st.
    let old = c.args.walk.now in
    let ended = c.label_end.new.walk in
    let last = c.push_behind.new.walk in
    let new = c.exit.new.self in
    let own = text_before (codes_of inside) (codes_of from) in
    let it = bracket_first context target inside from to content ends st.codes in
    let label = c.in_ok-label_end.ensures.written text it.behind stop (subst (λ bs. StandsInContent text bs stop old) it.bracket st.stands) st.whole in
    let place : c.place.result ≡ old.place + 1 =
    omega (arith, c.place.ensures, label.ends.place, label.marks.writes.place, label.leaves.place) in
    let rest : c.rest-rest.result.now ≡ it.behind =
    c.rest-rest.ensures.after old.place 93 it.behind place (sym it.bracket ∙ st.ahead) (omega arith) in
    let pushed =
    c.in_ok-push_behind.ensures.written context target text own it.place to stop on names it.tail
    (subst (λ bs. AreBytesAt bs it.place) (sym rest) it.bytes) (subst (λ bs. StandsInContent text bs stop ended) (sym rest) label.leaves.stands) label.whole in
    let tail : WritesBehind context text target own it.behind to stop ended last =
    subst (λ bs. WritesBehind context text target own bs to stop ended last) rest pushed in
    let leaves = exiting text stop last new c.args.name tail.after (stays, written) tail.writes.stands in
    record {
      ended = ended;
      last = last;
      behind = it.behind;
      bracket = it.bracket;
      label = label;
      tail = tail;
      leaves = leaves;
      whole = exited_whole text stop last new c.args.name tail.after leaves tail.whole;
    })
    c.exit.ensures.stays c.exit.ensures.written
