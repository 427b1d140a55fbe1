use Rattle.std.proofs.Common.{rules}
use Rattle.html_sanitizer.specs.Page.{page_state}
use Rattle.html_sanitizer.proofs.Plain.{plain_text, plain_tag, plain_less, front_less}
use Rattle.html_sanitizer.proofs.listed.pass_plain.Goals as goal

pub loop-rest-init : goal.loop-rest-init
loop-rest-init g c = (search rules, plain_text (page_state c.args.page.now) c.args.text.now c.split_text.result.1.now c.split_text.ensures.after)

pub loop-rest-smaller : goal.loop-rest-smaller
loop-rest-smaller g c =
    plain_less (page_state c.args.page.now) (page_state c.loop-rest.page) (page_state c.pass_own.new.page) c.args.text.now c.loop-rest.rest.now
    c.in-Some.inside.now c.in-Some.after.now c.split_text-in-loop-rest.result.1.now c.loop-rest.invariant.1 c.in-Some.ensures c.in_ok-pass_own.ensures
    c.split_text-in-loop-rest.ensures.after

pub loop-rest-preserved : goal.loop-rest-preserved
loop-rest-preserved g c = (
  search rules,
  plain_tag (page_state c.args.page.now) (page_state c.loop-rest.page) (page_state c.pass_own.new.page) c.args.text.now c.loop-rest.rest.now
      c.in-Some.inside.now c.in-Some.after.now c.split_text-in-loop-rest.result.1.now c.loop-rest.invariant.1 c.in-Some.ensures c.in_ok-pass_own.ensures
      c.split_text-in-loop-rest.ensures.after,
)

pub returns-in_default-clause-shorter : goal.returns-in_default-clause-shorter
returns-in_default-clause-shorter g c =
    let so = c.loop-rest.invariant.1 in
    front_less c.args.text.now so.run c.loop-rest.rest.now so.whole

pub returns-clause-shorter : goal.returns-clause-shorter
returns-clause-shorter g c =
    let so = c.loop-rest.invariant.1 in
    front_less c.args.text.now so.run c.loop-rest.rest.now so.whole
