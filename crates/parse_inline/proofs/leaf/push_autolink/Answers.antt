use Rattle.std.proofs.Common.{◌∙◌}
use Rattle.parse_inline.proofs.Prelude.{both_ok}
use Rattle.parse_inline.proofs.Autolinks.{autolink_front}
use Rattle.parse_inline.proofs.leaf.push_autolink.Goals as goal

pub returns-clause-written : goal.returns-clause-written
returns-clause-written g c =
    both_ok c.exit.result
    (λ exits stays on names text address content stop is some dark target utf8 st whole.
    let same = stays ∙ c.in_ok-text-3.ensures.stays ∙ c.in_ok-text-2.ensures.stays ∙ c.in_ok-text.ensures.stays ∙ c.in_ok-enter.ensures.stays in
    autolink_front names text stop on c.args.email c.address_name.result _ _ _ _ _ _ address content c.args.size c.address_name.ensures.is is some dark target
    utf8 st whole same
    (c.in_ok-enter.ensures.written text) (c.in_ok-text.ensures.written text) (c.in_ok-text-2.ensures.written text) (c.in_ok-text-3.ensures.written text)
    (exits text))
    c.exit.ensures.written c.exit.ensures.stays
