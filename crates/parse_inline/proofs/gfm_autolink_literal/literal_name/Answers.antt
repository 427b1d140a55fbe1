use Rattle.std.proofs.Common.{◌≡◌, false, true, sym, subst, ◌∙◌, rules}
use borrow.Author.Tests.{tests}
use Rattle.std.proofs.lemmas.Bool.{true≢false}
use Rattle.inline_leaves.specs.Leaves.{kind_view}
use Rattle.parse_written.specs.Written.{is_literal}
use Rattle.parse_inline.proofs.LiteralNames.{email_may, is_either, is_one, m_is, mailto_may, protocol_may, www_may, x_is, xmpp_may}
use Rattle.parse_inline.proofs.gfm_autolink_literal.literal_name.Goals as goal

pub returns-in-Www-clause-may : goal.returns-in-Www-clause-may
returns-in-Www-clause-may c is utf8 = www_may c.args.bytes.now utf8 (subst (λ k. is_literal (kind_view k) c.args.bytes.now ≡ true) c.in-Www.is is)

pub returns-in-Email-clause-may : goal.returns-in-Email-clause-may
returns-in-Email-clause-may c is utf8 = email_may c.args.bytes.now utf8 (subst (λ k. is_literal (kind_view k) c.args.bytes.now ≡ true) c.in-Email.is is)

pub returns-in-109-clause-may : goal.returns-in-109-clause-may
returns-in-109-clause-may c is utf8 =
    mailto_may c.args.bytes.now utf8 (subst (is_either 77 109) c.first.ensures c.in-109.is)
    (subst (λ k. is_literal (kind_view k) c.args.bytes.now ≡ true) c.in-Protocol.is is)

pub returns-in-120-clause-may : goal.returns-in-120-clause-may
returns-in-120-clause-may c is utf8 =
    xmpp_may c.args.bytes.now utf8 (subst (is_either 88 120) c.first.ensures c.in-120.is)
    (subst (λ k. is_literal (kind_view k) c.args.bytes.now ≡ true) c.in-Protocol.is is)

pub returns-in_default-clause-may : goal.returns-in_default-clause-may
returns-in_default-clause-may c is utf8 =
    let no_mail : is_one 77 109 c.first.result ≡ false = search (rules, tests) in
    let no_chat : is_one 88 120 c.first.result ≡ false = search (rules, tests) in
    protocol_may c.args.bytes.now utf8 (λ m. true≢false (sym (m_is c.first.result (c.first.ensures ∙ m)) ∙ no_mail))
    (λ x. true≢false (sym (x_is c.first.result (c.first.ensures ∙ x)) ∙ no_chat))
    (subst (λ k. is_literal (kind_view k) c.args.bytes.now ≡ true) c.in-Protocol.is is)
