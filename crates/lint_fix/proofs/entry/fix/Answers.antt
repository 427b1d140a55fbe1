use Rattle.std.proofs.Common.{subst}
use Rattle.std.specs.Prelude.{IfSome, string_bytes}
use Rattle.format_pages.specs.Known.{IsKept}
use Rattle.format_pages.proofs.Whole.{same_page, same_text}
use Rattle.lint_fix.proofs.entry.fix.Goals as goal

pub returns-then-is_empty-clause-page : goal.returns-then-is_empty-clause-page
returns-then-is_empty-clause-page g c = same_page _ _ _ c.in_ok-from_str.ensures.ok

pub returns-then-is_empty-clause-document : goal.returns-then-is_empty-clause-document
returns-then-is_empty-clause-document g c = same_text _ _ _ c.in_ok-from_str.ensures.ok

pub returns-in-Some-clause-page : goal.returns-in-Some-clause-page
returns-in-Some-clause-page g c =
    let kept = subst (λ o. IfSome o (λ it. IsKept c.in_ok-known.known (string_bytes it) c.args.options.now)) c.in-Some.is c.in_ok-fixed.ensures in
    (kept c.args.value.now c.in_ok-known.ensures.known).page

pub returns-in-Some-clause-document : goal.returns-in-Some-clause-document
returns-in-Some-clause-document g c =
    let kept = subst (λ o. IfSome o (λ it. IsKept c.in_ok-known.known (string_bytes it) c.args.options.now)) c.in-Some.is c.in_ok-fixed.ensures in
    (kept c.args.value.now c.in_ok-known.ensures.known).document

pub returns-clause-page : goal.returns-clause-page
returns-clause-page g c = same_page _ _ _ c.in_ok-from_str-in_default.ensures.ok

pub returns-clause-document : goal.returns-clause-document
returns-clause-document g c = same_text _ _ _ c.in_ok-from_str-in_default.ensures.ok
