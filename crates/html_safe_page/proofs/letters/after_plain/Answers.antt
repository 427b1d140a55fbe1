use Rattle.std.proofs.Common.{◌≤◌, ◌∙◌, ap, refl, sym, subst, drop, length}
use Rattle.std.proofs.lemmas.List.Sums.{prefix_len-le-length}
use Rattle.text_search.specs.Sets.{holds}
use Rattle.text_search.proofs.Sets.{first_by}
use Rattle.html_safe_page.specs.declared.letters.TheConstants.{MARKS}
use Rattle.html_safe_page.specs.Machine.{is_mark}
use Rattle.html_safe_page.proofs.Passed.{plain_place}
use Rattle.html_safe_page.proofs.letters.after_plain.Goals as goal

pub split_at-requires : goal.split_at-requires
split_at-requires c = subst (λ n. n ≤ length c.args.bytes.now) (sym c.next_of.ensures) (prefix_len-le-length _ c.args.bytes.now)

pub returns : goal.returns
returns c =
    let bytes = c.args.bytes.now in
    c.split_at.ensures.back
    ∙ ap (λ n. drop n bytes) (c.next_of.ensures ∙ first_by (holds MARKS) is_mark bytes refl c.type_inv.bytes)
    ∙ plain_place bytes
